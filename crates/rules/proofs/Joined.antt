-- The bytes of lists of chunks.
use Rattle.std.proofs.Common.{◌≡◌, List, [], ◌∷◌, ◌++◌, sym, refl, ap, ◌∙◌}
use Rattle.std.proofs.lemmas.List.{append_assoc}
use Rattle.iobuf.specs.Values.{Value}
use Rattle.rules.specs.Chunks.{joined}

pub joined_append : (us vs : List Value) → joined (us ++ vs) ≡ joined us ++ joined vs
joined_append [] vs = refl
joined_append (u ∷ us) vs = ap (λ bs. u.bytes ++ bs) (joined_append us vs) ∙ sym (append_assoc u.bytes (joined us) (joined vs))
