-- The names of calls, told apart by their length and their bytes.
use Rattle.std.proofs.Common.{◌≡◌, ℕ, Bool, true, false, List, length, codes, Err, refl, rules}
use Rattle.std.specs.Str.{bytes_eq}
use Rattle.std.proofs.lemmas.Slice.Eq.{HasBytesAt, bytes_eq-Decides}
use Rattle.container_text.specs.Lines.{named}
use Rattle.text.specs.declared.unreadable.Unreadable.TheVariants.{UnknownCall}

-- a name has not both the length and the bytes of a word
abbrev Unlike : List ℕ → List ℕ → Type 0
Unlike name word = length name ≡ length word → HasBytesAt name 0 word → ⊥

unlike : (name word : List ℕ) → HasBytesAt word 0 word → Unlike name word → bytes_eq name word ≡ false
unlike name word own differs = by (bytes_eq name word) (bytes_eq-Decides name word).0
  where
    by : (t : Bool) → (t ≡ true → name ≡ word) → t ≡ false
    by true same = absurd (differs (rw (same refl)) (rw (same refl) own))
    by false same = refl

-- what is like none of the names is no call
pub unknown : (name rest : List ℕ) → Unlike name (codes "append") → Unlike name (codes "prepend") → Unlike name (codes "advance") → Unlike name (codes "split_to") → Unlike name (codes "copy_to_bytes") → Err UnknownCall ≡ named name rest
unknown name rest append prepend advance split_to copy_to_bytes =
    let off = unlike name in
    rw (off (codes "append") (search rules) append, off (codes "prepend") (search rules) prepend, off (codes "advance") (search rules) advance, off (codes "split_to") (search rules) split_to, off (codes "copy_to_bytes") (search rules) copy_to_bytes)
