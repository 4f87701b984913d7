-- Shared chunks by their values.
use Rattle.std.proofs.Common.{◌≡◌, List, [], ◌∷◌, map, length, filter, sym, refl, ap, ◌∙◌}
use Rattle.std.proofs.lemmas.Bool.{cond_both, cond-true, cond-false}
use Rattle.store.specs.declared.space.Store.{Store}
use Rattle.iobuf.specs.Values.{Value, Tail, no_tail, flat}
use Rattle.iobuf.specs.declared.chunk.Chunk.{Ghosts}
use Rattle.rules.specs.Chunks.{kept}
use Rattle.rules.specs.Laws.{Tailless}
use Rattle.taking.specs.Rings.{kept_of}
use Rattle.taking.proofs.Rounds.{kept_is}

-- what a shared kind shows of its chunks
pub record Shared {K : Type 0} (k : Ghosts K) : Type 0 where
  pub sized : (s : Store) (x : K) → length (k.value s x).bytes ≡ k.size x
  pub tailed : (s : Store) (x : K) → (k.value s x).tail ≡ k.tail x
  pub tailless : (x : K) → k.tail x ≡ no_tail

pub shared : {K : Type 0} (k : Ghosts K) → ((s : Store) (x : K) → length (k.value s x).bytes ≡ k.size x) → ((s : Store) (x : K) → (k.value s x).tail ≡ k.tail x) → ((x : K) → k.tail x ≡ no_tail) → Shared k
shared k sized tailed tailless = record { sized = sized; tailed = tailed; tailless = tailless }

module _ {K : Type 0} (k : Ghosts K) (shows : Shared k) (s : Store) where
  -- a chunk is worth its bytes alone
  pub flat_is : (x : K) → k.value s x ≡ flat (k.value s x).bytes
  flat_is x = let worth : Tail → Value = λ t. record { bytes = (k.value s x).bytes; tail = t } in ap worth (shows.tailed s x ∙ shows.tailless x)

  pub kept_value : (x : K) → kept (k.value s x) ≡ kept_of k x
  kept_value x = kept_is (k.value s x) (k.size x) (k.tail x) (kept_of k x) (shows.sized s x) (shows.tailed s x) refl

  pub kept_flat : (x : K) → kept_of k x ≡ kept (flat (k.value s x).bytes)
  kept_flat x = sym (kept_value x) ∙ ap kept (flat_is x)

  pub values_kept : (xs : List K) → map (k.value s) (filter (kept_of k) xs) ≡ filter kept (map (k.value s) xs)
  values_kept [] = refl
  values_kept (x ∷ xs) =
      cond_both (kept_of k x) (x ∷ filter (kept_of k) xs) (filter (kept_of k) xs) (λ ys. map (k.value s) ys ≡ filter kept (map (k.value s) (x ∷ xs)))
      (λ t. ap (λ vs. k.value s x ∷ vs) (values_kept xs) ∙ sym (cond-true (kept (k.value s x)) _ _ (kept_value x ∙ t)))
      (λ t. values_kept xs ∙ sym (cond-false (kept (k.value s x)) _ _ (kept_value x ∙ t)))

  pub values_tailless : (xs : List K) → Tailless (map (k.value s) xs)
  values_tailless [] = tt
  values_tailless (x ∷ xs) = (shows.tailed s x ∙ shows.tailless x, values_tailless xs)
