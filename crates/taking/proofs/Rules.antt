-- What the calls promise of a ring, as their rules on the values of its chunks.
use Rattle.std.proofs.Common.{◌≡◌, ℕ, length, sym, ap, ◌∙◌}
use Rattle.std.proofs.lemmas.List.{length-map}
use Rattle.store.specs.declared.space.Store.{Store}
use Rattle.iobuf.specs.declared.chunk.Chunk.{Ghosts}
use Rattle.ring.specs.Model.{items}
use Rattle.ring.specs.declared.Ring.{Ring}
use Rattle.rules.specs.Taking.{form_of, taken_in, left_after, copied_in, left_after_copy}
use Rattle.taking.specs.Rings.{values, first_has, Left}
use Rattle.taking.proofs.Sums.{first_is_front}

module _ {K : Type 0} (k : Ghosts K) (s : Store) (n : ℕ) (b c : Ring K) where
  -- as many values as chunks
  pub values_count : length (values k s b) ≡ length (items b)
  values_count = length-map (items b) (k.value s)

  pub advance_rule : Left k (taken_in (form_of (length (items b))) n) b c → values k s c ≡ left_after n (values k s b)
  advance_rule l = l.leaves s ∙ ap (λ i. taken_in (form_of i) n (values k s b)) (sym values_count)

  pub copy_rule : ((x : K) → length (k.value s x).bytes ≡ k.size x) → Left k (copied_in (first_has k n b) (form_of (length (items b))) n) b c → values k s c ≡ left_after_copy n (values k s b)
  copy_rule sized l =
      l.leaves s ∙ ap (λ i. copied_in (first_has k n b) (form_of i) n (values k s b)) (sym values_count)
      ∙ ap (λ w. copied_in w (form_of (length (values k s b))) n (values k s b)) (first_is_front (k.value s) k.size sized n (items b))
