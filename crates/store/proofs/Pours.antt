-- What a stretch of the store takes.
use Rattle.std.proofs.Common.{◌≡◌, ℕ, ◌+◌, ◌<◌, ◌≤◌, min, List, ◌++◌, length, take, drop, arith}
use Rattle.std.proofs.lemmas.Grind.{common_steps}
use borrow.Rule.Slice.PartMut.{put_mid}
use Rattle.lists.specs.Parts.{part, laid}
use Rattle.lists.proofs.Parts.{length_part, laid_none, poured_mid}
use Rattle.store.specs.Sizes.{store_size}
use Rattle.store.specs.Stretches.{fitting}

-- outside of the store, nothing
pub laid_outside : (p n : ℕ) (s m : List ℕ) → store_size < p + n → m ≡ laid p (take (fitting p n) s) m
laid_outside p n s m h = grind (arith, common_steps, laid_none)

-- within it, as much as fits
pub laid_within : (p n k i : ℕ) (m mid s : List ℕ) → i ≡ n → k ≡ min (length s) (length (part p i m)) → mid ≡ take k s ++ drop k (part p i m) → p + n ≤ store_size → length m ≡ store_size
    → put_mid p i m mid ≡ laid p (take (fitting p n) s) m
laid_within p n k i m mid s same e f h l =
    let long : length (part p i m) ≡ i = length_part p i m (omega arith) in
    grind (arith, common_steps, poured_mid p i k m mid s)
