-- A list still lies in its slots when one of them is written.
use Rattle.std.proofs.Common.{◌≡◌, ℕ, ◌-◌, ◌≤◌, List, length, set, arith, length-set}
use Rattle.lists.proofs.Rings.{length_turned}
use Rattle.store.specs.Sizes.{chunk_limit}
use Rattle.ring.specs.Slots.{Lies}

pub kept : {T : Type 0} (s : List T) (h n k : ℕ) (x : T) → length s ≤ chunk_limit → h ≤ length s - 1 → n ≤ length s → Lies (set s k x) h n
kept s h n k x small head within =
    let long : length (set s k x) ≡ length s = length-set s k x in
    (omega arith, omega arith, omega arith, length_turned (set s k x) h n (omega arith) (omega arith))
