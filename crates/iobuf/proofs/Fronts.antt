-- The first elements of a part and of a run, and those behind them.
use Rattle.std.proofs.Common.{◌≡◌, ℕ, ◌+◌, ◌-◌, min, List, take, drop, replicate, arith}
use Rattle.std.proofs.lemmas.Grind.{common_steps}
use Rattle.std.proofs.lemmas.List.{drop_all, drop-replicate, take_all, take-replicate}
use Rattle.lists.specs.Parts.{part}
use Rattle.lists.proofs.Parts.{drop_part}

-- a part without its first n, or without all where they are fewer
pub part_rest : (p len n a k : ℕ) (m : List ℕ) → a ≡ p + min n len → k ≡ len - n → drop n (part p len m) ≡ part a k m
part_rest p len n a k m e f = grind (arith, common_steps, drop_part)

-- the first n of a run, or all where they are fewer
pub run_first : (b n k i : ℕ) → i ≡ min n k → take n (replicate k b) ≡ replicate i b
run_first b n k i e = grind (arith, common_steps, take-replicate)

pub ruleset run_rest = (drop-replicate)
