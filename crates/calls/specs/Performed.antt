-- What one call on a chunk answers and leaves, by the chunk's bytes.
use Rattle.std.specs.Prelude.{ℕ, cond, List, [], ◌++◌, length, take, drop, replicate, Ok, Err, Result, nat_le}
use Rattle.store.specs.Faults.{fault, not_enough_bytes, run_too_long}
use Rattle.store.specs.Sizes.{store_size}
use Rattle.store.specs.declared.fault.Fault.{Fault}
use Rattle.store.specs.declared.fault.Layer.TheVariants.{Chunk}
use Rattle.calls.specs.declared.call.Call.{Call}
use Rattle.calls.specs.declared.call.Call.TheVariants.{Run, Cut, Advance, WriteOut}

-- the first n bytes of bs as `answer` has it, where there are so many
abbrev pub taken : {A : Type 0} → ℕ → List ℕ → A → Result A Fault
taken n bs answer = cond (nat_le n (length bs)) (Ok answer) (Err (fault (not_enough_bytes Chunk n (length bs))))

-- what a call on a chunk with the bytes bs hands out, or why it is refused
abbrev pub handed : Call → List ℕ → Result (List ℕ) Fault
handed (Run byte count) bs = cond (nat_le count store_size) (Ok []) (Err (fault (run_too_long count)))
handed (Cut n) bs = taken n bs (take n bs)
handed (Advance n) bs = taken n bs []
handed (WriteOut n) bs = taken n bs (take n bs)

-- the bytes that it leaves in the chunk
abbrev pub left : Call → List ℕ → List ℕ
left (Run byte count) bs = cond (nat_le count store_size) (replicate count byte) bs
left (Cut n) bs = cond (nat_le n (length bs)) (drop n bs) bs
left (Advance n) bs = cond (nat_le n (length bs)) (drop n bs) bs
left (WriteOut n) bs = bs

-- how many bytes were handed out, or why the call was refused
abbrev pub counted : Result (List ℕ) Fault → Result ℕ Fault
counted (Ok bs) = Ok (length bs)
counted (Err f) = Err f

-- the output after the bytes handed out were written to its front
abbrev pub put : Result (List ℕ) Fault → List ℕ → List ℕ
put (Ok bs) out = bs ++ drop (length bs) out
put (Err f) out = out
