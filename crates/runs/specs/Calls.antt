-- The calls that put bytes into a container of shared chunks or take them out, over the values of its chunks.
use Rattle.std.specs.Prelude.{ℕ, Bool, true, false, List, [], ◌∷◌, ◌++◌, map, length, take, Ok, Err, Result}
use Rattle.store.specs.Faults.{Case, not_enough_bytes, output_too_short, not_empty, no_slot, asks}
use Rattle.store.specs.declared.fault.Fault.{Fault}
use Rattle.store.specs.declared.fault.Layer.TheVariants.{Container}
use Rattle.iobuf.specs.Values.{Value, flat}
use Rattle.rules.specs.Chunks.{joined, remaining, kept}
use Rattle.rules.specs.Taking.{left_after, left_after_copy}
use Rattle.rules.specs.Putting.{slot_for, put}
use Rattle.rules.specs.Splitting.{fronts, rests}

-- a call: a chunk comes by its bytes, a target by its limit and how many chunks it holds, an output by its places
pub data Call : Type 0 where
  append : (bytes : List ℕ) → Call
  prepend : (bytes : List ℕ) → Call
  advance : (n : ℕ) → Call
  split_to : (n limit held : ℕ) → Call
  copy_to_bytes : (n places : ℕ) → Call

-- the answer to a call: accepted, with the chunks that were put into the target, or with the count and the bytes that were copied out; or refused
pub data Answer : Type 0 where
  accepted : Answer
  split : (chunks : List Value) → Answer
  copied : (count : ℕ) (bytes : List ℕ) → Answer
  refused : (fault : Fault) → Answer

-- what each call asks of a container with that limit and those chunks, in this order
abbrev pub questions : ℕ → Call → List Value → List Case
questions limit (append bs) vs = slot_for (kept (flat bs)) (length vs) limit
questions limit (prepend bs) vs = slot_for (kept (flat bs)) (length vs) limit
questions limit (advance n) vs = not_enough_bytes Container n (remaining vs) ∷ []
questions limit (split_to n its_limit held) vs = not_enough_bytes Container n (remaining vs) ∷ not_empty held ∷ no_slot (length (fronts n vs)) its_limit ∷ []
questions limit (copy_to_bytes n places) vs = not_enough_bytes Container n (remaining vs) ∷ output_too_short Container n places ∷ []

-- what it answers when they are all answered yes
abbrev pub result : Call → List Value → Answer
result (append bs) vs = accepted
result (prepend bs) vs = accepted
result (advance n) vs = accepted
result (split_to n its_limit held) vs = split (fronts n vs)
result (copy_to_bytes n places) vs = copied n (take n (joined vs))

-- and which chunks it then leaves
abbrev pub leaves : Call → List Value → List Value
leaves (append bs) vs = put (kept (flat bs)) (vs ++ flat bs ∷ []) vs
leaves (prepend bs) vs = put (kept (flat bs)) (flat bs ∷ vs) vs
leaves (advance n) vs = left_after n vs
leaves (split_to n its_limit held) vs = rests n vs
leaves (copy_to_bytes n places) vs = left_after_copy n vs

-- a call that is refused answers with the fault, and leaves the chunks as they were
abbrev pub decided : Result (Unit {0}) Fault → Call → List Value → Answer × List Value
decided (Ok u) c vs = (result c vs, leaves c vs)
decided (Err f) c vs = (refused f, vs)

-- one call: its answer, and the chunks then
abbrev pub step : ℕ → Call → List Value → Answer × List Value
step limit c vs = decided (asks (questions limit c vs)) c vs

-- the chunks after a list of calls
abbrev pub run : ℕ → List Call → List Value → List Value
run limit [] vs = vs
run limit (c ∷ cs) vs = run limit cs (step limit c vs).1

-- the answers to a list of calls
abbrev pub answers : ℕ → List Call → List Value → List Answer
answers limit [] vs = []
answers limit (c ∷ cs) vs = (step limit c vs).0 ∷ answers limit cs (step limit c vs).1

-- was the call accepted?
abbrev pub is_accepted : Answer → Bool
is_accepted accepted = true
is_accepted (split chunks) = true
is_accepted (copied count bs) = true
is_accepted (refused f) = false

-- which of the calls of a list are accepted
abbrev pub accepts : ℕ → List Call → List Value → List Bool
accepts limit calls vs = map is_accepted (answers limit calls vs)

-- the bytes that were handed out with an answer
abbrev pub handed : Answer → List ℕ
handed accepted = []
handed (split chunks) = joined chunks
handed (copied count bs) = bs
handed (refused f) = []

-- with all of them, one after another
abbrev pub all_handed : List Answer → List ℕ
all_handed [] = []
all_handed (a ∷ rs) = handed a ++ all_handed rs
