-- A list of calls on a container.
use Rattle.std.specs.Prelude.{◌≡◌, ℕ, ◌≤◌, Bool, List, [], ◌++◌, map, length, take, drop, Some, None, Ok, Err}
use Rattle.std.specs.Result.{is_ok}
use Rattle.lists.specs.Parts.{poured}
use Rattle.store.specs.declared.space.Store.{Store}
use Rattle.iobuf.specs.declared.chunk.Chunk.{Ghosts}
use Rattle.ring.specs.Model.{limit}
use Rattle.ring.specs.declared.Ring.{Ring}
use Rattle.rules.specs.Chunks.{joined}
use Rattle.taking.specs.Rings.{values}
use Rattle.runs.specs.Calls.{Call as Step, run, answers, all_handed}
use Rattle.runs.specs.Line.{begun, behind, line_after, passed_in}
use Rattle.container_calls.specs.Makings.{Made}
use Rattle.container_calls.specs.Performed.{Answer, step_of, told}
use Rattle.container_calls.specs.declared.call.Call.{Call}

-- the bytes that a copying left in its output
abbrev pub copied_bytes : Answer → List ℕ → List ℕ
copied_bytes (Ok None) out = []
copied_bytes (Ok (Some n)) out = take n out
copied_bytes (Err f) out = []

-- they are there
abbrev pub CopiedWithin : Answer → List ℕ → Type 0
CopiedWithin (Ok None) out = Unit {0}
CopiedWithin (Ok (Some n)) out = n ≤ length out
CopiedWithin (Err f) out = Unit {0}

-- a list of calls as steps, each with an empty target of that limit and with an output of so many places
abbrev pub steps_of : {K : Type 0} → Ghosts K → (its_limit places : ℕ) → Store → List (Call K) → List Step
steps_of k its_limit places s calls = map (step_of k its_limit 0 places s) calls

-- the calls were made one after another with the store m, as `steps` has them in each store: the container b answered as the rules say, and then is c; the answers stand in front of the list `noted`, and all the bytes that were handed out in front of the log, as far as that reaches
pub record Series {K : Type 0} (k : Ghosts K) (steps : Store → List Step) (m : Store) (b c : Ring K) (was noted : List Answer) (before log : List ℕ) : Type 0 where
  pub given : (s : Store) → noted ≡ map told (answers (limit b) (steps s) (values k s b)) ++ drop (length (steps s)) was
  pub chunks : (s : Store) → values k s c ≡ run (limit b) (steps s) (values k s b)
  pub out : log ≡ poured 0 (all_handed (answers (limit b) (steps m) (values k m b))) before
  pub limit : limit c ≡ limit b

-- which of the calls were accepted, by the answers that stand noted
abbrev pub accepted_of : List Step → List Answer → List Bool
accepted_of steps noted = map is_ok (take (length steps) noted)

-- and so, if the container was straight from its making, with the bytes bs: those left are the line behind its mark, and those in the log the bytes that the mark passed in the calls that hand out; the line is drawn by the answers that were really given
abbrev pub AlongTheLine : {K : Type 0} → Ghosts K → List Step → Store → Ring K → Ring K → List Answer → List ℕ → List ℕ → Type 0
AlongTheLine k steps m b c noted before log =
    (bs : List ℕ) → Made k m b bs
    → (joined (values k m c) ≡ behind (line_after steps (accepted_of steps noted) (begun bs)))
    × (log ≡ poured 0 (passed_in steps (accepted_of steps noted) (begun bs)) before)
