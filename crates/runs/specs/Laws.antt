-- The laws of runs: what holds after every list of calls on a container of chunks without tails.
use Rattle.std.specs.Prelude.{◌≡◌, ℕ, ◌+◌, ◌≤◌, true, cond, List, [], ◌∷◌, length}
use Rattle.iobuf.specs.Values.{Value}
use Rattle.rules.specs.Chunks.{joined}
use Rattle.rules.specs.Laws.{AllKept, Tailless}
use Rattle.runs.specs.Calls.{Call, advance, split_to, copy_to_bytes, step, run, answers, is_accepted, accepts, handed, all_handed}
use Rattle.runs.specs.Line.{Line, begun, behind, redrawn, line_after, passed, passed_in, hands_out}

-- the line after a list of calls on chunks vs, of a container that was made with the bytes bs
abbrev pub line_of : ℕ → List ℕ → List Call → List Value → Line
line_of limit bs calls vs = line_after calls (accepts limit calls vs) (begun bs)

-- After the calls, the bytes left are the line behind its mark, and those handed out are the bytes that the mark passed in the calls that hand out; and a further call hands out exactly what the mark passes in it, if it is one that hands out, and else nothing.
pub record OnTheLine (limit : ℕ) (bs : List ℕ) (vs : List Value) (calls : List Call) : Type 0 where
  pub left : joined (run limit calls vs) ≡ behind (line_of limit bs calls vs)
  pub inside : (line_of limit bs calls vs).mark ≤ length (line_of limit bs calls vs).bytes
  pub out : all_handed (answers limit calls vs) ≡ passed_in calls (accepts limit calls vs) (begun bs)
  pub hands : (next : Call)
      → handed (step limit next (run limit calls vs)).0
      ≡ cond (hands_out next) (passed (line_of limit bs calls vs) (redrawn next (is_accepted (step limit next (run limit calls vs)).0) (line_of limit bs calls vs))) []

-- the calls that take bytes: to a target of that limit that holds so many chunks, or to an output of so many places
pub data Way : Type 0 where
  by_advance : Way
  by_split : (limit held : ℕ) → Way
  by_copy : (places : ℕ) → Way

abbrev pub taking : Way → ℕ → Call
taking by_advance n = advance n
taking (by_split limit held) n = split_to n limit held
taking (by_copy places) n = copy_to_bytes n places

abbrev pub Accepted : ℕ → Call → List Value → Type 0
Accepted limit c vs = is_accepted (step limit c vs).0 ≡ true

-- do two ways hand out alike what they take?
abbrev pub Alike : Way → Way → Type 0
Alike p q = hands_out (taking p 0) ≡ hands_out (taking q 0)

-- Two lists of calls on the chunks vs cannot be told apart afterwards: the same chunks are left, and every list of later calls is answered alike.
pub record Agree (limit : ℕ) (vs : List Value) (two one : List Call) : Type 0 where
  pub left : run limit two vs ≡ run limit one vs
  pub later : (calls : List Call) → answers limit calls (run limit two vs) ≡ answers limit calls (run limit one vs)

-- m bytes and then n are taken, or m + n at once, each in whichever way, all accepted: then the two agree, and if the ways hand out alike, they handed out the same bytes (none, by advance)
abbrev pub TakenAtOnce : ℕ → List Value → Type 0
TakenAtOnce limit vs = (p q r : Way) (m n : ℕ)
    → Accepted limit (taking p m) vs → Accepted limit (taking q n) (step limit (taking p m) vs).1 → Accepted limit (taking r (m + n)) vs
    → Agree limit vs (taking p m ∷ taking q n ∷ []) (taking r (m + n) ∷ [])
    × (Alike p r → Alike q r → all_handed (answers limit (taking p m ∷ taking q n ∷ []) vs) ≡ all_handed (answers limit (taking r (m + n) ∷ []) vs))

-- A container is fit for the laws: its chunks are kept and have no tail, and their bytes are those that it was made with.
pub record Fit (bs : List ℕ) (vs : List Value) : Type 0 where
  pub kept : AllKept vs
  pub flat : Tailless vs
  pub bytes : joined vs ≡ bs

-- The laws of a container that was made with the bytes bs and holds the chunks vs: it is fit, after every list of calls it is on its line, and then its bytes can be taken in parts or at once.
pub record Lawful (limit : ℕ) (bs : List ℕ) (vs : List Value) : Type 0 where
  pub fit : Fit bs vs
  pub line : (calls : List Call) → OnTheLine limit bs vs calls
  pub takings : (calls : List Call) → TakenAtOnce limit (run limit calls vs)
