-- One call: what it asks, and what one that takes bytes leaves and hands out.
use Rattle.std.proofs.Common.{◌≡◌, ℕ, ◌≤◌, true, cond, leb, List, [], take, Ok, Err, Result, refl}
use Rattle.std.proofs.lemmas.Bool.{cond_both, leb-true, false≢true}
use Rattle.store.specs.Faults.{asks}
use Rattle.store.specs.declared.fault.Fault.{Fault}
use Rattle.iobuf.specs.Values.{Value}
use Rattle.rules.specs.Chunks.{joined, remaining}
use Rattle.rules.specs.Splitting.{rests}
use Rattle.rules.proofs.Taking.{Plain, left_plain, copy_plain}
use Rattle.rules.proofs.Plain.{bytes_fronts}
use Rattle.runs.specs.Calls.{Call, Answer, refused, questions, result, leaves, decided, step, is_accepted, handed}
use Rattle.runs.specs.Line.{hands_out}
use Rattle.runs.specs.Laws.{Way, by_advance, by_split, by_copy, taking, Accepted}

-- a call is accepted, all its questions answered yes, or it is refused
pub either_way : (r : Result (Unit {0}) Fault) (c : Call) (vs : List Value) (P : Answer × List Value → Type 0)
    → (r ≡ Ok tt → P (result c vs, leaves c vs)) → ((f : Fault) → P (refused f, vs)) → P (decided r c vs)
either_way (Ok u) c vs P all one = all refl
either_way (Err f) c vs P all one = one f

-- the answer to the question whether there are n, in a call that is not refused
not_short : (n m : ℕ) (r : Result (Unit {0}) Fault) (f : Fault) → cond (leb n m) r (Err f) ≡ Ok tt → n ≤ m
not_short n m r f is = leb-true n m (cond_both (leb n m) r (Err f) (λ q. q ≡ Ok tt → leb n m ≡ true) (λ e _. e) (λ _ z. cc) is)

-- an accepted call takes no more bytes than there are
pub within : (limit : ℕ) (w : Way) (n : ℕ) (vs : List Value) → asks (questions limit (taking w n) vs) ≡ Ok tt → n ≤ remaining vs
within limit by_advance n vs e = not_short n (remaining vs) _ _ e
within limit (by_split its_limit held) n vs e = not_short n (remaining vs) _ _ e
within limit (by_copy places) n vs e = not_short n (remaining vs) _ _ e

-- n bytes were taken of vs in that way: the answer was a, and ws are left
pub record Took (w : Way) (n : ℕ) (vs : List Value) (a : Answer) (ws : List Value) : Type 0 where
  pub rest : ws ≡ rests n vs
  pub bytes : handed a ≡ cond (hands_out (taking w 0)) (take n (joined vs)) []

-- all ways of taking leave the same of plain chunks
pub took : (w : Way) (n : ℕ) (vs : List Value) → Plain vs → Took w n vs (result (taking w n) vs) (leaves (taking w n) vs)
took by_advance n vs p = record { rest = left_plain n vs p; bytes = refl }
took (by_split limit held) n vs p = record { rest = refl; bytes = bytes_fronts n vs }
took (by_copy places) n vs p = record { rest = copy_plain n vs p; bytes = refl }

pub took_accepted : (limit : ℕ) (w : Way) (n : ℕ) (vs : List Value) → Plain vs → Accepted limit (taking w n) vs
    → Took w n vs (step limit (taking w n) vs).0 (step limit (taking w n) vs).1
took_accepted limit w n vs p =
    either_way (asks (questions limit (taking w n) vs)) (taking w n) vs (λ s. is_accepted s.0 ≡ true → Took w n vs s.0 s.1)
    (λ _ _. took w n vs p)
    (λ f z. absurd (false≢true z))
