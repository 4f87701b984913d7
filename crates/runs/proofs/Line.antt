-- Every list of calls keeps plain chunks on their line.
use Rattle.std.proofs.Common.{◌≡◌, ℕ, ◌+◌, ◌-◌, ◌≤◌, Bool, cond, List, [], ◌∷◌, ◌++◌, length, take, drop, Ok, sym, refl, ap, ◌∙◌, subst, arith}
use Rattle.std.proofs.lemmas.List.{append-nil, length-append, length-drop, length-take-le, drop-append-le, drop_at, drop-drop}
use Rattle.std.proofs.lemmas.Bool.{cond_both}
use Rattle.store.specs.Faults.{asks}
use Rattle.store.specs.declared.fault.Fault.{Fault}
use Rattle.iobuf.specs.Values.{Value, flat}
use Rattle.rules.specs.Chunks.{joined, remaining, kept}
use Rattle.rules.proofs.Joined.{joined_append}
use Rattle.rules.proofs.Taking.{Plain, plain, unkept_empty, plain_rests}
use Rattle.rules.proofs.Plain.{plain_append, bytes_rests}
use Rattle.runs.specs.Calls.{Call, append, prepend, advance, split_to, copy_to_bytes, Answer, refused, questions, result, leaves, step, run, answers, is_accepted, accepts, handed, all_handed}
use Rattle.runs.specs.Line.{Line, behind, moved, drawn, redrawn, line_after, passed, passed_in, hands_out}
use Rattle.runs.specs.Laws.{Way, by_advance, by_split, by_copy, taking}
use Rattle.runs.proofs.Steps.{either_way, within, took}

-- plain chunks with the bytes behind the mark
pub record OnLine (vs : List Value) (l : Line) : Type 0 where
  pub plain : Plain vs
  pub left : joined vs ≡ behind l
  pub inside : l.mark ≤ length l.bytes

-- a call that takes the line l to the line k, answers a and leaves the chunks ws: they are on k, and what the mark passed was handed out, if the call is one that hands out
pub record Held (out : Bool) (l k : Line) (a : Answer) (ws : List Value) : Type 0 where
  pub on : OnLine ws k
  pub hands : handed a ≡ cond out (passed l k) []

module _ (vs : List Value) (l : Line) (o : OnLine vs l) where
  appended : (bs : List ℕ) → OnLine (leaves (append bs) vs) (drawn (append bs) l)
  appended bs =
      let long : l.mark ≤ length (l.bytes ++ bs) = simp length-append (omega (arith, o.inside)) in
      let at : behind l ++ bs ≡ behind (drawn (append bs) l) = sym (drop-append-le l.mark l.bytes bs o.inside) in
      cond_both (kept (flat bs)) (vs ++ flat bs ∷ []) vs (λ ws. OnLine ws (drawn (append bs) l))
      (λ k. record {
        plain = plain_append vs (flat bs ∷ []) o.plain (plain (flat bs ∷ []) (k, tt) (refl, tt));
        left = joined_append vs (flat bs ∷ []) ∙ ap (λ ys. joined vs ++ ys) (append-nil bs) ∙ ap (λ ys. ys ++ bs) o.left ∙ at;
        inside = long;
      })
      (λ k. record {
        plain = o.plain;
        left = o.left ∙ sym (append-nil (behind l)) ∙ ap (λ ys. behind l ++ ys) (sym (unkept_empty (flat bs) k)) ∙ at;
        inside = long;
      })

  prepended : (bs : List ℕ) → OnLine (leaves (prepend bs) vs) (drawn (prepend bs) l)
  prepended bs =
      let front = take l.mark l.bytes in
      let f : length front ≡ l.mark = length-take-le l.mark l.bytes o.inside in
      let long : l.mark ≤ length (front ++ (bs ++ behind l)) = simp length-append (omega (arith, f)) in
      let at : bs ++ behind l ≡ behind (drawn (prepend bs) l) = sym (drop_at front (bs ++ behind l) l.mark f) in
      cond_both (kept (flat bs)) (flat bs ∷ vs) vs (λ ws. OnLine ws (drawn (prepend bs) l))
      (λ k. record {
        plain = plain_append (flat bs ∷ []) vs (plain (flat bs ∷ []) (k, tt) (refl, tt)) o.plain;
        left = ap (λ ys. bs ++ ys) o.left ∙ at;
        inside = long;
      })
      (λ k. record { plain = o.plain; left = o.left ∙ ap (λ ys. ys ++ behind l) (sym (unkept_empty (flat bs) k)) ∙ at; inside = long })

  -- an accepted call that takes n bytes moves the mark on by n
  taken : (limit : ℕ) (w : Way) (n : ℕ) → asks (questions limit (taking w n) vs) ≡ Ok tt → Held (hands_out (taking w 0)) l (moved n l) (result (taking w n) vs) (leaves (taking w n) vs)
  taken limit w n e =
      let t = took w n vs o.plain in
      let there : n ≤ remaining vs = within limit w n vs e in
      let reach : remaining vs ≡ length l.bytes - l.mark = ap length o.left ∙ length-drop l.mark l.bytes in
      let far : n ≡ l.mark + n - l.mark = omega arith in
      record {
        on = record {
          plain = subst Plain (sym t.rest) (plain_rests n vs o.plain);
          left = ap joined t.rest ∙ bytes_rests n vs o.plain ∙ ap (drop n) o.left ∙ drop-drop n l.mark l.bytes;
          inside = omega (arith, o.inside);
        };
        hands = t.bytes ∙ ap (λ ys. cond (hands_out (taking w 0)) (take n ys) []) o.left ∙ ap (λ i. cond (hands_out (taking w 0)) (take i (behind l)) []) far;
      }

  accepted_held : (limit : ℕ) (c : Call) → asks (questions limit c vs) ≡ Ok tt
      → Held (hands_out c) l (redrawn c (is_accepted (result c vs)) l) (result c vs) (leaves c vs)
  accepted_held limit (append bs) e = record { on = appended bs; hands = refl }
  accepted_held limit (prepend bs) e = record { on = prepended bs; hands = refl }
  accepted_held limit (advance n) e = taken limit by_advance n e
  accepted_held limit (split_to n its_limit held) e = taken limit (by_split its_limit held) n e
  accepted_held limit (copy_to_bytes n places) e = taken limit (by_copy places) n e

  refused_held : (c : Call) (f : Fault) → Held (hands_out c) l l (refused f) vs
  refused_held c f =
      let none : 0 ≡ l.mark - l.mark = omega arith in
      record { on = o; hands = cond_both (hands_out c) (passed l l) [] (λ bs. [] ≡ bs) (λ _. ap (λ i. take i (behind l)) none) (λ _. refl) }

  pub step_held : (limit : ℕ) (c : Call) → Held (hands_out c) l (redrawn c (is_accepted (step limit c vs).0) l) (step limit c vs).0 (step limit c vs).1
  step_held limit c =
      either_way (asks (questions limit c vs)) c vs (λ s. Held (hands_out c) l (redrawn c (is_accepted s.0) l) s.0 s.1) (accepted_held limit c) (refused_held c)

-- one call after another
pub run_on : (limit : ℕ) (calls : List Call) (vs : List Value) (l : Line) → OnLine vs l → OnLine (run limit calls vs) (line_after calls (accepts limit calls vs) l)
run_on limit [] vs l o = o
run_on limit (c ∷ cs) vs l o = run_on limit cs (step limit c vs).1 (redrawn c (is_accepted (step limit c vs).0) l) (step_held vs l o limit c).on

-- what all the calls handed out
pub run_hands : (limit : ℕ) (calls : List Call) (vs : List Value) (l : Line) → OnLine vs l → all_handed (answers limit calls vs) ≡ passed_in calls (accepts limit calls vs) l
run_hands limit [] vs l o = refl
run_hands limit (c ∷ cs) vs l o =
    let h = step_held vs l o limit c in
    let k = redrawn c (is_accepted (step limit c vs).0) l in
    let ws = (step limit c vs).1 in
    ap (λ bs. bs ++ all_handed (answers limit cs ws)) h.hands ∙ ap (λ bs. cond (hands_out c) (passed l k) [] ++ bs) (run_hands limit cs ws k h.on)
