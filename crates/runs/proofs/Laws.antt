-- The laws of runs hold.
use Rattle.std.proofs.Common.{◌≡◌, ℕ, ◌+◌, Bool, true, false, cond, List, [], ◌++◌, take, drop, sym, refl, ap, ◌∙◌, subst, arith, take-add}
use Rattle.std.proofs.lemmas.List.{append-nil}
use Rattle.iobuf.specs.Values.{Value}
use Rattle.rules.specs.Chunks.{joined}
use Rattle.rules.specs.Splitting.{rests}
use Rattle.rules.proofs.Taking.{Plain, plain, plain_rests, rests_rests}
use Rattle.rules.proofs.Plain.{bytes_rests}
use Rattle.runs.specs.Calls.{Call, step, run, answers, handed}
use Rattle.runs.specs.Line.{begun, hands_out}
use Rattle.runs.specs.Laws.{line_of, taking, TakenAtOnce, Lawful, Fit}
use Rattle.runs.proofs.Steps.{took_accepted}
use Rattle.runs.proofs.Line.{OnLine, step_held, run_on, run_hands}

-- a fit container begins on its line
begins : (bs : List ℕ) (vs : List Value) → Fit bs vs → OnLine vs (begun bs)
begins bs vs fit = record { plain = plain vs fit.kept fit.flat; left = fit.bytes; inside = omega arith }

-- and is on it after any calls
pub after_calls : (limit : ℕ) (bs : List ℕ) (vs : List Value) → Fit bs vs → (calls : List Call) → OnLine (run limit calls vs) (line_of limit bs calls vs)
after_calls limit bs vs fit calls = run_on limit calls vs (begun bs) (begins bs vs fit)

-- handing out m bytes and then n, or m + n; or none
in_parts : (b : Bool) (m n : ℕ) (bs : List ℕ) → cond b (take m bs) [] ++ cond b (take n (drop m bs)) [] ≡ cond b (take (m + n) bs) []
in_parts true m n bs = sym (take-add m n bs)
in_parts false m n bs = refl

taken_at_once : (limit : ℕ) (vs : List Value) → Plain vs → TakenAtOnce limit vs
taken_at_once limit vs pl p q r m n hp hq hr =
    let mid = (step limit (taking p m) vs).1 in
    let a = took_accepted limit p m vs pl hp in
    let b = took_accepted limit q n mid (subst Plain (sym a.rest) (plain_rests m vs pl)) hq in
    let c = took_accepted limit r (m + n) vs pl hr in
    let left = b.rest ∙ ap (rests n) a.rest ∙ rests_rests m n vs ∙ sym c.rest in
    let then : joined mid ≡ drop m (joined vs) = ap joined a.rest ∙ bytes_rests m vs pl in (
      record { left = left; later = λ calls. ap (answers limit calls) left },
      λ x y.
          let h = hands_out (taking r 0) in
          let one : handed (step limit (taking p m) vs).0 ≡ cond h (take m (joined vs)) [] = a.bytes ∙ ap (λ t. cond t (take m (joined vs)) []) x in
          let two : handed (step limit (taking q n) mid).0 ≡ cond h (take n (drop m (joined vs))) [] = b.bytes ∙ ap (λ t. cond t (take n (joined mid)) []) y ∙ ap (λ ys. cond h (take n ys) []) then in
          ap (λ ys. ys ++ (handed (step limit (taking q n) mid).0 ++ [])) one
          ∙ ap (λ ys. cond h (take m (joined vs)) [] ++ ys) (append-nil _ ∙ two)
          ∙ in_parts h m n (joined vs) ∙ sym (append-nil _ ∙ c.bytes),
    )

pub lawful : (limit : ℕ) (bs : List ℕ) (vs : List Value) → Fit bs vs → Lawful limit bs vs
lawful limit bs vs fit = record {
  fit = fit;
  line = λ calls. let o = after_calls limit bs vs fit calls in
      record { left = o.left; inside = o.inside; out = run_hands limit calls vs (begun bs) (begins bs vs fit); hands = λ next. (step_held (run limit calls vs) (line_of limit bs calls vs) o limit next).hands };
  takings = λ calls. taken_at_once limit (run limit calls vs) (after_calls limit bs vs fit calls).plain;
}
