-- One call more, behind a list of calls.
use Rattle.std.proofs.Common.{◌≡◌, ℕ, suc, List, [], ◌∷◌, ◌++◌, length, sym, refl, ap, ◌∙◌}
use Rattle.std.proofs.lemmas.List.{append_assoc, append-nil}
use Rattle.iobuf.specs.Values.{Value}
use Rattle.runs.specs.Calls.{Call, Answer, step, run, answers, handed, all_handed}

module _ (limit : ℕ) (c : Call) where
  pub run_more : (calls : List Call) (vs : List Value) → run limit (calls ++ c ∷ []) vs ≡ (step limit c (run limit calls vs)).1
  run_more [] vs = refl
  run_more (d ∷ ds) vs = run_more ds (step limit d vs).1

  pub answers_more : (calls : List Call) (vs : List Value) → answers limit (calls ++ c ∷ []) vs ≡ answers limit calls vs ++ (step limit c (run limit calls vs)).0 ∷ []
  answers_more [] vs = refl
  answers_more (d ∷ ds) vs = ap (λ rs. (step limit d vs).0 ∷ rs) (answers_more ds (step limit d vs).1)

pub handed_more : (rs : List Answer) (a : Answer) → all_handed (rs ++ a ∷ []) ≡ all_handed rs ++ handed a
handed_more [] a = append-nil (handed a)
handed_more (r ∷ rs) a = ap (λ bs. handed r ++ bs) (handed_more rs a) ∙ sym (append_assoc (handed r) (all_handed rs) (handed a))

-- each call is answered
pub answers_count : (limit : ℕ) (calls : List Call) (vs : List Value) → length (answers limit calls vs) ≡ length calls
answers_count limit [] vs = refl
answers_count limit (c ∷ cs) vs = ap suc (answers_count limit cs (step limit c vs).1)
