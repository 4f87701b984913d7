-- The longest front that passes, counted by the library.
use Rattle.std.proofs.Common.{◌≡◌, ℕ, Bool, false, List, length, Bor, Iter, ◌∙◌}
use Rattle.std.specs.Fn.{CalledAt, Mut}
use Rattle.std.specs.Iterator.{Drains}
use Rattle.std.specs.Iterator.Adapters.{take_while_source, take_while_done, take_while_callee, take_while_steps}
use Rattle.std.specs.List.{prefix_len}
use Rattle.std.specs.Slice.Iter.{iter_rest}
use Rattle.std.specs.declared.iter.TakeWhile.{TakeWhile}
use Rattle.std.proofs.iter.Yields.{fronts}
use Rattle.std.proofs.lemmas.Iterator.{YieldsList-from_slice}
use Rattle.std.proofs.lemmas.Iterator.Consumers.{YieldsList-at, count_from_yields_List}
use Rattle.std.proofs.lemmas.Iterator.Search.{YieldsList-from_take_while}
use Rattle.std.proofs.lemmas.List.Folds.{length-prefix_len}

-- what `take_while` and `count` give of a slice
pub front_len : {F : Type 0} {g : Mut F (Bor (Bor ℕ) × Unit {0}) Bool} {s : TakeWhile (Iter ℕ) F} {it : Iter ℕ} {f : F} {n : ℕ} (test : ℕ → Bool) (xs : List ℕ)
    → iter_rest it ≡ xs → take_while_source s ≡ it → take_while_callee s ≡ f → take_while_done s ≡ false
    → ((x : Bor ℕ) (b : Bool) (q : F) → CalledAt g f x b q → (q ≡ f) × (b ≡ test x.now))
    → ((ys : List (Bor ℕ)) × Drains (take_while_steps fronts g) s ys × (n ≡ length ys)) → n ≡ prefix_len test xs
front_len {g} {s} {n} test xs rest source callee done computes ran =
    count_from_yields_List s n ran (YieldsList-from_take_while g test (YieldsList-at source (YieldsList-from_slice xs rest)) callee done computes) ∙ length-prefix_len test xs
