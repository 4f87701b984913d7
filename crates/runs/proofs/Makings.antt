-- The containers that the laws speak of: those that are made fit, and that every call leaves so.
use Rattle.std.proofs.Common.{ℕ, List, [], filter, refl}
use Rattle.iobuf.specs.Values.{Value}
use Rattle.rules.specs.Chunks.{joined, kept}
use Rattle.rules.specs.Laws.{Tailless}
use Rattle.rules.specs.Splitting.{fronts}
use Rattle.rules.proofs.Taking.{Plain, plain, all_kept_by, joined_kept}
use Rattle.rules.proofs.Plain.{kept_plain, tailless_plain, tailless_kept, plain_fronts}
use Rattle.runs.specs.Calls.{Call, run}
use Rattle.runs.specs.Laws.{Fit}
use Rattle.runs.proofs.Laws.{after_calls}

pub fit_empty : Fit [] []
fit_empty = record { kept = tt; flat = tt; bytes = refl }

-- made with chunks without tails, of which it holds those that are kept
pub fit_filled : (given : List Value) → Tailless given → Fit (joined given) (filter kept given)
fit_filled given t = record { kept = all_kept_by given; flat = tailless_kept given t; bytes = joined_kept given }

fit_plain : (vs : List Value) → Plain vs → Fit (joined vs) vs
fit_plain vs p = record { kept = kept_plain vs p; flat = tailless_plain vs p; bytes = refl }

-- after any calls it is fit again
pub fit_run : (limit : ℕ) (calls : List Call) (bs : List ℕ) (vs : List Value) → Fit bs vs → Fit (joined (run limit calls vs)) (run limit calls vs)
fit_run limit calls bs vs fit = fit_plain (run limit calls vs) (after_calls limit bs vs fit calls).plain

-- and so is what a split puts into its target
pub fit_share : (n : ℕ) (bs : List ℕ) (vs : List Value) → Fit bs vs → Fit (joined (fronts n vs)) (fronts n vs)
fit_share n bs vs fit = fit_plain (fronts n vs) (plain_fronts n vs (plain vs fit.kept fit.flat))
