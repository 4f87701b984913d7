-- The laws of runs hold of every container straight from its making.
use Rattle.std.proofs.Common.{ℕ, List, [], map, sym, ap, ◌∙◌, subst}
use Rattle.store.specs.declared.space.Store.{Store}
use Rattle.iobuf.specs.Values.{Value}
use Rattle.iobuf.specs.declared.chunk.Chunk.{Ghosts}
use Rattle.ring.specs.Model.{limit}
use Rattle.ring.specs.declared.Ring.{Ring}
use Rattle.rules.specs.Chunks.{joined}
use Rattle.taking.specs.Rings.{values}
use Rattle.runs.specs.Calls.{run}
use Rattle.runs.specs.Laws.{Fit}
use Rattle.runs.proofs.Laws.{lawful}
use Rattle.runs.proofs.Makings.{fit_empty, fit_filled, fit_run, fit_share}
use Rattle.container_calls.specs.Makings.{Made, empty, from_chunks, as_target, LawOfRuns}
use Rattle.container_calls.proofs.Chunks.{Shared, values_kept, values_tailless}

module _ {K : Type 0} (k : Ghosts K) (shows : Shared k) (s : Store) where
  -- it meets the premise of the laws
  fit : (b : Ring K) (bs : List ℕ) → Made k s b bs → Fit bs (values k s b)
  fit _ _ (empty b e) = subst (Fit []) (sym (ap (map (k.value s)) e)) fit_empty
  fit _ _ (from_chunks given b e) =
      let vs = map (k.value s) given in
      subst (Fit (joined vs)) (sym (ap (map (k.value s)) e ∙ values_kept k shows s given)) (fit_filled vs (values_tailless k shows s given))
  fit _ _ (as_target b bs made most calls n t e) =
      let P : List Value → Type 0 = λ ws. Fit (joined ws) ws in
      subst P (sym e) (fit_share n (joined (run most calls (values k s b))) (run most calls (values k s b)) (fit_run most calls bs (values k s b) (fit b bs made)))

pub law_of_runs : {K : Type 0} (k : Ghosts K) → Shared k → LawOfRuns k
law_of_runs k shows s b bs made = lawful (limit b) bs (values k s b) (fit k shows s b bs made)
