-- How containers are made, and the laws of all of them.
use Rattle.std.specs.Prelude.{◌≡◌, ℕ, List, [], map, filter}
use Rattle.store.specs.declared.space.Store.{Store}
use Rattle.iobuf.specs.declared.chunk.Chunk.{Ghosts}
use Rattle.ring.specs.Model.{items, limit}
use Rattle.ring.specs.declared.Ring.{Ring}
use Rattle.rules.specs.Chunks.{joined}
use Rattle.rules.specs.Splitting.{fronts}
use Rattle.taking.specs.Rings.{kept_of, values}
use Rattle.runs.specs.Calls.{Call as Step, run}
use Rattle.runs.specs.Laws.{Lawful}

-- A container straight from its making, with the bytes that its line begins with in the store s: empty, as `new` makes it; filled by `from_chunks`; or filled as the target of `split_to`, by a container that was made so and has seen any calls since.
pub data Made {K : Type 0} (k : Ghosts K) (s : Store) : Ring K → List ℕ → Type 0 where
  empty : (b : Ring K) → items b ≡ [] → Made k s b []
  from_chunks : (given : List K) (b : Ring K) → items b ≡ filter (kept_of k) given → Made k s b (joined (map (k.value s) given))
  as_target : (b : Ring K) (bs : List ℕ) → Made k s b bs → (most : ℕ) (calls : List Step) (n : ℕ) (t : Ring K) → values k s t ≡ fronts n (run most calls (values k s b)) → Made k s t (joined (values k s t))

-- the laws of runs, of every container of a kind straight from its making, in every store
abbrev pub LawOfRuns : {K : Type 0} → Ghosts K → Type 0
LawOfRuns {K} k = (s : Store) (b : Ring K) (bs : List ℕ) → Made k s b bs → Lawful (limit b) bs (values k s b)
