-- What putting chunks into a container answers and leaves.
use Rattle.std.specs.Prelude.{◌≡◌, false, List, [], ◌∷◌, length, filter, Result, MatchResult}
use Rattle.store.specs.Faults.{asks, no_slot, not_empty}
use Rattle.store.specs.declared.fault.Fault.{Fault}
use Rattle.iobuf.specs.declared.chunk.Chunk.{Ghosts}
use Rattle.ring.specs.Model.{items, limit}
use Rattle.ring.specs.declared.Ring.{Ring}
use Rattle.rules.specs.Putting.{put, slot_for}
use Rattle.taking.specs.Rings.{kept_of}

-- the ring b holds the list xs, and then is c
pub record Holds {K : Type 0} (xs : List K) (b c : Ring K) : Type 0 where
  pub chunks : items c ≡ xs
  pub limit : limit c ≡ limit b

-- the chunk x came to b, which then is c: it makes the list `more` if it is kept, and else nothing happens at all
pub record Placed {K : Type 0} (k : Ghosts K) (x : K) (more : List K) (b c : Ring K) : Type 0 where
  pub holds : Holds (put (kept_of k x) more (items b)) b c
  pub passed : kept_of k x ≡ false → c ≡ b

-- a call that puts the chunk x in answered r: it asks for a slot, if the chunk is kept; refused, b is the same
pub record PutIn {K : Type 0} (k : Ghosts K) (x : K) (more : List K) (r : Result (Unit {0}) Fault) (b c : Ring K) : Type 0 where
  pub answer : r ≡ asks (slot_for (kept_of k x) (length (items b)) (limit b))
  pub after : MatchResult r (λ _. Placed k x more b c) (λ _. c ≡ b)

-- `from_chunks` of the given chunks answered r: it asks whether b is empty, and for slots for those that are kept, which b then holds in their order; refused, b is the same
pub record Filled {K : Type 0} (k : Ghosts K) (given : List K) (r : Result (Unit {0}) Fault) (b c : Ring K) : Type 0 where
  pub answer : r ≡ asks (not_empty (length (items b)) ∷ no_slot (length (filter (kept_of k) given)) (limit b) ∷ [])
  pub after : MatchResult r (λ _. Holds (filter (kept_of k) given) b c) (λ _. c ≡ b)
