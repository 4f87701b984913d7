-- What a container hands to another, and what a split answers.
use Rattle.std.specs.Prelude.{◌≡◌, ℕ, List, [], ◌∷◌, ◌++◌, length, Result, MatchResult}
use Rattle.store.specs.Faults.{asks, no_slot, not_empty, not_enough_bytes}
use Rattle.store.specs.declared.fault.Fault.{Fault}
use Rattle.store.specs.declared.fault.Layer.TheVariants.{Container}
use Rattle.store.specs.declared.space.Store.{Store}
use Rattle.iobuf.specs.Values.{Value}
use Rattle.iobuf.specs.declared.chunk.Chunk.{Ghosts}
use Rattle.ring.specs.Model.{items, limit}
use Rattle.ring.specs.declared.Ring.{Ring}
use Rattle.rules.specs.Splitting.{fronts, rests, share}
use Rattle.taking.specs.Rings.{Left, bytes_in, values}

-- of the chunks of b, those that `gives` says went behind those of t, which then is u, and those that `stays` says are left in c; in every store
pub record Handed {K : Type 0} (k : Ghosts K) (gives stays : List Value → List Value) (b c t u : Ring K) : Type 0 where
  pub target : (s : Store) → values k s u ≡ values k s t ++ gives (values k s b)
  pub target_limit : limit u ≡ limit t
  pub rest : Left k stays b c

-- `split_to` of n answered r: it asks for n bytes, for an empty target, and for slots for the share; refused, both are the same
pub record Split {K : Type 0} (k : Ghosts K) (n : ℕ) (r : Result (Unit {0}) Fault) (b c t u : Ring K) : Type 0 where
  pub answer : r ≡ asks (not_enough_bytes Container n (bytes_in k b) ∷ not_empty (length (items t)) ∷ no_slot (share k.size n (items b)) (limit t) ∷ [])
  pub after : MatchResult r (λ _. Handed k (fronts n) (rests n) b c t u) (λ _. (c ≡ b) × (u ≡ t))
