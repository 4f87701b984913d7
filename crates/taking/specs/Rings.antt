-- A ring of chunks as the values of its chunks in a store.
use Rattle.std.specs.Prelude.{◌≡◌, ℕ, ◌+◌, ◌≤◌, Bool, List, ◌++◌, map, length, take, drop, nat_lt, sum_by}
use Rattle.store.specs.declared.space.Store.{Store}
use Rattle.iobuf.specs.Values.{Value}
use Rattle.iobuf.specs.declared.chunk.Chunk.{Ghosts}
use Rattle.ring.specs.Model.{items, limit}
use Rattle.ring.specs.declared.Ring.{Ring}
use Rattle.rules.specs.Chunks.{joined}
use Rattle.rules.specs.Taking.{first_is, copied_in, form_of}

-- what the chunks of a ring are worth in a store
abbrev pub values : {K : Type 0} → Ghosts K → Store → Ring K → List Value
values k s r = map (k.value s) (items r)

-- how many bytes they have, in whatever store
abbrev pub bytes_in : {K : Type 0} → Ghosts K → Ring K → ℕ
bytes_in k r = sum_by k.size (items r)

-- is a chunk kept? Its numbers tell it, in whatever store
abbrev pub kept_of : {K : Type 0} → Ghosts K → K → Bool
kept_of k x = nat_lt 0 (k.size x + (k.tail x).count)

-- n bytes, more than 0, are just those of its first chunk
abbrev pub first_has : {K : Type 0} → Ghosts K → ℕ → Ring K → Bool
first_has k n r = first_is k.size n (items r)

-- a ring with the same limit, whose chunks are worth what `rule` makes of those of b, in every store
pub record Left {K : Type 0} (k : Ghosts K) (rule : List Value → List Value) (b c : Ring K) : Type 0 where
  pub leaves : (s : Store) → values k s c ≡ rule (values k s b)
  pub limit : limit c ≡ limit b

-- `copy_to_bytes` of n, with the store s, made c of the ring b and `is` of the output `was`
pub record Copied {K : Type 0} (k : Ghosts K) (n : ℕ) (s : Store) (b c : Ring K) (was is : List ℕ) : Type 0 where
  pub within : n ≤ bytes_in k b
  pub fits : n ≤ length was
  pub output : is ≡ take n (joined (values k s b)) ++ drop n was
  pub ring : Left k (copied_in (first_has k n b) (form_of (length (items b))) n) b c
