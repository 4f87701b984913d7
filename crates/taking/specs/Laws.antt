-- What the calls that take bytes keep, beyond their rules.
use Rattle.std.specs.Prelude.{◌≡◌, ℕ, ◌≤◌, List, length, take}
use Rattle.store.specs.declared.space.Store.{Store}
use Rattle.iobuf.specs.declared.chunk.Chunk.{Ghosts}
use Rattle.ring.specs.Model.{items}
use Rattle.ring.specs.declared.Ring.{Ring}
use Rattle.rules.specs.Chunks.{joined}
use Rattle.rules.specs.Documented.{Advances, Consumes}
use Rattle.rules.specs.Laws.{AllKept}
use Rattle.rules.specs.Taking.{form_of, taken_in, left_after, left_after_copy}
use Rattle.taking.specs.Rings.{values, bytes_in, Left, Copied}

-- what `advance` promises of a ring is its rule on the chunks' values, is what the documentation of reading says, and keeps kept chunks kept, in every store
pub record Advancing {K : Type 0} (k : Ghosts K) (n : ℕ) (b c : Ring K) (s : Store) : Type 0 where
  pub rule : values k s c ≡ left_after n (values k s b)
  pub documented : Advances n (joined (values k s b)) (joined (values k s c))
  pub kept : AllKept (values k s b) → AllKept (values k s c)

abbrev pub AdvanceLaw : {K : Type 0} → Ghosts K → Type 0
AdvanceLaw {K} k = (n : ℕ) (b c : Ring K) → n ≤ bytes_in k b → Left k (taken_in (form_of (length (items b))) n) b c → (s : Store) → Advancing k n b c s

-- the same of `copy_to_bytes`, with the bytes that it hands out
pub record Copying {K : Type 0} (k : Ghosts K) (n : ℕ) (b c : Ring K) (s : Store) (out : List ℕ) : Type 0 where
  pub rule : values k s c ≡ left_after_copy n (values k s b)
  pub documented : Consumes n (joined (values k s b)) (joined (values k s c)) (take n out)
  pub kept : AllKept (values k s b) → AllKept (values k s c)

abbrev pub CopyLaw : {K : Type 0} → Ghosts K → Type 0
CopyLaw {K} k = (n : ℕ) (s : Store) (b c : Ring K) (was out : List ℕ) → Copied k n s b c was out → Copying k n b c s out
