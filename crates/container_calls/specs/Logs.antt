-- A log, to which bytes are written one after another.
use Rattle.std.specs.Prelude.{◌≡◌, ℕ, ◌+◌, min, List, length}
use Rattle.lists.specs.Parts.{poured}
use Rattle.container_calls.specs.declared.log.Log.{Log}

-- the bytes bs were written to the log l, as far as it reaches, and it then is k, over the same slice
pub record Logged (bs : List ℕ) (l k : Log) : Type 0 where
  pub slice : k.bytes.ghost_name ≡ l.bytes.ghost_name
  pub bytes : k.bytes.now ≡ poured l.len bs l.bytes.now
  pub len : k.len ≡ min (length l.bytes.now) (l.len + length bs)
