-- The sizes on which every layer rests.
use Rattle.std.specs.Prelude.{ℕ}

-- how many bytes a store has, and a chunk at most
abbrev pub store_size : ℕ
store_size = 16384

-- how many chunks a container keeps at most
abbrev pub chunk_limit : ℕ
chunk_limit = 64
