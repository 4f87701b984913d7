-- The value of each kind of chunk.
use Rattle.std.specs.Prelude.{ℕ, ◌+◌, ◌-◌, List, replicate}
use Rattle.lists.specs.Parts.{part}
use Rattle.iobuf.specs.Values.{Value, Tail, flat}
use Rattle.iobuf.specs.declared.buf.IoBuf.{IoBuf}
use Rattle.iobuf.specs.declared.buf.IoBufMut.{IoBufMut}
use Rattle.iobuf.specs.declared.run.Run.{Run}
use Rattle.store.specs.declared.space.Store.{Store}

-- the bytes of a run: its byte, as often as it counts
abbrev pub run_bytes : Run → List ℕ
run_bytes x = replicate x.count x.byte

-- a run is worth its bytes in whatever store
abbrev pub run_value : Store → Run → Value
run_value s x = flat (run_bytes x)

-- an IoBuf is what the store holds at its place
abbrev pub buf_value : Store → IoBuf → Value
buf_value s x = flat (part x.place x.len s.bytes)

-- an IoBufMut by its numbers: where it begins, how many of its bytes can be read, and how many it has
pub record Span : Type 0 where
  pub place : ℕ
  pub len : ℕ
  pub capacity : ℕ

abbrev pub span : IoBufMut → Span
span x = record { place = x.readable.place; len = x.readable.len; capacity = x.capacity }

-- where the writable bytes of a span begin
abbrev pub behind : Span → ℕ
behind p = p.place + p.len

-- how many they are
abbrev pub room : Span → ℕ
room p = p.capacity - p.len

abbrev pub span_tail : Span → Tail
span_tail p = record { at = behind p; count = room p }

-- a span is worth the bytes that can be read, and the room behind them
abbrev pub span_value : Store → Span → Value
span_value s p = record { bytes = part p.place p.len s.bytes; tail = span_tail p }

-- c bytes from `place` on, none of them readable yet
abbrev pub fresh : ℕ → ℕ → Span
fresh place c = record { place = place; len = 0; capacity = c }

-- with n bytes readable
abbrev pub sized : ℕ → Span → Span
sized n p = record { place = p.place; len = n; capacity = p.capacity }

-- with n more bytes readable
abbrev pub grown : ℕ → Span → Span
grown n p = sized (p.len + n) p
