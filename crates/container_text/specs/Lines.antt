-- Calls as lines of text.
use Rattle.std.specs.Prelude.{◌≡◌, ℕ, cond, List, [], ◌∷◌, Ok, Err, vec_items, codes, Option, Result, ◌≢◌}
use Rattle.std.specs.Option.{ok_or}
use Rattle.std.specs.Str.{bytes_eq}
use Rattle.container_calls.specs.declared.call.Call.{Call}
use Rattle.container_calls.specs.declared.call.Call.TheVariants.{Append, Prepend, Advance, SplitTo, CopyToBytes}
use Rattle.container_text.specs.Chunks.{chunk_of}
use Rattle.text.specs.Arguments.{then, lone, last_number, read}
use Rattle.text.specs.Words.{first_word, past_word, words}
use Rattle.container_text.specs.declared.chunks.Spelled.{Spelled}
use Rattle.container_text.specs.declared.lines.Line.{Line}
use Rattle.container_text.specs.declared.lines.Line.TheVariants as line
use Rattle.text.specs.declared.unreadable.Unreadable.{Unreadable}
use Rattle.text.specs.declared.unreadable.Unreadable.TheVariants.{UnknownCall, NoChunk, NoMemory}

-- the chunk that is the only word of a text
abbrev pub last_chunk : List ℕ → Result Spelled Unreadable
last_chunk text = then (ok_or (chunk_of (first_word text)) NoChunk) (λ x. lone x (past_word text))

-- the chunks that words write, one each
abbrev pub chunks_of : List (List ℕ) → Result (List Spelled) Unreadable
chunks_of [] = Ok []
chunks_of (w ∷ ws) = then (ok_or (chunk_of w) NoChunk) (λ x. then (chunks_of ws) (λ xs. Ok (x ∷ xs)))

-- a call by its name, and by the text behind the name
abbrev pub named : List ℕ → List ℕ → Result (Call Spelled) Unreadable
named name text =
    cond (bytes_eq name (codes "append")) (then (last_chunk text) (λ x. Ok (Append x)))
    (cond (bytes_eq name (codes "prepend")) (then (last_chunk text) (λ x. Ok (Prepend x)))
    (cond (bytes_eq name (codes "advance")) (then (last_number text) (λ n. Ok (Advance n)))
    (cond (bytes_eq name (codes "split_to")) (then (last_number text) (λ n. Ok (SplitTo n)))
    (cond (bytes_eq name (codes "copy_to_bytes")) (then (last_number text) (λ n. Ok (CopyToBytes n)))
    (Err UnknownCall)))))

-- what a line says: chunks to fill the container with, or a call
pub data Spoken : Type 0 where
  from_chunks : List Spelled → Spoken
  call : Call Spelled → Spoken

-- what is said under a name, by the text behind it
abbrev pub spoken_as : List ℕ → List ℕ → Result Spoken Unreadable
spoken_as name text =
    cond (bytes_eq name (codes "from_chunks")) (then (chunks_of (words text)) (λ xs. Ok (from_chunks xs)))
    (then (named name text) (λ c. Ok (call c)))

-- what a line says: nothing without a word, else what its first word names
abbrev pub line_of : List ℕ → Result (Option Spoken) Unreadable
line_of line = read spoken_as line

-- a line as it is kept says that
abbrev pub spoken : Line → Spoken
spoken (line.FromChunks v) = from_chunks (vec_items v)
spoken (line.Call c) = call c

-- what was read is what there was to read, unless memory was wanting
abbrev pub Reads : {X Y : Type 0} → (X → Y) → Result X Unreadable → Result Y Unreadable → Type 0
Reads means (Ok x) all = Ok (means x) ≡ all
Reads means (Err e) all = (e ≢ NoMemory) → Err e ≡ all
