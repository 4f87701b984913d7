-- Calls as lines of text.
use Rattle.std.specs.Prelude.{ℕ, cond, List, Ok, Err, codes, Option, Result}
use Rattle.std.specs.Option.{ok_or}
use Rattle.std.specs.Str.{bytes_eq}
use Rattle.calls.specs.declared.call.Call.{Call}
use Rattle.calls.specs.declared.call.Call.TheVariants.{Run, Cut, Advance, WriteOut}
use Rattle.text.specs.Arguments.{then, last_number, read}
use Rattle.text.specs.Numbers.{byte_of}
use Rattle.text.specs.Words.{first_word, past_word}
use Rattle.text.specs.declared.unreadable.Unreadable.{Unreadable}
use Rattle.text.specs.declared.unreadable.Unreadable.TheVariants.{UnknownCall, NoByte}

-- a run, by the hexadecimal byte and the decimal count that are the words of a text
abbrev pub run_of : List ℕ → Result Call Unreadable
run_of text = then (ok_or (byte_of (first_word text)) NoByte) (λ byte. then (last_number (past_word text)) (λ count. Ok (Run byte count)))

-- a call by its name, and by the text behind the name
abbrev pub named : List ℕ → List ℕ → Result Call Unreadable
named name text =
    cond (bytes_eq name (codes "run")) (run_of text)
    (cond (bytes_eq name (codes "cut")) (then (last_number text) (λ n. Ok (Cut n)))
    (cond (bytes_eq name (codes "advance")) (then (last_number text) (λ n. Ok (Advance n)))
    (cond (bytes_eq name (codes "write_out")) (then (last_number text) (λ n. Ok (WriteOut n)))
    (Err UnknownCall))))

-- the call that a line says: none without a word, else the one that its first word names
abbrev pub call_of : List ℕ → Result (Option Call) Unreadable
call_of line = read named line
