-- A line's name, and the words behind it.
use Rattle.std.specs.Prelude.{ℕ, cond, List, Some, None, Ok, Err, Option, Result}
use Rattle.std.specs.Option.{ok_or}
use Rattle.text.specs.Numbers.{decimal_of}
use Rattle.text.specs.Words.{text_of, first_word, past_word, ended}
use Rattle.text.specs.declared.unreadable.Unreadable.{Unreadable}
use Rattle.text.specs.declared.unreadable.Unreadable.TheVariants.{NoNumber, TooMuch}

-- goes on with what was read, or stops at the first error
abbrev pub then : {X Y : Type 0} → Result X Unreadable → (X → Result Y Unreadable) → Result Y Unreadable
then (Ok x) go = go x
then (Err e) go = Err e

-- what was read, if no word stands behind it
abbrev pub lone : {X : Type 0} → X → List ℕ → Result X Unreadable
lone x text = cond (ended text) (Ok x) (Err TooMuch)

-- the decimal number that is the only word of a text
abbrev pub last_number : List ℕ → Result ℕ Unreadable
last_number text = then (ok_or (decimal_of (first_word text)) NoNumber) (λ n. lone n (past_word text))

-- what a line says: nothing without a word, else what its first word names, by the text behind it
abbrev pub read : {X : Type 0} → (List ℕ → List ℕ → Result X Unreadable) → List ℕ → Result (Option X) Unreadable
read named line = cond (ended (text_of line)) (Ok None) (then (named (first_word (text_of line)) (past_word (text_of line))) (λ x. Ok (Some x)))
