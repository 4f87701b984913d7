-- The words of a line.
use Rattle.std.specs.Prelude.{ℕ, zero, suc, Bool, not, cond, ◌||◌, List, [], ◌∷◌, Some, None, length, take, drop, Option, ◌==◌}
use Rattle.std.specs.List.{prefix_len}

-- the longest front of the bytes that pass a test
abbrev pub front : (ℕ → Bool) → List ℕ → List ℕ
front passes bytes = take (prefix_len passes bytes) bytes

-- what stands behind that front
abbrev pub behind : (ℕ → Bool) → List ℕ → List ℕ
behind passes bytes = drop (prefix_len passes bytes) bytes

-- a blank is a space, a tab or a carriage return
abbrev pub blank : ℕ → Bool
blank b = (b == 32 || b == 9) || b == 13

-- a byte of a word is any but a blank
abbrev pub solid : ℕ → Bool
solid b = not (blank b)

-- a byte of a line's text is any but the `#` that begins a remark
abbrev pub plain : ℕ → Bool
plain b = not (b == 35)

-- what stands before the first `#` of a line, or all of it
abbrev pub text_of : List ℕ → List ℕ
text_of line = front plain line

-- the first word: blanks are skipped, and it goes on to the next blank
abbrev pub first_word : List ℕ → List ℕ
first_word text = front solid (behind blank text)

-- what stands behind the first word
abbrev pub past_word : List ℕ → List ℕ
past_word text = behind solid (behind blank text)

-- no word is left in a text
abbrev pub ended : List ℕ → Bool
ended text = length (first_word text) == 0

-- the first k words of a text, or all if it has fewer
abbrev pub first_words : ℕ → List ℕ → List (List ℕ)
first_words zero text = []
first_words (suc k) text = cond (ended text) [] (first_word text ∷ first_words k (past_word text))

-- the words of a text; each takes a byte at least, so there are no more of them than bytes
abbrev pub words : List ℕ → List (List ℕ)
words text = first_words (length text) text

-- the first word of a line, and the text behind it: none without a word
abbrev pub name_of : List ℕ → Option (List ℕ × List ℕ)
name_of line = cond (ended (text_of line)) None (Some (first_word (text_of line), past_word (text_of line)))
