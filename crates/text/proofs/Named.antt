-- The name of a line.
use Rattle.std.proofs.Common.{◌≡◌, ℕ, Bool, true, false, cond, List, Some, None, Ok, Result}
use Rattle.text.specs.Arguments.{then, read}
use Rattle.text.specs.Words.{text_of, first_word, past_word, ended, name_of}
use Rattle.text.specs.declared.unreadable.Unreadable.{Unreadable}

pub read_named : {X : Type 0} (go : List ℕ → List ℕ → Result X Unreadable) (line name rest : List ℕ) → name_of line ≡ Some (name, rest) → read go line ≡ then (go name rest) (λ x. Ok (Some x))
read_named {X} go line name rest = by (ended (text_of line)) (first_word (text_of line), past_word (text_of line))
  where
    by : (t : Bool) (p : List ℕ × List ℕ) → cond t None (Some p) ≡ Some (name, rest) → cond t (Ok None) (then (go p.0 p.1) (λ x. Ok (Some x))) ≡ then (go name rest) (λ x. Ok (Some x))
    by true p e = cc
    by false p e = cc
