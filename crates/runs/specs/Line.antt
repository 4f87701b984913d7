-- The line: all the bytes that were ever put in, in their order, with a mark between those taken and those left.
use Rattle.std.specs.Prelude.{ℕ, ◌+◌, ◌-◌, Bool, true, false, cond, List, [], ◌∷◌, ◌++◌, take, drop}
use Rattle.runs.specs.Calls.{Call, append, prepend, advance, split_to, copy_to_bytes}

pub record Line : Type 0 where
  pub bytes : List ℕ
  pub mark : ℕ

-- the line of a container that was made with those bytes
abbrev pub begun : List ℕ → Line
begun bs = record { bytes = bs; mark = 0 }

-- the bytes behind the mark
abbrev pub behind : Line → List ℕ
behind l = drop l.mark l.bytes

-- the mark n bytes on
abbrev pub moved : ℕ → Line → Line
moved n l = record { bytes = l.bytes; mark = l.mark + n }

-- an accepted append writes at the line's end, an accepted prepend at the mark, and an accepted taking moves the mark
abbrev pub drawn : Call → Line → Line
drawn (append bs) l = record { bytes = l.bytes ++ bs; mark = l.mark }
drawn (prepend bs) l = record { bytes = take l.mark l.bytes ++ (bs ++ behind l); mark = l.mark }
drawn (advance n) l = moved n l
drawn (split_to n its_limit held) l = moved n l
drawn (copy_to_bytes n places) l = moved n l

-- a refusal changes neither the bytes nor the mark
abbrev pub redrawn : Call → Bool → Line → Line
redrawn c ok l = cond ok (drawn c l) l

-- the line after calls, of which it learns only which were accepted
abbrev pub line_after : List Call → List Bool → Line → Line
line_after [] oks l = l
line_after (c ∷ cs) [] l = l
line_after (c ∷ cs) (ok ∷ oks) l = line_after cs oks (redrawn c ok l)

-- the bytes that the mark passes from one line to the next
abbrev pub passed : Line → Line → List ℕ
passed l k = take (k.mark - l.mark) (behind l)

-- the calls that hand out what they take
abbrev pub hands_out : Call → Bool
hands_out (append bs) = false
hands_out (prepend bs) = false
hands_out (advance n) = false
hands_out (split_to n its_limit held) = true
hands_out (copy_to_bytes n places) = true

-- the bytes that the mark passes in those of the calls that hand out, one after another
abbrev pub passed_in : List Call → List Bool → Line → List ℕ
passed_in [] oks l = []
passed_in (c ∷ cs) [] l = []
passed_in (c ∷ cs) (ok ∷ oks) l = cond (hands_out c) (passed l (redrawn c ok l)) [] ++ passed_in cs oks (redrawn c ok l)
