-- Chunks that words write, read one by one.
use Rattle.std.proofs.Common.{List, ◌++◌, Ok, Result}
use Rattle.container_text.specs.declared.chunks.Spelled.{Spelled}
use Rattle.text.specs.Arguments.{then}
use Rattle.text.specs.declared.unreadable.Unreadable.{Unreadable}

-- the chunks xs, and behind them those that are still to be read
abbrev pub joined_to : List Spelled → Result (List Spelled) Unreadable → Result (List Spelled) Unreadable
joined_to xs r = then r (λ ys. Ok (xs ++ ys))
