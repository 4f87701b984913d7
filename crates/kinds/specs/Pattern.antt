-- Bytes that count up.
use Rattle.std.specs.Prelude.{ℕ, zero, suc, ◌+◌, ◌%◌, List, [], ◌∷◌}

-- n bytes that count up by one from `start` on, modulo 256
abbrev pub rising : ℕ → ℕ → List ℕ
rising start zero = []
rising start (suc n) = start % 256 ∷ rising (start + 1) n
