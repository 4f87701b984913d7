-- Why a line cannot be read.
use Rattle.std.specs.Prelude.{ℕ, List, codes}
use Rattle.text.specs.declared.unreadable.Unreadable.{Unreadable}
use Rattle.text.specs.declared.unreadable.Unreadable.TheVariants.{UnknownCall, NoByte, NoChunk, NoNumber, TooMuch, NoMemory}

-- what is told of a line that cannot be read
abbrev pub said : Unreadable → List ℕ
said UnknownCall = codes "not a call"
said NoByte = codes "a byte of two hexadecimal digits is missing"
said NoChunk = codes "a chunk as BYTExCOUNT is missing"
said NoNumber = codes "a decimal number below 2^64 is missing"
said TooMuch = codes "more words than the call takes"
said NoMemory = codes "no memory"
