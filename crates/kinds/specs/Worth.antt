-- What a rising chunk is worth.
use Rattle.std.specs.Prelude.{ℕ, List}
use Rattle.store.specs.declared.space.Store.{Store}
use Rattle.iobuf.specs.Values.{Value, flat}
use Rattle.kinds.specs.Pattern.{rising}
use Rattle.kinds.specs.declared.rising.Rising.{Rising}

-- its bytes, from its start and its count
abbrev pub rising_bytes : Rising → List ℕ
rising_bytes x = rising x.start x.count

-- it is worth them in whatever store
abbrev pub rising_value : Store → Rising → Value
rising_value s x = flat (rising_bytes x)
