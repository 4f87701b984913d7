-- Why a call is refused, and what the refused caller is told.
use Rattle.std.specs.Prelude.{◌≡◌, ℕ, ◌<◌, min, Bool, cond, List, [], ◌∷◌, ◌++◌, Ok, Err, codes, decimal, Result, ◌==◌, nat_le, nat_lt}
use Rattle.store.specs.Sizes.{store_size}
use Rattle.store.specs.declared.fault.Fault.{Fault}
use Rattle.store.specs.declared.fault.Layer.{Layer}
use Rattle.store.specs.declared.fault.Layer.TheVariants.{Store, Chunk, Container}
use Rattle.store.specs.declared.fault.Refusal.{Refusal}
use Rattle.store.specs.declared.fault.Refusal.TheVariants.{NotEnoughBytes, OutputTooShort, NotEmpty, NoSlot, NoStoreRoom, NoWritableRoom, BeyondCapacity, LengthsDiffer, RunTooLong}

-- the cases of a refusal, each with the numbers that it speaks of; the first two happen at the layer that is called
pub data Case : Type 0 where
  not_enough_bytes : (called : Layer) (n remaining : ℕ) → Case
  output_too_short : (called : Layer) (n places : ℕ) → Case
  not_empty : (held : ℕ) → Case
  no_slot : (chunks limit : ℕ) → Case
  no_store_room : (bytes free : ℕ) → Case
  no_writable_room : (count room : ℕ) → Case
  beyond_capacity : (n capacity : ℕ) → Case
  lengths_differ : (given len : ℕ) → Case
  run_too_long : (count : ℕ) → Case

-- a refusal at a layer, with the count asked and the count available
abbrev pub told : Refusal → Layer → ℕ → ℕ → Fault
told q l n m = record { refusal = q; layer = l; asked = n; available = m }

-- what the caller is told in each case: which refusal, which layer, how many were asked for, how many there were
abbrev pub fault : Case → Fault
fault (not_enough_bytes called n remaining) = told NotEnoughBytes called n remaining
fault (output_too_short called n places) = told OutputTooShort called n places
fault (not_empty held) = told NotEmpty Container 0 held
fault (no_slot chunks limit) = told NoSlot Container chunks limit
fault (no_store_room bytes free) = told NoStoreRoom Store bytes free
fault (no_writable_room count room) = told NoWritableRoom Container count room
fault (beyond_capacity n capacity) = told BeyondCapacity Container n capacity
fault (lengths_differ given len) = told LengthsDiffer Container given len
fault (run_too_long count) = told RunTooLong Chunk count store_size

-- the question that leads to each refusal: is the answer yes?
abbrev pub passes : Case → Bool
passes (not_enough_bytes called n remaining) = nat_le n remaining
passes (output_too_short called n places) = nat_le n places
passes (not_empty held) = held == 0
passes (no_slot chunks limit) = nat_le chunks limit
passes (no_store_room bytes free) = nat_le bytes free
passes (no_writable_room count room) = nat_le count room
passes (beyond_capacity n capacity) = nat_le n capacity
passes (lengths_differ given len) = given == len
passes (run_too_long count) = nat_le count store_size

-- a call asks its questions in their order, and the first no refuses it
abbrev pub asks : List Case → Result (Unit {0}) Fault
asks [] = Ok tt
asks (c ∷ cs) = cond (passes c) (asks cs) (Err (fault c))

-- a call that asks for n of m is refused in the case c: because there are fewer, and with that case's fault
pub record Short (n m : ℕ) (c : Case) (f : Fault) : Type 0 where
  pub fewer : m < n
  pub which : f ≡ fault c

-- a call that asks for n of m bytes, and writes them to k places, is refused by the first of the two that falls short
pub record Unwritten (called : Layer) (n m k : ℕ) (f : Fault) : Type 0 where
  pub fewer : min m k < n
  pub which : f ≡ fault (cond (nat_lt m n) (not_enough_bytes called n m) (output_too_short called n k))

-- the number by which a refusal is known
abbrev pub number : Refusal → ℕ
number NotEnoughBytes = 1
number OutputTooShort = 2
number NotEmpty = 3
number NoSlot = 4
number NoStoreRoom = 5
number NoWritableRoom = 6
number BeyondCapacity = 7
number LengthsDiffer = 8
number RunTooLong = 9

-- the number of a layer, counted from the bottom
abbrev pub level : Layer → ℕ
level Store = 1
level Chunk = 2
level Container = 3

-- a refusal in plain words
abbrev pub refusal_words : Refusal → List ℕ
refusal_words NotEnoughBytes = codes "not enough bytes"
refusal_words OutputTooShort = codes "output too short"
refusal_words NotEmpty = codes "container to be filled not empty"
refusal_words NoSlot = codes "no slot"
refusal_words NoStoreRoom = codes "no store room"
refusal_words NoWritableRoom = codes "no writable room"
refusal_words BeyondCapacity = codes "beyond the capacity"
refusal_words LengthsDiffer = codes "lengths differ"
refusal_words RunTooLong = codes "run too long"

-- a layer in plain words
abbrev pub layer_words : Layer → List ℕ
layer_words Store = codes "store"
layer_words Chunk = codes "chunk"
layer_words Container = codes "container"

-- a fault in plain words, with its four numbers
abbrev pub fault_words : Fault → List ℕ
fault_words f =
    codes "refused " ++ (decimal (number f.refusal) ++ (codes " (" ++ (refusal_words f.refusal ++ (codes "), layer "
    ++ (decimal (level f.layer) ++ (codes " (" ++ (layer_words f.layer ++ (codes "): asked "
    ++ (decimal f.asked ++ (codes ", available " ++ decimal f.available))))))))))
