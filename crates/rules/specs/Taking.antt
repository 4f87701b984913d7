-- What taking the first bytes of a list of chunks answers and leaves.
use Rattle.std.specs.Prelude.{ℕ, ◌-◌, Bool, false, cond, List, [], ◌∷◌, length, drop, filter, ◌==◌, nat_lt}
use Rattle.iobuf.specs.Values.{Value, advanced}
use Rattle.rules.specs.declared.form.Form.{Form}
use Rattle.rules.specs.declared.form.Form.TheVariants.{One, Small, Many}
use Rattle.rules.specs.Chunks.{kept}

-- the form that a number of chunks gives
abbrev pub form_of : ℕ → Form
form_of count = cond (nat_lt count 2) One (cond (nat_lt count 4) Small Many)

-- chunk after chunk is advanced until n bytes are used up
abbrev pub each_advanced : ℕ → List Value → List Value
each_advanced n [] = []
each_advanced n (v ∷ vs) = advanced n v ∷ each_advanced (n - length v.bytes) vs

-- while bytes are to be taken, a front chunk that has no more than those goes, tail and all; one that has more is advanced
abbrev pub fronts_dropped : ℕ → List Value → List Value
fronts_dropped n [] = []
fronts_dropped n (v ∷ vs) = cond (n == 0) (v ∷ vs) (cond (nat_lt n (length v.bytes)) (advanced n v ∷ vs) (fronts_dropped (n - length v.bytes) vs))

-- what is left in each form when n bytes, more than 0, are taken; in the first two, chunks are advanced, then those no longer kept are dropped
abbrev pub left_in : Form → ℕ → List Value → List Value
left_in One n vs = filter kept (each_advanced n vs)
left_in Small n vs = filter kept (each_advanced n vs)
left_in Many n vs = fronts_dropped n vs

-- what taking n in that form leaves; nothing taken changes nothing
abbrev pub taken_in : Form → ℕ → List Value → List Value
taken_in f n vs = cond (n == 0) vs (left_in f n vs)

-- what `advance` of n leaves: by the form before the call
abbrev pub left_after : ℕ → List Value → List Value
left_after n vs = taken_in (form_of (length vs)) n vs

-- n, more than 0, is just the size of the first
abbrev pub first_is : {A : Type 0} → (A → ℕ) → ℕ → List A → Bool
first_is size n [] = false
first_is size n (x ∷ xs) = cond (n == 0) false (size x == n)

-- what copying n bytes out leaves in that form: the same as taking them, except that the front chunk may go whole, with its tail
abbrev pub copied_in : Bool → Form → ℕ → List Value → List Value
copied_in whole f n vs = cond whole (drop 1 vs) (taken_in f n vs)

-- n bytes, more than 0, are just those of the front chunk
abbrev pub front_has : ℕ → List Value → Bool
front_has n vs = first_is (λ v. length v.bytes) n vs

-- what `copy_to_bytes` of n leaves: the front chunk goes whole if it has just those bytes (in form many it goes so anyway)
abbrev pub left_after_copy : ℕ → List Value → List Value
left_after_copy n vs = copied_in (front_has n vs) (form_of (length vs)) n vs
