-- What was read, where memory may be wanting, handed on by `map`.
use Rattle.std.proofs.Common.{◌≡◌, IsOkAnd, MatchResult, Ok, Err, Result, ap}
use Rattle.container_text.specs.Lines.{Reads}
use Rattle.text.specs.Arguments.{then}
use Rattle.text.specs.declared.unreadable.Unreadable.{Unreadable}

pub reads_map : {X Y V W : Type 0} {P : X → V → Type 0} (means : X → Y) (keeps : V → W) (g : Y → W) → ((x : X) (v : V) → P x v → keeps v ≡ g (means x)) → (r : Result X Unreadable) (all : Result Y Unreadable) → Reads means r all → (o : Result V Unreadable) → MatchResult r (λ x. IsOkAnd o (P x)) (λ e. o ≡ Err e) → Reads keeps o (then all (λ y. Ok (g y)))
reads_map means keeps g same (Ok x) all h (Ok v) k = rw (← h) (ap (λ w. Ok w) (same x v k))
reads_map means keeps g same (Ok x) all h (Err d) k = absurd k
reads_map means keeps g same (Err e) all h (Ok v) k = cc
reads_map means keeps g same (Err e) all h (Err d) k =
    let which : d ≡ e = cc in
    λ other. rw (← h (rw which at other)) (ap (λ x. Err x) which)

-- where nothing needs memory
pub reads_all : {X : Type 0} (r all : Result X Unreadable) → r ≡ all → Reads (λ x. x) r all
reads_all (Ok x) all e = e
reads_all (Err d) all e = λ _. e
