-- What each call promises of a container, as a step on the values of its chunks.
use Rattle.std.proofs.Common.{◌≡◌, ℕ, ◌≤◌, Bool, true, false, List, [], ◌∷◌, ◌++◌, map, length, Some, None, Ok, Err, Result, sym, refl, ap, ◌∙◌, MatchResult}
use Rattle.std.proofs.lemmas.List.{map_push, nil_from_length}
use Rattle.std.proofs.lemmas.Bool.{leb-true, false≢true}
use Rattle.std.specs.Result.{is_ok}
use Rattle.store.specs.Faults.{asks, not_enough_bytes, output_too_short, not_empty, no_slot, Short, Unwritten}
use Rattle.store.specs.declared.fault.Fault.{Fault}
use Rattle.store.specs.declared.fault.Layer.TheVariants.{Container}
use Rattle.store.specs.declared.space.Store.{Store}
use Rattle.iobuf.specs.Values.{Value, flat}
use Rattle.iobuf.specs.declared.chunk.Chunk.{Ghosts}
use Rattle.ring.specs.Model.{items, limit}
use Rattle.ring.specs.declared.Ring.{Ring}
use Rattle.rules.specs.Chunks.{kept, remaining}
use Rattle.rules.specs.Putting.{slot_for, put}
use Rattle.rules.specs.Splitting.{fronts, rests, share}
use Rattle.rules.specs.Taking.{form_of, taken_in}
use Rattle.rules.proofs.Splitting.{share_is}
use Rattle.taking.specs.Rings.{values, bytes_in, kept_of, Left, Copied}
use Rattle.taking.proofs.Rules.{values_count, advance_rule, copy_rule}
use Rattle.taking.proofs.Sums.{sum_sizes}
use Rattle.moving.specs.Putting.{Placed}
use Rattle.moving.specs.Splitting.{Handed}
use Rattle.runs.specs.Calls.{Call as Step, append, prepend, advance, split_to, copy_to_bytes, questions, result, leaves, decided, step}
use Rattle.container_calls.specs.Performed.{Answer, told, target_after, output_after, Stepped, Splitting, Copying}
use Rattle.container_calls.proofs.Asked.{recase, asked_bytes, asked_places, asked_then, granted, was_empty}
use Rattle.container_calls.proofs.Chunks.{Shared, flat_is, kept_flat}

-- the answer to a call that was accepted as `a`, or refused
abbrev pub answered : Answer → Result (Unit {0}) Fault → Answer
answered a (Ok u) = a
answered a (Err f) = Err f

-- accepted, with no bytes copied out, or with so many
abbrev Accepted : Answer
Accepted = Ok None

abbrev Counted : ℕ → Answer
Counted n = Ok (Some n)

-- what a call left: the step's chunks, or itself
abbrev Leaves : {K : Type 0} → Ghosts K → (Store → Step) → Ring K → Ring K → Type 0
Leaves k call b c = ((s : Store) → values k s c ≡ leaves (call s) (values k s b)) × (limit c ≡ limit b)

-- a call that asked what the step asks, and left what it leaves, did the step
pub stepped : {K : Type 0} (k : Ghosts K) (call : Store → Step) (a : Answer) (r : Result (Unit {0}) Fault) (b c : Ring K)
    → is_ok a ≡ true → ((s : Store) → a ≡ told (result (call s) (values k s b)))
    → ((s : Store) → r ≡ asks (questions (limit b) (call s) (values k s b)))
    → MatchResult r (λ _. Leaves k call b c) (λ _. c ≡ b)
    → (o : Answer) → o ≡ answered a r → Stepped k call o b c
stepped k call a (Ok u) b c y t q (l, m) o e = record {
  answer = λ s. e ∙ t s ∙ ap (λ z. told (decided z (call s) (values k s b)).0) (q s);
  chunks = λ s. l s ∙ ap (λ z. (decided z (call s) (values k s b)).1) (q s);
  limit = m;
  unmoved = λ z. absurd (false≢true (sym z ∙ ap is_ok e ∙ y));
}
stepped k call a (Err f) b c y t q d o e = record {
  answer = λ s. e ∙ ap (λ z. told (decided z (call s) (values k s b)).0) (q s);
  chunks = λ s. ap (values k s) d ∙ ap (λ z. (decided z (call s) (values k s b)).1) (q s);
  limit = ap limit d;
  unmoved = λ _. d;
}

module _ {K : Type 0} (k : Ghosts K) (shows : Shared k) where
  map_put : (v : K → Value) (t : Bool) (more xs : List K) → map v (put t more xs) ≡ put t (map v more) (map v xs)
  map_put v true more xs = refl
  map_put v false more xs = refl

  -- a chunk that is put in, at whichever end
  placed : (call : Store → Step) (x : K) (more : List K) (r : Result (Unit {0}) Fault) (b c : Ring K)
      → ((s : Store) → Accepted ≡ told (result (call s) (values k s b)))
      → ((s : Store) → slot_for (kept (flat (k.value s x).bytes)) (length (values k s b)) (limit b) ≡ questions (limit b) (call s) (values k s b))
      → ((s : Store) → put (kept (flat (k.value s x).bytes)) (map (k.value s) more) (values k s b) ≡ leaves (call s) (values k s b))
      → r ≡ asks (slot_for (kept_of k x) (length (items b)) (limit b)) → MatchResult r (λ _. Placed k x more b c) (λ _. c ≡ b)
      → (o : Answer) → o ≡ answered Accepted r → Stepped k call o b c
  placed call x more r b c t q l is d =
      stepped k call Accepted r b c refl t
      (λ s. is ∙ ap (λ w. asks (slot_for w (length (items b)) (limit b))) (kept_flat k shows s x)
      ∙ ap (λ n. asks (slot_for (kept (flat (k.value s x).bytes)) n (limit b))) (sym (values_count k s 0 b c)) ∙ ap asks (q s))
      (recase (λ _. Placed k x more b c) (λ _. Leaves k call b c) (λ _. c ≡ b) (λ _. c ≡ b) r
      (λ _ p. (
        λ s. ap (map (k.value s)) p.holds.chunks ∙ map_put (k.value s) (kept_of k x) more (items b)
            ∙ ap (λ w. put w (map (k.value s) more) (values k s b)) (kept_flat k shows s x) ∙ l s,
        p.holds.limit,
      ))
      (λ _ e. e) d)

  pub appended : (x : K) (r : Result (Unit {0}) Fault) (b c : Ring K) → r ≡ asks (slot_for (kept_of k x) (length (items b)) (limit b))
      → MatchResult r (λ _. Placed k x (items b ++ x ∷ []) b c) (λ _. c ≡ b) → (o : Answer) → o ≡ answered Accepted r → Stepped k (λ s. append (k.value s x).bytes) o b c
  appended x r b c =
      placed (λ s. append (k.value s x).bytes) x (items b ++ x ∷ []) r b c (λ _. refl) (λ _. refl)
      (λ s. ap (λ ws. put (kept (flat (k.value s x).bytes)) ws (values k s b)) (map_push (k.value s) (items b) x ∙ ap (λ v. values k s b ++ v ∷ []) (flat_is k shows s x)))

  pub prepended : (x : K) (r : Result (Unit {0}) Fault) (b c : Ring K) → r ≡ asks (slot_for (kept_of k x) (length (items b)) (limit b))
      → MatchResult r (λ _. Placed k x (x ∷ items b) b c) (λ _. c ≡ b) → (o : Answer) → o ≡ answered Accepted r → Stepped k (λ s. prepend (k.value s x).bytes) o b c
  prepended x r b c =
      placed (λ s. prepend (k.value s x).bytes) x (x ∷ items b) r b c (λ _. refl) (λ _. refl)
      (λ s. ap (λ v. put (kept (flat (k.value s x).bytes)) (v ∷ values k s b) (values k s b)) (flat_is k shows s x))

  -- as many bytes by the sizes of the chunks as by their values
  bytes_are : (s : Store) (b : Ring K) → bytes_in k b ≡ remaining (values k s b)
  bytes_are s b = sum_sizes (k.value s) k.size (shows.sized s) (items b)

  pub advanced : (n : ℕ) (r : Result (Unit {0}) Fault) (b c : Ring K)
      → MatchResult r (λ _. (n ≤ bytes_in k b) × Left k (taken_in (form_of (length (items b))) n) b c) (λ f. Short n (bytes_in k b) (not_enough_bytes Container n (bytes_in k b)) f × (c ≡ b))
      → (o : Answer) → o ≡ answered Accepted r → Stepped k (λ _. advance n) o b c
  advanced n r b c d =
      let m = bytes_in k b in
      let P : Unit {0} → Type 0 = λ _. (n ≤ m) × Left k (taken_in (form_of (length (items b))) n) b c in
      let Q : Fault → Type 0 = λ f. Short n m (not_enough_bytes Container n m) f × (c ≡ b) in
      let asked = asked_bytes Container n m r (recase P (λ _. n ≤ m) Q (Short n m (not_enough_bytes Container n m)) r (λ _ p. p.0) (λ _ q. q.0) d) in
      stepped k (λ _. advance n) Accepted r b c refl (λ _. refl)
      (λ s. asked ∙ ap (λ i. asks (not_enough_bytes Container n i ∷ [])) (bytes_are s b))
      (recase P (λ _. Leaves k (λ _. advance n) b c) Q (λ _. c ≡ b) r (λ _ p. (λ s. advance_rule k s n b c p.1, p.1.limit)) (λ _ q. q.1) d)

  -- the questions of a split, by sizes and by values
  split_asks : (s : Store) (n held its_limit : ℕ) (b : Ring K)
      → asks (not_enough_bytes Container n (bytes_in k b) ∷ not_empty held ∷ no_slot (share k.size n (items b)) its_limit ∷ [])
      ≡ asks (not_enough_bytes Container n (remaining (values k s b)) ∷ not_empty held ∷ no_slot (length (fronts n (values k s b))) its_limit ∷ [])
  split_asks s n held its_limit b =
      asked_then (not_enough_bytes Container n (bytes_in k b)) (not_empty held ∷ no_slot (share k.size n (items b)) its_limit ∷ []) (not_empty held ∷ no_slot (length (fronts n (values k s b))) its_limit ∷ [])
      (λ t. ap (λ i. asks (not_empty held ∷ no_slot i its_limit ∷ [])) (share_is k.size (k.value s) (shows.sized s) n (items b) (leb-true n (bytes_in k b) t)))
      ∙ ap (λ i. asks (not_enough_bytes Container n i ∷ not_empty held ∷ no_slot (length (fronts n (values k s b))) its_limit ∷ [])) (bytes_are s b)

  -- what a split promises, as the step
  abbrev Halved : ℕ → Ring K → Ring K → Ring K → Ring K → Type 0
  Halved n b c t u = Handed k (fronts n) (rests n) b c t u

  into : (n : ℕ) (r : Result (Unit {0}) Fault) (b c t u : Ring K) (s : Store)
      → r ≡ asks (questions (limit b) (split_to n (limit t) (length (items t))) (values k s b))
      → MatchResult r (λ _. Halved n b c t u) (λ _. (c ≡ b) × (u ≡ t))
      → values k s u ≡ target_after (split_to n (limit t) (length (items t))) (step (limit b) (split_to n (limit t) (length (items t))) (values k s b)).0 (values k s t)
  into n (Ok x) b c t u s q d =
      let call = split_to n (limit t) (length (items t)) in
      let slots = no_slot (length (fronts n (values k s b))) (limit t) ∷ [] in
      let rest = (granted (not_enough_bytes Container n (remaining (values k s b))) (not_empty (length (items t)) ∷ slots) q).1 in
      let none : values k s t ≡ [] = ap (map (k.value s)) (nil_from_length (items t) (was_empty (length (items t)) slots rest)) in
      d.target s ∙ ap (λ ws. ws ++ fronts n (values k s b)) none ∙ ap (λ z. target_after call (decided z call (values k s b)).0 (values k s t)) q
  into n (Err f) b c t u s q d =
      let call = split_to n (limit t) (length (items t)) in
      ap (values k s) d.1 ∙ ap (λ z. target_after call (decided z call (values k s b)).0 (values k s t)) q

  target_limit : (n : ℕ) (r : Result (Unit {0}) Fault) (b c t u : Ring K) → MatchResult r (λ _. Halved n b c t u) (λ _. (c ≡ b) × (u ≡ t)) → limit u ≡ limit t
  target_limit n (Ok x) b c t u d = d.target_limit
  target_limit n (Err f) b c t u d = ap limit d.1

  unmoved : (n : ℕ) (r : Result (Unit {0}) Fault) (b c t u : Ring K) → MatchResult r (λ _. Halved n b c t u) (λ _. (c ≡ b) × (u ≡ t)) → (o : Answer) → o ≡ answered Accepted r → is_ok o ≡ false → u ≡ t
  unmoved n (Ok x) b c t u d o e z = absurd (false≢true (sym z ∙ ap is_ok e))
  unmoved n (Err f) b c t u d o e z = d.1

  pub halved : (n : ℕ) (r : Result (Unit {0}) Fault) (b c t u : Ring K)
      → r ≡ asks (not_enough_bytes Container n (bytes_in k b) ∷ not_empty (length (items t)) ∷ no_slot (share k.size n (items b)) (limit t) ∷ [])
      → MatchResult r (λ _. Halved n b c t u) (λ _. (c ≡ b) × (u ≡ t))
      → (o : Answer) → o ≡ answered Accepted r → Splitting k n o b c t u
  halved n r b c t u is d o e =
      let call : Store → Step = λ _. split_to n (limit t) (length (items t)) in
      let asked : (s : Store) → r ≡ asks (questions (limit b) (call s) (values k s b)) = λ s. is ∙ split_asks s n (length (items t)) (limit t) b in
      record {
        container = stepped k call Accepted r b c refl (λ _. refl) asked
            (recase (λ _. Halved n b c t u) (λ _. Leaves k call b c) (λ _. (c ≡ b) × (u ≡ t)) (λ _. c ≡ b) r (λ _ h. (h.rest.leaves, h.rest.limit)) (λ _ m. m.0) d) o e;
        target = λ s. into n r b c t u s (asked s) d;
        target_limit = target_limit n r b c t u d;
        target_unmoved = unmoved n r b c t u d o e;
      }

  -- what a copying promises, as the step
  module _ (n : ℕ) (m : Store) (b c : Ring K) (was is : List ℕ) where
    abbrev call : Step
    call = copy_to_bytes n (length was)

    asked : (r : Result (Unit {0}) Fault) → r ≡ asks (not_enough_bytes Container n (bytes_in k b) ∷ output_too_short Container n (length was) ∷ []) → (s : Store) → r ≡ asks (questions (limit b) call (values k s b))
    asked r q s = q ∙ ap (λ i. asks (not_enough_bytes Container n i ∷ output_too_short Container n (length was) ∷ [])) (bytes_are s b)

    pub copied : (count : ℕ) → count ≡ n → Copied k n m b c was is → Copying k n m (Counted count) b c was is
    copied count e p =
        let q = asked (Ok tt) (asked_places Container n (bytes_in k b) (length was) (Ok tt) (p.within, p.fits)) in
        record {
          container = stepped k (λ _. call) (Counted count) (Ok tt) b c refl (λ _. ap Counted e) q (λ s. copy_rule k s n b c (shows.sized s) p.ring, p.ring.limit) (Counted count) refl;
          output = p.output ∙ ap (λ z. output_after call (decided z call (values k m b)).0 was) (q m);
        }

    pub uncopied : (f : Fault) → Unwritten Container n (bytes_in k b) (length was) f → c ≡ b → is ≡ was → Copying k n m (Err f) b c was is
    uncopied f h e o =
        let q = asked (Err f) (asked_places Container n (bytes_in k b) (length was) (Err f) h) in
        record {
          container = stepped k (λ _. call) (Counted n) (Err f) b c refl (λ _. refl) q e (Err f) refl;
          output = o ∙ ap (λ z. output_after call (decided z call (values k m b)).0 was) (q m);
        }
