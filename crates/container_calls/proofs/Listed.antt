-- A list of calls, one after another.
use Rattle.std.proofs.Common.{◌≡◌, ℕ, ◌+◌, ◌≤◌, min, List, [], ◌∷◌, ◌++◌, map, length, take, drop, sym, refl, ap, ◌∙◌, subst, arith, length-append, take-append-drop}
use Rattle.std.proofs.lemmas.List.{append-nil, length-map, length-take-le, map_push, take_all, take_at}
use Rattle.std.specs.Result.{is_ok}
use Rattle.lists.specs.Parts.{poured}
use Rattle.lists.proofs.Parts.{length_poured, poured_none, poured_more}
use Rattle.store.specs.Faults.{asks}
use Rattle.store.specs.declared.space.Store.{Store}
use Rattle.iobuf.specs.Values.{Value}
use Rattle.iobuf.specs.declared.chunk.Chunk.{Ghosts}
use Rattle.ring.specs.Model.{items, limit}
use Rattle.ring.specs.declared.Ring.{Ring}
use Rattle.rules.specs.Chunks.{joined}
use Rattle.taking.specs.Rings.{values}
use Rattle.runs.specs.Calls.{Call as Step, append, prepend, advance, split_to, copy_to_bytes, Answer as Told, accepted, split, copied, refused, questions, step, run, answers, is_accepted, accepts, handed, all_handed}
use Rattle.runs.specs.Laws.{by_copy}
use Rattle.runs.specs.Line.{begun, behind, line_after, passed_in}
use Rattle.runs.proofs.More.{run_more, answers_more, handed_more, answers_count}
use Rattle.runs.proofs.Steps.{either_way, within}
use Rattle.container_calls.specs.Makings.{LawOfRuns}
use Rattle.container_calls.specs.Performed.{Answer, step_of, told, target_after, output_after, Stepped, Performed}
use Rattle.container_calls.specs.Series.{copied_bytes, CopiedWithin, Series, accepted_of, AlongTheLine}
use Rattle.container_calls.specs.declared.call.Call.{Call}

-- what was handed out with the answer a to the call c stands in the target, which was empty, or in the output
abbrev Stands : Step → List ℕ → Told → Type 0
Stands c out a =
    (joined (target_after c a []) ++ copied_bytes (told a) (output_after c a out) ≡ handed a) × CopiedWithin (told a) (output_after c a out)

stands : (most : ℕ) (c : Step) (vs : List Value) (out : List ℕ) → Stands c out (step most c vs).0
stands most (append bs) vs out = either_way (asks (questions most (append bs) vs)) (append bs) vs (λ s. Stands (append bs) out s.0) (λ _. (refl, tt)) (λ _. (refl, tt))
stands most (prepend bs) vs out = either_way (asks (questions most (prepend bs) vs)) (prepend bs) vs (λ s. Stands (prepend bs) out s.0) (λ _. (refl, tt)) (λ _. (refl, tt))
stands most (advance n) vs out = either_way (asks (questions most (advance n) vs)) (advance n) vs (λ s. Stands (advance n) out s.0) (λ _. (refl, tt)) (λ _. (refl, tt))
stands most (split_to n its_limit held) vs out =
    let c = split_to n its_limit held in
    either_way (asks (questions most c vs)) c vs (λ s. Stands c out s.0) (λ _. (append-nil _, tt)) (λ _. (refl, tt))
stands most (copy_to_bytes n places) vs out =
    let c = copy_to_bytes n places in
    let bs = take n (joined vs) in
    either_way (asks (questions most c vs)) c vs (λ s. Stands c out s.0)
    (λ e. let long : length bs ≡ n = length-take-le n (joined vs) (within most (by_copy places) n vs e) in
    (take_at bs (drop n out) n long, omega (arith, length-append bs (drop n out))))
    (λ _. (refl, tt))

-- one call, with a target that was empty and of that limit
module _ {K : Type 0} (k : Ghosts K) (q : Call K) (m : Store) (r : Answer) (b c t u : Ring K) (was is : List ℕ) (its_limit : ℕ)
    (p : Performed k q m r b c t u was is) (none : items t ≡ []) (most : limit t ≡ its_limit) where
  abbrev made : ℕ → ℕ → Store → Step
  made i j s = step_of k i j (length was) s q

  abbrev answer : ℕ → ℕ → Told
  answer i j = (step (limit b) (made i j m) (values k m b)).0

  abbrev Turned : ℕ → ℕ → Type 0
  Turned i j = Stepped k (made i j) r b c × (values k m u ≡ target_after (made i j m) (answer i j) []) × (is ≡ output_after (made i j m) (answer i j) was)

  turned : Turned its_limit 0
  turned =
      let held : length (items t) ≡ 0 = ap length none in
      let start : Turned (limit t) (length (items t)) =
      (p.container, p.target m ∙ ap (target_after (made (limit t) (length (items t)) m) (answer (limit t) (length (items t)))) (ap (map (k.value m)) none), p.output) in
      let at_none : Turned (limit t) 0 = subst (Turned (limit t)) held start in
      let P : ℕ → Type 0 = λ i. Turned i 0 in
      subst P most at_none

  pub container : Stepped k (made its_limit 0) r b c
  container = turned.0

  same_answer : r ≡ told (answer its_limit 0)
  same_answer = turned.0.answer m

  pub handed_on : joined (values k m u) ++ copied_bytes r is ≡ handed (answer its_limit 0)
  handed_on =
      ap (λ ws. joined ws ++ copied_bytes r is) turned.1
      ∙ ap (λ a. joined (target_after (made its_limit 0 m) (answer its_limit 0) []) ++ copied_bytes a is) same_answer
      ∙ ap (λ os. joined (target_after (made its_limit 0 m) (answer its_limit 0) []) ++ copied_bytes (told (answer its_limit 0)) os) turned.2
      ∙ (stands (limit b) (made its_limit 0 m) (values k m b) was).0

-- The calls `first` of a list have been made, as f has them in each store: the container b then is c, the answers stand noted, and `at` bytes of those handed out are in the log.
pub record SoFar {K : Type 0} (k : Ghosts K) (f : Store → Call K → Step) (m : Store) (b : Ring K) (before : List ℕ) (first : List (Call K)) (c : Ring K) (noted : List Answer) (log : List ℕ) (at : ℕ) : Type 0 where
  pub given : (s : Store) → noted ≡ map told (answers (limit b) (map (f s) first) (values k s b))
  pub chunks : (s : Store) → values k s c ≡ run (limit b) (map (f s) first) (values k s b)
  pub out : log ≡ poured 0 (all_handed (answers (limit b) (map (f m) first) (values k m b))) before
  pub reach : at ≡ min (length before) (length (all_handed (answers (limit b) (map (f m) first) (values k m b))))
  pub limit : limit c ≡ limit b

pub none_yet : {K : Type 0} (k : Ghosts K) (f : Store → Call K → Step) (m : Store) (b : Ring K) (before : List ℕ) → SoFar k f m b before [] b [] before 0
none_yet k f m b before = record { given = λ _. refl; chunks = λ _. refl; out = sym (poured_none 0 before); reach = omega arith; limit = refl }

-- one call more
module _ {K : Type 0} (k : Ghosts K) (f : Store → Call K → Step) (m : Store) (b : Ring K) (before : List ℕ) (first : List (Call K)) (c : Ring K) (noted : List Answer) (log : List ℕ) (at : ℕ)
    (sofar : SoFar k f m b before first c noted log at) (q : Call K) (r : Answer) (d : Ring K) (next : List ℕ) (on : ℕ)
    (done : Stepped k (λ s. f s q) r c d)
    (logged : next ≡ poured at (handed (step (limit c) (f m q) (values k m c)).0) log)
    (reached : on ≡ min (length log) (at + length (handed (step (limit c) (f m q) (values k m c)).0))) where
  stepped_on : (s : Store) → step (limit c) (f s q) (values k s c) ≡ step (limit b) (f s q) (run (limit b) (map (f s) first) (values k s b))
  stepped_on s = ap (λ i. step i (f s q) (values k s c)) sofar.limit ∙ ap (step (limit b) (f s q)) (sofar.chunks s)

  more_answers : (s : Store) → answers (limit b) (map (f s) (first ++ q ∷ [])) (values k s b) ≡ answers (limit b) (map (f s) first) (values k s b) ++ (step (limit c) (f s q) (values k s c)).0 ∷ []
  more_answers s =
      ap (λ cs. answers (limit b) cs (values k s b)) (map_push (f s) first q) ∙ answers_more (limit b) (f s q) (map (f s) first) (values k s b)
      ∙ ap (λ (z : Told × List Value). answers (limit b) (map (f s) first) (values k s b) ++ z.0 ∷ []) (sym (stepped_on s))

  all_out : all_handed (answers (limit b) (map (f m) (first ++ q ∷ [])) (values k m b)) ≡ all_handed (answers (limit b) (map (f m) first) (values k m b)) ++ handed (step (limit c) (f m q) (values k m c)).0
  all_out = ap all_handed (more_answers m) ∙ handed_more (answers (limit b) (map (f m) first) (values k m b)) (step (limit c) (f m q) (values k m c)).0

  pub one_more : SoFar k f m b before (first ++ q ∷ []) d (noted ++ r ∷ []) next on
  one_more =
      let hs = all_handed (answers (limit b) (map (f m) first) (values k m b)) in
      let h = handed (step (limit c) (f m q) (values k m c)).0 in
      let long : length log ≡ length before = ap length sofar.out ∙ length_poured 0 hs before (omega arith) in
      let here : at ≡ min (length before) (0 + length hs) = omega (arith, sofar.reach) in
      record {
        given = λ s.
            ap (λ a. noted ++ a ∷ []) (done.answer s) ∙ ap (λ rs. rs ++ told (step (limit c) (f s q) (values k s c)).0 ∷ []) (sofar.given s)
            ∙ sym (ap (map told) (more_answers s) ∙ map_push told (answers (limit b) (map (f s) first) (values k s b)) (step (limit c) (f s q) (values k s c)).0);
        chunks = λ s.
            done.chunks s ∙ ap (λ (z : Told × List Value). z.1) (stepped_on s)
            ∙ sym (ap (λ cs. run (limit b) cs (values k s b)) (map_push (f s) first q) ∙ run_more (limit b) (f s q) (map (f s) first) (values k s b));
        out = logged ∙ ap (poured at h) sofar.out ∙ poured_more 0 at hs h before (omega arith) here ∙ ap (λ bs. poured 0 bs before) (sym all_out);
        reach = omega (arith, reached, long, here, ap length all_out, length-append hs h);
        limit = done.limit ∙ sofar.limit;
      }

-- all of them
pub all_made : {K : Type 0} (k : Ghosts K) (f : Store → Call K → Step) (m : Store) (b : Ring K) (before : List ℕ) (calls : List (Call K)) (c : Ring K) (was noted : List Answer) (log : List ℕ) (at i : ℕ)
    → SoFar k f m b before (take i calls) c (take i noted) log at → length calls ≤ i → drop i noted ≡ drop i was → i ≤ length calls → Series k (λ s. map (f s) calls) m b c was noted before log
all_made k f m b before calls c was noted log at i sofar h rest e =
    let every : take i calls ≡ calls = take_all i calls h in
    let P : List (Call _) → Type 0 = λ cs. SoFar k f m b before cs c (take i noted) log at in
    let all : SoFar k f m b before calls c (take i noted) log at = subst P every sofar in
    let count : (s : Store) → i ≡ length (map (f s) calls) = λ s. omega (arith, length-map calls (f s)) in
    record {
      given = λ s. sym (take-append-drop i noted) ∙ ap (λ rs. take i noted ++ rs) (rest ∙ ap (λ j. drop j was) (count s)) ∙ ap (λ rs. rs ++ drop (length (map (f s) calls)) was) (all.given s);
      chunks = all.chunks;
      out = all.out;
      limit = all.limit;
    }

-- what was noted tells which calls were accepted
module _ {K : Type 0} (k : Ghosts K) (steps : Store → List Step) (m : Store) (b c : Ring K) (was noted : List Answer) (before log : List ℕ) (done : Series k steps m b c was noted before log) where
  tells : (rs : List Told) → map is_ok (map told rs) ≡ map is_accepted rs
  tells [] = refl
  tells (r ∷ rs) = ap (λ b. b ∷ map is_ok (map told rs)) (tell r) ∙ ap (λ bs. is_accepted r ∷ bs) (tells rs)
    where
      tell : (a : Told) → is_ok (told a) ≡ is_accepted a
      tell accepted = refl
      tell (split chunks) = refl
      tell (copied n bs) = refl
      tell (refused f) = refl

  really : accepted_of (steps m) noted ≡ accepts (limit b) (steps m) (values k m b)
  really =
      let rs = answers (limit b) (steps m) (values k m b) in
      let count : length (map told rs) ≡ length (steps m) = length-map rs told ∙ answers_count (limit b) (steps m) (values k m b) in
      ap (λ ns. map is_ok (take (length (steps m)) ns)) (done.given m) ∙ ap (map is_ok) (take_at (map told rs) (drop (length (steps m)) was) (length (steps m)) count) ∙ tells rs

  -- so the laws of runs speak of what was really answered and left
  pub along : LawOfRuns k → AlongTheLine k (steps m) m b c noted before log
  along law bs made =
      let on = (law m b bs made).line (steps m) in (
        ap joined (done.chunks m) ∙ on.left ∙ ap (λ oks. behind (line_after (steps m) oks (begun bs))) (sym really),
        done.out ∙ ap (λ hs. poured 0 hs before) (on.out ∙ ap (λ oks. passed_in (steps m) oks (begun bs)) (sym really)),
      )
