use Rattle.std.proofs.Common.{◌≡◌, ℕ, ◌+◌, ◌<◌, min, List, [], ◌∷◌, ◌++◌, map, length, take, drop, sym, refl, ap, ◌∙◌, subst, arith, rules}
use Rattle.std.proofs.lemmas.List.{drop-drop, drop-set-lt, take_more, take_more_set}
use Rattle.lists.specs.Parts.{poured}
use Rattle.store.specs.Sizes.{chunk_limit}
use Rattle.ring.specs.Model.{limit}
use Rattle.runs.specs.Calls.{handed, step}
use Rattle.taking.specs.Rings.{values}
use Rattle.container_calls.specs.Performed.{Answer, step_of, Stepped}
use Rattle.container_calls.specs.declared.call.Call.{Call}
use Rattle.container_calls.specs.Series.{AlongTheLine, Series}
use Rattle.container_calls.proofs.Listed.{SoFar, none_yet, one_more, all_made, along}
use Rattle.container_calls.proofs.series.in_turn.Goals as goal

pub loop-i-init : goal.loop-i-init
loop-i-init g c =
    let k = g.K.Chunk in
    (none_yet k (step_of k (min chunk_limit (length c.args.slots.now)) 0 (length c.args.out.now)) c.args.store.now c.args.bufs.now.ring c.args.log.now, refl, refl)

pub loop-i-preserved : goal.loop-i-preserved
loop-i-preserved g c =
    let k = g.K.Chunk in
    let m = c.args.store.now in
    let calls = c.args.calls.now in
    let before = c.args.log.now in
    let b = c.args.bufs.now.ring in
    let i = c.loop-i.i in
    let here = c.loop-i.bufs.ring in
    let noted = c.loop-i.answers in
    let log = c.loop-i.log.bytes.now in
    let at = c.loop-i.log.len in
    let q = c.index-calls-i.result in
    let r = c.turn.result in
    let on = c.turn.new.log.len in
    let d = c.turn.new.bufs.ring in
    let next = c.turn.new.log.bytes.now in
    let R : ℕ → ℕ → Type 0 = λ slots out.
    Stepped k (λ s. step_of k (min chunk_limit slots) 0 out s q) r here d
    × (next ≡ poured at (handed (step (limit here) (step_of k (min chunk_limit slots) 0 out m q) (values k m here)).0) log)
    × (on ≡ min (length log) (at + length (handed (step (limit here) (step_of k (min chunk_limit slots) 0 out m q) (values k m here)).0))) in
    let slots = length c.args.slots.now in
    let out = length c.args.out.now in
    let Q : ℕ → Type 0 = λ n. R n (length c.loop-i.out) in
    let done : R slots out = subst (R slots) c.loop-i.auto.out (subst Q c.loop-i.auto.slots (c.turn.ensures.container, c.turn.ensures.log.bytes, c.turn.ensures.log.len)) in
    let f = step_of k (min chunk_limit slots) 0 out in
    let more = one_more k f m b before (take i calls) here (take i noted) log at c.loop-i.invariant.0 q r d next on done.0 done.1 done.2 in
    let h : i < length calls = c.loop-i-test.true in
    let fits : i < length noted = omega (arith, c.requires, c.loop-i.auto.answers) in
    let first : take i calls ++ q ∷ [] ≡ take (i + 1) calls = sym (take_more calls i q h ∙ ap (λ z. take i calls ++ z ∷ []) (sym c.index-calls-i.is)) in
    let P : List (Call _) → Type 0 = λ cs. SoFar k f m b before cs d (take i noted ++ r ∷ []) next on in
    let N : List Answer → Type 0 = λ rs. SoFar k f m b before (take (i + 1) calls) d rs next on in (
      subst N (sym (take_more_set noted i r fits)) (subst P first more),
      drop-set-lt (i + 1) noted i r (omega arith) ∙ one_on noted c.args.answers.now i c.loop-i.invariant.1,
      c.turn.ensures.log.slice ∙ c.loop-i.invariant.2,
    )
  where
    one_on : (xs ys : List Answer) (i : ℕ) → drop i xs ≡ drop i ys → drop (i + 1) xs ≡ drop (i + 1) ys
    one_on xs ys i e = sym (drop-drop 1 i xs) ∙ ap (drop 1) e ∙ drop-drop 1 i ys

pub returns-clause-line : goal.returns-clause-line
returns-clause-line g c =
    let k = g.K.Chunk in
    let m = c.args.store.now in
    let b = c.args.bufs.now.ring in
    let d = c.loop-i.bufs.ring in
    let calls = c.args.calls.now in
    let was = c.args.answers.now in
    let noted = c.loop-i.answers in
    let before = c.args.log.now in
    let log = c.loop-i.log.bytes.now in
    let f = step_of k (min chunk_limit (length c.args.slots.now)) 0 (length c.args.out.now) in
    let all : Series k (λ s. map (f s) calls) m b d was noted before log = all_made k f m b before calls d was noted log c.loop-i.log.len c.loop-i.i c.loop-i.invariant.0 (omega arith) c.loop-i.invariant.1 (omega arith) in
    subst (AlongTheLine k (map (f m) calls) m b d noted before) (search rules) (along k (λ s. map (f s) calls) m b d was noted before log all c.laws.ensures)
