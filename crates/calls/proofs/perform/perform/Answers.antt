use Rattle.std.proofs.Common.{◌≡◌, ◌++◌, length, take, drop, ap, arith, rules, length-take}
use Rattle.std.proofs.lemmas.List.{length-replicate, take_all}
use Rattle.iobuf.specs.Kinds.{run_bytes}
use Rattle.iobuf.specs.Values.{Value}
use Rattle.iobuf.specs.declared.run.Run.{Run}
use Rattle.calls.proofs.perform.perform.Goals as goal

-- a run has as many bytes as it counts
counts : (x : Run) → length (run_bytes x) ≡ x.count
counts x = length-replicate x.count x.byte

pub returns-in_ok-advance-in-Advance-clause-page : goal.returns-in_ok-advance-in-Advance-clause-page
returns-in_ok-advance-in-Advance-clause-page c =
    let e = counts c.args.page.now in
    let left = ap (λ (v : Value). v.bytes) (c.in_ok-advance-in-Advance.ensures.left c.args.store.now) in
    search rules

pub returns-in_ok-cut-in-Cut-clause-page : goal.returns-in_ok-cut-in-Cut-clause-page
returns-in_ok-cut-in-Cut-clause-page c =
    let e = counts c.args.page.now in
    let left = ap (λ (v : Value). v.bytes) (c.in_ok-cut-in-Cut.ensures.left c.args.store.now) in
    search rules

-- the piece fits into the output
pub returns-in_ok-cut-in-Cut-clause-output : goal.returns-in_ok-cut-in-Cut-clause-output
returns-in_ok-cut-in-Cut-clause-output c =
    let e = counts c.args.page.now in
    let out = c.args.out.now in
    let piece = take c.in-Cut.n (run_bytes c.args.page.now) in
    let front = ap (λ (v : Value). v.bytes) (c.in_ok-cut-in-Cut.ensures.front c.args.store.now) in
    let whole : take (length out) piece ≡ piece = take_all (length out) piece (omega (arith, length-take c.in-Cut.n (run_bytes c.args.page.now))) in
    let written : c.pour_out.new.out ≡ piece ++ drop (length piece) out = cc in
    search rules
