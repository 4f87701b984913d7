use Rattle.std.proofs.Common.{◌≡◌, None, Ok, rules}
use Rattle.container_calls.specs.Performed.{Answer}
use Rattle.container_calls.proofs.Chunks.{shared}
use Rattle.container_calls.proofs.Stepping.{answered, halved}
use Rattle.container_calls.proofs.steps.split_to.Goals as goal

pub returns-in_err-split_to : goal.returns-in_err-split_to
returns-in_err-split_to g c =
    let shows = shared g.K.Chunk g.met.K.Chunk.sized g.met.K.Chunk.tailed g.met.K.SharedChunk.tailless in
    let call = c.split_to in
    let is : c.from_residual.result ≡ answered (Ok None) call.result = search rules in
    halved g.K.Chunk shows c.args.n call.result c.args.bufs.now.ring call.new.self.ring c.args.target.now.ring call.new.target.ring call.ensures.answer call.ensures.after c.from_residual.result is

pub returns : goal.returns
returns g c =
    let shows = shared g.K.Chunk g.met.K.Chunk.sized g.met.K.Chunk.tailed g.met.K.SharedChunk.tailless in
    let call = c.split_to in
    let is : ◌≡◌ {A = Answer} (Ok None) (answered (Ok None) call.result) = search rules in
    halved g.K.Chunk shows c.args.n call.result c.args.bufs.now.ring call.new.self.ring c.args.target.now.ring call.new.target.ring call.ensures.answer call.ensures.after (Ok None) is
