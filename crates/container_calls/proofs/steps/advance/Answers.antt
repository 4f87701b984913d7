use Rattle.std.proofs.Common.{◌≡◌, None, Ok, rules}
use Rattle.container_calls.specs.Performed.{Answer}
use Rattle.container_calls.proofs.Chunks.{shared}
use Rattle.container_calls.proofs.Stepping.{answered, advanced}
use Rattle.container_calls.proofs.steps.advance.Goals as goal

pub returns-in_err-advance : goal.returns-in_err-advance
returns-in_err-advance g c =
    let shows = shared g.K.Chunk g.met.K.Chunk.sized g.met.K.Chunk.tailed g.met.K.SharedChunk.tailless in
    let call = c.advance in
    let is : c.from_residual.result ≡ answered (Ok None) call.result = search rules in
    advanced g.K.Chunk shows c.args.n call.result c.args.bufs.now.ring call.new.self.ring call.ensures c.from_residual.result is

pub returns : goal.returns
returns g c =
    let shows = shared g.K.Chunk g.met.K.Chunk.sized g.met.K.Chunk.tailed g.met.K.SharedChunk.tailless in
    let call = c.advance in
    let is : ◌≡◌ {A = Answer} (Ok None) (answered (Ok None) call.result) = search rules in
    advanced g.K.Chunk shows c.args.n call.result c.args.bufs.now.ring call.new.self.ring call.ensures (Ok None) is
