use Rattle.std.proofs.Common.{◌≡◌, Err, rules}
use Rattle.container_calls.proofs.Chunks.{shared}
use Rattle.container_calls.proofs.Stepping.{copied, uncopied}
use Rattle.container_calls.proofs.steps.copy_to_bytes.Goals as goal

pub returns-in_err-count : goal.returns-in_err-count
returns-in_err-count g c =
    let shows = shared g.K.Chunk g.met.K.Chunk.sized g.met.K.Chunk.tailed g.met.K.SharedChunk.tailless in
    let p = c.in_err-count.ensures in
    let is : c.from_residual.result ≡ Err c.in_err-count.field-0.0 = search rules in
    rw is (uncopied g.K.Chunk shows c.args.n c.args.store.now c.args.bufs.now.ring c.copy_to_bytes.new.self.ring c.args.out.now c.copy_to_bytes.new.out c.in_err-count.field-0.0 p.0 p.1 p.2)

pub returns : goal.returns
returns g c =
    let shows = shared g.K.Chunk g.met.K.Chunk.sized g.met.K.Chunk.tailed g.met.K.SharedChunk.tailless in
    let p = c.in_ok-count.ensures in
    copied g.K.Chunk shows c.args.n c.args.store.now c.args.bufs.now.ring c.copy_to_bytes.new.self.ring c.args.out.now c.copy_to_bytes.new.out c.in_ok-count.count p.0 p.1
