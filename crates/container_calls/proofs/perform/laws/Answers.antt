use Rattle.container_calls.proofs.Chunks.{shared}
use Rattle.container_calls.proofs.Makings.{law_of_runs}
use Rattle.container_calls.proofs.perform.laws.Goals as goal

pub returns : goal.returns
returns g c = law_of_runs g.K.Chunk (shared g.K.Chunk g.met.K.Chunk.sized g.met.K.Chunk.tailed g.met.K.SharedChunk.tailless)
