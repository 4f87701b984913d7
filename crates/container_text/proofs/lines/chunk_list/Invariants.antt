use Rattle.std.proofs.Common.{◌≡◌, vec_items}
use Rattle.container_text.specs.Lines.{chunks_of}
use Rattle.text.specs.Words.{words}
use Rattle.container_text.proofs.Listed.{joined_to}
use Rattle.container_text.proofs.lines.chunk_list.Given as goal

abbrev pub invariant-loop-word : goal.invariant-loop-word
invariant-loop-word l = joined_to (vec_items l.chunks) (chunks_of (words l.word-iterator.0.now)) ≡ chunks_of (words l.text)
