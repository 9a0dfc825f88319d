-- Where the chunks of a round begin and end.
use Rattle.std.proofs.Common.{ℕ, ◌*◌, ◌<◌, arith}
use Rattle.std.proofs.lemmas.Grind.{div_ceil_times}
use Rattle.worker_pool.specs.Chunks.{chunk_count}

-- a chunk begins with an item of the round
pub chunk_starts : (number size len : ℕ) → 0 < size → number < chunk_count size len → number * size < len
chunk_starts number size len some within = grind (arith, div_ceil_times)
