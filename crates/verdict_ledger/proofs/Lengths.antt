-- How long the text of a number is.
use Rattle.std.proofs.Common.{ℕ, ◌*◌, ◌^◌, ◌<◌, ◌≤◌, length, arith}
use Rattle.std.specs.Fmt.{decimal}
use Rattle.std.proofs.lemmas.Fmt.{length-decimal-le}

pub number_short : (n : ℕ) → n < 2 ^ 32 → length (decimal n) ≤ 10
number_short n few = length-decimal-le 10 n (omega arith) (omega arith) (omega arith)

-- a timestamp is below 2^32 seconds
pub stamp_short : (n : ℕ) → n < 2 ^ 32 * 10 ^ 9 → length (decimal n) ≤ 19
stamp_short n early = length-decimal-le 19 n (omega arith) (omega arith) (omega arith)
