-- The test of a range of bytes, and what it tells. Assumes nothing.
use Rattle.std.proofs.Common.{◌≡◌, ℕ, true, arith}
use Rattle.std.specs.Int.{IsInRange, is_in_range}
use Rattle.std.proofs.lemmas.Bool.Decides.{nat_tests}

pub inside : (lo hi b : ℕ) → is_in_range lo hi b ≡ true → IsInRange lo hi b
inside lo hi b e = grind (arith, nat_tests)

pub within_in : (lo hi b : ℕ) → IsInRange lo hi b → is_in_range lo hi b ≡ true
within_in lo hi b h = grind (arith, nat_tests)
