-- The bits of floats. Assumes nothing.
use Rattle.std.specs.Prelude.{ℕ, cond, ◌==◌}

-- The bits of a float; those of -0.0 count as those of 0.0.
abbrev pub one_zero : ℕ → ℕ
one_zero bits = cond (bits == 9223372036854775808) 0 bits
