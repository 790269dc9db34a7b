-- What is known from what holds somehow.
use Rattle.std.proofs.Common.{◌≡◌, ℕ, ◌≤◌, true, leb, le-leb, leb-true}
use mathlib.Core.Bool.{Bool-set}
use mathlib.Core.Logic.{∥∥₁_elim}
use mathlib.Core.HLevel.{hedberg}
use native.Mathlib.Decide.{ℕ_discrete}
use Rattle.kinds.specs.declared.kind.ValueKind.{ValueKind}
use Rattle.kinds.specs.declared.kind.ValueKind.TheVariants.{Bytes, Str, Int, Uint, F64, Counter, Timestamp, Boolean, Unknown, Null}
use Rattle.house.specs.Values.{LengthOf}

module _ {A : Type 0} (h : ∥ A ∥₁) where
  -- an equation or a bound that follows from what holds somehow, holds
  pub equal_had : (a b : ℕ) → (A → a ≡ b) → a ≡ b
  equal_had a b f = ∥∥₁_elim h (hedberg ℕ_discrete a b) f

  pub most_had : (a b : ℕ) → (A → a ≤ b) → a ≤ b
  most_had a b f = leb-true a b (∥∥₁_elim h (Bool-set (leb a b) true) (λ x. le-leb a b (f x)))

  -- and so does the length of a value
  pub length_had : (k : ValueKind) (n : ℕ) → (A → LengthOf k n) → LengthOf k n
  length_had Bytes n f = most_had n 32 f
  length_had Str n f = most_had n 32 f
  length_had Int n f = equal_had n 8 f
  length_had Uint n f = equal_had n 8 f
  length_had F64 n f = equal_had n 8 f
  length_had Counter n f = equal_had n 8 f
  length_had Timestamp n f = equal_had n 8 f
  length_had Boolean n f = equal_had n 1 f
  length_had Unknown n f = most_had n 32 f
  length_had Null n f = equal_had n 0 f
