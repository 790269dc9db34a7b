-- The numbers of the kinds.
use Rattle.std.proofs.Common.{◌≡◌, refl}
use Rattle.kinds.specs.Values.{kind_number}
use Rattle.kinds.specs.declared.value.ScalarValue.{ScalarValue}
use Rattle.kinds.specs.declared.value.ScalarValue.TheVariants as scalar
use Rattle.kinds.specs.declared.kind.ValueKind.{ValueKind}
use Rattle.kinds.specs.declared.kind.ValueKind.TheVariants.{Bytes, Str, Int, Uint, F64, Counter, Timestamp, Boolean, Unknown, Null}
use Rattle.kinds.specs.Kinds.{code_of, kind_of, scalar_kind}

-- a kind is known by its number
pub known_by_number : (k : ValueKind) → kind_of (code_of k) ≡ k
known_by_number Bytes = refl
known_by_number Str = refl
known_by_number Int = refl
known_by_number Uint = refl
known_by_number F64 = refl
known_by_number Counter = refl
known_by_number Timestamp = refl
known_by_number Boolean = refl
known_by_number Unknown = refl
known_by_number Null = refl

-- which is the one among the values of the document
pub same_numbers : (v : ScalarValue) → code_of (scalar_kind v) ≡ kind_number v
same_numbers (scalar.Bytes s) = refl
same_numbers (scalar.Str s) = refl
same_numbers (scalar.Int n) = refl
same_numbers (scalar.Uint n) = refl
same_numbers (scalar.F64 bits) = refl
same_numbers (scalar.Counter n) = refl
same_numbers (scalar.Timestamp n) = refl
same_numbers (scalar.Boolean b) = refl
same_numbers (scalar.Unknown code s) = refl
same_numbers scalar.Null = refl
