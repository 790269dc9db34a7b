-- The kinds of value and their numbers. Assumes nothing.
use Rattle.std.specs.Prelude.{ℕ, List, [], ◌∷◌, slice_index_or, codes}
use Rattle.kinds.specs.declared.kind.ValueKind.{ValueKind}
use Rattle.kinds.specs.declared.kind.ValueKind.TheVariants.{Bytes, Str, Int, Uint, F64, Counter, Timestamp, Boolean, Unknown, Null}
use Rattle.kinds.specs.declared.value.ScalarValue.{ScalarValue}
use Rattle.kinds.specs.declared.value.ScalarValue.TheVariants as scalar

-- The number of each kind.
abbrev pub code_of : ValueKind → ℕ
code_of Bytes = 0
code_of Str = 1
code_of Int = 2
code_of Uint = 3
code_of F64 = 4
code_of Counter = 5
code_of Timestamp = 6
code_of Boolean = 7
code_of Unknown = 8
code_of Null = 9

-- The name of each kind.
abbrev pub kind_name : ValueKind → List ℕ
kind_name Bytes = codes "Bytes"
kind_name Str = codes "Str"
kind_name Int = codes "Int"
kind_name Uint = codes "Uint"
kind_name F64 = codes "F64"
kind_name Counter = codes "Counter"
kind_name Timestamp = codes "Timestamp"
kind_name Boolean = codes "Boolean"
kind_name Unknown = codes "Unknown"
kind_name Null = codes "Null"

-- The kinds, in the order of their numbers.
abbrev pub all_kinds : List ValueKind
all_kinds = Bytes ∷ Str ∷ Int ∷ Uint ∷ F64 ∷ Counter ∷ Timestamp ∷ Boolean ∷ Unknown ∷ Null ∷ []

-- The kind of a number; a number above 9, which no kind has, counts as that of Null.
abbrev pub kind_of : ℕ → ValueKind
kind_of n = slice_index_or all_kinds n Null

-- The kind of a value.
abbrev pub scalar_kind : ScalarValue → ValueKind
scalar_kind (scalar.Bytes s) = Bytes
scalar_kind (scalar.Str s) = Str
scalar_kind (scalar.Int n) = Int
scalar_kind (scalar.Uint n) = Uint
scalar_kind (scalar.F64 bits) = F64
scalar_kind (scalar.Counter n) = Counter
scalar_kind (scalar.Timestamp n) = Timestamp
scalar_kind (scalar.Boolean b) = Boolean
scalar_kind (scalar.Unknown code s) = Unknown
scalar_kind scalar.Null = Null
