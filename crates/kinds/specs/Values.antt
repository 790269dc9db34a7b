-- The values of the document kind: their kinds, and when two are equal. Assumes nothing.
use Rattle.std.specs.Prelude.{ℕ, Bool, cond, ◌&&◌, List, [], ◌∷◌, ℤ, pos, negsuc, ◌==◌}
use Rattle.std.specs.Str.{bytes_eq}
use Rattle.kinds.specs.Contents.{content}
use Rattle.kinds.specs.Floats.{one_zero}
use Rattle.kinds.specs.Names.{spelled}
use Rattle.kinds.specs.declared.value.ScalarValue.{ScalarValue}
use Rattle.kinds.specs.declared.value.ScalarValue.TheVariants.{Bytes, Str, Int, Uint, F64, Counter, Timestamp, Boolean, Unknown, Null}

-- The number of each kind of value.
abbrev pub kind_number : ScalarValue → ℕ
kind_number (Bytes s) = 0
kind_number (Str s) = 1
kind_number (Int n) = 2
kind_number (Uint n) = 3
kind_number (F64 f) = 4
kind_number (Counter n) = 5
kind_number (Timestamp n) = 6
kind_number (Boolean b) = 7
kind_number (Unknown code s) = 8
kind_number Null = 9

-- The value, with the sign of a zero left out.
abbrev pub unsigned_zero : ScalarValue → ScalarValue
unsigned_zero (Bytes s) = Bytes s
unsigned_zero (Str s) = Str s
unsigned_zero (Int n) = Int n
unsigned_zero (Uint n) = Uint n
unsigned_zero (F64 f) = F64 (record { bits = one_zero f.bits })
unsigned_zero (Counter n) = Counter n
unsigned_zero (Timestamp n) = Timestamp n
unsigned_zero (Boolean b) = Boolean b
unsigned_zero (Unknown code s) = Unknown code s
unsigned_zero Null = Null

-- A signed number: its side of zero, and how far.
abbrev pub sided : ℤ → List ℕ
sided (pos n) = 0 ∷ n ∷ []
sided (negsuc n) = 1 ∷ n ∷ []

-- The content of a value, as far as it is compared.
abbrev pub compared : ScalarValue → List ℕ
compared (Bytes s) = content s
compared (Str s) = spelled s
compared (Int n) = sided n
compared (Uint n) = n ∷ []
compared (F64 f) = one_zero f.bits ∷ []
compared (Counter n) = sided n
compared (Timestamp n) = sided n
compared (Boolean b) = cond b 1 0 ∷ []
compared (Unknown code s) = code ∷ content s
compared Null = []

-- Values are equal where they are of one kind and of one content.
abbrev pub value_equal : ScalarValue → ScalarValue → Bool
value_equal x y = kind_number x == kind_number y && bytes_eq (compared x) (compared y)
