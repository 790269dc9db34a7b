-- The values: each is its kind, a type code, a length byte and as many bytes. Assumes nothing.
use Rattle.std.specs.Prelude.{◌≡◌, ℕ, ◌+◌, ◌≤◌, ◌⊎◌, List, [], ◌∷◌, length, slice_index}
use Rattle.measures.specs.Rfc3629.{Utf8Octets}
use Rattle.kinds.specs.declared.refusal.Refusal.{Refusal}
use Rattle.kinds.specs.declared.refusal.Refusal.TheVariants.{IllFormedText, Malformed, TooLong}
use Rattle.house.specs.declared.bad.Part.TheVariants as parts
use Rattle.kinds.specs.declared.kind.ValueKind.{ValueKind}
use Rattle.kinds.specs.declared.kind.ValueKind.TheVariants.{Bytes, Str, Int, Uint, F64, Counter, Timestamp, Boolean, Unknown, Null}
use Rattle.kinds.specs.Kinds.{kind_of}
use Rattle.house.specs.Fields.{Field, byte, slice, le32}
use Rattle.house.specs.Items.{item_place, item_row, items_fields}
use Rattle.house.specs.Names.{name_place, names_count}

-- Only an unknown value has a type code that is not 0.
abbrev pub CodeRule : ValueKind → ℕ → Type 0
CodeRule kind code = (kind ≡ Unknown) ⊎ (code ≡ 0)

-- How many bytes a value of a kind may have.
abbrev pub LengthOf : ValueKind → ℕ → Type 0
LengthOf Bytes n = n ≤ 32
LengthOf Str n = n ≤ 32
LengthOf Int n = n ≡ 8
LengthOf Uint n = n ≡ 8
LengthOf F64 n = n ≡ 8
LengthOf Counter n = n ≡ 8
LengthOf Timestamp n = n ≡ 8
LengthOf Boolean n = n ≡ 1
LengthOf Unknown n = n ≤ 32
LengthOf Null n = n ≡ 0

-- Why another length is refused: bytes of any number are too many, a fixed number of them is malformed.
abbrev pub length_cause : ValueKind → Refusal
length_cause Bytes = TooLong
length_cause Str = TooLong
length_cause Int = Malformed
length_cause Uint = Malformed
length_cause F64 = Malformed
length_cause Counter = Malformed
length_cause Timestamp = Malformed
length_cause Boolean = Malformed
length_cause Unknown = TooLong
length_cause Null = Malformed

-- What the bytes of a value may be: a text is UTF-8, a Boolean is 0 or 1.
abbrev pub Content : ValueKind → List ℕ → Type 0
Content Bytes b = Unit {0}
Content Str b = Utf8Octets b
Content Int b = Unit {0}
Content Uint b = Unit {0}
Content F64 b = Unit {0}
Content Counter b = Unit {0}
Content Timestamp b = Unit {0}
Content Boolean b = (length b ≡ 1) × (slice_index b 0 ≤ 1)
Content Unknown b = Unit {0}
Content Null b = Unit {0}

-- Why other bytes are refused.
abbrev pub content_cause : ValueKind → Refusal
content_cause Bytes = Malformed
content_cause Str = IllFormedText
content_cause Int = Malformed
content_cause Uint = Malformed
content_cause F64 = Malformed
content_cause Counter = Malformed
content_cause Timestamp = Malformed
content_cause Boolean = Malformed
content_cause Unknown = Malformed
content_cause Null = Malformed

-- The fields of a value at a place, by its kind.
abbrev pub kind_fields : ValueKind → List ℕ → ℕ → List Field
kind_fields kind d p =
    record { place = p; size = 1; part = parts.ValueKind; rule = byte d p ≤ 9; cause = Malformed } ∷
    record { place = p + 1; size = 1; part = parts.TypeCode; rule = CodeRule kind (byte d (p + 1)); cause = Malformed } ∷
    record { place = p + 2; size = 1; part = parts.ValueLength; rule = LengthOf kind (byte d (p + 2)); cause = length_cause kind } ∷
    record { place = p + 3; size = byte d (p + 2); part = parts.ValueBytes; rule = Content kind (slice d (p + 3) (byte d (p + 2))); cause = content_cause kind } ∷ []

-- The fields of a value at a place.
abbrev pub value_fields : List ℕ → ℕ → List Field
value_fields d p = kind_fields (kind_of (byte d p)) d p

-- How many bytes a value at a place takes.
abbrev pub value_width : List ℕ → ℕ → ℕ
value_width d p = 3 + byte d (p + 2)

-- The place of the count of the values: behind the names.
abbrev pub values_head : List ℕ → ℕ
values_head d = name_place d (names_count d)

-- How many values there are.
abbrev pub values_count : List ℕ → ℕ
values_count d = le32 d (values_head d)

-- The place of value i.
abbrev pub value_place : List ℕ → ℕ → ℕ
value_place d i = item_place value_width (values_head d) d i

-- The kind of value i.
abbrev pub kind_at : List ℕ → ℕ → ValueKind
kind_at d i = kind_of (byte d (value_place d i))

-- The fields of value i.
abbrev pub value_row : List ℕ → ℕ → List Field
value_row d i = item_row value_fields value_width (values_head d) d i

-- The fields of the values, with their count.
abbrev pub values_fields : List ℕ → List Field
values_fields d = items_fields parts.ValuesCount value_fields value_width (values_head d) d
