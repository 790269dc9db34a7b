-- What a file holds: its names, its values, and its records as a source means them. Assumes nothing.
use Rattle.std.specs.Prelude.{ℕ, zero, suc, ◌+◌, ◌-◌, ◌*◌, cond, ◌&&◌, List, [], ◌∷◌, ℤ, Some, None, Option, ◌==◌, nat_lt}
use Rattle.std.specs.Int.{w64}
use Rattle.std.proofs.Common.{to_z}
use Rattle.kinds.specs.declared.document.OpId.{OpId}
use Rattle.kinds.specs.declared.text.ShortStr.{ShortStr}
use Rattle.kinds.specs.declared.value.ScalarValue.{ScalarValue}
use Rattle.kinds.specs.declared.value.ScalarValue.TheVariants as scalar
use Rattle.kinds.specs.Making.{short_from, text_from}
use Rattle.sources.specs.Tags.{tag_of, action_of}
use Rattle.sources.specs.Meaning.{Entry, Meaning, plain}
use Rattle.kinds.specs.declared.kind.ValueKind.{ValueKind}
use Rattle.kinds.specs.declared.kind.ValueKind.TheVariants.{Bytes, Str, Int, Uint, F64, Counter, Timestamp, Boolean, Unknown, Null}
use Rattle.house.specs.Fields.{byte, slice, le16, le32}
use Rattle.house.specs.Names.{names_count, name_at}
use Rattle.kinds.specs.Kinds.{kind_of}
use Rattle.house.specs.Values.{values_count, value_place}
use Rattle.house.specs.Records.{none, set_action, records_count, record_place}
use Rattle.house.specs.House.{text_at}

-- The number of 64 bits at a place, its low byte first.
abbrev pub le64 : List ℕ → ℕ → ℕ
le64 d p =
    byte d p + byte d (p + 1) * 256 + byte d (p + 2) * 65536 + byte d (p + 3) * 16777216
    + byte d (p + 4) * 4294967296 + byte d (p + 5) * 1099511627776 + byte d (p + 6) * 281474976710656 + byte d (p + 7) * 72057594037927936

-- The same, with its highest bit for the sign.
abbrev pub signed_at : List ℕ → ℕ → ℤ
signed_at d p = to_z w64 (le64 d p)

-- What is made of a thing, where there is one.
abbrev pub mapped : {A B : Type 0} → (A → B) → Option A → Option B
mapped f None = None
mapped f (Some x) = Some (f x)

-- The value of a kind with a type code, whose n bytes of content stand at a place.
abbrev pub value_of : ValueKind → List ℕ → ℕ → ℕ → ℕ → Option ScalarValue
value_of Bytes d code p n = mapped scalar.Bytes (short_from (slice d p n))
value_of Str d code p n = mapped scalar.Str (text_from (slice d p n))
value_of Int d code p n = Some (scalar.Int (signed_at d p))
value_of Uint d code p n = Some (scalar.Uint (le64 d p))
value_of F64 d code p n = Some (scalar.F64 (record { bits = le64 d p }))
value_of Counter d code p n = Some (scalar.Counter (signed_at d p))
value_of Timestamp d code p n = Some (scalar.Timestamp (signed_at d p))
value_of Boolean d code p n = Some (scalar.Boolean (byte d p == 1))
value_of Unknown d code p n = mapped (scalar.Unknown code) (short_from (slice d p n))
value_of Null d code p n = Some scalar.Null

-- The value that stands at a place.
abbrev pub value_standing : List ℕ → ℕ → Option ScalarValue
value_standing d p = value_of (kind_of (byte d p)) d (byte d (p + 1)) (p + 3) (byte d (p + 2))

-- Name i, if the file has so many.
abbrev pub name_found : List ℕ → ℕ → Option ShortStr
name_found d i = cond (nat_lt i (names_count d)) (text_from (name_at d i)) None

-- Value i, if the file has so many.
abbrev pub value_found : List ℕ → ℕ → Option ScalarValue
value_found d i = cond (nat_lt i (values_count d)) (value_standing d (value_place d i)) None

-- The number that a record has for a name or a value, unless it stands for none.
abbrev pub number_given : ℕ → Option ℕ
number_given n = cond (n == none) None (Some n)

-- What is found under a number, where there is one.
abbrev pub found_by : {A : Type 0} → (ℕ → Option A) → Option ℕ → Option A
found_by find None = None
found_by find (Some n) = find n

-- The text of a record: only a Set without a value has one.
abbrev pub text_placed : List ℕ → ℕ → ℕ → ℕ → ℕ → Option (List ℕ)
text_placed text action value start len = cond (action == set_action && value == none) (Some (slice text start len)) None

-- The record that stands at a place, as row i.
abbrev pub entry_standing : List ℕ → ℕ → ℕ → Entry OpId ShortStr ScalarValue
entry_standing d i p = record {
  row = i;
  tag = tag_of (byte d p);
  action = action_of (byte d (p + 1));
  id = record { counter = le32 d (p + 8); actor = le32 d (p + 12) };
  name = found_by (name_found d) (number_given (le16 d (p + 2)));
  value = found_by (value_found d) (number_given (le16 d (p + 4)));
  text = text_placed (text_at d) (byte d (p + 1)) (le16 d (p + 4)) (le32 d (p + 16)) (le32 d (p + 20));
}

-- Record i.
abbrev pub entry_at : List ℕ → ℕ → Entry OpId ShortStr ScalarValue
entry_at d i = entry_standing d i (record_place d i)

-- So many records from record i on.
abbrev pub entries_from : List ℕ → ℕ → ℕ → List (Entry OpId ShortStr ScalarValue)
entries_from d i zero = []
entries_from d i (suc n) = entry_at d i ∷ entries_from d (i + 1) n

-- What a source over a file means that has passed `at` records: the others, at height 0, with a plain ending.
abbrev pub filed : List ℕ → ℕ → Meaning OpId ShortStr ScalarValue
filed d at = record { height = 0; records = entries_from d at (records_count d - at); ending = plain }
