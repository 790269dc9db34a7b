-- What is meant by a good file, in the words of the format. Assumes nothing.
use Rattle.std.specs.Prelude.{◌≡◌, ℕ, ◌+◌, ◌<◌, ◌≤◌, cond, List, [], ◌∷◌, length, Some, None, ◌≢◌}
use Rattle.kinds.specs.declared.text.ShortStr.{ShortStr}
use Rattle.kinds.specs.declared.value.ScalarValue.{ScalarValue}
use Rattle.kinds.specs.declared.value.ScalarValue.TheVariants.{Bytes, Str, Int, Uint, F64, Counter, Timestamp, Boolean, Unknown, Null}
use Rattle.kinds.specs.Contents.{content}
use Rattle.kinds.specs.Names.{spelled}
use Rattle.kinds.specs.Values.{kind_number}
use Rattle.sources.specs.Tags.{tag_number, action_number}
use Rattle.house.specs.Fields.{AllGood, byte, slice, le16, le32}
use Rattle.house.specs.Names.{names_count, name_at}
use Rattle.house.specs.Values.{values_count, value_place}
use Rattle.house.specs.Records.{none, HasText, records_count, record_place, text_count}
use Rattle.house.specs.House.{fields, text_at}
use Rattle.house.specs.Held.{le64, signed_at, name_found, value_found, entry_at}

-- A value is written as these bytes of content, with this type code.
abbrev pub Written : ScalarValue → ℕ → List ℕ → Type 0
Written (Bytes s) code b = content s ≡ b
Written (Str s) code b = spelled s ≡ b
Written (Int n) code b = (length b ≡ 8) × (n ≡ signed_at b 0)
Written (Uint n) code b = (length b ≡ 8) × (n ≡ le64 b 0)
Written (F64 f) code b = (length b ≡ 8) × (f.bits ≡ le64 b 0)
Written (Counter n) code b = (length b ≡ 8) × (n ≡ signed_at b 0)
Written (Timestamp n) code b = (length b ≡ 8) × (n ≡ signed_at b 0)
Written (Boolean t) code b = b ≡ cond t 1 0 ∷ []
Written (Unknown c s) code b = (c ≡ code) × (content s ≡ b)
Written Null code b = b ≡ []

-- Name i spells the bytes that stand in the file.
abbrev pub NameHeld : List ℕ → ℕ → Type 0
NameHeld d i = (s : ShortStr) × (name_found d i ≡ Some s) × (spelled s ≡ name_at d i)

-- Value i is of the kind, and is written as the bytes, that stand in the file.
abbrev pub ValueHeld : List ℕ → ℕ → Type 0
ValueHeld d i =
    let p = value_place d i in
    (v : ScalarValue) × (value_found d i ≡ Some v) × (kind_number v ≡ byte d p) × Written v (byte d (p + 1)) (slice d (p + 3) (byte d (p + 2)))

-- Record i, whose bytes stand at place p, has that tag and action, that name and value or none, and that text or none.
pub record RecordHeld (d : List ℕ) (i p : ℕ) : Type 0 where
  pub tag : tag_number (entry_at d i).tag ≡ byte d p
  pub action : action_number (entry_at d i).action ≡ byte d (p + 1)
  pub no_name : le16 d (p + 2) ≡ none → (entry_at d i).name ≡ None
  pub name : (le16 d (p + 2) ≢ none) → (le16 d (p + 2) < names_count d) × ((entry_at d i).name ≡ name_found d (le16 d (p + 2)))
  pub no_value : le16 d (p + 4) ≡ none → (entry_at d i).value ≡ None
  pub value : (le16 d (p + 4) ≢ none) → (le16 d (p + 4) < values_count d) × ((entry_at d i).value ≡ value_found d (le16 d (p + 4)))
  pub text : HasText (byte d (p + 1)) (le16 d (p + 4)) → (le32 d (p + 16) + le32 d (p + 20) ≤ text_count d) × ((entry_at d i).text ≡ Some (slice (text_at d) (le32 d (p + 16)) (le32 d (p + 20))))
  pub no_text : (HasText (byte d (p + 1)) (le16 d (p + 4)) → ⊥) → (entry_at d i).text ≡ None

-- All names, values and records of a file are held as they stand.
pub record Holds (d : List ℕ) : Type 0 where
  pub names : (i : ℕ) → i < names_count d → NameHeld d i
  pub values : (i : ℕ) → i < values_count d → ValueHeld d i
  pub records : (i : ℕ) → i < records_count d → RecordHeld d i (record_place d i)
  pub text : length (text_at d) ≡ text_count d

-- So it is with every good file.
abbrev pub GoodFilesHold : Type 0
GoodFilesHold = (d : List ℕ) → AllGood d (fields d) → Holds d
