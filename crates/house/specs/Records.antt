-- The records, 24 bytes each, and the rules that their fields keep. Assumes nothing.
use Rattle.std.specs.Prelude.{◌≡◌, ℕ, ◌+◌, ◌*◌, ◌<◌, ◌≤◌, ◌⊎◌, List, [], ◌∷◌, ◌++◌, length, ◌≢◌}
use Rattle.kinds.specs.declared.refusal.Refusal.TheVariants.{Malformed}
use Rattle.house.specs.declared.bad.Part.TheVariants as parts
use Rattle.kinds.specs.declared.kind.ValueKind.TheVariants.{Str}
use Rattle.house.specs.Fields.{Field, byte, le16, le32, any, each}
use Rattle.house.specs.Names.{names_count}
use Rattle.house.specs.Values.{value_place, values_count, kind_at}

-- The name or value number that stands for none.
abbrev pub none : ℕ
none = 65535

-- The action Set.
abbrev pub set_action : ℕ
set_action = 3

-- The action Mark.
abbrev pub mark_action : ℕ
mark_action = 7

-- The place of the count of the records: behind the values.
abbrev pub records_head : List ℕ → ℕ
records_head d = value_place d (values_count d)

-- How many records there are.
abbrev pub records_count : List ℕ → ℕ
records_count d = le32 d (records_head d)

-- The place of record i.
abbrev pub record_place : List ℕ → ℕ → ℕ
record_place d i = records_head d + 4 + 24 * i

-- The place of the count of the text's bytes: behind the records.
abbrev pub text_head : List ℕ → ℕ
text_head d = record_place d (records_count d)

-- How many bytes the text has.
abbrev pub text_count : List ℕ → ℕ
text_count d = le32 d (text_head d)

-- A number is within the text, where the file reaches the text's count.
abbrev pub Within : List ℕ → ℕ → Type 0
Within d n = text_head d + 4 ≤ length d → n ≤ text_count d

-- A Mark with a name.
abbrev pub NamedMark : ℕ → ℕ → Type 0
NamedMark action name = (action ≡ mark_action) × (name ≢ none)

-- A Set without a value has a text.
abbrev pub HasText : ℕ → ℕ → Type 0
HasText action value = (action ≡ set_action) × (value ≡ none)

-- Only a Mark has a name.
abbrev pub NameRule : List ℕ → ℕ → ℕ → Type 0
NameRule d action name = (name ≡ none) ⊎ ((action ≡ mark_action) × (name < names_count d))

-- A named Mark has a value; a Set may have one that is not a text; nothing else has one.
abbrev pub ValueRule : List ℕ → ℕ → ℕ → ℕ → Type 0
ValueRule d action name value =
    ((value ≡ none) × (NamedMark action name → ⊥)) ⊎
    ((value ≢ none) × (value < values_count d) × (NamedMark action name ⊎ ((action ≡ set_action) × (kind_at d value ≢ Str))))

-- A text begins within the text of the file; where there is none the start is 0.
abbrev pub StartRule : List ℕ → ℕ → ℕ → ℕ → Type 0
StartRule d action value start = (HasText action value × Within d start) ⊎ ((HasText action value → ⊥) × (start ≡ 0))

-- A text ends within the text of the file; where there is none the length is 0.
abbrev pub LengthRule : List ℕ → ℕ → ℕ → ℕ → ℕ → Type 0
LengthRule d action value start len = (HasText action value × Within d (start + len)) ⊎ ((HasText action value → ⊥) × (len ≡ 0))

-- Tag, action, name number and value number of a record at a place.
abbrev pub link_fields : List ℕ → ℕ → List Field
link_fields d p =
    record { place = p; size = 1; part = parts.Tag; rule = byte d p ≤ 2; cause = Malformed } ∷
    record { place = p + 1; size = 1; part = parts.Action; rule = byte d (p + 1) ≤ 7; cause = Malformed } ∷
    record { place = p + 2; size = 2; part = parts.NameNumber; rule = NameRule d (byte d (p + 1)) (le16 d (p + 2)); cause = Malformed } ∷
    record { place = p + 4; size = 2; part = parts.ValueNumber; rule = ValueRule d (byte d (p + 1)) (le16 d (p + 2)) (le16 d (p + 4)); cause = Malformed } ∷ []

-- Its two zero bytes, counter and actor.
abbrev pub id_fields : List ℕ → ℕ → List Field
id_fields d p =
    record { place = p + 6; size = 1; part = parts.FirstZero; rule = byte d (p + 6) ≡ 0; cause = Malformed } ∷
    record { place = p + 7; size = 1; part = parts.SecondZero; rule = byte d (p + 7) ≡ 0; cause = Malformed } ∷
    any parts.Counter (p + 8) 4 ∷
    any parts.Actor (p + 12) 4 ∷ []

-- The start and the length of its text.
abbrev pub text_fields : List ℕ → ℕ → List Field
text_fields d p =
    record { place = p + 16; size = 4; part = parts.TextStart; rule = StartRule d (byte d (p + 1)) (le16 d (p + 4)) (le32 d (p + 16)); cause = Malformed } ∷
    record { place = p + 20; size = 4; part = parts.TextLength; rule = LengthRule d (byte d (p + 1)) (le16 d (p + 4)) (le32 d (p + 16)) (le32 d (p + 20)); cause = Malformed } ∷ []

-- The fields of a record at a place.
abbrev pub record_fields : List ℕ → ℕ → List Field
record_fields d p = link_fields d p ++ (id_fields d p ++ text_fields d p)

-- The fields of record i.
abbrev pub record_row : List ℕ → ℕ → List Field
record_row d i = record_fields d (record_place d i)

-- The fields of the records, with their count.
abbrev pub records_fields : List ℕ → List Field
records_fields d = any parts.RecordsCount (records_head d) 4 ∷ each (record_row d) (records_count d)
