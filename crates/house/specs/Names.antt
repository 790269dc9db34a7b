-- The names: each is a length byte, at most 32, and as many bytes of UTF-8. Assumes nothing.
use Rattle.std.specs.Prelude.{ℕ, ◌+◌, ◌≤◌, List, [], ◌∷◌}
use Rattle.measures.specs.Rfc3629.{Utf8Octets}
use Rattle.kinds.specs.declared.refusal.Refusal.TheVariants.{IllFormedText, TooLong}
use Rattle.house.specs.declared.bad.Part.TheVariants as parts
use Rattle.house.specs.Fields.{Field, byte, slice, le32}
use Rattle.house.specs.Items.{item_place, item_row, items_fields}

-- The fields of a name at a place.
abbrev pub name_fields : List ℕ → ℕ → List Field
name_fields d p =
    record { place = p; size = 1; part = parts.NameLength; rule = byte d p ≤ 32; cause = TooLong } ∷
    record { place = p + 1; size = byte d p; part = parts.NameBytes; rule = Utf8Octets (slice d (p + 1) (byte d p)); cause = IllFormedText } ∷ []

-- How many bytes a name at a place takes.
abbrev pub name_width : List ℕ → ℕ → ℕ
name_width d p = 1 + byte d p

-- How many names there are: the file begins with their count.
abbrev pub names_count : List ℕ → ℕ
names_count d = le32 d 0

-- The place of name i.
abbrev pub name_place : List ℕ → ℕ → ℕ
name_place d i = item_place name_width 0 d i

-- The bytes of name i.
abbrev pub name_at : List ℕ → ℕ → List ℕ
name_at d i = slice d (name_place d i + 1) (byte d (name_place d i))

-- The fields of name i.
abbrev pub name_row : List ℕ → ℕ → List Field
name_row d i = item_row name_fields name_width 0 d i

-- The fields of the names, with their count.
abbrev pub names_fields : List ℕ → List Field
names_fields d = items_fields parts.NamesCount name_fields name_width 0 d
