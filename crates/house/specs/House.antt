-- A whole file: names, values, records and text, each behind its count, and nothing behind the text. Assumes nothing.
use Rattle.std.specs.Prelude.{◌≡◌, ℕ, ◌+◌, List, [], ◌∷◌, ◌++◌, length}
use Rattle.kinds.specs.declared.refusal.Refusal.TheVariants.{Malformed}
use Rattle.house.specs.declared.bad.Part.TheVariants as parts
use Rattle.house.specs.Fields.{Field, slice, le32, any}
use Rattle.house.specs.Names.{names_fields}
use Rattle.house.specs.Values.{values_fields}
use Rattle.house.specs.Records.{records_fields, text_head, text_count}

-- The place of the text.
abbrev pub text_place : List ℕ → ℕ
text_place d = text_head d + 4

-- The place where the text ends.
abbrev pub file_end : List ℕ → ℕ
file_end d = text_place d + text_count d

-- The bytes of the text.
abbrev pub text_at : List ℕ → List ℕ
text_at d = slice d (text_place d) (text_count d)

-- The text's count at a place, the text, and the end of the file.
abbrev pub end_fields : List ℕ → ℕ → List Field
end_fields d p =
    any parts.TextCount p 4 ∷
    any parts.Text (p + 4) (le32 d p) ∷
    record { place = p + 4 + le32 d p; size = 0; part = parts.End; rule = p + 4 + le32 d p ≡ length d; cause = Malformed } ∷ []

-- The fields of a file.
unfoldable pub fields : List ℕ → List Field
fields d = names_fields d ++ (values_fields d ++ (records_fields d ++ end_fields d (text_head d)))
