-- What is answered about a record of a file. Assumes nothing.
use Rattle.std.specs.Prelude.{ℕ, ◌+◌, cond, ◌&&◌, List, Some, None, Option, ◌==◌, nat_lt}
use Rattle.sources.specs.declared.table.TextPlace.{TextPlace}
use Rattle.kinds.specs.Making.{text_from}
use Rattle.kinds.specs.declared.text.ShortStr.{ShortStr}
use Rattle.house.specs.Fields.{byte, slice, le16, le32}
use Rattle.house.specs.Records.{none, set_action, records_count, record_place}
use Rattle.house.specs.Held.{number_given}
use Rattle.sources.specs.Tags.{tag_of, action_of}
use Rattle.file.specs.declared.fields.FileRecord.{FileRecord}

-- The place of a record's text: only a Set without a value has one.
abbrev pub place_given : ℕ → ℕ → ℕ → ℕ → Option TextPlace
place_given action value start len = cond (action == set_action && value == none) (Some (record { start = start; len = len })) None

-- The name that stands at a place.
abbrev pub name_standing : List ℕ → ℕ → Option ShortStr
name_standing d p = text_from (slice d (p + 1) (byte d p))

-- The record that stands at a place.
abbrev pub record_standing : List ℕ → ℕ → FileRecord
record_standing d p = record {
  tag = tag_of (byte d p);
  action = action_of (byte d (p + 1));
  name = number_given (le16 d (p + 2));
  value = number_given (le16 d (p + 4));
  id = record { counter = le32 d (p + 8); actor = le32 d (p + 12) };
  text = place_given (byte d (p + 1)) (le16 d (p + 4)) (le32 d (p + 16)) (le32 d (p + 20));
}

-- Record i, if the file has so many.
abbrev pub record_found : List ℕ → ℕ → Option FileRecord
record_found d i = cond (nat_lt i (records_count d)) (Some (record_standing d (record_place d i))) None
