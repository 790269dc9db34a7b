-- The four sections of a file, one after the other.
use Rattle.std.proofs.Common.{ℕ, List, ◌++◌}
use Rattle.house.specs.declared.bad.BadFile.{BadFile}
use Rattle.house.specs.Fields.{Field, AllGood, FirstBad}
use Rattle.house.specs.Names.{names_fields}
use Rattle.house.specs.Values.{values_fields}
use Rattle.house.specs.Records.{records_fields, text_head}
use Rattle.house.specs.House.{end_fields, fields}
use Rattle.house.proofs.Rows.{good_join, good_front, good_behind, bad_front, bad_behind}

module _ (d : List ℕ) where
  abbrev ending : List Field
  ending = end_fields d (text_head d)

  abbrev from_records : List Field
  from_records = records_fields d ++ ending

  abbrev from_values : List Field
  from_values = values_fields d ++ from_records

  -- the first bad field of a section is that of the file, if the sections before it are good
  pub bad_names : (e : BadFile) → FirstBad d (names_fields d) e → FirstBad d (fields d) e
  unfolding fields
  bad_names e x = bad_front d (names_fields d) from_values e x

  pub bad_values : (e : BadFile) → AllGood d (names_fields d) → FirstBad d (values_fields d) e → FirstBad d (fields d) e
  unfolding fields
  bad_values e n x = bad_behind d (names_fields d) from_values e n (bad_front d (values_fields d) from_records e x)

  pub bad_records : (e : BadFile) → AllGood d (names_fields d) → AllGood d (values_fields d) → FirstBad d (records_fields d) e → FirstBad d (fields d) e
  unfolding fields
  bad_records e n v x =
      bad_behind d (names_fields d) from_values e n
      (bad_behind d (values_fields d) from_records e v (bad_front d (records_fields d) ending e x))

  pub bad_end : (e : BadFile) → AllGood d (names_fields d) → AllGood d (values_fields d) → AllGood d (records_fields d) → FirstBad d (end_fields d (text_head d)) e → FirstBad d (fields d) e
  unfolding fields
  bad_end e n v r x =
      bad_behind d (names_fields d) from_values e n
      (bad_behind d (values_fields d) from_records e v (bad_behind d (records_fields d) ending e r x))

  -- a file is good if its sections are
  pub all_good : AllGood d (names_fields d) → AllGood d (values_fields d) → AllGood d (records_fields d) → AllGood d (end_fields d (text_head d)) → AllGood d (fields d)
  unfolding fields
  all_good n v r x =
      good_join d (names_fields d) from_values n
      (good_join d (values_fields d) from_records v (good_join d (records_fields d) ending r x))

  -- and the sections of a good file are good
  pub good_names : AllGood d (fields d) → AllGood d (names_fields d)
  unfolding fields
  good_names x = good_front d (names_fields d) from_values x

  pub good_values : AllGood d (fields d) → AllGood d (values_fields d)
  unfolding fields
  good_values x = good_front d (values_fields d) from_records (good_behind d (names_fields d) from_values x)

  pub good_records : AllGood d (fields d) → AllGood d (records_fields d)
  unfolding fields
  good_records x = good_front d (records_fields d) ending (good_behind d (values_fields d) from_records (good_behind d (names_fields d) from_values x))

  pub good_end : AllGood d (fields d) → AllGood d (end_fields d (text_head d))
  unfolding fields
  good_end x = good_behind d (records_fields d) ending (good_behind d (values_fields d) from_records (good_behind d (names_fields d) from_values x))
