-- Where the items of a section stand, that ends within its file.
use Rattle.std.proofs.Common.{◌≡◌, ℕ, ◌+◌, ◌*◌, ◌<◌, ◌≤◌, List, length, subst, ap, ◌∙◌, arith}
use Rattle.house.specs.Fields.{AllGood}
use Rattle.house.specs.Items.{item_place}
use Rattle.house.proofs.Bounds.{item_within}
use Rattle.house.specs.Values.{value_width, values_head, values_count, values_fields}
use Rattle.house.specs.Records.{records_head, records_count, records_fields, text_head}

module _ (width : List ℕ → ℕ → ℕ) (head : ℕ) (d : List ℕ) (n end : ℕ) (ended : end ≡ item_place width head d n) (within : end ≤ length d) where
  -- an item ends within the file
  pub item_reached : (i : ℕ) → i < n → item_place width head d i + width d (item_place width head d i) ≤ length d
  item_reached i h = let a = item_within width head d i n h in omega (arith, a, ended, within)

  -- and begins there
  pub item_begun : (i at : ℕ) → i < n → at ≡ item_place width head d i → at ≤ length d
  item_begun i at h e = let a = item_reached i h in omega (arith, a, e)

-- the values end where the records' count stands
pub values_end : (b d : List ℕ) (at count : ℕ) → b ≡ d → count ≡ values_count b → at ≡ item_place value_width (values_head b) b count → at ≡ records_head d
values_end b d at count same counted ended = ended ∙ ap (item_place value_width (values_head b) b) counted ∙ ap records_head same

-- values and records that are good, and the text's count behind them, where the bytes that were read are the file's
pub read_good : (d b v : List ℕ) (end count records text : ℕ) → b ≡ d → v ≡ b → AllGood b (values_fields b) → AllGood v (records_fields v) → count ≡ values_count v → end ≡ item_place value_width (values_head v) v count → records ≡ records_count v → text ≡ end + (4 + 24 * records) → AllGood d (values_fields d) × AllGood d (records_fields d) × (text ≡ text_head d)
read_good d b v end count records text same next values rows counted ended n at =
    let whole = next ∙ same in
    let head = values_end v d end count whole counted ended in
    let all : records ≡ records_count d = n ∙ ap records_count whole in
    (subst (λ x. AllGood x (values_fields x)) same values, subst (λ x. AllGood x (records_fields x)) whole rows, omega (arith, head, all, at))
