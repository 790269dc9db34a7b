-- Items, records and text lie within a file that ends where its text does.
use Rattle.std.proofs.Common.{◌≡◌, ℕ, zero, suc, ◌+◌, ◌-◌, ◌*◌, ◌<◌, ◌≤◌, List, length, refl, subst, suc-add, zero-add, arith}
use Rattle.house.specs.Items.{item_place}
use Rattle.house.specs.Names.{name_width, name_place, names_count}
use Rattle.house.specs.Values.{value_width, value_place, values_head, values_count}
use Rattle.house.specs.Records.{record_place, records_head, records_count, text_count}
use Rattle.house.specs.House.{text_place, file_end}

module _ (width : List ℕ → ℕ → ℕ) (head : ℕ) (d : List ℕ) where
  abbrev place : ℕ → ℕ
  place i = item_place width head d i

  grows : (j k : ℕ) → place k ≤ place (j + k)
  grows zero k = rw (zero-add k) (omega arith)
  grows (suc j) k = let h : place k ≤ place (j + k) = grows j k in rw (suc-add j k) (omega (arith, h))

  -- the places of items ascend
  pub ascends : (k n : ℕ) → k ≤ n → place k ≤ place n
  ascends k n h =
      let same : (n - k) + k ≡ n = omega arith in
      subst (λ m. place k ≤ place m) same (grows (n - k) k)

  -- an item ends at or before the place behind all of them
  pub item_within : (k n : ℕ) → k < n → place k + width d (place k) ≤ place n
  item_within k n h = ascends (suc k) n h

  -- which is behind their count
  pub head_within : (n : ℕ) → head + 4 ≤ place n
  head_within n = ascends zero n (omega arith)

  -- the same, of the first item
  pub first_place : place zero ≡ head + 4
  first_place = refl

-- the places of the sections, one after the other
chain : (v r c : ℕ) (t n : ℕ) → v + 4 ≤ r → r + 4 + 24 * c + 4 + t ≡ n → (v + 4 ≤ n) × (r + 4 ≤ n) × (r + 4 + 24 * c + 4 ≤ n)
chain v r c t n a b = (omega arith, omega arith, omega arith)

module _ (d : List ℕ) (whole : file_end d ≡ length d) where
  -- the counts of the values, the records and the text are within the file
  pub counts_within : (values_head d + 4 ≤ length d) × (records_head d + 4 ≤ length d) × (text_place d ≤ length d)
  counts_within = chain (values_head d) (records_head d) (records_count d) (text_count d) (length d) (head_within value_width (values_head d) d (values_count d)) whole

  -- name i is within the file
  pub name_within : (i : ℕ) → i < names_count d → name_place d i + name_width d (name_place d i) ≤ length d
  name_within i h = let a = item_within name_width 0 d i (names_count d) h in let b = counts_within.0 in omega (arith, a, b)

  -- value i is within the file
  pub value_within : (i : ℕ) → i < values_count d → value_place d i + value_width d (value_place d i) ≤ length d
  value_within i h = let a = item_within value_width (values_head d) d i (values_count d) h in let b = counts_within.1 in omega (arith, a, b)

  -- record i is within the file
  pub record_within : (i : ℕ) → i < records_count d → record_place d i + 24 ≤ length d
  record_within i h = let b = counts_within.2 in before (records_head d) i (records_count d) (length d) h b
    where
      before : (r i c n : ℕ) → i < c → r + 4 + 24 * c + 4 ≤ n → r + 4 + 24 * i + 24 ≤ n
      before r i c n h b = omega arith

  -- the text is what is left of the file
  pub text_within : text_place d + text_count d ≡ length d
  text_within = whole
