-- The fields of a file follow one another.
use Rattle.std.proofs.Common.{◌≡◌, ℕ, zero, suc, ◌+◌, ◌*◌, List, [], ◌∷◌, ◌++◌, sym, refl, subst, arith}
use Rattle.house.specs.declared.bad.Part.{Part}
use Rattle.house.specs.declared.bad.Part.TheVariants as parts
use Rattle.house.specs.Fields.{Field, each, le32}
use Rattle.house.specs.Items.{item_place, item_row, items_fields}
use Rattle.house.specs.Names.{name_fields, name_width, names_fields}
use Rattle.house.specs.Values.{value_fields, value_width, values_fields, values_head}
use Rattle.house.specs.Records.{record_row, record_place, records_count, records_head, records_fields, text_head}
use Rattle.house.specs.House.{fields, end_fields, file_end}
use Rattle.house.specs.Order.{Follow}

-- two parts that meet follow one another
follow_join : (a b : List Field) (p q r : ℕ) → Follow p a q → Follow q b r → Follow p (a ++ b) r
follow_join [] b p q r x y = subst (λ n. Follow n b r) (sym x) y
follow_join (f ∷ fs) b p q r x y = (x.0, follow_join fs b (p + f.size) q r x.1 y)

-- so do rows that each lead to the next place
follow_each : (row : ℕ → List Field) (place : ℕ → ℕ) → ((k : ℕ) → Follow (place k) (row k) (place (suc k))) → (n : ℕ) → Follow (place zero) (each row n) (place n)
follow_each row place h zero = refl
follow_each row place h (suc n) = follow_join (each row n) (row n) (place zero) (place n) (place (suc n)) (follow_each row place h n) (h n)

-- and items behind their count, if the fields of each are as wide as the item
follow_items : (part : Part) (fields : List ℕ → ℕ → List Field) (width : List ℕ → ℕ → ℕ) (head : ℕ) (d : List ℕ) → ((p : ℕ) → Follow p (fields d p) (p + width d p)) → Follow head (items_fields part fields width head d) (item_place width head d (le32 d head))
follow_items part fields width head d h = (
  refl,
  follow_each (item_row fields width head d) (item_place width head d) (λ k. h (item_place width head d k)) (le32 d head),
)

module _ (d : List ℕ) where
  name_follow : (p : ℕ) → Follow p (name_fields d p) (p + name_width d p)
  name_follow p = (refl, (refl, omega arith))

  value_follow : (p : ℕ) → Follow p (value_fields d p) (p + value_width d p)
  value_follow p = (refl, (refl, (omega arith, (omega arith, omega arith))))

  record_follow : (k : ℕ) → Follow (record_place d k) (record_row d k) (record_place d (suc k))
  record_follow k = (refl, (refl, (omega arith, (omega arith, (omega arith, (omega arith, (omega arith, (omega arith, (omega arith, (omega arith, omega arith))))))))))

  first : (h : ℕ) → h + 4 + 24 * zero ≡ h + 4
  first h = omega arith

  records_follow : Follow (records_head d) (records_fields d) (text_head d)
  records_follow = (
    refl,
    subst (λ p. Follow p (each (record_row d) (records_count d)) (text_head d)) (first (records_head d)) (follow_each (record_row d) (record_place d) record_follow (records_count d)),
  )

  end_follow : Follow (text_head d) (end_fields d (text_head d)) (file_end d)
  end_follow = (refl, (refl, (refl, omega arith)))

  -- the fields of a file follow one another from its first byte to its end
  pub file_follow : Follow 0 (fields d) (file_end d)
  unfolding fields
  file_follow =
      follow_join (names_fields d) (values_fields d ++ (records_fields d ++ end_fields d (text_head d))) 0 (values_head d) (file_end d)
      (follow_items parts.NamesCount name_fields name_width 0 d name_follow)
      (follow_join (values_fields d) (records_fields d ++ end_fields d (text_head d)) (values_head d) (records_head d) (file_end d)
      (follow_items parts.ValuesCount value_fields value_width (values_head d) d value_follow)
      (follow_join (records_fields d) (end_fields d (text_head d)) (records_head d) (text_head d) (file_end d) records_follow end_follow))
