-- Items of any width, one after the other behind a count of 32 bits. Assumes nothing.
use Rattle.std.specs.Prelude.{ℕ, zero, suc, ◌+◌, List, ◌∷◌}
use Rattle.house.specs.declared.bad.Part.{Part}
use Rattle.house.specs.Fields.{Field, any, each, le32}

-- The place of item i, where `head` is the place of the count, and `width d p` is how wide an item at place p is.
abbrev pub item_place : (List ℕ → ℕ → ℕ) → ℕ → List ℕ → ℕ → ℕ
item_place width head d zero = head + 4
item_place width head d (suc i) = item_place width head d i + width d (item_place width head d i)

-- The fields of item i, where `fields d p` are those of an item at place p.
abbrev pub item_row : (List ℕ → ℕ → List Field) → (List ℕ → ℕ → ℕ) → ℕ → List ℕ → ℕ → List Field
item_row fields width head d i = fields d (item_place width head d i)

-- The count, and the fields of as many items.
abbrev pub items_fields : Part → (List ℕ → ℕ → List Field) → (List ℕ → ℕ → ℕ) → ℕ → List ℕ → List Field
items_fields part fields width head d = any part head 4 ∷ each (item_row fields width head d) (le32 d head)
