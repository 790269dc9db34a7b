-- When two values are equal. Assumes nothing.
use Rattle.std.specs.Prelude.{◌≡◌, ℕ, Bool, ◌&&◌, Decides}
use Rattle.std.proofs.Common.{sym, ap, ◌∙◌}
use Rattle.std.proofs.lemmas.Slice.Eq.{bytes_eq-Decides}
use Rattle.std.proofs.lemmas.Bool.{eq-eqb}
use Rattle.std.proofs.lemmas.Bool.Decides.{Decides-and, Decides-eqb, Decides-like, same_from_decides}
use Rattle.std.specs.Str.{bytes_eq}
use Rattle.kinds.specs.declared.short.ShortBytes.{ShortBytes}
use Rattle.kinds.specs.declared.text.ShortStr.{ShortStr}
use Rattle.kinds.specs.declared.value.ScalarValue.{ScalarValue}
use Rattle.kinds.specs.declared.value.ScalarValue.TheVariants.{Unknown}
use Rattle.kinds.specs.Contents.{content}
use Rattle.kinds.specs.Names.{spelled}
use Rattle.kinds.specs.ContentsLemmas.{same_bytes}
use Rattle.kinds.specs.Spellings.{same_text}
use Rattle.kinds.specs.Values.{kind_number, compared, value_equal}

-- Equal values are of one kind and one content, and no others are.
pub equal_decides : (x y : ScalarValue) → Decides (value_equal x y) ((kind_number x ≡ kind_number y) × (compared x ≡ compared y))
equal_decides x y =
    Decides-and _ _ (Decides-eqb (kind_number x) (kind_number y)) (bytes_eq-Decides (compared x) (compared y))

-- A test of short bytes tests their content.
pub content_test : (a b : ShortBytes) (r : Bool) → Decides r (a ≡ b) → r ≡ bytes_eq (content a) (content b)
content_test a b r h =
    same_from_decides r _ h (Decides-like _ (same_bytes a b) (λ e. ap content e) (bytes_eq-Decides (content a) (content b)))

-- A test of short texts tests what they spell.
pub spelling_test : (a b : ShortStr) (r : Bool) → Decides r (a ≡ b) → r ≡ bytes_eq (spelled a) (spelled b)
spelling_test a b r h =
    same_from_decides r _ h (Decides-like _ (same_text a b) (λ e. ap spelled e) (bytes_eq-Decides (spelled a) (spelled b)))

-- Under equal type codes a test of the contents tests the unknown values.
pub unknown_test : (m n : ℕ) (a b : ShortBytes) (r : Bool) → m ≡ n → Decides r (a ≡ b) → r ≡ value_equal (Unknown m a) (Unknown n b)
unknown_test m n a b r p h = content_test a b r h ∙ sym (ap (λ t. t && bytes_eq (content a) (content b)) (eq-eqb m n p))
