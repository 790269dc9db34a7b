-- Values are equal exactly where they are the same once a zero has lost its sign. Assumes nothing.
use Rattle.std.specs.Prelude.{◌≡◌, ℕ, ℤ, pos, negsuc, Bool, [], ◌∷◌, ◌&&◌, true, false, nat_eq, Decides, refl}
use Rattle.std.proofs.Common.{ap, ◌∙◌}
use Rattle.std.proofs.lemmas.Bool.Decides.{Decides-and, Decides-eqb, Decides-int_eq, Decides-like, same_from_decides}
use Rattle.std.proofs.lemmas.Slice.Eq.{bytes_eq-Decides}
use Rattle.std.specs.Str.{bytes_eq}
use Rattle.std.specs.Cmp.{booleans_Decides}
use Rattle.std.specs.Ordering.{int_eq}
use Rattle.kinds.specs.declared.value.ScalarValue.{ScalarValue}
use Rattle.kinds.specs.declared.value.ScalarValue.TheVariants.{Bytes, Str, Int, Uint, F64, Counter, Timestamp, Boolean, Unknown, Null}
use Rattle.kinds.specs.contracts.value.ScalarValuePartialEq.TheImpl.{eq-value}
use Rattle.kinds.specs.ContentsLemmas.{held_test}
use Rattle.kinds.specs.Equalities.{content_test, spelling_test}
use Rattle.kinds.specs.Spellings.{text_test}
use Rattle.kinds.specs.Values.{unsigned_zero, sided, value_equal}

-- The test that `==` makes.
abbrev pub equal : ScalarValue → ScalarValue → Bool
equal = eq-value.it

-- The bits of a float, and 0 of others.
abbrev bits_of : ScalarValue → ℕ
bits_of (F64 f) = f.bits
bits_of x = 0

-- It answers yes exactly of those that are the same without the sign of a zero.
pub equal_when_plain : (x y : ScalarValue) → Decides (equal x y) (unsigned_zero x ≡ unsigned_zero y)
equal_when_plain (Bytes a) (Bytes b) = Decides-like _ (λ e. ap Bytes e) (λ e. cc) (held_test a b)
equal_when_plain (Str a) (Str b) = Decides-like _ (λ e. ap Str e) (λ e. cc) (text_test a b)
equal_when_plain (Int m) (Int n) = Decides-like _ (λ e. ap Int e) (λ e. cc) (Decides-int_eq m n)
equal_when_plain (Uint m) (Uint n) = Decides-like _ (λ e. ap Uint e) (λ e. cc) (Decides-eqb m n)
equal_when_plain (F64 f) (F64 g) = Decides-like _ (λ e. ap (λ b. F64 (record { bits = b })) e) (λ e. ap bits_of e) (Decides-eqb _ _)
equal_when_plain (Counter m) (Counter n) = Decides-like _ (λ e. ap Counter e) (λ e. cc) (Decides-int_eq m n)
equal_when_plain (Timestamp m) (Timestamp n) = Decides-like _ (λ e. ap Timestamp e) (λ e. cc) (Decides-int_eq m n)
equal_when_plain (Boolean a) (Boolean b) = Decides-like _ (λ e. ap Boolean e) (λ e. cc) (booleans_Decides a b)
equal_when_plain (Unknown m a) (Unknown n b) = Decides-like _ (λ e. ap (λ c. Unknown c a) e.0 ∙ ap (λ s. Unknown n s) e.1) (λ e. (cc, cc)) (Decides-and _ _ (Decides-eqb m n) (held_test a b))
equal_when_plain Null Null = (λ e. refl, λ e. refl)
equal_when_plain x y = (λ e. cc, λ e. cc)

-- A signed number is known by its side and how far it is from zero,
sided_once : (m n : ℤ) → sided m ≡ sided n → m ≡ n
sided_once (pos m) (pos n) e = cc
sided_once (negsuc m) (negsuc n) e = cc
sided_once m n e = cc

-- so comparing those is comparing it,
signed_test : (m n : ℤ) → int_eq m n ≡ bytes_eq (sided m) (sided n)
signed_test m n =
    same_from_decides _ _ (Decides-int_eq m n) (Decides-like _ (sided_once m n) (λ e. ap sided e) (bytes_eq-Decides (sided m) (sided n)))

-- and comparing a list of one number is comparing the number.
number_test : (m n : ℕ) → nat_eq m n ≡ bytes_eq (m ∷ []) (n ∷ [])
number_test m n =
    same_from_decides _ _ (Decides-eqb m n) (Decides-like _ (λ e. cc) (λ e. ap (λ k. k ∷ []) e) (bytes_eq-Decides (m ∷ []) (n ∷ [])))

-- It is the test of kinds and contents.
pub equal_as_compared : (x y : ScalarValue) → equal x y ≡ value_equal x y
equal_as_compared (Bytes a) (Bytes b) = content_test a b _ (held_test a b)
equal_as_compared (Str a) (Str b) = spelling_test a b _ (text_test a b)
equal_as_compared (Int m) (Int n) = signed_test m n
equal_as_compared (Uint m) (Uint n) = number_test m n
equal_as_compared (F64 f) (F64 g) = number_test _ _
equal_as_compared (Counter m) (Counter n) = signed_test m n
equal_as_compared (Timestamp m) (Timestamp n) = signed_test m n
equal_as_compared (Boolean true) (Boolean true) = refl
equal_as_compared (Boolean false) (Boolean false) = refl
equal_as_compared (Unknown m a) (Unknown n b) = ap (λ t. nat_eq m n && t) (content_test a b _ (held_test a b))
equal_as_compared Null Null = refl
equal_as_compared x y = refl
