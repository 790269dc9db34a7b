-- The order of names by their bytes: a total order, in which only equal names tie. Assumes nothing.
use Rattle.std.specs.Prelude.{◌≡◌, ℕ, ◌<◌, true, false, ◌&&◌, Decides, nat_eq, List, [], ◌∷◌, refl}
use Rattle.std.specs.declared.cmp.Ordering.TheVariants.{Less, Equal, Greater}
use Rattle.std.specs.declared.cmp.Ordering.{Ordering}
use Rattle.std.proofs.Common.{sym, ap, ◌∙◌, arith}
use Rattle.std.specs.Ordering.{MatchOrdering, nat_cmp, ordering_then, is_eq, on}
use Rattle.std.specs.Cmp.{ranked as numbers_ranked}
use Rattle.std.specs.Cmp.Lexicographic.{slice_cmp, pointwise}
use Rattle.std.proofs.lemmas.Bool.Decides.{nat_tests, Decides-like, same_from_decides}
use denote.Struct.Record.{values_one}
use Rattle.kinds.specs.declared.text.ShortStr.{ShortStr}
use Rattle.kinds.specs.contracts.short.ShortBytes.{the_row}
use Rattle.kinds.specs.contracts.text.ShortStr.{struct, the_propositions}
use Rattle.kinds.specs.Order.{TotalOrder}
use Rattle.kinds.specs.Names.{bytes_below, spelled, name_below}
use Rattle.kinds.specs.ContentsLemmas.{same_bytes, held_test}

pub not_below_itself : (xs : List ℕ) → bytes_below xs xs ≡ false
not_below_itself [] = refl
not_below_itself (x ∷ xs) = let less = not_below_itself xs in grind (arith, nat_tests)

pub below_passes_on : (xs ys zs : List ℕ) → bytes_below xs ys ≡ true → bytes_below ys zs ≡ true → bytes_below xs zs ≡ true
below_passes_on [] [] zs h k = k
below_passes_on [] (y ∷ ys) [] h k = k
below_passes_on [] (y ∷ ys) (z ∷ zs) h k = refl
below_passes_on (x ∷ xs) [] [] h k = k
below_passes_on (x ∷ xs) [] (z ∷ zs) h k = grind arith
below_passes_on (x ∷ xs) (y ∷ ys) [] h k = k
below_passes_on (x ∷ xs) (y ∷ ys) (z ∷ zs) h k = let less = below_passes_on xs ys zs in grind (arith, nat_tests)

pub one_where_none_below : (xs ys : List ℕ) → bytes_below xs ys ≡ false → bytes_below ys xs ≡ false → xs ≡ ys
one_where_none_below [] [] h k = refl
one_where_none_below [] (y ∷ ys) h k = grind arith
one_where_none_below (x ∷ xs) [] h k = grind arith
one_where_none_below (x ∷ xs) (y ∷ ys) h k = let less = one_where_none_below xs ys in grind (arith, nat_tests)

-- Past two equal bytes the rest decides.
past_equal : (x y : ℕ) (xs ys : List ℕ) (r : Ordering) → x ≡ y → MatchOrdering r (bytes_below xs ys ≡ true) (xs ≡ ys) (bytes_below ys xs ≡ true) → MatchOrdering r (bytes_below (x ∷ xs) (y ∷ ys) ≡ true) (x ∷ xs ≡ y ∷ ys) (bytes_below (y ∷ ys) (x ∷ xs) ≡ true)
past_equal x y xs ys Less p h = grind (arith, nat_tests)
past_equal x y xs ys Equal p h = cc
past_equal x y xs ys Greater p h = grind (arith, nat_tests)

-- The first bytes decide, unless they are equal.
firsts_decide : (x y : ℕ) (xs ys : List ℕ) (k r : Ordering) → MatchOrdering k (x < y) (x ≡ y) (y < x) → MatchOrdering r (bytes_below xs ys ≡ true) (xs ≡ ys) (bytes_below ys xs ≡ true) → MatchOrdering (ordering_then k r) (bytes_below (x ∷ xs) (y ∷ ys) ≡ true) (x ∷ xs ≡ y ∷ ys) (bytes_below (y ∷ ys) (x ∷ xs) ≡ true)
firsts_decide x y xs ys Less r l h = grind (arith, nat_tests)
firsts_decide x y xs ys Equal r p h = past_equal x y xs ys r p h
firsts_decide x y xs ys Greater r l h = grind (arith, nat_tests)

-- What `cmp` answers of two lists of bytes.
pub ranked : (xs ys : List ℕ) → MatchOrdering (slice_cmp nat_cmp xs ys) (bytes_below xs ys ≡ true) (xs ≡ ys) (bytes_below ys xs ≡ true)
ranked [] [] = refl
ranked [] (y ∷ ys) = refl
ranked (x ∷ xs) [] = refl
ranked (x ∷ xs) (y ∷ ys) = firsts_decide x y xs ys (nat_cmp x y) (slice_cmp nat_cmp xs ys) (numbers_ranked x y (nat_cmp x y) refl) (ranked xs ys)

-- Texts of the same bytes are the same text.
pub same_text : (a b : ShortStr) → spelled a ≡ spelled b → a ≡ b
same_text a b e = values_one struct (the_propositions the_row.coded) a b (ap (λ s. (s, tt)) (same_bytes a.short b.short e))

-- By their bytes texts are in a total order.
pub texts_ordered : TotalOrder name_below
texts_ordered = record {
  irreflexive = λ a. not_below_itself (spelled a);
  transitive = λ a b c. below_passes_on (spelled a) (spelled b) (spelled c);
  total = λ a b h k. same_text a b (one_where_none_below (spelled a) (spelled b) h k);
}

of_names : (a b : ShortStr) (r : Ordering) → MatchOrdering r (name_below a b ≡ true) (spelled a ≡ spelled b) (name_below b a ≡ true) → MatchOrdering r (name_below a b ≡ true) (a ≡ b) (name_below b a ≡ true)
of_names a b Less h = h
of_names a b Equal h = same_text a b h
of_names a b Greater h = h

-- The same of names, whose bytes were compared.
pub ranked_names : (a b : ShortStr) (xs ys : List ℕ) (r : Ordering) → xs ≡ spelled a → ys ≡ spelled b → r ≡ slice_cmp nat_cmp xs ys → MatchOrdering r (name_below a b ≡ true) (a ≡ b) (name_below b a ≡ true)
ranked_names a b xs ys r p q h = of_names a b r (rw (h, p, q) (ranked (spelled a) (spelled b)))

-- What is answered of two names is `Equal` where they are the same,
tie_test : (a b : ShortStr) (r : Ordering) → MatchOrdering r (name_below a b ≡ true) (a ≡ b) (name_below b a ≡ true) → Decides (is_eq r) (a ≡ b)
tie_test a b Less h = (λ z. cc, λ e. sym (not_below_itself (spelled a)) ∙ (ap (λ s. name_below a s) e ∙ h))
tie_test a b Equal h = (λ z. h, λ e. refl)
tie_test a b Greater h = (λ z. cc, λ e. sym (not_below_itself (spelled a)) ∙ (ap (λ s. name_below s a) e ∙ h))

-- which is what `==` tests;
pub text_test : (a b : ShortStr) → Decides (pointwise nat_eq a.short.held b.short.held && nat_eq a.short.len b.short.len) (a ≡ b)
text_test a b =
    Decides-like _ (λ e. values_one struct (the_propositions the_row.coded) a b (ap (λ s. (s, tt)) e)) (λ e. ap (λ s. s.short) e) (held_test a.short b.short)

-- so the two agree.
pub ties_are_equal : (a b : ShortStr) → (pointwise nat_eq a.short.held b.short.held && nat_eq a.short.len b.short.len) ≡ is_eq (on spelled (slice_cmp nat_cmp) a b)
ties_are_equal a b =
    same_from_decides _ _ (text_test a b) (tie_test a b _ (ranked_names a b _ _ _ refl refl refl))
