-- The three measures keep the laws of widths, and so does every sum over bytes that counts what may come first. Assumes nothing.
use Rattle.std.specs.Prelude.{◌≡◌, ℕ, ◌+◌, ◌<◌, ◌≤◌, Bool, true, false, cond, ◌⊎◌, List, [], ◌∷◌, ◌++◌, length, nat_le, nat_lt, refl}
use Rattle.std.proofs.Common.{arith, add_assoc, zero-add, sym, ap, ◌∙◌, inl, inr, length-append, lit<}
use Rattle.std.specs.Int.{is_in_range}
use Rattle.std.specs.List.{AllByRecursion}
use Rattle.std.proofs.lemmas.List.{nil_from_length}
use Rattle.std.proofs.lemmas.Bool.{lt-leb, and_left, and_right}
use Rattle.measures.specs.Rfc3629.{Utf8Char, Utf8Octets, joined}
use Rattle.measures.specs.Widths.{Widths}
use Rattle.measures.specs.Counts.{summed, points, units, code_points, utf16_units}

-- the bytes that may begin a character
abbrev pub First : ℕ → Type 0
First b = (b ≤ 0x7F) ⊎ (0xC2 ≤ b)

-- `f` counts each byte that may begin a character
abbrev pub CountsFirst : (ℕ → ℕ) → Type 0
CountsFirst f = (b : ℕ) → First b → 0 < f b

-- the sum over two lists joined is that over the one and that over the other
pub summed_append : (f : ℕ → ℕ) (xs ys : List ℕ) → summed f (xs ++ ys) ≡ summed f xs + summed f ys
summed_append f [] ys = sym (zero-add (summed f ys))
summed_append f (x ∷ xs) ys = ap (λ n. f x + n) (summed_append f xs ys) ∙ sym (add_assoc (f x) (summed f xs) (summed f ys))

-- a character begins with such a byte
first_of_char : (char more bytes : List ℕ) (b : ℕ) → Utf8Char char → char ++ more ≡ b ∷ bytes → First b
first_of_char [] more bytes b u e = absurd u
first_of_char (a ∷ []) more bytes b u e = let s : a ≡ b = cc in inl (omega arith)
first_of_char (a ∷ a2 ∷ []) more bytes b u e = let s : a ≡ b = cc in inr (omega arith)
first_of_char (a ∷ a2 ∷ a3 ∷ []) more bytes b u e = let s : a ≡ b = cc in inr (omega arith)
first_of_char (a ∷ a2 ∷ a3 ∷ a4 ∷ []) more bytes b u e = let s : a ≡ b = cc in inr (omega arith)
first_of_char (a ∷ a2 ∷ a3 ∷ a4 ∷ a5 ∷ more') more bytes b u e = absurd u

-- a text begins with such a byte
first_of_text : (b : ℕ) (bytes : List ℕ) → Utf8Octets (b ∷ bytes) → First b
unfolding Utf8Octets
first_of_text b bytes o = by_chars o.0 o.1 o.2
  where
    by_chars : (chars : List (List ℕ)) → AllByRecursion Utf8Char chars → joined chars ≡ b ∷ bytes → First b
    by_chars [] all e = let z : ◌≡◌ {A = ℕ} 0 1 = cc in absurd (omega arith)
    by_chars (char ∷ chars) all e = first_of_char char (joined chars) bytes b all.0 e

-- a sum that counts such bytes is 0 over no other text than the empty one
summed_empty : (f : ℕ → ℕ) → CountsFirst f → (xs : List ℕ) → Utf8Octets xs → summed f xs ≡ 0 → xs ≡ []
summed_empty f counts [] o e = refl
summed_empty f counts (b ∷ bytes) o e = let h : 0 < f b = counts b (first_of_text b bytes o) in absurd (omega arith)

-- a sum that counts such bytes keeps the laws
pub summed_laws : (f : ℕ → ℕ) → CountsFirst f → Widths (summed f)
summed_laws f counts = record {
  joins = λ xs ys _ _. summed_append f xs ys;
  empty = summed_empty f counts;
}

-- such a byte is no UTF8-tail
pub first_no_tail : (b : ℕ) → First b → is_in_range 0x80 0xBF b ≡ false
first_no_tail b (inl h) = and_left (nat_le 0x80 b) (nat_le b 0xBF) (lt-leb 0x80 b (omega arith))
first_no_tail b (inr h) = and_right (nat_le 0x80 b) (nat_le b 0xBF) (lt-leb b 0xBF (omega arith))

-- `points` counts such a byte
points_first : CountsFirst points
points_first b h = rw (first_no_tail b h) (lit< tt)

-- `units` counts such a byte
units_first : CountsFirst units
units_first b h = rw (first_no_tail b h) (one_or_two (nat_lt b 0xF0))
  where
    one_or_two : (t : Bool) → 0 < cond t 1 2
    one_or_two true = lit< tt
    one_or_two false = lit< tt

-- code points keep the laws
pub code_points_laws : Widths code_points
code_points_laws = summed_laws points points_first

-- code units of UTF-16 keep the laws
pub utf16_laws : Widths utf16_units
utf16_laws = summed_laws units units_first

-- bytes keep the laws
pub bytes_laws : Widths length
bytes_laws = record {
  joins = λ xs ys _ _. length-append xs ys;
  empty = λ xs _ e. nil_from_length xs e;
}
