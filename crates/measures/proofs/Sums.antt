-- Sums over bytes: in a loop, of two counts at once, and over the bytes of characters. Assumes nothing.
use Rattle.std.proofs.Common.{◌≡◌, ℕ, ◌+◌, ◌<◌, ◌≤◌, true, List, [], ◌∷◌, length, get_or, take, refl, ap, ◌∙◌, inl, inr, arith}
use lib.Utf8.{scalar, scalars, encode, encodes, scalar_cases}
use Rattle.std.proofs.lemmas.List.{take_more, take_all}
use Rattle.std.proofs.lemmas.Bool.{cases_lt, and_parts}
use Rattle.std.proofs.lemmas.Str.{encode_ascii}
use Rattle.std.proofs.lemmas.Bool.Decides.{nat_tests}
use Rattle.measures.proofs.Agreement.{encode_two, encode_three, encode_four}
use Rattle.measures.specs.Counts.{summed, points, fours, units, code_points, utf16_units, units_of_char, CountsCharacters, CountsUnits}
use Rattle.measures.specs.Laws.{summed_append}

-- a turn of a loop over bs adds what the byte at the index i counts
pub summed_more : (f : ℕ → ℕ) (bs : List ℕ) (i : ℕ) → i < length bs → summed f (take (i + 1) bs) ≡ summed f (take i bs) + f (get_or bs i 0)
summed_more f bs i h =
    let e = ap (summed f) (take_more bs i 0 h) in
    let a = summed_append f (take i bs) (get_or bs i 0 ∷ []) in
    omega arith

-- the loop is over when all of bs is counted
pub summed_all : (f : ℕ → ℕ) (bs : List ℕ) (i : ℕ) → length bs ≤ i → summed f (take i bs) ≡ summed f bs
summed_all f bs i h = ap (summed f) (take_all i bs h)

-- a byte's code units of UTF-16 are the code point that begins there and the four-byte form that begins there
units_parts : (b : ℕ) → units b ≡ points b + fours b
units_parts b = grind (arith, nat_tests)

-- the code units of a text are its code points and its four-byte forms
pub utf16_parts : (bs : List ℕ) → code_points bs + summed fours bs ≡ utf16_units bs
utf16_parts [] = refl
utf16_parts (b ∷ bs) =
    let here = units_parts b in
    let there = utf16_parts bs in
    omega arith

-- the bytes of one character begin one code point
points_of_char : (c : ℕ) → scalar c ≡ true → summed points (encode c) ≡ 1
points_of_char c s =
    let k = scalar_cases c s in
    elim (cases_lt c 0x80) [
      | inl p ↦ rw (encode_ascii c p) (grind (arith, nat_tests))
      | inr p ↦ elim (cases_lt c 0x800) [
        | inl q ↦ rw (encode_two c p q) (grind (arith, nat_tests))
        | inr q ↦ elim (cases_lt c 0x10000) [
          | inl r ↦ rw (encode_three c q r) (grind (arith, nat_tests))
          | inr r ↦ rw (encode_four c r) (grind (arith, nat_tests))
        ]
      ]
    ]

-- the bytes of one character count the code units that it has
units_in_char : (c : ℕ) → scalar c ≡ true → summed units (encode c) ≡ units_of_char c
units_in_char c s =
    let k = scalar_cases c s in
    elim (cases_lt c 0x80) [
      | inl p ↦ rw (encode_ascii c p) (grind (arith, nat_tests))
      | inr p ↦ elim (cases_lt c 0x800) [
        | inl q ↦ rw (encode_two c p q) (grind (arith, nat_tests))
        | inr q ↦ elim (cases_lt c 0x10000) [
          | inl r ↦ rw (encode_three c q r) (grind (arith, nat_tests))
          | inr r ↦ rw (encode_four c r) (grind (arith, nat_tests))
        ]
      ]
    ]

-- what holds of the bytes of each character holds of the bytes of all
over_chars : (f g : ℕ → ℕ) → ((c : ℕ) → scalar c ≡ true → summed f (encode c) ≡ g c) → (cs : List ℕ) → scalars cs ≡ true → summed f (encodes cs) ≡ summed g cs
over_chars f g each [] s = refl
over_chars f g each (c ∷ cs) s =
    let h = and_parts (scalar c) (scalars cs) s in
    let a = summed_append f (encode c) (encodes cs) in
    let o = each c h.0 in
    let i = over_chars f g each cs h.1 in
    omega arith

summed_ones : (cs : List ℕ) → summed (λ _. 1) cs ≡ length cs
summed_ones [] = refl
summed_ones (c ∷ cs) = let i = summed_ones cs in omega arith

pub counts_characters : CountsCharacters
counts_characters cs s = over_chars points (λ _. 1) points_of_char cs s ∙ summed_ones cs

pub counts_units : CountsUnits
counts_units cs s = over_chars units units_of_char units_in_char cs s
