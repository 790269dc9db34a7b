-- What is counted in the bytes of a text, and what its characters have. Assumes nothing.
use Rattle.std.specs.Prelude.{◌≡◌, ℕ, ◌+◌, true, cond, List, [], ◌∷◌, length, nat_lt}
use Rattle.std.proofs.Math.Utf8.{scalars, encodes}
use Rattle.std.specs.Int.{is_in_range}

-- the sum of `f` over a list
abbrev pub summed : (ℕ → ℕ) → List ℕ → ℕ
summed f [] = 0
summed f (x ∷ xs) = f x + summed f xs

-- how many code points begin at a byte: one, unless it is a UTF8-tail
abbrev pub points : ℕ → ℕ
points b = cond (is_in_range 0x80 0xBF b) 0 1

-- how many four-byte forms begin at a byte: one from F0 on
abbrev pub fours : ℕ → ℕ
fours b = cond (nat_lt b 0xF0) 0 1

-- how many code units of UTF-16 a byte stands for: none if it is a UTF8-tail, two if it begins a four-byte form, else one
abbrev pub units : ℕ → ℕ
units b = cond (is_in_range 0x80 0xBF b) 0 (cond (nat_lt b 0xF0) 1 2)

-- the code points of a text
abbrev pub code_points : List ℕ → ℕ
code_points = summed points

-- the code units of a text in UTF-16
abbrev pub utf16_units : List ℕ → ℕ
utf16_units = summed units

-- the code units of one character in UTF-16: two from U+10000 on, else one
abbrev pub units_of_char : ℕ → ℕ
units_of_char c = cond (nat_lt c 0x10000) 1 2

-- The code points that are counted in the bytes are the characters of the text.
abbrev pub CountsCharacters : Type 0
CountsCharacters = (chars : List ℕ) → scalars chars ≡ true → code_points (encodes chars) ≡ length chars

-- The code units that are counted in the bytes are those that the characters of the text have in UTF-16.
abbrev pub CountsUnits : Type 0
CountsUnits = (chars : List ℕ) → scalars chars ≡ true → utf16_units (encodes chars) ≡ summed units_of_char chars
