-- Well-formed text: the grammar of RFC 3629, section 4, rule by rule, each under its name there as the checker spells names. Assumes nothing.
use Rattle.std.specs.Prelude.{◌≡◌, ℕ, ◌⊎◌, ◌↔◌, List, [], ◌∷◌, ◌++◌, IsUtf8}
use Rattle.std.specs.Int.{IsInRange}
use Rattle.std.specs.List.{AllByRecursion}

-- UTF8-tail = %x80-BF
abbrev pub Utf8Tail : ℕ → Type 0
Utf8Tail a = IsInRange 0x80 0xBF a

-- UTF8-1 = %x00-7F
abbrev pub Utf8One : ℕ → Type 0
Utf8One a = IsInRange 0x00 0x7F a

-- UTF8-2 = %xC2-DF UTF8-tail
abbrev pub Utf8Two : ℕ → ℕ → Type 0
Utf8Two a b = IsInRange 0xC2 0xDF a × Utf8Tail b

-- UTF8-3 = %xE0 %xA0-BF UTF8-tail / %xE1-EC 2( UTF8-tail ) / %xED %x80-9F UTF8-tail / %xEE-EF 2( UTF8-tail )
abbrev pub Utf8Three : ℕ → ℕ → ℕ → Type 0
Utf8Three a b c =
    ((a ≡ 0xE0) × IsInRange 0xA0 0xBF b × Utf8Tail c)
    ⊎ (IsInRange 0xE1 0xEC a × Utf8Tail b × Utf8Tail c)
    ⊎ ((a ≡ 0xED) × IsInRange 0x80 0x9F b × Utf8Tail c)
    ⊎ (IsInRange 0xEE 0xEF a × Utf8Tail b × Utf8Tail c)

-- UTF8-4 = %xF0 %x90-BF 2( UTF8-tail ) / %xF1-F3 3( UTF8-tail ) / %xF4 %x80-8F 2( UTF8-tail )
abbrev pub Utf8Four : ℕ → ℕ → ℕ → ℕ → Type 0
Utf8Four a b c d =
    ((a ≡ 0xF0) × IsInRange 0x90 0xBF b × Utf8Tail c × Utf8Tail d)
    ⊎ (IsInRange 0xF1 0xF3 a × Utf8Tail b × Utf8Tail c × Utf8Tail d)
    ⊎ ((a ≡ 0xF4) × IsInRange 0x80 0x8F b × Utf8Tail c × Utf8Tail d)

-- UTF8-char = UTF8-1 / UTF8-2 / UTF8-3 / UTF8-4
abbrev pub Utf8Char : List ℕ → Type 0
Utf8Char [] = ⊥
Utf8Char (a ∷ []) = Utf8One a
Utf8Char (a ∷ b ∷ []) = Utf8Two a b
Utf8Char (a ∷ b ∷ c ∷ []) = Utf8Three a b c
Utf8Char (a ∷ b ∷ c ∷ d ∷ []) = Utf8Four a b c d
Utf8Char (a ∷ b ∷ c ∷ d ∷ e ∷ more) = ⊥

-- the bytes of all the characters, in their order
abbrev pub joined : List (List ℕ) → List ℕ
joined [] = []
joined (char ∷ chars) = char ++ joined chars

-- UTF8-octets = *( UTF8-char )
unfoldable pub Utf8Octets : List ℕ → Type 0
Utf8Octets bytes = (chars : List (List ℕ)) × AllByRecursion Utf8Char chars × (joined chars ≡ bytes)

-- What the grammar derives is what a `&str` holds, and the other way round.
abbrev pub Agrees : Type 0
Agrees = (bytes : List ℕ) → Utf8Octets bytes ↔ IsUtf8 bytes
