-- The grammar of RFC 3629 derives the codes of lists of scalar values, and nothing else. Assumes nothing.
use Rattle.std.proofs.Common.{◌≡◌, ℕ, ◌+◌, ◌-◌, ◌*◌, ◌/◌, ◌<◌, ◌≤◌, true, List, [], ◌∷◌, IsUtf8, sym, refl, ◌∙◌, subst, inl, inr, arith}
use lib.Utf8.{scalar, scalars, next, encode, encodes, scalar_cases, low_scalar}
use Rattle.std.specs.Int.{IsInRange}
use Rattle.std.specs.List.{AllByRecursion}
use Rattle.std.proofs.lemmas.Bool.Decides.{nat_tests}
use Rattle.std.proofs.lemmas.Bool.{cases_lt, and_parts}
use Rattle.std.proofs.lemmas.Str.{IsUtf8-nil, IsUtf8-append, IsUtf8-encode, encode_ascii}
use Rattle.measures.specs.Rfc3629.{Utf8Tail, Utf8Two, Utf8Three, Utf8Four, Utf8Char, Utf8Octets, joined, Agrees}
use Rattle.measures.proofs.Characters.{char_cons, octets_none}

-- the bytes of a scalar value, by how many they are
pub encode_two : (n : ℕ) → 0x80 ≤ n → n < 0x800 → encode n ≡ (192 + n / 64) ∷ next n ∷ []
unfolding encode
encode_two n l h = grind (arith, nat_tests)

pub encode_three : (n : ℕ) → 0x800 ≤ n → n < 0x10000 → encode n ≡ (224 + n / 4096) ∷ next (n / 64) ∷ next n ∷ []
unfolding encode
encode_three n l h = grind (arith, nat_tests)

pub encode_four : (n : ℕ) → 0x10000 ≤ n → encode n ≡ (240 + n / 262144) ∷ next (n / 4096) ∷ next (n / 64) ∷ next n ∷ []
unfolding encode
encode_four n l = grind (arith, nat_tests)

high_scalar : (n : ℕ) → 0xE000 ≤ n → n < 0x110000 → scalar n ≡ true
high_scalar n l h = grind (arith, nat_tests)

-- from the grammar: each of its characters is the code of a scalar value
of_code : (n : ℕ) (c : List ℕ) → scalar n ≡ true → encode n ≡ c → IsUtf8 c
of_code n c s e = subst IsUtf8 e (IsUtf8-encode n s)

utf8_2 : (a b n : ℕ) → Utf8Two a b → n ≡ (a - 192) * 64 + (b - 128) → IsUtf8 (a ∷ b ∷ [])
utf8_2 a b n u e =
    let p : 192 + n / 64 ≡ a = omega arith in
    let q : next n ≡ b = omega arith in
    of_code n (a ∷ b ∷ []) (low_scalar n (omega arith)) (encode_two n (omega arith) (omega arith) ∙ (λ i. p i ∷ q i ∷ []))

-- the scalar value that three bytes code
abbrev of3 : ℕ → ℕ → ℕ → ℕ
of3 a b c = (a - 224) * 4096 + (b - 128) * 64 + (c - 128)

utf8_3 : (a b c n : ℕ) → IsInRange 0xE0 0xEF a → Utf8Tail b → Utf8Tail c → n ≡ of3 a b c → 0x800 ≤ n → scalar n ≡ true → IsUtf8 (a ∷ b ∷ c ∷ [])
utf8_3 a b c n u v w e l s =
    let p : 224 + n / 4096 ≡ a = omega arith in
    let q : next (n / 64) ≡ b = omega arith in
    let r : next n ≡ c = omega arith in
    of_code n (a ∷ b ∷ c ∷ []) s (encode_three n l (omega arith) ∙ (λ i. p i ∷ q i ∷ r i ∷ []))

-- the scalar value that four bytes code
abbrev of4 : ℕ → ℕ → ℕ → ℕ → ℕ
of4 a b c d = (a - 240) * 262144 + (b - 128) * 4096 + (c - 128) * 64 + (d - 128)

utf8_4 : (a b c d n : ℕ) → IsInRange 0xF0 0xF4 a → Utf8Tail b → Utf8Tail c → Utf8Tail d → n ≡ of4 a b c d → 0x10000 ≤ n → n < 0x110000 → IsUtf8 (a ∷ b ∷ c ∷ d ∷ [])
utf8_4 a b c d n u v w x e l m =
    let p : 240 + n / 262144 ≡ a = omega arith in
    let q : next (n / 4096) ≡ b = omega arith in
    let r : next (n / 64) ≡ c = omega arith in
    let s : next n ≡ d = omega arith in
    of_code n (a ∷ b ∷ c ∷ d ∷ []) (high_scalar n (omega arith) m) (encode_four n l ∙ (λ i. p i ∷ q i ∷ r i ∷ s i ∷ []))

char_utf8 : (c : List ℕ) → Utf8Char c → IsUtf8 c
char_utf8 [] u = absurd u
char_utf8 (a ∷ []) u = of_code a (a ∷ []) (low_scalar a (omega arith)) (encode_ascii a (omega arith))
char_utf8 (a ∷ b ∷ []) u = utf8_2 a b _ u refl
char_utf8 (a ∷ b ∷ c ∷ []) u =
    elim u [
      | inl h ↦ utf8_3 a b c (of3 a b c) (omega arith) (omega arith) h.2 refl (omega arith) (low_scalar (of3 a b c) (omega arith))
      | inr (inl h) ↦ utf8_3 a b c (of3 a b c) (omega arith) h.1 h.2 refl (omega arith) (low_scalar (of3 a b c) (omega arith))
      | inr (inr (inl h)) ↦ utf8_3 a b c (of3 a b c) (omega arith) (omega arith) h.2 refl (omega arith) (low_scalar (of3 a b c) (omega arith))
      | inr (inr (inr h)) ↦ utf8_3 a b c (of3 a b c) (omega arith) h.1 h.2 refl (omega arith) (high_scalar (of3 a b c) (omega arith) (omega arith))
    ]
char_utf8 (a ∷ b ∷ c ∷ d ∷ []) u =
    elim u [
      | inl h ↦ utf8_4 a b c d (of4 a b c d) (omega arith) (omega arith) h.2 h.3 refl (omega arith) (omega arith)
      | inr (inl h) ↦ utf8_4 a b c d (of4 a b c d) (omega arith) h.1 h.2 h.3 refl (omega arith) (omega arith)
      | inr (inr h) ↦ utf8_4 a b c d (of4 a b c d) (omega arith) (omega arith) h.2 h.3 refl (omega arith) (omega arith)
    ]
char_utf8 (a ∷ b ∷ c ∷ d ∷ e ∷ more) u = absurd u

utf8_joined : (cs : List (List ℕ)) → AllByRecursion Utf8Char cs → IsUtf8 (joined cs)
utf8_joined [] all = IsUtf8-nil
utf8_joined (c ∷ cs) all = IsUtf8-append c (joined cs) (char_utf8 c all.0) (utf8_joined cs all.1)

-- to the grammar: the code of each scalar value is one of its characters
code_three : (n : ℕ) → 0x800 ≤ n → n < 0x10000 → scalar n ≡ true → Utf8Three (224 + n / 4096) (next (n / 64)) (next n)
code_three n l h s =
    let k = scalar_cases n s in
    elim (cases_lt n 0x1000) [
      | inl p ↦ inl (omega arith)
      | inr p ↦ elim (cases_lt n 0xD000) [
        | inl q ↦ inr (inl (omega arith))
        | inr q ↦ elim (cases_lt n 0xE000) [
          | inl r ↦ inr (inr (inl (omega arith)))
          | inr r ↦ inr (inr (inr (omega arith)))
        ]
      ]
    ]

code_four : (n : ℕ) → 0x10000 ≤ n → n < 0x110000 → Utf8Four (240 + n / 262144) (next (n / 4096)) (next (n / 64)) (next n)
code_four n l h =
    elim (cases_lt n 0x40000) [
      | inl p ↦ inl (omega arith)
      | inr p ↦ elim (cases_lt n 0x100000) [
        | inl q ↦ inr (inl (omega arith))
        | inr q ↦ inr (inr (omega arith))
      ]
    ]

char_encode : (n : ℕ) → scalar n ≡ true → Utf8Char (encode n)
char_encode n s =
    let k = scalar_cases n s in
    elim (cases_lt n 0x80) [
      | inl p ↦ subst Utf8Char (sym (encode_ascii n p)) (omega arith)
      | inr p ↦ elim (cases_lt n 0x800) [
        | inl q ↦ subst Utf8Char (sym (encode_two n p q)) (omega arith)
        | inr q ↦ elim (cases_lt n 0x10000) [
          | inl r ↦ subst Utf8Char (sym (encode_three n q r)) (code_three n q r s)
          | inr r ↦ subst Utf8Char (sym (encode_four n r)) (code_four n r (omega arith))
        ]
      ]
    ]

octets_encodes : (cs : List ℕ) → scalars cs ≡ true → Utf8Octets (encodes cs)
octets_encodes [] s = octets_none
octets_encodes (c ∷ cs) s =
    let h = and_parts (scalar c) (scalars cs) s in
    char_cons (encode c) (encodes cs) (char_encode c h.0) (octets_encodes cs h.1)

-- both ways
pub agrees : Agrees
unfolding Utf8Octets
agrees bytes = (
  λ o. subst IsUtf8 o.2 (utf8_joined o.0 o.1),
  λ u. subst Utf8Octets u.1.1 (octets_encodes u.0 u.1.0),
)
