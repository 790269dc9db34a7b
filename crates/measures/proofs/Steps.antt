-- One byte: the state that a judge goes to allows exactly what the grammar allows after that byte. Assumes nothing.
use Rattle.std.proofs.Common.{◌≡◌, ℕ, Bool, true, false, cond, ◌↔◌, List, [], ◌∷◌, ◌++◌, Some, None, Option, refl, ap, subst, inl, inr, arith}
use Rattle.std.specs.Int.{IsInRange, is_in_range}
use Rattle.std.specs.List.{AllByRecursion}
use Rattle.std.proofs.lemmas.Bool.Decides.{nat_tests}
use Rattle.measures.proofs.Ranges.{inside, within_in}
use Rattle.measures.proofs.Characters.{char_cons}
use Rattle.measures.specs.Rfc3629.{Utf8Tail, Utf8Three, Utf8Four, Utf8Char, Utf8Octets, joined}
use Rattle.measures.specs.Judged.{◌then◌, Rest, begun, stepped}
use Rattle.measures.specs.declared.judge.Expects.{Expects}
use Rattle.measures.specs.declared.judge.Expects.TheVariants.{Char, Tail, TwoTails, ThreeTails, AfterE0, AfterED, AfterF0, AfterF4}

-- the rest that is allowed from a state, and none where the byte was refused
abbrev pub Goes : Option Expects → List ℕ → Type 0
Goes None bs = ⊥
Goes (Some e) bs = Rest e bs

-- cases by the test of one range
split : {P : Type 0} (lo hi b : ℕ) (x y : Option Expects) (bs : List ℕ) → (IsInRange lo hi b → Goes x bs → P) → (Goes y bs → P) → Goes (cond (is_in_range lo hi b) x y) bs → P
split {P} lo hi b x y bs f g = by_test (is_in_range lo hi b) refl
  where
    by_test : (t : Bool) → is_in_range lo hi b ≡ t → Goes (cond t x y) bs → P
    by_test true e r = f (inside lo hi b e) r
    by_test false e r = g r

-- a state that allows one range and refuses every other byte
only : (lo hi b : ℕ) (e : Expects) (bs : List ℕ) → Goes (cond (is_in_range lo hi b) (Some e) None) bs ↔ (IsInRange lo hi b × Rest e bs)
only lo hi b e bs = (
  split lo hi b (Some e) None bs (λ i r. (i, r)) (λ r. absurd r),
  λ h. rw (within_in lo hi b h.0) h.1,
)

-- from the state after the first byte, the rest makes the character whole and the text well-formed
closing : (b : ℕ) (bs : List ℕ) → Goes (begun b) bs → Utf8Octets (b ∷ bs)
closing b bs =
    split 0x00 0x7F b _ _ bs (λ i r. char_cons (b ∷ []) bs i r)
    (split 0xC2 0xDF b _ _ bs (closing_2 bs)
    (split 0xE0 0xE0 b _ _ bs (λ i. closing_3 bs (λ c d s t. inl (omega arith, s, t)))
    (split 0xE1 0xEC b _ _ bs (λ i. closing_3 bs (λ c d s t. inr (inl (i, s, t))))
    (split 0xED 0xED b _ _ bs (λ i. closing_3 bs (λ c d s t. inr (inr (inl (omega arith, s, t)))))
    (split 0xEE 0xEF b _ _ bs (λ i. closing_3 bs (λ c d s t. inr (inr (inr (i, s, t)))))
    (split 0xF0 0xF0 b _ _ bs (λ i. closing_4 bs (λ c d e s t u. inl (omega arith, s, t, u)))
    (split 0xF1 0xF3 b _ _ bs (λ i. closing_4 bs (λ c d e s t u. inr (inl (i, s, t, u))))
    (split 0xF4 0xF4 b _ _ bs (λ i. closing_4 bs (λ c d e s t u. inr (inr (omega arith, s, t, u))))
    (λ r. absurd r)))))))))
  where
    closing_2 : (bs : List ℕ) → IsInRange 0xC2 0xDF b → (Utf8Tail then Utf8Octets) bs → Utf8Octets (b ∷ bs)
    closing_2 [] i r = absurd r
    closing_2 (c ∷ bs) i r = char_cons (b ∷ c ∷ []) bs (i, r.0) r.1

    closing_3 : {P : ℕ → Type 0} (bs : List ℕ) → ((c d : ℕ) → P c → Utf8Tail d → Utf8Three b c d) → (P then Utf8Tail then Utf8Octets) bs → Utf8Octets (b ∷ bs)
    closing_3 [] f r = absurd r
    closing_3 (c ∷ []) f r = absurd r.1
    closing_3 (c ∷ d ∷ bs) f r = char_cons (b ∷ c ∷ d ∷ []) bs (f c d r.0 r.1.0) r.1.1

    closing_4 : {P : ℕ → Type 0} (bs : List ℕ) → ((c d e : ℕ) → P c → Utf8Tail d → Utf8Tail e → Utf8Four b c d e) → (P then Utf8Tail then Utf8Tail then Utf8Octets) bs → Utf8Octets (b ∷ bs)
    closing_4 [] f r = absurd r
    closing_4 (c ∷ []) f r = absurd r.1
    closing_4 (c ∷ d ∷ []) f r = absurd r.1.1
    closing_4 (c ∷ d ∷ e ∷ bs) f r = char_cons (b ∷ c ∷ d ∷ e ∷ []) bs (f c d e r.0 r.1.0 r.1.1.0) r.1.1.1

-- the state after a first byte of each range
begun_1 : (a : ℕ) → IsInRange 0x00 0x7F a → begun a ≡ Some Char
begun_1 a h = grind (arith, nat_tests)

begun_2 : (a : ℕ) → IsInRange 0xC2 0xDF a → begun a ≡ Some Tail
begun_2 a h = grind (arith, nat_tests)

begun_e0 : (a : ℕ) → a ≡ 0xE0 → begun a ≡ Some AfterE0
begun_e0 a h = ap begun h

begun_ed : (a : ℕ) → a ≡ 0xED → begun a ≡ Some AfterED
begun_ed a h = ap begun h

begun_e1 : (a : ℕ) → IsInRange 0xE1 0xEC a → begun a ≡ Some TwoTails
begun_e1 a h = grind (arith, nat_tests)

begun_ee : (a : ℕ) → IsInRange 0xEE 0xEF a → begun a ≡ Some TwoTails
begun_ee a h = grind (arith, nat_tests)

begun_f0 : (a : ℕ) → a ≡ 0xF0 → begun a ≡ Some AfterF0
begun_f0 a h = ap begun h

begun_f1 : (a : ℕ) → IsInRange 0xF1 0xF3 a → begun a ≡ Some ThreeTails
begun_f1 a h = grind (arith, nat_tests)

begun_f4 : (a : ℕ) → a ≡ 0xF4 → begun a ≡ Some AfterF4
begun_f4 a h = ap begun h

-- the rest of a text is allowed from the state after its first byte
abbrev Opened : List ℕ → Type 0
Opened [] = Unit {0}
Opened (b ∷ bs) = Goes (begun b) bs

to : (a : ℕ) (e : Expects) (bs : List ℕ) → begun a ≡ Some e → Rest e bs → Goes (begun a) bs
to a e bs p r = rw p r

opening : (c bs : List ℕ) → Utf8Char c → Utf8Octets bs → Opened (c ++ bs)
opening [] bs u o = absurd u
opening (a ∷ []) bs u o = to a Char bs (begun_1 a u) o
opening (a ∷ b ∷ []) bs u o = to a Tail (b ∷ bs) (begun_2 a u.0) (u.1, o)
opening (a ∷ b ∷ c ∷ []) bs u o =
    elim u [
      | inl h ↦ to a AfterE0 (b ∷ c ∷ bs) (begun_e0 a h.0) (h.1, (h.2, o))
      | inr (inl h) ↦ to a TwoTails (b ∷ c ∷ bs) (begun_e1 a h.0) (h.1, (h.2, o))
      | inr (inr (inl h)) ↦ to a AfterED (b ∷ c ∷ bs) (begun_ed a h.0) (h.1, (h.2, o))
      | inr (inr (inr h)) ↦ to a TwoTails (b ∷ c ∷ bs) (begun_ee a h.0) (h.1, (h.2, o))
    ]
opening (a ∷ b ∷ c ∷ d ∷ []) bs u o =
    elim u [
      | inl h ↦ to a AfterF0 (b ∷ c ∷ d ∷ bs) (begun_f0 a h.0) (h.1, (h.2, (h.3, o)))
      | inr (inl h) ↦ to a ThreeTails (b ∷ c ∷ d ∷ bs) (begun_f1 a h.0) (h.1, (h.2, (h.3, o)))
      | inr (inr h) ↦ to a AfterF4 (b ∷ c ∷ d ∷ bs) (begun_f4 a h.0) (h.1, (h.2, (h.3, o)))
    ]
opening (a ∷ b ∷ c ∷ d ∷ e ∷ more) bs u o = absurd u

opened : (bs : List ℕ) → Utf8Octets bs → Opened bs
unfolding Utf8Octets
opened bs o = subst Opened o.2 (by_chars o.0 o.1)
  where
    by_chars : (cs : List (List ℕ)) → AllByRecursion Utf8Char cs → Opened (joined cs)
    by_chars [] all = tt
    by_chars (c ∷ cs) all = opening c (joined cs) all.0 (cs, all.1, refl)

-- from the state after b, that is allowed which was allowed after b before
pub stepped_right : (e : Expects) (b : ℕ) (bs : List ℕ) → Goes (stepped e b) bs ↔ Rest e (b ∷ bs)
stepped_right Char b bs = (closing b bs, opened (b ∷ bs))
stepped_right Tail b bs = only 0x80 0xBF b Char bs
stepped_right TwoTails b bs = only 0x80 0xBF b Tail bs
stepped_right ThreeTails b bs = only 0x80 0xBF b TwoTails bs
stepped_right AfterE0 b bs = only 0xA0 0xBF b Tail bs
stepped_right AfterED b bs = only 0x80 0x9F b Tail bs
stepped_right AfterF0 b bs = only 0x90 0xBF b TwoTails bs
stepped_right AfterF4 b bs = only 0x80 0x8F b TwoTails bs
