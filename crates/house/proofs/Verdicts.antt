-- A list of fields has one verdict.
use Rattle.std.proofs.Common.{◌≡◌, ℕ, ◌+◌, ◌≤◌, List, [], ◌∷◌, sym, ap, ◌∙◌, inl, inr, arith}
use Rattle.house.specs.declared.bad.BadFile.{BadFile}
use Rattle.house.specs.Fields.{Field, Good, Bad, AllGood, FirstBad}
use Rattle.house.specs.Order.{Follow, SomeBad}

module _ (d : List ℕ) where
  -- no field is both good and bad
  good_bad : (f : Field) (e : BadFile) → Good d f → Bad d f e → ⊥
  good_bad f e g (inl cut) = omega (arith, g.0, cut.0)
  good_bad f e g (inr broken) = broken.1 g.1

  -- a field has no two reports
  same_bad : (f : Field) (e h : BadFile) → Bad d f e → Bad d f h → e ≡ h
  same_bad f e h (inl x) (inl y) = x.1 ∙ sym y.1
  same_bad f e h (inl x) (inr y) = absurd (omega (arith, x.0, y.0))
  same_bad f e h (inr x) (inl y) = absurd (omega (arith, x.0, y.0))
  same_bad f e h (inr x) (inr y) = x.2 ∙ sym y.2

  -- a report has the place of its field
  bad_byte : (f : Field) (e : BadFile) → Bad d f e → e.byte ≡ f.place
  bad_byte f e (inl x) = ap (λ (r : BadFile). r.byte) x.1
  bad_byte f e (inr x) = ap (λ (r : BadFile). r.byte) x.2

  -- good fields have no report
  pub verdict_either : (fs : List Field) (e : BadFile) → AllGood d fs → FirstBad d fs e → ⊥
  verdict_either [] e g x = x
  verdict_either (f ∷ fs) e g (inl x) = good_bad f e g.0 x
  verdict_either (f ∷ fs) e g (inr x) = verdict_either fs e g.1 x.1

  -- others have one
  pub verdict_one : (fs : List Field) (e h : BadFile) → FirstBad d fs e → FirstBad d fs h → e ≡ h
  verdict_one [] e h x y = elim x [ ]
  verdict_one (f ∷ fs) e h (inl x) (inl y) = same_bad f e h x y
  verdict_one (f ∷ fs) e h (inl x) (inr y) = elim (good_bad f e y.0 x) [ ]
  verdict_one (f ∷ fs) e h (inr x) (inl y) = elim (good_bad f h x.0 y) [ ]
  verdict_one (f ∷ fs) e h (inr x) (inr y) = verdict_one fs e h x.1 y.1

  -- no report is of a byte before the fields
  after : (fs : List Field) (h : BadFile) (p q : ℕ) → Follow p fs q → SomeBad d fs h → p ≤ h.byte
  after [] h p q w x = elim x [ ]
  after (f ∷ fs) h p q w (inl x) = omega (arith, bad_byte f h x, w.0)
  after (f ∷ fs) h p q w (inr x) = omega (arith, after fs h (p + f.size) q w.1 x)

  -- the one report is of the least byte
  pub verdict_least : (fs : List Field) (e h : BadFile) (p q : ℕ) → Follow p fs q → FirstBad d fs e → SomeBad d fs h → e.byte ≤ h.byte
  verdict_least [] e h p q w x y = elim x [ ]
  verdict_least (f ∷ fs) e h p q w (inl x) y = omega (arith, bad_byte f e x, w.0, after (f ∷ fs) h p q w y)
  verdict_least (f ∷ fs) e h p q w (inr x) (inl y) = elim (good_bad f h x.0 y) [ ]
  verdict_least (f ∷ fs) e h p q w (inr x) (inr y) = verdict_least fs e h (p + f.size) q w.1 x.1 y
