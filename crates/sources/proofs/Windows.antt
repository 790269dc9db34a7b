-- What a window does as the source below goes on. Assumes nothing.
use Rattle.std.proofs.Common.{◌≡◌, ℕ, suc, ◌+◌, ◌-◌, ◌<◌, true, ltb, List, [], ◌∷◌, length, sym, ap, ◌∙◌, arith, lt-ltb}
use Rattle.std.proofs.Math.Seq.{take-nil, drop-nil}
use Rattle.std.proofs.lemmas.Bool.Decides.{nat_tests}
use Rattle.sources.specs.Meaning.{Meaning, Entry, Ending, first, first_text, stepped, nonempty}
use Rattle.sources.specs.Window.{opened}

-- what is meant, part by part
abbrev meant : {I N V : Type 0} → ℕ → List (Entry I N V) → Ending → Meaning I N V
meant h rs e = record { height = h; records = rs; ending = e }

-- a record less on either side of the test
one_left : (l t : ℕ) → ltb l (0 + t) ≡ ltb (suc l) (0 + suc t)
one_left l t = grind (arith, nat_tests)

module _ {I N V : Type 0} (h : ℕ) (e : Ending) where
  steps_list : (left : ℕ) (rs : List (Entry I N V)) → true ≡ nonempty rs → opened 0 left (stepped (meant h rs e)) ≡ stepped (opened 0 (suc left) (meant h rs e))
  steps_list left [] n = let z : ◌≡◌ {A = ℕ} 0 1 = cc in absurd (omega arith)
  steps_list left (x ∷ xs) n = rw (one_left (length xs) left)

module _ {I N V : Type 0} (skip left h : ℕ) (e : Ending) where
  no_skip : (x : Entry I N V) (xs : List (Entry I N V)) → (0 < skip → (x ∷ xs) ≡ []) → skip ≡ 0
  no_skip x xs f =
      let none : 0 < skip → ⊥ = λ b. (let u = f b in let z : ◌≡◌ {A = ℕ} 0 1 = cc in omega arith) in
      omega arith

  no_skip_list : (rs : List (Entry I N V)) → (0 < skip → rs ≡ []) → true ≡ nonempty rs → skip ≡ 0
  no_skip_list [] f n = let z : ◌≡◌ {A = ℕ} 0 1 = cc in absurd (omega arith)
  no_skip_list (x ∷ xs) f n = no_skip x xs f

  shows_list : (rs : List (Entry I N V)) → (0 < skip → rs ≡ []) → 0 < skip + left → first (opened skip left (meant h rs e)).records (opened skip left (meant h rs e)).ending ≡ first rs e
  shows_list [] f t =
      let p : ltb 0 (skip + left) ≡ true = lt-ltb _ _ t in
      rw (p, drop-nil {A = Entry I N V} skip, take-nil {A = Entry I N V} left)
  shows_list (x ∷ xs) f t =
      let p = no_skip x xs f in
      let q : left ≡ suc (left - 1) = omega arith in
      rw (p, q)

  text_list : (rs : List (Entry I N V)) → (0 < skip → rs ≡ []) → 0 < skip + left → first_text (opened skip left (meant h rs e)).records ≡ first_text rs
  text_list [] f t = rw (drop-nil {A = Entry I N V} skip, take-nil {A = Entry I N V} left)
  text_list (x ∷ xs) f t =
      let p = no_skip x xs f in
      let q : left ≡ suc (left - 1) = omega arith in
      rw (p, q)

module _ {I N V : Type 0} (skip left : ℕ) (m : Meaning I N V) where
  -- a record of the window is dropped below
  pub steps : (0 < skip → m.records ≡ []) → 0 < left → true ≡ nonempty m.records → opened skip (left - 1) (stepped m) ≡ stepped (opened skip left m)
  steps f t n =
      let q : suc (left - 1) ≡ left = omega arith in
      rw (no_skip_list skip left m.height m.ending m.records f n)
      (steps_list m.height m.ending (left - 1) m.records n ∙ ap (λ k. stepped (opened 0 k m)) q)

  -- what the open window shows
  pub shows : (0 < skip → m.records ≡ []) → 0 < skip + left → first m.records m.ending ≡ first (opened skip left m).records (opened skip left m).ending
  shows f t = sym (shows_list skip left m.height m.ending m.records f t)

  pub shows_text : (0 < skip → m.records ≡ []) → 0 < skip + left → first_text m.records ≡ first_text (opened skip left m).records
  shows_text f t = sym (text_list skip left m.height m.ending m.records f t)
