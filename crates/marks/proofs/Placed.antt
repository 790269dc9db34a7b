-- One more in a list by the order of its key, and one less. Assumes nothing.
use Rattle.std.proofs.Common.{◌≡◌, Bool, true, cond, ◌⊎◌, List, [], ◌∷◌, sym, refl, ap, ◌∙◌, subst, inl, inr}
use Rattle.std.proofs.lemmas.Bool.{cond_both, both_ways}
use Rattle.kinds.specs.Order.{TotalOrder}
use Rattle.marks.specs.Lists.{◌∈◌, Each, Rising, placed}
use Rattle.std.specs.List.{filter}
use Rattle.marks.proofs.Lists.{each_in, in_each}
use Rattle.marks.proofs.Orders.{apart}

module _ {A : Type 0} (test : A → Bool) where
  kept_each : (P : A → Type 0) (xs : List A) → Each P xs → Each P (filter test xs)
  kept_each P [] h = tt
  kept_each P (x ∷ xs) h = cond_both (test x) (x ∷ filter test xs) (filter test xs) (Each P) (λ _. (h.0, kept_each P xs h.1)) (λ _. kept_each P xs h.1)

  pub kept_rising : (R : A → A → Type 0) (xs : List A) → Rising R xs → Rising R (filter test xs)
  kept_rising R [] h = tt
  kept_rising R (x ∷ xs) h = cond_both (test x) (x ∷ filter test xs) (filter test xs) (Rising R) (λ _. (kept_each (R x) xs h.0, kept_rising R xs h.1)) (λ _. kept_rising R xs h.1)

  pub kept_out : (xs : List A) (z : A) → z ∈ filter test xs → (z ∈ xs) × (test z ≡ true)
  kept_out [] z a = absurd a
  kept_out (x ∷ xs) z a =
      cond_both (test x) (x ∷ filter test xs) (filter test xs) (λ (l : List A). z ∈ l → (z ∈ (x ∷ xs)) × (test z ≡ true))
      (λ t b. front (λ c. kept_out xs z c) t b) (λ _ b. let r = kept_out xs z b in (inr r.0, r.1)) a
    where
      front : (z ∈ filter test xs → (z ∈ xs) × (test z ≡ true)) → test x ≡ true → z ∈ (x ∷ filter test xs) → (z ∈ (x ∷ xs)) × (test z ≡ true)
      front rest t (inl e) = (inl e, subst (λ (y : A). test y ≡ true) (sym e) t)
      front rest t (inr b) = let r = rest b in (inr r.0, r.1)

  pub kept_in : (xs : List A) (z : A) → z ∈ xs → test z ≡ true → z ∈ filter test xs
  kept_in [] z a t = absurd a
  kept_in (x ∷ xs) z (inl e) t = cond_both (test x) (x ∷ filter test xs) (filter test xs) (λ (l : List A). z ∈ l) (λ _. inl e) (λ f. absurd (both_ways (test x) f (subst (λ (y : A). test y ≡ true) e t)))
  kept_in (x ∷ xs) z (inr a) t = cond_both (test x) (x ∷ filter test xs) (filter test xs) (λ (l : List A). z ∈ l) (λ _. inr (kept_in xs z a t)) (λ _. kept_in xs z a t)

  -- where each passes, each is kept
  pub kept_all : (xs : List A) → Each (λ x. test x ≡ true) xs → filter test xs ≡ xs
  kept_all [] h = refl
  kept_all (x ∷ xs) h = cond_both (test x) (x ∷ filter test xs) (filter test xs) (λ (l : List A). l ≡ x ∷ xs) (λ _. ap (λ (l : List A). x ∷ l) (kept_all xs h.1)) (λ f. absurd (both_ways (test x) f h.0))

module _ {A B : Type 0} {below : B → B → Bool} (order : TotalOrder below) (key : A → B) where
  abbrev R : A → A → Type 0
  R x y = below (key x) (key y) ≡ true

  abbrev by : A → A → Bool
  by x y = below (key x) (key y)

  placed_each : (P : A → Type 0) (x : A) (ys : List A) → P x → Each P ys → Each P (placed by x ys)
  placed_each P x [] p h = (p, tt)
  placed_each P x (y ∷ ys) p h =
      cond_both (by x y) (x ∷ y ∷ ys) (y ∷ cond (by y x) (placed by x ys) ys) (Each P) (λ _. (p, h))
      (λ _. (h.0, cond_both (by y x) (placed by x ys) ys (Each P) (λ _. placed_each P x ys p h.1) (λ _. h.1)))

  pub placed_rising : (x : A) (ys : List A) → Rising R ys → Rising R (placed by x ys)
  placed_rising x [] h = (tt, tt)
  placed_rising x (y ∷ ys) h =
      cond_both (by x y) (x ∷ y ∷ ys) (y ∷ cond (by y x) (placed by x ys) ys) (Rising R)
      (λ t. ((t, in_each (R x) ys (λ u a. order.transitive (key x) (key y) (key u) t (each_in (R y) ys h.0 u a))), h))
      (λ _. cond_both (by y x) (placed by x ys) ys (λ (l : List A). Rising R (y ∷ l)) (λ t. (placed_each (R y) x ys t h.0, placed_rising x ys h.1)) (λ _. h))

  -- no one has the key of x
  abbrev pub New : A → List A → Type 0
  New x ys = (u : A) → u ∈ ys → key u ≡ key x → ⊥

  pub placed_out : (x : A) (ys : List A) → Rising R ys → (z : A) → z ∈ placed by x ys → (z ∈ ys) ⊎ ((z ≡ x) × New x ys)
  placed_out x [] h z (inl e) = inr (e, λ u a. absurd a)
  placed_out x [] h z (inr e) = absurd e
  placed_out x (y ∷ ys) h z m =
      cond_both (by x y) (x ∷ y ∷ ys) (y ∷ cond (by y x) (placed by x ys) ys) (λ (l : List A). z ∈ l → (z ∈ (y ∷ ys)) ⊎ ((z ≡ x) × New x (y ∷ ys)))
      (λ t a. front t a)
      (λ _. cond_both (by y x) (placed by x ys) ys (λ (l : List A). z ∈ (y ∷ l) → (z ∈ (y ∷ ys)) ⊎ ((z ≡ x) × New x (y ∷ ys))) (λ t a. later (λ b. placed_out x ys h.1 z b) t a) (λ _ a. inl a)) m
    where
      new : by x y ≡ true → New x (y ∷ ys)
      new t u (inl e) k = apart order (key x) (key y) t (sym (ap key e) ∙ k)
      new t u (inr a) k = apart order (key x) (key u) (order.transitive (key x) (key y) (key u) t (each_in (R y) ys h.0 u a)) k

      front : by x y ≡ true → z ∈ (x ∷ y ∷ ys) → (z ∈ (y ∷ ys)) ⊎ ((z ≡ x) × New x (y ∷ ys))
      front t (inl e) = inr (e, new t)
      front t (inr a) = inl a

      also : by y x ≡ true → New x ys → New x (y ∷ ys)
      also t n u (inl e) k = apart order (key y) (key x) t (sym k ∙ ap key e)
      also t n u (inr a) k = n u a k

      lift : by y x ≡ true → (z ∈ ys) ⊎ ((z ≡ x) × New x ys) → (z ∈ (y ∷ ys)) ⊎ ((z ≡ x) × New x (y ∷ ys))
      lift t (inl a) = inl (inr a)
      lift t (inr (e, n)) = inr (e, also t n)

      later : (z ∈ placed by x ys → (z ∈ ys) ⊎ ((z ≡ x) × New x ys)) → by y x ≡ true → z ∈ (y ∷ placed by x ys) → (z ∈ (y ∷ ys)) ⊎ ((z ≡ x) × New x (y ∷ ys))
      later rest t (inl e) = inl (inl e)
      later rest t (inr a) = lift t (rest a)

  pub placed_old : (x : A) (ys : List A) (z : A) → z ∈ ys → z ∈ placed by x ys
  placed_old x [] z a = absurd a
  placed_old x (y ∷ ys) z a =
      cond_both (by x y) (x ∷ y ∷ ys) (y ∷ cond (by y x) (placed by x ys) ys) (λ (l : List A). z ∈ l) (λ _. inr a)
      (λ _. cond_both (by y x) (placed by x ys) ys (λ (l : List A). z ∈ (y ∷ l)) (λ _. go (λ b. placed_old x ys z b) a) (λ _. a))
    where
      go : (z ∈ ys → z ∈ placed by x ys) → z ∈ (y ∷ ys) → z ∈ (y ∷ placed by x ys)
      go rest (inl e) = inl e
      go rest (inr b) = inr (rest b)

  pub placed_new : (x : A) (ys : List A) → New x ys → x ∈ placed by x ys
  placed_new x [] n = inl refl
  placed_new x (y ∷ ys) n =
      cond_both (by x y) (x ∷ y ∷ ys) (y ∷ cond (by y x) (placed by x ys) ys) (λ (l : List A). x ∈ l) (λ _. inl refl)
      (λ f. cond_both (by y x) (placed by x ys) ys (λ (l : List A). x ∈ (y ∷ l)) (λ _. inr (placed_new x ys (λ u a. n u (inr a)))) (λ g. absurd (n y (inl refl) (order.total (key y) (key x) g f))))
