-- Parts of parts of a list, and tests that agree. Assumes nothing.
use Rattle.std.proofs.Common.{◌≡◌, ℕ, zero, suc, ◌-◌, ◌<◌, ◌≤◌, min, ltb, ◌⊎◌, List, [], ◌∷◌, take, drop, sym, ap, ◌∙◌, inl, inr, arith}
use Rattle.std.proofs.Math.Seq.{take-nil}
use Rattle.std.proofs.lemmas.Bool.{cases_lt, lt-ltb, le-ltb}

-- the rest of a front is the front of a rest
pub drop_of_take : {A : Type 0} (k n : ℕ) (l : List A) → drop k (take n l) ≡ take (n - k) (drop k l)
drop_of_take zero n l = let e : n ≡ n - 0 = omega arith in ap (λ j. take j l) e
drop_of_take (suc k) zero l = let e : 0 - suc k ≡ 0 = omega arith in rw e
drop_of_take (suc k) (suc n) [] = sym (take-nil (suc n - suc k))
drop_of_take (suc k) (suc n) (x ∷ xs) =
    let e : n - k ≡ suc n - suc k = omega arith in
    drop_of_take k n xs ∙ ap (λ j. take j (drop k xs)) e

-- the front of a front is the shorter one
pub take_of_take : {A : Type 0} (m n : ℕ) (l : List A) → take m (take n l) ≡ take (min m n) l
take_of_take zero n l = let e : min 0 n ≡ 0 = omega arith in rw e
take_of_take (suc m) zero l = let e : min (suc m) 0 ≡ 0 = omega arith in rw e
take_of_take (suc m) (suc n) [] = sym (take-nil (min (suc m) (suc n)))
take_of_take (suc m) (suc n) (x ∷ xs) =
    let e : min (suc m) (suc n) ≡ suc (min m n) = omega arith in
    rw e (ap (λ r. x ∷ r) (take_of_take m n xs))

-- tests of facts that follow from one another
pub tests_agree : (p q r s : ℕ) → (p < q → r < s) → (q ≤ p → s ≤ r) → ltb p q ≡ ltb r s
tests_agree p q r s f g = by_case (cases_lt p q)
  where
    by_case : (p < q) ⊎ (q ≤ p) → ltb p q ≡ ltb r s
    by_case (inl h) = lt-ltb p q h ∙ sym (lt-ltb r s (f h))
    by_case (inr h) = le-ltb p q h ∙ sym (le-ltb r s (g h))

-- one more on either side of a test
pub one_more : (p q : ℕ) → ltb (suc p) (suc q) ≡ ltb p q
one_more p q = tests_agree (suc p) (suc q) p q (λ h. omega arith) (λ h. omega arith)
