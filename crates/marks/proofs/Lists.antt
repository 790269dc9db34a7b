-- Members of lists, and what holds of each. Assumes nothing.
use Rattle.std.proofs.Common.{◌≡◌, ℕ, zero, suc, ◌<◌, ◌≤◌, List, [], ◌∷◌, ◌++◌, length, get_or, Some, None, sym, refl, subst, inl, inr, arith}
use Rattle.std.specs.List.{slice_get}
use Rattle.marks.specs.Lists.{◌∈◌, Each}

pub each_in : {A : Type 0} (P : A → Type 0) (xs : List A) → Each P xs → (x : A) → x ∈ xs → P x
each_in P [] h x m = absurd m
each_in P (y ∷ ys) h x (inl e) = subst P (sym e) h.0
each_in P (y ∷ ys) h x (inr m) = each_in P ys h.1 x m

pub in_each : {A : Type 0} (P : A → Type 0) (xs : List A) → ((x : A) → x ∈ xs → P x) → Each P xs
in_each P [] h = tt
in_each P (y ∷ ys) h = (h y (inl refl), in_each P ys (λ x m. h x (inr m)))

pub each_map : {A : Type 0} (P Q : A → Type 0) (xs : List A) → ((x : A) → P x → Q x) → Each P xs → Each Q xs
each_map P Q [] f h = tt
each_map P Q (y ∷ ys) f h = (f y h.0, each_map P Q ys f h.1)

pub each_join : {A : Type 0} (P : A → Type 0) (xs ys : List A) → Each P xs → Each P ys → Each P (xs ++ ys)
each_join P [] ys h k = k
each_join P (x ∷ xs) ys h k = (h.0, each_join P xs ys h.1 k)

pub each_at : {A : Type 0} (P : A → Type 0) (xs : List A) (k : ℕ) (d : A) → Each P xs → k < length xs → P (get_or xs k d)
each_at P [] k d h lt = absurd (omega arith)
each_at P (x ∷ xs) zero d h lt = h.0
each_at P (x ∷ xs) (suc k) d h lt = each_at P xs k d h.1 (omega arith)

pub each_nth : {A : Type 0} (P : A → Type 0) (xs : List A) (k : ℕ) (x : A) → Each P xs → slice_get xs k ≡ Some x → P x
each_nth P [] k x h at = let z : ◌≡◌ {A = ℕ} 0 1 = cc in absurd (omega arith)
each_nth P (y ∷ ys) zero x h at = let e : y ≡ x = cc in subst P e h.0
each_nth P (y ∷ ys) (suc k) x h at = each_nth P ys k x h.1 at

-- past the end of a list there is nothing
pub nth_none : {A : Type 0} (xs : List A) (j k : ℕ) → slice_get xs j ≡ None → j ≤ k → None ≡ slice_get xs k
nth_none [] j k e le = refl
nth_none (x ∷ xs) zero k e le = let z : ◌≡◌ {A = ℕ} 0 1 = cc in absurd (omega arith)
nth_none (x ∷ xs) (suc j) zero e le = absurd (omega arith)
nth_none (x ∷ xs) (suc j) (suc k) e le = nth_none xs j k e (omega arith)
