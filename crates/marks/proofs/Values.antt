-- The value of the last mark under a name, asked from the end. Assumes nothing.
use Rattle.std.proofs.Common.{◌≡◌, Bool, true, false, cond, List, [], ◌∷◌, ◌++◌, length, Some, None, Option, IfSome, Iter, Bor, sym, refl, ap, ◌∙◌, subst, arith}
use Rattle.std.specs.Fn.{Mut, CalledAt}
use Rattle.std.specs.Iterator.{Yields}
use Rattle.std.specs.List.{FoldsTo}
use Rattle.std.specs.Option.{option_map, option_or}
use Rattle.std.specs.Slice.Iter.{iter_rest, iter_steps_back}
use Rattle.marks.specs.Open.{alike}
use Rattle.marks.specs.Set.{under, given}
use Rattle.marks.specs.declared.mark.OpenMark.{OpenMark}

pub or_none : {V : Type 0} (x : Option V) → x ≡ option_or x None
or_none (Some v) = refl
or_none None = refl

or_assoc : {V : Type 0} (x y z : Option V) → option_or (option_or x y) z ≡ option_or x (option_or y z)
or_assoc (Some v) y z = refl
or_assoc None y z = refl

module _ {I N V : Type 0} (names : N → N → Bool) (n : N) where
  -- a later part is asked first
  pub given_append : (xs ys : List (OpenMark I N V)) → given names (xs ++ ys) n ≡ option_or (given names ys n) (given names xs n)
  given_append [] ys = or_none (given names ys n)
  given_append (x ∷ xs) ys =
      ap (λ (r : Option V). option_or r (under names x n)) (given_append xs ys) ∙ or_assoc (given names ys n) (given names xs n) (under names x n)

  -- the last mark is asked first
  last_first : (ms ms' : List (OpenMark I N V)) (m : OpenMark I N V) → ms ≡ ms' ++ m ∷ [] → given names ms n ≡ option_or (under names m n) (given names ms' n)
  last_first ms ms' m e = ap (λ (l : List (OpenMark I N V)). given names l n) e ∙ given_append ms' (m ∷ [])

  none_given : (ms : List (OpenMark I N V)) → length ms ≡ 0 → given names ms n ≡ None
  none_given [] e = refl
  none_given (m ∷ ms) e = absurd (omega (arith, e))

  -- a search from the end, by whether a mark has the name
  module _ {F : Type 0} {g : Mut F (Bor (Bor (OpenMark I N V)) × Unit {0}) Bool} (f : F) (tells : (o : Bor (OpenMark I N V)) (b : Bool) (q : F) → CalledAt g f o b q → (q ≡ f) × (b ≡ alike names o.now.name n)) where
    pub found_last : (xs : List (Bor (OpenMark I N V))) (s t u : Iter (OpenMark I N V)) (r : Option (Bor (OpenMark I N V))) (j : F) → Yields iter_steps_back s xs t → iter_steps_back t r u
        → FoldsTo (λ p x q. CalledAt g p x false q) f xs j → IfSome r (λ x. (h : F) × CalledAt g j x true h) → option_map (λ o. o.now.value) r ≡ given names (iter_rest s) n
    found_last [] s t u None j same end kept none = sym (none_given (iter_rest s) (ap (λ (i : Iter (OpenMark I N V)). length (iter_rest i)) same ∙ end.0))
    found_last [] s t u (Some x) j same end kept (h, called) =
        let has = tells x true h (subst (λ (q : F). CalledAt g q x true h) (sym kept) called) in
        sym (last_first (iter_rest s) (iter_rest u) x.now (ap iter_rest same ∙ end) ∙ ap (λ (b : Bool). option_or (cond b (Some x.now.value) None) (given names (iter_rest u) n)) (sym has.1))
    found_last (x ∷ xs) s t u r j (i, step, rest) end (q, called, kept) found =
        let has = tells x false q called in
        found_last xs i t u r j rest end (subst (λ (p : F). FoldsTo (λ k y l. CalledAt g k y false l) p xs j) has.0 kept) found
        ∙ sym (last_first (iter_rest s) (iter_rest i) x.now step ∙ ap (λ (b : Bool). option_or (cond b (Some x.now.value) None) (given names (iter_rest i) n)) (sym has.1))
