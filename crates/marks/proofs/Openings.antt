-- Marks that begin and end, at the place that a search found. Assumes nothing.
use Rattle.std.proofs.Common.{◌≡◌, ℕ, zero, suc, Bool, true, false, not, ◌⊎◌, List, [], ◌∷◌, ◌++◌, take, drop, Ok, Err, sym, refl, ap, ◌∙◌, subst, inl, inr, arith}
use Rattle.std.specs.List.{insert, remove}
use Rattle.std.proofs.lemmas.List.{take-append-drop}
use Rattle.std.proofs.lemmas.Bool.{cond-true, cond-false, both_ways, not-true, not_from_true, not_from_false}
use Rattle.kinds.specs.Order.{TotalOrder}
use Rattle.marks.specs.Lists.{◌∈◌, Each}
use Rattle.marks.specs.Open.{alike, IsOpen, Ascending, begun, ended, Opens, Closes, Found}
use Rattle.marks.specs.declared.mark.OpenMark.{OpenMark}
use Rattle.marks.proofs.Lists.{each_in, in_each, each_map, each_join, each_nth}
use Rattle.marks.proofs.Orders.{asym, apart, one_alike, not_alike}
use Rattle.marks.proofs.Placed.{kept_rising, kept_out, kept_in, kept_all, placed_rising, placed_out, placed_old, placed_new}

module _ {I N V : Type 0} {ids : I → I → Bool} (order : TotalOrder ids) where
  -- put in between the ids below and those above, a mark has its place in the order
  pub begun_between : (ms : List (OpenMark I N V)) (k : ℕ) (m : OpenMark I N V) → Found ids ms m.id (Err k) → insert ms k m ≡ begun ids m ms
  begun_between [] zero m h = refl
  begun_between [] (suc k) m h = refl
  begun_between (y ∷ ys) zero m h = sym (cond-true (ids m.id y.id) _ _ h.1.0)
  begun_between (y ∷ ys) (suc k) m h =
      sym (cond-false (ids m.id y.id) _ _ (asym order y.id m.id h.0.0)
      ∙ ap (λ (l : List (OpenMark I N V)). y ∷ l) (cond-true (ids y.id m.id) _ _ h.0.0 ∙ sym (begun_between ys k m (h.0.1, h.1))))

  -- an id that is open keeps its mark
  pub begun_open : (ms : List (OpenMark I N V)) (k : ℕ) (m : OpenMark I N V) → Ascending ids ms → Found ids ms m.id (Ok k) → ms ≡ begun ids m ms
  begun_open [] k m s h = let e = h.1 in let z : ◌≡◌ {A = ℕ} 0 1 = cc in absurd (omega arith)
  begun_open (y ∷ ys) zero m s h =
      let at = h.1 in
      let here : y ≡ h.0 = cc in
      let same : y.id ≡ m.id = ap (λ (o : OpenMark I N V). o.id) here ∙ h.2 in
      let up : ids m.id y.id ≡ false = subst (λ (i : I). ids m.id i ≡ false) (sym same) (order.irreflexive m.id) in
      let down : ids y.id m.id ≡ false = subst (λ (i : I). ids i m.id ≡ false) (sym same) (order.irreflexive m.id) in
      sym (cond-false (ids m.id y.id) _ _ up ∙ ap (λ (l : List (OpenMark I N V)). y ∷ l) (cond-false (ids y.id m.id) _ _ down))
  begun_open (y ∷ ys) (suc k) m s h =
      let lt : ids y.id m.id ≡ true = subst (λ (i : I). ids y.id i ≡ true) h.2 (each_nth (λ u. ids y.id u.id ≡ true) ys k h.0 s.0 h.1) in
      sym (cond-false (ids m.id y.id) _ _ (asym order y.id m.id lt)
      ∙ ap (λ (l : List (OpenMark I N V)). y ∷ l) (cond-true (ids y.id m.id) _ _ lt ∙ sym (begun_open ys k m s.1 h)))

  -- an id that has a place between others is not open
  pub not_open : (ms : List (OpenMark I N V)) (k : ℕ) (i : I) → Found ids ms i (Err k) → IsOpen ms i → ⊥
  not_open ms k i h o =
      let P : OpenMark I N V → Type 0 = λ u. u.id ≡ i → ⊥ in
      let all : Each P (take k ms ++ drop k ms) = each_join P (take k ms) (drop k ms)
      (each_map (λ u. ids u.id i ≡ true) P (take k ms) (λ u lt e. apart order u.id i lt (sym e)) h.0)
      (each_map (λ u. ids i u.id ≡ true) P (drop k ms) (λ u lt e. apart order i u.id lt e) h.1) in
      each_in P ms (subst (λ (l : List (OpenMark I N V)). Each P l) (take-append-drop k ms) all) o.0 o.1 o.2

  pub begun_opens : (ms : List (OpenMark I N V)) (m : OpenMark I N V) → Ascending ids ms → Opens ids m ms (begun ids m ms)
  begun_opens ms m s = record {
    in_order = placed_rising order (λ (u : OpenMark I N V). u.id) m ms s;
    exactly = λ o. ((λ a. out o (placed_out order (λ (u : OpenMark I N V). u.id) m ms s o a)), into o);
  }
    where
      out : (o : OpenMark I N V) → (o ∈ ms) ⊎ ((o ≡ m) × ((u : OpenMark I N V) → u ∈ ms → u.id ≡ m.id → ⊥)) → (o ∈ ms) ⊎ ((o ≡ m) × (IsOpen ms m.id → ⊥))
      out o (inl a) = inl a
      out o (inr (e, n)) = inr (e, λ u. n u.0 u.1 u.2)

      into : (o : OpenMark I N V) → (o ∈ ms) ⊎ ((o ≡ m) × (IsOpen ms m.id → ⊥)) → o ∈ begun ids m ms
      into o (inl a) = placed_old order (λ (u : OpenMark I N V). u.id) m ms o a
      into o (inr (e, n)) = subst (λ (u : OpenMark I N V). u ∈ begun ids m ms) (sym e) (placed_new order (λ (u : OpenMark I N V). u.id) m ms (λ u a k. n (u, a, k)))

  -- where no mark has the id, each is kept
  none_ended : (ms : List (OpenMark I N V)) (i : I) → Each (λ o. o.id ≡ i → ⊥) ms → ms ≡ ended ids i ms
  none_ended ms i h = sym (kept_all (λ o. not (alike ids o.id i)) ms (each_map (λ o. o.id ≡ i → ⊥) (λ o. not (alike ids o.id i) ≡ true) ms (λ o ne. not_from_false (alike ids o.id i) (not_alike order o.id i ne)) h))

  -- an id that is not open ends nothing
  pub ended_absent : (ms : List (OpenMark I N V)) (k : ℕ) (i : I) → Found ids ms i (Err k) → ms ≡ ended ids i ms
  ended_absent ms k i h = none_ended ms i (in_each (λ o. o.id ≡ i → ⊥) ms (λ o a e. not_open ms k i h (o, a, e)))

  -- taken out of its place, the mark of an id has ended
  pub ended_at : (ms : List (OpenMark I N V)) (k : ℕ) (i : I) → Ascending ids ms → Found ids ms i (Ok k) → remove ms k ≡ ended ids i ms
  ended_at [] k i s h = let e = h.1 in let z : ◌≡◌ {A = ℕ} 0 1 = cc in absurd (omega arith)
  ended_at (y ∷ ys) zero i s h =
      let at = h.1 in
      let here : y ≡ h.0 = cc in
      let same : y.id ≡ i = ap (λ (o : OpenMark I N V). o.id) here ∙ h.2 in
      let rest : Each (λ o. o.id ≡ i → ⊥) ys = each_map (λ u. ids y.id u.id ≡ true) (λ u. u.id ≡ i → ⊥) ys (λ u lt e. apart order y.id u.id lt (e ∙ sym same)) s.0 in
      none_ended ys i rest ∙ sym (cond-false (not (alike ids y.id i)) (y ∷ ended ids i ys) (ended ids i ys) (not_from_true (alike ids y.id i) (one_alike order y.id i same)))
  ended_at (y ∷ ys) (suc k) i s h =
      let lt : ids y.id i ≡ true = subst (λ (j : I). ids y.id j ≡ true) h.2 (each_nth (λ u. ids y.id u.id ≡ true) ys k h.0 s.0 h.1) in
      ap (λ (l : List (OpenMark I N V)). y ∷ l) (ended_at ys k i s.1 h)
      ∙ sym (cond-true (not (alike ids y.id i)) (y ∷ ended ids i ys) (ended ids i ys) (not_from_false (alike ids y.id i) (not_alike order y.id i (λ e. apart order y.id i lt (sym e)))))

  pub ended_closes : (ms : List (OpenMark I N V)) (i : I) → Ascending ids ms → Closes ids i ms (ended ids i ms)
  ended_closes ms i s = record {
    in_order = kept_rising (λ o. not (alike ids o.id i)) (λ o u. ids o.id u.id ≡ true) ms s;
    exactly = λ o. (
      (λ a. let r = kept_out (λ u. not (alike ids u.id i)) ms o a in (r.0, λ e. both_ways (alike ids o.id i) (not-true (alike ids o.id i) r.1) (one_alike order o.id i e))),
      (λ h. kept_in (λ u. not (alike ids u.id i)) ms o h.0 (not_from_false (alike ids o.id i) (not_alike order o.id i h.1))),
    );
  }
