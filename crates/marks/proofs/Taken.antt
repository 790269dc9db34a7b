-- What a begin and an end owe, from where the search found the id. Assumes nothing.
use Rattle.std.proofs.Common.{◌≡◌, ℕ, zero, suc, ◌<◌, ◌≤◌, Bool, false, List, [], ◌∷◌, length, get_or, true, Some, None, Ok, Err, Option, Result, Decides, sym, refl, ap, ◌∙◌, subst, arith}
use Rattle.std.specs.List.{insert, remove}
use Rattle.std.specs.Result.{is_ok}
use Rattle.std.proofs.lemmas.Bool.{false≢true}
use Rattle.places.specs.Changes.{Inserts, Removes}
use Rattle.places.specs.declared.places.NoPlace.{NoPlace}
use Rattle.places.specs.declared.places.NoPlace.TheVariants.{Full, Outside}
use Rattle.kinds.specs.Order.{TotalOrder, Equality}
use Rattle.kinds.specs.declared.refusal.Refusal.TheVariants.{NoOpenPlace}
use Rattle.marks.specs.Open.{Ascending, begun, ended, Opens, Closes, Found}
use Rattle.marks.specs.Set.{Differ}
use Rattle.marks.specs.Answers.{Began, Ended, NoPlaceFor}
use Rattle.marks.specs.declared.mark.OpenMark.{OpenMark}
use Rattle.marks.proofs.Alters.{differ_turned, differ_itself}
use Rattle.marks.proofs.Openings.{begun_between, begun_open, begun_opens, not_open, ended_absent, ended_at, ended_closes}

-- put back at its place, what was taken out is there again
put_back : {X : Type 0} (xs : List X) (k : ℕ) (x : X) → k < length xs → x ≡ get_or xs k x → insert (remove xs k) k x ≡ xs
put_back [] k x lt e = absurd (omega arith)
put_back (y ∷ ys) zero x lt e = ap (λ z. z ∷ ys) e
put_back (y ∷ ys) (suc k) x lt e = ap (λ l. y ∷ l) (put_back ys k x (omega arith) e)

module _ {I N V : Type 0} {ids : I → I → Bool} (id-order : TotalOrder ids) {names : N → N → Bool} (order : TotalOrder names) {equal : V → V → Bool} (q : Equality equal) where
  unchanged : (ms : List (OpenMark I N V)) → Decides false (Differ names equal ms ms)
  unchanged ms = ((λ e. absurd (false≢true e)), (λ d. absurd (differ_itself order q ms d)))

  pub began_new : (ms ms' : List (OpenMark I N V)) (k : ℕ) (m : OpenMark I N V) (changed : Bool) → Ascending ids ms → Found ids ms m.id (Err k) → ms' ≡ insert ms k m → Decides changed (Differ names equal ms (insert ms k m)) → Began ids names equal m ms changed ms'
  began_new ms ms' k m changed sorted found put told =
      let leaves : ms' ≡ begun ids m ms = put ∙ begun_between id-order ms k m found in
      record {
        leaves = leaves;
        opens = subst (λ (l : List (OpenMark I N V)). Opens ids m ms l) (sym leaves) (begun_opens id-order ms m sorted);
        tells = subst (λ (l : List (OpenMark I N V)). Decides changed (Differ names equal ms l)) (sym put) told;
      }

  pub began_open : (ms : List (OpenMark I N V)) (k : ℕ) (m : OpenMark I N V) → Ascending ids ms → Found ids ms m.id (Ok k) → Began ids names equal m ms false ms
  began_open ms k m sorted found =
      let leaves : ms ≡ begun ids m ms = begun_open id-order ms k m sorted found in
      record {
        leaves = leaves;
        opens = subst (λ (l : List (OpenMark I N V)). Opens ids m ms l) (sym leaves) (begun_opens id-order ms m sorted);
        tells = unchanged ms;
      }

  pub no_place : (ms ms' : List (OpenMark I N V)) (k places : ℕ) (i : I) → Found ids ms i (Err k) → length ms ≡ places → ms' ≡ ms → NoPlaceFor ids names equal i places ms NoOpenPlace ms'
  no_place ms ms' k places i found full same = record { cause = refl; full = full; not_open = not_open id-order ms k i found; leaves = same }

  pub ended_here : (ms ms' : List (OpenMark I N V)) (k : ℕ) (i : I) (m : OpenMark I N V) (changed : Bool) → Ascending ids ms → Found ids ms i (Ok k) → k < length ms → m ≡ get_or ms k m → ms' ≡ remove ms k → Decides changed (Differ names equal ms' (insert ms' k m)) → Ended ids names equal i ms changed ms'
  ended_here ms ms' k i m changed sorted found inside read out told =
      let leaves : ms' ≡ ended ids i ms = out ∙ ended_at id-order ms k i sorted found in
      let back : insert ms' k m ≡ ms = ap (λ (l : List (OpenMark I N V)). insert l k m) out ∙ put_back ms k m inside read in
      let said : Decides changed (Differ names equal ms' ms) = subst (λ (l : List (OpenMark I N V)). Decides changed (Differ names equal ms' l)) back told in
      record {
        leaves = leaves;
        closes = subst (λ (l : List (OpenMark I N V)). Closes ids i ms l) (sym leaves) (ended_closes id-order ms i sorted);
        tells = ((λ t. differ_turned order q ms' ms (said.0 t)), (λ d. said.1 (differ_turned order q ms ms' d)));
      }

  pub ended_none : (ms : List (OpenMark I N V)) (k : ℕ) (i : I) → Ascending ids ms → Found ids ms i (Err k) → Ended ids names equal i ms false ms
  ended_none ms k i sorted found =
      let leaves : ms ≡ ended ids i ms = ended_absent id-order ms k i found in
      record {
        leaves = leaves;
        closes = subst (λ (l : List (OpenMark I N V)). Closes ids i ms l) (sym leaves) (ended_closes id-order ms i sorted);
        tells = unchanged ms;
      }

-- an insertion where the search found no such id leaves the marks in their order, and a refused one leaves them
pub inserts_ascends : {I N V U : Type 0} {ids : I → I → Bool} (order : TotalOrder ids) (ms ms' : List (OpenMark I N V)) (places k : ℕ) (m : OpenMark I N V) (r : Result U NoPlace) → Ascending ids ms → Found ids ms m.id (Err k) → Inserts ms places k m r ms' → Ascending ids ms'
inserts_ascends {ids} order ms ms' places k m (Ok u) sorted found h = subst (λ l. Ascending ids l) (sym (h.2 ∙ begun_between order ms k m found)) (begun_opens order ms m sorted).in_order
inserts_ascends {ids} order ms ms' places k m (Err Full) sorted found h = subst (λ l. Ascending ids l) (sym h.2) sorted
inserts_ascends {ids} order ms ms' places k m (Err Outside) sorted found h = subst (λ l. Ascending ids l) (sym h.1) sorted

-- what a removal leaves keeps its order
pub removes_ascends : {I N V : Type 0} {ids : I → I → Bool} (order : TotalOrder ids) (ms ms' : List (OpenMark I N V)) (k : ℕ) (i : I) (r : Option (OpenMark I N V)) → Ascending ids ms → Found ids ms i (Ok k) → Removes ms k r ms' → Ascending ids ms'
removes_ascends {ids} order ms ms' k i (Some m) sorted found h = subst (λ l. Ascending ids l) (sym (h.2 ∙ ended_at order ms k i sorted found)) (ended_closes order ms i sorted).in_order
removes_ascends {ids} order ms ms' k i None sorted found h = subst (λ l. Ascending ids l) (sym h.1) sorted

-- an insertion within the items is refused only where all places are in use
pub full_only : {X U : Type 0} (xs ys : List X) (places at : ℕ) (x : X) (r : Result U NoPlace) → is_ok r ≡ false → at ≤ length xs → Inserts xs places at x r ys → (length xs ≡ places) × (ys ≡ xs)
full_only xs ys places at x (Ok u) bad within h = absurd (false≢true (sym bad))
full_only xs ys places at x (Err Full) bad within h = (h.1, h.2)
full_only xs ys places at x (Err Outside) bad within h = absurd (omega (arith, h.0))

-- and one that is not refused puts the item in
pub put_in : {X U : Type 0} (xs ys : List X) (places at : ℕ) (x : X) (r : Result U NoPlace) → is_ok r ≡ true → Inserts xs places at x r ys → ys ≡ insert xs at x
put_in xs ys places at x (Ok u) good h = h.2
put_in xs ys places at x (Err Full) good h = absurd (false≢true good)
put_in xs ys places at x (Err Outside) good h = absurd (false≢true good)
