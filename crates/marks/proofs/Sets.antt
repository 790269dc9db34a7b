-- The set of open marks: the last mark under a name is its greatest, and the entries miss none. Assumes nothing.
use Rattle.std.proofs.Common.{◌≡◌, ℕ, Bool, true, false, cond, ◌&&◌, ◌⊎◌, List, [], ◌∷◌, ◌++◌, length, Some, None, Option, sym, refl, ap, ◌∙◌, subst, inl, inr, ⊎_elim, arith}
use Rattle.std.specs.List.{slice_get}
use Rattle.std.proofs.lemmas.List.{append_assoc}
use Rattle.std.proofs.lemmas.Bool.{both_ways}
use Rattle.kinds.specs.Order.{TotalOrder}
use Rattle.marks.specs.Lists.{◌∈◌, Rising}
use Rattle.marks.specs.Open.{alike, Ascending}
use Rattle.std.specs.Option.{option_or}
use Rattle.marks.specs.Set.{under, given, entry_of, entries, ValueOf, IsSet, EntryAt}
use Rattle.marks.specs.Past.{past, ahead, first_past, EntryPast}
use Rattle.marks.specs.declared.mark.OpenMark.{OpenMark}
use Rattle.marks.specs.declared.mark.Entry.{Entry}
use Rattle.marks.proofs.Lists.{each_in}
use Rattle.marks.proofs.Orders.{asym, alike_one, alike_itself, one_alike}
use Rattle.marks.proofs.Entries.{better, First, first_is}
use Rattle.marks.proofs.Placed.{placed_rising, placed_out, placed_old, placed_new}

-- two of a rising list of which neither comes before the other are one
rising_one : {A : Type 0} (R : A → A → Type 0) (xs : List A) → Rising R xs → (x y : A) → x ∈ xs → y ∈ xs → (R x y → ⊥) → (R y x → ⊥) → x ≡ y
rising_one R [] h x y p q a b = absurd p
rising_one R (z ∷ xs) h x y (inl p) (inl q) a b = p ∙ sym q
rising_one R (z ∷ xs) h x y (inl p) (inr q) a b = absurd (a (subst (λ u. R u y) (sym p) (each_in (R z) xs h.0 y q)))
rising_one R (z ∷ xs) h x y (inr p) (inl q) a b = absurd (b (subst (λ u. R u x) (sym q) (each_in (R z) xs h.0 x p)))
rising_one R (z ∷ xs) h x y (inr p) (inr q) a b = rising_one R xs h.1 x y p q a b

module _ {I N V : Type 0} {ids : I → I → Bool} {names : N → N → Bool} (id-order : TotalOrder ids) (order : TotalOrder names) where
  -- the last mark under a name has the greatest id
  pub value_is : (ms : List (OpenMark I N V)) (n : N) → Ascending ids ms → ValueOf ids ms n (given names ms n)
  value_is [] n h = λ o a _. absurd a
  value_is (m ∷ ms) n h = go (given names ms n) (value_is ms n h.1) (alike names m.name n) refl
    where
      go : (r : Option V) → ValueOf ids ms n r → (t : Bool) → alike names m.name n ≡ t → ValueOf ids (m ∷ ms) n (option_or r (cond t (Some m.value) None))
      go (Some v) found t e =
          let o = found.0 in
          let greatest = found.1 in (
            o,
            record {
              is_open = inr greatest.is_open;
              named = greatest.named;
              most = λ u a same lt. ⊎_elim
                  (λ (here : u ≡ m). both_ways _ (asym id-order m.id o.id (each_in (λ y. ids m.id y.id ≡ true) ms h.0 o greatest.is_open)) (subst (λ (y : OpenMark I N V). ids o.id y.id ≡ true) here lt))
                  (λ (there : u ∈ ms). greatest.most u there same lt)
                  a;
            },
            found.2,
          )
      go None none true e = (
        m,
        record {
          is_open = inl refl;
          named = alike_one order m.name n e;
          most = λ u a same lt. ⊎_elim
              (λ (here : u ≡ m). both_ways _ (id-order.irreflexive m.id) (subst (λ (y : OpenMark I N V). ids m.id y.id ≡ true) here lt))
              (λ (there : u ∈ ms). none u there same)
              a;
        },
        refl,
      )
      go None none false e = λ u a same. ⊎_elim
          (λ (here : u ≡ m). both_ways _ e (one_alike order m.name n (sym (ap (λ (y : OpenMark I N V). y.name) here) ∙ same)))
          (λ (there : u ∈ ms). none u there same)
          a

  -- a value that the greatest open id has is the one that is given
  pub value_given : (ms : List (OpenMark I N V)) (n : N) (v : V) → Ascending ids ms → ValueOf ids ms n (Some v) → given names ms n ≡ Some v
  value_given ms n v h found = go (given names ms n) refl (value_is ms n h)
    where
      go : (r : Option V) → given names ms n ≡ r → ValueOf ids ms n r → given names ms n ≡ Some v
      go (Some w) e other =
          let one : other.0 ≡ found.0 = rising_one (λ o u. ids o.id u.id ≡ true) ms h other.0 found.0 other.1.is_open found.1.is_open (other.1.most found.0 found.1.is_open found.1.named) (found.1.most other.0 other.1.is_open other.1.named) in
          e ∙ ap Some (other.2 ∙ ap (λ (y : OpenMark I N V). y.value) one ∙ sym found.2)
      go None e none = absurd (none found.0 found.1.is_open found.1.named)

  pub entries_rise : (ms : List (OpenMark I N V)) → Rising (λ e f. names e.name f.name ≡ true) (entries names ms)
  entries_rise [] = tt
  entries_rise (m ∷ ms) = placed_rising order (λ (e : Entry N V). e.name) (entry_of m) (entries names ms) (entries_rise ms)

  abbrev Has : List (OpenMark I N V) → N → V → Type 0
  Has ms n v = record { name = n; value = v } ∈ entries names ms

  -- an entry has what is given under its name, and what is given under a name has an entry
  abbrev Are : List (OpenMark I N V) → Type 0
  Are ms = ((e : Entry N V) → e ∈ entries names ms → given names ms e.name ≡ Some e.value) × ((n : N) (v : V) → given names ms n ≡ Some v → Has ms n v)

  module _ (m : OpenMark I N V) (ms : List (OpenMark I N V)) (rest : Are ms) where
    -- a name that no entry has is given nothing
    none : (n : N) → ((u : Entry N V) → u ∈ entries names ms → u.name ≡ n → ⊥) → (r : Option V) → given names ms n ≡ r → given names ms n ≡ None
    none n new (Some w) e = absurd (new (record { name = n; value = w }) (rest.1 n w e) refl)
    none n new None e = e

    out : (e : Entry N V) → (e ∈ entries names ms) ⊎ ((e ≡ entry_of m) × ((u : Entry N V) → u ∈ entries names ms → u.name ≡ m.name → ⊥)) → given names (m ∷ ms) e.name ≡ Some e.value
    out e (inl a) = ap (λ (r : Option V). option_or r (under names m e.name)) (rest.0 e a)
    out e (inr (same, new)) =
        let nm : e.name ≡ m.name = ap (λ (u : Entry N V). u.name) same in
        let at : given names ms m.name ≡ None = none m.name new (given names ms m.name) refl in
        let here : given names (m ∷ ms) m.name ≡ Some m.value =
        ap (λ (r : Option V). option_or r (under names m m.name)) at ∙ ap (λ (t : Bool). cond t (Some m.value) None) (alike_itself order m.name) in
        ap (λ (n : N). given names (m ∷ ms) n) nm ∙ here ∙ ap (λ (u : Entry N V). Some u.value) (sym same)

    into : (n : N) (v : V) (r : Option V) → given names ms n ≡ r → (t : Bool) → alike names m.name n ≡ t → option_or r (cond t (Some m.value) None) ≡ Some v → Has (m ∷ ms) n v
    into n v (Some w) e t q is = placed_old order (λ (u : Entry N V). u.name) (entry_of m) (entries names ms) _ (rest.1 n v (e ∙ is))
    into n v None e true q is =
        let nm : m.name ≡ n = alike_one order m.name n q in
        let vl : m.value ≡ v = cc in
        let same : entry_of m ≡ record { name = n; value = v } = cc in
        let new : (u : Entry N V) → u ∈ entries names ms → u.name ≡ m.name → ⊥ =
        λ u a k. let z : ◌≡◌ {A = ℕ} 0 1 = cc (sym (rest.0 u a) ∙ ap (λ (x : N). given names ms x) (k ∙ nm) ∙ e) in omega arith in
        subst (λ (u : Entry N V). u ∈ entries names (m ∷ ms)) same (placed_new order (λ (u : Entry N V). u.name) (entry_of m) (entries names ms) new)
    into n v None e false q is = let z : ◌≡◌ {A = ℕ} 0 1 = cc in absurd (omega arith)

  entries_are : (ms : List (OpenMark I N V)) → Are ms
  entries_are [] = ((λ e a. absurd a), (λ n v e. let z : ◌≡◌ {A = ℕ} 0 1 = cc in absurd (omega arith)))
  entries_are (m ∷ ms) =
      let rest = entries_are ms in (
        (λ e a. out m ms rest e (placed_out order (λ (u : Entry N V). u.name) (entry_of m) (entries names ms) (entries_rise ms) e a)),
        (λ n v is. into m ms rest n v (given names ms n) refl (alike names m.name n) refl is),
      )

  -- the entries are the set
  pub entries_set : (ms : List (OpenMark I N V)) → Ascending ids ms → IsSet ids names ms (entries names ms)
  entries_set ms h = record {
    in_order = entries_rise ms;
    exactly = λ n v. (
      (λ found. (entries_are ms).1 n v (value_given ms n v h found)),
      (λ a. subst (λ (r : Option V). ValueOf ids ms n r) ((entries_are ms).0 _ a) (value_is ms n h)),
    );
  }

  -- what stands at a place among the entries is the entry of the set there
  pub entry_at : (ms : List (OpenMark I N V)) (k : ℕ) (r : Option (Entry N V)) → r ≡ slice_get (entries names ms) k → Ascending ids ms → EntryAt ids names ms k r
  entry_at ms k r here h = record { whole = entries names ms; is_set = entries_set ms h; here = here }

  -- from the end of the marks, all but the rest have been seen, and best is the first of their entries past a name
  abbrev pub Seen : Option N → (marks rest : List (OpenMark I N V)) → Option (Entry N V) → Type 0
  Seen last marks rest best = (seen : List (OpenMark I N V)) × (marks ≡ rest ++ seen) × (best ≡ first_past names last (entries names seen))

  -- one mark more has been seen
  pub seen_more : (last : Option N) (marks rest rest' : List (OpenMark I N V)) (m : OpenMark I N V) (best : Option (Entry N V)) (improves : Bool) → Seen last marks rest best → rest ≡ rest' ++ m ∷ []
      → improves ≡ (past names last m.name && ahead names best m.name) → Seen last marks rest' (cond improves (Some (entry_of m)) best)
  seen_more last marks rest rest' m best improves (seen, split, so_far) one told = (
    m ∷ seen,
    split ∙ ap (λ (l : List (OpenMark I N V)). l ++ seen) one ∙ append_assoc rest' (m ∷ []) seen,
    ap (λ (t : Bool). cond t (Some (entry_of m)) best) told
        ∙ ap (λ (b : Option (Entry N V)). cond (past names last m.name && ahead names b m.name) (Some (entry_of m)) b) so_far
        ∙ sym (better order last (entry_of m) (entries names seen) (entries_rise seen)),
  )

  -- all have been seen
  pub seen_all : (last : Option N) (marks rest : List (OpenMark I N V)) (best : Option (Entry N V)) → Seen last marks rest best → length rest ≡ 0 → best ≡ first_past names last (entries names marks)
  seen_all last marks [] best (seen, split, so_far) none = rw split so_far
  seen_all last marks (m ∷ rest) best seen none = absurd (omega (arith, none))

  -- the first entry past a name is what the set has there
  pub entry_past : (last : Option N) (ms : List (OpenMark I N V)) → Ascending ids ms → EntryPast ids names ms last (first_past names last (entries names ms))
  entry_past last ms h = go (first_past names last (entries names ms)) (first_is order last (entries names ms) (entries_rise ms))
    where
      set : IsSet ids names ms (entries names ms)
      set = entries_set ms h

      go : (r : Option (Entry N V)) → First order last (entries names ms) r → EntryPast ids names ms last r
      go None all = λ n v found. each_in (λ e. past names last e.name ≡ false) (entries names ms) all (record { name = n; value = v }) ((set.exactly n v).0 found)
      go (Some e) first = (
        (set.exactly e.name e.value).1 first.0,
        first.1,
        λ n v found p. each_in (λ f. past names last f.name ≡ true → names f.name e.name ≡ false) (entries names ms) first.2 (record { name = n; value = v }) ((set.exactly n v).0 found) p,
      )
