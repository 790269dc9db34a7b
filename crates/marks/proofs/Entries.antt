-- The first entry past a name, where one more entry takes its place. Assumes nothing.
use Rattle.std.proofs.Common.{◌≡◌, ℕ, zero, suc, Bool, true, false, cond, ◌&&◌, List, [], ◌∷◌, Some, None, Option, sym, refl, ap, ◌∙◌, subst, inl, inr}
use Rattle.std.specs.List.{slice_get}
use Rattle.std.proofs.lemmas.Bool.{cond_both, cond-true, cond-false, and_left, and_right, both_ways}
use Rattle.kinds.specs.Order.{TotalOrder}
use Rattle.marks.specs.Lists.{◌∈◌, Each, Rising, placed}
use Rattle.marks.specs.Past.{past, ahead, first_past}
use Rattle.marks.specs.declared.mark.Entry.{Entry}
use Rattle.marks.proofs.Lists.{each_map, each_nth}
use Rattle.marks.proofs.Orders.{asym}

and_true : (x : Bool) → (x && true) ≡ x
and_true true = refl
and_true false = refl

module _ {N V : Type 0} {names : N → N → Bool} (order : TotalOrder names) (last : Option N) where
  abbrev earlier : Entry N V → Entry N V → Bool
  earlier e f = names e.name f.name

  -- a name ahead of each entry is ahead of the first that is past the last
  ahead_each : (n : N) (es : List (Entry N V)) → Each (λ g. names n g.name ≡ true) es → ahead names (first_past names last es) n ≡ true
  ahead_each n [] h = refl
  ahead_each n (f ∷ fs) h = cond_both (past names last f.name) (Some f) (first_past names last fs) (λ (r : Option (Entry N V)). ahead names r n ≡ true) (λ _. h.0) (λ _. ahead_each n fs h.1)

  module _ (e f : Entry N V) (ge : earlier e f ≡ false) (q : Bool) where
    -- the entry stands behind f
    behind : (p : Bool) (x y : Option (Entry N V)) → x ≡ cond (q && ahead names y e.name) (Some e) y → cond p (Some f) x ≡ cond (q && ahead names (cond p (Some f) y) e.name) (Some e) (cond p (Some f) y)
    behind true x y rest = sym (cond-false (q && earlier e f) (Some e) (Some f) (and_right q (earlier e f) ge))
    behind false x y rest = rest

    -- f has the entry's name
    passed : (p : Bool) (y : Option (Entry N V)) → p ≡ q → cond p (Some f) y ≡ cond (q && ahead names (cond p (Some f) y) e.name) (Some e) (cond p (Some f) y)
    passed true y same = sym (cond-false (q && earlier e f) (Some e) (Some f) (and_right q (earlier e f) ge))
    passed false y same = sym (cond-false (q && ahead names y e.name) (Some e) y (and_left q (ahead names y e.name) (sym same)))

  -- one more entry is the first past the last if it is past the last and ahead of what was the first
  pub better : (e : Entry N V) (es : List (Entry N V)) → Rising (λ a b. earlier a b ≡ true) es
      → first_past names last (placed earlier e es) ≡ cond (past names last e.name && ahead names (first_past names last es) e.name) (Some e) (first_past names last es)
  better e [] h = ap (λ (t : Bool). cond t (Some e) None) (sym (and_true (past names last e.name)))
  better e (f ∷ fs) h =
      let b = first_past names last (f ∷ fs) in
      let Goal : List (Entry N V) → Type 0 = λ l. first_past names last l ≡ cond (past names last e.name && ahead names b e.name) (Some e) b in
      cond_both (earlier e f) (e ∷ f ∷ fs) (f ∷ cond (earlier f e) (placed earlier e fs) fs) Goal
      (λ lt.
      let first : ahead names b e.name ≡ true = ahead_each e.name (f ∷ fs) (lt, each_map (λ g. earlier f g ≡ true) (λ g. earlier e g ≡ true) fs (λ g. order.transitive e.name f.name g.name lt) h.0) in
      ap (λ (t : Bool). cond t (Some e) b) (sym (ap (λ (u : Bool). past names last e.name && u) first ∙ and_true (past names last e.name))))
      (λ ge. cond_both (earlier f e) (placed earlier e fs) fs (λ l. Goal (f ∷ l))
      (λ _. behind e f ge (past names last e.name) (past names last f.name) _ (first_past names last fs) (better e fs h.1))
      (λ le. passed e f ge (past names last e.name) (past names last f.name) (first_past names last fs) (ap (past names last) (order.total f.name e.name le ge))))

-- where each entry is past the name, the first is
head_past : {N V : Type 0} (names : N → N → Bool) (n : N) (es : List (Entry N V)) → Each (λ g. names n g.name ≡ true) es → first_past names (Some n) es ≡ slice_get es 0
head_past names n [] h = refl
head_past names n (g ∷ gs) h = cond-true (names n g.name) (Some g) (first_past names (Some n) gs) h.0

-- an entry is followed by the first past its name
pub follows : {N V : Type 0} {names : N → N → Bool} → TotalOrder names → (es : List (Entry N V)) (k : ℕ) (e : Entry N V) → Rising (λ a b. names a.name b.name ≡ true) es → slice_get es k ≡ Some e → first_past names (Some e.name) es ≡ slice_get es (suc k)
follows order [] k e h at = refl
follows {N} {V} {names} order (f ∷ fs) zero e h at =
    let one : f ≡ e = cc in
    let here : names e.name f.name ≡ false = subst (λ (g : Entry N V). names g.name f.name ≡ false) one (order.irreflexive f.name) in
    cond-false (names e.name f.name) (Some f) (first_past names (Some e.name) fs) here
    ∙ head_past names e.name fs (subst (λ (g : Entry N V). Each (λ u. names g.name u.name ≡ true) fs) one h.0)
follows {N} {V} {names} order (f ∷ fs) (suc k) e h at =
    cond-false (names e.name f.name) (Some f) (first_past names (Some e.name) fs) (asym order f.name e.name (each_nth (λ u. names f.name u.name ≡ true) fs k e h.0 at))
    ∙ follows order fs k e h.1 at

-- the first entry is the first past no name
pub first : {N V : Type 0} (names : N → N → Bool) (es : List (Entry N V)) → first_past names None es ≡ slice_get es 0
first names [] = refl
first names (e ∷ es) = refl

module _ {N V : Type 0} {names : N → N → Bool} (order : TotalOrder names) (last : Option N) where
  -- of entries in order: none is past the last name, or this one is, and none that is past it comes before
  abbrev pub First : List (Entry N V) → Option (Entry N V) → Type 0
  First es None = Each (λ e. past names last e.name ≡ false) es
  First es (Some e) = (e ∈ es) × (past names last e.name ≡ true) × Each (λ f. past names last f.name ≡ true → names f.name e.name ≡ false) es

  pub first_is : (es : List (Entry N V)) → Rising (λ a b. names a.name b.name ≡ true) es → First es (first_past names last es)
  first_is [] h = tt
  first_is (f ∷ fs) h = go (past names last f.name) refl (first_past names last fs) (first_is fs h.1)
    where
      go : (t : Bool) → past names last f.name ≡ t → (r : Option (Entry N V)) → First fs r → First (f ∷ fs) (cond t (Some f) r)
      go true p r rest = (
        inl refl,
        p,
        ((λ _. order.irreflexive f.name), each_map (λ g. names f.name g.name ≡ true) (λ g. past names last g.name ≡ true → names g.name f.name ≡ false) fs (λ g lt _. asym order f.name g.name lt) h.0),
      )
      go false p None rest = (p, rest)
      go false p (Some e) rest = (inr rest.0, rest.1, ((λ t. absurd (both_ways _ p t)), rest.2))
