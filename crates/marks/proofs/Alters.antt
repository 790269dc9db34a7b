-- What one mark more in the middle makes of a set. Assumes nothing.
use Rattle.std.proofs.Common.{◌≡◌, ℕ, ◌-◌, Bool, true, false, cond, not, List, ◌∷◌, ◌++◌, length, take, drop, Some, None, Decides, Option, sym, refl, ap, ◌∙◌, subst, ⊎_elim}
use Rattle.std.specs.List.{insert}
use Rattle.std.proofs.lemmas.List.{take-append-drop, take_rest}
use Rattle.std.proofs.lemmas.Bool.{cases_Bool, both_ways, not-true, not_from_false, false≢true}
use Rattle.kinds.specs.Order.{TotalOrder, Equality}
use Rattle.marks.specs.Open.{alike}
use Rattle.std.specs.Option.{option_or}
use Rattle.marks.specs.Set.{under, given, SameValue, Differ}
use Rattle.marks.specs.declared.mark.OpenMark.{OpenMark}
use Rattle.marks.proofs.Orders.{alike_one, alike_itself}
use Rattle.marks.proofs.Values.{given_append, or_none}

-- whether the value changes: `above` is what the marks above give the name, `below` those below, v the new value
abbrev pub altered : {V : Type 0} → (V → V → Bool) → Option V → Option V → V → Bool
altered equal (Some u) below v = false
altered equal None None v = true
altered equal None (Some w) v = not (equal w v)

pub same_turned : {V : Type 0} {equal : V → V → Bool} → Equality equal → (x y : Option V) → SameValue equal x y → SameValue equal y x
same_turned q None None h = tt
same_turned q None (Some w) h = h
same_turned q (Some v) None h = h
same_turned q (Some v) (Some w) h = q.turned v w h

same_itself : {V : Type 0} {equal : V → V → Bool} → Equality equal → (x : Option V) → SameValue equal x x
same_itself q None = tt
same_itself q (Some v) = q.itself v

module _ {I N V : Type 0} {names : N → N → Bool} (order : TotalOrder names) {equal : V → V → Bool} (q : Equality equal) where
  -- sets that do not differ are turned round
  pub differ_turned : (ms ms' : List (OpenMark I N V)) → Differ names equal ms ms' → Differ names equal ms' ms
  differ_turned ms ms' d = (d.0, λ h. d.1 (same_turned q (given names ms' d.0) (given names ms d.0) h))

  -- a set does not differ from itself
  pub differ_itself : (ms : List (OpenMark I N V)) → Differ names equal ms ms → ⊥
  differ_itself ms d = d.1 (same_itself q (given names ms d.0))

  module _ (front back : List (OpenMark I N V)) (m : OpenMark I N V) where
    old : (n : N) → given names (front ++ back) n ≡ option_or (given names back n) (given names front n)
    old n = given_append names n front back

    new : (n : N) → given names (front ++ m ∷ back) n ≡ option_or (option_or (given names back n) (under names m n)) (given names front n)
    new n = given_append names n front (m ∷ back)

    -- a name that the mark has not keeps its value
    elsewhere : (n : N) → alike names m.name n ≡ false → SameValue equal (given names (front ++ back) n) (given names (front ++ m ∷ back) n)
    elsewhere n f =
        let none : under names m n ≡ None = ap (λ (t : Bool). cond t (Some m.value) None) f in
        let same : given names (front ++ m ∷ back) n ≡ given names (front ++ back) n =
        new n ∙ ap (λ (u : Option V). option_or (option_or (given names back n) u) (given names front n)) none
        ∙ ap (λ (b : Option V). option_or b (given names front n)) (sym (or_none (given names back n))) ∙ sym (old n) in
        subst (λ (r : Option V). SameValue equal (given names (front ++ back) n) r) (sym same) (same_itself q (given names (front ++ back) n))

    -- where the mark's own name keeps its value, so does every name
    everywhere : SameValue equal (given names (front ++ back) m.name) (given names (front ++ m ∷ back) m.name) → Differ names equal (front ++ back) (front ++ m ∷ back) → ⊥
    everywhere here d =
        ⊎_elim
        (λ (t : alike names m.name d.0 ≡ true). d.1 (subst (λ (n : N). SameValue equal (given names (front ++ back) n) (given names (front ++ m ∷ back) n)) (alike_one order m.name d.0 t) here))
        (λ (f : alike names m.name d.0 ≡ false). d.1 (elsewhere d.0 f))
        (cases_Bool (alike names m.name d.0))

    -- the value of the mark's name before and after, by what the parts give it
    at_name : (b f : Option V) → given names back m.name ≡ b → given names front m.name ≡ f
        → (given names (front ++ back) m.name ≡ option_or b f) × (given names (front ++ m ∷ back) m.name ≡ option_or (option_or b (Some m.value)) f)
    at_name b f eb ef =
        let mine : under names m m.name ≡ Some m.value = ap (λ (t : Bool). cond t (Some m.value) None) (alike_itself order m.name) in (
          old m.name ∙ ap (λ (x : Option V). option_or x (given names front m.name)) eb ∙ ap (λ (x : Option V). option_or b x) ef,
          new m.name ∙ ap (λ (x : Option V). option_or (option_or x (under names m m.name)) (given names front m.name)) eb
              ∙ ap (λ (u : Option V). option_or (option_or b u) (given names front m.name)) mine
              ∙ ap (λ (x : Option V). option_or (option_or b (Some m.value)) x) ef,
        )

    by_parts : (b f : Option V) → given names back m.name ≡ b → given names front m.name ≡ f → SameValue equal (option_or b f) (option_or (option_or b (Some m.value)) f) → SameValue equal (given names (front ++ back) m.name) (given names (front ++ m ∷ back) m.name)
    by_parts b f eb ef h =
        let p = at_name b f eb ef in
        subst (λ (x : Option V). SameValue equal x (given names (front ++ m ∷ back) m.name)) (sym p.0) (subst (λ (y : Option V). SameValue equal (option_or b f) y) (sym p.1) h)

    from_parts : (b f : Option V) → given names back m.name ≡ b → given names front m.name ≡ f → SameValue equal (given names (front ++ back) m.name) (given names (front ++ m ∷ back) m.name) → SameValue equal (option_or b f) (option_or (option_or b (Some m.value)) f)
    from_parts b f eb ef h =
        let p = at_name b f eb ef in
        subst (λ (x : Option V). SameValue equal x (option_or (option_or b (Some m.value)) f)) p.0 (subst (λ (y : Option V). SameValue equal (given names (front ++ back) m.name) y) p.1 h)

    pub decided : (b f : Option V) → given names back m.name ≡ b → given names front m.name ≡ f → Decides (altered equal b f m.value) (Differ names equal (front ++ back) (front ++ m ∷ back))
    decided (Some u) f eb ef = (
      (λ e. absurd (false≢true e)),
      (λ d. absurd (everywhere (by_parts (Some u) f eb ef (q.itself u)) d)),
    )
    decided None None eb ef = (
      (λ _. (m.name, λ h. from_parts None None eb ef h)),
      (λ _. refl),
    )
    decided None (Some w) eb ef = (
      (λ t. (m.name, λ h. both_ways (equal w m.value) (not-true (equal w m.value) t) (from_parts None (Some w) eb ef h))),
      (λ d. ⊎_elim
          (λ (t : equal w m.value ≡ true). absurd (everywhere (by_parts None (Some w) eb ef t) d))
          (λ (f : equal w m.value ≡ false). not_from_false (equal w m.value) f)
          (cases_Bool (equal w m.value))),
    )

  -- a mark put in at a place, by what the parts above and below it give its name
  pub inserted_alters : (ms : List (OpenMark I N V)) (at : ℕ) (m : OpenMark I N V) (b f : Option V) → given names (take (length ms - at) (drop at ms)) m.name ≡ b → given names (take at ms) m.name ≡ f → Decides (altered equal b f m.value) (Differ names equal ms (insert ms at m))
  inserted_alters ms at m b f eb ef =
      let above : given names (drop at ms) m.name ≡ b = ap (λ (l : List (OpenMark I N V)). given names l m.name) (sym (take_rest ms at)) ∙ eb in
      subst (λ (l : List (OpenMark I N V)). Decides (altered equal b f m.value) (Differ names equal l (insert ms at m))) (take-append-drop at ms) (decided (take at ms) (drop at ms) m b f above ef)
