-- The first places of a memory, once a copy within it has opened or closed a hole. Assumes nothing.
use Rattle.std.proofs.Common.{◌≡◌, ℕ, ◌+◌, ◌-◌, ◌<◌, ◌≤◌, List, ◌∷◌, ◌++◌, length, take, drop, set, refl, ◌∙◌, add-one, arith}
use Rattle.std.specs.List.{insert, remove, copy_within}
use Rattle.std.proofs.lemmas.List.{append_assoc, length-take-le, length-drop, length-append, take_more, set_at, take_at, take-take}
use Rattle.std.proofs.lemmas.List.Edits.{take-paste}
use Rattle.std.proofs.lemmas.Slice.{between_is}

-- what stands between two places, by the places in use
part : {X : Type 0} (old : List X) (i used : ℕ) → take (used - i) (drop i old) ≡ drop i (take used old)
part old i used = between_is old i used

-- those from `at` on have moved up, and the item stands in the hole
pub inserted : {X : Type 0} (old : List X) (at used : ℕ) (x : X) → at ≤ used → used < length old →
    take (used + 1) (set (copy_within old at used (at + 1)) at x) ≡ insert (take used old) at x
inserted old at used x le lt =
    let low = length-take-le at old (omega arith) in
    let high = length-take-le (used - at) (drop at old) (simp length-drop (omega arith)) in
    let hole = take_more old at x (omega arith) in
    let wide : at + 1 + (used - at) ≡ used + 1 = omega arith in
    let put : set (copy_within old at used (at + 1)) at x ≡ (take at old ++ (x ∷ take (used - at) (drop at old))) ++ drop (used + 1) old =
    rw (hole, wide) (simp append_assoc (set_at (take at old) _ _ x at low)) in
    let front = take_at (take at old ++ (x ∷ take (used - at) (drop at old))) (drop (used + 1) old) (used + 1) (simp length-append (omega arith)) in
    rw (put, take-take at used old le, ← part old at used) front

-- those past `at` have moved down
pub removed : {X : Type 0} (old : List X) (at used : ℕ) → at < used → used ≤ length old →
    take (used - 1) (copy_within old (at + 1) used at) ≡ remove (take used old) at
removed old at used lt le =
    let count : used - 1 ≡ at + (used - (at + 1)) = omega arith in
    let front : take (used - 1) (copy_within old (at + 1) used at) ≡ take at old ++ take (used - (at + 1)) (drop (at + 1) old) =
    rw count (take-paste old at (drop (at + 1) old) (used - (at + 1)) (omega arith) (simp length-drop (omega arith))) in
    front ∙ rw (take-take at used old (omega arith), part old (at + 1) used) (rw add-one refl)
