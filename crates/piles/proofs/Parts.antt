-- A window on a window. Assumes nothing.
use Rattle.std.proofs.Common.{◌≡◌, ℕ, ◌+◌, ◌-◌, ◌<◌, ◌≤◌, min, Bool, true, false, cond, ltb, ◌⊎◌, List, length, take, drop, refl, ap, ◌∙◌, inl, inr, arith, length-drop, length-take}
use Rattle.std.proofs.lemmas.List.{drop-drop}
use Rattle.std.proofs.lemmas.Bool.{cases_lt, lt-ltb, le-ltb}
use Rattle.sources.specs.Meaning.{Meaning, Ending, plain}
use Rattle.sources.specs.Window.{window}
use Rattle.piles.proofs.Fronts.{drop_of_take, take_of_take, tests_agree}
use Rattle.piles.specs.Windows.{Joined, WindowsJoin}

-- the records
part_of_part : {A : Type 0} (a b c d : ℕ) (l : List A) → take (d - c) (drop c (take (b - a) (drop a l))) ≡ take (min b (a + d) - (a + c)) (drop (a + c) l)
part_of_part a b c d l =
    let e : min (d - c) ((b - a) - c) ≡ min b (a + d) - (a + c) = omega arith in
    ap (take (d - c)) (drop_of_take c (b - a) (drop a l) ∙ ap (take ((b - a) - c)) (drop-drop c a l))
    ∙ take_of_take (d - c) ((b - a) - c) (drop (a + c) l)
    ∙ ap (λ n. take n (drop (a + c) l)) e

-- how many the lower window has
lower_length : {A : Type 0} (a b : ℕ) (l : List A) → length (take (b - a) (drop a l)) ≡ min (b - a) (length l - a)
lower_length a b l = simp (length-take, length-drop)

-- a choice of the same
cond_same : {A : Type 0} (t : Bool) (x : A) → cond t x x ≡ x
cond_same true x = refl
cond_same false x = refl

module _ (a b d n : ℕ) (e : Ending) where
  -- the list below ends before the lower window does
  short : n < b → (0 < d) ⊎ (a ≤ n) → ltb (min (b - a) (n - a)) d ≡ ltb n (min b (a + d))
  short h (inl p) = tests_agree (min (b - a) (n - a)) d n (min b (a + d)) (λ q. omega arith) (λ q. omega arith)
  short h (inr p) = tests_agree (min (b - a) (n - a)) d n (min b (a + d)) (λ q. omega arith) (λ q. omega arith)

  by_length : (n < b) ⊎ (b ≤ n) → (0 < d) ⊎ (a ≤ n) → cond (ltb (min (b - a) (n - a)) d) (cond (ltb n b) e plain) plain ≡ cond (ltb n (min b (a + d))) e plain
  by_length (inl h) k = rw (lt-ltb n b h, short h k)
  by_length (inr h) k =
      let z : ltb n (min b (a + d)) ≡ false = le-ltb n (min b (a + d)) (omega arith) in
      rw (le-ltb n b h, z) (cond_same (ltb (min (b - a) (n - a)) d) plain)

module _ {I N V : Type 0} (a b c d : ℕ) (m : Meaning I N V) where
  ends : (0 < d) ⊎ (a ≤ length m.records) → (window c d (window a b m)).ending ≡ (window (a + c) (min b (a + d)) m).ending
  ends k = rw (lower_length a b m.records) (by_length a b d (length m.records) m.ending (cases_lt (length m.records) b) k)

  plainly : d ≡ 0 → (window c d (window a b m)).ending ≡ plain
  plainly z =
      let t : ltb (length (take (b - a) (drop a m.records))) d ≡ false = le-ltb _ d (omega arith) in
      rw t

  as_below : d ≡ 0 → length m.records < min a b → (window (a + c) (min b (a + d)) m).ending ≡ m.ending
  as_below z h =
      let t : ltb (length m.records) (min b (a + d)) ≡ true = lt-ltb (length m.records) (min b (a + d)) (omega arith) in
      rw t

  joined : Joined a b c d m
  joined = record {
    records = part_of_part a b c d m.records;
    ending = ends;
    unlike = λ z h. (plainly z, as_below z h);
    height = refl;
  }

pub windows_join : {I N V : Type 0} → WindowsJoin I N V
windows_join a b c d m = joined a b c d m
