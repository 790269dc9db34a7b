-- The clock layer and the window in either order. Assumes nothing.
use Rattle.std.proofs.Common.{◌≡◌, ℕ, zero, suc, ◌-◌, ◌<◌, ◌≤◌, Bool, true, false, ltb, List, [], ◌∷◌, length, take, drop, Ok, Err, Option, Result, sym, refl, ap, ◌∙◌, arith}
use Rattle.std.specs.List.{AllByRecursion}
use Rattle.std.proofs.ByRecursion.{All-weaker, All-drop}
use Rattle.std.proofs.lemmas.List.{take_all}
use Rattle.std.proofs.lemmas.Bool.{lt-ltb, le-ltb}
use Rattle.kinds.specs.declared.refusal.Refusal.{Refusal}
use Rattle.kinds.specs.declared.refusal.Refusal.TheVariants.{ActorUnknown}
use Rattle.sources.specs.Clock.{covering}
use Rattle.sources.specs.Meaning.{Meaning, Entry, Ending, raised}
use Rattle.sources.specs.Sifted.{Verdict, keep, pass, stop, records_by, ending_by, sifted_records, sifted_ending, verdict_on, clock_verdict, clocked}
use Rattle.sources.specs.Window.{window, window_ending}
use Rattle.piles.proofs.Fronts.{drop_of_take, one_more}
use Rattle.piles.specs.Exchanged.{told_at, lacking_by, told_of, Covered, lacking_row, Unfilled, CoveredExchange, UnfilledExchange}

-- what is meant, part by part
abbrev meant : {I N V : Type 0} → ℕ → List (Entry I N V) → Ending → Meaning I N V
meant h rs e = record { height = h; records = rs; ending = e }

module _ {A : Type 0} (verdict : A → Verdict) where
  -- every record is kept
  abbrev Kept : List A → Type 0
  Kept = AllByRecursion (λ x. verdict x ≡ keep)

  all_records : (l : List A) → Kept l → sifted_records verdict l ≡ l
  all_records [] k = refl
  all_records (x ∷ xs) k = rw (k.0, all_records xs k.1)

  all_ending : (l : List A) (e : Ending) → Kept l → sifted_ending verdict l e ≡ e
  all_ending [] e k = refl
  all_ending (x ∷ xs) e k = rw k.0 (all_ending xs e k.1)

  -- every record of a front is kept
  front_records : (n : ℕ) (l : List A) → Kept (take n l) → take n (sifted_records verdict l) ≡ take n l
  front_records zero l k = refl
  front_records (suc n) [] k = refl
  front_records (suc n) (x ∷ xs) k = rw k.0 (ap (λ r. x ∷ r) (front_records n xs k.1))

  front_ending : (n : ℕ) (l : List A) (e : Ending) → Kept (take n l) → window_ending n (sifted_records verdict l) (sifted_ending verdict l e) ≡ window_ending n l e
  front_ending zero l e k =
      rw (le-ltb (length (sifted_records verdict l)) 0 (omega arith), le-ltb (length l) 0 (omega arith))
  front_ending (suc n) [] e k = refl
  front_ending (suc n) (x ∷ xs) e k =
      rw (k.0, one_more (length (sifted_records verdict xs)) n, one_more (length xs) n) (front_ending n xs e k.1)

  -- no more are kept than there were
  records_fewer : (v : Verdict) (x : A) (ys xs : List A) → length ys ≤ length xs → length (records_by v x ys) ≤ length (x ∷ xs)
  records_fewer keep x ys xs h = omega arith
  records_fewer pass x ys xs h = omega arith
  records_fewer (stop f) x ys xs h = omega arith

  fewer : (l : List A) → length (sifted_records verdict l) ≤ length l
  fewer [] = omega arith
  fewer (x ∷ xs) = records_fewer (verdict x) x (sifted_records verdict xs) xs (fewer xs)

module _ {I N V : Type 0} (actor counter : I → ℕ) (numbers : List ℕ) where
  -- what is covered is kept, at every height
  covered_kept : (h : ℕ) (l : List (Entry I N V)) → AllByRecursion (Covered actor counter numbers) l → Kept (clock_verdict actor counter numbers h) l
  covered_kept h l k = All-weaker (Covered actor counter numbers) (λ x. clock_verdict actor counter numbers h x ≡ keep) (λ x c. ap (verdict_on h x.row) c) l k

  part_records : (h j a b : ℕ) (l : List (Entry I N V)) → AllByRecursion (Covered actor counter numbers) (take b l) → take (b - a) (drop a (sifted_records (clock_verdict actor counter numbers h) l)) ≡ sifted_records (clock_verdict actor counter numbers j) (take (b - a) (drop a l))
  part_records h j a b l k =
      let v : Entry I N V → Verdict = clock_verdict actor counter numbers h in
      let w : Entry I N V → Verdict = clock_verdict actor counter numbers j in
      sym (drop_of_take a b (sifted_records v l))
      ∙ ap (drop a) (front_records v b l (covered_kept h (take b l) k))
      ∙ sym (all_records w (drop a (take b l)) (covered_kept j (drop a (take b l)) (All-drop (Covered actor counter numbers) a (take b l) k)))
      ∙ ap (sifted_records w) (drop_of_take a b l)

  part_ending : (h j a b : ℕ) (l : List (Entry I N V)) (e : Ending) → AllByRecursion (Covered actor counter numbers) (take b l) → window_ending b (sifted_records (clock_verdict actor counter numbers h) l) (sifted_ending (clock_verdict actor counter numbers h) l e) ≡ sifted_ending (clock_verdict actor counter numbers j) (take (b - a) (drop a l)) (window_ending b l e)
  part_ending h j a b l e k =
      let v : Entry I N V → Verdict = clock_verdict actor counter numbers h in
      let w : Entry I N V → Verdict = clock_verdict actor counter numbers j in
      front_ending v b l e (covered_kept h (take b l) k)
      ∙ sym (all_ending w (drop a (take b l)) (window_ending b l e) (covered_kept j (drop a (take b l)) (All-drop (Covered actor counter numbers) a (take b l) k)))
      ∙ ap (λ (r : List (Entry I N V)). sifted_ending w r (window_ending b l e)) (drop_of_take a b l)

  exchange : (a b : ℕ) (m : Meaning I N V) → AllByRecursion (Covered actor counter numbers) (take b m.records) → window a b (clocked actor counter numbers m) ≡ clocked actor counter numbers (window a b m)
  exchange a b m k =
      let h = raised m.height in
      ap (λ (r : List (Entry I N V)). meant (raised h) r (window a b (clocked actor counter numbers m)).ending) (part_records h (raised h) a b m.records k)
      ∙ ap (λ (e : Ending). meant (raised h) (clocked actor counter numbers (window a b m)).records e) (part_ending h (raised h) a b m.records m.ending k)

  -- the records do not go by the height
  any_height_by : (h j row : ℕ) (t : Result Bool Refusal) (x : Entry I N V) (xs : List (Entry I N V)) → records_by (verdict_on h row t) x xs ≡ records_by (verdict_on j row t) x xs
  any_height_by h j row (Ok true) x xs = refl
  any_height_by h j row (Ok false) x xs = refl
  any_height_by h j row (Err r) x xs = refl

  any_height : (h j : ℕ) (l : List (Entry I N V)) → sifted_records (clock_verdict actor counter numbers h) l ≡ sifted_records (clock_verdict actor counter numbers j) l
  any_height h j [] = refl
  any_height h j (x ∷ xs) =
      let t = told_of actor counter numbers x in
      ap (λ (r : List (Entry I N V)). records_by (verdict_on h x.row t) x r) (any_height h j xs)
      ∙ any_height_by h j x.row t x (sifted_records (clock_verdict actor counter numbers j) xs)

-- a clock refuses only for want of the actor
pub only_lacking : (numbers : List ℕ) (actor counter : ℕ) (r : Refusal) → covering numbers actor counter ≡ Err r → r ≡ ActorUnknown
only_lacking [] actor counter r e = cc
only_lacking (n ∷ ns) zero counter r e = let z : ◌≡◌ {A = ℕ} 0 1 = cc in absurd (omega arith)
only_lacking (n ∷ ns) (suc actor) counter r e = only_lacking ns actor counter r e

-- how the list ends by what the clock tells of its first record
lacking_ends : (h row : ℕ) (t : Result Bool Refusal) → ((r : Refusal) → t ≡ Err r → r ≡ ActorUnknown) → (later : Option ℕ) (e : Ending) → ending_by (verdict_on h row t) (told_at h later e) ≡ told_at h (lacking_by t row later) e
lacking_ends h row (Ok true) only later e = refl
lacking_ends h row (Ok false) only later e = refl
lacking_ends h row (Err r) only later e = rw (only r refl)

module _ {I N V : Type 0} (actor counter : I → ℕ) (numbers : List ℕ) where
  ends_lacking : (h : ℕ) (l : List (Entry I N V)) (e : Ending) → sifted_ending (clock_verdict actor counter numbers h) l e ≡ told_at h (lacking_row actor counter numbers l) e
  ends_lacking h [] e = refl
  ends_lacking h (x ∷ xs) e =
      let t = told_of actor counter numbers x in
      ap (ending_by (verdict_on h x.row t)) (ends_lacking h xs e)
      ∙ lacking_ends h x.row t (only_lacking numbers (actor x.id) (counter x.id)) (lacking_row actor counter numbers xs) e

  unfilled : (b : ℕ) (m : Meaning I N V) → length m.records < b → Unfilled actor counter numbers b m
  unfilled b m l =
      let h = raised m.height in
      let v : Entry I N V → Verdict = clock_verdict actor counter numbers h in
      let w : Entry I N V → Verdict = clock_verdict actor counter numbers (raised h) in
      let n : b - 0 ≡ b = omega arith in
      let few = fewer v m.records in
      let whole : take (b - 0) m.records ≡ m.records = rw n (take_all b m.records (omega arith)) in
      let kept : take (b - 0) (sifted_records v m.records) ≡ sifted_records v m.records = rw n (take_all b (sifted_records v m.records) (omega arith)) in
      let below : ltb (length m.records) b ≡ true = lt-ltb (length m.records) b l in
      let above : ltb (length (sifted_records v m.records)) b ≡ true = lt-ltb (length (sifted_records v m.records)) b (omega arith) in
      record {
        records = kept ∙ any_height actor counter numbers h (raised h) m.records ∙ ap (sifted_records w) (sym whole);
        window_above = rw above (ends_lacking h m.records m.ending);
        clock_above = rw (whole, below) (ends_lacking (raised h) m.records m.ending);
        height = refl;
      }

pub covered_exchange : {I : Type 0} (actor counter : I → ℕ) {N V : Type 0} → CoveredExchange actor counter N V
covered_exchange actor counter numbers a b m k = exchange actor counter numbers a b m k

pub unfilled_exchange : {I : Type 0} (actor counter : I → ℕ) {N V : Type 0} → UnfilledExchange actor counter N V
unfilled_exchange actor counter numbers b m l = unfilled actor counter numbers b m l
