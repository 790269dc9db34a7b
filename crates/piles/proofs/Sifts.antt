-- Two clock layers. Assumes nothing.
use Rattle.std.proofs.Common.{◌≡◌, ℕ, Bool, true, false, ◌⊎◌, List, [], ◌∷◌, Ok, Err, Result, refl, ap, inl, inr, arith}
use Rattle.kinds.specs.declared.refusal.Refusal.{Refusal}
use Rattle.kinds.specs.declared.refusal.Refusal.TheVariants.{ActorUnknown}
use Rattle.sources.specs.Meaning.{Entry, Ending, raised}
use Rattle.sources.specs.Sifted.{Verdict, keep, pass, stop, records_by, ending_by, sifted_records, sifted_ending, verdict_on, clock_verdict}
use Rattle.sources.specs.declared.fault.Fault.{Fault}
use Rattle.piles.proofs.Turns.{only_lacking}
use Rattle.piles.specs.Clocks.{then, VerdictOfBoth, ClocksJoin}
use Rattle.piles.specs.Exchanged.{actor_lacked, told_of}

module _ {A : Type 0} (lower upper : A → Verdict) where
  -- one record by two verdicts
  two_records : (v : Verdict) (x : A) (xs ys : List A) → sifted_records upper xs ≡ ys → sifted_records upper (records_by v x xs) ≡ records_by (then v (upper x)) x ys
  two_records keep x xs ys h = ap (records_by (upper x) x) h
  two_records pass x xs ys h = h
  two_records (stop f) x xs ys h = refl

  two_endings : (v : Verdict) (x : A) (xs : List A) (e g : Ending) → sifted_ending upper xs e ≡ g → sifted_ending upper (records_by v x xs) (ending_by v e) ≡ ending_by (then v (upper x)) g
  two_endings keep x xs e g h = ap (ending_by (upper x)) h
  two_endings pass x xs e g h = h
  two_endings (stop f) x xs e g h = refl

  -- a list by one verdict and then by another
  sifts_records : (l : List A) → sifted_records upper (sifted_records lower l) ≡ sifted_records (λ x. then (lower x) (upper x)) l
  sifts_records [] = refl
  sifts_records (x ∷ xs) =
      two_records (lower x) x (sifted_records lower xs) (sifted_records (λ x. then (lower x) (upper x)) xs) (sifts_records xs)

  sifts_ending : (l : List A) (e : Ending) → sifted_ending upper (sifted_records lower l) (sifted_ending lower l e) ≡ sifted_ending (λ x. then (lower x) (upper x)) l e
  sifts_ending [] e = refl
  sifts_ending (x ∷ xs) e =
      two_endings (lower x) x (sifted_records lower xs) (sifted_ending lower xs e) (sifted_ending (λ x. then (lower x) (upper x)) xs e) (sifts_ending xs e)

-- the verdict of both, by what the two clocks tell
module _ (h j row : ℕ) where
  abbrev joint : Result Bool Refusal → Result Bool Refusal → Verdict
  joint s t = then (verdict_on h row s) (verdict_on j row t)

  -- a clock refuses only for want of the actor
  abbrev Lacks : Result Bool Refusal → Type 0
  Lacks t = (r : Refusal) → t ≡ Err r → r ≡ ActorUnknown

  joint_kept : (s t : Result Bool Refusal) → joint s t ≡ keep → (s ≡ Ok true) × (t ≡ Ok true)
  joint_kept (Ok true) (Ok true) e = (refl, refl)
  joint_kept (Ok true) (Ok false) e = let z : ◌≡◌ {A = ℕ} 0 1 = cc in absurd (omega arith)
  joint_kept (Ok true) (Err r) e = let z : ◌≡◌ {A = ℕ} 0 1 = cc in absurd (omega arith)
  joint_kept (Ok false) t e = let z : ◌≡◌ {A = ℕ} 0 1 = cc in absurd (omega arith)
  joint_kept (Err r) t e = let z : ◌≡◌ {A = ℕ} 0 1 = cc in absurd (omega arith)

  joint_stopped : (s t : Result Bool Refusal) → Lacks s → Lacks t → (f : Fault) → joint s t ≡ stop f → ((s ≡ Err ActorUnknown) × (f ≡ actor_lacked h row)) ⊎ (((s ≡ Ok true) × (t ≡ Err ActorUnknown)) × (f ≡ actor_lacked j row))
  joint_stopped (Ok true) (Ok true) a b f e = let z : ◌≡◌ {A = ℕ} 0 1 = cc in absurd (omega arith)
  joint_stopped (Ok true) (Ok false) a b f e = let z : ◌≡◌ {A = ℕ} 0 1 = cc in absurd (omega arith)
  joint_stopped (Ok true) (Err r) a b f e = let u = b r refl in inr ((refl, ap Err u), cc)
  joint_stopped (Ok false) t a b f e = let z : ◌≡◌ {A = ℕ} 0 1 = cc in absurd (omega arith)
  joint_stopped (Err r) t a b f e = let u = a r refl in inl (ap Err u, cc)

module _ {I N V : Type 0} (actor counter : I → ℕ) (lower upper : List ℕ) (h : ℕ) where
  verdict_of_both : (x : Entry I N V) → VerdictOfBoth actor counter lower upper h x
  verdict_of_both x =
      let s = told_of actor counter lower x in
      let t = told_of actor counter upper x in
      record {
        keeps = λ p q. rw (p, q);
        kept = joint_kept (raised h) (raised (raised h)) x.row s t;
        stops_below = λ p. rw p;
        stops_above = λ p. rw (p.0, p.1);
        stopped = joint_stopped (raised h) (raised (raised h)) x.row s t (only_lacking lower (actor x.id) (counter x.id)) (only_lacking upper (actor x.id) (counter x.id));
      }

pub clocks_join : {I : Type 0} (actor counter : I → ℕ) {N V : Type 0} → ClocksJoin actor counter N V
clocks_join {I} actor counter {N} {V} lower upper m =
    let v : Entry I N V → Verdict = clock_verdict actor counter lower (raised m.height) in
    let w : Entry I N V → Verdict = clock_verdict actor counter upper (raised (raised m.height)) in
    record {
      height = refl;
      records = sifts_records v w m.records;
      ending = sifts_ending v w m.records m.ending;
      verdict = verdict_of_both actor counter lower upper m.height;
    }
