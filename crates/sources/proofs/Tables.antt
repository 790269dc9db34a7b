-- A table from a row on, and the bytes of a part of its memory. Assumes nothing.
use Rattle.std.proofs.Common.{◌≡◌, ℕ, zero, suc, ◌+◌, ◌-◌, ◌<◌, ◌≤◌, min, Bool, true, false, List, [], ◌∷◌, length, get_or, take, drop, Some, None, Ok, Option, sym, refl, ap, ◌∙◌, add-one, arith, length-drop, length-take, get_or-drop, get_or-take}
use Rattle.sources.specs.Meaning.{Meaning, Entry, Ending, stepped, rest, item, byte_at}
use Rattle.sources.specs.Table.{held, text_of, entry, past_memory, before, ends_with, good_records, good_ending, tabled, good_or, headed}
use Rattle.sources.specs.declared.fault.Fault.{Fault}
use Rattle.sources.specs.declared.table.TextPlace.{TextPlace}
use Rattle.sources.specs.declared.table.TableRecord.{TableRecord}

-- a record less is the rest
drop_rest : {A : Type 0} (l : List A) (k : ℕ) → drop (suc k) l ≡ rest (drop k l)
drop_rest [] zero = refl
drop_rest [] (suc k) = refl
drop_rest (x ∷ xs) zero = refl
drop_rest (x ∷ xs) (suc k) = drop_rest xs k

-- what is meant, part by part
abbrev meant : {I N V : Type 0} → List (Entry I N V) → Ending → Meaning I N V
meant rs e = record { height = 0; records = rs; ending = e }

-- a good record is dropped
steps_by : {I N V : Type 0} (b : Bool) (r : TableRecord I N V) (x : Entry I N V) (xs : List (Entry I N V)) (e : Ending) (f : Fault) {first : TableRecord I N V} → Ok (Some first) ≡ good_or b r f → meant xs e ≡ stepped (meant (before b x xs) (ends_with b e f))
steps_by true r x xs e f h = refl
steps_by false r x xs e f h = absurd cc

module _ {I N V : Type 0} (memory : List ℕ) (at : ℕ) where
  steps_list : (rows : List (TableRecord I N V)) {first : TableRecord I N V} → Ok (Some first) ≡ headed memory at rows → tabled memory (at + 1) (rest rows) ≡ stepped (tabled memory at rows)
  steps_list [] h = absurd cc
  steps_list (r ∷ rs) h =
      steps_by (held memory r.text) r (entry memory at r) (good_records memory (at + 1) rs) (good_ending memory (at + 1) rs) (past_memory at) h

  -- where a record is shown, there is one row on
  pub step_in : (rows : List (TableRecord I N V)) {r : TableRecord I N V} → Ok (Some r) ≡ headed memory at (drop at rows) → tabled memory (at + 1) (drop (at + 1) rows) ≡ stepped (tabled memory at (drop at rows))
  step_in rows h = rw (ap (λ k. drop k rows) (add-one at) ∙ drop_rest rows at) (steps_list (drop at rows) h)

-- an item of a list
item_in : (bs : List ℕ) (k : ℕ) → k < length bs → item bs k ≡ Some (get_or bs k 0)
item_in [] k l = absurd (omega arith)
item_in (b ∷ bs) zero l = refl
item_in (b ∷ bs) (suc k) l = item_in bs k (omega arith)

-- past its end
item_past : (bs : List ℕ) (k : ℕ) → length bs ≤ k → item bs k ≡ None
item_past [] k l = refl
item_past (b ∷ bs) zero l = absurd (omega arith)
item_past (b ∷ bs) (suc k) l = item_past bs k (omega arith)

module _ (memory : List ℕ) (p : TextPlace) (k : ℕ) where
  -- a byte of a text
  pub byte_in : {text : Option TextPlace} → text ≡ Some p → k < p.len → k < length memory - p.start → Some (get_or memory (p.start + k) 0) ≡ byte_at (text_of memory text) k
  byte_in e a b =
      let l : k < length (take p.len (drop p.start memory)) = simp (length-take, length-drop) (omega arith) in
      rw e (sym (item_in (take p.len (drop p.start memory)) k l ∙ ap Some (rw (get_or-take, get_or-drop))))

  -- past its end
  pub byte_past : {text : Option TextPlace} → text ≡ Some p → min p.len (length memory - p.start) ≤ k → None ≡ byte_at (text_of memory text) k
  byte_past e a =
      let l : length (take p.len (drop p.start memory)) ≤ k = simp (length-take, length-drop) (omega arith) in
      rw e (sym (item_past (take p.len (drop p.start memory)) k l))
