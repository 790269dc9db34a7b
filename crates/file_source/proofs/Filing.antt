-- What is meant from a record of a file on.
use Rattle.std.proofs.Common.{◌≡◌, ℕ, suc, ◌+◌, ◌-◌, ◌<◌, Bool, true, false, cond, ◌&&◌, eqb, ltb, List, ◌∷◌, is_some, Some, None, Ok, Option, Result, sym, refl, ap, ◌∙◌, subst, arith, ltb-true}
use Rattle.kinds.specs.declared.document.OpId.{OpId}
use Rattle.kinds.specs.declared.text.ShortStr.{ShortStr}
use Rattle.kinds.specs.declared.value.ScalarValue.{ScalarValue}
use Rattle.sources.specs.Meaning.{plain, first, first_text, byte_at, stepped, shown}
use Rattle.sources.specs.Table.{text_of}
use Rattle.sources.specs.declared.fault.Fault.{Fault}
use Rattle.sources.specs.declared.record.Record.{Record}
use Rattle.sources.specs.declared.table.TextPlace.{TextPlace}
use Rattle.house.specs.Fields.{byte, slice, le16, le32}
use Rattle.house.specs.Records.{none, set_action, records_count, record_place}
use Rattle.house.specs.House.{text_at}
use Rattle.house.specs.Held.{name_found, value_found, found_by, text_placed, entry_at, filed}
use Rattle.file.specs.Given.{place_given, record_standing, record_found}
use Rattle.file.specs.declared.fields.FileRecord.{FileRecord}

-- the text at a record's place is the text that the record means
text_there : (text : List ℕ) (action value start len : ℕ) → text_of text (place_given action value start len) ≡ text_placed text action value start len
text_there text action value start len = by_test (eqb action set_action && eqb value none)
  where
    by_test : (t : Bool) → text_of text (cond t (Some (record { start = start; len = len })) None) ≡ cond t (Some (slice text start len)) None
    by_test true = refl
    by_test false = refl

place_there : (text : List ℕ) (action value start len : ℕ) → is_some (place_given action value start len) ≡ is_some (text_placed text action value start len)
place_there text action value start len = by_test (eqb action set_action && eqb value none)
  where
    by_test : (t : Bool) → is_some {T = TextPlace} (cond t (Some (record { start = start; len = len })) None) ≡ is_some (cond t (Some (slice text start len)) None)
    by_test true = refl
    by_test false = refl

-- a record that is found is one of the file's, and stands at its place
found_by_test : (d : List ℕ) (at : ℕ) (r : FileRecord) (t : Bool) → ltb at (records_count d) ≡ t → cond t (Some (record_standing d (record_place d at))) None ≡ Some r → (at < records_count d) × (r ≡ record_standing d (record_place d at))
found_by_test d at r true e h = (ltb-true at (records_count d) e, cc)
found_by_test d at r false e h = let z : ◌≡◌ {A = ℕ} 0 1 = cc in absurd (omega arith)

found : (d : List ℕ) (at : ℕ) (r : FileRecord) → record_found d at ≡ Some r → (at < records_count d) × (r ≡ record_standing d (record_place d at))
found d at r h = found_by_test d at r (ltb at (records_count d)) refl h

module _ (d : List ℕ) (at : ℕ) where
  -- the records from a record on begin with it
  pub from_here : at < records_count d → (filed d at).records ≡ entry_at d at ∷ (filed d (at + 1)).records
  from_here h = let e : records_count d - at ≡ suc (records_count d - (at + 1)) = omega arith in rw e

  -- what is meant after a step
  pub steps : at < records_count d → filed d (at + 1) ≡ stepped (filed d at)
  steps h = rw (from_here h)

  abbrev place : ℕ
  place = record_place d at

  abbrev standing : FileRecord
  standing = record_standing d place

  -- a record of the file, with its name, value and text looked up
  abbrev seen : FileRecord → ℕ → Option ShortStr → Option ScalarValue → Bool → Record OpId ShortStr ScalarValue
  seen r row name value has = record { row = row; tag = r.tag; action = r.action; id = r.id; name = name; value = value; has_text = has }

  abbrev Looked : FileRecord → ℕ → Option ShortStr → Option ScalarValue → Bool → Type 0
  Looked r row name value has = (row ≡ at) × (name ≡ found_by (name_found d) r.name) × (value ≡ found_by (value_found d) r.value) × (has ≡ is_some r.text)

  standing_seen : (row : ℕ) (name : Option ShortStr) (value : Option ScalarValue) (has : Bool) → Looked standing row name value has → seen standing row name value has ≡ shown (entry_at d at)
  standing_seen row name value has l =
      let h = l.3 ∙ place_there (text_at d) (byte d (place + 1)) (le16 d (place + 4)) (le32 d (place + 16)) (le32 d (place + 20)) in
      rw (l.0, l.1, l.2, h)

  -- the record that is shown first
  pub shows : (r : FileRecord) (row : ℕ) (name : Option ShortStr) (value : Option ScalarValue) (has : Bool) → record_found d at ≡ Some r → Looked r row name value has → ◌≡◌ {A = Result (Option (Record OpId ShortStr ScalarValue)) Fault} (Ok (Some (seen r row name value has))) (first (filed d at).records plain)
  shows r row name value has h l =
      let f = found d at r h in
      let same : seen r row name value has ≡ shown (entry_at d at) =
      subst (λ x. Looked x row name value has → seen x row name value has ≡ shown (entry_at d at)) (sym f.1) (standing_seen row name value has) l in
      rw (from_here f.0) (ap (λ x. Ok (Some x)) same)

  -- its text
  pub shows_text : (r : FileRecord) (k : ℕ) → record_found d at ≡ Some r → byte_at (text_of (text_at d) r.text) k ≡ byte_at (first_text (filed d at).records) k
  shows_text r k h =
      let f = found d at r h in
      ap (λ x. byte_at (text_of (text_at d) x.text) k) f.1
      ∙ ap (λ x. byte_at x k) (text_there (text_at d) (byte d (place + 1)) (le16 d (place + 4)) (le32 d (place + 16)) (le32 d (place + 20)))
      ∙ sym (ap (λ x. byte_at (first_text x) k) (from_here f.0))
