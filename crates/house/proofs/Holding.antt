-- The names, values and records of a good file are what stands in it.
use Rattle.std.proofs.Common.{◌≡◌, ℕ, zero, suc, ◌+◌, ◌<◌, ◌≤◌, Bool, true, false, cond, ◌&&◌, eqb, ltb, List, [], ◌∷◌, length, get_or, Some, None, Option, refl, ap, ◌∙◌, inl, inr, arith, lt-ltb, eq-eqb, ne_eqb, eqb-true}
use Rattle.kinds.specs.declared.value.ScalarValue.{ScalarValue}
use Rattle.kinds.specs.declared.value.ScalarValue.TheVariants as scalar
use Rattle.kinds.specs.Values.{kind_number}
use Rattle.kinds.proofs.Makings.{short_there, text_there}
use Rattle.kinds.specs.Kinds.{code_of, kind_of}
use Rattle.sources.specs.Tags.{tag_number, tag_of, action_number, action_of}
use Rattle.kinds.specs.declared.kind.ValueKind.{ValueKind}
use Rattle.kinds.specs.declared.kind.ValueKind.TheVariants.{Bytes, Str, Int, Uint, F64, Counter, Timestamp, Boolean, Unknown, Null}
use Rattle.house.specs.Fields.{AllGood, byte, slice, le16, le32}
use Rattle.house.specs.Names.{names_count, name_place, name_at, name_row}
use Rattle.house.specs.Values.{LengthOf, Content, values_count, value_place, value_row}
use Rattle.house.specs.Records.{none, set_action, HasText, NameRule, ValueRule, LengthRule, records_count, record_place, record_row, text_head, text_count}
use Rattle.house.specs.House.{fields, text_at, text_place}
use Rattle.house.specs.Held.{mapped, value_of, name_found, value_found, number_given, found_by, text_placed}
use Rattle.house.specs.Holds.{Written, NameHeld, ValueHeld, RecordHeld, Holds}
use Rattle.house.proofs.Rows.{each_at}
use Rattle.house.proofs.Slices.{slice_most, slice_length, slice_first, slice_le64}
use Rattle.house.proofs.Whole.{good_names, good_values, good_records, good_end}

found : {A : Type 0} (i n : ℕ) (x : Option A) → i < n → cond (ltb i n) x None ≡ x
found i n x h = rw (lt-ltb i n h)

-- the numbers of kinds, tags and actions lead back to themselves
kind_back : (b : ℕ) → b ≤ 9 → code_of (kind_of b) ≡ b
kind_back zero h = refl
kind_back (suc zero) h = refl
kind_back (suc (suc zero)) h = refl
kind_back (suc (suc (suc zero))) h = refl
kind_back (suc (suc (suc (suc zero)))) h = refl
kind_back (suc (suc (suc (suc (suc zero))))) h = refl
kind_back (suc (suc (suc (suc (suc (suc zero)))))) h = refl
kind_back (suc (suc (suc (suc (suc (suc (suc zero))))))) h = refl
kind_back (suc (suc (suc (suc (suc (suc (suc (suc zero)))))))) h = refl
kind_back (suc (suc (suc (suc (suc (suc (suc (suc (suc zero))))))))) h = refl
kind_back (suc (suc (suc (suc (suc (suc (suc (suc (suc (suc b)))))))))) h = absurd (omega arith)

tag_back : (b : ℕ) → b ≤ 2 → tag_number (tag_of b) ≡ b
tag_back zero h = refl
tag_back (suc zero) h = refl
tag_back (suc (suc zero)) h = refl
tag_back (suc (suc (suc b))) h = absurd (omega arith)

action_back : (b : ℕ) → b ≤ 7 → action_number (action_of b) ≡ b
action_back zero h = refl
action_back (suc zero) h = refl
action_back (suc (suc zero)) h = refl
action_back (suc (suc (suc zero))) h = refl
action_back (suc (suc (suc (suc zero)))) h = refl
action_back (suc (suc (suc (suc (suc zero))))) h = refl
action_back (suc (suc (suc (suc (suc (suc zero)))))) h = refl
action_back (suc (suc (suc (suc (suc (suc (suc zero))))))) h = refl
action_back (suc (suc (suc (suc (suc (suc (suc (suc b)))))))) h = absurd (omega arith)

-- one byte, 0 or 1
one_byte : (b : List ℕ) → length b ≡ 1 → get_or b 0 0 ≤ 1 → b ≡ cond (eqb (get_or b 0 0) 1) 1 0 ∷ []
one_byte [] l h = absurd (omega arith)
one_byte (zero ∷ []) l h = refl
one_byte (suc zero ∷ []) l h = refl
one_byte (suc (suc x) ∷ []) l h = absurd (omega arith)
one_byte (x ∷ y ∷ b) l h = absurd (omega arith)

-- a value of each kind, from its content
abbrev Made : ValueKind → List ℕ → ℕ → ℕ → ℕ → Type 0
Made k d code p n = (v : ScalarValue) × (value_of k d code p n ≡ Some v) × (kind_number v ≡ code_of k) × Written v code (slice d p n)

module _ (d : List ℕ) (code p n : ℕ) where
  eight : p + n ≤ length d → n ≡ 8 → length (slice d p n) ≡ 8
  eight w l = slice_length d p n w ∙ l

  value_made : (k : ValueKind) → p + n ≤ length d → LengthOf k n → Content k (slice d p n) → Made k d code p n
  value_made Bytes w l c =
      let s = short_there (slice d p n) (omega (arith, slice_most d p n)) in
      (scalar.Bytes s.0, ap (mapped scalar.Bytes) s.1, refl, s.2)
  value_made Str w l c =
      let s = text_there (slice d p n) (omega (arith, slice_most d p n)) c in
      (scalar.Str s.0, ap (mapped scalar.Str) s.1, refl, s.2)
  value_made Int w l c = (_, refl, refl, (eight w l, rw (slice_le64 d p n l)))
  value_made Uint w l c = (_, refl, refl, (eight w l, rw (slice_le64 d p n l)))
  value_made F64 w l c = (_, refl, refl, (eight w l, rw (slice_le64 d p n l)))
  value_made Counter w l c = (_, refl, refl, (eight w l, rw (slice_le64 d p n l)))
  value_made Timestamp w l c = (_, refl, refl, (eight w l, rw (slice_le64 d p n l)))
  value_made Boolean w l c =
      let first = slice_first d p n (omega arith) in
      (_, refl, refl, one_byte (slice d p n) c.0 c.1 ∙ ap (λ b. cond (eqb b 1) 1 0 ∷ []) first)
  value_made Unknown w l c =
      let s = short_there (slice d p n) (omega (arith, slice_most d p n)) in
      (scalar.Unknown code s.0, ap (mapped (scalar.Unknown code)) s.1, refl, (refl, s.2))
  value_made Null w l c = (_, refl, refl, rw l)

-- a number that is given, and one that stands for none
given : (n : ℕ) → (n ≡ none → ⊥) → number_given n ≡ Some n
given n h = rw (ne_eqb n none h)

not_given : (n : ℕ) → n ≡ none → number_given n ≡ None
not_given n h = rw (eq-eqb n none h)

named : (d : List ℕ) (action n : ℕ) → NameRule d action n → (n ≡ none → ⊥) → n < names_count d
named d action n (inl e) h = absurd (h e)
named d action n (inr r) h = r.1

valued : (d : List ℕ) (action name n : ℕ) → ValueRule d action name n → (n ≡ none → ⊥) → n < values_count d
valued d action name n (inl r) h = absurd (h r.0)
valued d action name n (inr r) h = r.1

ends_within : (d : List ℕ) (action value start len : ℕ) → text_head d + 4 ≤ length d → LengthRule d action value start len → HasText action value → start + len ≤ text_count d
ends_within d action value start len w (inl r) h = r.1 w
ends_within d action value start len w (inr r) h = absurd (r.0 h)

placed : (text : List ℕ) (action value start len : ℕ) → HasText action value → text_placed text action value start len ≡ Some (slice text start len)
placed text action value start len h = rw (eq-eqb action set_action h.0, eq-eqb value none h.1)

by_tests : {A : Type 0} (x : A) (action value : ℕ) (s t : Bool) → eqb action set_action ≡ s → eqb value none ≡ t → (HasText action value → ⊥) → cond (s && t) (Some x) None ≡ None
by_tests x action value true true a b h = absurd (h (eqb-true action set_action a, eqb-true value none b))
by_tests x action value true false a b h = refl
by_tests x action value false t a b h = refl

not_placed : (text : List ℕ) (action value start len : ℕ) → (HasText action value → ⊥) → text_placed text action value start len ≡ None
not_placed text action value start len h = by_tests (slice text start len) action value (eqb action set_action) (eqb value none) refl refl h

module _ (d : List ℕ) (good : AllGood d (fields d)) where
  name_held : (i : ℕ) → i < names_count d → NameHeld d i
  name_held i h =
      let x = each_at d (name_row d) (names_count d) i (good_names d good).1 h in
      let p = name_place d i in
      let few : length (name_at d i) ≤ 32 = omega (arith, slice_most d (p + 1) (byte d p), x.0.1) in
      let s = text_there (name_at d i) few x.1.0.1 in
      (s.0, found i (names_count d) _ h ∙ s.1, s.2)

  value_held : (i : ℕ) → i < values_count d → ValueHeld d i
  value_held i h =
      let p = value_place d i in
      let x = each_at d (value_row d) (values_count d) i (good_values d good).1 h in
      let v = value_made d (byte d (p + 1)) (p + 3) (byte d (p + 2)) (kind_of (byte d p)) x.1.1.1.0.0 x.1.1.0.1 x.1.1.1.0.1 in
      (v.0, found i (values_count d) _ h ∙ v.1, v.2 ∙ kind_back (byte d p) x.0.1, v.3)

  record_held : (i : ℕ) → i < records_count d → RecordHeld d i (record_place d i)
  record_held i h =
      let p = record_place d i in
      let x = each_at d (record_row d) (records_count d) i (good_records d good).1 h in
      let after = x.1.1.1.1.1.1.1.1 in
      let reached = (good_end d good).0.0 in
      record {
        tag = tag_back (byte d p) x.0.1;
        action = action_back (byte d (p + 1)) x.1.0.1;
        no_name = λ e. ap (found_by (name_found d)) (not_given (le16 d (p + 2)) e);
        name = λ e. (named d (byte d (p + 1)) (le16 d (p + 2)) x.1.1.0.1 e, ap (found_by (name_found d)) (given (le16 d (p + 2)) e));
        no_value = λ e. ap (found_by (value_found d)) (not_given (le16 d (p + 4)) e);
        value = λ e. (valued d (byte d (p + 1)) (le16 d (p + 2)) (le16 d (p + 4)) x.1.1.1.0.1 e, ap (found_by (value_found d)) (given (le16 d (p + 4)) e));
        text = λ t. (
          ends_within d (byte d (p + 1)) (le16 d (p + 4)) (le32 d (p + 16)) (le32 d (p + 20)) reached after.1.0.1 t,
          placed (text_at d) (byte d (p + 1)) (le16 d (p + 4)) (le32 d (p + 16)) (le32 d (p + 20)) t,
        );
        no_text = λ t. not_placed (text_at d) (byte d (p + 1)) (le16 d (p + 4)) (le32 d (p + 16)) (le32 d (p + 20)) t;
      }

  pub good_holds : Holds d
  good_holds = record {
    names = name_held;
    values = value_held;
    records = record_held;
    text = slice_length d (text_place d) (text_count d) (good_end d good).1.0.0;
  }
