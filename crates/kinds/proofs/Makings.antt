-- What bytes make is what holds them, and nothing else does. Assumes nothing.
use Rattle.std.proofs.Common.{◌≡◌, ℕ, ◌<◌, ◌≤◌, Bool, true, false, leb, List, length, Some, None, Ok, Err, Result, sym, refl, ap, ◌∙◌, subst, arith, leb-false, leb-true, MatchResult}
use Rattle.std.specs.Result.{result_ok}
use Rattle.measures.specs.Rfc3629.{Utf8Octets}
use Rattle.measures.specs.Judged.{judged}
use Rattle.measures.proofs.Judging.{judged_right}
use Rattle.kinds.specs.declared.short.ShortBytes.{ShortBytes}
use Rattle.kinds.specs.declared.text.ShortStr.{ShortStr}
use Rattle.kinds.specs.Contents.{content}
use Rattle.kinds.specs.Names.{spelled, Unfit}
use Rattle.kinds.specs.declared.refusal.Refusal.{Refusal}
use Rattle.kinds.specs.declared.refusal.Refusal.TheVariants.{IllFormedText, NoOpenPlace, NoPredecessor, ActorUnknown, Malformed, TooLong}
use Rattle.kinds.specs.Making.{held_short, held_text, short_by, text_by, short_from, text_from}
use Rattle.kinds.specs.Padding.{padded_front}
use Rattle.kinds.specs.ContentsLemmas.{content_length, same_bytes}
use Rattle.kinds.specs.Spellings.{same_text}
use Rattle.kinds.proofs.WellFormed.{name_well_formed}

at_most : (s : ShortBytes) → length (content s) ≤ 32
at_most s = omega (arith, content_length s, s.most)

module _ (bytes : List ℕ) where
  made_short : (s : ShortBytes) → content s ≡ bytes → (few : Bool) (e : leb (length bytes) 32 ≡ few) → short_by bytes few e ≡ Some s
  made_short s c true e = ap Some (same_bytes (held_short bytes (leb-true (length bytes) 32 e)) s (padded_front bytes ∙ sym c))
  made_short s c false e = absurd (omega (arith, leb-false (length bytes) 32 e, at_most s, ap length c))

  no_short : 32 < length bytes → (few : Bool) (e : leb (length bytes) 32 ≡ few) → short_by bytes few e ≡ None
  no_short l true e = absurd (omega (arith, leb-true (length bytes) 32 e))
  no_short l false e = refl

  made_text : (s : ShortStr) → spelled s ≡ bytes → (few well : Bool) (e : leb (length bytes) 32 ≡ few) (w : judged bytes ≡ well) → text_by bytes few well e w ≡ Some s
  made_text s c true true e w = ap Some (same_text (held_text bytes (leb-true (length bytes) 32 e) ((judged_right bytes).0 w)) s (padded_front bytes ∙ sym c))
  made_text s c true false e w =
      let well = (judged_right bytes).1 (subst Utf8Octets c (name_well_formed s)) in
      let z : ◌≡◌ {A = ℕ} 0 1 = cc in absurd (omega arith)
  made_text s c false well e w = absurd (omega (arith, leb-false (length bytes) 32 e, at_most s.short, ap length c))

  no_text : (Utf8Octets bytes → ⊥) → (few well : Bool) (e : leb (length bytes) 32 ≡ few) (w : judged bytes ≡ well) → text_by bytes few well e w ≡ None
  no_text ill true true e w = absurd (ill ((judged_right bytes).0 w))
  no_text ill true false e w = refl
  no_text ill false well e w = refl

  no_long_text : 32 < length bytes → (few well : Bool) (e : leb (length bytes) 32 ≡ few) (w : judged bytes ≡ well) → text_by bytes few well e w ≡ None
  no_long_text l true well e w = absurd (omega (arith, leb-true (length bytes) 32 e))
  no_long_text l false well e w = refl

  -- Short bytes are made from their content,
  pub short_of_content : (s : ShortBytes) → content s ≡ bytes → short_from bytes ≡ Some s
  unfolding short_from
  short_of_content s c = made_short s c (leb (length bytes) 32) refl

  -- and none from more than 32 bytes.
  pub no_short_above : 32 < length bytes → short_from bytes ≡ None
  unfolding short_from
  no_short_above l = no_short l (leb (length bytes) 32) refl

  -- A short text is made from what it spells,
  pub text_of_spelling : (s : ShortStr) → spelled s ≡ bytes → text_from bytes ≡ Some s
  unfolding text_from
  text_of_spelling s c = made_text s c (leb (length bytes) 32) (judged bytes) refl refl

  -- none from ill-formed bytes,
  pub no_text_ill_formed : (Utf8Octets bytes → ⊥) → text_from bytes ≡ None
  unfolding text_from
  no_text_ill_formed ill = no_text ill (leb (length bytes) 32) (judged bytes) refl refl

  -- and none from more than 32.
  pub no_text_above : 32 < length bytes → text_from bytes ≡ None
  unfolding text_from
  no_text_above l = no_long_text l (leb (length bytes) 32) (judged bytes) refl refl

  -- At most 32 bytes make short bytes that hold them,
  pub short_there : length bytes ≤ 32 → (s : ShortBytes) × (short_from bytes ≡ Some s) × (content s ≡ bytes)
  short_there few =
      let s = held_short bytes few in
      (s, short_of_content s (padded_front bytes), padded_front bytes)

  -- and if they are well-formed, a text that spells them.
  pub text_there : length bytes ≤ 32 → Utf8Octets bytes → (s : ShortStr) × (text_from bytes ≡ Some s) × (spelled s ≡ bytes)
  text_there few well =
      let s = held_text bytes few well in
      (s, text_of_spelling s (padded_front bytes), padded_front bytes)

  unfit : (e : Refusal) → Unfit bytes e → text_from bytes ≡ None
  unfit IllFormedText h = no_text_ill_formed h.1
  unfit NoOpenPlace h = absurd h
  unfit NoPredecessor h = absurd h
  unfit ActorUnknown h = absurd h
  unfit Malformed h = absurd h
  unfit TooLong h = no_text_above h

  -- What `new` answers, as what the bytes make.
  pub short_made : (r : Result ShortBytes Refusal) → MatchResult r (λ s. content s ≡ bytes) (λ e. (e ≡ TooLong) × (32 < length bytes)) → result_ok r ≡ short_from bytes
  short_made (Ok s) h = sym (short_of_content s h)
  short_made (Err e) h = sym (no_short_above h.1)

  pub text_made : (r : Result ShortStr Refusal) → MatchResult r (λ s. spelled s ≡ bytes) (λ e. Unfit bytes e) → result_ok r ≡ text_from bytes
  text_made (Ok s) h = sym (text_of_spelling s h)
  text_made (Err e) h = sym (unfit e h)
