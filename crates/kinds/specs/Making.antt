-- The short bytes and the short text that bytes make. Assumes nothing.
use Rattle.std.specs.Prelude.{◌≡◌, ℕ, ◌≤◌, Bool, true, false, List, length, Some, None, Option, nat_le, refl}
use Rattle.std.proofs.Common.{sym, subst, leb-true}
use Rattle.measures.specs.Rfc3629.{Utf8Octets}
use Rattle.measures.specs.Judged.{judged}
use Rattle.measures.proofs.Judging.{judged_right}
use Rattle.kinds.specs.declared.short.ShortBytes.{ShortBytes}
use Rattle.kinds.specs.declared.text.ShortStr.{ShortStr}
use Rattle.kinds.specs.Padding.{padded, padded_length, padded_zeros, padded_front}

-- At most 32 bytes, held with zeros behind them.
abbrev pub held_short : (bytes : List ℕ) → length bytes ≤ 32 → ShortBytes
held_short bytes few = record {
  held = padded bytes;
  len = length bytes;
  room = padded_length bytes few;
  most = few;
  zeros = padded_zeros bytes;
}

-- The same of well-formed bytes, as text.
abbrev pub held_text : (bytes : List ℕ) → length bytes ≤ 32 → Utf8Octets bytes → ShortStr
held_text bytes few well = record {
  short = held_short bytes few;
  well = ∣ subst Utf8Octets (sym (padded_front bytes)) well ∣₁;
}

-- By the test of the length.
abbrev pub short_by : (bytes : List ℕ) (few : Bool) → nat_le (length bytes) 32 ≡ few → Option ShortBytes
short_by bytes true e = Some (held_short bytes (leb-true (length bytes) 32 e))
short_by bytes false e = None

-- By the tests of the length and of the grammar.
abbrev pub text_by : (bytes : List ℕ) (few well : Bool) → nat_le (length bytes) 32 ≡ few → judged bytes ≡ well → Option ShortStr
text_by bytes true true e w = Some (held_text bytes (leb-true (length bytes) 32 e) ((judged_right bytes).0 w))
text_by bytes true false e w = None
text_by bytes false well e w = None

-- The short bytes of this content; none above 32 bytes.
unfoldable pub short_from : List ℕ → Option ShortBytes
short_from bytes = short_by bytes (nat_le (length bytes) 32) refl

-- The short text of these bytes; none above 32 bytes, or where they are ill-formed.
unfoldable pub text_from : List ℕ → Option ShortStr
text_from bytes = text_by bytes (nat_le (length bytes) 32) (judged bytes) refl refl
