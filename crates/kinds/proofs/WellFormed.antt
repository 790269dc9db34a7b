-- What a short text spells is well-formed. Assumes nothing.
use Rattle.std.proofs.Common.{ℕ, true, List, IsUtf8, sym, ◌∙◌}
use mathlib.Core.Bool.{Bool-set}
use mathlib.Core.Logic.{∥∥₁_elim}
use mathlib.Core.HLevel.{Σ_prop, Σ_prop_path, hedberg}
use mathlib.Core.List.{is_set}
use native.Mathlib.Decide.{ℕ_discrete}
use lib.Utf8.{scalars, encodes}
use Rattle.std.proofs.lemmas.Str.{encodes_same}
use Rattle.measures.specs.Rfc3629.{Utf8Octets}
use Rattle.measures.proofs.Agreement.{agrees}
use Rattle.kinds.specs.declared.text.ShortStr.{ShortStr}
use Rattle.kinds.specs.Names.{spelled}

-- Bytes that are well-formed somehow are a text, which is read in one way only.
text_had : (bytes : List ℕ) → ∥ Utf8Octets bytes ∥₁ → IsUtf8 bytes
text_had bytes h =
    ∥∥₁_elim h
    (λ p q. Σ_prop_path (λ chars. Σ_prop (Bool-set (scalars chars) true) (λ _. is_set (hedberg ℕ_discrete) (encodes chars) bytes)) (encodes_same p.0 q.0 (p.1.1 ∙ sym q.1.1)))
    (agrees bytes).0

pub name_is_text : (s : ShortStr) → IsUtf8 (spelled s)
name_is_text s = text_had (spelled s) s.well

pub name_well_formed : (s : ShortStr) → Utf8Octets (spelled s)
name_well_formed s = (agrees (spelled s)).1 (name_is_text s)
