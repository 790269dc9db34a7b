-- How a well-formed text is built up, character by character. Assumes nothing.
use Rattle.std.proofs.Common.{ℕ, List, [], ◌∷◌, ◌++◌, refl, ap}
use Rattle.measures.specs.Rfc3629.{Utf8Char, Utf8Octets}

-- the empty text is well-formed
pub octets_none : Utf8Octets []
unfolding Utf8Octets
octets_none = ([], tt, refl)

-- a character put before a well-formed text
pub char_cons : (c bs : List ℕ) → Utf8Char c → Utf8Octets bs → Utf8Octets (c ++ bs)
unfolding Utf8Octets
char_cons c bs u o = (c ∷ o.0, (u, o.1), ap (λ (t : List ℕ). c ++ t) o.2)
