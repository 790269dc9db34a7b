-- What every width keeps to, and what an answer says of a width. Assumes nothing.
use Rattle.std.specs.Prelude.{◌≡◌, ℕ, ◌+◌, ◌<◌, List, [], ◌++◌, Option, Some, None}
use Rattle.measures.specs.Rfc3629.{Utf8Octets}

-- The widths of well-formed texts that are joined add up, and only the empty text has the width 0.
pub record Widths (width : List ℕ → ℕ) : Type 0 where
  pub joins : (xs ys : List ℕ) → Utf8Octets xs → Utf8Octets ys → width (xs ++ ys) ≡ width xs + width ys
  pub empty : (xs : List ℕ) → Utf8Octets xs → width xs ≡ 0 → xs ≡ []

-- An answer is the width itself, up to 4,294,967,295, or none where it is larger.
abbrev pub Says : Option ℕ → ℕ → Type 0
Says (Some n) width = n ≡ width
Says None width = 4_294_967_295 < width
