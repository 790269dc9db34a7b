-- What is known of the text's count, before the records are checked. Assumes nothing.
use Rattle.std.specs.Prelude.{◌≡◌, ℕ, ◌+◌, ◌<◌, ◌≤◌, List, length, Option, MatchOption}
use Rattle.house.specs.Records.{text_head, text_count}

-- The text's count, or that the file ends before it does.
abbrev pub Limit : List ℕ → Option ℕ → Type 0
Limit d limit = MatchOption limit (length d < text_head d + 4) (λ n. (text_head d + 4 ≤ length d) × (n ≡ text_count d))
