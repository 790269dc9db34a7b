-- What short bytes hold. Assumes nothing.
use Rattle.std.specs.Prelude.{ℕ, List, take}
use Rattle.kinds.specs.declared.short.ShortBytes.{ShortBytes}

-- The bytes in use.
abbrev pub content : ShortBytes → List ℕ
content s = take s.len s.held
