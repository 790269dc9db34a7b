-- What a window on a source means. Assumes nothing.
use Rattle.std.specs.Prelude.{◌≡◌, ℕ, ◌+◌, ◌-◌, ◌<◌, cond, List, [], length, take, drop, nat_lt}
use Rattle.sources.specs.Meaning.{Meaning, Ending, plain, raised}
use Rattle.sources.specs.declared.window.Window.{Window}

-- How a window up to `to` ends: as the list below where that has fewer records, else plainly.
abbrev pub window_ending : {A : Type 0} → ℕ → List A → Ending → Ending
window_ending to rs e = cond (nat_lt (length rs) to) e plain

-- The records below from `from` up to, but without, `to`.
abbrev pub window : {I N V : Type 0} → ℕ → ℕ → Meaning I N V → Meaning I N V
window from to m = record {
  height = raised m.height;
  records = take (to - from) (drop from m.records);
  ending = window_ending to m.records m.ending;
}

-- What is meant below `skip` records that are still to pass, and `left` that are then still to show.
abbrev pub opened : {I N V : Type 0} → ℕ → ℕ → Meaning I N V → Meaning I N V
opened skip left m = record {
  height = raised m.height;
  records = take left (drop skip m.records);
  ending = window_ending (skip + left) m.records m.ending;
}

-- What a window means, from what the source below it means.
abbrev pub window_means : {S I N V : Type 0} → (S → Meaning I N V) → Window S → Meaning I N V
window_means means w = opened w.skip w.left (means w.below)

-- No record is left to pass, or none is left below.
abbrev pub Settled : {S I N V : Type 0} → (S → Meaning I N V) → Window S → Type 0
Settled means w = 0 < w.skip → (means w.below).records ≡ []
