-- Equal arrays and lengths are the same value, and equal contents are.
use Rattle.std.specs.Prelude.{◌≡◌, ◌&&◌, true, false, nat_eq, Decides}
use Rattle.std.proofs.Common.{sym, ◌∙◌, subst}
use Rattle.std.specs.Cmp.Lexicographic.{pointwise}
use Rattle.kinds.specs.ContentsLemmas.{held_test}
use Rattle.kinds.specs.Equalities.{content_test}
use Rattle.kinds.specs.declared.short.ShortBytes.{ShortBytes}
use Rattle.kinds.proofs.content.ShortBytesPartialEq.eq.Goals as goal

equal_arrays : (a b : ShortBytes) → pointwise nat_eq a.held b.held ≡ true → Decides (nat_eq a.len b.len) (a ≡ b)
equal_arrays a b e = subst (λ t. Decides (t && nat_eq a.len b.len) (a ≡ b)) e (held_test a b)

unequal_arrays : (a b : ShortBytes) → pointwise nat_eq a.held b.held ≡ false → Decides false (a ≡ b)
unequal_arrays a b e = subst (λ t. Decides (t && nat_eq a.len b.len) (a ≡ b)) e (held_test a b)

pub returns-then-eq-clause-gives : goal.returns-then-eq-clause-gives
returns-then-eq-clause-gives c = content_test c.args.self.now c.args.other.now _ (equal_arrays c.args.self.now c.args.other.now (sym c.if-eq.ensures))

pub returns-then-eq-clause-decides : goal.returns-then-eq-clause-decides
returns-then-eq-clause-decides c = equal_arrays c.args.self.now c.args.other.now (sym c.if-eq.ensures)

pub returns-else-eq-clause-gives : goal.returns-else-eq-clause-gives
returns-else-eq-clause-gives c = c.if-eq.false ∙ content_test c.args.self.now c.args.other.now false (unequal_arrays c.args.self.now c.args.other.now (sym c.if-eq.ensures))
