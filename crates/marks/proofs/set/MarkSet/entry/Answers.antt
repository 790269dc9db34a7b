use Rattle.std.proofs.Common.{◌≡◌, ◌+◌, None, sym, ◌∙◌, add-one, rules, arith}
use Rattle.std.specs.List.{slice_get}
use Rattle.marks.specs.Set.{entries}
use Rattle.marks.proofs.Lists.{nth_none}
use Rattle.marks.proofs.Entries.{first, follows}
use Rattle.marks.proofs.Sets.{entry_at, entries_rise}
use Rattle.marks.proofs.set.MarkSet.entry.Goals as goal

pub returns-in_err-found : goal.returns-in_err-found
returns-in_err-found g c =
    let names = g.N.Name.below in
    let marks = c.args.self.now.marks.now in
    let none : slice_get (entries names marks) 0 ≡ None = sym (first names (entries names marks)) ∙ sym c.next_entry.ensures ∙ c.in_err-found.was in
    let value = c.from_residual.ensures ∙ nth_none (entries names marks) 0 c.args.k none (omega arith) in
    record { value = value; entry = entry_at g.met.I.Id.ordered g.met.N.Name.ordered marks c.args.k _ value }

pub loop-init : goal.loop-init
loop-init g c =
    let names = g.N.Name.below in
    let es = entries names c.args.self.now.marks.now in
    sym (first names es) ∙ sym c.next_entry.ensures ∙ c.in_ok-found.was

pub returns-in_err-found-2 : goal.returns-in_err-found-2
returns-in_err-found-2 g c =
    let names = g.N.Name.below in
    let marks = c.args.self.now.marks.now in
    let es = entries names marks in
    let i = c.loop.counter in
    let next = follows g.met.N.Name.ordered es i c.loop.found (entries_rise g.met.I.Id.ordered g.met.N.Name.ordered marks) c.loop.invariant in
    let none : slice_get es (i + 1) ≡ None = rw add-one (sym next ∙ sym c.next_entry-in-loop.ensures ∙ c.in_err-found-2.was) in
    let value = c.from_residual-in_err-found-2.ensures ∙ nth_none es (i + 1) c.args.k none (omega arith) in
    record { value = value; entry = entry_at g.met.I.Id.ordered g.met.N.Name.ordered marks c.args.k _ value }

pub loop-preserved : goal.loop-preserved
loop-preserved g c =
    let names = g.N.Name.below in
    let marks = c.args.self.now.marks.now in
    let next = follows g.met.N.Name.ordered (entries names marks) c.loop.counter c.loop.found (entries_rise g.met.I.Id.ordered g.met.N.Name.ordered marks) c.loop.invariant in
    rw add-one (sym next ∙ sym c.next_entry-in-loop.ensures ∙ c.in_ok-found-2.was)

pub returns-clause-entry : goal.returns-clause-entry
returns-clause-entry g c = entry_at g.met.I.Id.ordered g.met.N.Name.ordered c.args.self.now.marks.now c.args.k _ (search rules)
