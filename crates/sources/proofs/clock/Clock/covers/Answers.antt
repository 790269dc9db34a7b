use Rattle.std.proofs.Common.{◌≡◌, Err, ap, subst, ◌∙◌, rules}
use Rattle.kinds.specs.declared.refusal.Refusal.TheVariants.{ActorUnknown}
use Rattle.std.specs.Slice.{IsItemAt}
use Rattle.std.specs.Result.{result_ok}
use Rattle.sources.proofs.Clocks.{known, lacking}
use Rattle.sources.proofs.clock.Clock.covers.Goals as goal

pub returns-in_err-number : goal.returns-in_err-number
returns-in_err-number c =
    let none = c.ok_or.ensures.ok_part ∙ ap result_ok c.in_err-number.was in
    let lookup = subst (IsItemAt c.known.result.now c.args.actor) none c.get.ensures.lookup in
    let told : c.from_residual.result ≡ Err ActorUnknown = search rules in
    told ∙ rw (← c.known.ensures) (lacking c.known.result.now c.args.actor c.args.counter lookup.3)

pub returns : goal.returns
returns c =
    let found = c.ok_or.ensures.ok_part ∙ ap result_ok c.in_ok-number.was in
    let lookup = subst (IsItemAt c.known.result.now c.args.actor) found c.get.ensures.lookup in
    rw (← c.known.ensures) (known c.known.result.now c.args.actor c.args.counter c.in_ok-number.number.now lookup.3.0 lookup.1)
