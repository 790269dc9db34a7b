-- The short bytes are those that were judged well-formed.
use Rattle.std.proofs.Common.{◌≡◌, Ok, Err, rules, MatchResult}
use Rattle.kinds.specs.Names.{spelled, Unfit}
use Rattle.kinds.specs.declared.refusal.Refusal.TheVariants.{IllFormedText}
use Rattle.kinds.proofs.Makings.{text_made}
use Rattle.kinds.proofs.text.ShortStr.new.Goals as goal

pub returns-in_err-short : goal.returns-in_err-short
returns-in_err-short c =
    let bytes = c.args.bytes.now in
    let told : MatchResult c.from_residual.result (λ s. spelled s ≡ bytes) (λ e. Unfit bytes e) = search rules in
    record { spells = told; made = text_made bytes c.from_residual.result told }

pub returns-then-not-well_formed : goal.returns-then-not-well_formed
returns-then-not-well_formed c =
    let bytes = c.args.bytes.now in
    let told : Unfit bytes IllFormedText = search rules in
    record { spells = told; made = text_made bytes (Err IllFormedText) told }

pub returns : goal.returns
returns c =
    let bytes = c.args.bytes.now in
    record { spells = c.in_ok-short.ensures.content; made = text_made bytes (Ok _) c.in_ok-short.ensures.content }
