use Rattle.std.proofs.Common.{◌≡◌, ◌<◌, length, take, Ok, Err, refl}
use Rattle.std.proofs.lemmas.List.{take_at}
use Rattle.kinds.proofs.Copies.{zeros_behind}
use Rattle.kinds.proofs.Makings.{short_made}
use Rattle.kinds.specs.declared.refusal.Refusal.TheVariants.{TooLong}
use Rattle.kinds.proofs.short.ShortBytes.new.Goals as goal

pub returns-in_default-clause-made : goal.returns-in_default-clause-made
returns-in_default-clause-made c =
    let long : 32 < length c.args.bytes.now = c.in_default.ensures in
    short_made c.args.bytes.now (Err TooLong) (refl, long)

pub invariant_of-result-clause-zeros : goal.invariant_of-result-clause-zeros
invariant_of-result-clause-zeros c =
    λ k past. rw c.in-Some.ensures.1 (zeros_behind c.args.bytes.now (length c.args.bytes.now) k past)

pub returns-clause-made : goal.returns-clause-made
returns-clause-made c =
    let bytes = c.args.bytes.now in
    let front : take (length bytes) c.in-Some.held ≡ bytes = rw c.in-Some.ensures.1 (take_at bytes _ (length bytes) refl) in
    short_made bytes (Ok _) front
