use Rattle.std.proofs.Common.{◌≡◌, ◌+◌, sym, subst, inl, inr, rules}
use Rattle.std.proofs.lemmas.Bool.Decides.{not_from_Decides}
use Rattle.sources.specs.Tags.{action_number}
use Rattle.house.specs.Fields.{byte, le16}
use Rattle.house.specs.Records.{ValueRule, link_fields}
use Rattle.house.specs.Held.{number_given}
use Rattle.file.proofs.Judging.{judged_err}
use Rattle.file.proofs.record.Row.links.Goals as goal

pub returns-in_err-form-2 : goal.returns-in_err-form-2
returns-in_err-form-2 c =
    let d = c.args.self.now.frame.now.bytes.now in
    let at = c.args.self.now.at in
    let action : action_number c.in_ok-action.action ≡ byte d (at + 1) = search rules in
    let name : c.number_given-name.result ≡ number_given (le16 d (at + 2)) = search rules in
    let value : c.number_given-value.result ≡ number_given (le16 d (at + 4)) = search rules in
    let no = not_from_Decides c.value_fits.result (c.value_fits.ensures (le16 d (at + 2)) (le16 d (at + 4)) name value) (search rules) in
    let broken : ValueRule d (byte d (at + 1)) (le16 d (at + 2)) (le16 d (at + 4)) → ⊥ = λ r. no (subst (λ a. ValueRule d a (le16 d (at + 2)) (le16 d (at + 4))) (sym action) r) in
    judged_err d (link_fields d at) c.from_residual-in_err-form-2.result _ c.in_err-form-2.field-0.0 c.from_residual-in_err-form-2.ensures.1 (inr (search rules, inr (search rules, inr (search rules, inl (inr (search rules, broken, search rules))))))
