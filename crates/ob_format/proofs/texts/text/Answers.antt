use Rattle.ob_format_spec.proofs.Failing.{are_bytes}
use Rattle.ob_format_spec.proofs.TextLaws.{text_form}
use Rattle.ob_format.proofs.texts.text.Goals as goal

pub returns-clause-form : goal.returns-clause-form
returns-clause-form c =
    text_form c.args.bytes.now (are_bytes c.args.bytes.now (λ i. (c.type_inv.bytes i).fits)) c.in_ok-text.text c.in_ok-text.rest.now c.in_ok-text.ensures
