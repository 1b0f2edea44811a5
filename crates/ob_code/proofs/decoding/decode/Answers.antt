use Rattle.std.proofs.Common.{sym, ◌∙◌}
use Rattle.ob_format_spec.proofs.Failing.{are_bytes}
use Rattle.ob_code.specs.Images.{image}
use Rattle.ob_code.proofs.ImageLaws.{image_lawful}
use Rattle.ob_code.proofs.DecodingLemmas.{decodes_done, decodes_more, decodes_stop}
use Rattle.ob_code.proofs.decoding.decode.Goals as goal

pub returns-then-is_empty : goal.returns-then-is_empty
returns-then-is_empty c =
    decodes_done image image_lawful c.args.bytes.now (are_bytes c.args.bytes.now (λ i. (c.type_inv.bytes i).fits)) c.in-Ok.found c.in-Ok.rest.now (sym c.is_empty.ensures ∙ c.if-is_empty.true) c.in-Ok.ensures

pub returns-else-is_empty : goal.returns-else-is_empty
returns-else-is_empty c =
    decodes_more image image_lawful c.args.bytes.now (are_bytes c.args.bytes.now (λ i. (c.type_inv.bytes i).fits)) c.in-Ok.found c.in-Ok.rest.now c.bad.result (sym c.is_empty.ensures ∙ c.if-is_empty.false) c.in-Ok.ensures
    c.bad.ensures

pub returns-in-Err-Stop : goal.returns-in-Err-Stop
returns-in-Err-Stop c =
    decodes_stop image image_lawful c.args.bytes.now (are_bytes c.args.bytes.now (λ i. (c.type_inv.bytes i).fits)) c.in-Err-Stop.field-0 c.in-Err-Stop.left c.bad-in-Err-Stop.result c.in-Err-Stop.field-0-is c.in-Err-Stop.ensures
    c.bad-in-Err-Stop.ensures
