use Rattle.std.proofs.Common.{rules}
use Rattle.ob_base.proofs.FieldsLemmas.{text_begins}
use Rattle.ob_base.specs.Fields.{left}
use Rattle.ob_base.proofs.fields.Fields.text_front.Goals as goal

pub returns-clause-begins : goal.returns-clause-begins
returns-clause-begins c = text_begins (left c.args.self.now) c.left-rest.result.now c.in_ok-length.field-0 (search rules) (search rules) c.if-rest-length.false
