use Rattle.std.proofs.Common.{rules}
use Rattle.ob_code.specs.Images.{param}
use Rattle.ob_code.proofs.rows.ParamCodePart.put.Goals as goal

pub returns-in-Text : goal.returns-in-Text
unfolding param
returns-in-Text c = rw c.in-Text.is (search rules)
