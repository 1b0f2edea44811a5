use Rattle.std.proofs.Common.{rules}
use Rattle.ob_code.specs.Images.{type_code}
use Rattle.ob_code.proofs.rows.put_type.Goals as goal

pub returns-in-Text : goal.returns-in-Text
unfolding type_code
returns-in-Text c = rw c.in-Text.is (search rules)
