use Rattle.std.proofs.Common.{rules}
use Rattle.ob_tree.specs.ExprsView.{expr_views}
use Rattle.ob_parser_expressions.proofs.primaries.called.Goals as goal

pub returns-in-Method : goal.returns-in-Method
returns-in-Method c = rw c.in-Method.is (search (rules, expr_views))

pub returns-in-Applied : goal.returns-in-Applied
returns-in-Applied c = rw c.in-Applied.is (search (rules, expr_views))
