use Rattle.std.proofs.Common.{rules, ap}
use Rattle.ob_tree.specs.Stmts.{named_local}
use Rattle.ob_parser_spec.specs.Readers.{done, ◌>>=◌, read_as}
use Rattle.ob_parser_spec.specs.NameReaders.{read_named}
use Rattle.ob_parser_spec.specs.AllReaders.{all_refs, all_exprs}
use Rattle.ob_parser_expressions.proofs.Halts.{halts_bind}
use Rattle.ob_parser.proofs.CodeStatements.{declared_answer}
use Rattle.ob_parser.proofs.simple.declaration.Goals as goal

pub returns-in_err-of : goal.returns-in_err-of
returns-in_err-of c = search (rules, halts_bind)

pub returns : goal.returns
returns c =
    declared_answer (read_as named_local (read_named all_refs c.args.room)) (all_exprs c.args.room) c.declared.result c.args.tokens.now c.in_ok-of.rest.now _
    (ap (λ r. r >>= (λ x rest. done (named_local x) rest)) c.in_ok-of.ensures) c.declared.ensures
