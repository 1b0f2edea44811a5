use Rattle.ob_parser_expressions.proofs.Halts.{halts_bind}
use Rattle.std.proofs.Common.{rules, ◌∙◌, [], ◌∷◌, ◌++◌, ap, sym}
use Rattle.ob_parser_spec.specs.Readers.{name_if, read_token}
use Rattle.ob_parser_spec.specs.NameReaders.{on, read_item}
use Rattle.ob_parser_expressions.proofs.Loops.{parted_begins, kept, none_more}
use Rattle.ob_parser_expressions.proofs.CodeItems.{name_item}
use Rattle.ob_parser_expressions.proofs.names.name_list.Goals as goal

pub names-init : goal.names-init
names-init c =
    let first = c.in_ok-push.ensures.ok ∙ ap (λ l. l ++ c.in_ok-first.first ∷ []) c.new-names.ensures in
    parted_begins c.args.separator (read_token name_if) c.args.tokens.now c.in_ok-first.rest.now _ _ c.in_ok-first.ensures first

pub names-preserved : goal.names-preserved
names-preserved c = kept (on c.args.separator) (read_item c.args.separator (read_token name_if)) c.names.names c.push-in-names.new.self c.names.rest.now c.in_ok-name.after.now c.in_ok-name.name _ (name_item c.args.separator) c.names.invariant c.in_ok-push-2.ensures.ok (sym c.starts_with.ensures ∙ c.names-test.true) c.in_ok-name.ensures

pub returns-in_err-first : goal.returns-in_err-first
returns-in_err-first c = search (rules, halts_bind)

pub returns-in_err-name : goal.returns-in_err-name
returns-in_err-name c = search (rules, halts_bind)

pub names-smaller : goal.names-smaller
names-smaller c = (name_item c.args.separator).fewer _ _ _ c.in_ok-name.ensures

pub returns : goal.returns
returns c = c.names.invariant ∙ none_more (on c.args.separator) (read_item c.args.separator (read_token name_if)) c.names.names c.names.rest.now (sym c.starts_with.ensures ∙ c.names-test.false)
