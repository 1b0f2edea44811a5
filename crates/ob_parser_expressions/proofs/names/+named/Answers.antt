use Rattle.std.proofs.Common.{rules}
use Rattle.ob_tree.specs.NamesView.{name_views}
use Rattle.ob_parser_spec.proofs.Deeper.{refs_step}
use Rattle.ob_parser_expressions.proofs.Halts.{halts_bind}
use Rattle.ob_parser_expressions.proofs.CodeTokens.{opened_is}
use Rattle.ob_lexer.specs.declared.token.Sign.TheVariants.{OpenBracket}
use Rattle.ob_parser_spec.specs.Symbols.{a_sign}
use Rattle.ob_parser_spec.specs.Readers.{span_if}
use Rattle.ob_parser_spec.specs.AllReaders.{all_refs}
use Rattle.ob_parser_expressions.proofs.names.+named.Goals as goal

-- src/names.rt:165:1
pub bracketed-returns : goal.bracketed-returns
bracketed-returns t c = rw (opened_is (span_if (a_sign OpenBracket)) 1 c.args.room all_refs c.args.tokens.now) (search rules)

-- src/names.rt:213:22
pub reference-returns-in_err-of : goal.reference-returns-in_err-of
reference-returns-in_err-of t c = rw (refs_step c.args.room c.ranges.room.fits c.args.tokens.now) (search (rules, halts_bind))

-- src/names.rt:214:21
pub reference-returns-in_err-of-2 : goal.reference-returns-in_err-of-2
reference-returns-in_err-of-2 t c = rw (refs_step c.args.room c.ranges.room.fits c.args.tokens.now) (search (rules, halts_bind))

-- src/names.rt:215:24
pub reference-returns-in_err-of-3 : goal.reference-returns-in_err-of-3
reference-returns-in_err-of-3 t c = rw (refs_step c.args.room c.ranges.room.fits c.args.tokens.now) (search (rules, halts_bind))

-- src/names.rt:209:1
pub reference-returns : goal.reference-returns
reference-returns t c = rw (refs_step c.args.room c.ranges.room.fits c.args.tokens.now) (search (rules, name_views))

pub argument-returns-in_err-of : goal.argument-returns-in_err-of
argument-returns-in_err-of t c = search (rules, halts_bind)

pub named-returns-in_err-part : goal.named-returns-in_err-part
named-returns-in_err-part t c = search (rules, halts_bind)

pub named-returns-in_err-argument : goal.named-returns-in_err-argument
named-returns-in_err-argument t c = search (rules, halts_bind)

pub bracketed-returns-in_err-rest : goal.bracketed-returns-in_err-rest
bracketed-returns-in_err-rest t c = rw (opened_is (span_if (a_sign OpenBracket)) 1 c.args.room all_refs c.args.tokens.now) (search (rules, halts_bind))

pub bracketed-returns-in_err-of : goal.bracketed-returns-in_err-of
bracketed-returns-in_err-of t c = rw (opened_is (span_if (a_sign OpenBracket)) 1 c.args.room all_refs c.args.tokens.now) (search (rules, halts_bind))
