use Rattle.std.proofs.Common.{sym}
use Rattle.std.proofs.lemmas.Bool.{eqb-true}
use Rattle.std.proofs.lemmas.List.{nil_from_length}
use Rattle.std.proofs.lemmas.Result.{err_from_is_err_and}
use Rattle.ob_lexer.proofs.Progress.{starts, utf8_so_far, steps, ends, handed_on}
use Rattle.ob_lexer.proofs.lexer.tokens_in.Goals as goal

pub pieces-init : goal.pieces-init
pieces-init c = rw c.new-tokens.ensures (starts c.args.text.now)

pub take_next-requires-clause-utf8 : goal.take_next-requires-clause-utf8
take_next-requires-clause-utf8 c = utf8_so_far _ _ _ _ c.requires.utf8 c.pieces.invariant

pub pieces-preserved : goal.pieces-preserved
pieces-preserved c =
    rw (c.in_ok-taken.ensures.moved, c.split_at.ensures.back) (steps _ _ _ _ _ _ c.pieces.invariant c.in_ok-taken.ensures.ok)

pub returns-in_err-taken-clause-fault : goal.returns-in_err-taken-clause-fault
returns-in_err-taken-clause-fault c =
    let failed = err_from_is_err_and c.from_residual.result c.from_residual.ensures.1 in
    rw (failed.1, failed.2) (handed_on _ _ _ _ c.in_err-taken.field-0.0 c.requires.short c.requires.utf8 c.pieces.invariant c.in_err-taken.ensures.err)

pub returns-clause-tokens : goal.returns-clause-tokens
returns-clause-tokens c =
    let none = nil_from_length c.pieces.rest.now (eqb-true _ 0 (sym c.pieces-test.ensures)) in
    ends _ _ _ _ c.requires.short c.requires.utf8 c.pieces.invariant none c.span-end.ensures
