use Rattle.std.proofs.Common.{sym}
use Rattle.ob_run.proofs.KindLemmas.{is_aborted_line, is_done_line, is_refused_line, has_comma}
use Rattle.ob_run.proofs.kinds.kind_of_line.Goals as goal

pub returns-then-has_byte : goal.returns-then-has_byte
returns-then-has_byte c = λ reply is. is_aborted_line c.args.line.now reply.id reply.answer is c.if-has_byte.ensures

pub returns-in_default : goal.returns-in_default
returns-in_default c = λ reply is. has_comma c.args.line.now reply.id reply.answer is c.if-has_byte.ensures (sym c.in_default.ensures.place)

pub returns-then-has_byte-2 : goal.returns-then-has_byte-2
returns-then-has_byte-2 c = λ reply is.
    is_done_line c.args.line.now reply.id reply.answer c.in-Some.comma is c.if-has_byte.ensures (sym c.in-Some.ensures.place) c.if-has_byte-2.ensures

pub returns : goal.returns
returns c = λ reply is.
    is_refused_line c.args.line.now reply.id reply.answer c.in-Some.comma is c.if-has_byte.ensures (sym c.in-Some.ensures.place) c.if-has_byte-2.ensures
