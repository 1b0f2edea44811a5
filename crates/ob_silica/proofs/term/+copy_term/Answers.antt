use Rattle.std.proofs.Common.{sym}
use Rattle.std.specs.Prelude.{refl}
use Rattle.ob_silica.proofs.term.+copy_term.Goals as goal

pub TermDuplicate::copy-returns : goal.TermDuplicate::copy-returns
TermDuplicate::copy-returns t c = rw c.in_ok-copy.ensures refl

pub FormDuplicate::copy-returns-in_ok-then-in-Test : goal.FormDuplicate::copy-returns-in_ok-then-in-Test
FormDuplicate::copy-returns-in_ok-then-in-Test t c =
    let then = rw c.in_ok-then-in-Test.ensures.0 at c.copy_terms.ensures in
    let otherwise = rw c.in_ok-then-in-Test.ensures.1 at c.copy_terms-in-Test.ensures in
    rw (then, c.as_slice-in-Test.ensures, otherwise, c.as_slice-in-Test-2.ensures) (sym c.in-Test.is)

pub FormDuplicate::copy-returns-in_ok-then-in-If : goal.FormDuplicate::copy-returns-in_ok-then-in-If
FormDuplicate::copy-returns-in_ok-then-in-If t c =
    let then = rw c.in_ok-then-in-If.ensures.0 at c.copy_terms-in-If.ensures in
    let otherwise = rw c.in_ok-then-in-If.ensures.1 at c.copy_terms-in-If-2.ensures in
    rw (then, c.as_slice-in-If.ensures, otherwise, c.as_slice-in-If-2.ensures) (sym c.in-If.is)

pub FormDuplicate::copy-returns-in_ok-first-in-Loop : goal.FormDuplicate::copy-returns-in_ok-first-in-Loop
FormDuplicate::copy-returns-in_ok-first-in-Loop t c =
    let first = rw c.in_ok-first-in-Loop.ensures.0 at c.copy_terms-in-Loop.ensures in
    let body = rw c.in_ok-first-in-Loop.ensures.1 at c.copy_terms-in-Loop-2.ensures in
    rw (first, c.as_slice-in-Loop.ensures, body, c.as_slice-in-Loop-2.ensures) (sym c.in-Loop.is)

pub FormDuplicate::copy-returns-in_ok-copy-in-Const : goal.FormDuplicate::copy-returns-in_ok-copy-in-Const
FormDuplicate::copy-returns-in_ok-copy-in-Const t c = rw c.in_ok-copy-in-Const.ensures (sym c.in-Const.is)
