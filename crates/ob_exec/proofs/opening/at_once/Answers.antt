use Rattle.std.proofs.Common.{sym, subst}
use Rattle.std.specs.Prelude.{IfOk}
use Rattle.ob_exec_handles.specs.Coming.{ComesTo}
use Rattle.ob_exec_handles.specs.Spending.{SpendsSo}
use Rattle.ob_exec.specs.Pausing.{RunRepresents}
use Rattle.ob_exec.specs.declared.stage.Stage.TheVariants.{Answered}
use Rattle.ob_exec.proofs.OpeningLemmas.{answered_once}
use Rattle.ob_exec.proofs.opening.at_once.Goals as goal

pub returns : goal.returns
returns c = λ image base r s i comes ends told spends.
    let invoked = c.in_ok-invoked.invoked in
    subst (λ reads. RunRepresents image base r
    (record { stage = Answered (record { answer = invoked.answer; delta = invoked.delta }); reads = reads; taken = invoked.spent.taken })) (sym c.new.ensures)
    (answered_once image base r i invoked.answer invoked.delta invoked.spent comes ends
    (subst (λ o. IfOk o (λ a. ComesTo i base a.answer a.delta)) c.in_ok-invoked.was told)
    (subst (λ o. IfOk o (λ a. SpendsSo i a.spent)) c.in_ok-invoked.was spends))
