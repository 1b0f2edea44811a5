use Rattle.std.proofs.Common.{subst}
use Rattle.ob_exec.specs.Pausing.{LeadsBy}
use Rattle.ob_exec.proofs.AnswerLemmas.{stands_on}
use Rattle.ob_exec.proofs.runs.state_of.Goals as goal

pub returns-in-None : goal.returns-in-None
returns-in-None c = λ image base r k.
    let end = c.args.end in
    stands_on image base r end.reads end.taken c.args.stage (subst (λ o. LeadsBy image base r o end.reads end.taken c.args.stage) c.in-None.is k)

pub returns-in-Some : goal.returns-in-Some
returns-in-Some c = λ image base r k.
    subst (λ o. LeadsBy image base r o c.args.end.reads c.args.end.taken c.args.stage) c.in-Some.is k
