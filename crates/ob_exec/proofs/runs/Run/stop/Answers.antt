use Rattle.std.proofs.Common.{refl, subst}
use Rattle.ob_exec.specs.Pausing.{LeadsBy}
use Rattle.ob_exec.specs.declared.stage.Stage.TheVariants.{Over}
use Rattle.ob_exec.proofs.SliceLemmas.{leads_on, leads_to_end}
use Rattle.ob_exec.proofs.runs.Run.stop.Goals as goal

pub returns-in-None-clause-leads : goal.returns-in-None-clause-leads
returns-in-None-clause-leads c = λ image base r k.
    let old = c.args.self.now in
    let end = c.args.end in
    leads_on image base r end.reads end.taken old.state.stage (record old { state = record { stage = old.state.stage; reads = end.reads; taken = end.taken } })
    (subst (λ o. LeadsBy image base r o end.reads end.taken old.state.stage) c.in-None.is k) refl

pub returns-in-Some-clause-leads : goal.returns-in-Some-clause-leads
returns-in-Some-clause-leads c = λ image base r k.
    let old = c.args.self.now in
    let end = c.args.end in
    leads_to_end image base r c.in-Some.answered end.reads end.taken old.state.stage (record old { state = record { stage = Over; reads = end.reads; taken = end.taken } })
    c.reply_to-reply.result (subst (λ o. LeadsBy image base r o end.reads end.taken old.state.stage) c.in-Some.is k) refl refl c.reply_to-reply.ensures.id c.reply_to-reply.ensures.answer
