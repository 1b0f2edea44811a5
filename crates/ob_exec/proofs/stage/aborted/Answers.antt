use Rattle.std.proofs.Common.{subst}
use Rattle.ob_code_table.specs.ImageTables.{table_of_image}
use Rattle.ob_exec.proofs.ComingLemmas.{AbortsSo}
use Rattle.ob_exec.proofs.FinishLemmas.{aborts}
use Rattle.ob_exec.proofs.stage.aborted.Goals as goal

pub returns : goal.returns
returns c = λ items s same.
    let answered = c.in_ok-answered.answered in
    aborts c.args.code.now c.args.base.now c.args.cause c.args.taken items c.args.reads answered
    (subst (λ image. AbortsSo (table_of_image image) c.args.base.now c.args.cause answered.answer answered.delta) c.image.ensures.image c.in_ok-answered.ensures) same
