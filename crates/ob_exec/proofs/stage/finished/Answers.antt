use Rattle.std.proofs.Common.{map}
use Rattle.ob_heap.specs.Contents.{named_of}
use Rattle.ob_exec.proofs.FinishLemmas.{finishes}
use Rattle.ob_exec.proofs.stage.finished.Goals as goal

pub returns : goal.returns
returns c = λ image a w s k end.
    let paused = c.args.paused.now in
    finishes image c.args.base.now c.args.who.now c.args.into.now paused.uses paused.given c.args.value paused.overlay c.args.taken c.args.reads c.in_ok-reads.reads a w
    (map named_of c.in_ok-puts.puts) c.in_ok-answered.answered k end c.in_ok-puts.ensures c.in_ok-answered.ensures c.in_ok-reads.ensures
