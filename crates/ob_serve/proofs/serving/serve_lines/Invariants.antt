use Rattle.std.proofs.Common.{◌≡◌, ◌-◌, ◌^◌}
use Rattle.ob_io.specs.Lines.{EndIsTold, pending, taken, handed, has_ended}
use Rattle.ob_store.specs.Stores.{area_of_store, state_of}
use Rattle.ob_serve.specs.Items.{by_machine, items_of_line}
use Rattle.ob_serve.specs.Serving.{Answered}
use Rattle.ob_serve.specs.Session.{items_from}
use Rattle.ob_serve.proofs.Progress.{Reading, HasTaken}
use Rattle.ob_serve.proofs.Steps.{moment}
use Rattle.ob_serve.proofs.serving.serve_lines.Given as goal

-- the lines so far were answered, and the store is that after them, in memory and on the disk
abbrev pub invariant-lines : goal.invariant-lines
invariant-lines g l = record {
  read : Reading (g.S.Source.view l.fn.input).left (pending l.lines (g.S.Source.view l.input).left) (has_ended l.lines) (handed l.lines);
  ends : EndIsTold l.lines (g.S.Source.view l.input).left;
  drawn : HasTaken (g.S.Source.view l.fn.input) (g.S.Source.view l.input) (taken l.lines);
  answered : Answered l.code (items_from (items_of_line (by_machine l.code l.limits (area_of_store l.fn.store))) (state_of l.fn.store) read.lines)
      (moment l.fn.store (g.K.Sink.view l.fn.output) (g.D.Disk.view l.fn.disk)) (moment l.store (g.K.Sink.view l.output) (g.D.Disk.view l.disk));
  calm_read : (g.S.Source.view l.input).faults ≡ (g.S.Source.view l.fn.input).faults;
}

abbrev pub decreases-lines : goal.decreases-lines
decreases-lines g l = 2 ^ 41 - handed l.lines
