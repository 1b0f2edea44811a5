use Rattle.std.proofs.Common.{◌+◌, refl, ◌∙◌, arith}
use Rattle.std.specs.Prelude.{Ok, Err}
use Rattle.ob_io.proofs.LinesLemmas.{nothing_held}
use Rattle.ob_store.specs.Stores.{area_of_store}
use Rattle.ob_disk_spec.proofs.Behind.{behind_none}
use Rattle.ob_disk_spec.proofs.Untouched.{untouched_none}
use Rattle.ob_serve.specs.Items.{by_machine, items_of_line}
use Rattle.ob_serve.specs.Stops.{reader}
use Rattle.ob_serve.proofs.Committed.{no_disk_stop}
use Rattle.ob_serve.proofs.Steps.{moment}
use Rattle.ob_serve.proofs.Progress.{reads_none, reads_more, reached, none_taken, more_taken, few_taken, answered_none, line_here, line_answered, line_stopped, stop_there, stop_counts, stopped_here, gives_up_first}
use Rattle.ob_serve.proofs.serving.serve_lines.Goals as goal

pub returns-in_default-clause-ends : goal.returns-in_default-clause-ends
returns-in_default-clause-ends g c =
    gives_up_first c.args.code.now (items_of_line (by_machine c.args.code.now c.args.limits (area_of_store c.args.store.now))) c.args.store.now (g.S.Source.view c.args.input.now) (g.K.Sink.view c.args.output.now) (g.D.Disk.view c.args.disk.now)
    (record { at_rest = c.requires.at_rest; stands = c.requires.stands })

pub returns-in_default-new-clause-ends : goal.returns-in_default-new-clause-ends
returns-in_default-new-clause-ends g c =
    gives_up_first c.args.code.now (items_of_line (by_machine c.args.code.now c.args.limits (area_of_store c.args.store.now))) c.args.store.now (g.S.Source.view c.args.input.now) (g.K.Sink.view c.args.output.now) (g.D.Disk.view c.args.disk.now)
    (record { at_rest = c.requires.at_rest; stands = c.requires.stands })

pub returns-in_default-clause-untouched : goal.returns-in_default-clause-untouched
returns-in_default-clause-untouched g c = λ none. untouched_none (g.D.Disk.view c.args.disk.now)

pub returns-in_default-new-clause-untouched : goal.returns-in_default-new-clause-untouched
returns-in_default-new-clause-untouched g c = λ none. untouched_none (g.D.Disk.view c.args.disk.now)

pub returns-in_default-clause-behind : goal.returns-in_default-clause-behind
returns-in_default-clause-behind g c = λ size is. behind_none (size + size) (g.D.Disk.view c.args.disk.now)

pub returns-in_default-new-clause-behind : goal.returns-in_default-new-clause-behind
returns-in_default-new-clause-behind g c = λ size is. behind_none (size + size) (g.D.Disk.view c.args.disk.now)

pub lines-init : goal.lines-init
lines-init g c =
    let left = (g.S.Source.view c.args.input.now).left in
    record {
      read = reads_none left _ _ _ (nothing_held left _ c.in-Ok-new.ensures.held) c.in-Ok-new.ensures.goes_on c.in-Ok-new.ensures.handed;
      ends = λ e. absurd (cc (e, c.in-Ok-new.ensures.goes_on));
      drawn = none_taken _ _ c.in-Ok-new.ensures.taken;
      answered = answered_none c.args.code.now _ (record { at_rest = c.requires.at_rest; stands = c.requires.stands });
      calm_read = refl;
    }

pub returns-in-Err-clause-ends : goal.returns-in-Err-clause-ends
returns-in-Err-clause-ends g c =
    let inv = c.lines.invariant in
    stopped_here c.args.code.now (items_of_line (by_machine c.args.code.now c.args.limits (area_of_store c.args.store.now))) _ _ (g.S.Source.view c.args.input.now) (g.S.Source.view c.next_line.new.input) c.in-Err.served
    (reader c.lines.lines (g.S.Source.view c.lines.input)) (reader c.next_line.new.lines (g.S.Source.view c.next_line.new.input))
    inv.read inv.ends c.in-Err.ensures.err (omega (arith, c.lines.invariant.calm_read)) refl refl (more_taken _ _ _ _ _ inv.drawn c.next_line.ensures.taken) inv.answered

pub returns-in-Err-clause-most_bytes : goal.returns-in-Err-clause-most_bytes
returns-in-Err-clause-most_bytes g c = few_taken _ _ _ (more_taken _ _ _ _ _ c.lines.invariant.drawn c.next_line.ensures.taken) c.next_line.ensures.bound

pub returns-in-Err-clause-sure : goal.returns-in-Err-clause-sure
returns-in-Err-clause-sure g c = λ none. no_disk_stop _ _ c.in-Err.served c.in-Err.ensures.err

pub returns-in-Err-clause-untouched : goal.returns-in-Err-clause-untouched
returns-in-Err-clause-untouched g c = c.lines.invariant.answered.stays.untouched

pub returns-in-Err-clause-behind : goal.returns-in-Err-clause-behind
returns-in-Err-clause-behind g c = c.lines.invariant.answered.stays.behind

pub returns-in-Err-clause-attaches : goal.returns-in-Err-clause-attaches
returns-in-Err-clause-attaches g c = c.lines.invariant.answered.stays.attaches

-- ---- a line is answered

pub answer_line-requires-clause-serving : goal.answer_line-requires-clause-serving
answer_line-requires-clause-serving g c = c.lines.invariant.answered.serving

pub lines-preserved : goal.lines-preserved
lines-preserved g c =
    let inv = c.lines.invariant in
    let line = c.in-Ok-next_line.ensures.ok in
    let told = rw c.deref.ensures.value at c.in-Ok-answer_line.ensures in
    let m = moment c.lines.store (g.K.Sink.view c.lines.output) (g.D.Disk.view c.lines.disk) in
    let new = moment c.answer_line.new.store (g.K.Sink.view c.answer_line.new.output) (g.D.Disk.view c.answer_line.new.disk) in
    record {
      read = reads_more _ (reader c.lines.lines (g.S.Source.view c.lines.input)) (reader c.next_line.new.lines (g.S.Source.view c.next_line.new.input)) _ _ inv.read line;
      ends = line.ends;
      drawn = more_taken _ _ _ _ _ inv.drawn c.next_line.ensures.taken;
      answered = line_answered c.args.code.now (items_of_line (by_machine c.args.code.now c.args.limits (area_of_store c.args.store.now))) _ m inv.read.lines line.full new inv.answered
          (line_here c.args.code.now c.args.limits _ m inv.read.lines line.full new (Ok tt) inv.answered (told line.full line.is_full));
      calm_read = c.in-Ok-next_line.ensures.calm (λ e. cc) ∙ inv.calm_read;
    }

pub returns-in-Err-answer_line-clause-ends : goal.returns-in-Err-answer_line-clause-ends
returns-in-Err-answer_line-clause-ends g c =
    let inv = c.lines.invariant in
    let line = c.in-Ok-next_line.ensures.ok in
    let told = rw c.deref.ensures.value at c.in-Err-answer_line.ensures in
    let now = reads_more _ (reader c.lines.lines (g.S.Source.view c.lines.input)) (reader c.next_line.new.lines (g.S.Source.view c.next_line.new.input)) _ _ inv.read line in
    let at = reached _ _ _ _ now line.ends in
    line_stopped c.args.code.now (items_of_line (by_machine c.args.code.now c.args.limits (area_of_store c.args.store.now))) _ _ (g.S.Source.view c.args.input.now) _ c.in-Err-answer_line.served inv.read.lines at.rest line.full at.input _ at.is at.all inv.answered
    (line_here c.args.code.now c.args.limits _ _ inv.read.lines line.full _ (Err c.in-Err-answer_line.served) inv.answered (told line.full line.is_full))

pub returns-in-Err-answer_line-clause-untouched : goal.returns-in-Err-answer_line-clause-untouched
returns-in-Err-answer_line-clause-untouched g c =
    let inv = c.lines.invariant in
    let line = c.in-Ok-next_line.ensures.ok in
    let told = rw c.deref.ensures.value at c.in-Err-answer_line.ensures in
    let stop = stop_there c.args.code.now (items_of_line (by_machine c.args.code.now c.args.limits (area_of_store c.args.store.now))) _ _ c.in-Err-answer_line.served inv.read.lines line.full _ inv.answered
    (line_here c.args.code.now c.args.limits _ _ inv.read.lines line.full _ (Err c.in-Err-answer_line.served) inv.answered (told line.full line.is_full)) in
    stop.stays.untouched

pub returns-in-Err-answer_line-clause-behind : goal.returns-in-Err-answer_line-clause-behind
returns-in-Err-answer_line-clause-behind g c =
    let inv = c.lines.invariant in
    let line = c.in-Ok-next_line.ensures.ok in
    let told = rw c.deref.ensures.value at c.in-Err-answer_line.ensures in
    let stop = stop_there c.args.code.now (items_of_line (by_machine c.args.code.now c.args.limits (area_of_store c.args.store.now))) _ _ c.in-Err-answer_line.served inv.read.lines line.full _ inv.answered
    (line_here c.args.code.now c.args.limits _ _ inv.read.lines line.full _ (Err c.in-Err-answer_line.served) inv.answered (told line.full line.is_full)) in
    stop.stays.behind

pub returns-in-Err-answer_line-clause-attaches : goal.returns-in-Err-answer_line-clause-attaches
returns-in-Err-answer_line-clause-attaches g c =
    let inv = c.lines.invariant in
    let line = c.in-Ok-next_line.ensures.ok in
    let told = rw c.deref.ensures.value at c.in-Err-answer_line.ensures in
    let stop = stop_there c.args.code.now (items_of_line (by_machine c.args.code.now c.args.limits (area_of_store c.args.store.now))) _ _ c.in-Err-answer_line.served inv.read.lines line.full _ inv.answered
    (line_here c.args.code.now c.args.limits _ _ inv.read.lines line.full _ (Err c.in-Err-answer_line.served) inv.answered (told line.full line.is_full)) in
    stop.stays.attaches

pub returns-in-Err-answer_line-clause-sure : goal.returns-in-Err-answer_line-clause-sure
returns-in-Err-answer_line-clause-sure g c =
    let inv = c.lines.invariant in
    let line = c.in-Ok-next_line.ensures.ok in
    let told = rw c.deref.ensures.value at c.in-Err-answer_line.ensures in
    let stop = stop_there c.args.code.now (items_of_line (by_machine c.args.code.now c.args.limits (area_of_store c.args.store.now))) _ _ c.in-Err-answer_line.served inv.read.lines line.full _ inv.answered
    (line_here c.args.code.now c.args.limits _ _ inv.read.lines line.full _ (Err c.in-Err-answer_line.served) inv.answered (told line.full line.is_full)) in
    stop.sure

pub returns-in-Err-answer_line-clause-later_write : goal.returns-in-Err-answer_line-clause-later_write
returns-in-Err-answer_line-clause-later_write g c =
    let inv = c.lines.invariant in
    let line = c.in-Ok-next_line.ensures.ok in
    let told = rw c.deref.ensures.value at c.in-Err-answer_line.ensures in
    let stop = stop_there c.args.code.now (items_of_line (by_machine c.args.code.now c.args.limits (area_of_store c.args.store.now))) _ _ c.in-Err-answer_line.served inv.read.lines line.full _ inv.answered
    (line_here c.args.code.now c.args.limits _ _ inv.read.lines line.full _ (Err c.in-Err-answer_line.served) inv.answered (told line.full line.is_full)) in
    (stop_counts c.in-Err-answer_line.served _ _ stop.cause).later_write

pub returns-in-Err-answer_line-clause-later_disk : goal.returns-in-Err-answer_line-clause-later_disk
returns-in-Err-answer_line-clause-later_disk g c =
    let inv = c.lines.invariant in
    let line = c.in-Ok-next_line.ensures.ok in
    let told = rw c.deref.ensures.value at c.in-Err-answer_line.ensures in
    let stop = stop_there c.args.code.now (items_of_line (by_machine c.args.code.now c.args.limits (area_of_store c.args.store.now))) _ _ c.in-Err-answer_line.served inv.read.lines line.full _ inv.answered
    (line_here c.args.code.now c.args.limits _ _ inv.read.lines line.full _ (Err c.in-Err-answer_line.served) inv.answered (told line.full line.is_full)) in
    (stop_counts c.in-Err-answer_line.served _ _ stop.cause).later_disk

pub returns-in-Err-answer_line-clause-calm : goal.returns-in-Err-answer_line-clause-calm
returns-in-Err-answer_line-clause-calm g c =
    let inv = c.lines.invariant in
    let line = c.in-Ok-next_line.ensures.ok in
    let told = rw c.deref.ensures.value at c.in-Err-answer_line.ensures in
    let stop = stop_there c.args.code.now (items_of_line (by_machine c.args.code.now c.args.limits (area_of_store c.args.store.now))) _ _ c.in-Err-answer_line.served inv.read.lines line.full _ inv.answered
    (line_here c.args.code.now c.args.limits _ _ inv.read.lines line.full _ (Err c.in-Err-answer_line.served) inv.answered (told line.full line.is_full)) in
    let counts = stop_counts c.in-Err-answer_line.served _ _ stop.cause in
    λ read write disk. let both = counts.calm write disk in (c.in-Ok-next_line.ensures.calm (λ e. cc) ∙ inv.calm_read, both.0, both.1)

pub returns-in-Err-answer_line-clause-once : goal.returns-in-Err-answer_line-clause-once
returns-in-Err-answer_line-clause-once g c =
    let inv = c.lines.invariant in
    let line = c.in-Ok-next_line.ensures.ok in
    let told = rw c.deref.ensures.value at c.in-Err-answer_line.ensures in
    let stop = stop_there c.args.code.now (items_of_line (by_machine c.args.code.now c.args.limits (area_of_store c.args.store.now))) _ _ c.in-Err-answer_line.served inv.read.lines line.full _ inv.answered
    (line_here c.args.code.now c.args.limits _ _ inv.read.lines line.full _ (Err c.in-Err-answer_line.served) inv.answered (told line.full line.is_full)) in
    let counts = stop_counts c.in-Err-answer_line.served _ _ stop.cause in
    let calm = c.in-Ok-next_line.ensures.calm (λ e. cc) ∙ inv.calm_read in omega (arith, counts.once, calm)

pub returns-in-Err-answer_line-clause-most_bytes : goal.returns-in-Err-answer_line-clause-most_bytes
returns-in-Err-answer_line-clause-most_bytes g c = few_taken _ _ _ (more_taken _ _ _ _ _ c.lines.invariant.drawn c.next_line.ensures.taken) c.next_line.ensures.bound
