use Rattle.std.proofs.Common.{sym, ◌∙◌}
use Rattle.ob_disk_spec.proofs.Behind.{behind_then}
use Rattle.ob_journal.proofs.Finds.{found_blank, chosen_nothing, chosen_none, chosen_at}
use Rattle.ob_journal.proofs.journal.Journal.find.Goals as goal

pub current-requires-clause-current : goal.current-requires-clause-current
current-requires-clause-current g c = λ c' reads.
    chosen_at _ c.args.area c' (c.in-Ok-At.ensures.current c' (sym c.in-Ok-At.ensures.same ∙ reads)) c.in-Ok-At.place c.in-Ok-At.other_closed c.in-Ok-At.field-0-is

pub returns-in-Ok-Nothing-clause-found : goal.returns-in-Ok-Nothing-clause-found
returns-in-Ok-Nothing-clause-found g c = λ c' reads. chosen_nothing _ c.args.area c' (c.in-Ok-Nothing.ensures.current c' (c.in-Ok.ensures.same ∙ reads)) c.in-Ok-Nothing.field-0-is

pub returns-in-Ok-Nothing-clause-whole : goal.returns-in-Ok-Nothing-clause-whole
returns-in-Ok-Nothing-clause-whole g c =
    found_blank (g.D.Disk.view c.args.disk.now) (g.D.Disk.view c.measure.new.disk) (g.D.Disk.view c.look_at_both.new.disk) c.in-Ok.ensures.settled c.in-Ok.ensures.same c.in-Ok-Nothing.ensures.same c.look_at_both.ensures.quiet c.args.area
    (λ c' reads. chosen_nothing _ c.args.area c' (c.in-Ok-Nothing.ensures.current c' reads) c.in-Ok-Nothing.field-0-is)

pub returns-in-Ok-Nothing-clause-behind : goal.returns-in-Ok-Nothing-clause-behind
returns-in-Ok-Nothing-clause-behind g c = λ size. behind_then size _ _ _ (c.measure.ensures.behind size) (c.look_at_both.ensures.behind size)

pub returns-in-Ok-NoStore-clause-found : goal.returns-in-Ok-NoStore-clause-found
returns-in-Ok-NoStore-clause-found g c = λ c' reads. chosen_none _ c.args.area c' (c.in-Ok-NoStore.ensures.current c' (c.in-Ok.ensures.same ∙ reads)) c.in-Ok-NoStore.field-0-is

pub returns-in-Ok-NoStore-clause-behind : goal.returns-in-Ok-NoStore-clause-behind
returns-in-Ok-NoStore-clause-behind g c = λ size. behind_then size _ _ _ (c.measure.ensures.behind size) (c.look_at_both.ensures.behind size)

pub returns-in-Ok-At-clause-behind : goal.returns-in-Ok-At-clause-behind
returns-in-Ok-At-clause-behind g c = λ size. behind_then size _ _ _ (behind_then size _ _ _ (c.measure.ensures.behind size) (c.look_at_both.ensures.behind size)) (c.current.ensures.behind size)

pub returns-in-Err-Disk-clause-behind : goal.returns-in-Err-Disk-clause-behind
returns-in-Err-Disk-clause-behind g c = λ size. behind_then size _ _ _ (c.measure.ensures.behind size) (c.look_at_both.ensures.behind size)

pub returns-in-Err-Memory-clause-behind : goal.returns-in-Err-Memory-clause-behind
returns-in-Err-Memory-clause-behind g c = λ size. behind_then size _ _ _ (c.measure.ensures.behind size) (c.look_at_both.ensures.behind size)
