use Rattle.std.proofs.Common.{refl}
use Rattle.std.proofs.Math.Facts.{to_z-of_z}
use Rattle.ob_journal.proofs.Walks.{damaged_there, read_there}
use Rattle.ob_journal.proofs.records.survey_area.Goals as goal

pub returns-in_default : goal.returns-in_default
returns-in_default c = λ headed. c.in_default.ensures headed.1.0 headed.1.1 headed.1.2

pub returns-in-Unreadable : goal.returns-in-Unreadable
returns-in-Unreadable c =
    let ends = c.in-Unreadable.ensures in
    damaged_there c.args.bytes.now c.in-Some.image.now c.in-Some.serial c.in-Some.ensures c.if-bytes-eq0.false c.behind.result.now c.behind.ensures c.in-Unreadable.gate ends.0 ends.1 ends.2

pub returns : goal.returns
returns c =
    let ends = c.in-Closed.ensures in
    let has = c.in-Some.ensures in
    read_there c.args.bytes.now c.in-Some.image.now c.in-Some.serial has c.if-bytes-eq0.false c.behind.result.now c.behind.ensures c.in-Closed.gate ends.0 _ (to_z-of_z has.fits.1.0) c.in-Ok.ensures refl ends.1
