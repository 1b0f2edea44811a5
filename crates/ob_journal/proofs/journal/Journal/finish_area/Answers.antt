use Rattle.std.proofs.Common.{◌+◌, ◌≤◌, ◌<ℤ◌, length, rules}
use Rattle.ob_journal_spec.specs.Lasting.{last_serial}
use Rattle.ob_journal.proofs.Drafts.{finished}
use Rattle.ob_journal.proofs.journal.Journal.finish_area.Goals as goal

pub returns : goal.returns
returns c payload of =
    let journal = c.args.self.now in
    let left : journal.serial <ℤ last_serial = search rules in
    let within : length c.args.draft.bytes.items + 2 ≤ journal.area = search rules in
    finished journal payload c.args.draft (record { bytes = c.close_record.new.bytes }) (c.len-2.result + 17) (search rules) left within of c.in-Ok.ensures
