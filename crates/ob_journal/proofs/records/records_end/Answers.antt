use Rattle.ob_journal.proofs.Walks.{none_yet, one_more}
use Rattle.ob_journal.proofs.records.records_end.Goals as goal

pub records-init : goal.records-init
records-init c = none_yet c.args.bytes.now c.requires.some

pub records-preserved : goal.records-preserved
records-preserved c =
    one_more c.args.bytes.now c.behind.result.now c.in-Some.payload.now c.records.gate c.records.invariant c.records-test.true c.behind.ensures c.in-Some.ensures
