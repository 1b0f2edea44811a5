use Rattle.ob_journal.proofs.Headers.{no_head_serial}
use Rattle.ob_journal.proofs.heads.numbers.Goals as goal

pub returns-in_default-serial : goal.returns-in_default-serial
returns-in_default-serial c = let m = c.in-Some.ensures in no_head_serial c.args.bytes.now c.in-Some.rest.now m.0 m.1 c.in_default-serial.ensures
