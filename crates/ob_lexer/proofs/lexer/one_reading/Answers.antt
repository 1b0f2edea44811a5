use Rattle.ob_lexer.proofs.Readings.{one_reading_lem}
use Rattle.ob_lexer.proofs.lexer.one_reading.Goals as goal

pub returns : goal.returns
returns c = one_reading_lem
