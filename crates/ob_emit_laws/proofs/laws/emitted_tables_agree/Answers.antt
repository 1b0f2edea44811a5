-- Declaration by declaration.
use Rattle.ob_emit_laws.proofs.Tables.{tables_agree}
use Rattle.ob_emit_laws.proofs.laws.emitted_tables_agree.Goals as goal

pub returns : goal.returns
returns c = tables_agree
