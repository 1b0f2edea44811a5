use Rattle.ob_resolve_laws.proofs.TableLaws.{table_conditions_lem}
use Rattle.ob_resolve_laws.proofs.table_conditions.Goals as goal

pub returns : goal.returns
returns c = table_conditions_lem
