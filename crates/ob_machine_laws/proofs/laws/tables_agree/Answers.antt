-- By what is at each number.
use Rattle.ob_machine_laws.proofs.Tables.{contract_same, field_same, state_same, name_same}
use Rattle.ob_machine_laws.proofs.laws.tables_agree.Goals as goal

pub returns : goal.returns
returns c = record { contracts = contract_same; fields = field_same; states = state_same; names = name_same }
