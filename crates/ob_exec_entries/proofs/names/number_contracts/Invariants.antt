use Rattle.std.proofs.Common.{map, take}
use Rattle.ob_code.specs.declared.image.ContractCode.{ContractCode}
use Rattle.ob_exec_entries.specs.Numbered.{IsNumbering}
use Rattle.ob_exec_entries.proofs.names.number_contracts.Given as goal

abbrev pub invariant-loop-place : goal.invariant-loop-place
invariant-loop-place l = IsNumbering (map (λ (x : ContractCode). x.name) (take l.place l.contracts)) l.numbering
