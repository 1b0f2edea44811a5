use Rattle.std.proofs.Common.{List, subst}
use Rattle.ob_code.specs.declared.image.ContractCode.{ContractCode}
use Rattle.ob_exec_entries.specs.Naming.{contract_names, AreNumbered}
use Rattle.ob_exec_entries.specs.Numbered.{IsNumbering}
use Rattle.ob_exec_entries.proofs.NamingLemmas.{named}
use Rattle.ob_exec_entries.proofs.names.Names.of.Goals as goal

pub returns : goal.returns
returns c =
    named c.args.code.now (record { contracts = c.in_ok-contracts.contracts; transactions = c.in_ok-transactions.transactions })
    (subst (λ (cs : List ContractCode). IsNumbering (contract_names cs) c.in_ok-contracts.contracts) c.as_slice.ensures c.in_ok-contracts.ensures)
    (subst (λ (cs : List ContractCode). AreNumbered cs c.in_ok-transactions.transactions) c.as_slice-2.ensures c.in_ok-transactions.ensures)
