use Rattle.ob_places_laws.proofs.Tables.{contract_is, signature_is, listed_are}
use Rattle.ob_places_laws.proofs.Dispatch.{transaction_as_came}
use Rattle.ob_places_laws.proofs.laws.tables_promise.Goals as goal

pub returns-clause-contracts : goal.returns-clause-contracts
returns-clause-contracts c = contract_is

pub returns-clause-signatures : goal.returns-clause-signatures
returns-clause-signatures c = signature_is

pub returns-clause-listed : goal.returns-clause-listed
returns-clause-listed c = listed_are

pub returns-clause-left : goal.returns-clause-left
returns-clause-left c = transaction_as_came
