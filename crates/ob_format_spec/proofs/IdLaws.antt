-- The formats of ids are lawful.
use Rattle.std.proofs.Common.{refl}
use Rattle.ob_format_spec.specs.Combinators.{any_byte, number}
use Rattle.ob_format_spec.specs.Ids.{contract_id, tx_id, state_id, field_id}
use Rattle.ob_format_spec.specs.Lawful.{Lawful}
use Rattle.ob_format_spec.proofs.CombinatorLaws.{of_parts_lawful}
use Rattle.ob_format_spec.proofs.NumberLaws.{any_byte_lawful, number_lawful}

pub contract_id_lawful : Lawful contract_id
contract_id_lawful = of_parts_lawful (λ n. record { 0 = n }) (λ i. i.0) number (λ i. refl) (λ n fits. refl) number_lawful

pub tx_id_lawful : Lawful tx_id
tx_id_lawful = of_parts_lawful (λ n. record { 0 = n }) (λ i. i.0) number (λ i. refl) (λ n fits. refl) number_lawful

pub state_id_lawful : Lawful state_id
state_id_lawful = of_parts_lawful (λ n. record { 0 = n }) (λ i. i.0) any_byte (λ i. refl) (λ n fits. refl) any_byte_lawful

pub field_id_lawful : Lawful field_id
field_id_lawful = of_parts_lawful (λ n. record { 0 = n }) (λ i. i.0) any_byte (λ i. refl) (λ n fits. refl) any_byte_lawful
