-- The format of payloads is lawful.
use Rattle.std.proofs.Common.{◌≡◌, ℕ, ◌==◌, ◌<◌, refl, sym, ap, subst, inl, inr}
use Rattle.std.proofs.lemmas.Bool.{cases_Bool, eqb-true, ltb-true, lt-ltb}
use Rattle.ob_table.specs.Tables.{ClassTable}
use Rattle.ob_format_spec.specs.Combinators.{any_byte, number, and_then, ◌⨟◌, times, counted}
use Rattle.ob_format_spec.specs.Texts.{text}
use Rattle.ob_format_spec.specs.Ids.{contract_id}
use Rattle.ob_format_spec.specs.Lawful.{Lawful}
use Rattle.ob_format_spec.proofs.CombinatorLaws.{and_then_lawful, both_lawful, times_lawful, of_parts_lawful, same_lawful}
use Rattle.ob_format_spec.proofs.NumberLaws.{any_byte_lawful, number_lawful, counted_lawful}
use Rattle.ob_format_spec.proofs.TextLaws.{text_lawful}
use Rattle.ob_format_spec.proofs.IdLaws.{contract_id_lawful}
use Rattle.ob_store_spec.specs.Payloads.{byte_of_state, state_of_byte, state, marks, value, available_count, object_head, object, held, handle, payload}
use Rattle.ob_store_spec.proofs.Sayings.{marks_lawful, value_lawful, held_lawful}

-- the byte of the state of a byte
byte_again : (n : ℕ) → byte_of_state (state_of_byte n) ≡ n
byte_again n = elim (cases_Bool (n == 255)) [
  | inl none ↦ rw none (sym (eqb-true n 255 none))
  | inr some ↦ rw some refl
]

state_lawful : Lawful state
unfolding state
state_lawful = same_lawful state any_byte state_of_byte byte_of_state record {
  reads = λ bytes. refl;
  bytes = λ s fits. refl;
  to = λ s fits. lt-ltb (byte_of_state s) 256 fits.0;
  from = λ n fits. (subst (λ (b : ℕ). b < 256) (sym (byte_again n)) (ltb-true n 256 fits), ap state_of_byte (byte_again n));
  again = λ s fits. fits.1;
  back = λ n fits. byte_again n;
} any_byte_lawful

handle_lawful : Lawful handle
unfolding handle
handle_lawful =
    of_parts_lawful (λ p. (record { who = p.0; name = p.1.0 }, p.1.1)) (λ h. (h.0.who, (h.0.name, h.1))) (text ⨟ (text ⨟ held)) (λ h. refl) (λ p fits. refl)
    (both_lawful text (text ⨟ held) text_lawful (both_lawful text held text_lawful held_lawful))

head_lawful : Lawful object_head
unfolding object_head
head_lawful =
    both_lawful number (contract_id ⨟ (state ⨟ marks)) number_lawful
    (both_lawful contract_id (state ⨟ marks) contract_id_lawful (both_lawful state marks state_lawful marks_lawful))

object_lawful : (table : ClassTable) → Lawful (object table)
unfolding object
object_lawful table =
    of_parts_lawful (λ p. record { number = p.0.0; contract = p.0.1.0; state = p.0.1.1.0; marks = p.0.1.1.1; values = p.1 }) (λ o. ((o.number, (o.contract, (o.state, o.marks))), o.values))
    (and_then object_head (λ h. times value (available_count table h.1.0 h.1.1.0))) (λ o. refl) (λ p fits. refl)
    (and_then_lawful object_head (λ h. times value (available_count table h.1.0 h.1.1.0)) head_lawful (λ h fits. times_lawful value value_lawful (available_count table h.1.0 h.1.1.0)))

pub payload_lawful : (table : ClassTable) → Lawful (payload table)
unfolding payload
payload_lawful table =
    of_parts_lawful (λ p. record { objects = p.0; handles = p.1 }) (λ c. (c.objects, c.handles)) (counted (object table) ⨟ counted handle) (λ c. refl) (λ p fits. refl)
    (both_lawful (counted (object table)) (counted handle) (counted_lawful (object table) (object_lawful table)) (counted_lawful handle handle_lawful))
