-- A payload says one row of changes at most.
use Rattle.std.proofs.Common.{◌≡◌, ℕ, ℤ, Bool, true, false, List, [], ◌∷◌, Option, Some, None, refl, sym, ◌∙◌, ap, get_or, drop, arith}
use Rattle.std.proofs.lemmas.List.{append-nil}
use Rattle.ob_base.specs.declared.permission.Mode.TheVariants.{Owned, Shared, Unowned}
use Rattle.ob_table.specs.Tables.{ClassTable}
use Rattle.ob_format_spec.specs.Formats.{Spells}
use Rattle.ob_format_spec.specs.Combinators.{number, integer, constant, and_then, ◌⨟◌, times, counted, variant}
use Rattle.ob_format_spec.specs.Texts.{text}
use Rattle.ob_format_spec.specs.Ids.{contract_id}
use Rattle.ob_format_spec.specs.Lawful.{Lawful}
use Rattle.ob_format_spec.proofs.CombinatorLaws.{constant_lawful, both_lawful, of_parts_lawful}
use Rattle.ob_format_spec.proofs.NumberLaws.{number_lawful, integer_lawful}
use Rattle.ob_format_spec.proofs.KindLaws.{variant_lawful, variant_kind, kinds_lawful}
use Rattle.ob_format_spec.proofs.TextLaws.{text_lawful}
use Rattle.ob_format_spec.proofs.IdLaws.{contract_id_lawful}
use Rattle.ob_code.specs.Images.{number_of_mode, mode}
use Rattle.ob_heap_spec.specs.Values.{Value, int_value, bool_value, text_value, reference, referred}
use Rattle.ob_heap_spec.specs.Contents.{Handle}
use Rattle.ob_store_spec.specs.Payloads.{Changes, byte_of_state, state_of_byte, state, number_of_marks, marks, number_of_truth, truth, number_of_value, int_of, truth_of, text_of, value, available_count, object_head, object, number_of_held, hold, held, handle, payload}
use Rattle.ob_store_spec.proofs.Single.{Single, lawful_single, then_single, both_single, parts_single, times_single, counted_single}

state_single : Single state
unfolding state
state_single x y r s p q is =
    let same : byte_of_state x ≡ byte_of_state y = ap (λ (l : List ℕ). get_or l 0 0) is in
    (sym p.1 ∙ ap state_of_byte same ∙ q.1, ap (λ (l : List ℕ). drop 1 l) is)

pub marks_lawful : Lawful marks
unfolding marks
marks_lawful =
    kinds_lawful number_of_marks (constant (false, false) ∷ constant (true, false) ∷ constant (false, true) ∷ constant (true, true) ∷ []) (
      constant_lawful (false, false),
      λ x is. ap number_of_marks is,
      (constant_lawful (true, false), λ x is. ap number_of_marks is, (constant_lawful (false, true), λ x is. ap number_of_marks is, (constant_lawful (true, true), λ x is. ap number_of_marks is, tt))),
    ) (omega arith)

truth_lawful : Lawful truth
unfolding truth
truth_lawful = kinds_lawful number_of_truth (constant false ∷ constant true ∷ []) (constant_lawful false, λ x is. ap number_of_truth is, (constant_lawful true, λ x is. ap number_of_truth is, tt)) (omega arith)

mode_lawful : Lawful mode
unfolding mode
mode_lawful =
    kinds_lawful number_of_mode (constant Owned ∷ constant Shared ∷ constant Unowned ∷ [])
    (constant_lawful Owned, λ x is. ap number_of_mode is, (constant_lawful Shared, λ x is. ap number_of_mode is, (constant_lawful Unowned, λ x is. ap number_of_mode is, tt))) (omega arith)

int_again : (x : Value) (p : ℤ) → int_of x ≡ Some p → int_value p ≡ x
int_again (int_value z) p e = cc
int_again other p e = absurd cc

truth_again : (x : Value) (p : Bool) → truth_of x ≡ Some p → bool_value p ≡ x
truth_again (bool_value b) p e = cc
truth_again other p e = absurd cc

text_again : (x : Value) (p : List ℕ) → text_of x ≡ Some p → text_value p ≡ x
text_again (text_value b) p e = cc
text_again other p e = absurd cc

reference_again : (x : Value) (p : ℕ) → referred x ≡ Some p → reference p ≡ x
reference_again (reference n) p e = cc
reference_again other p e = absurd cc

pub value_lawful : Lawful value
unfolding value
value_lawful =
    kinds_lawful number_of_value (variant int_value int_of integer ∷ variant bool_value truth_of truth ∷ variant text_value text_of text ∷ variant reference referred number ∷ []) (
      variant_lawful int_value int_of integer int_again (λ p. refl) integer_lawful,
      variant_kind int_value int_of integer int_again (λ p. refl) integer_lawful number_of_value 0 (λ p. refl),
      (
        variant_lawful bool_value truth_of truth truth_again (λ p. refl) truth_lawful,
        variant_kind bool_value truth_of truth truth_again (λ p. refl) truth_lawful number_of_value 1 (λ p. refl),
        (
          variant_lawful text_value text_of text text_again (λ p. refl) text_lawful,
          variant_kind text_value text_of text text_again (λ p. refl) text_lawful number_of_value 2 (λ p. refl),
          (
            variant_lawful reference referred number reference_again (λ p. refl) number_lawful,
            variant_kind reference referred number reference_again (λ p. refl) number_lawful number_of_value 3 (λ p. refl),
            tt,
          ),
        ),
      ),
    ) (omega arith)

hold_lawful : Lawful hold
unfolding hold
hold_lawful = of_parts_lawful (λ p. record { object = p.0; mode = p.1 }) (λ h. (h.object, h.mode)) (number ⨟ mode) (λ h. refl) (λ p fits. refl) (both_lawful number mode number_lawful mode_lawful)

some_again : (x : Option Handle) (p : Handle) → x ≡ Some p → Some p ≡ x
some_again x p e = cc

pub held_lawful : Lawful held
unfolding held
held_lawful =
    kinds_lawful number_of_held (constant None ∷ variant (λ h. Some h) (λ h. h) hold ∷ []) (
      constant_lawful None,
      λ x is. ap number_of_held is,
      (
        variant_lawful (λ h. Some h) (λ h. h) hold some_again (λ p. refl) hold_lawful,
        variant_kind (λ h. Some h) (λ h. h) hold some_again (λ p. refl) hold_lawful number_of_held 1 (λ p. refl),
        tt,
      ),
    ) (omega arith)

handle_single : Single handle
unfolding handle
handle_single =
    let one = lawful_single text text_lawful in
    parts_single (λ p. (record { who = p.0; name = p.1.0 }, p.1.1)) (λ h. (h.0.who, (h.0.name, h.1))) (text ⨟ (text ⨟ held)) (λ h. refl)
    (both_single text (text ⨟ held) one (both_single text held one (lawful_single held held_lawful)))

head_single : Single object_head
unfolding object_head
head_single =
    both_single number (contract_id ⨟ (state ⨟ marks)) (lawful_single number number_lawful)
    (both_single contract_id (state ⨟ marks) (lawful_single contract_id contract_id_lawful) (both_single state marks state_single (lawful_single marks marks_lawful)))

pub object_single : (table : ClassTable) → Single (object table)
unfolding object
object_single table =
    parts_single (λ p. record { number = p.0.0; contract = p.0.1.0; state = p.0.1.1.0; marks = p.0.1.1.1; values = p.1 }) (λ o. ((o.number, (o.contract, (o.state, o.marks))), o.values))
    (and_then object_head (λ h. times value (available_count table h.1.0 h.1.1.0))) (λ o. refl)
    (then_single object_head (λ h. times value (available_count table h.1.0 h.1.1.0)) head_single (λ h. times_single value (lawful_single value value_lawful) (available_count table h.1.0 h.1.1.0)))

payload_single : (table : ClassTable) → Single (payload table)
unfolding payload
payload_single table =
    parts_single (λ p. record { objects = p.0; handles = p.1 }) (λ c. (c.objects, c.handles)) (counted (object table) ⨟ counted handle) (λ c. refl)
    (both_single (counted (object table)) (counted handle) (counted_single (object table) (object_single table)) (counted_single handle handle_single))

pub one_spelled : (table : ClassTable) (a b : Changes) (bytes : List ℕ) → Spells (payload table) a bytes → Spells (payload table) b bytes → a ≡ b
one_spelled table a b bytes p q =
    (payload_single table a b [] [] p.fits q.fits (append-nil ((payload table).bytes a) ∙ sym p.is ∙ q.is ∙ sym (append-nil ((payload table).bytes b)))).0
