-- The vending machine of the article as terms (Coblenz et al., TOPLAS 42(3), 2020, section 2).
use Rattle.std.specs.Prelude.{ℕ, pos, [], ◌∷◌, Option, Some}
use Rattle.ob_table.specs.declared.operator.BinaryOperator.TheVariants.{Add}
use Rattle.ob_heap_spec.specs.Values.{reference}
use Rattle.ob_examples.specs.Written.{contract_number, field_number, state_of_number, Told}
use Rattle.ob_examples.specs.VendingMachine.{vending_machine, vending_store}
use Rattle.ob_silica.specs.Terms.{unit_form, const_form, op_form, copy_form, move_form, change_form, disown_form, return_form, SilicaTerms, no_terms}
use Rattle.ob_silica.specs.declared.term.SilicaOperator.TheVariants.{Binary}
use Rattle.ob_silica.specs.declared.place.Constant.TheVariants.{Int}
use Rattle.ob_silica.specs.declared.place.Place.TheVariants.{Slot, Field}
use Rattle.ob_silica_steps.specs.Configurations.{SilicaProgram}
use Rattle.ob_examples.specs.WrittenTerms.{slot_on, field_on, on, body_end, terms_body, steps_on_store}

-- `sold = 0; ->Empty;`
abbrev pub machine_terms : SilicaTerms
machine_terms =
    on 7
    (unit_form ∷ const_form 1 (Int (pos 0)) ∷ copy_form (Field (field_number 1)) (slot_on 1 7)
    ∷ unit_form ∷ change_form (state_of_number 1) [] ∷ [])
    body_end

-- `disown c; Candy r = candy; ->Empty; sold = sold + 1; return r;`
abbrev pub buy_terms : SilicaTerms
buy_terms =
    on 14 (unit_form ∷ disown_form (slot_on 1 14) ∷ [])
    (on 15 (unit_form ∷ move_form (Slot 2) (field_on 0 15) (Some (contract_number 1)) ∷ [])
    (on 16 (unit_form ∷ change_form (state_of_number 1) [] ∷ [])
    (on 17
    (unit_form ∷ copy_form (Slot 3) (field_on 1 17) ∷ const_form 4 (Int (pos 1))
    ∷ op_form 5 (Binary Add) (slot_on 3 17) (slot_on 4 17) 17 ∷ copy_form (Field (field_number 1)) (slot_on 5 17) ∷ [])
    (on 18 (unit_form ∷ return_form (Some (slot_on 2 18)) ∷ []) no_terms))))

-- the program
abbrev pub vending_terms : SilicaProgram
vending_terms = record {
  table = vending_machine;
  bodies =
      terms_body 0 0 body_end 1
      ∷ terms_body 1 0 body_end 1
      ∷ terms_body 2 0 machine_terms 2
      ∷ terms_body 2 1 buy_terms 6
      ∷ [];
}

-- the coin is given to `buy` with so many units
abbrev pub candy_bought_by_steps : ℕ → Option Told
candy_bought_by_steps units = steps_on_store vending_terms units vending_store 2 2 1 (reference 1 ∷ [])
