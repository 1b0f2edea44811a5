-- The lamp as terms, with early stops, branches, staged statements and a text (this project's own program).
use Rattle.std.specs.Prelude.{ℕ, pos, true, List, [], ◌∷◌, Option, Some}
use Rattle.ob_table.specs.declared.operator.BinaryOperator.TheVariants.{Add, Greater}
use Rattle.ob_table.specs.declared.operator.UnaryOperator.TheVariants.{Not, Negate}
use Rattle.ob_silica.specs.declared.term.SilicaOperator.TheVariants.{Unary, Binary}
use Rattle.ob_heap_spec.specs.Values.{Value}
use Rattle.ob_examples.specs.Written.{on_line, field_number, state_of_number, transaction_number, Told}
use Rattle.ob_silica.specs.Terms.{SilicaForm, unit_form, const_form, op_form, copy_form, call_this_form, change_form, if_form, drop_form, return_form, revert_form, bad_row_form, SilicaTerms, no_terms}
use Rattle.ob_silica.specs.declared.place.Constant.TheVariants.{Int as IntConstant, Bool as BoolConstant, Text as TextConstant}
use Rattle.ob_silica.specs.declared.place.Given.{Given}
use Rattle.ob_silica.specs.declared.place.Operand.{Operand}
use Rattle.ob_silica.specs.declared.place.Place.TheVariants.{Slot, Field}
use Rattle.ob_silica_steps.specs.Configurations.{SilicaProgram}
use Rattle.ob_examples.specs.WrittenTerms.{slot_on, field_on, on, body_end, terms_body, steps_on_store}
use Rattle.ob_examples.specs.Lamp.{lamp, dark_store}

-- a copy of an operand into a slot
abbrev pub copy_into : ℕ → Operand → SilicaForm
copy_into k from = copy_form (Slot k) from

-- the right side of `&&`
abbrev pub and_terms : SilicaTerms
and_terms =
    on 7
    (copy_into 4 (slot_on 1 7) ∷ const_form 5 (IntConstant (pos 0)) ∷ op_form 6 (Binary Greater) (slot_on 4 7) (slot_on 5 7) 7
    ∷ copy_into 3 (slot_on 6 7) ∷ [])
    no_terms

-- the right side of `||`
abbrev pub or_terms : SilicaTerms
or_terms = on 7 (copy_into 7 (slot_on 2 7) ∷ op_form 8 (Unary Not) (slot_on 7 7) (slot_on 7 7) 7 ∷ copy_into 3 (slot_on 8 7) ∷ []) no_terms

-- a field that is given the value of a slot, by lines
abbrev pub given_on : ℕ → ℕ → ℕ → Given
given_on f k n = record { field = field_number f; span = on_line n; from = slot_on k n }

-- the first branch
abbrev pub first_terms : SilicaTerms
first_terms =
    on 8 (unit_form ∷ copy_into 4 (slot_on 1 8) ∷ copy_into 3 (slot_on 4 8) ∷ [])
    (on 9
    (unit_form ∷ copy_into 4 (slot_on 3 9) ∷ const_form 5 (IntConstant (pos 1)) ∷ op_form 6 (Binary Add) (slot_on 4 9) (slot_on 5 9) 9
    ∷ unit_form ∷ copy_into 7 (slot_on 3 10)
    ∷ unit_form ∷ change_form (state_of_number 0) (given_on 0 6 9 ∷ given_on 1 7 10 ∷ []) ∷ [])
    (on 12 (drop_form 3 ∷ []) no_terms))

-- the second branch
abbrev pub second_terms : SilicaTerms
second_terms =
    on 13
    (unit_form ∷ const_form 3 (IntConstant (pos 2))
    ∷ unit_form ∷ copy_into 4 (slot_on 1 14) ∷ op_form 5 (Unary Negate) (slot_on 4 14) (slot_on 4 14) 14
    ∷ change_form (state_of_number 0) (given_on 0 3 13 ∷ given_on 1 5 14 ∷ []) ∷ [])
    no_terms

-- `light`
abbrev pub light_terms : SilicaTerms
light_terms =
    on 7
    (unit_form ∷ copy_into 3 (slot_on 2 7) ∷ if_form (slot_on 3 7) and_terms no_terms (on_line 7)
    ∷ if_form (slot_on 3 7) no_terms or_terms (on_line 7)
    ∷ if_form (slot_on 3 7) first_terms second_terms (on_line 15) ∷ [])
    (on 16
    (unit_form ∷ copy_into 3 (field_on 2 16) ∷ const_form 4 (IntConstant (pos 1)) ∷ op_form 5 (Binary Add) (slot_on 3 16) (slot_on 4 16) 16
    ∷ copy_form (Field (field_number 2)) (slot_on 5 16) ∷ [])
    (on 17 (unit_form ∷ call_this_form (Some 3) (transaction_number 2) [] ∷ return_form (Some (slot_on 3 17)) ∷ []) no_terms))

-- `twice`
abbrev pub twice_terms : SilicaTerms
twice_terms =
    on 19
    (unit_form ∷ copy_into 1 (field_on 0 19) ∷ copy_into 2 (field_on 1 19) ∷ op_form 3 (Binary Add) (slot_on 1 19) (slot_on 2 19) 19
    ∷ return_form (Some (slot_on 3 19)) ∷ [])
    no_terms

-- `revert` with a text
abbrev pub revert_terms : List ℕ → SilicaTerms
revert_terms bytes = on 20 (unit_form ∷ const_form 1 (TextConstant bytes) ∷ revert_form (slot_on 1 20) ∷ []) no_terms

-- the program
abbrev pub lamp_terms : SilicaProgram
lamp_terms = record {
  table = lamp;
  bodies =
      terms_body 0 0
      (on 5
      (unit_form ∷ const_form 1 (IntConstant (pos 0)) ∷ copy_form (Field (field_number 2)) (slot_on 1 5)
      ∷ unit_form ∷ change_form (state_of_number 1) [] ∷ []) body_end) 2
      ∷ terms_body 0 1 light_terms 9
      ∷ terms_body 0 2 twice_terms 4
      ∷ terms_body 0 3
      (on 20
      (unit_form ∷ const_form 1 (BoolConstant true)
      ∷ if_form (slot_on 1 20) (revert_terms []) (revert_terms (110 ∷ 111 ∷ [])) (on_line 20) ∷ []) no_terms) 2
      ∷ terms_body 0 4 (on 21 (bad_row_form ∷ unit_form ∷ change_form (state_of_number 1) [] ∷ []) body_end) 1
      ∷ [];
}

-- what a transaction tells by steps
abbrev pub by_steps : ℕ → List Value → Option Told
by_steps tx args = steps_on_store lamp_terms 20 dark_store 0 0 tx args
