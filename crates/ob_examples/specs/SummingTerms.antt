-- The loop that adds the numbers from 1 up to a given one, as terms (this project's own program).
use Rattle.std.specs.Prelude.{ℕ, pos, [], ◌∷◌, Option, Some}
use Rattle.ob_table.specs.declared.operator.BinaryOperator.{BinaryOperator}
use Rattle.ob_table.specs.declared.operator.BinaryOperator.TheVariants.{Add, Less}
use Rattle.ob_silica.specs.declared.term.SilicaOperator.TheVariants.{Binary}
use Rattle.ob_heap_spec.specs.Values.{int_value}
use Rattle.ob_examples.specs.Written.{on_line, Told}
use Rattle.ob_examples.specs.Summing.{summing, loop_store}
use Rattle.ob_silica.specs.Terms.{SilicaForm, unit_form, const_form, op_form, loop_form, return_form, SilicaTerms, no_terms}
use Rattle.ob_silica.specs.declared.place.Constant.TheVariants.{Int as IntConstant}
use Rattle.ob_silica_steps.specs.Configurations.{SilicaProgram}
use Rattle.ob_examples.specs.WrittenTerms.{slot_on, on, body_end, terms_body, steps_on_store}
use Rattle.ob_examples.specs.LampTerms.{copy_into}

-- an operator on line 5 between slots 4 and 5, into slot 6
abbrev pub operated : BinaryOperator → SilicaForm
operated operator = op_form 6 (Binary operator) (slot_on 4 5) (slot_on 5 5) 5

-- what a turn begins with: a unit, and `i < k`
abbrev pub turn_terms : SilicaTerms
turn_terms = on 5 (unit_form ∷ copy_into 4 (slot_on 3 5) ∷ copy_into 5 (slot_on 1 5) ∷ operated Less ∷ []) no_terms

-- `i = i + 1; s = s + i;`
abbrev pub adding_terms : SilicaTerms
adding_terms =
    on 5 (unit_form ∷ copy_into 4 (slot_on 3 5) ∷ const_form 5 (IntConstant (pos 1)) ∷ operated Add ∷ copy_into 3 (slot_on 6 5) ∷ [])
    (on 5 (unit_form ∷ copy_into 4 (slot_on 2 5) ∷ copy_into 5 (slot_on 3 5) ∷ operated Add ∷ copy_into 2 (slot_on 6 5) ∷ [])
    no_terms)

-- the whole body
abbrev pub sum_terms : SilicaTerms
sum_terms =
    on 3 (unit_form ∷ const_form 3 (IntConstant (pos 0)) ∷ copy_into 2 (slot_on 3 3) ∷ [])
    (on 4 (unit_form ∷ const_form 4 (IntConstant (pos 0)) ∷ copy_into 3 (slot_on 4 4) ∷ [])
    (on 5 (loop_form turn_terms (slot_on 6 5) adding_terms (on_line 5) ∷ [])
    (on 6 (unit_form ∷ copy_into 4 (slot_on 2 6) ∷ return_form (Some (slot_on 4 6)) ∷ []) no_terms)))

-- the program
abbrev pub summing_terms : SilicaProgram
summing_terms = record { table = summing; bodies = terms_body 0 0 body_end 1 ∷ terms_body 0 1 sum_terms 7 ∷ [] }

-- the sum of the numbers up to four, with so many units
abbrev pub sum_by_steps : ℕ → Option Told
sum_by_steps units = steps_on_store summing_terms units loop_store 0 0 1 (int_value (pos 4) ∷ [])
