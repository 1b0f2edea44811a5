-- Division, remainders and overflow as terms (this project's own program).
use Rattle.std.specs.Prelude.{ℕ, ℤ, List, [], ◌∷◌, Option, Some}
use Rattle.ob_table.specs.declared.operator.BinaryOperator.{BinaryOperator}
use Rattle.ob_table.specs.declared.operator.BinaryOperator.TheVariants.{Add, Div, Rem}
use Rattle.ob_heap_spec.specs.Values.{int_value}
use Rattle.ob_examples.specs.Written.{Told}
use Rattle.ob_examples.specs.Arithmetic.{arithmetic, calculator_store}
use Rattle.ob_silica.specs.Terms.{SilicaForm, unit_form, op_form, copy_form, return_form, SilicaTerms, no_terms}
use Rattle.ob_silica.specs.declared.place.Place.TheVariants.{Slot}
use Rattle.ob_silica.specs.declared.term.SilicaOperator.TheVariants.{Binary}
use Rattle.ob_silica_steps.specs.Configurations.{SilicaProgram}
use Rattle.ob_examples.specs.WrittenTerms.{slot_on, on, body_end, terms_body, steps_on_store}

-- an operator on a line between two parameters, into the third of three slots from this one on
abbrev pub operated_on : BinaryOperator → ℕ → ℕ → ℕ → ℕ → ℕ → ℕ → List SilicaForm
operated_on operator n a b x y z =
    copy_form (Slot x) (slot_on a n) ∷ copy_form (Slot y) (slot_on b n)
    ∷ op_form z (Binary operator) (slot_on x n) (slot_on y n) n ∷ []

-- `return a / b;` or `return a % b;`
abbrev pub operation_terms : BinaryOperator → ℕ → SilicaTerms
operation_terms operator n =
    on n (unit_form ∷ [])
    (on n (operated_on operator n 1 2 3 4 5) (on n (return_form (Some (slot_on 5 n)) ∷ []) no_terms))

-- `return a / b` on line 6 `+ b / b;` on line 7
abbrev pub sum_terms : SilicaTerms
sum_terms =
    on 6 (unit_form ∷ []) (on 6 (operated_on Div 6 1 2 3 4 5) (on 6 (operated_on Div 7 2 2 6 7 8)
    (on 6 (op_form 9 (Binary Add) (slot_on 5 6) (slot_on 8 7) 7 ∷ return_form (Some (slot_on 9 6)) ∷ []) no_terms)))

-- the program
abbrev pub arithmetic_terms : SilicaProgram
arithmetic_terms = record {
  table = arithmetic;
  bodies =
      terms_body 0 0 body_end 1
      ∷ terms_body 0 1 (operation_terms Div 2) 6
      ∷ terms_body 0 2 (operation_terms Rem 4) 6
      ∷ terms_body 0 3 sum_terms 10
      ∷ [];
}

-- a transaction of the calculator with two numbers
abbrev pub calculated_by_steps : ℕ → ℤ → ℤ → Option Told
calculated_by_steps tx a b = steps_on_store arithmetic_terms 5 calculator_store 0 0 tx (int_value a ∷ int_value b ∷ [])
