-- The slots of a body (this project's own).
use Rattle.std.specs.Prelude.{ℕ, ◌+◌, max, List, [], ◌∷◌, Option, Some, None}
use Rattle.ob_silica.specs.Terms.{SilicaForm, unit_form, const_form, op_form, copy_form, move_form, new_form, call_form, call_this_form, change_form, test_form, if_form, loop_form, assert_form, disown_form, drop_form, return_form, revert_form, bad_row_form, SilicaTerms, no_terms, and_term}
use Rattle.ob_silica.specs.declared.place.Place.{Place}
use Rattle.ob_silica.specs.declared.place.Place.TheVariants.{This, Slot, Field}
use Rattle.ob_silica.specs.declared.place.Operand.{Operand}
use Rattle.ob_silica.specs.declared.place.Given.{Given}

-- one more than the slot of a place; `this` is slot 0, and a field has none
abbrev pub slots_of_place : Place → ℕ
slots_of_place This = 1
slots_of_place (Slot k) = k + 1
slots_of_place (Field f) = 0

-- one more than the slot of an operand
abbrev pub slots_of_operand : Operand → ℕ
slots_of_operand operand = slots_of_place operand.place

-- one more than the greatest slot of some operands
abbrev pub slots_of_operands : List Operand → ℕ
slots_of_operands [] = 0
slots_of_operands (o ∷ os) = max (slots_of_operand o) (slots_of_operands os)

-- one more than the greatest slot whose value is given to a field
abbrev pub slots_of_given : List Given → ℕ
slots_of_given [] = 0
slots_of_given (g ∷ gs) = max (slots_of_operand g.from) (slots_of_given gs)

-- one more than the slot of a result, if there is one
abbrev pub slots_of_result : Option ℕ → ℕ
slots_of_result None = 0
slots_of_result (Some k) = k + 1

-- one more than the slot of an operand, if there is one
abbrev pub slots_of_returned : Option Operand → ℕ
slots_of_returned None = 0
slots_of_returned (Some o) = slots_of_operand o

abbrev mutual
  -- one more than the greatest slot that a form names
  pub slots_of_form : SilicaForm → ℕ
  slots_of_form unit_form = 0
  slots_of_form (const_form k value) = k + 1
  slots_of_form (op_form k operator a b line) = max (k + 1) (max (slots_of_operand a) (slots_of_operand b))
  slots_of_form (copy_form to from) = max (slots_of_place to) (slots_of_operand from)
  slots_of_form (move_form to from contract) = max (slots_of_place to) (slots_of_operand from)
  slots_of_form (new_form k contract args) = max (k + 1) (slots_of_operands args)
  slots_of_form (call_form k receiver contract tx args) =
      max (slots_of_result k) (max (slots_of_operand receiver) (slots_of_operands args))
  slots_of_form (call_this_form k tx args) = max (slots_of_result k) (slots_of_operands args)
  slots_of_form (change_form state given) = slots_of_given given
  slots_of_form (test_form place state branch other join) =
      max (slots_of_operand place) (max (slots_of_terms branch) (slots_of_terms other))
  slots_of_form (if_form a branch other join) =
      max (slots_of_operand a) (max (slots_of_terms branch) (slots_of_terms other))
  slots_of_form (loop_form first a body end) =
      max (slots_of_terms first) (max (slots_of_operand a) (slots_of_terms body))
  slots_of_form (assert_form place perm) = slots_of_operand place
  slots_of_form (disown_form place) = slots_of_operand place
  slots_of_form (drop_form k) = k + 1
  slots_of_form (return_form place) = slots_of_returned place
  slots_of_form (revert_form text) = slots_of_operand text
  slots_of_form bad_row_form = 0

  -- one more than the greatest slot that terms name
  pub slots_of_terms : SilicaTerms → ℕ
  slots_of_terms no_terms = 0
  slots_of_terms (and_term form span rest) = max (slots_of_form form) (slots_of_terms rest)

-- one more than the greatest slot among `this`, so many parameters, and the slots that terms name
abbrev pub slots_of : ℕ → SilicaTerms → ℕ
slots_of params terms = max (params + 1) (slots_of_terms terms)
