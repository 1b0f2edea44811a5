-- The call back to an object whose transaction is in progress, and the call on `this`, as terms (this project's own
-- program).
use Rattle.std.specs.Prelude.{pos, [], ◌∷◌, Option, Some}
use Rattle.ob_examples.specs.Written.{contract_number, field_number, transaction_number, Told}
use Rattle.ob_examples.specs.Reentry.{reentry, seven_store}
use Rattle.ob_silica.specs.Terms.{unit_form, const_form, copy_form, move_form, new_form, call_form, call_this_form, drop_form, return_form, SilicaTerms, no_terms}
use Rattle.ob_silica.specs.declared.place.Constant.TheVariants.{Int}
use Rattle.ob_silica.specs.declared.place.Place.TheVariants.{Slot, Field}
use Rattle.ob_silica_steps.specs.Configurations.{SilicaProgram}
use Rattle.ob_examples.specs.WrittenTerms.{this_on, slot_on, field_on, on, body_end, terms_body, steps_on_store}

-- `return a.get();`
abbrev pub back_terms : SilicaTerms
back_terms =
    on 1
    (unit_form ∷ call_form (Some 2) (slot_on 1 1) (contract_number 1) (transaction_number 1) []
    ∷ return_form (Some (slot_on 2 1)) ∷ [])
    no_terms

-- `n = 7;`
abbrev pub seven_terms : SilicaTerms
seven_terms =
    on 4 (unit_form ∷ const_form 1 (Int (pos 7)) ∷ copy_form (Field (field_number 0)) (slot_on 1 4) ∷ []) body_end

-- `return n;`
abbrev pub get_terms : SilicaTerms
get_terms = on 5 (unit_form ∷ copy_form (Slot 1) (field_on 0 5) ∷ return_form (Some (slot_on 1 5)) ∷ []) no_terms

-- `B b = new B(); return b.back(this);`
abbrev pub round_terms : SilicaTerms
round_terms =
    on 6
    (unit_form ∷ new_form 2 (contract_number 0) [] ∷ move_form (Slot 1) (slot_on 2 6) (Some (contract_number 0))
    ∷ drop_form 2
    ∷ unit_form ∷ call_form (Some 2) (slot_on 1 6) (contract_number 0) (transaction_number 1) (this_on 6 ∷ [])
    ∷ return_form (Some (slot_on 2 6)) ∷ [])
    no_terms

-- `return get();`
abbrev pub direct_terms : SilicaTerms
direct_terms =
    on 7 (unit_form ∷ call_this_form (Some 1) (transaction_number 1) [] ∷ return_form (Some (slot_on 1 7)) ∷ [])
    no_terms

-- the program
abbrev pub reentry_terms : SilicaProgram
reentry_terms = record {
  table = reentry;
  bodies =
      terms_body 0 0 body_end 1
      ∷ terms_body 0 1 back_terms 3
      ∷ terms_body 1 0 seven_terms 2
      ∷ terms_body 1 1 get_terms 2
      ∷ terms_body 1 2 round_terms 3
      ∷ terms_body 1 3 direct_terms 2
      ∷ [];
}

-- `round`
abbrev pub round_by_steps : Option Told
round_by_steps = steps_on_store reentry_terms 20 seven_store 1 0 2 []

-- `direct`
abbrev pub direct_by_steps : Option Told
direct_by_steps = steps_on_store reentry_terms 20 seven_store 1 0 3 []
