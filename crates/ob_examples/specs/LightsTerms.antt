-- The light that is flipped while its state is tested, as terms (this project's own program).
use Rattle.std.specs.Prelude.{ℕ, true, false, List, [], ◌∷◌, ◌++◌, Option, Some, None}
use Rattle.ob_heap_spec.specs.Values.{reference, nothing}
use Rattle.ob_heap_spec.specs.Objects.{Object}
use Rattle.ob_heap_spec.specs.Worlds.{object_item, next_item}
use Rattle.ob_examples.specs.Written.{on_line, contract_number, state_of_number, transaction_number, ToldObject, Told, tells, spending}
use Rattle.ob_examples.specs.Lights.{lights, lit_store}
use Rattle.ob_silica.specs.Terms.{unit_form, move_form, new_form, call_form, change_form, test_form, drop_form, return_form, SilicaTerms, no_terms}
use Rattle.ob_silica.specs.declared.place.Place.TheVariants.{Slot}
use Rattle.ob_silica_steps.specs.Configurations.{SilicaProgram}
use Rattle.ob_examples.specs.WrittenTerms.{slot_on, on, body_end, terms_body, steps_on_store}

-- `return new Light();`
abbrev pub make_terms : SilicaTerms
make_terms = on 8 (unit_form ∷ new_form 1 (contract_number 0) [] ∷ return_form (Some (slot_on 1 8)) ∷ []) no_terms

-- `y.flip();`
abbrev pub flip_y_terms : SilicaTerms
flip_y_terms =
    on 11 (unit_form ∷ call_form None (slot_on 2 11) (contract_number 0) (transaction_number 1) [] ∷ []) no_terms

-- `Light z = new Light(); if (x in On) { y.flip(); }`
abbrev pub both_terms : SilicaTerms
both_terms =
    on 10
    (unit_form ∷ new_form 4 (contract_number 0) [] ∷ move_form (Slot 3) (slot_on 4 10) (Some (contract_number 0))
    ∷ drop_form 4 ∷ [])
    (on 11 (unit_form ∷ test_form (slot_on 1 11) (state_of_number 0) flip_y_terms no_terms (on_line 11) ∷ [])
    (on 1 (drop_form 3 ∷ []) body_end))

-- the program
abbrev pub light_terms : SilicaProgram
light_terms = record {
  table = lights;
  bodies =
      terms_body 0 0 (on 4 (unit_form ∷ change_form (state_of_number 0) [] ∷ []) body_end) 1
      ∷ terms_body 0 1 (on 5 (unit_form ∷ change_form (state_of_number 1) [] ∷ []) body_end) 1
      ∷ terms_body 1 0 body_end 1
      ∷ terms_body 1 1 make_terms 2
      ∷ terms_body 1 2 both_terms 5
      ∷ [];
}

-- `both` with the light twice, on the store with one light
abbrev pub flipped_by_steps : Option Told
flipped_by_steps = steps_on_store light_terms 20 lit_store 1 0 2 (reference 1 ∷ reference 1 ∷ [])

-- `make` on that store
abbrev pub made_by_steps : Option Told
made_by_steps = steps_on_store light_terms 20 lit_store 1 0 1 []

-- a store with a second light that is on
abbrev pub two_lit_store : List Object
two_lit_store = lit_store ++ record {
  contract = contract_number 0;
  state = Some (state_of_number 0);
  fields = nothing;
  shared = true;
  disowned = false;
} ∷ []

-- `both` with two lights: the first is tested, and the second flipped
abbrev pub other_flipped_by_steps : Option Told
other_flipped_by_steps = steps_on_store light_terms 20 two_lit_store 1 0 2 (reference 1 ∷ reference 2 ∷ [])

-- what is told of a light in a state
abbrev pub told_light : ℕ → ToldObject
told_light state = record { contract = 0; state = state; fields = []; shared = true; disowned = false }

-- the first light is on, the second off, and the third, which was made, is on
abbrev pub other_flipped : Told
other_flipped = tells None
    (record { contract = 1; state = 32; fields = []; shared = false; disowned = false }
    ∷ told_light 0 ∷ told_light 1 ∷ told_light 0 ∷ [])
    (spending 8
    (object_item 2 ∷ object_item 2 ∷ object_item 1 ∷ next_item ∷ object_item 0 ∷ object_item 2 ∷ object_item 1 ∷ []))
