-- Words for terms that are written by hand, and what is told of their runs.
use Rattle.std.specs.Prelude.{ℕ, List, [], ◌∷◌, map, Option, Some, None}
use Rattle.ob_table.specs.Tables.{ClassTable}
use Rattle.ob_heap_spec.specs.Values.{Value}
use Rattle.ob_heap_spec.specs.Objects.{Object}
use Rattle.ob_heap_spec.specs.Worlds.{first_world, spent}
use Rattle.ob_examples.specs.Written.{on_line, contract_number, field_number, transaction_number, told_object, Told, tells, tells_abort, tells_wrong}
use Rattle.ob_silica.specs.Terms.{SilicaForm, return_form, SilicaTerms, no_terms, and_term, SilicaBody}
use Rattle.ob_silica.specs.declared.place.Operand.{Operand}
use Rattle.ob_silica.specs.declared.place.Place.TheVariants.{This, Slot, Field}
use Rattle.ob_silica_steps.specs.Configurations.{SilicaProgram, NextStep, goes, ended, aborted, stuck}
use Rattle.ob_silica_steps.specs.Steps.{then_steps, steps}
use Rattle.ob_silica_steps.specs.Starting.{first_notes, started_call}

-- Terms.

-- `this` as an operand on a line
abbrev pub this_on : ℕ → Operand
this_on n = record { place = This; span = on_line n }

-- a slot as an operand on a line
abbrev pub slot_on : ℕ → ℕ → Operand
slot_on k n = record { place = Slot k; span = on_line n }

-- a field of `this` as an operand on a line
abbrev pub field_on : ℕ → ℕ → Operand
field_on k n = record { place = Field (field_number k); span = on_line n }

-- forms on a line, and then terms
abbrev pub on : ℕ → List SilicaForm → SilicaTerms → SilicaTerms
on n [] terms = terms
on n (form ∷ forms) terms = and_term form (on_line n) (on n forms terms)

-- the end of a body
abbrev pub body_end : SilicaTerms
body_end = on 1 (return_form None ∷ []) no_terms

-- the body of a transaction of a contract, with so many slots
abbrev pub terms_body : ℕ → ℕ → SilicaTerms → ℕ → SilicaBody
terms_body contract tx terms slots = record {
  contract = contract_number contract;
  tx = transaction_number tx;
  terms = terms;
  slots = slots;
  end = on_line 1;
}

-- Runs.

-- what is told of a run, once it has ended
abbrev pub told_steps : ClassTable → NextStep → Option Told
told_steps table (goes c) = None
told_steps table (ended result w) = Some (tells result (map (told_object table) w.objects) (spent w))
told_steps table (aborted cause s) = Some (tells_abort cause s)
told_steps table stuck = Some tells_wrong

-- what is told of the run of a transaction of an object of a contract on a store, with so many units, by at most 100
-- steps
abbrev pub steps_on_store : SilicaProgram → ℕ → List Object → ℕ → ℕ → ℕ → List Value → Option Told
steps_on_store program units objects contract n tx args = told_steps program.table
    (then_steps
    (started_call program (contract_number contract) (transaction_number tx) n args
    (first_notes program.table objects []) (first_world objects units))
    (steps program 100))
