-- How a run of terms starts from outside, by a call of an object or by a `new` (this project's own).
use Rattle.std.specs.Prelude.{ℕ, suc, List, [], ◌∷◌, Some}
use Rattle.std.specs.Option.{option_map_or}
use Rattle.ob_base.specs.declared.id.ContractId.{ContractId}
use Rattle.ob_base.specs.declared.id.TxId.{TxId}
use Rattle.ob_perm.specs.Permissions.{unowned}
use Rattle.ob_table.specs.Tables.{ClassTable, signature_of}
use Rattle.ob_table.specs.declared.contract.ResolvedType.{ResolvedType}
use Rattle.ob_table.specs.declared.seen.Kind.TheVariants.{Int}
use Rattle.ob_table_spec.specs.WellFormed.{kind_of_resolved, constructor_at}
use Rattle.ob_heap_spec.specs.Values.{Value, reference, nothing}
use Rattle.ob_heap_spec.specs.Objects.{Object}
use Rattle.ob_heap_spec.specs.Contents.{object_at}
use Rattle.ob_heap_spec.specs.Worlds.{World}
use Rattle.ob_heap_spec.specs.Marks.{comes_into}
use Rattle.ob_silica_places.specs.Known.{Known, known, permission_of_type}
use Rattle.ob_silica_steps.specs.Configurations.{SilicaProgram, SlotCells, HandleNote, Notes, NextStep, stuck}
use Rattle.ob_silica_steps.specs.Here.{if_there, field_of, with_unit}
use Rattle.ob_silica_places.specs.Known.{at}
use Rattle.ob_silica_steps.specs.Binding.{bound_cell}
use Rattle.ob_silica_places.specs.Parameters.{Parameter, parameters, this_parameter}
use Rattle.ob_silica_steps.specs.Entering.{Entered, calls_object, makes_object}
use Rattle.ob_silica_steps.specs.Calling.{constructor_id}

-- what is noted of a declared field
abbrev pub declared_note : ResolvedType → Known
declared_note of = known (kind_of_resolved of) (permission_of_type of)

-- what is noted where there is no field; no step reads it, since there is no value to read it with
abbrev pub no_note : Known
no_note = known Int unowned

-- what is noted of the fields of a store's objects: what they declare
abbrev pub declared_notes : ClassTable → List Object → ℕ → ℕ → Known
declared_notes table objects n k =
    option_map_or (λ o. option_map_or (λ f. declared_note f.of) (field_of table o k) no_note)
    (object_at objects n) no_note

-- the notes at the start of a run, with these handles
abbrev pub first_notes : ClassTable → List Object → List HandleNote → Notes
first_notes table objects handles = record { fields = declared_notes table objects; handles = handles }

-- values come into parameters from this number on; there are as many of both
abbrev pub pass_all : List Value → ℕ → List Parameter → SlotCells → World → (SlotCells → World → NextStep) → NextStep
pass_all [] k [] slots w go = go slots w
pass_all [] k (p ∷ ps) slots w go = stuck
pass_all (v ∷ vs) k [] slots w go = stuck
pass_all (v ∷ vs) k (p ∷ ps) slots w go =
    pass_all vs (suc k) ps (at slots k (Some (bound_cell p.of v))) (comes_into p.of v w) go

-- what a body begins with that no frame waits for
abbrev pub alone : SlotCells → Notes → World → Entered
alone slots notes w = record { slots = slots; stack = []; notes = notes; world = w }

-- the run of a call of an object from outside, with these arguments
abbrev pub started_call : SilicaProgram → ContractId → TxId → ℕ → List Value → Notes → World → NextStep
started_call program contract tx n args notes w =
    if_there (signature_of program.table contract tx) (λ s.
    pass_all (reference n ∷ args) 0 (this_parameter contract s ∷ parameters s) nothing w (λ slots v.
    with_unit v (λ x. calls_object program (alone slots notes x) contract tx s n)))

-- the run of a `new` from outside, with these arguments; an interface has no constructor, and its `new` no step
abbrev pub started_new : SilicaProgram → ContractId → List Value → Notes → World → NextStep
started_new program contract args notes w =
    if_there (constructor_at program.table contract) (λ s.
    pass_all args 1 (parameters s) nothing w (λ slots v.
    with_unit v (λ x. makes_object program (alone slots notes x) contract constructor_id s)))
