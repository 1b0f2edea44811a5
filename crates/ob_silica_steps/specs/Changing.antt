-- Changes of the state of `this` (Coblenz et al., TOPLAS 42(3), 2020, "Silica"; the test of a lock is this project's
-- own).
use Rattle.std.specs.Prelude.{ℕ, Bool, true, ◌&&◌, List, [], ◌∷◌, Option, Some, None, option_map, is_some, slice_get, if◌then◌else◌}
use Rattle.ob_base.specs.declared.id.StateId.{StateId}
use Rattle.ob_perm.specs.States.{only}
use Rattle.ob_perm.specs.Permissions.{owned, owns}
use Rattle.ob_table.specs.Tables.{ClassTable, contract_at}
use Rattle.ob_table.specs.declared.contract.Contract.{Contract}
use Rattle.ob_table.specs.declared.contract.Field.{Field}
use Rattle.ob_heap_spec.specs.Values.{Value, Numbered, nothing, put}
use Rattle.ob_heap_spec.specs.Objects.{Object, has_field, has_all_values}
use Rattle.ob_heap_spec.specs.Worlds.{edit_object, by_state}
use Rattle.ob_heap_spec.specs.Marks.{is_locked}
use Rattle.ob_silica.specs.Terms.{SilicaTerms}
use Rattle.ob_silica.specs.declared.place.Given.{Given}
use Rattle.ob_silica_steps.specs.Cells.{Cell, noted}
use Rattle.ob_silica_places.specs.Known.{Known}
use Rattle.ob_silica_places.specs.Places.{located}
use Rattle.ob_silica_steps.specs.Configurations.{SilicaFrame, Rest, runs, Notes, Configuration, NextStep, abort_step, stuck}
use Rattle.ob_silica_steps.specs.Here.{Here, here, goes_to, if_there, self_of, self, read, hand}
use Rattle.ob_silica_places.specs.Known.{at}
use Rattle.ob_silica_steps.specs.Getting.{got_from}

-- whether each given value is there
abbrev pub all_there : ClassTable → Here → List Given → Bool
all_there table h [] = true
all_there table h (g ∷ gs) = is_some (read table h (located g.from)) && all_there table h gs

-- a place hands its value over to a field, which the new state must have, and this is what the field gets
abbrev pub fill_one : ClassTable → Contract → StateId → Here → Given → (Here → Cell → NextStep) → NextStep
fill_one table c state h g go =
    if_there (slice_get c.fields g.field.0) (λ (f : Field). if_there (read table h (located g.from)) (λ x.
    if has_field c (Some state) g.field.0
    then go (hand f.of (located g.from) x h) (got_from table f.of h (located g.from) x)
    else stuck))

-- fields are given their values one after the other, which are kept until all are given
abbrev pub fill_all : ClassTable → Contract → StateId → Here → List Given → Numbered Cell
    → (Here → Numbered Cell → NextStep) → NextStep
fill_all table c state h [] got go = go h got
fill_all table c state h (g ∷ gs) got go =
    fill_one table c state h g (λ next x. fill_all table c state next gs (put got g.field.0 x) go)

-- what a field has after a change: what it was given, or what it had if the new state has it
abbrev pub value_after : Option Cell → Option Value → Option Value
value_after None old = old
value_after (Some x) old = Some x.value

-- the values of an object in its new state
abbrev pub values_after : Contract → StateId → Numbered Cell → Numbered Value → Numbered Value
values_after c state got old = λ k. value_after (got k) (if has_field c (Some state) k then old k else None)

-- the object in its new state
abbrev pub changed_object : Contract → StateId → Numbered Cell → Object → Object
changed_object c state got o = record o { state = Some state; fields = values_after c state got o.fields }

-- what is noted of a field after a change: of one that was given, what it got
abbrev pub note_after : Option Cell → Known → Known
note_after None old = old
note_after (Some x) old = x.note

-- the notes after a change, of the fields of an object
abbrev pub notes_after : ℕ → Numbered Cell → Notes → Notes
notes_after n got notes = record notes { fields = at notes.fields n (λ k. note_after (got k) (notes.fields n k)) }

-- an owner of `this` knows its new state
abbrev pub narrowed_this : StateId → Cell → Cell
narrowed_this state x = if owns x.note.permission then noted (owned (only state.0)) x else x

-- what is left once `this` has changed its state
abbrev pub changed_here : Contract → StateId → Numbered Cell → Here → Here
changed_here c state got h = record {
  slots = at h.slots 0 (option_map (narrowed_this state) (h.slots 0));
  notes = notes_after (self_of h.slots) got h.notes;
  world = edit_object (changed_object c state got) (self_of h.slots) h.world;
}

-- whether a frame is share-entered while its object is locked
abbrev pub is_locked_out : SilicaFrame → Here → Bool
is_locked_out frame h = frame.share_entered && is_locked h.world (self_of h.slots)

-- the step of a change whose fields are given: each field that is available in the new state must have a value
abbrev pub change_with : Contract → StateId → SilicaTerms → List Rest → Configuration → Here → Numbered Cell → NextStep
change_with c state rest outer config h got = if_there (self (changed_here c state got h)) (λ o.
    if has_all_values c o then goes_to config (changed_here c state got h) (runs rest outer) else stuck)

-- the step of a change of state: the given values are there, and a share-entered frame's object isn't locked
abbrev pub change_step : ClassTable → StateId → List Given → SilicaTerms → List Rest → Configuration → NextStep
change_step table state given rest outer c = if_there (contract_at table c.frame.contract) (λ own.
    if all_there table (here c) given
    then (if is_locked_out c.frame (here c) then abort_step (by_state (self_of c.frame.slots) None) c.world
    else fill_all table own state (here c) given nothing (λ h got. change_with own state rest outer c h got))
    else stuck)
