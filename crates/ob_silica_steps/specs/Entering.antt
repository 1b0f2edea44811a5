-- How a call or a `new` enters its body (Coblenz et al., TOPLAS 42(3), 2020, "Silica"; re-entry, shared entry and the
-- order of units, tests and marks are this project's own).
use Rattle.std.specs.Prelude.{ℕ, suc, Bool, true, false, ◌&&◌, nat_le, List, [], ◌∷◌, length, Some, if◌then◌else◌}
use Rattle.std.specs.Option.{option_map_or}
use Rattle.ob_base.specs.Limits.{most_objects}
use Rattle.ob_base.specs.declared.id.ContractId.{ContractId}
use Rattle.ob_base.specs.declared.id.TxId.{TxId}
use Rattle.ob_base.specs.declared.permission.Perm.{Perm}
use Rattle.ob_perm.specs.States.{only, stateless}
use Rattle.ob_perm.specs.Permissions.{owned, is_shared}
use Rattle.ob_perm.specs.Masks.{permission_of}
use Rattle.ob_table.specs.Tables.{ClassTable, contract_at, signature_at}
use Rattle.ob_table.specs.declared.contract.Signature.{Signature}
use Rattle.ob_table.specs.declared.seen.Kind.TheVariants.{Reference}
use Rattle.ob_heap_spec.specs.Values.{reference}
use Rattle.ob_heap_spec.specs.Objects.{Object}
use Rattle.ob_heap_spec.specs.Contents.{object_at}
use Rattle.ob_heap_spec.specs.Worlds.{World, next_item, with_read, read_object, make_object, by_reentry, by_full}
use Rattle.ob_heap_spec.specs.Marks.{is_in_progress, enter}
use Rattle.ob_heap_spec.specs.GoingWrong.{is_within}
use Rattle.ob_heap_spec.specs.Dispatch.{answering}
use Rattle.ob_heap_spec.specs.Objects.{unfinished}
use Rattle.ob_silica_steps.specs.Cells.{Cell, cell, value_in}
use Rattle.ob_silica_steps.specs.Configurations.{SilicaProgram, terms_at, SlotCells, How, by_receiver, by_this, by_new, SilicaFrame, Waiting, runs, Notes, NextStep, goes, abort_step, stuck}
use Rattle.ob_silica_steps.specs.Here.{if_there}
use Rattle.ob_silica_places.specs.Known.{at}
use Rattle.ob_silica_places.specs.Parameters.{Parameter, parameters, all_parameters}

-- Whether the slots from this number on hold what these parameters need: an owner's object is in one of the declared
-- states. A slot that is unset passes; none of these is, since a call binds as many values as there are parameters.
abbrev pub are_within : ClassTable → List Object → SlotCells → ℕ → List Parameter → Bool
are_within table objects slots k [] = true
are_within table objects slots k (p ∷ ps) =
    option_map_or (is_within table objects p.of) (value_in (slots k)) true && are_within table objects slots (suc k) ps

-- what a body begins with: its slots, the frames that wait for it, the notes and the world
pub record Entered : Type 0 where
  pub slots : SlotCells
  pub stack : List Waiting
  pub notes : Notes
  pub world : World

-- the step into a body
abbrev pub enters : SilicaProgram → Entered → ContractId → TxId → How → Bool → NextStep
enters program e contract tx how shared_entry = if_there (terms_at program contract tx) (λ terms. goes (record {
  frame = record { slots = e.slots; contract = contract; tx = tx; how = how; share_entered = shared_entry };
  control = runs terms [];
  stack = e.stack;
  notes = e.notes;
  world = e.world;
}))

-- `this` as its own contract declares it
abbrev pub this_cell : ContractId → Perm → ℕ → Cell
this_cell contract entry n = cell (reference n) (Reference contract) (permission_of entry)

-- what the body of the object of this number begins with: slot 0 refers to that object, as its own contract declares
-- `this`
abbrev pub entered_on : Entered → ℕ → Object → Signature → Entered
entered_on e n o s = record e { slots = at e.slots 0 (Some (this_cell o.contract s.entry n)) }

-- the body of an object begins, if the object of each owning parameter is in one of its declared states; from then on
-- the object has a transaction in progress
abbrev pub begins_on : SilicaProgram → Entered → ℕ → Object → TxId → Signature → NextStep
begins_on program e n o tx s =
    if are_within program.table e.world.objects (entered_on e n o s).slots 0 (all_parameters o.contract s)
    then enters program (record (entered_on e n o s) { world = enter n e.world }) o.contract tx by_receiver
    (is_shared (permission_of s.entry))
    else stuck

-- a call of an object, once its unit is taken: the object is read, and the run aborts if it has a transaction in
-- progress; it runs its own transaction for the one that is named, of its contract or of its interface
abbrev pub calls_object : SilicaProgram → Entered → ContractId → TxId → Signature → ℕ → NextStep
calls_object program e contract tx asked n =
    let w = read_object e.world n in
    if is_in_progress w n then abort_step (by_reentry n) w
    else if_there (object_at w.objects n) (λ o.
    if_there (contract_at program.table o.contract) (λ own.
    if_there (answering contract tx asked o.contract own) (λ t.
    if_there (signature_at own t) (λ s. begins_on program (record e { world = w }) n o t s))))

-- a call on `this`, once its unit is taken: it isn't tested for re-entry, and is share-entered as its caller is
abbrev pub calls_this : SilicaProgram → Entered → SilicaFrame → TxId → Signature → NextStep
calls_this program e caller tx s =
    if are_within program.table e.world.objects e.slots 0 (all_parameters caller.contract s)
    then enters program e caller.contract tx by_this caller.share_entered
    else stuck

-- `this` of a constructor
abbrev pub new_cell : ContractId → ℕ → Cell
new_cell contract n = cell (reference n) (Reference contract) (owned (only stateless))

-- what a constructor begins with: a new object, with the next number
abbrev pub entered_new : Entered → ContractId → Entered
entered_new e contract = record e {
  slots = at e.slots 0 (Some (new_cell contract (length e.world.objects)));
  world = make_object e.world (unfinished contract);
}

-- a `new`, once its unit is taken: the next number is read, and there must be one
abbrev pub makes_object : SilicaProgram → Entered → ContractId → TxId → Signature → NextStep
makes_object program e contract tx s =
    let w = with_read e.world next_item in
    if nat_le most_objects (length e.world.objects) then abort_step by_full w
    else if are_within program.table w.objects e.slots 1 (parameters s)
    then enters program (entered_new (record e { world = w }) contract) contract tx by_new false
    else stuck
