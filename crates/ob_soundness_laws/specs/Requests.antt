-- How a request's run begins and what it leaves (Coblenz et al., TOPLAS 42(3), 2020, "Permissions"; what handles carry while a
-- run lasts is this project's own).
use Rattle.std.specs.Prelude.{◌≡◌, ℕ, ◌≤◌, true, false, List, [], ◌∷◌, length, map, Option, Some, None, if◌then◌else◌, IsTrue, ⊤}
use Rattle.ob_base.specs.Names.{is_label}
use Rattle.ob_heap_spec.specs.Dispatch.{transaction_named}
use Rattle.ob_base.specs.Limits.{most_objects}
use Rattle.ob_perm.specs.States.{States}
use Rattle.ob_perm.specs.Permissions.{owned, unowned}
use Rattle.ob_perm.specs.Masks.{held}
use Rattle.ob_table.specs.Tables.{ClassTable, contract_at, signature_at, signature_of}
use Rattle.ob_table.specs.declared.contract.Contract.{Contract}
use Rattle.ob_table_spec.specs.WellFormed.{constructor_at}
use Rattle.ob_heap_spec.specs.Objects.{Object}
use Rattle.ob_heap_spec.specs.Values.{Value, reference}
use Rattle.ob_heap_spec.specs.Contents.{HandleName, Handle, Content, object_at}
use Rattle.ob_heap_spec.specs.Worlds.{World}
use Rattle.ob_heap_spec.specs.Handles.{NamedHandle, handle_at, put_handles}
use Rattle.ob_silica_steps.specs.Cells.{Cell}
use Rattle.ob_silica_steps.specs.Configurations.{SilicaProgram, by_receiver, by_new, Rest, Waiting, runs, HandleNote, Notes, Configuration, NextStep, goes, ended, aborted, stuck}
use Rattle.ob_silica_steps.specs.Returning.{exits_are_within}
use Rattle.ob_silica.specs.Terms.{return_form, SilicaTerms, and_term}
use Rattle.ob_silica.specs.declared.place.Operand.{Operand}
use Rattle.ob_base.specs.declared.fault.Span.{Span}
use Rattle.ob_table.specs.declared.contract.Signature.{Signature}
use Rattle.ob_silica_steps.specs.Steps.{then_steps, steps}
use Rattle.ob_silica_steps.specs.Starting.{first_notes, started_call, started_new}
use Rattle.ob_coherent_spec.specs.Coherent.{Beginning, outermost, StepsSo}
use Rattle.ob_coherent_spec.specs.Counting.{nth_object, field_cell}
use Rattle.ob_coherent_spec.specs.Standing.{RefersToIn}
use Rattle.ob_coherent_spec.specs.Remaining.{IsCheckedProgram}
use Rattle.ob_table_spec.specs.Conditions.{IsClassTable}
use Rattle.ob_rest_spec.specs.Modes.{is_owned}
use Rattle.ob_rest_spec.specs.AtRest.{IsStoreAtRest}
use Rattle.ob_invocation_spec.specs.Requests.{NewRequest, CallRequest, new_request, call_request, Request, HasLabels}
use Rattle.ob_invocation_spec.specs.Handles.{handle_name, are_handles_full, mark_puts}
use Rattle.ob_invocation_spec.specs.Entries.{HandleUse, Entry, mode_of_result, entry_of_new, entry_of_call, used_as_receiver, values_of, handle_uses}
use Rattle.ob_invocation_spec.specs.Checks.{refusal_of}
use Rattle.ob_invocation_spec.specs.Refusals.{has_other_count, has_other_kind, lacks_permission, repeats_object, lacks_into, has_needless_into, is_taken, new_checks, call_checks}
use Rattle.ob_invocation_spec.specs.Entering.{first_outside_use, is_locked_at_entry, Meaning, entry_world, run_entry, puts_after}
use Rattle.ob_invocation_spec.specs.Invocation.{invoke}
use Rattle.ob_invocation_laws.specs.Laws.{runs as runs_body, is_put, puts_of_uses, KeepsStoreAtRest}
use Rattle.ob_invocation_spec.specs.SourceInvocation.{source_invocation}
use Rattle.ob_lower_correct.specs.Law.{IsLoweredProgram, EndsAs}
use Rattle.ob_soundness_laws.specs.Running.{EndsFrom}

-- What handles carry.

-- all states
abbrev pub any_state : States
any_state = λ i. true

-- what a handle carries while the run lasts: one that becomes another carries nothing, and each other what it's held as
abbrev pub note_in_run : List NamedHandle → NamedHandle → HandleNote
note_in_run puts h = record {
  object = h.1.object;
  permission = if is_put puts h.0 then unowned else held h.1.mode any_state;
}

-- what the handles of a store carry
abbrev pub handles_in_run : Content → Entry → List HandleNote
handles_in_run content e = map (note_in_run (puts_of_uses (handle_uses content e))) content.handles

-- The beginning.

-- the object that is locked for the whole call, if one is
abbrev pub entry_lock : Option HandleUse → Option ℕ
entry_lock None = None
entry_lock (Some u) = if is_locked_at_entry u then Some u.handle.object else None

-- what a request enters, with or without a receiver
abbrev pub beginning_on : Entry → Option HandleUse → List Value → Beginning
beginning_on e None values = record { contract = e.contract; tx = e.tx; how = by_new; from = 1; values = values }
beginning_on e (Some u) values = record {
  contract = e.contract;
  tx = e.tx;
  how = by_receiver;
  from = 0;
  values = reference u.handle.object ∷ values;
}

-- how the run of a request begins
abbrev pub beginning_of : Content → Entry → Beginning
beginning_of content e = beginning_on e e.receiver (values_of content e)

-- the start of a run with or without a receiver
abbrev pub started_on : SilicaProgram → Entry → Option HandleUse → List Value → Notes → World → NextStep
started_on program e None values notes w = started_new program e.contract values notes w
started_on program e (Some u) values notes w = started_call program e.contract e.tx u.handle.object values notes w

-- the start of the run of a request with so many units
abbrev pub started : SilicaProgram → Content → ℕ → Entry → NextStep
started program content fuel e = started_on program e e.receiver (values_of content e)
    (first_notes program.table (entry_world content fuel e).objects (handles_in_run content e)) (entry_world content fuel e)

-- A `new` or a `call` enters this: no check refuses it, and the entry test finds each object within.
pub data IsEntered (table : ClassTable) (content : Content) (e : Entry) : Type 0 where
  by_request_new : (who : List ℕ) (r : NewRequest) → HasLabels (record { who = who; operation = new_request r })
      → entry_of_new table who r ≡ Some e
      → refusal_of (new_checks table content who r) ≡ None → first_outside_use table content e ≡ None
      → IsEntered table content e
  by_request_call : (who : List ℕ) (r : CallRequest) → HasLabels (record { who = who; operation = call_request r })
      → entry_of_call table content who r ≡ Some e
      → refusal_of (call_checks table content who r) ≡ None → first_outside_use table content e ≡ None
      → IsEntered table content e

-- The run of what is entered in a store at rest begins with a coherent configuration, or aborts.
abbrev pub BeginsSo : Type 0
BeginsSo =
    (program : SilicaProgram) (content : Content) (fuel : ℕ) (e : Entry) → IsCheckedProgram program
    → IsStoreAtRest program.table content → IsEntered program.table content e
    → StepsSo program.table (entry_lock e.receiver) (beginning_of content e) (started program content fuel e)

-- The end.

-- The first configuration of a run: handles carry what they carry while it lasts, objects are marked as shared that were so in
-- the store, there are no more than there may be, and the frame isn't share-entered where `this` is owned at the entry.
pub record IsFirst (content : Content) (e : Entry) (first : Configuration) : Type 0 where
  pub handles : first.notes.handles ≡ handles_in_run content e
  pub longer : length content.objects ≤ length first.world.objects
  pub shared : (n : ℕ) → (nth_object content.objects n).shared ≡ true → (nth_object first.world.objects n).shared ≡ true
  pub few : length content.objects ≤ most_objects → length first.world.objects ≤ most_objects
  pub share_entered : (u : HandleUse) → e.receiver ≡ Some u → is_owned u.entry.mode ≡ true
      → (outermost first.frame first.stack).share_entered ≡ false

-- how a run starts: with a first configuration, or with an abort; of one that gets stuck nothing is said
abbrev pub StartsSo : Content → Entry → NextStep → Type 0
StartsSo content e (goes first) = IsFirst content e first
StartsSo content e (ended result w) = ⊥
StartsSo content e (aborted cause s) = ⊤
StartsSo content e stuck = ⊤

-- the run of what is entered starts so
abbrev pub RunsStart : Type 0
RunsStart =
    (program : SilicaProgram) (content : Content) (fuel : ℕ) (e : Entry) → IsEntered program.table content e
    → StartsSo content e (started program content fuel e)

-- what a store holds after the run of what was entered, by its result and its world
abbrev pub content_after : Content → Entry → Option Value → World → Content
content_after content e result w = record {
  objects = (mark_puts w (puts_after content e result)).objects;
  handles = put_handles content.handles (puts_after content e result);
}

-- Where the run of what was entered in a store at rest has ended, the store is at rest again.
abbrev pub EndsSo : Type 0
EndsSo =
    (program : SilicaProgram) (content : Content) (e : Entry) (first : Configuration) (result : Option Value) (w v : World)
    → IsCheckedProgram program → IsStoreAtRest program.table content → IsEntered program.table content e
    → IsFirst content e first
    → EndsFrom program.table (entry_lock e.receiver) (beginning_of content e) first result v → v.objects ≡ w.objects
    → IsStoreAtRest program.table (content_after content e result w)

-- Requests.

-- a request that runs nothing leaves a store at rest, if it was at rest
abbrev pub StillLeavesAtRest : Type 0
StillLeavesAtRest =
    (meaning : Meaning) (table : ClassTable) (content : Content) (request : Request) (fuel : ℕ) → IsClassTable table
    → IsStoreAtRest table content → HasLabels request → runs_body request.operation ≡ false
    → KeepsStoreAtRest table (invoke meaning table content request fuel)

-- by a meaning, what is entered comes to what its run by the terms ends with
abbrev pub RunsAsTerms : Meaning → SilicaProgram → Content → ℕ → Type 0
RunsAsTerms meaning program content fuel =
    (e : Entry) → IsEntered program.table content e → EndsAs program (started program content fuel e) (run_entry meaning content fuel e)

-- No request goes wrong by a meaning that comes to what the terms of a checked program do: each request on a store at rest comes to a
-- reply, whatever it asks and with any number of units, and leaves the store at rest.
abbrev pub NoRequestGoesWrongBy : Type 0
NoRequestGoesWrongBy =
    (meaning : Meaning) (program : SilicaProgram) (content : Content) (request : Request) (fuel : ℕ) → IsCheckedProgram program
    → RunsAsTerms meaning program content fuel → IsStoreAtRest program.table content → HasLabels request
    → KeepsStoreAtRest program.table (invoke meaning program.table content request fuel)

-- No request goes wrong: where a program is checked and lowered, each request on a store at rest comes to a reply, whatever it
-- asks and with any number of units, and leaves the store at rest.
abbrev pub NoRequestGoesWrong : Type 0
NoRequestGoesWrong =
    (program : SilicaProgram) (content : Content) (request : Request) (fuel : ℕ) → IsCheckedProgram program
    → IsLoweredProgram program → IsStoreAtRest program.table content → HasLabels request
    → KeepsStoreAtRest program.table (source_invocation program.table content request fuel)

-- what a place owns is in one of the states that are noted there
abbrev pub OwnsWithin : ClassTable → List Object → Option Cell → Type 0
OwnsWithin table objects cell = (x : Cell) (a : States) → cell ≡ Some x → x.note.permission ≡ owned a
    → RefersToIn table objects x.note.kind a x.value

-- the same of each slot of the frames that wait
abbrev pub AllOwnWithin : ClassTable → List Object → List Waiting → Type 0
AllOwnWithin table objects [] = ⊤
AllOwnWithin table objects (h ∷ hs) = ((k : ℕ) → OwnsWithin table objects (h.frame.slots k)) × AllOwnWithin table objects hs

-- Each object that a slot of a frame owns, of the innermost one or of one that waits, or that a field owns, is in one of the
-- states that are noted there. Where the innermost frame is about to return, the object of each owning exit is in one of the states
-- that the exit declares.
pub record MeetsStates (table : ClassTable) (c : Configuration) : Type 0 where
  pub slots : (k : ℕ) → OwnsWithin table c.world.objects (c.frame.slots k)
  pub waiting : AllOwnWithin table c.world.objects c.stack
  pub fields : (n k : ℕ) → OwnsWithin table c.world.objects (field_cell c.notes c.world.objects n k)
  pub exits : (value : Option Operand) (span : Span) (rest : SilicaTerms) (outer : List Rest) (s : Signature)
      → c.control ≡ runs (and_term (return_form value) span rest) outer
      → signature_of table c.frame.contract c.frame.tx ≡ Some s → exits_are_within table c s ≡ true

-- No transaction meets an object that it owns outside its states: so it is in each configuration of a run that was entered in a
-- store at rest. At its beginning a body's slots are noted as its parameters declare, and a call that finds an object in none of
-- the declared states has no step, which never comes.
abbrev pub RunsMeetStates : Type 0
RunsMeetStates =
    (program : SilicaProgram) (content : Content) (fuel : ℕ) (e : Entry) (n : ℕ) (c : Configuration)
    → IsCheckedProgram program → IsStoreAtRest program.table content → IsEntered program.table content e
    → then_steps (started program content fuel e) (steps program n) ≡ goes c → MeetsStates program.table c

-- What was asked of what is entered: its arguments are as many as the parameters, each of its parameter's type; handles serve; no
-- object that is used as the owner's is used twice; there is a name for what is given, and only then.
pub record HasPassed (table : ClassTable) (content : Content) (e : Entry) : Type 0 where
  pub count : has_other_count e ≡ false
  pub kind : has_other_kind table content e ≡ false
  pub permission : lacks_permission content e ≡ false
  pub repeated : repeats_object content e ≡ false
  pub into_missing : lacks_into e ≡ false
  pub into_needless : has_needless_into e ≡ false
  pub into : (name : List ℕ) → e.into ≡ Some name
      → (is_taken content (handle_name e.who name) ≡ false) × (are_handles_full content ≡ false)

-- what a `new` enters
pub record EntersNew (table : ClassTable) (e : Entry) : Type 0 where
  pub receiver : e.receiver ≡ None
  pub constructor : constructor_at table e.contract ≡ Some e.signature
  pub tx : e.tx ≡ record { 0 = 0 }
  pub given : e.given ≡ Some e.signature.exit.mode

-- what a `call` enters
pub record EntersCall (table : ClassTable) (content : Content) (e : Entry) : Type 0 where
  pub name : HandleName
  pub handle : Handle
  pub found : handle_at content name ≡ Some handle
  pub object : Object
  pub there : object_at content.objects handle.object ≡ Some object
  pub contract : object.contract ≡ e.contract
  pub own : Contract
  pub is_own : contract_at table e.contract ≡ Some own
  pub asked : List ℕ
  pub label : IsTrue (is_label asked)
  pub named : transaction_named own asked ≡ Some e.tx
  pub signature : signature_at own e.tx ≡ Some e.signature
  pub receiver : e.receiver ≡ Some (used_as_receiver name handle e.contract e.signature)
  pub given : e.given ≡ mode_of_result e.signature.result
