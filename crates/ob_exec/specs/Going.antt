-- How the code runs what a request enters (this project's own).
use Rattle.std.specs.Prelude.{◌≡◌, ◌⊎◌, ℕ, List, ◌++◌, length, map, Option, Some, None}
use Rattle.ob_base.specs.declared.permission.Mode.{Mode}
use Rattle.ob_heap_spec.specs.Contents.{Content}
use Rattle.ob_heap_spec.specs.Values.{Value}
use Rattle.ob_heap_spec.specs.Worlds.{World, ReadItem, AllRead, ReadSame}
use Rattle.ob_heap.specs.Contents.{Stored, content_of}
use Rattle.ob_heap.specs.Overlays.{Changes, objects_over, AreChangesRead}
use Rattle.ob_invocation_spec.specs.Entering.{puts_after}
use Rattle.ob_invocation_spec.specs.Entries.{Entry, handle_uses}
use Rattle.ob_invocation_spec.specs.Invocation.{done_with, ended, enter_entry}
use Rattle.ob_invocation_spec.specs.Requests.{Request}
use Rattle.ob_invocation_spec.specs.Showing.{reply_of_result}
use Rattle.ob_code.specs.declared.image.Image.{Image}
use Rattle.ob_code_table.specs.ImageTables.{table_of_image}
use Rattle.ob_machine_meaning.specs.Meanings.{machine_meaning}
use Rattle.ob_machine_steps.specs.Entries.{MachineEntry, Phase, started}
use Rattle.ob_machine_steps.specs.Outcomes.{outcome}
use Rattle.ob_machine_steps.specs.Runs.{paused, after_steps, world_of}
use Rattle.ob_machine_laws.specs.Laws.{SamePhase}
use Rattle.ob_machine_parts.specs.Shown.{reads_of}
use Rattle.ob_machine.specs.Phases.{phase_of}
use Rattle.ob_request_run_laws.specs.Runs.{Run, puts_in}
use Rattle.ob_request_run_laws.specs.Slices.{entry_of, enters, sliced, after_entry_test}
use Rattle.ob_request_run_laws.specs.Laws.{ComesTo}
use Rattle.ob_exec_entries.specs.Entering.{use_of, machine_entry}
use Rattle.ob_exec_entries.specs.declared.entered.Entered.{Entered}
use Rattle.ob_exec_entries.specs.declared.entered.HandleUse.{HandleUse}
use Rattle.ob_exec_handles.specs.Coming.{IsInLimits}
use Rattle.ob_exec.specs.Bodies.{body_number}
use Rattle.ob_exec.specs.Putting.{AllStand}
use Rattle.ob_exec.specs.Standing.{EnteredRepresents, AreUsesRead}
use Rattle.ob_exec.specs.declared.stage.Paused.{Paused}

-- numbers that weren't noted: those behind the noted ones, or all
abbrev pub IsFresh : List ℕ → List ℕ → List ℕ → Type 0
IsFresh noted numbers fresh = (numbers ≡ noted ++ fresh) ⊎ (numbers ≡ fresh)

-- What a request enters, with the units that it has in all and what its checks have read.
pub record Asked : Type 0 where
  pub fuel : ℕ
  pub request : Request
  pub entry : Entry
  pub reads : List ReadItem

-- Uses of handles, a client's name for what is given, and the mode in which it is given, are those of what is entered.
pub record AreThose (base : Stored) (who : List ℕ) (into : Option (List ℕ)) (us : List HandleUse) (mode : Option Mode) (a : Asked) : Type 0 where
  pub client : a.entry.who ≡ who
  pub name : a.entry.into ≡ into
  pub uses : map (use_of who) us ≡ handle_uses (content_of base) a.entry
  pub given : mode ≡ a.entry.given
  pub stand : AllStand (content_of base) (handle_uses (content_of base) a.entry)
  pub read : AreUsesRead a.reads (handle_uses (content_of base) a.entry)

-- Before its body.

-- What is entered is asked on what a store holds, where it doesn't go wrong; its checks have read these items.
pub record Enters (image : Image) (fuel : ℕ) (base : Stored) (who : List ℕ) (into : Option (List ℕ)) (entered : Entered) (items : List ReadItem) (a : Asked) : Type 0 where
  pub units : a.fuel ≡ fuel
  pub client : a.request.who ≡ who
  pub enters : entry_of (table_of_image image) (content_of base) a.request.who a.request.operation ≡ Some a.entry
  pub those : AreThose base who into entered.uses entered.given a
  pub stands : EnteredRepresents (content_of base) who into entered a.entry
  pub noted : ReadSame a.reads items
  pub limits : IsInLimits (enter_entry (machine_meaning image) (table_of_image image) (content_of base) a.fuel a.reads a.entry)

-- what follows where it has passed its entry test, with a slice of so many units
abbrev pub passed : Image → Stored → ℕ → Asked → Run
passed image base units a = after_entry_test image a.fuel (content_of base) units a.request a.entry a.reads None

-- what follows from its entry test
abbrev pub tested : Image → Stored → ℕ → Asked → Run
tested image base units a = enters image a.fuel (content_of base) units a.request a.reads a.entry

-- The code is before the first unit of what is entered, whose body has this number.
pub record IsBegun (image : Image) (base : Stored) (fuel : ℕ) (entered : Entered) (s : Paused) : Type 0 where
  pub start : MachineEntry
  pub number : body_number image (machine_entry entered).receiver entered.contract entered.tx ≡ Some start.tx
  pub same : start ≡ record (machine_entry entered) { tx = start.tx }
  pub phase : SamePhase (started image start (content_of base).objects fuel) (phase_of s.machine base.objects s.overlay)
  pub uses : s.uses ≡ entered.uses
  pub given : s.given ≡ entered.given
  pub unread : AreChangesRead s.overlay

-- Within its body.

-- The run of what is entered has come to this phase, on what a store holds. It doesn't go wrong there.
pub record IsReached (image : Image) (content : Content) (a : Asked) (p : Phase) : Type 0 where
  pub start : MachineEntry
  pub number : ℕ
  pub by : after_steps image number (started image start content.objects a.fuel) ≡ Some (paused p)
  pub limits : IsInLimits (ended (table_of_image image) content a.entry a.reads (outcome image (started image start content.objects a.fuel)))

-- The code is where that run is: at the same place, with the same uses of handles. These items are noted as read: what the checks have
-- read, and nothing that wasn't read.
pub record IsAt (image : Image) (base : Stored) (who : List ℕ) (into : Option (List ℕ)) (s : Paused) (items : List ReadItem) (a : Asked) (p : Phase) : Type 0 where
  pub enters : entry_of (table_of_image image) (content_of base) a.request.who a.request.operation ≡ Some a.entry
  pub client : a.request.who ≡ who
  pub those : AreThose base who into s.uses s.given a
  pub reached : IsReached image (content_of base) a p
  pub phase : SamePhase p (phase_of s.machine base.objects s.overlay)
  pub unread : AreChangesRead s.overlay
  pub noted : AllRead a.reads items
  pub within : AllRead items ((world_of p).reads ++ a.reads)

-- what a slice of so many units leads to from there
abbrev pub sliced_at : Image → Stored → ℕ → Asked → Phase → Run
sliced_at image base units a p = sliced image (content_of base) units a.request a.entry a.reads p

-- At its end.

-- how it is answered that a body gave this in a world
abbrev pub ended_so : Stored → Asked → Option Value → World → Run
ended_so base a result w = puts_in (reply_of_result result) (puts_after (content_of base) a.entry result) w a.reads

-- The body has ended with this in a world, as the code has changed a store; its run is answered so, and these items are read.
pub record IsEnd (base : Stored) (a : Asked) (result : Option Value) (w : World) (o : Changes) (n : ℕ) (items : List ReadItem) : Type 0 where
  pub comes : ComesTo (content_of base)
      (done_with (reply_of_result result) (content_of base) (puts_after (content_of base) a.entry result) w a.reads) (ended_so base a result w)
  pub objects : w.objects ≡ objects_over base.objects o
  pub made : w.made ≡ length o.made
  pub taken : w.taken ≡ n
  pub read : ReadSame w.reads (reads_of o)
  pub noted : ReadSame (a.reads ++ reads_of o) items
