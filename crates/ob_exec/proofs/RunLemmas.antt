-- What comes of the run of what is entered, and of its entry test.
use Rattle.std.proofs.Common.{◌≡◌, ℕ, List, Option, Some, None, refl, sym, ap, subst, ◌∙◌}
use Rattle.std.specs.Prelude.{option_map, IsSome}
use Rattle.ob_base.specs.declared.id.TxId.{TxId}
use Rattle.ob_verify_spec.proofs.Cells.{none_some}
use Rattle.ob_heap_spec.specs.Contents.{Content}
use Rattle.ob_heap_spec.specs.Worlds.{AbortCause}
use Rattle.ob_invocation_spec.specs.Entries.{HandleUse}
use Rattle.ob_invocation_spec.specs.Entering.{run_entry}
use Rattle.ob_invocation_spec.specs.Invocation.{ended}
use Rattle.ob_invocation_spec.specs.Replies.{Invocation}
use Rattle.ob_code.specs.declared.image.Image.{Image}
use Rattle.ob_machine_steps.specs.Entries.{started}
use Rattle.ob_machine_steps.specs.Outcomes.{outcome}
use Rattle.ob_code_table.specs.ImageTables.{table_of_image}
use Rattle.ob_machine_meaning.specs.Meanings.{machine_meaning}
use Rattle.ob_machine.specs.Shown.{cause_of}
use Rattle.ob_exec_entries.specs.Entering.{machine_entry}
use Rattle.ob_exec_entries.specs.declared.entered.Entered.{Entered}
use Rattle.ob_exec_handles.specs.Coming.{IsInLimits}
use Rattle.ob_exec.specs.Ending.{IsRight}
use Rattle.ob_exec.specs.Bodies.{body_number}
use Rattle.ob_exec.specs.Standing.{running, ComesBy}
use Rattle.ob_exec.proofs.ComingLemmas.{right_in_limits}
use Rattle.ob_exec.proofs.StartLemmas.{with_number, runs_by, numbered}

-- The run.

-- what runs is right
right_run : (image : Image) (content : Content) (fuel : ℕ) (who : List ℕ) (into : Option (List ℕ)) (entered : Entered) (i : Invocation)
    → (k : ComesBy (running image content fuel) content who into entered i) → IsInLimits i → IsRight (run_entry (machine_meaning image) content fuel k.entry)
right_run image content fuel who into entered i k h =
    right_in_limits (table_of_image image) content k.entry k.reads (run_entry (machine_meaning image) content fuel k.entry) (subst IsInLimits k.is h)

-- a body runs
pub runs_some : (image : Image) (content : Content) (fuel : ℕ) (who : List ℕ) (into : Option (List ℕ)) (entered : Entered) (i : Invocation)
    → ComesBy (running image content fuel) content who into entered i → IsInLimits i
    → IsSome (body_number image (machine_entry entered).receiver entered.contract entered.tx)
runs_some image content fuel who into entered i k h =
    subst (λ m. IsSome (body_number image m.receiver m.contract m.tx)) (sym k.stands.machine)
    (numbered image content fuel k.entry (right_run image content fuel who into entered i k h))

-- the run of the entry of a request is that of what is entered
run_same : (image : Image) (content : Content) (fuel : ℕ) (who : List ℕ) (into : Option (List ℕ)) (entered : Entered) (i : Invocation) (number : TxId)
    → (k : ComesBy (running image content fuel) content who into entered i)
    → body_number image (machine_entry entered).receiver entered.contract entered.tx ≡ Some number
    → run_entry (machine_meaning image) content fuel k.entry ≡ outcome image (started image (with_number number (machine_entry entered)) content.objects fuel)
run_same image content fuel who into entered i number k h =
    runs_by image content fuel k.entry number (subst (λ m. body_number image m.receiver m.contract m.tx ≡ Some number) k.stands.machine h)
    ∙ ap (λ m. outcome image (started image (with_number number m) content.objects fuel)) (sym k.stands.machine)

-- what comes of it is its end
pub comes_of_end : (image : Image) (content : Content) (fuel : ℕ) (who : List ℕ) (into : Option (List ℕ)) (entered : Entered) (i : Invocation) (number : TxId)
    → (k : ComesBy (running image content fuel) content who into entered i)
    → body_number image (machine_entry entered).receiver entered.contract entered.tx ≡ Some number
    → i ≡ ended (table_of_image image) content k.entry k.reads (outcome image (started image (with_number number (machine_entry entered)) content.objects fuel))
comes_of_end image content fuel who into entered i number k h =
    k.is ∙ ap (ended (table_of_image image) content k.entry k.reads) (run_same image content fuel who into entered i number k h)

-- The entry test.

pub none_found : (f : HandleUse → AbortCause) (found : Option HandleUse) → option_map cause_of None ≡ option_map f found → found ≡ None
none_found f None h = refl
none_found f (Some u) h = absurd (none_some h)
