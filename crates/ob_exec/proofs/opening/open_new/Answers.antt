use Rattle.std.proofs.Common.{◌≡◌, [], ◌∷◌, List, Option, Some, map, sym, ap, subst, ◌∙◌}
use Rattle.std.specs.Prelude.{option_map, IfOk}
use Rattle.ob_code.specs.declared.image.Image.{Image}
use Rattle.ob_code_laws.proofs.Leading.{leads_ahead}
use Rattle.ob_code_table.specs.ImageTables.{table_of_image}
use Rattle.ob_heap.specs.Contents.{content_of}
use Rattle.ob_heap_spec.specs.Worlds.{ReadItem}
use Rattle.ob_verify_spec.proofs.Cells.{none_some}
use Rattle.ob_invocation_spec.specs.Checks.{refusal_of, reads_of, with_found}
use Rattle.ob_invocation_spec.specs.Entries.{entry_of_new}
use Rattle.ob_invocation_spec.specs.Invocation.{enter_entry}
use Rattle.ob_invocation_spec.specs.Refusals.{new_checks}
use Rattle.ob_invocation_spec.specs.Replies.{Refusal}
use Rattle.ob_invocation_spec.specs.Requests.{Request, NewRequest, new_request}
use Rattle.ob_machine_meaning.specs.Meanings.{machine_meaning, machine_invocation}
use Rattle.ob_request_run_laws.specs.Runs.{opened}
use Rattle.ob_request_run_laws.specs.Slices.{with_thing, slice}
use Rattle.ob_request_run_laws.specs.Slices as run
use Rattle.ob_request_run_laws.proofs.Whole.{slices_come_to}
use Rattle.ob_wire.specs.Meanings.{argument_meant}
use Rattle.ob_wire.specs.Refusals.{refusal_told}
use Rattle.ob_wire.specs.declared.request.Op.TheVariants.{New}
use Rattle.ob_exec_entries.specs.Entering.{EntersSo, IsRefusedBy}
use Rattle.ob_exec_handles.specs.Spending.{item_of}
use Rattle.ob_exec.specs.Pausing.{SliceLeads}
use Rattle.ob_exec.specs.Reading.{new_reads}
use Rattle.ob_exec.proofs.OpeningLemmas.{refused_ends, refused_comes}
use Rattle.ob_exec.proofs.ReadingLemmas.{new_told, refused_spends}
use Rattle.ob_exec.proofs.SliceLemmas.{asked_by, enters_so, opens_so}
use Rattle.ob_exec.proofs.opening.open_new.Goals as goal

pub enter-requires : goal.enter-requires
enter-requires c =
    let image = c.args.code.now in
    let base = c.args.content.now in
    let content = content_of base in
    let who = c.args.who.now in
    let op = New c.args.contract.now c.args.args.now c.args.into.now in
    let r : NewRequest = record { contract = c.args.contract.now; args = map argument_meant c.args.args.now; into = c.args.into.now } in
    let entered = c.in-Ok.entered in
    let k : EntersSo content (new_checks (table_of_image image) content who r) (entry_of_new (table_of_image image) who r) who entered =
    subst (λ (x : Image). EntersSo content (new_checks (table_of_image x) content who r) (entry_of_new (table_of_image x) who r) who entered) c.image.ensures.image c.in-Ok.ensures.entered in (
      asked_by c.args.fuel who op k.entry (reads_of (new_checks (table_of_image image) content who r)),
      enters_so image c.args.fuel base who op entered c.new-reads.result k
          (c.new-reads.ensures ∙ c.in_ok-reads-in-Ok.ensures
          ∙ sym (new_told (table_of_image image) content who c.args.contract.now c.args.args.now c.args.into.now
          (λ none refuses. none_some (sym none ∙ k.is))
          ∙ ap (λ (x : Option Refusal). new_reads content who c.args.args.now c.args.into.now (option_map refusal_told x)) k.passed)) c.requires.right,
    )

pub returns-in_ok-reads-in-Ok : goal.returns-in_ok-reads-in-Ok
returns-in_ok-reads-in-Ok c =
    let image = c.args.code.now in
    let base = c.args.content.now in
    let content = content_of base in
    let who = c.args.who.now in
    let op = New c.args.contract.now c.args.args.now c.args.into.now in
    let r : NewRequest = record { contract = c.args.contract.now; args = map argument_meant c.args.args.now; into = c.args.into.now } in
    let entered = c.in-Ok.entered in
    let k : EntersSo content (new_checks (table_of_image image) content who r) (entry_of_new (table_of_image image) who r) who entered =
    subst (λ (x : Image). EntersSo content (new_checks (table_of_image x) content who r) (entry_of_new (table_of_image x) who r) who entered) c.image.ensures.image c.in-Ok.ensures.entered in
    subst (λ x. IfOk c.enter.result (λ end. SliceLeads image base x end c.enter.new.stage)) (sym (opens_so image c.args.fuel base who op k.entry c.args.units k.passed k.is))
    (c.enter.ensures (asked_by c.args.fuel who op k.entry (reads_of (new_checks (table_of_image image) content who r)))
    (enters_so image c.args.fuel base who op entered c.new-reads.result k
    (c.new-reads.ensures ∙ c.in_ok-reads-in-Ok.ensures
    ∙ sym (new_told (table_of_image image) content who c.args.contract.now c.args.args.now c.args.into.now
    (λ none refuses. none_some (sym none ∙ k.is))
    ∙ ap (λ (x : Option Refusal). new_reads content who c.args.args.now c.args.into.now (option_map refusal_told x)) k.passed)) c.requires.right))

pub returns-in_ok-reads-in-Err-Refused : goal.returns-in_ok-reads-in-Err-Refused
returns-in_ok-reads-in-Err-Refused c =
    let image = c.args.code.now in
    let base = c.args.content.now in
    let content = content_of base in
    let who = c.args.who.now in
    let op = New c.args.contract.now c.args.args.now c.args.into.now in
    let r : NewRequest = record { contract = c.args.contract.now; args = map argument_meant c.args.args.now; into = c.args.into.now } in
    let q : Request = record { who = who; operation = new_request r } in
    let refusal = c.in-Err-Refused.refusal in
    let why : option_map refusal_told (refusal_of (new_checks (table_of_image image) content who r)) ≡ Some refusal =
    subst (λ (x : Image). option_map refusal_told (refusal_of (new_checks (table_of_image x) content who r)) ≡ Some refusal) c.image.ensures.image
    (subst (IsRefusedBy (new_checks (table_of_image c.image.result.now) content who r)) c.in-Err-Refused.field-0-is c.in-Err-Refused.ensures.refused) in
    let go = λ (reads : List ReadItem). with_found (entry_of_new (table_of_image image) who r) (enter_entry (machine_meaning image) (table_of_image image) content c.args.fuel reads) in
    c.at_once.ensures image base (slice image c.args.fuel content c.args.units (opened q)) c.args.stage.now (machine_invocation image content q c.args.fuel)
    (slices_come_to image c.args.fuel content q (c.args.units ∷ []) (leads_ahead image c.image.ensures.verified))
    (refused_ends (refusal_of (new_checks (table_of_image image) content who r)) (reads_of (new_checks (table_of_image image) content who r))
    (λ reads. with_thing (entry_of_new (table_of_image image) who r) (run.enters image c.args.fuel content c.args.units q reads)) refusal why)
    (refused_comes base (refusal_of (new_checks (table_of_image image) content who r)) (reads_of (new_checks (table_of_image image) content who r)) go refusal c.refused_with.result.answer c.refused_with.result.delta why
    c.refused_with.ensures.told (c.refused_with.ensures.same base))
    (refused_spends content (new_checks (table_of_image image) content who r) go c.refused_with.result.spent refusal why c.refused_with.ensures.taken
    (ap (map item_of) c.refused_with.ensures.reads ∙ c.in_ok-reads-in-Err-Refused.ensures
    ∙ sym (new_told (table_of_image image) content who c.args.contract.now c.args.args.now c.args.into.now
    (λ none refuses. none_some (sym (ap (option_map refusal_told) refuses) ∙ why))
    ∙ ap (λ x. new_reads content who c.args.args.now c.args.into.now x) why)))
