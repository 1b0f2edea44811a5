use Rattle.std.proofs.Common.{sym, subst, Err}
use Rattle.ob_code.specs.declared.image.Image.{Image}
use Rattle.ob_heap.specs.Contents.{Stored, content_of}
use Rattle.ob_journal.specs.declared.journal.Found.{Found}
use Rattle.ob_store.specs.Opening.{Rebuilds, FaultsAs}
use Rattle.ob_store.specs.Reading.{ReadsStore, NeedsNoArea}
use Rattle.ob_store.specs.Stores.{program_of}
use Rattle.ob_store.specs.declared.error.OpenError.{OpenError}
use Rattle.ob_store.proofs.Opened.{empty_of, rest_empty, blank_found, current_in, found_opens, rebuilt_calm, rebuilt_rests, not_found, faults_as}
use Rattle.ob_store.proofs.ReadingLemmas.{blank_reads, refused, faults, held_needs, held_reads, held_rests, held_faults, not_found_needs}
use Rattle.ob_store.proofs.Unchanged.{kept_behind}
use Rattle.ob_store.proofs.reading.read_store.Goals as goal

-- ---- a blank disk

pub returns-in-Ok-Blank-clause-read : goal.returns-in-Ok-Blank-clause-read
returns-in-Ok-Blank-clause-read g c = λ c' reads.
    blank_reads (program_of c.args.code.now) c.args.area c' (content_of c.new.result) (empty_of c.new.result c.new.ensures.objects c.new.ensures.handles)
    (blank_found c.args.area _ c' c.in-Ok-Blank.field-0-is (c.in-Ok-Blank.ensures.found c' reads))

pub returns-in-Ok-Blank-clause-at_rest : goal.returns-in-Ok-Blank-clause-at_rest
returns-in-Ok-Blank-clause-at_rest g c =
    let program = program_of c.args.code.now in rest_empty program.table (content_of c.new.result) (empty_of c.new.result c.new.ensures.objects c.new.ensures.handles)

-- ---- a journal is there

pub returns-in-Ok-Current-clause-read : goal.returns-in-Ok-Current-clause-read
returns-in-Ok-Current-clause-read g c = λ c' reads.
    let there = current_in c.args.area _ c.in-Ok-Current.journal c.in-Ok-Current.recorded _ c.in-Ok-Current.field-0-is c.in-Ok-Current.ensures.whole in
    held_reads (program_of c.args.code.now) c.args.area c' _ _ c.content_in.ensures
    (found_opens (program_of c.args.code.now) c.args.area _ c.in-Ok-Current.journal c.in-Ok-Current.recorded _ _ c' c.in-Ok-Current.field-0-is
    (λ payloads has. subst (λ (x : Image). Rebuilds (program_of x) c.in-Ok-Current.journal payloads c.rebuilt.result) c.image.ensures.image (c.rebuilt.ensures payloads has))
    c.in-Ok-Current.ensures.whole (c.in-Ok-Current.ensures.found c' reads))
    (held_needs (program_of c.args.code.now) c.in-Ok-Current.journal there.payloads _ _ c.content_in.ensures
    (subst (λ (x : Image). Rebuilds (program_of x) c.in-Ok-Current.journal there.payloads c.rebuilt.result) c.image.ensures.image (c.rebuilt.ensures there.payloads there.has)))

pub returns-in-Ok-Current-clause-area : goal.returns-in-Ok-Current-clause-area
returns-in-Ok-Current-clause-area g c =
    let there = current_in c.args.area _ c.in-Ok-Current.journal c.in-Ok-Current.recorded _ c.in-Ok-Current.field-0-is c.in-Ok-Current.ensures.whole in
    held_needs (program_of c.args.code.now) c.in-Ok-Current.journal there.payloads _ _ c.content_in.ensures
    (subst (λ (x : Image). Rebuilds (program_of x) c.in-Ok-Current.journal there.payloads c.rebuilt.result) c.image.ensures.image (c.rebuilt.ensures there.payloads there.has))

pub returns-in-Ok-Current-clause-at_rest : goal.returns-in-Ok-Current-clause-at_rest
returns-in-Ok-Current-clause-at_rest g c =
    let there = current_in c.args.area _ c.in-Ok-Current.journal c.in-Ok-Current.recorded _ c.in-Ok-Current.field-0-is c.in-Ok-Current.ensures.whole in
    held_rests (program_of c.args.code.now) _ _ c.content_in.ensures
    (rebuilt_rests (program_of c.args.code.now) c.in-Ok-Current.journal there.payloads _
    (subst (λ (x : Image). Rebuilds (program_of x) c.in-Ok-Current.journal there.payloads c.rebuilt.result) c.image.ensures.image (c.rebuilt.ensures there.payloads there.has)))

pub returns-in-Ok-Current-clause-cause : goal.returns-in-Ok-Current-clause-cause
returns-in-Ok-Current-clause-cause g c =
    let there = current_in c.args.area _ c.in-Ok-Current.journal c.in-Ok-Current.recorded _ c.in-Ok-Current.field-0-is c.in-Ok-Current.ensures.whole in
    held_faults _ _ _ _ c.content_in.ensures
    (rebuilt_calm (program_of c.args.code.now) c.in-Ok-Current.journal there.payloads _ _ _
    (subst (λ (x : Image). Rebuilds (program_of x) c.in-Ok-Current.journal there.payloads c.rebuilt.result) c.image.ensures.image (c.rebuilt.ensures there.payloads there.has)) c.in-Ok-Current.ensures.cause)

-- ---- none is found

pub returns-in-Err-clause-read : goal.returns-in-Err-clause-read
returns-in-Err-clause-read g c = λ c' reads.
    let P : OpenError → Type 0 = λ e. ReadsStore (program_of c.args.code.now) c.args.area (Err e) c' in
    subst P (sym c.refused_by.ensures)
    (refused (program_of c.args.code.now) c.args.area c' _ (not_found (program_of c.args.code.now) c.args.area c.in-Err.error c' (c.in-Err.ensures.found c' reads))
    (not_found_needs c.in-Err.error c.in-Err.ensures.room))

pub returns-in-Err-clause-area : goal.returns-in-Err-clause-area
returns-in-Err-clause-area g c =
    let P : OpenError → Type 0 = λ e. NeedsNoArea (Err e) in subst P (sym c.refused_by.ensures) (not_found_needs c.in-Err.error c.in-Err.ensures.room)

pub returns-in-Err-clause-cause : goal.returns-in-Err-clause-cause
returns-in-Err-clause-cause g c =
    let P : OpenError → Type 0 = λ e. FaultsAs {T = Stored} (Err e) (g.D.Disk.view c.args.disk.now).faults (g.D.Disk.view c.find.new.disk).faults in
    subst P (sym c.refused_by.ensures) (faults _ _ _ (faults_as Found c.in-Err.error _ _ c.in-Err.ensures.cause))

-- ---- no byte of the disk changed

pub returns-in-Ok-Blank-clause-quiet : goal.returns-in-Ok-Blank-clause-quiet
returns-in-Ok-Blank-clause-quiet g c = kept_behind _ _ (c.find.ensures.behind 0) c.find.ensures.quiet

pub returns-in-Ok-Current-clause-quiet : goal.returns-in-Ok-Current-clause-quiet
returns-in-Ok-Current-clause-quiet g c = kept_behind _ _ (c.find.ensures.behind 0) c.find.ensures.quiet

pub returns-in-Err-clause-quiet : goal.returns-in-Err-clause-quiet
returns-in-Err-clause-quiet g c = kept_behind _ _ (c.find.ensures.behind 0) c.find.ensures.quiet
