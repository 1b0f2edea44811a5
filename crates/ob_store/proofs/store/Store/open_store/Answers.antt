use Rattle.std.proofs.Common.{inl, inr, sym, subst, ℕ, Err, IfOk}
use Rattle.ob_disk_spec.proofs.Behind.{behind_then}
use Rattle.ob_code.specs.Images.{image}
use Rattle.ob_code.specs.declared.image.Image.{Image}
use Rattle.ob_disk_spec.specs.Durable.{During}
use Rattle.ob_journal_spec.specs.Disks.{IsBlankOrBegunDisk}
use Rattle.ob_journal.specs.Moments.{IsFresh}
use Rattle.ob_store.specs.Stores.{program_of, StandsOn}
use Rattle.ob_journal.specs.declared.journal.Found.{Found}
use Rattle.ob_store.specs.Opening.{Opens, BeginsStore, Rebuilds, LacksArea, StaysUnlessBlank, FaultsAs}
use Rattle.ob_store.specs.declared.store.Store.{Store}
use Rattle.ob_store.specs.declared.error.OpenError.{OpenError}
use Rattle.ob_store.proofs.Unchanged.{kept_behind}
use Rattle.ob_store.proofs.Opened.{blank_found, blank_in, current_in, begun_opens, begun_area, begun_rests, begun_lacks, begun_stays, if_fresh, found_opens, rebuilt_calm, rebuilt_area, rebuilt_rests, rebuilt_stands, rebuilt_lacks, rebuilt_stays, not_found, not_found_lacks, not_found_stays, faults_as, unwritten, begun_behind}
use Rattle.ob_store.proofs.store.Store.open_store.Goals as goal

-- ---- a blank disk is begun

pub returns-in-Ok-Blank-clause-opened : goal.returns-in-Ok-Blank-clause-opened
returns-in-Ok-Blank-clause-opened g c = λ c' reads.
    begun_opens (program_of c.args.code.now) c.args.area _ c' (subst (λ (x : Image). BeginsStore (program_of x) c.args.area c.begin_store.result) c.image.ensures.image c.begin_store.ensures.begun)
    (blank_found c.args.area _ c' c.in-Ok-Blank.field-0-is (c.in-Ok-Blank.ensures.found c' reads))

pub returns-in-Ok-Blank-clause-room : goal.returns-in-Ok-Blank-clause-room
returns-in-Ok-Blank-clause-room g c = begun_lacks (program_of c.args.code.now) c.args.area _ (subst (λ (x : Image). BeginsStore (program_of x) c.args.area c.begin_store.result) c.image.ensures.image c.begin_store.ensures.begun)

pub returns-in-Ok-Blank-clause-area : goal.returns-in-Ok-Blank-clause-area
returns-in-Ok-Blank-clause-area g c = begun_area (program_of c.args.code.now) c.args.area _ (subst (λ (x : Image). BeginsStore (program_of x) c.args.area c.begin_store.result) c.image.ensures.image c.begin_store.ensures.begun)

pub returns-in-Ok-Blank-clause-at_rest : goal.returns-in-Ok-Blank-clause-at_rest
returns-in-Ok-Blank-clause-at_rest g c = begun_rests (program_of c.args.code.now) c.args.area _ (subst (λ (x : Image). BeginsStore (program_of x) c.args.area c.begin_store.result) c.image.ensures.image c.begin_store.ensures.begun)

pub returns-in-Ok-Blank-clause-stands : goal.returns-in-Ok-Blank-clause-stands
returns-in-Ok-Blank-clause-stands g c = if_fresh _ _ _ (subst (λ (x : Image). IfOk c.begin_store.result (λ store. IsFresh c.args.area (g.D.Disk.view c.find.new.disk) → StandsOn (program_of x) store (g.D.Disk.view c.begin_store.new.disk))) c.image.ensures.image c.begin_store.ensures.stands) (blank_in c.args.area _ _ c.in-Ok-Blank.field-0-is c.in-Ok-Blank.ensures.whole)

pub returns-in-Ok-Blank-clause-quiet : goal.returns-in-Ok-Blank-clause-quiet
returns-in-Ok-Blank-clause-quiet g c = λ c' reads is_not.
    absurd (is_not (blank_found c.args.area _ c' c.in-Ok-Blank.field-0-is (c.in-Ok-Blank.ensures.found c' reads)))

pub returns-in-Ok-Blank-clause-still : goal.returns-in-Ok-Blank-clause-still
returns-in-Ok-Blank-clause-still g c = begun_stays (program_of c.args.code.now) c.args.area _ _ _ _ (subst (λ (x : Image). BeginsStore (program_of x) c.args.area c.begin_store.result) c.image.ensures.image c.begin_store.ensures.begun)
    (kept_behind _ _ (c.find.ensures.behind 0) c.find.ensures.quiet)
    (blank_in c.args.area _ _ c.in-Ok-Blank.field-0-is c.in-Ok-Blank.ensures.whole) c.begin_store.ensures.room

pub returns-in-Ok-Blank-clause-reads : goal.returns-in-Ok-Blank-clause-reads
returns-in-Ok-Blank-clause-reads g c = λ c' reads.
    let P : Image → Type 0 = λ x. IsBlankOrBegunDisk c.args.area (image.bytes x) c' in
    inr (subst P c.image.ensures.image ((c.begin_store.ensures.crash (blank_in c.args.area _ _ c.in-Ok-Blank.field-0-is c.in-Ok-Blank.ensures.whole)).now.content c' reads))

pub returns-in-Ok-Blank-clause-crash : goal.returns-in-Ok-Blank-clause-crash
returns-in-Ok-Blank-clause-crash g c =
    let P : Image → Type 0 = λ x. During (g.D.Disk.view c.find.new.disk) (g.D.Disk.view c.begin_store.new.disk) (IsBlankOrBegunDisk c.args.area (image.bytes x)) in
    begun_behind _ _ _ c.args.area _ c.find.ensures.quiet (subst P c.image.ensures.image (c.begin_store.ensures.crash (blank_in c.args.area _ _ c.in-Ok-Blank.field-0-is c.in-Ok-Blank.ensures.whole)))

pub returns-in-Ok-Blank-clause-cause : goal.returns-in-Ok-Blank-clause-cause
returns-in-Ok-Blank-clause-cause g c = subst (λ (n : ℕ). FaultsAs c.begin_store.result n (g.D.Disk.view c.begin_store.new.disk).faults) c.in-Ok-Blank.ensures.cause c.begin_store.ensures.cause

-- ---- a journal is there

pub returns-in-Ok-Current-clause-opened : goal.returns-in-Ok-Current-clause-opened
returns-in-Ok-Current-clause-opened g c = λ c' reads.
    found_opens (program_of c.args.code.now) c.args.area _ c.in-Ok-Current.journal c.in-Ok-Current.recorded _ _ c' c.in-Ok-Current.field-0-is
    (λ payloads has. subst (λ (x : Image). Rebuilds (program_of x) c.in-Ok-Current.journal payloads c.rebuilt.result) c.image-in-Ok-Current.ensures.image (c.rebuilt.ensures payloads has))
    c.in-Ok-Current.ensures.whole (c.in-Ok-Current.ensures.found c' reads)

pub returns-in-Ok-Current-clause-room : goal.returns-in-Ok-Current-clause-room
returns-in-Ok-Current-clause-room g c =
    let there = current_in c.args.area _ c.in-Ok-Current.journal c.in-Ok-Current.recorded _ c.in-Ok-Current.field-0-is c.in-Ok-Current.ensures.whole in
    rebuilt_lacks (program_of c.args.code.now) c.in-Ok-Current.journal there.payloads c.args.area _
    (subst (λ (x : Image). Rebuilds (program_of x) c.in-Ok-Current.journal there.payloads c.rebuilt.result) c.image-in-Ok-Current.ensures.image (c.rebuilt.ensures there.payloads there.has))

pub returns-in-Ok-Current-clause-area : goal.returns-in-Ok-Current-clause-area
returns-in-Ok-Current-clause-area g c =
    let there = current_in c.args.area _ c.in-Ok-Current.journal c.in-Ok-Current.recorded _ c.in-Ok-Current.field-0-is c.in-Ok-Current.ensures.whole in
    rebuilt_area (program_of c.args.code.now) c.in-Ok-Current.journal there.payloads c.args.area _
    (subst (λ (x : Image). Rebuilds (program_of x) c.in-Ok-Current.journal there.payloads c.rebuilt.result) c.image-in-Ok-Current.ensures.image (c.rebuilt.ensures there.payloads there.has)) there.area

pub returns-in-Ok-Current-clause-at_rest : goal.returns-in-Ok-Current-clause-at_rest
returns-in-Ok-Current-clause-at_rest g c =
    let there = current_in c.args.area _ c.in-Ok-Current.journal c.in-Ok-Current.recorded _ c.in-Ok-Current.field-0-is c.in-Ok-Current.ensures.whole in
    rebuilt_rests (program_of c.args.code.now) c.in-Ok-Current.journal there.payloads _
    (subst (λ (x : Image). Rebuilds (program_of x) c.in-Ok-Current.journal there.payloads c.rebuilt.result) c.image-in-Ok-Current.ensures.image (c.rebuilt.ensures there.payloads there.has))

pub returns-in-Ok-Current-clause-stands : goal.returns-in-Ok-Current-clause-stands
returns-in-Ok-Current-clause-stands g c =
    let there = current_in c.args.area _ c.in-Ok-Current.journal c.in-Ok-Current.recorded _ c.in-Ok-Current.field-0-is c.in-Ok-Current.ensures.whole in
    rebuilt_stands (program_of c.args.code.now) c.in-Ok-Current.journal there.payloads _ _
    (subst (λ (x : Image). Rebuilds (program_of x) c.in-Ok-Current.journal there.payloads c.rebuilt.result) c.image-in-Ok-Current.ensures.image (c.rebuilt.ensures there.payloads there.has)) there.holds

pub returns-in-Ok-Current-clause-quiet : goal.returns-in-Ok-Current-clause-quiet
returns-in-Ok-Current-clause-quiet g c = λ c' reads is_not. kept_behind _ _ (c.find.ensures.behind 0) c.find.ensures.quiet

pub returns-in-Ok-Current-clause-still : goal.returns-in-Ok-Current-clause-still
returns-in-Ok-Current-clause-still g c =
    let there = current_in c.args.area _ c.in-Ok-Current.journal c.in-Ok-Current.recorded _ c.in-Ok-Current.field-0-is c.in-Ok-Current.ensures.whole in
    rebuilt_stays (program_of c.args.code.now) c.in-Ok-Current.journal there.payloads _ _ _
    (subst (λ (x : Image). Rebuilds (program_of x) c.in-Ok-Current.journal there.payloads c.rebuilt.result) c.image-in-Ok-Current.ensures.image (c.rebuilt.ensures there.payloads there.has))
    (kept_behind _ _ (c.find.ensures.behind 0) c.find.ensures.quiet)

pub returns-in-Ok-Current-clause-reads : goal.returns-in-Ok-Current-clause-reads
returns-in-Ok-Current-clause-reads g c = λ c' reads. inl ((kept_behind _ _ (c.find.ensures.behind 0) c.find.ensures.quiet).content c' reads)

pub returns-in-Ok-Current-clause-crash : goal.returns-in-Ok-Current-clause-crash
returns-in-Ok-Current-clause-crash g c = unwritten _ _ c.args.area _ c.find.ensures.quiet

pub returns-in-Ok-Current-clause-cause : goal.returns-in-Ok-Current-clause-cause
returns-in-Ok-Current-clause-cause g c =
    let there = current_in c.args.area _ c.in-Ok-Current.journal c.in-Ok-Current.recorded _ c.in-Ok-Current.field-0-is c.in-Ok-Current.ensures.whole in
    rebuilt_calm (program_of c.args.code.now) c.in-Ok-Current.journal there.payloads _ _ _
    (subst (λ (x : Image). Rebuilds (program_of x) c.in-Ok-Current.journal there.payloads c.rebuilt.result) c.image-in-Ok-Current.ensures.image (c.rebuilt.ensures there.payloads there.has)) c.in-Ok-Current.ensures.cause

-- ---- none is found

pub returns-in-Err-clause-opened : goal.returns-in-Err-clause-opened
returns-in-Err-clause-opened g c = λ c' reads.
    let P : OpenError → Type 0 = λ e. Opens (program_of c.args.code.now) c.args.area (Err e) c' in
    subst P (sym c.refused_by.ensures) (not_found (program_of c.args.code.now) c.args.area c.in-Err.error c' (c.in-Err.ensures.found c' reads))

pub returns-in-Err-clause-room : goal.returns-in-Err-clause-room
returns-in-Err-clause-room g c =
    let P : OpenError → Type 0 = λ e. LacksArea (program_of c.args.code.now) c.args.area (Err e) in
    subst P (sym c.refused_by.ensures) (not_found_lacks (program_of c.args.code.now) c.args.area c.in-Err.error c.in-Err.ensures.room)

pub returns-in-Err-clause-quiet : goal.returns-in-Err-clause-quiet
returns-in-Err-clause-quiet g c = λ c' reads is_not. kept_behind _ _ (c.find.ensures.behind 0) c.find.ensures.quiet

pub returns-in-Err-clause-still : goal.returns-in-Err-clause-still
returns-in-Err-clause-still g c =
    let P : OpenError → Type 0 = λ e. StaysUnlessBlank (program_of c.args.code.now) (g.D.Disk.view c.args.disk.now) (g.D.Disk.view c.find.new.disk) (Err e) in
    subst P (sym c.refused_by.ensures) (not_found_stays (program_of c.args.code.now) _ _ c.in-Err.error (kept_behind _ _ (c.find.ensures.behind 0) c.find.ensures.quiet))

pub returns-in-Err-clause-reads : goal.returns-in-Err-clause-reads
returns-in-Err-clause-reads g c = λ c' reads. inl ((kept_behind _ _ (c.find.ensures.behind 0) c.find.ensures.quiet).content c' reads)

pub returns-in-Err-clause-crash : goal.returns-in-Err-clause-crash
returns-in-Err-clause-crash g c = unwritten _ _ c.args.area _ c.find.ensures.quiet

pub returns-in-Err-clause-cause : goal.returns-in-Err-clause-cause
returns-in-Err-clause-cause g c =
    let P : OpenError → Type 0 = λ e. FaultsAs {T = Store} (Err e) (g.D.Disk.view c.args.disk.now).faults (g.D.Disk.view c.find.new.disk).faults in
    subst P (sym c.refused_by.ensures) (faults_as Found c.in-Err.error _ _ c.in-Err.ensures.cause)

-- ---- what follows the area

pub returns-in-Ok-Blank-clause-behind : goal.returns-in-Ok-Blank-clause-behind
returns-in-Ok-Blank-clause-behind g c =
    behind_then c.args.area (g.D.Disk.view c.args.disk.now) (g.D.Disk.view c.find.new.disk) (g.D.Disk.view c.begin_store.new.disk) (c.find.ensures.behind c.args.area) c.begin_store.ensures.behind

pub returns-in-Ok-Current-clause-behind : goal.returns-in-Ok-Current-clause-behind
returns-in-Ok-Current-clause-behind g c = c.find.ensures.behind c.args.area

pub returns-in-Err-clause-behind : goal.returns-in-Err-clause-behind
returns-in-Err-clause-behind g c = c.find.ensures.behind c.args.area
