use Rattle.std.proofs.Common.{List, ℕ, ◌∙◌, ap, refl, subst}
use Rattle.ob_disk_spec.specs.Durable.{During}
use Rattle.ob_disk_spec.proofs.Behind.{behind_none}
use Rattle.ob_journal_spec.specs.Areas.{begun, next_gate}
use Rattle.ob_journal_spec.specs.Disks.{IsBlankOrBegunDisk}
use Rattle.ob_journal.specs.Moments.{IsFresh}
use Rattle.ob_code_table.specs.ImageTables.{table_of_image}
use Rattle.ob_heap.specs.Contents.{content_of}
use Rattle.ob_store.proofs.Opened.{empty_of, kept_empty}
use Rattle.ob_store.proofs.opening.begin_store.Goals as goal

pub returns-in-Ok-begin-clause-begun : goal.returns-in-Ok-begin-clause-begun
returns-in-Ok-begin-clause-begun g c =
    let none = empty_of c.new.result c.new.ensures.objects c.new.ensures.handles in
    let made = c.in-Ok-index_owners.ensures in
    record {
      journal = c.in-Ok-begin.journal;
      journal_is = refl;
      content = ap content_of made.content_is ∙ none;
      says = c.in-Ok-begin.ensures.begun.0 ∙ ap begun (c.as_slice.ensures.value ∙ c.in-Ok.ensures.is);
      gate = c.in-Ok-begin.ensures.begun.1 ∙ ap (λ (l : List ℕ). next_gate (begun l)) (c.as_slice.ensures.value ∙ c.in-Ok.ensures.is);
      area = c.in-Ok-begin.ensures.begun.2;
      owners = made.owners (kept_empty (table_of_image c.args.code.now) (content_of c.new.result) none).is_content;
    }

pub returns-in_default-clause-behind : goal.returns-in_default-clause-behind
returns-in_default-clause-behind g c = behind_none c.args.area (g.D.Disk.view c.args.disk.now)

pub returns-in_default-index_owners-clause-behind : goal.returns-in_default-index_owners-clause-behind
returns-in_default-index_owners-clause-behind g c = behind_none c.args.area (g.D.Disk.view c.args.disk.now)

-- the bytes that are written are those of the image
pub returns-in-Ok-begin-clause-crash : goal.returns-in-Ok-begin-clause-crash
returns-in-Ok-begin-clause-crash g c =
    let old = g.D.Disk.view c.args.disk.now in
    let new = g.D.Disk.view c.begin.new.disk in
    subst (λ (l : List ℕ). IsFresh c.args.area old → During old new (IsBlankOrBegunDisk c.args.area l)) (c.as_slice.ensures.value ∙ c.in-Ok.ensures.is) c.begin.ensures.crash

pub returns-clause-crash : goal.returns-clause-crash
returns-clause-crash g c =
    let old = g.D.Disk.view c.args.disk.now in
    let new = g.D.Disk.view c.begin.new.disk in
    subst (λ (l : List ℕ). IsFresh c.args.area old → During old new (IsBlankOrBegunDisk c.args.area l)) (c.as_slice.ensures.value ∙ c.in-Ok.ensures.is) c.begin.ensures.crash
