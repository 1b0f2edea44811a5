-- Stores that are the same but for the memory that they have taken.
use Rattle.std.proofs.Common.{◌≡◌, ℕ, ℤ, List, Option, option_map, map, length, sym, ◌∙◌, ap, subst}
use Rattle.ob_base.specs.declared.name.Label.{Label}
use Rattle.ob_disk_spec.specs.Disk.{DiskView}
use Rattle.ob_heap.specs.Contents.{Stored, content_of, named_of}
use Rattle.ob_heap.specs.Deltas.{IsDelta, AreNext, with_handles}
use Rattle.ob_heap.specs.Differences.{with_objects}
use Rattle.ob_heap.specs.Plain.{object_of}
use Rattle.ob_heap.specs.declared.delta.Delta.{Delta}
use Rattle.ob_heap.specs.declared.object.Object.{Object}
use Rattle.ob_heap.specs.declared.object.Handle.{Handle}
use Rattle.ob_heap_spec.specs.Contents.{Content}
use Rattle.ob_journal.specs.Journals.{area_size}
use Rattle.ob_journal.specs.declared.journal.Journal.{Journal}
use Rattle.ob_owners.specs.Indexes.{IsIndexOf}
use Rattle.ob_store_spec.specs.Stores.{StoreProgram, StoreState}
use Rattle.ob_store_laws.specs.Recorded.{content_with}
use Rattle.ob_store.specs.Stores.{gate_of, serial_of, state_of, area_of_store, HasImageIn, IsSameStore, IsKeptIn, TellsOwners, StandsOn}
use Rattle.ob_store.specs.Preparing.{IsBuiltFor, SaysWhatDiffers, IsPrepared}
use Rattle.ob_store.specs.declared.store.Store.{Store}
use Rattle.ob_store.specs.declared.store.Prepared.{Prepared}

-- the content of objects and handles
abbrev pub content_by : List Object → List ((Label × Label) × Handle) → Content
content_by objects handles = record { objects = map object_of objects; handles = map named_of handles }

pub same_by : (os ps : List Object) (hs gs : List ((Label × Label) × Handle)) → ps ≡ os → gs ≡ hs → content_by ps gs ≡ content_by os hs
same_by os ps hs gs objects handles = ap (λ (x : List Object). content_by x gs) objects ∙ ap (λ (x : List ((Label × Label) × Handle)). content_by os x) handles

pub same_content : (a b : Stored) → b.objects ≡ a.objects → b.handles ≡ a.handles → content_of b ≡ content_of a
same_content a b objects handles = same_by a.objects b.objects a.handles b.handles objects handles

pub same_after : (a b : Stored) (delta : Delta) → b.objects ≡ a.objects → b.handles ≡ a.handles → content_with b delta ≡ content_with a delta
same_after a b delta objects handles =
    same_by (with_objects a.objects delta.objects) (with_objects b.objects delta.objects) (with_handles a.handles delta.handles) (with_handles b.handles delta.handles)
    (ap (λ (x : List Object). with_objects x delta.objects) objects) (ap (λ (x : List ((Label × Label) × Handle)). with_handles x delta.handles) handles)

pub same_parts : (c d : Content) (m n : ℕ) (y z : ℤ) → d ≡ c → n ≡ m → z ≡ y
    → ◌≡◌ {A = StoreState} (record { content = d; gate = n; serial = z }) (record { content = c; gate = m; serial = y })
same_parts c d m n y z content gate serial =
    let S : Content → ℕ → ℤ → StoreState = λ c n z. record { content = c; gate = n; serial = z } in
    ap (λ (x : Content). S x n z) content ∙ ap (λ (x : ℕ). S c x z) gate ∙ ap (λ (x : ℤ). S c m x) serial

pub same_state : (a b : Store) → IsSameStore a b → state_of b ≡ state_of a
same_state a b same =
    same_parts (content_of a.content) (content_of b.content) (gate_of a.journal) (gate_of b.journal) (serial_of a.journal) (serial_of b.journal)
    (same_content a.content b.content same.objects same.handles) (ap gate_of same.journal) (ap serial_of same.journal)

pub same_area : (a b : Store) → IsSameStore a b → area_of_store b ≡ area_of_store a
same_area a b same = ap (option_map area_size) same.journal

same_delta : (a b : Stored) (delta : Delta) → b.objects ≡ a.objects → IsDelta a delta → IsDelta b delta
same_delta a b delta objects is = record {
  objects = is.objects;
  next = subst (λ (os : List Object). AreNext (length os) delta.objects) (sym objects) is.next;
  handles = is.handles;
}

pub same_prepared : (program : StoreProgram) (a b : Store) (prepared : Prepared) → IsSameStore a b → IsPrepared program a prepared → IsPrepared program b prepared
same_prepared program a b prepared same is =
    let journal = sym same.journal in
    let before = sym (same_content a.content b.content same.objects same.handles) in
    let after = sym (same_after a.content b.content prepared.delta same.objects same.handles) in
    record {
      image = subst (λ (j : Option Journal). HasImageIn program j) journal is.image;
      delta = same_delta a.content b.content prepared.delta same.objects is.delta;
      built = subst (λ (j : Option Journal). IsBuiltFor j prepared.built) journal is.built;
      says = subst (λ (j : Option Journal). SaysWhatDiffers program j (content_of b.content) (content_with b.content prepared.delta) prepared.built) journal
          (subst (λ (x : Content). SaysWhatDiffers program a.journal (content_of b.content) x prepared.built) after
          (subst (λ (x : Content). SaysWhatDiffers program a.journal x (content_with a.content prepared.delta) prepared.built) before is.says));
    }

pub same_stands : (program : StoreProgram) (a b : Store) (v : DiskView) → IsSameStore a b → TellsOwners program b → StandsOn program a v → StandsOn program b v
same_stands program a b v same owners stands = record {
  owners = owners;
  kept = subst (λ (j : Option Journal). IsKeptIn program (content_of b.content) j v) (sym same.journal)
      (subst (λ (x : Content). IsKeptIn program x a.journal v) (sym (same_content a.content b.content same.objects same.handles)) stands.kept);
}

-- an index of one of them is one of the other
pub same_owners : (program : StoreProgram) (a b : Store) → IsSameStore a b → IsIndexOf program.table (content_of a.content) b.owners → TellsOwners program b
same_owners program a b same is =
    subst (λ (x : Content). IsIndexOf program.table x b.owners) (sym (same_content a.content b.content same.objects same.handles)) is
