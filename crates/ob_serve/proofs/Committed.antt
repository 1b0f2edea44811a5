-- What committing leaves of a store and of its disk.
use Rattle.std.proofs.Common.{◌≡◌, ◌⊎◌, inl, inr, ℕ, List, Option, Some, None, refl, sym, ◌∙◌, ap, subst}
use Rattle.std.specs.Prelude.{◌≢◌, Result, Ok, Err, IsErrOf}
use Rattle.ob_io.specs.Causes.{Rose}
use Rattle.ob_serve.specs.declared.committing.KeepError.{KeepError}
use Rattle.ob_serve.specs.declared.committing.KeepError.TheVariants.{Memory as KeepMemory, DiskFault as KeepFault}
use Rattle.ob_disk_spec.specs.Disk.{DiskView}
use Rattle.ob_disk_spec.specs.Calls.{IsUntouched}
use Rattle.ob_disk_spec.specs.Durable.{May, Throughout, During}
use Rattle.ob_disk_spec.proofs.Untouched.{untouched_during}
use Rattle.ob_disk_spec.proofs.Moments.{throughout_to, throughout_may, during_to, during_none}
use Rattle.ob_heap.specs.Contents.{content_of}
use Rattle.ob_rest_spec.specs.AtRest.{IsStoreAtRest}
use Rattle.ob_store_laws.specs.Recorded.{content_with}
use Rattle.ob_store_spec.specs.Settling.{settled}
use Rattle.ob_store_spec.specs.Stores.{StoreProgram, StoreState}
use Rattle.ob_store.specs.Stores.{area_of_store, kept_of, state_of, StandsOn}
use Rattle.ob_store.specs.Preparing.{IsPrepared, delta_prepared}
use Rattle.ob_store.specs.Committing.{IsReady, StandsBeforeOrAfter}
use Rattle.ob_store.specs.declared.store.Store.{Store}
use Rattle.ob_store.specs.declared.store.Prepared.{Prepared}
use Rattle.ob_store.proofs.Standing.{stores_stand}
use Rattle.ob_serve.specs.Standing.{RepresentsStore}
use Rattle.ob_serve.specs.Stops.{LineReader, IsStop, CommitsTo, LeadsOn}
use Rattle.ob_serve.specs.declared.serving.Served.{Served}
use Rattle.ob_serve.specs.declared.serving.Served.TheVariants as ended

-- a disk and each image of it represent the store
pub stands_through : (program : StoreProgram) (store : Store) (v : DiskView) → StandsOn program store v → IsStoreAtRest program.table (content_of (kept_of store))
    → Throughout v (RepresentsStore program (area_of_store store) (state_of store))
stands_through program store v stands rests = by_area (area_of_store store) refl
  where
    by_area : (area : Option ℕ) → area_of_store store ≡ area → Throughout v (RepresentsStore program area (state_of store))
    by_area None is = record { content = λ c reads. tt; images = λ c left. tt }
    by_area (Some size) is = stores_stand program store size v is stands rests

one_store : (t s : StoreState) → ◌≡◌ {A = Result StoreState (ℕ × ℕ)} (Ok t) (Ok s) → t ≡ s
one_store t s same = cc

-- where there is nothing to commit
pub none_leads : (program : StoreProgram) (after : StoreState) (store : Store) (prepared : Option Prepared) → prepared ≡ None → LeadsOn program store after prepared → after ≡ state_of store
none_leads program after store prepared none leads = subst (LeadsOn program store after) none leads

pub some_leads : (program : StoreProgram) (after : StoreState) (store : Store) (prepared : Option Prepared) (p : Prepared) → prepared ≡ Some p → LeadsOn program store after prepared → CommitsTo program store p after
some_leads program after store prepared p some leads = subst (LeadsOn program store after) some leads

-- a disk on which nothing was done
pub quiet_crash : (program : StoreProgram) (after : StoreState) (store : Store) (v : DiskView) → StandsOn program store v → IsStoreAtRest program.table (content_of (kept_of store))
    → During v v (λ c. RepresentsStore program (area_of_store store) (state_of store) c ⊎ RepresentsStore program (area_of_store store) after c)
quiet_crash program after store v stands rests = during_none v _ (throughout_to v _ _ (stands_through program store v stands rests) (λ c stood. inl stood))

-- a store for which room was made is the same one
module _ (program : StoreProgram) (after : StoreState) (store same : Store) (p : Prepared) (leads : CommitsTo program store p after) (state : state_of same ≡ state_of store)
    (area : area_of_store same ≡ area_of_store store) (content : content_with (kept_of same) (delta_prepared p) ≡ content_with (kept_of store) (delta_prepared p))
    (prepared : IsPrepared program same p) where
  pub ready_again : IsReady program same p
  ready_again = record {
    storable = leads.ready.storable;
    before = subst (λ (s : StoreState). IsStoreAtRest program.table s.content) (sym state) leads.ready.before;
    after = subst (IsStoreAtRest program.table) (sym content) leads.ready.after;
    is_prepared = prepared;
  }

  settles_again : settled program (area_of_store same) (state_of same) (content_with (kept_of same) (delta_prepared p)) ≡ Ok after
  settles_again =
      ap (λ (a : Option ℕ). settled program a (state_of same) (content_with (kept_of same) (delta_prepared p))) area
      ∙ ap (λ (s : StoreState). settled program (area_of_store store) s (content_with (kept_of same) (delta_prepared p))) state
      ∙ ap (settled program (area_of_store store) (state_of store)) content ∙ leads.settles

  pub kept_after : (new : Store) → settled program (area_of_store same) (state_of same) (content_with (kept_of same) (delta_prepared p)) ≡ Ok (state_of new) → state_of new ≡ after
  kept_after new settles = one_store (state_of new) after (sym settles ∙ settles_again)

  -- a crash leaves the store before or after
  pub crash_leaves : (old new : DiskView) → (area_of_store same ≡ None → IsUntouched old new)
      → ((size : ℕ) → area_of_store same ≡ Some size → During old new (StandsBeforeOrAfter program size (state_of same) (content_with (kept_of same) (delta_prepared p))))
      → During old new (λ c. RepresentsStore program (area_of_store store) (state_of store) c ⊎ RepresentsStore program (area_of_store store) after c)
  crash_leaves old new none some = by_area (area_of_store store) refl
    where
      to_after : (size : ℕ) (c : List ℕ) → area_of_store store ≡ Some size → StandsBeforeOrAfter program size (state_of same) (content_with (kept_of same) (delta_prepared p)) c
          → RepresentsStore program (Some size) (state_of store) c ⊎ RepresentsStore program (Some size) after c
      to_after size c is (inl before) = inl (subst (λ (s : StoreState). RepresentsStore program (Some size) s c) state before)
      to_after size c is (inr later) =
          inr (subst (λ (s : StoreState). RepresentsStore program (Some size) s c) (one_store later.0 after (sym later.1 ∙ ap (λ (a : Option ℕ). settled program a (state_of same) (content_with (kept_of same) (delta_prepared p))) (sym (area ∙ is)) ∙ settles_again)) later.2)

      by_area : (a : Option ℕ) → area_of_store store ≡ a → During old new (λ c. RepresentsStore program a (state_of store) c ⊎ RepresentsStore program a after c)
      by_area None is = during_to old new _ _ (untouched_during old new (none (area ∙ is))) (λ c may. inl tt)
      by_area (Some size) is = during_to old new _ _ (some size (area ∙ is)) (λ c stood. to_after size c is stood)

-- a disk represents a store, said of its place and of what it is
pub stands_now : (program : StoreProgram) (store : Store) (v : DiskView) (area : Option ℕ) (s : StoreState) → area_of_store store ≡ area → state_of store ≡ s → StandsOn program store v
    → IsStoreAtRest program.table (content_of (kept_of store)) → Throughout v (RepresentsStore program area s)
stands_now program store v area s in_area is stands rests =
    subst (λ (t : StoreState). Throughout v (RepresentsStore program area t)) is
    (subst (λ (a : Option ℕ). Throughout v (RepresentsStore program a (state_of store))) in_area (stands_through program store v stands rests))

-- a disk of which no byte changed
pub quiet_stands : (mid new : DiskView) (P : List ℕ → Type 0) → During mid new (May mid) → Throughout mid P → Throughout new P
quiet_stands mid new P next here = throughout_to new _ _ next.now (throughout_may mid P here)

-- what keeping answered
pub keeps_quiet : (r : Result (Unit {0}) KeepError) (mid new : DiskView) → r ≡ Err KeepMemory → (IsErrOf r KeepMemory → IsUntouched mid new) → IsUntouched mid new
keeps_quiet r mid new is memory = memory (subst (λ (x : Result (Unit {0}) KeepError). IsErrOf x KeepMemory) (sym is) refl)

pub disk_rose : (r : Result (Unit {0}) KeepError) (before now : ℕ) → r ≡ Err KeepFault → (IsErrOf r KeepFault → Rose before now) → Rose before now
disk_rose r before now is cause = cause (subst (λ (x : Result (Unit {0}) KeepError). IsErrOf x KeepFault) (sym is) refl)

-- what ends a session while it reads is no failure of the disk
pub no_disk_stop : (old new : LineReader) (served : Served) → IsStop old new served → served ≢ ended.DiskFault
no_disk_stop old new ended.Done stop = λ is. cc is
no_disk_stop old new ended.ReadFault stop = λ is. cc is
no_disk_stop old new ended.Long stop = λ is. cc is
no_disk_stop old new ended.Memory stop = λ is. cc is
no_disk_stop old new ended.WriteFault stop = absurd stop
no_disk_stop old new ended.DiskFault stop = absurd stop
