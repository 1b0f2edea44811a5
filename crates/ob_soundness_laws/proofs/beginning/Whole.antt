-- What is so of the whole where a run begins: how many places own an object, by what was at rest and what is used.
use Rattle.std.proofs.Common.{◌≡◌, ℕ, zero, suc, ◌+◌, ◌<◌, ◌≤◌, true, false, List, [], ◌∷◌, map, length, Option, Some, Bool, if◌then◌else◌, refl, sym, ap, subst, ◌∙◌, arith, ⊎_elim}
use Rattle.std.specs.Prelude.{All, slice_get}
use Rattle.std.specs.List.{list_any}
use Rattle.std.proofs.lemmas.Bool.{cases_Bool, both_ways}
use Rattle.ob_base.specs.declared.permission.Mode.{Mode}
use Rattle.ob_base.specs.declared.permission.Mode.TheVariants.{Owned, Shared, Unowned}
use Rattle.ob_perm.specs.Permissions.{owns, shared, unowned}
use Rattle.ob_perm.specs.Masks.{held}
use Rattle.ob_table.specs.Tables.{ClassTable}
use Rattle.ob_table_spec.specs.Conditions.{IsClassTable}
use Rattle.ob_heap_spec.specs.Objects.{Object}
use Rattle.ob_heap_spec.specs.Contents.{Content, IsHandle, IsObject}
use Rattle.ob_heap_spec.specs.Handles.{NamedHandle}
use Rattle.ob_silica_steps.specs.Configurations.{HandleNote, Notes}
use Rattle.ob_silica_steps.specs.Starting.{first_notes}
use Rattle.ob_places_laws.proofs.Tables.{each_at}
use Rattle.ob_coherent_spec.specs.Counting.{nth_object, in_objects, in_handles}
use Rattle.ob_coherent_spec.specs.Standing.{NeedsOwner, HandlesStand}
use Rattle.ob_soundness_laws.proofs.counting.Objects.{object_there}
use Rattle.ob_rest_spec.specs.Modes.{is_shared}
use Rattle.ob_rest_spec.specs.Incoming.{owners}
use Rattle.ob_rest_spec.specs.AtRest.{IsStoreAtRest}
use Rattle.ob_soundness_laws.proofs.stores.Fields.{stored_fields, first_declared}
use Rattle.ob_soundness_laws.proofs.stores.Handles.{owning_handles, store_owners_counted}
use Rattle.ob_invocation_spec.specs.Entries.{HandleUse}
use Rattle.ob_invocation_spec.specs.Refusals.{is_repeated}
use Rattle.ob_soundness_laws.specs.beginning.Uses.{owning_uses, sharing_uses, AreUses}
use Rattle.ob_invocation_laws.specs.Laws.{is_put, puts_of_uses}
use Rattle.ob_invocation_laws.proofs.Handles.{head_of, tail_of}
use Rattle.ob_soundness_laws.specs.Requests.{any_state, note_in_run}
use Rattle.ob_soundness_laws.specs.beginning.Marked.{AreMarked}
use Rattle.ob_soundness_laws.proofs.beginning.Rests.{handle_marks}
use Rattle.ob_soundness_laws.proofs.beginning.Totals.{lent, carried, total_one, total_disowned, total_shared, total_newly, total_asset, sharing_found, use_at}

-- a handle that carries Shared is a Shared one
carries_shared : (puts : List NamedHandle) (h : NamedHandle) → (note_in_run puts h).permission ≡ shared
    → is_shared h.1.mode ≡ true
carries_shared puts h e = go (is_put puts h.0) h.1.mode refl e
  where
    go : (b : Bool) (mode : Mode) → h.1.mode ≡ mode → (if b then unowned else held mode any_state) ≡ shared
        → is_shared h.1.mode ≡ true
    go true mode is e = absurd (cc)
    go false Owned is e = absurd (cc)
    go false Shared is e = ap is_shared is
    go false Unowned is e = absurd (cc)

-- handles stand where those of a store are on objects, no fewer are there, and those of Shared handles are marked
handles_of_store : (os : List Object) (us : List HandleUse) (hs : List NamedHandle) → All (IsHandle os) hs
    → (ps : List Object) → length os ≤ length ps
    → ((k : ℕ) (h : NamedHandle) → slice_get hs k ≡ Some h → is_shared h.1.mode ≡ true
    → (nth_object ps h.1.object).shared ≡ true)
    → HandlesStand ps (map (note_in_run (puts_of_uses us)) hs)
handles_of_store os us [] all ps more marks = tt
handles_of_store os us (h ∷ hs) all ps more marks = (
  record {
    there = let z = (head_of (IsHandle os) h hs all).object in omega (arith, z, more);
    marked = λ e. marks 0 h refl (carries_shared (puts_of_uses us) h e);
  },
  handles_of_store os us hs (tail_of (IsHandle os) h hs all) ps more (λ k g e. marks (suc k) g e),
)

-- the handles of a store at rest stand where a run begins, on objects that are marked where those of the store are
pub handles_stand : (table : ClassTable) (content : Content) → IsStoreAtRest table content → (us : List HandleUse)
    → (ps : List Object) → length content.objects ≤ length ps
    → ((n : ℕ) → n < length content.objects → (nth_object content.objects n).shared ≡ true
    → (nth_object ps n).shared ≡ true)
    → HandlesStand ps (map (note_in_run (puts_of_uses us)) content.handles)
handles_stand table content rest us ps more marks =
    handles_of_store content.objects us content.handles rest.is_content.handles ps more (λ k h e mode.
    let there = (each_at (IsHandle content.objects) content.handles k h rest.is_content.handles e).object in
    marks h.1.object there (handle_marks table content rest k h e there mode))

-- an object that is used as Shared is there
pub sharing_there : (table : ClassTable) (content : Content) (entry : Option ℕ) (us : List HandleUse)
    → AreUses table content entry us → (n : ℕ) → 0 < sharing_uses n us → n < length content.objects
sharing_there table content entry us all n some =
    let r = sharing_found n us some in
    subst (λ m. m < length content.objects) r.4 (use_at table content entry us r.0 r.1 all r.2).there

module _ (table : ClassTable) (conditions : IsClassTable table) (content : Content) (rest : IsStoreAtRest table content)
    (entry : Option ℕ) (us : List HandleUse) (all : AreUses table content entry us)
    (once : list_any (is_repeated us) us ≡ false) where
  abbrev pub handles : List HandleNote
  handles = map (note_in_run (puts_of_uses us)) content.handles

  abbrev pub start_notes : Notes
  start_notes = first_notes table content.objects (map (note_in_run (puts_of_uses us)) content.handles)

  counted : (n : ℕ) → owners table content n
      ≡ in_objects owns n (first_notes table content.objects (map (note_in_run (puts_of_uses us)) content.handles)) content.objects
      + owning_handles n content.handles
  counted n = store_owners_counted table conditions content start_notes
      (first_declared table content.objects handles)
      (λ i low. stored_fields table content.objects (nth_object content.objects i)
      (each_at (IsObject table content.objects) content.objects i (nth_object content.objects i) rest.is_content.objects
      (object_there content.objects i low))) n

  lent_few : (n : ℕ) → lent table content rest entry us all once n ≤ owners table content n
  lent_few n = let z = carried table content rest entry us all once n in let y = counted n in omega (arith, z, y)

  -- how many own an object in all, where slots own it as it is used
  pub total_is : (n slots objects : ℕ) → slots ≡ owning_uses n us
      → objects ≡ in_objects owns n (first_notes table content.objects (map (note_in_run (puts_of_uses us)) content.handles))
      content.objects
      → slots + objects + in_handles owns n (map (note_in_run (puts_of_uses us)) content.handles) + lent table content rest entry us all
      once n
      ≡ owning_uses n us + owners table content n
  total_is n slots objects es eo =
      let z = carried table content rest entry us all once n in let y = counted n in omega (arith, es, eo, z, y)

  module _ (n : ℕ) (there : n < length content.objects) (total : ℕ)
      (is : total + lent table content rest entry us all once n ≡ owning_uses n us + owners table content n)
      (ps : List Object) (more : AreMarked content.objects ps)
      (newly : (nth_object content.objects n).shared ≡ false → (nth_object ps n).shared ≡ true → 0 < sharing_uses n us)
      (marks : 0 < sharing_uses n us → (nth_object ps n).shared ≡ true) where
    pub whole_one : total ≤ 1
    whole_one = let z = total_one table content rest entry us all once n there (lent_few n) in omega (arith, is, z)

    pub whole_disowned : (nth_object ps n).disowned ≡ true → (nth_object ps n).shared ≡ false → total ≡ 0
    whole_disowned mark unshared =
        let was : (nth_object content.objects n).shared ≡ false =
        ⊎_elim (λ z. absurd (both_ways _ unshared (more.shared n z))) (λ z. z)
        (cases_Bool (nth_object content.objects n).shared) in
        let z = total_disowned table content rest entry us all once n there (lent_few n)
        (sym (more.disowned n) ∙ mark) was in
        omega (arith, is, z)

    pub whole_shared : (nth_object ps n).shared ≡ true → 0 < total → entry ≡ Some n
    whole_shared mark some = ⊎_elim
        (λ was. total_shared table content rest entry us all once n there (lent_few n) was (omega (arith, is, some)))
        (λ not. absurd (let z = total_newly table content rest entry us all once n there (lent_few n) not
        (newly not mark) in
        omega (arith, is, some, z)))
        (cases_Bool (nth_object content.objects n).shared)

    pub whole_assets : NeedsOwner table ps n → 0 < total
    whole_assets must =
        let was : (nth_object content.objects n).shared ≡ false =
        ⊎_elim (λ z. absurd (both_ways _ must.unshared (more.shared n z))) (λ z. z)
        (cases_Bool (nth_object content.objects n).shared) in
        let none : sharing_uses n us ≡ 0 = zero_if (sharing_uses n us)
        (λ some. both_ways _ must.unshared (marks some)) in
        let z = total_asset table content rest entry us all once n there (lent_few n)
        (ap (λ c. Rattle.ob_flow_spec.specs.Contexts.is_asset table
        (Rattle.ob_table.specs.declared.seen.Kind.TheVariants.Reference c)) (sym (more.contract n)) ∙ must.asset)
        was (sym (more.disowned n) ∙ must.kept) none in
        omega (arith, is, z)
      where
        zero_if : (k : ℕ) → (0 < k → ⊥) → k ≡ 0
        zero_if zero h = refl
        zero_if (suc k) h = absurd (h (omega arith))
