-- Where the run of what was entered in a store at rest has ended, the store is at rest again.
use Rattle.std.proofs.Common.{◌≡◌, ℕ, ◌+◌, ◌<◌, ◌≤◌, Bool, true, false, ◌&&◌, ◌||◌, List, [], ◌∷◌, ◌++◌, length, Option, Some, None, refl, sym, ap, subst, ◌∙◌, arith, eq-eqb, ⊎_elim}
use Rattle.std.specs.Prelude.{nat_eq, option_to_list, All, IsTrue}
use Rattle.std.specs.List.{list_all}
use Rattle.std.proofs.lemmas.Bool.{cases_Bool}
use Rattle.std.proofs.lemmas.Option.{same_Some}
use Rattle.ob_base.specs.Names.{is_label}
use Rattle.ob_perm.specs.Permissions.{owns}
use Rattle.ob_table.specs.Tables.{ClassTable}
use Rattle.ob_heap_spec.specs.Values.{Value, reference}
use Rattle.ob_heap_spec.specs.Objects.{Object}
use Rattle.ob_heap_spec.specs.Contents.{Content, IsObject}
use Rattle.ob_heap_spec.specs.Worlds.{World}
use Rattle.ob_heap_spec.specs.Handles.{NamedHandle, put_handles}
use Rattle.ob_heap_spec.proofs.Items.{all_of}
use Rattle.ob_silica_steps.specs.Cells.{Cell, value_in}
use Rattle.ob_silica_steps.specs.Configurations.{SilicaProgram, How, by_receiver, by_this, by_new, Configuration}
use Rattle.ob_silica_steps.specs.Here.{self_of}
use Rattle.ob_silica_steps.specs.Returning.{leaves_progress, left_world}
use Rattle.ob_coherent_spec.specs.Counting.{nth_object, in_objects, owners as run_owners}
use Rattle.ob_coherent_spec.specs.Standing.{IsOfKind, NeedsOwner}
use Rattle.ob_coherent_spec.specs.Remaining.{IsCheckedProgram}
use Rattle.ob_coherent_spec.specs.Coherent.{outermost}
use Rattle.ob_soundness_laws.proofs.counting.Objects.{object_found}
use Rattle.ob_soundness_laws.proofs.places.Standing.{reference_is}
use Rattle.ob_rest_spec.specs.Modes.{is_owned, is_shared}
use Rattle.ob_rest_spec.specs.Incoming.{owners}
use Rattle.ob_rest_spec.specs.References.{field_references}
use Rattle.ob_rest_spec.specs.AtRest.{IsAtRest, IsStoreAtRest}
use Rattle.ob_rest_laws.specs.Laws.{handle_owners, is_shared_by_handle}
use Rattle.ob_soundness_laws.proofs.stores.Fields.{owning, in_run_fields}
use Rattle.ob_soundness_laws.proofs.stores.Handles.{store_owners}
use Rattle.ob_soundness_laws.proofs.stores.Ending.{HeldAsDeclared, ended_owning_less, ended_owning_same}
use Rattle.ob_invocation_spec.specs.Requests.{argument_names}
use Rattle.ob_invocation_spec.specs.Handles.{mark_puts}
use Rattle.ob_invocation_spec.specs.Entries.{HandleUse, Entry}
use Rattle.ob_invocation_spec.specs.Entering.{puts_after}
use Rattle.ob_invocation_laws.proofs.Entered.{of_new, of_call}
use Rattle.ob_invocation_laws.proofs.Lent.{puts_marked}
use Rattle.ob_invocation_laws.proofs.Puts.{puts_shared}
use Rattle.ob_invocation_laws.proofs.Ended.{store_after}
use Rattle.ob_soundness_laws.specs.Running.{EndsFrom}
use Rattle.ob_soundness_laws.specs.Requests.{entry_lock, beginning_of, handles_in_run, IsEntered, by_request_new, by_request_call, IsFirst, EndsSo, content_after}
use Rattle.ob_soundness_laws.proofs.Resting.{Each, IsSettled, settled_rests}
use Rattle.ob_soundness_laws.proofs.Settling.{all_declared, holds_declared, is_object}
use Rattle.ob_soundness_laws.proofs.Counts.{same_handles}
use Rattle.ob_soundness_laws.proofs.Again.{store_marked, may_enter, are_found, total_less, total_more, unshared_now, puts_are_marked}

-- Labels.

all_after : (xs ys : List (List ℕ)) → IsTrue (list_all is_label (xs ++ ys)) → IsTrue (list_all is_label ys)
all_after [] ys a = a
all_after (x ∷ xs) ys a = go (is_label x) a (all_after xs ys)
  where
    go : (b : Bool) → IsTrue (b && list_all is_label (xs ++ ys)) → (IsTrue (list_all is_label (xs ++ ys)) → IsTrue (list_all is_label ys))
        → IsTrue (list_all is_label ys)
    go true a rest = rest a
    go false a rest = absurd (let z : false ≡ true = a in cc)

first_of : (a b : Bool) → IsTrue (a && b) → IsTrue a
first_of true b h = refl
first_of false b h = h

second_of : (a b : Bool) → IsTrue (a && b) → IsTrue b
second_of true b h = h
second_of false b h = absurd (let z : false ≡ true = h in cc)

into_of : (into : Option (List ℕ)) (name : List ℕ) → into ≡ Some name → IsTrue (list_all is_label (option_to_list into)) → IsTrue (is_label name)
into_of into name e a = first_of (is_label name) true (subst (λ (x : Option (List ℕ)). IsTrue (list_all is_label (option_to_list x))) e a)

entry_labels : (table : ClassTable) (content : Content) (e : Entry) → IsEntered table content e
    → IsTrue (is_label e.who) × ((into : List ℕ) → e.into ≡ Some into → IsTrue (is_label into))
entry_labels table content e (by_request_new who r labels is passed within) =
    let n = of_new table who r e is in (
      subst (λ (x : List ℕ). IsTrue (is_label x)) (sym (ap (λ (x : Entry). x.who) n.is)) (first_of (is_label who) _ labels),
      λ into at. into_of r.into into (sym (ap (λ (x : Entry). x.into) n.is) ∙ at)
          (all_after (argument_names r.args) (option_to_list r.into) (second_of (is_label r.contract) _ (second_of (is_label who) _ labels))),
    )
entry_labels table content e (by_request_call who r labels is passed within) =
    let n = of_call table content who r e is in (
      subst (λ (x : List ℕ). IsTrue (is_label x)) (sym (ap (λ (x : Entry). x.who) n.is)) (first_of (is_label who) _ labels),
      λ into at. into_of r.into into (sym (ap (λ (x : Entry). x.into) n.is) ∙ at)
          (all_after (argument_names r.args) (option_to_list r.into)
          (second_of (is_label r.tx) _ (second_of (is_label r.on) _ (second_of (is_label who) _ labels)))),
    )

-- Shared handles one by one.
each_marked : (Q : ℕ → Type 0) (hs : List NamedHandle) → ((n : ℕ) → is_shared_by_handle hs n ≡ true → Q n)
    → Each (λ (h : NamedHandle). is_shared h.1.mode ≡ true → Q h.1.object) hs
each_marked Q [] all = tt
each_marked Q (h ∷ hs) all = (
  λ is. all h.1.object (rw (eq-eqb h.1.object h.1.object refl, is) refl),
  each_marked Q hs (λ n e. all n (ap (λ b. (nat_eq h.1.object n && is_shared h.1.mode) || b) e ∙ or_true (nat_eq h.1.object n && is_shared h.1.mode))),
)
  where
    or_true : (b : Bool) → (b || true) ≡ true
    or_true true = refl
    or_true false = refl

left_objects : (c : Configuration) → (left_world c).objects ≡ c.world.objects
left_objects c = go c.frame.how
  where
    go : (how : How) → (leaves_progress how (self_of c.frame.slots) c.world).objects ≡ c.world.objects
    go by_receiver = refl
    go by_this = refl
    go by_new = refl

module _ (program : SilicaProgram) (checked : IsCheckedProgram program) (content : Content)
    (rests : IsStoreAtRest program.table content) (e : Entry) (entered : IsEntered program.table content e) (first : Configuration)
    (is_first : IsFirst content e first) (result : Option Value) (v : World)
    (ends : EndsFrom program.table (entry_lock e.receiver)
    (beginning_of content e) first result v) where
  abbrev c : Configuration
  c = ends.last

  abbrev objects : List Object
  objects = ends.last.world.objects

  abbrev handles : List NamedHandle
  handles = put_handles content.handles (puts_after content e result)

  abbrev after : Content
  after = record { objects = ends.last.world.objects; handles = put_handles content.handles (puts_after content e result) }

  longer : length content.objects ≤ length objects
  longer = let a = is_first.longer in let b = ends.stays.longer in omega (arith, a, b)

  marks : (n : ℕ) → (nth_object content.objects n).shared ≡ true → (nth_object objects n).shared ≡ true
  marks n is = ends.stays.shared n (is_first.shared n is)

  carries : c.notes.handles ≡ handles_in_run content e
  carries = ends.stays.handles ∙ is_first.handles

  shares : (u : HandleUse) → e.receiver ≡ Some u → is_owned u.entry.mode ≡ true → c.frame.share_entered ≡ false
  shares u at owned = sym (ap (λ hs. (outermost c.frame hs).share_entered) ends.alone) ∙ ends.stays.share_entered ∙ is_first.share_entered u at owned

  held : HeldAsDeclared program.table (NeedsOwner program.table objects) c.notes objects
  held i k f below is there = (all_declared program.table checked.table _ _ c ends.leaving ends.outer ends.alone i below).fields k f is there

  module _ (n : ℕ) where
    less : in_objects owns n c.notes objects + handle_owners handles n ≤ run_owners n c
    less = total_less program checked content rests e entered c ends.leaving ends.outer ends.alone longer marks n carries result ends.gives

    store_count : owners program.table after n ≡ owning n (field_references program.table objects) + handle_owners handles n
    store_count = store_owners program.table after n
        ∙ ap (λ m. owning n (field_references program.table objects) + m) (same_handles n handles)

    fields_less : owning n (field_references program.table objects) ≤ in_objects owns n c.notes objects
    fields_less = ended_owning_less program.table checked.table objects c.notes (NeedsOwner program.table objects) held
        (λ i below. in_run_fields program.table c.notes i (nth_object objects i) (ends.leaving.whole.objects i below)) n

    owners_less : owners program.table after n ≤ run_owners n c
    owners_less = omega (arith, less, store_count, fields_less)

    no_shared : 0 < owners program.table after n → (nth_object objects n).shared ≡ true → ⊥
    no_shared some is = unshared_now program checked content rests e entered c ends.leaving ends.outer ends.alone longer marks n carries result ends.gives
        shares (omega (arith, some, store_count, fields_less)) is

    unmarked : 0 < owners program.table after n → ((nth_object objects n).shared ≡ false) × ((nth_object objects n).disowned ≡ false)
    unmarked some = (
      unshared,
      ⊎_elim
          (λ is. absurd (let z = ends.leaving.whole.disowned n is unshared in omega (arith, z, some, owners_less)))
          (λ no. no) (cases_Bool (nth_object objects n).disowned),
    )
      where
        unshared : (nth_object objects n).shared ≡ false
        unshared = ⊎_elim (λ is. absurd (no_shared some is)) (λ no. no) (cases_Bool (nth_object objects n).shared)

    assets : NeedsOwner program.table objects n → 0 < owners program.table after n
    assets needs =
        let more = total_more program checked content rests e entered c ends.leaving ends.outer ends.alone longer marks n carries result ends.gives needs in
        let same = ended_owning_same program.table checked.table objects c.notes (NeedsOwner program.table objects) held
        (λ i below. in_run_fields program.table c.notes i (nth_object objects i) (ends.leaving.whole.objects i below)) n needs in
        let some = ends.leaving.whole.assets n needs in
        omega (arith, more, same, some, store_count)

    handles_marked : is_shared_by_handle handles n ≡ true → (nth_object objects n).shared ≡ true
    handles_marked is = ⊎_elim
        (λ before. marks n (store_marked program.table content rests n before))
        (λ put. puts_are_marked program checked content rests e entered c ends.leaving ends.outer ends.alone longer marks n carries result ends.gives put)
        (puts_shared n content.handles (puts_after content e result) is)

  settled : IsSettled program.table after
  settled = record {
    holds = λ n below. holds_declared program.table checked.table _ _ c ends.leaving ends.outer ends.alone n below;
    one = λ n. let a = owners_less n in let b = ends.leaving.whole.one_owner n in omega (arith, a, b);
    unmarked = unmarked;
    assets = assets;
    handles = each_marked (λ n. (nth_object objects n).shared ≡ true) handles handles_marked;
  }

  module _ (w : World) (same : v.objects ≡ w.objects) where
    same_objects : w.objects ≡ objects
    same_objects = sym same ∙ ap (λ (x : World). x.objects) ends.world ∙ left_objects c

    marked_objects : (mark_puts w (puts_after content e result)).objects ≡ objects
    marked_objects = puts_marked w (puts_after content e result) (λ n o is at.
        let here = object_found w.objects n o at in
        ap (λ (x : Object). x.shared) (sym here.1) ∙ ap (λ l. (nth_object l n).shared) same_objects
        ∙ puts_are_marked program checked content rests e entered c ends.leaving ends.outer ends.alone longer marks n carries result ends.gives is)
        ∙ same_objects

    pub rests_again : IsStoreAtRest program.table (content_after content e result w)
    rests_again =
        let labels = entry_labels program.table content e entered in
        store_after program.table content e result w rests (are_found program checked content rests e entered)
        (may_enter program checked content rests e entered) labels.0 labels.1
        (subst (λ l. All (IsObject program.table l) l) (sym same_objects) (all_of (IsObject program.table objects) objects
        (λ k o at. let here = object_found objects k o at in subst (IsObject program.table objects) here.1
        (is_object program.table checked.table _ _ c ends.leaving ends.outer ends.alone k here.0))))
        (let a = ap length same_objects in omega (arith, a, longer))
        (let a = ap length same_objects in let b = ends.stays.few (is_first.few rests.few_objects) in omega (arith, a, b))
        (λ n is. let a = ap length same_objects in let b = given_inside n is in omega (arith, a, b))
        (subst (λ l. IsAtRest program.table (record { objects = l; handles = handles })) (sym marked_objects)
        (settled_rests program.table after settled))
      where
        given_inside : (n : ℕ) → result ≡ Some (reference n) → n < length objects
        given_inside n is = go ends.leaving.result refl (sym ends.gives ∙ is)
          where
            go : (x : Option Cell) → ends.leaving.result ≡ x → value_in x ≡ Some (reference n) → n < length objects
            go None at z = absurd cc
            go (Some x) at z = let s = ends.leaving.returned x at in
                (reference_is program.table objects x.note.kind n
                (subst (IsOfKind program.table objects x.note.kind) (same_Some x.value (reference n) z) s.kind)).2

pub ends_so : EndsSo
ends_so program content e first result w v checked rests entered is_first ends same =
    rests_again program checked content rests e entered first is_first result v ends w same
