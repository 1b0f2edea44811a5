-- What becomes of the objects of a world: each stays with its contract, and its fields hold values of their kinds.
use Rattle.std.proofs.Common.{◌≡◌, ℕ, List, [], ◌∷◌, ◌++◌, Option, Some, None, Bool, true, false, slice_set, refl, sym, ap, ◌∙◌, subst, inl, inr}
use Rattle.std.specs.Prelude.{if◌then◌else◌}
use Rattle.std.specs.Option.{option_map_or}
use Rattle.std.proofs.lemmas.Bool.{cases_eq}
use Rattle.ob_base.specs.declared.id.ContractId.{ContractId}
use Rattle.ob_table.specs.declared.contract.ResolvedType.{ResolvedType}
use Rattle.ob_table.specs.declared.contract.ResolvedType.TheVariants as typed
use Rattle.ob_perm.specs.Permissions.{is_shared}
use Rattle.ob_perm.specs.Masks.{permission_of}
use Rattle.ob_heap_spec.specs.Values.{Value, reference}
use Rattle.ob_heap_spec.specs.Objects.{Object, unfinished}
use Rattle.ob_heap_spec.specs.Contents.{object_at}
use Rattle.ob_heap_spec.specs.Worlds.{World, is_made, with_read, object_item, read_object, set_object, edit_object, make_object}
use Rattle.ob_heap_spec.specs.Marks.{has_mark, mark_shared, mark_disowned, comes_into, lock}
use Rattle.ob_code.specs.declared.image.BodyCode.{BodyCode}
use Rattle.ob_code.specs.declared.image.ContractCode.{ContractCode}
use Rattle.ob_code.specs.declared.image.Image.{Image}
use Rattle.ob_code.specs.declared.image.ParamCode.{ParamCode}
use Rattle.ob_code.specs.Code.{is_interface, contract_code}
use Rattle.ob_code_table.specs.ImageTables.{perm_of_code, type_of_param}
use Rattle.ob_machine_steps.specs.Configurations.{Entered, on_receiver, on_this, on_new, MachineFrame}
use Rattle.ob_machine_steps.specs.Testing.{with_lock, without_lock, without_locks}
use Rattle.ob_machine_steps.specs.Returning.{without_progress, world_left}
use Rattle.ob_machine_steps.specs.Entries.{lock_receiver, args_come_in, receiver_comes_in, comes_into_body}
use Rattle.ob_verify_spec.proofs.Cells.{none_some, some_same}
use Rattle.ob_code_laws.specs.Kinds.{HasFieldsOfKinds, HaveFieldsOfKinds}
use Rattle.ob_code_laws.proofs.Basics.{get-set_same, get-set_other, get-append_left, get-append_cases}
use Rattle.ob_code_laws.proofs.Growing.{StaysAt, Grows, same_grows, fields_grow}

-- objects follow on others, in whose fields values are of their kinds
pub record Follows (image : Image) (old new : List Object) : Type 0 where
  pub grows : Grows old new
  pub kinds : HaveFieldsOfKinds image new

pub follows_same : (image : Image) (old new : List Object) → HaveFieldsOfKinds image old → new ≡ old → Follows image old new
follows_same image old new h e = record { grows = same_grows old new e; kinds = subst (HaveFieldsOfKinds image) (sym e) h }

pub grows_on : (a b c : List Object) → Grows a b → Grows b c → Grows a c
grows_on a b c g h = record {
  each = λ n o at.
      let s : StaysAt b o.contract n = g.each n o at in
      let t : StaysAt c s.object.contract n = h.each n s.object s.there in
      record { object = t.object; there = t.there; of = t.of ∙ s.of };
}

pub follows_on : (image : Image) (a b c : List Object) → Follows image a b → Follows image b c → Follows image a c
follows_on image a b c f g = record { grows = grows_on a b c f.grows g.grows; kinds = g.kinds }

follows_if : (image : Image) (old : List Object) (b : Bool) (u v : World) → Follows image old u.objects → Follows image old v.objects → Follows image old (if b then u else v).objects
follows_if image old true u v f g = f
follows_if image old false u v f g = g

-- Reads.

objects_if : (b : Bool) (u v : World) (objects : List Object) → u.objects ≡ objects → v.objects ≡ objects → (if b then u else v).objects ≡ objects
objects_if true u v objects e f = e
objects_if false u v objects e f = f

pub read_objects : (w : World) (n : ℕ) → (read_object w n).objects ≡ w.objects
read_objects w n = objects_if (is_made w n) w (with_read w (object_item n)) w.objects refl refl

-- Objects that change.

set_grows : (old : List Object) (n : ℕ) (o p : Object) → object_at old n ≡ Some o → p.contract ≡ o.contract → Grows old (slice_set old n p)
set_grows old n o p at same = record {
  each = λ m q here. elim (cases_eq m n) [
    | inl e ↦ let at_n : object_at old n ≡ Some q = sym (ap (object_at old) e) ∙ here in
        record { object = p; there = ap (object_at (slice_set old n p)) e ∙ get-set_same old n o p at; of = same ∙ ap (λ (z : Object). z.contract) (some_same (sym at ∙ at_n)) }
    | inr ne ↦ record { object = q; there = get-set_other old n m p ne ∙ here; of = refl }
  ];
}

pub set_follows : (image : Image) (old : List Object) (n : ℕ) (o p : Object) → HaveFieldsOfKinds image old → object_at old n ≡ Some o → p.contract ≡ o.contract
    → HasFieldsOfKinds image old p → Follows image old (slice_set old n p)
set_follows image old n o p h at same kinds =
    let g : Grows old (slice_set old n p) = set_grows old n o p at same in
    record {
      grows = g;
      kinds = record {
        each = λ m q here. elim (cases_eq m n) [
          | inl e ↦ subst (HasFieldsOfKinds image (slice_set old n p)) (some_same (sym (get-set_same old n o p at) ∙ sym (ap (object_at (slice_set old n p)) e) ∙ here))
              (fields_grow image old (slice_set old n p) g p kinds)
          | inr ne ↦ fields_grow image old (slice_set old n p) g q (h.each m q (sym (get-set_other old n m p ne) ∙ here))
        ];
      };
    }

edited : (image : Image) (w : World) (n : ℕ) (f : Object → Object) (at : Option Object) → HaveFieldsOfKinds image w.objects → object_at w.objects n ≡ at
    → ((o : Object) → object_at w.objects n ≡ Some o → (f o).contract ≡ o.contract)
    → ((o : Object) → object_at w.objects n ≡ Some o → HasFieldsOfKinds image w.objects (f o)) → Follows image w.objects (option_map_or (λ o. set_object w n (f o)) at w).objects
edited image w n f None h e same kinds = follows_same image w.objects w.objects h refl
edited image w n f (Some o) h e same kinds = set_follows image w.objects n o (f o) h e (same o e) (kinds o e)

pub edit_follows : (image : Image) (w : World) (n : ℕ) (f : Object → Object) → HaveFieldsOfKinds image w.objects
    → ((o : Object) → object_at w.objects n ≡ Some o → (f o).contract ≡ o.contract)
    → ((o : Object) → object_at w.objects n ≡ Some o → HasFieldsOfKinds image w.objects (f o)) → Follows image w.objects (edit_object f n w).objects
edit_follows image w n f h same kinds = edited image w n f (object_at w.objects n) h refl same kinds

-- a mark leaves contract and fields
pub keeps_fields : (image : Image) (objects : List Object) (o p : Object) → p.contract ≡ o.contract → p.fields ≡ o.fields → HasFieldsOfKinds image objects o → HasFieldsOfKinds image objects p
keeps_fields image objects o p same fields h = record {
  own = h.own;
  of = ap (contract_code image) same ∙ h.of;
  contract = h.contract;
  fields = λ k v e. h.fields k v (sym (ap (λ z. z k) fields) ∙ e);
}

mark_follows : (image : Image) (w v : World) (n : ℕ) (b : Bool) (f : Object → Object) → HaveFieldsOfKinds image w.objects → v.objects ≡ w.objects
    → ((o : Object) → (f o).contract ≡ o.contract) → ((o : Object) → (f o).fields ≡ o.fields) → Follows image w.objects (if b then v else edit_object f n v).objects
mark_follows image w v n b f h e same fields =
    let now : Follows image w.objects v.objects = follows_same image w.objects v.objects h e in
    follows_if image w.objects b v (edit_object f n v) now
    (follows_on image w.objects v.objects (edit_object f n v).objects now (edit_follows image v n f now.kinds (λ o at. same o)
    (λ o at. keeps_fields image v.objects o (f o) (same o) (fields o) (now.kinds.each n o at))))

pub shared_follows : (image : Image) (w : World) (n : ℕ) → HaveFieldsOfKinds image w.objects → Follows image w.objects (mark_shared n w).objects
shared_follows image w n h =
    mark_follows image w (read_object w n) n (has_mark (λ o. o.shared) (read_object w n) n) (λ o. record o { shared = true }) h (read_objects w n) (λ o. refl) (λ o. refl)

pub disowned_follows : (image : Image) (w : World) (n : ℕ) → HaveFieldsOfKinds image w.objects → Follows image w.objects (mark_disowned n w).objects
disowned_follows image w n h =
    mark_follows image w (read_object w n) n (has_mark (λ o. o.disowned) (read_object w n) n) (λ o. record o { disowned = true }) h (read_objects w n) (λ o. refl) (λ o. refl)

-- A new object.

pub made_follows : (image : Image) (w : World) (c : ContractId) (own : ContractCode) → HaveFieldsOfKinds image w.objects → contract_code image c ≡ Some own → is_interface own ≡ false
    → Follows image w.objects (make_object w (unfinished c)).objects
made_follows image w c own h of contract =
    let new = w.objects ++ unfinished c ∷ [] in
    let g : Grows w.objects new = record { each = λ n o at. record { object = o; there = get-append_left w.objects (unfinished c ∷ []) n o at; of = refl } } in
    let made : HasFieldsOfKinds image new (unfinished c) = record { own = own; of = of; contract = contract; fields = λ k v e. absurd (none_some e) } in
    record {
      grows = g;
      kinds = record {
        each = λ n o at. elim (get-append_cases w.objects (unfinished c) n o at) [
          | inl before ↦ fields_grow image w.objects new g o (h.each n o before)
          | inr e ↦ subst (HasFieldsOfKinds image new) e made
        ];
      };
    }

-- Locks, and the end of a frame.

lock_objects : (t : Option ℕ) (w : World) → (with_lock t w).objects ≡ w.objects
lock_objects None w = refl
lock_objects (Some n) w = refl

pub locked_objects : (t : Option ℕ) (w : World) → (with_lock t w).objects ≡ w.objects
locked_objects t w = lock_objects t w

pub unlocked_objects : (t : Option ℕ) (w : World) → (without_lock t w).objects ≡ w.objects
unlocked_objects None w = refl
unlocked_objects (Some n) w = refl

all_unlocked : (ts : List (Option ℕ)) (w : World) → (without_locks ts w).objects ≡ w.objects
all_unlocked [] w = refl
all_unlocked (t ∷ ts) w = all_unlocked ts (without_lock t w) ∙ unlocked_objects t w

progress_objects : (entered : Entered) (n : ℕ) (w : World) → (without_progress entered n w).objects ≡ w.objects
progress_objects on_receiver n w = refl
progress_objects on_this n w = refl
progress_objects on_new n w = refl

pub left_objects : (f : MachineFrame) (w : World) → (world_left f w).objects ≡ w.objects
left_objects f w = progress_objects f.entered f.this (without_locks f.tests w) ∙ all_unlocked f.tests w

-- What comes in at an entry.

comes_follows : (image : Image) (t : ResolvedType) (v : Value) (w : World) → HaveFieldsOfKinds image w.objects → Follows image w.objects (comes_into t v w).objects
comes_follows image (typed.Reference id p) (reference n) w h =
    follows_if image w.objects (is_shared (permission_of p)) (mark_shared n w) w (shared_follows image w n h) (follows_same image w.objects w.objects h refl)
comes_follows image t v w h = follows_same image w.objects w.objects h refl

args_follow : (image : Image) (ps : List ParamCode) (vs : List Value) (w : World) → HaveFieldsOfKinds image w.objects → Follows image w.objects (args_come_in ps vs w).objects
args_follow image [] vs w h = follows_same image w.objects w.objects h refl
args_follow image (p ∷ ps) [] w h = follows_same image w.objects w.objects h refl
args_follow image (p ∷ ps) (v ∷ vs) w h =
    let now : Follows image w.objects (comes_into (type_of_param p) v w).objects = comes_follows image (type_of_param p) v w h in
    follows_on image w.objects (comes_into (type_of_param p) v w).objects (args_come_in ps vs (comes_into (type_of_param p) v w)).objects now
    (args_follow image ps vs (comes_into (type_of_param p) v w) now.kinds)

receiver_follows : (image : Image) (contract : ContractId) (b : BodyCode) (receiver : Option ℕ) (w : World) → HaveFieldsOfKinds image w.objects
    → Follows image w.objects (receiver_comes_in contract b receiver w).objects
receiver_follows image contract b None w h = follows_same image w.objects w.objects h refl
receiver_follows image contract b (Some n) w h = comes_follows image (typed.Reference contract (perm_of_code b.entry)) (reference n) w h

pub body_follows : (image : Image) (contract : ContractId) (b : Option BodyCode) (receiver : Option ℕ) (args : List Value) (w : World) → HaveFieldsOfKinds image w.objects
    → Follows image w.objects (comes_into_body contract b receiver args w).objects
body_follows image contract None receiver args w h = follows_same image w.objects w.objects h refl
body_follows image contract (Some b) receiver args w h =
    let now : Follows image w.objects (receiver_comes_in contract b receiver w).objects = receiver_follows image contract b receiver w h in
    follows_on image w.objects (receiver_comes_in contract b receiver w).objects (args_come_in b.params args (receiver_comes_in contract b receiver w)).objects now
    (args_follow image b.params args (receiver_comes_in contract b receiver w) now.kinds)

locked_if : (b : Bool) (n : ℕ) (w : World) → (if b then lock n w else w).objects ≡ w.objects
locked_if true n w = refl
locked_if false n w = refl

pub receiver_locked : (b : Bool) (receiver : Option ℕ) (w : World) → (lock_receiver b receiver w).objects ≡ w.objects
receiver_locked b None w = refl
receiver_locked b (Some n) w = locked_if b n w
