-- What is so of a frame's places after one of them is written.
use Rattle.std.proofs.Common.{◌≡◌, ℕ, ◌<◌, ◌≤◌, true, false, List, [], ◌∷◌, length, Option, Some, None, refl, sym, ap, subst, ◌∙◌, arith, ◌⊎◌, inl, inr, ⊎_elim}
use Rattle.std.specs.Prelude.{slice_get, IfSome, if◌then◌else◌}
use Rattle.std.proofs.lemmas.Bool.{both_ways, or_left, or_right}
use Rattle.std.proofs.lemmas.Option.{same_Some, slice_get_within}
use Rattle.std.proofs.lemmas.List.{length-map}
use Rattle.ob_perm.specs.Permissions.{shared, owns}
use Rattle.ob_table.specs.Tables.{ClassTable, contract_at}
use Rattle.ob_table.specs.declared.contract.Field.{Field}
use Rattle.ob_table_spec.specs.WellFormed.{kind_of_resolved}
use Rattle.ob_heap_spec.specs.Values.{Value, reference}
use Rattle.ob_heap_spec.specs.Objects.{state_number, has_field}
use Rattle.ob_silica_places.specs.Known.{Known}
use Rattle.ob_silica_places.specs.Places.{Location, slot, field, this, same_location}
use Rattle.ob_silica_places.specs.Parameters.{Parameter, parameter_of, parameters, all_parameters}
use Rattle.ob_silica_steps.specs.Cells.{Cell, permission_in}
use Rattle.ob_silica_steps.specs.Configurations.{SilicaFrame, by_new, Ends, plain_end, test_end, lock_end, loop_end, Rest}
use Rattle.ob_silica_steps.specs.Here.{Here, self_of, read}
use Rattle.ob_flow_spec.specs.Contexts.{BodyFrame, Context, put, available, permission_at, permission_on, is_tested}
use Rattle.ob_flow_spec.specs.Joining.{same_mode}
use Rattle.ob_coherent_spec.specs.Counting.{nth_object, field_cell}
use Rattle.ob_coherent_spec.specs.Runs.{tested_places, tested_before}
use Rattle.ob_coherent_spec.specs.Standing.{Stands, AllStand, IsObjectInRun, NeedsOwner}
use Rattle.ob_coherent_spec.specs.Saying.{SaysOf, Says, own_object, every}
use Rattle.ob_coherent_spec.specs.Remaining.{BodyParts, body_of, IsPlaceIn}
use Rattle.ob_coherent_spec.specs.OpenTests.{IsTestOf, IsOpen, AreOpen}
use Rattle.ob_coherent_spec.specs.Waiting.{IsFrame}
use Rattle.ob_soundness_laws.specs.frames.Steps.{KeepsArgument}
use Rattle.ob_soundness_laws.specs.places.Placed.{cell_at, Stays, Written, Sits, IsAlike, SlotsKept, HasRoom, TellsThis}
use Rattle.ob_soundness_laws.proofs.places.Reading.{place_is, same_place, read_is, has_field_from, field_cell_is, field_cell_from, no_field_cell, no_field_value}
use Rattle.ob_soundness_laws.proofs.places.Standing.{stands_stay, needs_stay, says_less, has_state_same}

-- Contexts.

pub put_that : (g : Context) (p : Location) (y : Option Known) (q : Location) → q ≡ p → put g p y q ≡ y
put_that g p y q e = ap (λ b. if b then y else g q) (ap (λ r. same_location r p) e ∙ same_place p)

pub put_other : (g : Context) (p : Location) (y : Option Known) (q : Location) → same_location q p ≡ false
    → put g p y q ≡ g q
put_other g p y q e = ap (λ b. if b then y else g q) e

-- The object of `this`, after a step that leaves it.

module _ (h after : Here) (s : Stays h after) where
  pub own_contract : (own_object after).contract ≡ (own_object h).contract
  own_contract = s.contracts (self_of after.slots) ∙ ap (λ n. (nth_object h.world.objects n).contract) s.this

  pub own_state : (own_object after).state ≡ (own_object h).state
  own_state = s.states (self_of after.slots) ∙ ap (λ n. (nth_object h.world.objects n).state) s.this

  pub own_there : self_of h.slots < length h.world.objects → self_of after.slots < length after.world.objects
  own_there lt = let e = s.this in let d = s.count in omega (arith, e, d, lt)

-- A place that is written.

module _ (h after : Here) (p : Location) (x : Option Cell) (w : Written p x h after) where
  pub written_that : (q : Location) → q ≡ p → cell_at after q ≡ x
  written_that q e = ap (cell_at after) e ∙ w.itself

  -- slots and fields stand
  written_stands : (table : ClassTable) → ((z : Cell) → x ≡ Some z → Stands table after.world.objects z)
      → (q : Location)
      → ((z : Cell) → cell_at h q ≡ Some z → Stands table h.world.objects z) → (z : Cell) → cell_at after q ≡ Some z
      → Stands table after.world.objects z
  written_stands table st q before z e = ⊎_elim
      (λ i. st z (sym (written_that q i) ∙ e))
      (λ i. stands_stay table h after w.stays z (before z (sym (w.others q i) ∙ e)))
      (place_is q p)

  pub slots_stand : (table : ClassTable) → ((z : Cell) → x ≡ Some z → Stands table after.world.objects z)
      → AllStand table h.world.objects h.slots → AllStand table after.world.objects after.slots
  slots_stand table st a k = written_stands table st (slot k) (a k)

  pub fields_stand : (table : ClassTable) → ((z : Cell) → x ≡ Some z → Stands table after.world.objects z)
      → AllStand table h.world.objects (field_cell h.notes h.world.objects (self_of h.slots))
      → AllStand table after.world.objects (field_cell after.notes after.world.objects (self_of after.slots))
  fields_stand table st a k = written_stands table st (field k) (a k)

  -- `this` is an object in run
  pub in_run_written : (table : ClassTable)
      (r : IsObjectInRun table h.notes (self_of h.slots) (nth_object h.world.objects (self_of h.slots)))
      → HasRoom r.own (own_object h).state p x
      → IsObjectInRun table after.notes (self_of after.slots) (nth_object after.world.objects (self_of after.slots))
  in_run_written table r room = record {
    own = r.own;
    contract = ap (contract_at table) (own_contract h after w.stays) ∙ r.contract;
    class = r.class;
    state = subst (λ s. IfSome s (λ s. s.0 < length r.own.states)) (sym (own_state h after w.stays)) r.state;
    fields = λ k e. no_field_cell after.notes after.world.objects (self_of after.slots) k
        (none k (ap (λ s. has_field r.own s k) (sym (own_state h after w.stays)) ∙ e));
    kinds = λ k f v e d. kind k f v e (field_cell_from after.notes after.world.objects (self_of after.slots) k v d);
  }
    where
      none : (k : ℕ) → has_field r.own (own_object h).state k ≡ false → cell_at after (field k) ≡ None
      none k e = ⊎_elim
          (λ i. written_that (field k) i ∙ unset x refl i)
          (λ i. w.others (field k) i ∙ no_field_value h.notes h.world.objects (self_of h.slots) k (r.fields k e))
          (place_is (field k) p)
        where
          unset : (y : Option Cell) → x ≡ y → field k ≡ p → x ≡ None
          unset None d i = d
          unset (Some z) d i = let u = room k z (sym i) d in
              absurd (both_ways _ e (has_field_from r.own (own_object h).state k u.0 u.1 u.2))

      kind : (k : ℕ) (f : Field) (v : Value) → slice_get r.own.fields k ≡ Some f
          → cell_at after (field k) ≡ Some (record { value = v; note = after.notes.fields (self_of after.slots) k })
          → (after.notes.fields (self_of after.slots) k).kind ≡ kind_of_resolved f.of
      kind k f v e d = ⊎_elim
          (λ i. let u = room k (record { value = v; note = after.notes.fields (self_of after.slots) k }) (sym i)
          (sym (written_that (field k) i) ∙ d) in
          u.3 ∙ ap (λ (y : Field). kind_of_resolved y.of) (same_Some u.0 f (sym u.1 ∙ e)))
          (λ i. let c = field_cell_is h.notes h.world.objects (self_of h.slots) k
          (record { value = v; note = after.notes.fields (self_of after.slots) k }) (sym (w.others (field k) i) ∙ d) in
          ap (λ (y : Known). y.kind) (sym c.1) ∙ r.kinds k f v e c.0)
          (place_is (field k) p)

  -- what a context says, where something is known of the place
  says_at : (N : ℕ → Type 0) (g : Context) (y : Option Known) → SaysOf N y x → (q : Location)
      → SaysOf N (g q) (cell_at h q) → SaysOf N (put g p y q) (cell_at after q)
  says_at N g y s q before = ⊎_elim
      (λ i. subst (λ z. SaysOf N z (cell_at after q)) (sym (put_that g p y q i))
      (subst (SaysOf N y) (sym (written_that q i)) s))
      (λ i. subst (λ z. SaysOf N z (cell_at after q)) (sym (put_other g p y q i))
      (subst (SaysOf N (g q)) (sym (w.others q i)) before))
      (place_is q p)

  pub says_written : (b : BodyFrame) (N : ℕ → Type 0) (g : Context) (y : Option Known) → SaysOf N y x → TellsThis p y x
      → Says b N g h every → Says b N (put g p y) after every
  says_written b N g y s tells a = record {
    slots = λ k e. says_at N g y s (slot k) (a.slots k e);
    fields = λ k av e. says_at N g y s (field k)
        (a.fields k (ap (λ t. available b k (state_number t)) (sym (own_state h after w.stays)) ∙ av) e);
    mode = λ e. ⊎_elim
        (λ i. ap (λ z. same_mode (permission_on z) (permission_in (after.slots 0))) (put_that g p y this i)
        ∙ ap (λ z. same_mode (permission_on y) (permission_in z)) (written_that this i) ∙ tells (sym i))
        (λ i. ap (λ z. same_mode (permission_on z) (permission_in (after.slots 0))) (put_other g p y this i)
        ∙ ap (λ z. same_mode (permission_at g this) (permission_in z)) (w.others this i) ∙ a.mode e)
        (place_is this p);
  }

  -- slots keep what they have, where the one that is written does
  pub slots_kept : (n : ℕ) → ((k : ℕ) → p ≡ slot k → k ≤ n → IsAlike (cell_at h p) x) → SlotsKept n h after
  slots_kept n like k le z e = ⊎_elim
      (λ i. let u = like k (sym i) le z (ap (cell_at h) (sym i) ∙ e) in (u.0, written_that (slot k) i ∙ u.1, u.2, u.3))
      (λ i. (z, w.others (slot k) i ∙ e, refl, refl))
      (place_is (slot k) p)

  -- slots past a number stay unset
  pub unset_kept : (n : ℕ) → ((k : ℕ) → p ≡ slot k → k < n) → ((k : ℕ) → n ≤ k → h.slots k ≡ None) → (k : ℕ) → n ≤ k
      → after.slots k ≡ None
  unset_kept n low before k le = ⊎_elim
      (λ i. absurd (let lt = low k (sym i) in omega (arith, lt, le)))
      (λ i. w.others (slot k) i ∙ before k le)
      (place_is (slot k) p)

  -- a frame that reads a place reads what it read, or what was written
  pub reads_written : (table : ClassTable) → self_of h.slots < length h.world.objects
      → IsObjectInRun table h.notes (self_of h.slots) (nth_object h.world.objects (self_of h.slots))
      → IsObjectInRun table after.notes (self_of after.slots) (nth_object after.world.objects (self_of after.slots))
      → (q : Location) → same_location q p ≡ false → read table after q ≡ read table h q
  reads_written table lt r s q ne = read_is table after (own_there h after w.stays lt) s q ∙ w.others q ne
      ∙ sym (read_is table h lt r q)

  pub reads_it : (table : ClassTable) → self_of h.slots < length h.world.objects
      → IsObjectInRun table after.notes (self_of after.slots) (nth_object after.world.objects (self_of after.slots))
      → read table after p ≡ x
  reads_it table lt s = read_is table after (own_there h after w.stays lt) s p ∙ w.itself

-- Kept arguments, one change after another.

pub slots_kept_itself : (n : ℕ) (h : Here) → SlotsKept n h h
slots_kept_itself n h k le z e = (z, e, refl, refl)

pub slots_kept_onward : (n : ℕ) (h1 h2 h3 : Here) → SlotsKept n h1 h2 → SlotsKept n h2 h3 → SlotsKept n h1 h3
slots_kept_onward n h1 h2 h3 a b k le z e =
    let u = a k le z e in
    let v = b k le u.0 u.1 in
    (v.0, v.1, v.2 ∙ u.2, v.3 ∙ u.3)

-- the arguments of a step, where each slot that is Shared by now was so, or no place owns its object any more
pub argument_kept : (left : ℕ → ℕ) (x : Cell) (y : Option Cell) → IsAlike (Some x) y
    → ((z : Cell) → y ≡ Some z → z.note.permission ≡ shared
    → (x.note.permission ≡ shared) ⊎ ((n : ℕ) → x.value ≡ reference n → left n ≡ 0))
    → KeepsArgument left x y
argument_kept left x y like so =
    let u = like x refl in
    subst (KeepsArgument left x) (sym u.1) (u.2, u.3, so u.0 u.1)

-- Open tests.

-- places under test keep their values
abbrev pub OpensKept : ClassTable → List Rest → Here → Here → Type 0
OpensKept table outer h after = (q : Location) (z : Cell) → is_tested (tested_places outer) q ≡ true
    → read table h q ≡ Some z
    → (y : Cell) × (read table after q ≡ Some y) × (y.value ≡ z.value)

module _ (b : BodyFrame) (h after : Here) (same_this : self_of after.slots ≡ self_of h.slots)
    (marks_stay : (n : ℕ) → (nth_object h.world.objects n).shared ≡ true
    → (nth_object after.world.objects n).shared ≡ true) where
  test_kept : (p : Location) (n m : ℕ) → m ≡ n
      → ((z : Cell) → read b.table h p ≡ Some z → (y : Cell) × (read b.table after p ≡ Some y) × (y.value ≡ z.value))
      → IsTestOf b h p n → IsTestOf b after p m
  test_kept p n m same kept t =
      let u = kept t.cell t.found in
      record { inside = t.inside; cell = u.0; found = u.1; object = u.2 ∙ t.object ∙ ap reference (sym same) }

  tested_here : (ends : Ends) (ps : List Location) (p : Location)
      → (ends ≡ test_end p) ⊎ ((n : ℕ) × (ends ≡ lock_end p n)) → is_tested (tested_before ends ps) p ≡ true
  tested_here ends ps p (inl e) = ap (λ x. is_tested (tested_before x ps) p) e
      ∙ or_left (same_location p p) (is_tested ps p) (same_place p)
  tested_here ends ps p (inr (n, e)) = ap (λ x. is_tested (tested_before x ps) p) e
      ∙ or_left (same_location p p) (is_tested ps p) (same_place p)

  open_kept : (ends : Ends)
      → ((p : Location) → (ends ≡ test_end p) ⊎ ((n : ℕ) × (ends ≡ lock_end p n)) → (z : Cell)
      → read b.table h p ≡ Some z
      → (y : Cell) × (read b.table after p ≡ Some y) × (y.value ≡ z.value)) → IsOpen b h ends → IsOpen b after ends
  open_kept plain_end kept a = a
  open_kept (test_end p) kept a = (
    a.0,
    test_kept p (self_of h.slots) (self_of after.slots) same_this (kept p (inl refl)) a.1,
    ap (λ i. (nth_object after.world.objects i).shared) same_this ∙ marks_stay (self_of h.slots) a.2,
  )
  open_kept (lock_end p n) kept a = (a.0, test_kept p n n refl (kept p (inr (n, refl))) a.1, marks_stay n a.2)
  open_kept (loop_end first x body end) kept a = a

  later : (ends : Ends) (ps : List Location) (q : Location) → is_tested ps q ≡ true
      → is_tested (tested_before ends ps) q ≡ true
  later plain_end ps q e = e
  later (test_end p) ps q e = or_right (same_location q p) (is_tested ps q) e
  later (lock_end p n) ps q e = or_right (same_location q p) (is_tested ps q) e
  later (loop_end first x body end) ps q e = e

  -- tests stay open where `this` and marks stay
  pub opens_kept_by : (outer : List Rest) → OpensKept b.table outer h after → AreOpen b h outer → AreOpen b after outer
  opens_kept_by [] kept a = tt
  opens_kept_by (r ∷ outer) kept a = (
    open_kept r.ends (λ p which z e. kept p z (tested_here r.ends (tested_places outer) p which) e) a.0,
    a.1,
    opens_kept_by outer (λ q z t e. kept q z (later r.ends (tested_places outer) q t) e) a.2,
  )

pub opens_kept : (b : BodyFrame) (h after : Here) → Stays h after → (outer : List Rest)
    → OpensKept b.table outer h after
    → AreOpen b h outer → AreOpen b after outer
opens_kept b h after s = opens_kept_by b h after s.this s.shared

pub opens_onward : (table : ClassTable) (outer : List Rest) (h1 h2 h3 : Here) → OpensKept table outer h1 h2
    → OpensKept table outer h2 h3 → OpensKept table outer h1 h3
opens_onward table outer h1 h2 h3 a b q z t e =
    let u = a q z t e in
    let v = b q u.0 t u.1 in
    (v.0, v.1, v.2 ∙ u.2)

-- a place is written that isn't under test, or that keeps its value
pub opens_written : (table : ClassTable) (outer : List Rest) (h after : Here) (p : Location) (x : Option Cell)
    → Written p x h after
    → self_of h.slots < length h.world.objects
    → IsObjectInRun table h.notes (self_of h.slots) (nth_object h.world.objects (self_of h.slots))
    → IsObjectInRun table after.notes (self_of after.slots) (nth_object after.world.objects (self_of after.slots))
    → (is_tested (tested_places outer) p ≡ true → IsAlike (cell_at h p) x) → OpensKept table outer h after
opens_written table outer h after p x w lt r s like q z t e = ⊎_elim
    (λ i. let u = like (ap (is_tested (tested_places outer)) (sym i) ∙ t) z
    (sym (read_is table h lt r p) ∙ ap (read table h) (sym i) ∙ e) in
    (u.0, ap (read table after) i ∙ reads_it h after p x w table lt s ∙ u.1, u.2))
    (λ i. (z, reads_written h after p x w table lt r s q i ∙ e, refl))
    (place_is q p)

-- Frames.

pub few_parameters : (f : SilicaFrame) (parts : BodyParts) (k : ℕ) (p : Parameter)
    → slice_get (all_parameters f.contract parts.signature) k ≡ Some p
    → k ≤ length parts.signature.params
few_parameters f parts k p e =
    let lt = slice_get_within (all_parameters f.contract parts.signature) k p e in
    let n : length (parameters parts.signature)
    ≡ length parts.signature.params = length-map parts.signature.params parameter_of in
    omega (arith, lt, n)

-- a frame goes on as one of its body, where the slots of its parameters keep their values and kinds
pub frame_kept : (table : ClassTable) (f : SilicaFrame) (parts : BodyParts) (h after : Here) → Stays h after
    → SlotsKept (length parts.signature.params) h after
    → ((k : ℕ) → parts.slots ≤ k → after.slots k ≡ None)
    → IsFrame table h.world.objects (record f { slots = h.slots }) parts
    → IsFrame table after.world.objects (record f { slots = after.slots }) parts
frame_kept table f parts h after s kept unset a =
    let u = kept 0 (omega arith) a.this a.set in
    record {
      own = a.own;
      class = a.class;
      signature = a.signature;
      few = a.few;
      params = a.params;
      this = u.0;
      set = u.1;
      refers = u.2 ∙ a.refers ∙ ap reference (sym s.this);
      kind = u.3 ∙ a.kind;
      there = own_there h after s a.there;
      contract = own_contract h after s ∙ a.contract;
      constructor = a.constructor;
      constructs = a.constructs;
      listed = a.listed;
      arguments = λ k p e. let v = a.arguments k p e in let w = kept k (few_parameters f parts k p e) v.0 v.1 in
          (w.0, w.1, w.3 ∙ v.2);
      unset = unset;
    }

-- Where a place of a frame is written, the frame's places are so again.
pub sits_written : (table : ClassTable) (f : SilicaFrame) (parts : BodyParts) (h after : Here) (g : Context)
    (p : Location) (x : Option Cell) (y : Option Known)
    → (k : Sits table f parts h g) → Written p x h after → IsPlaceIn (body_of table f parts) p
    → ((n : ℕ) → p ≡ slot n → n ≤ length parts.signature.params → IsAlike (cell_at h p) x)
    → HasRoom k.object.own (own_object h).state p x
    → ((z : Cell) → x ≡ Some z → Stands table after.world.objects z)
    → SaysOf (NeedsOwner table after.world.objects) y x → TellsThis p y x
    → (f.how ≡ by_new → p ≡ this → owns (permission_in x) ≡ true)
    → Sits table f parts after (put g p y)
sits_written table f parts h after g p x y k w inside like room st says tells made = record {
  frame = frame_kept table f parts h after w.stays (slots_kept h after p x w (length parts.signature.params) like)
      (unset_kept h after p x w parts.slots
      (λ n e. subst (IsPlaceIn (body_of table f parts)) e inside) k.frame.unset) k.frame;
  slots = slots_stand h after p x w table st k.slots;
  fields = fields_stand h after p x w table st k.fields;
  object = in_run_written h after p x w table k.object room;
  says = says_written h after p x w (body_of table f parts) (NeedsOwner table after.world.objects) g y says tells
      (says_less (body_of table f parts) (NeedsOwner table h.world.objects) (NeedsOwner table after.world.objects)
      (needs_stay table h after w.stays) g h every k.says);
  placed = λ ne. has_state_same table (own_object h) (own_object after) (own_contract h after w.stays)
      (own_state h after w.stays) (k.placed ne);
  owns_made = λ e. ⊎_elim
      (λ i. ap (λ z. owns (permission_in z)) (written_that h after p x w this i) ∙ made e (sym i))
      (λ i. ap (λ z. owns (permission_in z)) (w.others this i) ∙ k.owns_made e)
      (place_is this p);
}
