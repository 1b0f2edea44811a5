-- What a write leaves: other frames, other objects, and the other places of the frame.
use Rattle.std.proofs.Common.{◌≡◌, ◌≢◌, ℕ, ◌<◌, true, false, length, Option, Some, None, refl, sym, ap, subst, ◌∙◌, ⊎_elim, eq-eqb}
use Rattle.std.specs.Prelude.{option_map}
use Rattle.std.proofs.lemmas.Bool.{ne_eqb, both_ways}
use Rattle.std.proofs.lemmas.Bool.Decides.{eqb_tells}
use Rattle.ob_perm.specs.Permissions.{Permission, shared, unowned, kept}
use Rattle.ob_table.specs.declared.contract.ResolvedType.{ResolvedType}
use Rattle.ob_heap_spec.specs.Values.{Value, reference, Numbered, put}
use Rattle.ob_heap_spec.specs.Objects.{Object, with_field}
use Rattle.ob_heap_spec.specs.Worlds.{World}
use Rattle.ob_heap_spec.specs.Marks.{comes_into, mark_disowned}
use Rattle.ob_silica_places.specs.Known.{Known, known, at, permission_of_type}
use Rattle.ob_silica_places.specs.Places.{Location, slot, field, same_location}
use Rattle.ob_silica_steps.specs.Cells.{Cell, noted, object_in}
use Rattle.ob_silica_steps.specs.Configurations.{Notes, Configuration}
use Rattle.ob_silica_steps.specs.Here.{Here, here, self_of, with_field_note, set_slot, set_field, set_permission, hand}
use Rattle.ob_coherent_spec.specs.Counting.{nth_object, field_cell}
use Rattle.ob_soundness_laws.specs.frames.Steps.{LeavesOthers}
use Rattle.ob_soundness_laws.specs.places.Placed.{cell_at, Stays, Written, SameMarks, SameCells}
use Rattle.ob_soundness_laws.proofs.counting.Objects.{edit_length, edit_same, edit_other, edit_locked, edit_progress}
use Rattle.ob_soundness_laws.proofs.counting.Marking.{Keeps, mark_disowned_keeps, mark_disowned_shared, comes_keeps, comes_disowned}
use Rattle.ob_soundness_laws.proofs.places.Objects.{at_same, at_that, at_other, edit_each, comes_newly_shared}
use Rattle.ob_soundness_laws.proofs.places.Reading.{self_same, field_cell_is, field_cell_from, same_field_cell}

-- What stays.

pub stays_itself : (h : Here) → Stays h h
stays_itself h = record {
  this = refl;
  count = refl;
  contracts = λ n. refl;
  states = λ n. refl;
  fields = λ n k ne. refl;
  notes = λ n k ne. refl;
  shared = λ n e. e;
  disowned = λ n e. e;
  handles = refl;
  locked = refl;
  progress = refl;
}

pub stays_onward : (h1 h2 h3 : Here) → Stays h1 h2 → Stays h2 h3 → Stays h1 h3
stays_onward h1 h2 h3 a b = record {
  this = b.this ∙ a.this;
  count = b.count ∙ a.count;
  contracts = λ n. b.contracts n ∙ a.contracts n;
  states = λ n. b.states n ∙ a.states n;
  fields = λ n k ne. b.fields n k (λ e. ne (e ∙ a.this)) ∙ a.fields n k ne;
  notes = λ n k ne. b.notes n k (λ e. ne (e ∙ a.this)) ∙ a.notes n k ne;
  shared = λ n e. b.shared n (a.shared n e);
  disowned = λ n e. b.disowned n (a.disowned n e);
  handles = b.handles ∙ a.handles;
  locked = b.locked ∙ a.locked;
  progress = b.progress ∙ a.progress;
}

-- other frames and objects are left as they are
pub stays_leaves : (c : Configuration) (h : Here) → Stays (here c) h → LeavesOthers c h
stays_leaves c h a = record {
  count = a.count;
  contracts = a.contracts;
  states = λ n ne. a.states n;
  fields = a.fields;
  notes = a.notes;
  shared = a.shared;
  disowned = a.disowned;
  handles = a.handles;
  progress = a.progress;
}

-- Marks.

pub marks_stay : (h : Here) (w : World) → Keeps h.world w → Stays h (record h { world = w })
marks_stay h w m = record {
  this = refl;
  count = m.count;
  contracts = m.contract;
  states = m.state;
  fields = λ n k ne. ap (λ (f : ℕ → Option Value). f k) (m.fields n);
  notes = λ n k ne. refl;
  shared = m.shared;
  disowned = m.disowned;
  handles = refl;
  locked = m.locked;
  progress = m.progress;
}

pub marks_same_cells : (h : Here) (w : World) → Keeps h.world w → SameCells h (record h { world = w })
marks_same_cells h w m = record { stays = marks_stay h w m; same = places }
  where
    places : (q : Location) → cell_at (record h { world = w }) q ≡ cell_at h q
    places (slot k) = refl
    places (field k) = ap
        (λ (f : ℕ → Option Value). option_map (λ v. record { value = v; note = h.notes.fields (self_of h.slots) k })
        (f k)) (m.fields (self_of h.slots))

pub written_after : (h1 h2 h3 : Here) (p : Location) (x : Option Cell) → SameCells h1 h2 → Written p x h2 h3
    → Written p x h1 h3
written_after h1 h2 h3 p x a b = record {
  stays = stays_onward h1 h2 h3 a.stays b.stays;
  itself = b.itself;
  others = λ q ne. b.others q ne ∙ a.same q;
}

-- A slot is written.

-- a slot that isn't that of `this`, or that keeps its object
abbrev pub KeepsThis : Here → ℕ → Option Cell → Type 0
KeepsThis h k x = k ≡ 0 → object_in x ≡ object_in (h.slots 0)

pub keeps_this : (h : Here) (k : ℕ) (x : Option Cell) → KeepsThis h k x → self_of (at h.slots k x) ≡ self_of h.slots
keeps_this h k x keep = self_same h.slots (at h.slots k x) (⊎_elim
    (λ e. ap object_in (at_that h.slots k x 0 e.1) ∙ keep (sym e.1))
    (λ e. ap object_in (at_other h.slots k x 0 e.1))
    (eqb_tells 0 k))

pub slot_stays : (k : ℕ) (x : Option Cell) (h : Here) → KeepsThis h k x → Stays h (set_slot k x h)
slot_stays k x h keep = record {
  this = keeps_this h k x keep;
  count = refl;
  contracts = λ n. refl;
  states = λ n. refl;
  fields = λ n k ne. refl;
  notes = λ n k ne. refl;
  shared = λ n e. e;
  disowned = λ n e. e;
  handles = refl;
  locked = refl;
  progress = refl;
}

pub slot_written : (k : ℕ) (x : Option Cell) (h : Here) → KeepsThis h k x → Written (slot k) x h (set_slot k x h)
slot_written k x h keep = record { stays = slot_stays k x h keep; itself = at_same h.slots k x; others = places }
  where
    places : (q : Location) → same_location q (slot k) ≡ false → cell_at (set_slot k x h) q ≡ cell_at h q
    places (slot n) ne = at_other h.slots k x n (λ e. both_ways _ ne (eq-eqb n k e))
    places (field f) ne = ap (λ n. field_cell h.notes h.world.objects n f) (keeps_this h k x keep)

pub slot_marks : (k : ℕ) (x : Option Cell) (h : Here) → SameMarks h (set_slot k x h)
slot_marks k x h = record { shared = λ n. refl; disowned = λ n. refl }

-- A field of `this` is written.

note_same : (notes : Notes) (n k : ℕ) (note : Known) → (with_field_note notes n k note).fields n k ≡ note
note_same notes n k note = ap (λ (f : ℕ → Known). f k) (at_same notes.fields n (at (notes.fields n) k note))
    ∙ at_same (notes.fields n) k note

note_other : (notes : Notes) (n k : ℕ) (note : Known) (f : ℕ) → f ≢ k
    → (with_field_note notes n k note).fields n f ≡ notes.fields n f
note_other notes n k note f ne = ap (λ (g : ℕ → Known). g f) (at_same notes.fields n (at (notes.fields n) k note))
    ∙ at_other (notes.fields n) k note f ne

note_elsewhere : (notes : Notes) (n k : ℕ) (note : Known) (m f : ℕ) → m ≢ n
    → (with_field_note notes n k note).fields m f ≡ notes.fields m f
note_elsewhere notes n k note m f ne = ap (λ (g : ℕ → Known). g f)
    (at_other notes.fields n (at (notes.fields n) k note) m ne)

put_same : (xs : Numbered Value) (k : ℕ) (v : Value) → put xs k v k ≡ Some v
put_same xs k v = rw (eq-eqb k k refl)

put_other : (xs : Numbered Value) (k : ℕ) (v : Value) (n : ℕ) → n ≢ k → put xs k v n ≡ xs n
put_other xs k v n ne = rw (ne_eqb n k ne)

pub field_stays : (k : ℕ) (x : Cell) (h : Here) → Stays h (set_field k x h)
field_stays k x h = let n = self_of h.slots in let f = with_field k x.value in record {
  this = refl;
  count = edit_length f n h.world;
  contracts = edit_each (λ o p. p.contract ≡ o.contract) f n h.world (λ o. refl) (λ o. refl);
  states = edit_each (λ o p. p.state ≡ o.state) f n h.world (λ o. refl) (λ o. refl);
  fields = λ m j ne. ap (λ (o : Object). o.fields j) (edit_other f n h.world m ne);
  notes = λ m j ne. note_elsewhere h.notes n k x.note m j ne;
  shared = edit_each (λ o p. o.shared ≡ true → p.shared ≡ true) f n h.world (λ o e. e) (λ o e. e);
  disowned = edit_each (λ o p. o.disowned ≡ true → p.disowned ≡ true) f n h.world (λ o e. e) (λ o e. e);
  handles = refl;
  locked = edit_locked f n h.world;
  progress = edit_progress f n h.world;
}

pub field_written : (k : ℕ) (x : Cell) (h : Here) → self_of h.slots < length h.world.objects
    → Written (field k) (Some x) h (set_field k x h)
field_written k x h lt = record {
  stays = field_stays k x h;
  itself = field_cell_from (set_field k x h).notes (set_field k x h).world.objects (self_of h.slots) k x.value
      (ap (λ (o : Object). o.fields k) (edit_same (with_field k x.value) (self_of h.slots) h.world lt)
      ∙ put_same (nth_object h.world.objects (self_of h.slots)).fields k x.value)
      ∙ ap (λ y. Some (record { value = x.value; note = y })) (note_same h.notes (self_of h.slots) k x.note);
  others = places;
}
  where
    places : (q : Location) → same_location q (field k) ≡ false → cell_at (set_field k x h) q ≡ cell_at h q
    places (slot n) ne = refl
    places (field f) ne =
        let apart : f ≢ k = λ e. both_ways _ ne (eq-eqb f k e) in
        same_field_cell h.notes (set_field k x h).notes h.world.objects (set_field k x h).world.objects
        (self_of h.slots) f
        (ap (λ (o : Object). o.fields f) (edit_same (with_field k x.value) (self_of h.slots) h.world lt)
        ∙ put_other (nth_object h.world.objects (self_of h.slots)).fields k x.value f apart)
        (note_other h.notes (self_of h.slots) k x.note f apart)

pub field_marks : (k : ℕ) (x : Cell) (h : Here) → SameMarks h (set_field k x h)
field_marks k x h = record {
  shared = edit_each (λ o p. p.shared ≡ o.shared) (with_field k x.value) (self_of h.slots) h.world (λ o. refl)
      (λ o. refl);
  disowned = edit_each (λ o p. p.disowned ≡ o.disowned) (with_field k x.value) (self_of h.slots) h.world (λ o. refl)
      (λ o. refl);
}

-- A place gets another permission.

noted_object : (q : Permission) (x : Option Cell) → object_in (option_map (noted q) x) ≡ object_in x
noted_object q None = refl
noted_object q (Some x) = refl

pub permission_written : (p : Location) (q : Permission) (x : Cell) (h : Here) → cell_at h p ≡ Some x
    → Written p (Some (noted q x)) h (set_permission p q h)
permission_written (slot k) q x h e = subst (λ z. Written (slot k) z h (set_permission (slot k) q h))
    (ap (option_map (noted q)) e)
    (slot_written k (option_map (noted q) (h.slots k)) h
    (λ z. noted_object q (h.slots k) ∙ ap (λ n. object_in (h.slots n)) z))
permission_written (field k) q x h e =
    let n = self_of h.slots in
    let is = field_cell_is h.notes h.world.objects n k x e in
    record {
      stays = record {
        this = refl;
        count = refl;
        contracts = λ m. refl;
        states = λ m. refl;
        fields = λ m j ne. refl;
        notes = λ m j ne. note_elsewhere h.notes n k (known (h.notes.fields n k).kind q) m j ne;
        shared = λ m z. z;
        disowned = λ m z. z;
        handles = refl;
        locked = refl;
        progress = refl;
      };
      itself = field_cell_from (set_permission (field k) q h).notes h.world.objects n k x.value is.0
          ∙ ap (λ y. Some (record { value = x.value; note = y }))
          (note_same h.notes n k (known (h.notes.fields n k).kind q) ∙ ap (λ (y : Known). known y.kind q) is.1);
      others = places;
    }
  where
    places : (r : Location) → same_location r (field k) ≡ false → cell_at (set_permission (field k) q h) r ≡ cell_at h r
    places (slot j) ne = refl
    places (field f) ne = same_field_cell h.notes (set_permission (field k) q h).notes h.world.objects h.world.objects
        (self_of h.slots) f refl
        (note_other h.notes (self_of h.slots) k (known (h.notes.fields (self_of h.slots) k).kind q) f
        (λ z. both_ways _ ne (eq-eqb f k z)))

pub permission_world : (p : Location) (q : Permission) (h : Here) → (set_permission p q h).world ≡ h.world
permission_world (slot k) q h = refl
permission_world (field k) q h = refl

pub permission_marks : (p : Location) (q : Permission) (h : Here) → SameMarks h (set_permission p q h)
permission_marks p q h = record {
  shared = λ n. ap (λ (w : World). (nth_object w.objects n).shared)
      (permission_world p q h);
  disowned = λ n. ap (λ (w : World). (nth_object w.objects n).disowned)
      (permission_world p q h);
}

-- A place hands its value over.

pub hand_written : (of : ResolvedType) (p : Location) (x : Cell) (h : Here) → cell_at h p ≡ Some x
    → Written p (Some (noted (kept x.note.permission (permission_of_type of)) x)) h (hand of p x h)
hand_written of p x h e =
    let m = marks_same_cells h (comes_into of x.value h.world) (comes_keeps of x.value h.world) in
    written_after h (record h { world = comes_into of x.value h.world }) (hand of p x h) p _ m
    (permission_written p (kept x.note.permission (permission_of_type of)) x
    (record h { world = comes_into of x.value h.world }) (m.same p ∙ e))

pub hand_world : (of : ResolvedType) (p : Location) (x : Cell) (h : Here)
    → (hand of p x h).world ≡ comes_into of x.value h.world
hand_world of p x h = permission_world p (kept x.note.permission (permission_of_type of))
    (record h { world = comes_into of x.value h.world })

-- only its object is newly shared, where the type is declared Shared, and no object is newly disowned
pub hand_shares : (of : ResolvedType) (p : Location) (x : Cell) (h : Here) (n : ℕ)
    → (nth_object h.world.objects n).shared ≡ false
    → (nth_object (hand of p x h).world.objects n).shared ≡ true → (x.value ≡ reference n)
    × (permission_of_type of ≡ shared)
hand_shares of p x h n unset set = comes_newly_shared of x.value h.world n unset
    (sym (ap (λ (w : World). (nth_object w.objects n).shared) (hand_world of p x h)) ∙ set)

pub hand_disowns_none : (of : ResolvedType) (p : Location) (x : Cell) (h : Here) (n : ℕ)
    → (nth_object (hand of p x h).world.objects n).disowned ≡ (nth_object h.world.objects n).disowned
hand_disowns_none of p x h n = ap (λ (w : World). (nth_object w.objects n).disowned) (hand_world of p x h)
    ∙ comes_disowned of x.value h.world n

-- An object is disowned.

pub disown_written : (n : ℕ) (p : Location) (x : Cell) (h : Here) → cell_at h p ≡ Some x
    → Written p (Some (noted unowned x)) h (set_permission p unowned (record h { world = mark_disowned n h.world }))
disown_written n p x h e =
    let m = marks_same_cells h (mark_disowned n h.world) (mark_disowned_keeps n h.world) in
    written_after h (record h { world = mark_disowned n h.world }) _ p _ m
    (permission_written p unowned x (record h { world = mark_disowned n h.world }) (m.same p ∙ e))

pub disown_shares_none : (n : ℕ) (p : Location) (h : Here) (m : ℕ)
    → (nth_object (set_permission p unowned (record h { world = mark_disowned n h.world })).world.objects m).shared ≡
    (nth_object h.world.objects m).shared
disown_shares_none n p h m = ap (λ (w : World). (nth_object w.objects m).shared)
    (permission_world p unowned (record h { world = mark_disowned n h.world }))
    ∙ mark_disowned_shared n h.world m
