-- A step by which one place of a running frame gets another permission.
use Rattle.std.proofs.Common.{◌≡◌, ◌≢◌, ℕ, ◌+◌, ◌<◌, ◌≤◌, ◌⊎◌, inl, inr, ⊎_elim, true, List, length, Option, Some, refl, sym, ap, ◌∙◌, subst, arith}
use Rattle.std.proofs.lemmas.Bool.{both_ways}
use Rattle.std.proofs.lemmas.Option.{same_Some}
use Rattle.ob_perm.specs.Permissions.{Permission, shared, owns}
use Rattle.ob_table.specs.Tables.{ClassTable}
use Rattle.ob_table_spec.specs.Conditions.{IsClassTable}
use Rattle.ob_heap_spec.specs.Values.{reference}
use Rattle.ob_heap_spec.specs.Worlds.{ReadItem}
use Rattle.ob_silica.specs.Terms.{SilicaTerms}
use Rattle.ob_silica_places.specs.Places.{Location, slot, this}
use Rattle.ob_silica_steps.specs.Cells.{Cell, noted, permission_in}
use Rattle.ob_silica_steps.specs.Configurations.{by_new, Rest, Control, runs, Notes, Configuration}
use Rattle.ob_silica_steps.specs.Here.{Here, here, self_of, set_permission}
use Rattle.ob_silica_formed.specs.Holdings.{Holdings}
use Rattle.ob_flow_spec.specs.Contexts.{Context, now}
use Rattle.ob_flow_spec.specs.Joining.{same_mode}
use Rattle.ob_places_laws.specs.Serving.{Allows}
use Rattle.ob_coherent_spec.specs.Counting.{nth_object, field_cell, Counted, any, in_cell, in_control, in_all, owners}
use Rattle.ob_coherent_spec.specs.Standing.{Stands, AllStand, IsObjectInRun, NeedsOwner}
use Rattle.ob_coherent_spec.specs.Remaining.{body_of, IsPlaceIn, AreHeld}
use Rattle.ob_coherent_spec.specs.OpenTests.{AreOpen}
use Rattle.ob_coherent_spec.specs.Saying.{every}
use Rattle.ob_coherent_spec.specs.Coherent.{Beginning, Holds}
use Rattle.ob_soundness_laws.proofs.counting.Low.{place_low}
use Rattle.ob_soundness_laws.proofs.counting.Writing.{in_here}
use Rattle.ob_soundness_laws.proofs.counting.Cells.{cell_noted}
use Rattle.ob_soundness_laws.proofs.counting.Permitting.{permission_counts}
use Rattle.ob_soundness_laws.proofs.counting.Whole.{all_but_here}
use Rattle.ob_soundness_laws.specs.frames.Steps.{moved_to, moved, KeepsArgument, IsQuietStep}
use Rattle.ob_soundness_laws.specs.places.Placed.{cell_at, Written, SameMarks, IsAlike, Found, Sits}
use Rattle.ob_soundness_laws.proofs.places.Writing.{written_after, permission_written, permission_marks, stays_leaves}
use Rattle.ob_soundness_laws.proofs.places.Reading.{place_is}
use Rattle.ob_soundness_laws.proofs.places.Keeping.{argument_kept, opens_kept}
use Rattle.ob_soundness_laws.proofs.places.Holding.{held_noted}
use Rattle.ob_soundness_laws.proofs.places.Standing.{stands_stay, needs_stay}
use Rattle.ob_soundness_laws.proofs.places.Carrying.{carry, carry_opens, carry_kept}
use Rattle.ob_soundness_laws.proofs.tests.Unchanged.{having_read, reads_leave}

-- a place has its permission then
abbrev pub permitted : Configuration → List ReadItem → Location → Permission → Here
permitted c reads p q = set_permission p q (having_read c reads)

module _ (table : ClassTable) (t : IsClassTable table) (entry : Option ℕ) (beginning : Beginning) (c : Configuration)
    (whole : Holds table entry beginning c) (g : Context) (sits : Sits table c.frame whole.parts (here c) g)
    (p : Location) (inside : IsPlaceIn (body_of table c.frame whole.parts) p)
    (u : Found (NeedsOwner table c.world.objects) (g p) (cell_at (here c) p)) (q w : Permission)
    (reads : List ReadItem) where
  pub place_written : Written p (Some (noted q u.cell)) (here c) (permitted c reads p q)
  place_written = written_after (here c) (having_read c reads) (permitted c reads p q) p (Some (noted q u.cell))
      (reads_leave c reads)
      (permission_written p q u.cell (having_read c reads) ((reads_leave c reads).same p ∙ u.is))

  -- marks are the same
  pub marks_same : SameMarks (here c) (permitted c reads p q)
  marks_same = let m = permission_marks p q (having_read c reads) in record { shared = m.shared; disowned = m.disowned }

  pub place_alike : Allows w q → Stands table c.world.objects (noted q u.cell)
      → ((n : ℕ) → NeedsOwner table c.world.objects n → 0 < in_cell owns n (Some (noted q u.cell)) → owns w ≡ true)
      → (p ≡ this → same_mode w q ≡ true) → (c.frame.how ≡ by_new → p ≢ this)
      → Sits table c.frame whole.parts (permitted c reads p q) (now g p w)
  place_alike allows stands owner mode spares =
      let same = place_written.stays in
      carry table t c.frame whole.parts (here c) g sits (permitted c reads p q) p inside u q w place_written allows
      (stands_stay table (here c) (permitted c reads p q) same (noted q u.cell) stands)
      (λ n needs has. owner n (needs_stay table (here c) (permitted c reads p q) same n needs) has)
      mode spares

  -- what the places count then
  pub counts_after : (counts : Counted) (n : ℕ) (h : Here) → h.slots ≡ (permitted c reads p q).slots
      → h.notes ≡ (permitted c reads p q).notes
      → h.world.objects ≡ (permitted c reads p q).world.objects → (control : Control)
      → in_control counts n control ≡ in_control counts n c.control
      → in_all counts n (moved_to c h control) + in_cell counts n (Some u.cell) ≡ in_all counts n c + in_cell counts n
      (Some (noted q u.cell))
  counts_after counts n h e1 e2 e3 control alike =
      let rest = all_but_here counts n c (moved_to c h control) refl
      (ap (λ (x : Notes). x.handles) e2 ∙ place_written.stays.handles) in
      let change = permission_counts p q (having_read c reads)
      (place_low table t c.world.objects c.frame whole.parts whole.frame p inside) whole.frame.there u.cell
      ((reads_leave c reads).same p ∙ u.is) counts n in
      let same : in_here counts n (here (moved_to c h control)) ≡ in_here counts n (permitted c reads p q)
      = rw (e1, e2, e3) refl in
      omega (arith, rest, change, same, alike)

  -- a parameter keeps its value, and is Shared where it was, or where no place owns its object any more
  pub arguments_after : (left : ℕ → ℕ) → (q ≡ shared
      → (u.cell.note.permission ≡ shared) ⊎ ((n : ℕ) → u.cell.value ≡ reference n → left n ≡ 0))
      → (j : ℕ) (x : Cell) → j ≤ length whole.parts.signature.params → c.frame.slots j ≡ Some x
      → KeepsArgument left x ((permitted c reads p q).slots j)
  arguments_after left gone j x le e = argument_kept left x ((permitted c reads p q).slots j)
      (subst (λ y. IsAlike y ((permitted c reads p q).slots j)) e
      (carry_kept table t c.frame whole.parts (here c) g sits (permitted c reads p q) p q u
      (length whole.parts.signature.params) place_written j le))
      (λ z set held. ⊎_elim
      (λ i. let was : u.cell ≡ x = same_Some u.cell x (sym u.is ∙ ap (cell_at (here c)) (sym i) ∙ e) in
      let new : noted q u.cell ≡ z = same_Some (noted q u.cell) z
      (sym place_written.itself ∙ ap (cell_at (permitted c reads p q)) (sym i) ∙ set) in
      ⊎_elim
      (λ y. inl (ap (λ (d : Cell). d.note.permission) (sym was) ∙ y))
      (λ y. inr (λ n r. y n (ap (λ (d : Cell). d.value) was ∙ r)))
      (gone (ap (λ (d : Cell). d.note.permission) new ∙ held)))
      (λ i. let same : z ≡ x = same_Some z x (sym set ∙ place_written.others (slot j) i ∙ e) in
      inl (ap (λ (d : Cell). d.note.permission) (sym same) ∙ held))
      (place_is (slot j) p))

  -- the permission on `this` stays, unless it is the place
  pub this_after : ((permitted c reads p q).slots 0 ≡ c.frame.slots 0)
      ⊎ ((p ≡ this) × (permission_in ((permitted c reads p q).slots 0) ≡ q))
  this_after = ⊎_elim
      (λ i. inr (sym i, ap permission_in (ap (cell_at (permitted c reads p q)) i ∙ place_written.itself)))
      (λ i. inl (place_written.others this i))
      (place_is this p)

  -- slots hold what they did
  pub held_after : (i : Holdings) → AreHeld i c.frame.slots every → AreHeld i (permitted c reads p q).slots every
  held_after i held = held_noted i (here c) (permitted c reads p q) p u.cell q place_written u.is held

  module _ (s : Sits table c.frame whole.parts (permitted c reads p q) (now g p w)) where
    pub fields_after : AllStand table (permitted c reads p q).world.objects
        (field_cell (permitted c reads p q).notes (permitted c reads p q).world.objects (self_of c.frame.slots))
    fields_after = subst (λ n. AllStand table (permitted c reads p q).world.objects
        (field_cell (permitted c reads p q).notes (permitted c reads p q).world.objects n)) place_written.stays.this
        s.fields

    pub object_after : IsObjectInRun table (permitted c reads p q).notes (self_of c.frame.slots)
        (nth_object (permitted c reads p q).world.objects (self_of c.frame.slots))
    object_after = subst (λ n. IsObjectInRun table (permitted c reads p q).notes n
        (nth_object (permitted c reads p q).world.objects n)) place_written.stays.this s.object

    pub opens_after : (lists : List Rest) → AreOpen (body_of table c.frame whole.parts) (here c) lists
        → AreOpen (body_of table c.frame whole.parts) (permitted c reads p q) lists
    opens_after lists a = opens_kept (body_of table c.frame whole.parts) (here c)
        (permitted c reads p q) place_written.stays lists
        (carry_opens table t c.frame whole.parts (here c) g sits (permitted c reads p q) p q
        (now g p w) u lists place_written s) a

    -- Where the permission counts as it did, and isn't newly Shared, the step is quiet.
    pub permitted_quiet : (terms more : SilicaTerms) (outer lists : List Rest) → c.control ≡ runs terms outer
        → AreOpen (body_of table c.frame whole.parts) (here c) lists
        → owns q ≡ owns u.cell.note.permission → (q ≡ shared → u.cell.note.permission ≡ shared)
        → IsQuietStep table c whole.parts (permitted c reads p q) more lists
    permitted_quiet terms more outer lists so opens alike unshared = record {
      others = stays_leaves c (permitted c reads p q) place_written.stays;
      state = place_written.stays.states (self_of c.frame.slots);
      locks = place_written.stays.locked;
      this = place_written.stays.this;
      arguments = arguments_after (λ n. owners n (moved c (permitted c reads p q) more lists)) (λ e. inl (unshared e));
      unset = s.frame.unset;
      slots = s.slots;
      fields = fields_after;
      object = object_after;
      opens = opens_after lists opens;
      owns_made = s.owns_made;
      fewer = λ n. let e = same_owners n in omega (arith, e);
      keeps_owner = λ n need. let e = same_owners n in omega (arith, e);
      newly_shared = λ n e d. absurd (both_ways _ (marks_same.shared n ∙ e) d);
      newly_disowned = λ n e d. absurd (both_ways _ (marks_same.disowned n ∙ e) d);
      shares = λ e. inl (⊎_elim (λ y. ap permission_in (sym y) ∙ e)
          (λ y. ap (λ r. permission_in (cell_at (here c) r)) (sym y.0) ∙ ap permission_in u.is ∙ unshared (sym y.1 ∙ e))
          this_after);
      unreferred = λ n has. let e = same_references n in omega (arith, e);
    }
      where
        same_owners : (n : ℕ) → owners n (moved c (permitted c reads p q) more lists) ≡ owners n c
        same_owners n =
            let e = counts_after owns n (permitted c reads p q) refl refl refl (runs more lists)
            (sym (ap (in_control owns n) so)) in
            let d = cell_noted owns n q u.cell alike in omega (arith, e, d)

        same_references : (n : ℕ) → in_all any n (moved c (permitted c reads p q) more lists) ≡ in_all any n c
        same_references n =
            let e = counts_after any n (permitted c reads p q) refl refl refl (runs more lists)
            (sym (ap (in_control any n) so)) in
            let d = cell_noted any n q u.cell refl in omega (arith, e, d)
