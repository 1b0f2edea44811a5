-- A loan goes back: the place has its exit, and the parameter that had it is Unowned.
use Rattle.std.proofs.Common.{◌≡◌, ◌≢◌, ℕ, ◌+◌, ◌<◌, ◌≤◌, ◌⊎◌, inl, inr, ⊎_elim, Bool, true, false, not, ◌&&◌, ◌||◌, List, [], ◌∷◌, length, Option, Some, None, option_map, refl, sym, ap, ◌∙◌, subst, arith, eq-eqb}
use Rattle.std.specs.Prelude.{⊤}
use Rattle.std.proofs.lemmas.Bool.{both_ways, cases_lt, or_right, or_left}
use Rattle.std.proofs.lemmas.Bool.Decides.{eqb_tells}
use Rattle.ob_base.specs.Limits.{most_slots}
use Rattle.ob_perm.specs.Permissions.{Permission, owned, shared, unowned, owns}
use Rattle.ob_perm.specs.Masks.{permission_of}
use Rattle.ob_table.specs.Tables.{ClassTable}
use Rattle.ob_table.specs.declared.contract.ResolvedType.{ResolvedType}
use Rattle.ob_table_spec.specs.Conditions.{IsClassTable}
use Rattle.ob_table_spec.specs.WellFormed.{kind_of_resolved, is_reference}
use Rattle.ob_heap_spec.specs.Values.{reference}
use Rattle.ob_heap_spec.specs.Objects.{state_number, is_available}
use Rattle.ob_heap_spec.specs.Worlds.{World}
use Rattle.ob_silica_places.specs.Known.{Known, known}
use Rattle.ob_silica_places.specs.Places.{Location, slot, field, this, same_location}
use Rattle.ob_silica_steps.specs.Cells.{Cell, noted, permission_in}
use Rattle.ob_silica_steps.specs.Configurations.{SlotCells, How, by_receiver, by_this, by_new, SilicaFrame, Loan, Waiting, Notes, Configuration}
use Rattle.ob_silica_steps.specs.Here.{Here, self_of, set_permission}
use Rattle.ob_silica_steps.specs.Returning.{without_owner, unlends}
use Rattle.ob_flow_spec.specs.Contexts.{available, permission_on, permission_at, is_field, exit_of_field}
use Rattle.ob_flow_spec.specs.Joining.{same_mode}
use Rattle.ob_flow_spec.specs.Uses.{kind_known}
use Rattle.ob_places_laws.specs.Serving.{Allows}
use Rattle.ob_places_laws.proofs.Serves.{allows_itself}
use Rattle.ob_places_laws.proofs.Permissions.{same_mode_itself}
use Rattle.ob_coherent_spec.specs.Counting.{nth_object, field_cell, Counted, any, in_cell, in_slots, in_objects, in_handles, in_waiting, in_all, owners, references}
use Rattle.ob_coherent_spec.specs.Runs.{times, entered_at, entered_among, entries, constructing_at, constructing_among, constructions, open_tests}
use Rattle.ob_coherent_spec.specs.Standing.{Stands, AllStand, IsObjectInRun, NeedsOwner, HasItsState, HandlesStand}
use Rattle.ob_coherent_spec.specs.Saying.{SaysOf}
use Rattle.ob_coherent_spec.specs.Remaining.{body_of, HoldsSo, AreHeld}
use Rattle.ob_coherent_spec.specs.Waiting.{IsFrame, tests_of, SharesThis, is_lent, has_lent, is_result, is_on_this, is_settled, gives_back_as, AwaitsResult, IsLoan, AreLoans, LendNoField, IsApart, Waits, AllWait}
use Rattle.ob_coherent_spec.specs.Coherent.{Beginning, IsAsDeclared, Holds, LeavesWith, returning, StepsSo, IsGivenBack, outermost, BeganSo}
use Rattle.ob_soundness_laws.specs.frames.Steps.{KeepsArgument}
use Rattle.ob_soundness_laws.proofs.frames.Near.{IsNear, frame_with, all_near, each_self, keeps_itself}
use Rattle.ob_soundness_laws.proofs.frames.Entered.{has_entry, is_entered}
use Rattle.ob_soundness_laws.proofs.frames.Whole.{began_kept, entered_same, constructing_same}
use Rattle.ob_soundness_laws.proofs.counting.Cells.{unowned_none, cell_noted_none, cell_counted, counted_cell}
use Rattle.ob_soundness_laws.proofs.counting.Places.{in_slot}
use Rattle.ob_soundness_laws.proofs.counting.Writing.{IsLow, in_here, in_place}
use Rattle.ob_soundness_laws.proofs.counting.Frames.{tests_in_same}
use Rattle.ob_soundness_laws.proofs.counting.Sums.{at_other}
use Rattle.ob_soundness_laws.proofs.counting.Low.{set_slot_low, field_low}
use Rattle.ob_soundness_laws.proofs.counting.Lending.{unlent, unlent_with, unlent_self}
use Rattle.ob_soundness_laws.proofs.counting.Objects.{note_other_object}
use Rattle.ob_soundness_laws.specs.places.Placed.{cell_at, Written, IsAlike}
use Rattle.ob_soundness_laws.proofs.places.Reading.{read_is, place_is, same_place, kind_in_run, same_field_cell}
use Rattle.ob_soundness_laws.proofs.places.Writing.{permission_written, permission_world}
use Rattle.ob_soundness_laws.proofs.places.Keeping.{written_that, slots_stand, fields_stand, in_run_written, slots_kept, unset_kept, reads_written, opens_kept, opens_written, few_parameters, frame_kept}
use Rattle.ob_soundness_laws.proofs.places.Carrying.{noted_alike}
use Rattle.ob_soundness_laws.proofs.places.Getting.{objects_low}
use Rattle.ob_soundness_laws.proofs.returns.Returned.{back_to, Returned, to_returning, same_gift}
use Rattle.ob_soundness_laws.proofs.returns.Lent.{state_of, back_owners, back_kept, back_shared, back_stands}
use Rattle.ob_silica_steps.specs.Starting.{declared_note}

some_same : {A : Type 0} (x y : A) → Some x ≡ Some y → x ≡ y
some_same x y e = cc

slot_same : (j i : ℕ) → slot j ≡ slot i → j ≡ i
slot_same j i e = cc

-- what is said of a place that has the permission and the kind that are known of it
says_given : (N : ℕ → Type 0) (y : Option Known) (x : Cell) (q : Permission) → kind_known y ≡ x.note.kind
    → permission_on y ≡ q
    → SaysOf N y (Some (noted q x))
says_given N None x q kind e = record {
  known = tt;
  owner = λ n needs has. ap owns e ∙ (counted_cell owns n (noted q x) has).0;
}
says_given N (Some y) x q kind e = record {
  known = (sym kind, subst (Allows y.permission) e (allows_itself y.permission));
  owner = λ n needs has. ap owns e ∙ (counted_cell owns n (noted q x) has).0;
}

unowned_stands : (table : ClassTable) (objects : List _) (y : Cell) → Stands table objects y → Stands table objects
    (noted unowned y)
unowned_stands table objects y s = record {
  kind = s.kind;
  marked = λ e. absurd (let z : unowned ≡ shared = e in cc);
  states = λ a e. absurd (let z : unowned ≡ owned a = e in cc);
}

is_new : (how : How) → (how ≡ by_new) ⊎ (how ≢ by_new)
is_new by_new = inl refl
is_new by_receiver = inr (λ e. cc)
is_new by_this = inr (λ e. cc)

differs : (p q : Location) → same_location p q ≡ false → same_location q p ≡ false
differs p q e = ⊎_elim
    (λ i. absurd (both_ways _ e (subst (λ r. same_location p r ≡ true) (sym i) (same_place p))))
    (λ i. i)
    (place_is q p)

first_false : (a b : Bool) → (a || b) ≡ false → a ≡ false
first_false false b e = refl
first_false true b e = absurd (cc)

then_false : (a b : Bool) → (a || b) ≡ false → b ≡ false
then_false false b e = e
then_false true b e = absurd (cc)

module _ (table : ClassTable) (entry : Option ℕ) (beginning : Beginning) (t : IsClassTable table) (f : SilicaFrame)
    (result : Option Cell)
    (h : Waiting) (hs : List Waiting) (notes : Notes) (w : World) (k : Returned table entry beginning f result h hs
    notes w)
    (l : Loan) (ls : List Loan) (lent : h.loans ≡ l ∷ ls) where
  abbrev c : Configuration
  c = back_to f result h hs notes w

  abbrev N : ℕ → Type 0
  N = NeedsOwner table w.objects

  abbrev waits : Waits table N (back_to f result h hs notes w) f k.whole.parts (self_of f.slots ∷ []) (λ n. tests_of n
      f.slots []) h
  waits = k.whole.waiting.0

  abbrev before : Here
  before = record { slots = h.frame.slots; notes = notes; world = w }

  loans_are : AreLoans table c f k.whole.parts (λ n. tests_of n f.slots []) before waits.context (l ∷ ls)
  loans_are = subst (AreLoans table c f k.whole.parts (λ n. tests_of n f.slots []) before waits.context) lent waits.loans

  abbrev loan : IsLoan table c f k.whole.parts (λ n. tests_of n f.slots []) before waits.context l
  loan = loans_are.0

  run : IsObjectInRun table notes (self_of h.frame.slots) (nth_object w.objects (self_of h.frame.slots))
  run = k.whole.objects (self_of h.frame.slots) waits.frame.there

  found : cell_at before l.place ≡ Some loan.cell
  found = sym (read_is table before waits.frame.there run l.place) ∙ loan.place

  abbrev given_slots : SlotCells
  given_slots = (set_permission l.place l.exit before).slots

  abbrev given_notes : Notes
  given_notes = (set_permission l.place l.exit before).notes

  abbrev after : Here
  after = record { slots = given_slots; notes = given_notes; world = w }

  written : Written l.place (Some (noted l.exit loan.cell)) before after
  written = subst (λ v. Written l.place (Some (noted l.exit loan.cell)) before (record {
    slots = given_slots;
    notes = given_notes;
    world = v;
  }))
      (permission_world l.place l.exit before) (permission_written l.place l.exit loan.cell before found)

  abbrev next : Configuration
  next = unlent result h l ls hs (back_to f result h hs notes w)

  abbrev left_slots : SlotCells
  left_slots = without_owner l.param f.slots

  abbrev mine : Here
  mine = record { slots = f.slots; notes = notes; world = w }

  written_mine : Written (slot l.param) (Some (noted unowned loan.given)) mine (record {
    slots = left_slots;
    notes = notes;
    world = w;
  })
  written_mine = permission_written (slot l.param) unowned loan.given mine loan.found

  -- places and slots
  low_of : (p : Location) (x : Cell) → cell_at before p ≡ Some x → IsLow p
  low_of (slot j) x e = set_slot_low table w.objects h.frame waits.parts waits.frame j x e
  low_of (field j) x e = field_low table t notes w.objects (self_of h.frame.slots) run j x e

  few : l.param < most_slots
  few = set_slot_low table w.objects f k.whole.parts k.whole.frame l.param loan.given loan.found

  stands_at : (p : Location) (x : Cell) → cell_at before p ≡ Some x → Stands table w.objects x
  stands_at (slot j) x e = waits.cells j x e
  stands_at (field j) x e = k.whole.fields (self_of h.frame.slots) j x e

  stands_given : Stands table w.objects loan.given
  stands_given = k.whole.slots l.param loan.given loan.found

  given_kind : loan.given.note.kind ≡ kind_of_resolved loan.parameter.of
  given_kind = let r = k.whole.frame.arguments l.param loan.parameter loan.param in
      ap (λ (x : Cell). x.note.kind) (some_same loan.given r.0 (sym loan.found ∙ r.1)) ∙ r.2

  lent_first : (ms : List Loan) → ms ≡ l ∷ ls → has_lent ms l.param ≡ true
  lent_first ms e = ap (λ xs. has_lent xs l.param) e ∙ or_left (same_location (slot l.param) (slot l.param))
      (has_lent ls l.param) (eq-eqb l.param l.param refl)

  left_with : LeavesWith N (permission_of loan.parameter.exit) loan.given
  left_with = k.exits l.param loan.parameter loan.given (lent_first h.loans lent) loan.param loan.found

  -- the object isn't under construction, since two places refer to it
  referred_twice : (n : ℕ) → loan.cell.value ≡ reference n → 1 < references n c
  referred_twice n e =
      let x : in_cell any n (cell_at before l.place) ≡ 1 = ap (in_cell any n) found ∙ cell_counted any n loan.cell refl e
      in
      let y : in_cell any n (f.slots l.param) ≡ 1 = ap (in_cell any n) loan.found ∙ cell_counted any n loan.given refl (loan.same
      ∙ e) in
      let p = in_place any n l.place before (low_of l.place loan.cell found) in
      let q = in_slot any n f.slots l.param few in
      let s : references n c ≡ in_slots any n f.slots + in_objects any n notes w.objects
      + (in_cell any n result + (in_slots any n h.frame.slots + in_waiting any n hs) + in_handles any n notes.handles) =
      refl in
      let r : in_here any n before ≡ in_slots any n h.frame.slots + in_objects any n notes w.objects = refl in
      omega (arith, x, y, p, q, s, r)

  state : (n : ℕ) → loan.cell.value ≡ reference n → n < length w.objects → HasItsState table (nth_object w.objects n)
  state n e below = state_of table entry beginning f result h hs notes w k n below (⊎_elim
      (λ has. absurd (let one = k.unreferred n has in let two = referred_twice n e in omega arith))
      (λ none. omega arith)
      (cases_lt 0 (constructing_among n (h ∷ hs))))

  stands_back : Stands table w.objects (noted l.exit loan.cell)
  stands_back = back_stands table t w.objects loan.cell loan.given (kind_of_resolved loan.parameter.of) (permission_of
      loan.parameter.exit) l.exit
      loan.same given_kind loan.serves left_with (stands_at l.place loan.cell found) stands_given
      (objects_low table t notes w.objects k.whole.objects) state

  -- owners and references
  counted : (counts : Counted) (n : ℕ) → in_all counts n next + in_cell counts n (Some loan.cell) + in_cell counts n
      (Some loan.given)
      ≡ in_all counts n c + in_cell counts n (Some (noted l.exit loan.cell)) + in_cell counts n
      (Some (noted unowned loan.given))
  counted counts n = unlent_with counts n c h l ls hs result refl refl (low_of l.place loan.cell found) few waits.frame.there
      loan.cell loan.given found loan.found

  owners_less : (n : ℕ) → owners n next ≤ owners n c
  owners_less n = let x = counted owns n in let y = unowned_none n loan.cell loan.lent in
      let z = cell_noted_none owns n unowned loan.given refl in
      let o = back_owners N n loan.cell loan.given l.exit loan.same (permission_of loan.parameter.exit) loan.serves.mode left_with in
      omega (arith, x, y, z, o)

  owners_kept : (n : ℕ) → N n → owners n c ≤ owners n next
  owners_kept n needs = let x = counted owns n in let y = unowned_none n loan.cell loan.lent in
      let z = cell_noted_none owns n unowned loan.given refl in
      let o = back_kept N n loan.cell loan.given l.exit loan.same (permission_of loan.parameter.exit) loan.serves.mode left_with needs
      in omega (arith, x, y, z, o)

  references_same : (n : ℕ) → references n next ≡ references n c
  references_same n = let x = counted any n in
      let y : in_cell any n (Some (noted l.exit loan.cell)) ≡ in_cell any n (Some loan.cell) = refl in
      let z : in_cell any n (Some (noted unowned loan.given)) ≡ in_cell any n (Some loan.given) = refl in omega
      (arith, x, y, z)

  -- objects of frames
  same_mine : self_of left_slots ≡ self_of f.slots
  same_mine = unlent_self f.slots l.param

  same_below : self_of given_slots ≡ self_of h.frame.slots
  same_below = written.stays.this

  entries_same : (n : ℕ) → entries n next ≡ entries n c
  entries_same n = let x = entered_same n f.how f.slots left_slots same_mine in
      let y = entered_same n h.frame.how h.frame.slots given_slots same_below in omega (arith, x, y)

  constructing_below : (n : ℕ) → constructing_at n h.frame.how given_slots ≡ constructing_at n h.frame.how h.frame.slots
  constructing_below n = constructing_same n h.frame.how h.frame.slots given_slots same_below

  constructions_same : (n : ℕ) → constructions n next ≡ constructions n c
  constructions_same n = let x = constructing_same n f.how f.slots left_slots same_mine in
      let y = constructing_below n in omega (arith, x, y)

  open_same : (n : ℕ) → open_tests n next ≡ open_tests n c
  open_same n = let y = tests_in_same n h.frame.slots given_slots h.outer same_below in omega (arith, y)

  -- fields of objects
  other_field : (n j : ℕ) → n ≢ self_of h.frame.slots → field_cell given_notes w.objects n j ≡ field_cell notes
      w.objects n j
  other_field n j ne = same_field_cell notes given_notes w.objects w.objects n j refl (written.stays.notes n j ne)

  back_is : (z : Cell) → Some (noted l.exit loan.cell) ≡ Some z → Stands table w.objects z
  back_is z e = subst (Stands table w.objects) (some_same (noted l.exit loan.cell) z e) stands_back

  fields_now : (n : ℕ) → AllStand table w.objects (field_cell given_notes w.objects n)
  fields_now n = ⊎_elim
      (λ e. subst (λ i. AllStand table w.objects (field_cell given_notes w.objects i)) (same_below ∙ sym e.1)
      (fields_stand before after l.place (Some (noted l.exit loan.cell)) written table back_is (k.whole.fields
      (self_of h.frame.slots))))
      (λ e j x set. k.whole.fields n j x (sym (other_field n j e.1) ∙ set))
      (eqb_tells n (self_of h.frame.slots))

  run_now : IsObjectInRun table given_notes (self_of given_slots) (nth_object w.objects (self_of given_slots))
  run_now = in_run_written before after l.place (Some (noted l.exit loan.cell)) written table run (λ j z e s.
      let r = kind_in_run table notes w.objects (self_of h.frame.slots) run j loan.cell (subst (λ p. cell_at before p ≡
      Some loan.cell) e found) in
      (r.1, r.2, r.3, ap (λ (y : Cell). y.note.kind) (sym (some_same (noted l.exit loan.cell) z s)) ∙ r.4))

  objects_now : (n : ℕ) → n < length w.objects → IsObjectInRun table given_notes n (nth_object w.objects n)
  objects_now n below = ⊎_elim
      (λ e. subst (λ i. IsObjectInRun table given_notes i (nth_object w.objects i)) (same_below ∙ sym e.1) run_now)
      (λ e. let o = k.whole.objects n below in record {
        own = o.own;
        contract = o.contract;
        class = o.class;
        state = o.state;
        fields = o.fields;
        kinds = λ j x v at set. ap (λ (y : Known). y.kind) (written.stays.notes n j e.1) ∙ o.kinds j x v at set;
      })
      (eqb_tells n (self_of h.frame.slots))

  declared_now : (n : ℕ) → n < length w.objects → entries n next ≡ 0 → constructions n next ≡ 0
      → IsAsDeclared table N given_notes w.objects n
  declared_now n below none new = ⊎_elim
      (λ e. absurd (let x = has_entry table N c h.frame waits.parts _ _ hs k.whole.waiting.1 in
      let y = entries_same n in let z = constructions_same n in
      let x2 : 0 < entered_at n h.frame.how h.frame.slots + entered_among n hs + (constructing_at n h.frame.how
      h.frame.slots + constructing_among n hs) =
      subst (λ i. 0 < entered_at i h.frame.how h.frame.slots + entered_among i hs + (constructing_at i h.frame.how
      h.frame.slots + constructing_among i hs)) (sym e.1) x in
      let y2 : entries n c ≡ entered_at n f.how f.slots + (entered_at n h.frame.how h.frame.slots + entered_among n hs)
      = refl in
      let z2 : constructions n c ≡ constructing_at n f.how f.slots + (constructing_at n h.frame.how h.frame.slots +
      constructing_among n hs) = refl in
      omega (arith, x2, y, z, y2, z2, none, new)))
      (λ e. let o = k.whole.declared n below (sym (entries_same n) ∙ none) (sym (constructions_same n) ∙ new) in record {
        placed = o.placed;
        fields = λ j x at there. subst (SaysOf N (Some (declared_note x.of))) (sym (other_field n j e.1))
            (o.fields j x at there);
      })
      (eqb_tells n (self_of h.frame.slots))

  -- the frame that leaves
  frame_mine : IsFrame table w.objects (frame_with f left_slots) k.whole.parts
  frame_mine = frame_kept table f k.whole.parts mine (record { slots = left_slots; notes = notes; world = w }) written_mine.stays
      (slots_kept mine (record { slots = left_slots; notes = notes; world = w }) (slot l.param)
      (Some (noted unowned loan.given)) written_mine (length k.whole.parts.signature.params)
      (λ i e le. noted_alike loan.given unowned (cell_at mine (slot l.param)) loan.found))
      (unset_kept mine (record { slots = left_slots; notes = notes; world = w }) (slot l.param)
      (Some (noted unowned loan.given)) written_mine k.whole.parts.slots
      (λ i e. let low = few_parameters f k.whole.parts l.param loan.parameter loan.param in let more = k.whole.frame.params in
      let same = slot_same l.param i e in omega (arith, low, more, same)) k.whole.frame.unset)
      k.whole.frame

  slots_mine : AllStand table w.objects left_slots
  slots_mine = slots_stand mine (record { slots = left_slots; notes = notes; world = w }) (slot l.param)
      (Some (noted unowned loan.given)) written_mine table
      (λ z e. subst (Stands table w.objects) (some_same (noted unowned loan.given) z e) (unowned_stands table w.objects
      loan.given stands_given))
      k.whole.slots

  other_slot : (j : ℕ) → j ≢ l.param → left_slots j ≡ f.slots j
  other_slot j ne = at_other f.slots l.param (option_map (noted unowned) (f.slots l.param)) j ne

  that_slot : left_slots l.param ≡ Some (noted unowned loan.given)
  that_slot = written_mine.itself

  -- the frame that waits
  alike_below : (n : ℕ) → (i : ℕ) → l.place ≡ slot i → i ≤ n → IsAlike (cell_at before l.place)
      (Some (noted l.exit loan.cell))
  alike_below n i e le = noted_alike loan.cell l.exit (cell_at before l.place) found

  place_inside : (p : Location) (x : Cell) → cell_at before p ≡ Some x → (i : ℕ) → p ≡ slot i → i < waits.parts.slots
  place_inside p x e i is = ⊎_elim (λ below. below)
      (λ past. absurd (let none = waits.frame.unset i past in let some : h.frame.slots i ≡ Some x = subst
      (λ q. cell_at before q ≡ Some x) is e in cc))
      (cases_lt i waits.parts.slots)

  unset_below : (j : ℕ) → waits.parts.slots ≤ j → given_slots j ≡ None
  unset_below = unset_kept before after l.place (Some (noted l.exit loan.cell)) written waits.parts.slots (place_inside l.place
      loan.cell found) waits.frame.unset

  frame_below : IsFrame table w.objects (frame_with h.frame given_slots) waits.parts
  frame_below = frame_kept table h.frame waits.parts before after written.stays
      (slots_kept before after l.place (Some (noted l.exit loan.cell)) written (length waits.parts.signature.params)
      (alike_below (length waits.parts.signature.params)))
      unset_below waits.frame

  cells_below : AllStand table w.objects given_slots
  cells_below = slots_stand before after l.place (Some (noted l.exit loan.cell)) written table back_is waits.cells

  -- the permission of `this` that waits
  this_below : (given_slots 0 ≡ h.frame.slots 0) ⊎ ((l.place ≡ this) × (given_slots 0 ≡ Some (noted l.exit loan.cell)))
  this_below = ⊎_elim
      (λ e. inr (sym e, written_that before after l.place (Some (noted l.exit loan.cell)) written this e))
      (λ e. inl (written.others this e))
      (place_is this l.place)

  found_this : l.place ≡ this → h.frame.slots 0 ≡ Some loan.cell
  found_this e = subst (λ p. cell_at before p ≡ Some loan.cell) e found

  -- a constructor's `this` isn't lent
  not_made : h.frame.how ≡ by_new → l.place ≢ this
  not_made made e = let owner = waits.owns_made made in
      let none : owns (permission_in (h.frame.slots 0)) ≡ false = ap (λ x. owns (permission_in x)) (found_this e)
      ∙ ap owns loan.lent in both_ways _ none owner

  gone_shared : l.exit ≡ shared → (n : ℕ) → loan.cell.value ≡ reference n → owners n c ≤ 0
  gone_shared e n refers = loan.gone n (loan.same ∙ refers) (back_shared N loan.given l.exit (permission_of loan.parameter.exit) e
      loan.serves.mode left_with)

  this_refers : l.place ≡ this → loan.cell.value ≡ reference (self_of h.frame.slots)
  this_refers e = ap (λ (x : Cell). x.value) (some_same loan.cell waits.frame.this (sym (found_this e) ∙ waits.frame.set))
      ∙ waits.frame.refers

  shares_below : SharesThis (frame_with h.frame given_slots) next 0
  shares_below held = ⊎_elim
      (λ e. let s = waits.shares (ap permission_in (sym e) ∙ held) in (
        subst (λ n. 0 < times n w.progress) (sym same_below) s.0,
        ⊎_elim (λ less. inl (subst (λ n. owners n next ≤ 0) (sym same_below) (let o = owners_less (self_of h.frame.slots)
            in omega (arith, o, less))))
            (λ z. inr (z.0, subst (λ n. 0 < times n w.locked) (sym same_below) z.1)) s.1,
      ))
      (λ e. let is : l.exit ≡ shared = ap permission_in (sym e.1) ∙ held in
      let none = gone_shared is (self_of h.frame.slots) (this_refers e.0) in (
        subst (λ n. 0 < times n w.progress) (sym same_below) (⊎_elim
            (λ new. absurd (not_made new e.0))
            (λ old. let x = is_entered table N c h.frame waits.parts _ _ hs old k.whole.waiting.1 in
            let y = k.whole.progress (self_of h.frame.slots) in
            let z : entries (self_of h.frame.slots) c ≡ entered_at (self_of h.frame.slots) f.how f.slots
            + (entered_at (self_of h.frame.slots) h.frame.how h.frame.slots + entered_among (self_of h.frame.slots) hs)
            = refl in omega (arith, x, y, z))
            (is_new h.frame.how)),
        inl (subst (λ n. owners n next ≤ 0) (sym same_below) (let o = owners_less (self_of h.frame.slots) in omega
            (arith, o, none))),
      ))
      this_below

  -- what its context says
  settled_too : (p : Location) → same_location p l.place ≡ false → not (is_lent ls p || (is_result h.result p ||
      (is_on_this f.how && is_field p))) ≡ true
      → is_settled f.how h p ≡ true
  settled_too p ne e = rw (lent, ne) e

  says_back : SaysOf N (waits.context l.place) (Some (noted l.exit loan.cell))
  says_back = says_given N (waits.context l.place) loan.cell l.exit loan.kind loan.exit

  -- loans
  loans_too : (ms : List Loan) → is_lent ms l.place ≡ false → has_lent ms l.param ≡ false
      → AreLoans table c f k.whole.parts (λ n. tests_of n f.slots []) before waits.context ms
      → AreLoans table next (frame_with f left_slots) k.whole.parts (λ n. tests_of n left_slots []) after waits.context ms
  loans_too [] out unhad b = tt
  loans_too (m ∷ ms) out unhad b = (
    record {
      cell = b.0.cell;
      place = reads_written before after l.place (Some (noted l.exit loan.cell)) written table waits.frame.there run run_now
          m.place
          (differs l.place m.place (first_false _ _ out)) ∙ b.0.place;
      lent = b.0.lent;
      parameter = b.0.parameter;
      param = b.0.param;
      given = b.0.given;
      found = other_slot m.param (λ e. both_ways _ (first_false _ _ unhad) (eq-eqb l.param m.param (sym e)))
          ∙ b.0.found;
      same = b.0.same;
      serves = b.0.serves;
      kind = b.0.kind;
      exit = b.0.exit;
      gone = λ n refers held. let x = b.0.gone n refers held in let o = owners_less n in omega (arith, x, o);
    },
    b.1,
    b.2,
    loans_too ms (then_false _ _ out) (then_false _ _ unhad) b.3,
  )

  abbrev pub waiting_on : Waiting
  waiting_on = record h { frame = record h.frame { slots = given_slots }; loans = ls }

  await_too : (r : Option ℕ) (gift : Option ResolvedType) → AwaitsResult (body_of table h.frame waits.parts) waits.context h r
      gift
      → AwaitsResult (body_of table h.frame waits.parts) waits.context waiting_on r gift
  await_too None None b = tt
  await_too (Some i) (Some of) b = (
    b.0,
    b.1,
    b.2,
    λ x set. ⊎_elim
        (λ e. ap (λ (y : Cell). is_reference y.note.kind) (some_same x (noted l.exit loan.cell)
        (sym set ∙ written_that before after l.place (Some (noted l.exit loan.cell)) written (slot i) e))
        ∙ b.3 loan.cell (subst (λ p. cell_at before p ≡ Some loan.cell) (sym e) found))
        (λ e. b.3 x (sym (written.others (slot i) e) ∙ set))
        (place_is (slot i) l.place),
    b.4,
  )
  await_too None (Some of) b = absurd b
  await_too (Some i) None b = absurd b

  held_too : AreHeld waits.holdings given_slots (λ p. not (is_result h.result p))
  held_too j x free set = ⊎_elim
      (λ e. subst (HoldsSo (waits.holdings j)) (some_same (noted l.exit loan.cell) x (sym (written_that before after l.place
      (Some (noted l.exit loan.cell)) written (slot j) e) ∙ set))
      (let r = waits.held j loan.cell free (subst (λ p. cell_at before p ≡ Some loan.cell) (sym e) found) in record
      { kind = r.kind; refers = r.refers }))
      (λ e. waits.held j x free (sym (written.others (slot j) e) ∙ set))
      (place_is (slot j) l.place)

  waits_on : Waits table N next (frame_with f left_slots) k.whole.parts (self_of left_slots ∷ []) (λ n. tests_of n
      left_slots []) waiting_on
  waits_on = record {
    parts = waits.parts;
    context = waits.context;
    holdings = waits.holdings;
    frame = frame_below;
    owns_made = λ made. ⊎_elim (λ e. ap (λ x. owns (permission_in x)) e ∙ waits.owns_made made)
        (λ e. absurd (not_made made e.0)) this_below;
    cells = cells_below;
    says = record {
      slots = λ j e. ⊎_elim
          (λ i. subst (SaysOf N (waits.context (slot j))) (sym (written_that before after l.place
          (Some (noted l.exit loan.cell)) written (slot j) i))
          (subst (λ p. SaysOf N (waits.context p) (Some (noted l.exit loan.cell))) (sym i) says_back))
          (λ i. subst (SaysOf N (waits.context (slot j))) (sym (written.others (slot j) i)) (waits.says.slots j
          (settled_too (slot j) i e)))
          (place_is (slot j) l.place);
      fields = λ j there e. ⊎_elim
          (λ i. subst (SaysOf N (waits.context (field j))) (sym (written_that before after l.place
          (Some (noted l.exit loan.cell)) written (field j) i))
          (subst (λ p. SaysOf N (waits.context p) (Some (noted l.exit loan.cell))) (sym i) says_back))
          (λ i. subst (SaysOf N (waits.context (field j))) (sym (written.others (field j) i)) (waits.says.fields j
          (subst (λ n. available (body_of table h.frame waits.parts) j (state_number (nth_object w.objects n).state) ≡
          true) same_below there) (settled_too (field j) i e)))
          (place_is (field j) l.place);
      mode = λ e. ⊎_elim
          (λ i. ap (λ x. same_mode (permission_at waits.context this) (permission_in x)) (written_that before after l.place
          (Some (noted l.exit loan.cell)) written this i)
          ∙ ap (λ p. same_mode (permission_at waits.context p) l.exit) i ∙ ap (λ q. same_mode q l.exit) loan.exit
          ∙ same_mode_itself l.exit)
          (λ i. ap (λ x. same_mode (permission_at waits.context this) (permission_in x)) (written.others this i) ∙ waits.says.mode
          (settled_too this i e))
          (place_is this l.place);
    };
    held = held_too;
    result_held = λ j of e gift. waits.result_held j of e (sym (same_gift f.how f left_slots k.whole.parts) ∙ gift);
    remains = waits.remains;
    opens = opens_kept (body_of table h.frame waits.parts) before after written.stays h.outer
        (opens_written table h.outer before after l.place (Some (noted l.exit loan.cell)) written waits.frame.there run run_now
        (λ e. noted_alike loan.cell l.exit (cell_at before l.place) found)) waits.opens;
    open_slots = waits.open_slots;
    loans = loans_too ls loans_are.1 loans_are.2 loans_are.3;
    lent_slots = λ e. (subst LendNoField lent (waits.lent_slots e)).1;
    placed = λ other old. subst (λ n. HasItsState table (nth_object w.objects n)) (sym same_below) (waits.placed other
        old);
    apart = subst (λ n. IsApart f.how n (self_of left_slots ∷ []) (self_of left_slots)) (sym same_below)
        (subst (λ n. IsApart f.how (self_of h.frame.slots) (n ∷ []) n) (sym same_mine) waits.apart);
    back = waits.back;
    no_constructor = waits.no_constructor;
    result = await_too h.result (gives_back_as (frame_with f left_slots) k.whole.parts)
        (subst (AwaitsResult (body_of table h.frame waits.parts) waits.context h h.result) (sym (same_gift f.how f left_slots
        k.whole.parts)) waits.result);
    shares = shares_below;
    share_entered = waits.share_entered;
  }

  -- the frames below
  near : IsNear table (self_of h.frame.slots) (λ n. ⊤) N N c next
  near = record {
    count = omega arith;
    contracts = λ n b. refl;
    states = λ n b ne. refl;
    fields = λ n j b ne. refl;
    notes = λ n j b ne. written.stays.notes n j ne;
    shared = λ n e. e;
    progress = λ n s e. e;
    lock_ends = λ n e. inl e;
    needs = λ n b e. e;
    stand = k.whole.fields;
  }

  keeps_below : (j : ℕ) (x : Cell) → h.frame.slots j ≡ Some x → KeepsArgument (λ n. owners n next) x (given_slots j)
  keeps_below j x set = ⊎_elim
      (λ e. subst (KeepsArgument (λ n. owners n next) x) (sym (written_that before after l.place
      (Some (noted l.exit loan.cell)) written (slot j) e))
      (let same : loan.cell ≡ x = some_same loan.cell x (sym found ∙ ap (cell_at before) (sym e) ∙ set) in (
        ap (λ (y : Cell). y.value) same,
        ap (λ (y : Cell). y.note.kind) same,
        λ held. inr (λ n refers. let none = gone_shared held n (ap (λ (y : Cell). y.value) same ∙ refers) in let o =
            owners_less n in omega (arith, o, none)),
      )))
      (λ e. keeps_itself (λ n. owners n next) x (given_slots j) (written.others (slot j) e ∙ set))
      (place_is (slot j) l.place)

  balanced : (n : ℕ) → owners n next + (tests_of n h.frame.slots h.outer + tests_of n f.slots []) ≤ owners n c +
      (tests_of n given_slots h.outer + tests_of n left_slots [])
  balanced n = let x = owners_less n in let y = tests_in_same n h.frame.slots given_slots h.outer same_below in omega
      (arith, x, y)

  waiting_below : AllWait table N next (frame_with h.frame given_slots) waits.parts (self_of given_slots ∷ (self_of left_slots
      ∷ []))
      (λ n. tests_of n given_slots h.outer + tests_of n left_slots []) hs
  waiting_below = subst (λ n. AllWait table N next (frame_with h.frame given_slots) waits.parts
      (n ∷ (self_of left_slots ∷ []))
      (λ n. tests_of n given_slots h.outer + tests_of n left_slots []) hs) (sym same_below)
      (subst (λ n. AllWait table N next (frame_with h.frame given_slots) waits.parts (self_of h.frame.slots ∷ (n ∷ []))
      (λ n. tests_of n given_slots h.outer + tests_of n left_slots []) hs) (sym same_mine)
      (all_near table (self_of h.frame.slots) (λ n. ⊤) N N c next near h.frame waits.parts given_slots (self_of h.frame.slots
      ∷ (self_of f.slots ∷ []))
      (λ n. tests_of n h.frame.slots h.outer + tests_of n f.slots []) (λ n. tests_of n given_slots h.outer + tests_of n
      left_slots []) hs
      same_below (λ j x le set. keeps_below j x set) waits.cells (inl refl) (λ n b. balanced n) (inl refl)
      (each_self (λ n. ⊤) (λ n. tt) hs) k.whole.waiting.1))

  began : (gs : List Waiting) → gs ≡ hs → BeganSo table beginning (outermost h.frame gs)
      → BeganSo table beginning (outermost (frame_with h.frame given_slots) gs)
  began gs e b = began_kept table w.objects beginning h.frame waits.parts given_slots (λ n. owners n next) gs waits.frame
      (λ j x le set. keeps_below j x set) b

  whole_after : Holds table entry beginning next
  unfolding waits_on
  whole_after = record {
    one_owner = λ n. let o = owners_less n in let one = k.whole.one_owner n in omega (arith, o, one);
    disowned = λ n e g. let o = owners_less n in let none = k.whole.disowned n e g in omega (arith, o, none);
    shared = λ n e has. ⊎_elim (λ z. inl z) (λ z. inr (let x = open_same n in omega (arith, x, z)))
        (k.whole.shared n e (let o = owners_less n in omega (arith, o, has)));
    tested = λ n has. k.whole.tested n (let x = open_same n in omega (arith, x, has));
    assets = λ n needs. let o = owners_kept n needs in let has = k.whole.assets n needs in omega (arith, o, has);
    slots = slots_mine;
    fields = fields_now;
    handles = subst (HandlesStand w.objects) (sym written.stays.handles) k.whole.handles;
    objects = objects_now;
    declared = declared_now;
    progress = λ n. entries_same n ∙ k.whole.progress n;
    entered_once = λ n. let x = entries_same n in let one = k.whole.entered_once n in omega (arith, x, one);
    locked = k.whole.locked;
    locked_once = k.whole.locked_once;
    parts = k.whole.parts;
    frame = frame_mine;
    waiting = (waits_on, waiting_below);
    began = began hs refl k.whole.began;
  }

  -- a field is lent to a frame of another object
  far_field : is_field l.place ≡ true → self_of h.frame.slots ≢ self_of f.slots
  far_field e same = by_how f.how refl waits.apart
    where
      by_how : (how : How) → f.how ≡ how → IsApart how (self_of h.frame.slots) (self_of f.slots ∷ []) (self_of f.slots)
          → ⊥
      by_how by_this called apart = both_ways _ (subst LendNoField lent (waits.lent_slots called)).0 e
      by_how by_receiver called apart = apart.0 same
      by_how by_new called apart = apart.0 same

  field_mine : (p : Location) → (is_field p ≡ true → self_of h.frame.slots ≢ self_of f.slots) → (j : ℕ)
      → field_cell (set_permission p l.exit before).notes w.objects (self_of f.slots) j ≡ field_cell notes w.objects
      (self_of f.slots) j
  field_mine (slot i) far j = refl
  field_mine (field i) far j = same_field_cell notes (set_permission (field i) l.exit before).notes w.objects w.objects
      (self_of f.slots) j refl
      (note_other_object notes (self_of h.frame.slots) i
      (known (notes.fields (self_of h.frame.slots) i).kind l.exit) (self_of f.slots) j (λ e. far refl (sym e)))

  pub gives_one : Returned table entry beginning (frame_with f left_slots) result waiting_on hs given_notes w
  unfolding whole_after
  gives_one = record {
    whole = whole_after;
    returned = k.returned;
    given = subst (IsGivenBack N result) (sym (same_gift f.how f left_slots k.whole.parts)) k.given;
    none = λ j out n needs. ⊎_elim
        (λ e. subst (λ i. in_cell owns n (left_slots i) ≡ 0) (sym e.1) (ap (in_cell owns n) that_slot ∙ cell_noted_none
        owns n unowned loan.given refl))
        (λ e. ap (in_cell owns n) (other_slot j e.1) ∙ k.none j (ap (λ ms. has_lent ms j) lent
        ∙ (let z : same_location (slot j) (slot l.param) ≡ false = e.0 in rw z out)) n needs)
        (eqb_tells j l.param);
    exits = λ j p x had at set. let ne : j ≢ l.param = λ e. both_ways _ loans_are.2 (subst (λ i. has_lent ls i ≡ true) e
        had) in
        k.exits j p x (ap (λ ms. has_lent ms j) lent ∙ or_right (same_location (slot j) (slot l.param)) (has_lent ls j)
        had) at (sym (other_slot j ne) ∙ set);
    placed = subst (λ n. HasItsState table (nth_object w.objects n)) (sym same_mine) k.placed;
    fields = λ j x at there. subst (λ n. SaysOf N (Some (known (kind_of_resolved x.of) (exit_of_field (body_of table f
        k.whole.parts) k.whole.parts.signature j)))
        (field_cell given_notes w.objects n j)) (sym same_mine)
        (subst (SaysOf N (Some (known (kind_of_resolved x.of) (exit_of_field (body_of table f k.whole.parts)
        k.whole.parts.signature j))))
        (sym (field_mine l.place far_field j))
        (k.fields j x at (subst (λ n. is_available (nth_object w.objects n).state x ≡ true) same_mine there)));
    shares = λ old held. ⊎_elim
        (λ e. absurd (let z : unowned ≡ shared = sym (ap permission_in (ap left_slots e.1 ∙ that_slot)) ∙ held in cc))
        (λ e. let s = k.shares old (ap permission_in (sym (other_slot 0 e.1)) ∙ held) in (
          subst (λ n. 0 < times n w.progress) (sym same_mine) s.0,
          ⊎_elim (λ less. inl (subst (λ n. owners n next ≤ 0) (sym same_mine) (let o = owners_less (self_of f.slots) in
              omega (arith, o, less))))
              (λ z. inr (z.0, subst (λ n. 0 < times n w.locked) (sym same_mine) z.1)) s.1,
        ))
        (eqb_tells 0 l.param);
    unreferred = λ n has. let x = references_same n in let y = constructing_below n in let one = k.unreferred n
        (omega (arith, y, has)) in omega (arith, x, one);
    lends = k.lends;
  }

-- One loan goes back after another.
pub unlends_so : (table : ClassTable) (entry : Option ℕ) (beginning : Beginning) → IsClassTable table
    → (f : SilicaFrame) (result : Option Cell)
    (h : Waiting) (hs : List Waiting) (notes : Notes) (w : World) → Returned table entry beginning f result h hs notes w
    → (l : Loan) (ls : List Loan) → h.loans ≡ l ∷ ls
    → StepsSo table entry beginning (unlends result h l ls hs (back_to f result h hs notes w))
unlends_so table entry beginning t f result h hs notes w k l ls lent =
    returning (to_returning table entry beginning (frame_with f (without_owner l.param f.slots)) result
    (waiting_on table entry beginning t f result h hs notes w k l ls lent) hs
    (given_notes table entry beginning t f result h hs notes w k l ls lent) w
    (gives_one table entry beginning t f result h hs notes w k l ls lent))
