-- A test of a shared object ends: its place is Shared again, and a lock goes.
use Rattle.std.proofs.Common.{◌≡◌, ℕ, ◌+◌, ◌≤◌, inl, inr, ⊎_elim, true, nat_eq, List, ◌∷◌, Option, Some, refl, sym, ap, ◌∙◌, subst, arith}
use Rattle.std.proofs.lemmas.Bool.{both_ways}
use Rattle.std.proofs.lemmas.Bool.Decides.{eqb_tells}
use Rattle.ob_perm.specs.Permissions.{shared, owns}
use Rattle.ob_table.specs.Tables.{ClassTable}
use Rattle.ob_table_spec.specs.Conditions.{IsClassTable}
use Rattle.ob_heap_spec.specs.Values.{reference}
use Rattle.ob_silica_places.specs.Places.{Location}
use Rattle.ob_silica_steps.specs.Cells.{Cell, noted}
use Rattle.ob_silica_steps.specs.Configurations.{SlotCells, Ends, plain_end, test_end, lock_end, loop_end, Rest, Control, Configuration}
use Rattle.ob_silica_steps.specs.Here.{Here, here, self_of}
use Rattle.ob_flow_spec.specs.Contexts.{Context, now}
use Rattle.ob_coherent_spec.specs.Counting.{nth_object, one_if, Counted, any, in_cell, in_control, in_all, owners}
use Rattle.ob_coherent_spec.specs.Runs.{times, around, locks_at, locks_around, tests_at, tests_in}
use Rattle.ob_coherent_spec.specs.Standing.{NeedsOwner}
use Rattle.ob_coherent_spec.specs.Remaining.{body_of, IsPlaceIn}
use Rattle.ob_coherent_spec.specs.Waiting.{tests_of}
use Rattle.ob_coherent_spec.specs.Coherent.{Beginning, Holds}
use Rattle.ob_soundness_laws.proofs.counting.Cells.{shared_none}
use Rattle.ob_soundness_laws.proofs.counting.Numbers.{one_same, one_other}
use Rattle.ob_soundness_laws.proofs.counting.Frames.{tests_in_same}
use Rattle.ob_soundness_laws.proofs.counting.Testing.{tested_at, tests_of_more, tests_of_same}
use Rattle.ob_soundness_laws.specs.frames.Steps.{moved_to, KeepsWhole}
use Rattle.ob_soundness_laws.specs.places.Placed.{cell_at, Found, Sits}
use Rattle.ob_soundness_laws.proofs.places.Standing.{needs_stay}
use Rattle.ob_soundness_laws.proofs.places.Writing.{stays_leaves}
use Rattle.ob_soundness_laws.proofs.tests.Locking.{with_locked}
use Rattle.ob_soundness_laws.proofs.tests.Permitted.{permitted, place_written, marks_same, counts_after, arguments_after, fields_after, object_after}

-- an owner's cell counts for its object
pub owner_counts : (x : Cell) (m n : ℕ) → owns x.note.permission ≡ true → x.value ≡ reference m
    → in_cell owns n (Some x) ≡ one_if (nat_eq m n)
owner_counts x m n owner value = rw (owner, value) refl

-- a test that ends ends one lock at most, and one test of `this`
pub locks_tested : (n : ℕ) (slots : SlotCells) (e : Ends) → locks_at n e ≤ tested_at n slots e
locks_tested n slots plain_end = omega arith
locks_tested n slots (test_end p) = omega arith
locks_tested n slots (lock_end p m) = omega arith
locks_tested n slots (loop_end first x body end) = omega arith

pub tests_tested : (n : ℕ) (slots : SlotCells) (e : Ends)
    → tests_at (one_if (nat_eq (self_of slots) n)) e ≤ tested_at n slots e
tests_tested n slots plain_end = omega arith
tests_tested n slots (test_end p) = omega arith
tests_tested n slots (lock_end p m) = omega arith
tests_tested n slots (loop_end first x body end) = omega arith

module _ (table : ClassTable) (t : IsClassTable table) (entry : Option ℕ) (beginning : Beginning) (c : Configuration)
    (whole : Holds table entry beginning c) (g : Context) (sits : Sits table c.frame whole.parts (here c) g)
    (p : Location) (inside : IsPlaceIn (body_of table c.frame whole.parts) p)
    (u : Found (NeedsOwner table c.world.objects) (g p) (cell_at (here c) p))
    (m : ℕ) (refers : u.cell.value ≡ reference m) (owner : owns u.cell.note.permission ≡ true)
    (marked : (nth_object c.world.objects m).shared ≡ true)
    (r : Rest) (outer : List Rest) (control : Control) (before : around c.control ≡ r ∷ outer)
    (after : around control ≡ outer)
    (alike : (counts : Counted) (n : ℕ) → in_control counts n control ≡ in_control counts n c.control)
    (ends : (n : ℕ) → tested_at n c.frame.slots r.ends ≡ one_if (nat_eq m n))
    (ls : List ℕ) (unlocks : (n : ℕ) → locks_at n r.ends + times n ls ≡ times n c.world.locked) where
  abbrev ended : Here
  ended = with_locked (permitted c c.world.reads p shared) ls

  -- one owner less
  pub owners_ended : (n : ℕ) → owners n (moved_to c ended control) + one_if (nat_eq m n) ≡ owners n c
  owners_ended n =
      let e = counts_after table t entry beginning c whole g sits p inside u shared shared c.world.reads owns n ended
      refl refl refl control (alike owns n) in
      let one = owner_counts u.cell m n owner refers in
      let none = shared_none n (noted shared u.cell) refl in omega (arith, e, one, none)

  -- none is left
  pub none_left : owners m (moved_to c ended control) ≡ 0
  none_left = let e = owners_ended m in let one = one_same m in let most = whole.one_owner m in
      omega (arith, e, one, most)

  pub references_ended : (n : ℕ) → in_all any n (moved_to c ended control) ≡ in_all any n c
  references_ended n =
      let e = counts_after table t entry beginning c whole g sits p inside u shared shared c.world.reads any n ended
      refl refl refl control (alike any n) in
      let same : in_cell any n (Some (noted shared u.cell)) ≡ in_cell any n (Some u.cell) = refl in
      omega (arith, e, same)

  same_self : self_of ended.slots ≡ self_of c.frame.slots
  same_self = (place_written table t entry beginning c whole g sits p inside u shared shared c.world.reads).stays.this

  pub gone : (n : ℕ) → u.cell.value ≡ reference n → owners n (moved_to c ended control) ≡ 0
  gone n e = subst (λ i. owners i (moved_to c ended control) ≡ 0) (reference_same (sym refers ∙ e)) none_left
    where
      reference_same : {i j : ℕ} → reference i ≡ reference j → i ≡ j
      reference_same e = cc

  tests_less : (n : ℕ) → tests_in n ended.slots (around control) + tests_at
      (one_if (nat_eq (self_of c.frame.slots) n)) r.ends
      ≡ tests_in n c.frame.slots (around c.control)
  tests_less n =
      let a = ap (λ l. tests_in n c.frame.slots l) before in
      let b = ap (λ l. tests_in n ended.slots l) after in
      let d = tests_in_same n c.frame.slots ended.slots outer same_self in omega (arith, a, b, d)

  locks_less : (n : ℕ) → locks_around n (around control) + locks_at n r.ends ≡ locks_around n (around c.control)
  locks_less n =
      let a = ap (λ l. locks_around n l) before in
      let b = ap (λ l. locks_around n l) after in omega (arith, a, b)

  -- What is left of the whole, where a test ends.
  pub test_ends : (s : Sits table c.frame whole.parts (permitted c c.world.reads p shared) (now g p shared))
      → KeepsWhole table entry c whole.parts ended control
  test_ends s =
      let wr = place_written table t entry beginning c whole g sits p inside u shared shared c.world.reads in
      let marks = marks_same table t entry beginning c whole g sits p inside u shared shared c.world.reads in
      let l = stays_leaves c (permitted c c.world.reads p shared) wr.stays in
      record {
        others = record {
          count = l.count;
          contracts = l.contracts;
          states = l.states;
          fields = l.fields;
          notes =
              l.notes;
          shared = l.shared;
          disowned = l.disowned;
          handles = l.handles;
          progress = l.progress;
        };
        free = inl (wr.stays.states (self_of c.frame.slots));
        this = same_self;
        arguments = arguments_after table t entry beginning c whole g sits p inside u shared shared c.world.reads
            (λ n. owners n (moved_to c ended control)) (λ e. inr gone);
        unset = s.frame.unset;
        slots = s.slots;
        fields = fields_after table t entry beginning c whole g sits p inside u shared shared c.world.reads s;
        object = object_after table t entry beginning c whole g sits p inside u shared shared c.world.reads s;
        one_owner = λ n. let e = owners_ended n in let most = whole.one_owner n in omega (arith, e, most);
        disowned = λ n e f. let none = whole.disowned n (sym (marks.disowned n) ∙ e) (sym (marks.shared n) ∙ f) in
            let d = owners_ended n in omega (arith, none, d);
        shared = λ n e has. ⊎_elim
            (λ i. absurd (let none = subst (λ j. owners j (moved_to c ended control) ≡ 0) i.1 none_left in
            omega (arith, none, has)))
            (λ i. let other = ap one_if i.0 in let d = owners_ended n in let x = ends n in
            let y = locks_tested n c.frame.slots r.ends in let z = tests_tested n c.frame.slots r.ends in
            ⊎_elim (λ locked. inl (let v = unlocks n in omega (arith, other, x, y, v, locked)))
            (λ some. inr (let v = tests_less n in omega (arith, other, x, z, v, some)))
            (whole.shared n (sym (marks.shared n) ∙ e) (omega (arith, d, has))))
            (eqb_tells m n);
        assets = λ n need. let was = whole.assets n
            (needs_stay table (here c) (permitted c c.world.reads p shared) wr.stays n need) in
            let other = one_other m n (λ i. both_ways _ need.unshared
            (marks.shared n ∙ ap (λ j. (nth_object c.world.objects j).shared) (sym i) ∙ marked)) in
            let d = owners_ended n in omega (arith, was, other, d);
        balanced = λ n. let d = owners_ended n in let x = ends n in let more = tests_of_more n c.frame.slots r outer in
            let same = tests_of_same n c.frame.slots ended.slots outer same_self in
            let a = ap (λ l. tests_of n c.frame.slots l) before in let b = ap (λ l. tests_of n ended.slots l) after in
            omega (arith, d, x, more, same, a, b);
        lock_ends = λ n has. ⊎_elim
            (λ i. inr (subst (λ j. owners j (moved_to c ended control) ≡ 0) i.1 none_left))
            (λ i. inl (let other = ap one_if i.0 in let x = ends n in let y = locks_tested n c.frame.slots r.ends in
            let v = unlocks n in omega (arith, other, x, y, v, has)))
            (eqb_tells m n);
        tested = λ n has. whole.tested n (let v = tests_less n in omega (arith, v, has));
        locked = λ n. let a = whole.locked n in let b = locks_less n in let v = unlocks n in omega (arith, a, b, v);
        locked_once = λ n. let a = whole.locked_once n in let b = locks_less n in omega (arith, a, b);
      }
