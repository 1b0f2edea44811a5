-- A test of a shared object begins: its place owns the object in the tested state.
use Rattle.std.proofs.Common.{◌≡◌, ◌≢◌, ℕ, ◌+◌, ◌<◌, ◌≤◌, ◌⊎◌, inl, inr, ⊎_elim, true, nat_eq, List, ◌∷◌, Option, Some, refl, sym, ap, ◌∙◌, subst, arith}
use Rattle.std.proofs.lemmas.Bool.{both_ways, cases_lt}
use Rattle.std.proofs.lemmas.Bool.Decides.{eqb_tells}
use Rattle.ob_perm.specs.States.{only}
use Rattle.ob_perm.specs.Permissions.{owned, shared, owns}
use Rattle.ob_table.specs.Tables.{ClassTable}
use Rattle.ob_table_spec.specs.Conditions.{IsClassTable}
use Rattle.ob_heap_spec.specs.Values.{reference}
use Rattle.ob_heap_spec.specs.Worlds.{ReadItem}
use Rattle.ob_silica.specs.Terms.{SilicaTerms}
use Rattle.ob_silica_places.specs.Places.{Location, this}
use Rattle.ob_silica_steps.specs.Cells.{noted}
use Rattle.ob_silica_steps.specs.Configurations.{by_new, Ends, Rest, Control, runs, Configuration}
use Rattle.ob_silica_steps.specs.Here.{Here, here, self_of}
use Rattle.ob_flow_spec.specs.Contexts.{now}
use Rattle.ob_coherent_spec.specs.Counting.{nth_object, one_if, any, in_cell, in_control, in_all, owners}
use Rattle.ob_coherent_spec.specs.Runs.{times, around, locks_at, locks_around, locks, tests_at, tests_in}
use Rattle.ob_coherent_spec.specs.Standing.{Stands, HasItsState, NeedsOwner}
use Rattle.ob_coherent_spec.specs.Saying.{every}
use Rattle.ob_coherent_spec.specs.Remaining.{body_of, IsPlaceIn, Remains}
use Rattle.ob_coherent_spec.specs.OpenTests.{IsTestOf, IsOpen, IsNew}
use Rattle.ob_coherent_spec.specs.Waiting.{tests_of, SharesThis}
use Rattle.ob_coherent_spec.specs.Coherent.{Beginning, IsRunning}
use Rattle.ob_soundness_laws.proofs.counting.Cells.{shared_none}
use Rattle.ob_soundness_laws.proofs.counting.Numbers.{one_other}
use Rattle.ob_soundness_laws.proofs.counting.Frames.{tests_in_same}
use Rattle.ob_soundness_laws.proofs.counting.Testing.{tested_at, tested_same, tests_of_more, tests_of_same}
use Rattle.ob_soundness_laws.specs.frames.Steps.{moved, IsOwnStep}
use Rattle.ob_soundness_laws.proofs.frames.Own.{own_step_keeps}
use Rattle.ob_soundness_laws.specs.places.Placed.{cell_at, Found, Sits}
use Rattle.ob_soundness_laws.proofs.places.Reading.{read_is}
use Rattle.ob_soundness_laws.proofs.places.Standing.{needs_stay}
use Rattle.ob_soundness_laws.proofs.places.Writing.{stays_leaves}
use Rattle.ob_soundness_laws.proofs.tests.Unchanged.{opens_so}
use Rattle.ob_soundness_laws.proofs.tests.Locking.{with_locked, read_locked, opens_locked, says_locked}
use Rattle.ob_soundness_laws.proofs.places.Handing.{sits_holding}
use Rattle.ob_soundness_laws.proofs.tests.Permitted.{permitted, place_written, marks_same, place_alike, counts_after, arguments_after, held_after, fields_after, object_after, opens_after}
use Rattle.ob_soundness_laws.proofs.tests.Ending.{owner_counts}

module _ (table : ClassTable) (t : IsClassTable table) (entry : Option ℕ) (beginning : Beginning) (c : Configuration)
    (k : IsRunning table entry beginning c) (terms : SilicaTerms) (outer : List Rest)
    (so : c.control ≡ runs terms outer)
    (p : Location) (inside : IsPlaceIn (body_of table c.frame k.whole.parts) p)
    (u : Found (NeedsOwner table c.world.objects) (k.context p) (cell_at (here c) p)) (state : ℕ)
    (reads : List ReadItem)
    (m : ℕ) (refers : u.cell.value ≡ reference m) (sharing : u.cell.note.permission ≡ shared)
    (marked : (nth_object c.world.objects m).shared ≡ true)
    (stands : Stands table c.world.objects (noted (owned (only state)) u.cell))
    (spares : c.frame.how ≡ by_new → p ≢ this) (ls : List ℕ) where
  abbrev before : Sits table c.frame k.whole.parts (here c) k.context
  before = sits_holding table entry beginning c k

  abbrev unlocked : Here
  unlocked = permitted c reads p (owned (only state))

  abbrev now_here : Here
  now_here = with_locked unlocked ls

  pub begun : Sits table c.frame k.whole.parts unlocked (now k.context p (owned (only state)))
  begun = place_alike table t entry beginning c k.whole k.context before p inside u (owned (only state))
      (owned (only state)) reads
      (only state, refl, λ i low e. e) stands (λ n needs has. refl) (λ z. refl) spares

  pub self_begun : self_of now_here.slots ≡ self_of c.frame.slots
  self_begun = (place_written table t entry beginning c k.whole k.context before p inside u (owned (only state))
      (owned (only state)) reads).stays.this

  pub progress_begun : now_here.world.progress ≡ c.world.progress
  progress_begun = (place_written table t entry beginning c k.whole k.context before p inside u (owned (only state))
      (owned (only state)) reads).stays.progress

  pub marked_begun : (n : ℕ) → (nth_object now_here.world.objects n).shared ≡ (nth_object c.world.objects n).shared
  marked_begun = (marks_same table t entry beginning c k.whole k.context before p inside u (owned (only state))
      (owned (only state)) reads).shared

  -- the place under test refers to its object
  pub test_begun : IsTestOf (body_of table c.frame k.whole.parts) now_here p m
  test_begun = record {
    inside = inside;
    cell = noted (owned (only state)) u.cell;
    found = read_locked table unlocked ls p ∙ read_is table unlocked begun.frame.there begun.object p
        ∙ (place_written table t entry beginning c k.whole k.context before p inside u (owned (only state))
        (owned (only state)) reads).itself;
    object = refers;
  }

  module _ (ownerless : owners m c ≡ 0) (more rest : SilicaTerms) (e : Ends)
      (begins : (n : ℕ) → tested_at n c.frame.slots e ≡ one_if (nat_eq m n))
      (locks_more : (n : ℕ) → locks_at n e + times n c.world.locked ≡ times n ls)
      (covered : (0 < times m ls) ⊎ (0 < tests_at (one_if (nat_eq (self_of c.frame.slots) m)) e))
      (once : (n : ℕ) → times n ls ≤ 1)
      (busy : (n : ℕ) → 0 < tests_at (one_if (nat_eq (self_of c.frame.slots) n)) e → 0 < times n c.world.progress) where
    abbrev after : Configuration
    after = moved c now_here more (record { terms = rest; ends = e } ∷ outer)

    -- one owner more
    pub owners_begun : (n : ℕ) → owners n after ≡ owners n c + one_if (nat_eq m n)
    owners_begun n =
        let d = counts_after table t entry beginning c k.whole k.context before p inside u (owned (only state))
        (owned (only state)) reads owns n now_here refl refl refl
        (runs more (record { terms = rest; ends = e } ∷ outer)) (sym (ap (in_control owns n) so)) in
        let one = owner_counts (noted (owned (only state)) u.cell) m n refl refers in
        let none = shared_none n u.cell sharing in omega (arith, d, one, none)

    references_begun : (n : ℕ) → in_all any n after ≡ in_all any n c
    references_begun n =
        let d = counts_after table t entry beginning c k.whole k.context before p inside u (owned (only state))
        (owned (only state)) reads any n now_here refl refl refl
        (runs more (record { terms = rest; ends = e } ∷ outer)) (sym (ap (in_control any n) so)) in
        let same : in_cell any n (Some (noted (owned (only state)) u.cell)) ≡ in_cell any n (Some u.cell) = refl in
        omega (arith, d, same)

    tests_begun : (n : ℕ) → tests_in n now_here.slots (record { terms = rest; ends = e } ∷ outer)
        ≡ tests_at (one_if (nat_eq (self_of c.frame.slots) n)) e + tests_in n c.frame.slots (around c.control)
    tests_begun n =
        let a = tests_in_same n c.frame.slots now_here.slots (record { terms = rest; ends = e } ∷ outer) self_begun in
        let b = ap (λ (x : Control). tests_in n c.frame.slots (around x)) so in omega (arith, a, b)

    locks_begun : (n : ℕ) → locks entry n after ≡ times n ls
    locks_begun n =
        let a = k.whole.locked n in let b = ap (λ (x : Control). locks_around n (around x)) so in
        let d = locks_more n in omega (arith, a, b, d)

    pub begins_own : IsOpen (body_of table c.frame k.whole.parts) now_here e → IsNew e outer
        → SharesThis (record c.frame { slots = now_here.slots }) after 0
        → IsOwnStep table entry c k.whole.parts now_here more (record { terms = rest; ends = e } ∷ outer)
    begins_own opening new shares =
        let wr = place_written table t entry beginning c k.whole k.context before p inside u (owned (only state))
        (owned (only state)) reads in
        let marks = marks_same table t entry beginning c k.whole k.context before p inside u (owned (only state))
        (owned (only state)) reads in
        let l = stays_leaves c unlocked wr.stays in
        record {
          others = record {
            count = l.count;
            contracts = l.contracts;
            states = l.states;
            fields = l.fields;
            notes =
                l.notes;
            shared = l.shared;
            disowned = l.disowned;
            handles = l.handles;
            progress = l.progress;
          };
          free = inl (wr.stays.states (self_of c.frame.slots));
          this = self_begun;
          arguments = arguments_after table t entry beginning c k.whole k.context before p inside u (owned (only state))
              (owned (only state)) reads (λ n. owners n after) (λ z. absurd (cc));
          unset = begun.frame.unset;
          slots = begun.slots;
          fields = fields_after table t entry beginning c k.whole k.context before p inside u (owned (only state))
              (owned (only state)) reads begun;
          object = object_after table t entry beginning c k.whole k.context before p inside u (owned (only state))
              (owned (only state)) reads begun;
          placed = λ made. subst (λ n. HasItsState table (nth_object now_here.world.objects n)) self_begun
              (begun.placed made);
          opens = (
            opening,
            new,
            opens_locked (body_of table c.frame k.whole.parts) unlocked ls outer
                (opens_after table t entry beginning c k.whole k.context before p inside u (owned (only state))
                (owned (only state)) reads begun outer
                (opens_so table entry beginning c k terms outer so)),
          );
          shares = shares;
          owns_made = begun.owns_made;
          one_owner = λ n. ⊎_elim
              (λ i. let none = subst (λ j. owners j c ≡ 0) i.1 ownerless in let d = owners_begun n in
              let one = ap one_if i.0 in omega (arith, none, d, one))
              (λ i. let most = k.whole.one_owner n in let d = owners_begun n in let other = ap one_if i.0 in
              omega (arith, most, d, other))
              (eqb_tells m n);
          disowned = λ n z f. let none = k.whole.disowned n (sym (marks.disowned n) ∙ z) (sym (marks.shared n) ∙ f) in
              let d = owners_begun n in
              let other = one_other m n (λ i. both_ways _ f
              (marks.shared n ∙ ap (λ j. (nth_object c.world.objects j).shared) (sym i) ∙ marked)) in
              omega (arith, none, d, other);
          shared = λ n z has. ⊎_elim
              (λ i. ⊎_elim
              (λ locked. inl (subst (λ j. 0 < times j ls) i.1 locked))
              (λ open_now. inr (let v = tests_begun n in
              let some : 0 < tests_at (one_if (nat_eq (self_of c.frame.slots) n)) e = subst
              (λ j. 0 < tests_at (one_if (nat_eq (self_of c.frame.slots) j)) e) i.1 open_now in
              omega (arith, v, some)))
              covered)
              (λ i. let other = ap one_if i.0 in let d = owners_begun n in
              ⊎_elim (λ locked. inl (let v = locks_more n in omega (arith, v, locked)))
              (λ some. inr (let v = tests_begun n in omega (arith, v, some)))
              (k.whole.shared n (sym (marks.shared n) ∙ z) (omega (arith, d, has, other))))
              (eqb_tells m n);
          assets = λ n need. let was = k.whole.assets n (needs_stay table (here c) unlocked wr.stays n need) in
              let d = owners_begun n in omega (arith, was, d);
          balanced = λ n. let d = owners_begun n in let x = begins n in
              let y = tested_same n c.frame.slots now_here.slots e self_begun in
              let more_tests = tests_of_more n now_here.slots (record { terms = rest; ends = e }) outer in
              let same = tests_of_same n c.frame.slots now_here.slots outer self_begun in
              let a = ap (λ (x : Control). tests_of n c.frame.slots (around x)) so in
              omega (arith, d, x, y, more_tests, same, a);
          lock_ends = λ n has. inl (let v = locks_more n in omega (arith, v, has));
          tested = λ n has. ⊎_elim
              (λ some. busy n some)
              (λ none. k.whole.tested n (let v = tests_begun n in omega (arith, v, has, none)))
              (cases_lt 0 (tests_at (one_if (nat_eq (self_of c.frame.slots) n)) e));
          locked = locks_begun;
          locked_once = λ n. let a = locks_begun n in let b = once n in omega (arith, a, b);
          unreferred = λ n has. let same = references_begun n in omega (arith, same);
        }

    -- The step leads to a coherent configuration.
    pub begins_keep : IsOpen (body_of table c.frame k.whole.parts) now_here e → IsNew e outer
        → SharesThis (record c.frame { slots = now_here.slots }) after 0
        → Remains (body_of table c.frame k.whole.parts) k.holdings (now k.context p (owned (only state))) more
        (record { terms = rest; ends = e } ∷ outer)
        → IsRunning table entry beginning after
    begins_keep opening new shares remains = own_step_keeps table entry beginning c now_here more
        (record { terms = rest; ends = e } ∷ outer) t k
        (begins_own opening new shares) (now k.context p (owned (only state)))
        (says_locked (body_of table c.frame k.whole.parts) (NeedsOwner table now_here.world.objects)
        (now k.context p (owned (only state))) unlocked ls every begun.says)
        k.holdings
        (held_after table t entry beginning c k.whole k.context before p inside u (owned (only state))
        (owned (only state)) reads k.holdings k.held)
        remains
