-- The end of a list of terms: the one around it goes on, and a test ends.
use Rattle.std.proofs.Common.{◌≡◌, ◌≢◌, ℕ, ◌+◌, ◌<◌, ◌≤◌, inl, inr, ⊎_elim, true, false, nat_eq, List, [], ◌∷◌, Option, refl, sym, ap, ◌∙◌, subst, arith}
use Rattle.std.proofs.lemmas.Bool.{both_ways}
use Rattle.std.proofs.lemmas.Bool.Decides.{eqb_tells}
use Rattle.ob_perm.specs.Permissions.{shared, owns}
use Rattle.ob_table.specs.Tables.{ClassTable}
use Rattle.ob_table_spec.specs.Conditions.{IsClassTable}
use Rattle.ob_heap_spec.specs.Values.{reference}
use Rattle.ob_heap_spec.specs.Marks.{without_first}
use Rattle.ob_silica.specs.Terms.{SilicaTerms, no_terms}
use Rattle.ob_silica_places.specs.Places.{Location, this, same_location}
use Rattle.ob_silica_steps.specs.Cells.{noted, permission_in}
use Rattle.ob_silica_steps.specs.Configurations.{SilicaProgram, by_new, Ends, plain_end, test_end, lock_end, loop_end, Rest, Control, runs, Configuration}
use Rattle.ob_silica_steps.specs.Here.{Here, here, self_of, goes_to}
use Rattle.ob_silica_steps.specs.Steps.{pop_step, end_step}
use Rattle.ob_flow_spec.specs.Contexts.{Context, now, permission_at}
use Rattle.ob_coherent_spec.specs.Counting.{nth_object, one_if, Counted, in_control, owners}
use Rattle.ob_coherent_spec.specs.Runs.{times, around, locks_at, locks_around, tests_in, open_tests}
use Rattle.ob_coherent_spec.specs.Standing.{RefersToShared, HasItsState, NeedsOwner}
use Rattle.ob_coherent_spec.specs.Saying.{every}
use Rattle.ob_coherent_spec.specs.Remaining.{IsCheckedProgram, body_of, Leads, at_end}
use Rattle.ob_coherent_spec.specs.OpenTests.{IsTestOf, IsOpen}
use Rattle.ob_coherent_spec.specs.Waiting.{SharesThis}
use Rattle.ob_coherent_spec.specs.Coherent.{Beginning, IsRunning, running, StepsSo}
use Rattle.ob_soundness_laws.proofs.counting.Cells.{shared_none}
use Rattle.ob_soundness_laws.proofs.counting.Numbers.{one_same}
use Rattle.ob_soundness_laws.proofs.counting.Testing.{tested_at, without_count}
use Rattle.ob_soundness_laws.specs.frames.Steps.{moved, KeepsWhole, IsOwnStep}
use Rattle.ob_soundness_laws.proofs.frames.Own.{own_step_keeps}
use Rattle.ob_soundness_laws.specs.places.Placed.{cell_at, Found, Sits}
use Rattle.ob_soundness_laws.proofs.places.Finding.{found_stands}
use Rattle.ob_soundness_laws.proofs.remaining.Remaining.{GoesOn, list_ends, ends_inside}
use Rattle.ob_soundness_laws.proofs.remaining.Following.{held_too}
use Rattle.ob_soundness_laws.proofs.tests.Unchanged.{remains_so, opens_so, unchanged_keeps}
use Rattle.ob_soundness_laws.proofs.tests.Locking.{with_locked, opens_locked, says_locked, sits_leads}
use Rattle.ob_soundness_laws.proofs.places.Handing.{sits_holding}
use Rattle.ob_soundness_laws.proofs.tests.Permitted.{permitted, place_written, place_alike, this_after, held_after, opens_after}
use Rattle.ob_soundness_laws.proofs.tests.Tested.{tested_found, tested_refers, tested_owner, test_not_made}
use Rattle.ob_soundness_laws.proofs.tests.Loops.{turn_keeps}
use Rattle.ob_soundness_laws.proofs.tests.Ending.{locks_tested, test_ends, none_left, owners_ended, references_ended}

module _ (table : ClassTable) (t : IsClassTable table) (entry : Option ℕ) (beginning : Beginning) (c : Configuration)
    (k : IsRunning table entry beginning c) (rest : SilicaTerms) (e : Ends) (outer : List Rest)
    (so : c.control ≡ runs no_terms (record { terms = rest; ends = e } ∷ outer)) where
  abbrev before : Sits table c.frame k.whole.parts (here c) k.context
  before = sits_holding table entry beginning c k

  -- A test ends: its place is Shared again.
  module _ (p : Location) (m : ℕ) (a : IsTestOf (body_of table c.frame k.whole.parts) (here c) p m)
      (owner : owns (permission_at k.context p) ≡ true)
      (marked : (nth_object c.world.objects m).shared ≡ true)
      (ends : (n : ℕ) → tested_at n c.frame.slots e ≡ one_if (nat_eq m n))
      (ls : List ℕ) (unlocks : (n : ℕ) → locks_at n e + times n ls ≡ times n c.world.locked)
      (spares : c.frame.how ≡ by_new → p ≢ this) where
    abbrev u : Found (NeedsOwner table c.world.objects) (k.context p) (cell_at (here c) p)
    u = tested_found table t c.frame k.whole.parts (here c) k.context before p m a owner

    abbrev now_here : Here
    now_here = with_locked (permitted c c.world.reads p shared) ls

    refers : u.cell.value ≡ reference m
    refers = tested_refers table t c.frame k.whole.parts (here c) k.context before p m a u

    owning : owns u.cell.note.permission ≡ true
    owning = tested_owner table t c.frame k.whole.parts (here c) k.context before p m a u owner

    again : Sits table c.frame k.whole.parts (permitted c c.world.reads p shared) (now k.context p shared)
    again = place_alike table t entry beginning c k.whole k.context before p a.inside u shared shared c.world.reads refl
        (record {
          kind = (found_stands table t c.frame k.whole.parts (here c) k.context before p u).kind;
          marked = λ z. subst (RefersToShared c.world.objects) (sym refers) marked;
          states = λ b z. absurd (cc);
        })
        (λ n needs has. absurd (let none = shared_none n (noted shared u.cell) refl in omega (arith, none, has)))
        (λ z. refl) spares

    alike : (counts : Counted) (n : ℕ) → in_control counts n (runs rest outer) ≡ in_control counts n c.control
    alike counts n = sym (ap (in_control counts n) so)

    whole_after : KeepsWhole table entry c k.whole.parts now_here (runs rest outer)
    whole_after = test_ends table t entry beginning c k.whole k.context before p a.inside u m refers owning marked
        (record { terms = rest; ends = e }) outer (runs rest outer) (ap around so) refl alike ends ls unlocks again

    left_none : owners m (moved c now_here rest outer) ≡ 0
    left_none = none_left table t entry beginning c k.whole k.context before p a.inside u m refers owning marked
        (record { terms = rest; ends = e }) outer (runs rest outer) (ap around so) refl alike ends ls unlocks

    fewer : (n : ℕ) → owners n (moved c now_here rest outer) + one_if (nat_eq m n) ≡ owners n c
    fewer = owners_ended table t entry beginning c k.whole k.context before p a.inside u m refers owning marked
        (record { terms = rest; ends = e }) outer (runs rest outer) (ap around so) refl alike ends ls unlocks

    -- The step is one of the innermost frame.
    ends_own : SharesThis (record c.frame { slots = now_here.slots }) (moved c now_here rest outer) 0
        → IsOwnStep table entry c k.whole.parts now_here rest outer
    ends_own shares =
        let w = whole_after in
        record {
          others = w.others;
          free = w.free;
          this = w.this;
          arguments = w.arguments;
          unset = w.unset;
          slots = w.slots;
          fields = w.fields;
          object = w.object;
          placed = λ made. subst (λ n. HasItsState table (nth_object now_here.world.objects n)) w.this
              (again.placed made);
          opens = opens_locked (body_of table c.frame k.whole.parts) (permitted c c.world.reads p shared) ls outer
              (opens_after table t entry beginning c k.whole k.context before p a.inside u shared shared c.world.reads
              again outer
              (opens_so table entry beginning c k no_terms (record { terms = rest; ends = e } ∷ outer) so).2);
          shares = shares;
          owns_made = again.owns_made;
          one_owner = w.one_owner;
          disowned = w.disowned;
          shared = w.shared;
          assets = w.assets;
          balanced = w.balanced;
          lock_ends = w.lock_ends;
          tested = w.tested;
          locked = w.locked;
          locked_once = w.locked_once;
          unreferred = λ n has. let same = references_ended table t entry beginning c k.whole k.context before p
              a.inside u m refers owning marked
              (record { terms = rest; ends = e }) outer (runs rest outer) (ap around so) refl alike ends ls unlocks n in
              omega (arith, same);
        }

    -- It leads to a coherent configuration.
    pub ends_keep : GoesOn (body_of table c.frame k.whole.parts) k.holdings k.context
        (record { terms = rest; ends = e }) outer
        → at_end k.context e ≡ now k.context p shared
        → SharesThis (record c.frame { slots = now_here.slots }) (moved c now_here rest outer) 0
        → IsRunning table entry beginning (moved c now_here rest outer)
    ends_keep on at shares = own_step_keeps table entry beginning c now_here rest outer t k (ends_own shares) on.context
        (says_locked (body_of table c.frame k.whole.parts) (NeedsOwner table now_here.world.objects) on.context
        (permitted c c.world.reads p shared) ls every
        (sits_leads table t c.frame k.whole.parts (permitted c c.world.reads p shared)
        (now k.context p shared) on.context again
        (subst (λ (g : Context). Leads (body_of table c.frame k.whole.parts) g on.context) at on.leads)))
        on.holdings
        (held_too k.holdings on.holdings now_here.slots every on.holds
        (held_after table t entry beginning c k.whole k.context before p a.inside u shared shared c.world.reads
        k.holdings k.held))
        on.remains

    same_progress : now_here.world.progress ≡ c.world.progress
    same_progress = (place_written table t entry beginning c k.whole k.context before p a.inside u shared shared
        c.world.reads).stays.progress

    same_self : self_of now_here.slots ≡ self_of c.frame.slots
    same_self = (place_written table t entry beginning c k.whole k.context before p a.inside u shared shared
        c.world.reads).stays.this

    -- where the test was one of `this`, its object is in progress and no place owns it
    pub shares_this : m ≡ self_of c.frame.slots → 0 < open_tests (self_of c.frame.slots) c
        → SharesThis (record c.frame { slots = now_here.slots }) (moved c now_here rest outer) 0
    shares_this i some held = (
      subst (λ n. 0 < times n now_here.world.progress) (sym same_self)
          (subst (λ l. 0 < times (self_of c.frame.slots) l) (sym same_progress)
          (k.whole.tested (self_of c.frame.slots) some)),
      inl (subst (λ n. owners n (moved c now_here rest outer) ≤ 0) (i ∙ sym same_self)
          (let none = left_none in omega (arith, none))),
    )

    -- where it was one of another place, `this` is as it was
    pub shares_other : p ≢ this → SharesThis (record c.frame { slots = now_here.slots }) (moved c now_here rest outer) 0
    shares_other other held =
        let y = k.shares (⊎_elim (λ i. ap permission_in (sym i) ∙ held) (λ i. absurd (other i.0))
        (this_after table t entry beginning c k.whole k.context before p a.inside u shared shared c.world.reads)) in (
          subst (λ n. 0 < times n now_here.world.progress) (sym same_self)
              (subst (λ l. 0 < times (self_of c.frame.slots) l) (sym same_progress) y.0),
          ⊎_elim
              (λ few. inl (subst (λ n. owners n (moved c now_here rest outer) ≤ 0) (sym same_self)
              (let d = fewer (self_of c.frame.slots) in omega (arith, few, d))))
              (λ z. ⊎_elim
              (λ i. inl (subst (λ n. owners n (moved c now_here rest outer) ≤ 0) (i.1 ∙ sym same_self)
              (let none = left_none in omega (arith, none))))
              (λ i. inr (
                z.0,
                subst (λ n. 0 < times n ls) (sym same_self)
                    (let one = ap one_if i.0 in let x = ends (self_of c.frame.slots) in
                    let v = locks_tested (self_of c.frame.slots) c.frame.slots e in
                    let w = unlocks (self_of c.frame.slots) in let busy = z.1 in omega (arith, one, x, v, w, busy)),
              ))
              (eqb_tells m (self_of c.frame.slots)))
              y.1,
        )

-- how often an object is locked at least, where a test with its lock ends
lock_there : (m : ℕ) (locked others : ℕ) → one_if (nat_eq m m) + others ≡ locked → 0 < locked
lock_there m locked others e = let one = one_same m in omega (arith, e, one)

other_place : (p : Location) → same_location p this ≡ false → p ≢ this
other_place p e i = both_ways _ e (ap (λ r. same_location r this) i)

-- The end of a list leads to a coherent configuration, in which the list around it goes on.
pop_ends : (program : SilicaProgram) (entry : Option ℕ) (beginning : Beginning) (c : Configuration) (rest : SilicaTerms)
    (e : Ends) (outer : List Rest)
    → IsCheckedProgram program → (k : IsRunning program.table entry beginning c)
    → c.control ≡ runs no_terms (record { terms = rest; ends = e } ∷ outer)
    → IsOpen (body_of program.table c.frame k.whole.parts) (here c) e
    → GoesOn (body_of program.table c.frame k.whole.parts) k.holdings k.context
    (record { terms = rest; ends = e }) outer
    → StepsSo program.table entry beginning (end_step program e rest outer c)
pop_ends program entry beginning c rest plain_end outer checked k so a on =
    running (unchanged_keeps program.table entry beginning c k no_terms
    (record { terms = rest; ends = plain_end } ∷ outer) so checked.table c.world.reads rest outer
    (opens_so program.table entry beginning c k no_terms (record { terms = rest; ends = plain_end } ∷ outer) so).2
    (record { locks = λ n. omega arith; tests = λ n. omega arith }) on.context
    (sits_leads program.table checked.table c.frame k.whole.parts (here c) k.context on.context
    (sits_holding program.table entry beginning c k) on.leads)
    on.holdings (held_too k.holdings on.holdings c.frame.slots every on.holds k.held) on.remains)
pop_ends program entry beginning c rest (test_end p) outer checked k so (is, a, marked) on =
    let w = (place_written program.table checked.table entry beginning c k.whole k.context
    (sits_holding program.table entry beginning c k) p a.inside
    (tested_found program.table checked.table c.frame k.whole.parts (here c) k.context
    (sits_holding program.table entry beginning c k) p (self_of c.frame.slots) a on.owns) shared shared
    c.world.reads).stays.locked in
    let ls : List ℕ = (permitted c c.world.reads p shared).world.locked in
    let same : (n : ℕ) → 0 + times n ls ≡ times n c.world.locked = λ n. (let z = ap (times n) w in omega (arith, z)) in
    let some : 0 < open_tests (self_of c.frame.slots) c =
    (let one = one_same (self_of c.frame.slots) in
    let b = ap (λ (x : Control). tests_in (self_of c.frame.slots) c.frame.slots (around x)) so in
    omega (arith, one, b)) in
    running (ends_keep program.table checked.table entry beginning c k rest (test_end p) outer so p
    (self_of c.frame.slots) a on.owns marked (λ n. refl)
    ls same (λ made. absurd (test_not_made program.table entry beginning c k.whole some made)) on refl
    (shares_this program.table checked.table entry beginning c k rest (test_end p) outer so p
    (self_of c.frame.slots) a on.owns marked (λ n. refl)
    ls same (λ made. absurd (test_not_made program.table entry beginning c k.whole some made)) refl some))
pop_ends program entry beginning c rest (lock_end p m) outer checked k so (other, a, marked) on =
    let w = (place_written program.table checked.table entry beginning c k.whole k.context
    (sits_holding program.table entry beginning c k) p a.inside
    (tested_found program.table checked.table c.frame k.whole.parts (here c) k.context
    (sits_holding program.table entry beginning c k) p m a on.owns) shared shared c.world.reads).stays.locked in
    let locked = k.whole.locked m in
    let lists = ap (λ (x : Control). locks_around m (around x)) so in
    let one = one_same m in
    let there : 0 < times m c.world.locked = omega (arith, locked, lists, one) in
    let less : (n : ℕ) → one_if (nat_eq m n) + times n (without_first m c.world.locked)
    ≡ times n c.world.locked = λ n. without_count m n c.world.locked there in
    subst (λ l. StepsSo program.table entry beginning
    (goes_to c (with_locked (permitted c c.world.reads p shared) (without_first m l)) (runs rest outer))) (sym w)
    (running (ends_keep program.table checked.table entry beginning c k rest
    (lock_end p m) outer so p m a on.owns marked (λ n. refl)
    (without_first m c.world.locked) less (λ made. other_place p other) on refl
    (shares_other program.table checked.table entry beginning c k rest (lock_end p m) outer so p m a on.owns marked
    (λ n. refl)
    (without_first m c.world.locked) less (λ made. other_place p other) (other_place p other))))
pop_ends program entry beginning c rest (loop_end first x body end) outer checked k so a on =
    turn_keeps program entry beginning c first x body end rest outer checked k so on

pub pop_keeps : (program : SilicaProgram) (entry : Option ℕ) (beginning : Beginning) (c : Configuration)
    (outer : List Rest)
    → IsCheckedProgram program → (k : IsRunning program.table entry beginning c) → c.control ≡ runs no_terms outer
    → StepsSo program.table entry beginning (pop_step program outer c)
pop_keeps program entry beginning c [] checked k so =
    absurd (ends_inside (body_of program.table c.frame k.whole.parts) k.holdings k.context
    (remains_so program.table entry beginning c k no_terms [] so))
pop_keeps program entry beginning c (r ∷ outer) checked k so =
    pop_ends program entry beginning c r.terms r.ends outer checked k so
    (opens_so program.table entry beginning c k no_terms (r ∷ outer) so).0
    (list_ends (body_of program.table c.frame k.whole.parts) k.holdings k.context r outer
    (remains_so program.table entry beginning c k no_terms (r ∷ outer) so))
