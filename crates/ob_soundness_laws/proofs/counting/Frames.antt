-- How often an object is entered, constructed, locked or tested, where frames stay alike.
use Rattle.std.proofs.Common.{◌≡◌, ◌≢◌, ℕ, zero, suc, ◌+◌, ◌<◌, ◌≤◌, nat_eq, List, [], ◌∷◌, Option, Some, slice_get, refl, ap, ◌∙◌, subst, arith, ⊎_elim}
use Rattle.std.proofs.lemmas.Option.{none-some, same_Some}
use Rattle.std.proofs.lemmas.Bool.Decides.{eqb_tells}
use Rattle.ob_silica_steps.specs.Configurations.{SlotCells, How, by_receiver, by_this, by_new, Ends, plain_end, test_end, lock_end, loop_end, Rest, Waiting, Configuration}
use Rattle.ob_silica_steps.specs.Cells.{Cell, object_in}
use Rattle.ob_heap_spec.specs.Values.{reference}
use Rattle.ob_silica_steps.specs.Here.{self_of}
use Rattle.ob_silica_places.specs.Known.{at}
use Rattle.ob_coherent_spec.specs.Counting.{one_if}
use Rattle.ob_coherent_spec.specs.Runs.{around, entered_at, entered_among, entries, constructing_at, constructing_among, constructions, locks_around, locks_among, locks, tests_at, tests_around, tests_in, tests_among, open_tests}
use Rattle.ob_soundness_laws.proofs.counting.Sums.{at_other}
use Rattle.ob_soundness_laws.proofs.counting.Numbers.{one_same, one_other, one_of}

-- The object of a frame.

-- which object is `this`
pub self_is : (slots : SlotCells) (x : Cell) (n : ℕ) → slots 0 ≡ Some x → x.value ≡ reference n → self_of slots ≡ n
self_is slots x n set refers = rw (set, refers)

pub self_same : (slots more : SlotCells) → object_in (more 0) ≡ object_in (slots 0) → self_of more ≡ self_of slots
self_same slots more same = rw same

-- another slot is set
pub self_at : (slots : SlotCells) (k : ℕ) (x : Option Cell) → 0 ≢ k → self_of (at slots k x) ≡ self_of slots
self_at slots k x other = self_same slots (at slots k x) (ap object_in (at_other slots k x 0 other))

-- Frames that are alike.

module _ (n : ℕ) where
  pub entered_at_same : (how more : How) (slots others : SlotCells) → more ≡ how → self_of others ≡ self_of slots
      → entered_at n more others ≡ entered_at n how slots
  entered_at_same by_receiver more slots others e self = rw (e, self)
  entered_at_same by_this more slots others e self = rw e
  entered_at_same by_new more slots others e self = rw e

  pub constructing_at_same : (how more : How) (slots others : SlotCells) → more ≡ how → self_of others ≡ self_of slots
      → constructing_at n more others ≡ constructing_at n how slots
  constructing_at_same by_receiver more slots others e self = rw e
  constructing_at_same by_this more slots others e self = rw e
  constructing_at_same by_new more slots others e self = rw (e, self)

  pub tests_in_same : (slots others : SlotCells) (outer : List Rest) → self_of others ≡ self_of slots
      → tests_in n others outer ≡ tests_in n slots outer
  tests_in_same slots others outer self = ap (λ m. tests_around (one_if (nat_eq m n)) outer) self

  -- a configuration whose innermost frame is entered alike, of the same object, over the same frames
  module _ (c d : Configuration) (stack : d.stack ≡ c.stack) (how : d.frame.how ≡ c.frame.how)
      (self : self_of d.frame.slots ≡ self_of c.frame.slots) where
    pub entries_same : entries n d ≡ entries n c
    entries_same = omega (
      arith,
      entered_at_same c.frame.how d.frame.how c.frame.slots d.frame.slots how self,
      ap (entered_among n) stack,
    )

    pub constructions_same : constructions n d ≡ constructions n c
    constructions_same =
        omega (
          arith,
          constructing_at_same c.frame.how d.frame.how c.frame.slots d.frame.slots how self,
          ap (constructing_among n) stack,
        )

    -- and with the same lists around
    pub open_tests_same : around d.control ≡ around c.control → open_tests n d ≡ open_tests n c
    open_tests_same lists = omega (
      arith,
      ap (tests_in n d.frame.slots) lists,
      tests_in_same c.frame.slots d.frame.slots (around c.control) self,
      ap (tests_among n) stack,
    )

    pub locks_same : (entry : Option ℕ) → around d.control ≡ around c.control → locks entry n d ≡ locks entry n c
    locks_same entry lists = omega (arith, ap (locks_around n) lists, ap (locks_among n) stack)

    -- what the lists around change
    pub open_tests_changed : open_tests n d + tests_in n c.frame.slots (around c.control)
        ≡ open_tests n c + tests_in n d.frame.slots (around d.control)
    open_tests_changed = omega (arith, ap (tests_among n) stack)

    pub locks_changed : (entry : Option ℕ) → locks entry n d + locks_around n (around c.control)
        ≡ locks entry n c + locks_around n (around d.control)
    locks_changed entry = omega (arith, ap (locks_among n) stack)

-- Frames among those that wait.

module _ (n : ℕ) where
  pub entered_of : (hs : List Waiting) (i : ℕ) (h : Waiting) → slice_get hs i ≡ Some h
      → entered_at n h.frame.how h.frame.slots ≤ entered_among n hs
  entered_of [] i h is = absurd (none-some h is)
  entered_of (g ∷ hs) zero h is =
      subst (λ (x : Waiting). entered_at n x.frame.how x.frame.slots
      ≤ entered_at n g.frame.how g.frame.slots + entered_among n hs)
      (same_Some g h is) (omega arith)
  entered_of (g ∷ hs) (suc i) h is = omega (arith, entered_of hs i h is)

  pub constructing_of : (hs : List Waiting) (i : ℕ) (h : Waiting) → slice_get hs i ≡ Some h
      → constructing_at n h.frame.how h.frame.slots ≤ constructing_among n hs
  constructing_of [] i h is = absurd (none-some h is)
  constructing_of (g ∷ hs) zero h is =
      subst (λ (x : Waiting). constructing_at n x.frame.how x.frame.slots
      ≤ constructing_at n g.frame.how g.frame.slots + constructing_among n hs)
      (same_Some g h is) (omega arith)
  constructing_of (g ∷ hs) (suc i) h is = omega (arith, constructing_of hs i h is)

  pub tests_of_waiting : (hs : List Waiting) (i : ℕ) (h : Waiting) → slice_get hs i ≡ Some h
      → tests_in n h.frame.slots h.outer ≤ tests_among n hs
  tests_of_waiting [] i h is = absurd (none-some h is)
  tests_of_waiting (g ∷ hs) zero h is =
      subst (λ (x : Waiting). tests_in n x.frame.slots x.outer ≤ tests_in n g.frame.slots g.outer + tests_among n hs)
      (same_Some g h is) (omega arith)
  tests_of_waiting (g ∷ hs) (suc i) h is = omega (arith, tests_of_waiting hs i h is)

  pub locks_of_waiting : (hs : List Waiting) (i : ℕ) (h : Waiting) → slice_get hs i ≡ Some h
      → locks_around n h.outer ≤ locks_among n hs
  locks_of_waiting [] i h is = absurd (none-some h is)
  locks_of_waiting (g ∷ hs) zero h is =
      subst (λ (x : Waiting). locks_around n x.outer ≤ locks_around n g.outer + locks_among n hs)
      (same_Some g h is) (omega arith)
  locks_of_waiting (g ∷ hs) (suc i) h is = omega (arith, locks_of_waiting hs i h is)

-- A frame of an object.

pub entered_here : (n : ℕ) (how : How) (slots : SlotCells) → how ≡ by_receiver → self_of slots
    ≡ n → entered_at n how slots ≡ 1
entered_here n how slots e self = rw (e, self) (one_same n)

pub entered_by : (n : ℕ) (how : How) (slots : SlotCells) → 0 < entered_at n how slots → (how ≡ by_receiver)
    × (self_of slots ≡ n)
entered_by n by_receiver slots some = (refl, one_of (self_of slots) n some)
entered_by n by_this slots some = absurd (omega arith)
entered_by n by_new slots some = absurd (omega arith)

pub entered_other : (n : ℕ) (how : How) (slots : SlotCells) → self_of slots ≢ n → entered_at n how slots ≡ 0
entered_other n by_receiver slots other = one_other (self_of slots) n other
entered_other n by_this slots other = refl
entered_other n by_new slots other = refl

pub constructing_here : (n : ℕ) (how : How) (slots : SlotCells) → how ≡ by_new → self_of slots
    ≡ n → constructing_at n how slots ≡ 1
constructing_here n how slots e self = rw (e, self) (one_same n)

pub constructing_by : (n : ℕ) (how : How) (slots : SlotCells) → 0 < constructing_at n how slots → (how ≡ by_new)
    × (self_of slots ≡ n)
constructing_by n by_receiver slots some = absurd (omega arith)
constructing_by n by_this slots some = absurd (omega arith)
constructing_by n by_new slots some = (refl, one_of (self_of slots) n some)

pub constructing_other : (n : ℕ) (how : How) (slots : SlotCells) → self_of slots ≢ n → constructing_at n how slots ≡ 0
constructing_other n by_receiver slots other = refl
constructing_other n by_this slots other = refl
constructing_other n by_new slots other = one_other (self_of slots) n other

-- where no test of `this` is of this object
pub tests_none : (outer : List Rest) → tests_around 0 outer ≡ 0
tests_none [] = refl
tests_none (r ∷ outer) = omega (arith, go r.ends, tests_none outer)
  where
    go : (e : Ends) → tests_at 0 e ≡ 0
    go plain_end = refl
    go (test_end p) = refl
    go (lock_end p m) = refl
    go (loop_end first x body end) = refl

pub tests_other : (n : ℕ) (slots : SlotCells) (outer : List Rest) → self_of slots ≢ n → tests_in n slots outer ≡ 0
tests_other n slots outer other = ap (λ m. tests_around m outer) (one_other (self_of slots) n other) ∙ tests_none outer

-- the object of a test of `this`
pub tested_self : (n : ℕ) (slots : SlotCells) (outer : List Rest) → 0 < tests_in n slots outer → self_of slots ≡ n
tested_self n slots outer some = ⊎_elim (λ e. e.1) (λ e. absurd (omega (arith, tests_other n slots outer e.1)))
    (eqb_tells (self_of slots) n)
