-- How often an object is entered, under construction, locked or tested by the frames of a run (locks and re-entry are this
-- project's own).
use Rattle.std.specs.Prelude.{ℕ, ◌+◌, Bool, true, false, nat_eq, List, [], ◌∷◌, Option, Some, None, if◌then◌else◌}
use Rattle.ob_silica_places.specs.Places.{Location}
use Rattle.ob_silica_steps.specs.Configurations.{SlotCells, How, by_receiver, by_this, by_new, SilicaFrame, Ends, plain_end, test_end, lock_end, loop_end, Rest, Waiting, Control, runs, leaves, Configuration}
use Rattle.ob_silica_steps.specs.Here.{self_of}
use Rattle.ob_coherent_spec.specs.Counting.{one_if}

-- how often a number is among others
abbrev pub times : ℕ → List ℕ → ℕ
times n [] = 0
times n (m ∷ ms) = one_if (nat_eq m n) + times n ms

-- the lists of terms around what a frame is about to do
abbrev pub around : Control → List Rest
around (runs terms outer) = outer
around (leaves result outer) = outer

-- Frames entered by a call with a receiver.

-- 1 for a frame that is so, of this object
abbrev pub entered_at : ℕ → How → SlotCells → ℕ
entered_at n by_receiver slots = one_if (nat_eq (self_of slots) n)
entered_at n by_this slots = 0
entered_at n by_new slots = 0

-- among frames that wait
abbrev pub entered_among : ℕ → List Waiting → ℕ
entered_among n [] = 0
entered_among n (h ∷ hs) = entered_at n h.frame.how h.frame.slots + entered_among n hs

-- how many frames of a configuration were entered so, of this object
abbrev pub entries : ℕ → Configuration → ℕ
entries n c = entered_at n c.frame.how c.frame.slots + entered_among n c.stack

-- Frames of constructors.

-- 1 for a frame that constructs this object
abbrev pub constructing_at : ℕ → How → SlotCells → ℕ
constructing_at n by_receiver slots = 0
constructing_at n by_this slots = 0
constructing_at n by_new slots = one_if (nat_eq (self_of slots) n)

-- among frames that wait
abbrev pub constructing_among : ℕ → List Waiting → ℕ
constructing_among n [] = 0
constructing_among n (h ∷ hs) = constructing_at n h.frame.how h.frame.slots + constructing_among n hs

-- how many frames construct this object
abbrev pub constructions : ℕ → Configuration → ℕ
constructions n c = constructing_at n c.frame.how c.frame.slots + constructing_among n c.stack

-- Locks.

-- 1 for the end of a test that has locked this object
abbrev pub locks_at : ℕ → Ends → ℕ
locks_at n plain_end = 0
locks_at n (test_end p) = 0
locks_at n (loop_end first a body end) = 0
locks_at n (lock_end p m) = one_if (nat_eq m n)

-- among the lists around
abbrev pub locks_around : ℕ → List Rest → ℕ
locks_around n [] = 0
locks_around n (r ∷ outer) = locks_at n r.ends + locks_around n outer

-- among frames that wait
abbrev pub locks_among : ℕ → List Waiting → ℕ
locks_among n [] = 0
locks_among n (h ∷ hs) = locks_around n h.outer + locks_among n hs

-- 1 for the object that a request locks for the whole call
abbrev pub locks_entry : Option ℕ → ℕ → ℕ
locks_entry None n = 0
locks_entry (Some m) n = one_if (nat_eq m n)

-- how often an object is locked
abbrev pub locks : Option ℕ → ℕ → Configuration → ℕ
locks entry n c = locks_around n (around c.control) + locks_among n c.stack + locks_entry entry n

-- Tests of a Shared `this`.

-- this number for the end of such a test
abbrev pub tests_at : ℕ → Ends → ℕ
tests_at n plain_end = 0
tests_at n (test_end p) = n
tests_at n (lock_end p m) = 0
tests_at n (loop_end first a body end) = 0

-- this number for each among the lists around
abbrev pub tests_around : ℕ → List Rest → ℕ
tests_around n [] = 0
tests_around n (r ∷ outer) = tests_at n r.ends + tests_around n outer

-- how many are open of this object in a frame
abbrev pub tests_in : ℕ → SlotCells → List Rest → ℕ
tests_in n slots outer = tests_around (one_if (nat_eq (self_of slots) n)) outer

-- among frames that wait
abbrev pub tests_among : ℕ → List Waiting → ℕ
tests_among n [] = 0
tests_among n (h ∷ hs) = tests_in n h.frame.slots h.outer + tests_among n hs

-- how many are open of this object
abbrev pub open_tests : ℕ → Configuration → ℕ
open_tests n c = tests_in n c.frame.slots (around c.control) + tests_among n c.stack

-- Places under test.

-- the place whose test ends here, before others
abbrev pub tested_before : Ends → List Location → List Location
tested_before plain_end ps = ps
tested_before (test_end p) ps = p ∷ ps
tested_before (lock_end p n) ps = p ∷ ps
tested_before (loop_end first a body end) ps = ps

-- the places under test where these lists are around
abbrev pub tested_places : List Rest → List Location
tested_places [] = []
tested_places (r ∷ outer) = tested_before r.ends (tested_places outer)
