-- Instructions that test the state of an object, and that end a test (Coblenz et al., TOPLAS 42(3), 2020, "State tests"; locks are
-- this project's own).
use Rattle.std.specs.Prelude.{ℕ, Bool, true, false, ◌==◌, ◌&&◌, ◌||◌, List, [], ◌∷◌, Option, Some, None, if◌then◌else◌}
use Rattle.ob_base.specs.Optional.{◌>>=◌}
use Rattle.ob_base.specs.declared.id.ContractId.{ContractId}
use Rattle.ob_base.specs.declared.id.StateId.{StateId}
use Rattle.ob_heap_spec.specs.Objects.{Object}
use Rattle.ob_heap_spec.specs.Contents.{object_at}
use Rattle.ob_heap_spec.specs.Worlds.{World, read_object, by_state}
use Rattle.ob_heap_spec.specs.Marks.{is_locked, is_in_progress, lock, unlock}
use Rattle.ob_code.specs.declared.image.Image.{Image}
use Rattle.ob_code_table.specs.Images.{is_in_state_of}
use Rattle.ob_machine_steps.specs.Slots.{reference_at}
use Rattle.ob_machine_steps.specs.Configurations.{Configuration, Next, abort}
use Rattle.ob_machine_steps.specs.Parts.{with_world, goes_on, goes_to}
use Rattle.ob_machine_steps.specs.Changing.{is_locked_out}

-- Noted tests.

-- the world with the lock of a test, if it takes one
abbrev pub with_lock : Option ℕ → World → World
with_lock None w = w
with_lock (Some n) w = lock n w

-- the world without the lock of a test, if it took one
abbrev pub without_lock : Option ℕ → World → World
without_lock None w = w
without_lock (Some n) w = unlock n w

-- the world without the locks of tests, the newest first
abbrev pub without_locks : List (Option ℕ) → World → World
without_locks [] w = w
without_locks (t ∷ ts) w = without_locks ts (without_lock t w)

-- a test is noted, with its lock
abbrev pub with_test : Option ℕ → Configuration → Configuration
with_test t c = record c { top = record c.top { tests = t ∷ c.top.tests }; world = with_lock t c.world }

-- The test.

-- where a test holds it is noted, with the lock that it takes; else the instruction at a place follows
abbrev pub branches : Option ℕ → ℕ → Configuration → Bool → Option Next
branches t target c true = goes_on (with_test t c)
branches t target c false = goes_to target c

-- a test of `this` takes no lock; it aborts in a share-entered body whose object is locked
abbrev pub tests_this : ℕ → ℕ → Configuration → Bool → Option Next
tests_this n target c holds =
    if is_locked_out c n then Some (abort (by_state n None) c.world) else branches None target c holds

-- whether an object is shared, and locked or with a transaction in progress
abbrev pub is_barred : World → ℕ → Object → Bool
is_barred w n o = o.shared && (is_locked w n || is_in_progress w n)

-- the lock that a test of an object takes: of one that is shared
abbrev pub lock_of : ℕ → Object → Option ℕ
lock_of n o = if o.shared then Some n else None

-- a test of another object aborts where that is barred; it locks one that is shared
abbrev pub tests_other : ℕ → Object → ℕ → Configuration → Bool → Option Next
tests_other n o target c holds =
    if is_barred c.world n o then Some (abort (by_state n None) c.world) else branches (lock_of n o) target c holds

-- `test`: whether the object of a slot is in a state of a contract or interface; slot 0 is `this`; the object is read
abbrev pub test_step : Image → ℕ → ContractId → StateId → ℕ → Configuration → Option Next
test_step image a contract state target c =
    reference_at c.top.slots a >>= λ n.
    object_at c.world.objects n >>= λ o.
    let d = with_world (read_object c.world n) c in
    let holds = is_in_state_of image contract state o in
    if a == 0 then tests_this n target d holds else tests_other n o target d holds

-- The end of a test.

-- the newest of the noted tests ends, with its lock
abbrev pub ends_test : List (Option ℕ) → Configuration → Option Next
ends_test [] c = None
ends_test (t ∷ ts) c =
    goes_on (record c { top = record c.top { tests = ts }; world = without_lock t c.world })

-- `endtest`: the newest noted test ends
abbrev pub end_test_step : Configuration → Option Next
end_test_step c = ends_test c.top.tests c
