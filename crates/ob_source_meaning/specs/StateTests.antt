-- Tests of the state of `this` and of another object, with its lock (Coblenz et al., TOPLAS 42(3), 2020, "State tests";
-- locks are this project's own).
use Rattle.std.specs.Prelude.{ℕ, Bool, ◌&&◌, ◌||◌, None, if◌then◌else◌}
use Rattle.ob_base.specs.declared.id.ContractId.{ContractId}
use Rattle.ob_base.specs.declared.id.StateId.{StateId}
use Rattle.ob_table.specs.declared.seen.Seen.{Seen}
use Rattle.ob_table.specs.declared.seen.Seen.TheVariants.{This}
use Rattle.ob_heap_spec.specs.Objects.{Object, is_in_state}
use Rattle.ob_heap_spec.specs.Worlds.{World, by_state, RunOutcome, gives, ◌>>=◌, with_some, unless_aborted, read_object, with_object}
use Rattle.ob_heap_spec.specs.Marks.{is_locked, lock, unlock, is_in_progress}
use Rattle.ob_source_meaning.specs.Frames.{SourceFrame, Locals, Flow}
use Rattle.ob_source_meaning.specs.Naming.{object_seen, contract_seen}

-- what a test comes to: it holds; it holds, and the object of a number is to be locked; it fails
pub data TestOutcome : Type 0 where
  holds : TestOutcome
  holds_locking : ℕ → TestOutcome
  fails : TestOutcome

-- a test of `this` takes no lock; in a share-entered body it aborts where `this` is locked
abbrev pub test_this : SourceFrame → StateId → World → RunOutcome TestOutcome
test_this f s w =
    let w1 = read_object w f.this in
    unless_aborted (f.share_entered && is_locked w1 f.this) (by_state f.this None) w1
    (with_object w1 f.this (λ o. gives (if is_in_state f.table f.here s o then holds else fails) w1))

-- whether a test of another object would meet a lock or a transaction in progress: where it is shared
abbrev pub is_barred : World → ℕ → Object → Bool
is_barred w n o = o.shared && (is_locked w n || is_in_progress w n)

-- what a test of another object comes to; where it holds of one that is shared, that one is to be locked
abbrev pub tested_of : Bool → ℕ → Object → TestOutcome
tested_of is_in n o = if is_in then (if o.shared then holds_locking n else holds) else fails

-- a test of the object of a number, through a name that is declared with this contract or interface
abbrev pub test_object : SourceFrame → ContractId → StateId → ℕ → World → RunOutcome TestOutcome
test_object f declared s n w =
    let w1 = read_object w n in
    with_object w1 n
    (λ o. unless_aborted (is_barred w1 n o) (by_state n None) w1
    (gives (tested_of (is_in_state f.table declared s o) n o) w1))

-- a test of another name than `this`
abbrev pub test_other : SourceFrame → Locals → Seen → StateId → World → RunOutcome TestOutcome
test_other f ls seen s w =
    with_some (object_seen f ls w seen)
    (λ n. with_some (contract_seen f ls seen) (λ declared. test_object f declared s n w))

-- a test of what a name denotes
abbrev pub test_seen : SourceFrame → Locals → Seen → StateId → World → RunOutcome TestOutcome
test_seen f ls This s w = test_this f s w
test_seen f ls seen s w = test_other f ls seen s w

-- one of the two branches; the lock stands until the first has ended or has returned
abbrev pub branch : TestOutcome → World → (World → RunOutcome Flow) → (World → RunOutcome Flow) → RunOutcome Flow
branch holds w then_go else_go = then_go w
branch (holds_locking n) w then_go else_go = then_go (lock n w) >>= (λ flow w1. gives flow (unlock n w1))
branch fails w then_go else_go = else_go w
