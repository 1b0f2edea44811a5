-- Tests of states, and what ends with their branches (Coblenz et al., TOPLAS 42(3), 2020, "State tests"; locks are this
-- project's own).
use Rattle.std.specs.Prelude.{ℕ, Bool, true, false, ◌||◌, List, ◌∷◌, None, if◌then◌else◌}
use Rattle.ob_base.specs.declared.id.StateId.{StateId}
use Rattle.ob_perm.specs.States.{only}
use Rattle.ob_perm.specs.Permissions.{Permission, owned, shared, unowned, permission_within, permission_without}
use Rattle.ob_table.specs.Tables.{ClassTable}
use Rattle.ob_table.specs.declared.seen.Kind.{Kind}
use Rattle.ob_table.specs.declared.seen.Kind.TheVariants.{Reference}
use Rattle.ob_heap_spec.specs.Values.{referred}
use Rattle.ob_heap_spec.specs.Objects.{Object, is_in_state}
use Rattle.ob_heap_spec.specs.Contents.{object_at}
use Rattle.ob_heap_spec.specs.Worlds.{read_object, by_state}
use Rattle.ob_heap_spec.specs.Marks.{is_locked, is_in_progress, lock, unlock}
use Rattle.ob_silica.specs.Terms.{SilicaTerms}
use Rattle.ob_silica_steps.specs.Cells.{Cell}
use Rattle.ob_silica_places.specs.Places.{Location, this, same_location}
use Rattle.ob_silica_steps.specs.Configurations.{Ends, plain_end, test_end, lock_end, loop_end, Rest, runs, Configuration, NextStep, abort_step}
use Rattle.ob_silica_steps.specs.Here.{Here, here, goes_to, if_there, read, set_permission}
use Rattle.ob_silica_steps.specs.Changing.{is_locked_out}

-- a test: its place and state, its branches, and what is after it
pub record StateTest : Type 0 where
  pub place : Location
  pub state : ℕ
  pub branch : SilicaTerms
  pub other : SilicaTerms
  pub rest : SilicaTerms
  pub outer : List Rest

-- the branch that is run: one where the test holds, the other where it fails
abbrev pub branch_of : StateTest → Bool → SilicaTerms
branch_of t true = t.branch
branch_of t false = t.other

-- the permission of the tested place in a branch: where the test holds, in this state alone; else, without this state
abbrev pub narrowed : Permission → ℕ → Bool → Permission
narrowed p state true = permission_within p state
narrowed p state false = permission_without p state

-- the step into a branch, with what ends where the branch ends
abbrev pub into_branch : Configuration → Here → StateTest → Bool → Ends → NextStep
into_branch c h t holds ends = goes_to c h (runs (branch_of t holds) (record { terms = t.rest; ends = ends } ∷ t.outer))

-- a test that takes no lock: in each branch the permission of an owner says what the test has told; no other changes
abbrev pub tells : Configuration → Here → StateTest → Cell → Bool → NextStep
tells c h t x holds =
    into_branch c (set_permission t.place (narrowed x.note.permission t.state holds) h) t holds plain_end

-- from here on the place is under test, and owns its object in the tested state
abbrev pub tests_from : Here → StateTest → Here
tests_from h t = set_permission t.place (owned (only t.state)) h

-- a `this` that is Shared is under test in the branch that holds
abbrev pub test_shared_this : Configuration → Here → StateTest → Bool → NextStep
test_shared_this c h t true = into_branch c (tests_from h t) t true (test_end t.place)
test_shared_this c h t false = into_branch c h t false plain_end

-- a test of `this` with this permission takes no lock
abbrev pub test_this_as : Permission → Configuration → Here → StateTest → Cell → Bool → NextStep
test_this_as shared c h t x holds = test_shared_this c h t holds
test_this_as (owned a) c h t x holds = tells c h t x holds
test_this_as unowned c h t x holds = tells c h t x holds

-- a test of `this` aborts in a share-entered frame whose object is locked
abbrev pub test_this : Configuration → Here → StateTest → Cell → ℕ → Bool → NextStep
test_this c h t x n holds =
    if is_locked_out c.frame h then abort_step (by_state n None) h.world else test_this_as x.note.permission c h t x holds

-- a test of another place whose object is marked as shared locks it in the branch that holds
abbrev pub test_shared : Configuration → Here → StateTest → ℕ → Bool → NextStep
test_shared c h t n true =
    into_branch c (record (tests_from h t) { world = lock n (tests_from h t).world }) t true (lock_end t.place n)
test_shared c h t n false = into_branch c h t false plain_end

-- a test of another place aborts where its object is marked as shared, and locked or with a transaction in progress
abbrev pub test_other : Configuration → Here → StateTest → Cell → ℕ → Object → Bool → NextStep
test_other c h t x n o holds =
    if o.shared
    then (if is_locked h.world n || is_in_progress h.world n then abort_step (by_state n None) h.world
    else test_shared c h t n holds)
    else tells c h t x holds

-- a test of `this`, or of another place
abbrev pub test_object : Configuration → Here → StateTest → Cell → ℕ → Object → Bool → NextStep
test_object c h t x n o holds =
    if same_location t.place this then test_this c h t x n holds else test_other c h t x n o holds

-- whether an object is in a state of the contract or interface of its place
abbrev pub is_in : ClassTable → Kind → StateId → Object → Bool
is_in table (Reference id) state o = is_in_state table id state o
is_in table kind state o = false

-- the object of the tested place is read
abbrev pub reads_object : Here → ℕ → Here
reads_object h n = record h { world = read_object h.world n }

-- the step of a test
abbrev pub test_step : ClassTable → StateTest → StateId → Configuration → NextStep
test_step table t state c = if_there (read table (here c) t.place) (λ x. if_there (referred x.value) (λ n.
    if_there (object_at c.world.objects n) (λ o.
    test_object c (reads_object (here c) n) t x n o (is_in table x.note.kind state o))))

-- what ends with a branch: a place that was under test is Shared again, and a lock is taken off
abbrev pub end_branch : Ends → Here → Here
end_branch plain_end h = h
end_branch (loop_end first a body end) h = h
end_branch (test_end place) h = set_permission place shared h
end_branch (lock_end place n) h =
    record (set_permission place shared h) { world = unlock n (set_permission place shared h).world }
