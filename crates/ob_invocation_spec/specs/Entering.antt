-- How a request enters a constructor or a transaction, and what its handles become (Coblenz et al., TOPLAS 42(3), 2020,
-- "Permissions"; the test and the lock at the entry are this project's own).
use Rattle.std.specs.Prelude.{ℕ, Bool, not, ◌&&◌, List, [], ◌∷◌, ◌++◌, flat_map, find, Option, Some, None, if◌then◌else◌}
use Rattle.std.specs.Option.{option_map_or, option_and_then}
use Rattle.ob_base.specs.declared.id.ContractId.{ContractId}
use Rattle.ob_base.specs.declared.id.TxId.{TxId}
use Rattle.ob_base.specs.declared.permission.Mode.{Mode}
use Rattle.ob_base.specs.declared.permission.Mode.TheVariants.{Shared}
use Rattle.ob_table.specs.Tables.{ClassTable}
use Rattle.ob_heap_spec.specs.Values.{Value, reference}
use Rattle.ob_heap_spec.specs.Objects.{Object}
use Rattle.ob_heap_spec.specs.Contents.{HandleName, Content, object_at}
use Rattle.ob_heap_spec.specs.Worlds.{World, first_world, AbortCause, by_state, RunOutcome}
use Rattle.ob_heap_spec.specs.Marks.{lock}
use Rattle.ob_heap_spec.specs.GoingWrong.{is_held_within}
use Rattle.ob_heap_spec.specs.Handles.{NamedHandle}
use Rattle.ob_rest_spec.specs.Modes.{is_owned, is_shared}
use Rattle.ob_invocation_spec.specs.Handles.{handle_name}
use Rattle.ob_invocation_spec.specs.Entries.{HandleUse, Entry, values_of, handle_uses}

-- What a `new` and a `call` from outside do in a world: the first with a contract and arguments, the second with the
-- contract of an object, one of its transactions, the object's number and arguments.
pub record Meaning : Type 0 where
  pub new : ContractId → List Value → World → RunOutcome (Option Value)
  pub call : ContractId → TxId → ℕ → List Value → World → RunOutcome (Option Value)

-- The entry test.

-- whether a use that owns its object at the entry finds it in none of the declared states
abbrev pub is_outside_use : ClassTable → List Object → HandleUse → Bool
is_outside_use table objects u = not (is_held_within table objects u.contract u.entry (Some u.handle.object))

-- the first such use: of the receiver, or else of an argument
abbrev pub first_outside_use : ClassTable → Content → Entry → Option HandleUse
first_outside_use table content e = find (is_outside_use table content.objects) (handle_uses content e)

-- why a request aborts where a use finds its object so: by the state in which that is
abbrev pub outside_cause : List Object → HandleUse → AbortCause
outside_cause objects u =
    by_state u.handle.object (option_and_then (λ (o : Object). o.state) (object_at objects u.handle.object))

-- The run.

-- whether the object of a receiver is locked for the whole call: it is Shared, and owned at the entry
abbrev pub is_locked_at_entry : HandleUse → Bool
is_locked_at_entry u = is_shared u.handle.mode && is_owned u.entry.mode

-- the world with the lock at the entry, if there is one
abbrev pub with_entry_lock : Option HandleUse → World → World
with_entry_lock receiver w =
    option_map_or (λ u. if is_locked_at_entry u then lock u.handle.object w else w) receiver w

-- the world in which a `new` or a `call` begins, with so many units
abbrev pub entry_world : Content → ℕ → Entry → World
entry_world content fuel e = with_entry_lock e.receiver (first_world content.objects fuel)

-- what runs: the constructor where there is no receiver, and else the transaction on it
abbrev pub run_on_receiver : Meaning → Entry → Option HandleUse → List Value → World → RunOutcome (Option Value)
run_on_receiver meaning e None args w = meaning.new e.contract args w
run_on_receiver meaning e (Some u) args w = meaning.call e.contract e.tx u.handle.object args w

-- the run of a `new` or a `call` with so many units
abbrev pub run_entry : Meaning → Content → ℕ → Entry → RunOutcome (Option Value)
run_entry meaning content fuel e =
    run_on_receiver meaning e e.receiver (values_of content e) (entry_world content fuel e)

-- What handles become.

-- a handle on the object of a number, in a mode
abbrev pub handle_in : HandleName → ℕ → Mode → NamedHandle
handle_in name n mode = (name, record { object = n; mode = mode })

-- what the handle of a use becomes: an Owned one that is used as the owner has the mode of the exit; one that is used
-- as Shared is Shared; any other stays as it is
abbrev pub put_after_use : HandleUse → List NamedHandle
put_after_use u =
    if is_owned u.handle.mode && is_owned u.entry.mode then handle_in u.name u.handle.object u.exit.mode ∷ []
    else if is_shared u.entry.mode then handle_in u.name u.handle.object Shared ∷ []
    else []

-- the handle on the reference that is given: it has the mode in which that is given
abbrev pub put_given : HandleName → Option Mode → Option Value → List NamedHandle
put_given name (Some mode) (Some (reference n)) = handle_in name n mode ∷ []
put_given name given result = []

-- the same, if the request has a name for it
abbrev pub put_into : Entry → Option Value → List NamedHandle
put_into e result = option_map_or (λ into. put_given (handle_name e.who into) e.given result) e.into []

-- what handles become where a `new` or a `call` is done, one after another
abbrev pub puts_after : Content → Entry → Option Value → List NamedHandle
puts_after content e result = flat_map put_after_use (handle_uses content e) ++ put_into e result
