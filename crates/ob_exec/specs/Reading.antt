-- What a `new` or a `call` reads, as the code tells it (this project's own).
use Rattle.std.specs.Prelude.{ℕ, Bool, true, false, nat_lt, List, [], ◌∷◌, ◌++◌, Option, Some, None, if◌then◌else◌}
use Rattle.std.specs.Option.{option_map_or}
use Rattle.ob_base.specs.declared.permission.Mode.{Mode}
use Rattle.ob_base.specs.declared.permission.Mode.TheVariants.{Shared}
use Rattle.ob_heap_spec.specs.Contents.{Content}
use Rattle.ob_heap_spec.specs.Values.{Value, reference}
use Rattle.ob_heap_spec.specs.Worlds.{ReadItem, object_item}
use Rattle.ob_invocation_spec.specs.Handles.{handle_name, handle_reads}
use Rattle.ob_invocation_spec.specs.Refusals.{is_no_handle}
use Rattle.ob_invocation_spec.specs.Requests.{argument_name}
use Rattle.ob_wire.specs.Meanings.{argument_meant}
use Rattle.ob_wire.specs.declared.refusal.Refusal.{Refusal}
use Rattle.ob_wire.specs.declared.request.Arg.{Arg}
use Rattle.ob_exec_entries.specs.Arguments.{names_no_handle}
use Rattle.ob_exec_handles.specs.Spending.{name_reads}

-- By the checks.

-- what is read of the handle that an argument names, if it names one
abbrev pub argument_reads : Content → List ℕ → Arg → List ReadItem
argument_reads content who arg =
    option_map_or (λ name. handle_reads content (handle_name who name)) (argument_name (argument_meant arg)) []

-- what is read of the handles that arguments name, up to the first that is missing; if none is, this is read then
abbrev pub read_then : Content → List ℕ → List Arg → List ReadItem → List ReadItem
read_then content who [] rest = rest
read_then content who (arg ∷ args) rest =
    argument_reads content who arg ++ (if names_no_handle content who arg then [] else read_then content who args rest)

-- what is read of the name for the handle on what is given, if the request has one, by why it is refused, if it is
abbrev pub into_reads : List ℕ → Option (List ℕ) → Option Refusal → List ReadItem
into_reads who into why = option_map_or (λ name. name_reads (handle_name who name) why) into []

-- what the checks of a `new` read
abbrev pub new_reads : Content → List ℕ → List Arg → Option (List ℕ) → Option Refusal → List ReadItem
new_reads content who args into why = read_then content who args (into_reads who into why)

-- what the checks of a `call` read: first of the handle `on`
abbrev pub call_reads : Content → List ℕ → List ℕ → List Arg → Option (List ℕ) → Option Refusal → List ReadItem
call_reads content who on args into why =
    handle_reads content (handle_name who on)
    ++ (if is_no_handle content (handle_name who on) then [] else new_reads content who args into why)

-- By the end of a run.

-- the object of a number, if it is one of a base of so many objects; one that the run has made counts for nothing
abbrev pub object_read : ℕ → ℕ → List ReadItem
object_read count n = if nat_lt n count then object_item n ∷ [] else []

-- the number of the object to which a value refers, if it is a reference
abbrev pub referred : Option Value → Option ℕ
referred (Some (reference n)) = Some n
referred value = None

-- that object
abbrev pub value_read : ℕ → Option Value → List ReadItem
value_read count value = option_map_or (object_read count) (referred value) []

-- whether what is given is put into a Shared handle, by the name for that and the mode
abbrev pub is_shared_given : Option (List ℕ) → Option Mode → Bool
is_shared_given (Some name) (Some Shared) = true
is_shared_given into given = false

-- what is read where what is given is put into a handle
abbrev pub given_read : ℕ → Option (List ℕ) → Option Mode → Option Value → List ReadItem
given_read count into given value = if is_shared_given into given then value_read count value else []
