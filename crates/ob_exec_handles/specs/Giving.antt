-- What is asked and done where a handle is given (this project's own).
use Rattle.std.specs.Prelude.{ℕ, not, List, ◌∷◌, if◌then◌else◌}
use Rattle.ob_base.specs.declared.permission.Mode.{Mode}
use Rattle.ob_heap_spec.specs.Contents.{Content, Handle}
use Rattle.ob_heap_spec.specs.Objects.{Object}
use Rattle.ob_rest_spec.specs.Modes.{is_shared}
use Rattle.ob_invocation_spec.specs.Checks.{Check, check}
use Rattle.ob_invocation_spec.specs.Handles.{handle_name, serves}
use Rattle.ob_invocation_spec.specs.Refusals.{making_checks}
use Rattle.ob_invocation_spec.specs.Replies.{permission}
use Rattle.ob_invocation_spec.specs.Requests.{GiveRequest}
use Rattle.ob_exec_handles.specs.Marking.{with_mark}
use Rattle.ob_exec_handles.specs.declared.marking.Mark.TheVariants.{Shared}

-- what is asked of a `give` once the handle is found
abbrev pub left_checks : Content → Handle → GiveRequest → List Check
left_checks content h r = check permission (not (serves h.mode r.mode)) ∷ making_checks content (handle_name r.to r.into)

-- the objects after a `give` of the object of a number: it is marked where it is given as Shared
abbrev pub with_given : Mode → ℕ → List Object → List Object
with_given mode n objects = if is_shared mode then with_mark Shared n objects else objects
