-- What is asked of the uses of handles, as the code keeps them, and of the name of the handle on what is given (this project's own).
use Rattle.std.specs.Prelude.{Bool, nat_eq, nat_lt, ◌&&◌, count_by, List, ◌∷◌}
use Rattle.ob_heap_spec.specs.Contents.{Content}
use Rattle.ob_invocation_spec.specs.Checks.{Check, check}
use Rattle.ob_invocation_spec.specs.Entries.{Entry}
use Rattle.ob_invocation_spec.specs.Handles.{serves}
use Rattle.ob_invocation_spec.specs.Refusals.{repeats_object, lacks_into, has_needless_into, into_checks}
use Rattle.ob_invocation_spec.specs.Replies.{repeated, into_missing, into_needless}
use Rattle.ob_rest_spec.specs.Modes.{is_owned}
use Rattle.ob_exec_entries.specs.declared.entered.HandleUse.{HandleUse}

-- whether the mode of a handle serves where it is used
abbrev pub is_served : HandleUse → Bool
is_served u = serves u.handle.mode u.entry.mode

-- whether a use owns its object at the entry, and there is another use of that
abbrev pub is_used_twice : List HandleUse → HandleUse → Bool
is_used_twice uses u = is_owned u.entry.mode && nat_lt 1 (count_by (λ (v : HandleUse). nat_eq v.handle.object.0 u.handle.object.0) uses)

-- what is asked of the name of the handle on what is given
abbrev pub name_checks : Content → Entry → List Check
name_checks content e =
    check into_missing (lacks_into e) ∷ check into_needless (has_needless_into e) ∷ into_checks content e

-- what is asked of the uses together, and then of that name
abbrev pub later_checks : Content → Entry → List Check
later_checks content e = check repeated (repeats_object content e) ∷ name_checks content e
