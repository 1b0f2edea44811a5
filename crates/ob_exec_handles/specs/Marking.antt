-- The objects of a store where some are marked (this project's own).
use Rattle.std.specs.Prelude.{ℕ, Bool, true, slice_set, List, fold, if◌then◌else◌}
use Rattle.std.specs.Option.{option_map_or}
use Rattle.ob_heap_spec.specs.Objects.{Object}
use Rattle.ob_heap_spec.specs.Contents.{object_at}
use Rattle.ob_heap_spec.specs.Handles.{NamedHandle}
use Rattle.ob_rest_spec.specs.Modes.{is_shared}
use Rattle.ob_exec_handles.specs.declared.marking.Mark.{Mark}
use Rattle.ob_exec_handles.specs.declared.marking.Mark.TheVariants.{Shared, Disowned}

-- whether an object has a mark
abbrev pub has_mark : Mark → Object → Bool
has_mark Shared o = o.shared
has_mark Disowned o = o.disowned

-- an object with a mark
abbrev pub marked : Mark → Object → Object
marked Shared o = record o { shared = true }
marked Disowned o = record o { disowned = true }

-- whether the object of a number has a mark already; where there is no object there is none to set
abbrev pub is_marked : Mark → ℕ → List Object → Bool
is_marked mark n objects = option_map_or (has_mark mark) (object_at objects n) true

-- the objects, of which that of a number gets a mark
abbrev pub with_mark : Mark → ℕ → List Object → List Object
with_mark mark n objects =
    if is_marked mark n objects then objects
    else option_map_or (λ o. slice_set objects n (marked mark o)) (object_at objects n) objects

-- a reference that is put into a Shared handle marks its object
abbrev pub with_put_mark : List Object → NamedHandle → List Object
with_put_mark objects h = if is_shared h.1.mode then with_mark Shared h.1.object objects else objects

-- the marks of handles that are put, one after another
abbrev pub with_put_marks : List Object → List NamedHandle → List Object
with_put_marks objects puts = fold with_put_mark objects puts
