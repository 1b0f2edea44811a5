-- What handles become, as the code tells it (this project's own).
use Rattle.std.specs.Prelude.{◌≡◌, ℕ, Bool, true, false, List, [], ◌∷◌, All, Option, Some, None}
use Rattle.ob_base.specs.declared.permission.Mode.{Mode}
use Rattle.ob_base.specs.declared.permission.Mode.TheVariants.{Owned, Shared, Unowned}
use Rattle.ob_heap.specs.Contents.{Stored, content_of}
use Rattle.ob_heap.specs.Overlays.{Changes, objects_over}
use Rattle.ob_heap.specs.declared.object.Handle.{Handle}
use Rattle.ob_heap_spec.specs.Contents.{Content, HandleName}
use Rattle.ob_heap_spec.specs.Objects.{Object}
use Rattle.ob_heap_spec.specs.Handles.{NamedHandle, handle_at, put_handles}
use Rattle.ob_invocation_spec.specs.Entering.{handle_in}
use Rattle.ob_invocation_spec.specs.Entries.{HandleUse}
use Rattle.ob_exec_handles.specs.Marking.{is_marked, with_put_marks}
use Rattle.ob_exec_handles.specs.declared.marking.Mark.TheVariants.{Shared as SharedMark}

-- a handle that becomes one in a mode, if it changes
abbrev pub put_in : HandleName → ℕ → Option Mode → List NamedHandle
put_in name n None = []
put_in name n (Some mode) = handle_in name n mode ∷ []

-- the handle of each use stands under its name
abbrev pub AllStand : Content → List HandleUse → Type 0
AllStand content uses = All (λ (u : HandleUse). handle_at content u.name ≡ Some u.handle) uses

-- whether nothing changes where a handle in the first mode becomes one in the second: they are the same, and the object of a Shared one
-- has its mark
abbrev pub stays_in : List Object → ℕ → Mode → Mode → Bool
stays_in objects n Owned Owned = true
stays_in objects n Shared Shared = is_marked SharedMark n objects
stays_in objects n Unowned Unowned = true
stays_in objects n mode other = false

-- the same of a handle
abbrev pub stays_as : List Object → Handle → Mode → Bool
stays_as objects h mode = stays_in objects h.object.0 h.mode mode

-- Handles that are put leave the handles and the objects of a store, with the changes laid over these, as others do.
pub record LeaveTheSame (base : Stored) (changes : Changes) (others puts : List NamedHandle) : Type 0 where
  pub handles : put_handles (content_of base).handles others ≡ put_handles (content_of base).handles puts
  pub objects : with_put_marks (objects_over base.objects changes) others ≡ with_put_marks (objects_over base.objects changes) puts
