-- Handles that are put, as changes of those of a store (this project's own).
use Rattle.std.specs.Prelude.{Bool, true, false, not, ◌&&◌, nat_eq, List, map, filter, Option, Some}
use Rattle.std.specs.Option.{option_map_or}
use Rattle.ob_base.specs.declared.name.Label.{Label}
use Rattle.ob_base.specs.declared.permission.Mode.{Mode}
use Rattle.ob_base.specs.declared.permission.Mode.TheVariants.{Owned, Shared, Unowned}
use Rattle.ob_heap.specs.declared.object.Handle.{Handle}
use Rattle.ob_heap.specs.Contents.{name_of, handle_at}

-- whether two modes are the same
abbrev pub same_mode : Mode → Mode → Bool
same_mode Owned Owned = true
same_mode Shared Shared = true
same_mode Unowned Unowned = true
same_mode a b = false

-- whether two handles are the same
abbrev pub same_handle : Handle → Handle → Bool
same_handle a b = nat_eq a.object.0 b.object.0 && same_mode a.mode b.mode

-- whether a name denotes this handle already
abbrev pub stands_so : List ((Label × Label) × Handle) → (Label × Label) × Handle → Bool
stands_so base put = option_map_or (λ h. same_handle h put.1) (handle_at (name_of put.0) base) false

-- handles that are put, as changes
abbrev pub changes_by : List ((Label × Label) × Handle) → List ((Label × Label) × Option Handle)
changes_by puts = map (λ (p : (Label × Label) × Handle). (p.0, Some p.1)) puts

-- those that change something
abbrev pub other_puts : List ((Label × Label) × Handle) → List ((Label × Label) × Handle) → List ((Label × Label) × Handle)
other_puts base puts = filter (λ put. not (stands_so base put)) puts
