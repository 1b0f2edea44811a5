-- The handles that a request names: what is read of one, where its mode serves, and what is marked where some are put
-- (Coblenz et al., TOPLAS 42(3), 2020, "Permissions", for modes; the rest is this project's own).
use Rattle.std.specs.Prelude.{ℕ, Bool, true, false, nat_le, List, ◌∷◌, length, fold, option_map, option_to_list, if◌then◌else◌}
use Rattle.ob_base.specs.Limits.{most_handles}
use Rattle.ob_base.specs.declared.permission.Mode.{Mode}
use Rattle.ob_base.specs.declared.permission.Mode.TheVariants.{Owned, Shared, Unowned}
use Rattle.ob_heap_spec.specs.Contents.{HandleName, Content}
use Rattle.ob_heap_spec.specs.Handles.{NamedHandle, handle_at}
use Rattle.ob_heap_spec.specs.Worlds.{World, ReadItem, object_item, handle_item}
use Rattle.ob_heap_spec.specs.Marks.{mark_shared}
use Rattle.ob_rest_spec.specs.Modes.{is_shared}

-- the name of a client's handle
abbrev pub handle_name : List ℕ → List ℕ → HandleName
handle_name who name = record { who = who; name = name }

-- what is read where a handle is looked up for its object: what the name denotes, and the object
abbrev pub handle_reads : Content → HandleName → List ReadItem
handle_reads content name =
    handle_item name ∷ option_to_list (option_map (λ h. object_item h.object) (handle_at content name))

-- whether there are as many handles as there may be
abbrev pub are_handles_full : Content → Bool
are_handles_full content = nat_le most_handles (length content.handles)

-- whether a handle of the first mode serves where the second is wanted
abbrev pub serves : Mode → Mode → Bool
serves Owned wanted = true
serves Shared Owned = false
serves Shared wanted = true
serves Unowned Unowned = true
serves Unowned wanted = false

-- a reference that is put into a Shared handle marks its object
abbrev pub mark_put : World → NamedHandle → World
mark_put w h = if is_shared h.1.mode then mark_shared h.1.object w else w

-- the marks of handles that are put, one after another
abbrev pub mark_puts : World → List NamedHandle → World
mark_puts w puts = fold mark_put w puts
