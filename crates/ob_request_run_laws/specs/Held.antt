-- What a run has of a content, apart from it (this project's own).
use Rattle.std.specs.Prelude.{ℕ, suc, ◌-◌, nat_eq, List, [], ◌∷◌, ◌++◌, length, drop, Option, Some, None, if◌then◌else◌}
use Rattle.std.specs.Option.{unwrap_or}
use Rattle.ob_heap_spec.specs.Objects.{Object}
use Rattle.ob_heap_spec.specs.Contents.{object_at}
use Rattle.ob_heap_spec.specs.Worlds.{ReadItem, object_item, next_item, handle_item, handles_full_item, World}

-- The objects that a run has read, by their numbers and as they are in it, and those that it has made. It holds what was read, not
-- what was set: a world doesn't tell that. What was read and not set is the content's.
pub record Held : Type 0 where
  pub read : List (ℕ × Object)
  pub made : List Object

-- a run has nothing of its content
abbrev pub nothing_held : Held
nothing_held = record { read = []; made = [] }

-- an object more, if there is one of that number
abbrev pub with_held : ℕ → Option Object → List (ℕ × Object) → List (ℕ × Object)
with_held n None held = held
with_held n (Some o) held = (n, o) ∷ held

-- the objects that are read among these items, as these objects have them
abbrev pub held_of : List ReadItem → List Object → List (ℕ × Object)
held_of [] objects = []
held_of (object_item n ∷ items) objects = with_held n (object_at objects n) (held_of items objects)
held_of (next_item ∷ items) objects = held_of items objects
held_of (handle_item name ∷ items) objects = held_of items objects
held_of (handles_full_item ∷ items) objects = held_of items objects

-- what the run of a world has of its content
abbrev pub held_by : World → Held
held_by w = record { read = held_of w.reads w.objects; made = drop (length w.objects - w.made) w.objects }

-- the object that is held by a number, if one is
abbrev pub found : ℕ → List (ℕ × Object) → Option Object
found n [] = None
found n (e ∷ es) = if nat_eq n e.0 then Some e.1 else found n es

-- objects from this number on, with those that are held in their places
abbrev pub laid_from : List (ℕ × Object) → ℕ → List Object → List Object
laid_from held n [] = []
laid_from held n (o ∷ os) = unwrap_or (found n held) o ∷ laid_from held (suc n) os

-- a content's objects, with what a run has of them laid over them
abbrev pub laid_over : List Object → Held → List Object
laid_over objects h = laid_from h.read 0 objects ++ h.made
