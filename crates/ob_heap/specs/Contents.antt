-- What a store holds, as it is kept (this project's own).
use Rattle.std.specs.Prelude.{◌≡◌, ℕ, zero, suc, ⊤, List, [], ◌∷◌, map, Option, Some, None, if◌then◌else◌}
use Rattle.std.specs.Ordering.{is_eq, is_lt}
use Rattle.std.specs.declared.cmp.Ordering.TheVariants.{Less}
use Rattle.ob_base.specs.declared.name.Label.{Label}
use Rattle.ob_heap.specs.declared.object.Object.{Object}
use Rattle.ob_heap.specs.declared.object.Handle.{Handle}
use Rattle.ob_heap.specs.Plain.{object_of, handle_of}
use Rattle.ob_heap_spec.specs.Contents.{HandleName, Handle as PlainHandle, Content as PlainContent, name_order}

-- what names a handle
abbrev pub name_of : Label × Label → HandleName
name_of n = record { who = n.0; name = n.1 }

-- a name comes before those of all of these
abbrev pub IsBeforeAll : Label × Label → List ((Label × Label) × Handle) → Type 0
IsBeforeAll n [] = ⊤
IsBeforeAll n (h ∷ hs) = (name_order (name_of n) (name_of h.0) ≡ Less) × IsBeforeAll n hs

-- handles stand in the order of their names, each once
abbrev pub IsInOrder : List ((Label × Label) × Handle) → Type 0
IsInOrder [] = ⊤
IsInOrder (h ∷ hs) = IsBeforeAll h.0 hs × IsInOrder hs

-- the handle of a name
abbrev pub handle_at : HandleName → List ((Label × Label) × Handle) → Option Handle
handle_at n [] = None
handle_at n (h ∷ hs) = if is_eq (name_order (name_of h.0) n) then Some h.1 else handle_at n hs

-- the place of the first handle whose name doesn't come before this one, or the end
abbrev pub place_of_name : HandleName → List ((Label × Label) × Handle) → ℕ
place_of_name n [] = zero
place_of_name n (h ∷ hs) = if is_lt (name_order (name_of h.0) n) then suc (place_of_name n hs) else zero

-- The objects and the handles of a store, and how many more of each it can take without memory.
pub record Stored : Type 0 where
  pub objects : List Object
  pub handles : List ((Label × Label) × Handle)
  pub object_room : ℕ
  pub handle_room : ℕ

-- a hold with its name
abbrev pub named_of : (Label × Label) × Handle → HandleName × PlainHandle
named_of h = (name_of h.0, handle_of h.1)

-- the plain data of a store
abbrev pub content_of : Stored → PlainContent
content_of c = record { objects = map object_of c.objects; handles = map named_of c.handles }
