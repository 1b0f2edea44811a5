-- A context says what is so of the places of a frame (Coblenz et al., TOPLAS 42(3), 2020, "Silica", consistency of the
-- heap with the typing context; that an asset's owner is known is this project's own).
use Rattle.std.specs.Prelude.{◌≡◌, ℕ, ◌<◌, Bool, true, false, Option, Some, None, ⊤}
use Rattle.ob_perm.specs.Permissions.{Permission, owns}
use Rattle.ob_heap_spec.specs.Objects.{Object, state_number}
use Rattle.ob_silica_places.specs.Known.{Known}
use Rattle.ob_silica_places.specs.Places.{Location, slot, field, this}
use Rattle.ob_silica_steps.specs.Cells.{Cell, permission_in}
use Rattle.ob_silica_steps.specs.Here.{Here, self_of}
use Rattle.ob_flow_spec.specs.Contexts.{BodyFrame, available, Context, permission_on, permission_at}
use Rattle.ob_flow_spec.specs.Joining.{same_mode}
use Rattle.ob_places_laws.specs.Serving.{Allows}
use Rattle.ob_coherent_spec.specs.Counting.{nth_object, field_cell, in_cell}

-- what is known of a place agrees with its cell: it's of the same kind, and its permission serves as the one that is known
abbrev pub AgreesWith : Known → Option Cell → Type 0
AgreesWith y None = ⊥
AgreesWith y (Some x) = (x.note.kind ≡ y.kind) × Allows y.permission x.note.permission

-- the same; of a place that isn't known to be set nothing is said
abbrev pub Agrees : Option Known → Option Cell → Type 0
Agrees None x = ⊤
Agrees (Some y) x = AgreesWith y x

-- What is known of a place is so, and a place that owns an object of which this holds is known to own.
pub record SaysOf (N : ℕ → Type 0) (y : Option Known) (x : Option Cell) : Type 0 where
  pub known : Agrees y x
  pub owner : (n : ℕ) → N n → 0 < in_cell owns n x → owns (permission_on y) ≡ true

-- the object that `this` is
abbrev pub own_object : Here → Object
own_object h = nth_object h.world.objects (self_of h.slots)

-- a field of `this`
abbrev pub own_cell : Here → ℕ → Option Cell
own_cell h k = field_cell h.notes h.world.objects (self_of h.slots) k

-- What a context says is so of the slots of a frame and of the fields that `this` has, where they are free; of `this` it
-- says exactly how it is held, since fields count as Unowned where `this` is Unowned.
pub record Says (b : BodyFrame) (N : ℕ → Type 0) (g : Context) (h : Here) (free : Location → Bool) : Type 0 where
  pub slots : (k : ℕ) → free (slot k) ≡ true → SaysOf N (g (slot k)) (h.slots k)
  pub fields : (k : ℕ) → available b k (state_number (own_object h).state) ≡ true → free (field k) ≡ true
      → SaysOf N (g (field k)) (own_cell h k)
  pub mode : free this ≡ true → same_mode (permission_at g this) (permission_in (h.slots 0)) ≡ true

-- each place is free
abbrev pub every : Location → Bool
every p = true
