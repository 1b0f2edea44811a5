-- What the context of the code represents.
use Rattle.std.specs.Prelude.{ℕ, List, map, reverse, Option, option_map, slice_get}
use Rattle.std.specs.Option.{option_flatten}
use Rattle.ob_perm.specs.Masks.{permission_of}
use Rattle.ob_silica.specs.declared.place.Place.{Place}
use Rattle.ob_silica_places.specs.Known.{Known, known}
use Rattle.ob_silica_places.specs.Places.{Location, slot, field, location_of}
use Rattle.ob_flow_spec.specs.Contexts.{Context, TestedPlaces}
use Rattle.ob_flow_context.specs.declared.context.Known.{Known as KnownOfPlace}
use Rattle.ob_flow_context.specs.declared.context.Context.{Context as ContextOfBody}

-- what is known of a place: its kind and the permission on it
abbrev pub known_of : KnownOfPlace → Known
known_of k = known k.kind (permission_of k.permission)

-- what is known of the places of a list, if they are set
abbrev pub all_known : List (Option KnownOfPlace) → List (Option Known)
all_known ks = map (λ k. option_map known_of k) ks

-- what is known of the place of a number; one past the end of the list is unset
unfoldable pub known_at : List (Option KnownOfPlace) → ℕ → Option Known
known_at ks = λ n. option_flatten (slice_get (all_known ks) n)

-- what is known of a place, of slots and of fields
abbrev pub known_in : (ℕ → Option Known) → (ℕ → Option Known) → Location → Option Known
known_in slots fields (slot k) = slots k
known_in slots fields (field f) = fields f

-- the context that one of the code represents
unfoldable pub context_of : ContextOfBody → Context
context_of c = λ p. known_in (known_at c.slots) (known_at c.fields) p

-- the places under test, of which the code has the innermost last
abbrev pub tested_of : List Place → TestedPlaces
tested_of places = map location_of (reverse places)
