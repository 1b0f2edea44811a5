-- Lists of places, and how they are kept (this project's own).
use Rattle.std.specs.Prelude.{◌≡◌, ℕ, ◌+◌, ◌^◌, ◌<◌, ◌≤◌, Bool, false, ◌||◌, nat_eq, ⊤, List, [], ◌∷◌, map, filter_map, length, IsSome}
use Rattle.slab.specs.Slab.{Slab, get, HasRoomFor}
use Rattle.ob_links.specs.Lists.{Pair, Linked, joined}
use Rattle.ob_rest_spec.specs.Incoming.{StorePlace}
use Rattle.ob_owners.specs.declared.spot.Spot.{Spot}
use Rattle.ob_owners.specs.Spots.{place_of}

-- Lists of places, and how many more places they can take without memory.
pub record Listed : Type 0 where
  pub lists : List (List StorePlace)
  pub room : ℕ

-- the places of pairs, each of which has the key of one
abbrev pub spots_of : Slab Spot → List Pair → List Spot
spots_of spots xs = filter_map (λ (x : Pair). get spots x.1) xs

-- the places of all lists
abbrev pub listed_of : Slab Spot → Linked → List (List Spot)
listed_of spots links = map (spots_of spots) links.lists

-- the places of lists
abbrev pub places_of : List (List Spot) → List (List StorePlace)
places_of lists = map (map place_of) lists

-- whether one of these pairs has a key
abbrev pub has_key : ℕ → List Pair → Bool
has_key key [] = false
has_key key (x ∷ xs) = nat_eq x.1 key || has_key key xs

-- no key is in two of these pairs, and each is that of a place
abbrev pub AreKeyed : Slab Spot → List Pair → Type 0
AreKeyed spots [] = ⊤
AreKeyed spots (x ∷ xs) = IsSome (get spots x.1) × (has_key x.1 xs ≡ false) × AreKeyed spots xs

-- Lists of pairs, each with the key of a place of its own. There are so many lists and pairs, and so many places may be added
-- without memory; of pairs there are always fewer than 2^32.
pub record AreKept (links : Linked) (spots : Slab Spot) (count_lists count_places room : ℕ) : Type 0 where
  pub keyed : AreKeyed spots (joined links.lists)
  pub lists : count_lists ≡ length links.lists
  pub places : count_places ≡ length (joined links.lists)
  pub nodes_room : room ≤ links.spare
  pub spots_room : HasRoomFor spots room
  pub few : count_places + room < 2 ^ 32
