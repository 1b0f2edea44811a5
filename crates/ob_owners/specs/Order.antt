-- The order of places, and lists of places that are kept in it (this project's own).
use Rattle.std.specs.Prelude.{Bool, false, List, [], ◌∷◌, Option, Some, None, if◌then◌else◌}
use Rattle.std.specs.Option.{option_map_or}
use Rattle.std.specs.List.{cons_option}
use Rattle.std.specs.Ordering.{nat_cmp, ordering_then, is_lt, is_eq}
use Rattle.std.specs.declared.cmp.Ordering.{Ordering}
use Rattle.std.specs.declared.cmp.Ordering.TheVariants.{Less, Greater}
use Rattle.slab.specs.Slab.{Slab, get}
use Rattle.ob_heap_spec.specs.Contents.{name_order}
use Rattle.ob_rest_spec.specs.Incoming.{StorePlace, stored_field, stored_handle}
use Rattle.ob_links.specs.declared.node.NodeId.{NodeId}
use Rattle.ob_links.specs.Lists.{Pair, is_node}
use Rattle.ob_owners.specs.declared.spot.Spot.{Spot}
use Rattle.ob_owners.specs.Places.{spots_of}

-- the order of places: fields by object and field, and then handles by their names
abbrev pub place_order : StorePlace → StorePlace → Ordering
place_order (stored_field a k) (stored_field b j) = ordering_then (nat_cmp a b) (nat_cmp k j)
place_order (stored_field a k) (stored_handle n) = Less
place_order (stored_handle m) (stored_field b j) = Greater
place_order (stored_handle m) (stored_handle n) = name_order m n

-- places in order with one more, which stands before the first that comes after it
abbrev pub with_place : StorePlace → List StorePlace → List StorePlace
with_place p [] = p ∷ []
with_place p (q ∷ qs) = if is_lt (place_order p q) then p ∷ q ∷ qs else q ∷ with_place p qs

-- places without the first that is this one
abbrev pub without_place : StorePlace → List StorePlace → List StorePlace
without_place p [] = []
without_place p (q ∷ qs) = if is_eq (place_order p q) then qs else q ∷ without_place p qs

-- the node of the first pair whose place passes a test
abbrev pub node_by : (Spot → Bool) → Slab Spot → List Pair → Option NodeId
node_by test spots [] = None
node_by test spots (x ∷ xs) = if option_map_or test (get spots x.1) false then Some x.0 else node_by test spots xs

-- the places of pairs with one more, which stands before that of a node, or at the end
abbrev pub spots_with : Slab Spot → Option NodeId → Spot → List Pair → List Spot
spots_with spots before s [] = s ∷ []
spots_with spots before s (x ∷ xs) =
    if is_node before x.0 then s ∷ spots_of spots (x ∷ xs) else cons_option (get spots x.1) (spots_with spots before s xs)
