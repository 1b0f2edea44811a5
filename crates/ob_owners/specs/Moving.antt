-- Owning places put into the lists of their objects, and taken out of them (this project's own).
use Rattle.std.specs.Prelude.{List, [], ◌∷◌}
use Rattle.ob_rest_spec.specs.Incoming.{StorePlace}
use Rattle.ob_owners.specs.Noting.{with_change_at}
use Rattle.ob_owners.specs.Order.{with_place, without_place}
use Rattle.ob_owners.specs.Owning.{OwningPlace}

-- lists after a change for each of these places, of the list of its object, if there is one: the last place goes first
abbrev pub changed_by : (StorePlace → List StorePlace → List StorePlace) → List OwningPlace → List (List StorePlace) → List (List StorePlace)
changed_by change [] lists = lists
changed_by change (p ∷ ps) lists = with_change_at p.object (change p.place) (changed_by change ps lists)

-- lists with these places, each before those of its object
abbrev pub with_first_places : List OwningPlace → List (List StorePlace) → List (List StorePlace)
with_first_places ps lists = changed_by (λ p xs. p ∷ xs) ps lists

-- lists with these places, each among those of its object
abbrev pub with_places : List OwningPlace → List (List StorePlace) → List (List StorePlace)
with_places ps lists = changed_by with_place ps lists

-- lists without these places
abbrev pub without_places : List OwningPlace → List (List StorePlace) → List (List StorePlace)
without_places ps lists = changed_by without_place ps lists
