use Rattle.std.proofs.Common.{◌≡◌, ◌≤◌, length, map}
use Rattle.ob_owners.specs.Moving.{with_places}
use Rattle.ob_owners.specs.Owning.{owning_of}
use Rattle.ob_owners.proofs.moving.put_all.Given as goal

-- the places that are left lead to where all of them lead
abbrev pub invariant-loop-owning : goal.invariant-loop-owning
invariant-loop-owning g l = record {
  lists : with_places (map owning_of l.coming.items) l.places.lists ≡ with_places (map owning_of l.fn.coming.items) l.fn.places.lists;
  room : length l.coming.items ≤ l.places.room;
}

abbrev pub decreases-loop-owning : goal.decreases-loop-owning
decreases-loop-owning g l = length l.coming.items
