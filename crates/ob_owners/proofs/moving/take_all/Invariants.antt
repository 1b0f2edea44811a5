use Rattle.std.proofs.Common.{◌≡◌, length, map}
use Rattle.ob_owners.specs.Moving.{without_places}
use Rattle.ob_owners.specs.Owning.{owning_of}
use Rattle.ob_owners.proofs.moving.take_all.Given as goal

-- the places that are left lead to where all of them lead
abbrev pub invariant-loop-owning : goal.invariant-loop-owning
invariant-loop-owning g l = record {
  lists : without_places (map owning_of l.going.items) l.places.lists ≡ without_places (map owning_of l.fn.going.items) l.fn.places.lists;
  room : l.places.room ≡ l.fn.places.room;
}

abbrev pub decreases-loop-owning : goal.decreases-loop-owning
decreases-loop-owning g l = length l.going.items
