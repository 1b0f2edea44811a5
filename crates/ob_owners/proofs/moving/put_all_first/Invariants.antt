use Rattle.std.proofs.Common.{◌≡◌, ◌≤◌, length, map}
use Rattle.ob_owners.specs.Moving.{with_first_places}
use Rattle.ob_owners.specs.Owning.{owning_of}
use Rattle.ob_owners.proofs.moving.put_all_first.Given as goal

-- the places that are left lead to where all of them lead
abbrev pub invariant-loop-owning : goal.invariant-loop-owning
invariant-loop-owning g l = record {
  lists : with_first_places (map owning_of l.gathered.items) l.places.lists ≡ with_first_places (map owning_of l.fn.gathered.items) l.fn.places.lists;
  room : length l.gathered.items ≤ l.places.room;
}

abbrev pub decreases-loop-owning : goal.decreases-loop-owning
decreases-loop-owning g l = length l.gathered.items
