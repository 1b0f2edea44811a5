-- Giving a receiver and arguments to parameters, and what places get back (this project's own).
use Rattle.std.specs.Prelude.{ℕ, Bool, false, ◌&&◌, ◌||◌, not, List, [], ◌∷◌, ◌++◌, map, Option, Some, None, if◌then◌else◌}
use Rattle.ob_base.specs.Faults.{used_twice}
use Rattle.ob_perm.specs.Permissions.{owns, is_unowned}
use Rattle.ob_perm.specs.Masks.{permission_of}
use Rattle.ob_table.specs.declared.contract.ResolvedType.{ResolvedType}
use Rattle.ob_table_spec.specs.WellFormed.{kind_of_resolved}
use Rattle.ob_silica.specs.declared.place.Operand.{Operand}
use Rattle.ob_silica_places.specs.Parameters.{Parameter}
use Rattle.ob_silica_places.specs.Known.{permission_of_type}
use Rattle.ob_silica_places.specs.Places.{Location, slot, same_location, located}
use Rattle.ob_silica_places.specs.Converting.{converted}
use Rattle.ob_flow_spec.specs.Premises.{Premise, one}
use Rattle.ob_flow_spec.specs.Contexts.{BodyFrame, Context, put, now, known_as, TestedPlaces, is_field}
use Rattle.ob_flow_spec.specs.Uses.{Read, kind_known, gives_place, given_to}

-- an operand as a place that is read
abbrev pub read_of : Operand → Read
read_of o = record { location = located o; span = o.span }

-- operands as places that are read
abbrev pub reads_of : List Operand → List Read
reads_of os = map read_of os

-- whether a parameter wants an owner
abbrev pub wants_owner : Parameter → Bool
wants_owner p = owns (permission_of_type p.of)

-- whether a place is among those read
abbrev pub is_among : Location → List Read → Bool
is_among p [] = false
is_among p (r ∷ rs) = same_location p r.location || is_among p rs

-- whether a place is given to a parameter that wants an owner
abbrev pub is_given_owning : Location → List Read → List Parameter → Bool
is_given_owning p [] ps = false
is_given_owning p (r ∷ rs) [] = false
is_given_owning p (r ∷ rs) (q ∷ qs) = (same_location p r.location && wants_owner q) || is_given_owning p rs qs

-- No place stands twice among these and those before them, if one of its uses, which `owning` tells, wants an owner.
abbrev pub each_place_once : (Location → Bool) → List Read → List Read → List Premise
each_place_once owning before [] = []
each_place_once owning before (r ∷ rs) =
    one used_twice r.span (not (is_among r.location before && owning r.location)) ++ each_place_once owning (r ∷ before) rs

-- no place is given twice, once of it to an owner
abbrev pub each_once : List Read → List Parameter → List Premise
each_once rs ps = each_place_once (λ p. is_given_owning p rs ps) [] rs

-- no field is given to a parameter that wants an owner and gives it back
abbrev pub keeps_fields : List Read → List Parameter → List Premise
keeps_fields [] ps = []
keeps_fields (r ∷ rs) [] = []
keeps_fields (r ∷ rs) (p ∷ ps) =
    one used_twice r.span (not (is_field r.location && wants_owner p && not (is_unowned (permission_of p.exit))))
    ++ keeps_fields rs ps

-- places are given to parameters one after another
abbrev pub gives_all : BodyFrame → TestedPlaces → Context → List Read → List Parameter → List Premise
gives_all b ts g [] ps = []
gives_all b ts g (r ∷ rs) [] = []
gives_all b ts g (r ∷ rs) (p ∷ ps) = gives_place b ts g r p ++ gives_all b ts (given_to g r.location p) rs ps

-- the context once they were given
abbrev pub given_all : Context → List Read → List Parameter → Context
given_all g [] ps = g
given_all g (r ∷ rs) [] = g
given_all g (r ∷ rs) (p ∷ ps) = given_all (given_to g r.location p) rs ps

-- a place that was given to an owner has the exit after the call, said for its own contract
abbrev pub got_back : BodyFrame → Context → Location → Parameter → Context
got_back b g p to =
    if wants_owner to
    then now g p (converted b.table (kind_of_resolved to.of) (kind_known (g p)) (permission_of to.exit))
    else g

-- the context once each place got back what its parameter gives back
abbrev pub got_back_all : BodyFrame → Context → List Read → List Parameter → Context
got_back_all b g [] ps = g
got_back_all b g (r ∷ rs) [] = g
got_back_all b g (r ∷ rs) (p ∷ ps) = got_back_all b (got_back b g r.location p) rs ps

-- the context after a call that was given these
abbrev pub passed : BodyFrame → Context → List Read → List Parameter → Context
passed b g rs ps = got_back_all b (given_all g rs ps) rs ps

-- the context with a result in its slot, if there are both
abbrev pub with_result : Context → Option ℕ → Option ResolvedType → Context
with_result g None of = g
with_result g (Some k) None = g
with_result g (Some k) (Some of) = put g (slot k) (Some (known_as of))
