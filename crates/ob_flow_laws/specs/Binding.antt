-- What holds of a receiver and arguments that are given to parameters, one after another (this project's own).
use Rattle.std.specs.Prelude.{Bool, List, [], ◌∷◌, IsTrue, IsFalse, ⊤}
use Rattle.ob_perm.specs.Permissions.{is_unowned}
use Rattle.ob_perm.specs.Masks.{permission_of}
use Rattle.ob_silica_places.specs.Parameters.{Parameter}
use Rattle.ob_silica_places.specs.Places.{Location}
use Rattle.ob_flow_spec.specs.Contexts.{BodyFrame, Context, TestedPlaces, is_field}
use Rattle.ob_flow_spec.specs.Uses.{Read, given_to}
use Rattle.ob_flow_spec.specs.Binding.{wants_owner, is_among, is_given_owning}
use Rattle.ob_flow_laws.specs.Uses.{CanGive}

-- each of these places is new among those before it, or none of its uses, which `owning` tells, wants an owner
abbrev pub EachOnceAfter : (Location → Bool) → List Read → List Read → Type 0
EachOnceAfter owning before [] = ⊤
EachOnceAfter owning before (r ∷ rs) =
    (IsTrue (is_among r.location before) → IsFalse (owning r.location)) × EachOnceAfter owning (r ∷ before) rs

-- no place is given twice, once of it to an owner
abbrev pub EachOnce : List Read → List Parameter → Type 0
EachOnce rs ps = EachOnceAfter (λ p. is_given_owning p rs ps) [] rs

-- where a parameter wants an owner of a field, it doesn't give it back
abbrev pub KeepsFields : List Read → List Parameter → Type 0
KeepsFields [] ps = ⊤
KeepsFields (r ∷ rs) [] = ⊤
KeepsFields (r ∷ rs) (p ∷ ps) =
    (IsTrue (is_field r.location) → IsTrue (wants_owner p) → IsTrue (is_unowned (permission_of p.exit)))
    × KeepsFields rs ps

-- places can be given to parameters, each in the context that those before it leave
abbrev pub CanGiveAll : BodyFrame → TestedPlaces → Context → List Read → List Parameter → Type 0
CanGiveAll b ts g [] ps = ⊤
CanGiveAll b ts g (r ∷ rs) [] = ⊤
CanGiveAll b ts g (r ∷ rs) (p ∷ ps) =
    CanGive b ts g r.location p × CanGiveAll b ts (given_to g r.location p) rs ps
