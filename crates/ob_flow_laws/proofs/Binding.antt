-- What holds of a receiver and arguments that are given to parameters.
use Rattle.std.proofs.Common.{◌≡◌, true, false, Bool, List, [], ◌∷◌, refl}
use Rattle.std.specs.Prelude.{not, ◌&&◌}
use Rattle.ob_perm.specs.Permissions.{is_unowned}
use Rattle.ob_perm.specs.Masks.{permission_of}
use Rattle.ob_silica_places.specs.Parameters.{Parameter}
use Rattle.ob_silica_places.specs.Places.{Location}
use Rattle.ob_flow_spec.specs.Contexts.{BodyFrame, Context, TestedPlaces, is_field}
use Rattle.ob_flow_spec.specs.Uses.{Read, gives_place, given_to}
use Rattle.ob_flow_spec.specs.Binding.{wants_owner, is_among, is_given_owning, each_place_once, each_once, keeps_fields, gives_all}
use Rattle.ob_flow_laws.specs.Premises.{Hold}
use Rattle.ob_flow_laws.specs.Binding.{EachOnceAfter, EachOnce, KeepsFields, CanGiveAll}
use Rattle.ob_flow_laws.proofs.Tests.{never_both}
use Rattle.ob_flow_laws.proofs.Premises.{both_hold}
use Rattle.ob_flow_laws.proofs.Uses.{can_give}

pub once_after : (owning : Location → Bool) (before rs : List Read) → Hold (each_place_once owning before rs)
    → EachOnceAfter owning before rs
once_after owning before [] h = tt
once_after owning before (r ∷ rs) h =
    (never_both (is_among r.location before) (owning r.location) h.0, once_after owning (r ∷ before) rs h.1)

pub each_is_once : (rs : List Read) (ps : List Parameter) → Hold (each_once rs ps) → EachOnce rs ps
each_is_once rs ps h = once_after (λ p. is_given_owning p rs ps) [] rs h

kept_or_gone : (a b c : Bool) → not (a && b && not c) ≡ true → a ≡ true → b ≡ true → c ≡ true
kept_or_gone true true true h s t = refl
kept_or_gone true true false h s t = absurd (cc)
kept_or_gone true false c h s t = absurd (cc)
kept_or_gone false b c h s t = absurd (cc)

pub fields_kept : (rs : List Read) (ps : List Parameter) → Hold (keeps_fields rs ps) → KeepsFields rs ps
fields_kept [] ps h = tt
fields_kept (r ∷ rs) [] h = tt
fields_kept (r ∷ rs) (p ∷ ps) h =
    (kept_or_gone (is_field r.location) (wants_owner p) (is_unowned (permission_of p.exit)) h.0, fields_kept rs ps h.1)

pub can_give_all : (b : BodyFrame) (ts : TestedPlaces) (g : Context) (rs : List Read) (ps : List Parameter)
    → Hold (gives_all b ts g rs ps) → CanGiveAll b ts g rs ps
can_give_all b ts g [] ps h = tt
can_give_all b ts g (r ∷ rs) [] h = tt
can_give_all b ts g (r ∷ rs) (p ∷ ps) h =
    let t = both_hold (gives_place b ts g r p) (gives_all b ts (given_to g r.location p) rs ps) h in
    (can_give b ts g r p t.0, can_give_all b ts (given_to g r.location p) rs ps t.1)
