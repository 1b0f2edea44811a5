-- What holds of a place that is read, used or given.
use Rattle.std.proofs.Common.{◌≡◌, ℕ, true, ◌++◌, Option, Some, None, refl, subst}
use Rattle.std.specs.Prelude.{is_none}
use Rattle.ob_base.specs.declared.fault.Span.{Span}
use Rattle.ob_perm.specs.Permissions.{fit_fault}
use Rattle.ob_perm.specs.Masks.{permission_of}
use Rattle.ob_perm.specs.declared.permission.FitFault.{FitFault}
use Rattle.ob_silica_places.specs.Parameters.{Parameter}
use Rattle.ob_silica_places.specs.Known.{permission_of_type}
use Rattle.ob_silica_places.specs.Places.{Location, slot, field, this, same_location}
use Rattle.ob_flow_spec.specs.Contexts.{BodyFrame, constructs, Context, accessible, TestedPlaces, is_tested}
use Rattle.ob_flow_spec.specs.Uses.{Read, reads_place, uses_place, fitting, goes_away, said_for_type, gives_place}
use Rattle.ob_flow_laws.specs.Premises.{Hold}
use Rattle.ob_flow_laws.specs.Uses.{CanRead, CanUse, CanGive}
use Rattle.ob_flow_laws.proofs.Tests.{never_both}
use Rattle.ob_flow_laws.proofs.Premises.{both_hold}

same_field : (f h : ℕ) → field f ≡ field h → f ≡ h
same_field f h e = cc

pub can_read : (b : BodyFrame) (g : Context) (p : Location) (place : Span) → Hold (reads_place b g p place)
    → CanRead b g p
can_read b g (slot k) place h = record { set = h.0; reached = λ f e. absurd (cc) }
can_read b g (field f) place h = record {
  set = h.1.0;
  reached = λ j e. subst (λ n. accessible b g n ≡ true) (same_field f j e) h.0;
}

pub can_use : (b : BodyFrame) (g : Context) (r : Read) → Hold (uses_place b g r) → CanUse b g r.location
can_use b g r h = record {
  readable = can_read b g r.location r.span h.1;
  spares_this = never_both (constructs b) (same_location r.location this) h.0;
}

pub fits_so : (cause : Option FitFault) (place : Span) → Hold (fitting cause place) → is_none cause ≡ true
fits_so None place h = refl
fits_so (Some cause) place h = absurd (let e = h.0 in cc)

pub can_give : (b : BodyFrame) (ts : TestedPlaces) (g : Context) (r : Read) (to : Parameter)
    → Hold (gives_place b ts g r to) → CanGive b ts g r.location to
can_give b ts g r to h =
    let cause = fit_fault (said_for_type b g r.location to.of) (permission_of_type to.of) in
    let last = both_hold (uses_place b g r ++ fitting cause r.span) _ h in
    let first = both_hold (uses_place b g r) (fitting cause r.span) last.0 in
    record {
      usable = can_use b g r first.0;
      serves = fits_so cause r.span first.1;
      stays = never_both (is_tested ts r.location) (goes_away (permission_of_type to.of) (permission_of to.exit))
          last.1.0;
    }
