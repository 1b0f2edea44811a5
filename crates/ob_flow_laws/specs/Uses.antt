-- What holds of a place that is read, used or given (Coblenz et al., TOPLAS 42(3), 2020, "Permissions"; the facts are
-- this project's own).
use Rattle.std.specs.Prelude.{◌≡◌, ℕ, IsTrue, IsFalse}
use Rattle.ob_perm.specs.Permissions.{fits}
use Rattle.ob_perm.specs.Masks.{permission_of}
use Rattle.ob_silica_places.specs.Parameters.{Parameter}
use Rattle.ob_silica_places.specs.Known.{permission_of_type}
use Rattle.ob_silica_places.specs.Places.{Location, field, this, same_location}
use Rattle.ob_flow_spec.specs.Contexts.{BodyFrame, constructs, Context, is_set, accessible, TestedPlaces, is_tested}
use Rattle.ob_flow_spec.specs.Uses.{goes_away, said_for_type}

-- a place can be read: it is set, and if it is a field, that is accessible
pub record CanRead (b : BodyFrame) (g : Context) (p : Location) : Type 0 where
  pub set : IsTrue (is_set (g p))
  pub reached : (f : ℕ) → p ≡ field f → IsTrue (accessible b g f)

-- a place can be used: it can be read, and in a constructor it isn't `this`
pub record CanUse (b : BodyFrame) (g : Context) (p : Location) : Type 0 where
  pub readable : CanRead b g p
  pub spares_this : IsTrue (constructs b) → IsFalse (same_location p this)

-- A place can be given to a parameter: it can be used, it serves what the parameter's type wants, and if it is under
-- test it stays its owner's.
pub record CanGive (b : BodyFrame) (ts : TestedPlaces) (g : Context) (p : Location) (to : Parameter) : Type 0 where
  pub usable : CanUse b g p
  pub serves : IsTrue (fits (said_for_type b g p to.of) (permission_of_type to.of))
  pub stays : IsTrue (is_tested ts p) → IsFalse (goes_away (permission_of_type to.of) (permission_of to.exit))
