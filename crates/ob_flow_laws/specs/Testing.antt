-- What holds where a test of state derives (Coblenz et al., TOPLAS 42(3), 2020, "Silica"; the facts are this
-- project's own).
use Rattle.std.specs.Prelude.{◌≡◌, Option, Some, None, IsTrue, IsFalse}
use Rattle.ob_perm.specs.Permissions.{Permission, owned, shared, unowned, owns, is_unowned}
use Rattle.ob_silica.specs.declared.place.Operand.{Operand}
use Rattle.ob_silica_places.specs.Places.{located}
use Rattle.ob_flow_spec.specs.Contexts.{BodyFrame, Context, now, permission_at, counted, TestedPlaces, is_tested}
use Rattle.ob_flow_laws.specs.Uses.{CanUse}

-- a place can be tested: it can be used, it has a say, and it isn't under test already
pub record CanTest (b : BodyFrame) (ts : TestedPlaces) (g : Context) (o : Operand) : Type 0 where
  pub usable : CanUse b g (located o)
  pub has_say : IsFalse (is_unowned (counted g (located o)))
  pub untested : IsFalse (is_tested ts (located o))

-- The first branch of a shared object's test ends, and this is left: the place still owned, and is Shared again.
-- Where the end isn't reached, nothing is asked.
abbrev pub EndsTest : Operand → Option Context → Option Context → Type 0
EndsTest o None left = left ≡ None
EndsTest o (Some g) left = IsTrue (owns (permission_at g (located o))) × (left ≡ Some (now g (located o) shared))

-- the first branch of a test ends, and this is left
abbrev pub EndsFirstBranch : Permission → Operand → Option Context → Option Context → Type 0
EndsFirstBranch (owned a) o first left = left ≡ first
EndsFirstBranch shared o first left = EndsTest o first left
EndsFirstBranch unowned o first left = left ≡ first
