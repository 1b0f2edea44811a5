-- Parts of the rules that the check works out on their own.
use Rattle.std.specs.Prelude.{Bool, true, ◌&&◌, not, List, [], ◌∷◌, Option}
use Rattle.ob_base.specs.Faults.{asset_lost, exit_mismatch}
use Rattle.ob_base.specs.declared.fault.Span.{Span}
use Rattle.ob_perm.specs.Permissions.{Permission, owned, shared, unowned, owns}
use Rattle.ob_silica.specs.declared.place.Given.{Given}
use Rattle.ob_silica_places.specs.Known.{Known}
use Rattle.ob_silica_places.specs.Places.{field}
use Rattle.ob_flow_spec.specs.Premises.{Premise, one}
use Rattle.ob_flow_spec.specs.Contexts.{BodyFrame, Context, put, permission_at, TestedPlaces, is_held_as, is_owned_asset}
use Rattle.ob_flow_spec.specs.Filling.{after_fill, got}
use Rattle.ob_flow_spec.specs.Changing.{given_from}

-- whether each of these places owns
abbrev pub all_own : Context → TestedPlaces → Bool
all_own g [] = true
all_own g (p ∷ ps) = owns (permission_at g p) && all_own g ps

-- what the given fields get, each of its place once those before it were filled
abbrev pub all_got : BodyFrame → Context → List Given → List (Option Known)
all_got b g [] = []
all_got b g (x ∷ xs) =
    got b g x.field.0 (given_from x) ∷ all_got b (after_fill b g x.field.0 (given_from x)) xs

-- the context once the given fields have got these
abbrev pub put_got : Context → List Given → List (Option Known) → Context
put_got h [] ks = h
put_got h (x ∷ xs) [] = h
put_got h (x ∷ xs) (k ∷ ks) = put_got (put h (field x.field.0) k) xs ks

-- a place of which this is known is left with an exit
abbrev pub leaves_known_as : BodyFrame → Option Known → Span → Permission → List Premise
leaves_known_as b x at (owned a) = one exit_mismatch at (is_held_as x (owned a))
leaves_known_as b x at shared = one exit_mismatch at (is_held_as x shared)
leaves_known_as b x at unowned = one asset_lost at (not (is_owned_asset b.table x))
