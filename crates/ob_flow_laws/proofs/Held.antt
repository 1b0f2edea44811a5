-- What tests on permissions, and on what is known of a place, tell.
use Rattle.std.proofs.Common.{◌≡◌, ◌⊎◌, inl, inr, Bool, true, false, Option, Some, None, refl}
use Rattle.std.specs.Prelude.{not, ◌&&◌, ◌||◌, is_none, if◌then◌else◌}
use Rattle.ob_perm.specs.States.{States, subset}
use Rattle.ob_perm.specs.Permissions.{Permission, owned, shared, unowned, owns, is_unowned, fits, matches}
use Rattle.ob_perm.specs.declared.permission.FitFault.TheVariants.{WrongState}
use Rattle.ob_table.specs.Tables.{ClassTable}
use Rattle.ob_silica_places.specs.Known.{Known}
use Rattle.ob_flow_spec.specs.Contexts.{is_set, is_held_as, is_owned_asset}
use Rattle.ob_flow_spec.specs.Joining.{agrees_with, join_loses}

-- a place that is set is known
pub set_known : (x : Option Known) → is_set x ≡ true → (k : Known) × (x ≡ Some k)
set_known None h = absurd (cc)
set_known (Some k) h = (k, refl)

-- a place that is held in some way is known, and its permission matches
pub held_known : (x : Option Known) (w : Permission) → is_held_as x w ≡ true
    → (k : Known) × (x ≡ Some k) × (matches k.permission w ≡ true)
held_known None w h = absurd (cc)
held_known (Some k) w h = (k, refl, h)

-- an owner's permission has states
pub owner_states : (p : Permission) → owns p ≡ true → (a : States) × (p ≡ owned a)
owner_states (owned a) h = (a, refl)
owner_states shared h = absurd (cc)
owner_states unowned h = absurd (cc)

-- a permission with a say is an owner's or Shared
pub say_kinds : (p : Permission) → is_unowned p ≡ false → ((a : States) × (p ≡ owned a)) ⊎ (p ≡ shared)
say_kinds (owned a) h = inl (a, refl)
say_kinds shared h = inr refl
say_kinds unowned h = absurd (cc)

pub matches_owned : (p : Permission) (b : States) → matches p (owned b) ≡ true
    → (a : States) × (p ≡ owned a) × (subset a b ≡ true)
matches_owned (owned a) b h = (a, refl, h)
matches_owned shared b h = absurd (cc)
matches_owned unowned b h = absurd (cc)

pub matches_shared : (p : Permission) → matches p shared ≡ true → p ≡ shared
matches_shared (owned a) h = absurd (cc)
matches_shared shared h = refl
matches_shared unowned h = absurd (cc)

pub matches_unowned : (p : Permission) → matches p unowned ≡ true → p ≡ unowned
matches_unowned (owned a) h = absurd (cc)
matches_unowned shared h = absurd (cc)
matches_unowned unowned h = refl

fits_states : (c : Bool) → is_none (if c then None else Some WrongState) ≡ true → c ≡ true
fits_states true h = refl
fits_states false h = absurd (cc)

pub fits_owned : (p : Permission) (b : States) → fits p (owned b) ≡ true
    → (a : States) × (p ≡ owned a) × (subset a b ≡ true)
fits_owned (owned a) b h = (a, refl, fits_states (subset a b) h)
fits_owned shared b h = absurd (cc)
fits_owned unowned b h = absurd (cc)

pub fits_shared : (p : Permission) → fits p shared ≡ true → ((a : States) × (p ≡ owned a)) ⊎ (p ≡ shared)
fits_shared (owned a) h = inl (a, refl)
fits_shared shared h = inr refl
fits_shared unowned h = absurd (cc)

-- two branches of which each that owns an asset finds the other agreeing
pub record KeepsOwner (x y : Option Known) : Type 0 where
  pub first : Known
  pub second : Known
  pub is_first : x ≡ Some first
  pub is_second : y ≡ Some second
  pub agree : agrees_with first second ≡ true

agreed : (a b c : Bool) → (not a && (b || c)) ≡ false → (b ≡ true) ⊎ (c ≡ true) → a ≡ true
agreed true b c h o = refl
agreed false true c h o = absurd (cc)
agreed false false c h (inl o) = absurd (cc)
agreed false false c h (inr o) = absurd (let e = o in cc)

-- where no owner of an asset is lost at a join, and one branch owns one, both branches hold the place in the same way
pub owner_kept : (table : ClassTable) (x y : Option Known) → join_loses table x y ≡ false
    → (is_owned_asset table x ≡ true) ⊎ (is_owned_asset table y ≡ true) → KeepsOwner x y
owner_kept table None y h (inl o) = absurd (cc)
owner_kept table None y h (inr o) = absurd (cc)
owner_kept table (Some k) None h (inl o) = absurd (cc)
owner_kept table (Some k) None h (inr o) = absurd (cc)
owner_kept table (Some k) (Some j) h o = record {
  first = k;
  second = j;
  is_first = refl;
  is_second = refl;
  agree = agreed (agrees_with k j) (is_owned_asset table (Some k)) (is_owned_asset table (Some j)) h o;
}
