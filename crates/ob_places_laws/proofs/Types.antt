-- Permissions and types of a class table: their states have numbers.
use Rattle.std.proofs.Common.{◌≡◌, ℕ, true, false, refl, sym, subst}
use Rattle.std.specs.Prelude.{length}
use Rattle.ob_base.specs.declared.permission.Mode.{Mode}
use Rattle.ob_base.specs.declared.permission.Mode.TheVariants.{Owned, Shared, Unowned}
use Rattle.ob_base.specs.declared.permission.Perm.{Perm}
use Rattle.ob_perm.specs.States.{States, IsNumbered, all_states}
use Rattle.ob_perm.specs.Permissions.{Permission, owned, IsNumberedPermission, is_on}
use Rattle.ob_perm.specs.Masks.{states_of, held, permission_of, perm_of}
use Rattle.ob_perm.proofs.StandsLemmas.{states_of_numbered, perm_is}
use Rattle.ob_table.specs.Tables.{ClassTable}
use Rattle.ob_table.specs.declared.contract.Contract.{Contract}
use Rattle.ob_table.specs.declared.contract.ResolvedType.{ResolvedType}
use Rattle.ob_table.specs.declared.contract.ResolvedType.TheVariants.{Int, Bool as BoolKind, Text, Reference}
use Rattle.ob_table_spec.specs.Conditions.{IsPermOn, IsType, states_of_owner}
use Rattle.ob_silica_places.specs.Known.{permission_of_type}
use Rattle.ob_places_laws.specs.Serving.{AreAmong}
use Rattle.ob_places_laws.proofs.Sets.{among_from_subset, subset_from_among}
use Rattle.ob_places_laws.proofs.Tables.{reference_is}

-- how the states of one of the code are held
held_numbered : (m : Mode) (a : States) → IsNumbered a → IsNumberedPermission (held m a)
held_numbered Owned a h = h
held_numbered Shared a h = tt
held_numbered Unowned a h = tt

pub perm_states_numbered : (c : Contract) (p : Perm) → IsPermOn c p → IsNumbered (states_of p.states)
perm_states_numbered c p is = states_of_numbered p.states is.low

pub perm_numbered : (c : Contract) (p : Perm) → IsPermOn c p → IsNumberedPermission (permission_of p)
perm_numbered c p is = held_numbered p.mode (states_of p.states) (perm_states_numbered c p is)

-- Its states are those in which an owner that knows no more lets the object be.
pub perm_among : (c : Contract) (p : Perm) → IsPermOn c p → AreAmong (states_of p.states) (states_of_owner c)
perm_among c p is = among_from_subset (states_of p.states) (states_of_owner c) is.inside

pub perm_inside : (c : Contract) (p : Perm) → IsPermOn c p → (i : ℕ) → states_of p.states i ≡ true
    → states_of_owner c i ≡ true
perm_inside c p is i e = perm_among c p is i (perm_states_numbered c p is i e) e

-- Of a contract that is no interface, these are its own, or no state.
pub contract_states : (c : Contract) → c.interface ≡ false → states_of_owner c ≡ all_states (length c.states)
contract_states c plain = rw plain refl

pub perm_is_on : (c : Contract) (p : Perm) → c.interface ≡ false → IsPermOn c p
    → is_on (length c.states) (permission_of p) ≡ true
perm_is_on c p plain is = of_mode p.mode
  where
    among : AreAmong (states_of p.states) (all_states (length c.states))
    among = subst (AreAmong (states_of p.states)) (contract_states c plain) (perm_among c p is)

    of_mode : (m : Mode) → is_on (length c.states) (held m (states_of p.states)) ≡ true
    of_mode Owned = subset_from_among (states_of p.states) (all_states (length c.states)) among
    of_mode Shared = subset_from_among (all_states (length c.states)) (all_states (length c.states)) (λ i low e. e)
    of_mode Unowned = subset_from_among (all_states (length c.states)) (all_states (length c.states)) (λ i low e. e)

-- A permission and what represents it in the code.
pub perm_back : (c : Contract) (p : Perm) → IsPermOn c p → perm_of (permission_of p) ≡ p
perm_back c p is = sym (perm_is p (permission_of p) is.canonical (perm_numbered c p is) refl)

-- Types.

pub type_numbered : (table : ClassTable) (of : ResolvedType) → IsType table of
    → IsNumberedPermission (permission_of_type of)
type_numbered table Int is = tt
type_numbered table BoolKind is = tt
type_numbered table Text is = tt
type_numbered table (Reference id p) is =
    let c = reference_is table id p is in perm_numbered c.0 p c.2

-- Of a numbered permission that is an owner's, each state has a number.
pub owned_numbered : (p : Permission) (a : States) → IsNumberedPermission p → p ≡ owned a → IsNumbered a
owned_numbered p a h e = subst IsNumberedPermission e h
