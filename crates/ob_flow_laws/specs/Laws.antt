-- What holds of outcomes, and of the context at a return (Coblenz et al., TOPLAS 42(3), 2020, "Silica"; the statements are
-- this project's own).
use Rattle.std.specs.Prelude.{ℕ, ◌+◌, ◌<◌, ◌≡◌, ◌⊎◌, length, Option, Some, slice_get, IsTrue, IsFalse}
use Rattle.ob_base.specs.declared.fault.ProgramFault.{ProgramFault}
use Rattle.ob_perm.specs.States.{stateless}
use Rattle.ob_perm.specs.Permissions.{Permission, owned, shared, unowned, fits}
use Rattle.ob_perm.specs.Masks.{permission_of}
use Rattle.ob_table.specs.Tables.{ClassTable}
use Rattle.ob_table.specs.declared.contract.Param.{Param}
use Rattle.ob_silica.specs.Terms.{SilicaTerms, then_terms, SilicaBody}
use Rattle.ob_silica.specs.declared.place.Operand.{Operand}
use Rattle.ob_silica_places.specs.Places.{Location, slot, field, this}
use Rattle.ob_flow_spec.specs.Premises.{◌>>=◌}
use Rattle.ob_flow_spec.specs.Contexts.{BodyFrame, constructs, field_count, exit_of_field, Context, permission_at, is_set, is_held_as, owns_asset, possible_under, accessible, maybe_there, TestedPlaces}
use Rattle.ob_flow_spec.specs.Returning.{value_returned, tests_ended}
use Rattle.ob_flow_spec.specs.Deriving.{if_reached, derive_all, Derives, IsFlowFault}

-- a body derives or has a flow fault, never both, and one fault at most
pub record HasOneOutcome (table : ClassTable) (body : SilicaBody) : Type 0 where
  pub some : Derives table body ⊎ ((fault : ProgramFault) × IsFlowFault table body fault)
  pub never_both : Derives table body → (fault : ProgramFault) → IsFlowFault table body fault → ⊥
  pub one_fault : (a b : ProgramFault) → IsFlowFault table body a → IsFlowFault table body b → a ≡ b

-- A front part of terms and then the rest derive as the whole does: the rest from the context that the front leaves, where
-- it is passed.
abbrev pub DerivesInTurn : BodyFrame → TestedPlaces → SilicaTerms → SilicaTerms → Context → Type 0
DerivesInTurn b ts front rest g =
    derive_all b ts (then_terms front rest) g
    ≡ (derive_all b ts front g >>= (λ left. if_reached left (λ h. derive_all b ts rest h)))

-- the context at a return, once the value was given and the tests around have ended
abbrev pub at_return : BodyFrame → TestedPlaces → Context → Option Operand → Context
at_return b ts g value = tests_ended ts (value_returned g value b.signature.result)

-- A place meets an exit: an owner's or a Shared one holds of it, and where it has no say it owns no asset.
abbrev pub MeetsExit : BodyFrame → Context → Location → Permission → Type 0
MeetsExit b g p (owned a) = IsTrue (is_held_as (g p) (owned a))
MeetsExit b g p shared = IsTrue (is_held_as (g p) shared)
MeetsExit b g p unowned = IsFalse (owns_asset b g p)

-- an object that a constructor leaves serves as what it gives, and each of its accessible fields is set
pub record IsConstructed (b : BodyFrame) (g : Context) : Type 0 where
  pub serves : IsTrue (fits (permission_at g this) (permission_of b.signature.exit))
  pub in_state : (length b.own.states ≡ 0) ⊎ IsFalse (possible_under b (permission_at g this) stateless)
  pub set : (f : ℕ) → f < field_count b → IsTrue (accessible b g f) → IsTrue (is_set (g (field f)))

-- Each parameter and `this` meet their exits, each field that may be there has its exit, no slot above the parameters owns
-- an asset, and a constructor has made its object.
pub record MeetsExits (b : BodyFrame) (g : Context) : Type 0 where
  pub params : (k : ℕ) (p : Param) → slice_get b.signature.params k ≡ Some p
      → MeetsExit b g (slot (k + 1)) (permission_of p.exit)
  pub itself : IsFalse (constructs b) → MeetsExit b g this (permission_of b.signature.exit)
  pub made : IsTrue (constructs b) → IsConstructed b g
  pub fields : (f : ℕ) → f < field_count b → IsTrue (maybe_there b g f)
      → IsTrue (is_held_as (g (field f)) (exit_of_field b b.signature f))
  pub others : (k : ℕ) → length b.signature.params < k → k < b.slots → IsFalse (owns_asset b g (slot k))
