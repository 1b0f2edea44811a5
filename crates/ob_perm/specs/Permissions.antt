-- What a reference may do with its object (Coblenz et al., TOPLAS 42(3), 2020, "Permissions"; what the giver keeps, and
-- what is held after two branches, is this project's own).
use Rattle.std.specs.Prelude.{ℕ, Bool, true, false, not, Option, Some, None, is_none, if◌then◌else◌, ⊤}
use Rattle.ob_base.specs.Faults.{not_owning, wrong_state, not_shared}
use Rattle.ob_perm.specs.States.{States, IsNumbered, union, within, without, subset, all_states}
use Rattle.ob_perm.specs.declared.permission.FitFault.{FitFault}
use Rattle.ob_perm.specs.declared.permission.FitFault.TheVariants.{NotOwning, WrongState, NotShared}

-- A permission: that of the owner, with the states in which the object may be; of one of those that share the object;
-- of one that has no say.
pub data Permission : Type 0 where
  owned : States → Permission
  shared : Permission
  unowned : Permission

-- whether it is the owner's
abbrev pub owns : Permission → Bool
owns (owned a) = true
owns shared = false
owns unowned = false

-- whether it is that of one of those that share the object
abbrev pub is_shared : Permission → Bool
is_shared (owned a) = false
is_shared shared = true
is_shared unowned = false

-- whether it is that of one that has no say
abbrev pub is_unowned : Permission → Bool
is_unowned (owned a) = false
is_unowned shared = false
is_unowned unowned = true

-- Each state that it speaks of has one of the numbers of states.
abbrev pub IsNumberedPermission : Permission → Type 0
IsNumberedPermission (owned a) = IsNumbered a
IsNumberedPermission shared = ⊤
IsNumberedPermission unowned = ⊤

-- Why a reference doesn't serve where another permission is wanted, if it doesn't: an owner is wanted and it is none, or
-- its object may be in another state; one that shares is wanted and it has no say.
abbrev pub fit_fault : Permission → Permission → Option FitFault
fit_fault p unowned = None
fit_fault (owned a) shared = None
fit_fault shared shared = None
fit_fault unowned shared = Some NotShared
fit_fault (owned a) (owned b) = if subset a b then None else Some WrongState
fit_fault shared (owned b) = Some NotOwning
fit_fault unowned (owned b) = Some NotOwning

-- the number of this as a fault of a program's text
abbrev pub fault_number : FitFault → ℕ
fault_number NotOwning = not_owning
fault_number WrongState = wrong_state
fault_number NotShared = not_shared

-- whether a reference serves where the second permission is wanted
abbrev pub fits : Permission → Permission → Bool
fits p wanted = is_none (fit_fault p wanted)

-- whether a reference is held as the second permission says: in the same way, and with no other states
abbrev pub matches : Permission → Permission → Bool
matches (owned a) (owned b) = subset a b
matches (owned a) shared = false
matches (owned a) unowned = false
matches shared (owned b) = false
matches shared shared = true
matches shared unowned = false
matches unowned (owned b) = false
matches unowned shared = false
matches unowned unowned = true

-- What the giver keeps of its permission where the second is wanted: all of it where no say is wanted, a shared one where
-- a shared one is, no say where an owner is.
abbrev pub kept : Permission → Permission → Permission
kept p unowned = p
kept p shared = shared
kept p (owned b) = unowned

-- what is held after two branches: what both hold, if they hold the object in the same way, and else no say
abbrev pub joined : Permission → Permission → Permission
joined (owned a) (owned b) = owned (union a b)
joined (owned a) shared = unowned
joined (owned a) unowned = unowned
joined shared (owned b) = unowned
joined shared shared = shared
joined shared unowned = unowned
joined unowned (owned b) = unowned
joined unowned shared = unowned
joined unowned unowned = unowned

-- whether one of two branches holds the object as its owner and the other doesn't, so that the owner is lost after
abbrev pub loses_owner : Permission → Permission → Bool
loses_owner (owned a) q = not (owns q)
loses_owner shared q = owns q
loses_owner unowned q = owns q

-- a permission with other states, if it is the owner's
abbrev pub on_states : (States → States) → Permission → Permission
on_states f (owned a) = owned (f a)
on_states f shared = shared
on_states f unowned = unowned

-- a permission cut to one state, if it is the owner's
abbrev pub permission_within : Permission → ℕ → Permission
permission_within p s = on_states (λ a. within a s) p

-- a permission with one state taken out, if it is the owner's
abbrev pub permission_without : Permission → ℕ → Permission
permission_without p s = on_states (λ a. without a s) p

-- The states in which the object of a contract of n states may be: as the owner knows, or else any.
abbrev pub possible : ℕ → Permission → States
possible n (owned a) = a
possible n shared = all_states n
possible n unowned = all_states n

-- whether a permission is one on a contract of n states: it lets its object be in states of that contract alone
abbrev pub is_on : ℕ → Permission → Bool
is_on n p = subset (possible n p) (all_states n)
