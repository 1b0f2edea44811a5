-- Frames of bodies.
use Rattle.std.proofs.Common.{◌≡◌, ℕ, suc, ◌+◌, ◌<◌, ◌≤◌, List, ◌∷◌, length, drop, get_or, Some, None, true, false, nat_eq, cond, sym, ap, ◌∙◌, subst, arith, add-one, drop-cons, le-ltb}
use Rattle.std.specs.Prelude.{◌==◌, ◌||◌, slice_get, All}
use Rattle.std.proofs.Math.Path.{fun_ext}
use Rattle.std.proofs.Math.ListN.{drop_of_length-le}
use Rattle.std.proofs.lemmas.Option.{slice_get_within, get_or_from_slice_get}
use Rattle.ob_base.specs.declared.id.ContractId.{ContractId}
use Rattle.ob_perm.specs.States.{stateless, only, no_states, all_states}
use Rattle.ob_perm.specs.Masks.{states_of}
use Rattle.ob_perm.proofs.MaskLemmas.{states_of-zero, states_of_bit}
use Rattle.ob_table.specs.Tables.{ClassTable, contract_at}
use Rattle.ob_table.specs.declared.contract.Contract.{Contract}
use Rattle.ob_table.specs.declared.contract.Listed.{Listed}
use Rattle.ob_table_spec.specs.Conditions.{IsClassTable, IsContract}
use Rattle.ob_flow_spec.specs.Contexts.{listed_at}
use Rattle.ob_flow_context.specs.Small.{IsSmall, AreSmall}

-- Sizes.

small_contract : (table : ClassTable) (c : Contract) → IsContract table c → IsSmall c
small_contract table c is = record { states = is.few_states; fields = is.few_fields }

-- A contract of a small table is small.
pub small_at : (contracts : List Contract) (n : ℕ) (c : Contract) → All IsSmall contracts → slice_get contracts n ≡ Some c
    → IsSmall c
small_at contracts n c small e =
    subst IsSmall (get_or_from_slice_get contracts n c c e) (small n c (slice_get_within contracts n c e))

all_small : (table : ClassTable) → IsClassTable table → All IsSmall table.contracts
all_small table is n d h = small_contract table (get_or table.contracts n d) (is.contracts n d h)

-- A class table and each contract of it are small.
pub are_small : (table : ClassTable) (id : ContractId) (own : Contract) → IsClassTable table
    → contract_at table id ≡ Some own → AreSmall table own
are_small table id own is e = record {
  here = small_at table.contracts id.0 own (all_small table is) e;
  all = all_small table is;
}

-- Sets of states.

pub only_stateless : all_states 0 ≡ only stateless
only_stateless = fun_ext (λ i. ap (λ b. b || i == stateless) (le-ltb i 0 (omega arith)))

pub no_states-zero : states_of 0 ≡ no_states
no_states-zero = states_of-zero

-- Listed fields, turn by turn.

here : (ls : List Listed) (i f : ℕ) (l : Listed) → i < length ls → l ≡ get_or ls i l
    → listed_at (drop i ls) f ≡ cond (nat_eq l.field.0 f) (Some l) (listed_at (drop (i + 1) ls) f)
here ls i f l h is = rw add-one (ap (λ xs. listed_at xs f) (drop-cons ls i l h ∙ ap (λ y. y ∷ drop (suc i) ls) (sym is)))

pub listed_found : (ls : List Listed) (i f : ℕ) (l : Listed) → i < length ls → l ≡ get_or ls i l
    → nat_eq l.field.0 f ≡ true → listed_at (drop i ls) f ≡ Some l
listed_found ls i f l h is e = here ls i f l h is ∙ ap (λ b. cond b (Some l) (listed_at (drop (i + 1) ls) f)) e

pub listed_passed : (ls : List Listed) (i f : ℕ) (l : Listed) → i < length ls → l ≡ get_or ls i l
    → nat_eq l.field.0 f ≡ false → listed_at (drop i ls) f ≡ listed_at (drop (i + 1) ls) f
listed_passed ls i f l h is e = here ls i f l h is ∙ ap (λ b. cond b (Some l) (listed_at (drop (i + 1) ls) f)) e

pub listed_end : (ls : List Listed) (i f : ℕ) → length ls ≤ i → listed_at (drop i ls) f ≡ None
listed_end ls i f h = ap (λ xs. listed_at xs f) (drop_of_length-le ls h)

pub ruleset frames = (
  small_at,
  are_small,
  only_stateless,
  no_states-zero,
  states_of_bit,
  listed_found,
  listed_passed,
  listed_end,
)
