-- A shop that fills the vending machine: what is lent for a call is Unowned up to the return (this project's own program).
use Rattle.std.specs.Prelude.{ℕ, pos, Bool, false, List, [], ◌∷◌, ◌++◌, map, Option, Some, None}
use Rattle.ob_perm.specs.Permissions.{Permission, owned, shared, unowned}
use Rattle.ob_table.specs.declared.contract.Contract.{Contract}
use Rattle.ob_table.specs.declared.contract.ResolvedType.TheVariants.{Reference}
use Rattle.ob_table.specs.declared.contract.Signature.{Signature}
use Rattle.ob_heap_spec.specs.Values.{int_value, reference, nothing, put}
use Rattle.ob_heap_spec.specs.Objects.{Object}
use Rattle.ob_heap_spec.specs.Worlds.{first_world}
use Rattle.ob_examples.specs.Written.{on_line, contract_number, field_number, state_of_number, transaction_number, owner_in, as_unowned, stateless_bit, param, signature, default_constructor}
use Rattle.ob_examples.specs.VendingMachine.{coin, candy, machine}
use Rattle.ob_silica.specs.Terms.{unit_form, call_form, change_form, SilicaTerms}
use Rattle.ob_silica_steps.specs.Cells.{permission_in}
use Rattle.ob_silica_steps.specs.Configurations.{SilicaProgram, SlotCells, Waiting, NextStep, goes, ended, aborted, stuck}
use Rattle.ob_silica_steps.specs.Steps.{then_steps, steps}
use Rattle.ob_silica_steps.specs.Starting.{first_notes, started_call}
use Rattle.ob_examples.specs.WrittenTerms.{slot_on, on, body_end, terms_body}

-- `restock(Machine@Empty >> Full this, Candy@Owned >> Unowned c)`, the third of the machine's
abbrev pub restock_signature : Signature
restock_signature = signature (114 ∷ []) (owner_in 2) (owner_in 1)
    (param (Reference (contract_number 1) (owner_in stateless_bit)) as_unowned ∷ []) None

-- the machine with it
abbrev pub stocked_machine : Contract
stocked_machine = record machine { transactions = machine.transactions ++ restock_signature ∷ [] }

-- the shop has `fill(Machine@Empty >> Full m, Candy@Owned >> Unowned c)`
abbrev pub shop : Contract
shop = record coin {
  name = 83 ∷ [];
  asset = false;
  transactions =
      default_constructor
      ∷ signature (102 ∷ []) as_unowned as_unowned
      (param (Reference (contract_number 2) (owner_in 2)) (owner_in 1)
      ∷ param (Reference (contract_number 1) (owner_in stateless_bit)) as_unowned
      ∷ []) None
      ∷ [];
}

-- `->Full(candy = c);`
abbrev pub restock_terms : SilicaTerms
restock_terms =
    on 1
    (unit_form
    ∷ change_form (state_of_number 0) (record { field = field_number 0; span = on_line 1; from = slot_on 1 1 } ∷ []) ∷ [])
    body_end

-- `m.restock(c);`
abbrev pub fill_terms : SilicaTerms
fill_terms =
    on 2 (unit_form ∷ call_form None (slot_on 1 2) (contract_number 2) (transaction_number 2) (slot_on 2 2 ∷ []) ∷ []) body_end

-- the program, with the bodies that it runs
abbrev pub shop_terms : SilicaProgram
shop_terms = record {
  table = record { contracts = coin ∷ candy ∷ stocked_machine ∷ shop ∷ []; bodies = [] };
  bodies = terms_body 2 2 restock_terms 2 ∷ terms_body 3 1 fill_terms 3 ∷ [];
}

-- a store with a candy, an empty machine and a shop
abbrev pub shop_store : List Object
shop_store =
    record { contract = contract_number 1; state = None; fields = nothing; shared = false; disowned = false }
    ∷ record {
      contract = contract_number 2;
      state = Some (state_of_number 1);
      fields = put nothing 1 (int_value (pos 0));
      shared = false;
      disowned = false;
    }
    ∷ record { contract = contract_number 3; state = None; fields = nothing; shared = false; disowned = false }
    ∷ []

-- `fill` with the machine and the candy, after so many steps
abbrev pub filled_after : ℕ → NextStep
filled_after n = then_steps
    (started_call shop_terms (contract_number 3) (transaction_number 1) 2 (reference 1 ∷ reference 0 ∷ [])
    (first_notes shop_terms.table shop_store []) (first_world shop_store 10))
    (steps shop_terms n)

-- what is noted of a place: of an owner, whether states 0 and 1 are among those in which the object may be
abbrev pub told_permission : Permission → Option (Bool × Bool)
told_permission (owned states) = Some (states 0, states 1)
told_permission shared = None
told_permission unowned = None

-- what is noted of the slots 1 and 2 of a frame
abbrev pub told_slots : SlotCells → List (Option (Bool × Bool))
told_slots slots = told_permission (permission_in (slots 1)) ∷ told_permission (permission_in (slots 2)) ∷ []

-- what is told of a configuration: of the innermost frame, and of those that wait
pub record ToldNotes : Type 0 where
  pub innermost : List (Option (Bool × Bool))
  pub waiting : List (List (Option (Bool × Bool)))

-- what is noted where steps lead
abbrev pub told_notes : NextStep → Option ToldNotes
told_notes (goes c) = Some (record {
  innermost = told_slots c.frame.slots;
  waiting = map (λ (h : Waiting). told_slots h.frame.slots) c.stack;
})
told_notes (ended result w) = None
told_notes (aborted cause s) = None
told_notes stuck = None
