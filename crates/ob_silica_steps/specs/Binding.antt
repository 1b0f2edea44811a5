-- How a call hands its receiver and its arguments over (this project's own).
use Rattle.std.specs.Prelude.{ℕ, suc, List, [], ◌∷◌, ◌++◌, Some, if◌then◌else◌}
use Rattle.ob_perm.specs.Permissions.{owns}
use Rattle.ob_perm.specs.Masks.{permission_of}
use Rattle.ob_table.specs.Tables.{ClassTable}
use Rattle.ob_table.specs.declared.contract.ResolvedType.{ResolvedType}
use Rattle.ob_table_spec.specs.WellFormed.{kind_of_resolved}
use Rattle.ob_heap_spec.specs.Values.{Value, nothing}
use Rattle.ob_silica_steps.specs.Cells.{Cell, cell}
use Rattle.ob_silica_places.specs.Known.{Known, permission_of_type, at}
use Rattle.ob_silica_places.specs.Places.{Location, slot, field}
use Rattle.ob_silica_steps.specs.Configurations.{SlotCells, Loan, NextStep, stuck}
use Rattle.ob_silica_steps.specs.Here.{Here, read, hand, if_there}
use Rattle.ob_silica_places.specs.Converting.{converted}
use Rattle.ob_silica_places.specs.Parameters.{Parameter}

-- the cell that a parameter gets
abbrev pub bound_cell : ResolvedType → Value → Cell
bound_cell of value = cell value (kind_of_resolved of) (permission_of_type of)

-- what is bound of a call so far: what its caller is left with, the callee's slots, and what is lent
pub record Bound : Type 0 where
  pub from : Here
  pub slots : SlotCells
  pub loans : List Loan

-- nothing is bound
abbrev pub unbound : Here → Bound
unbound h = record { from = h; slots = nothing; loans = [] }

-- what is given to an owner is lent up to the return, and then the place has the exit, said for its own contract
abbrev pub loan_of : ClassTable → Location → ℕ → Parameter → Known → List Loan
loan_of table place k p note =
    if owns (permission_of_type p.of)
    then record {
      place = place;
      param = k;
      exit = converted table (kind_of_resolved p.of) note.kind (permission_of p.exit);
    } ∷ []
    else []

-- a place with this cell is handed over to one parameter
abbrev pub bind_one : ClassTable → Bound → Location → Cell → ℕ → Parameter → Bound
bind_one table b place c k p = record {
  from = hand p.of place c b.from;
  slots = at b.slots k (Some (bound_cell p.of c.value));
  loans = b.loans ++ loan_of table place k p c.note;
}

-- places are handed over, one after the other, to parameters from this number on; there are as many of both
abbrev pub bind_all : ClassTable → Bound → List Location → ℕ → List Parameter → (Bound → NextStep) → NextStep
bind_all table b [] k [] go = go b
bind_all table b [] k (p ∷ ps) go = stuck
bind_all table b (place ∷ places) k [] go = stuck
bind_all table b (place ∷ places) k (p ∷ ps) go =
    if_there (read table b.from place) (λ c. bind_all table (bind_one table b place c k p) places (suc k) ps go)

-- a loan more, if its place is a slot
abbrev pub if_slot : Location → Loan → List Loan → List Loan
if_slot (slot k) loan loans = loan ∷ loans
if_slot (field k) loan loans = loans

-- the loans of slots alone
abbrev pub slot_loans : List Loan → List Loan
slot_loans [] = []
slot_loans (loan ∷ loans) = if_slot loan.place loan (slot_loans loans)

-- what is bound, where fields aren't lent: a call on `this` gives them back as it declares them
abbrev pub without_field_loans : Bound → Bound
without_field_loans b = record { from = b.from; slots = b.slots; loans = slot_loans b.loans }
