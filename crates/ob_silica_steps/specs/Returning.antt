-- How a body ends: in silent steps its result is taken, its tests end, what was lent goes back, and its caller goes
-- on (this project's own).
use Rattle.std.specs.Prelude.{ℕ, Bool, List, [], ◌∷◌, map, Option, Some, None, option_map, if◌then◌else◌}
use Rattle.ob_perm.specs.Permissions.{unowned}
use Rattle.ob_table.specs.Tables.{ClassTable, contract_at, signature_of}
use Rattle.ob_table.specs.declared.contract.ResolvedType.{ResolvedType}
use Rattle.ob_table.specs.declared.contract.ResolvedType.TheVariants.{Reference as TypedReference}
use Rattle.ob_table.specs.declared.contract.Signature.{Signature}
use Rattle.ob_heap_spec.specs.Worlds.{World}
use Rattle.ob_heap_spec.specs.Marks.{leave}
use Rattle.ob_heap_spec.specs.GoingWrong.{is_within, type_at_exit, is_finished}
use Rattle.ob_silica_steps.specs.Cells.{Cell, noted, value_in}
use Rattle.ob_silica_places.specs.Places.{Location, this}
use Rattle.ob_silica_steps.specs.Configurations.{SilicaProgram, SlotCells, How, by_receiver, by_this, by_new, Rest, Loan, Waiting, runs, leaves, Configuration, NextStep, goes, ended, stuck}
use Rattle.ob_silica_steps.specs.Here.{Here, here, goes_to, if_there, self_of, self, read, set_permission, hand}
use Rattle.ob_silica_places.specs.Known.{at}
use Rattle.ob_silica_steps.specs.Binding.{bound_cell}
use Rattle.ob_silica_places.specs.Parameters.{Parameter, all_parameters}
use Rattle.ob_silica_steps.specs.Entering.{are_within}
use Rattle.ob_silica_steps.specs.Testing.{end_branch}

-- Whether a body may end so.

-- a parameter at the exit
abbrev pub at_exit : Parameter → Parameter
at_exit p = record { of = type_at_exit p.of p.exit; exit = p.exit }

-- whether the object of each owning exit is in one of the declared states
abbrev pub exits_are_within : ClassTable → Configuration → Signature → Bool
exits_are_within table c s =
    are_within table c.world.objects c.frame.slots 0 (map at_exit (all_parameters c.frame.contract s))

-- The return.

-- the frame leaves with this result
abbrev pub leaves_with : Configuration → Here → Option Cell → List Rest → NextStep
leaves_with c h result outer = goes_to c h (leaves result outer)

-- a constructor gives `this` as it declares, whose object is finished
abbrev pub gives_this : SilicaProgram → Signature → List Rest → Configuration → NextStep
gives_this program s outer c =
    if_there (contract_at program.table c.frame.contract) (λ own. if_there (self (here c)) (λ o.
    if_there (read program.table (here c) this) (λ x.
    if is_finished own o
    then leaves_with c (hand (TypedReference c.frame.contract s.exit) this x (here c))
    (Some (bound_cell (TypedReference c.frame.contract s.exit) x.value)) outer
    else stuck)))

-- a value is given as the result is declared; where an owner is wanted, the object is in one of the states
abbrev pub gives_value : SilicaProgram → ResolvedType → Location → List Rest → Configuration → NextStep
gives_value program of place outer c = if_there (read program.table (here c) place) (λ x.
    if is_within program.table c.world.objects of x.value
    then leaves_with c (hand of place x (here c)) (Some (bound_cell of x.value)) outer
    else stuck)

-- a return without a value: a constructor gives `this`
abbrev pub gives_none : How → SilicaProgram → Signature → List Rest → Configuration → NextStep
gives_none by_receiver program s outer c = leaves_with c (here c) None outer
gives_none by_this program s outer c = leaves_with c (here c) None outer
gives_none by_new program s outer c = gives_this program s outer c

-- the result is taken
abbrev pub gives_result : SilicaProgram → Signature → Option ResolvedType → Option Location → List Rest → Configuration → NextStep
gives_result program s result None outer c = gives_none c.frame.how program s outer c
gives_result program s None (Some place) outer c =
    if_there (read program.table (here c) place) (λ x. leaves_with c (here c) (Some (noted unowned x)) outer)
gives_result program s (Some of) (Some place) outer c = gives_value program of place outer c

-- the step of a return: the objects of owning exits are in the declared states
abbrev pub return_step : SilicaProgram → Option Location → List Rest → Configuration → NextStep
return_step program place outer c = if_there (signature_of program.table c.frame.contract c.frame.tx) (λ s.
    if exits_are_within program.table c s then gives_result program s s.result place outer c else stuck)

-- After it.

-- the receiver of a call has no longer a transaction in progress
abbrev pub leaves_progress : How → ℕ → World → World
leaves_progress by_receiver n w = leave n w
leaves_progress by_this n w = w
leaves_progress by_new n w = w

-- the world when a frame is left
abbrev pub left_world : Configuration → World
left_world c = leaves_progress c.frame.how (self_of c.frame.slots) c.world

-- the result is set
abbrev pub with_result : Option ℕ → Option Cell → SlotCells → SlotCells
with_result None result slots = slots
with_result (Some k) result slots = at slots k result

-- the frame that waits goes on
abbrev pub resumes : Waiting → Option Cell → List Waiting → Configuration → NextStep
resumes h result stack c = goes (record {
  frame = record h.frame { slots = with_result h.result result h.frame.slots };
  control = runs h.terms h.outer;
  stack = stack;
  notes = c.notes;
  world = left_world c;
})

-- a slot keeps its value and is Unowned
abbrev pub without_owner : ℕ → SlotCells → SlotCells
without_owner k slots = at slots k (option_map (noted unowned) (slots k))

-- what the waiting frame works on once the place of a loan has its exit
abbrev pub returned_to : Waiting → Loan → Configuration → Here
returned_to h loan c =
    set_permission loan.place loan.exit (record { slots = h.frame.slots; notes = c.notes; world = c.world })

-- the step in which a loan goes back: its place has the exit, and the parameter that had it is Unowned
abbrev pub unlends : Option Cell → Waiting → Loan → List Loan → List Waiting → Configuration → NextStep
unlends result h loan loans stack c = goes (record {
  frame = record c.frame { slots = without_owner loan.param c.frame.slots };
  control = leaves result [];
  stack = record h { frame = record h.frame { slots = (returned_to h loan c).slots }; loans = loans } ∷ stack;
  notes = (returned_to h loan c).notes;
  world = c.world;
})

-- one loan after the other goes back, and then the frame that waits goes on
abbrev pub gives_back : List Loan → Option Cell → Waiting → List Waiting → Configuration → NextStep
gives_back [] result h stack c = resumes h result stack c
gives_back (loan ∷ loans) result h stack c = unlends result h loan loans stack c

-- control goes back to the frame that waits, if there is one; else the run ends
abbrev pub goes_back : List Waiting → Option Cell → Configuration → NextStep
goes_back [] result c = ended (value_in result) (left_world c)
goes_back (h ∷ stack) result c = gives_back h.loans result h stack c

-- the step of a frame that leaves: first the lists around it end
abbrev pub leave_step : Option Cell → List Rest → Configuration → NextStep
leave_step result [] c = goes_back c.stack result c
leave_step result (r ∷ outer) c = goes_to c (end_branch r.ends (here c)) (leaves result outer)
