-- In each configuration of a run owners are in their states.
use Rattle.std.proofs.Common.{◌≡◌, ℕ, Bool, true, false, List, [], ◌∷◌, Option, Some, refl, subst}
use Rattle.std.specs.Prelude.{if◌then◌else◌, option_map}
use Rattle.ob_base.specs.declared.fault.Span.{Span}
use Rattle.ob_table.specs.Tables.{ClassTable, signature_of}
use Rattle.ob_table.specs.declared.contract.Signature.{Signature}
use Rattle.ob_heap_spec.specs.Objects.{Object}
use Rattle.ob_silica.specs.Terms.{return_form, SilicaTerms, and_term}
use Rattle.ob_silica.specs.declared.place.Operand.{Operand}
use Rattle.ob_silica_places.specs.Places.{located}
use Rattle.ob_silica_steps.specs.Cells.{Cell}
use Rattle.ob_silica_steps.specs.Configurations.{SilicaProgram, SilicaFrame, Rest, Waiting, runs, Configuration, NextStep, stuck}
use Rattle.ob_silica_steps.specs.Here.{if_there}
use Rattle.ob_silica_steps.specs.Returning.{exits_are_within, gives_result}
use Rattle.ob_silica_steps.specs.Steps.{control_step, step}
use Rattle.ob_coherent_spec.specs.Coherent.{Beginning, Holds, IsCoherent, running, leaving, returning, StepsSo}
use Rattle.ob_coherent_spec.specs.Counting.{field_cell}
use Rattle.ob_coherent_spec.specs.Remaining.{BodyParts}
use Rattle.ob_coherent_spec.specs.Standing.{AllStand}
use Rattle.ob_coherent_spec.specs.Waiting.{AllWait}
use Rattle.ob_soundness_laws.specs.Running.{StepsKeep}
use Rattle.ob_soundness_laws.specs.Requests.{entry_lock, beginning_of, started, BeginsSo, OwnsWithin, AllOwnWithin, MeetsStates, RunsMeetStates}
use Rattle.ob_soundness_laws.proofs.Many.{then_keep}

slots_within : (table : ClassTable) (objects : List Object) (cells : ℕ → Option Cell) → AllStand table objects cells → (k : ℕ)
    → OwnsWithin table objects (cells k)
slots_within table objects cells stand k x a set is = (stand k x set).states a is

waiting_within : (table : ClassTable) (N : ℕ → Type 0) (c : Configuration) (callee : SilicaFrame) (called : BodyParts) (above : List ℕ)
    (tests : ℕ → ℕ) (hs : List Waiting) → AllWait table N c callee called above tests hs → AllOwnWithin table c.world.objects hs
waiting_within table N c callee called above tests [] w = tt
waiting_within table N c callee called above tests (h ∷ hs) w = (
  slots_within table c.world.objects h.frame.slots w.0.cells,
  waiting_within table N c h.frame w.0.parts _ _ hs w.1,
)

exits_hold : (table : ClassTable) (entry : Option ℕ) (beginning : Beginning) (b : Bool) (x : NextStep)
    → StepsSo table entry beginning (if b then x else stuck) → b ≡ true
exits_hold table entry beginning true x k = refl
exits_hold table entry beginning false x k = absurd k

-- a return isn't stuck, so its exits hold
exits_within : (program : SilicaProgram) (entry : Option ℕ) (beginning : Beginning) (c : Configuration)
    → StepsSo program.table entry beginning (step program c) → (value : Option Operand) (span : Span) (rest : SilicaTerms)
    (outer : List Rest) (s : Signature) → c.control ≡ runs (and_term (return_form value) span rest) outer
    → signature_of program.table c.frame.contract c.frame.tx ≡ Some s → exits_are_within program.table c s ≡ true
exits_within program entry beginning c k value span rest outer s so found =
    exits_hold program.table entry beginning (exits_are_within program.table c s)
    (gives_result program s s.result (option_map located value) outer c)
    (subst (λ z. StepsSo program.table entry beginning (if_there z (λ s. if exits_are_within program.table c s then gives_result program s s.result
    (option_map located value) outer c else stuck))) found
    (subst (λ z. StepsSo program.table entry beginning (control_step program z c)) so k))

whole_meets : (program : SilicaProgram) (entry : Option ℕ) (beginning : Beginning) (c : Configuration) → Holds program.table entry beginning c
    → StepsSo program.table entry beginning (step program c) → MeetsStates program.table c
whole_meets program entry beginning c k next = record {
  slots = slots_within program.table c.world.objects c.frame.slots k.slots;
  waiting = waiting_within program.table _ c c.frame k.parts _ _ c.stack k.waiting;
  fields = λ n. slots_within program.table c.world.objects (field_cell c.notes c.world.objects n) (k.fields n);
  exits = exits_within program entry beginning c next;
}

coherent_meets : (program : SilicaProgram) (entry : Option ℕ) (beginning : Beginning) (c : Configuration)
    → IsCoherent program.table entry beginning c → StepsSo program.table entry beginning (step program c) → MeetsStates program.table c
coherent_meets program entry beginning c (running k) next = whole_meets program entry beginning c k.whole next
coherent_meets program entry beginning c (leaving k) next = whole_meets program entry beginning c k.whole next
coherent_meets program entry beginning c (returning k) next = whole_meets program entry beginning c k.whole next

pub runs_meet_states : StepsKeep → BeginsSo → RunsMeetStates
runs_meet_states keep begins program content fuel e n c checked rests entered is =
    let k : IsCoherent program.table (entry_lock e.receiver) (beginning_of content e) c =
    subst (StepsSo program.table (entry_lock e.receiver) (beginning_of content e)) is
    (then_keep keep program checked (entry_lock e.receiver) (beginning_of content e) n (started program content fuel e)
    (begins program content fuel e checked rests entered)) in
    coherent_meets program (entry_lock e.receiver) (beginning_of content e) c k
    (keep program (entry_lock e.receiver) (beginning_of content e) c checked k)
