-- The steps of a Loop: a turn begins, and its first part ends.
use Rattle.std.proofs.Common.{◌≡◌, ℕ, false, List, ◌∷◌, Option, refl, sym, ◌∙◌, subst, arith}
use Rattle.ob_base.specs.declared.fault.Span.{Span}
use Rattle.ob_table.specs.declared.seen.Kind.TheVariants.{Bool as BoolKind}
use Rattle.ob_silica.specs.Terms.{loop_form, SilicaTerms, no_terms, and_term}
use Rattle.ob_silica.specs.declared.place.Operand.{Operand}
use Rattle.ob_silica_places.specs.Places.{located}
use Rattle.ob_silica_steps.specs.Configurations.{SilicaProgram, Rest, plain_end, loop_end, runs, Configuration}
use Rattle.ob_silica_steps.specs.Here.{here, if_there, goes_to}
use Rattle.ob_silica_steps.specs.Straight.{with_truth}
use Rattle.ob_silica_steps.specs.Steps.{act, end_step}
use Rattle.ob_silica_formed.specs.Holdings.{after_terms, at_head, terms_end}
use Rattle.ob_flow_spec.specs.Looping.{head_context}
use Rattle.ob_flow_spec.specs.Contexts.{static_of}
use Rattle.ob_coherent_spec.specs.Standing.{IsOfKind}
use Rattle.ob_coherent_spec.specs.Saying.{every}
use Rattle.ob_coherent_spec.specs.Remaining.{IsCheckedProgram, body_of}
use Rattle.ob_coherent_spec.specs.Coherent.{Beginning, IsRunning, running, StepsSo}
use Rattle.ob_places_laws.proofs.Tables.{there_is}
use Rattle.ob_soundness_laws.proofs.places.Handing.{sits_holding}
use Rattle.ob_soundness_laws.proofs.remaining.Remaining.{first_passes, GoesOn}
use Rattle.ob_soundness_laws.proofs.remaining.Following.{held_too}
use Rattle.ob_soundness_laws.proofs.remaining.Branches.{holds_joined_first}
use Rattle.ob_soundness_laws.proofs.remaining.Looping.{leads_head, loop_first, loop_body}
use Rattle.ob_soundness_laws.proofs.tests.Conditions.{bool_serves, by_truth}
use Rattle.ob_soundness_laws.proofs.tests.Finding.{found_at, reads_it, stands_at}
use Rattle.ob_soundness_laws.proofs.tests.Locking.{sits_leads}
use Rattle.ob_soundness_laws.proofs.tests.Operands.{kind_found}
use Rattle.ob_soundness_laws.proofs.tests.Unchanged.{remains_so, opens_so, unchanged_keeps}

-- A turn of a Loop begins.
pub loop_keeps : (program : SilicaProgram) (entry : Option ℕ) (beginning : Beginning) (c : Configuration) (first : SilicaTerms)
    (a : Operand) (body : SilicaTerms) (end span : Span) (rest : SilicaTerms) (outer : List Rest) → IsCheckedProgram program
    → IsRunning program.table entry beginning c
    → c.control ≡ runs (and_term (loop_form first a body end) span rest) outer
    → StepsSo program.table entry beginning (act program (loop_form first a body end) rest outer c)
loop_keeps program entry beginning c first a body end span rest outer checked k so =
    let b = body_of program.table c.frame k.whole.parts in
    let r = remains_so program.table entry beginning c k (and_term (loop_form first a body end) span rest) outer so in
    let p = first_passes b k.holdings k.context (loop_form first a body end) span rest outer r in
    running (unchanged_keeps program.table entry beginning c k (and_term (loop_form first a body end) span rest) outer so checked.table
    c.world.reads first (record { terms = rest; ends = loop_end first a body end } ∷ outer)
    (tt, tt, opens_so program.table entry beginning c k (and_term (loop_form first a body end) span rest) outer so)
    (record { locks = λ n. omega arith; tests = λ n. omega arith }) (head_context b first body k.context)
    (sits_leads program.table checked.table c.frame k.whole.parts (here c) k.context (head_context b first body k.context)
    (sits_holding program.table entry beginning c k) (leads_head b first body k.context))
    (at_head (static_of b) first body k.holdings)
    (held_too k.holdings (at_head (static_of b) first body k.holdings) c.frame.slots every
    (holds_joined_first false (terms_end body) k.holdings (after_terms (static_of b) body (after_terms (static_of b) first k.holdings)) refl) k.held)
    (loop_first b k.holdings k.context first a body end span rest outer r p.mid p.derives p.passes))

-- The first part of a Loop ends.
pub turn_keeps : (program : SilicaProgram) (entry : Option ℕ) (beginning : Beginning) (c : Configuration) (first : SilicaTerms)
    (a : Operand) (body : SilicaTerms) (end : Span) (rest : SilicaTerms) (outer : List Rest) → IsCheckedProgram program
    → (k : IsRunning program.table entry beginning c)
    → c.control ≡ runs no_terms (record { terms = rest; ends = loop_end first a body end } ∷ outer)
    → GoesOn (body_of program.table c.frame k.whole.parts) k.holdings k.context (record { terms = rest; ends = loop_end first a body end }) outer
    → StepsSo program.table entry beginning (end_step program (loop_end first a body end) rest outer c)
turn_keeps program entry beginning c first a body end rest outer checked k so on =
    let b = body_of program.table c.frame k.whole.parts in
    let lists : List Rest = record { terms = rest; ends = loop_end first a body end } ∷ outer in
    let more : List Rest = record { terms = and_term (loop_form first a body end) end rest; ends = plain_end } ∷ outer in
    let r = remains_so program.table entry beginning c k no_terms lists so in
    let opens = (opens_so program.table entry beginning c k no_terms lists so).2 in
    let u = found_at program.table checked.table entry beginning c k (located a) on.turn.can.readable in
    let kind = there_is _ _ on.turn.kind in
    let noted : u.cell.note.kind ≡ BoolKind = kind_found program.table checked.table entry beginning c k a.place u.cell
    kind.0 u.is kind.1 ∙ bool_serves program.table kind.0 kind.2 in
    let stands = stands_at program.table checked.table entry beginning c k (located a) u.cell u.is in
    subst (λ x. StepsSo program.table entry beginning (if_there x (λ x. with_truth x.value
    (goes_to c (here c) (runs body more)) (goes_to c (here c) (runs rest outer)))))
    (sym (reads_it program.table checked.table entry beginning c k (located a) u.cell u.is))
    (by_truth program.table c.world.objects u.cell.value (StepsSo program.table entry beginning)
    (goes_to c (here c) (runs body more)) (goes_to c (here c) (runs rest outer))
    (subst (λ d. IsOfKind program.table c.world.objects d u.cell.value) noted stands.kind)
    (running (unchanged_keeps program.table entry beginning c k no_terms lists so checked.table c.world.reads body more (tt, tt, opens)
    (record { locks = λ n. omega arith; tests = λ n. omega arith }) k.context k.says k.holdings k.held
    (loop_body b k.holdings k.context first a body end rest outer r.itself on.turn)))
    (running (unchanged_keeps program.table entry beginning c k no_terms lists so checked.table c.world.reads rest outer opens
    (record { locks = λ n. omega arith; tests = λ n. omega arith }) on.context
    (sits_leads program.table checked.table c.frame k.whole.parts (here c) k.context on.context
    (sits_holding program.table entry beginning c k) on.leads)
    on.holdings (held_too k.holdings on.holdings c.frame.slots every on.holds k.held) on.remains)))
