-- The step of a condition.
use Rattle.std.proofs.Common.{◌≡◌, ℕ, true, false, List, ◌∷◌, Option, refl, sym, ◌∙◌, subst}
use Rattle.ob_base.specs.declared.fault.Span.{Span}
use Rattle.ob_table.specs.Tables.{ClassTable}
use Rattle.ob_table.specs.declared.seen.Kind.{Kind}
use Rattle.ob_table.specs.declared.seen.Kind.TheVariants.{Int, Bool as BoolKind, Text, Reference}
use Rattle.ob_table_spec.specs.WellFormed.{serves_as}
use Rattle.ob_heap_spec.specs.Values.{Value, int_value, bool_value, text_value, reference}
use Rattle.ob_heap_spec.specs.Objects.{Object}
use Rattle.ob_silica.specs.Terms.{if_form, SilicaTerms, and_term}
use Rattle.ob_silica.specs.declared.place.Operand.{Operand}
use Rattle.ob_silica_places.specs.Places.{located}
use Rattle.ob_silica_steps.specs.Configurations.{SilicaProgram, Rest, plain_end, runs, Configuration, NextStep}
use Rattle.ob_silica_steps.specs.Here.{here, if_there, goes_to}
use Rattle.ob_silica_steps.specs.Straight.{with_truth}
use Rattle.ob_silica_steps.specs.Steps.{act}
use Rattle.ob_coherent_spec.specs.Standing.{IsOfKind}
use Rattle.ob_coherent_spec.specs.Remaining.{IsCheckedProgram, body_of}
use Rattle.ob_coherent_spec.specs.Coherent.{Beginning, IsRunning, running, StepsSo}
use Rattle.ob_places_laws.proofs.Tables.{there_is}
use Rattle.ob_soundness_laws.proofs.remaining.Remaining.{first_formed, first_passes}
use Rattle.ob_soundness_laws.proofs.remaining.Branches.{if_first, if_second}
use Rattle.ob_soundness_laws.proofs.tests.Finding.{found_at, reads_it, stands_at}
use Rattle.ob_soundness_laws.proofs.tests.Operands.{kind_found}
use Rattle.ob_soundness_laws.proofs.tests.Unchanged.{remains_so, into_plain}

-- what serves as a `bool` is one
pub bool_serves : (table : ClassTable) (kind : Kind) → serves_as table BoolKind kind ≡ true → kind ≡ BoolKind
bool_serves table Int e = absurd (cc)
bool_serves table BoolKind e = refl
bool_serves table Text e = absurd (cc)
bool_serves table (Reference id) e = absurd (cc)

-- what follows a `bool`
pub by_truth : (table : ClassTable) (objects : List Object) (v : Value) (Q : NextStep → Type 0) (x y : NextStep)
    → IsOfKind table objects BoolKind v → Q x → Q y → Q (with_truth v x y)
by_truth table objects (bool_value true) Q x y is p q = p
by_truth table objects (bool_value false) Q x y is p q = q
by_truth table objects (int_value z) Q x y is p q = absurd is
by_truth table objects (text_value s) Q x y is p q = absurd is
by_truth table objects (reference n) Q x y is p q = absurd is

-- A condition leads into one of its branches.
pub if_keeps : (program : SilicaProgram) (entry : Option ℕ) (beginning : Beginning) (c : Configuration) (a : Operand)
    (branch other : SilicaTerms)
    (join span : Span) (rest : SilicaTerms) (outer : List Rest) → IsCheckedProgram program
    → IsRunning program.table entry beginning c
    → c.control ≡ runs (and_term (if_form a branch other join) span rest) outer
    → StepsSo program.table entry beginning (act program (if_form a branch other join) rest outer c)
if_keeps program entry beginning c a branch other join span rest outer checked k so =
    let b = body_of program.table c.frame k.whole.parts in
    let r = remains_so program.table entry beginning c k (and_term (if_form a branch other join) span rest) outer so in
    let formed = first_formed b k.holdings k.context (if_form a branch other join) span rest outer r in
    let first = first_passes b k.holdings k.context (if_form a branch other join) span rest outer r in
    let u = found_at program.table checked.table entry beginning c k (located a) first.passes.can.readable in
    let kind = there_is _ _ formed.kinds in
    let noted : u.cell.note.kind ≡ BoolKind = kind_found program.table checked.table entry beginning c k a.place u.cell
    kind.0 u.is kind.1 ∙ bool_serves program.table kind.0 kind.2 in
    let stands = stands_at program.table checked.table entry beginning c k (located a) u.cell u.is in
    subst (λ x. StepsSo program.table entry beginning (if_there x (λ x. with_truth x.value
    (goes_to c (here c) (runs branch (record { terms = rest; ends = plain_end } ∷ outer)))
    (goes_to c (here c) (runs other (record { terms = rest; ends = plain_end } ∷ outer))))))
    (sym (reads_it program.table checked.table entry beginning c k (located a) u.cell u.is))
    (by_truth program.table c.world.objects u.cell.value (StepsSo program.table entry beginning)
    (goes_to c (here c) (runs branch (record { terms = rest; ends = plain_end } ∷ outer)))
    (goes_to c (here c) (runs other (record { terms = rest; ends = plain_end } ∷ outer)))
    (subst (λ d. IsOfKind program.table c.world.objects d u.cell.value) noted stands.kind)
    (running (into_plain program.table entry beginning c k
    (and_term (if_form a branch other join) span rest) outer so checked.table c.world.reads branch rest
    (if_first b k.holdings k.context a branch other join span rest outer first.mid r first.derives first.passes)))
    (running (into_plain program.table entry beginning c k
    (and_term (if_form a branch other join) span rest) outer so checked.table c.world.reads other rest
    (if_second b k.holdings k.context a branch other join span rest outer first.mid r first.derives first.passes))))
