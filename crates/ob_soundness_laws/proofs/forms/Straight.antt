-- Forms that set a slot of the frame's own to a value that is no reference, and forms that change no place.
use Rattle.std.proofs.Common.{◌≡◌, ◌≢◌, ℕ, zero, suc, ◌+◌, ◌<◌, ◌≤◌, false, List, length, Option, Some, None, Ok, refl, sym, ap, ◌∙◌, subst, arith, inl}
use Rattle.std.specs.Prelude.{max}
use Rattle.std.proofs.lemmas.Bool.{both_ways}
use Rattle.std.proofs.lemmas.Option.{same_Some}
use Rattle.ob_base.specs.declared.fault.Span.{Span}
use Rattle.ob_perm.specs.Permissions.{owns, unowned}
use Rattle.ob_table.specs.Tables.{ClassTable}
use Rattle.ob_table.specs.declared.operator.BinaryOperator.TheVariants.{Add, Sub, Mul, Div, Rem, Equal, NotEqual, Less, LessEqual, Greater, GreaterEqual}
use Rattle.ob_table.specs.declared.seen.Kind.{Kind}
use Rattle.ob_table.specs.declared.seen.Kind.TheVariants.{Int, Text}
use Rattle.ob_table_spec.specs.WellFormed.{kind_of_unary, is_reference}
use Rattle.ob_heap_spec.specs.Values.{Value, int_value, bool_value, text_value, reference}
use Rattle.ob_heap_spec.specs.Objects.{Object}
use Rattle.ob_heap_spec.specs.Operations.{Operated, operated, overflows, other_kinds}
use Rattle.ob_heap_spec.specs.Worlds.{by_revert, with_unit_taken}
use Rattle.ob_silica.specs.Slots.{slots_of_form}
use Rattle.ob_silica.specs.Terms.{SilicaForm, SilicaTerms, unit_form, const_form, op_form, copy_form, assert_form, drop_form, revert_form, bad_row_form, and_term}
use Rattle.ob_silica.specs.declared.place.Constant.{Constant}
use Rattle.ob_silica.specs.declared.place.Constant.TheVariants as constant
use Rattle.ob_silica.specs.declared.place.Operand.{Operand}
use Rattle.ob_silica.specs.declared.place.Place.TheVariants.{Slot}
use Rattle.ob_silica.specs.declared.term.SilicaOperator.{SilicaOperator}
use Rattle.ob_silica.specs.declared.term.SilicaOperator.TheVariants.{Unary, Binary}
use Rattle.ob_base.specs.declared.permission.Perm.{Perm}
use Rattle.ob_silica_places.specs.Known.{known, kind_of_constant, kind_of_operator}
use Rattle.ob_silica_places.specs.Places.{slot, field, located}
use Rattle.ob_silica_steps.specs.Cells.{Cell, plain_cell, constant_cell, value_of_constant}
use Rattle.ob_silica_steps.specs.Configurations.{SilicaProgram, Rest, runs, Configuration, NextStep, abort_step}
use Rattle.ob_silica_steps.specs.Here.{here, self_of, goes_to, with_fuel_left, read, set_slot}
use Rattle.ob_silica_steps.specs.Straight.{operate, with_operated, with_text}
use Rattle.ob_silica_steps.specs.Steps.{act}
use Rattle.ob_silica_formed.specs.Holdings.{held, with_slot, kind_of_operand, after_form}
use Rattle.ob_silica_formed.specs.Points.{IsConstant, HasKind, HaveOperands}
use Rattle.ob_flow_spec.specs.Contexts.{BodyFrame, Context, put, static_of}
use Rattle.ob_flow_spec.specs.Deriving.{derive}
use Rattle.ob_flow_spec.specs.Uses.{kind_known}
use Rattle.ob_places_laws.proofs.Tables.{there_is}
use Rattle.ob_flow_laws.specs.Uses.{CanRead}
use Rattle.ob_coherent_spec.specs.Runs.{tested_places}
use Rattle.ob_coherent_spec.specs.Standing.{Stands, IsOfKind, NeedsOwner}
use Rattle.ob_coherent_spec.specs.Saying.{SaysOf}
use Rattle.ob_coherent_spec.specs.Remaining.{IsCheckedProgram, HoldsSo, body_of, IsWellFormedForm, Remains}
use Rattle.ob_coherent_spec.specs.Coherent.{Beginning, IsRunning, IsCoherent, running, StepsSo}
use Rattle.ob_soundness_laws.specs.frames.Steps.{moved}
use Rattle.ob_soundness_laws.specs.places.Placed.{Found, Stays, cell_at}
use Rattle.ob_soundness_laws.proofs.places.Keeping.{OpensKept}
use Rattle.ob_soundness_laws.proofs.remaining.Remaining.{IsFirst, first_formed, first_slots, first_passes, rest_remains}
use Rattle.ob_soundness_laws.proofs.remaining.Knowing.{KnowsIf, form_knows}
use Rattle.ob_soundness_laws.proofs.tests.Finding.{found_at, reads_it, stands_at}
use Rattle.ob_soundness_laws.proofs.tests.Operands.{kind_found}
use Rattle.ob_soundness_laws.proofs.tests.Unchanged.{remains_so, opens_so, unchanged_keeps}
use Rattle.ob_soundness_laws.proofs.forms.Amid.{form_done}
use Rattle.ob_soundness_laws.proofs.forms.Slots.{plain_untested, plain_none, plain_value, no_asset, held_written, held_plain, holds_kind, own_slot}
use Rattle.ob_soundness_laws.proofs.forms.Operations.{Gives, plain_serves, unary_plain, binary_plain, unary_given, equal_given, not_equal_given, binary_given}

-- Cells of values that are no references.

pub plain_stands : (table : ClassTable) (objects : List Object) (v : Value) (kind : Kind)
    → IsOfKind table objects kind v
    → Stands table objects (plain_cell v kind)
plain_stands table objects v kind is = record { kind = is; marked = λ e. absurd (cc); states = λ a e. absurd (cc) }

pub plain_says : (N : ℕ → Type 0) (v : Value) (kind l : Kind) → kind ≡ l
    → SaysOf N (Some (known l unowned)) (Some (plain_cell v kind))
plain_says N v kind l e = record { known = (e, tt); owner = λ n needs has. absurd (omega (arith, has)) }

constant_is : (table : ClassTable) (objects : List Object) (value : Constant) → IsConstant value
    → IsOfKind table objects (kind_of_constant value) (value_of_constant value)
constant_is table objects (constant.Int z) e = e
constant_is table objects (constant.Bool b) e = tt
constant_is table objects (constant.Text bytes) e = e

constant_plain : (value : Constant) → is_reference (kind_of_constant value) ≡ false
constant_plain (constant.Int z) = refl
constant_plain (constant.Bool b) = refl
constant_plain (constant.Text bytes) = refl

operator_plain : (operator : SilicaOperator) → is_reference (kind_of_operator operator) ≡ false
operator_plain (Unary operator) = unary_plain operator
operator_plain (Binary operator) = binary_plain operator

pub bound_first : (m j n k : ℕ) → max m j ≤ k → n < m → n < k
bound_first m j n k h l = omega (arith, h, l)

pub bound_second : (m j k : ℕ) → max m j ≤ k → j ≤ k
bound_second m j k h = omega (arith, h)

module _ (program : SilicaProgram) (checked : IsCheckedProgram program) (entry : Option ℕ) (beginning : Beginning)
    (c : Configuration)
    (k : IsRunning program.table entry beginning c) where
  -- the body that the frame runs
  abbrev body : BodyFrame
  body = body_of program.table c.frame k.whole.parts

  -- What a form leaves that a frame is about to run.

  module _ (form : SilicaForm) (span : Span) (rest : SilicaTerms) (outer : List Rest)
      (so : c.control ≡ runs (and_term form span rest) outer) where
    pub left_so : Remains body k.holdings k.context (and_term form span rest) outer
    left_so = remains_so program.table entry beginning c k (and_term form span rest) outer so

    -- it is well-formed
    pub formed : IsWellFormedForm (static_of body) k.holdings form
    formed = first_formed body k.holdings k.context form span rest outer left_so

    pub few : slots_of_form form ≤ k.whole.parts.slots
    few = first_slots body k.holdings k.context form span rest outer left_so

    -- it derives
    abbrev pub first : IsFirst body k.context form span outer
    first = first_passes body k.holdings k.context form span rest outer left_so

    -- and then the rest is left
    pub after : (j : Context) → first.mid ≡ Some j
        → Remains body (after_form (static_of body) form k.holdings) j rest outer
    after j e = rest_remains body k.holdings k.context j form span rest outer left_so
        (subst (λ m. derive body (tested_places outer) form span k.context ≡ Ok m) e first.derives)
        (subst (KnowsIf body) e
        (form_knows body (tested_places outer) k.holdings form span k.context first.mid formed left_so.formed.forms.1
        first.passes k.remains.itself))

    -- A slot that holds no reference gets a value that is none.
    pub plain_slot : (n : ℕ) (v : Value) (kind l : Kind) → kind ≡ l → length k.whole.parts.signature.params < n
        → n < k.whole.parts.slots
        → (k.holdings n).refers ≡ false → IsOfKind program.table c.world.objects kind v → is_reference kind ≡ false
        → (x : Option Kind) → HoldsSo (held x) (plain_cell v kind)
        → Remains body (with_slot n (held x) k.holdings) (put k.context (slot n) (Some (known l unowned))) rest outer
        → IsCoherent program.table entry beginning (moved c (set_slot n (Some (plain_cell v kind)) (here c)) rest outer)
    plain_slot n v kind l same low inside none is plain x holds remains =
        own_slot program.table checked.table entry beginning c k n low inside (and_term form span rest) outer so
        (Some (plain_cell v kind)) (Some (known l unowned))
        (with_slot n (held x) k.holdings) rest
        (plain_untested body (here c) outer n (opens_so program.table entry beginning c k
        (and_term form span rest) outer so) was_plain)
        (λ z e. subst (Stands program.table c.world.objects) (same_Some (plain_cell v kind) z e) stands)
        (λ z e. subst (λ (w : Cell). (m : ℕ) → w.value ≢ reference m) (same_Some (plain_cell v kind) z e)
        (plain_value program.table c.world.objects (plain_cell v kind) stands plain))
        (plain_says (NeedsOwner program.table c.world.objects) v kind l same)
        (λ m needs. plain_none owns m (c.frame.slots n) was_plain)
        (held_written k.holdings c.frame.slots n x (Some (plain_cell v kind))
        (λ z e. subst (HoldsSo (held x)) (same_Some (plain_cell v kind) z e) holds) k.held)
        remains
      where
        was_plain : (z : Cell) → c.frame.slots n ≡ Some z → (m : ℕ) → z.value ≢ reference m
        was_plain = held_plain program.table c.world.objects k.holdings c.frame.slots n k.held k.whole.slots none

        stands : Stands program.table c.world.objects (plain_cell v kind)
        stands = plain_stands program.table c.world.objects v kind is

  -- The value at an operand.

  pub operand_found : (o : Operand) → CanRead body k.context (located o)
      → Found (NeedsOwner program.table c.world.objects) (k.context (located o)) (cell_at (here c) (located o))
  operand_found o can = found_at program.table checked.table entry beginning c k (located o) can

  pub operand_read : (o : Operand) (can : CanRead body k.context (located o))
      → read program.table (here c) (located o) ≡ Some (operand_found o can).cell
  operand_read o can = reads_it program.table checked.table entry beginning c k (located o) (operand_found o can).cell
      (operand_found o can).is

  pub operand_stands : (o : Operand) (can : CanRead body k.context (located o))
      → Stands program.table c.world.objects (operand_found o can).cell
  operand_stands o can = stands_at program.table checked.table entry beginning c k (located o)
      (operand_found o can).cell (operand_found o can).is

  pub operand_kind : (o : Operand) (can : CanRead body k.context (located o)) (kind : Kind)
      → kind_of_operand (static_of body) k.holdings o ≡ Some kind → (operand_found o can).cell.note.kind ≡ kind
  operand_kind o can kind e = kind_found program.table checked.table entry beginning c k o.place
      (operand_found o can).cell kind (operand_found o can).is e

  -- a value of a kind that is wanted, and that is no reference's
  pub operand_of_kind : (o : Operand) (can : CanRead body k.context (located o)) (wanted : Kind)
      → is_reference wanted ≡ false → HasKind (static_of body) k.holdings wanted o
      → IsOfKind program.table c.world.objects wanted (operand_found o can).cell.value
  operand_of_kind o can wanted plain has =
      let r = there_is _ _ has in
      subst (λ w. IsOfKind program.table c.world.objects w (operand_found o can).cell.value)
      (operand_kind o can r.0 r.1 ∙ plain_serves program.table wanted r.0 plain r.2) (operand_stands o can).kind

  -- what an operator gives of its operands
  operands_given : (operator : SilicaOperator) (a b : Operand) (x : CanRead body k.context (located a))
      (y : CanRead body k.context (located b))
      → HaveOperands (static_of body) k.holdings operator a b
      → Gives program.table c.world.objects (kind_of_operator operator)
      (operate operator (operand_found a x).cell.value (operand_found b y).cell.value)
  operands_given (Unary operator) a b x y has = unary_given program.table c.world.objects operator
      (operand_found a x).cell.value
      (operand_of_kind a x (kind_of_unary operator) (unary_plain operator) has.0)
  operands_given (Binary Equal) a b x y has = let r = there_is _ _ has in
      equal_given program.table c.world.objects r.0 _ _ r.2.0
      (subst (λ w. IsOfKind program.table c.world.objects w (operand_found a x).cell.value) (operand_kind a x r.0 r.1)
      (operand_stands a x).kind)
      (operand_of_kind b y r.0 r.2.0 r.2.1)
  operands_given (Binary NotEqual) a b x y has = let r = there_is _ _ has in
      not_equal_given program.table c.world.objects r.0 _ _ r.2.0
      (subst (λ w. IsOfKind program.table c.world.objects w (operand_found a x).cell.value) (operand_kind a x r.0 r.1)
      (operand_stands a x).kind)
      (operand_of_kind b y r.0 r.2.0 r.2.1)
  operands_given (Binary Add) a b x y has = binary_given program.table c.world.objects Add _ _
      (operand_of_kind a x Int refl has.0) (operand_of_kind b y Int refl has.1)
  operands_given (Binary Sub) a b x y has = binary_given program.table c.world.objects Sub _ _
      (operand_of_kind a x Int refl has.0) (operand_of_kind b y Int refl has.1)
  operands_given (Binary Mul) a b x y has = binary_given program.table c.world.objects Mul _ _
      (operand_of_kind a x Int refl has.0) (operand_of_kind b y Int refl has.1)
  operands_given (Binary Div) a b x y has = binary_given program.table c.world.objects Div _ _
      (operand_of_kind a x Int refl has.0) (operand_of_kind b y Int refl has.1)
  operands_given (Binary Rem) a b x y has = binary_given program.table c.world.objects Rem _ _
      (operand_of_kind a x Int refl has.0) (operand_of_kind b y Int refl has.1)
  operands_given (Binary Less) a b x y has = binary_given program.table c.world.objects Less _ _
      (operand_of_kind a x Int refl has.0) (operand_of_kind b y Int refl has.1)
  operands_given (Binary LessEqual) a b x y has = binary_given program.table c.world.objects LessEqual _ _
      (operand_of_kind a x Int refl has.0) (operand_of_kind b y Int refl has.1)
  operands_given (Binary Greater) a b x y has = binary_given program.table c.world.objects Greater _ _
      (operand_of_kind a x Int refl has.0) (operand_of_kind b y Int refl has.1)
  operands_given (Binary GreaterEqual) a b x y has =
      binary_given program.table c.world.objects GreaterEqual _ _ (operand_of_kind a x Int refl has.0)
      (operand_of_kind b y Int refl has.1)

  -- what follows an operation
  operated_so : (kind : Kind) (line : ℕ) (r : Operated) (go : Value → NextStep)
      → Gives program.table c.world.objects kind r
      → ((v : Value) → IsOfKind program.table c.world.objects kind v → StepsSo program.table entry beginning (go v))
      → StepsSo program.table entry beginning (with_operated line c.world r go)
  operated_so kind line (operated v) go given then = then v given
  operated_so kind line overflows go given then = tt
  operated_so kind line other_kinds go given then = absurd given

  text_so : (v : Value) → IsOfKind program.table c.world.objects Text v
      → StepsSo program.table entry beginning (with_text v (λ bytes. abort_step (by_revert bytes) c.world))
  text_so (text_value bytes) is = tt
  text_so (int_value z) is = absurd is
  text_so (bool_value z) is = absurd is
  text_so (reference z) is = absurd is

  -- The forms.

  module _ (span : Span) (rest : SilicaTerms) (outer : List Rest) where
    pub const_keeps : (n : ℕ) (value : Constant) → c.control ≡ runs (and_term (const_form n value) span rest) outer
        → StepsSo program.table entry beginning (act program (const_form n value) rest outer c)
    const_keeps n value so =
        let w = formed (const_form n value) span rest outer so in
        let f = few (const_form n value) span rest outer so in
        plain_slot (const_form n value) span rest outer so n (value_of_constant value) (kind_of_constant value)
        (kind_of_constant value) refl
        w.params (omega (arith, f)) w.references
        (constant_is program.table c.world.objects value w.kinds) (constant_plain value)
        (Some (kind_of_constant value)) (holds_kind (kind_of_constant value) (constant_cell value) refl)
        (after (const_form n value) span rest outer so
        (put k.context (slot n) (Some (known (kind_of_constant value) unowned)))
        (first (const_form n value) span rest outer so).passes)

    pub op_keeps : (n : ℕ) (operator : SilicaOperator) (a b : Operand) (line : ℕ)
        → c.control ≡ runs (and_term (op_form n operator a b line) span rest) outer
        → StepsSo program.table entry beginning (act program (op_form n operator a b line) rest outer c)
    op_keeps n operator a b line so =
        let form = op_form n operator a b line in
        let w = formed form span rest outer so in
        let f = few form span rest outer so in
        let p = (first form span rest outer so).passes in
        rw (operand_read a p.0.left.readable, operand_read b p.0.right.readable)
        (operated_so (kind_of_operator operator) line _ _
        (operands_given operator a b p.0.left.readable p.0.right.readable w.kinds)
        (λ v is. plain_slot form span rest outer so n v (kind_of_operator operator) (kind_of_operator operator) refl
        w.params (bound_first (n + 1) _ n k.whole.parts.slots f (omega arith)) w.references is (operator_plain operator)
        (Some (kind_of_operator operator)) (holds_kind (kind_of_operator operator)
        (plain_cell v (kind_of_operator operator)) refl)
        (after form span rest outer so (put k.context (slot n) (Some (known (kind_of_operator operator) unowned)))
        p.1)))

    pub copy_slot_keeps : (n : ℕ) (from : Operand)
        → c.control ≡ runs (and_term (copy_form (Slot n) from) span rest) outer
        → StepsSo program.table entry beginning (act program (copy_form (Slot n) from) rest outer c)
    copy_slot_keeps n from so =
        let form = copy_form (Slot n) from in
        let w = formed form span rest outer so in
        let f = few form span rest outer so in
        let p = (first form span rest outer so).passes in
        let u = operand_found from p.0.usable.readable in
        let r = there_is _ _ w.kinds.0 in
        let is = operand_kind from p.0.usable.readable r.0 r.1 in
        rw (operand_read from p.0.usable.readable)
        (plain_slot form span rest outer so n u.cell.value u.cell.note.kind (kind_known (k.context (located from)))
        (u.kind ∙ sym (ap kind_known u.told))
        w.params (bound_first (n + 1) _ n k.whole.parts.slots f (omega arith)) w.references
        (operand_stands from p.0.usable.readable).kind (ap is_reference is ∙ r.2)
        (kind_of_operand (static_of body) k.holdings from)
        (subst (λ z. HoldsSo (held z) (plain_cell u.cell.value u.cell.note.kind)) (sym r.1)
        (holds_kind r.0 (plain_cell u.cell.value u.cell.note.kind) is))
        (after form span rest outer so (put k.context (slot n)
        (Some (known (kind_known (k.context (located from))) unowned))) p.1))

    pub drop_keeps : (n : ℕ) → c.control ≡ runs (and_term (drop_form n) span rest) outer
        → StepsSo program.table entry beginning (act program (drop_form n) rest outer c)
    drop_keeps n so =
        let form = drop_form n in
        let w = formed form span rest outer so in
        let f = few form span rest outer so in
        let p = (first form span rest outer so).passes in
        own_slot program.table checked.table entry beginning c k n w.params (omega (arith, f))
        (and_term form span rest) outer so None None
        (with_slot n (held None) k.holdings) rest p.0.untested (λ z e. absurd (cc)) (λ z e. absurd (cc))
        (record { known = tt; owner = λ m needs has. absurd (omega (arith, has)) })
        (no_asset program.table checked.table c.world.objects (k.context (slot n)) (c.frame.slots n)
        (λ z e. k.whole.slots n z e) (k.says.slots n refl) p.0.loses_none)
        (held_written k.holdings c.frame.slots n None None (λ z e. absurd (cc)) k.held)
        (after form span rest outer so (put k.context (slot n) None) p.1)

    pub assert_keeps : (o : Operand) (perm : Perm) → c.control ≡ runs (and_term (assert_form o perm) span rest) outer
        → StepsSo program.table entry beginning (act program (assert_form o perm) rest outer c)
    assert_keeps o perm so = running (unchanged_keeps program.table entry beginning c k
        (and_term (assert_form o perm) span rest) outer so checked.table c.world.reads rest outer
        (opens_so program.table entry beginning c k (and_term (assert_form o perm) span rest) outer so)
        (record { locks = λ n. refl; tests = λ n. refl }) k.context k.says k.holdings k.held
        (after (assert_form o perm) span rest outer so k.context
        (first (assert_form o perm) span rest outer so).passes.1))

    pub revert_keeps : (text : Operand) → c.control ≡ runs (and_term (revert_form text) span rest) outer
        → StepsSo program.table entry beginning (act program (revert_form text) rest outer c)
    revert_keeps text so =
        let w = formed (revert_form text) span rest outer so in
        let p = (first (revert_form text) span rest outer so).passes in
        rw (operand_read text p.0.readable) (text_so (operand_found text p.0.readable).cell.value
        (operand_of_kind text p.0.readable Text refl w.kinds))

    pub bad_row_keeps : c.control ≡ runs (and_term bad_row_form span rest) outer
        → StepsSo program.table entry beginning (act program bad_row_form rest outer c)
    bad_row_keeps so = absurd (first bad_row_form span rest outer so).passes

    -- a unit is taken
    pub unit_keeps : c.control ≡ runs (and_term unit_form span rest) outer
        → StepsSo program.table entry beginning (act program unit_form rest outer c)
    unit_keeps so = by_fuel c.world.fuel
      where
        taken : (m : ℕ) → Stays (here c) (record (here c) { world = with_unit_taken c.world m })
        taken m = record {
          this = refl;
          count = refl;
          contracts = λ n. refl;
          states = λ n. refl;
          fields =
              λ n j ne. refl;
          notes = λ n j ne. refl;
          shared = λ n e. e;
          disowned = λ n e. e;
          handles = refl;
          locked =
              refl;
          progress = refl;
        }

        opens : (m : ℕ) → OpensKept program.table outer (here c) (record (here c) { world = with_unit_taken c.world m })
        opens m (slot n) z is e = (z, e, refl)
        opens m (field n) z is e = (z, e, refl)

        by_fuel : (m : ℕ) → StepsSo program.table entry beginning
            (with_fuel_left m c.world (λ w. goes_to c (record (here c) { world = w }) (runs rest outer)))
        by_fuel zero = tt
        by_fuel (suc m) = form_done program.table checked.table entry beginning c k
            (and_term unit_form span rest) outer so
            (record (here c) { world = with_unit_taken c.world m }) k.context rest k.holdings
            (record {
              stays = taken m;
              sits = record {
                frame = k.whole.frame;
                slots = k.whole.slots;
                fields = k.whole.fields (self_of c.frame.slots);
                object = k.whole.objects (self_of c.frame.slots) k.whole.frame.there;
                says = record { slots = k.says.slots; fields = k.says.fields; mode = k.says.mode };
                placed = k.placed;
                owns_made = k.owns_made;
              };
              opens = opens m;
              arguments = λ j le z e. (z, e, refl, refl);
            })
            (record {
              fewer = λ n. omega arith;
              keeps_owner = λ n needs. omega arith;
              newly_shared = λ n e d. absurd (both_ways _ e d);
              newly_disowned = λ n e d. absurd (both_ways _ e d);
              shares = λ j x y le e d is. inl (ap (λ (w : Cell). w.note.permission) (same_Some x y (sym e ∙ d)) ∙ is);
              unreferred = λ n has. omega arith;
            })
            k.held (after unit_form span rest outer so k.context (first unit_form span rest outer so).passes)
