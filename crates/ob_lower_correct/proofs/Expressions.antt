-- The terms of an expression do what the expression does, where the forms of calls do what calls do.
use Rattle.std.proofs.Common.{◌≡◌, ℕ, true, false, List, [], ◌∷◌, ◌++◌, length, Option, Some, None, refl, sym, ap, ◌∙◌, subst}
use Rattle.std.specs.Prelude.{IsSomeAnd, ⊤}
use Rattle.ob_base.specs.declared.fault.Span.{Span}
use Rattle.ob_table.specs.declared.operator.BinaryOperator.{BinaryOperator}
use Rattle.ob_table.specs.declared.operator.LogicalOperator.{LogicalOperator}
use Rattle.ob_table.specs.declared.operator.LogicalOperator.TheVariants.{And, Or}
use Rattle.ob_table.specs.Expressions.{Expression, resolved_number, resolved_text, resolved_bool, resolved_seen, resolved_unary, resolved_binary, resolved_logical, resolved_call, resolved_new, Arguments, no_arguments, and_argument}
use Rattle.ob_table.specs.Tables.{ClassTable, contract_at, signature_of}
use Rattle.ob_table.specs.declared.seen.SeenAt.{SeenAt}
use Rattle.ob_table_spec.specs.WellFormed as made
use Rattle.ob_table_spec.specs.WellFormed.{local_kind, is_reference, IsWellFormedExpression, AreWellFormedArguments, IsCalled, PassTo, constructor_at}
use Rattle.ob_heap_spec.specs.Values.{Value, int_value, bool_value, text_value, reference}
use Rattle.ob_heap_spec.specs.Worlds.{World, RunOutcome, gives, ◌>>=◌}
use Rattle.ob_source_meaning.specs.Frames as meaning
use Rattle.ob_source_meaning.specs.Frames.{Calls}
use Rattle.ob_source_meaning.specs.Naming.{value_seen, read as read_name}
use Rattle.ob_heap_spec.specs.Operations.{between}
use Rattle.ob_source_meaning.specs.Expressions.{after_operation, settled, after_left, started, constructed, value_of, operands_of, operand_of}
use Rattle.ob_silica.specs.Terms.{SilicaForm, const_form, op_form, copy_form, new_form, if_form, SilicaTerms, no_terms, and_term, one_term, then_terms}
use Rattle.ob_silica.specs.declared.term.SilicaOperator.TheVariants.{Unary, Binary}
use Rattle.ob_silica.specs.declared.place.Place.{Place}
use Rattle.ob_silica.specs.declared.place.Place.TheVariants.{Slot}
use Rattle.ob_silica.specs.declared.place.Constant.TheVariants.{Int, Bool as BoolConstant, Text}
use Rattle.ob_silica_steps.specs.Cells.{Cell, plain_cell, constant_cell, value_in}
use Rattle.ob_silica_places.specs.Places.{located, location_of, slot}
use Rattle.ob_silica_steps.specs.Configurations.{SilicaProgram, Rest, plain_end, runs, Configuration, goes}
use Rattle.ob_silica_steps.specs.Here.{Here, read, set_slot, if_there}
use Rattle.ob_silica_places.specs.Known.{at}
use Rattle.ob_silica_steps.specs.Steps.{step}
use Rattle.ob_silica_steps.specs.Straight.{with_truth, copy_to}
use Rattle.ob_lower_spec.specs.Forms.{SlotVariable, locals_of, place_seen, AroundExpression, operand, logical_form}
use Rattle.ob_lower_spec.specs.Points.{IsFree, Temporary, in_use}
use Rattle.ob_lower_spec.specs.ExpressionTerms.{Lowered, LoweredArguments, into, LowersName, copied_into, logical_into, LowersExpression, LowersArguments}
use Rattle.ob_lower_correct.proofs.Slots.{Used, Within, within_self, within_on, within_use, within_first, within_second, free_within}
use Rattle.ob_lower_correct.proofs.Runs.{Leads, Ends, stays, leads_on, one_step, ends_map, ends_later, join}
use Rattle.ob_lower_correct.proofs.Standing.{Setting, frame_in, made_in, config, Comes, Reached, kept_self, at_same, comes_self, comes_on, comes_fewer, reached_closed, bind}
use Rattle.ob_lower_correct.proofs.Names.{name_read}
use Rattle.ob_lower_correct.proofs.Plain.{Plain, logical_plain, operands_plain, unary_plain, as_many}
use Rattle.ob_lower_correct.proofs.Calling.{Answers, CallsRun}
use Rattle.ob_lower_correct.proofs.Values.{Result, in_slot_on, in_slot, read_in_slot, read_one, there, used_last, comes_set, sets, op_runs, copy_runs}
use Rattle.ob_lower_correct.proofs.Operands.{Mean, means_on, mean_on, answers_by, Fits, fits_on, operand_from, started_runs, constructed_runs, answered}

-- what is there, with what is said of it
pub called_so : {A : Type 0} (o : Option A) (P : A → Type 0) → IsSomeAnd o P → (g : A) × (o ≡ Some g) × P g
called_so None P p = absurd p
called_so (Some g) P p = (g, refl, p)

module _ (program : SilicaProgram) (most : ℕ) (calls : Calls) (called : CallsRun program most calls) (s : Setting) (found : contract_at program.table s.here ≡ Some s.own)
    (vs : List SlotVariable) (ws : made.LocalKinds) (agree : (n : ℕ) → local_kind (locals_of vs) n ≡ local_kind ws n) (seen_used : List ℕ) (zero_used : Used 0 seen_used) (span : Span) (ls : meaning.Locals) where
  abbrev table : ClassTable
  table = program.table

  abbrev f : meaning.SourceFrame
  f = frame_in program.table s

  abbrev F : made.StaticFrame
  F = made_in program.table s

  abbrev a : AroundExpression
  a = record { frame = made_in program.table s; variables = vs; span = span }

  abbrev Fit : Here → Type 0
  Fit h = Fits program most calls called s found vs ws agree seen_used zero_used span ls h

  abbrev Runs : Lowered → List ℕ → Here → SilicaTerms → List Rest → RunOutcome Value → Type 0
  Runs l used h rest outer o =
      Ends program (Reached program most (λ t u. Result l used t u) used s h (runs rest outer)) (config s h (runs (then_terms l.terms rest) outer)) o

  abbrev OperandsRun : LoweredArguments → List ℕ → Here → SilicaTerms → List Rest → RunOutcome (List meaning.SourceOperand) → Type 0
  OperandsRun l used h rest outer o =
      Ends program (Reached program most (λ t xs. Mean vs xs l.operands (in_use l.made used) t) used s h (runs rest outer)) (config s h (runs (then_terms l.terms rest) outer)) o

  fit_on : {used : List ℕ} {h t : Here} → Within seen_used used → Fit h → Comes table most used h t → Fit t
  fit_on w x c = fits_on program most calls called s found vs ws agree seen_used zero_used span ls w x c

  one_more : (ts rest : SilicaTerms) (form : SilicaForm) → then_terms (then_terms ts (one_term form span)) rest ≡ then_terms ts (and_term form span rest)
  one_more ts rest form = join ts (one_term form span) rest

  copied_name : (seen : SeenAt) (sp : Span) (l : Lowered) (used : List ℕ) (h : Here) (rest : SilicaTerms) (outer : List Rest) (place : Place)
      → place_seen vs seen.of ≡ Some place → LowersName a used false (operand place sp) l → Fit h → Runs l used h rest outer (read_name f ls seen.of h.world)
  copied_name seen sp l used h rest outer place ep (k, free, is) fit =
      rw is (copy_runs program most s h used rest outer span (into a no_terms [] (copy_form (Slot k) (operand place sp)) k false sp) k (operand place sp) (value_seen f ls h.world seen.of)
      refl (used_last k false [] used) free fit.stands
      (name_read table most s vs seen_used ls h seen.of place found fit.stands fit.visible ep))

  -- an operator that works on both sides
  binary_runs : (o : BinaryOperator) (sign sp : Span) (left right : Expression) (x y : Lowered) (k : ℕ) (l : Lowered) (used : List ℕ) (h : Here) (rest : SilicaTerms) (outer : List Rest)
      → IsFree k (in_use (x.made ++ y.made) used)
      → l ≡ into a (then_terms x.terms y.terms) (x.made ++ y.made) (op_form k (Binary o) x.operand y.operand sign.line) k false sp
      → Within seen_used used → Fit h
      → ((r : SilicaTerms) → Runs x used h r outer (value_of calls f left ls h.world))
      → ((t : Here) (r : SilicaTerms) → Fit t → Runs y (in_use x.made used) t r outer (value_of calls f right ls t.world))
      → Runs l used h rest outer (value_of calls f left ls h.world >>= (λ v w1. value_of calls f right ls w1 >>= (λ u w2. after_operation sign (between o v u) w2)))
  binary_runs o sign sp left right x y k l used h rest outer free is w fit run_left run_right =
      let form : SilicaForm = op_form k (Binary o) x.operand y.operand sign.line in
      let shape_is : then_terms (then_terms (then_terms x.terms y.terms) (one_term form span)) rest ≡ then_terms x.terms (then_terms y.terms (and_term form span rest)) =
      one_more (then_terms x.terms y.terms) rest form ∙ join x.terms y.terms (and_term form span rest) in
      rw (is, shape_is)
      (bind program most (value_of calls f left ls h.world) _ (within_self used) (within_self used) (run_left (then_terms y.terms (and_term form span rest)))
      (λ v t comes r.
      (bind program most (value_of calls f right ls t.world) _ (within_use x.made used) (within_self used) (run_right t (and_term form span rest) (fit_on w fit comes))
      (λ u t2 comes2 r2.
      op_runs program most s t2 used rest outer span (into a (then_terms x.terms y.terms) (x.made ++ y.made) form k false sp) k (Binary o) x.operand y.operand sign v u
      refl (used_last k false (x.made ++ y.made) used) (free_within k (within_use (x.made ++ y.made) used) free)
      (fit_on (within_on w (within_use x.made used)) (fit_on w fit comes) comes2).stands
      (read_in_slot table (in_slot_on {r = t2} (in_slot r) comes2.kept)) (read_in_slot table (in_slot r2))))))

  -- `&&` and `||`

  abbrev next : SilicaTerms → Rest
  next rest = record { terms = rest; ends = plain_end }

  if_step : (x : Lowered) (used : List ℕ) (t : Here) (v : Value) (b o : SilicaTerms) (j : Span) (rest : SilicaTerms) (outer : List Rest) → Result x used t v
      → step program (config s t (runs (and_term (if_form x.operand b o j) span rest) outer))
      ≡ with_truth v (goes (config s t (runs b (next rest ∷ outer)))) (goes (config s t (runs o (next rest ∷ outer))))
  if_step x used t v b o j rest outer r =
      read_one (read table t (located x.operand)) v (λ u. with_truth u (goes (config s t (runs b (next rest ∷ outer)))) (goes (config s t (runs o (next rest ∷ outer))))) (read_in_slot table (in_slot r))

  -- the right side's value is copied into the left side's temporary
  copy_back : (x y z : Lowered) (sp : Span) (used : List ℕ) (t : Here) (v : Value) (rest : SilicaTerms) (outer : List Rest) (c : Configuration) (u : Value) (w : World)
      → z.operand.place ≡ x.operand.place → z.made ≡ x.made ++ y.made → Within seen_used used → Fit t → Result x used t v
      → Reached program most (λ r n. Result y (in_use x.made used) r n) (in_use x.made used) s t (runs (one_term (copy_form x.operand.place y.operand) span) (next rest ∷ outer)) u w c
      → Reached program most (λ r n. Result z used r n) used s t (runs rest outer) u w c
  copy_back x y z sp used t v rest outer c u w same_place same_made within fit rx r =
      let t2 : Here = record { slots = r.slots; notes = r.notes; world = w } in
      let found_y = there (read table t2 (located y.operand)) u (read_in_slot table (in_slot r.holds)) in
      let cell : Cell = plain_cell found_y.0.value found_y.0.note.kind in
      let after : Configuration = config s (set_slot rx.slot (Some cell) t2) (runs no_terms (next rest ∷ outer)) in
      let first : step program (config s t2 (runs (one_term (copy_form x.operand.place y.operand) span) (next rest ∷ outer))) ≡ goes after =
      ap (λ p. if_there (read table t2 (located y.operand)) (λ n. copy_to table (location_of p) n t2 (λ m. goes (config s m (runs no_terms (next rest ∷ outer)))))) rx.place
      ∙ ap (λ o. if_there o (λ n. copy_to table (slot rx.slot) n t2 (λ m. goes (config s m (runs no_terms (next rest ∷ outer)))))) found_y.1 in
      record {
        slots = at r.slots rx.slot (Some cell);
        notes = r.notes;
        comes = comes_on table most (comes_fewer table most (within_use x.made used) r.comes)
            (comes_set program most rx.slot (Some cell) rx.fresh (fit_on (within_on within (within_use x.made used)) fit r.comes).stands);
        holds = record {
          slot = rx.slot;
          place = same_place ∙ rx.place;
          inside = subst (λ m. Used rx.slot (in_use m used)) (sym same_made) ((within_first x.made y.made used).by rx.slot rx.inside);
          fresh = rx.fresh;
          value = ap value_in (at_same r.slots rx.slot (Some cell)) ∙ ap Some found_y.2;
        };
        leads = leads_on program r.leads (leads_on program (one_step program first) (one_step program refl));
      }

  -- the left side's value stays
  left_stays : (x z : Lowered) (used : List ℕ) (t : Here) (v : Value) (rest : SilicaTerms) (outer : List Rest) (c : Configuration) (more : List Temporary)
      → z.operand.place ≡ x.operand.place → z.made ≡ x.made ++ more → Fit t → Result x used t v
      → Leads program c (goes (config s t (runs no_terms (next rest ∷ outer))))
      → Ends program (Reached program most (λ r n. Result z used r n) used s t (runs rest outer)) c (gives v t.world)
  left_stays x z used t v rest outer c more same_place same_made fit rx leads = record {
    by = record {
      slots = t.slots;
      notes = t.notes;
      comes = comes_self table most used fit.stands;
      holds = record {
        slot = rx.slot;
        place = same_place ∙ rx.place;
        inside = subst (λ m. Used rx.slot (in_use m used)) (sym same_made) ((within_first x.made more used).by rx.slot rx.inside);
        fresh = rx.fresh;
        value = rx.value;
      };
      leads = leads_on program leads (one_step program refl);
    };
  }

  logical_runs : (o : LogicalOperator) (v : Value) (x y : Lowered) (sign sp : Span) (used : List ℕ) (t : Here) (rest : SilicaTerms) (outer : List Rest) (right : RunOutcome Value)
      → Within seen_used used → Fit t → Result x used t v → ((rest2 : SilicaTerms) (outer2 : List Rest) → Runs y (in_use x.made used) t rest2 outer2 right)
      → Ends program (Reached program most (λ r n. Result (logical_into a o x y sign sp) used r n) used s t (runs rest outer))
      (config s t (runs (and_term (logical_form o x.operand (copied_into a x y) sign) span rest) outer)) (after_left (settled o v) t.world right)
  logical_runs And (bool_value true) x y sign sp used t rest outer right w fit rx run_right =
      ends_later program right (reached_closed program most) (one_step program (if_step x used t (bool_value true) (copied_into a x y) no_terms sign rest outer rx))
      (ends_map program right (λ u v r. copy_back x y (logical_into a And x y sign sp) sp used t (bool_value true) rest outer _ u v refl refl w fit rx r)
      (run_right (one_term (copy_form x.operand.place y.operand) span) (next rest ∷ outer)))
  logical_runs And (bool_value false) x y sign sp used t rest outer right w fit rx run_right =
      left_stays x (logical_into a And x y sign sp) used t (bool_value false) rest outer _ y.made refl refl fit rx
      (one_step program (if_step x used t (bool_value false) (copied_into a x y) no_terms sign rest outer rx))
  logical_runs And (int_value z) x y sign sp used t rest outer right w fit rx run_right =
      record { by = one_step program (if_step x used t (int_value z) (copied_into a x y) no_terms sign rest outer rx) }
  logical_runs And (text_value z) x y sign sp used t rest outer right w fit rx run_right =
      record { by = one_step program (if_step x used t (text_value z) (copied_into a x y) no_terms sign rest outer rx) }
  logical_runs And (reference z) x y sign sp used t rest outer right w fit rx run_right =
      record { by = one_step program (if_step x used t (reference z) (copied_into a x y) no_terms sign rest outer rx) }
  logical_runs Or (bool_value false) x y sign sp used t rest outer right w fit rx run_right =
      ends_later program right (reached_closed program most) (one_step program (if_step x used t (bool_value false) no_terms (copied_into a x y) sign rest outer rx))
      (ends_map program right (λ u v r. copy_back x y (logical_into a Or x y sign sp) sp used t (bool_value false) rest outer _ u v refl refl w fit rx r)
      (run_right (one_term (copy_form x.operand.place y.operand) span) (next rest ∷ outer)))
  logical_runs Or (bool_value true) x y sign sp used t rest outer right w fit rx run_right =
      left_stays x (logical_into a Or x y sign sp) used t (bool_value true) rest outer _ y.made refl refl fit rx
      (one_step program (if_step x used t (bool_value true) no_terms (copied_into a x y) sign rest outer rx))
  logical_runs Or (int_value z) x y sign sp used t rest outer right w fit rx run_right =
      record { by = one_step program (if_step x used t (int_value z) no_terms (copied_into a x y) sign rest outer rx) }
  logical_runs Or (text_value z) x y sign sp used t rest outer right w fit rx run_right =
      record { by = one_step program (if_step x used t (text_value z) no_terms (copied_into a x y) sign rest outer rx) }
  logical_runs Or (reference z) x y sign sp used t rest outer right w fit rx run_right =
      record { by = one_step program (if_step x used t (reference z) no_terms (copied_into a x y) sign rest outer rx) }

  mutual
    pub value_runs : (e : Expression) (l : Lowered) (used : List ℕ) (h : Here) (rest : SilicaTerms) (outer : List Rest)
        → LowersExpression a used e l → IsWellFormedExpression F ws e → Plain F (locals_of vs) e → Within seen_used used → Fit h
        → Runs l used h rest outer (value_of calls f e ls h.world)
    value_runs (resolved_number z sp) l used h rest outer (k, free, e) is plain w fit =
        rw e (sets program most (into a no_terms [] (const_form k (Int z)) k false sp) k (constant_cell (Int z)) (int_value z) refl (used_last k false [] used) free refl fit.stands (one_step program refl))
    value_runs (resolved_text z sp) l used h rest outer (k, free, e) is plain w fit =
        rw e (sets program most (into a no_terms [] (const_form k (Text z)) k false sp) k (constant_cell (Text z)) (text_value z) refl (used_last k false [] used) free refl fit.stands (one_step program refl))
    value_runs (resolved_bool z sp) l used h rest outer (k, free, e) is plain w fit =
        rw e (sets program most (into a no_terms [] (const_form k (BoolConstant z)) k false sp) k (constant_cell (BoolConstant z)) (bool_value z) refl (used_last k false [] used) free refl fit.stands (one_step program refl))
    value_runs (resolved_seen seen sp) l used h rest outer (kind, ek, place, ep, low) is plain w fit =
        copied_name seen sp l used h rest outer place ep (subst (λ b. LowersName a used b (operand place sp) l) (plain kind ek) low) fit
    value_runs (resolved_unary o sign e sp) l used h rest outer (x, lx, k, free, is) made plain w fit =
        rw (is, one_more x.terms rest (op_form k (Unary o) x.operand x.operand sign.line))
        (bind program most (value_of calls f e ls h.world) _ (within_self used) (within_self used)
        (value_runs e x used h (and_term (op_form k (Unary o) x.operand x.operand sign.line) span rest) outer lx made.0 (unary_plain F (locals_of vs) ws agree o e made.1) w fit)
        (λ v t comes r.
        let there = read_in_slot table (in_slot r) in
        op_runs program most s t used rest outer span (into a x.terms x.made (op_form k (Unary o) x.operand x.operand sign.line) k false sp) k (Unary o) x.operand x.operand sign v v
        refl (used_last k false x.made used) (free_within k (within_use x.made used) free) (fit_on w fit comes).stands there there))
    value_runs (resolved_logical o sign left right sp) l used h rest outer (x, lx, y, ly, is) made plain w fit =
        rw (is, one_more x.terms rest (logical_form o x.operand (copied_into a x y) sign))
        (bind program most (value_of calls f left ls h.world) _ (within_self used) (within_self used)
        (value_runs left x used h (and_term (logical_form o x.operand (copied_into a x y) sign) span rest) outer lx made.0 (logical_plain F (locals_of vs) ws agree left right made.2 made.3).0 w fit)
        (λ v t comes r. logical_runs o v x y sign sp used t rest outer (value_of calls f right ls t.world) w (fit_on w fit comes) r
        (λ rest2 outer2. value_runs right y (in_use x.made used) t rest2 outer2 ly made.1 (logical_plain F (locals_of vs) ws agree left right made.2 made.3).1 (within_on w (within_use x.made used)) (fit_on w fit comes))))
    value_runs (resolved_binary o sign left right sp) l used h rest outer (x, lx, y, ly, k, free, is) made plain w fit =
        binary_runs o sign sp left right x y k l used h rest outer free is w fit
        (λ r. value_runs left x used h r outer lx made.0 (operands_plain F (locals_of vs) ws agree o left right made.2).0 w fit)
        (λ t r fit1. value_runs right y (in_use x.made used) t r outer ly made.1 (operands_plain F (locals_of vs) ws agree o left right made.2).1 (within_on w (within_use x.made used)) fit1)
    value_runs (resolved_call receiver contract tx name args sp) l used h rest outer (x, lx, kind, ek, k, free, form, is_call, is) made plain w fit =
        rw (is, one_more x.terms rest form)
        (bind program most (operands_of calls f args ls h.world) _ (within_self used) (within_self used)
        (operands_run args x used h (and_term form span rest) outer lx made.0 w fit)
        (λ xs t comes m.
        let g = called_so (signature_of table contract tx) (λ g. IsCalled F ws receiver contract g × PassTo F ws g.params args) made.2 in
        answered program most calls called s found vs ws agree seen_used zero_used span ls (Answers table contract tx) (into a x.terms x.made form k (is_reference kind) sp) k used t rest outer _ (started calls f ls receiver contract tx xs t.world)
        (answers_by (signature_of table contract tx) kind ek) refl (used_last k (is_reference kind) x.made used) (free_within k (within_use x.made used) free)
        (started_runs program most calls called s found vs ws agree seen_used zero_used span ls receiver contract tx xs x.operands form (Some k) (in_use x.made used) t g.0 rest outer is_call g.2.0
        (subst (λ o. IsSomeAnd o (λ d. length d.params ≡ length x.operands)) (sym g.1) (as_many F ws a used g.0.params args x lx g.2.1)) m (fit_on w fit comes))))
    value_runs (resolved_new contract args sp) l used h rest outer (x, lx, k, free, is) made plain w fit =
        rw (is, one_more x.terms rest (new_form k contract x.operands))
        (bind program most (operands_of calls f args ls h.world) _ (within_self used) (within_self used)
        (operands_run args x used h (and_term (new_form k contract x.operands) span rest) outer lx made.0 w fit)
        (λ xs t comes m.
        let g = called_so (constructor_at table contract) (λ g. PassTo F ws g.params args) made.1 in
        answered program most calls called s found vs ws agree seen_used zero_used span ls ⊤ (into a x.terms x.made (new_form k contract x.operands) k true sp) k used t rest outer _ (constructed calls f ls contract xs t.world)
        tt refl (used_last k true x.made used) (free_within k (within_use x.made used) free)
        (constructed_runs program most calls called s found vs ws agree seen_used zero_used span ls contract xs x.operands k (in_use x.made used) t rest outer
        (subst (λ o. IsSomeAnd o (λ d. length d.params ≡ length x.operands)) (sym g.1) (as_many F ws a used g.0.params args x lx g.2)) m (fit_on w fit comes))))

    pub operands_run : (es : Arguments) (l : LoweredArguments) (used : List ℕ) (h : Here) (rest : SilicaTerms) (outer : List Rest)
        → LowersArguments a used es l → AreWellFormedArguments F ws es → Within seen_used used → Fit h
        → OperandsRun l used h rest outer (operands_of calls f es ls h.world)
    operands_run no_arguments l used h rest outer is made w fit =
        rw is (record { by = record { slots = h.slots; notes = h.notes; comes = comes_self table most used fit.stands; holds = record { by = tt }; leads = stays program _ } })
    operands_run (and_argument e es) l used h rest outer (x, lx, y, ly, is) made w fit =
        rw (is, join x.terms y.terms rest)
        (bind program most (operand_of calls f e ls h.world) _ (within_self used) (within_self used)
        (operand_from program most calls called s found vs ws agree seen_used zero_used span ls e x used h (then_terms y.terms rest) outer lx fit
        (λ plain. value_runs e x used h (then_terms y.terms rest) outer lx made.0 plain w fit))
        (λ v t comes m.
        bind program most (operands_of calls f es ls t.world) _ (within_use x.made used) (within_self used)
        (operands_run es y (in_use x.made used) t rest outer ly made.1 (within_on w (within_use x.made used)) (fit_on w fit comes))
        (λ us t2 comes2 ms.
        let fit2 : Fit t2 = fit_on (within_on w (within_use x.made used)) (fit_on w fit comes) comes2 in
        record {
          by = record {
            slots = t2.slots;
            notes = t2.notes;
            comes = comes_self table most used fit2.stands;
            holds = record { by = (means_on v m (within_first x.made y.made used) comes2.kept, (mean_on us y.operands ms (within_second x.made y.made used) (kept_self (in_use y.made (in_use x.made used)) t2.slots)).by) };
            leads = stays program _;
          };
        })))
