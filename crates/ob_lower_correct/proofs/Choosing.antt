-- `if` by its terms, and what is after a statement.
use Rattle.std.proofs.Common.{◌≡◌, ℕ, Bool, true, false, ◌&&◌, List, [], ◌∷◌, ◌++◌, length, Option, Some, None, refl, sym, ap, ◌∙◌, subst, true≢false, eqb-true, inl, inr}
use Rattle.std.specs.Prelude.{nat_eq, ◌==◌, IsSomeAnd, IsTrue, if◌then◌else◌}
use Rattle.ob_base.specs.declared.fault.Span.{Span}
use Rattle.ob_base.specs.declared.id.StateId.{StateId}
use Rattle.ob_table.specs.Expressions.{Expression, resolved_number, resolved_text, resolved_bool, resolved_seen, resolved_unary, resolved_binary, resolved_logical, resolved_call, resolved_new}
use Rattle.ob_table.specs.Statements.{resolved_declare, resolved_assign, resolved_discard, resolved_return, resolved_revert, resolved_disown, resolved_assert, Statements, and_statement}
use Rattle.ob_table.specs.Tables.{ClassTable, contract_at}
use Rattle.ob_table.specs.declared.seen.Kind.{Kind}
use Rattle.ob_silica.specs.declared.place.Operand.{Operand}
use Rattle.ob_silica.specs.declared.place.Place.TheVariants.{Slot}
use Rattle.ob_table_spec.specs.WellFormed as made
use Rattle.ob_table_spec.specs.WellFormed.{local_kind, is_reference, IsWellFormedExpression}
use Rattle.ob_heap_spec.specs.Values.{Value, int_value, bool_value, text_value, reference}
use Rattle.ob_heap_spec.specs.Worlds.{World, RunOutcome, with_some}
use Rattle.ob_source_meaning.specs.Frames as meaning
use Rattle.ob_source_meaning.specs.Frames.{Calls, Flow}
use Rattle.ob_heap_spec.specs.GoingWrong.{is_row}
use Rattle.ob_source_meaning.specs.Statements.{run}
use Rattle.ob_silica.specs.Terms.{SilicaTerms, no_terms, and_term, then_terms, one_term, copy_form}
use Rattle.ob_silica_steps.specs.Cells.{value_in}
use Rattle.ob_silica_places.specs.Places.{location_of, located}
use Rattle.ob_silica_steps.specs.Configurations.{SilicaProgram, SlotCells, Rest, runs, Configuration, goes}
use Rattle.ob_silica_steps.specs.Here.{Here, read}
use Rattle.ob_silica_places.specs.Known.{at}
use Rattle.ob_silica_steps.specs.Steps.{step}
use Rattle.ob_lower_spec.specs.Forms.{SlotVariable, locals_of, AroundExpression, operand, refused_at}
use Rattle.ob_lower_spec.specs.Points.{around, in_use, references, drops_of, Point, passed}
use Rattle.ob_lower_spec.specs.ExpressionTerms.{Lowered, into, LowersExpression}
use Rattle.ob_lower_spec.specs.GivenTerms.{with_unit}
use Rattle.ob_lower_correct.proofs.Slots.{Used, free_differs, within_self}
use Rattle.ob_lower_correct.proofs.Runs.{Ends, one_step, ends_map, ends_later, join}
use Rattle.ob_lower_correct.proofs.Standing.{same_value, Setting, frame_in, made_in, config, Comes, later_self, kept_fewer, comes_self, comes_fewer}
use Rattle.ob_lower_correct.proofs.Calling.{CallsRun}
use Rattle.ob_lower_correct.proofs.Flows.{Placed, At, Flows, flows_closed, flows_from, at_on, unit_flows, value_then, drops_run}
use Rattle.ob_lower_correct.proofs.Fresh.{expression_fresh, references_within}
use Rattle.ob_lower_correct.proofs.Values.{read_one, not_there}
use Rattle.ob_lower_correct.proofs.Setting.{placed_passed}
use Rattle.ob_lower_correct.proofs.Plain.{seen_agree, serves_plain}
use Rattle.ob_table.specs.declared.seen.Kind.TheVariants.{Bool as BoolKind, Reference}
use Rattle.ob_table.specs.Statements.{GivenField, resolved_stage, resolved_change, resolved_test, resolved_if, resolved_while, no_statements, Block, Otherwise}
use Rattle.ob_table_spec.specs.WellFormed.{kind_of_expression, ServesAs, serves_as, IsValue}
use Rattle.ob_source_meaning.specs.Statements.{choose, run_block, run_otherwise}
use Rattle.ob_silica.specs.Terms.{if_form}
use Rattle.ob_silica_steps.specs.Configurations.{plain_end}
use Rattle.ob_silica_steps.specs.Straight.{with_truth}
use Rattle.ob_lower_spec.specs.ExpressionTerms.{LowersName}
use Rattle.ob_lower_correct.proofs.Branches.{plain_ends, branch_runs}
use Rattle.ob_lower_correct.proofs.Fresh.{Value as Apart, value_last, value_left}

-- an expression that is no reference
abbrev pub NoReference : made.StaticFrame → made.LocalKinds → Expression → Type 0
NoReference f vs e = (kind : Kind) → kind_of_expression f vs e ≡ Some kind → is_reference kind ≡ false

module _ (f : made.StaticFrame) (vs : List SlotVariable) (ws : made.LocalKinds) (agree : (n : ℕ) → local_kind (locals_of vs) n ≡ local_kind ws n) (span : Span) where
  abbrev a : AroundExpression
  a = record { frame = f; variables = vs; span = span }

  kinds_agree : (e : Expression) → kind_of_expression f (locals_of vs) e ≡ kind_of_expression f ws e
  kinds_agree (resolved_seen seen sp) = seen_agree f (locals_of vs) ws agree seen.of
  kinds_agree (resolved_number z sp) = refl
  kinds_agree (resolved_text z sp) = refl
  kinds_agree (resolved_bool z sp) = refl
  kinds_agree (resolved_unary o sign e sp) = refl
  kinds_agree (resolved_binary o sign e g sp) = refl
  kinds_agree (resolved_logical o sign e g sp) = refl
  kinds_agree (resolved_call r c tx name args sp) = refl
  kinds_agree (resolved_new c args sp) = refl

  pub no_reference : (e : Expression) → ServesAs f ws BoolKind e → NoReference f (locals_of vs) e
  no_reference e serve = λ kind ek. serves_plain f.table BoolKind kind refl (subst (λ o. IsSomeAnd o (λ has. IsTrue (serves_as f.table BoolKind has))) (sym (kinds_agree e) ∙ ek) serve)

  name_apart : (used : List ℕ) (b : Bool) (o : Operand) (l : Lowered) → b ≡ false → LowersName a used b o l → Apart l
  name_apart used true o l e low = absurd (true≢false e)
  name_apart used false o l e (k, free, is) = rw is (value_last (into a no_terms [] (copy_form (Slot k) o) k false o.span) [] k false used refl refl refl free)

  -- the value of an expression that is no reference stands apart from temporaries that are
  pub apart : (e : Expression) (used : List ℕ) (l : Lowered) → LowersExpression a used e l → IsWellFormedExpression f ws e → NoReference f (locals_of vs) e → Apart l
  apart (resolved_number z sp) used l (k, free, is) ok none = rw is (value_last _ [] k false used refl refl refl free)
  apart (resolved_text z sp) used l (k, free, is) ok none = rw is (value_last _ [] k false used refl refl refl free)
  apart (resolved_bool z sp) used l (k, free, is) ok none = rw is (value_last _ [] k false used refl refl refl free)
  apart (resolved_seen seen sp) used l (kind, ek, place, ep, low) ok none = name_apart used (is_reference kind) (operand place sp) l (none kind ek) low
  apart (resolved_unary o sign e sp) used l (x, lx, k, free, is) ok none = rw is (value_last _ x.made k false used refl refl refl free)
  apart (resolved_call r c tx name args sp) used l (x, lx, kind, ek, k, free, form, is_call, is) ok none = rw is (value_last _ x.made k (is_reference kind) used (none kind ek) refl refl free)
  apart (resolved_new c args sp) used l low ok none = absurd (true≢false (none (Reference c) refl))
  apart (resolved_logical o sign left right sp) used l (x, lx, y, ly, is) ok none =
      rw is (value_left _ x y used refl refl (apart left used x lx ok.0 (no_reference left ok.2)) (expression_fresh a (in_use x.made used) right y ly))
  apart (resolved_binary o sign left right sp) used l (x, lx, y, ly, k, free, is) ok none = rw is (value_last _ (x.made ++ y.made) k false used refl refl refl free)

-- Rows.

same_number : (b : Bool) (x : Bool) → (b && x) ≡ true → (b ≡ true) × (x ≡ true)
same_number true x e = (refl, e)
same_number false x e = absurd (true≢false (sym e))

state_is : (state t : StateId) → nat_eq state.0 t.0 ≡ true → state ≡ t
state_is state t e = ap (λ n. record { 0 = n }) (eqb-true state.0 t.0 e)

-- what a row leaves after its first statement
pub rest_of_row : (state t : StateId) (given : GivenField) (span : Span) (xs : Statements) → is_row state (and_statement (resolved_stage t given span) xs) ≡ true → (state ≡ t) × (is_row t xs ≡ true)
rest_of_row state t given span xs e =
    let both = same_number (state.0 == t.0) (is_row state xs) e in
    let same = state_is state t both.0 in
    (same, ap (λ s. is_row s xs) (sym same) ∙ both.1)

pub accepted : (xs : Statements) (state : StateId) (at : Span) → is_row state xs ≡ true → refused_at state at xs ≡ None
accepted no_statements state at e = absurd (true≢false (sym e))
accepted (and_statement (resolved_stage t given span) xs) state at e =
    let both = same_number (state.0 == t.0) (is_row state xs) e in
    ap (λ b. if b then refused_at t span xs else Some at) both.0 ∙ accepted xs t span (ap (λ s. is_row s xs) (sym (state_is state t both.0)) ∙ both.1)
accepted (and_statement (resolved_change t given span) xs) state at e = ap (λ b. if b then None else Some at) e
accepted (and_statement (resolved_declare n name of value span) xs) state at e = absurd (true≢false (sym e))
accepted (and_statement (resolved_assign target value span) xs) state at e = absurd (true≢false (sym e))
accepted (and_statement (resolved_discard value span) xs) state at e = absurd (true≢false (sym e))
accepted (and_statement (resolved_test subject st b o span) xs) state at e = absurd (true≢false (sym e))
accepted (and_statement (resolved_if c b o span) xs) state at e = absurd (true≢false (sym e))
accepted (and_statement (resolved_while c b span) xs) state at e = absurd (true≢false (sym e))
accepted (and_statement (resolved_return v span) xs) state at e = absurd (true≢false (sym e))
accepted (and_statement (resolved_revert v span) xs) state at e = absurd (true≢false (sym e))
accepted (and_statement (resolved_disown subject span) xs) state at e = absurd (true≢false (sym e))
accepted (and_statement (resolved_assert subject perm span) xs) state at e = absurd (true≢false (sym e))

pub refused : (xs : Statements) (state : StateId) (at : Span) → is_row state xs ≡ false → (sp : Span) × (refused_at state at xs ≡ Some sp)
refused no_statements state at e = (at, refl)
refused (and_statement (resolved_stage t given span) xs) state at e = by_state (state.0 == t.0) refl e (λ h. refused xs t span h)
  where
    by_state : (b : Bool) → nat_eq state.0 t.0 ≡ b → (b && is_row state xs) ≡ false → (is_row t xs ≡ false → (sp : Span) × (refused_at t span xs ≡ Some sp)) → (sp : Span) × ((if nat_eq state.0 t.0 then refused_at t span xs else Some at) ≡ Some sp)
    by_state true eb e rest = let r = rest (ap (λ s. is_row s xs) (sym (state_is state t eb)) ∙ e) in (r.0, ap (λ b. if b then refused_at t span xs else Some at) eb ∙ r.1)
    by_state false eb e rest = (at, ap (λ b. if b then refused_at t span xs else Some at) eb)
refused (and_statement (resolved_change t given span) xs) state at e = (at, ap (λ b. if b then None else Some at) e)
refused (and_statement (resolved_declare n name of value span) xs) state at e = (at, refl)
refused (and_statement (resolved_assign target value span) xs) state at e = (at, refl)
refused (and_statement (resolved_discard value span) xs) state at e = (at, refl)
refused (and_statement (resolved_test subject st b o span) xs) state at e = (at, refl)
refused (and_statement (resolved_if c b o span) xs) state at e = (at, refl)
refused (and_statement (resolved_while c b span) xs) state at e = (at, refl)
refused (and_statement (resolved_return v span) xs) state at e = (at, refl)
refused (and_statement (resolved_revert v span) xs) state at e = (at, refl)
refused (and_statement (resolved_disown subject span) xs) state at e = (at, refl)
refused (and_statement (resolved_assert subject perm span) xs) state at e = (at, refl)

module _ (program : SilicaProgram) (most : ℕ) (calls : Calls) (called : CallsRun program most calls) (s : Setting) (found : contract_at program.table s.here ≡ Some s.own)
    (start : SlotCells) (finish : Option Value → World → RunOutcome (Option Value)) (fixed : List ℕ) (zero_fixed : Used 0 fixed) where
  abbrev table : ClassTable
  table = program.table

  abbrev f : meaning.SourceFrame
  f = frame_in program.table s

  abbrev F : made.StaticFrame
  F = made_in program.table s

  abbrev Stand : Point → meaning.Locals → Here → Type 0
  Stand p ls h = At program most calls called s found start finish fixed zero_fixed p ls h

  abbrev Runs : Point → SilicaTerms → List Rest → Here → Configuration → RunOutcome Flow → Type 0
  Runs q rest outer h c o = Ends program (Flows program most calls called s found start finish fixed zero_fixed q rest outer h) c o

  abbrev Places : Point → made.LocalKinds → Type 0
  Places p ws = Placed (length s.signature.params) fixed p ws

  -- a truth chooses its branch
  pub if_runs : (p : Point) (ws : made.LocalKinds) (ls : meaning.Locals) (h : Here) (rest : SilicaTerms) (outer : List Rest) (condition : Expression) (block : Block) (otherwise : Otherwise) (span join_at : Span) (c : Lowered) (x y : SilicaTerms)
      → LowersExpression (around F p span) p.used condition c → IsValue F ws BoolKind condition → Places p ws
      → ((t : Here) (around : List Rest) → Stand (passed p) ls t → Runs (passed p) no_terms around t (config s t (runs x around)) (run_block calls f block ls t.world))
      → ((t : Here) (around : List Rest) → Stand (passed p) ls t → Runs (passed p) no_terms around t (config s t (runs y around)) (run_otherwise calls f otherwise ls t.world))
      → Stand (passed p) ls h
      → Runs (passed p) rest outer h (config s h (runs (then_terms (with_unit span (then_terms c.terms (then_terms (drops_of c.made span) (one_term (if_form c.operand x y join_at) span)))) rest) outer)) (run calls f (resolved_if condition block otherwise span) ls h.world)
  if_runs p ws ls h rest outer condition block otherwise span join_at c x y lc ok placed run_x run_y a =
      let form = if_form c.operand x y join_at in
      unit_flows program most calls called s found start finish fixed zero_fixed (passed p) (passed p) ls h span (then_terms (then_terms c.terms (then_terms (drops_of c.made span) (one_term form span))) rest) rest outer outer _ placed.fixed a
      (λ w comes at_w.
      rw (join c.terms (then_terms (drops_of c.made span) (one_term form span)) rest ∙ ap (then_terms c.terms) (join (drops_of c.made span) (one_term form span) rest))
      (value_then program most calls called s found start finish fixed zero_fixed (passed p) (passed p) ws ls span condition c p.used (record h { world = w }) _ rest outer outer _ (placed_passed (length s.signature.params) fixed placed) lc ok.0 (within_self p.used) at_w
      (λ t o comes2 at_t er. dropped t o at_t er)))
    where
      stands_apart : Apart c
      stands_apart = apart F p.variables ws placed.agree span condition p.used c lc ok.0 (no_reference F p.variables ws placed.agree span condition ok.1)

      chosen : (t : Here) (v : Value) → Stand (passed p) ls t → step program (config s t (runs (and_term (if_form c.operand x y join_at) span rest) outer)) ≡ with_truth v (goes (config s t (runs x (record { terms = rest; ends = plain_end } ∷ outer)))) (goes (config s t (runs y (record { terms = rest; ends = plain_end } ∷ outer))))
          → Runs (passed p) rest outer t (config s t (runs (and_term (if_form c.operand x y join_at) span rest) outer)) (choose v (run_block calls f block ls t.world) (run_otherwise calls f otherwise ls t.world))
      chosen t (bool_value true) at_t st =
          branch_runs program most calls called s found start finish fixed zero_fixed p rest outer t t t.world plain_end x (config s t (runs (and_term (if_form c.operand x y join_at) span rest) outer)) (λ w. run_block calls f block ls w) (plain_ends program most calls called s found start finish fixed zero_fixed) placed.fixed (comes_self table most fixed at_t.stands) st (run_x t (record { terms = rest; ends = plain_end } ∷ outer) at_t)
      chosen t (bool_value false) at_t st =
          branch_runs program most calls called s found start finish fixed zero_fixed p rest outer t t t.world plain_end y (config s t (runs (and_term (if_form c.operand x y join_at) span rest) outer)) (λ w. run_otherwise calls f otherwise ls w) (plain_ends program most calls called s found start finish fixed zero_fixed) placed.fixed (comes_self table most fixed at_t.stands) st (run_y t (record { terms = rest; ends = plain_end } ∷ outer) at_t)
      chosen t (int_value z) at_t st = record { by = one_step program st }
      chosen t (text_value z) at_t st = record { by = one_step program st }
      chosen t (reference z) at_t st = record { by = one_step program st }

      reads : (t : Here) (o : Option Value) → Stand (passed p) ls t → value_in (read table t (located c.operand)) ≡ o
          → Runs (passed p) rest outer t (config s t (runs (and_term (if_form c.operand x y join_at) span rest) outer)) (with_some o (λ v. choose v (run_block calls f block ls t.world) (run_otherwise calls f otherwise ls t.world)))
      reads t None at_t er = record { by = one_step program (not_there (read table t (located c.operand)) _ er) }
      reads t (Some v) at_t er =
          chosen t v at_t (read_one (read table t (located c.operand)) v (λ u. with_truth u (goes (config s t (runs x (record { terms = rest; ends = plain_end } ∷ outer)))) (goes (config s t (runs y (record { terms = rest; ends = plain_end } ∷ outer))))) er)

      dropped : (t : Here) (o : Option Value) → Stand (passed p) ls t → value_in (read table t (located c.operand)) ≡ o
          → Runs (passed p) rest outer t (config s t (runs (then_terms (drops_of c.made span) (and_term (if_form c.operand x y join_at) span rest)) outer)) (with_some o (λ v. choose v (run_block calls f block ls t.world) (run_otherwise calls f otherwise ls t.world)))
      dropped t o at_t er =
          let d = drops_run program most calls called s found start finish fixed zero_fixed (references c.made) (stands_apart.slot ∷ p.used) span t (and_term (if_form c.operand x y join_at) span rest) outer
          (λ n u. (free_differs stands_apart.slot (references c.made) stands_apart.apart n u, (expression_fresh (around F p span) p.used condition c lc).by n ((references_within c.made).by n u))) in
          let t2 : Here = record { slots = d.slots; notes = t.notes; world = t.world } in
          let comes : Comes table most p.used t t2 = record { kept = kept_fewer (record { by = λ n u. inr u }) d.kept; later = later_self t.world; noted = at_t.stands.noted; fuel = at_t.stands.fuel } in
          let here_too : value_in (read table t2 (located c.operand)) ≡ o =
          ap (λ q. value_in (read table t2 (location_of q))) stands_apart.place ∙ same_value (d.slots stands_apart.slot) (t.slots stands_apart.slot) (d.kept.by stands_apart.slot (inl refl))
          ∙ sym (ap (λ q. value_in (read table t (location_of q))) stands_apart.place) ∙ er in
          let o1 = with_some o (λ v. choose v (run_block calls f block ls t.world) (run_otherwise calls f otherwise ls t.world)) in
          ends_later program o1 (flows_closed program most calls called s found start finish fixed zero_fixed) d.leads (ends_map program o1 (λ u v r. flows_from program most calls called s found start finish fixed zero_fixed (comes_fewer table most placed.fixed comes) u v _ r)
          (reads t2 o (at_on program most calls called s found start finish fixed zero_fixed placed.fixed (within_self p.used) at_t comes) here_too))
