-- The statements that let go, return, revert, disown and assert.
use Rattle.std.proofs.Common.{◌≡◌, ◌≢◌, ℕ, ◌≤◌, List, [], length, Option, Some, None, refl, sym, ap, ◌∙◌, subst}
use Rattle.std.specs.Prelude.{option_map, option_and_then, IsSome, IsSomeAnd, IfSome, ⊤}
use Rattle.ob_base.specs.declared.fault.Span.{Span}
use Rattle.ob_table.specs.Expressions.{Expression, resolved_number, resolved_text, resolved_bool, resolved_seen, resolved_unary, resolved_binary, resolved_logical, resolved_call, resolved_new}
use Rattle.ob_table.specs.Statements.{resolved_discard, resolved_return, resolved_revert, resolved_disown, resolved_assert}
use Rattle.ob_table.specs.declared.seen.SeenAt.{SeenAt}
use Rattle.ob_base.specs.declared.permission.Perm.{Perm}
use Rattle.ob_perm.specs.Permissions.{unowned}
use Rattle.ob_table.specs.declared.contract.ResolvedType.{ResolvedType}
use Rattle.ob_table.specs.declared.seen.Kind.TheVariants.{Text}
use Rattle.ob_silica.specs.declared.place.Constant.TheVariants.{Text as TextConstant}
use Rattle.ob_silica_steps.specs.Configurations as silica
use Rattle.ob_table.specs.Tables.{ClassTable, contract_at, signature_of}
use Rattle.ob_table.specs.declared.seen.Kind.{Kind}
use Rattle.ob_silica.specs.declared.place.Operand.{Operand}
use Rattle.ob_table_spec.specs.WellFormed as made
use Rattle.ob_table_spec.specs.WellFormed.{kind_of_resolved, IsWellFormedExpression, IsReturned, IsCalled, PassTo, constructor_at}
use Rattle.ob_heap_spec.specs.Values.{Value, int_value, bool_value, text_value, reference, referred}
use Rattle.ob_heap_spec.specs.Worlds.{World, by_revert, RunOutcome, gives, ◌>>=◌, with_some}
use Rattle.ob_heap_spec.specs.Marks.{mark_disowned, unlock}
use Rattle.ob_source_meaning.specs.Frames as meaning
use Rattle.ob_source_meaning.specs.Frames.{Calls, Flow, goes_on, returns}
use Rattle.ob_source_meaning.specs.Naming.{value_seen}
use Rattle.ob_source_meaning.specs.Expressions.{operand_of, operands_of, let_go, started, constructed, run_alone}
use Rattle.ob_source_meaning.specs.Statements.{abort_with, run}
use Rattle.ob_silica.specs.Terms.{SilicaTerms, and_term, then_terms, one_term, new_form, const_form, assert_form, disown_form, return_form, revert_form}
use Rattle.ob_silica_steps.specs.Cells.{Cell, constant_cell, value_in}
use Rattle.ob_silica_places.specs.Places.{located}
use Rattle.ob_silica_steps.specs.Configurations.{SilicaProgram, SlotCells, Rest, Control, runs, leaves, Configuration, goes}
use Rattle.ob_silica_steps.specs.Here.{Here, if_there, read, set_permission}
use Rattle.ob_silica_places.specs.Known.{at}
use Rattle.ob_silica_steps.specs.Steps.{step}
use Rattle.ob_silica_steps.specs.Straight.{with_text, disowns_object}
use Rattle.ob_lower_spec.specs.Forms.{operand, slot_operand}
use Rattle.ob_lower_spec.specs.Points.{around, in_use, references, drops_of, Point, passed}
use Rattle.ob_lower_spec.specs.ExpressionTerms.{Lowered, LoweredCall, LowersExpression, LowersDiscarded}
use Rattle.ob_lower_spec.specs.GivenTerms.{with_unit}
use Rattle.ob_lower_spec.specs.StatementTerms.{IsNamed, LowersReturn, LowersRevert}
use Rattle.ob_lower_correct.proofs.Slots.{Used, free_differs, free_within, within_self, within_use}
use Rattle.ob_lower_correct.proofs.Runs.{Ends, stays, leads_on, one_step, ends_map, join}
use Rattle.ob_lower_correct.proofs.Standing.{Setting, frame_in, made_in, config, Kept, Stands, Comes, Reached, later_self, kept_self, none_some, some_same, comes_self, comes_fewer, bind, at_same}
use Rattle.ob_lower_correct.proofs.Calling.{CallsRun}
use Rattle.ob_lower_correct.proofs.Operands.{operand_from}
use Rattle.ob_lower_correct.proofs.Expressions.{value_runs}
use Rattle.ob_lower_correct.proofs.Flows.{Placed, At, Left, Flows, then_flows, at_on, unit_flows, value_then, drops_run}
use Rattle.ob_lower_correct.proofs.Changes.{noted_quiet, quiet_disowned, quiet_later, permission_alike}
use Rattle.ob_lower_correct.proofs.Placing.{moved_world}
use Rattle.ob_lower_correct.proofs.Fresh.{references_within, discarded_fresh}
use Rattle.ob_lower_correct.proofs.Values.{read_one, there, not_there}
use Rattle.ob_lower_correct.proofs.Names.{name_read}
use Rattle.ob_lower_correct.proofs.Setting.{placed_passed}
use Rattle.ob_lower_correct.proofs.Operands.{started_runs, constructed_runs}
use Rattle.ob_lower_correct.proofs.Calling.{Called, Answers}
use Rattle.ob_lower_correct.proofs.Expressions.{operands_run, called_so}
use Rattle.ob_lower_correct.proofs.Plain.{as_many}

module _ (program : SilicaProgram) (most : ℕ) (calls : Calls) (called : CallsRun program most calls) (s : Setting) (found : contract_at program.table s.here ≡ Some s.own)
    (start : SlotCells) (finish : Option Value → World → RunOutcome (Option Value)) (fixed : List ℕ) (zero_fixed : Used 0 fixed) where
  abbrev table : ClassTable
  table = program.table

  abbrev f : meaning.SourceFrame
  f = frame_in program.table s

  abbrev F : made.StaticFrame
  F = made_in program.table s

  abbrev Stand : Point → meaning.Locals → Here → Type 0
  Stand p ls h = At program most calls called s found start finish fixed zero_fixed p ls h

  abbrev Runs : Point → SilicaTerms → List Rest → Here → Configuration → RunOutcome Flow → Type 0
  Runs q rest outer h c o = Ends program (Flows program most calls called s found start finish fixed zero_fixed q rest outer h) c o

  abbrev Places : Point → made.LocalKinds → Type 0
  Places p ws = Placed (length s.signature.params) fixed p ws

  -- how a body leaves its frame
  pub record Finishes : Type 0 where
    pub none : (h : Here) (span : Span) (rest : SilicaTerms) (outer : List Rest) → Stands table most s h → Kept fixed start h.slots → s.signature.result ≡ None
        → Ends program (Left program most calls called s found start finish fixed zero_fixed outer h) (config s h (runs (and_term (return_form None) span rest) outer)) (finish None h.world)
    pub some : (h : Here) (from : Operand) (o : Option Value) (span : Span) (rest : SilicaTerms) (outer : List Rest) → Stands table most s h → Kept fixed start h.slots → IsSome s.signature.result
        → value_in (read table h (located from)) ≡ o
        → Ends program (Left program most calls called s found start finish fixed zero_fixed outer h) (config s h (runs (and_term (return_form (Some from)) span rest) outer)) (with_some o (λ v. finish (Some v) h.world))
    pub unlocks : (r : Option Value) (n : ℕ) (w : World) → finish r (unlock n w) ≡ (finish r w >>= (λ v w1. gives v (unlock n w1)))

  -- What is let go.

  called_alone : (must : Type 0) (k : Option ℕ) (used : List ℕ) (t : Here) (control : Control) (c : Configuration) (o : RunOutcome (Option Value)) → ((n : ℕ) → Used n used → k ≢ Some n)
      → Ends program (Called program most must k s t control) c o → Ends program (Reached program most (λ (r : Here) (u : Option Value). ⊤) used s t control) c o
  called_alone must k used t control c o apart e = ends_map program o (λ v w r. record {
    slots = r.slots;
    notes = r.notes;
    comes = record { kept = record { by = λ n u. r.kept n (apart n u) }; later = r.later; noted = r.noted; fuel = r.fuel };
    holds = tt;
    leads = r.leads;
  }) e

  let_alone : (p : Point) (ws : made.LocalKinds) (ls : meaning.Locals) (e : Expression) (h : Here) (rest : SilicaTerms) (outer : List Rest) (span : Span) (l : Lowered)
      → Places p ws → LowersExpression (around F p span) p.used e l → IsWellFormedExpression F ws e → Stand (passed p) ls h
      → Ends program (Reached program most (λ (r : Here) (u : Option Value). ⊤) p.used s h (runs rest outer)) (config s h (runs (then_terms l.terms rest) outer)) (operand_of calls f e ls h.world >>= let_go)
  let_alone p ws ls e h rest outer span l placed low is a =
      let zero_used : Used 0 p.used = placed.fixed.by 0 zero_fixed in
      bind program most (operand_of calls f e ls h.world) let_go (within_self p.used) (within_self p.used)
      (operand_from program most calls called s found p.variables ws placed.agree p.used zero_used span ls e l p.used h rest outer low (record { stands = a.stands; visible = a.visible })
      (λ plain. value_runs program most calls called s found p.variables ws placed.agree p.used zero_used span ls e l p.used h rest outer low is plain (within_self p.used) (record { stands = a.stands; visible = a.visible })))
      (λ x t comes m. record { by = record { slots = t.slots; notes = t.notes; comes = record { kept = kept_self p.used t.slots; later = later_self t.world; noted = comes.noted; fuel = comes.fuel }; holds = tt; leads = stays program _ } })

  pub alone_runs : (p : Point) (ws : made.LocalKinds) (ls : meaning.Locals) (e : Expression) (o : Option Kind) (x : LoweredCall) (h : Here) (rest : SilicaTerms) (outer : List Rest) (span : Span)
      → Places p ws → LowersDiscarded (around F p span) p.used o e x → IsWellFormedExpression F ws e → Stand (passed p) ls h
      → Ends program (Reached program most (λ (r : Here) (u : Option Value). ⊤) p.used s h (runs rest outer)) (config s h (runs (then_terms x.terms rest) outer)) (run_alone calls f e ls h.world)
  alone_runs p ws ls (resolved_call receiver contract tx name args sp) None x h rest outer span placed (y, ly, form, is_call, is) is_made a =
      let zero_used : Used 0 p.used = placed.fixed.by 0 zero_fixed in
      let g = called_so (signature_of table contract tx) (λ g. IsCalled F ws receiver contract g × PassTo F ws g.params args) is_made.2 in
      rw (is, join y.terms (one_term form span) rest)
      (bind program most (operands_of calls f args ls h.world) _ (within_self p.used) (within_self p.used)
      (operands_run program most calls called s found p.variables ws placed.agree p.used zero_used span ls args y p.used h (and_term form span rest) outer ly is_made.0 (within_self p.used) (record { stands = a.stands; visible = a.visible }))
      (λ xs t comes m.
      let at_t = at_on program most calls called s found start finish fixed zero_fixed placed.fixed (within_self p.used) a comes in
      called_alone (Answers table contract tx) None p.used t (runs rest outer) _ (started calls f ls receiver contract tx xs t.world) (λ n u. none_some)
      (started_runs program most calls called s found p.variables ws placed.agree p.used zero_used span ls receiver contract tx xs y.operands form None (in_use y.made p.used) t g.0 rest outer is_call g.2.0
      (subst (λ o. IsSomeAnd o (λ d. length d.params ≡ length y.operands)) (sym g.1) (as_many F ws (around F p span) p.used g.0.params args y ly g.2.1)) m (record { stands = at_t.stands; visible = at_t.visible }))))
  alone_runs p ws ls (resolved_call receiver contract tx name args sp) (Some kind) x h rest outer span placed (l, (y, ly, kind2, ek, k, free, form, is_call, isl), is) is_made a =
      let zero_used : Used 0 p.used = placed.fixed.by 0 zero_fixed in
      let g = called_so (signature_of table contract tx) (λ g. IsCalled F ws receiver contract g × PassTo F ws g.params args) is_made.2 in
      rw (is, isl, join y.terms (one_term form span) rest)
      (bind program most (operands_of calls f args ls h.world) _ (within_self p.used) (within_self p.used)
      (operands_run program most calls called s found p.variables ws placed.agree p.used zero_used span ls args y p.used h (and_term form span rest) outer ly is_made.0 (within_self p.used) (record { stands = a.stands; visible = a.visible }))
      (λ xs t comes m.
      let at_t = at_on program most calls called s found start finish fixed zero_fixed placed.fixed (within_self p.used) a comes in
      called_alone (Answers table contract tx) (Some k) p.used t (runs rest outer) _ (started calls f ls receiver contract tx xs t.world) (λ n u e. free_differs k p.used (free_within k (within_use y.made p.used) free) n u (sym (some_same k n e)))
      (started_runs program most calls called s found p.variables ws placed.agree p.used zero_used span ls receiver contract tx xs y.operands form (Some k) (in_use y.made p.used) t g.0 rest outer is_call g.2.0
      (subst (λ o. IsSomeAnd o (λ d. length d.params ≡ length y.operands)) (sym g.1) (as_many F ws (around F p span) p.used g.0.params args y ly g.2.1)) m (record { stands = at_t.stands; visible = at_t.visible }))))
  alone_runs p ws ls (resolved_new contract args sp) (Some kind) x h rest outer span placed (l, (y, ly, k, free, isl), is) is_made a =
      let zero_used : Used 0 p.used = placed.fixed.by 0 zero_fixed in
      let g = called_so (constructor_at table contract) (λ g. PassTo F ws g.params args) is_made.1 in
      rw (is, isl, join y.terms (one_term (new_form k contract y.operands) span) rest)
      (bind program most (operands_of calls f args ls h.world) _ (within_self p.used) (within_self p.used)
      (operands_run program most calls called s found p.variables ws placed.agree p.used zero_used span ls args y p.used h (and_term (new_form k contract y.operands) span rest) outer ly is_made.0 (within_self p.used) (record { stands = a.stands; visible = a.visible }))
      (λ xs t comes m.
      let at_t = at_on program most calls called s found start finish fixed zero_fixed placed.fixed (within_self p.used) a comes in
      called_alone ⊤ (Some k) p.used t (runs rest outer) _ (constructed calls f ls contract xs t.world) (λ n u e. free_differs k p.used (free_within k (within_use y.made p.used) free) n u (sym (some_same k n e)))
      (constructed_runs program most calls called s found p.variables ws placed.agree p.used zero_used span ls contract xs y.operands k (in_use y.made p.used) t rest outer
      (subst (λ o. IsSomeAnd o (λ d. length d.params ≡ length y.operands)) (sym g.1) (as_many F ws (around F p span) p.used g.0.params args y ly g.2)) m (record { stands = at_t.stands; visible = at_t.visible }))))
  alone_runs p ws ls (resolved_new contract args sp) None x h rest outer span placed low is_made a = absurd low
  alone_runs p ws ls (resolved_number z sp) None x h rest outer span placed low is_made a = absurd low
  alone_runs p ws ls (resolved_number z sp) (Some kind) x h rest outer span placed (l, low, is) is_made a = rw is (let_alone p ws ls (resolved_number z sp) h rest outer span l placed low is_made a)
  alone_runs p ws ls (resolved_text z sp) None x h rest outer span placed low is_made a = absurd low
  alone_runs p ws ls (resolved_text z sp) (Some kind) x h rest outer span placed (l, low, is) is_made a = rw is (let_alone p ws ls (resolved_text z sp) h rest outer span l placed low is_made a)
  alone_runs p ws ls (resolved_bool z sp) None x h rest outer span placed low is_made a = absurd low
  alone_runs p ws ls (resolved_bool z sp) (Some kind) x h rest outer span placed (l, low, is) is_made a = rw is (let_alone p ws ls (resolved_bool z sp) h rest outer span l placed low is_made a)
  alone_runs p ws ls (resolved_seen seen sp) None x h rest outer span placed low is_made a = absurd low
  alone_runs p ws ls (resolved_seen seen sp) (Some kind) x h rest outer span placed (l, low, is) is_made a = rw is (let_alone p ws ls (resolved_seen seen sp) h rest outer span l placed low is_made a)
  alone_runs p ws ls (resolved_unary o sign e sp) None x h rest outer span placed low is_made a = absurd low
  alone_runs p ws ls (resolved_unary o sign e sp) (Some kind) x h rest outer span placed (l, low, is) is_made a = rw is (let_alone p ws ls (resolved_unary o sign e sp) h rest outer span l placed low is_made a)
  alone_runs p ws ls (resolved_binary o sign e g sp) None x h rest outer span placed low is_made a = absurd low
  alone_runs p ws ls (resolved_binary o sign e g sp) (Some kind) x h rest outer span placed (l, low, is) is_made a = rw is (let_alone p ws ls (resolved_binary o sign e g sp) h rest outer span l placed low is_made a)
  alone_runs p ws ls (resolved_logical o sign e g sp) None x h rest outer span placed low is_made a = absurd low
  alone_runs p ws ls (resolved_logical o sign e g sp) (Some kind) x h rest outer span placed (l, low, is) is_made a = rw is (let_alone p ws ls (resolved_logical o sign e g sp) h rest outer span l placed low is_made a)

  pub discard_runs : (p : Point) (ws : made.LocalKinds) (ls : meaning.Locals) (h : Here) (rest : SilicaTerms) (outer : List Rest) (value : Expression) (span : Span) (o : Option Kind) (x : LoweredCall)
      → LowersDiscarded (around F p span) p.used o value x → IsWellFormedExpression F ws value → Places p ws → Stand (passed p) ls h
      → Runs (passed p) rest outer h (config s h (runs (then_terms (with_unit span (then_terms x.terms (drops_of x.made span))) rest) outer)) (run calls f (resolved_discard value span) ls h.world)
  discard_runs p ws ls h rest outer value span o x lx is placed a =
      unit_flows program most calls called s found start finish fixed zero_fixed (passed p) (passed p) ls h span (then_terms (then_terms x.terms (drops_of x.made span)) rest) rest outer outer _ placed.fixed a
      (λ w comes at_w.
      rw (join x.terms (drops_of x.made span) rest)
      (then_flows program most calls called s found start finish fixed zero_fixed (run_alone calls f value ls w) _ placed.fixed (alone_runs p ws ls value o x (record h { world = w }) (then_terms (drops_of x.made span) rest) outer span placed lx is at_w)
      (λ u t comes2 none.
      let at_t = at_on program most calls called s found start finish fixed zero_fixed placed.fixed (within_self p.used) at_w comes2 in
      let d = drops_run program most calls called s found start finish fixed zero_fixed (references x.made) p.used span t rest outer (λ m v. (discarded_fresh (around F p span) p.used o value x lx).by m ((references_within x.made).by m v)) in
      let comes3 : Comes table most p.used t (record { slots = d.slots; notes = t.notes; world = t.world }) = record { kept = d.kept; later = later_self t.world; noted = comes2.noted; fuel = comes2.fuel } in
      record {
        by = record {
          by = record {
            slots = d.slots;
            notes = t.notes;
            comes = comes_fewer table most placed.fixed comes3;
            holds = at_on program most calls called s found start finish fixed zero_fixed placed.fixed (within_self p.used) at_t comes3;
            leads = d.leads;
          };
        };
      })))

  -- What ends a body.

  pub return_runs : (finishes : Finishes) (p : Point) (ws : made.LocalKinds) (ls : meaning.Locals) (h : Here) (rest : SilicaTerms) (outer : List Rest) (value : Option Expression) (span : Span) (x : SilicaTerms) (ro : Option ResolvedType)
      → s.signature.result ≡ ro → LowersReturn (around F p span) p.used value x → IsReturned F ws (option_map kind_of_resolved ro) value → Places p ws → Stand (passed p) ls h
      → Runs (passed p) rest outer h (config s h (runs (then_terms (with_unit span x) rest) outer)) (run calls f (resolved_return value span) ls h.world)
  return_runs finishes p ws ls h rest outer None span x None er lx is placed a =
      rw lx (unit_flows program most calls called s found start finish fixed zero_fixed (passed p) (passed p) ls h span (and_term (return_form None) span rest) rest outer outer _ placed.fixed a
      (λ w comes at_w. record { by = record { by = finishes.none (record h { world = w }) span rest outer at_w.stands at_w.kept er } }))
  return_runs finishes p ws ls h rest outer (Some e) span x (Some kind) er (l, lx, is_x) is placed a =
      rw is_x (unit_flows program most calls called s found start finish fixed zero_fixed (passed p) (passed p) ls h span (then_terms (then_terms l.terms (one_term (return_form (Some l.operand)) span)) rest) rest outer outer _ placed.fixed a
      (λ w comes at_w.
      rw (join l.terms (one_term (return_form (Some l.operand)) span) rest)
      (value_then program most calls called s found start finish fixed zero_fixed (passed p) (passed p) ws ls span e l p.used (record h { world = w }) (and_term (return_form (Some l.operand)) span rest) rest outer outer _ (placed_passed (length s.signature.params) fixed placed) lx is.0 (within_self p.used) at_w
      (λ t o comes2 at_t ev. returned t o (finishes.some t l.operand o span rest outer at_t.stands at_t.kept (subst IsSome (sym er) refl) ev)))))
    where
      returned : (t : Here) (o : Option Value) → Ends program (Left program most calls called s found start finish fixed zero_fixed outer t) (config s t (runs (and_term (return_form (Some l.operand)) span rest) outer)) (with_some o (λ v. finish (Some v) t.world))
          → Runs (passed p) rest outer t (config s t (runs (and_term (return_form (Some l.operand)) span rest) outer)) (with_some o (λ v. gives (returns (Some v)) t.world))
      returned t None r = record { by = r.by }
      returned t (Some v) r = record { by = record { by = r } }
  return_runs finishes p ws ls h rest outer None span x (Some kind) er lx is placed a = absurd is
  return_runs finishes p ws ls h rest outer (Some e) span x None er lx is placed a = absurd is

  text_step : (t : Here) (from : Operand) (v : Value) (span : Span) (rest : SilicaTerms) (outer : List Rest) → value_in (read table t (located from)) ≡ Some v
      → step program (config s t (runs (and_term (revert_form from) span rest) outer)) ≡ with_text v (λ bytes. silica.abort_step (by_revert bytes) t.world)
  text_step t from v span rest outer e = read_one (read table t (located from)) v (λ u. with_text u (λ bytes. silica.abort_step (by_revert bytes) t.world)) e

  reverts : (p : Point) (t : Here) (from : Operand) (o : Option Value) (span : Span) (rest rest2 : SilicaTerms) (outer outer2 : List Rest) → value_in (read table t (located from)) ≡ o
      → Runs (passed p) rest2 outer2 t (config s t (runs (and_term (revert_form from) span rest) outer)) (with_some o (λ v. abort_with v t.world))
  reverts p t from None span rest rest2 outer outer2 e = record { by = one_step program (not_there (read table t (located from)) _ e) }
  reverts p t from (Some (text_value bytes)) span rest rest2 outer outer2 e = record { by = one_step program (text_step t from (text_value bytes) span rest outer e) }
  reverts p t from (Some (int_value z)) span rest rest2 outer outer2 e = record { by = one_step program (text_step t from (int_value z) span rest outer e) }
  reverts p t from (Some (bool_value z)) span rest rest2 outer outer2 e = record { by = one_step program (text_step t from (bool_value z) span rest outer e) }
  reverts p t from (Some (reference z)) span rest rest2 outer outer2 e = record { by = one_step program (text_step t from (reference z) span rest outer e) }

  pub revert_runs : (p : Point) (ws : made.LocalKinds) (ls : meaning.Locals) (h : Here) (rest : SilicaTerms) (outer : List Rest) (text : Option Expression) (span : Span) (x : SilicaTerms)
      → LowersRevert (around F p span) p.used text x → IfSome text (λ e. IsWellFormedExpression F ws e × made.ServesAs F ws Text e) → Places p ws → Stand (passed p) ls h
      → Runs (passed p) rest outer h (config s h (runs (then_terms (with_unit span x) rest) outer)) (run calls f (resolved_revert text span) ls h.world)
  revert_runs p ws ls h rest outer None span x (k, free, is_x) is placed a =
      rw is_x (unit_flows program most calls called s found start finish fixed zero_fixed (passed p) (passed p) ls h span (and_term (const_form k (TextConstant [])) span (and_term (revert_form (slot_operand k span)) span rest)) rest outer outer _ placed.fixed a
      (λ w comes at_w.
      let t : Here = record { slots = at h.slots k (Some (constant_cell (TextConstant []))); notes = h.notes; world = w } in
      record {
        by = leads_on program (one_step program {n = goes (config s t (runs (and_term (revert_form (slot_operand k span)) span rest) outer))} refl)
            (one_step program (text_step t (slot_operand k span) (text_value []) span rest outer (ap value_in (at_same h.slots k (Some (constant_cell (TextConstant [])))))));
      }))
  revert_runs p ws ls h rest outer (Some e) span x (l, lx, is_x) is placed a =
      rw is_x (unit_flows program most calls called s found start finish fixed zero_fixed (passed p) (passed p) ls h span (then_terms (then_terms l.terms (one_term (revert_form l.operand) span)) rest) rest outer outer _ placed.fixed a
      (λ w comes at_w.
      rw (join l.terms (one_term (revert_form l.operand) span) rest)
      (value_then program most calls called s found start finish fixed zero_fixed (passed p) (passed p) ws ls span e l p.used (record h { world = w }) (and_term (revert_form l.operand) span rest) rest outer outer _ (placed_passed (length s.signature.params) fixed placed) lx is.0 (within_self p.used) at_w
      (λ t o comes2 at_t ev. reverts p t l.operand o span rest rest outer outer ev))))

  -- Disowning and asserting.

  disown_from : (p : Point) (ws : made.LocalKinds) (ls : meaning.Locals) (t : Here) (rest : SilicaTerms) (outer : List Rest) (span : Span) (from : Operand) (o : Option Value) → Places p ws → Stand (passed p) ls t
      → value_in (read table t (located from)) ≡ o
      → Runs (passed p) rest outer t (config s t (runs (and_term (disown_form from) span rest) outer)) (with_some (option_and_then referred o) (λ n. gives (goes_on ls) (mark_disowned n t.world)))
  disown_from p ws ls t rest outer span from None placed a e = record { by = one_step program (not_there (read table t (located from)) _ e) }
  disown_from p ws ls t rest outer span from (Some v) placed a e =
      let x = there (read table t (located from)) v e in
      by_value v x.0 x.2 (ap (λ c. if_there c (λ x. disowns_object (located from) x t (λ n. goes (config s n (runs rest outer))))) x.1)
    where
      by_value : (v : Value) (x : Cell) → x.value ≡ v → step program (config s t (runs (and_term (disown_form from) span rest) outer)) ≡ disowns_object (located from) x t (λ n. goes (config s n (runs rest outer)))
          → Runs (passed p) rest outer t (config s t (runs (and_term (disown_form from) span rest) outer)) (with_some (referred v) (λ n. gives (goes_on ls) (mark_disowned n t.world)))
      by_value (int_value z) x ev st = record { by = one_step program (st ∙ ap (λ u. if_there (referred u) (λ m. goes (config s (set_permission (located from) unowned (record t { world = mark_disowned m t.world })) (runs rest outer)))) ev) }
      by_value (bool_value z) x ev st = record { by = one_step program (st ∙ ap (λ u. if_there (referred u) (λ m. goes (config s (set_permission (located from) unowned (record t { world = mark_disowned m t.world })) (runs rest outer)))) ev) }
      by_value (text_value z) x ev st = record { by = one_step program (st ∙ ap (λ u. if_there (referred u) (λ m. goes (config s (set_permission (located from) unowned (record t { world = mark_disowned m t.world })) (runs rest outer)))) ev) }
      by_value (reference n) x ev st =
          let t1 : Here = record t { world = mark_disowned n t.world } in
          let alike = permission_alike (located from) unowned t1 in
          let quiet = quiet_disowned n t.world in
          let comes : Comes table most p.used t (record { slots = (set_permission (located from) unowned t1).slots; notes = (set_permission (located from) unowned t1).notes; world = mark_disowned n t.world }) =
          record { kept = record { by = λ m u. alike.slots m }; later = quiet_later quiet; noted = noted_quiet a.stands.noted quiet alike.notes; fuel = subst (λ i. i ≤ most) (sym quiet.fuel) a.stands.fuel } in
          record {
            by = record {
              by = record {
                slots = (set_permission (located from) unowned t1).slots;
                notes = (set_permission (located from) unowned t1).notes;
                comes = comes_fewer table most placed.fixed comes;
                holds = at_on program most calls called s found start finish fixed zero_fixed placed.fixed (within_self p.used) a comes;
                leads = one_step program (st ∙ ap (λ u. if_there (referred u) (λ m. goes (config s (set_permission (located from) unowned (record t { world = mark_disowned m t.world })) (runs rest outer)))) ev
                    ∙ ap (λ w. goes (config s (record { slots = (set_permission (located from) unowned t1).slots; notes = (set_permission (located from) unowned t1).notes; world = w }) (runs rest outer))) (moved_world program most (located from) unowned t1));
              };
            };
          }

  pub disown_runs : (p : Point) (ws : made.LocalKinds) (ls : meaning.Locals) (h : Here) (rest : SilicaTerms) (outer : List Rest) (subject : SeenAt) (span : Span) (o : Operand)
      → IsNamed (around F p span) subject o → Places p ws → Stand (passed p) ls h
      → Runs (passed p) rest outer h (config s h (runs (then_terms (with_unit span (one_term (disown_form o) span)) rest) outer)) (run calls f (resolved_disown subject span) ls h.world)
  disown_runs p ws ls h rest outer subject span o (place, ep, eo) placed a =
      rw eo (unit_flows program most calls called s found start finish fixed zero_fixed (passed p) (passed p) ls h span (and_term (disown_form (operand place subject.span)) span rest) rest outer outer _ placed.fixed a
      (λ w comes at_w.
      disown_from p ws ls (record h { world = w }) rest outer span (operand place subject.span) (value_seen f ls w subject.of) placed at_w
      (name_read table most s p.variables p.used ls (record h { world = w }) subject.of place found at_w.stands at_w.visible ep)))

  pub assert_runs : (p : Point) (ws : made.LocalKinds) (ls : meaning.Locals) (h : Here) (rest : SilicaTerms) (outer : List Rest) (subject : SeenAt) (perm : Perm) (span : Span) (o : Operand)
      → Places p ws → Stand (passed p) ls h
      → Runs (passed p) rest outer h (config s h (runs (then_terms (with_unit span (one_term (assert_form o perm) span)) rest) outer)) (run calls f (resolved_assert subject perm span) ls h.world)
  assert_runs p ws ls h rest outer subject perm span o placed a =
      unit_flows program most calls called s found start finish fixed zero_fixed (passed p) (passed p) ls h span (and_term (assert_form o perm) span rest) rest outer outer _ placed.fixed a
      (λ w comes at_w. record { by = record { by = record { slots = h.slots; notes = h.notes; comes = comes_self table most fixed at_w.stands; holds = at_w; leads = one_step program refl } } })
