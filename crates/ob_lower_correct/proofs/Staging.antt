-- Staged statements and changes of state.
use Rattle.std.proofs.Common.{◌≡◌, ℕ, List, [], ◌∷◌, ◌++◌, length, Option, Some, refl}
use Rattle.ob_base.specs.declared.fault.Span.{Span}
use Rattle.ob_base.specs.declared.id.StateId.{StateId}
use Rattle.ob_table.specs.Statements.{GivenField, resolved_stage}
use Rattle.ob_table.specs.Tables.{ClassTable, contract_at, field_at}
use Rattle.ob_table_spec.specs.WellFormed as made
use Rattle.ob_table_spec.specs.WellFormed.{kind_of_resolved, IsWellFormedExpression}
use Rattle.ob_heap_spec.specs.Values.{Value}
use Rattle.ob_heap_spec.specs.Worlds.{World, RunOutcome}
use Rattle.ob_source_meaning.specs.Frames as meaning
use Rattle.ob_source_meaning.specs.Frames.{Calls, Flow, SourceGiven}
use Rattle.ob_source_meaning.specs.Expressions.{operand_of}
use Rattle.ob_source_meaning.specs.Statements.{run}
use Rattle.ob_source_meaning.specs.Fields.{given_of}
use Rattle.ob_silica.specs.Terms.{SilicaTerms, then_terms}
use Rattle.ob_silica.specs.declared.place.Given as silica
use Rattle.ob_silica_steps.specs.Configurations.{SilicaProgram, SlotCells, Rest, runs, Configuration}
use Rattle.ob_silica_steps.specs.Here.{Here}
use Rattle.ob_lower_spec.specs.Forms.{SlotVariable, given_from}
use Rattle.ob_lower_spec.specs.Points.{with_row, around, Temporary, in_use, staged_row, Point}
use Rattle.ob_lower_spec.specs.ExpressionTerms.{Lowered, LowersExpression}
use Rattle.ob_lower_spec.specs.GivenTerms.{LoweredGiven, LowersGiven, with_unit}
use Rattle.ob_lower_correct.proofs.Slots.{Used, Within, within_self, within_on, within_use}
use Rattle.ob_lower_correct.proofs.Runs.{Ends, stays, join}
use Rattle.ob_lower_correct.proofs.Standing.{Setting, frame_in, made_in, config, Stands, Reached, later_self, kept_self, kept_fewer, stands_on, comes_self, bind}
use Rattle.ob_lower_correct.proofs.Names.{Visible, visible_on}
use Rattle.ob_lower_correct.proofs.Calling.{CallsRun}
use Rattle.ob_lower_correct.proofs.Operands.{means_on, operand_from}
use Rattle.ob_lower_correct.proofs.Expressions.{value_runs}
use Rattle.ob_lower_correct.proofs.Flows.{Gave, Placed, At, Flows, then_flows, at_on, unit_flows}
use Rattle.ob_lower_correct.proofs.Expressions.{called_so}
use Rattle.ob_lower_correct.proofs.Flows.{gave_on, gave_more}
use Rattle.ob_lower_correct.proofs.Slots.{within_first, within_second}

module _ (program : SilicaProgram) (most : ℕ) (calls : Calls) (called : CallsRun program most calls) (s : Setting) (found : contract_at program.table s.here ≡ Some s.own)
    (start : SlotCells) (finish : Option Value → World → RunOutcome (Option Value)) (fixed : List ℕ) (zero_fixed : Used 0 fixed) where
  abbrev table : ClassTable
  table = program.table

  abbrev f : meaning.SourceFrame
  f = frame_in program.table s

  abbrev F : made.StaticFrame
  F = made_in program.table s

  abbrev Stand : Point → meaning.Locals → Here → Type 0
  Stand p ls h = At program most calls called s found start finish fixed zero_fixed p ls h

  abbrev Runs : Point → SilicaTerms → List Rest → Here → Configuration → RunOutcome Flow → Type 0
  Runs q rest outer h c o = Ends program (Flows program most calls called s found start finish fixed zero_fixed q rest outer h) c o

  abbrev Places : Point → made.LocalKinds → Type 0
  Places p ws = Placed (length s.signature.params) fixed p ws

  pub visible_staged : {vs : List SlotVariable} {used : List ℕ} {ls : meaning.Locals} {t : SlotCells} {staged : List SourceGiven} → Visible vs used ls t → Visible vs used (record { variables = ls.variables; staged = staged }) t
  visible_staged v = record { by = λ n k e. let h = v.by n k e in record { variable = h.variable; is = h.is; kind = h.kind; inside = h.inside; apart = h.apart; value = h.value; noted = h.noted } }

  -- a field's value is staged
  pub stage_runs : (p : Point) (ws : made.LocalKinds) (ls : meaning.Locals) (h : Here) (rest : SilicaTerms) (outer : List Rest) (state : StateId) (given : GivenField) (span first : Span) (givens : List silica.Given) (made : List Temporary) (x : Lowered)
      → LowersExpression (around F p first) (in_use made p.used) given.value x → IsWellFormedExpression F ws given.value → Places (with_row p (staged_row first givens made)) ws → Stand (with_row p (staged_row first givens made)) ls h
      → Runs (with_row p (staged_row first (givens ++ given_from given x.operand ∷ []) (made ++ x.made))) rest outer h (config s h (runs (then_terms (with_unit first x.terms) rest) outer)) (run calls f (resolved_stage state given span) ls h.world)
  stage_runs p ws ls h rest outer state given span first givens made x lx is placed a =
      let q : Point = with_row p (staged_row first (givens ++ given_from given x.operand ∷ []) (made ++ x.made)) in
      let zero_used : Used 0 p.used = placed.fixed.by 0 zero_fixed in
      let within : Within p.used (in_use made p.used) = within_use made p.used in
      unit_flows program most calls called s found start finish fixed zero_fixed (with_row p (staged_row first givens made)) q ls h first (then_terms x.terms rest) rest outer outer _ placed.fixed a
      (λ w comes at_w.
      let h1 : Here = record h { world = w } in
      then_flows program most calls called s found start finish fixed zero_fixed (operand_of calls f given.value ls w) _ (within_on placed.fixed within)
      (operand_from program most calls called s found p.variables ws placed.agree p.used zero_used first ls given.value x (in_use made p.used) h1 rest outer lx (record { stands = at_w.stands; visible = at_w.visible })
      (λ plain. value_runs program most calls called s found p.variables ws placed.agree p.used zero_used first ls given.value x (in_use made p.used) h1 rest outer lx is plain within (record { stands = at_w.stands; visible = at_w.visible })))
      (λ v t comes2 m.
      let at_t : Stand (with_row p (staged_row first givens made)) ls t = at_on program most calls called s found start finish fixed zero_fixed placed.fixed (within_self (in_use made p.used)) at_w comes2 in
      record {
        by = record {
          by = record {
            slots = t.slots;
            notes = t.notes;
            comes = comes_self table most fixed at_t.stands;
            holds = record {
              stands = at_t.stands;
              visible = visible_staged at_t.visible;
              row = gave_more ls.staged ((given.field.0, v) ∷ []) givens (given_from given x.operand ∷ [])
                  (gave_on ls.staged givens at_t.row (within_first made x.made p.used) (kept_self (in_use made p.used) t.slots))
                  (record { by = (refl, means_on v m (within_second made x.made p.used) (kept_self (in_use x.made (in_use made p.used)) t.slots), tt) });
              kept = at_t.kept;
            };
            leads = stays program _;
          };
        };
      }))

  -- given fields, from left to right
  pub given_runs : (p : Point) (ws : made.LocalKinds) (ls : meaning.Locals) (place : Span) (row : List ℕ) (gs : List GivenField) (used : List ℕ) (l : LoweredGiven) (h : Here) (rest : SilicaTerms) (outer : List Rest)
      → Places p ws → LowersGiven (around F p place) used gs l → made.AreGiven F ws row gs → Within p.used used → Stands table most s h → Visible p.variables p.used ls h.slots
      → Ends program (Reached program most (λ t xs. Gave p.variables xs l.given (in_use l.made used) t) used s h (runs rest outer)) (config s h (runs (then_terms l.terms rest) outer)) (given_of calls f gs ls h.world)
  given_runs p ws ls place row [] used l h rest outer placed is made w st vis =
      rw is (record { by = record { slots = h.slots; notes = h.notes; comes = comes_self table most used st; holds = record { by = tt }; leads = stays program _ } })
  given_runs p ws ls place row (g ∷ gs) used l h rest outer placed (x, lx, y, ly, is) ok w st vis =
      let zero_used : Used 0 p.used = placed.fixed.by 0 zero_fixed in
      let field = called_so (field_at s.own g.field) (λ d. made.IsValue F ws (kind_of_resolved d.of) g.value) ok.0.1 in
      rw (is, join x.terms y.terms rest)
      (bind program most (operand_of calls f g.value ls h.world) _ (within_self used) (within_self used)
      (operand_from program most calls called s found p.variables ws placed.agree p.used zero_used place ls g.value x used h (then_terms y.terms rest) outer lx (record { stands = st; visible = vis })
      (λ plain. value_runs program most calls called s found p.variables ws placed.agree p.used zero_used place ls g.value x used h (then_terms y.terms rest) outer lx field.2.0 plain w (record { stands = st; visible = vis })))
      (λ v t comes m.
      let st1 = stands_on table most (w.by 0 zero_used) st comes in
      let vis1 = visible_on vis (kept_fewer w comes.kept) in
      bind program most (given_of calls f gs ls t.world) _ (within_use x.made used) (within_self used)
      (given_runs p ws ls place (row ++ g.field.0 ∷ []) gs (in_use x.made used) y t rest outer placed ly ok.1 (within_on w (within_use x.made used)) st1 vis1)
      (λ us t2 comes2 ms. record {
        by = record {
          slots = t2.slots;
          notes = t2.notes;
          comes = record { kept = kept_self used t2.slots; later = later_self t2.world; noted = comes2.noted; fuel = comes2.fuel };
          holds = record { by = (refl, means_on v m (within_first x.made y.made used) comes2.kept, (gave_on us y.given ms (within_second x.made y.made used) (kept_self (in_use y.made (in_use x.made used)) t2.slots)).by) };
          leads = stays program _;
        };
      })))
