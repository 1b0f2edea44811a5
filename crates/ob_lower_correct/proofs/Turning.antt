-- `while` by its terms: turn after turn.
use Rattle.std.proofs.Common.{◌≡◌, ℕ, zero, suc, ◌<◌, true, false, List, ◌∷◌, length, Option, Some, None, refl, sym, ap, ◌∙◌, subst, arith, inl, inr}
use Rattle.ob_base.specs.declared.fault.Span.{Span}
use Rattle.ob_table.specs.Expressions.{Expression}
use Rattle.ob_table.specs.Statements.{Block}
use Rattle.ob_table.specs.Tables.{ClassTable, contract_at}
use Rattle.ob_table.specs.declared.seen.Kind.TheVariants.{Bool as BoolKind}
use Rattle.ob_table_spec.specs.WellFormed as made
use Rattle.ob_table_spec.specs.WellFormed.{IsValue}
use Rattle.ob_heap_spec.specs.Values.{Value, int_value, bool_value, text_value, reference}
use Rattle.ob_heap_spec.specs.Worlds.{World, RunOutcome, gives, ◌>>=◌, with_some}
use Rattle.ob_source_meaning.specs.Frames as meaning
use Rattle.ob_source_meaning.specs.Frames.{Calls, Flow, goes_on, returns}
use Rattle.ob_source_meaning.specs.Expressions.{value_of}
use Rattle.ob_source_meaning.specs.Statements.{after, choose, turns, run_block}
use Rattle.ob_silica.specs.Terms.{loop_form, SilicaTerms, no_terms, and_term, then_terms}
use Rattle.ob_silica_places.specs.Places.{location_of, located}
use Rattle.ob_silica_steps.specs.Cells.{value_in}
use Rattle.ob_silica_steps.specs.Configurations.{SilicaProgram, SlotCells, plain_end, loop_end, Rest, runs, Configuration, NextStep, goes}
use Rattle.ob_silica_steps.specs.Here.{Here, read}
use Rattle.ob_silica_steps.specs.Steps.{step}
use Rattle.ob_silica_steps.specs.Straight.{with_truth}
use Rattle.ob_lower_spec.specs.Points.{around, references, drops_of, Point, passed}
use Rattle.ob_lower_spec.specs.ExpressionTerms.{Lowered, LowersExpression}
use Rattle.ob_lower_spec.specs.StatementTerms.{turn_of}
use Rattle.ob_lower_correct.proofs.Slots.{Used, free_differs, within_self}
use Rattle.ob_lower_correct.proofs.Runs.{Ends, one_step, ends_map, ends_later, ends_then, none_after}
use Rattle.ob_lower_correct.proofs.Standing.{same_value, Setting, frame_in, made_in, config, Comes, later_self, kept_fewer, comes_self, comes_fewer}
use Rattle.ob_lower_correct.proofs.Calling.{CallsRun}
use Rattle.ob_lower_correct.proofs.Flows.{Placed, At, Flows, flows_closed, flows_from, step_flows, at_on, fewer_flows, value_then, drops_run}
use Rattle.ob_lower_correct.proofs.Fresh.{Value as Apart, expression_fresh, references_within}
use Rattle.ob_lower_correct.proofs.Values.{read_one, not_there}
use Rattle.ob_lower_correct.proofs.Setting.{placed_passed}
use Rattle.ob_lower_correct.proofs.Branches.{plain_ends, branch_runs}
use Rattle.ob_lower_correct.proofs.Choosing.{no_reference, apart}

module _ (program : SilicaProgram) (most : ℕ) (calls : Calls) (called : CallsRun program most calls) (s : Setting) (found : contract_at program.table s.here ≡ Some s.own)
    (start : SlotCells) (finish : Option Value → World → RunOutcome (Option Value)) (fixed : List ℕ) (zero_fixed : Used 0 fixed) where
  abbrev table : ClassTable
  table = program.table

  abbrev f : meaning.SourceFrame
  f = frame_in program.table s

  abbrev F : made.StaticFrame
  F = made_in program.table s

  abbrev Stand : Point → meaning.Locals → Here → Type 0
  Stand p ls h = At program most calls called s found start finish fixed zero_fixed p ls h

  abbrev Runs : Point → SilicaTerms → List Rest → Here → Configuration → RunOutcome Flow → Type 0
  Runs q rest outer h c o = Ends program (Flows program most calls called s found start finish fixed zero_fixed q rest outer h) c o

  abbrev Places : Point → made.LocalKinds → Type 0
  Places p ws = Placed (length s.signature.params) fixed p ws

  module _ (p : Point) (ws : made.LocalKinds) (rest : SilicaTerms) (outer : List Rest) (condition : Expression) (block : Block) (span end : Span) (c : Lowered) (x : SilicaTerms)
      (low : LowersExpression (around F p span) p.used condition c) (ok : IsValue F ws BoolKind condition) (placed : Places p ws)
      (run_x : (us : meaning.Locals) (t : Here) (around : List Rest) → Stand (passed p) us t → Runs (passed p) no_terms around t (config s t (runs x around)) (run_block calls f block us t.world)) where
    -- the loop and what is after it, the rest of its first part, and the rest of its body
    abbrev again : SilicaTerms
    again = and_term (loop_form (turn_of span c) c.operand x end) end rest

    abbrev first_rest : Rest
    first_rest = record { terms = rest; ends = loop_end (turn_of span c) c.operand x end }

    abbrev body_rest : Rest
    body_rest = record { terms = again; ends = plain_end }

    abbrev turns_from : ℕ → meaning.Locals → World → RunOutcome Flow
    turns_from n = turns n (value_of calls f condition) (run_block calls f block)

    -- what a turn does once its condition has a value
    abbrev turn : ℕ → meaning.Locals → World → Value → RunOutcome Flow
    turn n us w v = choose v (run_block calls f block us w >>= (λ flow w2. after flow w2 (turns_from n))) (gives (goes_on us) w)

    -- where the first part is at its end
    abbrev ended : Here → Configuration
    ended t = config s t (runs no_terms (first_rest ∷ outer))

    abbrev by_truth : Here → Value → NextStep
    by_truth t v = with_truth v (goes (config s t (runs x (body_rest ∷ outer)))) (goes (config s t (runs rest outer)))

    -- the turns with so many units at most
    abbrev Turns : ℕ → Type 0
    Turns n = (us : meaning.Locals) (t : Here) → t.world.fuel < n → Stand (passed p) us t → Runs (passed p) rest outer t (config s t (runs again outer)) (turns_from n us t.world)

    -- the block has come to its end, or has returned
    turned : (n : ℕ) (t : Here) (d : Configuration) → Turns n → t.world.fuel < n
        → (flow : Flow) (w : World) → Flows program most calls called s found start finish fixed zero_fixed (passed p) again outer t flow w d → Runs (passed p) rest outer t d (after flow w (turns_from n))
    turned n t d next few (goes_on us) w r =
        let t2 : Here = record { slots = r.by.slots; notes = r.by.notes; world = w } in
        let o = turns_from n us w in
        ends_later program o (flows_closed program most calls called s found start finish fixed zero_fixed) r.by.leads (ends_map program o (λ u v y. flows_from program most calls called s found start finish fixed zero_fixed r.by.comes u v _ y)
        (next us t2 (omega (arith, few, r.by.comes.later.fuel)) r.by.holds))
    turned n t d next few (returns v) w r = record { by = record { by = r.by } }

    chosen : (n : ℕ) (us : meaning.Locals) (t : Here) (v : Value) → Turns n → t.world.fuel < n → Stand (passed p) us t → step program (ended t) ≡ by_truth t v
        → Runs (passed p) rest outer t (ended t) (turn n us t.world v)
    chosen n us t (bool_value true) next few at_t st =
        ends_then program (run_block calls f block us t.world) _
        (branch_runs program most calls called s found start finish fixed zero_fixed p again outer t t t.world plain_end x (ended t) (λ w. run_block calls f block us w) (plain_ends program most calls called s found start finish fixed zero_fixed) placed.fixed (comes_self table most fixed at_t.stands) st (run_x us t (body_rest ∷ outer) at_t))
        (λ flow w r. turned n t (ended t) next few flow w r)
    chosen n us t (bool_value false) next few at_t st =
        record { by = record { by = record { slots = t.slots; notes = t.notes; comes = comes_self table most fixed at_t.stands; holds = at_t; leads = one_step program st } } }
    chosen n us t (int_value z) next few at_t st = record { by = one_step program st }
    chosen n us t (text_value z) next few at_t st = record { by = one_step program st }
    chosen n us t (reference z) next few at_t st = record { by = one_step program st }

    reads : (n : ℕ) (us : meaning.Locals) (t : Here) (o : Option Value) → Turns n → t.world.fuel < n → Stand (passed p) us t → value_in (read table t (located c.operand)) ≡ o
        → Runs (passed p) rest outer t (ended t) (with_some o (turn n us t.world))
    reads n us t None next few at_t er = record { by = one_step program (not_there (read table t (located c.operand)) _ er) }
    reads n us t (Some v) next few at_t er = chosen n us t v next few at_t (read_one (read table t (located c.operand)) v (by_truth t) er)

    stands_apart : Apart c
    stands_apart = apart F p.variables ws placed.agree span condition p.used c low ok.0 (no_reference F p.variables ws placed.agree span condition ok.1)

    dropped : (n : ℕ) (us : meaning.Locals) (t : Here) (o : Option Value) → Turns n → t.world.fuel < n → Stand (passed p) us t → value_in (read table t (located c.operand)) ≡ o
        → Runs (passed p) rest outer t (config s t (runs (drops_of c.made span) (first_rest ∷ outer))) (with_some o (turn n us t.world))
    dropped n us t o next few at_t er =
        let d = drops_run program most calls called s found start finish fixed zero_fixed (references c.made) (stands_apart.slot ∷ p.used) span t no_terms (first_rest ∷ outer)
        (λ k u. (free_differs stands_apart.slot (references c.made) stands_apart.apart k u, (expression_fresh (around F p span) p.used condition c low).by k ((references_within c.made).by k u))) in
        let t2 : Here = record { slots = d.slots; notes = t.notes; world = t.world } in
        let comes : Comes table most p.used t t2 = record { kept = kept_fewer (record { by = λ k u. inr u }) d.kept; later = later_self t.world; noted = at_t.stands.noted; fuel = at_t.stands.fuel } in
        let here_too : value_in (read table t2 (located c.operand)) ≡ o =
        ap (λ q. value_in (read table t2 (location_of q))) stands_apart.place ∙ same_value (d.slots stands_apart.slot) (t.slots stands_apart.slot) (d.kept.by stands_apart.slot (inl refl))
        ∙ sym (ap (λ q. value_in (read table t (location_of q))) stands_apart.place) ∙ er in
        let o1 = with_some o (turn n us t.world) in
        subst (λ ts. Runs (passed p) rest outer t (config s t (runs ts (first_rest ∷ outer))) o1) (none_after (drops_of c.made span))
        (ends_later program o1 (flows_closed program most calls called s found start finish fixed zero_fixed) d.leads (ends_map program o1 (λ u v r. flows_from program most calls called s found start finish fixed zero_fixed (comes_fewer table most placed.fixed comes) u v _ r)
        (reads n us t2 o next few (at_on program most calls called s found start finish fixed zero_fixed placed.fixed (within_self p.used) at_t comes) here_too)))

    -- a turn takes a unit, so the bound is above the units left
    pub turns_run : (n : ℕ) → Turns n
    turns_run zero us t few a = absurd (omega (arith, few))
    turns_run (suc n) us t few a =
        step_flows program most calls called s found start finish fixed zero_fixed {control = runs (turn_of span c) (first_rest ∷ outer)} (turns_from (suc n) us t.world) (comes_self table most fixed a.stands) refl
        (fewer_flows program most calls called s found start finish fixed zero_fixed (passed p) (passed p) us t span (then_terms c.terms (drops_of c.made span)) rest (first_rest ∷ outer) outer _ placed.fixed a
        (λ w fewer comes at_w.
        value_then program most calls called s found start finish fixed zero_fixed (passed p) (passed p) ws us span condition c p.used (record t { world = w }) (drops_of c.made span) rest (first_rest ∷ outer) outer _ (placed_passed (length s.signature.params) fixed placed) low ok.0 (within_self p.used) at_w
        (λ r o comes2 at_r er. dropped n us r o (turns_run n) (omega (arith, few, fewer, comes2.later.fuel)) at_r er)))
