-- Statements, blocks and lists of statements by their terms.
use Rattle.std.proofs.Common.{◌≡◌, ℕ, suc, Bool, true, false, List, [], ◌∷◌, ◌++◌, length, Option, Some, None, refl, sym, ap, ◌∙◌, subst, true≢false, ◌⊎◌, inl, inr, arith}
use Rattle.std.proofs.lemmas.Bool.{ne_eqb}
use Rattle.std.specs.Prelude.{nat_eq, if◌then◌else◌}
use Rattle.ob_base.specs.declared.fault.Span.{Span}
use Rattle.ob_base.specs.declared.id.StateId.{StateId}
use Rattle.ob_table.specs.Statements.{Statement, resolved_declare, resolved_assign, resolved_discard, resolved_return, resolved_revert, resolved_disown, resolved_assert, Statements, and_statement}
use Rattle.ob_table.specs.Tables.{ClassTable, contract_at, field_at}
use Rattle.ob_table.specs.declared.seen.Kind.{Kind}
use Rattle.ob_table_spec.specs.WellFormed as made
use Rattle.ob_table_spec.specs.WellFormed.{local_kind, kind_of_seen, kind_of_resolved, IsWellFormedExpression}
use Rattle.ob_heap_spec.specs.Values.{Value}
use Rattle.ob_heap_spec.specs.Worlds.{World, RunOutcome, ◌>>=◌}
use Rattle.ob_source_meaning.specs.Frames as meaning
use Rattle.ob_source_meaning.specs.Frames.{Calls, Flow, goes_on, returns}
use Rattle.ob_heap_spec.specs.GoingWrong.{is_row}
use Rattle.ob_source_meaning.specs.Statements.{run}
use Rattle.ob_silica.specs.Terms.{SilicaTerms, no_terms, then_terms}
use Rattle.ob_silica_steps.specs.Configurations.{SilicaProgram, SlotCells, Rest, runs, Configuration}
use Rattle.ob_silica_steps.specs.Here.{Here}
use Rattle.ob_silica_places.specs.Known.{at}
use Rattle.ob_silica_steps.specs.Steps.{step}
use Rattle.ob_lower_spec.specs.Forms.{drops, SlotVariable, locals_of, slot_of, refused_at, given_from, block_end, join_of}
use Rattle.ob_lower_spec.specs.Points.{around, declares, IsFree, in_use, StagedRow, no_row, staged_row, refused_row, made_before, Point, passed}
use Rattle.ob_lower_spec.specs.ExpressionTerms.{kind_around}
use Rattle.ob_lower_spec.specs.GivenTerms.{with_unit}
use Rattle.ob_lower_spec.specs.StatementTerms.{ended_by, LowersStatement}
use Rattle.ob_lower_correct.proofs.Slots.{Used, free_within, Within, within_self}
use Rattle.ob_lower_correct.proofs.Runs.{Ends, stays, leads_on, one_step, ends_map, ends_later, ends_then, join, none_after}
use Rattle.ob_lower_correct.proofs.Standing.{Setting, frame_in, made_in, config, Comes, later_self, none_some, comes_self, comes_on, comes_fewer}
use Rattle.ob_lower_correct.proofs.Calling.{CallsRun}
use Rattle.ob_lower_correct.proofs.Fresh.{Fresh}
use Rattle.ob_lower_correct.proofs.Flows.{Gave, RowStands, RowOpen, Placed, At, Flows, flows_closed, flows_from, at_on, drops_run}
use Rattle.ob_lower_correct.proofs.Fresh.{expression_fresh}
use Rattle.ob_lower_correct.proofs.Setting.{placed_passed}
use Rattle.ob_lower_correct.proofs.Expressions.{called_so}
use Rattle.ob_table.specs.Statements.{GivenField, resolved_stage, resolved_change, resolved_test, resolved_if, resolved_while, no_statements, Block, Otherwise}
use Rattle.ob_table_spec.specs.WellFormed.{locals_after, IsStatement, IsValue}
use Rattle.ob_heap_spec.specs.GoingWrong.{is_followed}
use Rattle.ob_source_meaning.specs.Statements.{run_block, run_otherwise}
use Rattle.ob_silica.specs.Terms.{change_form}
use Rattle.ob_silica_steps.specs.Configurations.{stuck}
use Rattle.ob_lower_spec.specs.Points.{span_of_terms, given_before, with_row}
use Rattle.ob_lower_spec.specs.GivenTerms.{LoweredGiven, LowersGiven, LowersStage}
use Rattle.ob_lower_correct.proofs.Setting.{placed_declares}
use Rattle.ob_lower_correct.proofs.Fresh.{Fresh, fresh_append}
use Rattle.ob_lower_correct.proofs.Choosing.{accepted, refused, rest_of_row as after_row, if_runs}
use Rattle.ob_lower_correct.proofs.Turning.{turns_run}
use Rattle.ob_lower_correct.proofs.Setting.{row_passed, declare_runs}
use Rattle.ob_lower_correct.proofs.Assigning.{assign_runs}
use Rattle.ob_lower_correct.proofs.Ending.{Finishes, discard_runs, return_runs, revert_runs, disown_runs, assert_runs}
use Rattle.ob_lower_correct.proofs.Staging.{stage_runs}
use Rattle.ob_lower_correct.proofs.Changing.{change_runs}
use Rattle.ob_lower_correct.proofs.Testing.{test_runs}
use Rattle.ob_table_spec.specs.WellFormed.{AreStatements, IsBlock, IsOtherwise, one_ends_there}
use Rattle.ob_table.specs.Statements.{resolved_block, no_otherwise, otherwise_block}
use Rattle.ob_source_meaning.specs.Statements.{run_all, after}
use Rattle.ob_heap_spec.specs.Worlds.{if_right}
use Rattle.ob_lower_spec.specs.Points.{inside}
use Rattle.ob_lower_spec.specs.StatementTerms.{LowersStatements, LowersBlock, LowersOtherwise, closing}

-- the point after a statement, whatever the run
pub record PointAfter (params : ℕ) (base : List ℕ) (p q : Point) (ws : made.LocalKinds) (xs : Statements) : Type 0 where
  pub placed : Placed params base q ws
  pub row : RowOpen q.row xs
  pub slots : (n k : ℕ) → slot_of p.variables n ≡ Some k → slot_of q.variables n ≡ Some k
  pub kinds : (n k : ℕ) → slot_of p.variables n ≡ Some k → local_kind (locals_of q.variables) n ≡ local_kind (locals_of p.variables) n
  pub drops : (around : List ℕ) → Within around p.used → ((n : ℕ) → Used n p.declared → IsFree n around) → Within around q.used × ((n : ℕ) → Used n q.declared → IsFree n around)

after_passed : (params : ℕ) (base : List ℕ) (p q : Point) (ws : made.LocalKinds) (xs : Statements) → Placed params base p ws → q ≡ passed p → PointAfter params base p q ws xs
after_passed params base p q ws xs placed e =
    rw e (record { placed = placed_passed params base placed; row = tt; slots = λ n k h. h; kinds = λ n k h. refl; drops = λ around w d. (w, d) })

-- a variable that is visible has a kind
slot_kind : (vs : List SlotVariable) (n k : ℕ) → slot_of vs n ≡ Some k → local_kind (locals_of vs) n ≡ None → ⊥
slot_kind [] n k e h = none_some e
slot_kind (v ∷ vs) n k e h = by_number (nat_eq n v.local) (slot_kind vs n k) e h
  where
    by_number : (b : Bool) → (slot_of vs n ≡ Some k → local_kind (locals_of vs) n ≡ None → ⊥) → (if b then Some v.slot else slot_of vs n) ≡ Some k → (if b then Some v.kind else local_kind (locals_of vs) n) ≡ None → ⊥
    by_number true rest e h = none_some (sym h)
    by_number false rest e h = rest e h

after_declares : (params : ℕ) (base : List ℕ) (p : Point) (ws : made.LocalKinds) (xs : Statements) (local k : ℕ) (of : Kind) → Placed params base p ws → IsFree k p.used → local_kind ws local ≡ None
    → PointAfter params base p (declares p (record { local = local; kind = of; slot = k })) (ws ++ (local, of) ∷ []) xs
after_declares params base p ws xs local k of placed free none = record {
  placed = placed_declares params base p ws local k of placed free none;
  row = tt;
  slots = λ n j e. ap (λ b. if b then Some k else slot_of p.variables n) (other n j e) ∙ e;
  kinds = λ n j e. ap (λ b. if b then Some of else local_kind (locals_of p.variables) n) (other n j e);
  drops = λ around w d. (record { by = λ n u. inr (w.by n u) }, λ n u. declared around w d n u);
}
  where
    other : (n j : ℕ) → slot_of p.variables n ≡ Some j → nat_eq n local ≡ false
    other n j e = ne_eqb n local (λ z. slot_kind p.variables n j e (placed.agree n ∙ ap (local_kind ws) z ∙ none))

    declared : (around : List ℕ) → Within around p.used → ((n : ℕ) → Used n p.declared → IsFree n around) → (n : ℕ) → (n ≡ k) ⊎ Used n p.declared → IsFree n around
    declared around w d n (inl e) = subst (λ i. IsFree i around) (sym e) (free_within k w free)
    declared around w d n (inr u) = d n u

placed_row : (params : ℕ) (base : List ℕ) (p : Point) (ws : made.LocalKinds) (row : StagedRow) → Placed params base p ws → Fresh (made_before row) p.used → Placed params base (with_row p row) ws
placed_row params base p ws row a fresh = record { agree = a.agree; inside = a.inside; apart = a.apart; own = a.own; fixed = a.fixed; row = fresh }

after_row_point : (params : ℕ) (base : List ℕ) (p q : Point) (ws : made.LocalKinds) (xs : Statements) (row : StagedRow) → Placed params base p ws → q ≡ with_row p row → Fresh (made_before row) p.used → RowOpen row xs → PointAfter params base p q ws xs
after_row_point params base p q ws xs row placed e fresh open' =
    rw e (record { placed = placed_row params base p ws row placed fresh; row = open'; slots = λ n k h. h; kinds = λ n k h. refl; drops = λ around w d. (w, d) })

refused_point : (params : ℕ) (base : List ℕ) (p q : Point) (ws : made.LocalKinds) (xs : Statements) → Placed params base p ws → p.row ≡ refused_row → q ≡ p → PointAfter params base p q ws xs
refused_point params base p q ws xs placed er e =
    rw e (record { placed = placed; row = subst (λ r. RowOpen r xs) (sym er) tt; slots = λ n k h. h; kinds = λ n k h. refl; drops = λ around w d. (w, d) })

module _ (program : SilicaProgram) (most : ℕ) (calls : Calls) (called : CallsRun program most calls) (s : Setting) (found : contract_at program.table s.here ≡ Some s.own)
    (start : SlotCells) (finish : Option Value → World → RunOutcome (Option Value)) (fixed : List ℕ) (zero_fixed : Used 0 fixed) where
  abbrev table : ClassTable
  table = program.table

  abbrev f : meaning.SourceFrame
  f = frame_in program.table s

  abbrev F : made.StaticFrame
  F = made_in program.table s

  abbrev Stand : Point → meaning.Locals → Here → Type 0
  Stand p ls h = At program most calls called s found start finish fixed zero_fixed p ls h

  abbrev Runs : Point → SilicaTerms → List Rest → Here → Configuration → RunOutcome Flow → Type 0
  Runs q rest outer h c o = Ends program (Flows program most calls called s found start finish fixed zero_fixed q rest outer h) c o

  abbrev Places : Point → made.LocalKinds → Type 0
  Places p ws = Placed (length s.signature.params) fixed p ws

  abbrev params : ℕ
  params = length s.signature.params

  stage_after : (p : Point) (ws : made.LocalKinds) (row : StagedRow) (refusal : Option Span) (given : GivenField) (span : Span) (state : StateId) (xs : Statements) (ts : SilicaTerms) (q : Point) → p.row ≡ row
      → LowersStage F p row refusal given span ts q → (refusal ≡ None → is_row state xs ≡ true) → RowOpen row (and_statement (resolved_stage state given span) xs) → Places p ws → PointAfter params fixed p q ws xs
  stage_after p ws no_row None given span state xs ts q er (x, lx, ets, eq) ok open' placed =
      after_row_point params fixed p q ws xs (staged_row span (given_from given x.operand ∷ []) x.made) placed eq (expression_fresh (around F p span) p.used given.value x lx) (state, ok refl)
  stage_after p ws no_row (Some at) given span state xs ts q er (ets, eq) ok open' placed =
      after_row_point params fixed p q ws xs refused_row placed eq (record { by = λ n u. absurd u }) tt
  stage_after p ws refused_row refusal given span state xs ts q er (ets, eq) ok open' placed = refused_point params fixed p q ws xs placed er eq
  stage_after p ws (staged_row first givens made) refusal given span state xs ts q er (x, lx, ets, eq) ok open' placed =
      after_row_point params fixed p q ws xs (staged_row first (givens ++ given_from given x.operand ∷ []) (made ++ x.made)) placed eq
      (fresh_append made x.made p.used (subst (λ r. Fresh (made_before r) p.used) er placed.row) (expression_fresh (around F p first) (in_use made p.used) given.value x lx))
      (state, (after_row open'.0 state given span xs open'.1).1)

  -- the point after a statement
  after_statement : (x : Statement) (xs : Statements) (p q : Point) (ws : made.LocalKinds) (row : List ℕ) (ts : SilicaTerms) → LowersStatement F p x xs ts q → IsStatement F ws row x → RowOpen p.row (and_statement x xs) → Places p ws
      → PointAfter params fixed p q (locals_after ws x) xs
  after_statement (resolved_declare local name of value span) xs p q ws row ts (k, free, x, lx, ets, eq) ok open' placed = rw eq (after_declares params fixed p ws xs local k of placed free ok.2)
  after_statement (resolved_assign target value span) xs p q ws row ts (x, lx, kind, ek, place, ep, ets, eq) ok open' placed = after_passed params fixed p q ws xs placed eq
  after_statement (resolved_stage state given span) xs p q ws row ts low ok open' placed = stage_after p ws p.row (refused_at state span xs) given span state xs ts q refl low (λ e. not_refused (is_row state xs) refl e) open' placed
    where
      not_refused : (b : Bool) → is_row state xs ≡ b → refused_at state span xs ≡ None → is_row state xs ≡ true
      not_refused true e h = e
      not_refused false e h = absurd (none_some (sym h ∙ (refused xs state span e).1))
  after_statement (resolved_change state given span) xs p q ws row ts (x, lx, ets, eq) ok open' placed = after_passed params fixed p q ws xs placed eq
  after_statement (resolved_discard value span) xs p q ws row ts (x, lx, ets, eq) ok open' placed = after_passed params fixed p q ws xs placed eq
  after_statement (resolved_test subject state branch other span) xs p q ws row ts (o, named_o, x, lx, y, ly, ets, eq) ok open' placed = after_passed params fixed p q ws xs placed eq
  after_statement (resolved_if condition branch other span) xs p q ws row ts (c, lc, x, lx, y, ly, ets, eq) ok open' placed = after_passed params fixed p q ws xs placed eq
  after_statement (resolved_while condition body span) xs p q ws row ts (c, lc, x, lx, ets, eq) ok open' placed = after_passed params fixed p q ws xs placed eq
  after_statement (resolved_return value span) xs p q ws row ts (x, lx, ets, eq) ok open' placed = after_passed params fixed p q ws xs placed eq
  after_statement (resolved_revert text span) xs p q ws row ts (x, lx, ets, eq) ok open' placed = after_passed params fixed p q ws xs placed eq
  after_statement (resolved_disown subject span) xs p q ws row ts (o, named_o, ets, eq) ok open' placed = after_passed params fixed p q ws xs placed eq
  after_statement (resolved_assert subject perm span) xs p q ws row ts (o, named_o, ets, eq) ok open' placed = after_passed params fixed p q ws xs placed eq

  -- the slots that a block drops were free around it
  declared_free : (xs : Statements) (p : Point) (ws : made.LocalKinds) (row : List ℕ) (ts : SilicaTerms) (declared : List ℕ) (around : List ℕ) → LowersStatements F p xs ts declared → AreStatements F ws row xs → RowOpen p.row xs → Places p ws
      → Within around p.used → ((n : ℕ) → Used n p.declared → IsFree n around) → (n : ℕ) → Used n declared → IsFree n around
  declared_free no_statements p ws row ts declared around (ets, ed) ok open' placed w d = λ n u. d n (subst (Used n) ed u)
  declared_free (and_statement x xs) p ws row ts declared around (tx, q, lx, tr, lr, is) ok open' placed w d =
      let b = after_statement x xs p q ws row tx lx ok.0 open' placed in
      let more = b.drops around w d in
      declared_free xs q (locals_after ws x) (made.rest_of_row row x) tr declared around lr ok.2 b.row b.placed more.0 more.1

  -- what stands after a statement stands at the point before it
  narrow : (p q : Point) (ws : made.LocalKinds) (xs : Statements) (ls : meaning.Locals) (t : Here) → Placed params fixed p ws → (ws2 : made.LocalKinds) → PointAfter params fixed p q ws2 xs → Stand (passed q) ls t → Stand (passed p) ls t
  narrow p q ws xs ls t placed ws2 b a = record {
    stands = a.stands;
    visible = record {
      by = λ n k e.
          let h = a.visible.by n k (b.slots n k e) in
          record { variable = h.variable; is = h.is; kind = sym (b.kinds n k e) ∙ h.kind; inside = placed.inside n k e; apart = h.apart; value = h.value; noted = h.noted };
    };
    row = a.row;
    kept = a.kept;
  }

  -- a block's variables end
  block_closes : (p : Point) (ls : meaning.Locals) (rest : SilicaTerms) (outer : List Rest) (h : Here) (c : Configuration) (b : Bool) (declared : List ℕ) (end : Span) → Within fixed p.used → ((n : ℕ) → Used n declared → IsFree n p.used)
      → (flow : Flow) (w : World) → Flows program most calls called s found start finish fixed zero_fixed (passed (inside p)) (then_terms (if b then no_terms else drops declared end) rest) outer h flow w c → Flows program most calls called s found start finish fixed zero_fixed (passed p) rest outer h flow w c
  block_closes p ls rest outer h c true declared end wf free (goes_on us) w r = record {
    by = record {
      slots = r.by.slots;
      notes = r.by.notes;
      comes = r.by.comes;
      holds = record { stands = r.by.holds.stands; visible = r.by.holds.visible; row = r.by.holds.row; kept = r.by.holds.kept };
      leads = r.by.leads;
    };
  }
  block_closes p ls rest outer h c false declared end wf free (goes_on us) w r =
      let t : Here = record { slots = r.by.slots; notes = r.by.notes; world = w } in
      let d = drops_run program most calls called s found start finish fixed zero_fixed declared p.used end t rest outer free in
      let comes : Comes table most p.used t (record { slots = d.slots; notes = r.by.notes; world = w }) = record { kept = d.kept; later = later_self w; noted = r.by.comes.noted; fuel = r.by.comes.fuel } in
      let a : Stand (passed p) us t = record { stands = r.by.holds.stands; visible = r.by.holds.visible; row = r.by.holds.row; kept = r.by.holds.kept } in
      record {
        by = record {
          slots = d.slots;
          notes = r.by.notes;
          comes = comes_on table most r.by.comes (comes_fewer table most wf comes);
          holds = at_on program most calls called s found start finish fixed zero_fixed wf (within_self p.used) a comes;
          leads = leads_on program r.by.leads d.leads;
        };
      }
  block_closes p ls rest outer h c true declared end wf free (returns v) w r = record { by = r.by }
  block_closes p ls rest outer h c false declared end wf free (returns v) w r = record { by = r.by }

  -- a row that isn't followed has no step
  unfollowed : (x : Statement) (xs : Statements) (p q : Point) (ls : meaning.Locals) (h : Here) (ts rest : SilicaTerms) (outer : List Rest) → LowersStatement F p x xs ts q → RowOpen p.row (and_statement x xs) → Stand p ls h → is_followed x xs ≡ false
      → step program (config s h (runs (then_terms ts rest) outer)) ≡ stuck
  unfollowed (resolved_stage state given span) xs p q ls h ts rest outer low open' a e = by_row p.row (refused_at state span xs) low open' a.row (refused xs state span e).1
    where
      by_row : (row : StagedRow) (o : Option Span) → LowersStage F p row o given span ts q → RowOpen row (and_statement (resolved_stage state given span) xs) → RowStands p.variables p.used row ls.staged h → o ≡ Some (refused xs state span e).0
          → step program (config s h (runs (then_terms ts rest) outer)) ≡ stuck
      by_row no_row None low open' r eo = absurd (none_some eo)
      by_row no_row (Some at) low open' r eo = rw (low.0) refl
      by_row refused_row o low open' r eo = absurd r
      by_row (staged_row first givens made) o low open' r eo = absurd (true≢false (sym (after_row open'.0 state given span xs open'.1).1 ∙ e))
  unfollowed (resolved_declare n name of value span) xs p q ls h ts rest outer low open' a e = absurd (true≢false e)
  unfollowed (resolved_assign target value span) xs p q ls h ts rest outer low open' a e = absurd (true≢false e)
  unfollowed (resolved_change st g span) xs p q ls h ts rest outer low open' a e = absurd (true≢false e)
  unfollowed (resolved_discard value span) xs p q ls h ts rest outer low open' a e = absurd (true≢false e)
  unfollowed (resolved_test subject st b o span) xs p q ls h ts rest outer low open' a e = absurd (true≢false e)
  unfollowed (resolved_if c b o span) xs p q ls h ts rest outer low open' a e = absurd (true≢false e)
  unfollowed (resolved_while c b span) xs p q ls h ts rest outer low open' a e = absurd (true≢false e)
  unfollowed (resolved_return v span) xs p q ls h ts rest outer low open' a e = absurd (true≢false e)
  unfollowed (resolved_revert v span) xs p q ls h ts rest outer low open' a e = absurd (true≢false e)
  unfollowed (resolved_disown subject span) xs p q ls h ts rest outer low open' a e = absurd (true≢false e)
  unfollowed (resolved_assert subject perm span) xs p q ls h ts rest outer low open' a e = absurd (true≢false e)

  narrow_flow : (p q : Point) (ws ws2 : made.LocalKinds) (xs : Statements) (rest : SilicaTerms) (outer : List Rest) (h : Here) (c : Configuration) → Places p ws → PointAfter params fixed p q ws2 xs
      → (flow : Flow) (w : World) → Flows program most calls called s found start finish fixed zero_fixed (passed q) rest outer h flow w c → Flows program most calls called s found start finish fixed zero_fixed (passed p) rest outer h flow w c
  narrow_flow p q ws ws2 xs rest outer h c placed b (goes_on us) w r =
      record { by = record { slots = r.by.slots; notes = r.by.notes; comes = r.by.comes; holds = narrow p q ws xs us _ placed ws2 b r.by.holds; leads = r.by.leads } }
  narrow_flow p q ws ws2 xs rest outer h c placed b (returns v) w r = record { by = r.by }

  others_run : (xs : Statements) (p q : Point) (ws ws2 : made.LocalKinds) (h : Here) (tr rest : SilicaTerms) (outer : List Rest) (c : Configuration) → Places p ws → PointAfter params fixed p q ws2 xs
      → ((us : meaning.Locals) (t : Here) → Stand q us t → Runs (passed q) rest outer t (config s t (runs (then_terms tr rest) outer)) (run_all calls f xs us t.world))
      → (flow : Flow) (w : World) → Flows program most calls called s found start finish fixed zero_fixed q (then_terms tr rest) outer h flow w c → Runs (passed p) rest outer h c (after flow w (λ ls1 w2. run_all calls f xs ls1 w2))
  others_run xs p q ws ws2 h tr rest outer c placed b others (goes_on us) w r =
      let t : Here = record { slots = r.by.slots; notes = r.by.notes; world = w } in
      let o = run_all calls f xs us w in
      ends_later program o (flows_closed program most calls called s found start finish fixed zero_fixed) r.by.leads (ends_map program o (λ flow w1 x. flows_from program most calls called s found start finish fixed zero_fixed r.by.comes flow w1 _ (narrow_flow p q ws ws2 xs rest outer t _ placed b flow w1 x)) (others us t r.by.holds))
  others_run xs p q ws ws2 h tr rest outer c placed b others (returns v) w r = record { by = record { by = r.by } }

  -- a statement, and then the others
  list_runs : (x : Statement) (xs : Statements) (p q : Point) (ws ws2 : made.LocalKinds) (ls : meaning.Locals) (h : Here) (tx tr rest : SilicaTerms) (outer : List Rest) (b : Bool) → is_followed x xs ≡ b → Places p ws → PointAfter params fixed p q ws2 xs
      → (is_followed x xs ≡ false → step program (config s h (runs (then_terms tx (then_terms tr rest)) outer)) ≡ stuck)
      → (is_followed x xs ≡ true → Runs q (then_terms tr rest) outer h (config s h (runs (then_terms tx (then_terms tr rest)) outer)) (run calls f x ls h.world))
      → ((us : meaning.Locals) (t : Here) → Stand q us t → Runs (passed q) rest outer t (config s t (runs (then_terms tr rest) outer)) (run_all calls f xs us t.world))
      → Runs (passed p) rest outer h (config s h (runs (then_terms tx (then_terms tr rest)) outer)) (if_right (is_followed x xs) (run calls f x ls h.world >>= (λ flow w1. after flow w1 (λ ls1 w2. run_all calls f xs ls1 w2))))
  list_runs x xs p q ws ws2 ls h tx tr rest outer false eb placed b none one others = rw eb (record { by = one_step program (none eb) })
  list_runs x xs p q ws ws2 ls h tx tr rest outer true eb placed b none one others =
      rw eb (ends_then program (run calls f x ls h.world) _ (one eb) (λ flow w r. others_run xs p q ws ws2 h tr rest outer _ placed b others flow w r))

  staged_at : (p : Point) (ls : meaning.Locals) (h : Here) (span : Span) → ls.staged ≡ [] → Stand (passed p) ls h → Stand (with_row p (staged_row span [] [])) ls h
  staged_at p ls h span e a = record { stands = a.stands; visible = a.visible; row = subst (λ xs. Gave p.variables xs [] p.used h) (sym e) (record { by = tt }); kept = a.kept }

  module _ (finishes : Finishes program most calls called s found start finish fixed zero_fixed) where
    stage_by : (p q : Point) (ws : made.LocalKinds) (ls : meaning.Locals) (h : Here) (rest : SilicaTerms) (outer : List Rest) (state : StateId) (given : GivenField) (span : Span) (ts : SilicaTerms) (row : StagedRow) (refusal : Option Span)
        → LowersStage F p row refusal given span ts q → refusal ≡ None → p.row ≡ row → IsWellFormedExpression F ws given.value → Places p ws → Stand p ls h
        → Runs q rest outer h (config s h (runs (then_terms ts rest) outer)) (run calls f (resolved_stage state given span) ls h.world)
    stage_by p q ws ls h rest outer state given span ts no_row None (x, lx, ets, eq) en er ok placed a =
        rw (ets, eq) (stage_runs program most calls called s found start finish fixed zero_fixed p ws ls h rest outer state given span span [] [] x lx ok (placed_row params fixed p ws (staged_row span [] []) placed (record { by = λ n u. absurd u }))
        (staged_at p ls h span (subst (λ r. RowStands p.variables p.used r ls.staged h) er a.row) (record { stands = a.stands; visible = a.visible; row = subst (λ r. RowStands p.variables p.used r ls.staged h) er a.row; kept = a.kept })))
    stage_by p q ws ls h rest outer state given span ts no_row (Some at) low en er ok placed a = absurd (none_some (sym en))
    stage_by p q ws ls h rest outer state given span ts refused_row refusal low en er ok placed a = absurd (subst (λ r. RowStands p.variables p.used r ls.staged h) er a.row)
    stage_by p q ws ls h rest outer state given span ts (staged_row first givens made) refusal (x, lx, ets, eq) en er ok placed a =
        rw (ets, eq) (stage_runs program most calls called s found start finish fixed zero_fixed p ws ls h rest outer state given span first givens made x lx ok (placed_row params fixed p ws (staged_row first givens made) placed (subst (λ r. Fresh (made_before r) p.used) er placed.row))
        (record { stands = a.stands; visible = a.visible; row = subst (λ r. RowStands p.variables p.used r ls.staged h) er a.row; kept = a.kept }))

    change_by : (p : Point) (ws : made.LocalKinds) (ls : meaning.Locals) (h : Here) (rest : SilicaTerms) (outer : List Rest) (state : StateId) (given : List GivenField) (span : Span) (names : List ℕ) (row : StagedRow) (x : LoweredGiven)
        → p.row ≡ row → LowersGiven (around F p (span_of_terms row span)) (in_use (made_before row) p.used) given x → made.AreGiven F ws names given → Places p ws → Stand p ls h
        → Runs (passed p) rest outer h (config s h (runs (then_terms (with_unit (span_of_terms row span) (ended_by (span_of_terms row span) x.terms (change_form state (given_before row ++ x.given)) (made_before row ++ x.made))) rest) outer)) (run calls f (resolved_change state given span) ls h.world)
    change_by p ws ls h rest outer state given span names no_row x er lx ok placed a =
        change_runs program most calls called s found start finish fixed zero_fixed p ws ls h rest outer state given span span names [] [] x lx ok (placed_row params fixed p ws (staged_row span [] []) placed (record { by = λ n u. absurd u }))
        (staged_at p ls h span (subst (λ r. RowStands p.variables p.used r ls.staged h) er a.row) (record { stands = a.stands; visible = a.visible; row = subst (λ r. RowStands p.variables p.used r ls.staged h) er a.row; kept = a.kept }))
    change_by p ws ls h rest outer state given span names refused_row x er lx ok placed a = absurd (subst (λ r. RowStands p.variables p.used r ls.staged h) er a.row)
    change_by p ws ls h rest outer state given span names (staged_row first givens made) x er lx ok placed a =
        change_runs program most calls called s found start finish fixed zero_fixed p ws ls h rest outer state given span first names givens made x lx ok (placed_row params fixed p ws (staged_row first givens made) placed (subst (λ r. Fresh (made_before r) p.used) er placed.row))
        (record { stands = a.stands; visible = a.visible; row = subst (λ r. RowStands p.variables p.used r ls.staged h) er a.row; kept = a.kept })

    mutual
      pub statement_runs : (x : Statement) (xs : Statements) (p q : Point) (ws : made.LocalKinds) (row : List ℕ) (ts : SilicaTerms) (ls : meaning.Locals) (h : Here) (rest : SilicaTerms) (outer : List Rest)
          → LowersStatement F p x xs ts q → IsStatement F ws row x → RowOpen p.row (and_statement x xs) → is_followed x xs ≡ true → Places p ws → Stand p ls h
          → Runs q rest outer h (config s h (runs (then_terms ts rest) outer)) (run calls f x ls h.world)
      statement_runs (resolved_declare local name of value span) xs p q ws row ts ls h rest outer (k, free, x, lx, ets, eq) ok open' follows placed a =
          rw (ets, eq) (declare_runs program most calls called s found start finish fixed zero_fixed p ws ls h rest outer local name of value span k x free lx ok.3.0 placed (row_passed program most calls called s found start finish fixed zero_fixed p (and_statement (resolved_declare local name of value span) xs) ls h (λ st. refl) open' a))
      statement_runs (resolved_assign target value span) xs p q ws row ts ls h rest outer (x, lx, kind, ek, place, ep, ets, eq) ok open' follows placed a =
          let made_value = called_so (kind_of_seen F ws target.of) (λ kind. IsValue F ws kind value) ok.1 in
          rw (ets, eq) (assign_runs program most calls called s found start finish fixed zero_fixed p ws ls h rest outer target value span x kind place lx ek ep made_value.2.0 ok.0 placed (row_passed program most calls called s found start finish fixed zero_fixed p (and_statement (resolved_assign target value span) xs) ls h (λ st. refl) open' a))
      statement_runs (resolved_stage state given span) xs p q ws row ts ls h rest outer low ok open' follows placed a =
          let field = called_so (field_at s.own given.field) (λ d. IsValue F ws (kind_of_resolved d.of) given.value) ok.1.1 in
          stage_by p q ws ls h rest outer state given span ts p.row (refused_at state span xs) low (accepted xs state span follows) refl field.2.0 placed a
      statement_runs (resolved_change state given span) xs p q ws row ts ls h rest outer (x, lx, ets, eq) ok open' follows placed a =
          rw (ets, eq) (change_by p ws ls h rest outer state given span row p.row x refl lx ok.1 placed a)
      statement_runs (resolved_discard value span) xs p q ws row ts ls h rest outer (x, lx, ets, eq) ok open' follows placed a =
          rw (ets, eq) (discard_runs program most calls called s found start finish fixed zero_fixed p ws ls h rest outer value span (kind_around (around F p span) value) x lx ok placed (row_passed program most calls called s found start finish fixed zero_fixed p (and_statement (resolved_discard value span) xs) ls h (λ st. refl) open' a))
      statement_runs (resolved_test subject state branch other span) xs p q ws row ts ls h rest outer (o, named_o, x, lx, y, ly, ets, eq) ok open' follows placed a =
          rw (ets, eq) (test_runs program most calls called s found start finish fixed zero_fixed finishes p ls placed.fixed rest outer span state x y (join_of branch other) branch other
          (λ t around at_t. rw (sym (none_after x)) (block_runs branch p ws x ls t no_terms around lx ok.1 placed at_t))
          (λ t around at_t. rw (sym (none_after y)) (otherwise_runs other p ws y ls t no_terms around ly ok.2 placed at_t))
          ws h subject o placed named_o ok.0 (row_passed program most calls called s found start finish fixed zero_fixed p (and_statement (resolved_test subject state branch other span) xs) ls h (λ st. refl) open' a))
      statement_runs (resolved_if condition branch other span) xs p q ws row ts ls h rest outer (c, lc, x, lx, y, ly, ets, eq) ok open' follows placed a =
          rw (ets, eq) (if_runs program most calls called s found start finish fixed zero_fixed p ws ls h rest outer condition branch other span (join_of branch other) c x y lc ok.0 placed
          (λ t around at_t. rw (sym (none_after x)) (block_runs branch p ws x ls t no_terms around lx ok.1 placed at_t))
          (λ t around at_t. rw (sym (none_after y)) (otherwise_runs other p ws y ls t no_terms around ly ok.2 placed at_t))
          (row_passed program most calls called s found start finish fixed zero_fixed p (and_statement (resolved_if condition branch other span) xs) ls h (λ st. refl) open' a))
      statement_runs (resolved_while condition body span) xs p q ws row ts ls h rest outer (c, lc, x, lx, ets, eq) ok open' follows placed a =
          rw (ets, eq) (turns_run program most calls called s found start finish fixed zero_fixed p ws rest outer condition body span (block_end body) c x lc ok.0 placed
          (λ us t around at_t. rw (sym (none_after x)) (block_runs body p ws x us t no_terms around lx ok.1 placed at_t))
          (suc h.world.fuel) ls h (omega arith)
          (row_passed program most calls called s found start finish fixed zero_fixed p (and_statement (resolved_while condition body span) xs) ls h (λ st. refl) open' a))
      statement_runs (resolved_return value span) xs p q ws row ts ls h rest outer (x, lx, ets, eq) ok open' follows placed a =
          rw (ets, eq) (return_runs program most calls called s found start finish fixed zero_fixed finishes p ws ls h rest outer value span x s.signature.result refl lx ok placed (row_passed program most calls called s found start finish fixed zero_fixed p (and_statement (resolved_return value span) xs) ls h (λ st. refl) open' a))
      statement_runs (resolved_revert text span) xs p q ws row ts ls h rest outer (x, lx, ets, eq) ok open' follows placed a =
          rw (ets, eq) (revert_runs program most calls called s found start finish fixed zero_fixed p ws ls h rest outer text span x lx ok placed (row_passed program most calls called s found start finish fixed zero_fixed p (and_statement (resolved_revert text span) xs) ls h (λ st. refl) open' a))
      statement_runs (resolved_disown subject span) xs p q ws row ts ls h rest outer (o, named_o, ets, eq) ok open' follows placed a =
          rw (ets, eq) (disown_runs program most calls called s found start finish fixed zero_fixed p ws ls h rest outer subject span o named_o placed (row_passed program most calls called s found start finish fixed zero_fixed p (and_statement (resolved_disown subject span) xs) ls h (λ st. refl) open' a))
      statement_runs (resolved_assert subject perm span) xs p q ws row ts ls h rest outer (o, named_o, ets, eq) ok open' follows placed a =
          rw (ets, eq) (assert_runs program most calls called s found start finish fixed zero_fixed p ws ls h rest outer subject perm span o placed (row_passed program most calls called s found start finish fixed zero_fixed p (and_statement (resolved_assert subject perm span) xs) ls h (λ st. refl) open' a))

      pub block_runs : (b : Block) (p : Point) (ws : made.LocalKinds) (ts : SilicaTerms) (ls : meaning.Locals) (h : Here) (rest : SilicaTerms) (outer : List Rest) → LowersBlock F p b ts → IsBlock F ws b → Places p ws → Stand (passed p) ls h
          → Runs (passed p) rest outer h (config s h (runs (then_terms ts rest) outer)) (run_block calls f b ls h.world)
      block_runs (resolved_block statements end) p ws ts ls h rest outer (x, declared, lx, is) ok placed a =
          let placed_in : Places (inside p) ws = record { agree = placed.agree; inside = placed.inside; apart = placed.apart; own = placed.own; fixed = placed.fixed; row = record { by = λ n u. absurd u } } in
          rw (is, join x (closing statements declared end) rest)
          (ends_map program (run_all calls f statements ls h.world) (λ flow w r. block_closes p ls rest outer h _ (one_ends_there statements) declared end placed.fixed (declared_free statements (inside p) ws [] x declared p.used lx ok tt placed_in (within_self p.used) (λ n u. absurd u)) flow w r)
          (all_run statements (inside p) ws [] x declared ls h (then_terms (closing statements declared end) rest) outer lx ok tt placed_in (record { stands = a.stands; visible = a.visible; row = a.row; kept = a.kept })))

      pub otherwise_runs : (o : Otherwise) (p : Point) (ws : made.LocalKinds) (ts : SilicaTerms) (ls : meaning.Locals) (h : Here) (rest : SilicaTerms) (outer : List Rest) → LowersOtherwise F p o ts → IsOtherwise F ws o → Places p ws → Stand (passed p) ls h
          → Runs (passed p) rest outer h (config s h (runs (then_terms ts rest) outer)) (run_otherwise calls f o ls h.world)
      otherwise_runs no_otherwise p ws ts ls h rest outer is ok placed a =
          rw is (record { by = record { by = record { slots = h.slots; notes = h.notes; comes = comes_self table most fixed a.stands; holds = a; leads = stays program _ } } })
      otherwise_runs (otherwise_block b) p ws ts ls h rest outer low ok placed a = block_runs b p ws ts ls h rest outer low ok placed a

      pub all_run : (xs : Statements) (p : Point) (ws : made.LocalKinds) (row : List ℕ) (ts : SilicaTerms) (declared : List ℕ) (ls : meaning.Locals) (h : Here) (rest : SilicaTerms) (outer : List Rest)
          → LowersStatements F p xs ts declared → AreStatements F ws row xs → RowOpen p.row xs → Places p ws → Stand p ls h
          → Runs (passed p) rest outer h (config s h (runs (then_terms ts rest) outer)) (run_all calls f xs ls h.world)
      all_run no_statements p ws row ts declared ls h rest outer (ets, ed) ok open' placed a =
          rw ets (record { by = record { by = record { slots = h.slots; notes = h.notes; comes = comes_self table most fixed a.stands; holds = row_passed program most calls called s found start finish fixed zero_fixed p no_statements ls h (λ st. refl) open' a; leads = stays program _ } } })
      all_run (and_statement x xs) p ws row ts declared ls h rest outer (tx, q, lx, tr, lr, is) ok open' placed a =
          let b = after_statement x xs p q ws row tx lx ok.0 open' placed in
          rw (is, join tx tr rest)
          (list_runs x xs p q ws (locals_after ws x) ls h tx tr rest outer (is_followed x xs) refl placed b
          (λ e. unfollowed x xs p q ls h tx (then_terms tr rest) outer lx open' a e)
          (λ e. statement_runs x xs p q ws row tx ls h (then_terms tr rest) outer lx ok.0 open' e placed a)
          (λ us t at_t. all_run xs q (locals_after ws x) (made.rest_of_row row x) tr declared us t rest outer lr ok.2 b.row b.placed at_t))
