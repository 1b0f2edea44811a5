-- How statements run: what stands at a point of a body, and how a statement goes on or returns.
use Rattle.std.proofs.Common.{◌≡◌, ℕ, zero, suc, ◌<◌, Bool, true, false, List, [], ◌∷◌, ◌++◌, length, Option, Some, None, refl, ap, ◌∙◌, arith, ◌⊎◌, inl, inr}
use Rattle.std.specs.Prelude.{IsSome, IsTrue, ⊤, if◌then◌else◌}
use Rattle.std.specs.Option.{option_map_or}
use Rattle.ob_base.specs.declared.fault.Span.{Span}
use Rattle.ob_base.specs.declared.id.StateId.{StateId}
use Rattle.ob_table.specs.Expressions.{Expression, resolved_number, resolved_text, resolved_bool, resolved_seen, resolved_unary, resolved_binary, resolved_logical, resolved_call, resolved_new}
use Rattle.ob_table.specs.Statements.{Statements}
use Rattle.ob_table.specs.Tables.{ClassTable, contract_at}
use Rattle.ob_table_spec.specs.WellFormed as made
use Rattle.ob_table_spec.specs.WellFormed.{local_kind, is_reference, IsWellFormedExpression}
use Rattle.ob_heap_spec.specs.Values.{Value}
use Rattle.ob_heap_spec.specs.Worlds.{World, RunOutcome, gives, aborts, wrong, ◌>>=◌, with_some, unit, with_fuel, with_unit_taken}
use Rattle.ob_source_meaning.specs.Frames as meaning
use Rattle.ob_source_meaning.specs.Frames.{Calls, Flow, goes_on, returns, known, SourceGiven}
use Rattle.ob_heap_spec.specs.GoingWrong.{is_row}
use Rattle.ob_source_meaning.specs.Naming.{value_seen, kind_seen, read as read_name, value_of_operand}
use Rattle.ob_source_meaning.specs.Expressions.{operand_or, value_of, operand_of}
use Rattle.ob_silica.specs.Terms.{SilicaTerms, and_term, then_terms, unit_form}
use Rattle.ob_silica.specs.declared.place.Given as silica
use Rattle.ob_silica_steps.specs.Cells.{Cell, value_in}
use Rattle.ob_silica_places.specs.Places.{located}
use Rattle.ob_silica_steps.specs.Configurations.{SilicaProgram, SlotCells, Notes, Rest, Control, by_new, runs, leaves, Configuration, goes}
use Rattle.ob_silica_steps.specs.Here.{Here, read, with_fuel_left}
use Rattle.ob_silica_places.specs.Known.{at}
use Rattle.ob_silica_steps.specs.Steps.{step}
use Rattle.ob_lower_spec.specs.Forms.{drops, SlotVariable, locals_of, slot_of}
use Rattle.ob_lower_spec.specs.Points.{IsFree, in_use, StagedRow, no_row, staged_row, refused_row, made_before, Point, used_at}
use Rattle.ob_lower_spec.specs.ExpressionTerms.{Lowered, LowersExpression}
use Rattle.ob_lower_correct.proofs.Slots.{Used, free_differs, Within, within_self, within_on, within_use}
use Rattle.ob_lower_correct.proofs.Runs.{Leads, Ends, stays, leads_on, one_step, ends_map, ends_later}
use Rattle.ob_lower_correct.proofs.Standing.{Setting, frame_in, made_in, config, shape, Kept, Stands, Comes, Reached, kept_self, kept_on, kept_fewer, at_other, stands_on, comes_on, comes_fewer, reached_closed, after_part}
use Rattle.ob_lower_correct.proofs.Names.{Visible, visible_on}
use Rattle.ob_lower_correct.proofs.Calling.{CallsRun}
use Rattle.ob_lower_correct.proofs.Operands.{Means, means_on, means_read, Fits, operand_from}
use Rattle.ob_lower_correct.proofs.Expressions.{value_runs}
use Rattle.ob_lower_correct.proofs.Fresh.{Fresh}

-- what staged statements have given, on both sides
abbrev pub GivenBy : List SlotVariable → List SourceGiven → List silica.Given → List ℕ → Here → Type 0
GivenBy vs [] [] used t = ⊤
GivenBy vs (x ∷ xs) (g ∷ gs) used t = (g.field.0 ≡ x.0) × Means vs x.1 g.from used t × GivenBy vs xs gs used t
GivenBy vs xs gs used t = ⊥

pub record Gave (vs : List SlotVariable) (xs : List SourceGiven) (gs : List silica.Given) (used : List ℕ) (t : Here) : Type 0 where
  pub by : GivenBy vs xs gs used t

pub gave_on : {vs : List SlotVariable} {used more : List ℕ} {t r : Here} (xs : List SourceGiven) (gs : List silica.Given) → Gave vs xs gs used t → Within used more → Kept used t.slots r.slots → Gave vs xs gs more r
gave_on [] [] m w k = record { by = tt }
gave_on (x ∷ xs) (g ∷ gs) m w k = record { by = (m.by.0, means_on x.1 m.by.1 w k, (gave_on xs gs (record { by = m.by.2 }) w k).by) }
gave_on [] (g ∷ gs) m w k = absurd m.by
gave_on (x ∷ xs) [] m w k = absurd m.by

pub gave_more : {vs : List SlotVariable} {used : List ℕ} {t : Here} (xs ys : List SourceGiven) (gs hs : List silica.Given) → Gave vs xs gs used t → Gave vs ys hs used t → Gave vs (xs ++ ys) (gs ++ hs) used t
gave_more [] ys [] hs a b = b
gave_more (x ∷ xs) ys (g ∷ gs) hs a b = record { by = (a.by.0, a.by.1, (gave_more xs ys gs hs (record { by = a.by.2 }) b).by) }
gave_more [] ys (g ∷ gs) hs a b = absurd a.by
gave_more (x ∷ xs) ys [] hs a b = absurd a.by

-- what stands before a statement of the staged ones
abbrev pub RowStands : List SlotVariable → List ℕ → StagedRow → List SourceGiven → Here → Type 0
RowStands vs used no_row staged h = staged ≡ []
RowStands vs used (staged_row first givens made) staged h = Gave vs staged givens (in_use made used) h
RowStands vs used refused_row staged h = ⊥

-- a row goes on up to the change of state
abbrev pub RowOpen : StagedRow → Statements → Type 0
RowOpen no_row xs = ⊤
RowOpen (staged_row first givens made) xs = (state : StateId) × IsTrue (is_row state xs)
RowOpen refused_row xs = ⊤

-- what is so of a point, whatever the run
pub record Placed (params : ℕ) (base : List ℕ) (p : Point) (ws : made.LocalKinds) : Type 0 where
  pub agree : (n : ℕ) → local_kind (locals_of p.variables) n ≡ local_kind ws n
  pub inside : (n k : ℕ) → slot_of p.variables n ≡ Some k → Used k p.used
  pub apart : (n m k : ℕ) → slot_of p.variables n ≡ Some k → slot_of p.variables m ≡ Some k → n ≡ m
  pub own : (n k : ℕ) → slot_of p.variables n ≡ Some k → params < n → IsFree k base
  pub fixed : Within base p.used
  pub row : Fresh (made_before p.row) p.used

module _ (program : SilicaProgram) (most : ℕ) (calls : Calls) (called : CallsRun program most calls) (s : Setting) (found : contract_at program.table s.here ≡ Some s.own)
    (start : SlotCells) (finish : Option Value → World → RunOutcome (Option Value)) (fixed : List ℕ) (zero_fixed : Used 0 fixed) where
  abbrev table : ClassTable
  table = program.table

  -- what stands at a point
  pub record At (p : Point) (ls : meaning.Locals) (h : Here) : Type 0 where
    pub stands : Stands table most s h
    pub visible : Visible p.variables p.used ls h.slots
    pub row : RowStands p.variables p.used p.row ls.staged h
    pub kept : Kept fixed start h.slots

  -- the frame leaves with a result, and these lists around are still to end
  pub record Left (outer : List Rest) (h : Here) (v : Option Value) (w : World) (c : Configuration) : Type 0 where
    pub slots : SlotCells
    pub notes : Notes
    pub cell : Option Cell
    pub value : value_in cell ≡ v
    pub answers : IsSome s.signature.result ⊎ (s.how ≡ by_new) → IsSome v
    pub comes : Comes table most fixed h (record { slots = slots; notes = notes; world = w })
    pub leads : Leads program c (goes (config s (record { slots = slots; notes = notes; world = w }) (leaves cell outer)))

  -- a statement goes on to a point, or returns
  abbrev pub FlowBy : Point → SilicaTerms → List Rest → Here → Flow → World → Configuration → Type 0
  FlowBy q rest outer h (goes_on ls) w c = Reached program most (λ t us. At q us t) fixed s h (runs rest outer) ls w c
  FlowBy q rest outer h (returns r) w c = Ends program (Left outer h) c (finish r w)

  pub record Flows (q : Point) (rest : SilicaTerms) (outer : List Rest) (h : Here) (flow : Flow) (w : World) (c : Configuration) : Type 0 where
    pub by : FlowBy q rest outer h flow w c

  pub left_closed : {outer : List Rest} {h : Here} (v : Option Value) (w : World) (c d : Configuration) → Leads program c (goes d) → Left outer h v w d → Left outer h v w c
  left_closed v w c d l r = record { slots = r.slots; notes = r.notes; cell = r.cell; value = r.value; answers = r.answers; comes = r.comes; leads = leads_on program l r.leads }

  pub flows_closed : {q : Point} {rest : SilicaTerms} {outer : List Rest} {h : Here} (flow : Flow) (w : World) (c d : Configuration)
      → Leads program c (goes d) → Flows q rest outer h flow w d → Flows q rest outer h flow w c
  flows_closed (goes_on ls) w c d l r = record { by = reached_closed program most ls w c d l r.by }
  flows_closed (returns v) w c d l r = record { by = ends_later program (finish v w) left_closed l r.by }

  pub left_from : {outer : List Rest} {h t : Here} → Comes table most fixed h t → (v : Option Value) (w : World) (c : Configuration) → Left outer t v w c → Left outer h v w c
  left_from comes v w c r = record { slots = r.slots; notes = r.notes; cell = r.cell; value = r.value; answers = r.answers; comes = comes_on table most comes r.comes; leads = r.leads }

  pub flows_from : {q : Point} {rest : SilicaTerms} {outer : List Rest} {h t : Here} → Comes table most fixed h t → (flow : Flow) (w : World) (c : Configuration)
      → Flows q rest outer t flow w c → Flows q rest outer h flow w c
  flows_from comes (goes_on ls) w c r = record { by = record { slots = r.by.slots; notes = r.by.notes; comes = comes_on table most comes r.by.comes; holds = r.by.holds; leads = r.by.leads } }
  flows_from comes (returns v) w c r = record { by = ends_map program (finish v w) (λ u x y. left_from comes u x c y) r.by }

  -- a part, and then what a statement does with it
  pub then_flows : {A : Type 0} {P : Here → A → Type 0} {used : List ℕ} {h : Here} {mid : Control} {c : Configuration} {q : Point} {rest : SilicaTerms} {outer : List Rest}
      (o : RunOutcome A) (go : A → World → RunOutcome Flow) → Within fixed used
      → Ends program (Reached program most P used s h mid) c o
      → ((v : A) (t : Here) → Comes table most used h t → P t v → Ends program (Flows q rest outer t) (config s t mid) (go v t.world))
      → Ends program (Flows q rest outer h) c (o >>= go)
  then_flows o go w e next = after_part program most o go flows_closed e
      (λ v t comes p. ends_map program (go v t.world) (λ u x y. flows_from (comes_fewer table most w comes) u x _ y) (next v t comes p))

  -- one step, and then the rest of a statement
  pub step_flows : {h t : Here} {control : Control} {c : Configuration} {q : Point} {rest : SilicaTerms} {outer : List Rest} (o : RunOutcome Flow)
      → Comes table most fixed h t → step program c ≡ goes (config s t control) → Ends program (Flows q rest outer t) (config s t control) o → Ends program (Flows q rest outer h) c o
  step_flows o comes e r = ends_later program o flows_closed (one_step program e) (ends_map program o (λ u x y. flows_from comes u x _ y) r)

  -- What stays at a point.

  pub row_on : (vs : List SlotVariable) (used : List ℕ) (h t : Here) (row : StagedRow) (staged : List SourceGiven) → RowStands vs used row staged h → Kept (in_use (made_before row) used) h.slots t.slots → RowStands vs used row staged t
  row_on vs used h t no_row staged r k = r
  row_on vs used h t (staged_row first givens made) staged r k = gave_on staged givens r (within_self (in_use made used)) k
  row_on vs used h t refused_row staged r k = absurd r

  pub at_on : {p : Point} {ls : meaning.Locals} {used : List ℕ} {h t : Here} → Within fixed p.used → Within (used_at p) used → At p ls h → Comes table most used h t → At p ls t
  at_on {p} {ls} {used} {h} {t} f w a c =
      let within : Within p.used used = within_on (within_use (made_before p.row) p.used) w in
      record {
        stands = stands_on table most (within.by 0 (f.by 0 zero_fixed)) a.stands c;
        visible = visible_on a.visible (kept_fewer within c.kept);
        row = row_on p.variables p.used h t p.row ls.staged a.row (kept_fewer w c.kept);
        kept = kept_on a.kept (kept_fewer (within_on f within) c.kept);
      }

  -- the world alone has changed
  pub at_world : {p : Point} {ls : meaning.Locals} {h : Here} (w : World) → Within fixed p.used → At p ls h → Comes table most (used_at p) h (record h { world = w }) → At p ls (record h { world = w })
  at_world {p} w f a c = at_on f (within_self (used_at p)) a c

  -- Units.

  unit_by : (n : ℕ) (p q : Point) (ls : meaning.Locals) (h : Here) (span : Span) (ts rest : SilicaTerms) (outer outer2 : List Rest) (go : World → RunOutcome Flow)
      → h.world.fuel ≡ n → Within fixed p.used → At p ls h
      → ((w : World) → w.fuel < h.world.fuel → Comes table most (used_at p) h (record h { world = w }) → At p ls (record h { world = w }) → Ends program (Flows q rest outer2 (record h { world = w })) (config s (record h { world = w }) (runs ts outer)) (go w))
      → Ends program (Flows q rest outer2 h) (config s h (runs (and_term unit_form span ts) outer)) (with_fuel n h.world go)
  unit_by zero p q ls h span ts rest outer outer2 go e f a next =
      record { by = one_step program (ap (λ n. with_fuel_left n h.world (λ w. goes (config s (record h { world = w }) (runs ts outer)))) e) }
  unit_by (suc n) p q ls h span ts rest outer outer2 go e f a next =
      let w = with_unit_taken h.world n in
      let comes : Comes table most (used_at p) h (record h { world = w }) =
      record { kept = kept_self (used_at p) h.slots; later = record { by = λ m o eo. (o, eo, refl); fuel = omega (arith, e) }; noted = a.stands.noted; fuel = omega (arith, e, a.stands.fuel) } in
      step_flows (go w) (comes_fewer table most (within_on f (within_use (made_before p.row) p.used)) comes)
      (ap (λ n. with_fuel_left n h.world (λ w. goes (config s (record h { world = w }) (runs ts outer)))) e)
      (next w (omega (arith, e)) comes (at_world w f a comes))

  pub unit_flows : (p q : Point) (ls : meaning.Locals) (h : Here) (span : Span) (ts rest : SilicaTerms) (outer outer2 : List Rest) (go : World → RunOutcome Flow)
      → Within fixed p.used → At p ls h
      → ((w : World) → Comes table most (used_at p) h (record h { world = w }) → At p ls (record h { world = w }) → Ends program (Flows q rest outer2 (record h { world = w })) (config s (record h { world = w }) (runs ts outer)) (go w))
      → Ends program (Flows q rest outer2 h) (config s h (runs (and_term unit_form span ts) outer)) (unit h.world go)
  unit_flows p q ls h span ts rest outer outer2 go f a next = unit_by h.world.fuel p q ls h span ts rest outer outer2 go refl f a (λ w fewer comes at_w. next w comes at_w)

  -- the same, where it counts that fewer are left
  pub fewer_flows : (p q : Point) (ls : meaning.Locals) (h : Here) (span : Span) (ts rest : SilicaTerms) (outer outer2 : List Rest) (go : World → RunOutcome Flow)
      → Within fixed p.used → At p ls h
      → ((w : World) → w.fuel < h.world.fuel → Comes table most (used_at p) h (record h { world = w }) → At p ls (record h { world = w }) → Ends program (Flows q rest outer2 (record h { world = w })) (config s (record h { world = w }) (runs ts outer)) (go w))
      → Ends program (Flows q rest outer2 h) (config s h (runs (and_term unit_form span ts) outer)) (unit h.world go)
  fewer_flows p q ls h span ts rest outer outer2 go f a next = unit_by h.world.fuel p q ls h span ts rest outer outer2 go refl f a next

  -- Values.

  -- the value of an operand is what is read of it
  seen_by : (seen : made.StaticFrame) → ⊤
  seen_by f = tt

  by_known : (ls : meaning.Locals) (o : RunOutcome Value) (go : Value → World → RunOutcome Flow)
      → (o >>= go) ≡ ((o >>= (λ v w. gives (known v) w)) >>= (λ x w. with_some (value_of_operand (frame_in table s) ls w x) (λ v. go v w)))
  by_known ls (gives v w) go = refl
  by_known ls (aborts cause t) go = refl
  by_known ls wrong go = refl

  pub by_operand : (e : Expression) (ls : meaning.Locals) (w : World) (go : Value → World → RunOutcome Flow)
      → (value_of calls (frame_in table s) e ls w >>= go)
      ≡ (operand_of calls (frame_in table s) e ls w >>= (λ x w1. with_some (value_of_operand (frame_in table s) ls w1 x) (λ v. go v w1)))
  by_operand (resolved_seen seen sp) ls w go = by_name (option_map_or is_reference (kind_seen (frame_in table s) ls seen.of) false)
    where
      by_some : (o : Option Value) → (with_some o (λ v. gives v w) >>= go) ≡ with_some o (λ v. go v w)
      by_some None = refl
      by_some (Some v) = refl

      by_name : (b : Bool) → (read_name (frame_in table s) ls seen.of w >>= go)
          ≡ (operand_or (if b then Some seen.of else None) w (read_name (frame_in table s) ls seen.of w) >>= (λ x w1. with_some (value_of_operand (frame_in table s) ls w1 x) (λ v. go v w1)))
      by_name true = by_some (value_seen (frame_in table s) ls w seen.of)
      by_name false = by_known ls (read_name (frame_in table s) ls seen.of w) go
  by_operand (resolved_number z sp) ls w go = refl
  by_operand (resolved_text z sp) ls w go = refl
  by_operand (resolved_bool z sp) ls w go = refl
  by_operand (resolved_unary o sign e sp) ls w go = by_known ls (value_of calls (frame_in table s) (resolved_unary o sign e sp) ls w) go
  by_operand (resolved_binary o sign e g sp) ls w go = by_known ls (value_of calls (frame_in table s) (resolved_binary o sign e g sp) ls w) go
  by_operand (resolved_logical o sign e g sp) ls w go = by_known ls (value_of calls (frame_in table s) (resolved_logical o sign e g sp) ls w) go
  by_operand (resolved_call r c tx name args sp) ls w go = by_known ls (value_of calls (frame_in table s) (resolved_call r c tx name args sp) ls w) go
  by_operand (resolved_new c args sp) ls w go = by_known ls (value_of calls (frame_in table s) (resolved_new c args sp) ls w) go

  -- an expression, and then a form that reads it
  pub value_then : (p q : Point) (ws : made.LocalKinds) (ls : meaning.Locals) (span : Span) (e : Expression) (l : Lowered) (used : List ℕ) (h : Here) (ts rest : SilicaTerms) (outer outer2 : List Rest) (go : Value → World → RunOutcome Flow)
      → Placed (length s.signature.params) fixed p ws → LowersExpression (record { frame = made_in table s; variables = p.variables; span = span }) used e l → IsWellFormedExpression (made_in table s) ws e → Within (used_at p) used → At p ls h
      → ((t : Here) (o : Option Value) → Comes table most used h t → At p ls t → value_in (read table t (located l.operand)) ≡ o
      → Ends program (Flows q rest outer2 t) (config s t (runs ts outer)) (with_some o (λ v. go v t.world)))
      → Ends program (Flows q rest outer2 h) (config s h (runs (then_terms l.terms ts) outer)) (value_of calls (frame_in table s) e ls h.world >>= go)
  value_then p q ws ls span e l used h ts rest outer outer2 go placed low is w a next =
      let within : Within p.used used = within_on (within_use (made_before p.row) p.used) w in
      let zero_used : Used 0 p.used = placed.fixed.by 0 zero_fixed in
      let fit : Fits program most calls called s found p.variables ws placed.agree p.used zero_used span ls h = record { stands = a.stands; visible = a.visible } in
      rw (by_operand e ls h.world go)
      (then_flows (operand_of calls (frame_in table s) e ls h.world) _ (within_on placed.fixed within)
      (operand_from program most calls called s found p.variables ws placed.agree p.used zero_used span ls e l used h ts outer low fit
      (λ plain. value_runs program most calls called s found p.variables ws placed.agree p.used zero_used span ls e l used h ts outer low is plain within fit))
      (λ x t comes m.
      let after = at_on placed.fixed w a comes in
      next t (value_of_operand (frame_in table s) ls t.world x) comes after
      (means_read program most calls called s found p.variables ws placed.agree p.used zero_used span ls x l.operand (in_use l.made used) t m (record { stands = after.stands; visible = after.visible }))))

  -- Drops.

  pub record Dropped (used : List ℕ) (h : Here) (control : Control) (c : Configuration) : Type 0 where
    pub slots : SlotCells
    pub kept : Kept used h.slots slots
    pub leads : Leads program c (goes (config s (record { slots = slots; notes = h.notes; world = h.world }) control))

  pub drops_run : (ks : List ℕ) (used : List ℕ) (span : Span) (h : Here) (rest : SilicaTerms) (outer : List Rest) → ((n : ℕ) → Used n ks → IsFree n used)
      → Dropped used h (runs rest outer) (config s h (runs (then_terms (drops ks span) rest) outer))
  drops_run [] used span h rest outer free = record { slots = h.slots; kept = kept_self used h.slots; leads = stays program _ }
  drops_run (k ∷ ks) used span h rest outer free =
      let next = drops_run ks used span (record { slots = at h.slots k None; notes = h.notes; world = h.world }) rest outer (λ n u. free n (inr u)) in
      record {
        slots = next.slots;
        kept = record { by = λ n u. next.kept.by n u ∙ ap shape (at_other h.slots k None n (free_differs k used (free k (inl refl)) n u)) };
        leads = leads_on program (one_step program refl) next.leads;
      }
