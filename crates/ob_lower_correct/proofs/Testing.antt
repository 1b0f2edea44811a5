-- Tests of states by their terms.
use Rattle.std.proofs.Common.{◌≡◌, ℕ, ◌<◌, ◌≤◌, Bool, true, false, ◌&&◌, ◌||◌, List, ◌∷◌, length, Option, Some, None, refl, sym, ap, ◌∙◌, subst}
use Rattle.std.proofs.lemmas.Bool.{ne_eqb}
use Rattle.std.specs.Prelude.{slice_get, option_map, option_and_then, IsSomeAnd, if◌then◌else◌}
use Rattle.std.specs.Option.{option_map_or}
use Rattle.ob_base.specs.declared.fault.Span.{Span}
use Rattle.ob_base.specs.declared.id.StateId.{StateId}
use Rattle.ob_table.specs.declared.seen.SeenAt.{SeenAt}
use Rattle.ob_table.specs.Tables.{ClassTable, contract_at, field_at}
use Rattle.ob_table.specs.declared.seen.Kind.{Kind}
use Rattle.ob_table.specs.declared.seen.Seen.{Seen}
use Rattle.ob_table.specs.declared.seen.Seen.TheVariants.{This as ThisSeen, Local, Field as FieldSeen}
use Rattle.ob_silica.specs.declared.place.Operand.{Operand}
use Rattle.ob_silica.specs.declared.place.Place.{Place}
use Rattle.ob_silica.specs.declared.place.Place.TheVariants.{This, Field}
use Rattle.ob_table_spec.specs.WellFormed as made
use Rattle.ob_table_spec.specs.WellFormed.{kind_of_seen, kind_of_resolved, is_reference}
use Rattle.ob_heap_spec.specs.Values.{Value, int_value, bool_value, text_value, reference, referred}
use Rattle.ob_heap_spec.specs.Worlds.{World, RunOutcome, ◌>>=◌, with_some}
use Rattle.ob_source_meaning.specs.Frames as meaning
use Rattle.ob_source_meaning.specs.Frames.{Calls, Flow}
use Rattle.ob_source_meaning.specs.Naming.{value_seen}
use Rattle.ob_source_meaning.specs.Statements.{run}
use Rattle.ob_silica.specs.Terms.{SilicaTerms, no_terms, and_term, then_terms, SilicaForm, one_term}
use Rattle.ob_silica_steps.specs.Cells.{Cell, value_in}
use Rattle.ob_silica_places.specs.Places.{slot, field, location_of, located}
use Rattle.ob_silica_steps.specs.Configurations.{SilicaProgram, SlotCells, Rest, runs, Configuration, goes}
use Rattle.ob_silica_steps.specs.Here.{Here, if_there, read, set_permission}
use Rattle.ob_silica_steps.specs.Steps.{step}
use Rattle.ob_lower_spec.specs.Forms.{locals_of, slot_of, place_seen, operand}
use Rattle.ob_lower_spec.specs.Points.{around, Point, passed}
use Rattle.ob_lower_spec.specs.GivenTerms.{with_unit}
use Rattle.ob_lower_spec.specs.StatementTerms.{IsNamed}
use Rattle.ob_lower_correct.proofs.Slots.{Used, Within, within_self}
use Rattle.ob_lower_correct.proofs.Runs.{Ends, one_step}
use Rattle.ob_lower_correct.proofs.Standing.{Setting, frame_in, made_in, config, shape, Stands, Comes, this_value, none_some, some_same, comes_fewer}
use Rattle.ob_lower_correct.proofs.Names.{Visible}
use Rattle.ob_lower_correct.proofs.Calling.{CallsRun}
use Rattle.ob_lower_correct.proofs.Flows.{Placed, At, Flows, at_on, unit_flows}
use Rattle.ob_lower_correct.proofs.Changes.{noted_quiet, quiet_later, permission_alike}
use Rattle.ob_lower_correct.proofs.Values.{there, not_there}
use Rattle.ob_lower_correct.proofs.Names.{name_read}
use Rattle.ob_lower_correct.proofs.Setting.{slot_place}
use Rattle.ob_lower_correct.proofs.Plain.{seen_agree}
use Rattle.ob_lower_correct.proofs.Ending.{Finishes}
use Rattle.ob_lower_correct.proofs.Changes.{Alike, alike_self, quiet_read}
use Rattle.ob_lower_correct.proofs.Placing.{moved_world}
use Rattle.ob_lower_correct.proofs.Standing.{self_is, none_some}
use Rattle.ob_silica_steps.specs.Configurations.{Ends as BranchEnds, plain_end, test_end, lock_end, abort_step as abort_next}
use Rattle.ob_silica_steps.specs.Testing.{StateTest, branch_of, narrowed, tells, tests_from, test_this_as, test_this, test_shared, test_other, test_object, is_in, reads_object, test_step}
use Rattle.ob_silica_places.specs.Places.{this, same_location}
use Rattle.ob_silica_steps.specs.Here.{self_of, self, field_value}
use Rattle.ob_silica.specs.Terms.{test_form}
use Rattle.ob_perm.specs.Permissions.{Permission, owned, shared, unowned}
use Rattle.ob_perm.specs.States.{only}
use Rattle.ob_base.specs.declared.id.ContractId.{ContractId}
use Rattle.ob_table.specs.declared.seen.Kind.TheVariants.{Int, Bool as BoolKind, Text, Reference}
use Rattle.ob_table.specs.declared.contract.Field.{Field as TableField}
use Rattle.ob_table_spec.specs.WellFormed.{RefersTo, Refers}
use Rattle.ob_heap_spec.specs.Objects.{Object, is_in_state}
use Rattle.ob_heap_spec.specs.Contents.{object_at}
use Rattle.ob_heap_spec.specs.Worlds.{by_state, read_object}
use Rattle.ob_heap_spec.specs.Marks.{is_locked, is_in_progress, lock}
use Rattle.ob_source_meaning.specs.StateTests as tests
use Rattle.ob_source_meaning.specs.StateTests.{test_seen, branch}
use Rattle.ob_source_meaning.specs.Naming.{contract_seen, contract_of_kind}
use Rattle.ob_lower_correct.proofs.Names.{name_kind}
use Rattle.ob_table.specs.Statements.{Block, Otherwise, resolved_test}
use Rattle.ob_source_meaning.specs.Statements.{run_block, run_otherwise}
use Rattle.ob_lower_correct.proofs.Branches.{EndsTo, read_objects, some_map, if_some, plain_ends, test_ends, branch_runs, locked_runs}
use Rattle.ob_lower_correct.proofs.Values.{there}

module _ (program : SilicaProgram) (most : ℕ) (calls : Calls) (called : CallsRun program most calls) (s : Setting) (found : contract_at program.table s.here ≡ Some s.own)
    (start : SlotCells) (finish : Option Value → World → RunOutcome (Option Value)) (fixed : List ℕ) (zero_fixed : Used 0 fixed) where
  abbrev table : ClassTable
  table = program.table

  abbrev f : meaning.SourceFrame
  f = frame_in program.table s

  abbrev F : made.StaticFrame
  F = made_in program.table s

  abbrev Stand : Point → meaning.Locals → Here → Type 0
  Stand p ls h = At program most calls called s found start finish fixed zero_fixed p ls h

  abbrev Runs : Point → SilicaTerms → List Rest → Here → Configuration → RunOutcome Flow → Type 0
  Runs q rest outer h c o = Ends program (Flows program most calls called s found start finish fixed zero_fixed q rest outer h) c o

  abbrev Places : Point → made.LocalKinds → Type 0
  Places p ws = Placed (length s.signature.params) fixed p ws

  -- the kind that is noted of a reference by name is the declared one
  field_cell : (t : Here) (k : ℕ) (fd : TableField) (x : Cell) → Stands table most s t → slice_get s.own.fields k ≡ Some fd → read table t (field k) ≡ Some x → x.note.kind ≡ kind_of_resolved fd.of
  field_cell t k fd x st ef e =
      let v = some_map (option_and_then (λ o. field_value table o k) (self t)) (λ v. record { value = v; note = t.notes.fields (self_of t.slots) k }) x e in
      let self : self_of t.slots ≡ s.this = self_is table most st in
      let at_self : object_at t.world.objects (self_of t.slots) ≡ Some st.object.0 = ap (λ n. object_at t.world.objects n) self ∙ st.object.1 in
      let has : st.object.0.fields k ≡ Some v.0 = if_some _ (st.object.0.fields k) v.0 (sym (ap (option_and_then (λ o. field_value table o k)) at_self) ∙ v.1) in
      ap (λ (c : Cell). c.note.kind) (sym v.2)
      ∙ st.noted.by (self_of t.slots) k st.object.0 fd v.0 at_self (ap (option_and_then (λ c. slice_get c.fields k)) (ap (contract_at table) st.object.2 ∙ found) ∙ ef) has

  name_cell : (p : Point) (ls : meaning.Locals) (t : Here) (seen : Seen) (place : Place) (id : ContractId) (x : Cell) → Stands table most s t → Visible p.variables p.used ls t.slots → kind_of_seen F (locals_of p.variables) seen ≡ Some (Reference id)
      → place_seen p.variables seen ≡ Some place → read table t (location_of place) ≡ Some x → x.note.kind ≡ Reference id
  name_cell p ls t ThisSeen place id x st vis ek ep e =
      let here_is : s.here ≡ id = contract_of (some_same (Reference s.here) (Reference id) ek) in
      ap (λ (y : Value × Kind). y.1) (some_same (x.value, x.note.kind) (reference s.this, Reference s.here) (ap shape (sym (ap (λ q. read table t (location_of q)) (some_same This place ep) ∙ e)) ∙ st.this)) ∙ ap Reference here_is
    where
      contract_of : {a b : ContractId} → Reference a ≡ Reference b → a ≡ b
      contract_of {a} e = ap (λ k. option_map_or (λ c. c) (contract_of_kind k) a) e
  name_cell p ls t (Local n) place id x st vis ek ep e =
      let k = slot_place (slot_of p.variables n) place ep in
      let held = vis.by n k.0 k.1 in
      let kind_is : held.variable.kind ≡ Reference id = some_same held.variable.kind (Reference id) (sym held.kind ∙ ek) in
      ap (λ (y : Value × Kind). y.1) (some_same (x.value, x.note.kind) (held.variable.value, held.variable.kind) (ap shape (sym (ap (λ q. read table t (location_of q)) (sym k.2) ∙ e)) ∙ held.noted (ap is_reference kind_is))) ∙ kind_is
  name_cell p ls t (FieldSeen fid) place id x st vis ek ep e = by_field (field_at s.own fid) refl ek
    where
      by_field : (o : Option TableField) → field_at s.own fid ≡ o → option_map (λ field. kind_of_resolved field.of) o ≡ Some (Reference id) → x.note.kind ≡ Reference id
      by_field None ef ek = absurd (none_some ek)
      by_field (Some fd) ef ek = field_cell t fid.0 fd x st ef (ap (λ q. read table t (location_of q)) (some_same (Field fid) place ep) ∙ e) ∙ some_same (kind_of_resolved fd.of) (Reference id) ek

  module _ (finishes : Finishes program most calls called s found start finish fixed zero_fixed) (p : Point) (ls : meaning.Locals) (placed_fixed : Within fixed p.used) (rest : SilicaTerms) (outer : List Rest) (span : Span) (state : StateId) (x y : SilicaTerms) (join_at : Span) (block : Block) (otherwise : Otherwise)
      (run_x : (t : Here) (around : List Rest) → Stand (passed p) ls t → Runs (passed p) no_terms around t (config s t (runs x around)) (run_block calls f block ls t.world))
      (run_y : (t : Here) (around : List Rest) → Stand (passed p) ls t → Runs (passed p) no_terms around t (config s t (runs y around)) (run_otherwise calls f otherwise ls t.world)) where
    abbrev form : Operand → SilicaForm
    form from = test_form from state x y join_at

    abbrev C : Here → Operand → Configuration
    C t from = config s t (runs (and_term (form from) span rest) outer)

    abbrev tested : Operand → StateTest
    tested from = record { place = located from; state = state.0; branch = x; other = y; rest = rest; outer = outer }

    -- the two branches, by a truth
    abbrev either : Bool → World → RunOutcome Flow
    either true w = run_block calls f block ls w
    either false w = run_otherwise calls f otherwise ls w

    -- into a branch with other permissions
    enters : (t h2 : Here) (n : ℕ) (from : Operand) (b : Bool) (e : BranchEnds) → Stand (passed p) ls t → Alike (reads_object t n) h2 → h2.world ≡ read_object t.world n → EndsTo e (λ w. w)
        → step program (C t from) ≡ goes (config s h2 (runs (branch_of (tested from) b) (record { terms = rest; ends = e } ∷ outer)))
        → Runs (passed p) rest outer t (C t from) (either b (read_object t.world n))
    enters t h2 n from b e a al ew ends st = by_branch b st
      where
        comes : Comes table most p.used t (record { slots = h2.slots; notes = h2.notes; world = read_object t.world n })
        comes = record {
          kept = record { by = λ m u. al.slots m };
          later = quiet_later (quiet_read t.world n);
          noted = noted_quiet a.stands.noted (quiet_read t.world n) al.notes;
          fuel = subst (λ i. i ≤ most) (sym (quiet_read t.world n).fuel) a.stands.fuel;
        }

        there_is : (ts : SilicaTerms) → step program (C t from) ≡ goes (config s h2 (runs ts (record { terms = rest; ends = e } ∷ outer)))
            → step program (C t from) ≡ goes (config s (record { slots = h2.slots; notes = h2.notes; world = read_object t.world n }) (runs ts (record { terms = rest; ends = e } ∷ outer)))
        there_is ts st = st ∙ ap (λ w. goes (config s (record { slots = h2.slots; notes = h2.notes; world = w }) (runs ts (record { terms = rest; ends = e } ∷ outer)))) ew

        by_branch : (b : Bool) → step program (C t from) ≡ goes (config s h2 (runs (branch_of (tested from) b) (record { terms = rest; ends = e } ∷ outer))) → Runs (passed p) rest outer t (C t from) (either b (read_object t.world n))
        by_branch true st = branch_runs program most calls called s found start finish fixed zero_fixed p rest outer t h2 (read_object t.world n) e x (C t from) (λ w. run_block calls f block ls w) ends placed_fixed (comes_fewer table most placed_fixed comes) (there_is x st)
            (run_x (record { slots = h2.slots; notes = h2.notes; world = read_object t.world n }) (record { terms = rest; ends = e } ∷ outer) (at_on program most calls called s found start finish fixed zero_fixed placed_fixed (within_self p.used) a comes))
        by_branch false st = branch_runs program most calls called s found start finish fixed zero_fixed p rest outer t h2 (read_object t.world n) e y (C t from) (λ w. run_otherwise calls f otherwise ls w) ends placed_fixed (comes_fewer table most placed_fixed comes) (there_is y st)
            (run_y (record { slots = h2.slots; notes = h2.notes; world = read_object t.world n }) (record { terms = rest; ends = e } ∷ outer) (at_on program most calls called s found start finish fixed zero_fixed placed_fixed (within_self p.used) a comes))

    tells_runs : (t : Here) (n : ℕ) (from : Operand) (c : Cell) (b : Bool) → Stand (passed p) ls t → step program (C t from) ≡ tells (C t from) (reads_object t n) (tested from) c b → Runs (passed p) rest outer t (C t from) (either b (read_object t.world n))
    tells_runs t n from c b a st =
        enters t (set_permission (located from) (narrowed c.note.permission state.0 b) (reads_object t n)) n from b plain_end a (permission_alike (located from) _ (reads_object t n)) (moved_world program most (located from) _ (reads_object t n)) (plain_ends program most calls called s found start finish fixed zero_fixed) st

    -- a test of `this`
    this_runs_as : (t : Here) (n : ℕ) (from : Operand) (c : Cell) (q : Permission) (b : Bool) → Stand (passed p) ls t → step program (C t from) ≡ test_this_as q (C t from) (reads_object t n) (tested from) c b → Runs (passed p) rest outer t (C t from) (either b (read_object t.world n))
    this_runs_as t n from c (owned a1) b a st = tells_runs t n from c b a st
    this_runs_as t n from c unowned b a st = tells_runs t n from c b a st
    this_runs_as t n from c shared true a st =
        enters t (tests_from (reads_object t n) (tested from)) n from true (test_end (located from)) a (permission_alike (located from) _ (reads_object t n)) (moved_world program most (located from) _ (reads_object t n)) (test_ends program most calls called s found start finish fixed zero_fixed (located from)) st
    this_runs_as t n from c shared false a st = enters t (reads_object t n) n from false plain_end a (alike_self (reads_object t n)) refl (plain_ends program most calls called s found start finish fixed zero_fixed) st

    -- another place whose object isn't shared, or is shared and free
    shared_runs : (t : Here) (n : ℕ) (from : Operand) (b : Bool) → Stand (passed p) ls t → step program (C t from) ≡ test_shared (C t from) (reads_object t n) (tested from) n b
        → Runs (passed p) rest outer t (C t from) (branch (if b then tests.holds_locking n else tests.fails) (read_object t.world n) (run_block calls f block ls) (run_otherwise calls f otherwise ls))
    shared_runs t n from false a st = enters t (reads_object t n) n from false plain_end a (alike_self (reads_object t n)) refl (plain_ends program most calls called s found start finish fixed zero_fixed) st
    shared_runs t n from true a st =
        let h1 = reads_object t n in
        let h2 = tests_from h1 (tested from) in
        let al = permission_alike (located from) (owned (only state.0)) h1 in
        let w : World = lock n (read_object t.world n) in
        let comes : Comes table most p.used t (record { slots = h2.slots; notes = h2.notes; world = w }) = record {
          kept = record { by = λ m u. al.slots m };
          later = record { by = (quiet_later (quiet_read t.world n)).by; fuel = (quiet_later (quiet_read t.world n)).fuel };
          noted = noted_quiet {w = t.world} {v = w} a.stands.noted (record { by = (quiet_read t.world n).by; fuel = (quiet_read t.world n).fuel }) al.notes;
          fuel = subst (λ i. i ≤ most) (sym (quiet_read t.world n).fuel) a.stands.fuel;
        } in
        locked_runs program most calls called s found start finish fixed zero_fixed finishes p rest outer t h2 w (located from) n x (C t from) (λ v. run_block calls f block ls v) placed_fixed (comes_fewer table most placed_fixed comes)
        (st ∙ ap (λ v. goes (config s (record { slots = h2.slots; notes = h2.notes; world = lock n v }) (runs x (record { terms = rest; ends = lock_end (located from) n } ∷ outer)))) (moved_world program most (located from) (owned (only state.0)) h1))
        (run_x (record { slots = h2.slots; notes = h2.notes; world = w }) (record { terms = rest; ends = lock_end (located from) n } ∷ outer) (at_on program most calls called s found start finish fixed zero_fixed placed_fixed (within_self p.used) a comes))

    -- which branch a test leads to
    abbrev branches : tests.TestOutcome → World → RunOutcome Flow
    branches d w = branch d w (run_block calls f block ls) (run_otherwise calls f otherwise ls)

    branch_either : (b : Bool) (w : World) → branches (if b then tests.holds else tests.fails) w ≡ either b w
    branch_either true w = refl
    branch_either false w = refl

    -- a test of `this` does what the source's does
    pub this_tested : (t : Here) (from : Operand) (lockd b : Bool) → Stand (passed p) ls t → from.place ≡ This → (a : Stand (passed p) ls t)
        → (s.share_entered && is_locked (read_object t.world s.this) s.this) ≡ lockd → is_in_state table s.here state a.stands.object.0 ≡ b
        → Runs (passed p) rest outer t (C t from) (tests.test_this f state t.world >>= (λ d w. branches d w))
    this_tested t from lockd b a0 ep a el eb = by_lock lockd el
      where
        o : Object
        o = a.stands.object.0

        abbrev_c : (c : Cell) × (t.slots 0 ≡ Some c) × (c.value ≡ reference s.this)
        abbrev_c = there (t.slots 0) (reference s.this) (this_value table most a.stands)

        kind_is : (c : Cell) → t.slots 0 ≡ Some c → c.note.kind ≡ Reference s.here
        kind_is c e = ap (λ (y : Value × Kind). y.1) (some_same (c.value, c.note.kind) (reference s.this, Reference s.here) (ap shape (sym e) ∙ a.stands.this))

        step_is : (c : Cell) → t.slots 0 ≡ Some c → c.value ≡ reference s.this → step program (C t from) ≡ (if s.share_entered && is_locked (read_object t.world s.this) s.this then abort_next (by_state s.this None) (read_object t.world s.this) else test_this_as c.note.permission (C t from) (reads_object t s.this) (tested from) c b)
        step_is c ec ev =
            ap (λ q. test_step table (record { place = location_of q; state = state.0; branch = x; other = y; rest = rest; outer = outer }) state (C t from)) ep
            ∙ ap (λ z. if_there z (λ x1. if_there (referred x1.value) (λ n. if_there (object_at t.world.objects n) (λ o. test_object (C t from) (reads_object t n) (record { place = slot 0; state = state.0; branch = x; other = y; rest = rest; outer = outer }) x1 n o (is_in table x1.note.kind state o))))) ec
            ∙ ap (λ v. if_there (referred v) (λ n. if_there (object_at t.world.objects n) (λ o. test_object (C t from) (reads_object t n) (record { place = slot 0; state = state.0; branch = x; other = y; rest = rest; outer = outer }) c n o (is_in table c.note.kind state o)))) ev
            ∙ ap (λ z. if_there z (λ o. test_object (C t from) (reads_object t s.this) (record { place = slot 0; state = state.0; branch = x; other = y; rest = rest; outer = outer }) c s.this o (is_in table c.note.kind state o))) a.stands.object.1
            ∙ ap (λ k. test_object (C t from) (reads_object t s.this) (record { place = slot 0; state = state.0; branch = x; other = y; rest = rest; outer = outer }) c s.this a.stands.object.0 (is_in table k state a.stands.object.0)) (kind_is c ec)
            ∙ ap (λ d. test_object (C t from) (reads_object t s.this) (record { place = slot 0; state = state.0; branch = x; other = y; rest = rest; outer = outer }) c s.this a.stands.object.0 d) eb
            ∙ ap (λ n. if s.share_entered && is_locked (read_object t.world s.this) n then abort_next (by_state s.this None) (read_object t.world s.this) else test_this_as c.note.permission (C t from) (reads_object t s.this) (record { place = slot 0; state = state.0; branch = x; other = y; rest = rest; outer = outer }) c b) (self_is table most a.stands)
            ∙ ap (λ q. if s.share_entered && is_locked (read_object t.world s.this) s.this then abort_next (by_state s.this None) (read_object t.world s.this) else test_this_as c.note.permission (C t from) (reads_object t s.this) (record { place = location_of q; state = state.0; branch = x; other = y; rest = rest; outer = outer }) c b) (sym ep)

        by_lock : (d : Bool) → (s.share_entered && is_locked (read_object t.world s.this) s.this) ≡ d → Runs (passed p) rest outer t (C t from) (tests.test_this f state t.world >>= (λ d w. branches d w))
        by_lock true e =
            let c = abbrev_c in
            rw e (record { by = one_step program (step_is c.0 c.1 c.2 ∙ ap (λ d. if d then abort_next (by_state s.this None) (read_object t.world s.this) else test_this_as c.0.note.permission (C t from) (reads_object t s.this) (tested from) c.0 b) e) })
        by_lock false e =
            let c = abbrev_c in
            rw (e, ap (λ xs. object_at xs s.this) (read_objects t.world s.this) ∙ a.stands.object.1, eb, branch_either b (read_object t.world s.this))
            (this_runs_as t s.this from c.0 c.0.note.permission b a (step_is c.0 c.1 c.2 ∙ ap (λ d. if d then abort_next (by_state s.this None) (read_object t.world s.this) else test_this_as c.0.note.permission (C t from) (reads_object t s.this) (tested from) c.0 b) e))

    -- a test of another object, which is there
    object_tested : (t : Here) (from : Operand) (n : ℕ) (id : ContractId) (o : Object) (c : Cell) (sh barred b : Bool) → Stand (passed p) ls t
        → object_at t.world.objects n ≡ Some o → o.shared ≡ sh → (is_locked (read_object t.world n) n || is_in_progress (read_object t.world n) n) ≡ barred → is_in_state table id state o ≡ b
        → step program (C t from) ≡ test_other (C t from) (reads_object t n) (tested from) c n o (is_in_state table id state o)
        → Runs (passed p) rest outer t (C t from) (tests.test_object f id state n t.world >>= (λ d w. branches d w))
    object_tested t from n id o c false barred b a eo es eb ei st =
        rw (ap (λ xs. object_at xs n) (read_objects t.world n) ∙ eo, es, ei)
        (subst (λ o. Runs (passed p) rest outer t (C t from) o) (sym (plain_branch b))
        (tells_runs t n from c b a (st ∙ ap (λ d. test_other (C t from) (reads_object t n) (tested from) c n o d) ei ∙ ap (λ d. if d then (if is_locked (read_object t.world n) n || is_in_progress (read_object t.world n) n then abort_next (by_state n None) (read_object t.world n) else test_shared (C t from) (reads_object t n) (tested from) n b) else tells (C t from) (reads_object t n) (tested from) c b) es)))
      where
        plain_branch : (b : Bool) → branches (if b then tests.holds else tests.fails) (read_object t.world n) ≡ either b (read_object t.world n)
        plain_branch true = refl
        plain_branch false = refl
    object_tested t from n id o c true true b a eo es eb ei st =
        rw (ap (λ xs. object_at xs n) (read_objects t.world n) ∙ eo, es, eb)
        (record {
          by = one_step program (st ∙ ap (λ d. if d then (if is_locked (read_object t.world n) n || is_in_progress (read_object t.world n) n then abort_next (by_state n None) (read_object t.world n) else test_shared (C t from) (reads_object t n) (tested from) n (is_in_state table id state o)) else tells (C t from) (reads_object t n) (tested from) c (is_in_state table id state o)) es
              ∙ ap (λ d. if d then abort_next (by_state n None) (read_object t.world n) else test_shared (C t from) (reads_object t n) (tested from) n (is_in_state table id state o)) eb);
        })
    object_tested t from n id o c true false b a eo es eb ei st =
        rw (ap (λ xs. object_at xs n) (read_objects t.world n) ∙ eo, es, eb, ei)
        (shared_runs t n from b a (st ∙ ap (λ d. test_other (C t from) (reads_object t n) (tested from) c n o d) ei ∙ ap (λ d. if d then (if is_locked (read_object t.world n) n || is_in_progress (read_object t.world n) n then abort_next (by_state n None) (read_object t.world n) else test_shared (C t from) (reads_object t n) (tested from) n b) else tells (C t from) (reads_object t n) (tested from) c b) es
        ∙ ap (λ d. if d then abort_next (by_state n None) (read_object t.world n) else test_shared (C t from) (reads_object t n) (tested from) n b) eb))

    -- a test of another name does what the source's does
    pub other_tested : (t : Here) (from : Operand) (seen : Seen) (id : ContractId) (o : Option Value) → Stand (passed p) ls t → value_in (read table t (located from)) ≡ o
        → ((c : Cell) → read table t (located from) ≡ Some c → c.note.kind ≡ Reference id) → same_location (located from) this ≡ false
        → Runs (passed p) rest outer t (C t from) (with_some (option_and_then referred o) (λ n. tests.test_object f id state n t.world) >>= (λ d w. branches d w))
    other_tested t from seen id None a e kinds apart = record { by = one_step program (not_there (read table t (located from)) _ e) }
    other_tested t from seen id (Some v) a e kinds apart =
        let c = there (read table t (located from)) v e in by_value v c.0 c.2 (kinds c.0 c.1) (read_step c.0 c.1)
      where
        read_step : (c : Cell) → read table t (located from) ≡ Some c → step program (C t from) ≡ if_there (referred c.value) (λ n. if_there (object_at t.world.objects n) (λ o. test_object (C t from) (reads_object t n) (tested from) c n o (is_in table c.note.kind state o)))
        read_step c ec = ap (λ z. if_there z (λ x1. if_there (referred x1.value) (λ n. if_there (object_at t.world.objects n) (λ o. test_object (C t from) (reads_object t n) (tested from) x1 n o (is_in table x1.note.kind state o))))) ec

        by_object : (n : ℕ) (c : Cell) (o : Option Object) → object_at t.world.objects n ≡ o → c.note.kind ≡ Reference id
            → step program (C t from) ≡ if_there o (λ o. test_object (C t from) (reads_object t n) (tested from) c n o (is_in table c.note.kind state o)) → Runs (passed p) rest outer t (C t from) (tests.test_object f id state n t.world >>= (λ d w. branches d w))
        by_object n c None eo ek st = rw (ap (λ xs. object_at xs n) (read_objects t.world n) ∙ eo) (record { by = one_step program st })
        by_object n c (Some o) eo ek st =
            object_tested t from n id o c o.shared (is_locked (read_object t.world n) n || is_in_progress (read_object t.world n) n) (is_in_state table id state o) a eo refl refl refl
            (st ∙ ap (λ d. if d then test_this (C t from) (reads_object t n) (tested from) c n (is_in table c.note.kind state o) else test_other (C t from) (reads_object t n) (tested from) c n o (is_in table c.note.kind state o)) apart
            ∙ ap (λ k. test_other (C t from) (reads_object t n) (tested from) c n o (is_in table k state o)) ek)

        by_value : (v : Value) (c : Cell) → c.value ≡ v → c.note.kind ≡ Reference id → step program (C t from) ≡ if_there (referred c.value) (λ n. if_there (object_at t.world.objects n) (λ o. test_object (C t from) (reads_object t n) (tested from) c n o (is_in table c.note.kind state o)))
            → Runs (passed p) rest outer t (C t from) (with_some (referred v) (λ n. tests.test_object f id state n t.world) >>= (λ d w. branches d w))
        by_value (int_value z) c ev ek st = record { by = one_step program (st ∙ ap (λ u. if_there (referred u) (λ n. if_there (object_at t.world.objects n) (λ o. test_object (C t from) (reads_object t n) (tested from) c n o (is_in table c.note.kind state o)))) ev) }
        by_value (bool_value z) c ev ek st = record { by = one_step program (st ∙ ap (λ u. if_there (referred u) (λ n. if_there (object_at t.world.objects n) (λ o. test_object (C t from) (reads_object t n) (tested from) c n o (is_in table c.note.kind state o)))) ev) }
        by_value (text_value z) c ev ek st = record { by = one_step program (st ∙ ap (λ u. if_there (referred u) (λ n. if_there (object_at t.world.objects n) (λ o. test_object (C t from) (reads_object t n) (tested from) c n o (is_in table c.note.kind state o)))) ev) }
        by_value (reference n) c ev ek st =
            by_object n c (object_at t.world.objects n) refl ek (st ∙ ap (λ u. if_there (referred u) (λ n. if_there (object_at t.world.objects n) (λ o. test_object (C t from) (reads_object t n) (tested from) c n o (is_in table c.note.kind state o)))) ev)

    -- the place of another name isn't that of `this`
    place_apart : (t : Here) (n k : ℕ) → Stand (passed p) ls t → slot_of p.variables n ≡ Some k → same_location (slot k) this ≡ false
    place_apart t n k a e = ne_eqb k 0 (λ z. (a.visible.by n k e).apart (sym z))

    pub seen_tested : (ws : made.LocalKinds) (t : Here) (seen : Seen) (place : Place) (sp : Span) (id : ContractId) → Placed (length s.signature.params) fixed p ws → kind_of_seen F ws seen ≡ Some (Reference id) → place_seen p.variables seen ≡ Some place → Stand (passed p) ls t
        → same_location (location_of place) this ≡ false
        → Runs (passed p) rest outer t (C t (operand place sp)) (tests.test_other f ls seen state t.world >>= (λ d w. branches d w))
    seen_tested ws t seen place sp id placed ek ep a apart =
        let kind_is : kind_of_seen F (locals_of p.variables) seen ≡ Some (Reference id) = seen_agree F (locals_of p.variables) ws placed.agree seen ∙ ek in
        let declared : contract_seen f ls seen ≡ Some id = ap (option_and_then contract_of_kind) (name_kind table most s p.variables p.used ls t seen place a.visible ep ∙ kind_is) in
        rw (declared)
        (other_tested t (operand place sp) seen id (value_seen f ls t.world seen) a
        (name_read table most s p.variables p.used ls t seen place found a.stands a.visible ep)
        (λ c ec. name_cell p ls t seen place id c a.stands a.visible kind_is ep ec) apart)

    by_seen : (ws : made.LocalKinds) (t : Here) (seen : Seen) (place : Place) (sp : Span) (kind : Option Kind) → Placed (length s.signature.params) fixed p ws → kind_of_seen F ws seen ≡ kind → IsSomeAnd kind (RefersTo table (λ c. state.0 < length c.states))
        → place_seen p.variables seen ≡ Some place → Stand (passed p) ls t → Runs (passed p) rest outer t (C t (operand place sp)) (test_seen f ls seen state t.world >>= (λ d w. branches d w))
    by_seen ws t seen place sp None placed ek refers ep a = absurd refers
    by_seen ws t seen place sp (Some Int) placed ek refers ep a = absurd refers
    by_seen ws t seen place sp (Some BoolKind) placed ek refers ep a = absurd refers
    by_seen ws t seen place sp (Some Text) placed ek refers ep a = absurd refers
    by_seen ws t ThisSeen place sp (Some (Reference id)) placed ek refers ep a =
        this_tested t (operand place sp) (s.share_entered && is_locked (read_object t.world s.this) s.this) (is_in_state table s.here state a.stands.object.0) a (sym (some_same This place ep)) a refl refl
    by_seen ws t (Local n) place sp (Some (Reference id)) placed ek refers ep a =
        let k = slot_place (slot_of p.variables n) place ep in
        seen_tested ws t (Local n) place sp id placed ek ep a (ap (λ q. same_location (location_of q) this) k.2 ∙ place_apart t n k.0 a k.1)
    by_seen ws t (FieldSeen fid) place sp (Some (Reference id)) placed ek refers ep a =
        seen_tested ws t (FieldSeen fid) place sp id placed ek ep a (ap (λ q. same_location (location_of q) this) (sym (some_same (Field fid) place ep)))

    pub test_runs : (ws : made.LocalKinds) (h : Here) (subject : SeenAt) (o : Operand) → Placed (length s.signature.params) fixed p ws → IsNamed (around F p span) subject o → Refers F ws subject.of (λ c. state.0 < length c.states) → Stand (passed p) ls h
        → Runs (passed p) rest outer h (config s h (runs (then_terms (with_unit span (one_term (form o) span)) rest) outer)) (run calls f (resolved_test subject state block otherwise span) ls h.world)
    test_runs ws h subject o placed (place, ep, eo) refers a =
        rw eo (unit_flows program most calls called s found start finish fixed zero_fixed (passed p) (passed p) ls h span (and_term (form (operand place subject.span)) span rest) rest outer outer _ placed_fixed a
        (λ w comes at_w. by_seen ws (record h { world = w }) subject.of place subject.span (kind_of_seen F ws subject.of) placed refl refers ep at_w))
