-- A change of the state of `this` by its terms.
use Rattle.std.proofs.Common.{◌≡◌, ℕ, Bool, true, false, ◌&&◌, List, [], ◌++◌, length, Option, Some, None, refl, ap, ◌∙◌, subst}
use Rattle.std.specs.Prelude.{if◌then◌else◌}
use Rattle.ob_base.specs.declared.fault.Span.{Span}
use Rattle.ob_base.specs.declared.id.StateId.{StateId}
use Rattle.ob_table.specs.Statements.{GivenField, resolved_change}
use Rattle.ob_table.specs.declared.seen.Kind.TheVariants.{Reference}
use Rattle.ob_table.specs.Tables.{ClassTable, contract_at}
use Rattle.ob_table_spec.specs.WellFormed as made
use Rattle.ob_heap_spec.specs.Values.{Value, Numbered}
use Rattle.ob_heap_spec.specs.Worlds.{World, by_state, unless_aborted, if_right, with_object, edit_object, RunOutcome, gives, with_some}
use Rattle.ob_source_meaning.specs.Frames as meaning
use Rattle.ob_source_meaning.specs.Frames.{Calls, Flow, goes_on}
use Rattle.ob_source_meaning.specs.Naming.{values_given}
use Rattle.ob_source_meaning.specs.Statements.{run}
use Rattle.ob_source_meaning.specs.Fields.{given_of, moved_to, come_into_fields, move_this}
use Rattle.ob_silica.specs.Terms.{SilicaTerms, no_terms, and_term, then_terms}
use Rattle.ob_silica.specs.declared.place.Given as silica
use Rattle.ob_silica_steps.specs.Cells.{Cell}
use Rattle.ob_silica_steps.specs.Configurations.{SilicaProgram, SlotCells, Rest, runs, Configuration, NextStep, goes}
use Rattle.ob_silica_steps.specs.Here.{Here, if_there}
use Rattle.ob_silica_steps.specs.Steps.{step}
use Rattle.ob_lower_spec.specs.Points.{with_row, around, IsFree, Temporary, in_use, references, drops_of, staged_row, Point, passed}
use Rattle.ob_lower_spec.specs.GivenTerms.{LoweredGiven, LowersGiven, with_unit}
use Rattle.ob_lower_spec.specs.StatementTerms.{ended_by}
use Rattle.ob_lower_correct.proofs.Slots.{Used, within_self, within_on, within_use}
use Rattle.ob_lower_correct.proofs.Runs.{Ends, leads_on, one_step, join}
use Rattle.ob_lower_correct.proofs.Standing.{Setting, frame_in, made_in, config, Kept, Stands, Comes, kept_self, kept_on, kept_fewer, none_some, stands_on, comes_fewer, self_is, self_shape}
use Rattle.ob_lower_correct.proofs.Names.{Visible, visible_on}
use Rattle.ob_lower_correct.proofs.Calling.{CallsRun}
use Rattle.ob_lower_correct.proofs.Flows.{Placed, At, Flows, then_flows, at_on, unit_flows, drops_run}
use Rattle.ob_lower_correct.proofs.Fresh.{references_within}
use Rattle.ob_lower_correct.proofs.Setting.{placed_passed}
use Rattle.ob_lower_correct.proofs.Flows.{gave_on, gave_more}
use Rattle.ob_lower_correct.proofs.Slots.{within_first, within_second}
use Rattle.ob_lower_correct.proofs.Staging.{given_runs}
use Rattle.ob_lower_correct.proofs.Filling.{Filled, Fills, fills, lacks, fill_runs}
use Rattle.ob_silica_steps.specs.Changing.{all_there, fill_all, changed_here, change_with}
use Rattle.ob_silica_steps.specs.Here.{self_of}
use Rattle.ob_heap_spec.specs.Objects.{Object, has_all_values}
use Rattle.ob_heap_spec.specs.Contents.{object_at}
use Rattle.ob_heap_spec.specs.Marks.{is_locked}
use Rattle.ob_heap_spec.specs.Values.{nothing}
use Rattle.ob_silica.specs.Terms.{change_form}
use Rattle.ob_lower_correct.proofs.Changes.{edited, quiet_object, Quiet}
use Rattle.ob_lower_correct.proofs.Fresh.{fresh_append, given_fresh}
use Rattle.ob_lower_correct.proofs.Changed.{GivenRead, given_read, changed_world, changed_comes}
use Rattle.ob_lower_correct.proofs.Flows.{gave_on, gave_more}
use Rattle.ob_lower_correct.proofs.Staging.{visible_staged}
use Rattle.ob_lower_correct.proofs.Slots.{within_first, within_second}
use Rattle.ob_silica_steps.specs.Configurations.{stuck, abort_step as abort_next}

module _ (program : SilicaProgram) (most : ℕ) (calls : Calls) (called : CallsRun program most calls) (s : Setting) (found : contract_at program.table s.here ≡ Some s.own)
    (start : SlotCells) (finish : Option Value → World → RunOutcome (Option Value)) (fixed : List ℕ) (zero_fixed : Used 0 fixed) where
  abbrev table : ClassTable
  table = program.table

  abbrev f : meaning.SourceFrame
  f = frame_in program.table s

  abbrev F : made.StaticFrame
  F = made_in program.table s

  abbrev Stand : Point → meaning.Locals → Here → Type 0
  Stand p ls h = At program most calls called s found start finish fixed zero_fixed p ls h

  abbrev Runs : Point → SilicaTerms → List Rest → Here → Configuration → RunOutcome Flow → Type 0
  Runs q rest outer h c o = Ends program (Flows program most calls called s found start finish fixed zero_fixed q rest outer h) c o

  abbrev Places : Point → made.LocalKinds → Type 0
  Places p ws = Placed (length s.signature.params) fixed p ws

  -- a change goes on where each available field has a value
  changes : (p : Point) (ws : made.LocalKinds) (ls : meaning.Locals) (rest : SilicaTerms) (outer : List Rest) (state : StateId) (span : Span) (made : List Temporary) (t t1 : Here) (xs : List (ℕ × Value)) (all : Numbered Cell) (c : Configuration) (b : Bool) (o1 : Object)
      → Placed (length s.signature.params) fixed p ws → Stands table most s t → Visible p.variables p.used ls t.slots → Kept fixed start t.slots → ((n : ℕ) → Used n (references made) → IsFree n p.used) → Filled s.own t nothing xs t1 all
      → object_at (edit_object (moved_to s.own state xs) s.this (come_into_fields s.own xs t.world)).objects s.this ≡ Some o1 → has_all_values s.own o1 ≡ b
      → step program c ≡ change_with s.own state (then_terms (drops_of made span) rest) outer (config s t (runs no_terms outer)) t1 all
      → Runs (passed p) rest outer t c (with_object (edit_object (moved_to s.own state xs) s.this (come_into_fields s.own xs t.world)) s.this
      (λ o. if_right (has_all_values s.own o) (gives (goes_on (record ls { staged = [] })) (edit_object (moved_to s.own state xs) s.this (come_into_fields s.own xs t.world)))))
  changes p ws ls rest outer state span made t t1 xs all c b o1 placed st vis kept_start fresh filled eo eb es =
      let w : World = edit_object (moved_to s.own state xs) s.this (come_into_fields s.own xs t.world) in
      let t2 = changed_here s.own state all t1 in
      let comes = changed_comes program most calls called s found start finish fixed zero_fixed state t t1 p.used xs all st filled in
      let self : self_of t2.slots ≡ s.this = self_shape t2.slots s.this (Reference s.here) (comes.kept.by 0 (placed.fixed.by 0 zero_fixed) ∙ st.this) in
      let world_is : t2.world ≡ w = changed_world program most calls called s found start finish fixed zero_fixed state t t1 xs all st filled in
      let at_self : object_at t2.world.objects (self_of t2.slots) ≡ Some o1 = ap (λ n. object_at t2.world.objects n) self ∙ ap (λ (v : World). object_at v.objects s.this) world_is ∙ eo in
      let step_is : step program c ≡ (if b then goes (config s t2 (runs (then_terms (drops_of made span) rest) outer)) else stuck) =
      es ∙ ap (λ o. if_there o (λ o. if has_all_values s.own o then goes (config s t2 (runs (then_terms (drops_of made span) rest) outer)) else stuck)) at_self
      ∙ ap (λ d. if d then goes (config s t2 (runs (then_terms (drops_of made span) rest) outer)) else stuck) eb in
      rw (eo, eb) (by_values b step_is comes world_is)
    where
      by_values : (b : Bool) → step program c ≡ (if b then goes (config s (changed_here s.own state all t1) (runs (then_terms (drops_of made span) rest) outer)) else stuck)
          → Comes table most p.used t (changed_here s.own state all t1)
          → (changed_here s.own state all t1).world ≡ edit_object (moved_to s.own state xs) s.this (come_into_fields s.own xs t.world)
          → Runs (passed p) rest outer t c (if_right b (gives (goes_on (record ls { staged = [] })) (edit_object (moved_to s.own state xs) s.this (come_into_fields s.own xs t.world))))
      by_values false e comes world_is = record { by = one_step program e }
      by_values true e comes world_is =
          let t2 = changed_here s.own state all t1 in
          let w : World = edit_object (moved_to s.own state xs) s.this (come_into_fields s.own xs t.world) in
          let t3 : Here = record { slots = t2.slots; notes = t2.notes; world = w } in
          let comes3 : Comes table most p.used t t3 = subst (λ v. Comes table most p.used t (record { slots = t2.slots; notes = t2.notes; world = v })) world_is comes in
          let d = drops_run program most calls called s found start finish fixed zero_fixed (references made) p.used span t3 rest outer fresh in
          let comes4 : Comes table most p.used t (record { slots = d.slots; notes = t2.notes; world = w }) = record { kept = kept_on comes3.kept d.kept; later = comes3.later; noted = comes3.noted; fuel = comes3.fuel } in
          record {
            by = record {
              by = record {
                slots = d.slots;
                notes = t2.notes;
                comes = comes_fewer table most placed.fixed comes4;
                holds = record {
                  stands = stands_on table most (placed.fixed.by 0 zero_fixed) st comes4;
                  visible = visible_staged program most calls called s found start finish fixed zero_fixed (visible_on vis comes4.kept);
                  row = refl;
                  kept = kept_on kept_start (kept_fewer placed.fixed comes4.kept);
                };
                leads = leads_on program (one_step program (e ∙ ap (λ v. goes (config s (record { slots = t2.slots; notes = t2.notes; world = v }) (runs (then_terms (drops_of made span) rest) outer))) world_is)) d.leads;
              };
            };
          }

  -- the change, once the fields are evaluated
  module _ (p : Point) (ws : made.LocalKinds) (ls : meaning.Locals) (rest : SilicaTerms) (outer : List Rest) (state : StateId) (span : Span) (temporaries : List Temporary) (t : Here) (gs : List silica.Given)
      (placed : Placed (length s.signature.params) fixed p ws) (st : Stands table most s t) (vis : Visible p.variables p.used ls t.slots) (kept_start : Kept fixed start t.slots) (fresh : (n : ℕ) → Used n (references temporaries) → IsFree n p.used) where
    abbrev C : Configuration
    C = config s t (runs (and_term (change_form state gs) span (then_terms (drops_of temporaries span) rest)) outer)

    abbrev filling : NextStep
    filling = fill_all table s.own state t gs nothing (λ h got. change_with s.own state (then_terms (drops_of temporaries span) rest) outer C h got)

    abbrev locked_or : ℕ → Bool → NextStep
    locked_or n d = if d then abort_next (by_state n None) t.world else filling

    there_step : (d : Bool) → all_there table t gs ≡ d → step program C ≡ (if d then locked_or (self_of t.slots) (s.share_entered && is_locked t.world (self_of t.slots)) else stuck)
    there_step d e =
        ap (λ x. if_there x (λ own. if all_there table t gs
        then (if s.share_entered && is_locked t.world (self_of t.slots) then abort_next (by_state (self_of t.slots) None) t.world else fill_all table own state t gs nothing (λ h got. change_with own state (then_terms (drops_of temporaries span) rest) outer C h got)) else stuck)) found
        ∙ ap (λ x. if x then locked_or (self_of t.slots) (s.share_entered && is_locked t.world (self_of t.slots)) else stuck) e

    by_fill : (xs : List (ℕ × Value)) → step program C ≡ filling → Fills table s.own state t gs nothing xs → Runs (passed p) rest outer t C (move_this f state xs ls t.world)
    by_fill xs e (lacks lack stucks) = rw lack (record { by = one_step program (e ∙ stucks _) })
    by_fill xs e (fills t1 all ok filled goes_on') =
        let quiet : Quiet t.world (come_into_fields s.own xs t.world) = subst (Quiet t.world) filled.world filled.quiet in
        let now = quiet_object quiet s.this st.object.0 st.object.1 in
        let o1 = moved_to s.own state xs now.0 in
        rw ok (changes p ws ls rest outer state span temporaries t t1 xs all C (has_all_values s.own o1) o1 placed st vis kept_start fresh filled (edited (moved_to s.own state xs) s.this (come_into_fields s.own xs t.world) now.0 now.1) refl (e ∙ goes_on' _))

    pub by_given : (o : Option (List (ℕ × Value))) → GivenRead program most calls called s found start finish fixed zero_fixed t gs o → (b : Bool) → (s.share_entered && is_locked t.world s.this) ≡ b
        → Runs (passed p) rest outer t C (with_some o (λ values. unless_aborted (s.share_entered && is_locked t.world s.this) (by_state s.this None) t.world (move_this f state values ls t.world)))
    by_given None m b eb = record { by = one_step program (there_step false m) }
    by_given (Some xs) m true eb = rw eb (record { by = one_step program (there_step true m.0 ∙ ap (λ n. locked_or n (s.share_entered && is_locked t.world n)) (self_is table most st) ∙ ap (locked_or s.this) eb) })
    by_given (Some xs) m false eb = rw eb (by_fill xs (there_step true m.0 ∙ ap (λ n. locked_or n (s.share_entered && is_locked t.world n)) (self_is table most st) ∙ ap (locked_or s.this) eb)
        (fill_runs program most s.own state gs xs t nothing (record { by = λ k x fd e. absurd (none_some e) }) m.1))

  -- `this` changes its state
  pub change_runs : (p : Point) (ws : made.LocalKinds) (ls : meaning.Locals) (h : Here) (rest : SilicaTerms) (outer : List Rest) (state : StateId) (given : List GivenField) (span first : Span) (row : List ℕ) (givens : List silica.Given) (temporaries : List Temporary) (x : LoweredGiven)
      → LowersGiven (around F p first) (in_use temporaries p.used) given x → made.AreGiven F ws row given → Placed (length s.signature.params) fixed (with_row p (staged_row first givens temporaries)) ws → Stand (with_row p (staged_row first givens temporaries)) ls h
      → Runs (passed p) rest outer h (config s h (runs (then_terms (with_unit first (ended_by first x.terms (change_form state (givens ++ x.given)) (temporaries ++ x.made))) rest) outer)) (run calls f (resolved_change state given span) ls h.world)
  change_runs p ws ls h rest outer state given span first row givens temporaries x lx ok placed a =
      let T = then_terms (drops_of (temporaries ++ x.made) first) rest in
      let form = change_form state (givens ++ x.given) in
      unit_flows program most calls called s found start finish fixed zero_fixed (with_row p (staged_row first givens temporaries)) (passed p) ls h first (then_terms (ended_by first x.terms form (temporaries ++ x.made)) rest) rest outer outer _ placed.fixed a
      (λ w comes at_w.
      rw (join x.terms (and_term form first (drops_of (temporaries ++ x.made) first)) rest)
      (then_flows program most calls called s found start finish fixed zero_fixed (given_of calls f given ls w) _ (within_on placed.fixed (within_use temporaries p.used))
      (given_runs program most calls called s found start finish fixed zero_fixed (with_row p (staged_row first givens temporaries)) ws ls first row given (in_use temporaries p.used) x (record h { world = w }) (and_term form first T) outer placed lx ok (within_use temporaries p.used) at_w.stands at_w.visible)
      (λ xs t comes2 m.
      let at_t : Stand (with_row p (staged_row first givens temporaries)) ls t = at_on program most calls called s found start finish fixed zero_fixed placed.fixed (within_self (in_use temporaries p.used)) at_w comes2 in
      let gave = gave_more ls.staged xs givens x.given (gave_on ls.staged givens at_t.row (within_first temporaries x.made p.used) (kept_self (in_use temporaries p.used) t.slots)) (gave_on xs x.given m (within_second temporaries x.made p.used) (kept_self (in_use x.made (in_use temporaries p.used)) t.slots)) in
      by_given (passed p) ws ls rest outer state first (temporaries ++ x.made) t (givens ++ x.given)
      (placed_passed (length s.signature.params) fixed placed) at_t.stands at_t.visible at_t.kept
      (λ n u. (fresh_append temporaries x.made p.used placed.row (given_fresh (around F p first) (in_use temporaries p.used) given x lx)).by n ((references_within (temporaries ++ x.made)).by n u))
      (values_given f ls t.world (ls.staged ++ xs)) (given_read program most calls called s found start finish fixed zero_fixed (passed p) ws ls first (in_use (temporaries ++ x.made) p.used) t (ls.staged ++ xs) (givens ++ x.given) (placed_passed (length s.signature.params) fixed placed) at_t.stands at_t.visible gave) (s.share_entered && is_locked t.world s.this) refl)))
