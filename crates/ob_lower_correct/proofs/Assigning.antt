-- The statements that assign, let go, return, revert, disown and assert.
use Rattle.std.proofs.Common.{◌≡◌, ◌≢◌, ℕ, true, List, length, Option, Some, None, refl, sym, ap, ◌∙◌, subst, eq-eqb, ◌⊎◌, inl, inr}
use Rattle.std.proofs.lemmas.Bool.{ne_eqb}
use Rattle.std.specs.Prelude.{option_map, if◌then◌else◌}
use Rattle.ob_base.specs.declared.fault.Span.{Span}
use Rattle.ob_table.specs.Expressions.{Expression}
use Rattle.ob_table.specs.Statements.{resolved_assign}
use Rattle.ob_base.specs.declared.id.FieldId.{FieldId}
use Rattle.ob_table.specs.declared.contract.Field.{Field as TableField}
use Rattle.ob_table.specs.declared.seen.SeenAt.{SeenAt}
use Rattle.ob_table.specs.Tables.{ClassTable, contract_at, field_at}
use Rattle.ob_table.specs.declared.seen.Kind.{Kind}
use Rattle.ob_table.specs.declared.seen.Seen.{Seen}
use Rattle.ob_table.specs.declared.seen.Seen.TheVariants.{This as ThisSeen, Local, Field as FieldSeen}
use Rattle.ob_silica.specs.declared.place.Operand.{Operand}
use Rattle.ob_silica.specs.declared.place.Place.{Place}
use Rattle.ob_silica.specs.declared.place.Place.TheVariants.{Field}
use Rattle.ob_table_spec.specs.WellFormed as made
use Rattle.ob_table_spec.specs.WellFormed.{local_kind, kind_of_seen, kind_of_resolved, is_reference, IsWellFormedExpression}
use Rattle.ob_heap_spec.specs.Values.{Value}
use Rattle.ob_heap_spec.specs.Worlds.{World, RunOutcome, gives, with_some}
use Rattle.ob_source_meaning.specs.Frames as meaning
use Rattle.ob_source_meaning.specs.Frames.{Calls, Flow, goes_on}
use Rattle.ob_source_meaning.specs.Statements.{with_variable, assign, run}
use Rattle.ob_source_meaning.specs.Fields.{assign_field}
use Rattle.ob_silica.specs.Terms.{SilicaTerms, and_term, then_terms}
use Rattle.ob_silica_steps.specs.Cells.{value_in}
use Rattle.ob_silica_places.specs.Places.{located}
use Rattle.ob_silica_steps.specs.Configurations.{SilicaProgram, SlotCells, Rest, runs, Configuration}
use Rattle.ob_silica_steps.specs.Here.{Here, read}
use Rattle.ob_lower_spec.specs.Forms.{locals_of, slot_of, place_seen, set_slot as set_slot_form, set_place}
use Rattle.ob_lower_spec.specs.Points.{around, IsFree, Temporary, references, drops_of, Point, passed}
use Rattle.ob_lower_spec.specs.ExpressionTerms.{Lowered, LowersExpression}
use Rattle.ob_lower_spec.specs.GivenTerms.{with_unit}
use Rattle.ob_lower_spec.specs.StatementTerms.{ended_by}
use Rattle.ob_lower_correct.proofs.Slots.{Used, free_differs, within_self}
use Rattle.ob_lower_correct.proofs.Runs.{Ends, leads_on, ends_map, join}
use Rattle.ob_lower_correct.proofs.Standing.{same_value, Setting, frame_in, made_in, config, shape, Comes, Reached, kept_on, none_some, some_same, comes_fewer}
use Rattle.ob_lower_correct.proofs.Names.{Held}
use Rattle.ob_lower_correct.proofs.Calling.{CallsRun}
use Rattle.ob_lower_correct.proofs.Flows.{Placed, At, Flows, at_on, unit_flows, value_then, drops_run}
use Rattle.ob_lower_correct.proofs.Changes.{same_or}
use Rattle.ob_lower_correct.proofs.Placing.{field_set}
use Rattle.ob_lower_correct.proofs.Fresh.{expression_fresh, references_within}
use Rattle.ob_lower_correct.proofs.Setting.{slot_place, placed_passed, slot_value}

module _ (program : SilicaProgram) (most : ℕ) (calls : Calls) (called : CallsRun program most calls) (s : Setting) (found : contract_at program.table s.here ≡ Some s.own)
    (start : SlotCells) (finish : Option Value → World → RunOutcome (Option Value)) (fixed : List ℕ) (zero_fixed : Used 0 fixed) where
  abbrev table : ClassTable
  table = program.table

  abbrev f : meaning.SourceFrame
  f = frame_in program.table s

  abbrev F : made.StaticFrame
  F = made_in program.table s

  abbrev Stand : Point → meaning.Locals → Here → Type 0
  Stand p ls h = At program most calls called s found start finish fixed zero_fixed p ls h

  abbrev Runs : Point → SilicaTerms → List Rest → Here → Configuration → RunOutcome Flow → Type 0
  Runs q rest outer h c o = Ends program (Flows program most calls called s found start finish fixed zero_fixed q rest outer h) c o

  abbrev Places : Point → made.LocalKinds → Type 0
  Places p ws = Placed (length s.signature.params) fixed p ws

  -- Assignments.

  abbrev assigned_local : ℕ → meaning.SourceVariable → meaning.Locals → Value → meaning.Locals
  assigned_local n x ls v = with_variable n (record x { value = v }) ls

  local_assigned : (p : Point) (ws : made.LocalKinds) (ls : meaning.Locals) (rest : SilicaTerms) (outer : List Rest) (span : Span) (n k : ℕ) (kind : Kind) (made : List Temporary) (from : Operand) (t : Here) (o : Option Value)
      → Places p ws → Stand (passed p) ls t → slot_of p.variables n ≡ Some k → local_kind (locals_of p.variables) n ≡ Some kind → IsFree k fixed
      → ((m : ℕ) → Used m (references made) → IsFree m p.used) → value_in (read table t (located from)) ≡ o
      → Runs (passed p) rest outer t (config s t (runs (and_term (set_slot_form kind k from) span (then_terms (drops_of made span) rest)) outer)) (with_some o (λ v. assign f (Local n) v ls t.world))
  local_assigned p ws ls rest outer span n k kind made from t o placed at_t ek ekind kf fresh e =
      let held = at_t.visible.by n k ek in
      slot_value program most calls called s found start finish fixed zero_fixed p p ls (assigned_local n held.variable ls) from kind k made span t rest outer o (λ v w. assign f (Local n) v ls w)
      kf placed.fixed at_t (λ m u. ((λ same. free_differs m p.used (fresh m u) k held.inside (sym same)), fresh m u))
      (λ v. ap (λ x. with_some x (λ y. gives (goes_on (with_variable n (record y { value = v }) ls)) t.world)) held.is)
      (λ v. at_t.row)
      (λ v slots ev en eo. record { by = λ m j em. go v slots ev en eo m j (same_or m n) em }) e
    where
      go : (v : Value) (slots : SlotCells) → value_in (slots k) ≡ Some v → (is_reference kind ≡ true → shape (slots k) ≡ Some (v, kind)) → ((m : ℕ) → Used m p.used → m ≢ k → shape (slots m) ≡ shape (t.slots m))
          → (m j : ℕ) → (m ≡ n) ⊎ (m ≢ n) → slot_of p.variables m ≡ Some j → Held p.variables p.used (assigned_local n (at_t.visible.by n k ek).variable ls v) slots m j
      go v slots ev en eo m j (inl h) em =
          let held = at_t.visible.by n k ek in
          let same : k ≡ j = some_same k j (sym ek ∙ ap (slot_of p.variables) (sym h) ∙ em) in
          let kind_is : held.variable.kind ≡ kind = some_same held.variable.kind kind (sym held.kind ∙ ekind) in
          record {
            variable = record { value = v; kind = held.variable.kind };
            is = ap (λ b. if b then Some (record { value = v; kind = held.variable.kind }) else ls.variables m) (eq-eqb m n h);
            kind = ap (local_kind (locals_of p.variables)) h ∙ held.kind;
            inside = subst (λ i. Used i p.used) same held.inside;
            apart = λ z. held.apart (z ∙ sym same);
            value = ap (λ i. value_in (slots i)) (sym same) ∙ ev;
            noted = λ r. ap (λ i. shape (slots i)) (sym same) ∙ en (sym (ap is_reference kind_is) ∙ r) ∙ ap (λ i. Some (v, i)) (sym kind_is);
          }
      go v slots ev en eo m j (inr h) em =
          let held = at_t.visible.by m j em in
          let other = eo j held.inside (λ z. h (placed.apart m n k (subst (λ i. slot_of p.variables m ≡ Some i) z em) ek)) in
          record {
            variable = held.variable;
            is = ap (λ b. if b then Some (record { value = v; kind = (at_t.visible.by n k ek).variable.kind }) else ls.variables m) (ne_eqb m n h) ∙ held.is;
            kind = held.kind;
            inside = held.inside;
            apart = held.apart;
            value = same_value (slots j) (t.slots j) other ∙ held.value;
            noted = λ r. other ∙ held.noted r;
          }

  field_assigned : (p : Point) (ws : made.LocalKinds) (ls : meaning.Locals) (rest : SilicaTerms) (outer : List Rest) (span : Span) (id : FieldId) (kind : Kind) (made : List Temporary) (from : Operand) (t : Here) (o : Option Value) (fo : Option TableField)
      → Places p ws → Stand (passed p) ls t → field_at s.own id ≡ fo → option_map (λ field. kind_of_resolved field.of) fo ≡ Some kind
      → ((m : ℕ) → Used m (references made) → IsFree m p.used) → value_in (read table t (located from)) ≡ o
      → Runs (passed p) rest outer t (config s t (runs (and_term (set_place kind (Field id) from) span (then_terms (drops_of made span) rest)) outer)) (with_some o (λ v. assign f (FieldSeen id) v ls t.world))
  field_assigned p ws ls rest outer span id kind made from t o None placed at_t ef ek fresh e = absurd (none_some ek)
  field_assigned p ws ls rest outer span id kind made from t o (Some fd) placed at_t ef ek fresh e =
      ends_map program (with_some o (λ v. assign_field f id.0 v ls t.world)) dropped
      (field_set program most s t (then_terms (drops_of made span) rest) outer p.used span ls from id fd kind o found at_t.stands ef (some_same (kind_of_resolved fd.of) kind ek) e)
    where
      dropped : (flow : Flow) (w : World) → Reached program most (λ r fl. fl ≡ goes_on ls) p.used s t (runs (then_terms (drops_of made span) rest) outer) flow w (config s t (runs (and_term (set_place kind (Field id) from) span (then_terms (drops_of made span) rest)) outer))
          → Flows program most calls called s found start finish fixed zero_fixed (passed p) rest outer t flow w (config s t (runs (and_term (set_place kind (Field id) from) span (then_terms (drops_of made span) rest)) outer))
      dropped flow w r =
          let t2 : Here = record { slots = r.slots; notes = r.notes; world = w } in
          let d = drops_run program most calls called s found start finish fixed zero_fixed (references made) p.used span t2 rest outer fresh in
          let comes : Comes table most p.used t (record { slots = d.slots; notes = r.notes; world = w }) =
          record { kept = kept_on r.comes.kept d.kept; later = r.comes.later; noted = r.comes.noted; fuel = r.comes.fuel } in
          rw (r.holds) (record {
            by = record {
              slots = d.slots;
              notes = r.notes;
              comes = comes_fewer table most placed.fixed comes;
              holds = at_on program most calls called s found start finish fixed zero_fixed placed.fixed (within_self p.used) at_t comes;
              leads = leads_on program r.leads d.leads;
            };
          })

  pub assign_runs : (p : Point) (ws : made.LocalKinds) (ls : meaning.Locals) (h : Here) (rest : SilicaTerms) (outer : List Rest) (target : SeenAt) (value : Expression) (span : Span) (x : Lowered) (kind : Kind) (place : Place)
      → LowersExpression (around F p span) p.used value x → kind_of_seen F (locals_of p.variables) target.of ≡ Some kind → place_seen p.variables target.of ≡ Some place
      → IsWellFormedExpression F ws value → made.IsTarget F target.of → Places p ws → Stand (passed p) ls h
      → Runs (passed p) rest outer h (config s h (runs (then_terms (with_unit span (ended_by span x.terms (set_place kind place x.operand) x.made)) rest) outer)) (run calls f (resolved_assign target value span) ls h.world)
  assign_runs p ws ls h rest outer target value span x kind place lx ek ep is target_is placed a =
      unit_flows program most calls called s found start finish fixed zero_fixed (passed p) (passed p) ls h span (then_terms (ended_by span x.terms (set_place kind place x.operand) x.made) rest) rest outer outer _ placed.fixed a
      (λ w comes at_w.
      rw (join x.terms (and_term (set_place kind place x.operand) span (drops_of x.made span)) rest)
      (value_then program most calls called s found start finish fixed zero_fixed (passed p) (passed p) ws ls span value x p.used (record h { world = w }) _ rest outer outer _ (placed_passed (length s.signature.params) fixed placed) lx is (within_self p.used) at_w
      (λ t o comes2 at_t e. by_target target.of t o at_t ek ep target_is e)))
    where
      fresh : (m : ℕ) → Used m (references x.made) → IsFree m p.used
      fresh m u = (expression_fresh (around F p span) p.used value x lx).by m ((references_within x.made).by m u)

      by_target : (seen : Seen) (t : Here) (o : Option Value) → Stand (passed p) ls t → kind_of_seen F (locals_of p.variables) seen ≡ Some kind → place_seen p.variables seen ≡ Some place → made.IsTarget F seen → value_in (read table t (located x.operand)) ≡ o
          → Runs (passed p) rest outer t (config s t (runs (and_term (set_place kind place x.operand) span (then_terms (drops_of x.made span) rest)) outer)) (with_some o (λ v. assign f seen v ls t.world))
      by_target ThisSeen t o at_t ek ep target_is e = absurd target_is
      by_target (Local n) t o at_t ek ep target_is e =
          let k = slot_place (slot_of p.variables n) place ep in
          rw (k.2) (local_assigned p ws ls rest outer span n k.0 kind x.made x.operand t o placed at_t k.1 ek (placed.own n k.0 k.1 target_is) fresh e)
      by_target (FieldSeen id) t o at_t ek ep target_is e =
          subst (λ q. Runs (passed p) rest outer t (config s t (runs (and_term (set_place kind q x.operand) span (then_terms (drops_of x.made span) rest)) outer)) (with_some o (λ v. assign f (FieldSeen id) v ls t.world))) (some_same (Field id) place ep)
          (field_assigned p ws ls rest outer span id kind x.made x.operand t o (field_at s.own id) placed at_t refl ek fresh e)
