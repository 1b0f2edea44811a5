-- Statements that set a variable or a field, and those that end a body.
use Rattle.std.proofs.Common.{◌≡◌, ◌≢◌, ℕ, ◌<◌, Bool, true, false, List, [], ◌∷◌, ◌++◌, length, Option, Some, None, refl, sym, ap, ◌∙◌, subst, true≢false, eqb-true, ◌⊎◌, inl, inr}
use Rattle.std.specs.Prelude.{nat_eq, option_map, if◌then◌else◌}
use Rattle.ob_base.specs.declared.fault.Span.{Span}
use Rattle.ob_base.specs.declared.id.StateId.{StateId}
use Rattle.ob_table.specs.Expressions.{Expression}
use Rattle.ob_table.specs.Statements.{resolved_declare, Statements}
use Rattle.ob_table.specs.Tables.{ClassTable, contract_at}
use Rattle.ob_table.specs.declared.seen.Kind.{Kind}
use Rattle.ob_silica.specs.declared.place.Operand.{Operand}
use Rattle.ob_silica.specs.declared.place.Place.{Place}
use Rattle.ob_silica.specs.declared.place.Place.TheVariants.{Slot}
use Rattle.ob_table_spec.specs.WellFormed as made
use Rattle.ob_table_spec.specs.WellFormed.{local_kind, is_reference, IsWellFormedExpression}
use Rattle.ob_heap_spec.specs.Values.{Value}
use Rattle.ob_heap_spec.specs.Worlds.{World, RunOutcome, gives, with_some}
use Rattle.ob_source_meaning.specs.Frames as meaning
use Rattle.ob_source_meaning.specs.Frames.{Calls, Flow, goes_on}
use Rattle.ob_heap_spec.specs.GoingWrong.{is_row}
use Rattle.ob_source_meaning.specs.Statements.{with_variable, run}
use Rattle.ob_silica.specs.Terms.{SilicaTerms, and_term, then_terms}
use Rattle.ob_silica_steps.specs.Cells.{value_in}
use Rattle.ob_silica_places.specs.Places.{located}
use Rattle.ob_silica_steps.specs.Configurations.{SilicaProgram, SlotCells, Rest, runs, Configuration}
use Rattle.ob_silica_steps.specs.Here.{Here, read}
use Rattle.ob_lower_spec.specs.Forms.{locals_of, slot_of, set_slot as set_slot_form}
use Rattle.ob_lower_spec.specs.Points.{around, declares, IsFree, Temporary, references, drops_of, StagedRow, no_row, staged_row, refused_row, Point, passed}
use Rattle.ob_lower_spec.specs.ExpressionTerms.{Lowered, LowersExpression}
use Rattle.ob_lower_spec.specs.GivenTerms.{with_unit}
use Rattle.ob_lower_spec.specs.StatementTerms.{ended_by}
use Rattle.ob_lower_correct.proofs.Slots.{Used, free_differs, free_within, Within}
use Rattle.ob_lower_correct.proofs.Runs.{Ends, leads_on, one_step, join}
use Rattle.ob_lower_correct.proofs.Standing.{same_value, Setting, frame_in, made_in, config, shape, Comes, later_self, kept_on, none_some, some_same, stands_on}
use Rattle.ob_lower_correct.proofs.Names.{Held, Visible}
use Rattle.ob_lower_correct.proofs.Calling.{CallsRun}
use Rattle.ob_lower_correct.proofs.Flows.{RowStands, RowOpen, Placed, At, Flows, unit_flows, value_then, drops_run}
use Rattle.ob_lower_correct.proofs.Changes.{noted_quiet, quiet_self}
use Rattle.ob_lower_correct.proofs.Placing.{slot_sets, slot_stuck}
use Rattle.ob_lower_correct.proofs.Fresh.{expression_fresh, references_within}

-- a name that stands after one that isn't visible
pub kind_after : (ws : made.LocalKinds) (l : ℕ × Kind) (n : ℕ) → local_kind ws n ≡ None → local_kind (ws ++ l ∷ []) n ≡ local_kind (l ∷ []) n
kind_after [] l n e = refl
kind_after (x ∷ ws) l n e = go (nat_eq n x.0) (kind_after ws l n) e
  where
    go : (b : Bool) → (local_kind ws n ≡ None → local_kind (ws ++ l ∷ []) n ≡ local_kind (l ∷ []) n) → (if b then Some x.1 else local_kind ws n) ≡ None → (if b then Some x.1 else local_kind (ws ++ l ∷ []) n) ≡ local_kind (l ∷ []) n
    go true rest e = absurd (none_some (sym e))
    go false rest e = rest e

pub kind_before : (ws : made.LocalKinds) (l : ℕ × Kind) (n : ℕ) → nat_eq n l.0 ≡ false → local_kind (ws ++ l ∷ []) n ≡ local_kind ws n
kind_before [] l n e = ap (λ b. if b then Some l.1 else None) e
kind_before (x ∷ ws) l n e = ap (λ o. if nat_eq n x.0 then Some x.1 else o) (kind_before ws l n e)

-- a variable's place
pub slot_place : (o : Option ℕ) (place : Place) → option_map Slot o ≡ Some place → (k : ℕ) × (o ≡ Some k) × (place ≡ Slot k)
slot_place None place e = absurd (none_some e)
slot_place (Some k) place e = (k, refl, sym (some_same (Slot k) place e))

module _ (params : ℕ) (base : List ℕ) where
  pub placed_passed : {p : Point} {ws : made.LocalKinds} → Placed params base p ws → Placed params base (passed p) ws
  placed_passed a = record { agree = a.agree; inside = a.inside; apart = a.apart; own = a.own; fixed = a.fixed; row = record { by = λ n u. absurd u } }

  -- the point after a declaration
  pub placed_declares : (p : Point) (ws : made.LocalKinds) (local k : ℕ) (of : Kind) → Placed params base p ws → IsFree k p.used → local_kind ws local ≡ None
      → Placed params base (declares p (record { local = local; kind = of; slot = k })) (ws ++ (local, of) ∷ [])
  placed_declares p ws local k of a free none = record {
    agree = λ n. agrees n (nat_eq n local) refl;
    inside = λ n j e. stands_inside n j (nat_eq n local) refl e;
    apart = λ n m j e h. stands_apart n m j (nat_eq n local) (nat_eq m local) refl refl e h;
    own = λ n j e lt. owns n j (nat_eq n local) refl e lt;
    fixed = record { by = λ n u. inr (a.fixed.by n u) };
    row = record { by = λ n u. absurd u };
  }
    where
      agrees : (n : ℕ) (b : Bool) → nat_eq n local ≡ b → (if nat_eq n local then Some of else local_kind (locals_of p.variables) n) ≡ local_kind (ws ++ (local, of) ∷ []) n
      agrees n true e =
          ap (λ b. if b then Some of else local_kind (locals_of p.variables) n) e ∙ sym (ap (λ b. if b then Some of else None) e)
          ∙ sym (kind_after ws (local, of) n (ap (local_kind ws) (eqb-true n local e) ∙ none))
      agrees n false e = ap (λ b. if b then Some of else local_kind (locals_of p.variables) n) e ∙ a.agree n ∙ sym (kind_before ws (local, of) n e)

      stands_inside : (n j : ℕ) (b : Bool) → nat_eq n local ≡ b → (if nat_eq n local then Some k else slot_of p.variables n) ≡ Some j → (j ≡ k) ⊎ Used j p.used
      stands_inside n j true e h = inl (sym (some_same k j (sym (ap (λ b. if b then Some k else slot_of p.variables n) e) ∙ h)))
      stands_inside n j false e h = inr (a.inside n j (sym (ap (λ b. if b then Some k else slot_of p.variables n) e) ∙ h))

      old : (n j : ℕ) → nat_eq n local ≡ false → (if nat_eq n local then Some k else slot_of p.variables n) ≡ Some j → slot_of p.variables n ≡ Some j
      old n j e h = sym (ap (λ b. if b then Some k else slot_of p.variables n) e) ∙ h

      new : (n j : ℕ) → nat_eq n local ≡ true → (if nat_eq n local then Some k else slot_of p.variables n) ≡ Some j → k ≡ j
      new n j e h = some_same k j (sym (ap (λ b. if b then Some k else slot_of p.variables n) e) ∙ h)

      stands_apart : (n m j : ℕ) (b d : Bool) → nat_eq n local ≡ b → nat_eq m local ≡ d → (if nat_eq n local then Some k else slot_of p.variables n) ≡ Some j → (if nat_eq m local then Some k else slot_of p.variables m) ≡ Some j → n ≡ m
      stands_apart n m j true true eb ed e h = eqb-true n local eb ∙ sym (eqb-true m local ed)
      stands_apart n m j false false eb ed e h = a.apart n m j (old n j eb e) (old m j ed h)
      stands_apart n m j true false eb ed e h = absurd (free_differs k p.used free j (a.inside m j (old m j ed h)) (sym (new n j eb e)))
      stands_apart n m j false true eb ed e h = absurd (free_differs k p.used free j (a.inside n j (old n j eb e)) (sym (new m j ed h)))

      owns : (n j : ℕ) (b : Bool) → nat_eq n local ≡ b → (if nat_eq n local then Some k else slot_of p.variables n) ≡ Some j → params < n → IsFree j base
      owns n j true eb e lt = subst (λ i. IsFree i base) (new n j eb e) (free_within k a.fixed free)
      owns n j false eb e lt = a.own n j (old n j eb e) lt

module _ (program : SilicaProgram) (most : ℕ) (calls : Calls) (called : CallsRun program most calls) (s : Setting) (found : contract_at program.table s.here ≡ Some s.own)
    (start : SlotCells) (finish : Option Value → World → RunOutcome (Option Value)) (fixed : List ℕ) (zero_fixed : Used 0 fixed) where
  abbrev table : ClassTable
  table = program.table

  abbrev f : meaning.SourceFrame
  f = frame_in program.table s

  abbrev Stand : Point → meaning.Locals → Here → Type 0
  Stand p ls h = At program most calls called s found start finish fixed zero_fixed p ls h

  abbrev Runs : Point → SilicaTerms → List Rest → Here → Configuration → RunOutcome Flow → Type 0
  Runs q rest outer h c o = Ends program (Flows program most calls called s found start finish fixed zero_fixed q rest outer h) c o

  abbrev Places : Point → made.LocalKinds → Type 0
  Places p ws = Placed (length s.signature.params) fixed p ws

  -- a statement that is no part of a row stands after none
  pub row_passed : (p : Point) (xs : Statements) (ls : meaning.Locals) (h : Here) → ((state : StateId) → is_row state xs ≡ false) → RowOpen p.row xs → Stand p ls h → Stand (passed p) ls h
  row_passed p xs ls h never open' a = record { stands = a.stands; visible = a.visible; row = no_staged p.row never open' a.row; kept = a.kept }
    where
      no_staged : (row : StagedRow) → ((state : StateId) → is_row state xs ≡ false) → RowOpen row xs → RowStands p.variables p.used row ls.staged h → ls.staged ≡ []
      no_staged no_row never open' r = r
      no_staged (staged_row first givens made) never open' r = absurd (true≢false (sym open'.1 ∙ never open'.0))
      no_staged refused_row never open' r = absurd r

  -- a form sets a slot, and then the temporaries end
  pub slot_value : (p q : Point) (ls : meaning.Locals) (after : Value → meaning.Locals) (from : Operand) (kind : Kind) (k : ℕ) (made : List Temporary) (span : Span) (t : Here) (rest : SilicaTerms) (outer : List Rest) (o : Option Value) (go : Value → World → RunOutcome Flow)
      → IsFree k fixed → Within fixed p.used → Stand (passed p) ls t → ((n : ℕ) → Used n (references made) → IsFree n (k ∷ p.used))
      → ((v : Value) → go v t.world ≡ gives (goes_on (after v)) t.world) → ((v : Value) → (after v).staged ≡ [])
      → ((v : Value) (slots : SlotCells) → value_in (slots k) ≡ Some v → (is_reference kind ≡ true → shape (slots k) ≡ Some (v, kind)) → ((n : ℕ) → Used n p.used → n ≢ k → shape (slots n) ≡ shape (t.slots n)) → Visible q.variables q.used (after v) slots)
      → value_in (read table t (located from)) ≡ o
      → Runs (passed q) rest outer t (config s t (runs (and_term (set_slot_form kind k from) span (then_terms (drops_of made span) rest)) outer)) (with_some o (λ v. go v t.world))
  slot_value p q ls after from kind k made span t rest outer None go kf wf a fresh eg es vis e =
      record { by = one_step program (slot_stuck program most s t (then_terms (drops_of made span) rest) outer span from k kind e) }
  slot_value p q ls after from kind k made span t rest outer (Some v) go kf wf a fresh eg es vis e =
      let set = slot_sets program most s t (then_terms (drops_of made span) rest) outer span from k kind v e in
      let dropped = drops_run program most calls called s found start finish fixed zero_fixed (references made) (k ∷ p.used) span (record { slots = set.slots; notes = set.notes; world = t.world }) rest outer fresh in
      let comes : Comes table most fixed t (record { slots = dropped.slots; notes = set.notes; world = t.world }) = record {
        kept = record { by = λ n u. dropped.kept.by n (inr (wf.by n u)) ∙ set.set.others n (free_differs k fixed kf n u) };
        later = later_self t.world;
        noted = noted_quiet a.stands.noted (quiet_self t.world) set.set.notes;
        fuel = a.stands.fuel;
      } in
      rw (eg v)
      (record {
        by = record {
          by = record {
            slots = dropped.slots;
            notes = set.notes;
            comes = comes;
            holds = record {
              stands = stands_on table most zero_fixed a.stands comes;
              visible = vis v dropped.slots (same_value (dropped.slots k) (set.slots k) (dropped.kept.by k (inl refl)) ∙ set.set.value)
                  (λ r. dropped.kept.by k (inl refl) ∙ set.set.noted r)
                  (λ n u d. dropped.kept.by n (inr u) ∙ set.set.others n d);
              row = es v;
              kept = kept_on a.kept comes.kept;
            };
            leads = leads_on program (one_step program set.step_is) dropped.leads;
          };
        };
      })

  -- a variable is declared
  pub declare_runs : (p : Point) (ws : made.LocalKinds) (ls : meaning.Locals) (h : Here) (rest : SilicaTerms) (outer : List Rest) (local : ℕ) (name : Span) (of : Kind) (value : Expression) (span : Span) (k : ℕ) (x : Lowered)
      → IsFree k p.used → LowersExpression (around (made_in table s) p span) (k ∷ p.used) value x → IsWellFormedExpression (made_in table s) ws value → Places p ws → Stand (passed p) ls h
      → Runs (passed (declares p (record { local = local; kind = of; slot = k }))) rest outer h
      (config s h (runs (then_terms (with_unit span (ended_by span x.terms (set_slot_form of k x.operand) x.made)) rest) outer)) (run calls f (resolved_declare local name of value span) ls h.world)
  declare_runs p ws ls h rest outer local name of value span k x free lx is placed a =
      let q : Point = declares p (record { local = local; kind = of; slot = k }) in
      let ts = then_terms (ended_by span x.terms (set_slot_form of k x.operand) x.made) rest in
      unit_flows program most calls called s found start finish fixed zero_fixed (passed p) (passed q) ls h span ts rest outer outer _ placed.fixed a
      (λ w comes at_w.
      rw (join x.terms (and_term (set_slot_form of k x.operand) span (drops_of x.made span)) rest)
      (value_then program most calls called s found start finish fixed zero_fixed (passed p) (passed q) ws ls span value x (k ∷ p.used) (record h { world = w }) _ rest outer outer _ (placed_passed (length s.signature.params) fixed placed) lx is (record { by = λ n u. inr u }) at_w
      (λ t o comes2 at_t e.
      slot_value p q ls (λ v. with_variable local (record { value = v; kind = of }) ls) x.operand of k x.made span t rest outer o (λ v w1. gives (goes_on (with_variable local (record { value = v; kind = of }) ls)) w1)
      (free_within k placed.fixed free) placed.fixed at_t (λ n u. (expression_fresh (around (made_in table s) p span) (k ∷ p.used) value x lx).by n ((references_within x.made).by n u)) (λ v. refl) (λ v. at_t.row)
      (λ v slots ev en eo. record { by = λ n m em. new_held t at_t v slots ev en eo n m (nat_eq n local) refl em }) e)))
    where
      new_held : (t : Here) → Stand (passed p) ls t → (v : Value) (slots : SlotCells) → value_in (slots k) ≡ Some v → (is_reference of ≡ true → shape (slots k) ≡ Some (v, of)) → ((n : ℕ) → Used n p.used → n ≢ k → shape (slots n) ≡ shape (t.slots n))
          → (n m : ℕ) (b : Bool) → nat_eq n local ≡ b → (if nat_eq n local then Some k else slot_of p.variables n) ≡ Some m
          → Held (record { local = local; kind = of; slot = k } ∷ p.variables) (k ∷ p.used) (with_variable local (record { value = v; kind = of }) ls) slots n m
      new_held t at_t v slots ev en eo n m true eb em =
          let same : k ≡ m = some_same k m (sym (ap (λ b. if b then Some k else slot_of p.variables n) eb) ∙ em) in
          record {
            variable = record { value = v; kind = of };
            is = ap (λ b. if b then Some (record { value = v; kind = of }) else ls.variables n) eb;
            kind = ap (λ b. if b then Some of else local_kind (locals_of p.variables) n) eb;
            inside = inl (sym same);
            apart = λ z. free_differs k p.used free 0 (placed.fixed.by 0 zero_fixed) (z ∙ sym same);
            value = ap (λ i. value_in (slots i)) (sym same) ∙ ev;
            noted = λ r. ap (λ i. shape (slots i)) (sym same) ∙ en r;
          }
      new_held t at_t v slots ev en eo n m false eb em =
          let held = at_t.visible.by n m (sym (ap (λ b. if b then Some k else slot_of p.variables n) eb) ∙ em) in
          let other = eo m held.inside (free_differs k p.used free m held.inside) in
          record {
            variable = held.variable;
            is = ap (λ b. if b then Some (record { value = v; kind = of }) else ls.variables n) eb ∙ held.is;
            kind = ap (λ b. if b then Some of else local_kind (locals_of p.variables) n) eb ∙ held.kind;
            inside = inr held.inside;
            apart = held.apart;
            value = same_value (slots m) (t.slots m) other ∙ held.value;
            noted = λ r. other ∙ held.noted r;
          }
