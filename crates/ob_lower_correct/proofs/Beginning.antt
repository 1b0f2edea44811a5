-- How a body begins, and how it comes to its return.
use Rattle.std.proofs.Common.{◌≡◌, ◌≢◌, ℕ, zero, suc, ◌+◌, ◌<◌, ◌≤◌, Bool, true, false, ◌&&◌, List, [], ◌∷◌, map, length, Option, Some, None, refl, sym, ap, ◌∙◌, subst, arith, eqb-true, ◌⊎◌, inl, inr}
use Rattle.std.specs.Prelude.{nat_eq, if◌then◌else◌}
use Rattle.std.specs.Option.{option_map_or}
use Rattle.ob_base.specs.declared.fault.Span.{Span}
use Rattle.ob_table.specs.Statements.{Statements}
use Rattle.ob_table.specs.Tables.{ClassTable, contract_at}
use Rattle.ob_table_spec.specs.WellFormed as made
use Rattle.ob_table_spec.specs.WellFormed.{local_kind, kind_of_resolved}
use Rattle.ob_heap_spec.specs.Values.{Value}
use Rattle.ob_heap_spec.specs.Worlds.{World, RunOutcome, gives, aborts, wrong, ◌>>=◌}
use Rattle.ob_source_meaning.specs.Frames as meaning
use Rattle.ob_source_meaning.specs.Frames.{Calls, Flow, goes_on, returns}
use Rattle.ob_silica.specs.Terms.{SilicaTerms, no_terms, then_terms, one_term, return_form}
use Rattle.ob_silica_steps.specs.Configurations.{SilicaProgram, SlotCells, Rest, runs, Configuration}
use Rattle.ob_silica_steps.specs.Here.{Here}
use Rattle.ob_lower_spec.specs.Forms.{params_from as lowered_params, locals_of, slot_of, ending}
use Rattle.ob_lower_spec.specs.Points.{Point, passed}
use Rattle.ob_lower_spec.specs.BodyTerms.{slots_below}
use Rattle.ob_lower_correct.proofs.Slots.{Used, within_self}
use Rattle.ob_lower_correct.proofs.Runs.{Ends, ends_map, ends_later}
use Rattle.ob_lower_correct.proofs.Standing.{Setting, frame_in, made_in, config, shape, Kept, Stands, none_some, some_same}
use Rattle.ob_lower_correct.proofs.Calling.{CallsRun}
use Rattle.ob_lower_correct.proofs.Flows.{left_from, Placed, At, Left, Flows, left_closed}
use Rattle.ob_lower_correct.proofs.Changes.{same_or}
use Rattle.ob_table.specs.Statements.{resolved_block}
use Rattle.ob_table.specs.declared.contract.Param.{Param}
use Rattle.ob_table_spec.specs.WellFormed.{AreStatements, one_ends_there}
use Rattle.ob_source_meaning.specs.Frames.{variables_from, first_locals}
use Rattle.ob_source_meaning.specs.Statements.{run_all}
use Rattle.ob_source_meaning.specs.Bodies.{result_of}
use Rattle.ob_heap_spec.specs.GoingWrong.{is_within, may_pass, may_leave_args, type_at_exit}
use Rattle.ob_heap_spec.specs.Objects.{Object}
use Rattle.ob_lower_spec.specs.BodyTerms as low
use Rattle.ob_lower_spec.specs.BodyTerms.{beginning}
use Rattle.ob_lower_spec.specs.StatementTerms.{LowersBlock}
use Rattle.ob_silica_places.specs.Parameters.{parameter_of}
use Rattle.ob_silica_steps.specs.Entering.{are_within}
use Rattle.ob_silica_steps.specs.Returning.{at_exit}
use Rattle.ob_lower_correct.proofs.Binding.{HoldsFrom}
use Rattle.ob_lower_correct.proofs.Standing.{shape_value}
use Rattle.ob_lower_correct.proofs.Ending.{Finishes}
use Rattle.ob_lower_correct.proofs.Statements.{block_runs}
use Rattle.ob_lower_correct.proofs.Stopping.{Stops, all_stop}

pub one_more : (m : ℕ) → m + 1 ≡ suc m
one_more m = omega arith

less_still : (n m : ℕ) → n < suc m → n ≢ m → n < m
less_still n m lt d = omega (arith, lt, d)

-- Slots.

pub used_below : (n m : ℕ) → n < m → Used n (low.slots_below m)
used_below n zero lt = absurd (omega (arith, lt))
used_below n (suc m) lt = by_number (same_or n m) (λ d. used_below n m (less_still n m lt d))
  where
    by_number : (n ≡ m) ⊎ (n ≢ m) → (n ≢ m → Used n (low.slots_below m)) → (n ≡ m) ⊎ Used n (low.slots_below m)
    by_number (inl e) next = inl e
    by_number (inr d) next = inr (next d)

pub below_used : (n m : ℕ) → Used n (low.slots_below m) → n < m
below_used n zero u = absurd u
below_used n (suc m) (inl e) = omega (arith, e)
below_used n (suc m) (inr u) = let r = below_used n m u in omega (arith, r)

-- a parameter has the slot of its number
pub param_slot : (m : ℕ) (ps : List Param) (n k : ℕ) → slot_of (lowered_params m ps) n ≡ Some k → (k ≡ n) × (m ≤ n) × (n < m + length ps)
param_slot m [] n k e = absurd (none_some e)
param_slot m (p ∷ ps) n k e = by_number (nat_eq n m) refl e (param_slot (m + 1) ps n k)
  where
    by_number : (b : Bool) → nat_eq n m ≡ b → (if b then Some m else slot_of (lowered_params (m + 1) ps) n) ≡ Some k → (slot_of (lowered_params (m + 1) ps) n ≡ Some k → (k ≡ n) × (m + 1 ≤ n) × (n < (m + 1) + length ps))
        → (k ≡ n) × (m ≤ n) × (n < m + suc (length ps))
    by_number true eb e next = let same = eqb-true n m eb in (sym (some_same m k e) ∙ sym same, omega (arith, same), omega (arith, same))
    by_number false eb e next = let r = next e in (r.0, omega (arith, r.1), omega (arith, r.2))

kinds_of_params : (m : ℕ) (ps : List Param) → locals_of (lowered_params m ps) ≡ made.params_from m ps
kinds_of_params m [] = refl
kinds_of_params m (p ∷ ps) = ap (λ l. (m, kind_of_resolved p.of) ∷ l) (kinds_of_params (m + 1) ps)

-- the value of a parameter
pub param_held : (ps : List Param) (args : List Value) (m n k : ℕ) (slots : SlotCells) → HoldsFrom slots m (map parameter_of ps) args → slot_of (lowered_params m ps) n ≡ Some k
    → (x : meaning.SourceVariable) × (variables_from m ps args n ≡ Some x) × (local_kind (locals_of (lowered_params m ps)) n ≡ Some x.kind) × (shape (slots k) ≡ Some (x.value, x.kind))
param_held [] args m n k slots h e = absurd (none_some e)
param_held (p ∷ ps) [] m n k slots h e = absurd h
param_held (p ∷ ps) (v ∷ args) m n k slots h e =
    by_number (nat_eq n m) refl e (λ d. let r = param_held ps args (suc m) n k slots h.1 (ap (λ i. slot_of (lowered_params i ps) n) (sym (one_more m)) ∙ d) in
    (r.0, r.1, ap (λ i. local_kind (locals_of (lowered_params i ps)) n) (one_more m) ∙ r.2, r.3))
  where
    by_number : (b : Bool) → nat_eq n m ≡ b → (if nat_eq n m then Some m else slot_of (lowered_params (m + 1) ps) n) ≡ Some k
        → (slot_of (lowered_params (m + 1) ps) n ≡ Some k → (x : meaning.SourceVariable) × (variables_from (suc m) ps args n ≡ Some x) × (local_kind (locals_of (lowered_params (m + 1) ps)) n ≡ Some x.kind) × (shape (slots k) ≡ Some (x.value, x.kind)))
        → (x : meaning.SourceVariable) × ((if nat_eq n m then Some (record { value = v; kind = kind_of_resolved p.of }) else variables_from (suc m) ps args n) ≡ Some x)
        × ((if nat_eq n m then Some (kind_of_resolved p.of) else local_kind (locals_of (lowered_params (m + 1) ps)) n) ≡ Some x.kind) × (shape (slots k) ≡ Some (x.value, x.kind))
    by_number true eb e next = (
      record { value = v; kind = kind_of_resolved p.of },
      ap (λ b. if b then Some (record { value = v; kind = kind_of_resolved p.of }) else variables_from (suc m) ps args n) eb,
      ap (λ b. if b then Some (kind_of_resolved p.of) else local_kind (locals_of (lowered_params (m + 1) ps)) n) eb,
      ap (λ i. shape (slots i)) (sym (some_same m k (sym (ap (λ b. if b then Some m else slot_of (lowered_params (m + 1) ps) n) eb) ∙ e))) ∙ h.0,
    )
    by_number false eb e next =
        let r = next (sym (ap (λ b. if b then Some m else slot_of (lowered_params (m + 1) ps) n) eb) ∙ e) in (
          r.0,
          ap (λ b. if b then Some (record { value = v; kind = kind_of_resolved p.of }) else variables_from (suc m) ps args n) eb ∙ r.1,
          ap (λ b. if b then Some (kind_of_resolved p.of) else local_kind (locals_of (lowered_params (m + 1) ps)) n) eb ∙ r.2,
          r.3,
        )

pub placed_beginning : (params : List Param) → Placed (length params) (low.slots_below (length params + 1)) (beginning params) (made.params_from 1 params)
placed_beginning params = record {
  agree = λ n. ap (λ l. local_kind l n) (kinds_of_params 1 params);
  inside = λ n k e. let r = param_slot 1 params n k e in subst (λ i. Used i (low.slots_below (length params + 1))) (sym r.0) (used_below n (length params + 1) (omega (arith, r.2)));
  apart = λ n m k e h. sym (param_slot 1 params n k e).0 ∙ (param_slot 1 params m k h).0;
  own = λ n k e lt. let r = param_slot 1 params n k e in absurd (too_great n (length params) r.2 lt);
  fixed = within_self (low.slots_below (length params + 1));
  row = record { by = λ n u. absurd u };
}
  where
    too_great : (n m : ℕ) → n < 1 + m → m < n → ⊥
    too_great n m a b = omega (arith, a, b)

-- Tests.

-- whether the slots of parameters hold what they need
pub within_args : (table : ClassTable) (objects : List Object) (params : List Param) (args : List Value) (slots : SlotCells) (k : ℕ) → HoldsFrom slots k (map parameter_of params) args
    → are_within table objects slots k (map parameter_of params) ≡ may_pass table objects params args
within_args table objects [] [] slots k h = refl
within_args table objects (p ∷ params) (v ∷ args) slots k h =
    ap (λ o. option_map_or (is_within table objects p.of) o true && are_within table objects slots (suc k) (map parameter_of params)) (shape_value (slots k) v (kind_of_resolved p.of) h.0)
    ∙ ap (λ b. is_within table objects p.of v && b) (within_args table objects params args slots (suc k) h.1)
within_args table objects [] (v ∷ args) slots k h = absurd h
within_args table objects (p ∷ params) [] slots k h = absurd h

pub within_exits : (table : ClassTable) (objects : List Object) (params : List Param) (args : List Value) (slots : SlotCells) (k : ℕ) → HoldsFrom slots k (map parameter_of params) args
    → are_within table objects slots k (map at_exit (map parameter_of params)) ≡ may_leave_args table objects params args
within_exits table objects [] [] slots k h = refl
within_exits table objects (p ∷ params) (v ∷ args) slots k h =
    ap (λ o. option_map_or (is_within table objects (type_at_exit p.of p.exit)) o true && are_within table objects slots (suc k) (map at_exit (map parameter_of params))) (shape_value (slots k) v (kind_of_resolved p.of) h.0)
    ∙ ap (λ b. is_within table objects (type_at_exit p.of p.exit) v && b) (within_exits table objects params args slots (suc k) h.1)
within_exits table objects [] (v ∷ args) slots k h = absurd h
within_exits table objects (p ∷ params) [] slots k h = absurd h

module _ (program : SilicaProgram) (most : ℕ) (calls : Calls) (called : CallsRun program most calls) (s : Setting) (found : contract_at program.table s.here ≡ Some s.own)
    (start : SlotCells) (finish : Option Value → World → RunOutcome (Option Value)) (fixed : List ℕ) (zero_fixed : Used 0 fixed) where
  abbrev table : ClassTable
  table = program.table

  abbrev f : meaning.SourceFrame
  f = frame_in program.table s

  abbrev F : made.StaticFrame
  F = made_in program.table s

  abbrev Stand : Point → meaning.Locals → Here → Type 0
  Stand p ls h = At program most calls called s found start finish fixed zero_fixed p ls h

  abbrev Runs : Point → SilicaTerms → List Rest → Here → Configuration → RunOutcome Flow → Type 0
  Runs q rest outer h c o = Ends program (Flows program most calls called s found start finish fixed zero_fixed q rest outer h) c o

  abbrev Places : Point → made.LocalKinds → Type 0
  Places p ws = Placed (length s.signature.params) fixed p ws

  -- what stands at the beginning of a body
  begins : (h : Here) (args : List Value) → fixed ≡ low.slots_below (length s.signature.params + 1) → Stands table most s h → Kept fixed start h.slots → HoldsFrom h.slots 1 (map parameter_of s.signature.params) args
      → Stand (beginning s.signature.params) (first_locals s.signature.params args) h
  begins h args ef st k holds = record {
    stands = st;
    visible = record {
      by = λ n j e.
          let place = param_slot 1 s.signature.params n j e in
          let x = param_held s.signature.params args 1 n j h.slots holds e in
          record {
            variable = x.0;
            is = x.1;
            kind = x.2;
            inside = subst (λ i. Used i (low.slots_below (length s.signature.params + 1))) (sym place.0) (used_below n (length s.signature.params + 1) (omega (arith, place.2)));
            apart = λ z. not_zero n j z place.0 place.1;
            value = shape_value (h.slots j) x.0.value x.0.kind x.3;
            noted = λ r. x.3;
          };
    };
    row = refl;
    kept = k;
  }
    where
      not_zero : (n j : ℕ) → 0 ≡ j → j ≡ n → 1 ≤ n → ⊥
      not_zero n j a b c = omega (arith, a, b, c)

  body_goes_on : (finishes : Finishes program most calls called s found start finish fixed zero_fixed) (span : Span) (h : Here) (c : Configuration) (b : Bool) (p : Point) (ls : meaning.Locals) (w : World) → (b ≡ true → ⊥) → (b ≡ false → s.signature.result ≡ None)
      → Flows program most calls called s found start finish fixed zero_fixed (passed p) (if b then no_terms else one_term (return_form None) span) [] h (goes_on ls) w c → Ends program (Left program most calls called s found start finish fixed zero_fixed [] h) c (finish None w)
  body_goes_on finishes span h c true p ls w never none x = absurd (never refl)
  body_goes_on finishes span h c false p ls w never none x =
      let t : Here = record { slots = x.by.slots; notes = x.by.notes; world = w } in
      ends_later program (finish None w) (left_closed program most calls called s found start finish fixed zero_fixed) x.by.leads (ends_map program (finish None w) (λ v w1 l. left_from program most calls called s found start finish fixed zero_fixed x.by.comes v w1 _ l)
      (finishes.none t span no_terms [] x.by.holds.stands x.by.holds.kept (none refl)))

  body_flow : (finishes : Finishes program most calls called s found start finish fixed zero_fixed) (span : Span) (h : Here) (c : Configuration) (o : RunOutcome Flow) (b : Bool) (p : Point) → (b ≡ true → Stops o) → (b ≡ false → s.signature.result ≡ None)
      → Ends program (Flows program most calls called s found start finish fixed zero_fixed (passed p) (if b then no_terms else one_term (return_form None) span) [] h) c o
      → Ends program (Left program most calls called s found start finish fixed zero_fixed [] h) c (o >>= (λ flow w. finish (result_of flow) w))
  body_flow finishes span h c (gives (goes_on ls) w) b p stops none r = body_goes_on finishes span h c b p ls w (λ e. (stops e).by) none r.by
  body_flow finishes span h c (gives (returns v) w) b p stops none r = r.by.by
  body_flow finishes span h c (aborts cause t) b p stops none r = record { by = r.by }
  body_flow finishes span h c wrong b p stops none r = record { by = r.by }

  -- a body comes to its return
  pub body_runs : (finishes : Finishes program most calls called s found start finish fixed zero_fixed) (h : Here) (args : List Value) (statements : Statements) (end : Span) (block : SilicaTerms) → fixed ≡ low.slots_below (length s.signature.params + 1)
      → LowersBlock F (beginning s.signature.params) (resolved_block statements end) block → AreStatements F (made.params_from 1 s.signature.params) [] statements → (one_ends_there statements ≡ false → s.signature.result ≡ None)
      → Stands table most s h → Kept fixed start h.slots → HoldsFrom h.slots 1 (map parameter_of s.signature.params) args
      → Ends program (Left program most calls called s found start finish fixed zero_fixed [] h) (config s h (runs (then_terms block (ending statements end)) []))
      (run_all calls f statements (first_locals s.signature.params args) h.world >>= (λ flow w. finish (result_of flow) w))
  body_runs finishes h args statements end block ef low_block ok none st k holds =
      let placed : Placed (length s.signature.params) fixed (beginning s.signature.params) (made.params_from 1 s.signature.params) =
      subst (λ xs. Placed (length s.signature.params) xs (beginning s.signature.params) (made.params_from 1 s.signature.params)) (sym ef) (placed_beginning s.signature.params) in
      let a = begins h args ef st k holds in
      body_flow finishes end h _ (run_all calls f statements (first_locals s.signature.params args) h.world) (one_ends_there statements) (beginning s.signature.params)
      (λ e. all_stop calls f statements (first_locals s.signature.params args) h.world e) none
      (block_runs program most calls called s found start finish fixed zero_fixed finishes (resolved_block statements end) (beginning s.signature.params) (made.params_from 1 s.signature.params) block (first_locals s.signature.params args) h (ending statements end) [] low_block ok placed
      (record { stands = a.stands; visible = a.visible; row = a.row; kept = a.kept }))
