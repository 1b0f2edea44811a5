-- The terms of an expression do what the expression does, whatever calls do that their forms do.
use Rattle.std.proofs.Common.{◌≡◌, ℕ, Bool, true, false, List, [], ◌∷◌, length, Option, Some, None, refl, sym, ap, ◌∙◌, subst, true≢false}
use Rattle.std.specs.Prelude.{option_map, option_and_then, IsSome, IsSomeAnd, ⊤, if◌then◌else◌}
use Rattle.std.specs.Option.{option_map_or}
use Rattle.ob_base.specs.declared.fault.Span.{Span}
use Rattle.ob_base.specs.declared.id.ContractId.{ContractId}
use Rattle.ob_base.specs.declared.id.TxId.{TxId}
use Rattle.ob_table.specs.Expressions.{Expression, resolved_number, resolved_text, resolved_bool, resolved_seen, resolved_unary, resolved_binary, resolved_logical, resolved_call, resolved_new}
use Rattle.ob_table.specs.Tables.{ClassTable, contract_at}
use Rattle.ob_table.specs.declared.contract.Signature.{Signature}
use Rattle.ob_table.specs.declared.seen.Kind.{Kind}
use Rattle.ob_table.specs.declared.seen.SeenAt.{SeenAt}
use Rattle.ob_table_spec.specs.WellFormed as made
use Rattle.ob_table_spec.specs.WellFormed.{kind_of_resolved, local_kind, kind_of_seen, is_reference, IsCalled, constructor_at}
use Rattle.ob_heap_spec.specs.Values.{Value, referred}
use Rattle.ob_heap_spec.specs.Worlds.{RunOutcome, gives, aborts, wrong, ◌>>=◌, with_some}
use Rattle.ob_source_meaning.specs.Frames as meaning
use Rattle.ob_source_meaning.specs.Frames.{known, named, of_object, of_this, of_new, Calls}
use Rattle.ob_source_meaning.specs.Naming.{object_seen, value_of_operand, values_of_operands}
use Rattle.ob_source_meaning.specs.Expressions.{operand_or, with_result, started, constructed, value_of, operand_of}
use Rattle.ob_silica.specs.Terms.{SilicaForm, new_form, call_form, call_this_form, SilicaTerms, and_term, then_terms}
use Rattle.ob_silica.specs.declared.place.Operand.{Operand}
use Rattle.ob_silica.specs.declared.place.Place.{Place}
use Rattle.ob_silica.specs.declared.place.Place.TheVariants.{Slot}
use Rattle.ob_silica_steps.specs.Cells.{value_in}
use Rattle.ob_silica_places.specs.Places.{located, all_located}
use Rattle.ob_silica_steps.specs.Configurations.{SilicaProgram, Rest, runs, Configuration}
use Rattle.ob_silica_steps.specs.Here.{Here, read}
use Rattle.ob_lower_spec.specs.Forms.{SlotVariable, locals_of, place_seen, AroundExpression, operand}
use Rattle.ob_lower_spec.specs.Points.{IsFree, in_use}
use Rattle.ob_lower_spec.specs.ExpressionTerms.{Lowered, LoweredArguments, LowersName, IsCall, calls_this, calls_other, LowersExpression}
use Rattle.ob_lower_correct.proofs.Slots.{Used, free_differs, Within}
use Rattle.ob_lower_correct.proofs.Runs.{Ends, stays}
use Rattle.ob_lower_correct.proofs.Standing.{Setting, frame_in, made_in, config, Kept, Stands, Comes, Reached, kept_fewer, none_some, some_same, stands_on, comes_self}
use Rattle.ob_lower_correct.proofs.Names.{Visible, visible_on, name_read, name_kind}
use Rattle.ob_lower_correct.proofs.Plain.{Plain}
use Rattle.ob_lower_correct.proofs.Calling.{read_values, Called, Passes, Answers, CallsRun}
use Rattle.ob_lower_correct.proofs.Values.{InSlot, Result, in_slot_on, in_slot_wide, in_slot, read_in_slot}

-- an operand represents what the operand of a term does
abbrev pub MeansBy : List SlotVariable → meaning.SourceOperand → Operand → List ℕ → Here → Type 0
MeansBy vs (known v) o used t = InSlot o v used t
MeansBy vs (named seen) o used t = place_seen vs seen ≡ Some o.place

pub record Means (vs : List SlotVariable) (x : meaning.SourceOperand) (o : Operand) (used : List ℕ) (t : Here) : Type 0 where
  pub by : MeansBy vs x o used t

abbrev pub MeanBy : List SlotVariable → List meaning.SourceOperand → List Operand → List ℕ → Here → Type 0
MeanBy vs [] [] used t = ⊤
MeanBy vs (x ∷ xs) (o ∷ os) used t = Means vs x o used t × MeanBy vs xs os used t
MeanBy vs xs os used t = ⊥

pub record Mean (vs : List SlotVariable) (xs : List meaning.SourceOperand) (os : List Operand) (used : List ℕ) (t : Here) : Type 0 where
  pub by : MeanBy vs xs os used t

pub means_on : {vs : List SlotVariable} {o : Operand} {used more : List ℕ} {t r : Here} (x : meaning.SourceOperand) → Means vs x o used t → Within used more → Kept used t.slots r.slots → Means vs x o more r
means_on (known v) m w k = record { by = in_slot_wide (in_slot_on m.by k) w }
means_on (named seen) m w k = record { by = m.by }

pub mean_on : {vs : List SlotVariable} {used more : List ℕ} {t r : Here} (xs : List meaning.SourceOperand) (os : List Operand) → Mean vs xs os used t → Within used more → Kept used t.slots r.slots → Mean vs xs os more r
mean_on [] [] m w k = record { by = tt }
mean_on (x ∷ xs) (o ∷ os) m w k = record { by = (means_on x m.by.0 w k, (mean_on xs os (record { by = m.by.1 }) w k).by) }
mean_on [] (o ∷ os) m w k = absurd m.by
mean_on (x ∷ xs) [] m w k = absurd m.by

pub answers_by : (o : Option Signature) (kind : Kind) → option_and_then (λ g. option_map kind_of_resolved g.result) o ≡ Some kind → IsSomeAnd o (λ g. IsSome g.result)
answers_by None kind e = absurd (none_some e)
answers_by (Some g) kind e = some_result g.result e
  where
    some_result : (r : Option _) → option_map kind_of_resolved r ≡ Some kind → IsSome r
    some_result None e = absurd (none_some e)
    some_result (Some r) e = refl

module _ (program : SilicaProgram) (most : ℕ) (calls : Calls) (called : CallsRun program most calls) (s : Setting) (found : contract_at program.table s.here ≡ Some s.own)
    (vs : List SlotVariable) (ws : made.LocalKinds) (agree : (n : ℕ) → local_kind (locals_of vs) n ≡ local_kind ws n) (seen_used : List ℕ) (zero_used : Used 0 seen_used) (span : Span) (ls : meaning.Locals) where
  -- a frame stands so, with the values of what is visible
  pub record Fits (h : Here) : Type 0 where
    pub stands : Stands program.table most s h
    pub visible : Visible vs seen_used ls h.slots

  pub fits_on : {used : List ℕ} {h t : Here} → Within seen_used used → Fits h → Comes program.table most used h t → Fits t
  fits_on w f c = record {
    stands = stands_on program.table most (w.by 0 zero_used) f.stands c;
    visible = visible_on f.visible (kept_fewer w c.kept);
  }

  abbrev table : ClassTable
  table = program.table

  abbrev f : meaning.SourceFrame
  f = frame_in program.table s

  abbrev a : AroundExpression
  a = record { frame = made_in program.table s; variables = vs; span = span }

  pub means_read : (x : meaning.SourceOperand) (o : Operand) (used : List ℕ) (t : Here) → Means vs x o used t → Fits t → value_in (read table t (located o)) ≡ value_of_operand f ls t.world x
  means_read (known v) o used t m fits = read_in_slot table m.by
  means_read (named seen) o used t m fits = name_read table most s vs seen_used ls t seen o.place found fits.stands fits.visible m.by

  pub mean_read : (xs : List meaning.SourceOperand) (os : List Operand) (used : List ℕ) (t : Here) → Mean vs xs os used t → Fits t → read_values table t (all_located os) ≡ values_of_operands f ls t.world xs
  mean_read [] [] used t m fits = refl
  mean_read (x ∷ xs) (o ∷ os) used t m fits =
      ap (λ r. option_and_then (λ v. option_map (λ us. v ∷ us) (read_values table t (all_located os))) r) (means_read x o used t m.by.0 fits)
      ∙ ap (λ r. option_and_then (λ v. option_map (λ us. v ∷ us) r) (value_of_operand f ls t.world x)) (mean_read xs os used t (record { by = m.by.1 }) fits)
  mean_read [] (o ∷ os) used t m fits = absurd m.by
  mean_read (x ∷ xs) [] used t m fits = absurd m.by

  -- the run of an expression's terms
  abbrev pub ValueRuns : Lowered → List ℕ → Here → SilicaTerms → List Rest → RunOutcome Value → Type 0
  ValueRuns l used h rest outer o =
      Ends program (Reached program most (λ t u. Result l used t u) used s h (runs rest outer)) (config s h (runs (then_terms l.terms rest) outer)) o

  abbrev pub OperandRuns : Lowered → List ℕ → Here → SilicaTerms → List Rest → RunOutcome meaning.SourceOperand → Type 0
  OperandRuns l used h rest outer o =
      Ends program (Reached program most (λ t x. Means vs x l.operand (in_use l.made used) t) used s h (runs rest outer)) (config s h (runs (then_terms l.terms rest) outer)) o

  abbrev pub OperandsRun : LoweredArguments → List ℕ → Here → SilicaTerms → List Rest → RunOutcome (List meaning.SourceOperand) → Type 0
  OperandsRun l used h rest outer o =
      Ends program (Reached program most (λ t xs. Mean vs xs l.operands (in_use l.made used) t) used s h (runs rest outer)) (config s h (runs (then_terms l.terms rest) outer)) o

  known_runs : {l : Lowered} {used : List ℕ} {h : Here} {rest : SilicaTerms} {outer : List Rest} (o : RunOutcome Value) → ValueRuns l used h rest outer o → OperandRuns l used h rest outer (o >>= (λ v w. gives (known v) w))
  known_runs (gives v w) r = record { by = let x = r.by in record { slots = x.slots; notes = x.notes; comes = x.comes; holds = record { by = in_slot x.holds }; leads = x.leads } }
  known_runs (aborts cause t) r = record { by = r.by }
  known_runs wrong r = record { by = r.by }

  seen_operand : (seen : SeenAt) (sp : Span) (kind : Kind) (place : Place) (l : Lowered) (used : List ℕ) (h : Here) (rest : SilicaTerms) (outer : List Rest) (b : Bool)
      → is_reference kind ≡ b → kind_of_seen a.frame (locals_of vs) seen.of ≡ Some kind → place_seen vs seen.of ≡ Some place
      → LowersName a used b (operand place sp) l → Fits h
      → (Plain a.frame (locals_of vs) (resolved_seen seen sp) → ValueRuns l used h rest outer (value_of calls f (resolved_seen seen sp) ls h.world))
      → OperandRuns l used h rest outer (operand_or (if b then Some seen.of else None) h.world (value_of calls f (resolved_seen seen sp) ls h.world))
  seen_operand seen sp kind place l used h rest outer true er ek ep low fits v =
      rw low (record { by = record { slots = h.slots; notes = h.notes; comes = comes_self table most used fits.stands; holds = record { by = ep }; leads = stays program _ } })
  seen_operand seen sp kind place l used h rest outer false er ek ep low fits v =
      known_runs _ (v (λ k e. ap is_reference (some_same k kind (sym e ∙ ek)) ∙ er))

  -- an operand runs as its value does, or is the name of a reference
  pub operand_from : (e : Expression) (l : Lowered) (used : List ℕ) (h : Here) (rest : SilicaTerms) (outer : List Rest) → LowersExpression a used e l → Fits h
      → (Plain a.frame (locals_of vs) e → ValueRuns l used h rest outer (value_of calls f e ls h.world)) → OperandRuns l used h rest outer (operand_of calls f e ls h.world)
  operand_from (resolved_seen seen sp) l used h rest outer (kind, ek, place, ep, low) fits v =
      subst (λ o. OperandRuns l used h rest outer (operand_or o h.world (value_of calls f (resolved_seen seen sp) ls h.world)))
      (sym (ap (λ o. if option_map_or is_reference o false then Some seen.of else None) (name_kind table most s vs seen_used ls h seen.of place fits.visible ep ∙ ek)))
      (seen_operand seen sp kind place l used h rest outer (is_reference kind) refl ek ep low fits v)
  operand_from (resolved_number z sp) l used h rest outer low fits v = known_runs _ (v tt)
  operand_from (resolved_text z sp) l used h rest outer low fits v = known_runs _ (v tt)
  operand_from (resolved_bool z sp) l used h rest outer low fits v = known_runs _ (v tt)
  operand_from (resolved_unary o sign e sp) l used h rest outer low fits v = known_runs _ (v tt)
  operand_from (resolved_binary o sign e g sp) l used h rest outer low fits v = known_runs _ (v tt)
  operand_from (resolved_logical o sign e g sp) l used h rest outer low fits v = known_runs _ (v tt)
  operand_from (resolved_call r c tx name args sp) l used h rest outer low fits v = known_runs _ (v tt)
  operand_from (resolved_new c args sp) l used h rest outer low fits v = known_runs _ (v tt)

  -- Calls.

  pub started_runs : (receiver : Option SeenAt) (contract : ContractId) (tx : TxId) (xs : List meaning.SourceOperand) (os : List Operand) (form : SilicaForm) (k : Option ℕ) (used : List ℕ) (t : Here) (g : Signature) (rest : SilicaTerms) (outer : List Rest)
      → IsCall a k receiver contract tx os form → IsCalled a.frame ws receiver contract g → Passes table contract tx (length os) → Mean vs xs os used t → Fits t
      → Ends program (Called program most (Answers table contract tx) k s t (runs rest outer)) (config s t (runs (and_term form span rest) outer)) (started calls f ls receiver contract tx xs t.world)
  started_runs None contract tx xs os form k used t g rest outer calls_this is_here passes mean fits =
      rw is_here
      (subst (λ o. Ends program (Called program most (Answers table s.here tx) k s t (runs rest outer)) (config s t (runs (and_term (call_this_form k tx os) span rest) outer)) (with_some o (λ us. calls (of_this f tx) us t.world)))
      (mean_read xs os used t mean fits)
      (called.same s t k tx os span rest outer found fits.stands (subst (λ c. Passes table c tx (length os)) is_here passes)))
  started_runs (Some receiver) contract tx xs os form k used t g rest outer (calls_other {place = place} ep) is_called passes mean fits =
      subst (λ o. Ends program (Called program most (Answers table contract tx) k s t (runs rest outer)) (config s t (runs (and_term (call_form k (operand place receiver.span) contract tx os) span rest) outer)) (with_some o (λ us. with_some (option_map (λ n. of_object n contract tx) (object_seen f ls t.world receiver.of)) (λ callee. calls callee us t.world))))
      (mean_read xs os used t mean fits)
      (subst (λ o. Ends program (Called program most (Answers table contract tx) k s t (runs rest outer)) (config s t (runs (and_term (call_form k (operand place receiver.span) contract tx os) span rest) outer)) (with_some (read_values table t (all_located os)) (λ us. with_some (option_map (λ n. of_object n contract tx) (option_and_then referred o)) (λ callee. calls callee us t.world))))
      (name_read table most s vs seen_used ls t receiver.of place found fits.stands fits.visible ep)
      (called.object s t k (operand place receiver.span) contract tx os span rest outer found fits.stands passes))

  pub constructed_runs : (contract : ContractId) (xs : List meaning.SourceOperand) (os : List Operand) (k : ℕ) (used : List ℕ) (t : Here) (rest : SilicaTerms) (outer : List Rest)
      → IsSomeAnd (constructor_at table contract) (λ g. length g.params ≡ length os) → Mean vs xs os used t → Fits t
      → Ends program (Called program most ⊤ (Some k) s t (runs rest outer)) (config s t (runs (and_term (new_form k contract os) span rest) outer)) (constructed calls f ls contract xs t.world)
  constructed_runs contract xs os k used t rest outer passes mean fits =
      subst (λ o. Ends program (Called program most ⊤ (Some k) s t (runs rest outer)) (config s t (runs (and_term (new_form k contract os) span rest) outer)) (with_some o (λ us. calls (of_new contract) us t.world)))
      (mean_read xs os used t mean fits)
      (called.new s t k contract os span rest outer found fits.stands passes)

  -- a call that must have a result
  pub answered : (must : Type 0) (l : Lowered) (k : ℕ) (used : List ℕ) (t : Here) (rest : SilicaTerms) (outer : List Rest) (c : Configuration) (o : RunOutcome (Option Value))
      → must → l.operand.place ≡ Slot k → Used k (in_use l.made used) → IsFree k used
      → Ends program (Called program most must (Some k) s t (runs rest outer)) c o
      → Ends program (Reached program most (λ r u. Result l used r u) used s t (runs rest outer)) c (o >>= with_result)
  answered must l k used t rest outer c (gives None w) m place inside free r = absurd (true≢false (sym (r.by.answers m)))
  answered must l k used t rest outer c (gives (Some v) w) m place inside free r = record {
    by = record {
      slots = r.by.slots;
      notes = r.by.notes;
      comes = record {
        kept = record { by = λ n u. r.by.kept n (λ e. free_differs k used free n u (sym (some_same k n e))) };
        later = r.by.later;
        noted = r.by.noted;
        fuel = r.by.fuel;
      };
      holds = record { slot = k; place = place; inside = inside; fresh = free; value = r.by.value k refl };
      leads = r.by.leads;
    };
  }
  answered must l k used t rest outer c (aborts cause x) m place inside free r = record { by = r.by }
  answered must l k used t rest outer c wrong m place inside free r = record { by = r.by }
