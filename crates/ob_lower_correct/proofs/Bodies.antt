-- Lowering keeps the meaning of bodies.
use Rattle.std.proofs.Common.{◌≡◌, ℕ, ◌≤◌, Bool, true, false, List, [], ◌∷◌, Option, Some, refl, sym, ap, ◌∙◌, subst, true≢false, eqb-true}
use Rattle.std.specs.Prelude.{nat_eq, IsSomeAnd, option_and_then}
use Rattle.ob_base.specs.declared.id.ContractId.{ContractId}
use Rattle.ob_base.specs.declared.id.TxId.{TxId}
use Rattle.ob_table.specs.Statements.{ResolvedBody}
use Rattle.ob_table.specs.Tables.{ClassTable, contract_at, signature_at, body_at}
use Rattle.ob_table.specs.declared.contract.Contract.{Contract}
use Rattle.ob_table.specs.declared.contract.Signature.{Signature}
use Rattle.ob_table_spec.specs.WellFormed.{IsBodyOf, IsWellFormed}
use Rattle.ob_heap_spec.specs.Values.{Value}
use Rattle.ob_heap_spec.specs.Contents.{object_at}
use Rattle.ob_heap_spec.specs.Worlds.{World, RunOutcome, gives, aborts, wrong, ◌>>=◌}
use Rattle.ob_heap_spec.specs.Marks.{leave}
use Rattle.ob_source_meaning.specs.Frames.{Calls}
use Rattle.ob_source_meaning.specs.Calls.{call_at}
use Rattle.ob_silica.specs.Terms.{SilicaBody}
use Rattle.ob_silica_places.specs.Parameters.{parameters}
use Rattle.ob_silica_steps.specs.Calling.{constructor_id}
use Rattle.ob_silica_steps.specs.Cells.{value_in}
use Rattle.ob_silica_steps.specs.Configurations.{SilicaProgram, SlotCells, How, by_receiver, by_this, by_new, Waiting, Control, runs, leaves, Configuration, goes, ended}
use Rattle.ob_silica_steps.specs.Here.{Here, here, self_of}
use Rattle.ob_silica_steps.specs.Returning.{leaves_progress, goes_back, with_result}
use Rattle.ob_silica_steps.specs.Steps.{steps}
use Rattle.ob_lower_spec.specs.BodyTerms.{Lowers, LowersWith}
use Rattle.ob_lower_correct.specs.Law.{IsLoweredProgram}
use Rattle.ob_lower_correct.specs.Bodies.{BeginsBody, run_entered, source_frame, BodiesKeepMeaning}
use Rattle.ob_lower_correct.proofs.Exact.{ReturnedExactly, BodyEndsExactly, body_ends_as}
use Rattle.ob_lower_correct.proofs.Slots.{Used}
use Rattle.ob_lower_correct.proofs.Runs.{Leads, leads_on, Ends, one_step}
use Rattle.ob_lower_correct.proofs.Standing.{Setting, frame_in, config, Stands, none_some, some_same, self_is, stands_on}
use Rattle.ob_lower_correct.proofs.Changes.{noted_quiet}
use Rattle.ob_lower_correct.proofs.Calling.{CallsRun}
use Rattle.ob_lower_correct.proofs.Expressions.{called_so}
use Rattle.ob_lower_correct.proofs.Binding.{HoldsFrom}
use Rattle.ob_lower_correct.proofs.Branches.{quiet_same, then_gives}
use Rattle.ob_lower_correct.proofs.Flows.{Left}
use Rattle.ob_lower_correct.proofs.Ending.{Finishes}
use Rattle.ob_lower_correct.proofs.Returning.{gives_back, gives_object, plain_finishes, new_finishes}
use Rattle.ob_lower_correct.proofs.Leaving.{with_stack, with_slots, loans_back, leave_objects, result_others, result_there}
use Rattle.ob_lower_correct.proofs.Entering.{fixed_slots, zero_fixed, body_ends, terms_run, transaction_is}
use Rattle.ob_lower_correct.proofs.CallsNew.{construct_is}
use Rattle.ob_lower_correct.proofs.Pairing.{FoundPair, no_body, body_pair, find_pair, both}
use Rattle.ob_lower_correct.proofs.Depth.{calls_run}
use Rattle.ob_lower_correct.proofs.Law.{fitting}

-- A frame that leaves returns.

module _ (program : SilicaProgram) (most : ℕ) (calls : Calls) (called : CallsRun program most calls) (cs : Setting) (found : contract_at program.table cs.here ≡ Some cs.own)
    (start : SlotCells) (finish : Option Value → World → RunOutcome (Option Value)) (fixed : List ℕ) (zero_is : Used 0 fixed) where
  abbrev table : ClassTable
  table = program.table

  abbrev LeftSo : Here → Option Value → World → Configuration → Type 0
  LeftSo h0 r w c = Left program most calls called cs found start finish fixed zero_is [] h0 r w c

  returned : (h0 : Here) (c : Configuration) (r : Option Value) (w : World) (stack : List Waiting) → cs.stack ≡ stack → Stands table most cs h0 → LeftSo h0 r w c
      → (n : ℕ) × ReturnedExactly table stack r (leaves_progress cs.how cs.this w) (steps program n c)
  returned h0 c r w [] es st l =
      let t : Here = record { slots = l.slots; notes = l.notes; world = w } in
      let self : self_of t.slots ≡ cs.this = self_is table most (stands_on table most zero_is st l.comes) in
      let end = (leads_on program l.leads (one_step program {c = config cs t (leaves l.cell [])} (ap (λ stack. goes_back stack l.cell (config cs t (leaves l.cell []))) es))).by 0 in
      (end.0, end.2 ∙ ap (λ v. ended v (leaves_progress cs.how (self_of t.slots) w)) l.value ∙ ap (λ n. ended r (leaves_progress cs.how n w)) self)
  returned h0 c r w (h ∷ below) es st l =
      let t : Here = record { slots = l.slots; notes = l.notes; world = w } in
      let self : self_of t.slots ≡ cs.this = self_is table most (stands_on table most zero_is st l.comes) in
      let back = loans_back program cs h below l.cell h.loans h.frame.slots t in
      let left : Leads program c (goes (config (with_stack cs (with_slots h h.frame.slots h.loans ∷ below)) t (leaves l.cell []))) = subst (λ stack. Leads program c (goes (config (with_stack cs stack) t (leaves l.cell [])))) es l.leads in
      let objects = leave_objects cs.how cs.this w in
      let end = (leads_on program left back.leads).by 0 in (
        end.0,
        (
          record {
            frame = record { slots = with_result h.result l.cell back.after; contract = h.frame.contract; tx = h.frame.tx; how = h.frame.how; share_entered = h.frame.share_entered };
            control = runs h.terms h.outer;
            stack = below;
            notes = back.notes;
            world = leaves_progress cs.how (self_of t.slots) w;
          },
          end.2,
          record {
            frame = refl;
            control = refl;
            stack = refl;
            world = ap (λ n. leaves_progress cs.how n w) self;
            result = λ k e. ap value_in (result_there h.result l.cell back.after k e) ∙ l.value;
            others = λ k d. result_others h.result l.cell back.after k d ∙ back.same k;
            noted = noted_quiet {w = w} {v = leaves_progress cs.how cs.this w} l.comes.noted (quiet_same w (leaves_progress cs.how cs.this w) objects.0 objects.1) back.kinds;
          },
        ),
      )

  -- a body that comes to its return
  body_returns : (h0 : Here) (control : Control) (o : RunOutcome (Option Value)) → Stands table most cs h0 → Ends program (LeftSo h0) (config cs h0 control) o
      → BodyEndsExactly program (config cs h0 control) (o >>= (λ r w. gives r (leaves_progress cs.how cs.this w)))
  body_returns h0 control (gives r w) st l = returned h0 (config cs h0 control) r w cs.stack refl st l.by
  body_returns h0 control (aborts cause s) st l = let end = l.by.by 0 in (end.0, end.2)
  body_returns h0 control wrong st l = let end = l.by.by 0 in (end.0, end.2)

-- A body of the table is well-formed, and may be lowered to its terms.

record IsLoweredBody (program : SilicaProgram) (body : ResolvedBody) (lowered : SilicaBody) (contract : ContractId) (own : Contract) (s : Signature) : Type 0 where
  pub same : body.contract ≡ contract
  pub lowers : LowersWith program.table own s body lowered
  pub is_body : IsBodyOf program.table body own s

lowered_body : (program : SilicaProgram) (body : ResolvedBody) (lowered : SilicaBody) (contract : ContractId) (own : Contract) (tx : TxId) (s : Signature) → IsLoweredProgram program → Lowers program.table body lowered
    → contract_at program.table contract ≡ Some own → signature_at own tx ≡ Some s → body_at program.table contract tx ≡ Some body → IsLoweredBody program body lowered contract own s
lowered_body program body lowered contract own tx s is low eown es eb = by_found (find_pair program.table contract tx program.table.bodies program.bodies is.lowered is.well_formed)
  where
    by_found : FoundPair program.table contract tx program.table.bodies program.bodies → IsLoweredBody program body lowered contract own s
    by_found (no_body none el) = absurd (none_some (sym none ∙ eb))
    by_found (body_pair b l found el names lowers made) =
        let same : b ≡ body = some_same b body (sym found ∙ eb) in
        let name = both (nat_eq b.contract.0 contract.0) (nat_eq b.tx.0 tx.0) names in
        let same_contract : body.contract ≡ contract = ap (λ (x : ResolvedBody). x.contract) (sym same) ∙ ap (λ n. record { 0 = n }) (eqb-true b.contract.0 contract.0 name.0) in
        let same_tx : body.tx ≡ tx = ap (λ (x : ResolvedBody). x.tx) (sym same) ∙ ap (λ n. record { 0 = n }) (eqb-true b.tx.0 tx.0 name.1) in
        let own_is : contract_at program.table body.contract ≡ Some own = ap (contract_at program.table) same_contract ∙ eown in
        let signature_is : signature_at own body.tx ≡ Some s = ap (signature_at own) same_tx ∙ es in
        record {
          same = same_contract;
          lowers = subst (λ o. IsSomeAnd o (λ s. LowersWith program.table own s body lowered)) signature_is (subst (λ o. IsSomeAnd o (λ own. IsSomeAnd (signature_at own body.tx) (λ s. LowersWith program.table own s body lowered))) own_is low);
          is_body = subst (λ o. IsSomeAnd o (λ s. IsBodyOf program.table body own s)) signature_is (subst (λ o. IsSomeAnd o (λ own. IsSomeAnd (signature_at own body.tx) (λ s. IsBodyOf program.table body own s))) own_is (subst (IsWellFormed program.table) same made));
        }

-- The law.

-- a setting whose frame was entered in another way
abbrev with_how : Setting → How → Setting
with_how s how = record { this = s.this; here = s.here; own = s.own; tx = s.tx; signature = s.signature; how = how; share_entered = s.share_entered; stack = s.stack }

-- what stays of the innermost frame of a configuration
abbrev setting : Configuration → Contract → Signature → Setting
setting c own s = record { this = self_of c.frame.slots; here = c.frame.contract; own = own; tx = c.frame.tx; signature = s; how = c.frame.how; share_entered = c.frame.share_entered; stack = c.stack }

abbrev is_new : How → Bool
is_new by_receiver = false
is_new by_this = false
is_new by_new = true

module _ (program : SilicaProgram) (depth : ℕ) (is : IsLoweredProgram program) (body : ResolvedBody) (lowered : SilicaBody) (args : List Value) where
  run : CallsRun program depth (call_at program.table depth)
  run = calls_run program (fitting program is) depth

  -- with how the body ends, in its frame
  body_ends_so : (cs : Setting) (h0 : Here) (found : contract_at program.table cs.here ≡ Some cs.own) (finish : Option Value → World → RunOutcome (Option Value)) → body_at program.table cs.here cs.tx ≡ Some body → IsLoweredBody program body lowered cs.here cs.own cs.signature
      → Stands program.table depth cs h0 → HoldsFrom h0.slots 1 (parameters cs.signature) args → Finishes program depth (call_at program.table depth) run cs found h0.slots finish (fixed_slots cs.signature) (zero_fixed cs.signature)
      → BodyEndsExactly program (config cs h0 (runs lowered.terms [])) (body_ends program depth (call_at program.table depth) run cs found finish args h0.world >>= (λ r w. gives r (leaves_progress cs.how cs.this w)))
  body_ends_so cs h0 found finish eb made st holds finishes =
      body_returns program depth (call_at program.table depth) run cs found h0.slots finish (fixed_slots cs.signature) (zero_fixed cs.signature) h0 (runs lowered.terms []) (body_ends program depth (call_at program.table depth) run cs found finish args h0.world) st
      (terms_run program depth (call_at program.table depth) run cs found finish args h0 body lowered eb made.same made.lowers made.is_body st holds finishes)

  -- by how its frame was entered
  how_ends : (how : How) (cs : Setting) (h0 : Here) (found : contract_at program.table cs.here ≡ Some cs.own) → signature_at cs.own cs.tx ≡ Some cs.signature → body_at program.table cs.here cs.tx ≡ Some body → IsLoweredBody program body lowered cs.here cs.own cs.signature
      → Stands program.table depth (with_how cs how) h0 → HoldsFrom h0.slots 1 (parameters cs.signature) args → (how ≡ by_new → cs.tx ≡ constructor_id)
      → BodyEndsExactly program (config (with_how cs how) h0 (runs lowered.terms [])) (run_entered how (call_at program.table depth) (frame_in program.table cs) cs.tx cs.signature args h0.world)
  how_ends by_receiver cs h0 found es eb made st holds constructor =
      let calls = call_at program.table depth in
      let s = with_how cs by_receiver in
      subst (λ o. BodyEndsExactly program (config s h0 (runs lowered.terms [])) (o >>= (λ r w. gives r (leave cs.this w)))) (sym (transaction_is program.table calls s args h0.world))
      (body_ends_so s h0 found (gives_back program.table s args) eb made st holds
      (plain_finishes program depth calls run s found h0.slots args (fixed_slots cs.signature) (zero_fixed cs.signature) refl (ap (option_and_then (λ c. signature_at c cs.tx)) found ∙ es) holds (λ e. true≢false (sym (ap is_new e)))))
  how_ends by_this cs h0 found es eb made st holds constructor =
      let calls = call_at program.table depth in
      let s = with_how cs by_this in
      let o = body_ends program depth calls run s found (gives_back program.table s args) args h0.world in
      subst (BodyEndsExactly program (config s h0 (runs lowered.terms []))) (then_gives o ∙ sym (transaction_is program.table calls s args h0.world))
      (body_ends_so s h0 found (gives_back program.table s args) eb made st holds
      (plain_finishes program depth calls run s found h0.slots args (fixed_slots cs.signature) (zero_fixed cs.signature) refl (ap (option_and_then (λ c. signature_at c cs.tx)) found ∙ es) holds (λ e. true≢false (sym (ap is_new e)))))
  how_ends by_new cs h0 found es eb made st holds constructor =
      let calls = call_at program.table depth in
      let s = with_how cs by_new in
      let o = body_ends program depth calls run s found (gives_object program.table s args) args h0.world in
      let first = ap (signature_at cs.own) (sym (constructor refl)) ∙ es in
      subst (BodyEndsExactly program (config s h0 (runs lowered.terms []))) (then_gives o ∙ sym (construct_is program.table calls s args h0.world (constructor refl)))
      (body_ends_so s h0 found (gives_object program.table s args) eb made st holds
      (new_finishes program depth calls run s found h0.slots args (fixed_slots cs.signature) (zero_fixed cs.signature) refl (ap (option_and_then (λ c. signature_at c cs.tx)) found ∙ es) holds refl
      ((fitting program is).constructors cs.here cs.own cs.signature found made.is_body.contract first)))

bodies_end : (program : SilicaProgram) (body : ResolvedBody) (lowered : SilicaBody) (own : Contract) (s : Signature)
    (args : List Value) (c : Configuration) (depth : ℕ)
    → IsLoweredProgram program → Lowers program.table body lowered → BeginsBody program body lowered own s args c → c.world.fuel ≤ depth
    → BodyEndsExactly program c (run_entered c.frame.how (call_at program.table depth) (source_frame program.table own c) c.frame.tx s args c.world)
bodies_end program body lowered own s args c depth is low begins few =
    let cs = setting c own s in
    let object = called_so (object_at c.world.objects cs.this) (λ o. o.contract ≡ c.frame.contract) begins.object in
    subst (λ control. BodyEndsExactly program (record c { control = control }) (run_entered c.frame.how (call_at program.table depth) (source_frame program.table own c) c.frame.tx s args c.world)) (sym begins.control)
    (how_ends program depth is body lowered args c.frame.how cs (here c) begins.contract begins.signature begins.is_body
    (lowered_body program body lowered c.frame.contract own c.frame.tx s is low begins.contract begins.signature begins.is_body)
    (record { this = begins.this; object = object; noted = begins.noted; fuel = few }) begins.arguments begins.constructor)

pub bodies_keep_meaning : BodiesKeepMeaning
bodies_keep_meaning program body lowered own s args c depth is low begins few =
    body_ends_as program c _ (bodies_end program body lowered own s args c depth is low begins few)
