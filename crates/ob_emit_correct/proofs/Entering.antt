-- The step into a body, by terms and by code: what enters it is the same on both sides.
use Rattle.std.proofs.Common.{◌≡◌, ℕ, zero, suc, Bool, true, false, List, [], ◌∷◌, length, Option, Some, None, refl, sym, ap, ◌∙◌, subst, arith}
use Rattle.std.specs.Prelude.{nat_eq, nat_le, ◌==◌, not, ◌&&◌, find, option_map, if◌then◌else◌, ⊤}
use Rattle.std.specs.Option.{option_and_then, option_map_or}
use Rattle.std.proofs.lemmas.Bool.{or_left, or_right, ne_eqb}
use Rattle.std.proofs.lemmas.List.{length-map}
use Rattle.ob_base.specs.Limits.{most_objects}
use Rattle.ob_base.specs.Optional.{◌>>=◌}
use Rattle.ob_base.specs.declared.id.ContractId.{ContractId}
use Rattle.ob_base.specs.declared.id.TxId.{TxId}
use Rattle.ob_perm.specs.Masks.{permission_of}
use Rattle.ob_perm.specs.Permissions.{is_shared}
use Rattle.ob_table.specs.Tables.{contract_at, signature_at, signature_of}
use Rattle.ob_table.specs.declared.contract.Contract.{Contract}
use Rattle.ob_table.specs.declared.contract.Signature.{Signature}
use Rattle.ob_table.specs.declared.contract.ResolvedType.TheVariants as typed
use Rattle.ob_table.specs.declared.seen.Kind.TheVariants.{Reference}
use Rattle.ob_table_spec.specs.WellFormed.{kind_of_resolved, is_constructor, is_implemented, serves_as}
use Rattle.ob_heap_spec.specs.Dispatch.{implements_it, transaction_named, answering}
use Rattle.ob_heap_spec.specs.Values.{Value, reference, nothing}
use Rattle.ob_heap_spec.specs.Objects.{Object, unfinished}
use Rattle.ob_heap_spec.specs.Contents.{object_at}
use Rattle.ob_heap_spec.specs.Worlds.{ReadItem, World, Spent, spent, ReadSame, SameWorld, SameSpent, AbortCause, by_fuel, by_reentry, by_full, next_item, with_read, with_unit_taken, read_object, make_object}
use Rattle.ob_heap_spec.specs.Marks.{is_in_progress, enter}
use Rattle.ob_silica.specs.Terms.{SilicaTerms, SilicaBody}
use Rattle.ob_silica_formed.specs.Holdings.{held_at_start}
use Rattle.ob_silica_places.specs.Known.{at}
use Rattle.ob_silica_places.specs.Parameters.{parameter_of, parameters, all_parameters}
use Rattle.ob_silica_steps.specs.Binding.{bound_cell}
use Rattle.ob_silica_steps.specs.Calling.{constructor_id}
use Rattle.ob_silica_steps.specs.Configurations.{SilicaProgram, is_terms_of, SlotCells, How, by_receiver, by_this, by_new, SilicaFrame, runs, Configuration, NextStep, goes, ended, aborted, stuck, abort_step}
use Rattle.ob_silica_steps.specs.Entering.{Entered, are_within, enters, this_cell, entered_on, begins_on, calls_object, calls_this, new_cell, entered_new, makes_object}
use Rattle.ob_silica_steps.specs.Here.{self_of, if_there, with_fuel_left, with_unit}
use Rattle.ob_places_laws.proofs.Dispatch.{answer_is}
use Rattle.ob_code.specs.Code.{body_code, is_shared_at_entry}
use Rattle.ob_code.specs.declared.image.BodyCode.{BodyCode}
use Rattle.ob_machine_steps.specs.Calling as machine_calls
use Rattle.ob_machine_steps.specs.Calling.{Caller, caller, begun}
use Rattle.ob_machine_steps.specs.Configurations as machine
use Rattle.ob_machine_steps.specs.Configurations.{Next}
use Rattle.ob_machine_steps.specs.Entries.{Phase, next_step}
use Rattle.ob_code_table.specs.Images.{CalleeId, callee}
use Rattle.ob_machine_steps.specs.Parts.{with_units}
use Rattle.ob_machine_steps.specs.Parts as parts
use Rattle.ob_machine_steps.specs.Runs.{after_step, after_steps}
use Rattle.ob_emit_spec.specs.EmittedImages.{emitted_body}
use Rattle.ob_coherent_spec.specs.Remaining.{IsCheckedProgram}
use Rattle.ob_emit_correct.specs.Law.{code_of}
use Rattle.ob_emit_correct.proofs.Matching.{HasBody, slots_in, entered_as, SameFrame, kind_given, AllWaitFor, Matches, as_running, DoesTo}
use Rattle.ob_emit_correct.proofs.Agreeing.{body_found, share_entry_marked, callee_found}
use Rattle.ob_emit_correct.proofs.Beginning.{body_slots, body_stands, BeginsWith, begins_with, first_same, start_kinds}
use Rattle.ob_emit_correct.proofs.Worlds.{reading, by_reads, same_reading, same_read, same_read_object, same_enter, same_make}
use Rattle.ob_emit_correct.proofs.Stepping.{same_spent}
use Rattle.ob_lower_correct.proofs.Answering.{agrees}
use Rattle.ob_lower_correct.proofs.Binding.{bound_slots, bound_below}
use Rattle.ob_lower_correct.proofs.CallsObject.{same_parameters}
use Rattle.ob_lower_correct.proofs.Standing.{at_same, at_other, none_some}

-- Steps that are alike.

-- What a step of the machine comes to represents what a Silica step comes to; of a configuration this is said only where more is so.
abbrev pub AreAlike : SilicaProgram → (Configuration → Type 0) → NextStep → Option Next → Type 0
AreAlike program So (goes d) x = So d → (m : machine.Configuration) × (x ≡ Some (machine.goes m)) × Matches program d m
AreAlike program So (ended result w) x = (v : World) × (x ≡ Some (machine.stops (machine.ended result v))) × SameWorld w v
AreAlike program So (aborted cause s) x = (t : Spent) × (x ≡ Some (machine.stops (machine.aborted cause t))) × SameSpent s t
AreAlike program So stuck x = ⊤

-- the same as a record
pub record StepsAlike (program : SilicaProgram) (So : Configuration → Type 0) (next : NextStep) (x : Option Next) : Type 0 where
  pub by : AreAlike program So next x

-- one step of the machine does it
pub does_in_one : (program : SilicaProgram) (So : Configuration → Type 0) (p : Phase) (next : NextStep) →
    ((d : Configuration) → next ≡ goes d → So d)
    → StepsAlike program So next (next_step (code_of program) p) → DoesTo program p next
does_in_one program So p (goes d) so a =
    let r = a.by (so d refl) in (1, r.0, ap (λ x. after_step x (after_steps (code_of program) 0)) r.1, r.2)
does_in_one program So p (ended result w) so a = (
  1,
  a.by.0,
  ap
      (λ x. after_step x (after_steps (code_of program) 0)) a.by.1,
  a.by.2,
)
does_in_one program So p (aborted cause s) so a = (
  1,
  a.by.0,
  ap
      (λ x. after_step x (after_steps (code_of program) 0)) a.by.1,
  a.by.2,
)
does_in_one program So p stuck so a = tt

module _ (program : SilicaProgram) (So : Configuration → Type 0) where
  -- what is there only on one side, as nothing is asked where there is no step
  pub alike_there : {A : Type 0} (o : Option A) (go : A → NextStep) (x : Option Next)
      → ((a : A) → o ≡ Some a → StepsAlike program So (go a) x) → StepsAlike program So (if_there o go) x
  alike_there None go x h = record { by = tt }
  alike_there (Some a) go x h = h a refl

  pub alike_so : (b : Bool) (next : NextStep) (x : Option Next) → StepsAlike program So next x
      → StepsAlike program So (if b then next else stuck) x
  alike_so true next x h = h
  alike_so false next x h = record { by = tt }

  pub alike_abort : (cause : AbortCause) {w v : World} → SameWorld w v → StepsAlike program So (abort_step cause w)
      (Some (machine.abort cause v))
  alike_abort cause {w = w} {v = v} s = record { by = (spent v, refl, same_spent s) }

  pub alike_if : (b : Bool) (next other : NextStep) (x y : Option Next) → StepsAlike program So next x
      → StepsAlike program So other y
      → StepsAlike program So (if b then next else other) (if b then x else y)
  alike_if true next other x y h k = h
  alike_if false next other x y h k = k

  -- a unit is taken on both sides
  pub alike_unit : {w v : World} → SameWorld w v → (go : World → NextStep) (on : World → Option Next)
      → ((n : ℕ) → StepsAlike program So (go (with_unit_taken w n)) (on (with_unit_taken v n)))
      → StepsAlike program So (with_unit w go) (parts.with_unit v on)
  alike_unit {w = w} {v = v} s go on each =
      subst (λ n. StepsAlike program So (with_fuel_left w.fuel w go) (with_units n v on)) (sym s.fuel) (by w.fuel)
    where
      by : (n : ℕ) → StepsAlike program So (with_fuel_left n w go) (with_units n v on)
      by zero = alike_abort by_fuel s
      by (suc n) = each n

  -- the second one is another
  pub alike_as : (next : NextStep) {x y : Option Next} → x ≡ y → StepsAlike program So next y → StepsAlike program So next x
  alike_as next e h = subst (StepsAlike program So next) (sym e) h

-- Bodies.

-- where a body begins
abbrev pub entered_into : Entered → ContractId → TxId → How → Bool → SilicaTerms → Configuration
entered_into e id tx how share terms = record {
  frame = record { slots = e.slots; contract = id; tx = tx; how = how; share_entered = share };
  control = runs terms [];
  stack = e.stack;
  notes = e.notes;
  world = e.world;
}

module _ (program : SilicaProgram) (checked : IsCheckedProgram program) (So : Configuration → Type 0) where
  -- a body of a contract begins, with these values
  pub enters_alike : (e : Entered) (by : Caller) (id : ContractId) (tx : TxId) (how : How) (share : Bool) (own : Contract)
      (s : Signature)
      (this : ℕ) (vs : List Value) (v : World) (shares : BodyCode → Bool)
      → contract_at program.table id ≡ Some own → signature_at own tx ≡ Some s → BeginsWith e.slots id this (parameters s) vs
      → length vs ≡ length s.params → AllWaitFor program (kind_given program.table how id tx) e.stack by.into by.frames
      → SameWorld e.world v
      → ((terms : SilicaTerms) → So (entered_into e id tx how share terms) → own.interface ≡ false)
      → ((terms : SilicaTerms) → So (entered_into e id tx how share terms) → (body : SilicaBody)
      → shares (emitted_body program.table id own tx s (Some body)) ≡ share)
      → StepsAlike program So (enters program e id tx how share)
      (body_code (code_of program) id tx >>= λ b. Some (machine.goes (begun by (id, tx) b this vs (entered_as how) (shares b) v)))
  enters_alike e by id tx how share own s this vs v shares eo es begins many below same class shared =
      by_body (find (is_terms_of id tx) program.bodies) refl
    where
      by_body : (o : Option SilicaBody) → find (is_terms_of id tx) program.bodies ≡ o
          → StepsAlike program So
          (if_there (option_map (λ (body : SilicaBody). body.terms) o) (λ terms. goes (entered_into e id tx how share terms)))
          (body_code (code_of program) id tx >>= λ b. Some (machine.goes
          (begun by (id, tx) b this vs (entered_as how) (shares b) v)))
      by_body None found = record { by = tt }
      by_body (Some body) found =
          let has : own.interface ≡ false → HasBody program id tx = λ plain. record {
            own = own;
            is_own = eo;
            class = plain;
            signature = s;
            is_signature = es;
            body = body;
            found = found;
          } in
          let code = emitted_body program.table id own tx s (Some body) in
          record {
            by = λ so.
                let b = has (class body.terms so) in
                let few = (body_slots program checked id tx b).0 in (
                  begun by (id, tx) code this vs (entered_as how) share v,
                  ap (λ (z : Option BodyCode). z >>= λ b. Some (machine.goes
                      (begun by (id, tx) b this vs (entered_as how) (shares b) v)))
                      (body_found program id tx b)
                      ∙ ap (λ x. Some (machine.goes (begun by (id, tx) code this vs (entered_as how) x v)))
                      (shared body.terms so body),
                  as_running (record {
                    terms = body.terms;
                    outer = [];
                    control = refl;
                    goes_on = record {
                      frame = record { this = sym begins.self; contract = refl; tx = refl; entered = refl; share_entered = refl };
                      has = b;
                      slots = first_same e.slots id this body.slots (slots_in program id tx b) (parameters s) vs begins
                          (omega (arith, many, few)) (omega arith);
                      holdings = held_at_start id s.params;
                      stands = body_stands program checked id tx b;
                    };
                    kinds = start_kinds e.slots id this s.params vs begins;
                    below = below;
                    world = same;
                  }),
                );
          }

  -- A transaction that answers for one that is no constructor's is none.
  pub answers_plainly : (declared : ContractId) (tx : TxId) (asked : Signature) (id : ContractId) (own : Contract) (t : TxId)
      (s : Signature)
      → signature_of program.table declared tx ≡ Some asked → is_constructor program.table declared tx.0 ≡ false
      → contract_at program.table id ≡ Some own → answering declared tx asked id own ≡ Some t → signature_at own t ≡ Some s
      → is_constructor program.table id t.0 ≡ false
  answers_plainly declared tx asked id own t s easked none eo answers es = by_interface own.interface refl
    where
      here : is_constructor program.table id t.0 ≡ (not own.interface && nat_eq t.0 0)
      here = ap (λ o. option_map_or (λ (c : Contract). not c.interface && nat_eq t.0 0) o false) eo

      implements : (b : Bool) → implements_it declared own ≡ b → (if b then transaction_named own asked.name else None) ≡ Some t
          → serves_as program.table (Reference declared) (Reference id) ≡ true
      implements true eb e = or_right (nat_eq declared.0 id.0) (is_implemented program.table id declared)
          (ap (λ o. option_map_or (λ (found : Contract). option_map_or
          (λ (k : ContractId). nat_eq declared.0 k.0) found.implements false) o false) eo ∙ eb)
      implements false eb e = absurd (none_some e)

      serves : (b : Bool) → (declared.0 == id.0) ≡ b
          → (if b then Some tx else if implements_it declared own then transaction_named own asked.name else None) ≡ Some t
          → serves_as program.table (Reference declared) (Reference id) ≡ true
      serves true eb e = or_left (nat_eq declared.0 id.0) (is_implemented program.table id declared) eb
      serves false eb e = implements (implements_it declared own) refl e

      by_interface : (b : Bool) → own.interface ≡ b → is_constructor program.table id t.0 ≡ false
      by_interface true eb = here ∙ ap (λ b. not b && nat_eq t.0 0) eb
      by_interface false eb =
          here ∙ ap (λ b. not b && nat_eq t.0 0) eb
          ∙ ne_eqb t.0 0 (answer_is program.table checked.table declared id tx asked own t s eo eb easked none
          (serves (declared.0 == id.0) refl answers) answers es).0

  -- The machine's call of an object, once it was read.
  abbrev pub read_call : Caller → ContractId → TxId → ℕ → List Value → World → Option Next
  read_call by contract tx n vs v =
      if is_in_progress v n then Some (machine.abort (by_reentry n) v)
      else object_at v.objects n >>= λ o. callee (code_of program) contract tx o >>= machine_calls.answers
      (code_of program) by n vs v

  -- a call of an object, once its unit is taken
  pub calls_object_alike : (e : Entered) (by : Caller) (contract : ContractId) (tx : TxId) (asked : Signature) (n : ℕ)
      (vs : List Value) (v : World)
      → signature_of program.table contract tx ≡ Some asked → length vs ≡ length asked.params
      → e.slots ≡ bound_slots nothing 0 (all_parameters contract asked) (reference n ∷ vs)
      → AllWaitFor program (option_map kind_of_resolved asked.result) e.stack by.into by.frames → SameWorld e.world v
      → ((d : Configuration) (own : Contract) (s : Signature) → contract_at program.table d.frame.contract ≡ Some own
      → answering contract tx asked d.frame.contract own ≡ Some d.frame.tx → signature_at own d.frame.tx ≡ Some s → d.frame.how
      ≡ by_receiver → So d
      → is_constructor program.table d.frame.contract d.frame.tx.0 ≡ false)
      → ((d : Configuration) (own : Contract) → contract_at program.table d.frame.contract ≡ Some own → So d → own.interface ≡ false)
      → StepsAlike program So (calls_object program e contract tx asked n)
      (machine_calls.calls_object (code_of program) by contract tx n vs v)
  calls_object_alike e by contract tx asked n vs v easked many slots below same plain class =
      by_reads (λ z. StepsAlike program So (calls_object program e contract tx asked n) (read_call by contract tx n vs z))
      (same_read_object n same)
      (λ items r.
      let w = read_object e.world n in
      alike_if program So (is_in_progress w n) (abort_step (by_reentry n) w)
      (if_there (object_at w.objects n) (λ o.
      if_there (contract_at program.table o.contract) (λ own.
      if_there (answering contract tx asked o.contract own) (λ t.
      if_there (signature_at own t) (λ s. begins_on program (record e { world = w }) n o t s)))))
      (Some (machine.abort (by_reentry n) (reading items w)))
      (object_at w.objects n >>= λ o. callee (code_of program) contract tx o >>= machine_calls.answers (code_of program) by n vs
      (reading items w))
      (alike_abort program So (by_reentry n) (same_reading w items r))
      (found items r))
    where
      -- the body that answers begins
      begun_on : (o : Object) (own : Contract) (t : TxId) (s : Signature) (w z : World) → contract_at program.table o.contract
          ≡ Some own
          → answering contract tx asked o.contract own ≡ Some t → signature_at own t ≡ Some s → SameWorld (enter n w) (enter n z)
          → StepsAlike program So
          (enters program (record (entered_on (record e { world = w }) n o s) { world = enter n w }) o.contract t by_receiver
          (is_shared (permission_of s.entry)))
          (machine_calls.answers (code_of program) by n vs z (o.contract, t))
      begun_on o own t s w z eo answers es entered =
          let alike = agrees program.table checked.table contract tx asked o.contract own t s eo easked answers es in
          let params : parameters s ≡ parameters asked = same_parameters s.params asked.params alike.0 in
          let start : SlotCells = at nothing 0 (Some (bound_cell (typed.Reference contract asked.entry) (reference n))) in
          let this = this_cell o.contract s.entry n in
          let begins : BeginsWith (at e.slots 0 (Some this)) o.contract n (parameters s) vs =
          subst (λ ps. BeginsWith (at e.slots 0 (Some this)) o.contract n ps vs) (sym params)
          (begins_with (at e.slots 0 (Some this)) start o.contract n (parameters asked) vs this
          (at_same e.slots 0 (Some this)) refl refl
          (λ k. at_other e.slots 0 (Some this) (suc k) (λ h. omega (arith, h)) ∙ ap (λ (cells : SlotCells). cells (suc k)) slots)
          (λ k. at_other nothing 0 (Some (bound_cell (typed.Reference contract asked.entry) (reference n))) (suc k)
          (λ h. omega (arith, h)))) in
          let counted : length s.params ≡ length asked.params =
          sym (length-map s.params parameter_of) ∙ ap length params ∙ length-map asked.params parameter_of in
          let given : kind_given program.table by_receiver o.contract t ≡ option_map kind_of_resolved asked.result =
          ap (option_and_then (λ (x : Signature). option_map kind_of_resolved x.result))
          (ap (option_and_then (λ c. signature_at c t)) eo ∙ es)
          ∙ ap (option_map kind_of_resolved) alike.1 in
          enters_alike (record (entered_on (record e { world = w }) n o s) { world = enter n w }) by o.contract t by_receiver
          (is_shared (permission_of s.entry)) own s n vs (enter n z) is_shared_at_entry eo es begins (many ∙ sym counted)
          (subst (λ g. AllWaitFor program g e.stack by.into by.frames) (sym given) below) entered
          (λ terms so. class (entered_into (record (entered_on (record e { world = w }) n o s) { world = enter n w }) o.contract t by_receiver
          (is_shared (permission_of s.entry)) terms) own eo so)
          (λ terms so body. share_entry_marked program.table o.contract own t s (Some body)
          (plain (entered_into (record (entered_on (record e { world = w }) n o s) { world = enter n w }) o.contract t by_receiver
          (is_shared (permission_of s.entry)) terms) own s eo answers es refl so))

      found : (items : List ReadItem) → ReadSame (read_object e.world n).reads items → StepsAlike program So
          (if_there (object_at (read_object e.world n).objects n) (λ o.
          if_there (contract_at program.table o.contract) (λ own.
          if_there (answering contract tx asked o.contract own) (λ t.
          if_there (signature_at own t) (λ s. begins_on program (record e { world = read_object e.world n }) n o t s)))))
          (object_at (read_object e.world n).objects n >>= λ o. callee (code_of program) contract tx o
          >>= machine_calls.answers (code_of program) by n vs (reading items (read_object e.world n)))
      found items r =
          let w = read_object e.world n in
          alike_there program So (object_at w.objects n) _ _ (λ o there.
          alike_there program So (contract_at program.table o.contract) _ _ (λ own eo.
          alike_there program So (answering contract tx asked o.contract own) _ _ (λ t answers.
          alike_there program So (signature_at own t) _ _ (λ s es.
          alike_as program So _
          (ap (λ (z : Option Object). z >>= λ o. callee (code_of program) contract tx o >>= machine_calls.answers
          (code_of program) by n vs (reading items w)) there
          ∙ ap (λ (z : Option CalleeId). z >>= machine_calls.answers (code_of program) by n vs (reading items w))
          (callee_found program checked contract tx asked o own t easked eo answers))
          (alike_so program So _ _ _ (begun_on o own t s w (reading items w) eo answers es
          (same_enter n (same_reading w items r))))))))

  -- a call on `this`, once its unit is taken
  pub calls_this_alike : (e : Entered) (f : SilicaFrame) (m : machine.Configuration) (k : ℕ) (tx : TxId) (own : Contract)
      (s : Signature) (x : Value)
      (vs : List Value) (v : World) → contract_at program.table f.contract ≡ Some own → own.interface ≡ false
      → signature_at own tx ≡ Some s → length vs ≡ length s.params
      → SameFrame f m.top → x ≡ reference (self_of f.slots) → e.slots ≡ bound_slots nothing 0 (all_parameters f.contract s)
      (x ∷ vs)
      → AllWaitFor program (option_map kind_of_resolved s.result) e.stack k (parts.waiting m) → SameWorld e.world v
      → StepsAlike program So (calls_this program e f tx s) (machine_calls.calls_this (code_of program) k tx vs m v)
  calls_this_alike e f m k tx own s x vs v eo class es many frame value slots below same =
      alike_so program So (are_within program.table e.world.objects e.slots 0 (all_parameters f.contract s))
      (enters program e f.contract tx by_this f.share_entered) (machine_calls.calls_this (code_of program) k tx vs m v)
      (alike_as program So (enters program e f.contract tx by_this f.share_entered)
      (ap (λ (id : ContractId). body_code (code_of program) id tx >>= λ (b : BodyCode). Some
      (machine.goes (begun (caller m k) (id, tx) b m.top.this vs machine.on_this m.top.share_entered v)))
      frame.contract)
      (enters_alike e (caller m k) f.contract tx by_this f.share_entered own s m.top.this vs v (λ b. m.top.share_entered) eo es
      begins many (subst (λ g. AllWaitFor program g e.stack k (parts.waiting m)) (sym given) below) same
      (λ terms so. class) (λ terms so body. frame.share_entered)))
    where
      first : e.slots 0 ≡ Some (bound_cell (typed.Reference f.contract s.entry) x)
      first =
          ap (λ (cells : SlotCells). cells 0) slots
          ∙ bound_below (parameters s) vs (at nothing 0 (Some (bound_cell (typed.Reference f.contract s.entry) x))) 1 0
          (omega arith)
          ∙ at_same nothing 0 (Some (bound_cell (typed.Reference f.contract s.entry) x))

      begins : BeginsWith e.slots f.contract m.top.this (parameters s) vs
      begins =
          begins_with e.slots (at nothing 0 (Some (bound_cell (typed.Reference f.contract s.entry) x))) f.contract m.top.this
          (parameters s) vs
          (bound_cell (typed.Reference f.contract s.entry) x) first (value ∙ ap reference (sym frame.this)) refl
          (λ j. ap (λ (cells : SlotCells). cells (suc j)) slots)
          (λ j. at_other nothing 0 (Some (bound_cell (typed.Reference f.contract s.entry) x)) (suc j) (λ h. omega (arith, h)))

      given : kind_given program.table by_this f.contract tx ≡ option_map kind_of_resolved s.result
      given = ap (option_and_then (λ (x : Signature). option_map kind_of_resolved x.result))
          (ap (option_and_then (λ c. signature_at c tx)) eo ∙ es)

  -- The machine's `new`, once the next number was read.
  abbrev pub next_read : Caller → ContractId → Option TxId → List Value → World → Option Next
  next_read by id constructor vs v =
      if nat_le most_objects (length v.objects) then Some (machine.abort by_full v)
      else constructor >>= machine_calls.constructs (code_of program) by id vs v

  -- a `new`, once its unit is taken
  pub makes_object_alike : (e : Entered) (by : Caller) (id : ContractId) (own : Contract) (s : Signature)
      (constructor : Option TxId) (vs : List Value)
      (v : World) → contract_at program.table id ≡ Some own → own.interface ≡ false → signature_at own constructor_id ≡ Some s
      → constructor ≡ Some constructor_id
      → length vs ≡ length s.params → e.slots ≡ bound_slots nothing 1 (parameters s) vs
      → AllWaitFor program (Some (Reference id)) e.stack by.into by.frames → SameWorld e.world v
      → StepsAlike program So (makes_object program e id constructor_id s)
      (machine_calls.makes_object (code_of program) by id constructor vs v)
  makes_object_alike e by id own s constructor vs v eo class es made many slots below same =
      by_reads (λ z. StepsAlike program So (makes_object program e id constructor_id s) (next_read by id constructor vs z))
      (same_read next_item same)
      (λ items r.
      alike_if program So (nat_le most_objects (length e.world.objects)) (abort_step by_full (with_read e.world next_item))
      (if are_within program.table e.world.objects e.slots 1 (parameters s)
      then enters program (entered_new (record e { world = with_read e.world next_item }) id) id constructor_id by_new false
      else stuck)
      (Some (machine.abort by_full (reading items (with_read e.world next_item))))
      (constructor >>= machine_calls.constructs (code_of program) by id vs (reading items (with_read e.world next_item)))
      (alike_abort program So by_full (same_reading (with_read e.world next_item) items r))
      (alike_as program So _
      (ap (λ (z : Option TxId). z >>= machine_calls.constructs (code_of program) by id vs
      (reading items (with_read e.world next_item))) made)
      (alike_so program So _ _ _
      (enters_alike (entered_new (record e { world = with_read e.world next_item }) id) by id constructor_id by_new false own s
      (length e.world.objects) vs (make_object (reading items (with_read e.world next_item)) (unfinished id)) (λ b. false) eo es
      begins many below (same_make (unfinished id) (same_reading (with_read e.world next_item) items r))
      (λ terms so. class) (λ terms so body. refl)))))
    where
      begins : BeginsWith (at e.slots 0 (Some (new_cell id (length e.world.objects)))) id (length e.world.objects)
          (parameters s) vs
      begins =
          let this = new_cell id (length e.world.objects) in
          begins_with (at e.slots 0 (Some this)) nothing id (length e.world.objects) (parameters s) vs this
          (at_same e.slots 0 (Some this)) refl refl
          (λ k. at_other e.slots 0 (Some this) (suc k) (λ h. omega (arith, h)) ∙ ap (λ (cells : SlotCells). cells (suc k)) slots)
          (λ k. refl)
