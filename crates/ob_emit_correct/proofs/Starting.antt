-- A run from outside: its call or `new` takes its unit and enters its body on both sides alike.
use Rattle.std.proofs.Common.{◌≡◌, ◌≢◌, ℕ, suc, Bool, true, false, not, ◌&&◌, List, [], ◌∷◌, map, length, Option, Some, None, refl, sym, ap, ◌∙◌, subst, arith, ◌⊎◌, inl, inr}
use Rattle.std.specs.Prelude.{nat_eq, find, option_and_then, slice_get, if◌then◌else◌}
use Rattle.std.specs.Option.{option_map_or}
use Rattle.ob_base.specs.declared.id.ContractId.{ContractId}
use Rattle.ob_base.specs.declared.id.TxId.{TxId}
use Rattle.ob_table.specs.Tables.{ClassTable, contract_at, signature_at, signature_of}
use Rattle.ob_table.specs.declared.contract.Contract.{Contract}
use Rattle.ob_table.specs.declared.contract.Param.{Param}
use Rattle.ob_table.specs.declared.contract.ResolvedType.{ResolvedType}
use Rattle.ob_table.specs.declared.contract.ResolvedType.TheVariants as typed
use Rattle.ob_table.specs.declared.contract.Signature.{Signature}
use Rattle.ob_table_spec.specs.WellFormed.{constructor_at, is_constructor}
use Rattle.ob_heap_spec.specs.Values.{Value, reference, nothing}
use Rattle.ob_heap_spec.specs.Worlds.{World, SameWorld, with_unit_taken}
use Rattle.ob_heap_spec.specs.Marks.{comes_into}
use Rattle.ob_silica.specs.Terms.{SilicaBody}
use Rattle.ob_silica_places.specs.Known.{at}
use Rattle.ob_silica_places.specs.Parameters.{Parameter, parameter_of, parameters, all_parameters}
use Rattle.ob_silica_steps.specs.Binding.{bound_cell}
use Rattle.ob_silica_steps.specs.Calling.{constructor_id}
use Rattle.ob_silica_steps.specs.Configurations.{SilicaProgram, is_terms_of, SlotCells, by_receiver, by_new, Notes, Configuration, NextStep, goes, stuck}
use Rattle.ob_silica_steps.specs.Entering.{calls_object, makes_object}
use Rattle.ob_silica_steps.specs.Here.{with_unit}
use Rattle.ob_silica_steps.specs.Starting.{pass_all, alone, started_call, started_new}
use Rattle.ob_coherent_spec.specs.Coherent.{Beginning, IsCoherent, running, leaving, returning, Holds}
use Rattle.ob_coherent_spec.specs.Remaining.{IsCheckedProgram}
use Rattle.ob_machine_steps.specs.Entries.{MachineEntry, starting, args_come_in, comes_into_body, marked_world, nobody, next_step}
use Rattle.ob_machine_steps.specs.Entries as entries
use Rattle.ob_machine_steps.specs.Outcomes.{entry_of_constructor, entry_of_transaction}
use Rattle.ob_code_table.specs.ImageTables.{type_of_param}
use Rattle.ob_emit_spec.specs.EmittedImages.{param_code, param_type_code, emitted_body}
use Rattle.ob_lower_correct.proofs.Binding.{come_all, bound_slots}
use Rattle.ob_lower_correct.proofs.CallsThis.{parameters_length}
use Rattle.ob_lower_correct.proofs.Changes.{same_or}
use Rattle.ob_lower_correct.proofs.Outside.{passes}
use Rattle.ob_lower_correct.proofs.Standing.{none_some, some_same}
use Rattle.ob_places_laws.proofs.Tables as tables
use Rattle.ob_emit_correct.specs.Law.{code_of}
use Rattle.ob_emit_correct.proofs.Agreeing.{signed_found}
use Rattle.ob_emit_correct.proofs.Placed.{runs_class}
use Rattle.ob_emit_correct.proofs.Entering.{StepsAlike, does_in_one, alike_there, alike_unit, calls_object_alike, makes_object_alike}
use Rattle.ob_emit_correct.proofs.Matching.{DoesTo}
use Rattle.ob_emit_correct.proofs.Worlds.{same_self, same_unit}

-- What comes in.

-- a parameter of the image has its type
param_as : (of : ResolvedType) (p : Param) → p.of ≡ of → type_of_param (param_code p) ≡ of
param_as typed.Int p e = ap (λ z. type_of_param (param_type_code z p.exit)) e
param_as typed.Bool p e = ap (λ z. type_of_param (param_type_code z p.exit)) e
param_as typed.Text p e = ap (λ z. type_of_param (param_type_code z p.exit)) e
param_as (typed.Reference id q) p e = ap (λ z. type_of_param (param_type_code z p.exit)) e

args_as : (params : List Param) (args : List Value) (w : World)
    → args_come_in (map param_code params) args w ≡ come_all (map parameter_of params) args w
args_as [] args w = refl
args_as (p ∷ params) [] w = refl
args_as (p ∷ params) (v ∷ args) w =
    ap (λ of. args_come_in (map param_code params) args (comes_into of v w)) (param_as p.of p refl)
    ∙ args_as params args (comes_into p.of v w)

-- what comes into a body of the image
receiver_as : (table : ClassTable) (id : ContractId) (own : Contract) (tx : TxId) (s : Signature) (body : Option SilicaBody)
    (n : ℕ) (args : List Value) (w : World)
    → comes_into_body id (Some (emitted_body table id own tx s body)) (Some n) args w ≡ come_all (all_parameters id s)
    (reference n ∷ args) w
receiver_as table id own tx s None n args w = args_as s.params args (comes_into (typed.Reference id s.entry) (reference n) w)
receiver_as table id own tx s (Some body) n args w =
    args_as s.params args (comes_into (typed.Reference id s.entry) (reference n) w)

arguments_as : (table : ClassTable) (id : ContractId) (own : Contract) (tx : TxId) (s : Signature) (body : Option SilicaBody)
    (args : List Value) (w : World)
    → comes_into_body id (Some (emitted_body table id own tx s body)) None args w ≡ come_all (parameters s) args w
arguments_as table id own tx s None args w = args_as s.params args w
arguments_as table id own tx s (Some body) args w = args_as s.params args w

-- values that are too many or too few don't come in
pass_stuck : (vs : List Value) (k : ℕ) (ps : List Parameter) (slots : SlotCells) (w : World) (go : SlotCells → World → NextStep)
    → length vs ≢ length ps
    → pass_all vs k ps slots w go ≡ stuck
pass_stuck [] k [] slots w go h = absurd (h refl)
pass_stuck [] k (p ∷ ps) slots w go h = refl
pass_stuck (v ∷ vs) k [] slots w go h = refl
pass_stuck (v ∷ vs) k (p ∷ ps) slots w go h =
    pass_stuck vs (suc k) ps (at slots k (Some (bound_cell p.of v))) (comes_into p.of v w) go (λ e. h (ap suc e))

-- A contract and its signature.

-- where a signature is found
record IsSigned (table : ClassTable) (id : ContractId) (tx : TxId) (s : Signature) : Type 0 where
  own : Contract
  is_own : contract_at table id ≡ Some own
  is_signature : signature_at own tx ≡ Some s

signed : (table : ClassTable) (id : ContractId) (tx : TxId) (s : Signature) → signature_of table id tx ≡ Some s
    → IsSigned table id tx s
signed table id tx s e = go (contract_at table id) refl e
  where
    go : (o : Option Contract) → contract_at table id ≡ o → option_and_then (λ c. signature_at c tx) o ≡ Some s
        → IsSigned table id tx s
    go None eo es = absurd (none_some es)
    go (Some own) eo es = record { own = own; is_own = eo; is_signature = es }

constructor_signed : (table : ClassTable) (id : ContractId) (s : Signature) → constructor_at table id ≡ Some s
    → IsSigned table id constructor_id s
constructor_signed table id s e = go (contract_at table id) refl e
  where
    at_first : (b : Bool) (o : Option Signature) → (if b then None else o) ≡ Some s → o ≡ Some s
    at_first true o e = absurd (none_some e)
    at_first false o e = e

    go : (o : Option Contract) → contract_at table id ≡ o
        → option_and_then (λ (c : Contract). if c.interface then None else slice_get c.transactions 0) o ≡ Some s
        → IsSigned table id constructor_id s
    go None eo es = absurd (none_some es)
    go (Some own) eo es =
        record { own = own; is_own = eo; is_signature = at_first own.interface (slice_get own.transactions 0) es }

-- a body that a call with a receiver entered is no constructor's
plain_body : (table : ClassTable) (entry : Option ℕ) (beginning : Beginning) (d : Configuration) (own : Contract)
    → contract_at table d.frame.contract ≡ Some own
    → d.frame.how ≡ by_receiver → Holds table entry beginning d → is_constructor table d.frame.contract d.frame.tx.0 ≡ false
plain_body table entry beginning d own eo eh whole =
    ap (λ o. option_map_or (λ (c : Contract). not c.interface && nat_eq d.frame.tx.0 0) o false) eo
    ∙ go own.interface (nat_eq d.frame.tx.0 0) refl
  where
    go : (i b : Bool) → nat_eq d.frame.tx.0 0 ≡ b → (not i && nat_eq d.frame.tx.0 0) ≡ false
    go true b e = refl
    go false true e = let no : by_receiver ≡ by_new = sym eh ∙ whole.frame.constructor e in absurd cc
    go false false e = e

plain_coherent : (table : ClassTable) (entry : Option ℕ) (beginning : Beginning) (d : Configuration) (own : Contract)
    → contract_at table d.frame.contract ≡ Some own
    → d.frame.how ≡ by_receiver → IsCoherent table entry beginning d → is_constructor table d.frame.contract d.frame.tx.0 ≡ false
plain_coherent table entry beginning d own eo eh (running r) = plain_body table entry beginning d own eo eh r.whole
plain_coherent table entry beginning d own eo eh (leaving l) = plain_body table entry beginning d own eo eh l.whole
plain_coherent table entry beginning d own eo eh (returning r) = plain_body table entry beginning d own eo eh r.whole

-- Starts.

module _ (program : SilicaProgram) (checked : IsCheckedProgram program) (entry : Option ℕ) (beginning : Beginning) where
  abbrev So : Configuration → Type 0
  So d = IsCoherent program.table entry beginning d

  -- a call of an object from outside
  module _ (contract : ContractId) (tx : TxId) (n : ℕ) (args : List Value) (notes : Notes) (w : World) where
    abbrev call_entry : MachineEntry
    call_entry = entry_of_transaction contract tx n args

    call_world : (s : Signature) → signature_of program.table contract tx ≡ Some s
        → marked_world (code_of program) call_entry w ≡ come_all (all_parameters contract s) (reference n ∷ args) w
    call_world s es =
        let b = signed program.table contract tx s es in
        let body = find (is_terms_of contract tx) program.bodies in
        ap (λ o. comes_into_body contract o (Some n) args w) (signed_found program contract b.own tx s b.is_own b.is_signature)
        ∙ receiver_as program.table contract b.own tx s body n args w

    call_alike : (s : Signature) → signature_of program.table contract tx ≡ Some s
        → StepsAlike program So (pass_all (reference n ∷ args) 0 (all_parameters contract s) nothing w (λ slots v.
        with_unit v (λ x. calls_object program (alone slots notes x) contract tx s n)))
        (next_step (code_of program) (starting call_entry (marked_world (code_of program) call_entry w)))
    call_alike s es = go (same_or (length (reference n ∷ args)) (length (all_parameters contract s)))
      where
        slots : SlotCells
        slots = bound_slots nothing 0 (all_parameters contract s) (reference n ∷ args)

        come : World
        come = come_all (all_parameters contract s) (reference n ∷ args) w

        marked : World
        marked = marked_world (code_of program) call_entry w

        same : SameWorld come marked
        same = subst (SameWorld come) (sym (call_world s es)) (same_self come)

        next : SlotCells → World → NextStep
        next slots v = with_unit v (λ x. calls_object program (alone slots notes x) contract tx s n)

        go : (length (reference n ∷ args) ≡ length (all_parameters contract s)) ⊎
            (length (reference n ∷ args) ≢ length (all_parameters contract s))
            → StepsAlike program So (pass_all (reference n ∷ args) 0 (all_parameters contract s) nothing w next)
            (next_step (code_of program) (starting call_entry marked))
        go (inl many) =
            let counted : length args ≡ length s.params = omega (arith, parameters_length s.params) in
            subst (λ z. StepsAlike program So z (next_step (code_of program) (starting call_entry marked)))
            (sym (passes (reference n ∷ args) 0 (all_parameters contract s) nothing w next many))
            (alike_unit program So same (λ x. calls_object program (alone slots notes x) contract tx s n)
            (entries.enters (code_of program) call_entry (Some n))
            (λ k. calls_object_alike program checked So (alone slots notes (with_unit_taken come k)) nobody contract tx s n args
            (with_unit_taken marked k) es counted refl tt (same_unit k same)
            (λ d own t eo answers et eh so. plain_coherent program.table entry beginning d own eo eh so)
            (λ d own eo so. runs_class program.table entry beginning d own eo so)))
        go (inr other) =
            subst (λ z. StepsAlike program So z (next_step (code_of program) (starting call_entry marked)))
            (sym (pass_stuck (reference n ∷ args) 0 (all_parameters contract s) nothing w next other)) (record { by = tt })

    pub call_starts : ((d : Configuration) → started_call program contract tx n args notes w ≡ goes d
        → IsCoherent program.table entry beginning d)
        → DoesTo program (starting call_entry (marked_world (code_of program) call_entry w))
        (started_call program contract tx n args notes w)
    call_starts so =
        does_in_one program So (starting call_entry (marked_world (code_of program) call_entry w))
        (started_call program contract tx n args notes w) so
        (alike_there program So (signature_of program.table contract tx) _ _ (λ s es. call_alike s es))

  -- a `new` from outside
  module _ (contract : ContractId) (args : List Value) (notes : Notes) (w : World) where
    abbrev new_entry : MachineEntry
    new_entry = entry_of_constructor contract args constructor_id

    new_alike : (s : Signature) → constructor_at program.table contract ≡ Some s
        → StepsAlike program So (pass_all args 1 (parameters s) nothing w (λ slots v.
        with_unit v (λ x. makes_object program (alone slots notes x) contract constructor_id s)))
        (next_step (code_of program) (starting new_entry (marked_world (code_of program) new_entry w)))
    new_alike s es = go (same_or (length args) (length (parameters s)))
      where
        found : IsSigned program.table contract constructor_id s
        found = constructor_signed program.table contract s es

        class : found.own.interface ≡ false
        class = let c = tables.constructor_found program.table checked.table contract s es in
            subst (λ (o : Contract). o.interface ≡ false) (some_same c.0 found.own (sym c.1 ∙ found.is_own)) c.2

        slots : SlotCells
        slots = bound_slots nothing 1 (parameters s) args

        come : World
        come = come_all (parameters s) args w

        marked : World
        marked = marked_world (code_of program) new_entry w

        marked_is : marked ≡ come
        marked_is =
            ap (λ o. comes_into_body contract o None args w)
            (signed_found program contract found.own constructor_id s found.is_own found.is_signature)
            ∙ arguments_as program.table contract found.own constructor_id s
            (find (is_terms_of contract constructor_id) program.bodies) args w

        same : SameWorld come marked
        same = subst (SameWorld come) (sym marked_is) (same_self come)

        next : SlotCells → World → NextStep
        next slots v = with_unit v (λ x. makes_object program (alone slots notes x) contract constructor_id s)

        go : (length args ≡ length (parameters s)) ⊎ (length args ≢ length (parameters s))
            → StepsAlike program So (pass_all args 1 (parameters s) nothing w next)
            (next_step (code_of program) (starting new_entry marked))
        go (inl many) =
            let counted : length args ≡ length s.params = omega (arith, parameters_length s.params) in
            subst (λ z. StepsAlike program So z (next_step (code_of program) (starting new_entry marked)))
            (sym (passes args 1 (parameters s) nothing w next many))
            (alike_unit program So same (λ x. makes_object program (alone slots notes x) contract constructor_id s)
            (entries.enters (code_of program) new_entry None)
            (λ k. makes_object_alike program checked So (alone slots notes (with_unit_taken come k)) nobody contract found.own s
            (Some constructor_id) args (with_unit_taken marked k)
            found.is_own class found.is_signature refl counted refl tt (same_unit k same)))
        go (inr other) =
            subst (λ z. StepsAlike program So z (next_step (code_of program) (starting new_entry marked)))
            (sym (pass_stuck args 1 (parameters s) nothing w next other)) (record { by = tt })

    pub new_starts : ((d : Configuration) → started_new program contract args notes w ≡ goes d
        → IsCoherent program.table entry beginning d)
        → DoesTo program (starting new_entry (marked_world (code_of program) new_entry w))
        (started_new program contract args notes w)
    new_starts so =
        does_in_one program So (starting new_entry (marked_world (code_of program) new_entry w))
        (started_new program contract args notes w) so
        (alike_there program So (constructor_at program.table contract) _ _ (λ s es. new_alike s es))
