-- The constructor of a new object runs.
use Rattle.std.proofs.Common.{◌≡◌, ℕ, suc, ◌<◌, ◌≤◌, true, false, List, [], ◌∷◌, ◌++◌, length, Option, Some, None, refl, sym, ap, subst, ◌∙◌, arith, ⊎_elim, eq-eqb}
use Rattle.std.specs.Prelude.{option_map, if◌then◌else◌}
use Rattle.std.proofs.lemmas.Bool.Decides.{eqb_tells}
use Rattle.std.proofs.lemmas.List.{length-map}
use Rattle.ob_base.specs.declared.id.ContractId.{ContractId}
use Rattle.ob_perm.specs.States.{States, only, stateless}
use Rattle.ob_perm.specs.Permissions.{owned}
use Rattle.ob_table.specs.Tables.{ClassTable, contract_at, signature_at}
use Rattle.ob_table.specs.declared.contract.Contract.{Contract}
use Rattle.ob_table.specs.declared.contract.Signature.{Signature}
use Rattle.ob_table.specs.declared.seen.Kind.TheVariants.{Reference}
use Rattle.ob_table_spec.specs.Conditions.{IsConstructor}
use Rattle.ob_heap_spec.specs.Objects.{Object, unfinished, state_number, seen_state, seen_between}
use Rattle.ob_heap_spec.specs.Worlds.{World, make_object}
use Rattle.ob_silica.specs.Terms.{SilicaTerms}
use Rattle.ob_silica_places.specs.Known.{Known}
use Rattle.ob_silica_places.specs.Parameters.{Parameter, parameters, parameter_of}
use Rattle.ob_silica_steps.specs.Calling.{constructor_id}
use Rattle.ob_silica_steps.specs.Configurations.{SilicaProgram, SlotCells, SilicaFrame, by_new, Loan, Rest, Configuration}
use Rattle.ob_silica_steps.specs.Here.{here, self_of}
use Rattle.ob_silica_steps.specs.Binding.{Bound, bound_cell}
use Rattle.ob_silica_steps.specs.Entering.{new_cell}
use Rattle.ob_silica_formed.specs.Holdings.{held_at_start}
use Rattle.ob_flow_spec.specs.Contexts.{BodyFrame, Context, available, field_known, beginning}
use Rattle.ob_places_laws.proofs.Beginnings.{this_of_constructor, beginning_unset}
use Rattle.ob_places_laws.proofs.Conversions.{serves_itself}
use Rattle.ob_coherent_spec.specs.Counting.{nth_object, field_cell, references}
use Rattle.ob_coherent_spec.specs.Runs.{constructions}
use Rattle.ob_coherent_spec.specs.Standing.{AllStand, Stands, IsOfKind, RefersToIn, NeedsOwner}
use Rattle.ob_coherent_spec.specs.Saying.{SaysOf, own_object, own_cell}
use Rattle.ob_coherent_spec.specs.Remaining.{IsCheckedProgram, BodyParts, body_of}
use Rattle.ob_coherent_spec.specs.Waiting.{IsFrame, tests_of, Lends, Waits}
use Rattle.ob_coherent_spec.specs.Coherent.{Beginning, Holds, IsRunning}
use Rattle.ob_soundness_laws.proofs.counting.Numbers.{one_same, one_other}
use Rattle.ob_soundness_laws.proofs.counting.Sums.{at_same, at_other}
use Rattle.ob_soundness_laws.proofs.places.Standing.{made_stands}
use Rattle.ob_soundness_laws.specs.calls.Bound.{AreBound}
use Rattle.ob_soundness_laws.specs.calls.Binds.{Binds}
use Rattle.ob_soundness_laws.specs.calls.Entered.{BeginsOn}
use Rattle.ob_soundness_laws.proofs.calls.Entered.{begins_stand, begins_held, begins_frame, begins_says}
use Rattle.ob_soundness_laws.proofs.calls.Beginning.{Begins, begins_to_run}
use Rattle.ob_soundness_laws.proofs.calls.Running.{running_references}
use Rattle.ob_soundness_laws.proofs.calls.Receiving.{bound_slots}
use Rattle.ob_soundness_laws.proofs.calls.Called.{left_waiting, called_on}
use Rattle.ob_soundness_laws.proofs.news.Made.{made_frame, new_object, new_count, none_refer, made_constructions, made_references, made_whole}

-- slots stay bound where an object is made
bound_made : (table : ClassTable) (objects : List Object) (o : Object) (slots : SlotCells) (k : ℕ) (ps : List Parameter)
    → AreBound table objects slots k ps → AreBound table (objects ++ o ∷ []) slots k ps
bound_made table objects o slots k [] b = tt
bound_made table objects o slots k (p ∷ ps) b = (
  record { value = b.0.value; set = b.0.set; stands = made_stands table objects o (bound_cell p.of b.0.value) b.0.stands },
  bound_made table objects o slots (suc k) ps b.1,
)

seen_itself : (table : ClassTable) (contract : ContractId) → seen_state table contract (unfinished contract) ≡ stateless
seen_itself table contract = ap (λ e. if e then stateless else seen_between (contract_at table contract) (contract_at table contract)
    stateless) (eq-eqb contract.0 contract.0 refl)

no_state : (a : States) → owned (only stateless) ≡ owned a → a stateless ≡ true
no_state a e = (let same : only stateless ≡ a = cc in ap (λ (f : States). f stateless) (sym same))
    ∙ eq-eqb stateless stateless refl

module _ (program : SilicaProgram) (is : IsCheckedProgram program) (entry : Option ℕ) (beginning_of : Beginning) (c : Configuration)
    (k : IsRunning program.table entry beginning_of c) (b : Bound) (g : Context) (nb : ℕ)
    (binds : Binds program.table c k.whole.parts b g nb) (unset : b.slots 0 ≡ None)
    (contract : ContractId) (own : Contract) (ec : contract_at program.table contract ≡ Some own) (class : own.interface ≡ false)
    (s : Signature) (es : signature_at own constructor_id ≡ Some s) (makes : IsConstructor program.table own s)
    (past : nb ≤ suc (length (parameters s)))
    (bound : AreBound program.table b.from.world.objects b.slots 1 (parameters s))
    (rest : SilicaTerms) (outer : List Rest) (result : Option ℕ) (loans : List Loan) (same_outer : outer ≡ k.outer)
    (wr : World) (objects : wr.objects ≡ b.from.world.objects) (locked : wr.locked ≡ b.from.world.locked)
    (progress : wr.progress ≡ b.from.world.progress) where
  abbrev pub begins : Begins program contract constructor_id own s
  begins = begins_to_run program is contract constructor_id own s ec class es

  abbrev pub called : BodyParts
  called = record { own = own; signature = s; slots = begins.slots }

  abbrev pub callee : SilicaFrame
  callee = made_frame b.slots contract (length wr.objects)

  abbrev pub w : World
  w = make_object wr (unfinished contract)

  abbrev pub d : Configuration
  d = called_on c b callee begins.terms rest outer result loans w

  object_is : nth_object w.objects (length wr.objects) ≡ unfinished contract
  object_is = new_object program.table is.table entry beginning_of c k b g nb binds unset contract own ec class begins.terms rest
      outer result loans same_outer wr objects locked progress

  slots_after : (j : ℕ) → 1 ≤ j → callee.slots j ≡ b.slots j
  slots_after j low = at_other b.slots 0 (Some (new_cell contract (length wr.objects))) j (λ e. omega (arith, e, low))

  bound_after : AreBound program.table w.objects callee.slots 1 (parameters s)
  bound_after = bound_slots program.table w.objects b.slots callee.slots 1 (parameters s) slots_after
      (bound_made program.table wr.objects (unfinished contract) b.slots 1 (parameters s)
      (subst (λ os. AreBound program.table os b.slots 1 (parameters s)) (sym objects) bound))

  this_stands : Stands program.table w.objects (new_cell contract (length wr.objects))
  this_stands = record {
    kind = (
      (let more = new_count program.table is.table entry beginning_of c k b g nb binds unset contract own ec class begins.terms rest
          outer result loans same_outer wr objects locked progress in omega (arith, more)),
      subst (λ (o : Object). Rattle.ob_table_spec.specs.WellFormed.serves_as program.table (Reference contract) (Reference o.contract) ≡ true)
          (sym object_is) (serves_itself program.table (Reference contract)),
    );
    marked = λ e. absurd (cc);
    states = λ a e. subst (λ o. Rattle.ob_coherent_spec.specs.Standing.is_in program.table (Reference contract) a o ≡ true)
        (sym object_is) (ap a (seen_itself program.table contract) ∙ no_state a e);
  }

  pub begun : BeginsOn program.table w.objects callee s (owned (only stateless)) (length wr.objects)
  begun = record {
    this = at_same b.slots 0 (Some (new_cell contract (length wr.objects)));
    stands = this_stands;
    bound = bound_after;
    unset = λ j low. slots_after j (omega (arith, low))
        ∙ binds.above j (let few = length-map s.params parameter_of in omega (arith, past, few, low));
  }

  pub callee_frame : IsFrame program.table w.objects callee called
  callee_frame = begins_frame program.table w.objects callee s (owned (only stateless)) (length wr.objects) begun own begins.slots
      ec class es begins.few begins.params (ap (λ (o : Object). o.contract) object_is) (λ e. refl) (λ e. refl) (λ e. makes.listed)

  pub callee_stand : AllStand program.table w.objects callee.slots
  callee_stand = begins_stand program.table w.objects callee s (owned (only stateless)) (length wr.objects) begun

  abbrev bf : BodyFrame
  bf = body_of program.table callee called

  fields_say : (j : ℕ) → available bf j (state_number (own_object (here d)).state) ≡ true
      → SaysOf (NeedsOwner program.table w.objects) (field_known bf j) (own_cell (here d) j)
  fields_say j can =
      let top : available bf j stateless ≡ true =
      subst (λ (o : Object). available bf j (state_number o.state) ≡ true) object_is can in
      let none : field_cell b.from.notes w.objects (length wr.objects) j ≡ None =
      ap (λ (o : Object). option_map (λ v. record { value = v; note = b.from.notes.fields (length wr.objects) j })
      (o.fields j)) object_is in
      subst (λ y. SaysOf (NeedsOwner program.table w.objects) y (own_cell (here d) j)) (sym (beginning_unset bf j refl top))
      (subst (SaysOf (NeedsOwner program.table w.objects) None) (sym none)
      (record { known = tt; owner = λ m must some. absurd (omega arith) }))

  module _ (waiting : Waits program.table (NeedsOwner program.table w.objects) d callee called (self_of callee.slots ∷ [])
      (λ m. tests_of m callee.slots []) (left_waiting c b rest outer result loans))
      (same_parts : waiting.parts ≡ k.whole.parts)
      (lend : Lends program.table contract constructor_id by_new (left_waiting c b rest outer result loans)) where
    abbrev whole : Holds program.table entry beginning_of d
    whole = made_whole program.table is.table entry beginning_of c k b g nb binds unset contract own ec class begins.terms rest
        outer result loans same_outer wr objects locked progress called callee_frame callee_stand waiting same_parts

    -- an object under construction is referred to once: a new one by its constructor, and the others as before
    referred_once : (m : ℕ) → 0 < constructions m d → references m d ≤ 1
    referred_once m some =
        let refs = made_references program.table is.table entry beginning_of c k b g nb binds unset contract own ec class begins.terms
        rest outer result loans same_outer wr objects locked progress m in
        let new = made_constructions program.table is.table entry beginning_of c k b g nb binds unset contract own ec class begins.terms
        rest outer result loans same_outer wr objects locked progress m in
        ⊎_elim
        (λ same. subst (λ i. references i d ≤ 1) (sym same.1)
        (let first = made_references program.table is.table entry beginning_of c k b g nb binds unset contract own ec class
        begins.terms rest outer result loans same_outer wr objects locked progress (length wr.objects) in
        let none = none_refer program.table is.table entry beginning_of c k b g nb binds unset contract own ec class begins.terms
        rest outer result loans same_outer wr objects locked progress in
        let one = one_same (length wr.objects) in omega (arith, first, none, one)))
        (λ other.
        let zero = one_other (length wr.objects) m (λ e. other.1 (sym e)) in
        let old : 0 < constructions m c = omega (arith, some, new, zero) in
        let kept = binds.refers m old in
        let was = running_references program.table is.table entry beginning_of c k m in
        let few = k.unreferred m old in
        omega (arith, refs, kept, was, few, zero))
        (eqb_tells m (length wr.objects))

    pub constructor_runs : IsRunning program.table entry beginning_of d
    constructor_runs = record {
      whole = whole;
      terms = begins.terms;
      outer = [];
      control = refl;
      context = beginning (record {
        table = program.table;
        here = contract;
        own = own;
        tx = constructor_id;
        signature = s;
        slots = begins.slots;
      });
      says = begins_says program.table w.objects callee s (owned (only stateless)) (length wr.objects) begun
          (NeedsOwner program.table w.objects) (here d) bf refl refl refl
          (ap (λ (y : Known). y.permission) (this_of_constructor bf refl)) fields_say;
      holdings = held_at_start contract s.params;
      held = begins_held program.table w.objects callee s (owned (only stateless)) (length wr.objects) begun;
      remains = begins.remains;
      opens = tt;
      placed = λ ne. absurd (ne refl);
      shares = λ e. absurd (cc);
      owns_made = λ e. refl;
      unreferred = referred_once;
      lends = (lend, k.lends);
    }
