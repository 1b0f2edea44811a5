-- The constructor of a `new` from outside begins.
use Rattle.std.proofs.Common.{◌≡◌, ◌≢◌, ℕ, suc, ◌+◌, ◌<◌, ◌≤◌, true, false, List, [], ◌∷◌, ◌++◌, map, length, Option, Some, None, refl, sym, ap, subst, ◌∙◌, arith, ⊎_elim, ◌⊎◌, inl, inr, eq-eqb}
use Rattle.std.specs.Prelude.{nat_eq, slice_get, option_map}
use Rattle.std.specs.List.{list_any}
use Rattle.std.proofs.lemmas.Bool.{both_ways, cases_lt}
use Rattle.std.proofs.lemmas.Bool.Decides.{eqb_tells}
use Rattle.std.proofs.lemmas.List.{length-map}
use Rattle.std.proofs.lemmas.Option.{same_Some}
use Rattle.ob_base.specs.declared.id.ContractId.{ContractId}
use Rattle.ob_perm.specs.States.{States, only, stateless}
use Rattle.ob_perm.specs.Permissions.{owned, owns}
use Rattle.ob_table.specs.Tables.{ClassTable, contract_at, signature_at}
use Rattle.ob_table.specs.declared.contract.Contract.{Contract}
use Rattle.ob_table.specs.declared.contract.ResolvedType.{ResolvedType}
use Rattle.ob_table.specs.declared.contract.Signature.{Signature}
use Rattle.ob_table.specs.declared.seen.Kind.TheVariants.{Reference}
use Rattle.ob_table_spec.specs.Conditions.{IsConstructor}
use Rattle.ob_table_spec.specs.WellFormed.{serves_as}
use Rattle.ob_heap_spec.specs.Values.{Value, reference, nothing}
use Rattle.ob_heap_spec.specs.Objects.{Object, state_number, is_available, seen_between, seen_state, unfinished}
use Rattle.ob_heap_spec.specs.Contents.{Content}
use Rattle.ob_heap_spec.specs.Worlds.{World, make_object}
use Rattle.ob_silica_places.specs.Known.{Known, at}
use Rattle.ob_silica_places.specs.Parameters.{Parameter, parameters, parameter_of}
use Rattle.ob_silica_steps.specs.Calling.{constructor_id}
use Rattle.ob_silica_steps.specs.Cells.{value_in}
use Rattle.ob_silica_steps.specs.Configurations.{SilicaProgram, SlotCells, SilicaFrame, by_new, runs, Configuration}
use Rattle.ob_silica_steps.specs.Here.{here, self_of, field_of}
use Rattle.ob_silica_steps.specs.Binding.{bound_cell}
use Rattle.ob_silica_steps.specs.Entering.{are_within, new_cell}
use Rattle.ob_silica_steps.specs.Starting.{declared_note, first_notes}
use Rattle.ob_silica_formed.specs.Holdings.{held_at_start}
use Rattle.ob_flow_spec.specs.Contexts.{BodyFrame, available, field_known, beginning}
use Rattle.ob_places_laws.proofs.Beginnings.{this_of_constructor, beginning_unset}
use Rattle.ob_places_laws.proofs.Conversions.{serves_itself}
use Rattle.ob_coherent_spec.specs.Counting.{Counted, any, nth_object, one_if, field_cell, in_cell, in_slots, in_objects, owners, references}
use Rattle.ob_coherent_spec.specs.Runs.{times, constructions}
use Rattle.ob_coherent_spec.specs.Standing.{Stands, AllStand, HasItsState, HandlesStand, IsObjectInRun, NeedsOwner, is_in}
use Rattle.ob_coherent_spec.specs.Saying.{SaysOf, own_object, own_cell}
use Rattle.ob_coherent_spec.specs.Remaining.{IsCheckedProgram, BodyParts, body_of}
use Rattle.ob_coherent_spec.specs.Waiting.{IsFrame}
use Rattle.ob_coherent_spec.specs.Coherent.{Beginning, BeganSo, IsAsDeclared, Holds, IsRunning}
use Rattle.ob_soundness_laws.proofs.counting.Cells.{cell_other, cell_plain}
use Rattle.ob_soundness_laws.proofs.counting.Entering.{this_more, some_slots}
use Rattle.ob_soundness_laws.proofs.counting.NextNumber.{objects_past, handles_past}
use Rattle.ob_soundness_laws.proofs.counting.Numbers.{one_same, one_other, one_of}
use Rattle.ob_soundness_laws.proofs.counting.Objects.{no_object, make_length, make_same, make_other, field_cell_same, field_cell_of}
use Rattle.ob_soundness_laws.proofs.counting.Passing.{passed_slots, passed_before, passed_at, passed_after, passed_counts, in_passed}
use Rattle.ob_soundness_laws.proofs.counting.Places.{no_slots, objects_make, all_refer}
use Rattle.ob_soundness_laws.proofs.counting.Sums.{at_same, at_other}
use Rattle.ob_soundness_laws.proofs.places.Standing.{made_stands}
use Rattle.ob_soundness_laws.specs.calls.Bound.{AreBound}
use Rattle.ob_soundness_laws.specs.calls.Entered.{BeginsOn}
use Rattle.ob_soundness_laws.proofs.calls.Within.{are_all_within}
use Rattle.ob_soundness_laws.proofs.calls.Entered.{begins_self, begins_stand, begins_held, begins_frame, begins_says}
use Rattle.ob_soundness_laws.proofs.calls.Beginning.{Begins, begins_to_run}
use Rattle.ob_soundness_laws.proofs.calls.Receiving.{bound_slots}
use Rattle.ob_rest_spec.specs.Incoming.{owners as stored_owners}
use Rattle.ob_rest_spec.specs.AtRest.{IsStoreAtRest}
use Rattle.ob_invocation_spec.specs.Entries.{HandleUse}
use Rattle.ob_invocation_spec.specs.Refusals.{is_repeated}
use Rattle.ob_soundness_laws.specs.beginning.Uses.{owning_uses, sharing_uses, AreUses}
use Rattle.ob_invocation_laws.specs.Laws.{puts_of_uses}
use Rattle.ob_soundness_laws.specs.Requests.{note_in_run}
use Rattle.ob_soundness_laws.specs.beginning.Marked.{AreMarked}
use Rattle.ob_soundness_laws.specs.beginning.Passed.{IsPassed, ArePassed, uses_in}
use Rattle.ob_soundness_laws.proofs.beginning.Totals.{lent}
use Rattle.ob_soundness_laws.proofs.beginning.Stored.{marked_stand, marked_counts, marked_in_run, marked_declared}
use Rattle.ob_soundness_laws.proofs.beginning.Passed.{passed_many, passed_owns, passed_bound}
use Rattle.ob_soundness_laws.proofs.beginning.Whole.{handles_stand, total_is, whole_one, whole_disowned, whole_shared, whole_assets}
use Rattle.ob_soundness_laws.proofs.beginning.Call.{item_beside}

-- what is passed refers to no object that isn't there
one_low : (table : ClassTable) (objects : List Object) (m : ℕ) → length objects ≤ m → (of : ResolvedType) (v : Value)
    (x : Option HandleUse) → IsPassed table objects of v x → in_cell any m (Some (bound_cell of v)) ≡ 0
one_low table objects m past of v None is = cell_plain any m (bound_cell of v) is.2
one_low table objects m past of v (Some u) is = cell_other any m (bound_cell of v)
    (λ e. let z : reference u.handle.object ≡ reference m = sym is.1 ∙ e in let y : u.handle.object ≡ m = cc in
    let low = is.2 in omega (arith, past, y, low))

passed_low : (table : ClassTable) (objects : List Object) (m : ℕ) → length objects ≤ m → (vs : List Value)
    (ps : List Parameter) (xs : List (Option HandleUse)) → ArePassed table objects vs ps xs → in_passed any m vs ps ≡ 0
passed_low table objects m past [] [] [] all = refl
passed_low table objects m past [] [] (x ∷ xs) all = absurd all
passed_low table objects m past [] (p ∷ ps) xs all = absurd all
passed_low table objects m past (v ∷ vs) [] xs all = absurd all
passed_low table objects m past (v ∷ vs) (p ∷ ps) [] all = absurd all
passed_low table objects m past (v ∷ vs) (p ∷ ps) (x ∷ xs) all =
    let one = one_low table objects m past p.of v x all.0 in let rest = passed_low table objects m past vs ps xs all.1
    in
    omega (arith, one, rest)

-- bound slots where an object is made
bound_made : (table : ClassTable) (os : List Object) (o : Object) (slots : SlotCells) (k : ℕ) (ps : List Parameter)
    → AreBound table os slots k ps → AreBound table (os ++ o ∷ []) slots k ps
bound_made table os o slots k [] b = tt
bound_made table os o slots k (p ∷ ps) b = (
  record { value = b.0.value; set = b.0.set; stands = made_stands table os o (bound_cell p.of b.0.value) b.0.stands },
  bound_made table os o slots (suc k) ps b.1,
)

seen_itself : (table : ClassTable) (contract : ContractId) → seen_state table contract (unfinished contract) ≡ stateless
seen_itself table contract = ap
    (λ e. Rattle.std.specs.Prelude.if◌then◌else◌ e stateless (seen_between (contract_at table contract)
    (contract_at table contract) stateless)) (eq-eqb contract.0 contract.0 refl)

no_state : (a : States) → owned (only stateless) ≡ owned a → a stateless ≡ true
no_state a e = (let same : only stateless ≡ a = cc in ap (λ (f : States). f stateless) (sym same))
    ∙ eq-eqb stateless stateless refl

module _ (program : SilicaProgram) (is : IsCheckedProgram program) (content : Content)
    (rest : IsStoreAtRest program.table content) (contract : ContractId) (own : Contract) (s : Signature)
    (args : List Value) (xs : List (Option HandleUse))
    (passed : ArePassed program.table content.objects args (parameters s) xs)
    (uses : AreUses program.table content None (uses_in xs))
    (once : list_any (is_repeated (uses_in xs)) (uses_in xs) ≡ false)
    (ec : contract_at program.table contract ≡ Some own) (class : own.interface ≡ false)
    (es : signature_at own constructor_id ≡ Some s) (makes : IsConstructor program.table own s)
    (wr : World) (more : AreMarked content.objects wr.objects)
    (newly : (m : ℕ) → (nth_object content.objects m).shared ≡ false → (nth_object wr.objects m).shared ≡ true
    → 0 < sharing_uses m (uses_in xs))
    (marks : (m : ℕ) → 0 < sharing_uses m (uses_in xs) → (nth_object wr.objects m).shared ≡ true)
    (locked : wr.locked ≡ []) (progress : wr.progress ≡ []) where
  -- the next number
  abbrev pub next : ℕ
  next = length wr.objects

  abbrev pub first_slots : SlotCells
  first_slots = passed_slots args 1 (parameters s) nothing

  pub begins : Begins program contract constructor_id own s
  begins = begins_to_run program is contract constructor_id own s ec class es

  abbrev pub f : SilicaFrame
  f = record {
    slots = at (passed_slots args 1 (parameters s) nothing) 0 (Some (new_cell contract (length wr.objects)));
    contract = contract;
    tx = constructor_id;
    how = by_new;
    share_entered = false;
  }

  abbrev pub parts : BodyParts
  parts = record { own = own; signature = s; slots = begins.slots }

  abbrev pub w : World
  w = make_object wr (unfinished contract)

  abbrev pub d : Configuration
  d = record {
    frame = f;
    control = runs begins.terms [];
    stack = [];
    notes = first_notes program.table content.objects (map (note_in_run (puts_of_uses (uses_in xs))) content.handles);
    world = w;
  }

  abbrev pub began_with : Beginning
  began_with = record { contract = contract; tx = constructor_id; how = by_new; from = 1; values = args }

  next_is : next ≡ length content.objects
  next_is = more.count

  old_object : (m : ℕ) → m < next → nth_object w.objects m ≡ nth_object wr.objects m
  old_object m low = make_other wr (unfinished contract) m low

  new_object : nth_object w.objects next ≡ unfinished contract
  new_object = make_same wr (unfinished contract)

  new_count : length w.objects ≡ next + 1
  new_count = make_length wr (unfinished contract)

  -- Slots.

  many_params : length (parameters s) ≡ length s.params
  many_params = length-map s.params parameter_of

  many : length args ≡ length (parameters s)
  many = passed_many program.table content.objects args (parameters s) xs passed

  unset : first_slots 0 ≡ None
  unset = passed_before args 1 (parameters s) nothing 0 (omega arith)

  pub first_bound : AreBound program.table wr.objects (passed_slots args 1 (parameters s) nothing) 1 (parameters s)
  first_bound = passed_bound program.table content None wr.objects more args (parameters s) xs first_slots 1 passed
      uses marks
      (λ i v p ev ep. passed_at args 1 (parameters s) nothing i v p ev ep)

  pub within : are_within program.table wr.objects (passed_slots args 1 (parameters s) nothing) 1 (parameters s) ≡ true
  within = are_all_within program.table wr.objects first_slots 1 (parameters s) first_bound

  slots_after : (j : ℕ) → 1 ≤ j → f.slots j ≡ first_slots j
  slots_after j low = at_other first_slots 0 (Some (new_cell contract (length wr.objects))) j
      (λ e. omega (arith, e, low))

  bound_after : AreBound program.table w.objects f.slots 1 (parameters s)
  bound_after = bound_slots program.table w.objects first_slots f.slots 1 (parameters s) slots_after
      (bound_made program.table wr.objects (unfinished contract) first_slots 1 (parameters s) first_bound)

  this_stands : Stands program.table w.objects (new_cell contract (length wr.objects))
  this_stands = record {
    kind = (
      (let z = new_count in omega (arith, z)),
      subst (λ (o : Object). serves_as program.table (Reference contract) (Reference o.contract) ≡ true)
          (sym new_object) (serves_itself program.table (Reference contract)),
    );
    marked = λ e. absurd (cc);
    states = λ a e. subst (λ o. is_in program.table (Reference contract) a o ≡ true)
        (sym new_object) (ap a (seen_itself program.table contract) ∙ no_state a e);
  }

  begun : BeginsOn program.table w.objects f s (owned (only stateless)) (length wr.objects)
  begun = record {
    this = at_same first_slots 0 (Some (new_cell contract (length wr.objects)));
    stands = this_stands;
    bound = bound_after;
    unset = λ j low. slots_after j (omega (arith, low))
        ∙ passed_after args 1 (parameters s) nothing j (let z = many_params in omega (arith, z, low));
  }

  self_is : self_of f.slots ≡ next
  self_is = begins_self program.table w.objects f s (owned (only stateless)) (length wr.objects) begun

  few_slots : 1 + length (parameters s) ≤ Rattle.ob_base.specs.Limits.most_slots
  few_slots = let a = many_params in let b = begins.few in let c = begins.params in omega (arith, a, b, c)

  -- Counts.

  slots_count : (counts : Counted) (m : ℕ) → in_slots counts m f.slots
      ≡ in_passed counts m args (parameters s) + in_cell counts m (Some (new_cell contract (length wr.objects)))
  slots_count counts m =
      let one = this_more counts m first_slots (new_cell contract (length wr.objects)) unset some_slots in
      let two = passed_counts counts m args 1 (parameters s) nothing few_slots (λ j low. refl) in
      let three = no_slots counts m nothing (λ j. refl) in
      omega (arith, one, two, three)

  objects_count : (counts : Counted) (m : ℕ) → in_objects counts m d.notes w.objects ≡ in_objects counts m d.notes
      content.objects
  objects_count counts m = objects_make counts m d.notes wr (unfinished contract) (λ j. refl)
      ∙ marked_counts program.table content rest (map (note_in_run (puts_of_uses (uses_in xs))) content.handles) wr.objects more counts m

  owners_are : (m : ℕ) → m < next → owners m d + lent program.table content rest None (uses_in xs) uses once m
      ≡ owning_uses m (uses_in xs) + stored_owners program.table content m
  owners_are m low =
      let cell : in_cell owns m (Some (new_cell contract (length wr.objects))) ≡ one_if (nat_eq next m) = refl in
      let none = one_other next m (λ e. omega (arith, e, low)) in
      let here = slots_count owns m in
      let pass = passed_owns program.table content.objects m args (parameters s) xs passed in
      let z = total_is program.table is.table content rest None (uses_in xs) uses once m (in_slots owns m f.slots)
      (in_objects owns m d.notes w.objects)
      (let y : in_slots owns m f.slots ≡ owning_uses m (uses_in xs) = omega (arith, cell, none, here, pass) in y)
      (objects_count owns m) in
      omega (arith, z)

  -- an object that is no older one is referred to by the constructor alone
  past_references : (m : ℕ) → next ≤ m → references m d ≡ one_if (nat_eq next m)
  past_references m past =
      let cell : in_cell any m (Some (new_cell contract (length wr.objects))) ≡ one_if (nat_eq next m) = refl in
      let here = slots_count any m in
      let none = passed_low program.table content.objects m (let e = next_is in omega (arith, e, past)) args
      (parameters s) xs passed in
      let objects = objects_make any m d.notes wr (unfinished contract) (λ j. refl) in
      let two = objects_past program.table wr.objects m past d.notes
      (marked_stand program.table content rest (map (note_in_run (puts_of_uses (uses_in xs))) content.handles) wr.objects more) in
      let three = handles_past program.table wr.objects m past (map (note_in_run (puts_of_uses (uses_in xs))) content.handles)
      (handles_stand program.table content rest (uses_in xs) wr.objects (let e = more.count in omega (arith, e))
      (λ i low. more.shared i)) in
      omega (arith, cell, here, none, objects, two, three)

  past_owners : (m : ℕ) → next ≤ m → owners m d ≡ one_if (nat_eq next m)
  past_owners m past =
      let cell : in_cell owns m (Some (new_cell contract (length wr.objects))) ≡ one_if (nat_eq next m) = refl in
      let here = slots_count owns m in
      let most = past_references m past in
      let less = all_refer owns m d in
      omega (arith, cell, here, most, less)

  one_or_none : (m : ℕ) → one_if (nat_eq next m) ≤ 1
  one_or_none m = Rattle.ob_soundness_laws.proofs.counting.Cells.one_if_most (nat_eq next m)

  low_or_past : (m : ℕ) → (m < next) ⊎ (next ≤ m)
  low_or_past m = cases_lt m next

  -- an object that isn't older is neither shared nor disowned
  past_plain : (m : ℕ) → next ≤ m → ((nth_object w.objects m).shared ≡ false)
      × ((nth_object w.objects m).disowned ≡ false)
      × ((k : ℕ) → (nth_object w.objects m).fields k ≡ None)
  past_plain m past = ⊎_elim
      (λ same. subst (λ i. ((nth_object w.objects i).shared ≡ false) × ((nth_object w.objects i).disowned ≡ false)
      × ((k : ℕ) → (nth_object w.objects i).fields k ≡ None)) (sym same.1)
      (subst (λ (o : Object). (o.shared ≡ false) × (o.disowned ≡ false) × ((k : ℕ) → o.fields k ≡ None))
      (sym new_object)
      (refl, refl, λ k. refl)))
      (λ other. subst (λ (o : Object). (o.shared ≡ false) × (o.disowned ≡ false) × ((k : ℕ) → o.fields k ≡ None))
      (sym (no_object w.objects m (let z = new_count in let ne : m ≢ next = other.1 in omega (arith, z, past))))
      (refl, refl, λ k. refl))
      (eqb_tells m next)

  -- Objects.

  cells_same : (i k : ℕ) → i < next → field_cell d.notes w.objects i k ≡ field_cell d.notes wr.objects i k
  cells_same i k low = field_cell_same d.notes d.notes wr.objects w.objects i k
      (ap (λ (o : Object). o.fields k) (old_object i low)) refl

  fields_stand : (i : ℕ) → AllStand program.table w.objects (field_cell d.notes w.objects i)
  fields_stand i k x e = ⊎_elim
      (λ low. made_stands program.table wr.objects (unfinished contract) x
      (marked_stand program.table content rest (map (note_in_run (puts_of_uses (uses_in xs))) content.handles) wr.objects more i k x
      (sym (cells_same i k low) ∙ e)))
      (λ past. absurd (let none = field_cell_of d.notes w.objects i k None ((past_plain i past).2 k) in
      let z : Some x ≡ None = sym e ∙ none in cc))
      (low_or_past i)

  handles_now : HandlesStand w.objects (map (note_in_run (puts_of_uses (uses_in xs))) content.handles)
  handles_now = handles_stand program.table content rest (uses_in xs) w.objects
      (let e = more.count in let z = new_count in omega (arith, e, z))
      (λ i low mark. ap (λ (o : Object). o.shared) (old_object i (let e = next_is in omega (arith, e, low)))
      ∙ more.shared i mark)

  low_or_new : (m : ℕ) → m < length w.objects → (m < next) ⊎ (m ≡ next)
  low_or_new m below = ⊎_elim (λ low. inl low)
      (λ past. inr (let z = new_count in omega (arith, z, past, below))) (low_or_past m)

  in_run : (m : ℕ) → m < length w.objects → IsObjectInRun program.table d.notes m (nth_object w.objects m)
  in_run m below = ⊎_elim
      (λ low. subst (IsObjectInRun program.table d.notes m) (sym (old_object m low))
      (marked_in_run program.table content rest (map (note_in_run (puts_of_uses (uses_in xs))) content.handles) wr.objects more m low))
      (λ same. subst (λ i. IsObjectInRun program.table d.notes i (nth_object w.objects i)) (sym same)
      (subst (IsObjectInRun program.table d.notes next) (sym new_object) (record {
        own = own;
        contract = ec;
        class = class;
        state = tt;
        fields = λ j no. refl;
        kinds = λ j f v e i. absurd (cc);
      })))
      (low_or_new m below)

  declared_now : (m : ℕ) → m < next → IsAsDeclared program.table (NeedsOwner program.table w.objects) d.notes
      w.objects m
  declared_now m low =
      let was = marked_declared program.table content rest (map (note_in_run (puts_of_uses (uses_in xs))) content.handles) wr.objects more
      (NeedsOwner program.table w.objects) m low in
      record {
        placed = subst (HasItsState program.table) (sym (old_object m low)) was.placed;
        fields = λ k g e can. subst (SaysOf (NeedsOwner program.table w.objects) (Some (declared_note g.of)))
            (sym (cells_same m k low))
            (was.fields k g (ap (λ o. field_of program.table o k) (sym (old_object m low)) ∙ e)
            (ap (λ (o : Object). is_available o.state g) (sym (old_object m low)) ∙ can));
      }

  constructions_are : (m : ℕ) → constructions m d ≡ one_if (nat_eq next m)
  constructions_are m =
      let i : one_if (nat_eq (self_of f.slots) m) ≡ one_if (nat_eq next m) = ap (λ x. one_if (nat_eq x m)) self_is in
      omega (arith, i)

  -- The whole.

  frame_is : IsFrame program.table w.objects f parts
  frame_is = begins_frame program.table w.objects f s (owned (only stateless)) (length wr.objects) begun own
      begins.slots
      ec class es begins.few begins.params (ap (λ (o : Object). o.contract) new_object) (λ e. refl) (λ e. refl)
      (λ e. makes.listed)

  began_so : BeganSo program.table began_with f
  began_so = record {
    contract = refl;
    tx = refl;
    how = refl;
    within = λ c z e i.
        let same : own ≡ c = same_Some own c (sym ec ∙ e) in
        let sig : s ≡ z = same_Some s z (sym es ∙ ap (λ (y : Contract). signature_at y constructor_id) same ∙ i) in
        let l = ap (λ (y : Signature). length y.params) sig in
        let m = many in let p = many_params in
        omega (arith, l, m, p);
    values = λ k v e.
        let p = item_beside args (parameters s) many k v e in
        ap value_in (slots_after (1 + k) (omega arith) ∙ passed_at args 1 (parameters s) nothing k v p.0 e p.1);
  }

  old_needs : (m : ℕ) → m < next → NeedsOwner program.table w.objects m → NeedsOwner program.table wr.objects m
  old_needs m low must = record {
    there = low;
    asset = ap (λ (o : Object). Rattle.ob_flow_spec.specs.Contexts.is_asset program.table (Reference o.contract))
        (sym (old_object m low)) ∙ must.asset;
    unshared = ap (λ (o : Object). o.shared) (sym (old_object m low)) ∙ must.unshared;
    kept = ap (λ (o : Object). o.disowned) (sym (old_object m low)) ∙ must.kept;
  }

  stored : (m : ℕ) → m < next → m < length content.objects
  stored m low = let e = next_is in omega (arith, low, e)

  pub whole : Holds program.table None began_with d
  whole = record {
    one_owner = λ m. ⊎_elim
        (λ low. whole_one program.table is.table content rest None (uses_in xs) uses once m (stored m low) (owners m d)
        (owners_are m low) wr.objects more (newly m) (marks m))
        (λ past. let z = past_owners m past in let y = one_or_none m in omega (arith, z, y)) (low_or_past m);
    disowned = λ m mark unshared. ⊎_elim
        (λ low. whole_disowned program.table is.table content rest None (uses_in xs) uses once m (stored m low)
        (owners m d)
        (owners_are m low) wr.objects more (newly m) (marks m)
        (ap (λ (o : Object). o.disowned) (sym (old_object m low)) ∙ mark)
        (ap (λ (o : Object). o.shared) (sym (old_object m low)) ∙ unshared))
        (λ past. absurd (both_ways _ (past_plain m past).1 mark)) (low_or_past m);
    shared = λ m mark some. ⊎_elim
        (λ low. absurd (let z : None ≡ Some m = whole_shared program.table is.table content rest None
        (uses_in xs) uses once m
        (stored m low) (owners m d) (owners_are m low) wr.objects more (newly m) (marks m)
        (ap (λ (o : Object). o.shared) (sym (old_object m low)) ∙ mark) some in cc))
        (λ past. absurd (both_ways _ (past_plain m past).0 mark)) (low_or_past m);
    tested = λ m some. absurd (omega (arith, some));
    assets = λ m must. ⊎_elim
        (λ low. whole_assets program.table is.table content rest None (uses_in xs) uses once m (stored m low)
        (owners m d)
        (owners_are m low) wr.objects more (newly m) (marks m) (old_needs m low must))
        (λ same. subst (λ i. 0 < owners i d) (sym same)
        (let z = past_owners next (omega arith) in let y = one_same next in omega (arith, z, y)))
        (low_or_new m must.there);
    slots = begins_stand program.table w.objects f s (owned (only stateless)) (length wr.objects) begun;
    fields = fields_stand;
    handles = handles_now;
    objects = in_run;
    declared = λ m below none new. ⊎_elim
        (λ low. declared_now m low)
        (λ same. absurd (let z = constructions_are next in let y = one_same next in
        let x = subst (λ i. constructions i d ≡ 0) same new in omega (arith, z, y, x)))
        (low_or_new m below);
    progress = λ m. let p = ap (times m) progress in omega (arith, p);
    entered_once = λ m. omega arith;
    locked = λ m. let p = ap (times m) locked in omega (arith, p);
    locked_once = λ m. omega arith;
    parts = parts;
    frame = frame_is;
    waiting = refl;
    began = began_so;
  }

  -- The configuration runs.

  abbrev bf : BodyFrame
  bf = body_of program.table f parts

  fields_say : (j : ℕ) → available bf j (state_number (own_object (here d)).state) ≡ true
      → SaysOf (NeedsOwner program.table w.objects) (field_known bf j) (own_cell (here d) j)
  fields_say j can =
      let object_is : nth_object w.objects (self_of f.slots) ≡ unfinished contract =
      ap (nth_object w.objects) self_is ∙ new_object in
      let top : available bf j stateless ≡ true =
      subst (λ (o : Object). available bf j (state_number o.state) ≡ true) object_is can in
      let none : field_cell d.notes w.objects (self_of f.slots) j ≡ None =
      field_cell_of d.notes w.objects (self_of f.slots) j None (ap (λ (o : Object). o.fields j) object_is) in
      subst (λ y. SaysOf (NeedsOwner program.table w.objects) y (own_cell (here d) j))
      (sym (beginning_unset bf j refl top))
      (subst (SaysOf (NeedsOwner program.table w.objects) None) (sym none)
      (record { known = tt; owner = λ m must some. absurd (omega (arith, some)) }))

  pub made_runs : IsRunning program.table None began_with d
  unfolding whole
  made_runs = record {
    whole = whole;
    terms = begins.terms;
    outer = [];
    control = refl;
    context = beginning (record {
      table = program.table;
      here = contract;
      own = own;
      tx = constructor_id;
      signature = s;
      slots = begins.slots;
    });
    says = begins_says program.table w.objects f s (owned (only stateless)) (length wr.objects) begun
        (NeedsOwner program.table w.objects) (here d) bf refl refl refl
        (ap (λ (y : Known). y.permission) (this_of_constructor bf refl)) fields_say;
    holdings = held_at_start contract s.params;
    held = begins_held program.table w.objects f s (owned (only stateless)) (length wr.objects) begun;
    remains = begins.remains;
    opens = tt;
    placed = λ ne. absurd (ne refl);
    shares = λ e. absurd (cc);
    owns_made = λ e. refl;
    unreferred = λ m some.
        let z = constructions_are m in
        let same : next ≡ m = one_of next m (omega (arith, some, z)) in
        let y = past_references m (omega (arith, same)) in
        let x = one_or_none m in omega (arith, y, x);
    lends = tt;
  }
