-- The body of an object that is called from outside begins.
use Rattle.std.proofs.Common.{◌≡◌, ◌≢◌, ℕ, zero, suc, ◌+◌, ◌<◌, ◌≤◌, true, false, List, [], ◌∷◌, map, length, Option, Some, None, refl, sym, ap, subst, ◌∙◌, arith, ⊎_elim, ◌⊎◌, inl, inr, eqb-true}
use Rattle.std.specs.Prelude.{nat_eq, slice_get}
use Rattle.std.specs.List.{list_any}
use Rattle.std.proofs.lemmas.Bool.{cases_Bool, both_ways}
use Rattle.std.proofs.lemmas.List.{length-map}
use Rattle.std.proofs.lemmas.Option.{same_Some}
use Rattle.ob_base.specs.declared.id.ContractId.{ContractId}
use Rattle.ob_base.specs.declared.id.TxId.{TxId}
use Rattle.ob_perm.specs.Permissions.{shared, owns, is_shared}
use Rattle.ob_perm.specs.Masks.{permission_of}
use Rattle.ob_table.specs.Tables.{contract_at, signature_at}
use Rattle.ob_table.specs.declared.contract.Contract.{Contract}
use Rattle.ob_table.specs.declared.contract.Field.{Field}
use Rattle.ob_table.specs.declared.contract.ResolvedType.TheVariants.{Int as IntType, Reference as TypedReference}
use Rattle.ob_table.specs.declared.contract.Listed.{Listed}
use Rattle.ob_table.specs.declared.contract.Signature.{Signature}
use Rattle.ob_table_spec.specs.WellFormed.{kind_of_resolved}
use Rattle.ob_heap_spec.specs.Values.{Value, reference, nothing}
use Rattle.ob_heap_spec.specs.Objects.{state_number}
use Rattle.ob_heap_spec.specs.Contents.{Content}
use Rattle.ob_heap_spec.specs.Worlds.{World}
use Rattle.ob_silica_places.specs.Known.{known, at, permission_of_type}
use Rattle.ob_silica_places.specs.Parameters.{parameters, all_parameters, parameter_of, this_parameter}
use Rattle.ob_silica_steps.specs.Cells.{permission_in, value_in}
use Rattle.ob_silica_steps.specs.Configurations.{SilicaProgram, SlotCells, SilicaFrame, by_receiver, runs, Configuration}
use Rattle.ob_silica_steps.specs.Here.{here, self_of}
use Rattle.ob_silica_steps.specs.Binding.{bound_cell}
use Rattle.ob_silica_steps.specs.Entering.{are_within, this_cell}
use Rattle.ob_silica_steps.specs.Starting.{declared_note, first_notes}
use Rattle.ob_silica_formed.specs.Holdings.{held_at_start}
use Rattle.ob_flow_spec.specs.Contexts.{BodyFrame, available, type_of_field, entry_of_field, listed_at, field_known, beginning, constructs}
use Rattle.ob_places_laws.proofs.Beginnings.{this_of_transaction, beginning_field}
use Rattle.ob_coherent_spec.specs.Counting.{nth_object, one_if, field_cell, in_slots, in_objects, owners}
use Rattle.ob_coherent_spec.specs.Runs.{times, entered_at, entries, locks_entry}
use Rattle.ob_coherent_spec.specs.Standing.{Stands, HasItsState, NeedsOwner}
use Rattle.ob_coherent_spec.specs.Saying.{SaysOf, own_object, own_cell}
use Rattle.ob_coherent_spec.specs.Remaining.{IsCheckedProgram, BodyParts, body_of}
use Rattle.ob_coherent_spec.specs.Waiting.{IsFrame, SharesThis}
use Rattle.ob_coherent_spec.specs.Coherent.{Beginning, BeganSo, IsAsDeclared, Holds, IsRunning}
use Rattle.ob_soundness_laws.proofs.counting.Cells.{one_if_most}
use Rattle.ob_soundness_laws.proofs.counting.Entering.{this_alike, some_slots}
use Rattle.ob_soundness_laws.proofs.counting.NextNumber.{slots_past, objects_past, handles_past}
use Rattle.ob_soundness_laws.proofs.counting.Numbers.{one_same}
use Rattle.ob_soundness_laws.proofs.counting.Passing.{passed_slots, passed_at, passed_after, passed_counts}
use Rattle.ob_soundness_laws.proofs.counting.Places.{no_slots, all_refer}
use Rattle.ob_soundness_laws.proofs.counting.Sums.{at_same, at_other}
use Rattle.ob_soundness_laws.proofs.places.Reading.{available_is, field_is, field_of_is}
use Rattle.ob_soundness_laws.specs.calls.Bound.{AreBound}
use Rattle.ob_soundness_laws.specs.calls.Entered.{BeginsOn}
use Rattle.ob_soundness_laws.proofs.calls.Within.{are_all_within}
use Rattle.ob_soundness_laws.proofs.calls.Entered.{begins_self, begins_stand, begins_held, begins_frame, begins_says}
use Rattle.ob_soundness_laws.proofs.calls.Beginning.{Begins, begins_to_run}
use Rattle.ob_soundness_laws.proofs.calls.Receiving.{bound_slots}
use Rattle.ob_rest_spec.specs.Incoming.{owners as stored_owners}
use Rattle.ob_rest_spec.specs.AtRest.{IsStoreAtRest}
use Rattle.ob_invocation_spec.specs.Entries.{HandleUse}
use Rattle.ob_invocation_spec.specs.Refusals.{is_repeated}
use Rattle.ob_soundness_laws.specs.beginning.Uses.{owning_uses, sharing_uses, AreUses}
use Rattle.ob_invocation_laws.specs.Laws.{puts_of_uses}
use Rattle.ob_soundness_laws.specs.Requests.{note_in_run}
use Rattle.ob_soundness_laws.specs.beginning.Marked.{AreMarked}
use Rattle.ob_soundness_laws.specs.beginning.Passed.{ArePassed, uses_in}
use Rattle.ob_soundness_laws.proofs.beginning.Totals.{lent}
use Rattle.ob_soundness_laws.proofs.beginning.Stored.{marked_stand, marked_counts, marked_in_run, marked_placed, marked_declared}
use Rattle.ob_soundness_laws.proofs.beginning.Passed.{passed_many, passed_owns, passed_bound}
use Rattle.ob_soundness_laws.proofs.beginning.Whole.{handles_stand, total_is, whole_one, whole_disowned, whole_shared, whole_assets}

-- lists of the same length have items at the same numbers
pub item_beside : {A B : Type 0} (xs : List A) (ys : List B) → length xs ≡ length ys → (k : ℕ) (x : A)
    → slice_get xs k ≡ Some x
    → (y : B) × (slice_get ys k ≡ Some y)
item_beside [] ys long k x e = absurd (cc)
item_beside (z ∷ xs) [] long k x e = absurd (omega (arith, long))
item_beside (z ∷ xs) (y ∷ ys) long zero x e = (y, refl)
item_beside (z ∷ xs) (y ∷ ys) long (suc k) x e = item_beside xs ys (omega (arith, long)) k x e

-- a field that isn't listed is entered as it's declared
unlisted_entry : (b : BodyFrame) (s : Signature) (j : ℕ) (f : Field) → s.listed ≡ [] → slice_get b.own.fields j ≡ Some f
    → entry_of_field b s j ≡ permission_of_type f.of
unlisted_entry b s j f none e =
    ap (λ ls. Rattle.std.specs.Option.option_map_or (λ (l : Listed). permission_of l.entry) (listed_at ls j)
    (permission_of_type (type_of_field b j))) none
    ∙ ap (λ o. permission_of_type (Rattle.std.specs.Option.option_map_or (λ (x : Field). x.of) o IntType)) e

zero_or_more : (n : ℕ) → (n ≡ 0) ⊎ (0 < n)
zero_or_more zero = inl refl
zero_or_more (suc n) = inr (omega arith)

module _ (program : SilicaProgram) (is : IsCheckedProgram program) (content : Content)
    (rest : IsStoreAtRest program.table content) (entry : Option ℕ)
    (n : ℕ) (there : n < length content.objects) (contract : ContractId) (tx : TxId) (own : Contract) (s : Signature)
    (args : List Value) (xs : List (Option HandleUse))
    (passed : ArePassed program.table content.objects (reference n ∷ args) (this_parameter contract s ∷ parameters s)
    xs)
    (uses : AreUses program.table content entry (uses_in xs))
    (once : list_any (is_repeated (uses_in xs)) (uses_in xs) ≡ false)
    (contract_is : (nth_object content.objects n).contract ≡ contract)
    (ec : contract_at program.table contract ≡ Some own) (class : own.interface ≡ false)
    (es : signature_at own tx ≡ Some s) (no_constructor : tx.0 ≢ 0) (no_list : s.listed ≡ [])
    (w : World) (more : AreMarked content.objects w.objects)
    (newly : (m : ℕ) → (nth_object content.objects m).shared ≡ false → (nth_object w.objects m).shared ≡ true
    → 0 < sharing_uses m (uses_in xs))
    (marks : (m : ℕ) → 0 < sharing_uses m (uses_in xs) → (nth_object w.objects m).shared ≡ true)
    (locked : (m : ℕ) → locks_entry entry m ≡ times m w.locked) (progress : w.progress ≡ n ∷ []) where
  abbrev pub first_slots : SlotCells
  first_slots = passed_slots (reference n ∷ args) 0 (this_parameter contract s ∷ parameters s) nothing

  contract_now : (nth_object w.objects n).contract ≡ contract
  contract_now = more.contract n ∙ contract_is

  ec_now : contract_at program.table (nth_object w.objects n).contract ≡ Some own
  ec_now = ap (contract_at program.table) contract_now ∙ ec

  there_now : n < length w.objects
  there_now = let e = more.count in omega (arith, there, e)

  pub begins : Begins program (nth_object w.objects n).contract tx own s
  begins = begins_to_run program is (nth_object w.objects n).contract tx own s ec_now class es

  abbrev pub f : SilicaFrame
  f = record {
    slots = at (passed_slots (reference n ∷ args) 0 (this_parameter contract s ∷ parameters s) nothing) 0
        (Some (this_cell (nth_object w.objects n).contract s.entry n));
    contract = (nth_object w.objects n).contract;
    tx = tx;
    how = by_receiver;
    share_entered = is_shared (permission_of s.entry);
  }

  abbrev pub parts : BodyParts
  parts = record { own = own; signature = s; slots = begins.slots }

  abbrev pub d : Configuration
  d = record {
    frame = f;
    control = runs begins.terms [];
    stack = [];
    notes = first_notes program.table content.objects (map (note_in_run (puts_of_uses (uses_in xs))) content.handles);
    world = w;
  }

  abbrev pub began_with : Beginning
  began_with = record { contract = contract; tx = tx; how = by_receiver; from = 0; values = reference n ∷ args }

  -- Slots.

  many_params : length (parameters s) ≡ length s.params
  many_params = length-map s.params parameter_of

  many : length (reference n ∷ args) ≡ length (this_parameter contract s ∷ parameters s)
  many = passed_many program.table content.objects (reference n ∷ args) (this_parameter contract s ∷ parameters s) xs
      passed

  first_set : first_slots 0 ≡ Some (bound_cell (TypedReference contract s.entry) (reference n))
  first_set = passed_at (reference n ∷ args) 0 (this_parameter contract s ∷ parameters s) nothing 0 (reference n)
      (this_parameter contract s) refl refl

  first_bound : AreBound program.table w.objects first_slots 0 (this_parameter contract s ∷ parameters s)
  first_bound = passed_bound program.table content entry w.objects more (reference n ∷ args)
      (this_parameter contract s ∷ parameters s) xs first_slots 0 passed uses marks
      (λ i v p ev ep. passed_at (reference n ∷ args) 0 (this_parameter contract s ∷ parameters s) nothing i v p ev ep)

  this_stands : Stands program.table w.objects (this_cell (nth_object w.objects n).contract s.entry n)
  this_stands = subst (λ c. Stands program.table w.objects (this_cell c s.entry n)) (sym contract_now)
      (subst (Stands program.table w.objects)
      (same_Some (bound_cell (TypedReference contract s.entry) first_bound.0.value)
      (bound_cell (TypedReference contract s.entry) (reference n)) (sym first_bound.0.set ∙ first_set))
      first_bound.0.stands)

  slots_after : (j : ℕ) → 1 ≤ j → f.slots j ≡ first_slots j
  slots_after j low = at_other first_slots 0 (Some (this_cell (nth_object w.objects n).contract s.entry n)) j
      (λ e. omega (arith, e, low))

  bound_after : AreBound program.table w.objects f.slots 1 (parameters s)
  bound_after = bound_slots program.table w.objects first_slots f.slots 1 (parameters s) slots_after first_bound.1

  pub within : are_within program.table w.objects
      (at (passed_slots (reference n ∷ args) 0 (this_parameter contract s ∷ parameters s) nothing) 0
      (Some (this_cell (nth_object w.objects n).contract s.entry n))) 0
      (all_parameters (nth_object w.objects n).contract s) ≡ true
  within = are_all_within program.table w.objects f.slots 0 (all_parameters (nth_object w.objects n).contract s) (
    record {
      value = reference n;
      set = at_same first_slots 0 (Some (this_cell (nth_object w.objects n).contract s.entry n));
      stands = this_stands;
    },
    bound_after,
  )

  begun : BeginsOn program.table w.objects f s (permission_of s.entry) n
  begun = record {
    this = at_same first_slots 0 (Some (this_cell (nth_object w.objects n).contract s.entry n));
    stands = this_stands;
    bound = bound_after;
    unset = λ j low. slots_after j (omega (arith, low))
        ∙ passed_after (reference n ∷ args) 0 (this_parameter contract s ∷ parameters s) nothing j
        (let z = many_params in omega (arith, z, low));
  }

  self_is : self_of f.slots ≡ n
  self_is = begins_self program.table w.objects f s (permission_of s.entry) n begun

  few_slots : 0 + length (this_parameter contract s ∷ parameters s) ≤ Rattle.ob_base.specs.Limits.most_slots
  few_slots = let a = many_params in let b = begins.few in let c = begins.params in omega (arith, a, b, c)

  slots_own : (m : ℕ) → in_slots owns m f.slots ≡ owning_uses m (uses_in xs)
  slots_own m =
      let one = this_alike owns m first_slots (bound_cell (TypedReference contract s.entry) (reference n))
      (this_cell (nth_object w.objects n).contract s.entry n) first_set refl refl some_slots in
      let two = passed_counts owns m (reference n ∷ args) 0 (this_parameter contract s ∷ parameters s) nothing few_slots
      (λ j low. refl) in
      let three = no_slots owns m nothing (λ j. refl) in
      let four = passed_owns program.table content.objects m (reference n ∷ args)
      (this_parameter contract s ∷ parameters s)
      xs passed in
      omega (arith, one, two, three, four)

  -- Owners.

  objects_own : (m : ℕ) → in_objects owns m d.notes w.objects ≡ in_objects owns m d.notes content.objects
  objects_own m = marked_counts program.table content rest (map (note_in_run (puts_of_uses (uses_in xs))) content.handles) w.objects more
      owns m

  owners_are : (m : ℕ) → owners m d + lent program.table content rest entry (uses_in xs) uses once m
      ≡ owning_uses m (uses_in xs) + stored_owners program.table content m
  owners_are m =
      let z = total_is program.table is.table content rest entry (uses_in xs) uses once m (in_slots owns m f.slots)
      (in_objects owns m d.notes w.objects) (slots_own m) (objects_own m) in
      omega (arith, z)

  slots_stand : Rattle.ob_coherent_spec.specs.Standing.AllStand program.table w.objects f.slots
  slots_stand = begins_stand program.table w.objects f s (permission_of s.entry) n begun

  fields_stand : (i : ℕ) → Rattle.ob_coherent_spec.specs.Standing.AllStand program.table w.objects
      (field_cell d.notes w.objects i)
  fields_stand = marked_stand program.table content rest (map (note_in_run (puts_of_uses (uses_in xs))) content.handles) w.objects more

  handles_now : Rattle.ob_coherent_spec.specs.Standing.HandlesStand w.objects
      (map (note_in_run (puts_of_uses (uses_in xs))) content.handles)
  handles_now = handles_stand program.table content rest (uses_in xs) w.objects (let e = more.count in omega (arith, e))
      (λ i low. more.shared i)

  owners_past : (m : ℕ) → length w.objects ≤ m → owners m d ≡ 0
  owners_past m past =
      let one = slots_past program.table w.objects m past f.slots slots_stand in
      let two = objects_past program.table w.objects m past d.notes fields_stand in
      let three = handles_past program.table w.objects m past (map (note_in_run (puts_of_uses (uses_in xs))) content.handles) handles_now
      in
      let four = all_refer owns m d in
      omega (arith, one, two, three, four)

  low_or_past : (m : ℕ) → (m < length content.objects) ⊎ (owners m d ≡ 0)
  low_or_past m = ⊎_elim (λ low. inl low) (λ past. inr (owners_past m (let e = more.count in omega (arith, past, e))))
      (Rattle.std.proofs.lemmas.Bool.cases_lt m (length content.objects))

  shared_locked : (m : ℕ) → (nth_object w.objects m).shared ≡ true → 0 < owners m d → 0 < times m w.locked
  shared_locked m mark some = ⊎_elim
      (λ low.
      let e = whole_shared program.table is.table content rest entry (uses_in xs) uses once m low (owners m d)
      (owners_are m)
      w.objects more (newly m) (marks m) mark some in
      let l = locked m in
      let one : locks_entry entry m ≡ 1 = ap (λ o. locks_entry o m) e ∙ one_same m in
      omega (arith, l, one))
      (λ none. absurd (omega (arith, none, some)))
      (low_or_past m)

  -- Frames.

  entered_is : (m : ℕ) → entries m d ≡ one_if (nat_eq n m)
  entered_is m = let i : entered_at m by_receiver f.slots ≡ one_if (nat_eq n m) = ap (λ x. one_if (nat_eq x m))
      self_is in
      omega (arith, i)

  plain_number : constructs (body_of program.table f parts) ≡ false
  plain_number = ⊎_elim (λ e. absurd (no_constructor (eqb-true tx.0 0 e))) (λ e. e) (cases_Bool (nat_eq tx.0 0))

  frame_is : IsFrame program.table w.objects f parts
  frame_is = begins_frame program.table w.objects f s (permission_of s.entry) n begun own begins.slots ec_now class
      es begins.few begins.params refl
      (λ e. absurd (no_constructor (eqb-true tx.0 0 e))) (λ e. absurd (cc)) (λ e. no_list)

  began_so : BeganSo program.table began_with f
  began_so = record {
    contract = contract_now;
    tx = refl;
    how = refl;
    within = λ c z e i.
        let same : own ≡ c = same_Some own c (sym ec_now ∙ e) in
        let sig : s ≡ z = same_Some s z (sym es ∙ ap (λ (y : Contract). signature_at y tx) same ∙ i) in
        let l = ap (λ (y : Signature). length y.params) sig in
        let m = many in let p = many_params in
        omega (arith, l, m, p);
    values = values_are;
  }
    where
      values_are : (k : ℕ) (v : Value) → slice_get (reference n ∷ args) k ≡ Some v → value_in (f.slots (0 + k)) ≡ Some v
      values_are zero v e = ap value_in begun.this ∙ e
      values_are (suc k) v e =
          let p = item_beside (reference n ∷ args) (this_parameter contract s ∷ parameters s) many (suc k) v e in
          ap (λ j. value_in (f.slots j)) (let z : 0 + suc k ≡ suc k = omega arith in z)
          ∙ ap value_in (slots_after (suc k) (omega arith)
          ∙ ap first_slots (let z : suc k ≡ 0 + suc k = omega arith in z)
          ∙ passed_at (reference n ∷ args) 0 (this_parameter contract s ∷ parameters s) nothing (suc k) v p.0 e p.1)

  pub whole : Holds program.table entry began_with d
  whole = record {
    one_owner = λ m. ⊎_elim
        (λ low. whole_one program.table is.table content rest entry (uses_in xs) uses once m low (owners m d)
        (owners_are m)
        w.objects more (newly m) (marks m))
        (λ none. omega (arith, none)) (low_or_past m);
    disowned = λ m mark unshared. ⊎_elim
        (λ low. whole_disowned program.table is.table content rest entry (uses_in xs) uses once m low (owners m d)
        (owners_are m)
        w.objects more (newly m) (marks m) mark unshared)
        (λ none. none) (low_or_past m);
    shared = λ m mark some. inl (shared_locked m mark some);
    tested = λ m some. absurd (omega (arith, some));
    assets = λ m must. whole_assets program.table is.table content rest entry (uses_in xs) uses once m
        (let low = must.there in let e = more.count in omega (arith, low, e)) (owners m d) (owners_are m)
        w.objects more (newly m) (marks m) must;
    slots = slots_stand;
    fields = fields_stand;
    handles = handles_now;
    objects = λ m low. marked_in_run program.table content rest (map (note_in_run (puts_of_uses (uses_in xs))) content.handles) w.objects
        more m low;
    declared = λ m low none new. marked_declared program.table content rest (map (note_in_run (puts_of_uses (uses_in xs))) content.handles)
        w.objects more (NeedsOwner program.table w.objects) m low;
    progress = λ m. let e = entered_is m in let p = ap (times m) progress in omega (arith, e, p);
    entered_once = λ m. let e = entered_is m in let one = one_if_most (nat_eq n m) in omega (arith, e, one);
    locked = λ m. let l = locked m in omega (arith, l);
    locked_once = λ m. let l = locks_few m entry in omega (arith, l);
    parts = parts;
    frame = frame_is;
    waiting = refl;
    began = began_so;
  }
    where
      locks_few : (m : ℕ) (o : Option ℕ) → locks_entry o m ≤ 1
      locks_few m None = omega arith
      locks_few m (Some i) = one_if_most (nat_eq i m)

  -- The configuration runs.

  abbrev bf : BodyFrame
  bf = body_of program.table f parts

  declared_now : IsAsDeclared program.table (NeedsOwner program.table w.objects) d.notes w.objects n
  declared_now = marked_declared program.table content rest (map (note_in_run (puts_of_uses (uses_in xs))) content.handles)
      w.objects more (NeedsOwner program.table w.objects) n there_now

  fields_say : (j : ℕ) → available bf j (state_number (own_object (here d)).state) ≡ true
      → SaysOf (NeedsOwner program.table w.objects) (field_known bf j) (own_cell (here d) j)
  fields_say j can =
      let can_n : available bf j (state_number (nth_object w.objects n).state) ≡ true =
      subst (λ i. available bf j (state_number (nth_object w.objects i).state) ≡ true) self_is can in
      let g = field_is own (nth_object w.objects n).state j
      (sym (available_is bf j (nth_object w.objects n).state) ∙ can_n) in
      let says = declared_now.fields j g.0 (field_of_is program.table (nth_object w.objects n) own j ec_now ∙ g.1) g.2
      in
      let known_is : field_known bf j ≡ Some (declared_note g.0.of) =
      beginning_field bf j g.0 g.1 plain_number
      ∙ ap (λ p. Some (known (kind_of_resolved g.0.of) p)) (unlisted_entry bf s j g.0 no_list g.1) in
      subst (λ y. SaysOf (NeedsOwner program.table w.objects) y (own_cell (here d) j)) (sym known_is)
      (subst (λ i. SaysOf (NeedsOwner program.table w.objects) (Some (declared_note g.0.of))
      (field_cell d.notes w.objects i j)) (sym self_is) says)

  shares_now : SharesThis f d 0
  shares_now e =
      let is_entry : permission_of s.entry ≡ shared = sym (ap permission_in begun.this) ∙ e in
      let marked : (nth_object w.objects n).shared ≡ true = this_stands.marked is_entry in
      let busy : 0 < times n w.progress = (let p = ap (times n) progress in let o = one_same n in omega (arith, p, o))
      in (
        subst (λ i. 0 < times i w.progress) (sym self_is) busy,
        subst (λ i. (owners i d ≤ 0) ⊎ ((f.share_entered ≡ true) × (0 < times i w.locked))) (sym self_is)
            (⊎_elim (λ none. inl (omega (arith, none)))
            (λ some. inr (ap is_shared is_entry, shared_locked n marked some))
            (zero_or_more (owners n d))),
      )

  pub called_runs : IsRunning program.table entry began_with d
  unfolding whole begins
  called_runs = record {
    whole = whole;
    terms = begins.terms;
    outer = [];
    control = refl;
    context = beginning (record {
      table = program.table;
      here = (nth_object w.objects n).contract;
      own = own;
      tx = tx;
      signature = s;
      slots = begins.slots;
    });
    says = begins_says program.table w.objects f s (permission_of s.entry) n begun
        (NeedsOwner program.table w.objects) (here d) bf refl refl refl
        (ap (λ (y : Rattle.ob_silica_places.specs.Known.Known). y.permission) (this_of_transaction bf plain_number))
        fields_say;
    holdings = held_at_start (nth_object w.objects n).contract s.params;
    held = begins_held program.table w.objects f s (permission_of s.entry) n begun;
    remains = begins.remains;
    opens = tt;
    placed = λ ne. subst (λ i. HasItsState program.table (nth_object w.objects i)) (sym self_is)
        (marked_placed program.table content rest (map (note_in_run (puts_of_uses (uses_in xs))) content.handles) w.objects more n
        there_now);
    shares = shares_now;
    owns_made = λ e. absurd (cc);
    unreferred = λ m some. absurd (omega (arith, some));
    lends = tt;
  }
