-- The body of the object that is called begins.
use Rattle.std.proofs.Common.{◌≡◌, ◌≢◌, ℕ, suc, ◌+◌, ◌<◌, ◌≤◌, true, false, List, [], ◌∷◌, length, Option, Some, refl, sym, ap, subst, ◌∙◌, arith, ⊎_elim, ◌⊎◌, inl, inr, true≢false, eqb-true}
use Rattle.std.specs.Prelude.{nat_eq, slice_get}
use Rattle.std.specs.Option.{option_map_or}
use Rattle.std.proofs.lemmas.Bool.{cases_Bool}
use Rattle.std.proofs.lemmas.List.{length-map}
use Rattle.ob_base.specs.declared.id.ContractId.{ContractId}
use Rattle.ob_base.specs.declared.id.TxId.{TxId}
use Rattle.ob_perm.specs.States.{States}
use Rattle.ob_perm.specs.Permissions.{Permission, owned, shared, unowned, owns, is_shared}
use Rattle.ob_perm.specs.Masks.{permission_of}
use Rattle.ob_table.specs.Tables.{ClassTable, contract_at}
use Rattle.ob_table.specs.declared.contract.Contract.{Contract}
use Rattle.ob_table.specs.declared.contract.Field.{Field}
use Rattle.ob_table.specs.declared.contract.ResolvedType.TheVariants.{Int as IntType, Reference as TypedReference}
use Rattle.ob_table.specs.declared.contract.Listed.{Listed}
use Rattle.ob_table.specs.declared.contract.Signature.{Signature}
use Rattle.ob_table.specs.declared.seen.Kind.TheVariants.{Reference}
use Rattle.ob_table_spec.specs.WellFormed.{kind_of_resolved, serves_as}
use Rattle.ob_heap_spec.specs.Values.{reference}
use Rattle.ob_heap_spec.specs.Objects.{Object, state_number, seen_state}
use Rattle.ob_heap_spec.specs.Contents.{IsStateOf}
use Rattle.ob_heap_spec.specs.Worlds.{World}
use Rattle.ob_heap_spec.specs.Marks.{is_in_progress, enter}
use Rattle.ob_silica.specs.Terms.{SilicaTerms}
use Rattle.ob_silica_places.specs.Known.{known, at, Known, permission_of_type}
use Rattle.ob_silica_places.specs.Parameters.{Parameter, parameters, all_parameters, parameter_of}
use Rattle.ob_silica_steps.specs.Cells.{permission_in}
use Rattle.ob_silica_steps.specs.Configurations.{SilicaProgram, SlotCells, SilicaFrame, by_receiver, Loan, Rest, Configuration}
use Rattle.ob_silica_steps.specs.Here.{here, self_of}
use Rattle.ob_silica_steps.specs.Binding.{Bound, bound_cell}
use Rattle.ob_silica_steps.specs.Entering.{are_within, this_cell}
use Rattle.ob_silica_steps.specs.Starting.{declared_note}
use Rattle.ob_silica_formed.specs.Holdings.{held_at_start}
use Rattle.ob_flow_spec.specs.Contexts.{BodyFrame, Context, available, type_of_field, entry_of_field, listed_at, field_known, beginning, constructs}
use Rattle.ob_places_laws.specs.Serving.{AllowsState}
use Rattle.ob_places_laws.specs.Answering.{HasAnswer}
use Rattle.ob_places_laws.proofs.Beginnings.{this_of_transaction, beginning_field}
use Rattle.ob_places_laws.proofs.Conversions.{serves_itself}
use Rattle.ob_places_laws.proofs.Dispatch.{answer_entry_mode, answer_parameters}
use Rattle.ob_places_laws.proofs.Permissions.{same_mode_owns, same_mode_shares}
use Rattle.ob_places_laws.proofs.SeenStates.{converted_allows_state}
use Rattle.ob_places_laws.proofs.Tables.{there_is}
use Rattle.ob_coherent_spec.specs.Counting.{any, nth_object, in_slots, owners, one_if, field_cell}
use Rattle.ob_coherent_spec.specs.Runs.{times, entered_at, entries, constructions}
use Rattle.ob_coherent_spec.specs.Standing.{RefersToIn, Stands, HasItsState, NeedsOwner}
use Rattle.ob_coherent_spec.specs.Saying.{SaysOf, own_object, own_cell}
use Rattle.ob_coherent_spec.specs.Remaining.{IsCheckedProgram, BodyParts, body_of}
use Rattle.ob_coherent_spec.specs.Waiting.{IsFrame, tests_of, SharesThis, Lends, Waits}
use Rattle.ob_coherent_spec.specs.Coherent.{Beginning, IsAsDeclared, Holds, IsRunning}
use Rattle.ob_soundness_laws.proofs.counting.Numbers.{not_among_times, times_same}
use Rattle.ob_soundness_laws.proofs.counting.Entering.{this_alike, some_slots}
use Rattle.ob_soundness_laws.proofs.counting.Sums.{at_same, at_other}
use Rattle.ob_soundness_laws.proofs.frames.Apart.{apart_from_idle}
use Rattle.ob_soundness_laws.proofs.frames.Near.{EachSelf}
use Rattle.ob_soundness_laws.proofs.frames.Others.{declared_near}
use Rattle.ob_soundness_laws.proofs.places.Reading.{available_is, field_is, field_of_is}
use Rattle.ob_soundness_laws.specs.calls.Bound.{IsBoundTo, AreBound}
use Rattle.ob_soundness_laws.specs.calls.Binds.{Binds}
use Rattle.ob_soundness_laws.specs.calls.Entered.{BeginsOn}
use Rattle.ob_soundness_laws.proofs.calls.Within.{are_all_within}
use Rattle.ob_soundness_laws.proofs.calls.Entered.{begins_self, begins_stand, begins_held, begins_frame, begins_says}
use Rattle.ob_soundness_laws.proofs.calls.Beginning.{Begins, begins_to_run}
use Rattle.ob_soundness_laws.proofs.calls.Running.{zero_or_more, running_references}
use Rattle.ob_soundness_laws.proofs.calls.Called.{left_waiting, called_on, called_references, called_tests, called_entries, called_constructions, called_near, called_whole}
use Rattle.std.proofs.lemmas.Bool.Decides.{eqb_tells}
use Rattle.ob_soundness_laws.proofs.places.Standing.{has_state_same}
use Rattle.ob_soundness_laws.proofs.counting.Cells.{one_if_most}

-- bound slots, where those from a number on are the same
pub bound_slots : (table : ClassTable) (objects : List Object) (slots more : SlotCells) (k : ℕ) (ps : List Parameter)
    → ((j : ℕ) → k ≤ j → more j ≡ slots j) → AreBound table objects slots k ps → AreBound table objects more k ps
bound_slots table objects slots more k [] same b = tt
bound_slots table objects slots more k (p ∷ ps) same b = (
  subst (IsBoundTo table objects p.of) (sym (same k (omega arith))) b.0,
  bound_slots table objects slots more (suc k) ps (λ j low. same j (omega (arith, low))) b.1,
)

allows_from : (p : Permission) (s : ℕ) → ((a : States) → p ≡ owned a → a s ≡ true) → AllowsState p s
allows_from (owned a) s h = h a refl
allows_from shared s h = tt
allows_from unowned s h = tt

allows_to : (p : Permission) (s : ℕ) (a : States) → p ≡ owned a → AllowsState p s → a s ≡ true
allows_to p s a e h = subst (λ q. AllowsState q s) e h

shared_so : (p : Permission) → is_shared p ≡ true → p ≡ shared
shared_so (owned a) e = absurd (true≢false (sym e))
shared_so shared e = refl
shared_so unowned e = absurd (true≢false (sym e))

-- a field that isn't listed is entered as it's declared
unlisted_entry : (b : BodyFrame) (s : Signature) (j : ℕ) (f : Field) → s.listed ≡ [] → slice_get b.own.fields j ≡ Some f
    → entry_of_field b s j ≡ permission_of_type f.of
unlisted_entry b s j f none e =
    ap (λ ls. option_map_or (λ (l : Listed). permission_of l.entry) (listed_at ls j)
    (permission_of_type (type_of_field b j))) none
    ∙ ap (λ o. permission_of_type (option_map_or (λ (x : Field). x.of) o IntType)) e

module _ (program : SilicaProgram) (is : IsCheckedProgram program) (entry : Option ℕ) (beginning_of : Beginning)
    (c : Configuration)
    (k : IsRunning program.table entry beginning_of c) (contract : ContractId) (tx : TxId) (asked : Signature)
    (own : Contract)
    (b : Bound) (g : Context) (nb : ℕ) (binds : Binds program.table c k.whole.parts b g nb)
    (past : nb ≤ suc (length (parameters asked)))
    (n : ℕ) (there : n < length c.world.objects)
    (first : b.slots 0 ≡ Some (bound_cell (TypedReference contract asked.entry) (reference n)))
    (bound : AreBound program.table b.from.world.objects b.slots 0 (all_parameters contract asked))
    (wr : World) (objects : wr.objects ≡ b.from.world.objects) (locked : wr.locked ≡ b.from.world.locked)
    (progress : wr.progress ≡ b.from.world.progress) (idle : is_in_progress wr n ≡ false)
    (not_new : constructions n c ≡ 0)
    (ec : contract_at program.table (nth_object wr.objects n).contract ≡ Some own) (class : own.interface ≡ false)
    (serves : serves_as program.table (Reference contract) (Reference (nth_object wr.objects n).contract) ≡ true)
    (ans : HasAnswer program.table contract (nth_object wr.objects n).contract own tx asked)
    (public : asked.private ≡ false)
    (rest : SilicaTerms) (outer : List Rest) (result : Option ℕ) (loans : List Loan)
    (same_outer : outer ≡ k.outer) where
  abbrev pub o : Object
  o = nth_object wr.objects n

  abbrev pub s : Signature
  s = ans.signature

  pub begins : Begins program (nth_object wr.objects n).contract ans.number own ans.signature
  begins = begins_to_run program is o.contract ans.number own s ec class ans.there

  abbrev pub callee : SilicaFrame
  callee = record {
    slots = at b.slots 0 (Some (this_cell (nth_object wr.objects n).contract ans.signature.entry n));
    contract = (nth_object wr.objects n).contract;
    tx = ans.number;
    how = by_receiver;
    share_entered = is_shared (permission_of ans.signature.entry);
  }

  abbrev pub w : World
  w = enter n wr

  abbrev pub called : BodyParts
  called = record { own = own; signature = ans.signature; slots = begins.slots }

  -- The object.

  idle_times : times n c.world.progress ≡ 0
  idle_times = ap (times n) (sym (progress ∙ binds.stays.progress)) ∙ not_among_times n wr.progress idle

  no_entries : entries n c ≡ 0
  no_entries = k.whole.progress n ∙ idle_times

  apart_so : (self_of c.frame.slots ≢ n) × EachSelf (λ m. m ≢ n) c.stack
  apart_so = apart_from_idle program.table
      (NeedsOwner program.table c.world.objects) c c.frame k.whole.parts _ _ c.stack n
      (let one = no_entries in omega (arith, one, not_new)) k.whole.waiting

  placed_now : HasItsState program.table (nth_object c.world.objects n)
  placed_now = (k.whole.declared n there no_entries not_new).placed

  contract_same : (nth_object wr.objects n).contract ≡ (nth_object c.world.objects n).contract
  contract_same = ap (λ os. (nth_object os n).contract) objects ∙ binds.stays.contracts n

  state_same : (nth_object wr.objects n).state ≡ (nth_object c.world.objects n).state
  state_same = ap (λ os. (nth_object os n).state) objects ∙ binds.stays.states n

  placed_then : HasItsState program.table (nth_object wr.objects n)
  placed_then = has_state_same program.table
      (nth_object c.world.objects n)
      (nth_object wr.objects n) contract_same state_same placed_now

  there_now : n < length wr.objects
  there_now = let e = ap (λ (os : List Object). length os) objects in let same = binds.stays.count in omega
      (arith, there, e, same)

  -- `this` of the body.

  stands_first : Stands program.table wr.objects (bound_cell (TypedReference contract asked.entry) (reference n))
  stands_first = subst (λ os. Stands program.table os
      (bound_cell (TypedReference contract asked.entry) (reference n))) (sym objects)
      (binds.bound 0 (bound_cell (TypedReference contract asked.entry) (reference n)) first)

  shared_asked : permission_of ans.signature.entry ≡ shared → permission_of asked.entry ≡ shared
  shared_asked e = shared_so (permission_of asked.entry)
      (sym (same_mode_shares (permission_of s.entry) (permission_of asked.entry)
      (answer_entry_mode program.table contract o.contract asked s ans.answers)) ∙ ap is_shared e)

  this_stands : Stands program.table wr.objects (this_cell (nth_object wr.objects n).contract ans.signature.entry n)
  this_stands = record {
    kind = (there_now, serves_itself program.table (Reference o.contract));
    marked = λ e. stands_first.marked (shared_asked e);
    states = λ a e. in_state a e;
  }
    where
      in_state : (a : States) → permission_of ans.signature.entry ≡ owned a
          → RefersToIn program.table wr.objects (Reference (nth_object wr.objects n).contract) a (reference n)
      in_state a e =
          let x = there_is (contract_at program.table o.contract) (λ y. IsStateOf y o.state) placed_then in
          let old : AllowsState (permission_of asked.entry) (seen_state program.table contract o) =
          allows_from (permission_of asked.entry) (seen_state program.table contract o)
          (λ q i. stands_first.states q i) in
          allows_to (permission_of s.entry) (seen_state program.table o.contract o) a e
          (subst (λ q. AllowsState q (seen_state program.table o.contract o)) (sym ans.answers.entry)
          (converted_allows_state program.table is.table x.0 o x.1 x.2 contract o.contract
          (permission_of asked.entry) serves
          (serves_itself program.table (Reference o.contract)) old))

  same_parameters : parameters ans.signature ≡ parameters asked
  same_parameters = answer_parameters program.table contract o.contract asked s ans.answers

  few_parameters : length (parameters asked) ≡ length ans.signature.params
  few_parameters = ap (λ (ps : List Parameter). length ps) (sym same_parameters) ∙ length-map s.params parameter_of

  slots_after : (j : ℕ) → 1 ≤ j → callee.slots j ≡ b.slots j
  slots_after j low = at_other b.slots 0 (Some (this_cell o.contract s.entry n)) j (λ e. omega (arith, e, low))

  pub bound_after : AreBound program.table wr.objects callee.slots 1 (parameters ans.signature)
  bound_after = subst (AreBound program.table wr.objects callee.slots 1) (sym same_parameters)
      (bound_slots program.table wr.objects b.slots callee.slots 1 (parameters asked) slots_after
      (subst (λ os. AreBound program.table os b.slots 1 (parameters asked)) (sym objects) bound.1))

  pub within : are_within program.table wr.objects callee.slots 0
      (all_parameters (nth_object wr.objects n).contract ans.signature) ≡ true
  within = are_all_within program.table wr.objects callee.slots 0 (all_parameters o.contract s) (
    record {
      value = reference n;
      set = at_same b.slots 0 (Some (this_cell o.contract s.entry n));
      stands = this_stands;
    },
    bound_after,
  )

  pub begun : BeginsOn program.table wr.objects callee ans.signature (permission_of ans.signature.entry) n
  begun = record {
    this = at_same b.slots 0 (Some (this_cell o.contract s.entry n));
    stands = this_stands;
    bound = bound_after;
    unset = λ j low. slots_after j (omega (arith, low))
        ∙ binds.above j (let few = few_parameters in omega (arith, past, few, low));
  }

  pub self_is : self_of callee.slots ≡ n
  self_is = begins_self program.table wr.objects callee s (permission_of s.entry) n begun

  pub no_list : ans.signature.listed ≡ []
  no_list = ans.transaction.private (ans.answers.public public)

  plain_number : constructs (body_of program.table callee called) ≡ false
  plain_number = ⊎_elim (λ e. absurd (ans.no_constructor (eqb-true ans.number.0 0 e))) (λ e. e)
      (cases_Bool (nat_eq ans.number.0 0))

  pub callee_frame : IsFrame program.table w.objects callee called
  callee_frame = begins_frame program.table wr.objects callee s
      (permission_of s.entry) n begun own begins.slots ec class
      ans.there begins.few begins.params refl
      (λ e. absurd (ans.no_constructor (eqb-true ans.number.0 0 e))) (λ e. absurd (cc)) (λ e. no_list)

  pub bound_owners : (m : ℕ) → in_slots owns m callee.slots ≡ in_slots owns m b.slots
  bound_owners m = this_alike owns m b.slots (bound_cell (TypedReference contract asked.entry) (reference n))
      (this_cell o.contract s.entry n) first refl
      (same_mode_owns (permission_of s.entry) (permission_of asked.entry)
      (answer_entry_mode program.table contract o.contract asked s ans.answers)) some_slots

  pub bound_references : (m : ℕ) → in_slots any m callee.slots ≡ in_slots any m b.slots
  bound_references m = this_alike any m b.slots (bound_cell (TypedReference contract asked.entry) (reference n))
      (this_cell o.contract s.entry n) first refl refl some_slots

  pub progress_grows : (m : ℕ) → times m c.world.progress ≤ times m w.progress
  progress_grows m = let e = ap (times m) (progress ∙ binds.stays.progress) in omega (arith, e)

  pub each_apart : EachSelf (λ m. m ≢ n) c.stack
  each_apart = apart_so.1

  pub caller_apart : self_of b.from.slots ≢ self_of callee.slots
  caller_apart e = apart_so.0 (sym binds.stays.this ∙ e ∙ self_is)

  pub apart_stays : (m : ℕ) → m ≢ n → m ≢ self_of c.frame.slots → m ≢ self_of callee.slots
  apart_stays m stay other e = stay (e ∙ self_is)

  abbrev pub d : Configuration
  d = called_on c b callee begins.terms rest outer result loans w

  entries_now : (m : ℕ) → entries m d ≡ entered_at m callee.how callee.slots + entries m c
  entries_now = called_entries program.table is.table entry beginning_of c k b g nb binds callee begins.terms rest
      outer result
      loans w same_outer objects locked bound_owners bound_references progress_grows (λ m. m ≢ n) each_apart apart_stays

  pub entered_so : (m : ℕ) → entries m d ≡ times m w.progress
  entered_so m =
      let e = entries_now m in
      let same = k.whole.progress m in
      let p = ap (times m) (progress ∙ binds.stays.progress) in
      let i : entered_at m by_receiver callee.slots ≡ one_if (nat_eq n m) =
      ap (λ x. one_if (nat_eq x m)) self_is in
      omega (arith, e, same, p, i)

  pub entered_once : (m : ℕ) → entries m d ≤ 1
  entered_once m = ⊎_elim
      (λ same. let e = entries_now m in
      let none = subst (λ j. entries j c ≡ 0) same.1 no_entries in
      let one = one_if_most (nat_eq (self_of callee.slots) m) in
      omega (arith, e, none, one))
      (λ other. let e = entries_now m in
      let most = k.whole.entered_once m in
      let i : entered_at m by_receiver callee.slots ≡ 0 =
      ap (λ x. one_if (nat_eq x m)) self_is
      ∙ ap one_if other.0 in
      omega (arith, e, most, i))
      (eqb_tells n m)

  -- The configuration runs.

  module _ (waiting : Waits program.table (NeedsOwner program.table w.objects) d callee called
      (self_of callee.slots ∷ [])
      (λ m. tests_of m callee.slots []) (left_waiting c b rest outer result loans))
      (same_parts : waiting.parts ≡ k.whole.parts)
      (lend : Lends program.table (nth_object wr.objects n).contract ans.number by_receiver
      (left_waiting c b rest outer result loans)) where
    abbrev whole : Holds program.table entry beginning_of d
    whole = called_whole program.table is.table entry beginning_of c k b g nb binds callee begins.terms rest outer
        result
        loans w same_outer objects locked bound_owners bound_references progress_grows
        (λ m. m ≢ n) each_apart apart_stays
        called callee_frame (begins_stand program.table wr.objects callee s
        (permission_of s.entry) n begun) waiting same_parts
        entered_so entered_once

    declared_now : IsAsDeclared program.table (NeedsOwner program.table w.objects) b.from.notes w.objects n
    declared_now = declared_near program.table (self_of c.frame.slots) (λ m. m ≢ n)
        (NeedsOwner program.table c.world.objects)
        (NeedsOwner program.table w.objects) c d
        (called_near program.table is.table entry beginning_of c k b g nb binds callee begins.terms rest outer result
        loans w same_outer objects locked bound_owners bound_references progress_grows
        (λ m. m ≢ n) each_apart apart_stays)
        n there (λ e. apart_so.0 (sym e)) (k.whole.declared n there no_entries not_new)

    abbrev bf : BodyFrame
    bf = body_of program.table callee called

    fields_say : (j : ℕ) → available bf j (state_number (own_object (here d)).state) ≡ true
        → SaysOf (NeedsOwner program.table w.objects) (field_known bf j) (own_cell (here d) j)
    fields_say j can =
        let can_n : available bf j (state_number (nth_object wr.objects n).state) ≡ true =
        subst (λ i. available bf j (state_number (nth_object wr.objects i).state) ≡ true) self_is can in
        let f = field_is own (nth_object wr.objects n).state j
        (sym (available_is bf j (nth_object wr.objects n).state) ∙ can_n) in
        let says = declared_now.fields j f.0 (field_of_is program.table (nth_object wr.objects n) own j ec ∙ f.1) f.2 in
        let known_is : field_known bf j ≡ Some (declared_note f.0.of) =
        beginning_field bf j f.0 f.1 plain_number
        ∙ ap (λ p. Some (known (kind_of_resolved f.0.of) p)) (unlisted_entry bf s j f.0 no_list f.1) in
        subst (λ y. SaysOf (NeedsOwner program.table w.objects) y (own_cell (here d) j)) (sym known_is)
        (subst (λ i. SaysOf (NeedsOwner program.table w.objects) (Some (declared_note f.0.of))
        (field_cell b.from.notes w.objects i j)) (sym self_is) says)

    shares_now : SharesThis callee d 0
    shares_now e =
        let is_entry : permission_of ans.signature.entry ≡ shared = sym (ap permission_in begun.this) ∙ e in
        let marked : (nth_object w.objects n).shared ≡ true = this_stands.marked is_entry in
        let more = times_same n wr.progress in (
          subst (λ i. 0 < times i w.progress) (sym self_is) (omega (arith, more)),
          subst (λ i. (owners i d ≤ 0) ⊎ ((callee.share_entered ≡ true) × (0 < times i w.locked))) (sym self_is)
              (⊎_elim (λ none. inl (omega (arith, none)))
              (λ some. inr (
                ap is_shared is_entry,
                ⊎_elim (λ l. l)
                    (λ t.
                    let same = called_tests program.table is.table entry beginning_of c k b g nb binds callee
                    begins.terms rest outer result
                    loans w same_outer objects locked bound_owners bound_references progress_grows
                    (λ m. m ≢ n) each_apart apart_stays n in
                    let busy = k.whole.tested n (omega (arith, t, same)) in
                    let quiet = idle_times in
                    absurd (omega (arith, busy, quiet)))
                    (whole.shared n marked some),
              ))
              (zero_or_more (owners n d))),
        )

    pub receiver_runs : IsRunning program.table entry beginning_of d
    receiver_runs = record {
      whole = whole;
      terms = begins.terms;
      outer = [];
      control = refl;
      context = beginning (record {
        table = program.table;
        here = (nth_object wr.objects n).contract;
        own = own;
        tx = ans.number;
        signature = ans.signature;
        slots = begins.slots;
      });
      says = begins_says program.table wr.objects callee s (permission_of s.entry) n begun
          (NeedsOwner program.table w.objects) (here d) bf refl refl refl
          (ap (λ (y : Known). y.permission)
          (this_of_transaction bf plain_number)) fields_say;
      holdings = held_at_start (nth_object wr.objects n).contract ans.signature.params;
      held = begins_held program.table wr.objects callee s (permission_of s.entry) n begun;
      remains = begins.remains;
      opens = tt;
      placed = λ ne. subst (λ i. HasItsState program.table (nth_object wr.objects i)) (sym self_is) placed_then;
      shares = shares_now;
      owns_made = λ e. absurd (cc);
      unreferred = λ m some.
          let new = called_constructions program.table is.table entry beginning_of c k b g nb binds callee
          begins.terms rest outer result
          loans w same_outer objects locked bound_owners bound_references progress_grows
          (λ m. m ≢ n) each_apart apart_stays m in
          let old : 0 < constructions m c = omega (arith, some, new) in
          let refs = called_references program.table is.table entry beginning_of c k b g nb binds callee begins.terms
          rest outer result
          loans w same_outer objects locked bound_owners bound_references progress_grows
          (λ m. m ≢ n) each_apart apart_stays m in
          let kept = binds.refers m old in
          let was = running_references program.table is.table entry beginning_of c k m in
          let few = k.unreferred m old in
          omega (arith, refs, kept, was, few);
      lends = (lend, k.lends);
    }
