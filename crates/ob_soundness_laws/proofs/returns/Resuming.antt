-- A frame that waited goes on, once everything that it had lent is given back.
use Rattle.std.proofs.Common.{◌≡◌, ◌≢◌, ℕ, zero, suc, ◌+◌, ◌<◌, ◌≤◌, ◌⊎◌, inl, inr, ⊎_elim, true, false, List, [], ◌∷◌, length, Option, Some, None, slice_get, option_map, refl, sym, ap, ◌∙◌, subst, arith, ne_eqb}
use Rattle.std.specs.Prelude.{⊤}
use Rattle.std.specs.Option.{option_map_or, option_and_then}
use Rattle.std.proofs.lemmas.Bool.{cases_lt, or_right}
use Rattle.std.proofs.lemmas.List.{length-map}
use Rattle.std.proofs.lemmas.Option.{slice_get_within}
use Rattle.ob_perm.specs.Permissions.{Permission, owns}
use Rattle.ob_perm.specs.Masks.{permission_of}
use Rattle.ob_table.specs.Tables.{ClassTable, contract_at}
use Rattle.ob_table.specs.declared.contract.Contract.{Contract}
use Rattle.ob_table.specs.declared.contract.Field.{Field}
use Rattle.ob_table.specs.declared.contract.Listed.{Listed}
use Rattle.ob_table.specs.declared.contract.ResolvedType.{ResolvedType}
use Rattle.ob_table.specs.declared.contract.ResolvedType.TheVariants.{Int as IntType}
use Rattle.ob_table.specs.declared.contract.Signature.{Signature}
use Rattle.ob_table_spec.specs.Conditions.{IsClassTable}
use Rattle.ob_table_spec.specs.WellFormed.{kind_of_resolved}
use Rattle.ob_heap_spec.specs.Values.{reference}
use Rattle.ob_heap_spec.specs.Objects.{Object, is_available, state_number}
use Rattle.ob_heap_spec.specs.Contents.{object_at}
use Rattle.ob_heap_spec.specs.Worlds.{World}
use Rattle.ob_silica_places.specs.Known.{known, permission_of_type}
use Rattle.ob_silica_places.specs.Places.{Location, slot, field, this, same_location}
use Rattle.ob_silica_places.specs.Parameters.{Parameter, parameter_of, all_parameters}
use Rattle.ob_silica_steps.specs.Cells.{Cell, permission_in, object_in}
use Rattle.ob_silica_steps.specs.Configurations.{SlotCells, How, by_receiver, by_this, by_new, SilicaFrame, Ends, plain_end, test_end, lock_end, loop_end, Rest, Waiting, runs, Notes, Configuration}
use Rattle.ob_silica_steps.specs.Here.{here, self_of, field_of, field_value, read}
use Rattle.ob_silica_steps.specs.Returning.{with_result, resumes}
use Rattle.ob_flow_spec.specs.Contexts.{BodyFrame, available, listed_at, exit_of_field, permission_at, is_tested}
use Rattle.ob_flow_spec.specs.Joining.{same_mode}
use Rattle.ob_coherent_spec.specs.Counting.{nth_object, field_cell, Counted, any, in_cell, in_slots, in_objects, in_handles, in_waiting, in_all, owners}
use Rattle.ob_coherent_spec.specs.Runs.{times, entered_at, entered_among, entries, constructing_at, constructing_among, constructions, tested_places, tested_before, tests_in, tests_among, open_tests, locks, locks_around, locks_among, locks_entry}
use Rattle.ob_coherent_spec.specs.Standing.{NeedsOwner, HasItsState}
use Rattle.ob_coherent_spec.specs.Saying.{SaysOf, Says, every}
use Rattle.ob_coherent_spec.specs.Remaining.{body_of}
use Rattle.ob_coherent_spec.specs.OpenTests.{IsTestOf, IsOpen, AreOpen}
use Rattle.ob_coherent_spec.specs.Waiting.{IsFrame, tests_of, SharesThis, is_result, is_on_this, gives_back_as, AwaitsResult, IsApart, Waits, AllWait, has_lent}
use Rattle.ob_coherent_spec.specs.Coherent.{Beginning, IsAsDeclared, Holds, IsRunning, IsCoherent, running, StepsSo}
use Rattle.ob_soundness_laws.specs.frames.Steps.{KeepsArgument}
use Rattle.ob_soundness_laws.proofs.frames.Near.{IsNear, frame_with, all_near, each_self, keeps_itself}
use Rattle.ob_soundness_laws.proofs.frames.Whole.{began_kept}
use Rattle.ob_soundness_laws.proofs.counting.Places.{no_slots}
use Rattle.ob_soundness_laws.proofs.counting.Frames.{entered_by, entered_other, constructing_by, tests_other, tests_in_same, self_same}
use Rattle.ob_soundness_laws.proofs.places.Reading.{available_is, field_is, same_place}
use Rattle.ob_soundness_laws.proofs.frames.Whole.{entered_same, constructing_same}
use Rattle.ob_soundness_laws.proofs.returns.Result.{SlotsNow, slots_now, slot_settled, field_settled}
use Rattle.ob_soundness_laws.proofs.returns.Below.{far_tests, with_progress, all_progressed}
use Rattle.ob_soundness_laws.proofs.returns.Returned.{back_to, Returned, left_progress, left_is, left_times, left_aside}

some_same : {A : Type 0} (x y : A) → Some x ≡ Some y → x ≡ y
some_same x y e = cc

on_this : (how : How) → (how ≡ by_this) ⊎ (is_on_this how ≡ false)
on_this by_this = inl refl
on_this by_receiver = inr refl
on_this by_new = inr refl

-- a field that is there is one of the contract
pub field_there : (b : BodyFrame) (j : ℕ) (o : Object) → available b j (state_number o.state) ≡ true
    → (d : Field) × (slice_get b.own.fields j ≡ Some d) × (is_available o.state d ≡ true)
field_there b j o e = field_is b.own o.state j (sym (available_is b j o.state) ∙ e)

-- what a body leaves in a field depends on the contract and the signature alone
pub exit_in : Contract → Signature → ℕ → Permission
exit_in own s j = option_map_or (λ (l : Listed). permission_of l.exit) (listed_at s.listed j)
    (permission_of_type (option_map_or (λ (x : Field). x.of) (slice_get own.fields j) IntType))

pub exit_same : (b : BodyFrame) (s : Signature) (j : ℕ) → exit_of_field b s j ≡ exit_in b.own s j
unfolding exit_in
exit_same b s j = refl

-- where none is listed, it's as declared
pub exit_declared : (own : Contract) (s : Signature) (j : ℕ) (d : Field) → s.listed ≡ [] → slice_get own.fields j ≡ Some
    d
    → exit_in own s j ≡ permission_of_type d.of
unfolding exit_in
exit_declared own s j d none e =
    ap (λ ls. option_map_or (λ (l : Listed). permission_of l.exit) (listed_at ls j)
    (permission_of_type (option_map_or (λ (x : Field). x.of) (slice_get own.fields j) IntType))) none
    ∙ ap (λ y. permission_of_type (option_map_or (λ (x : Field). x.of) y IntType)) e

-- Open tests, where slots that aren't under test are others.

module _ (b : BodyFrame) (notes : Notes) (w : World) (ps : List ℕ) (old new : SlotCells) (same : self_of new ≡ self_of
    old) where
  reads_too : (p : Location) → ((j : ℕ) → p ≡ slot j → new j ≡ old j) → read b.table (record {
    slots = new;
    notes = notes;
    world = with_progress w ps;
  }) p
      ≡ read b.table (record { slots = old; notes = notes; world = w }) p
  reads_too (slot j) keep = keep j refl
  reads_too (field j) keep = ap (λ n. option_map (λ v. record { value = v; note = notes.fields n j })
      (option_and_then (λ o. field_value b.table o j) (object_at w.objects n))) same

  test_too : (p : Location) (n m : ℕ) → n ≡ m → ((j : ℕ) → p ≡ slot j → new j ≡ old j)
      → IsTestOf b (record { slots = old; notes = notes; world = w }) p n
      → IsTestOf b (record { slots = new; notes = notes; world = with_progress w ps }) p m
  test_too p n m e keep a = record {
    inside = a.inside;
    cell = a.cell;
    found = reads_too p keep ∙ a.found;
    object = a.object ∙ ap reference e;
  }

  open_too : (e : Ends) (outer : List Location) → ((j : ℕ) → is_tested (tested_before e outer) (slot j) ≡ true
      → new j ≡ old j)
      → IsOpen b (record { slots = old; notes = notes; world = w }) e
      → IsOpen b (record { slots = new; notes = notes; world = with_progress w ps }) e
  open_too plain_end outer keep a = tt
  open_too (test_end p) outer keep a = (
    a.0,
    test_too p (self_of old) (self_of new) (sym same) (λ j e. keep j (subst (λ q. is_tested (q ∷ outer) (slot j) ≡ true)
        (sym e) (is_first (slot j) outer))) a.1,
    ap (λ n. (nth_object w.objects n).shared) same ∙ a.2,
  )
    where
      is_first : (p : Location) (outer : List Location) → is_tested (p ∷ outer) p ≡ true
      is_first p outer = rw (same_place p) refl
  open_too (lock_end p n) outer keep a = (
    a.0,
    test_too p n n refl (λ j e. keep j (subst (λ q. is_tested (q ∷ outer) (slot j) ≡ true) (sym e) (is_first (slot j)
        outer))) a.1,
    a.2,
  )
    where
      is_first : (p : Location) (outer : List Location) → is_tested (p ∷ outer) p ≡ true
      is_first p outer = rw (same_place p) refl
  open_too (loop_end first x body end) outer keep a = a

  later : (e : Ends) (outer : List Location) (p : Location) → is_tested outer p ≡ true → is_tested (tested_before e
      outer) p ≡ true
  later plain_end outer p t = t
  later (test_end q) outer p t = or_right (same_location p q) _ t
  later (lock_end q n) outer p t = or_right (same_location p q) _ t
  later (loop_end first x body end) outer p t = t

  pub opens_too : (outer : List Rest) → ((j : ℕ) → is_tested (tested_places outer) (slot j) ≡ true → new j ≡ old j)
      → AreOpen b (record { slots = old; notes = notes; world = w }) outer
      → AreOpen b (record { slots = new; notes = notes; world = with_progress w ps }) outer
  opens_too [] keep a = tt
  opens_too (r ∷ outer) keep a = (
    open_too r.ends (tested_places outer) keep a.0,
    a.1,
    opens_too outer (λ j t. keep j (later r.ends (tested_places outer) (slot j) t)) a.2,
  )

-- The frame that waited goes on.

module _ (table : ClassTable) (entry : Option ℕ) (beginning : Beginning) (t : IsClassTable table) (f : SilicaFrame)
    (result : Option Cell)
    (h : Waiting) (hs : List Waiting) (notes : Notes) (w : World) (k : Returned table entry beginning f result h hs
    notes w)
    (loans : h.loans ≡ []) where
  c : Configuration
  c = back_to f result h hs notes w

  waits : Waits table (NeedsOwner table w.objects) (back_to f result h hs notes w) f k.whole.parts (self_of f.slots ∷
      [])
      (λ n. tests_of n f.slots []) h
  waits = k.whole.waiting.0

  below : AllWait table (NeedsOwner table w.objects) (back_to f result h hs notes w) h.frame k.whole.waiting.0.parts
      (self_of h.frame.slots ∷ (self_of f.slots ∷ [])) (λ n. tests_of n h.frame.slots h.outer + tests_of n f.slots [])
      hs
  below = k.whole.waiting.1

  abbrev pub new_slots : SlotCells
  new_slots = with_result h.result result h.frame.slots

  abbrev pub left : List ℕ
  left = left_progress f.how (self_of f.slots) w.progress

  abbrev pub resumed_in : World → Configuration
  resumed_in v = record {
    frame = frame_with h.frame new_slots;
    control = runs h.terms h.outer;
    stack = hs;
    notes = notes;
    world = v;
  }

  abbrev pub resumed : Configuration
  resumed = resumed_in (with_progress w left)

  now_is : SlotsNow table w.objects (NeedsOwner table w.objects) (body_of table h.frame k.whole.waiting.0.parts)
      k.whole.waiting.0.context
      k.whole.waiting.0.holdings h result new_slots
  now_is = slots_now table w.objects (NeedsOwner table w.objects) (body_of table h.frame k.whole.waiting.0.parts)
      k.whole.waiting.0.context
      k.whole.waiting.0.holdings h f.how loans k.whole.waiting.0.frame.few k.whole.waiting.0.cells
      k.whole.waiting.0.frame.unset k.whole.waiting.0.says.slots
      k.whole.waiting.0.held h.result (gives_back_as f k.whole.parts) result refl k.whole.waiting.0.result k.given
      k.returned k.whole.waiting.0.result_held

  zero_same : new_slots 0 ≡ h.frame.slots 0
  zero_same = now_is.params 0 (omega arith)

  same_self : self_of new_slots ≡ self_of h.frame.slots
  same_self = self_same h.frame.slots new_slots (ap object_in zero_same)

  -- owners and references
  parts_before : (counts : Counted) (n : ℕ) → in_all counts n (back_to f result h hs notes w) ≡ in_slots counts n
      f.slots + in_objects counts n notes w.objects
      + (in_cell counts n result + (in_slots counts n h.frame.slots + in_waiting counts n hs) + in_handles counts n
      notes.handles)
  parts_before counts n = refl

  parts_after : (counts : Counted) (n : ℕ) (v : World) → v.objects ≡ w.objects → in_all counts n (resumed_in v) ≡
      in_slots counts n new_slots + in_objects counts n notes w.objects
      + (0 + in_waiting counts n hs + in_handles counts n notes.handles)
  parts_after counts n v e = ap (λ (os : List Object). in_slots counts n new_slots + in_objects counts n notes os
      + (0 + in_waiting counts n hs + in_handles counts n notes.handles)) e

  pub same_counts : (counts : Counted) (n : ℕ) (v : World) → v.objects ≡ w.objects
      → in_all counts n (back_to f result h hs notes w) ≡ in_all counts n (resumed_in v) + in_slots counts n f.slots
  same_counts counts n v e = let a = parts_before counts n in let b = parts_after counts n v e in let d = now_is.count
      counts n in omega (arith, a, b, d)

  callee_none : (n : ℕ) → NeedsOwner table w.objects n → in_slots owns n f.slots ≡ 0
  callee_none n needs = no_slots owns n f.slots (λ j. k.none j (ap (λ ls. has_lent ls j) loans) n needs)

  -- transactions in progress
  entries_before : (n : ℕ) → entries n (back_to f result h hs notes w) ≡ entered_at n f.how f.slots +
      (entered_at n h.frame.how h.frame.slots + entered_among n hs)
  entries_before n = refl

  entries_after : (n : ℕ) → entries n resumed ≡ entered_at n h.frame.how h.frame.slots + entered_among n hs
  entries_after n = ap (λ x. x + entered_among n hs) (entered_same n h.frame.how h.frame.slots new_slots same_self)

  times_left : (n : ℕ) → times n left + entered_at n f.how f.slots ≡ times n w.progress
  times_left n = left_times f.how f.slots w.progress n (let a = k.whole.progress n in let b = entries_before n in omega
      arith)

  left_kept : (n : ℕ) → n ≢ self_of f.slots → 0 < times n w.progress → 0 < times n left
  left_kept n ne has = let a = times_left n in let none = entered_other n f.how f.slots (λ e. ne (sym e)) in omega arith

  aside : (left ≡ w.progress) ⊎ (self_of h.frame.slots ≢ self_of f.slots)
  aside = left_aside f.how (self_of h.frame.slots) (self_of f.slots) w.progress (waits_apart f.how
      k.whole.waiting.0.apart)
    where
      waits_apart : (how : How) → IsApart how (self_of h.frame.slots) (self_of f.slots ∷ []) (self_of f.slots)
          → IsApart how (self_of h.frame.slots) (self_of f.slots ∷ []) (self_of f.slots)
      waits_apart how a = a

  -- tests
  open_same : (n : ℕ) → open_tests n (back_to f result h hs notes w) ≡ open_tests n resumed
  open_same n = let a : tests_in n new_slots h.outer ≡ tests_in n h.frame.slots h.outer = tests_in_same n h.frame.slots
      new_slots h.outer same_self in
      let b : open_tests n (back_to f result h hs notes w) ≡ 0 + (tests_in n h.frame.slots h.outer + tests_among n hs) =
      refl in
      let d : open_tests n resumed ≡ tests_in n new_slots h.outer + tests_among n hs = refl in omega (arith, a, b, d)

  no_open : f.how ≡ by_receiver → open_tests (self_of f.slots) resumed ≡ 0
  no_open e = let far : self_of h.frame.slots ≢ self_of f.slots = apart f.how e k.whole.waiting.0.apart in
      let a = tests_in_same (self_of f.slots) h.frame.slots new_slots h.outer same_self in
      let b = tests_other (self_of f.slots) h.frame.slots h.outer far in
      let d = far_tests table (NeedsOwner table w.objects) (back_to f result h hs notes w) (self_of f.slots) h.frame
      k.whole.waiting.0.parts
      (self_of h.frame.slots ∷ (self_of f.slots ∷ [])) _ hs (inr (inl refl)) far k.whole.waiting.1 in omega
      (arith, a, b, d)
    where
      apart : (how : How) → how ≡ by_receiver → IsApart how (self_of h.frame.slots) (self_of f.slots ∷ [])
          (self_of f.slots)
          → self_of h.frame.slots ≢ self_of f.slots
      apart by_receiver e a = a.0
      apart by_this e a = absurd (cc)
      apart by_new e a = absurd (cc)

  tested_now : (n : ℕ) → 0 < open_tests n resumed → 0 < times n left
  tested_now n has = ⊎_elim
      (λ was. absurd (let e = entered_by n f.how f.slots was in let z = no_open e.0 in
      let y : open_tests n resumed ≡ 0 = subst (λ i. open_tests i resumed ≡ 0) e.1 z in omega arith))
      (λ none. let a = times_left n in let b = open_same n in let d = k.whole.tested n (omega arith) in omega arith)
      (cases_lt 0 (entered_at n f.how f.slots))

  -- the frame
  frame_now : IsFrame table w.objects (frame_with h.frame new_slots) k.whole.waiting.0.parts
  frame_now = let a = k.whole.waiting.0.frame in record {
    own = a.own;
    class = a.class;
    signature = a.signature;
    few = a.few;
    params = a.params;
    this = a.this;
    set = zero_same ∙ a.set;
    refers = a.refers ∙ ap reference (sym same_self);
    kind = a.kind;
    there = subst (λ n. n < length w.objects) (sym same_self) a.there;
    contract = ap (λ n. (nth_object w.objects n).contract) same_self ∙ a.contract;
    constructor = a.constructor;
    constructs = a.constructs;
    listed = a.listed;
    arguments = λ j p e. let r = a.arguments j p e in (r.0, now_is.params j (low j p e) ∙ r.1, r.2);
    unset = now_is.unset;
  }
    where
      low : (j : ℕ) (p : Parameter) → slice_get (all_parameters h.frame.contract k.whole.waiting.0.parts.signature) j ≡
          Some p
          → j ≤ length k.whole.waiting.0.parts.signature.params
      low j p has = let within = slice_get_within (all_parameters h.frame.contract k.whole.waiting.0.parts.signature) j
          p has in
          let same = length-map k.whole.waiting.0.parts.signature.params parameter_of in omega arith

  keeps_arguments : (left : ℕ → ℕ) (j : ℕ) (x : Cell) → j ≤ length k.whole.waiting.0.parts.signature.params
      → h.frame.slots j ≡ Some x
      → KeepsArgument left x (new_slots j)
  keeps_arguments left j x few set = keeps_itself left x (new_slots j) (now_is.params j few ∙ set)

  -- the frames below
  near : IsNear table (self_of h.frame.slots) (λ n. ⊤) (NeedsOwner table w.objects) (NeedsOwner table w.objects)
      (back_to f result h hs notes w) (resumed_in w)
  near = record {
    count = omega arith;
    contracts = λ n b. refl;
    states = λ n b ne. refl;
    fields = λ n j b ne. refl;
    notes = λ n j b ne. refl;
    shared = λ n e. e;
    progress = λ n s e. e;
    lock_ends = λ n e. inl e;
    needs = λ n b e. e;
    stand = k.whole.fields;
  }

  balanced : (n : ℕ) → owners n (resumed_in w) + (tests_of n h.frame.slots h.outer + tests_of n f.slots []) ≤ owners n
      (back_to f result h hs notes w) + tests_of n new_slots h.outer
  balanced n = let a = same_counts owns n w refl in
      let b : tests_in n new_slots h.outer ≡ tests_in n h.frame.slots h.outer = tests_in_same n h.frame.slots new_slots
      h.outer same_self in omega (arith, a, b)

  waiting_before : AllWait table (NeedsOwner table w.objects) (resumed_in w) (frame_with h.frame new_slots)
      k.whole.waiting.0.parts
      (self_of h.frame.slots ∷ (self_of f.slots ∷ [])) (λ n. tests_of n new_slots h.outer) hs
  waiting_before = all_near table (self_of h.frame.slots) (λ n. ⊤) (NeedsOwner table w.objects) (NeedsOwner table
      w.objects) (back_to f result h hs notes w) (resumed_in w) near
      h.frame k.whole.waiting.0.parts new_slots (self_of h.frame.slots ∷ (self_of f.slots ∷ [])) (λ n. tests_of n
      h.frame.slots h.outer + tests_of n f.slots [])
      (λ n. tests_of n new_slots h.outer) hs same_self (λ j x few set. keeps_arguments (λ n. owners n (resumed_in w)) j
      x few set)
      k.whole.waiting.0.cells (inl refl) (λ n b. balanced n) (inl refl) (each_self (λ n. ⊤) (λ n. tt) hs)
      k.whole.waiting.1

  waiting_now : AllWait table (NeedsOwner table w.objects) resumed (frame_with h.frame new_slots)
      k.whole.waiting.0.parts
      (self_of new_slots ∷ []) (λ n. tests_of n new_slots h.outer) hs
  waiting_now = subst (λ i. AllWait table (NeedsOwner table w.objects) resumed (frame_with h.frame new_slots)
      k.whole.waiting.0.parts
      (i ∷ []) (λ n. tests_of n new_slots h.outer) hs) (sym same_self)
      (all_progressed table (NeedsOwner table w.objects) (resumed_in w) left (self_of f.slots) left_kept
      (frame_with h.frame new_slots) k.whole.waiting.0.parts
      (self_of h.frame.slots ∷ (self_of f.slots ∷ [])) (self_of h.frame.slots ∷ []) (λ n. tests_of n new_slots h.outer)
      hs (inr (inl refl))
      (subst (λ i. (left ≡ w.progress) ⊎ (i ≢ self_of f.slots)) (sym same_self) aside) (λ i a. (a.0, tt))
      waiting_before)

  -- the object that is left
  own_contract : (own : Contract) → contract_at table (nth_object w.objects (self_of f.slots)).contract ≡ Some own
      → own ≡ k.whole.parts.own
  own_contract own e = some_same own k.whole.parts.own (sym e ∙ ap (contract_at table) k.whole.frame.contract
      ∙ k.whole.frame.own)

  left_declared : f.how ≢ by_this → IsAsDeclared table (NeedsOwner table w.objects) notes w.objects (self_of f.slots)
  left_declared other = record {
    placed = k.placed;
    fields = λ j d e there. let at' : slice_get k.whole.parts.own.fields j ≡ Some d = fields_at j d e in
        subst (λ p. SaysOf (NeedsOwner table w.objects) (Some (known (kind_of_resolved d.of) p)) (field_cell notes
        w.objects (self_of f.slots) j))
        (exit_same (body_of table f k.whole.parts) k.whole.parts.signature j ∙ exit_declared k.whole.parts.own
        k.whole.parts.signature j d (k.whole.frame.listed other) at')
        (k.fields j d at' there);
  }
    where
      fields_at : (j : ℕ) (d : Field) → field_of table (nth_object w.objects (self_of f.slots)) j ≡ Some d
          → slice_get k.whole.parts.own.fields j ≡ Some d
      fields_at j d e = ap (λ x. option_and_then (λ (y : Contract). slice_get y.fields j) x) (sym k.whole.frame.own
          ∙ ap (contract_at table) (sym k.whole.frame.contract)) ∙ e

  not_this : (n : ℕ) → 0 < entered_at n f.how f.slots → f.how ≢ by_this
  not_this n has e = let z = (entered_by n f.how f.slots has).0 in cc

  not_this_new : (n : ℕ) → 0 < constructing_at n f.how f.slots → f.how ≢ by_this
  not_this_new n has e = let z = (constructing_by n f.how f.slots has).0 in cc

  constructions_before : (n : ℕ) → constructions n (back_to f result h hs notes w)
      ≡ constructing_at n f.how f.slots + (constructing_at n h.frame.how h.frame.slots + constructing_among n hs)
  constructions_before n = refl

  constructions_after : (n : ℕ) → constructions n resumed ≡ constructing_at n h.frame.how h.frame.slots +
      constructing_among n hs
  constructions_after n = ap (λ x. x + constructing_among n hs) (constructing_same n h.frame.how h.frame.slots new_slots
      same_self)

  declared_now : (n : ℕ) → n < length w.objects → entries n resumed ≡ 0 → constructions n resumed ≡ 0
      → IsAsDeclared table (NeedsOwner table w.objects) notes w.objects n
  declared_now n low none new = ⊎_elim
      (λ was. subst (IsAsDeclared table (NeedsOwner table w.objects) notes w.objects) (entered_by n f.how f.slots was).1
      (left_declared (not_this n was)))
      (λ no. ⊎_elim
      (λ was. subst (IsAsDeclared table (NeedsOwner table w.objects) notes w.objects) (constructing_by n f.how f.slots
      was).1 (left_declared (not_this_new n was)))
      (λ nor. k.whole.declared n low
      (let a = entries_before n in let b = entries_after n in omega arith)
      (let a = constructions_before n in let b = constructions_after n in omega arith))
      (cases_lt 0 (constructing_at n f.how f.slots)))
      (cases_lt 0 (entered_at n f.how f.slots))

  -- all of it
  pub whole_now : Holds table entry beginning resumed
  whole_now = record {
    one_owner = λ n. let a = same_counts owns n (with_progress w left) refl in let b = k.whole.one_owner n in omega
        arith;
    disowned = λ n e d. let a = same_counts owns n (with_progress w left) refl in let b = k.whole.disowned n e d in
        omega arith;
    shared = λ n e has. ⊎_elim (λ z. inl z) (λ z. inr (let a = open_same n in omega arith))
        (k.whole.shared n e (let a = same_counts owns n (with_progress w left) refl in omega arith));
    tested = tested_now;
    assets = λ n needs. let a = same_counts owns n (with_progress w left) refl in let b = callee_none n needs in
        let d = k.whole.assets n needs in omega arith;
    slots = now_is.stand;
    fields = k.whole.fields;
    handles = k.whole.handles;
    objects = k.whole.objects;
    declared = declared_now;
    progress = λ n. let a = entries_before n in let b = entries_after n in let d = k.whole.progress n in let e =
        times_left n in omega (arith, a, b, d, e);
    entered_once = λ n. let a = entries_before n in let b = entries_after n in let d = k.whole.entered_once n in omega
        (arith, a, b, d);
    locked = λ n. let a = k.whole.locked n in
        let b : locks entry n (back_to f result h hs notes w) ≡ 0 + (locks_around n h.outer + locks_among n hs) +
        locks_entry entry n = refl in omega (arith, a, b);
    locked_once = λ n. let a = k.whole.locked_once n in
        let b : locks entry n (back_to f result h hs notes w) ≡ 0 + (locks_around n h.outer + locks_among n hs) +
        locks_entry entry n = refl in omega (arith, a, b);
    parts = k.whole.waiting.0.parts;
    frame = frame_now;
    waiting = waiting_now;
    began = began_kept table w.objects beginning h.frame k.whole.waiting.0.parts new_slots (λ n. 0) hs
        k.whole.waiting.0.frame (keeps_arguments (λ n. 0)) k.whole.began;
  }

  -- what the context says
  fields_now : (j : ℕ) → available (body_of table h.frame k.whole.waiting.0.parts) j (state_number (nth_object w.objects
      (self_of h.frame.slots)).state) ≡ true
      → SaysOf (NeedsOwner table w.objects) (k.whole.waiting.0.context (field j)) (field_cell notes w.objects
      (self_of h.frame.slots) j)
  fields_now j there = ⊎_elim come_back (λ other. k.whole.waiting.0.says.fields j there (field_settled f.how h loans
      other j)) (on_this f.how)
    where
      come_back : f.how ≡ by_this → SaysOf (NeedsOwner table w.objects) (k.whole.waiting.0.context (field j))
          (field_cell notes w.objects (self_of h.frame.slots) j)
      come_back e = subst (λ y. SaysOf (NeedsOwner table w.objects) y (field_cell notes w.objects
          (self_of h.frame.slots) j)) (sym told)
          (subst (λ i. SaysOf (NeedsOwner table w.objects) (Some (known (kind_of_resolved d.0.of)
          (exit_of_field (body_of table f k.whole.parts) k.whole.parts.signature j))) (field_cell notes w.objects i j))
          (sym same)
          (k.fields j d.0 (subst (λ (own : Contract). slice_get own.fields j ≡ Some d.0) same_own d.1)
          (subst (λ i. is_available (nth_object w.objects i).state d.0 ≡ true) same d.2)))
        where
          same : self_of h.frame.slots ≡ self_of f.slots
          same = subst (λ how. IsApart how (self_of h.frame.slots) (self_of f.slots ∷ []) (self_of f.slots)) e
              k.whole.waiting.0.apart

          d : (d : Field) × (slice_get k.whole.waiting.0.parts.own.fields j ≡ Some d) ×
              (is_available (nth_object w.objects (self_of h.frame.slots)).state d ≡ true)
          d = field_there (body_of table h.frame k.whole.waiting.0.parts) j (nth_object w.objects
              (self_of h.frame.slots)) there

          same_own : k.whole.waiting.0.parts.own ≡ k.whole.parts.own
          same_own = own_contract k.whole.waiting.0.parts.own (ap (λ i. contract_at table (nth_object w.objects
              i).contract) (sym same)
              ∙ ap (contract_at table) k.whole.waiting.0.frame.contract ∙ k.whole.waiting.0.frame.own)

          told : k.whole.waiting.0.context (field j) ≡ Some (known (kind_of_resolved d.0.of) (exit_of_field
              (body_of table f k.whole.parts) k.whole.parts.signature j))
          told = k.whole.waiting.0.back e j (slice_get_within k.whole.waiting.0.parts.own.fields j d.0 d.1)
              ∙ ap (λ x. Some (known (kind_of_resolved (option_map_or (λ (y : Field). y.of) x IntType)) (exit_of_field
              (body_of table h.frame k.whole.waiting.0.parts) k.whole.parts.signature j))) d.1
              ∙ ap (λ p. Some (known (kind_of_resolved d.0.of) p)) (exit_same (body_of table h.frame
              k.whole.waiting.0.parts) k.whole.parts.signature j
              ∙ ap (λ own. exit_in own k.whole.parts.signature j) same_own
              ∙ sym (exit_same (body_of table f k.whole.parts) k.whole.parts.signature j))

  no_result_this : is_result h.result this ≡ false
  no_result_this = by_result h.result (gives_back_as f k.whole.parts) k.whole.waiting.0.result
    where
      by_result : (r : Option ℕ) (gift : Option ResolvedType) → AwaitsResult (body_of table h.frame
          k.whole.waiting.0.parts) k.whole.waiting.0.context h r gift
          → is_result r this ≡ false
      by_result None gift a = refl
      by_result (Some zero) (Some of) a = absurd (let z = a.0 in omega arith)
      by_result (Some (suc i)) (Some of) a = ne_eqb 0 (suc i) (λ e. omega (arith, e))
      by_result (Some i) None a = absurd a

  says_now : Says (body_of table (frame_with h.frame new_slots) k.whole.waiting.0.parts) (NeedsOwner table w.objects)
      k.whole.waiting.0.context (here resumed) every
  says_now = record {
    slots = λ j e. now_is.says j;
    fields = λ j there e. subst (λ i. available (body_of table h.frame k.whole.waiting.0.parts) j
        (state_number (nth_object w.objects i).state) ≡ true
        → SaysOf (NeedsOwner table w.objects) (k.whole.waiting.0.context (field j)) (field_cell notes w.objects i j))
        (sym same_self) (fields_now j) there;
    mode = λ e. ap (λ x. same_mode (permission_at k.whole.waiting.0.context this) (permission_in x)) zero_same
        ∙ k.whole.waiting.0.says.mode (slot_settled f.how h h.result refl loans 0 no_result_this);
  }

  shares_now : SharesThis (frame_with h.frame new_slots) resumed 0
  shares_now held = let s = k.whole.waiting.0.shares (ap permission_in (sym zero_same) ∙ held) in (
    subst (λ n. 0 < times n left) (sym same_self) (⊎_elim (λ e. subst (λ l. 0 < times (self_of h.frame.slots) l) (sym e)
        s.0) (λ ne. left_kept (self_of h.frame.slots) ne s.0) aside),
    ⊎_elim
        (λ few. inl (subst (λ n. owners n resumed ≤ 0) (sym same_self) (let a = same_counts owns (self_of h.frame.slots)
        (with_progress w left) refl in omega arith)))
        (λ z. inr (z.0, subst (λ n. 0 < times n w.locked) (sym same_self) z.1))
        s.1,
  )

  pub runs_again : IsRunning table entry beginning resumed
  unfolding whole_now
  runs_again = record {
    whole = whole_now;
    terms = h.terms;
    outer = h.outer;
    control = refl;
    context = k.whole.waiting.0.context;
    says = says_now;
    holdings = k.whole.waiting.0.holdings;
    held = now_is.held;
    remains = k.whole.waiting.0.remains;
    opens = opens_too (body_of table h.frame k.whole.waiting.0.parts) notes w left h.frame.slots new_slots same_self
        h.outer now_is.tested k.whole.waiting.0.opens;
    placed = λ made. subst (λ n. HasItsState table (nth_object w.objects n)) (sym same_self) (⊎_elim
        (λ e. subst (λ n. HasItsState table (nth_object w.objects n))
        (sym (subst (λ how. IsApart how (self_of h.frame.slots) (self_of f.slots ∷ []) (self_of f.slots)) e
        k.whole.waiting.0.apart)) k.placed)
        (λ other. k.whole.waiting.0.placed other made) (on_this f.how));
    shares = shares_now;
    owns_made = λ made. ap (λ x. owns (permission_in x)) zero_same ∙ k.whole.waiting.0.owns_made made;
    unreferred = λ n has. let a = same_counts any n (with_progress w left) refl in
        let b = constructions_after n in let d = k.unreferred n (omega arith) in omega arith;
    lends = k.lends;
  }

-- The frame that waited goes on where nothing is lent any more.
pub resumes_so : (table : ClassTable) (entry : Option ℕ) (beginning : Beginning) → IsClassTable table
    → (f : SilicaFrame) (result : Option Cell)
    (h : Waiting) (hs : List Waiting) (notes : Notes) (w : World) → Returned table entry beginning f result h hs notes w
    → h.loans ≡ []
    → StepsSo table entry beginning (resumes h result hs (back_to f result h hs notes w))
resumes_so table entry beginning t f result h hs notes w k loans =
    subst (λ v. IsCoherent table entry beginning (resumed_in table entry beginning t f result h hs notes w k loans v))
    (sym (left_is f.how (self_of f.slots) w))
    (running (runs_again table entry beginning t f result h hs notes w k loans))
