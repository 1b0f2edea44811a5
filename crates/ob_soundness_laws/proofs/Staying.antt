-- What stays along the steps of a run, and that it ends where its last frame leaves.
use Rattle.std.proofs.Common.{◌≡◌, ℕ, zero, suc, Bool, true, false, ◌<◌, ◌≤◌, List, [], ◌∷◌, length, Option, Some, None, refl, sym, ap, ◌∙◌, arith, true≢false, ⊎_elim, ◌⊎◌, inl, inr}
use Rattle.std.specs.Prelude.{if◌then◌else◌, nat_le, ⊤}
use Rattle.std.proofs.lemmas.Bool.Decides.{nat_tests}
use Rattle.ob_base.specs.Limits.{most_objects}
use Rattle.ob_base.specs.declared.id.ContractId.{ContractId}
use Rattle.ob_base.specs.declared.id.TxId.{TxId}
use Rattle.ob_base.specs.declared.id.StateId.{StateId}
use Rattle.ob_perm.specs.Permissions.{Permission, owned, shared, unowned, is_shared}
use Rattle.ob_perm.specs.Masks.{permission_of}
use Rattle.ob_table.specs.Tables.{ClassTable}
use Rattle.ob_table.specs.declared.contract.Contract.{Contract}
use Rattle.ob_table.specs.declared.contract.Field.{Field}
use Rattle.ob_table.specs.declared.contract.ResolvedType.{ResolvedType}
use Rattle.ob_table.specs.declared.contract.ResolvedType.TheVariants.{Reference as TypedReference}
use Rattle.ob_table.specs.declared.contract.Signature.{Signature}
use Rattle.ob_table_spec.specs.WellFormed.{kind_of_resolved}
use Rattle.ob_heap_spec.specs.Values.{Value, int_value, bool_value, text_value, reference, Numbered}
use Rattle.ob_heap_spec.specs.Objects.{Object, with_field, unfinished}
use Rattle.ob_heap_spec.specs.Worlds.{World, next_item, read_object, with_read, with_unit_taken, edit_object, make_object, by_full}
use Rattle.ob_heap_spec.specs.Marks.{comes_into, mark_disowned, lock, enter}
use Rattle.ob_heap_spec.specs.Operations.{Operated, operated, overflows, other_kinds}
use Rattle.ob_silica.specs.Terms.{SilicaForm, unit_form, const_form, op_form, copy_form, move_form, new_form, call_form, call_this_form, change_form, test_form, if_form, loop_form, assert_form, disown_form, drop_form, return_form, revert_form, bad_row_form, SilicaTerms, no_terms, and_term}
use Rattle.ob_silica.specs.declared.place.Given.{Given}
use Rattle.ob_silica_places.specs.Places.{Location, slot, field, this, located}
use Rattle.ob_silica_places.specs.Parameters.{Parameter, parameters}
use Rattle.ob_silica_steps.specs.Binding.{Bound, bind_one, bind_all, slot_loans, without_field_loans}
use Rattle.ob_silica_steps.specs.Calling.{entered_with, constructor_id}
use Rattle.ob_silica_steps.specs.Cells.{Cell, plain_cell, constant_cell}
use Rattle.ob_silica_steps.specs.Changing.{fill_all, change_with, changed_here, changed_object}
use Rattle.ob_silica_steps.specs.Configurations.{SilicaProgram, SlotCells, Ends, plain_end, test_end, lock_end, loop_end, Rest, Loan, Waiting, How, by_receiver, by_this, by_new, SilicaFrame, HandleNote, Notes, Control, runs, leaves, Configuration, NextStep, goes, ended, aborted, stuck, abort_step}
use Rattle.ob_silica_steps.specs.Entering.{Entered, enters, entered_on, entered_new, are_within, calls_object, calls_this, makes_object}
use Rattle.ob_silica_steps.specs.Getting.{got_from}
use Rattle.ob_silica_steps.specs.Here.{Here, here, self_of, goes_to, set_slot, if_there, with_fuel_left, with_unit, read, set_permission, set_field, hand}
use Rattle.ob_silica_steps.specs.Returning.{gives_none, gives_result, gives_back, goes_back, leaves_progress}
use Rattle.ob_silica_steps.specs.Steps.{act, run_step, end_step, control_step, step}
use Rattle.ob_silica_steps.specs.Straight.{with_operated, with_truth, with_text, copy_to, move_to}
use Rattle.ob_silica_steps.specs.Testing.{StateTest, narrowed, test_object, test_this_as, test_shared, tells, end_branch, tests_from, reads_object}
use Rattle.ob_coherent_spec.specs.Counting.{nth_object}
use Rattle.ob_coherent_spec.specs.Coherent.{outermost}
use Rattle.ob_soundness_laws.proofs.counting.Objects.{edit_length, edit_keeps, make_length, make_other, no_object}
use Rattle.ob_soundness_laws.proofs.counting.Marking.{Keeps, read_objects, comes_keeps, mark_disowned_keeps}
use Rattle.ob_soundness_laws.specs.Running.{GoesOrEnds}

pub below_or_not : (n m : ℕ) → (n < m) ⊎ (m ≤ n)
below_or_not n m = go (nat_le m n) refl
  where
    go : (b : Bool) → nat_le m n ≡ b → (n < m) ⊎ (m ≤ n)
    go true e = inr (grind (arith, nat_tests, e))
    go false e = inl (grind (arith, nat_tests, e))

-- what stays beside frames, from objects and handles of before
record Kept (hs : List HandleNote) (objects : List Object) (notes : Notes) (w : World) : Type 0 where
  handles : notes.handles ≡ hs
  longer : length objects ≤ length w.objects
  shared : (n : ℕ) → (nth_object objects n).shared ≡ true → (nth_object w.objects n).shared ≡ true
  few : length objects ≤ most_objects → length w.objects ≤ most_objects

-- a configuration with these, whose outermost frame is share-entered so
record KeptIn (hs : List HandleNote) (objects : List Object) (entered : Bool) (d : Configuration) : Type 0 where
  kept : Kept hs objects d.notes d.world
  share : (outermost d.frame d.stack).share_entered ≡ entered

-- a step goes on with these, or aborts, or gets stuck
abbrev Goes : List HandleNote → List Object → Bool → NextStep → Type 0
Goes hs objects entered (goes d) = KeptIn hs objects entered d
Goes hs objects entered (ended result w) = ⊥
Goes hs objects entered (aborted cause s) = ⊤
Goes hs objects entered stuck = ⊤

outer_same : (f : SilicaFrame) (slots : SlotCells) (stack : List Waiting)
    → (outermost (record f { slots = slots }) stack).share_entered ≡ (outermost f stack).share_entered
outer_same f slots [] = refl
outer_same f slots (h ∷ stack) = refl

goes_so : (c : Configuration) (next : NextStep)
    → Goes c.notes.handles c.world.objects (outermost c.frame c.stack).share_entered next → GoesOrEnds c next
goes_so c (goes d) so = record {
  handles = so.kept.handles;
  share_entered = so.share;
  longer = so.kept.longer;
  shared = so.kept.shared;
  few = so.kept.few;
}
goes_so c (ended result w) so = absurd so
goes_so c (aborted cause s) so = so
goes_so c stuck so = so

module _ (hs : List HandleNote) (objects : List Object) where
  kept_objects : (notes : Notes) (w v : World) → v.objects ≡ w.objects → Kept hs objects notes w → Kept hs objects notes v
  kept_objects notes w v same k = record {
    handles = k.handles;
    longer = rw same k.longer;
    shared = λ n e. rw same (k.shared n e);
    few = λ e. rw same (k.few e);
  }

  kept_marks : (notes : Notes) (w v : World) → Keeps w v → Kept hs objects notes w → Kept hs objects notes v
  kept_marks notes w v a k = record {
    handles = k.handles;
    longer = omega (arith, a.count, k.longer);
    shared = λ n e. a.shared n (k.shared n e);
    few = λ e. let z = k.few e in omega (arith, a.count, z);
  }

  kept_edit : (notes : Notes) (f : Object → Object) (n : ℕ) (w : World) → ((o : Object) → (f o).shared ≡ o.shared)
      → Kept hs objects notes w → Kept hs objects notes (edit_object f n w)
  kept_edit notes f n w same k = record {
    handles = k.handles;
    longer = let z = edit_length f n w in omega (arith, z, k.longer);
    shared = λ m e. edit_keeps f n w (λ o. o.shared) same m ∙ k.shared m e;
    few = λ e. let y = k.few e in let z = edit_length f n w in omega (arith, y, z);
  }

  kept_notes : (notes more : Notes) (w : World) → more.handles ≡ notes.handles → Kept hs objects notes w
      → Kept hs objects more w
  kept_notes notes more w same k = record { handles = same ∙ k.handles; longer = k.longer; shared = k.shared; few = k.few }

  kept_permission : (p : Location) (q : Permission) (h : Here) → Kept hs objects h.notes h.world
      → Kept hs objects (set_permission p q h).notes (set_permission p q h).world
  kept_permission (slot k) q h kept = kept
  kept_permission (field k) q h kept = kept_notes h.notes _ h.world refl kept

  kept_field : (k : ℕ) (x : Cell) (h : Here) → Kept hs objects h.notes h.world
      → Kept hs objects (set_field k x h).notes (set_field k x h).world
  kept_field k x h kept = kept_notes h.notes _ _ refl (kept_edit h.notes (with_field k x.value) (self_of h.slots) h.world (λ o. refl) kept)

  kept_hand : (of : ResolvedType) (p : Location) (x : Cell) (h : Here) → Kept hs objects h.notes h.world
      → Kept hs objects (hand of p x h).notes (hand of p x h).world
  kept_hand of p x h kept = kept_permission p _ (record h { world = comes_into of x.value h.world })
      (kept_marks h.notes h.world _ (comes_keeps of x.value h.world) kept)

  kept_read : (n : ℕ) (h : Here) → Kept hs objects h.notes h.world
      → Kept hs objects h.notes (read_object h.world n)
  kept_read n h kept = kept_objects h.notes h.world _ (read_objects h.world n) kept

  kept_end : (e : Ends) (h : Here) → Kept hs objects h.notes h.world
      → Kept hs objects (end_branch e h).notes (end_branch e h).world
  kept_end plain_end h kept = kept
  kept_end (test_end p) h kept = kept_permission p shared h kept
  kept_end (loop_end first a body end) h kept = kept
  kept_end (lock_end p n) h kept =
      kept_objects _ (set_permission p shared h).world _ refl (kept_permission p shared h kept)

  kept_change : (own : Contract) (state : StateId) (got : Numbered Cell) (h : Here) → Kept hs objects h.notes h.world
      → Kept hs objects (changed_here own state got h).notes (changed_here own state got h).world
  kept_change own state got h kept = kept_notes h.notes _ _ refl
      (kept_edit h.notes (changed_object own state got) (self_of h.slots) h.world (λ o. refl) kept)

  kept_make : (notes : Notes) (w : World) (o : Object) → nat_le most_objects (length w.objects) ≡ false
      → Kept hs objects notes w → Kept hs objects notes (make_object w o)
  kept_make notes w o few k = record {
    handles = k.handles;
    longer = let z = make_length w o in omega (arith, z, k.longer);
    shared = λ n e. ap (λ (x : Object). x.shared) (make_other w o n (there n (k.shared n e))) ∙ k.shared n e;
    few = λ e. let z = make_length w o in let y = past in omega (arith, z, y);
  }
    where
      past : length w.objects < most_objects
      past = grind (arith, nat_tests, few)

      there : (n : ℕ) → (nth_object w.objects n).shared ≡ true → n < length w.objects
      there n e = ⊎_elim (λ y. y) (λ y. absurd (true≢false (sym e ∙ ap (λ (x : Object). x.shared) (no_object w.objects n y)))) (below_or_not n (length w.objects))

module _ (hs : List HandleNote) (objects : List Object) (entered : Bool) where
  abbrev G : NextStep → Type 0
  G next = Goes hs objects entered next

  abbrev K : Here → Type 0
  K h = Kept hs objects h.notes h.world

  on_there : {A : Type 0} (x : Option A) (go : A → NextStep) → ((a : A) → G (go a)) → G (if_there x go)
  on_there None go on = tt
  on_there (Some a) go on = on a

  on_fuel : (n : ℕ) (w : World) (go : World → NextStep) → ((v : World) → G (go v)) → G (with_fuel_left n w go)
  on_fuel zero w go on = tt
  on_fuel (suc n) w go on = on _

  on_if : (b : Bool) (x y : NextStep) → G x → G y → G (if b then x else y)
  on_if b x y so other = go b
    where
      go : (b : Bool) → G (if b then x else y)
      go true = so
      go false = other

  on_operated : (line : ℕ) (w : World) (o : Operated) (go : Value → NextStep) → ((v : Value) → G (go v))
      → G (with_operated line w o go)
  on_operated line w (operated v) go on = on v
  on_operated line w overflows go on = tt
  on_operated line w other_kinds go on = tt

  on_truth : (v : Value) (x y : NextStep) → G x → G y → G (with_truth v x y)
  on_truth v x y so other = go v
    where
      go : (v : Value) → G (with_truth v x y)
      go (bool_value true) = so
      go (bool_value false) = other
      go (int_value z) = tt
      go (text_value b) = tt
      go (reference n) = tt

  on_text : (v : Value) (go : List ℕ → NextStep) → ((b : List ℕ) → G (go b)) → G (with_text v go)
  on_text (text_value b) go on = on b
  on_text (bool_value b) go on = tt
  on_text (int_value z) go on = tt
  on_text (reference n) go on = tt

  -- calls
  on_bind : (table : ClassTable) (b : Bound) (places : List Location) (k : ℕ) (ps : List Parameter) (go : Bound → NextStep)
      → K b.from → ((d : Bound) → K d.from → G (go d)) → G (bind_all table b places k ps go)
  on_bind table b [] k [] go kept on = on b kept
  on_bind table b [] k (p ∷ ps) go kept on = tt
  on_bind table b (place ∷ places) k [] go kept on = tt
  on_bind table b (place ∷ places) k (p ∷ ps) go kept on = on_there (read table b.from place)
      (λ c. bind_all table (bind_one table b place c k p) places (suc k) ps go)
      (λ c. on_bind table (bind_one table b place c k p) places (suc k) ps go
      (kept_hand hs objects p.of place c b.from kept) on)

  -- what a body begins with
  record Begins (e : Entered) : Type 0 where
    kept : Kept hs objects e.notes e.world
    outer : (f : SilicaFrame) → (outermost f e.stack).share_entered ≡ entered

  on_enters : (program : SilicaProgram) (e : Entered) (contract : ContractId) (tx : TxId) (how : How) (s : Bool)
      → Begins e → G (enters program e contract tx how s)
  on_enters program e contract tx how s b =
      let k = b.kept in let o = b.outer (record { slots = e.slots; contract = contract; tx = tx; how = how; share_entered = s }) in
      let go : (t : SilicaTerms) → G (goes (record {
        frame = record { slots = e.slots; contract = contract; tx = tx; how = how; share_entered = s };
        control = runs t [];
        stack = e.stack;
        notes = e.notes;
        world = e.world;
      })) = λ t. record { kept = k; share = o } in
      search (on_there, go)

  begins_world : (e : Entered) (slots : SlotCells) (w : World) → w.objects ≡ e.world.objects → Begins e
      → Begins (record e { slots = slots; world = w })
  begins_world e slots w same b = record { kept = kept_objects hs objects e.notes e.world w same b.kept; outer = b.outer }

  on_calls : (program : SilicaProgram) (e : Entered) (contract : ContractId) (tx : TxId) (s : Signature) (n : ℕ)
      → Begins e → G (calls_object program e contract tx s n)
  on_calls program e contract tx s n b =
      let on : (o : Object) (t : TxId) (r : Signature) → G (enters program (record (entered_on (record e { world = read_object e.world n }) n o r) {
        world = enter n (read_object e.world n);
      }) o.contract t by_receiver (is_shared (permission_of r.entry))) =
      λ o t r. on_enters program _ o.contract t by_receiver _ (begins_world e _ (enter n (read_object e.world n)) (read_objects e.world n) b) in
      search (on_there, on_if, on) depth 14

  on_calls_this : (program : SilicaProgram) (e : Entered) (f : SilicaFrame) (tx : TxId) (s : Signature)
      → Begins e → G (calls_this program e f tx s)
  on_calls_this program e f tx s b = search (on_if, on_enters, b) depth 8

  on_makes : (program : SilicaProgram) (e : Entered) (contract : ContractId) (tx : TxId) (s : Signature)
      → Begins e → G (makes_object program e contract tx s)
  on_makes program e contract tx s b = go (nat_le most_objects (length e.world.objects)) refl
    where
      w : World
      w = with_read e.world next_item

      rest : NextStep
      rest = if are_within program.table e.world.objects e.slots 1 (parameters s)
          then enters program (entered_new (record e { world = with_read e.world next_item }) contract) contract tx by_new false
          else stuck

      go : (f : Bool) → nat_le most_objects (length e.world.objects) ≡ f
          → G (if f then abort_step by_full (with_read e.world next_item) else
          (if are_within program.table e.world.objects e.slots 1 (parameters s)
          then enters program (entered_new (record e { world = with_read e.world next_item }) contract) contract tx by_new false
          else stuck))
      go true is = tt
      go false is = on_if _ _ stuck (on_enters program (entered_new (record e { world = with_read e.world next_item }) contract) contract tx by_new false
          (record {
            kept = kept_make hs objects e.notes (with_read e.world next_item) (unfinished contract) is
                (kept_objects hs objects e.notes e.world (with_read e.world next_item) refl b.kept);
            outer = b.outer;
          })) tt

  -- changes of state
  on_fill : (table : ClassTable) (c : Contract) (state : StateId) (h : Here) (gs : List Given) (got : Numbered Cell)
      (go : Here → Numbered Cell → NextStep) → K h → ((d : Here) (g : Numbered Cell) → K d → G (go d g))
      → G (fill_all table c state h gs got go)
  on_fill table c state h [] got go kept on = on h got kept
  on_fill table c state h (g ∷ gs) got go kept on =
      let rest : (f : Field) (x : Cell) (d : Numbered Cell) → G (fill_all table c state (hand f.of (located g.from) x h) gs d go) =
      λ f x d. on_fill table c state (hand f.of (located g.from) x h) gs d go (kept_hand hs objects f.of (located g.from) x h kept) on in
      search (on_there, on_if, rest) depth 10

module _ (program : SilicaProgram) (c : Configuration) where
  abbrev hs : List HandleNote
  hs = c.notes.handles

  abbrev objects : List Object
  objects = c.world.objects

  abbrev entered : Bool
  entered = (outermost c.frame c.stack).share_entered

  abbrev On : NextStep → Type 0
  On next = Goes c.notes.handles c.world.objects (outermost c.frame c.stack).share_entered next

  abbrev So : Here → Type 0
  So h = Kept c.notes.handles c.world.objects h.notes h.world

  so : So (here c)
  so = record { handles = refl; longer = omega arith; shared = λ n e. e; few = λ e. e }

  goes_on : (h : Here) (control : Control) → So h → On (goes_to c h control)
  goes_on h control k = record { kept = k; share = outer_same c.frame h.slots c.stack }

  there : {A : Type 0} (x : Option A) (go : A → NextStep) → ((a : A) → On (go a)) → On (if_there x go)
  there = on_there hs objects entered

  fuel : (n : ℕ) (w : World) (go : World → NextStep) → ((v : World) → On (go v)) → On (with_fuel_left n w go)
  fuel = on_fuel hs objects entered

  either : (b : Bool) (x y : NextStep) → On x → On y → On (if b then x else y)
  either = on_if hs objects entered

  on_move : (p : Location) (contract : Option ContractId) (from : Location) (x : Cell) (go : Here → NextStep)
      → ((d : Here) → So d → On (go d)) → On (move_to program.table p contract from x (here c) go)
  on_move (slot k) None from x go on = tt
  on_move (slot k) (Some id) from x go on = on _ (kept_permission hs objects from _ (here c) so)
  on_move (field k) contract from x go on =
      let rest : (f : Field) → On (go (set_field k (got_from program.table f.of (here c) from x) (hand f.of from x (here c)))) =
      λ f. on _ (kept_field hs objects k (got_from program.table f.of (here c) from x) (hand f.of from x (here c))
      (kept_hand hs objects f.of from x (here c) so)) in
      search (there, rest) depth 6

  on_copy : (p : Location) (x : Cell) (go : Here → NextStep) → ((d : Here) → So d → On (go d))
      → On (copy_to program.table p x (here c) go)
  on_copy (slot k) x go on = on _ so
  on_copy (field k) x go on =
      let rest : (f : Field) → On (go (set_field k (plain_cell x.value (kind_of_resolved f.of)) (here c))) =
      λ f. on _ (kept_field hs objects k (plain_cell x.value (kind_of_resolved f.of)) (here c) so) in
      search (there, rest) depth 6

  on_tells : (h : Here) (t : StateTest) (x : Cell) (holds : Bool) → So h → On (tells c h t x holds)
  on_tells h t x holds k = goes_on (set_permission t.place (narrowed x.note.permission t.state holds) h) _
      (kept_permission hs objects t.place _ h k)

  on_test_this : (p : Permission) (h : Here) (t : StateTest) (x : Cell) (holds : Bool) → So h
      → On (test_this_as p c h t x holds)
  on_test_this shared h t x true k = goes_on (tests_from h t) _ (kept_permission hs objects t.place _ h k)
  on_test_this shared h t x false k = goes_on h _ k
  on_test_this (owned a) h t x holds k = on_tells h t x holds k
  on_test_this unowned h t x holds k = on_tells h t x holds k

  on_test_shared : (h : Here) (t : StateTest) (n : ℕ) (holds : Bool) → So h → On (test_shared c h t n holds)
  on_test_shared h t n true k = goes_on (record (tests_from h t) { world = lock n (tests_from h t).world }) _
      (kept_objects hs objects _ (tests_from h t).world _ refl (kept_permission hs objects t.place _ h k))
  on_test_shared h t n false k = goes_on h _ k

  on_test : (h : Here) (t : StateTest) (x : Cell) (n : ℕ) (o : Object) (holds : Bool) → So h
      → On (test_object c h t x n o holds)
  on_test h t x n o holds k = search (either, on_test_this, on_test_shared, on_tells, k) depth 10

  on_gives_none : (how : How) (s : Signature) (outer : List Rest) → On (gives_none how program s outer c)
  on_gives_none by_receiver s outer = goes_on (here c) _ so
  on_gives_none by_this s outer = goes_on (here c) _ so
  on_gives_none by_new s outer =
      let on : (x : Cell) (control : Control) → On (goes_to c (hand (TypedReference c.frame.contract s.exit) this x (here c)) control) =
      λ x control. goes_on _ control (kept_hand hs objects (TypedReference c.frame.contract s.exit) this x (here c) so) in
      search (there, either, on) depth 10

  on_gives : (s : Signature) (result : Option ResolvedType) (place : Option Location) (outer : List Rest)
      → On (gives_result program s result place outer c)
  on_gives s result None outer = on_gives_none c.frame.how s outer
  on_gives s None (Some place) outer =
      let on : (control : Control) → On (goes_to c (here c) control) = λ control. goes_on (here c) control so in
      search (there, on) depth 4
  on_gives s (Some of) (Some place) outer =
      let on : (x : Cell) (control : Control) → On (goes_to c (hand of place x (here c)) control) =
      λ x control. goes_on _ control (kept_hand hs objects of place x (here c) so) in
      search (there, either, on) depth 8

  -- the frame of a configuration waits
  begins : (b : Bound) (loans : List Loan) (rest : SilicaTerms) (outer : List Rest) (result : Option ℕ) (w : World) → So b.from
      → w.objects ≡ b.from.world.objects
      → Begins hs objects entered (entered_with c (record { from = b.from; slots = b.slots; loans = loans }) rest outer result w)
  begins b loans rest outer result w k same = record {
    kept = kept_objects hs objects b.from.notes b.from.world w same k;
    outer = λ f. outer_same c.frame b.from.slots c.stack;
  }

  -- each form
  on_act : (form : SilicaForm) (rest : SilicaTerms) (outer : List Rest) → On (act program form rest outer c)
  on_act unit_form rest outer = fuel_same c.world.fuel
    where
      fuel_same : (n : ℕ) → On (with_fuel_left n c.world (λ w. goes_to c (record (here c) { world = w }) (runs rest outer)))
      fuel_same zero = tt
      fuel_same (suc n) = goes_on (record (here c) { world = with_unit_taken c.world n }) _ (kept_objects hs objects c.notes c.world _ refl so)
  on_act (const_form k value) rest outer = goes_on (set_slot k (Some (constant_cell value)) (here c)) _ so
  on_act (op_form k operator a b line) rest outer =
      let on : (x : Cell) (control : Control) → On (goes_to c (set_slot k (Some x) (here c)) control) =
      λ x control. goes_on _ control so in
      search (there, on_operated hs objects entered, on) depth 8
  on_act (copy_form to from) rest outer = search (there, on_copy, goes_on) depth 8
  on_act (move_form to from contract) rest outer = search (there, on_move, goes_on) depth 8
  on_act (new_form k contract args) rest outer =
      let on : (s : Signature) (b : Bound) → So b.from → On (with_unit b.from.world (λ w.
      makes_object program (entered_with c b rest outer (Some k) w) contract constructor_id s)) =
      λ s b kept. units b kept (λ w. makes_object program (entered_with c b rest outer (Some k) w) contract constructor_id s)
      (λ w same. on_makes hs objects entered program _ contract constructor_id s (begins b b.loans rest outer (Some k) w kept same)) in
      search (there, on_bind hs objects entered, on, so) depth 12
    where
      units : (b : Bound) → So b.from → (go : World → NextStep) → ((w : World) → w.objects ≡ b.from.world.objects → On (go w))
          → On (with_unit b.from.world go)
      units b kept go on = steps b.from.world.fuel
        where
          steps : (n : ℕ) → On (with_fuel_left n b.from.world go)
          steps zero = tt
          steps (suc n) = on (with_unit_taken b.from.world n) refl
  on_act (call_form result receiver contract tx args) rest outer =
      let on : (s : Signature) (n : ℕ) (b : Bound) → So b.from → On (with_unit b.from.world (λ w.
      calls_object program (entered_with c b rest outer result w) contract tx s n)) =
      λ s n b kept. units b kept (λ w. calls_object program (entered_with c b rest outer result w) contract tx s n)
      (λ w same. on_calls hs objects entered program _ contract tx s n (begins b b.loans rest outer result w kept same)) in
      search (there, on_bind hs objects entered, on, so) depth 14
    where
      units : (b : Bound) → So b.from → (go : World → NextStep) → ((w : World) → w.objects ≡ b.from.world.objects → On (go w))
          → On (with_unit b.from.world go)
      units b kept go on = steps b.from.world.fuel
        where
          steps : (n : ℕ) → On (with_fuel_left n b.from.world go)
          steps zero = tt
          steps (suc n) = on (with_unit_taken b.from.world n) refl
  on_act (call_this_form result tx args) rest outer =
      let on : (s : Signature) (b : Bound) → So b.from → On (with_unit b.from.world (λ w.
      calls_this program (entered_with c (without_field_loans b) rest outer result w) c.frame tx s)) =
      λ s b kept. units b kept (λ w. calls_this program (entered_with c (without_field_loans b) rest outer result w) c.frame tx s)
      (λ w same. on_calls_this hs objects entered program _ c.frame tx s
      (begins b (slot_loans b.loans) rest outer result w kept same)) in
      search (there, on_bind hs objects entered, on, so) depth 12
    where
      units : (b : Bound) → So b.from → (go : World → NextStep) → ((w : World) → w.objects ≡ b.from.world.objects → On (go w))
          → On (with_unit b.from.world go)
      units b kept go on = steps b.from.world.fuel
        where
          steps : (n : ℕ) → On (with_fuel_left n b.from.world go)
          steps zero = tt
          steps (suc n) = on (with_unit_taken b.from.world n) refl
  on_act (change_form state given) rest outer =
      let on : (own : Contract) (h : Here) (got : Numbered Cell) → So h → On (change_with own state rest outer c h got) =
      λ own h got k. changes own h got k in
      search (there, either, on_fill hs objects entered, on, so) depth 14
    where
      changes : (own : Contract) (h : Here) (got : Numbered Cell) → So h → On (change_with own state rest outer c h got)
      changes own h got k =
          let on : (control : Control) → On (goes_to c (changed_here own state got h) control) =
          λ control. goes_on _ control (kept_change hs objects own state got h k) in
          search (there, either, on) depth 8
  on_act (test_form place state branch other join) rest outer =
      let k : (n : ℕ) → So (reads_object (here c) n) = λ n. kept_read hs objects n (here c) so in
      search (there, on_test, k) depth 10
  on_act (if_form a branch other join) rest outer =
      let on : (control : Control) → On (goes_to c (here c) control) = λ control. goes_on (here c) control so in
      search (there, on_truth hs objects entered, on) depth 8
  on_act (assert_form place perm) rest outer = goes_on (here c) _ so
  on_act (disown_form place) rest outer =
      let on : (n : ℕ) (control : Control)
      → On (goes_to c (set_permission (located place) unowned (record (here c) { world = mark_disowned n c.world })) control) =
      λ n control. goes_on _ control (kept_permission hs objects (located place) unowned _
      (kept_marks hs objects c.notes c.world _ (mark_disowned_keeps n c.world) so)) in
      search (there, on) depth 8
  on_act (drop_form k) rest outer = goes_on (set_slot k None (here c)) _ so
  on_act (return_form place) rest outer = search (there, either, on_gives) depth 8
  on_act (revert_form text) rest outer = search (there, on_text hs objects entered) depth 8
  on_act bad_row_form rest outer = tt
  on_act (loop_form first a body end) rest outer = goes_on (here c) _ so

  on_end : (e : Ends) (rest : SilicaTerms) (outer : List Rest) → On (end_step program e rest outer c)
  on_end plain_end rest outer = goes_on (here c) _ so
  on_end (test_end p) rest outer = goes_on (end_branch (test_end p) (here c)) _ (kept_end hs objects (test_end p) (here c) so)
  on_end (lock_end p n) rest outer = goes_on (end_branch (lock_end p n) (here c)) _ (kept_end hs objects (lock_end p n) (here c) so)
  on_end (loop_end first a body end) rest outer =
      let on : (control : Control) → On (goes_to c (here c) control) = λ control. goes_on (here c) control so in
      search (there, on_truth hs objects entered, on) depth 8

  on_run : (terms : SilicaTerms) (outer : List Rest) → On (run_step program terms outer c)
  on_run no_terms [] = tt
  on_run no_terms (r ∷ outer) = on_end r.ends r.terms outer
  on_run (and_term form span rest) outer = on_act form rest outer

  on_back : (loans : List Loan) (r : Option Cell) (h : Waiting) (stack : List Waiting) → c.stack ≡ h ∷ stack
      → On (gives_back loans r h stack c)
  on_back [] r h stack at = record {
    kept = kept_objects hs objects c.notes c.world _ (left_objects c.frame.how) so;
    share = outer_same h.frame _ stack ∙ sym (ap (λ s. (outermost c.frame s).share_entered) at);
  }
    where
      left_objects : (how : How) → (leaves_progress how (self_of c.frame.slots) c.world).objects ≡ c.world.objects
      left_objects by_receiver = refl
      left_objects by_this = refl
      left_objects by_new = refl
  on_back (loan ∷ loans) r h stack at = record {
    kept = kept_back loan.place loan.exit (record { slots = h.frame.slots; notes = c.notes; world = c.world }) so;
    share = outer_same h.frame _ stack ∙ sym (ap (λ s. (outermost c.frame s).share_entered) at);
  }
    where
      kept_back : (p : Location) (q : Permission) (d : Here) → Kept c.notes.handles c.world.objects d.notes c.world
          → Kept c.notes.handles c.world.objects (set_permission p q d).notes c.world
      kept_back (slot k) q d kept = kept
      kept_back (field k) q d kept = kept_notes hs objects d.notes _ c.world refl kept

  on_leave : (stack : List Waiting) (r : Option Cell) → c.stack ≡ stack → c.control ≡ leaves r []
      → GoesOrEnds c (goes_back stack r c)
  on_leave [] r at control = (r, control, at, refl, refl)
  on_leave (h ∷ stack) r at control = goes_so c (gives_back h.loans r h stack c) (on_back h.loans r h stack at)

  on_control : (control : Control) → c.control ≡ control → GoesOrEnds c (control_step program control c)
  on_control (runs terms outer) is = goes_so c (run_step program terms outer c) (on_run terms outer)
  on_control (leaves r []) is = on_leave c.stack r refl is
  on_control (leaves r (x ∷ outer)) is = goes_so c (goes_to c (end_branch x.ends (here c)) (leaves r outer))
      (goes_on (end_branch x.ends (here c)) _ (kept_end hs objects x.ends (here c) so))

  -- each step
  pub goes_or_ends : GoesOrEnds c (step program c)
  goes_or_ends = on_control c.control refl
