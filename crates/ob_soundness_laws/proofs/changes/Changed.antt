-- Once all fields are given, the step into the new state leads to a coherent configuration.
use Rattle.std.proofs.Common.{◌≡◌, ℕ, ◌<◌, ◌≤◌, Bool, true, false, not, ◌||◌, nat_eq, List, length, Option, Some, None, refl, sym, ap, subst, ◌∙◌, arith, ⊎_elim, ◌⊎◌, inl, inr}
use Rattle.std.specs.Prelude.{is_some, option_map, if◌then◌else◌}
use Rattle.std.specs.Option.{option_map_or}
use Rattle.std.proofs.lemmas.Bool.{cases_Bool, both_ways, and_from, or_left, or_right}
use Rattle.std.proofs.lemmas.Option.{same_Some, none-some, slice_get_within}
use Rattle.ob_base.specs.declared.id.StateId.{StateId}
use Rattle.ob_perm.specs.States.{only}
use Rattle.ob_perm.specs.Permissions.{owned, shared, owns}
use Rattle.ob_table.specs.Tables.{ClassTable, contract_at}
use Rattle.ob_table.specs.declared.contract.Contract.{Contract}
use Rattle.ob_table.specs.declared.seen.Kind.TheVariants.{Reference}
use Rattle.ob_table_spec.specs.Conditions.{IsClassTable}
use Rattle.ob_heap_spec.specs.Values.{Numbered}
use Rattle.ob_heap_spec.specs.Objects.{has_field, has_all_values, is_available, state_number}
use Rattle.ob_heap_spec.specs.Contents.{IsStateOf}
use Rattle.ob_heap_spec.specs.Marks.{is_locked}
use Rattle.ob_silica.specs.Terms.{SilicaTerms}
use Rattle.ob_silica_formed.specs.Holdings.{Holdings}
use Rattle.ob_silica_places.specs.Places.{slot, field, this}
use Rattle.ob_silica_steps.specs.Cells.{Cell, permission_in}
use Rattle.ob_silica_steps.specs.Configurations.{Rest, runs, Control, Configuration, stuck}
use Rattle.ob_silica_steps.specs.Here.{Here, here, self_of, self, goes_to, if_there}
use Rattle.ob_silica_steps.specs.Changing.{value_after, values_after, changed_object, narrowed_this, changed_here, is_locked_out, change_with}
use Rattle.ob_flow_spec.specs.Contexts.{BodyFrame, Context, available, field_count, maybe_there, owns_asset, permission_at, is_tested, accessible, permission_on}
use Rattle.ob_flow_spec.specs.Joining.{same_mode}
use Rattle.ob_flow_spec.specs.Changing.{in_state}
use Rattle.ob_flow_laws.specs.Changing.{HasValue}
use Rattle.ob_places_laws.proofs.Sets.{all_below_from}
use Rattle.ob_places_laws.proofs.Tables.{there_from}
use Rattle.ob_coherent_spec.specs.Counting.{nth_object, field_cell, one_if, owners}
use Rattle.ob_coherent_spec.specs.Runs.{times, around, locks_around, tests_around, tests_in, tested_places}
use Rattle.ob_coherent_spec.specs.Standing.{AllStand, HasItsState, IsObjectInRun, NeedsOwner}
use Rattle.ob_coherent_spec.specs.Saying.{SaysOf, Says, own_object, every}
use Rattle.ob_coherent_spec.specs.Remaining.{body_of, AreHeld, Remains, HoldsSo}
use Rattle.ob_coherent_spec.specs.OpenTests.{AreOpen}
use Rattle.ob_coherent_spec.specs.Waiting.{SharesThis, OwnsMade}
use Rattle.ob_coherent_spec.specs.Coherent.{Beginning, IsRunning, StepsSo, running}
use Rattle.ob_soundness_laws.proofs.counting.Numbers.{times_among}
use Rattle.ob_soundness_laws.proofs.counting.Changing.{cell_after}
use Rattle.ob_soundness_laws.specs.frames.Steps.{moved, KeepsArgument, IsOwnStep}
use Rattle.ob_soundness_laws.proofs.frames.Entered.{innermost_in_progress}
use Rattle.ob_soundness_laws.proofs.frames.Own.{own_step_keeps}
use Rattle.ob_soundness_laws.proofs.places.Changed.{narrowed_owner, narrowed_other, changed_self, changed_this, changed_slot, changed_contracts, changed_shared, changed_disowned, changed_count, changed_locked, changed_leaves, changed_is, changed_state, slots_stand_changed, fields_stand_changed, in_run_changed, says_changed, changed_arguments, changed_opens}
use Rattle.ob_soundness_laws.proofs.places.Finding.{own_is, is_new, found_at, sits_read, available_now}
use Rattle.ob_soundness_laws.proofs.places.Handing.{argument_onward}
use Rattle.ob_soundness_laws.proofs.places.Holding.{held_alike}
use Rattle.ob_soundness_laws.proofs.places.Keeping.{OpensKept, opens_kept_by, opens_onward, argument_kept, own_state}
use Rattle.ob_soundness_laws.proofs.places.Reading.{field_is, available_is, self_is, field_cell_is}
use Rattle.ob_soundness_laws.proofs.places.Standing.{needs_before, says_of_less, needs_stay}
use Rattle.ob_soundness_laws.proofs.tests.Unchanged.{opens_so}
use Rattle.ob_soundness_laws.proofs.calls.Running.{running_sits}
use Rattle.ob_soundness_laws.specs.changes.Fills.{Fills}
use Rattle.ob_soundness_laws.proofs.changes.FillingAll.{comes_from}
use Rattle.ob_soundness_laws.proofs.changes.Owning.{no_slot, no_field, no_got, free_to_change, fewer_owners, keeps_owners, no_owners, fewer_references}
use Rattle.std.proofs.lemmas.Bool.Decides.{eqb_tells}

module _ (table : ClassTable) (made : IsClassTable table) (entry : Option ℕ) (beginning : Beginning) (c : Configuration)
    (k : IsRunning table entry beginning c) (s : StateId) (h : Here) (got : Numbered Cell) (g said : Context)
    (a : Fills table c k.whole.parts s g h got g said) (free : is_locked_out c.frame (here c) ≡ false)
    (overwritten : (f : ℕ) (x : Cell) → got f ≡ Some x → maybe_there (body_of table c.frame k.whole.parts) g f ≡ true
    → owns_asset (body_of table c.frame k.whole.parts) g (field f) ≡ false)
    (lost : (f : ℕ) → f < field_count (body_of table c.frame k.whole.parts)
    → available (body_of table c.frame k.whole.parts) f s.0 ≡ false
    → maybe_there (body_of table c.frame k.whole.parts) g f ≡ true
    → owns_asset (body_of table c.frame k.whole.parts) g (field f) ≡ false)
    (values : (f : ℕ) → f < field_count (body_of table c.frame k.whole.parts)
    → available (body_of table c.frame k.whole.parts) f s.0 ≡ true → got f ≡ None
    → HasValue (body_of table c.frame k.whole.parts) k.context f)
    (low : s.0 < length k.whole.parts.own.states)
    (terms rest : SilicaTerms) (outer : List Rest) (so : c.control ≡ runs terms outer)
    (tests : (f : ℕ) → is_tested (tested_places outer) (field f) ≡ true
    → (got f ≡ None) × (has_field k.whole.parts.own (Some s) f ≡ true)) where
  abbrev own : Contract
  own = k.whole.parts.own

  abbrev body : BodyFrame
  body = body_of table c.frame k.whole.parts

  abbrev after : Here
  after = changed_here k.whole.parts.own s got h

  -- the configuration after the step
  abbrev next : Configuration
  next = moved c after rest outer

  -- an object that must have an owner then
  abbrev must : ℕ → Type 0
  must = NeedsOwner table after.world.objects

  here_there : self_of h.slots < length h.world.objects
  here_there = a.sits.frame.there

  same_self : self_of after.slots ≡ self_of c.frame.slots
  same_self = changed_self own s got h ∙ a.stays.this

  needs_less : (n : ℕ) → NeedsOwner table after.world.objects n
      → NeedsOwner table h.world.objects n
  needs_less n l = needs_before table h.world.objects after.world.objects n
      (let e = changed_count own s got h in let lt = l.there in omega (arith, e, lt))
      (changed_contracts own s got h n)
      (λ e. changed_shared own s got h n ∙ e) (λ e. changed_disowned own s got h n ∙ e) l

  needs_first : (n : ℕ) → NeedsOwner table h.world.objects n → NeedsOwner table c.world.objects n
  needs_first n l = needs_stay table (here c) h a.stays n l

  -- `this` after the change
  narrowed_now : after.slots 0 ≡ Some (narrowed_this s a.sits.frame.this)
  narrowed_now = changed_this own s got h ∙ ap (option_map (narrowed_this s)) a.sits.frame.set

  narrowed_shared : permission_in (after.slots 0) ≡ shared
      → a.sits.frame.this.note.permission ≡ shared
  narrowed_shared e = ⊎_elim
      (λ owner. absurd (let z : owned (only s.0) ≡ shared =
      ap (λ (y : Cell). y.note.permission) (sym (narrowed_owner own s got h a.sits.frame.this owner))
      ∙ ap permission_in (sym narrowed_now) ∙ e in cc))
      (λ other. ap (λ (y : Cell). y.note.permission) (sym (narrowed_other own s got h a.sits.frame.this other))
      ∙ ap permission_in (sym narrowed_now) ∙ e)
      (cases_Bool (owns a.sits.frame.this.note.permission))

  owns_made_now : OwnsMade (record c.frame { slots = after.slots })
  owns_made_now how =
      let owner = ap (λ y. owns (permission_in y)) (sym a.sits.frame.set) ∙ a.sits.owns_made how in
      ap (λ y. owns (permission_in y)) narrowed_now
      ∙ ap (λ (y : Cell). owns y.note.permission) (narrowed_owner own s got h a.sits.frame.this owner)

  shares_now : SharesThis (record c.frame { slots = after.slots })
      next 0
  shares_now e =
      let sh = narrowed_shared e in
      ⊎_elim
      (λ was. let y = k.shares (ap permission_in k.whole.frame.set ∙ was) in (
        in_progress y.0,
        ⊎_elim
            (λ few. inl (none_left
            (let less = fewer_owners table made entry beginning c k s g h got g said a free overwritten lost
            rest outer (self_of c.frame.slots) in omega (arith, few, less))))
            (λ locked. absurd (both_ways _ free
            (and_from c.frame.share_entered (is_locked c.world (self_of c.frame.slots)) locked.0
            (times_among (self_of c.frame.slots) c.world.locked locked.1))))
            y.1,
      ))
      (λ none. (
        ⊎_elim
            (λ new. absurd (both_ways _ (ap (λ y. owns (permission_in y)) a.sits.frame.set ∙ ap owns sh)
            (a.sits.owns_made new)))
            (λ not. in_progress (innermost_in_progress table entry beginning c k.whole not))
            (is_new c.frame.how),
        inl (none_left (let z = no_owners table made entry beginning c k s g h got g said a free overwritten lost rest
            outer (self_of c.frame.slots) (none (self_of c.frame.slots) k.whole.frame.refers) in omega (arith, z))),
      ))
      (a.shares this k.whole.frame.this a.sits.frame.this k.whole.frame.set a.sits.frame.set sh)
    where
      in_progress : 0 < times (self_of c.frame.slots) c.world.progress
          → 0 < times (self_of after.slots)
          after.world.progress
      in_progress has = subst (λ n. 0 < times n after.world.progress) (sym same_self)
          (subst (λ l. 0 < times (self_of c.frame.slots) l)
          (sym (changed_leaves own s got h c a.stays).progress) has)

      none_left : owners (self_of c.frame.slots) next ≤ 0
          → owners (self_of after.slots)
          next ≤ 0
      none_left few = subst (λ n. owners n next ≤ 0)
          (sym same_self) few

  arguments_now : (j : ℕ) (x : Cell) → c.frame.slots j ≡ Some x
      → KeepsArgument (λ n. owners n next) x
      (after.slots j)
  arguments_now j x e =
      let r = a.alike (slot j) x e in
      argument_onward (λ n. owners n next) x r.0
      (after.slots j)
      (argument_kept (λ n. owners n next) x (Some r.0)
      (λ z is. (
        r.0,
        refl,
        r.2 ∙ ap (λ (y : Cell). y.value) (same_Some x z is),
        r.3 ∙ ap (λ (y : Cell). y.note.kind) (same_Some x z is),
      ))
      (λ z is sh. ⊎_elim (λ was. inl was)
      (λ none. inr (λ n refers. no_owners table made entry beginning c k s g h got g said a free overwritten lost rest
      outer n
      (none n refers)))
      (a.shares (slot j) x z e (r.1 ∙ is) sh)))
      (changed_arguments own s got h here_there
      (λ n. owners n next) j r.0 r.1)

  -- The object in its new state.

  object_here : IsObjectInRun table after.notes (self_of h.slots)
      (nth_object after.world.objects (self_of h.slots))
  object_here = in_run_changed own s got h here_there table a.sits.object
      (own_is table made c.frame k.whole.parts h g a.sits) low
      (λ j x e. let i = a.cells j x e in
      (i.field, i.is, sym (ap (λ y. option_map_or (is_available (Some s)) y false) i.is) ∙ i.has, i.kind))

  placed_now : HasItsState table (nth_object after.world.objects (self_of c.frame.slots))
  placed_now = subst (λ n. HasItsState table (nth_object after.world.objects n)) a.stays.this
      (there_from
      (contract_at table (nth_object after.world.objects (self_of h.slots)).contract)
      (λ o. IsStateOf o (nth_object after.world.objects (self_of h.slots)).state)
      own
      (ap (contract_at table) (changed_contracts own s got h (self_of h.slots) ∙ a.sits.frame.contract)
      ∙ k.whole.frame.own)
      (subst (IsStateOf own) (sym (changed_state own s got h here_there)) low))

  fields_now : AllStand table after.world.objects
      (field_cell after.notes after.world.objects
      (self_of c.frame.slots))
  fields_now = subst (λ n. AllStand table after.world.objects
      (field_cell after.notes after.world.objects n))
      a.stays.this
      (fields_stand_changed own s got h here_there table
      (λ j x e. ((a.cells j x e).stands, no_got table made entry beginning c k s g h got g said a free j x e))
      (no_field table made entry beginning c k s g h got g said a free) a.sits.fields)

  slots_now : AllStand table after.world.objects
      after.slots
  slots_now = slots_stand_changed own s got h here_there table
      (λ x e. let same : a.sits.frame.this ≡ x = same_Some a.sits.frame.this x (sym a.sits.frame.set ∙ e) in (
        ap (λ (y : Cell). y.value) (sym same) ∙ a.sits.frame.refers,
        ap (λ (y : Cell). y.note.kind) (sym same) ∙ a.sits.frame.kind ∙ ap Reference (sym a.sits.frame.contract),
      ))
      (no_slot table made entry beginning c k s g h got g said a free) a.sits.slots

  -- Tests.

  opens_filled : OpensKept table outer (here c) h
  opens_filled q z t e =
      let r = a.alike q z
      (sym (sits_read table made c.frame k.whole.parts (here c) k.context
      (running_sits table made entry beginning c k) q) ∙ e) in
      (r.0, sits_read table made c.frame k.whole.parts h g a.sits q ∙ r.1, r.2)

  opens_now : AreOpen body after outer
  opens_now = opens_kept_by body (here c) after same_self
      (λ n e. (changed_leaves own s got h c a.stays).shared n e) outer
      (opens_onward table outer (here c) h after opens_filled
      (changed_opens own s got h here_there table outer a.sits.object
      (subst (λ n. IsObjectInRun table after.notes n
      (nth_object after.world.objects n))
      (sym (changed_self own s got h)) object_here) tests))
      (opens_so table entry beginning c k terms outer so)

  same_tests : (n : ℕ) → tests_in n after.slots outer
      ≡ tests_in n c.frame.slots (around c.control)
  same_tests n = ap (λ j. tests_around (one_if (nat_eq j n)) outer) same_self
      ∙ ap (λ (x : Control). tests_in n c.frame.slots (around x)) (sym so)

  same_locks : (n : ℕ) → locks_around n outer ≡ locks_around n (around c.control)
  same_locks n = ap (λ (x : Control). locks_around n (around x)) (sym so)

  locked_same : after.world.locked ≡ c.world.locked
  locked_same = changed_locked own s got h ∙ a.stays.locked

  fewer : (n : ℕ) → owners n next ≤ owners n c
  fewer = fewer_owners table made entry beginning c k s g h got g said a free overwritten lost rest outer

  marks_same : (n : ℕ) → (nth_object after.world.objects n).shared ≡ true
      → ((nth_object c.world.objects n).shared ≡ true)
      ⊎ (owners n next ≡ 0)
  marks_same n e = ⊎_elim (λ was. inl was)
      (λ not. inr (no_owners table made entry beginning c k s g h got g said a free overwritten lost rest outer n
      (a.newly n not (sym (changed_shared own s got h n) ∙ e))))
      (cases_Bool (nth_object c.world.objects n).shared)

  is_step : IsOwnStep table entry c k.whole.parts after rest outer
  is_step = record {
    others = changed_leaves own s got h c a.stays;
    free = free_to_change table made entry beginning c k s g h got g said a free;
    this = same_self;
    arguments = λ j x le e. arguments_now j x e;
    unset = λ j le. changed_slot own s got h j
        (λ z. let few = k.whole.frame.params in omega (arith, z, le, few)) ∙ a.sits.frame.unset j le;
    slots = slots_now;
    fields = fields_now;
    object = subst (λ n. IsObjectInRun table after.notes n
        (nth_object after.world.objects n)) a.stays.this object_here;
    placed = λ how. placed_now;
    opens = opens_now;
    shares = shares_now;
    owns_made = owns_made_now;
    one_owner = λ n. let less = fewer n in let one = k.whole.one_owner n in omega (arith, less, one);
    disowned = λ n e d.
        let was = sym (changed_disowned own s got h n ∙ a.disowned n) ∙ e in
        let no : (nth_object c.world.objects n).shared ≡ false = ⊎_elim
        (λ z. absurd (both_ways _ d ((changed_leaves own s got h c a.stays).shared n z))) (λ z. z)
        (cases_Bool (nth_object c.world.objects n).shared) in
        let none = k.whole.disowned n was no in let less = fewer n in omega (arith, none, less);
    shared = λ n e has. ⊎_elim
        (λ was. ⊎_elim (λ z. inl (subst (λ l. 0 < times n l) (sym locked_same) z))
        (λ z. inr (let t = same_tests n in omega (arith, t, z)))
        (k.whole.shared n was (let less = fewer n in omega (arith, less, has))))
        (λ none. absurd (omega (arith, none, has)))
        (marks_same n e);
    assets = λ n l. let needs = needs_less n l in let has = k.whole.assets n (needs_first n needs) in
        let keeps = keeps_owners table made entry beginning c k s g h got g said a free overwritten lost rest
        outer n needs in
        omega (arith, has, keeps);
    balanced = λ n. let less = fewer n in let t = same_tests n in let l = same_locks n in omega (arith, less, t, l);
    lock_ends = λ n has. inl (subst (λ l. 0 < times n l) (sym locked_same) has);
    tested = λ n has. k.whole.tested n (let t = same_tests n in omega (arith, t, has));
    locked = λ n. let l = same_locks n in let is = k.whole.locked n in
        let same = ap (times n) locked_same in omega (arith, l, is, same);
    locked_once = λ n. let l = same_locks n in let once = k.whole.locked_once n in omega (arith, l, once);
    unreferred = fewer_references table made entry beginning c k s g h got g said a free overwritten lost rest outer;
  }

  -- What the context says afterwards.

  said_mode : same_mode (permission_at said this) (permission_in (h.slots 0)) ≡ true
  said_mode = ap (λ y. same_mode (permission_on y) (permission_in (h.slots 0)))
      (a.others 0)
      ∙ a.sits.says.mode refl

  kept_field : (f : ℕ) → available body f s.0 ≡ true
      → f < field_count body
  kept_field f av =
      let d = field_is own (Some s) f
      (sym (available_is body f (Some s)) ∙ av) in
      slice_get_within own.fields f d.0 d.1

  said_field : (f : ℕ) → available body f s.0 ≡ true
      → SaysOf must (said (field f))
      (cell_after (got f) (has_field own (Some s) f) (field_cell h.notes h.world.objects (self_of h.slots) f))
  said_field f av = by_got (got f) refl
    where
      by_got : (y : Option Cell) → got f ≡ y
          → SaysOf must (said (field f))
          (cell_after (got f) (has_field own (Some s) f) (field_cell h.notes h.world.objects (self_of h.slots) f))
      by_got (Some x) e = subst
          (λ y. SaysOf must (said (field f))
          (cell_after y (has_field own (Some s) f) (field_cell h.notes h.world.objects (self_of h.slots) f)))
          (sym e)
          (says_of_less (NeedsOwner table h.world.objects)
          must needs_less (said (field f)) (Some x)
          (a.cells f x e).says)
      by_got None e =
          let v = values f (kept_field f av) av e in
          let now = available_now table made c.frame k.whole.parts (here c) k.context
          (running_sits table made entry beginning c k) f v.reached in
          let there_now = ap (λ t. available body f (state_number t))
          (own_state (here c) h a.stays) ∙ now in
          subst
          (λ y. SaysOf must (said (field f))
          (cell_after y (has_field own (Some s) f) (field_cell h.notes h.world.objects (self_of h.slots) f)))
          (sym e)
          (subst
          (λ b. SaysOf must (said (field f))
          (cell_after None b (field_cell h.notes h.world.objects (self_of h.slots) f)))
          (sym (sym (available_is body f (Some s)) ∙ av))
          (subst
          (λ y. SaysOf must y
          (field_cell h.notes h.world.objects (self_of h.slots) f)) (sym (a.rest f e))
          (says_of_less (NeedsOwner table h.world.objects)
          must needs_less (g (field f)) _
          (a.sits.says.fields f there_now refl))))

  says_now : Says body
      must
      (in_state body s said) after every
  says_now = says_changed own s got h here_there body
      must said said_mode
      (λ j. subst (λ y. SaysOf must y (h.slots j))
      (sym (a.others j))
      (says_of_less (NeedsOwner table h.world.objects)
      must needs_less (g (slot j)) (h.slots j)
      (a.sits.says.slots j refl)))
      said_field

  -- What slots hold.

  held_now : AreHeld k.holdings after.slots every
  held_now j y f e = by_slot (h.slots j) refl
    where
      by_slot : (x : Option Cell) → h.slots j ≡ x → HoldsSo (k.holdings j) y
      by_slot None i = absurd (none-some y (sym (⊎_elim
          (λ z. ap after.slots z.1 ∙ changed_this own s got h
          ∙ ap (λ n. option_map (narrowed_this s) (h.slots n)) (sym z.1) ∙ ap (option_map (narrowed_this s)) i)
          (λ z. changed_slot own s got h j z.1 ∙ i)
          (eqb_tells j 0)) ∙ e))
      by_slot (Some x) i =
          let r = comes_from table made entry beginning c k s (tested_places outer) g h got g said a (slot j) x i in
          let z : KeepsArgument (λ n. 0) x (Some y) = subst (KeepsArgument (λ n. 0) x) e
          (changed_arguments own s got h here_there (λ n. 0) j x i) in
          held_alike (k.holdings j) r.cell y (z.1 ∙ r.kind) (k.held j r.cell refl r.is)

  -- Each field of the new state has a value.

  has_value : (f : ℕ) → (not (has_field own (Some s) f)
      || is_some (values_after own s got (own_object h).fields f)) ≡ true
  has_value f = by_has (has_field own (Some s) f) refl
    where
      by_got : (y : Option Cell) → got f ≡ y → has_field own (Some s) f ≡ true
          → is_some (values_after own s got (own_object h).fields f) ≡ true
      by_got (Some x) e there = ap (λ y. is_some (value_after y
          (if has_field own (Some s) f then (own_object h).fields f else None))) e
      by_got None e there =
          let av = available_is body f (Some s) ∙ there in
          let v = values f (kept_field f av) av e in
          let u = found_at table made c.frame k.whole.parts (here c) k.context
          (running_sits table made entry beginning c k)
          (field f) (record {
            set = v.set;
            reached = λ n i. subst
                (λ m. accessible body k.context m ≡ true)
                (field_number i) v.reached;
          }) in
          let r = a.alike (field f) u.cell u.is in
          ap (λ y. is_some (value_after y
          (if has_field own (Some s) f then (own_object h).fields f else None))) e
          ∙ ap (λ b. is_some (if b then (own_object h).fields f else None)) there
          ∙ ap is_some (field_cell_is h.notes h.world.objects (self_of h.slots) f r.0 r.1).0
        where
          field_number : {i j : ℕ} → field i ≡ field j → i ≡ j
          field_number e = cc

      by_has : (b : Bool) → has_field own (Some s) f ≡ b
          → (not (has_field own (Some s) f)
          || is_some (values_after own s got (own_object h).fields f)) ≡ true
      by_has true e = or_right (not (has_field own (Some s) f)) _ (by_got (got f) refl e)
      by_has false e = or_left (not (has_field own (Some s) f)) _ (ap not e)

  all_values : has_all_values own (changed_object own s got (own_object h)) ≡ true
  all_values = all_below_from (length own.fields) _ (λ f lt. has_value f)

  self_now : self after ≡ Some (changed_object own s got (own_object h))
  self_now = self_is after
      (let e = changed_self own s got h in let n = changed_count own s got h in
      let lt = here_there in omega (arith, e, n, lt))
      ∙ ap (λ n. Some (nth_object after.world.objects n)) (changed_self own s got h)
      ∙ ap Some (changed_is own s got h here_there)

  changes_so : change_with own s rest outer c h got
      ≡ goes_to c after (runs rest outer)
  changes_so =
      ap (λ z. if_there z (λ o. if has_all_values own o
      then goes_to c after (runs rest outer) else stuck)) self_now
      ∙ ap (λ b. if b
      then goes_to c after (runs rest outer) else stuck) all_values

  -- The step leads to a coherent configuration.
  pub change_so : (i : Holdings) → AreHeld i after.slots every
      → Remains body i (in_state body s said) rest outer
      → StepsSo table entry beginning (change_with own s rest outer c h got)
  change_so i held remains = subst (StepsSo table entry beginning) (sym changes_so)
      (running (own_step_keeps table entry beginning c after rest outer made k is_step
      (in_state body s said) says_now i held remains))

  pub held_after : AreHeld k.holdings after.slots every
  held_after = held_now
