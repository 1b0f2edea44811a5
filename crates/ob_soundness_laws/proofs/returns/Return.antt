-- The step of a return: the frame leaves with its result.
use Rattle.std.proofs.Common.{◌≡◌, ◌≢◌, ℕ, ◌+◌, ◌<◌, ◌≤◌, ◌⊎◌, inl, inr, ⊎_elim, Bool, true, false, not, nat_eq, List, [], ◌∷◌, length, Option, Some, None, option_map, is_some, refl, sym, ap, ◌∙◌, subst, arith, eq-eqb, true≢false, ne_eqb}
use Rattle.std.specs.Prelude.{IfSome, ◌==◌, if◌then◌else◌}
use Rattle.std.proofs.lemmas.Bool.{both_ways, cases_Bool, and_from, or_right, or_left}
use Rattle.ob_base.specs.declared.fault.Span.{Span}
use Rattle.ob_base.specs.declared.id.StateId.{StateId}
use Rattle.ob_base.specs.declared.permission.Mode.{Mode}
use Rattle.ob_base.specs.declared.permission.Mode.TheVariants.{Owned, Shared, Unowned}
use Rattle.ob_perm.specs.States.{States}
use Rattle.ob_perm.specs.Permissions.{Permission, owned, shared, unowned, owns, is_unowned, kept, fits}
use Rattle.ob_perm.specs.Masks.{states_of, held, permission_of}
use Rattle.ob_perm.proofs.SetLemmas.{all_below_from}
use Rattle.ob_table.specs.Tables.{ClassTable, contract_at}
use Rattle.ob_table.specs.declared.contract.Contract.{Contract}
use Rattle.ob_table.specs.declared.contract.ResolvedType.{ResolvedType}
use Rattle.ob_table.specs.declared.contract.ResolvedType.TheVariants.{Reference as TypedReference}
use Rattle.ob_table.specs.declared.seen.Kind.{Kind}
use Rattle.ob_table.specs.declared.seen.Kind.TheVariants.{Reference}
use Rattle.ob_table_spec.specs.Conditions.{IsClassTable, IsConstructor}
use Rattle.ob_table_spec.specs.WellFormed.{kind_of_resolved, serves_as}
use Rattle.ob_heap_spec.specs.Values.{Value}
use Rattle.ob_heap_spec.specs.Objects.{Object, state_number, has_field, has_all_values}
use Rattle.ob_heap_spec.specs.Contents.{IsStateOf}
use Rattle.ob_heap_spec.specs.GoingWrong.{has_its_state, is_finished, is_within}
use Rattle.ob_silica.specs.Slots.{slots_of_form}
use Rattle.ob_silica.specs.Terms.{SilicaTerms, and_term, return_form}
use Rattle.ob_silica.specs.declared.place.Operand.{Operand}
use Rattle.ob_silica_places.specs.Converting.{converted}
use Rattle.ob_silica_places.specs.Known.{Known, permission_of_type}
use Rattle.ob_silica_places.specs.Places.{Location, slot, field, this, same_location, located}
use Rattle.ob_silica_steps.specs.Binding.{bound_cell}
use Rattle.ob_silica_steps.specs.Cells.{Cell, permission_in}
use Rattle.ob_silica_steps.specs.Configurations.{SilicaProgram, How, by_receiver, by_this, by_new, SilicaFrame, Rest, Control, runs, leaves, Configuration, NextStep, stuck}
use Rattle.ob_silica_steps.specs.Here.{here, if_there, self_of, self, read, hand}
use Rattle.ob_silica_steps.specs.Here.{counted as counts_as}
use Rattle.ob_silica_steps.specs.Returning.{exits_are_within, leaves_with, gives_none, gives_result}
use Rattle.ob_silica_steps.specs.Steps.{act}
use Rattle.ob_silica_formed.specs.Points.{IsReturnedAs, NamesWhatIsThere}
use Rattle.ob_flow_spec.specs.Contexts.{BodyFrame, available, Context, with_permission, permission_on, permission_at, is_set, is_held_as, is_owned_asset, is_tested, possible_under, exit_of_field, static_of}
use Rattle.ob_flow_spec.specs.Returning.{value_returned, tests_ended}
use Rattle.ob_flow_spec.specs.Uses.{after_give}
use Rattle.ob_flow_laws.specs.Laws.{MeetsExit, MeetsExits}
use Rattle.ob_flow_laws.specs.Returning.{CanGiveValue, CanReturn}
use Rattle.ob_flow_laws.proofs.Returning.{tested_owns}
use Rattle.ob_flow_laws.proofs.Held.{held_known}
use Rattle.ob_places_laws.specs.Serving.{Allows}
use Rattle.ob_places_laws.proofs.Permissions.{same_mode_owns}
use Rattle.ob_places_laws.proofs.Serves.{fits_allowed}
use Rattle.ob_places_laws.proofs.Conversions.{converted_same, serves_itself}
use Rattle.ob_places_laws.proofs.Tables.{there_is, there_from, contract_is, signature_from, constructor_is}
use Rattle.ob_coherent_spec.specs.Counting.{nth_object, Counted, any, in_control, in_all, owners}
use Rattle.ob_coherent_spec.specs.Runs.{around, constructing_at, constructing_among, tested_places}
use Rattle.ob_coherent_spec.specs.Standing.{IsObjectInRun, NeedsOwner, HasItsState}
use Rattle.ob_coherent_spec.specs.Saying.{Agrees, own_cell, AgreesWith}
use Rattle.ob_coherent_spec.specs.Remaining.{BodyParts, IsCheckedProgram, body_of, IsPlaceIn, Remains}
use Rattle.ob_coherent_spec.specs.OpenTests.{AreOpen}
use Rattle.ob_coherent_spec.specs.Waiting.{gives_back_by}
use Rattle.ob_coherent_spec.specs.Coherent.{Beginning, IsGivenBack, LeavesSo, IsRunning, IsLeaving, leaving, StepsSo}
use Rattle.ob_soundness_laws.specs.frames.Steps.{moved_to, KeepsQuietly}
use Rattle.ob_soundness_laws.proofs.frames.Near.{keeps_itself}
use Rattle.ob_soundness_laws.proofs.frames.Quiet.{EndsSame, ends_itself, quiet_whole, quiet_shares}
use Rattle.ob_soundness_laws.proofs.frames.Whole.{whole_kept}
use Rattle.ob_soundness_laws.proofs.counting.Whole.{all_but_here}
use Rattle.ob_soundness_laws.specs.places.Placed.{cell_at, Found, Sits}
use Rattle.ob_soundness_laws.proofs.places.Reading.{read_is, place_is, self_is, available_is}
use Rattle.ob_soundness_laws.proofs.places.Writing.{stays_leaves, stays_itself}
use Rattle.ob_soundness_laws.proofs.places.Finding.{found, found_at, found_stands, counts_is, agrees_allows}
use Rattle.ob_soundness_laws.proofs.places.Keeping.{put_that, put_other}
use Rattle.ob_soundness_laws.proofs.places.Getting.{bound_stands, objects_low}
use Rattle.ob_soundness_laws.proofs.places.Handing.{said_fits}
use Rattle.ob_soundness_laws.proofs.remaining.Remaining.{first_formed, first_slots, first_passes}
use Rattle.ob_soundness_laws.proofs.tests.Operands.{place_inside, kind_found}
use Rattle.ob_soundness_laws.proofs.tests.Unchanged.{remains_so, opens_so}
use Rattle.ob_soundness_laws.proofs.returns.Returned.{same_gift}
use Rattle.ob_soundness_laws.proofs.returns.Handed.{handed_leaves}
use Rattle.ob_soundness_laws.proofs.returns.AtReturn.{value_within, owned_given, untested_made, exits_within, state_left, field_left, others_left, left_so, none_known}
use Rattle.ob_silica_formed.specs.Holdings.{kind_of_operand}

some_same : {A : Type 0} (x y : A) → Some x ≡ Some y → x ≡ y
some_same x y e = cc

slot_same : (j i : ℕ) → slot j ≡ slot i → j ≡ i
slot_same j i e = cc

-- what is returned changes no owner but to what a giver keeps
owned_returned : (g : Context) (value : Option Operand) (result : Option ResolvedType) (q : Location) (a : States)
    → permission_at (value_returned g value result) q ≡ owned a → permission_at g q ≡ owned a
owned_returned g None result q a e = e
owned_returned g (Some o) None q a e = e
owned_returned g (Some o) (Some of) q a e = owned_given g (located o) (permission_of_type of) q a e

-- what isn't known stays so
none_given : (g : Context) (p : Location) (w : Permission) (slots : ℕ) → ((j : ℕ) → p ≡ slot j → j < slots)
    → ((j : ℕ) → slots ≤ j → g (slot j) ≡ None) → (j : ℕ) → slots ≤ j → after_give g p w (slot j) ≡ None
none_given g p w slots inside none j past = ⊎_elim
    (λ e. absurd (let z = inside j (sym e) in omega (arith, z, past)))
    (λ e. put_other g p (with_permission (kept (permission_at g p) w) (g p)) (slot j) e ∙ none j past)
    (place_is (slot j) p)

gives_as_told : (how : How) (f : SilicaFrame) (parts : BodyParts) → how ≢ by_new → gives_back_by how f parts ≡
    parts.signature.result
gives_as_told by_receiver f parts old = refl
gives_as_told by_this f parts old = refl
gives_as_told by_new f parts old = absurd (old refl)

gives_made : (how : How) (f : SilicaFrame) (parts : BodyParts) → how ≡ by_new
    → gives_back_by how f parts ≡ Some (TypedReference f.contract parts.signature.exit)
gives_made by_receiver f parts e = absurd (cc)
gives_made by_this f parts e = absurd (cc)
gives_made by_new f parts e = refl

has_a_say : (m : Mode) (a : States) → m ≢ Unowned → is_unowned (held m a) ≡ false
has_a_say Owned a e = refl
has_a_say Shared a e = refl
has_a_say Unowned a e = absurd (e refl)

module _ (table : ClassTable) (t : IsClassTable table) (entry : Option ℕ) (beginning : Beginning) (c : Configuration)
    (k : IsRunning table entry beginning c) (value : Option Operand) (span : Span) (rest : SilicaTerms)
    (outer : List Rest)
    (so : c.control ≡ runs (and_term (return_form value) span rest) outer) where
  abbrev b : BodyFrame
  b = body_of table c.frame k.whole.parts

  abbrev sits : Sits table c.frame k.whole.parts (here c) k.context
  sits = record {
    frame = k.whole.frame;
    slots = k.whole.slots;
    fields = k.whole.fields (self_of c.frame.slots);
    object = k.whole.objects (self_of c.frame.slots) k.whole.frame.there;
    says = k.says;
    placed = k.placed;
    owns_made = k.owns_made;
  }

  remains : Remains b k.holdings k.context (and_term (return_form value) span rest) outer
  remains = remains_so table entry beginning c k (and_term (return_form value) span rest) outer so

  opens : AreOpen b (here c) outer
  opens = opens_so table entry beginning c k (and_term (return_form value) span rest) outer so

  can : CanReturn b (tested_places outer) k.context value
  can = (first_passes b k.holdings k.context (return_form value) span rest outer remains).passes.0

  around_is : around c.control ≡ outer
  around_is = ap around so

  abbrev left_context : Context
  left_context = value_returned k.context value k.whole.parts.signature.result

  was : (q : Location) (a : States) → permission_at left_context q ≡ owned a → permission_at k.context q ≡ owned a
  was q a e = owned_returned k.context value k.whole.parts.signature.result q a e

  within : exits_are_within table c k.whole.parts.signature ≡ true
  within = exits_within table t entry beginning c k outer around_is opens left_context was can.exits

  same_ends : EndsSame (around c.control) outer
  same_ends = subst (λ (x : Control). EndsSame (around x) outer) (sym so) (ends_itself outer)

  -- the signature of a constructor
  made_signature : c.frame.how ≡ by_new → IsConstructor table k.whole.parts.own k.whole.parts.signature
  made_signature made = constructor_is table k.whole.parts.own (contract_is table t c.frame.contract k.whole.parts.own
      k.whole.frame.own)
      k.whole.frame.class c.frame.tx k.whole.parts.signature (zero_number c.frame.tx.0 (k.whole.frame.constructs made))
      k.whole.frame.signature
    where
      zero_number : (n : ℕ) → nat_eq n 0 ≡ true → n ≡ 0
      zero_number n e = grind arith

  -- A return without a value.

  module _ (none : value ≡ None) (old : c.frame.how ≢ by_new) (no_result : k.whole.parts.signature.result ≡ None) where
    abbrev d : Configuration
    d = moved_to c (here c) (leaves None outer)

    same_all : (counts : Counted) (n : ℕ) → in_all counts n d ≡ in_all counts n c
    same_all counts n = let x = all_but_here counts n c d refl refl in
        let v : in_control counts n c.control ≡ 0 = ap (in_control counts n) so in omega (arith, x, v)

    quietly : KeepsQuietly table c k.whole.parts (here c) (leaves None outer)
    quietly = record {
      others = stays_leaves c (here c) (stays_itself (here c));
      state = refl;
      locks = refl;
      this = refl;
      arguments = λ j x le set. keeps_itself (λ n. owners n d) x (c.frame.slots j) set;
      unset = k.whole.frame.unset;
      slots = k.whole.slots;
      fields = k.whole.fields (self_of c.frame.slots);
      object = k.whole.objects (self_of c.frame.slots) k.whole.frame.there;
      fewer = λ n. let e = same_all owns n in omega (arith, e);
      keeps_owner = λ n need. let e = same_all owns n in omega (arith, e);
      newly_shared = λ n e f. absurd (both_ways _ e f);
      newly_disowned = λ n e f. absurd (both_ways _ e f);
    }

    context_is : left_context ≡ k.context
    context_is = ap (λ v. value_returned k.context v k.whole.parts.signature.result) none

    pub leaves_plain : IsLeaving table entry beginning d
    leaves_plain = record {
      whole = whole_kept table entry beginning c (here c) (leaves None outer) t k.whole
          (quiet_whole table entry beginning c (here c) (leaves None outer) k.whole same_ends quietly);
      result = None;
      outer = outer;
      control = refl;
      returned = λ x e. absurd (cc);
      given = subst (IsGivenBack (NeedsOwner table c.world.objects) None) (sym (same_gift c.frame.how c.frame
          c.frame.slots k.whole.parts
          ∙ gives_as_told c.frame.how c.frame k.whole.parts old ∙ no_result)) tt;
      context = k.context;
      says = k.says;
      opens = opens;
      still = λ q e. ap (λ (g : Context). owns (permission_at g q)) (sym context_is) ∙ tested_owns b (tested_places
          outer) k.context value can q e;
      leaves_so = subst (λ (g : Context). LeavesSo b c.frame.how (tests_ended (tested_places outer) g)
          (state_number (nth_object c.world.objects (self_of c.frame.slots)).state))
          context_is (left_so table t entry beginning c k outer around_is opens left_context was can.exits old
          (subst (λ (g : Context). (j : ℕ) → k.whole.parts.slots ≤ j → g (slot j) ≡ None) (sym context_is)
          (none_known table t entry beginning c k outer around_is opens)));
      placed = k.placed old;
      shares = λ o. quiet_shares table entry beginning c (here c) (leaves None outer) k.whole same_ends quietly k.shares
          (λ held. inl held);
      unreferred = λ n has. let e = same_all any n in let one = k.unreferred n (let z : 0 < constructing_at n
          c.frame.how c.frame.slots + constructing_among n c.stack = omega arith in z) in
          omega (arith, e, one);
      lends = k.lends;
    }

  -- A return of a value.

  module _ (o : Operand) (of : ResolvedType) (some : value ≡ Some o) (result : k.whole.parts.signature.result ≡ Some of)
    where
      formed : (IsPlaceIn b (located o)) × (kind : Kind) × (kind_of_operand (static_of b) k.holdings o ≡ Some kind)
          × (serves_as table (kind_of_resolved of) kind ≡ true)
      formed =
          let y = first_formed b k.holdings k.context (return_form value) span rest outer remains in
          let few = first_slots b k.holdings k.context (return_form value) span rest outer remains in
          let returns = subst (λ r. IsReturnedAs (static_of b) k.holdings (option_map kind_of_resolved r) (Some o)) result
          (subst (λ v. IsReturnedAs (static_of b) k.holdings (option_map kind_of_resolved k.whole.parts.signature.result)
          v) some y.returns) in
          let at = there_is _ _ returns in (
            place_inside b o.place (subst (λ v. slots_of_form (return_form v) ≤ b.slots) some few)
                (subst (λ v. NamesWhatIsThere (static_of b) k.holdings (return_form v)) some y.numbers),
            at.0,
            at.1,
            at.2,
          )

      gives_it : CanGiveValue b (tested_places outer) k.context (Some o) (Some of)
      gives_it = subst (λ r. CanGiveValue b (tested_places outer) k.context (Some o) r) result
          (subst (λ v. CanGiveValue b (tested_places outer) k.context v k.whole.parts.signature.result) some can.gives)

      u : Found (NeedsOwner table c.world.objects) (k.context (located o)) (cell_at (here c) (located o))
      u = found_at table t c.frame k.whole.parts (here c) k.context sits (located o) gives_it.usable.readable

      serves : serves_as table (kind_of_resolved of) u.cell.note.kind ≡ true
      serves = subst (λ kind. serves_as table (kind_of_resolved of) kind ≡ true)
          (sym (kind_found table t entry beginning c k o.place u.cell formed.1 u.is formed.2)) formed.3

      fit : fits (converted table u.cell.note.kind (kind_of_resolved of) (counts_as (here c) (located o) u.cell))
          (permission_of_type of) ≡ true
      fit = said_fits table t c.frame k.whole.parts (here c) k.context sits (located o) u of (permission_of_type of)
          gives_it.serves

      old : c.frame.how ≢ by_new
      old made = let z : k.whole.parts.signature.result ≡ None = (made_signature made).result in absurd
          (let y : ◌≡◌ {A = Option ResolvedType} None (Some of) = sym z ∙ result in cc)

      right : is_within table c.world.objects of u.cell.value ≡ true
      right = value_within table c.world.objects of u.cell.value (λ own.
          bound_stands table t c.world.objects u.cell (counts_as (here c) (located o) u.cell) (permission_of_type of)
          (kind_of_resolved of)
          (objects_low table t c.notes c.world.objects k.whole.objects) serves (counts_is (here c) (located o) u.cell)
          (λ e. absurd (true≢false (sym own ∙ ap owns e))) fit (found_stands table t c.frame k.whole.parts (here c)
          k.context sits (located o) u))

      value_context : left_context ≡ after_give k.context (located o) (permission_of_type of)
      value_context = ap (λ v. value_returned k.context v k.whole.parts.signature.result) some
          ∙ ap (λ r. value_returned k.context (Some o) r) result

      leaves_value : IsLeaving table entry beginning (moved_to c (hand of (located o) u.cell (here c))
          (leaves (Some (bound_cell of u.cell.value)) outer))
      leaves_value = handed_leaves table t entry beginning c k (and_term (return_form value) span rest) outer so
          (located o) formed.0 u of serves fit
          (gives_as_told c.frame.how c.frame k.whole.parts old ∙ result)
          (λ q e. ap (λ (g : Context). owns (permission_at g q)) (sym value_context) ∙ tested_owns b (tested_places outer)
          k.context value can q e)
          (subst (λ (g : Context). LeavesSo b c.frame.how (tests_ended (tested_places outer) g)
          (state_number (nth_object c.world.objects (self_of c.frame.slots)).state))
          value_context (left_so table t entry beginning c k outer around_is opens left_context was can.exits old
          (subst (λ (g : Context). (j : ℕ) → k.whole.parts.slots ≤ j → g (slot j) ≡ None) (sym value_context)
          (none_given k.context (located o) (permission_of_type of) k.whole.parts.slots (λ j e. subst (IsPlaceIn b) e
          formed.0)
          (none_known table t entry beginning c k outer around_is opens)))))
          (k.placed old)

      pub value_steps : StepsSo table entry beginning (if_there (read table (here c) (located o)) (λ x.
          if is_within table c.world.objects of x.value
          then leaves_with c (hand of (located o) x (here c)) (Some (bound_cell of x.value)) outer
          else stuck))
      value_steps = subst (λ y. StepsSo table entry beginning (if_there y (λ x.
          if is_within table c.world.objects of x.value
          then leaves_with c (hand of (located o) x (here c)) (Some (bound_cell of x.value)) outer
          else stuck)))
          (sym (read_is table (here c) k.whole.frame.there (k.whole.objects (self_of c.frame.slots) k.whole.frame.there)
          (located o) ∙ u.is))
          (subst (λ y. StepsSo table entry beginning (if y
          then leaves_with c (hand of (located o) u.cell (here c)) (Some (bound_cell of u.cell.value)) outer
          else stuck)) (sym right) (leaving leaves_value))

  -- The end of a constructor.

  module _ (none : value ≡ None) (made : c.frame.how ≡ by_new) where
    abbrev gift : ResolvedType
    gift = TypedReference c.frame.contract k.whole.parts.signature.exit

    abbrev exit : Permission
    exit = permission_of k.whole.parts.signature.exit

    abbrev object : Object
    object = nth_object c.world.objects (self_of c.frame.slots)

    made_context : left_context ≡ k.context
    made_context = ap (λ v. value_returned k.context v k.whole.parts.signature.result) none

    met : MeetsExits b (tests_ended (tested_places outer) k.context)
    met = subst (λ (g : Context). MeetsExits b (tests_ended (tested_places outer) g)) made_context can.exits

    untested : is_tested (tested_places outer) this ≡ false
    untested = untested_made table t entry beginning c k outer around_is opens made

    this_ended : tests_ended (tested_places outer) k.context this ≡ k.context this
    this_ended = ap (λ z. if z then with_permission shared (k.context this) else k.context this) untested

    set : is_set (k.context this) ≡ true
    set = ap is_set k.remains.itself.1

    v : Found (NeedsOwner table c.world.objects) (k.context this) (cell_at (here c) this)
    v = found (NeedsOwner table c.world.objects) (k.context this) (c.frame.slots 0) set (k.says.slots 0 refl)

    v_kind : v.cell.note.kind ≡ Reference c.frame.contract
    v_kind = ap (λ (x : Cell). x.note.kind) (some_same v.cell k.whole.frame.this (sym v.is ∙ k.whole.frame.set))
        ∙ k.whole.frame.kind

    v_serves : serves_as table (kind_of_resolved gift) v.cell.note.kind ≡ true
    v_serves = subst (λ kind. serves_as table (Reference c.frame.contract) kind ≡ true) (sym v_kind) (serves_itself
        table (Reference c.frame.contract))

    v_fit : fits (converted table v.cell.note.kind (kind_of_resolved gift) (counts_as (here c) this v.cell)) exit ≡ true
    v_fit = subst (λ kind. fits (converted table kind (Reference c.frame.contract) v.cell.note.permission) exit ≡ true)
        (sym v_kind)
        (ap (λ q. fits q exit) (converted_same table (Reference c.frame.contract) v.cell.note.permission)
        ∙ fits_allowed (permission_at k.context this) v.cell.note.permission exit
        (subst (λ x. Allows (permission_at k.context this) (permission_in x)) v.is (agrees_allows (k.context this)
        (c.frame.slots 0) (k.says.slots 0 refl).known))
        (ap (λ x. fits (permission_on x) exit) (sym this_ended) ∙ (met.made (k.whole.frame.constructs made)).serves))

    say : is_unowned exit ≡ false
    say = has_a_say k.whole.parts.signature.exit.mode (states_of k.whole.parts.signature.exit.states) (made_signature
        made).exit_not_unowned

    -- `this` owns before, and not after
    owner_before : owns (permission_at k.context this) ≡ true
    owner_before = same_mode_owns (permission_at k.context this) (permission_in (c.frame.slots 0)) (k.says.mode refl)
        ∙ k.owns_made made

    kept_none : (p q : Permission) → is_unowned q ≡ false → owns (kept p q) ≡ false
    kept_none p (owned a) e = refl
    kept_none p shared e = refl
    kept_none p unowned e = absurd (true≢false e)

    can_be : possible_under b (permission_at (tests_ended (tested_places outer) k.context) this)
        (state_number object.state) ≡ true
    can_be = state_left table t entry beginning c k outer around_is opens k.context (λ q a e. e) met
        (λ m. ap (λ x. owns (permission_on x)) this_ended ∙ owner_before)

    -- the object has all its values, and a state if there are any
    field_set : (j : ℕ) → has_field k.whole.parts.own object.state j ≡ true → is_some (object.fields j) ≡ true
    field_set j there = by_says (k.context (field j)) held (k.says.fields j available_now refl).known
      where
        available_now : available b j (state_number object.state) ≡ true
        available_now = available_is b j object.state ∙ there

        ended_set : (z : Bool) → is_tested (tested_places outer) (field j) ≡ z → (x : Option Known) → tests_ended
            (tested_places outer) k.context (field j) ≡ x
            → is_set x ≡ true → is_set (k.context (field j)) ≡ true
        ended_set true e x i s = same_set (k.context (field j))
            (ap is_set (sym (ap (λ z. if z then with_permission shared (k.context (field j)) else k.context (field j))
            e) ∙ i) ∙ s)
          where
            same_set : (y : Option Known) → is_set (with_permission shared y) ≡ true → is_set y ≡ true
            same_set None e = e
            same_set (Some y) e = refl
        ended_set false e x i s = ap is_set (sym (ap (λ z. if z then with_permission shared (k.context (field j)) else
            k.context (field j)) e) ∙ i) ∙ s

        held : is_set (k.context (field j)) ≡ true
        held = let h = held_known (tests_ended (tested_places outer) k.context (field j)) (exit_of_field b b.signature
            j)
            (field_left table t entry beginning c k outer around_is opens k.context (λ q a e. e) met can_be j
            available_now) in
            ended_set (is_tested (tested_places outer) (field j)) refl (Some h.0) h.1 refl

        some_value : (x : Option Value) → object.fields j ≡ x → (y : Known) → AgreesWith y
            (option_map (λ z. record { value = z; note = c.notes.fields (self_of c.frame.slots) j }) x) → is_some x ≡
            true
        some_value None e y a = absurd a
        some_value (Some x) e y a = refl

        by_says : (y : Option Known) → is_set y ≡ true → Agrees y (own_cell (here c) j) → is_some (object.fields j) ≡
            true
        by_says None s a = absurd (true≢false (sym s))
        by_says (Some y) s a = some_value (object.fields j) refl y a

    all_values : has_all_values k.whole.parts.own object ≡ true
    all_values = all_below_from (length k.whole.parts.own.fields) _ (λ j below. ⊎_elim
        (λ e. or_right (not (has_field k.whole.parts.own object.state j)) _ (field_set j e))
        (λ e. rw e refl)
        (cases_Bool (has_field k.whole.parts.own object.state j)))

    stateless_or : (s : Option StateId) → object.state ≡ s → (length k.whole.parts.own.states ≡ 0) ⊎ (is_some s ≡ true)
    stateless_or (Some s) e = inr refl
    stateless_or None e = ⊎_elim
        (λ z. inl z)
        (λ z. absurd (both_ways _ z (subst (λ s. possible_under b (permission_at (tests_ended (tested_places outer)
        k.context) this) (state_number s) ≡ true) e can_be)))
        (met.made (k.whole.frame.constructs made)).in_state

    its_state : has_its_state k.whole.parts.own object ≡ true
    its_state = ⊎_elim
        (λ e. or_left (length k.whole.parts.own.states == 0) (is_some object.state)
        (eq-eqb (length k.whole.parts.own.states) 0 e))
        (λ e. or_right (length k.whole.parts.own.states == 0) (is_some object.state) e)
        (stateless_or object.state refl)

    finished : is_finished k.whole.parts.own object ≡ true
    finished = and_from (has_all_values k.whole.parts.own object) (has_its_state k.whole.parts.own object) all_values
        its_state

    placed : HasItsState table object
    placed = there_from (contract_at table object.contract) (λ o. IsStateOf o object.state) k.whole.parts.own
        (ap (contract_at table) k.whole.frame.contract ∙ k.whole.frame.own) (by_state object.state refl)
      where
        run : IsObjectInRun table c.notes (self_of c.frame.slots) object
        run = k.whole.objects (self_of c.frame.slots) k.whole.frame.there

        same_own : run.own ≡ k.whole.parts.own
        same_own = some_same run.own k.whole.parts.own (sym run.contract ∙ ap (contract_at table) k.whole.frame.contract
            ∙ k.whole.frame.own)

        no_states : (xs : List (List ℕ)) → length xs ≡ 0 → xs ≡ []
        no_states [] e = refl
        no_states (x ∷ xs) e = absurd (omega (arith, e))

        by_state : (s : Option StateId) → object.state ≡ s → IsStateOf k.whole.parts.own s
        by_state (Some s) e = subst (λ (o : Contract). s.0 < length o.states) same_own
            (subst (λ x. IfSome x (λ (s : StateId). s.0 < length run.own.states)) e run.state)
        by_state None e = ⊎_elim (λ z. no_states k.whole.parts.own.states z) (λ z. absurd (cc)) (stateless_or None e)

    -- what the context says once `this` was given
    other_ended : (q : Location) → same_location q this ≡ false
        → tests_ended (tested_places outer) (after_give k.context this exit) q ≡ tests_ended (tested_places outer)
        k.context q
    other_ended q ne = ap (λ x. if is_tested (tested_places outer) q then with_permission shared x else x)
        (put_other k.context this (with_permission (kept (permission_at k.context this) exit) (k.context this)) q ne)

    meets_other : (q : Location) (w : Permission) → same_location q this ≡ false → MeetsExit b
        (tests_ended (tested_places outer) k.context) q w
        → MeetsExit b (tests_ended (tested_places outer) (after_give k.context this exit)) q w
    meets_other q (owned a) ne m = ap (λ y. is_held_as y (owned a)) (other_ended q ne) ∙ m
    meets_other q shared ne m = ap (λ y. is_held_as y shared) (other_ended q ne) ∙ m
    meets_other q unowned ne m = ap (λ y. is_owned_asset table y) (other_ended q ne) ∙ m

    next_slot : (j : ℕ) → same_location (slot (j + 1)) this ≡ false
    next_slot j = ne_eqb (j + 1) 0 (λ e. (let z : j + 1 ≡ 0 = e in omega (arith, z)))

    later_slot : (n j : ℕ) → n < j → same_location (slot j) this ≡ false
    later_slot n j more = ne_eqb j 0 (λ e. (let z : j ≡ 0 = e in omega (arith, z, more)))

    given_none : owns (permission_at (tests_ended (tested_places outer) (after_give k.context this exit)) this) ≡ false
    given_none = ap (λ z. owns (permission_on (if z then with_permission shared (after_give k.context this exit this)
        else after_give k.context this exit this))) untested
        ∙ ap (λ y. owns (permission_on y)) (put_that k.context this (with_permission (kept (permission_at k.context
        this) exit) (k.context this)) this refl)
        ∙ by_known (k.context this)
      where
        by_known : (y : Option Known) → owns (permission_on (with_permission (kept (permission_on y) exit) y)) ≡ false
        by_known None = refl
        by_known (Some y) = kept_none y.permission exit say

    made_left : LeavesSo b c.frame.how (tests_ended (tested_places outer) (after_give k.context this exit))
        (state_number object.state)
    made_left = record {
      params = λ j p e. meets_other (slot (j + 1)) (permission_of p.exit) (next_slot j) (met.params j p e);
      itself = λ old. absurd (old made);
      given = λ m. given_none;
      others = λ j more. ap (λ y. is_owned_asset table y) (other_ended (slot j) (later_slot _ j more))
          ∙ others_left table t entry beginning c k outer around_is opens k.context (λ q a e. e) met (none_known table t
          entry beginning c k outer around_is opens) j more;
      fields = λ j there. ap (λ y. is_held_as y (exit_of_field b b.signature j)) (other_ended (field j) refl)
          ∙ field_left table t entry beginning c k outer around_is opens k.context (λ q a e. e) met can_be j there;
    }

    leaves_made : IsLeaving table entry beginning (moved_to c (hand gift this v.cell (here c))
        (leaves (Some (bound_cell gift v.cell.value)) outer))
    leaves_made = handed_leaves table t entry beginning c k (and_term (return_form value) span rest) outer so this
        (let x = k.whole.frame.params in omega (arith, x)) v gift v_serves v_fit (gives_made c.frame.how c.frame
        k.whole.parts made)
        (λ q e. ap (λ y. owns (permission_on y)) (put_other k.context this (with_permission
        (kept (permission_at k.context this) exit) (k.context this)) q
        (⊎_elim (λ i. absurd (both_ways _ untested (subst (λ r. is_tested (tested_places outer) r ≡ true) i e)))
        (λ i. i) (place_is q this)))
        ∙ ap (λ (g : Context). owns (permission_at g q)) (sym made_context) ∙ tested_owns b (tested_places outer)
        k.context value can q e)
        made_left placed

    pub made_steps : StepsSo table entry beginning (if_there (contract_at table c.frame.contract) (λ own. if_there
        (self (here c)) (λ o.
        if_there (read table (here c) this) (λ x.
        if is_finished own o
        then leaves_with c (hand (TypedReference c.frame.contract k.whole.parts.signature.exit) this x (here c))
        (Some (bound_cell (TypedReference c.frame.contract k.whole.parts.signature.exit) x.value)) outer
        else stuck))))
    made_steps =
        subst (λ y. StepsSo table entry beginning (if_there y (λ own. if_there (self (here c)) (λ o. if_there
        (c.frame.slots 0) (λ x. result own o x)))))
        (sym k.whole.frame.own)
        (subst (λ y. StepsSo table entry beginning (if_there y (λ o. if_there (c.frame.slots 0)
        (λ x. result k.whole.parts.own o x))))
        (sym (self_is (here c) k.whole.frame.there))
        (subst (λ y. StepsSo table entry beginning (if_there y (λ x. result k.whole.parts.own object x))) (sym v.is)
        (subst (λ y. StepsSo table entry beginning (if y then leaves_with c (hand gift this v.cell (here c))
        (Some (bound_cell gift v.cell.value)) outer else stuck))
        (sym finished) (leaving leaves_made))))
      where
        result : Contract → Object → Cell → NextStep
        result own o x = if is_finished own o
            then leaves_with c (hand (TypedReference c.frame.contract k.whole.parts.signature.exit) this x (here c))
            (Some (bound_cell (TypedReference c.frame.contract k.whole.parts.signature.exit) x.value)) outer
            else stuck

-- The step of a return leads to a frame that leaves.
pub return_keeps : (program : SilicaProgram) (entry : Option ℕ) (beginning : Beginning) (c : Configuration)
    (value : Option Operand) (span : Span)
    (rest : SilicaTerms) (outer : List Rest) → IsCheckedProgram program → IsRunning program.table entry beginning c
    → c.control ≡ runs (and_term (return_form value) span rest) outer
    → StepsSo program.table entry beginning (act program (return_form value) rest outer c)
return_keeps program entry beginning c value span rest outer checked k so =
    subst (λ y. StepsSo program.table entry beginning (if_there y (λ s.
    if exits_are_within program.table c s then gives_result program s s.result (option_map located value) outer c else stuck)))
    (sym (signature_from program.table c.frame.contract c.frame.tx k.whole.parts.own k.whole.frame.own
    ∙ k.whole.frame.signature))
    (subst (λ y. StepsSo program.table entry beginning (if y
    then gives_result program k.whole.parts.signature k.whole.parts.signature.result (option_map located value) outer c else
    stuck))
    (sym (within program.table checked.table entry beginning c k value span rest outer so))
    (by_result k.whole.parts.signature.result refl value refl returns))
  where
    returns : IsReturnedAs (static_of (body_of program.table c.frame k.whole.parts)) k.holdings
        (option_map kind_of_resolved k.whole.parts.signature.result) value
    returns = (first_formed (body_of program.table c.frame k.whole.parts) k.holdings k.context (return_form value) span
        rest outer
        (remains_so program.table entry beginning c k (and_term (return_form value) span rest) outer so)).returns

    by_how : (how : How) → c.frame.how ≡ how → value ≡ None → k.whole.parts.signature.result ≡ None
        → StepsSo program.table entry beginning (gives_none how program k.whole.parts.signature outer c)
    by_how by_receiver e none no_result = leaving (leaves_plain program.table checked.table entry beginning c k value
        span rest outer so none
        (λ made. (let z : by_new ≡ by_receiver = sym made ∙ e in cc)) no_result)
    by_how by_this e none no_result = leaving (leaves_plain program.table checked.table entry beginning c k value span
        rest outer so none
        (λ made. (let z : by_new ≡ by_this = sym made ∙ e in cc)) no_result)
    by_how by_new e none no_result = made_steps program.table checked.table entry beginning c k value span rest outer so
        none e

    by_result : (result : Option ResolvedType) → k.whole.parts.signature.result ≡ result → (v : Option Operand)
        → value ≡ v
        → IsReturnedAs (static_of (body_of program.table c.frame k.whole.parts)) k.holdings (option_map kind_of_resolved
        result) v
        → StepsSo program.table entry beginning (gives_result program k.whole.parts.signature result (option_map located v)
        outer c)
    by_result None e None i r = by_how c.frame.how refl i e
    by_result None e (Some o) i r = absurd r
    by_result (Some of) e None i r = absurd r
    by_result (Some of) e (Some o) i r = value_steps program.table checked.table entry beginning c k value span rest
        outer so o of i e
