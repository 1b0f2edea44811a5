-- Which fields an object has in a state, and what is known of that.
use Rattle.std.proofs.Common.{◌≡◌, ℕ, ◌<◌, ◌≤◌, true, false, length, Option, Some, None, refl, sym, ap, ◌∙◌, arith, ◌⊎◌, inl, inr, ⊎_elim, le-leb}
use Rattle.std.specs.Prelude.{slice_get}
use Rattle.std.specs.Option.{option_map_or}
use Rattle.std.proofs.lemmas.Bool.{both_ways, cases_lt, false_from_ne_true}
use Rattle.ob_base.specs.declared.id.FieldId.{FieldId}
use Rattle.ob_base.specs.declared.id.StateId.{StateId}
use Rattle.ob_perm.specs.States.{IsNumbered, stateless, states_max, no_states, all_states, anywhere}
use Rattle.ob_perm.specs.Permissions.{Permission, owns}
use Rattle.ob_perm.specs.Masks.{states_of, mask_of}
use Rattle.ob_perm.proofs.MaskLemmas.{states_of-above}
use Rattle.ob_table.specs.Tables.{ClassTable, field_at}
use Rattle.ob_table.specs.declared.contract.Contract.{Contract}
use Rattle.ob_table.specs.declared.contract.Field.{Field}
use Rattle.ob_table_spec.specs.Conditions.{IsContract, IsAvailability}
use Rattle.ob_heap_spec.specs.Objects.{state_number, is_available, has_field}
use Rattle.ob_heap_spec.specs.Contents.{IsStateOf}
use Rattle.ob_silica_places.specs.Places.{this}
use Rattle.ob_flow_spec.specs.Contexts.{BodyFrame, available, Context, permission_at, possible_under, accessible_under, maybe_there}
use Rattle.ob_places_laws.specs.Serving.{AllowsState}
use Rattle.ob_places_laws.proofs.Sets.{low_state, among_from_subset, meets_from, mask_state, mask_numbered}
use Rattle.ob_places_laws.proofs.Serves.{possible_at}
use Rattle.ob_places_laws.proofs.Tables.{field_is}
use Rattle.ob_places_laws.proofs.SeenStates.{state_in_all, state_low}

-- States of fields.

-- A field is there in all states and none, or in some of the contract's own and not in none.
pub available_at : (n a i : ℕ) → IsAvailability n a → states_of a i ≡ true → (a ≡ mask_of anywhere) ⊎ (i < n)
available_at n a i (inl e) h = inl e
available_at n a i (inr some) h = ⊎_elim
    (λ low. inr low)
    (λ past. absurd (both_ways (states_of a i) (states_of-above a n i some.1 past) h))
    (cases_lt i n)

pub available_numbered : (n a : ℕ) → n ≤ 32 → IsAvailability n a → IsNumbered (states_of a)
available_numbered n a few (inl e) i h = mask_numbered anywhere i (sym (ap (λ m. states_of m i) e) ∙ h)
available_numbered n a few (inr some) i h = ⊎_elim
    (λ low. low_state i (omega (arith, low, few)))
    (λ past. absurd (both_ways (states_of a i) (states_of-above a n i some.1 past) h))
    (cases_lt i n)

-- A field at the top of its contract is there in each state and in none.
pub top_available : (a i : ℕ) → a ≡ mask_of anywhere → i ≤ stateless → states_of a i ≡ true
top_available a i e le =
    ap (λ m. states_of m i) e ∙ mask_state anywhere i (low_state i (omega (arith, le))) ∙ le-leb i stateless le

-- What is there in no state is at the top.
pub stateless_available : (n a : ℕ) → n ≤ 32 → IsAvailability n a → states_of a stateless ≡ true → a ≡ mask_of anywhere
stateless_available n a few is h = ⊎_elim
    (λ top. top)
    (λ low. absurd (let le : n ≤ 32 = few in omega (arith, low, le)))
    (available_at n a stateless is h)

-- An object has a field where this is available in its state.
pub has_field_is : (b : BodyFrame) (state : Option StateId) (f : ℕ)
    → has_field b.own state f ≡ available b f (state_number state)
has_field_is b state f = at (slice_get b.own.fields f)
  where
    at : (o : Option Field)
        → option_map_or (is_available state) o false ≡ option_map_or (λ (x : Field). states_of x.available) o no_states
        (state_number state)
    at None = refl
    at (Some x) = refl

-- What is known of a field in a body, where the state of `this` is one that its permission allows.

-- An accessible field is there.
pub accessible_there : (b : BodyFrame) (p : Permission) (f s : ℕ) → accessible_under b p f ≡ true → s < states_max
    → AllowsState p s → (owns p ≡ false → all_states (length b.own.states) s ≡ true) → available b f s ≡ true
accessible_there b p f s e low h any =
    among_from_subset (possible_under b p) (available b f) e s low (possible_at (length b.own.states) p s h any)

-- A field that is in no state that is possible isn't there.
pub not_there : (b : BodyFrame) (g : Context) (f s : ℕ) → maybe_there b g f ≡ false → s < states_max
    → AllowsState (permission_at g this) s
    → (owns (permission_at g this) ≡ false → all_states (length b.own.states) s ≡ true) → available b f s ≡ false
not_there b g f s e low h any = false_from_ne_true (available b f s) (λ there.
    both_ways (maybe_there b g f) e
    (meets_from (possible_under b (permission_at g this)) (available b f) s low
    (possible_at (length b.own.states) (permission_at g this) s h any) there))

-- Of an object in a state of its contract the same, as a run tests it.
pub accessible_has : (table : ClassTable) (b : BodyFrame) (p : Permission) (f : ℕ) (state : Option StateId)
    → IsContract table b.own
    → IsStateOf b.own state → accessible_under b p f ≡ true → AllowsState p (state_number state)
    → has_field b.own state f ≡ true
accessible_has table b p f state is of e h =
    has_field_is b state f
    ∙ accessible_there b p f (state_number state) e (state_low table b.own state is of) h
    (λ any. state_in_all b.own state of)

pub not_there_has : (table : ClassTable) (b : BodyFrame) (g : Context) (f : ℕ) (state : Option StateId)
    → IsContract table b.own
    → IsStateOf b.own state → maybe_there b g f ≡ false → AllowsState (permission_at g this) (state_number state)
    → has_field b.own state f ≡ false
not_there_has table b g f state is of e h =
    has_field_is b state f
    ∙ not_there b g f (state_number state) e (state_low table b.own state is of) h (λ any. state_in_all b.own state of)

-- The states of each field of a contract of a class table have numbers.
pub field_numbered : (table : ClassTable) (c : Contract) → IsContract table c → (id : FieldId) (x : Field)
    → field_at c id ≡ Some x
    → IsNumbered (states_of x.available)
field_numbered table c is id x e =
    available_numbered (length c.states) x.available is.few_states (field_is table c is id x e).available
