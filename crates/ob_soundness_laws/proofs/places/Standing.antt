-- What stands goes on standing while objects keep their contracts, marks grow, and the states of owned objects stay.
use Rattle.std.proofs.Common.{◌≡◌, ℕ, ◌<◌, ◌≤◌, ◌&&◌, Bool, true, List, [], ◌∷◌, ◌++◌, length, length-append, Option, Some, refl, sym, ap, subst, ◌∙◌, arith, ⊎_elim, eq-eqb}
use Rattle.std.specs.Prelude.{◌==◌, IsSomeAnd, if◌then◌else◌}
use Rattle.std.proofs.lemmas.Bool.{cases_Bool, both_ways}
use Rattle.std.proofs.lemmas.List.{get_or_append_left}
use Rattle.std.proofs.lemmas.Option.{unwrap_or-slice_get}
use Rattle.ob_base.specs.declared.id.ContractId.{ContractId}
use Rattle.ob_perm.specs.States.{States}
use Rattle.ob_perm.specs.Permissions.{owns}
use Rattle.ob_table.specs.Tables.{ClassTable, contract_at}
use Rattle.ob_table.specs.declared.seen.Kind.{Kind}
use Rattle.ob_table.specs.declared.seen.Kind.TheVariants.{Int, Bool as BoolKind, Text, Reference}
use Rattle.ob_table_spec.specs.WellFormed.{serves_as}
use Rattle.ob_heap_spec.specs.Values.{Value, int_value, bool_value, text_value, reference}
use Rattle.ob_heap_spec.specs.Objects.{Object, unfinished, state_number, seen_between, seen_state}
use Rattle.ob_heap_spec.specs.Contents.{IsStateOf}
use Rattle.ob_silica_places.specs.Known.{Known}
use Rattle.ob_silica_places.specs.Places.{Location, slot, field}
use Rattle.ob_silica_steps.specs.Cells.{Cell}
use Rattle.ob_silica_steps.specs.Here.{Here}
use Rattle.ob_flow_spec.specs.Contexts.{BodyFrame, Context, is_asset}
use Rattle.ob_coherent_spec.specs.Counting.{nth_object, in_cell, one_if, refers_to}
use Rattle.ob_coherent_spec.specs.Standing.{IsOfKind, RefersToShared, is_in, RefersToIn, Stands, AllStand, HasItsState, NeedsOwner}
use Rattle.ob_coherent_spec.specs.Saying.{SaysOf, Says}
use Rattle.ob_soundness_laws.specs.places.Placed.{Stays}

-- Objects.

-- there are as many objects or more, with the contracts that they had, and marks of shared ones stay
pub record ObjectsKeep (os ps : List Object) : Type 0 where
  pub count : length os ≤ length ps
  pub contracts : (n : ℕ) → n < length os → (nth_object ps n).contract ≡ (nth_object os n).contract
  pub shared : (n : ℕ) → n < length os → (nth_object os n).shared ≡ true → (nth_object ps n).shared ≡ true

pub stays_keeps : (h after : Here) → Stays h after → ObjectsKeep h.world.objects after.world.objects
stays_keeps h after s = record {
  count = let e = s.count in
      omega (arith, e);
  contracts = λ n lt. s.contracts n;
  shared = λ n lt e. s.shared n e;
}

pub seen_same : (table : ClassTable) (id : ContractId) (o p : Object) → p.contract ≡ o.contract → p.state ≡ o.state
    → seen_state table id p ≡ seen_state table id o
seen_same table id o p e d =
    ap (λ (c : ContractId). if id.0 == c.0 then state_number p.state else seen_between (contract_at table id)
    (contract_at table c) (state_number p.state)) e
    ∙ ap (λ s. if id.0 == o.contract.0 then state_number s else seen_between (contract_at table id)
    (contract_at table o.contract) (state_number s)) d

pub is_in_same : (table : ClassTable) (kind : Kind) (a : States) (o p : Object) → p.contract ≡ o.contract
    → p.state ≡ o.state → is_in table kind a p ≡ is_in table kind a o
is_in_same table (Reference id) a o p e d = ap a (seen_same table id o p e d)
is_in_same table Int a o p e d = refl
is_in_same table BoolKind a o p e d = refl
is_in_same table Text a o p e d = refl

pub has_state_same : (table : ClassTable) (o p : Object) → p.contract ≡ o.contract → p.state ≡ o.state
    → HasItsState table o → HasItsState table p
has_state_same table o p e d h = subst (λ c. IsSomeAnd (contract_at table c) (λ x. IsStateOf x p.state)) (sym e)
    (subst (λ s. IsSomeAnd (contract_at table o.contract) (λ x. IsStateOf x s)) (sym d) h)

-- Values.

-- a value of a reference's kind refers to an object that is there and serves
pub reference_is : (table : ClassTable) (os : List Object) (k : Kind) (n : ℕ) → IsOfKind table os k (reference n)
    → (id : ContractId) × (k ≡ Reference id) × (n < length os)
    × (serves_as table (Reference id) (Reference (nth_object os n).contract) ≡ true)
reference_is table os (Reference id) n h = (id, refl, h.0, h.1)
reference_is table os Int n h = absurd h
reference_is table os BoolKind n h = absurd h
reference_is table os Text n h = absurd h

pub refers_is : (table : ClassTable) (os : List Object) (id : ContractId) (v : Value)
    → IsOfKind table os (Reference id) v → (n : ℕ) × (v ≡ reference n)
refers_is table os id (reference n) h = (n, refl)
refers_is table os id (int_value z) h = absurd h
refers_is table os id (bool_value z) h = absurd h
refers_is table os id (text_value z) h = absurd h

-- a cell that owns an object
pub owns_it : (x : Cell) (n : ℕ) → owns x.note.permission ≡ true → x.value ≡ reference n → 0 < in_cell owns n (Some x)
owns_it x n e d = subst (λ b. 0 < one_if b)
    (sym (ap (λ b. b && refers_to n x.value) e ∙ ap (refers_to n) d ∙ eq-eqb n n refl)) (omega arith)

module _ (table : ClassTable) (os ps : List Object) (keep : ObjectsKeep os ps) where
  pub kind_keeps : (k : Kind) (v : Value) → IsOfKind table os k v → IsOfKind table ps k v
  kind_keeps (Reference id) (reference n) h = let c = keep.count in let l = h.0 in (
    omega (arith, c, l),
    subst (λ d. serves_as table (Reference id) (Reference d) ≡ true)
        (sym (keep.contracts n h.0)) h.1,
  )
  kind_keeps (Reference id) (int_value z) h = h
  kind_keeps (Reference id) (bool_value z) h = h
  kind_keeps (Reference id) (text_value z) h = h
  kind_keeps Int (int_value z) h = h
  kind_keeps Int (bool_value z) h = h
  kind_keeps Int (text_value z) h = h
  kind_keeps Int (reference z) h = h
  kind_keeps BoolKind (int_value z) h = h
  kind_keeps BoolKind (bool_value z) h = h
  kind_keeps BoolKind (text_value z) h = h
  kind_keeps BoolKind (reference z) h = h
  kind_keeps Text (int_value z) h = h
  kind_keeps Text (bool_value z) h = h
  kind_keeps Text (text_value z) h = h
  kind_keeps Text (reference z) h = h

  shared_keeps : (k : Kind) (v : Value) → IsOfKind table os k v → RefersToShared os v → RefersToShared ps v
  shared_keeps k (reference n) i h = keep.shared n (reference_is table os k n i).2 h
  shared_keeps k (int_value z) i h = h
  shared_keeps k (bool_value z) i h = h
  shared_keeps k (text_value z) i h = h

  in_keeps : (k : Kind) (a : States) (v : Value) → IsOfKind table os k v
      → ((n : ℕ) → v ≡ reference n → n < length os → (nth_object ps n).state ≡ (nth_object os n).state)
      → RefersToIn table os k a v → RefersToIn table ps k a v
  in_keeps k a (reference n) i states h =
      let lt = (reference_is table os k n i).2 in
      is_in_same table k a (nth_object os n) (nth_object ps n) (keep.contracts n lt) (states n refl lt) ∙ h
  in_keeps k a (int_value z) i states h = h
  in_keeps k a (bool_value z) i states h = h
  in_keeps k a (text_value z) i states h = h

  -- a cell stands again, where the state of the object that it owns stays
  pub stands_keeps : (x : Cell)
      → ((n : ℕ) → n < length os → 0 < in_cell owns n (Some x) → (nth_object ps n).state ≡ (nth_object os n).state)
      → Stands table os x → Stands table ps x
  stands_keeps x states s = record {
    kind = kind_keeps x.note.kind x.value s.kind;
    marked = λ e. shared_keeps x.note.kind x.value s.kind (s.marked e);
    states = λ a e. in_keeps x.note.kind a x.value s.kind (λ n is lt. states n lt (owns_it x n (ap owns e) is))
        (s.states a e);
  }

  pub all_stand_keep : (cells : ℕ → Option Cell)
      → ((k n : ℕ) → n < length os → 0 < in_cell owns n (cells k) → (nth_object ps n).state ≡ (nth_object os n).state)
      → AllStand table os cells → AllStand table ps cells
  all_stand_keep cells states a k x e = stands_keeps x
      (λ n lt o. states k n lt (subst (λ y. 0 < in_cell owns n y) (sym e) o)) (a k x e)

-- the same where a frame's own work leaves states
pub stands_stay : (table : ClassTable) (h after : Here) → Stays h after → (x : Cell) → Stands table h.world.objects x
    → Stands table after.world.objects x
stands_stay table h after s x a = stands_keeps table h.world.objects after.world.objects (stays_keeps h after s) x
    (λ n lt o. s.states n) a

pub all_stand_stay : (table : ClassTable) (h after : Here) → Stays h after → (cells : ℕ → Option Cell)
    → AllStand table h.world.objects cells → AllStand table after.world.objects cells
all_stand_stay table h after s cells a k x e = stands_stay table h after s x (a k x e)

-- Objects that must have an owner.

-- such an object was one before, where marks grow
pub needs_before : (table : ClassTable) (os ps : List Object) (n : ℕ) → n < length os
    → (nth_object ps n).contract ≡ (nth_object os n).contract
    → ((nth_object os n).shared ≡ true → (nth_object ps n).shared ≡ true)
    → ((nth_object os n).disowned ≡ true → (nth_object ps n).disowned ≡ true)
    → NeedsOwner table ps n → NeedsOwner table os n
needs_before table os ps n lt same sh di l = record {
  there = lt;
  asset = ap (λ c. is_asset table (Reference c)) (sym same) ∙ l.asset;
  unshared = ⊎_elim (λ e. absurd (both_ways _ l.unshared (sh e))) (λ e. e) (cases_Bool (nth_object os n).shared);
  kept = ⊎_elim (λ e. absurd (both_ways _ l.kept (di e))) (λ e. e) (cases_Bool (nth_object os n).disowned);
}

pub needs_stay : (table : ClassTable) (h after : Here) → Stays h after → (n : ℕ)
    → NeedsOwner table after.world.objects n → NeedsOwner table h.world.objects n
needs_stay table h after s n l = needs_before table h.world.objects after.world.objects n
    (let e = s.count in let lt = l.there in omega (arith, e, lt)) (s.contracts n) (s.shared n) (s.disowned n) l

-- What contexts say.

pub says_of_less : (N M : ℕ → Type 0) → ((n : ℕ) → M n → N n) → (y : Option Known) (x : Option Cell) → SaysOf N y x
    → SaysOf M y x
says_of_less N M sub y x s = record { known = s.known; owner = λ n m. s.owner n (sub n m) }

pub says_less : (b : BodyFrame) (N M : ℕ → Type 0) → ((n : ℕ) → M n → N n)
    → (g : Context) (h : Here) (free : Location → Bool) → Says b N g h free → Says b M g h free
says_less b N M sub g h free s = record {
  slots = λ k e. says_of_less N M sub (g (slot k)) (h.slots k) (s.slots k e);
  fields = λ k a e. says_of_less N M sub (g (field k)) _ (s.fields k a e);
  mode = s.mode;
}

-- A new object.

-- an object that was there
pub made_old : (os : List Object) (o : Object) (n : ℕ) → n < length os → nth_object (os ++ o ∷ []) n ≡ nth_object os n
made_old os o n lt = unwrap_or-slice_get (os ++ o ∷ []) n (unfinished (record { 0 = 0 }))
    ∙ get_or_append_left os (o ∷ []) (unfinished (record { 0 = 0 })) n lt
    ∙ sym (unwrap_or-slice_get os n (unfinished (record { 0 = 0 })))

-- those that were there are kept
pub made_keeps : (os : List Object) (o : Object) → ObjectsKeep os (os ++ o ∷ [])
made_keeps os o = record {
  count = let e = length-append os (o ∷ []) in omega (arith, e);
  contracts = λ n lt. ap (λ (x : Object). x.contract) (made_old os o n lt);
  shared = λ n lt e. ap (λ (x : Object). x.shared) (made_old os o n lt) ∙ e;
}

pub made_stands : (table : ClassTable) (os : List Object) (o : Object) (x : Cell) → Stands table os x
    → Stands table (os ++ o ∷ []) x
made_stands table os o x s = stands_keeps table os (os ++ o ∷ []) (made_keeps os o) x
    (λ n lt has. ap (λ (y : Object). y.state) (made_old os o n lt)) s
