-- A place that the rules let a form read has a cell, of which the context tells.
use Rattle.std.proofs.Common.{◌≡◌, ◌≢◌, ℕ, ◌<◌, lit<, true, false, not, length, Option, Some, None, refl, sym, ap, subst, ◌∙◌, arith, ◌⊎◌, inl, inr, ⊎_elim, true≢false}
use Rattle.std.specs.Prelude.{slice_get, IfSome}
use Rattle.std.specs.Option.{option_map_or}
use Rattle.std.proofs.lemmas.Bool.{both_ways, and_parts, and_from}
use Rattle.std.proofs.lemmas.Option.{same_Some, slice_get_within}
use Rattle.ob_base.specs.declared.id.StateId.{StateId}
use Rattle.ob_perm.specs.States.{States, stateless, states_max, all_states}
use Rattle.ob_perm.specs.Permissions.{Permission, owned, shared, unowned, owns, is_unowned, possible}
use Rattle.ob_table.specs.Tables.{ClassTable, contract_at}
use Rattle.ob_table.specs.declared.contract.Contract.{Contract}
use Rattle.ob_table.specs.declared.contract.Field.{Field}
use Rattle.ob_table.specs.declared.contract.ResolvedType.TheVariants.{Int as IntType}
use Rattle.ob_table.specs.declared.seen.Kind.{Kind}
use Rattle.ob_table.specs.declared.seen.Kind.TheVariants.{Reference}
use Rattle.ob_table_spec.specs.Conditions.{IsClassTable, IsContract}
use Rattle.ob_table_spec.specs.WellFormed.{kind_of_resolved}
use Rattle.ob_heap_spec.specs.Values.{reference}
use Rattle.ob_heap_spec.specs.Objects.{state_number, is_available, seen_state}
use Rattle.ob_heap_spec.specs.Contents.{IsStateOf}
use Rattle.ob_silica_places.specs.Known.{Known}
use Rattle.ob_silica_places.specs.Places.{Location, slot, field, this}
use Rattle.ob_silica_steps.specs.Cells.{Cell, noted, permission_in}
use Rattle.ob_silica_steps.specs.Configurations.{SilicaFrame, How, by_receiver, by_this, by_new}
use Rattle.ob_silica_steps.specs.Here.{Here, self_of, read, counted as counts_as}
use Rattle.ob_flow_spec.specs.Contexts.{Context, available, permission_on, permission_at, counted, is_set, possible_under, accessible, type_of_field}
use Rattle.ob_flow_spec.specs.Joining.{same_mode}
use Rattle.ob_flow_laws.specs.Uses.{CanRead}
use Rattle.ob_places_laws.specs.Serving.{Allows}
use Rattle.ob_places_laws.proofs.Sets.{among_from_subset, low_state}
use Rattle.ob_places_laws.proofs.Permissions.{same_mode_owns, under_owns, under_same, under_is}
use Rattle.ob_places_laws.proofs.Serves.{under_keeps}
use Rattle.ob_places_laws.proofs.Tables.{contract_is, there_so}
use Rattle.ob_places_laws.proofs.SeenStates.{state_in_all, seen_itself}
use Rattle.ob_coherent_spec.specs.Standing.{Stands, RefersToIn, is_in, NeedsOwner}
use Rattle.ob_coherent_spec.specs.Saying.{Agrees, SaysOf, own_object}
use Rattle.ob_coherent_spec.specs.Remaining.{BodyParts, body_of}
use Rattle.ob_soundness_laws.specs.places.Placed.{cell_at, Found, Sits, HasRoom}
use Rattle.ob_soundness_laws.proofs.places.Reading.{read_is, available_is, field_is, kind_in_run}
use Rattle.ob_soundness_laws.proofs.places.Standing.{owns_it}

-- What is known of a place.

-- the permission of a cell serves as the known one
pub agrees_allows : (y : Option Known) (x : Option Cell) → Agrees y x → Allows (permission_on y) (permission_in x)
agrees_allows None x a = tt
agrees_allows (Some y) None a = absurd a
agrees_allows (Some y) (Some x) a = a.1

-- a place that is known to be set has a cell
pub found : (N : ℕ → Type 0) (y : Option Known) (x : Option Cell) → is_set y ≡ true → SaysOf N y x → Found N y x
found N None x e s = absurd (true≢false (sym e))
found N (Some y) None e s = absurd s.known
found N (Some y) (Some x) e s = record {
  note = y;
  told = refl;
  cell = x;
  is = refl;
  kind = s.known.0;
  permission = s.known.1;
  owner = s.owner;
}

-- a cell that owns an object that must have an owner is known to own
pub found_owner : (N : ℕ → Type 0) (y : Option Known) (x : Option Cell) (u : Found N y x) (n : ℕ) → N n
    → owns u.cell.note.permission ≡ true → u.cell.value ≡ reference n
    → owns u.note.permission ≡ true
found_owner N y x u n l e d = u.owner n l (owns_it u.cell n e d)

pub is_new : (how : How) → (how ≡ by_new) ⊎ (how ≢ by_new)
is_new by_receiver = inr (λ e. cc)
is_new by_this = inr (λ e. cc)
is_new by_new = inl refl

-- the number of a state, also while there is none
pub number_low : (table : ClassTable) (c : Contract) (state : Option StateId) → IsContract table c
    → IfSome state (λ s. s.0 < length c.states) → state_number state < states_max
number_low table c None made is = low_state stateless (lit< tt)
number_low table c (Some s) made is = let few = made.few_states in low_state s.0 (omega (arith, few, is))

module _ (table : ClassTable) (made : IsClassTable table) (f : SilicaFrame) (parts : BodyParts) (h : Here) (g : Context)
    (k : Sits table f parts h g) where
  -- a frame reads what stands at a place
  pub sits_read : (p : Location) → read table h p ≡ cell_at h p
  sits_read = read_is table h k.frame.there k.object

  -- the contract of its object is that of its body
  pub own_is : k.object.own ≡ parts.own
  own_is = same_Some k.object.own parts.own
      (sym k.object.contract ∙ ap (contract_at table) k.frame.contract ∙ k.frame.own)

  pub own_state_low : state_number (own_object h).state < states_max
  own_state_low = number_low table k.object.own (own_object h).state
      (contract_is table made (own_object h).contract k.object.own k.object.contract) k.object.state

  -- each cell stands
  pub cell_stands : (p : Location) (x : Cell) → cell_at h p ≡ Some x → Stands table h.world.objects x
  cell_stands (slot n) x e = k.slots n x e
  cell_stands (field n) x e = k.fields n x e

  -- of `this`
  pub this_allows : Allows (permission_at g this) (permission_in (h.slots 0))
  this_allows = agrees_allows (g this) (h.slots 0) (k.says.slots 0 refl).known

  pub this_mode : same_mode (permission_at g this) (permission_in (h.slots 0)) ≡ true
  this_mode = k.says.mode refl

  -- an owner of `this` knows its state
  pub owner_knows : (a : States) → permission_in (h.slots 0) ≡ owned a → a (state_number (own_object h).state) ≡ true
  owner_knows a e =
      let s = (k.slots 0 k.frame.this k.frame.set).states a (sym (ap permission_in k.frame.set) ∙ e) in
      let v : RefersToIn table h.world.objects k.frame.this.note.kind a (reference (self_of h.slots)) = subst
      (RefersToIn table h.world.objects k.frame.this.note.kind a) k.frame.refers s in
      let d : is_in table (Reference f.contract) a (own_object h) ≡ true = subst
      (λ (kind : Kind). is_in table kind a (own_object h) ≡ true) k.frame.kind v in
      ap a (sym (seen_itself table (own_object h)) ∙ ap (λ c. seen_state table c (own_object h)) k.frame.contract) ∙ d

  state_is_one : (p : Permission) → same_mode p (permission_in (h.slots 0)) ≡ true → owns p ≡ false
      → all_states (length parts.own.states) (state_number (own_object h).state) ≡ true
  state_is_one p m e = ⊎_elim
      (λ i. absurd (both_ways _ e (same_mode_owns p (permission_in (h.slots 0)) m ∙ k.owns_made i)))
      (λ i. state_in_all parts.own (own_object h).state
      (there_so (contract_at table (own_object h).contract) (λ c. IsStateOf c (own_object h).state) parts.own
      (ap (contract_at table) k.frame.contract ∙ k.frame.own) (k.placed i)))
      (is_new f.how)

  -- the state of `this` is one of those that are possible
  pub state_possible : possible_under (body_of table f parts) (permission_at g this)
      (state_number (own_object h).state) ≡ true
  state_possible = by_permission (permission_at g this) this_allows this_mode
    where
      by_permission : (p : Permission) → Allows p (permission_in (h.slots 0))
          → same_mode p (permission_in (h.slots 0)) ≡ true
          → possible (length parts.own.states) p (state_number (own_object h).state) ≡ true
      by_permission (owned a) (b, e, among) m = among (state_number (own_object h).state) own_state_low
          (owner_knows b e)
      by_permission shared e m = state_is_one shared m refl
      by_permission unowned e m = state_is_one unowned m refl

  -- an accessible field is available
  pub available_now : (n : ℕ) → accessible (body_of table f parts) g n ≡ true
      → available (body_of table f parts) n (state_number (own_object h).state) ≡ true
  available_now n acc = among_from_subset (possible_under (body_of table f parts) (permission_at g this))
      (available (body_of table f parts) n) acc
      (state_number (own_object h).state) own_state_low state_possible

  pub field_now : (n : ℕ) → accessible (body_of table f parts) g n ≡ true
      → (d : Field) × (slice_get parts.own.fields n ≡ Some d) × (is_available (own_object h).state d ≡ true)
  field_now n acc = field_is parts.own (own_object h).state n
      (sym (available_is (body_of table f parts) n (own_object h).state) ∙ available_now n acc)

  -- What a place that can be read has.
  pub found_at : (p : Location) → CanRead (body_of table f parts) g p
      → Found (NeedsOwner table h.world.objects) (g p) (cell_at h p)
  found_at (slot n) c = found (NeedsOwner table h.world.objects) (g (slot n)) (h.slots n) c.set (k.says.slots n refl)
  found_at (field n) c = found (NeedsOwner table h.world.objects) (g (field n)) (cell_at h (field n)) c.set
      (k.says.fields n (available_now n (c.reached n refl)) refl)

  -- what it has, as it is read
  pub found_read : (p : Location) (u : Found (NeedsOwner table h.world.objects) (g p) (cell_at h p))
      → read table h p ≡ Some u.cell
  found_read p u = sits_read p ∙ u.is

  pub found_stands : (p : Location) (u : Found (NeedsOwner table h.world.objects) (g p) (cell_at h p))
      → Stands table h.world.objects u.cell
  found_stands p u = cell_stands p u.cell u.is

  -- a place keeps its value under another permission: there is room for it
  pub room_noted : (p : Location) (x : Cell) (q : Permission) → cell_at h p ≡ Some x
      → HasRoom k.object.own (own_object h).state p (Some (noted q x))
  room_noted p x q e n z is d =
      let r = kind_in_run table h.notes h.world.objects (self_of h.slots) k.object n x (ap (cell_at h) (sym is) ∙ e) in
      (r.1, r.2, r.3, ap (λ (y : Cell). y.note.kind) (sym (same_Some (noted q x) z d)) ∙ r.4)

  -- a value of the declared kind has room in an accessible field
  pub room_in_field : (n : ℕ) (x : Cell) → accessible (body_of table f parts) g n ≡ true
      → x.note.kind ≡ kind_of_resolved (type_of_field (body_of table f parts) n)
      → HasRoom k.object.own (own_object h).state (field n) (Some x)
  room_in_field n x acc e m z is d =
      let r = field_now n acc in
      let same : n ≡ m = field_number is in (
        r.0,
        ap (λ (c : Contract). slice_get c.fields m) own_is ∙ ap (slice_get parts.own.fields) (sym same) ∙ r.1,
        r.2,
        ap (λ (y : Cell). y.note.kind) (sym (same_Some x z d)) ∙ e
            ∙ ap (λ y. kind_of_resolved (option_map_or (λ (c : Field). c.of) y IntType)) r.1,
      )
    where
      field_number : {i j : ℕ} → field i ≡ field j → i ≡ j
      field_number e = cc

  -- no other slot than those of the body is set, and a field that is set has a small number
  pub field_small : (n : ℕ) (x : Cell) → cell_at h (field n) ≡ Some x → n < length k.object.own.fields
  field_small n x e = slice_get_within k.object.own.fields n _
      (kind_in_run table h.notes h.world.objects (self_of h.slots) k.object n x e).2

  -- The permission as it counts.

  pub counted_allows : (p : Location) (u : Found (NeedsOwner table h.world.objects) (g p) (cell_at h p))
      → Allows (counted g p) (counts_as h p u.cell)
  counted_allows (slot n) u = subst (λ y. Allows (permission_on y) u.cell.note.permission) (sym u.told) u.permission
  counted_allows (field n) u = under_keeps (permission_at g this) (permission_in (h.slots 0))
      (permission_at g (field n)) u.cell.note.permission this_mode
      (subst (λ y. Allows (permission_on y) u.cell.note.permission) (sym u.told) u.permission)

  -- what counts as owning in the run counts so for the rules, of an object that must have an owner
  pub counted_owner : (p : Location) (u : Found (NeedsOwner table h.world.objects) (g p) (cell_at h p))
      → owns u.note.permission ≡ true → owns (counts_as h p u.cell) ≡ true
      → owns (counted g p) ≡ true
  counted_owner (slot n) u e d = ap (λ y. owns (permission_on y)) u.told ∙ e
  counted_owner (field n) u e d =
      let t = permission_in (h.slots 0) in
      let say = (and_parts (not (is_unowned t)) (owns u.cell.note.permission)
      (sym (under_owns t u.cell.note.permission) ∙ d)).0 in
      ap owns (under_same (permission_at g this) t (permission_at g (field n)) this_mode)
      ∙ under_owns t (permission_at g (field n))
      ∙ and_from (not (is_unowned t)) (owns (permission_at g (field n))) say
      (ap (λ y. owns (permission_on y)) u.told ∙ e)

  -- and so where it refers to such an object
  pub counted_needs : (p : Location) (u : Found (NeedsOwner table h.world.objects) (g p) (cell_at h p)) (n : ℕ)
      → NeedsOwner table h.world.objects n
      → u.cell.value ≡ reference n → owns (counts_as h p u.cell) ≡ true → owns (counted g p) ≡ true
  counted_needs p u n l e d = counted_owner p u (u.owner n l (owns_it u.cell n (counts_owner p d) e)) d
    where
      counts_owner : (p : Location) → owns (counts_as h p u.cell) ≡ true → owns u.cell.note.permission ≡ true
      counts_owner (slot n) d = d
      counts_owner (field n) d =
          (and_parts (not (is_unowned (permission_in (h.slots 0)))) (owns u.cell.note.permission)
          (sym (under_owns (permission_in (h.slots 0)) u.cell.note.permission) ∙ d)).1

-- a cell's permission counts as it is, or as Unowned
pub counts_is : (h : Here) (p : Location) (x : Cell)
    → (counts_as h p x ≡ x.note.permission) ⊎ (counts_as h p x ≡ unowned)
counts_is h (slot n) x = inl refl
counts_is h (field n) x = under_is (permission_in (h.slots 0)) x.note.permission
