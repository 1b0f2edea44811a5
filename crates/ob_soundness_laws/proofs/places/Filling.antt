-- One place fills a field.
use Rattle.std.proofs.Common.{◌≡◌, ◌≢◌, ℕ, ◌+◌, ◌<◌, ◌≤◌, true, Some, refl, sym, ap, subst, ◌∙◌, arith, ◌⊎◌, inl, inr, ⊎_elim, true≢false, eq-zero-or-pos, ◌&&◌}
use Rattle.std.proofs.lemmas.Bool.{both_ways}
use Rattle.ob_perm.specs.States.{states_max}
use Rattle.ob_perm.specs.Permissions.{Permission, owned, shared, unowned, owns, kept}
use Rattle.ob_table.specs.Tables.{ClassTable}
use Rattle.ob_table.specs.declared.contract.ResolvedType.{ResolvedType}
use Rattle.ob_table_spec.specs.Conditions.{IsClassTable}
use Rattle.ob_table_spec.specs.WellFormed.{kind_of_resolved, serves_as}
use Rattle.ob_heap_spec.specs.Values.{reference}
use Rattle.ob_heap_spec.specs.Objects.{state_number}
use Rattle.ob_silica_places.specs.Converting.{converted}
use Rattle.ob_silica_places.specs.Known.{permission_of_type}
use Rattle.ob_silica_places.specs.Places.{Location}
use Rattle.ob_silica_steps.specs.Cells.{Cell, noted}
use Rattle.ob_silica_steps.specs.Configurations.{SilicaFrame}
use Rattle.ob_silica_steps.specs.Here.{Here, hand, counted as counts_as}
use Rattle.ob_silica_steps.specs.Getting.{got_from}
use Rattle.ob_flow_spec.specs.Contexts.{Context, TestedPlaces, counted, declared_permission, type_of_field}
use Rattle.ob_flow_spec.specs.Filling.{after_fill, got}
use Rattle.ob_flow_laws.specs.Uses.{CanUse}
use Rattle.ob_flow_laws.specs.Filling.{CanFillAs, CanFill}
use Rattle.ob_places_laws.proofs.Permissions.{gotten_owns}
use Rattle.ob_places_laws.proofs.Serves.{allows_owner}
use Rattle.ob_places_laws.proofs.Conversions.{converted_owns}
use Rattle.ob_coherent_spec.specs.Counting.{nth_object, in_cell}
use Rattle.ob_coherent_spec.specs.Standing.{IsOfKind, Stands, RefersToShared, NeedsOwner}
use Rattle.ob_coherent_spec.specs.Saying.{SaysOf}
use Rattle.ob_coherent_spec.specs.Remaining.{BodyParts, body_of, IsPlaceIn}
use Rattle.ob_soundness_laws.proofs.counting.Cells.{counted_cell}
use Rattle.ob_soundness_laws.specs.places.Placed.{cell_at, Stays, Found, Sits}
use Rattle.ob_soundness_laws.proofs.places.Objects.{comes_sets}
use Rattle.ob_soundness_laws.proofs.places.Writing.{hand_written, hand_world}
use Rattle.ob_soundness_laws.proofs.places.Standing.{reference_is, stands_stay, needs_stay, says_of_less}
use Rattle.ob_soundness_laws.proofs.places.Finding.{found_at, found_stands, counted_allows, counts_is}
use Rattle.ob_soundness_laws.proofs.places.Carrying.{spares, carry_hand}
use Rattle.ob_soundness_laws.proofs.places.Getting.{AreLow, gotten_stands, given_refers}
use Rattle.ob_soundness_laws.proofs.places.Handing.{filled_says, gives_on, gives_shared}

-- the states of objects are low again
pub low_stays : (h after : Here) → Stays h after → AreLow h.world.objects → AreLow after.world.objects
low_stays h after s low n lt = subst (λ t. state_number t < states_max) (sym (s.states n))
    (low n (let e = s.count in omega (arith, e, lt)))

-- Shared, or not
pub is_shared_or : (w : Permission) → (w ≡ shared) ⊎ (w ≢ shared)
is_shared_or (owned a) = inr (λ e. let z : owned a ≡ shared = e in cc)
is_shared_or shared = inl refl
is_shared_or unowned = inr (λ e. let z : unowned ≡ shared = e in cc)

-- What a place keeps and what is given of it own no more than the place did.
pub given_fewer : (n : ℕ) (x y : Cell) (w : Permission) → y.value ≡ x.value
    → (owns w ≡ true → owns x.note.permission ≡ true) → owns y.note.permission ≡ owns w
    → in_cell owns n (Some (noted (kept x.note.permission w) x)) + in_cell owns n (Some y) ≤ in_cell owns n (Some x)
given_fewer n x y w v has e = ⊎_elim
    (λ is. let z = gives_shared n x y w is e in let a = z.0 in let b = z.1 in omega (arith, a, b))
    (λ ne. let z = gives_on n x y w v ne has e in omega (arith, z))
    (is_shared_or w)

-- And as much of an object that must have an owner afterwards, where one that is given as Shared is marked.
pub given_same : (n : ℕ) (x y : Cell) (w : Permission) → y.value ≡ x.value
    → (owns w ≡ true → owns x.note.permission ≡ true) → owns y.note.permission ≡ owns w
    → (w ≡ shared → x.value ≢ reference n)
    → in_cell owns n (Some (noted (kept x.note.permission w) x)) + in_cell owns n (Some y) ≡ in_cell owns n (Some x)
given_same n x y w v has e other = ⊎_elim
    (λ is. let z = gives_shared n x y w is e in let a = z.0 in let b = z.1 in
    let c = none is in omega (arith, a, b, c))
    (λ ne. gives_on n x y w v ne has e)
    (is_shared_or w)
  where
    none : w ≡ shared → in_cell owns n (Some x) ≡ 0
    none is = ⊎_elim (λ z. z) (λ z. absurd (other is (counted_cell owns n x z).1)) (zero_or (in_cell owns n (Some x)))
      where
        zero_or : (m : ℕ) → (m ≡ 0) ⊎ (0 < m)
        zero_or m = eq-zero-or-pos m

module _ (table : ClassTable) (made : IsClassTable table) (f : SilicaFrame) (parts : BodyParts) (h : Here) (g : Context)
    (k : Sits table f parts h g)
    (ts : TestedPlaces) (n : ℕ) (p : Location) (fill : CanFill (body_of table f parts) ts g n p)
    (inside : IsPlaceIn (body_of table f parts) p) where
  -- what the field declares
  abbrev pub field_type : ResolvedType
  field_type = type_of_field (body_of table f parts) n

  usable_as : (w : Permission) → CanFillAs (body_of table f parts) ts g n p w → CanUse (body_of table f parts) g p
  usable_as (owned a) c = c.usable
  usable_as shared c = c.usable
  usable_as unowned c = c.usable

  -- the place can be used
  pub fill_uses : CanUse (body_of table f parts) g p
  fill_uses = usable_as (declared_permission (body_of table f parts) n) fill.serves

  -- it has a cell
  pub fill_found : Found (NeedsOwner table h.world.objects) (g p) (cell_at h p)
  fill_found = found_at table made f parts h g k p fill_uses.readable

  owner_as : (w : Permission) → CanFillAs (body_of table f parts) ts g n p w → owns w ≡ true → owns (counted g p) ≡ true
  owner_as (owned a) c e = c.owner
  owner_as shared c e = absurd (true≢false (sym e))
  owner_as unowned c e = absurd (true≢false (sym e))

  -- which counts as an owner's where the field is declared an owner
  pub fill_counts : owns (permission_of_type field_type) ≡ true → owns (counts_as h p fill_found.cell) ≡ true
  fill_counts e = allows_owner (counted g p) (counts_as h p fill_found.cell)
      (counted_allows table made f parts h g k p fill_found)
      (owner_as (declared_permission (body_of table f parts) n) fill.serves e)

  pub fill_owner : owns (permission_of_type field_type) ≡ true → owns fill_found.cell.note.permission ≡ true
  fill_owner e = ⊎_elim (λ i. ap owns (sym i) ∙ fill_counts e)
      (λ i. absurd (true≢false (sym (fill_counts e) ∙ ap owns i))) (counts_is h p fill_found.cell)

  -- what the field gets owns as it is declared
  pub fill_owns : owns (got_from table field_type h p fill_found.cell).note.permission ≡ owns
      (permission_of_type field_type)
  fill_owns = gotten_owns (permission_of_type field_type) given
      ∙ as_declared (permission_of_type field_type)
      (λ e. converted_owns table fill_found.cell.note.kind (kind_of_resolved field_type) (counts_as h p fill_found.cell)
      ∙ fill_counts e)
    where
      given : Permission
      given = converted table fill_found.cell.note.kind (kind_of_resolved field_type) (counts_as h p fill_found.cell)

      as_declared : (w : Permission) → (owns w ≡ true → owns given ≡ true) → (owns w && owns given) ≡ owns w
      as_declared (owned a) h = h refl
      as_declared shared h = refl
      as_declared unowned h = refl

  -- owners of the two places
  pub fill_fewer : (m : ℕ)
      → in_cell owns m (Some
      (noted (kept fill_found.cell.note.permission (permission_of_type field_type)) fill_found.cell))
      + in_cell owns m (Some (got_from table field_type h p fill_found.cell)) ≤ in_cell owns m (Some fill_found.cell)
  fill_fewer m = given_fewer m fill_found.cell (got_from table field_type h p fill_found.cell)
      (permission_of_type field_type) refl fill_owner fill_owns

  module _ (serves : serves_as table (kind_of_resolved field_type) fill_found.cell.note.kind ≡ true)
      (low : AreLow h.world.objects) where
    pub fill_refers : permission_of_type field_type ≡ shared → (m : ℕ) × (fill_found.cell.value ≡ reference m)
    fill_refers = given_refers table made h.world.objects fill_found.cell field_type serves
        (found_stands table made f parts h g k p fill_found).kind

    -- the object is marked where the field is declared Shared
    pub fill_marks : permission_of_type field_type ≡ shared → (m : ℕ) → fill_found.cell.value ≡ reference m
        → (nth_object (hand field_type p fill_found.cell h).world.objects m).shared ≡ true
    fill_marks e m is = ap (λ w. (nth_object w.objects m).shared) (hand_world field_type p fill_found.cell h)
        ∙ comes_sets field_type fill_found.cell.value h.world m
        (reference_is table h.world.objects fill_found.cell.note.kind m
        (subst (IsOfKind table h.world.objects fill_found.cell.note.kind) is
        (found_stands table made f parts h g k p fill_found).kind)).2 is e

    -- the frame's places are so after
    pub fill_sits : Sits table f parts (hand field_type p fill_found.cell h) (after_fill (body_of table f parts) g n p)
    fill_sits = carry_hand table made f parts h g k field_type p inside fill_found fill_refers
        (spares table made f parts h g k p fill_uses.spares_this)

    -- what the field gets stands
    pub fill_stands : Stands table (hand field_type p fill_found.cell h).world.objects
        (got_from table field_type h p fill_found.cell)
    fill_stands =
        let s = (hand_written field_type p fill_found.cell h fill_found.is).stays in
        gotten_stands table made (hand field_type p fill_found.cell h).world.objects fill_found.cell
        (counts_as h p fill_found.cell) (permission_of_type field_type)
        (kind_of_resolved field_type) (low_stays h (hand field_type p fill_found.cell h) s low) serves
        (counts_is h p fill_found.cell)
        (λ e. let r = fill_refers e in
        subst (RefersToShared (hand field_type p fill_found.cell h).world.objects) (sym r.1) (fill_marks e r.0 r.1))
        (stands_stay table h (hand field_type p fill_found.cell h) s fill_found.cell
        (found_stands table made f parts h g k p fill_found))

    -- and is known so
    pub fill_says : SaysOf (NeedsOwner table (hand field_type p fill_found.cell h).world.objects)
        (got (body_of table f parts) g n p)
        (Some (got_from table field_type h p fill_found.cell))
    fill_says = says_of_less (NeedsOwner table h.world.objects)
        (NeedsOwner table (hand field_type p fill_found.cell h).world.objects)
        (needs_stay table h (hand field_type p fill_found.cell h)
        (hand_written field_type p fill_found.cell h fill_found.is).stays)
        (got (body_of table f parts) g n p) (Some (got_from table field_type h p fill_found.cell))
        (filled_says table made f parts h g k p fill_found n)

    -- an object that must have an owner keeps it
    pub fill_same : (m : ℕ) → NeedsOwner table (hand field_type p fill_found.cell h).world.objects m
        → in_cell owns m (Some
        (noted (kept fill_found.cell.note.permission (permission_of_type field_type)) fill_found.cell))
        + in_cell owns m (Some (got_from table field_type h p fill_found.cell)) ≡ in_cell owns m (Some fill_found.cell)
    fill_same m l = given_same m fill_found.cell (got_from table field_type h p fill_found.cell)
        (permission_of_type field_type) refl fill_owner fill_owns
        (λ e is. both_ways _ l.unshared (fill_marks e m is))
