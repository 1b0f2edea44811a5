-- A place gets another permission, as it hands its value over, and its frame's places are so again.
use Rattle.std.proofs.Common.{◌≡◌, ◌≢◌, ℕ, ◌<◌, true, false, List, length, Option, Some, refl, sym, ap, subst, ◌∙◌, ◌⊎◌, inl, inr, ⊎_elim, true≢false}
use Rattle.std.proofs.lemmas.Bool.{both_ways, and_parts, and_from}
use Rattle.std.proofs.lemmas.Option.{same_Some}
use Rattle.ob_perm.specs.States.{States}
use Rattle.ob_perm.specs.Permissions.{Permission, owned, shared, unowned, owns, is_unowned, kept}
use Rattle.ob_table.specs.Tables.{ClassTable}
use Rattle.ob_table.specs.declared.contract.ResolvedType.{ResolvedType}
use Rattle.ob_table_spec.specs.Conditions.{IsClassTable}
use Rattle.ob_heap_spec.specs.Values.{reference}
use Rattle.ob_silica_places.specs.Known.{permission_of_type}
use Rattle.ob_silica_places.specs.Places.{Location, slot, field, this, same_location}
use Rattle.ob_silica_steps.specs.Cells.{Cell, noted, permission_in}
use Rattle.ob_silica_steps.specs.Configurations.{SilicaFrame, by_new, Rest}
use Rattle.ob_silica_steps.specs.Here.{Here, set_permission, hand, counted as counts_as}
use Rattle.ob_flow_spec.specs.Contexts.{Context, now, with_permission, permission_on, permission_at, counted, constructs}
use Rattle.ob_flow_spec.specs.Joining.{same_mode}
use Rattle.ob_flow_spec.specs.Uses.{after_give}
use Rattle.ob_places_laws.specs.Serving.{Allows}
use Rattle.ob_places_laws.proofs.Permissions.{kept_owns}
use Rattle.ob_places_laws.proofs.Serves.{kept_keeps, kept_counted, kept_whole}
use Rattle.ob_coherent_spec.specs.Counting.{nth_object, in_cell}
use Rattle.ob_coherent_spec.specs.Standing.{Stands, IsOfKind, RefersToShared, NeedsOwner}
use Rattle.ob_coherent_spec.specs.Saying.{SaysOf}
use Rattle.ob_coherent_spec.specs.Remaining.{BodyParts, body_of, IsPlaceIn}
use Rattle.ob_soundness_laws.proofs.counting.Cells.{counted_cell}
use Rattle.ob_soundness_laws.specs.places.Placed.{cell_at, Stays, Written, Found, Sits, IsAlike, SlotsKept}
use Rattle.ob_soundness_laws.proofs.places.Objects.{comes_sets}
use Rattle.ob_soundness_laws.proofs.places.Writing.{permission_written, hand_written, hand_world}
use Rattle.ob_soundness_laws.proofs.places.Standing.{owns_it, reference_is, stands_stay, needs_stay}
use Rattle.ob_soundness_laws.proofs.places.Keeping.{OpensKept, opens_written, slots_kept, sits_written}
use Rattle.ob_soundness_laws.proofs.places.Finding.{counted_allows, counts_is, room_noted, found_stands}

-- Permissions that are kept.

pub noted_alike : (x : Cell) (q : Permission) (y : Option Cell) → y ≡ Some x → IsAlike y (Some (noted q x))
noted_alike x q y e z d = (noted q x, refl, ap (λ (c : Cell). c.value) same, ap (λ (c : Cell). c.note.kind) same)
  where
    same : x ≡ z
    same = same_Some x z (sym e ∙ d)

-- both keep in the same way
pub kept_mode : (p q w : Permission) → same_mode p q ≡ true → same_mode (kept p w) (kept q w) ≡ true
kept_mode p q (owned a) e = refl
kept_mode p q shared e = refl
kept_mode p q unowned e = e

-- and what keeps what it doesn't give
pub kept_whole_mode : (p q : Permission) → same_mode p q ≡ true → same_mode (kept p p) (kept q q) ≡ true
kept_whole_mode (owned a) (owned b) e = refl
kept_whole_mode (owned a) shared e = absurd (true≢false (sym e))
kept_whole_mode (owned a) unowned e = absurd (true≢false (sym e))
kept_whole_mode shared (owned b) e = absurd (true≢false (sym e))
kept_whole_mode shared shared e = refl
kept_whole_mode shared unowned e = absurd (true≢false (sym e))
kept_whole_mode unowned (owned b) e = absurd (true≢false (sym e))
kept_whole_mode unowned shared e = absurd (true≢false (sym e))
kept_whole_mode unowned unowned e = refl

-- what is kept as Shared was so, or it's wanted so
pub kept_is_shared : (q w : Permission) → kept q w ≡ shared → (q ≡ shared) ⊎ (w ≡ shared)
kept_is_shared q (owned b) e = absurd (let z : unowned ≡ shared = e in cc)
kept_is_shared q shared e = inr refl
kept_is_shared q unowned e = inl e

-- what is kept as an owner's was so, and no say is wanted
pub kept_is_owned : (q w : Permission) (a : States) → kept q w ≡ owned a → (q ≡ owned a) × (w ≡ unowned)
kept_is_owned q (owned b) a e = absurd (let z : unowned ≡ owned a = e in cc)
kept_is_owned q shared a e = absurd (let z : shared ≡ owned a = e in cc)
kept_is_owned q unowned a e = (e, refl)

-- what the giver keeps stands, where an object that is given as Shared is marked
pub kept_stands : (table : ClassTable) (h after : Here) → Stays h after → (x : Cell) (w : Permission)
    → (w ≡ shared → (n : ℕ) → x.value ≡ reference n → n < length h.world.objects
    → (nth_object after.world.objects n).shared ≡ true)
    → (w ≡ shared → (n : ℕ) × (x.value ≡ reference n))
    → Stands table h.world.objects x → Stands table after.world.objects (noted (kept x.note.permission w) x)
kept_stands table h after s x w marked refers a =
    let b = stands_stay table h after s x a in
    record {
      kind = b.kind;
      marked = λ e. ⊎_elim b.marked (λ i. let r = refers i in subst (RefersToShared after.world.objects) (sym r.1)
          (marked i r.0 r.1 (reference_is table h.world.objects x.note.kind r.0
          (subst (IsOfKind table h.world.objects x.note.kind) r.1 a.kind)).2)) (kept_is_shared x.note.permission w e);
      states = λ c e. b.states c (kept_is_owned x.note.permission w c e).0;
    }

-- The same permission that counts is given.

pub whole_is_shared : (q v : Permission) → ((v ≡ q) ⊎ (v ≡ unowned)) → kept q v ≡ shared → q ≡ shared
whole_is_shared q v i e = ⊎_elim (λ z. z)
    (λ z. ⊎_elim (λ s. sym s ∙ z) (λ s. absurd (let t : unowned ≡ shared = sym s ∙ z in cc)) i) (kept_is_shared q v e)

pub whole_stands : (table : ClassTable) (h after : Here) → Stays h after → (x : Cell) (v : Permission)
    → ((v ≡ x.note.permission) ⊎ (v ≡ unowned))
    → Stands table h.world.objects x → Stands table after.world.objects (noted (kept x.note.permission v) x)
whole_stands table h after s x v i a =
    let b = stands_stay table h after s x a in
    record {
      kind = b.kind;
      marked = λ e. b.marked (whole_is_shared x.note.permission v i e);
      states = λ c e. b.states c
          (kept_is_owned x.note.permission v c e).0;
    }

module _ (table : ClassTable) (made : IsClassTable table) (f : SilicaFrame) (parts : BodyParts) (h : Here) (g : Context)
    (k : Sits table f parts h g) where
  -- The permission of a place changes: the cell has q, and w is known of it.
  pub carry : (after : Here) (p : Location) → IsPlaceIn (body_of table f parts) p
      → (u : Found (NeedsOwner table h.world.objects) (g p) (cell_at h p)) (q w : Permission)
      → Written p (Some (noted q u.cell)) h after → Allows w q → Stands table after.world.objects (noted q u.cell)
      → ((n : ℕ) → NeedsOwner table after.world.objects n → 0 < in_cell owns n (Some (noted q u.cell)) → owns w ≡ true)
      → (p ≡ this → same_mode w q ≡ true) → (f.how ≡ by_new → p ≢ this)
      → Sits table f parts after (now g p w)
  carry after p inside u q w wr al st lo md other = sits_written table f parts h after g p (Some (noted q u.cell))
      (with_permission w (g p)) k wr inside
      (λ n e le. noted_alike u.cell q (cell_at h p) u.is)
      (room_noted table made f parts h g k p u.cell q u.is)
      (λ z e. subst (Stands table after.world.objects) (same_Some (noted q u.cell) z e) st)
      (subst (λ y. SaysOf (NeedsOwner table after.world.objects) (with_permission w y) (Some (noted q u.cell)))
      (sym u.told) (record { known = (u.kind, al); owner = lo }))
      (λ e. ap (λ y. same_mode (permission_on (with_permission w y)) q) u.told ∙ md e)
      (λ e i. absurd (other e i))

  -- tests stay open
  pub carry_opens : (after : Here) (p : Location) (q : Permission) (j : Context)
      (u : Found (NeedsOwner table h.world.objects) (g p) (cell_at h p)) (outer : List Rest)
      → Written p (Some (noted q u.cell)) h after → Sits table f parts after j → OpensKept table outer h after
  carry_opens after p q j u outer wr s = opens_written table outer h after p
      (Some (noted q u.cell)) wr k.frame.there k.object s.object
      (λ t. noted_alike u.cell q (cell_at h p) u.is)

  -- arguments are kept
  pub carry_kept : (after : Here) (p : Location) (q : Permission)
      (u : Found (NeedsOwner table h.world.objects) (g p) (cell_at h p)) (n : ℕ)
      → Written p (Some (noted q u.cell)) h after → SlotsKept n h after
  carry_kept after p q u n wr = slots_kept h after p (Some (noted q u.cell)) wr n
      (λ i e le. noted_alike u.cell q (cell_at h p) u.is)

  -- of `this` the mode of its permission is known
  found_mode : (p : Location) (u : Found (NeedsOwner table h.world.objects) (g p) (cell_at h p)) → p ≡ this
      → same_mode (permission_at g p) u.cell.note.permission ≡ true
  found_mode p u e = ap (λ z. same_mode (permission_at g z) u.cell.note.permission) e
      ∙ ap (λ z. same_mode (permission_at g this) (permission_in z)) (sym u.is ∙ ap (cell_at h) e) ∙ k.says.mode refl

  pub permission_found : (p : Location) (u : Found (NeedsOwner table h.world.objects) (g p) (cell_at h p))
      → Allows (permission_at g p) u.cell.note.permission
  permission_found p u = subst (λ y. Allows (permission_on y) u.cell.note.permission) (sym u.told) u.permission

  -- a constructor doesn't use `this`
  pub spares : (p : Location) → (constructs (body_of table f parts) ≡ true → same_location p this ≡ false)
      → f.how ≡ by_new → p ≢ this
  spares p sp e i = both_ways _ (sp (k.frame.constructs e)) (ap (λ r. same_location r this) i)

  -- A place is given where this type wants a permission.
  pub carry_hand : (of : ResolvedType) (p : Location) → IsPlaceIn (body_of table f parts) p
      → (u : Found (NeedsOwner table h.world.objects) (g p) (cell_at h p))
      → (permission_of_type of ≡ shared → (n : ℕ) × (u.cell.value ≡ reference n))
      → (f.how ≡ by_new → p ≢ this)
      → Sits table f parts (hand of p u.cell h) (after_give g p (permission_of_type of))
  carry_hand of p inside u refers other =
      let w = permission_of_type of in
      let wr = hand_written of p u.cell h u.is in
      carry (hand of p u.cell h) p inside u (kept u.cell.note.permission w) (kept (permission_at g p) w) wr
      (kept_keeps w (permission_at g p) u.cell.note.permission (permission_found p u))
      (kept_stands table h (hand of p u.cell h) wr.stays u.cell w
      (λ e n is lt. ap (λ v. (nth_object v.objects n).shared) (hand_world of p u.cell h)
      ∙ comes_sets of u.cell.value h.world n lt is e) refers
      (found_stands table made f parts h g k p u))
      (λ n l has. let r = counted_cell owns n (noted (kept u.cell.note.permission w) u.cell) has in
      let d = and_parts (owns u.cell.note.permission) (is_unowned w) (sym (kept_owns u.cell.note.permission w) ∙ r.0) in
      kept_owns (permission_at g p) w ∙ and_from (owns (permission_at g p)) (is_unowned w)
      (ap (λ y. owns (permission_on y)) u.told
      ∙ u.owner n (needs_stay table h (hand of p u.cell h) wr.stays n l) (owns_it u.cell n d.0 r.1)) d.1)
      (λ e. kept_mode (permission_at g p) u.cell.note.permission w (found_mode p u e))
      other

  -- what counts of a place is given, as in a move
  keeps_counted : (p : Location) (u : Found (NeedsOwner table h.world.objects) (g p) (cell_at h p))
      → Allows (kept (permission_at g p) (counted g p)) (kept u.cell.note.permission (counts_as h p u.cell))
  keeps_counted (slot n) u = kept_whole (permission_at g (slot n)) u.cell.note.permission (permission_found (slot n) u)
  keeps_counted (field n) u = kept_counted (permission_at g this) (permission_in (h.slots 0))
      (permission_at g (field n)) u.cell.note.permission (k.says.mode refl) (permission_found (field n) u)

  counted_mode : (p : Location) (u : Found (NeedsOwner table h.world.objects) (g p) (cell_at h p)) → p ≡ this
      → same_mode (kept (permission_at g p) (counted g p)) (kept u.cell.note.permission (counts_as h p u.cell)) ≡ true
  counted_mode (slot n) u e = kept_whole_mode (permission_at g (slot n)) u.cell.note.permission
      (found_mode (slot n) u e)
  counted_mode (field n) u e = absurd (cc)

  -- where an owner is kept, it doesn't count, and neither does it for the rules
  keeps_owner : (P Q w v : Permission) → Allows w v → owns (kept Q v) ≡ true → (owns Q ≡ true → owns P ≡ true)
      → owns (kept P w) ≡ true
  keeps_owner P Q (owned a) (owned b) al e h = absurd (true≢false (sym e))
  keeps_owner P Q shared (owned b) al e h = absurd (true≢false (sym e))
  keeps_owner P Q unowned (owned b) al e h = absurd (true≢false (sym e))
  keeps_owner P Q w shared al e h = absurd (true≢false (sym e))
  keeps_owner P Q (owned a) unowned (b, is, sub) e h = absurd (cc)
  keeps_owner P Q shared unowned al e h = absurd (cc)
  keeps_owner P Q unowned unowned al e h = h e

  pub carry_counted : (p : Location) → IsPlaceIn (body_of table f parts) p
      → (u : Found (NeedsOwner table h.world.objects) (g p) (cell_at h p)) → (f.how ≡ by_new → p ≢ this)
      → Sits table f parts (set_permission p (kept u.cell.note.permission (counts_as h p u.cell)) h)
      (now g p (kept (permission_at g p) (counted g p)))
  carry_counted p inside u other =
      let v = counts_as h p u.cell in
      let after = set_permission p (kept u.cell.note.permission v) h in
      let wr = permission_written p (kept u.cell.note.permission v) u.cell h u.is in
      carry after p inside u (kept u.cell.note.permission v) (kept (permission_at g p) (counted g p)) wr
      (keeps_counted p u)
      (whole_stands table h after wr.stays u.cell v (counts_is h p u.cell) (found_stands table made f parts h g k p u))
      (λ n l has. let r = counted_cell owns n (noted (kept u.cell.note.permission v) u.cell) has in
      keeps_owner (permission_at g p) u.cell.note.permission (counted g p) v
      (counted_allows table made f parts h g k p u) r.0
      (λ d. ap (λ y. owns (permission_on y)) u.told
      ∙ u.owner n (needs_stay table h after wr.stays n l) (owns_it u.cell n d r.1)))
      (counted_mode p u) other

  -- ownership of a place is given up
  pub carry_disowned : (after : Here) (p : Location) → IsPlaceIn (body_of table f parts) p
      → (u : Found (NeedsOwner table h.world.objects) (g p) (cell_at h p))
      → Written p (Some (noted unowned u.cell)) h after → (f.how ≡ by_new → p ≢ this)
      → Sits table f parts after (now g p unowned)
  carry_disowned after p inside u wr other =
      let b = stands_stay table h after wr.stays u.cell (found_stands table made f parts h g k p u) in
      carry after p inside u unowned unowned wr tt
      (record {
        kind = b.kind;
        marked = λ e. absurd (let z : unowned ≡ shared = e in cc);
        states = λ a e. absurd (let z : unowned ≡ owned a = e in cc);
      })
      (λ n l has. absurd (let d = (counted_cell owns n (noted unowned u.cell) has).0 in true≢false (sym d)))
      (λ e. refl) other
