-- One place is given to one field.
use Rattle.std.proofs.Common.{◌≡◌, ◌≢◌, ℕ, ◌+◌, ◌<◌, ◌≤◌, true, false, List, length, Some, None, refl, sym, ap, subst, ◌∙◌, arith, ⊎_elim, ◌⊎◌, inl, inr, true≢false}
use Rattle.std.proofs.lemmas.Bool.{cases_Bool, both_ways, ne_eqb}
use Rattle.std.proofs.lemmas.Bool.Decides.{eqb_tells}
use Rattle.std.proofs.lemmas.Option.{same_Some, none-some, slice_get_within}
use Rattle.std.specs.Prelude.{slice_get}
use Rattle.std.specs.Option.{option_map_or}
use Rattle.ob_base.specs.declared.id.StateId.{StateId}
use Rattle.ob_perm.specs.Permissions.{Permission, owned, shared, unowned, owns, is_unowned, fits, kept}
use Rattle.ob_table.specs.Tables.{ClassTable}
use Rattle.ob_table.specs.declared.contract.Field.{Field}
use Rattle.ob_table.specs.declared.contract.ResolvedType.{ResolvedType}
use Rattle.ob_table.specs.declared.contract.ResolvedType.TheVariants.{Int as IntType}
use Rattle.ob_table_spec.specs.Conditions.{IsClassTable}
use Rattle.ob_table_spec.specs.WellFormed.{kind_of_resolved, serves_as}
use Rattle.ob_heap_spec.specs.Values.{Value, reference, Numbered, put}
use Rattle.ob_heap_spec.specs.Objects.{Object, has_field}
use Rattle.ob_silica_places.specs.Known.{permission_of_type}
use Rattle.ob_silica_places.specs.Places.{Location, field, this, same_location}
use Rattle.ob_silica_places.specs.Converting.{converted}
use Rattle.ob_silica_steps.specs.Cells.{Cell, noted}
use Rattle.ob_silica_steps.specs.Configurations.{Configuration}
use Rattle.ob_silica_steps.specs.Here.{Here, here, self_of, hand, counted as counts_as}
use Rattle.ob_silica_steps.specs.Getting.{got_from}
use Rattle.ob_flow_spec.specs.Contexts.{BodyFrame, Context, TestedPlaces, with_permission, permission_on, permission_at, type_of_field, declared_permission, put as put_known}
use Rattle.ob_flow_spec.specs.Uses.{said_for_type, after_give}
use Rattle.ob_flow_spec.specs.Filling.{got as got_known}
use Rattle.ob_flow_laws.specs.Filling.{CanFillAs, CanFill}
use Rattle.ob_coherent_spec.specs.Counting.{Counted, any, nth_object, fields_counted, in_cell}
use Rattle.ob_coherent_spec.specs.Runs.{constructions}
use Rattle.ob_coherent_spec.specs.Standing.{RefersToShared, Stands, NeedsOwner}
use Rattle.ob_coherent_spec.specs.Saying.{SaysOf}
use Rattle.ob_coherent_spec.specs.Remaining.{BodyParts, body_of, IsPlaceIn}
use Rattle.ob_soundness_laws.proofs.counting.Sums.{at_same, at_other, sum_at}
use Rattle.ob_soundness_laws.proofs.counting.Cells.{cell_other, cell_counted}
use Rattle.ob_soundness_laws.proofs.counting.Low.{place_low, contract_field_low}
use Rattle.ob_soundness_laws.proofs.counting.Permitting.{hand_counts, hand_refers}
use Rattle.ob_soundness_laws.proofs.counting.Writing.{IsLow}
use Rattle.ob_soundness_laws.specs.places.Placed.{cell_at, Written, Found, IsAlike}
use Rattle.ob_soundness_laws.proofs.places.Reading.{place_is, same_place, field_is}
use Rattle.ob_soundness_laws.proofs.places.Writing.{stays_onward, hand_written, hand_shares, hand_disowns_none}
use Rattle.ob_soundness_laws.proofs.places.Standing.{needs_stay, stands_stay, says_of_less}
use Rattle.ob_soundness_laws.proofs.places.Keeping.{written_that, put_that, put_other}
use Rattle.ob_soundness_laws.proofs.places.Finding.{found_stands, counts_is}
use Rattle.ob_soundness_laws.proofs.places.Getting.{AreLow}
use Rattle.ob_soundness_laws.proofs.places.Handing.{gives_on, gives_shared, said_fits}
use Rattle.ob_soundness_laws.proofs.places.Carrying.{kept_is_shared}
use Rattle.ob_soundness_laws.proofs.places.Filling.{low_stays, is_shared_or, fill_found, fill_owner, fill_owns, fill_marks, fill_sits, fill_stands, fill_says}
use Rattle.ob_soundness_laws.specs.calls.Binds.{in_frame, in_rest}
use Rattle.ob_soundness_laws.proofs.calls.Giving.{gives_say}
use Rattle.ob_soundness_laws.specs.changes.Fills.{in_cells, in_both, IsGot, Fills}

by_mode : (p : Permission) → (owns p ≡ true) ⊎ ((p ≡ shared) ⊎ (p ≡ unowned))
by_mode (owned a) = inl refl
by_mode shared = inr (inl refl)
by_mode unowned = inr (inr refl)

shared_there : (objects : List Object) (v : Value) (n : ℕ) → v ≡ reference n → RefersToShared objects v
    → (nth_object objects n).shared ≡ true
shared_there objects v n e s = subst (RefersToShared objects) e s

-- A place that fills a field declared Shared has a say.

fill_serves : (b : BodyFrame) (ts : TestedPlaces) (g : Context) (f : ℕ) (p : Location) (w : Permission)
    → CanFillAs b ts g f p w → w ≡ shared
    → fits (said_for_type b g p (type_of_field b f)) (permission_of_type (type_of_field b f)) ≡ true
fill_serves b ts g f p (owned a) k e = absurd (let z : owned a ≡ shared = e in cc)
fill_serves b ts g f p shared k e = k.serves
fill_serves b ts g f p unowned k e = absurd (let z : unowned ≡ shared = e in cc)

-- a permission with a say keeps it, unless an owner is wanted of it
keeps_say : (p w : Permission) → is_unowned p ≡ false → owns w ≡ false → is_unowned (kept p w) ≡ false
keeps_say p (owned a) s e = absurd (true≢false e)
keeps_say p shared s e = refl
keeps_say p unowned s e = s

-- a field of the new state has a type
pub has_field_at : (table : ClassTable) (c : Configuration) (parts : BodyParts) (s : StateId) (f : ℕ)
    → has_field parts.own (Some s) f ≡ true
    → (d : Field) × (slice_get parts.own.fields f ≡ Some d) × (type_of_field (body_of table c.frame parts) f ≡ d.of)
has_field_at table c parts s f h =
    let r = field_is parts.own (Some s) f h in
    (r.0, r.1, ap (λ y. option_map_or (λ (x : Field). x.of) y IntType) r.1)

module _ (table : ClassTable) (made : IsClassTable table) (c : Configuration) (parts : BodyParts) (s : StateId)
    (ts : TestedPlaces) (one : (m : ℕ) → in_frame owns m (here c) + in_rest owns m c ≤ 1)
    (lows : AreLow c.world.objects)
    (last : Context) (h : Here) (got : Numbered Cell) (g said : Context)
    (k : Fills table c parts s last h got g said) (f : ℕ) (a : Location)
    (inside : IsPlaceIn (body_of table c.frame parts) a) (has : has_field parts.own (Some s) f ≡ true)
    (can : CanFill (body_of table c.frame parts) ts g f a)
    (serves : serves_as table (kind_of_resolved (type_of_field (body_of table c.frame parts) f))
    (fill_found table made c.frame parts h g k.sits ts f a can inside).cell.note.kind ≡ true)
    (finished : (m : ℕ) → 0 < constructions m c
    → (fill_found table made c.frame parts h g k.sits ts f a can inside).cell.value ≢ reference m)
    (fresh : got f ≡ None)
    (no_this : owns (declared_permission (body_of table c.frame parts) f) ≡ true → same_location a this ≡ false) where
  abbrev u : Found (NeedsOwner table h.world.objects) (g a) (cell_at h a)
  u = fill_found table made c.frame parts h g k.sits ts f a can inside

  abbrev of : ResolvedType
  of = type_of_field (body_of table c.frame parts) f

  abbrev w : Permission
  w = permission_of_type of

  abbrev after : Here
  after = hand of a u.cell h

  abbrev y : Cell
  y = got_from table of h a u.cell

  abbrev next : Numbered Cell
  next = put got f y

  lows_now : AreLow h.world.objects
  lows_now = low_stays (here c) h k.stays lows

  low : IsLow a
  low = place_low table made h.world.objects (record c.frame { slots = h.slots }) parts k.sits.frame a inside

  low_field : f < fields_counted
  low_field =
      let r = has_field_at table c parts s f has in
      contract_field_low table made c.frame.contract parts.own k.sits.frame.own f
      (slice_get_within parts.own.fields f r.0 r.1)

  there : self_of h.slots < length h.world.objects
  there = k.sits.frame.there

  -- a place that is given where a Shared one is wanted has a say
  say_given : w ≡ shared → is_unowned u.cell.note.permission ≡ false
  say_given e =
      let fit = said_fits table made c.frame parts h g k.sits a u of w
      (fill_serves (body_of table c.frame parts) ts g f a
      (declared_permission (body_of table c.frame parts) f) can.serves e) in
      let run = gives_say table u.cell.note.kind (kind_of_resolved of) (counts_as h a u.cell)
      (subst (λ z. fits (converted table u.cell.note.kind (kind_of_resolved of) (counts_as h a u.cell)) z ≡ true)
      e fit) in
      ⊎_elim (λ same. ap is_unowned (sym same) ∙ run) (λ none. absurd (true≢false (sym (ap is_unowned none) ∙ run)))
      (counts_is h a u.cell)

  written : Written a (Some (noted (kept u.cell.note.permission w) u.cell)) h after
  written = hand_written of a u.cell h u.is

  stood : Stands table h.world.objects u.cell
  stood = found_stands table made c.frame parts h g k.sits a u

  owner_given : owns w ≡ true → owns u.cell.note.permission ≡ true
  owner_given = fill_owner table made c.frame parts h g k.sits ts f a can inside

  got_owns : owns y.note.permission ≡ owns w
  got_owns = fill_owns table made c.frame parts h g k.sits ts f a can inside

  -- where a Shared one is wanted its object is marked
  marked : w ≡ shared → (m : ℕ) → u.cell.value ≡ reference m → (nth_object after.world.objects m).shared ≡ true
  marked = fill_marks table made c.frame parts h g k.sits ts f a can inside serves lows_now

  -- Owners.

  got_counts : (counts : Counted) (m : ℕ) → in_cells counts m next ≡ in_cells counts m got + in_cell counts m (Some y)
  got_counts counts m =
      let e = sum_at (in_cell counts m) fields_counted f got (Some y) low_field in
      let z : in_cell counts m (got f) ≡ 0 = ap (in_cell counts m) fresh in
      omega (arith, e, z)

  here_counts : (counts : Counted) (m : ℕ) → in_frame counts m after + in_cell counts m (Some u.cell)
      ≡ in_frame counts m h + in_cell counts m (Some (noted (kept u.cell.note.permission w) u.cell))
  here_counts counts m = hand_counts of a h low there u.cell u.is counts m

  same_now : w ≢ shared → (m : ℕ) → in_both owns m after next ≡ in_both owns m h got
  same_now ne m =
      let e = got_counts owns m in let d = here_counts owns m in
      let on = gives_on m u.cell y w refl ne owner_given got_owns in
      omega (arith, e, d, on)

  gone_now : w ≡ shared → (m : ℕ) → in_both owns m after next + in_cell owns m (Some u.cell) ≡ in_both owns m h got
  gone_now e m =
      let x = got_counts owns m in let d = here_counts owns m in
      let on = gives_shared m u.cell y w e got_owns in let n0 = on.0 in let n1 = on.1 in
      omega (arith, x, d, n0, n1)

  fewer_now : (m : ℕ) → in_both owns m after next ≤ in_both owns m h got
  fewer_now m = ⊎_elim (λ e. let z = gone_now e m in omega (arith, z))
      (λ e. let z = same_now e m in omega (arith, z)) (is_shared_or w)

  -- where a Shared one is wanted of an owner none is left
  none_left : w ≡ shared → owns u.cell.note.permission ≡ true → (m : ℕ) → u.cell.value ≡ reference m
      → in_both owns m after next + in_rest owns m c ≡ 0
  none_left e own m is =
      let z = gone_now e m in
      let was : in_cell owns m (Some u.cell) ≡ 1 = cell_counted owns m u.cell own is in
      let less = k.fewer m in let o = one m in
      omega (arith, z, was, less, o)

  shared_now : (m : ℕ) → (nth_object h.world.objects m).shared ≡ false
      → (nth_object after.world.objects m).shared ≡ true
      → in_both owns m after next + in_rest owns m c ≡ 0
  shared_now m before since =
      let r = hand_shares of a u.cell h m before since in
      ⊎_elim (λ own. none_left r.1 own m r.0)
      (λ other. ⊎_elim
      (λ was. absurd (both_ways _ before (shared_there h.world.objects u.cell.value m r.0 (stood.marked was))))
      (λ none. absurd (true≢false (sym (ap is_unowned none) ∙ say_given r.1))) other)
      (by_mode u.cell.note.permission)

  assets_now : (m : ℕ) → NeedsOwner table after.world.objects m → in_both owns m h got ≤ in_both owns m after next
  assets_now m must = ⊎_elim
      (λ e.
      let other : u.cell.value ≢ reference m =
      λ is. both_ways _ must.unshared (marked e m is) in
      let z = gone_now e m in let none = cell_other owns m u.cell other in
      omega (arith, z, none))
      (λ ne. let z = same_now ne m in omega (arith, z))
      (is_shared_or w)

  shares_now : (q : Location) (x z : Cell) → cell_at (here c) q ≡ Some x → cell_at after q ≡ Some z
      → z.note.permission ≡ shared
      → (x.note.permission ≡ shared) ⊎ ((m : ℕ) → x.value ≡ reference m
      → in_both owns m after next + in_rest owns m c ≡ 0)
  shares_now q x z ex ez e = ⊎_elim (λ same. here_now same) (λ other. was z (sym (written.others q other) ∙ ez) e)
      (place_is q a)
    where
      was : (v : Cell) → cell_at h q ≡ Some v → v.note.permission ≡ shared
          → (x.note.permission ≡ shared) ⊎ ((m : ℕ) → x.value ≡ reference m
          → in_both owns m after next + in_rest owns m c ≡ 0)
      was v ev s = ⊎_elim (λ i. inl i)
          (λ none. inr (λ m is. let less = fewer_now m in let old = none m is in omega (arith, less, old)))
          (k.shares q x v ex ev s)

      here_now : q ≡ a
          → (x.note.permission ≡ shared) ⊎ ((m : ℕ) → x.value ≡ reference m
          → in_both owns m after next + in_rest owns m c ≡ 0)
      here_now same =
          let is : cell_at h q ≡ Some u.cell = ap (cell_at h) same ∙ u.is in
          let now : noted (kept u.cell.note.permission w) u.cell ≡ z =
          same_Some _ z (sym (written_that h after a _ written q same) ∙ ez) in
          let sh : kept u.cell.note.permission w ≡ shared = ap (λ (v : Cell). v.note.permission) now ∙ e in
          let value : u.cell.value ≡ x.value =
          (let r = k.alike q x ex in ap (λ (v : Cell). v.value) (same_Some u.cell r.0 (sym is ∙ r.1)) ∙ r.2) in
          ⊎_elim (λ i. was u.cell is i)
          (λ wanted. ⊎_elim (λ own. inr (λ m refers. none_left wanted own m (value ∙ refers)))
          (λ more. ⊎_elim (λ i. was u.cell is i)
          (λ none. absurd (true≢false (sym (ap is_unowned none) ∙ say_given wanted))) more)
          (by_mode u.cell.note.permission))
          (kept_is_shared u.cell.note.permission w sh)

  alike_now : (q : Location) → IsAlike (cell_at (here c) q) (cell_at after q)
  alike_now q z e =
      let r = k.alike q z e in
      ⊎_elim
      (λ same. let v : r.0 ≡ u.cell = same_Some r.0 u.cell (sym r.1 ∙ ap (cell_at h) same ∙ u.is) in (
        noted (kept u.cell.note.permission w) u.cell,
        written_that h after a _ written q same,
        ap (λ (x : Cell). x.value) (sym v) ∙ r.2,
        ap (λ (x : Cell). x.note.kind) (sym v) ∙ r.3,
      ))
      (λ other. (r.0, written.others q other ∙ r.1, r.2, r.3))
      (place_is q a)

  say_now : is_unowned (permission_at (after_give g a w) this) ≡ false
  say_now = ⊎_elim
      (λ e. ap (λ z. is_unowned (permission_on z))
      (put_that g a (with_permission (kept (permission_at g a) w) (g a)) this e
      ∙ ap (with_permission (kept (permission_at g a) w)) u.told)
      ∙ keeps_say (permission_at g a) w (ap (λ q. is_unowned (permission_at g q)) (sym e) ∙ k.say)
      (⊎_elim (λ own. absurd (both_ways _ (no_this own) (ap (λ q. same_location q this) (sym e) ∙ same_place this)))
      (λ other. other) (cases_Bool (owns w))))
      (λ e. ap (λ z. is_unowned (permission_on z))
      (put_other g a (with_permission (kept (permission_at g a) w) (g a)) this e) ∙ k.say)
      (place_is this a)

  got_is : IsGot table after.world.objects parts.own s
      (put_known said (field f) (got_known (body_of table c.frame parts) g f a) (field f)) f y
  got_is =
      let r = has_field_at table c parts s f has in
      record {
        stands = fill_stands table made c.frame parts h g k.sits ts f a can inside serves lows_now;
        says = subst (λ z. SaysOf (NeedsOwner table after.world.objects) z (Some y))
            (sym (put_that said (field f) (got_known (body_of table c.frame parts) g f a) (field f) refl))
            (fill_says table made c.frame parts h g k.sits ts f a can inside serves lows_now);
        field = r.0;
        is = r.1;
        has = has;
        kind = ap kind_of_resolved r.2;
      }

  -- what was got before
  got_before : (j : ℕ) (x : Cell) → j ≢ f → got j ≡ Some x → IsGot table after.world.objects parts.own s
      (put_known said (field f) (got_known (body_of table c.frame parts) g f a) (field j)) j x
  got_before j x ne e =
      let i = k.cells j x e in
      record {
        stands = stands_stay table h after written.stays x i.stands;
        says = subst (λ z. SaysOf (NeedsOwner table after.world.objects) z (Some x))
            (sym (put_other said (field f) (got_known (body_of table c.frame parts) g f a) (field j)
            (ne_eqb j f ne)))
            (says_of_less (NeedsOwner table h.world.objects) (NeedsOwner table after.world.objects)
            (needs_stay table h after written.stays) _ _ i.says);
        field = i.field;
        is = i.is;
        has = i.has;
        kind = i.kind;
      }

  -- what holds once it's given
  pub fill_next : Fills table c parts s last after next (after_give g a w)
      (put_known said (field f) (got_known (body_of table c.frame parts) g f a))
  fill_next = record {
    stays = stays_onward (here c) h after k.stays written.stays;
    sits = fill_sits table made c.frame parts h g k.sits ts f a can inside serves lows_now;
    alike = alike_now;
    unset = λ q none. ⊎_elim
        (λ same. absurd (let z = k.unset q none in none-some u.cell (sym z ∙ ap (cell_at h) same ∙ u.is)))
        (λ other. written.others q other ∙ k.unset q none)
        (place_is q a);
    shares = shares_now;
    fewer = λ m. let less = fewer_now m in let old = k.fewer m in omega (arith, less, old);
    assets = λ m must. let more = assets_now m must in
        let old = k.assets m (needs_stay table h after written.stays m must) in omega (arith, more, old);
    newly = λ m no yes. ⊎_elim
        (λ was. let less = fewer_now m in let old = k.newly m no was in omega (arith, less, old))
        (λ not. shared_now m not yes)
        (cases_Bool (nth_object h.world.objects m).shared);
    disowned = λ m. hand_disowns_none of a u.cell h m ∙ k.disowned m;
    refers = λ m building. let old = k.refers m building in
        let more = hand_refers of a h low there u.cell u.is m in
        let e = got_counts any m in
        let none = cell_other any m y (finished m building) in omega (arith, old, more, e, none);
    say = say_now;
    cells = λ j x e. ⊎_elim
        (λ same. subst (λ i. IsGot table after.world.objects parts.own s
        (put_known said (field f) (got_known (body_of table c.frame parts) g f a) (field i)) i x) (sym same.1)
        (subst (IsGot table after.world.objects parts.own s
        (put_known said (field f) (got_known (body_of table c.frame parts) g f a) (field f)) f)
        (same_Some y x (sym (ap next same.1 ∙ at_same got f (Some y)) ∙ e)) got_is))
        (λ other. got_before j x other.1 (sym (at_other got f (Some y) j other.1) ∙ e))
        (eqb_tells j f);
    rest = λ j e. ⊎_elim
        (λ same. absurd (none-some y (sym e ∙ ap next same.1 ∙ at_same got f (Some y))))
        (λ other. put_other said (field f) (got_known (body_of table c.frame parts) g f a) (field j) other.0
        ∙ k.rest j (sym (at_other got f (Some y) j other.1) ∙ e))
        (eqb_tells j f);
    others = λ j. k.others j;
  }
