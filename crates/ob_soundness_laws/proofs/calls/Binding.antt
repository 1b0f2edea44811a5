-- One place is handed over to one parameter.
use Rattle.std.proofs.Common.{◌≡◌, ◌≢◌, ℕ, suc, ◌+◌, ◌<◌, ◌≤◌, true, false, List, length, Some, refl, sym, ap, subst, ◌∙◌, arith, ⊎_elim, ◌⊎◌, inl, inr, true≢false, zero}
use Rattle.std.specs.Prelude.{option_map}
use Rattle.std.proofs.lemmas.Bool.{cases_Bool, both_ways}
use Rattle.std.proofs.lemmas.Bool.Decides.{eqb_tells}
use Rattle.std.proofs.lemmas.Option.{same_Some, none-some}
use Rattle.ob_base.specs.Limits.{most_slots}
use Rattle.ob_base.specs.declared.id.ContractId.{ContractId}
use Rattle.ob_perm.specs.Permissions.{Permission, owned, shared, unowned, owns, is_unowned, fits, kept}
use Rattle.ob_table.specs.Tables.{ClassTable}
use Rattle.ob_table.specs.declared.contract.ResolvedType.{ResolvedType}
use Rattle.ob_table.specs.declared.seen.Kind.TheVariants.{Reference}
use Rattle.ob_table_spec.specs.Conditions.{IsClassTable}
use Rattle.ob_table_spec.specs.WellFormed.{kind_of_resolved, serves_as}
use Rattle.ob_heap_spec.specs.Values.{Value, reference, int_value, text_value, bool_value}
use Rattle.ob_heap_spec.specs.Objects.{Object}
use Rattle.ob_heap_spec.specs.Worlds.{World}
use Rattle.ob_silica_places.specs.Known.{permission_of_type, at}
use Rattle.ob_silica_places.specs.Places.{Location, slot, field, this, same_location}
use Rattle.ob_silica_places.specs.Parameters.{Parameter}
use Rattle.ob_silica_places.specs.Converting.{converted}
use Rattle.ob_silica_steps.specs.Cells.{Cell, noted, permission_in}
use Rattle.ob_silica_steps.specs.Configurations.{Configuration, by_new}
use Rattle.ob_silica_steps.specs.Here.{Here, here, self_of, hand, counted as counts_as}
use Rattle.ob_silica_steps.specs.Binding.{Bound, bound_cell, bind_one}
use Rattle.ob_flow_spec.specs.Contexts.{Context, TestedPlaces, with_permission, permission_on, permission_at, counted}
use Rattle.ob_flow_spec.specs.Uses.{kind_known, given_to}
use Rattle.ob_flow_spec.specs.Joining.{same_mode}
use Rattle.ob_flow_laws.specs.Uses.{CanGive}
use Rattle.ob_places_laws.specs.Serving.{Allows}
use Rattle.ob_places_laws.proofs.Serves.{allows_owner}
use Rattle.ob_places_laws.proofs.Tables.{contract_is}
use Rattle.ob_coherent_spec.specs.Counting.{any, nth_object, in_cell, in_slots}
use Rattle.ob_coherent_spec.specs.Runs.{constructions}
use Rattle.ob_coherent_spec.specs.Standing.{IsOfKind, RefersToShared, Stands, HasItsState, NeedsOwner}
use Rattle.ob_coherent_spec.specs.Saying.{SaysOf}
use Rattle.ob_coherent_spec.specs.Remaining.{BodyParts, body_of, IsPlaceIn}
use Rattle.ob_soundness_laws.proofs.counting.Sums.{at_same, at_other}
use Rattle.ob_soundness_laws.proofs.counting.Places.{few_fields, slots_at}
use Rattle.ob_soundness_laws.proofs.counting.Cells.{cell_other, cell_counted, cell_uncounted}
use Rattle.ob_soundness_laws.proofs.counting.Writing.{IsLow, here_hand}
use Rattle.ob_soundness_laws.proofs.counting.Entering.{bind_owners, bind_owners_same, bind_refers}
use Rattle.ob_soundness_laws.specs.places.Placed.{cell_at, Stays, Written, Sits, Found, IsAlike, TellsThis}
use Rattle.ob_soundness_laws.proofs.places.Objects.{comes_sets}
use Rattle.ob_soundness_laws.proofs.places.Reading.{place_is}
use Rattle.ob_soundness_laws.proofs.places.Writing.{stays_onward, hand_written, hand_world, hand_shares, hand_disowns_none}
use Rattle.ob_soundness_laws.proofs.places.Standing.{needs_stay, has_state_same, stands_stay, all_stand_stay}
use Rattle.ob_soundness_laws.proofs.places.Keeping.{written_that, sits_written}
use Rattle.ob_soundness_laws.proofs.places.Finding.{found_stands, room_noted, counted_allows, counts_is, this_mode}
use Rattle.ob_soundness_laws.specs.calls.Binds.{in_frame, in_both, in_rest, Binds}
use Rattle.ob_soundness_laws.proofs.calls.Giving.{kept_stands, kept_says, kept_mode, gives_owner, gives_say, allowed_say, say_type, kind_serves, bound_stands}
use Rattle.ob_soundness_laws.proofs.counting.NextNumber.{stands_there}

-- A permission is an owner's, Shared or Unowned.

by_mode : (p : Permission) → (owns p ≡ true) ⊎ ((p ≡ shared) ⊎ (p ≡ unowned))
by_mode (owned a) = inl refl
by_mode shared = inr (inl refl)
by_mode unowned = inr (inr refl)

shared_or_not : (p : Permission) → (p ≡ shared) ⊎ (p ≢ shared)
shared_or_not (owned a) = inr (λ e. cc)
shared_or_not shared = inl refl
shared_or_not unowned = inr (λ e. cc)

no_owner_unowned : (p : Permission) → p ≡ unowned → owns p ≡ false
no_owner_unowned p e = ap owns e

-- where nothing is kept but what is Shared
kept_shared_is : (p w : Permission) → kept p w ≡ shared → (w ≡ shared) ⊎ (p ≡ shared)
kept_shared_is p (owned a) e = absurd (cc)
kept_shared_is p shared e = inl refl
kept_shared_is p unowned e = inr e

-- a value that is a reference where a Shared one is declared
shared_refers : (table : ClassTable) (objects : List Object) (of : ResolvedType) (v : Value)
    → permission_of_type of ≡ shared
    → IsOfKind table objects (kind_of_resolved of) v → (n : ℕ) × (v ≡ reference n) × (n < length objects)
shared_refers table objects of v e h =
    let r = say_type of (ap is_unowned e) in
    refers r.0 v (subst (λ (t : ResolvedType). IsOfKind table objects (kind_of_resolved t) v) r.2 h)
  where
    refers : (id : ContractId) (v : Value) → IsOfKind table objects (Reference id) v
        → (n : ℕ) × (v ≡ reference n) × (n < length objects)
    refers id (reference n) h = (n, refl, h.0)
    refers id (int_value z) h = absurd h
    refers id (bool_value z) h = absurd h
    refers id (text_value z) h = absurd h

shared_at : (objects : List Object) (v : Value) (n : ℕ) → v ≡ reference n → (nth_object objects n).shared ≡ true
    → RefersToShared objects v
shared_at objects v n e s = subst (RefersToShared objects) (sym e) s

shared_there : (objects : List Object) (v : Value) (n : ℕ) → v ≡ reference n → RefersToShared objects v
    → (nth_object objects n).shared ≡ true
shared_there objects v n e s = subst (RefersToShared objects) e s

module _ (table : ClassTable) (made : IsClassTable table) (c : Configuration) (parts : BodyParts) (ts : TestedPlaces)
    (one : (m : ℕ) → in_frame owns m (here c) + in_rest owns m c ≤ 1)
    (placed : (m : ℕ) → m < length c.world.objects → constructions m c ≡ 0
    → HasItsState table (nth_object c.world.objects m))
    (b : Bound) (g : Context) (n : ℕ) (k : Binds table c parts b g n) (a : Location) (p : Parameter)
    (inside : IsPlaceIn (body_of table c.frame parts) a) (few : n < most_slots)
    (can : CanGive (body_of table c.frame parts) ts g a p)
    (u : Found (NeedsOwner table b.from.world.objects) (g a) (cell_at b.from a))
    (serves : serves_as table (kind_of_resolved p.of) u.cell.note.kind ≡ true)
    (finished : (m : ℕ) → 0 < constructions m c → u.cell.value ≢ reference m) where
  w : Permission
  w = permission_of_type p.of

  abbrev after : Here
  after = hand p.of a u.cell b.from

  abbrev next : Bound
  next = bind_one table b a u.cell n p

  low : IsLow a
  low = at_place a inside
    where
      at_place : (q : Location) → IsPlaceIn (body_of table c.frame parts) q → IsLow q
      at_place (slot j) lt = let few = k.sits.frame.few in omega (arith, few, lt)
      at_place (field j) lt = few_fields j
          (let few = (contract_is table made c.frame.contract parts.own k.sits.frame.own).few_fields in omega
          (arith, few, lt))

  there : self_of b.from.slots < length b.from.world.objects
  there = k.sits.frame.there

  kinds : kind_known (g a) ≡ u.cell.note.kind
  kinds = ap kind_known u.told ∙ sym u.kind

  fit : fits (converted table u.cell.note.kind (kind_of_resolved p.of) (counted g a)) (permission_of_type p.of) ≡ true
  fit = subst (λ z. fits (converted table z (kind_of_resolved p.of) (counted g a))
      (permission_of_type p.of) ≡ true) kinds can.serves

  allows : Allows (counted g a) (counts_as b.from a u.cell)
  allows = counted_allows table made c.frame parts b.from g k.sits a u

  -- the giver owns where an owner is wanted
  owner_given : owns (permission_of_type p.of) ≡ true → owns u.cell.note.permission ≡ true
  owner_given e =
      let run = allows_owner (counted g a) (counts_as b.from a u.cell) allows
      (gives_owner table u.cell.note.kind (kind_of_resolved p.of) (counted g a) (permission_of_type p.of) fit e) in
      ⊎_elim (λ same. ap owns (sym same) ∙ run) (λ none. absurd (true≢false (sym run ∙ ap owns none)))
      (counts_is b.from a u.cell)

  -- and it has a say where a Shared one is
  say_given : permission_of_type p.of ≡ shared → is_unowned u.cell.note.permission ≡ false
  say_given e =
      let run = allowed_say (counted g a) (counts_as b.from a u.cell) allows
      (gives_say table u.cell.note.kind (kind_of_resolved p.of) (counted g a)
      (subst (λ z. fits (converted table u.cell.note.kind (kind_of_resolved p.of) (counted g a)) z ≡ true) e fit)) in
      ⊎_elim (λ same. ap is_unowned (sym same) ∙ run) (λ none. absurd (true≢false (sym (ap is_unowned none) ∙ run)))
      (counts_is b.from a u.cell)

  written : Written a (Some (noted (kept u.cell.note.permission (permission_of_type p.of)) u.cell)) b.from after
  written = hand_written p.of a u.cell b.from u.is

  stood : Stands table b.from.world.objects u.cell
  stood = found_stands table made c.frame parts b.from g k.sits a u

  stands_on : Stands table after.world.objects u.cell
  stands_on = stands_stay table b.from after written.stays u.cell stood

  -- the object is marked where a Shared one is wanted
  marked : permission_of_type p.of ≡ shared → RefersToShared after.world.objects u.cell.value
  marked e =
      let r = shared_refers table b.from.world.objects p.of u.cell.value e
      (kind_serves table made b.from.world.objects
      (kind_of_resolved p.of) u.cell.note.kind u.cell.value serves stood.kind) in
      shared_at after.world.objects u.cell.value r.0 r.1
      (ap (λ (v : World). (nth_object v.objects r.0).shared) (hand_world p.of a u.cell b.from)
      ∙ comes_sets p.of u.cell.value b.from.world r.0 r.2 r.1 e)

  given_stands : (z : Cell) → Some (noted (kept u.cell.note.permission (permission_of_type p.of)) u.cell) ≡ Some z
      → Stands table after.world.objects z
  given_stands z e = subst (Stands table after.world.objects) (same_Some _ z e)
      (kept_stands table after.world.objects u.cell (permission_of_type p.of) marked stands_on)

  says : SaysOf (NeedsOwner table after.world.objects)
      (with_permission (kept (permission_on (g a)) (permission_of_type p.of)) (g a))
      (Some (noted (kept u.cell.note.permission (permission_of_type p.of)) u.cell))
  says = kept_says (NeedsOwner table b.from.world.objects) (NeedsOwner table after.world.objects) (g a) u.note u.cell
      (permission_of_type p.of) u.told u.kind u.permission u.owner (needs_stay table b.from after written.stays)

  told_permission : (q : Permission) → permission_on (with_permission q (g a)) ≡ q
  told_permission q = ap (λ y. permission_on (with_permission q y)) u.told

  tells : TellsThis a (with_permission (kept (permission_on (g a)) (permission_of_type p.of)) (g a))
      (Some (noted (kept u.cell.note.permission (permission_of_type p.of)) u.cell))
  tells e =
      let mode : same_mode (permission_at g a) (permission_in (cell_at b.from a)) ≡ true =
      subst (λ q. same_mode (permission_at g q) (permission_in (cell_at b.from q)) ≡ true) (sym e)
      (this_mode table made c.frame parts b.from g k.sits) in
      subst (λ q. same_mode q (kept u.cell.note.permission (permission_of_type p.of)) ≡ true)
      (sym (told_permission (kept (permission_on (g a)) (permission_of_type p.of))))
      (kept_mode (permission_on (g a)) u.cell.note.permission (permission_of_type p.of)
      (subst (λ y. same_mode (permission_on (g a)) (permission_in y) ≡ true) u.is mode))

  not_this : c.frame.how ≡ by_new → a ≡ this → owns (permission_in
      (Some (noted (kept u.cell.note.permission (permission_of_type p.of)) u.cell))) ≡ true
  not_this how e = absurd (both_ways _ (can.usable.spares_this (k.sits.frame.constructs how))
      (ap (λ q. same_location q this) e))

  kept_alike : IsAlike (cell_at b.from a) (Some (noted (kept u.cell.note.permission (permission_of_type p.of)) u.cell))
  kept_alike z e =
      let same : u.cell ≡ z = same_Some u.cell z (sym u.is ∙ e) in (
        noted (kept u.cell.note.permission (permission_of_type p.of)) u.cell,
        refl,
        ap (λ (x : Cell). x.value) same,
        ap (λ (x : Cell). x.note.kind) same,
      )

  next_sits : Sits table c.frame parts after (given_to g a p)
  next_sits = sits_written table c.frame parts b.from after g a
      (Some (noted (kept u.cell.note.permission (permission_of_type p.of)) u.cell))
      (with_permission (kept (permission_on (g a)) (permission_of_type p.of)) (g a)) k.sits written inside
      (λ j e le. kept_alike)
      (room_noted table made c.frame parts b.from g k.sits a u.cell
      (kept u.cell.note.permission (permission_of_type p.of)) u.is)
      given_stands says tells not_this

  -- the object of the value is in one of its states
  in_state : (m : ℕ) → u.cell.value ≡ reference m → HasItsState table (nth_object after.world.objects m)
  in_state m e = has_state_same table (nth_object c.world.objects m) (nth_object after.world.objects m)
      (written.stays.contracts m ∙ k.stays.contracts m) (written.stays.states m ∙ k.stays.states m)
      (placed m below (none (constructions m c) refl))
    where
      below : m < length c.world.objects
      below =
          let lt = stands_there table b.from.world.objects u.cell
          m stood e in
          let same = k.stays.count in omega (arith, lt, same)

      none : (i : ℕ) → constructions m c ≡ i → constructions m c ≡ 0
      none zero i = i
      none (suc j) i = absurd (finished m (omega (arith, i)) e)

  -- what the parameter gets stands
  bound_one : Stands table after.world.objects (bound_cell p.of u.cell.value)
  bound_one = bound_stands table made after.world.objects u.cell p.of (counted g a)
      (counts_as b.from a u.cell) stands_on
      serves in_state allows (counts_is b.from a u.cell) fit marked

  -- Owners.

  bound_counts : (m : ℕ) → in_slots owns m (at b.slots n (Some (bound_cell p.of u.cell.value)))
      ≡ in_slots owns m b.slots + in_cell owns m (Some (bound_cell p.of u.cell.value))
  bound_counts m = omega (
    arith,
    slots_at owns m b.slots n (Some (bound_cell p.of u.cell.value)) few,
    ap (in_cell owns m) (k.above n (omega arith)),
  )

  fewer_now : (m : ℕ) → in_both owns m next ≤ in_both owns m b
  fewer_now m = bind_owners table b a u.cell n p low there u.is few (k.above n (omega arith)) m owner_given

  -- where a Shared one is wanted of an owner none is left
  none_left : permission_of_type p.of ≡ shared → owns u.cell.note.permission ≡ true → (m : ℕ)
      → u.cell.value ≡ reference m
      → in_both owns m next + in_rest owns m c ≡ 0
  none_left e own m is =
      let more = bound_counts m in
      let less = here_hand owns m p.of a u.cell b.from low there in
      let was : in_cell owns m (cell_at b.from a) ≡ 1 = ap (in_cell owns m) u.is ∙ cell_counted owns m u.cell own is in
      let now : in_cell owns m (option_map (noted (kept u.cell.note.permission (permission_of_type p.of)))
      (cell_at b.from a)) ≡ 0 =
      ap (λ y. in_cell owns m (option_map (noted (kept u.cell.note.permission (permission_of_type p.of))) y)) u.is
      ∙ ap (λ z. in_cell owns m (Some (noted (kept u.cell.note.permission z) u.cell))) e in
      let got : in_cell owns m (Some (bound_cell p.of u.cell.value)) ≡ 0 =
      cell_uncounted owns m (bound_cell p.of u.cell.value) (ap owns e) in
      let f = k.fewer m in let o = one m in
      omega (arith, more, less, was, now, got, f, o)

  shared_now : (m : ℕ) → (nth_object b.from.world.objects m).shared ≡ false
      → (nth_object after.world.objects m).shared ≡ true
      → in_both owns m next + in_rest owns m c ≡ 0
  shared_now m before since =
      let r = hand_shares p.of a u.cell b.from m before since in
      ⊎_elim (λ own. none_left r.1 own m r.0)
      (λ other. ⊎_elim
      (λ was. absurd (both_ways _ before (shared_there b.from.world.objects u.cell.value m r.0 (stood.marked was))))
      (λ none. absurd (true≢false (sym (ap is_unowned none) ∙ say_given r.1))) other)
      (by_mode u.cell.note.permission)

  assets_now : (m : ℕ) → NeedsOwner table after.world.objects m → in_both owns m b ≤ in_both owns m next
  assets_now m must = ⊎_elim
      (λ e.
      let other : u.cell.value ≢ reference m =
      λ is. both_ways _ must.unshared (shared_there after.world.objects u.cell.value m is (marked e)) in
      let more = bound_counts m in
      let less = here_hand owns m p.of a u.cell b.from low there in
      let was : in_cell owns m (cell_at b.from a) ≡ 0 = ap (in_cell owns m) u.is ∙ cell_other owns m u.cell other in
      omega (arith, more, less, was))
      (λ ne. let same = bind_owners_same table b a u.cell n p low there u.is few (k.above n (omega arith)) m owner_given
      (λ e. absurd (ne e)) in omega (arith, same))
      (shared_or_not (permission_of_type p.of))

  shares_now : (q : Location) (x y : Cell) → cell_at (here c) q ≡ Some x → cell_at after q ≡ Some y
      → y.note.permission ≡ shared
      → (x.note.permission ≡ shared) ⊎ ((m : ℕ) → x.value ≡ reference m → in_both owns m next + in_rest owns m c ≡ 0)
  shares_now q x y ex ey e = ⊎_elim (λ same. here_now same) (λ other. was y (sym (written.others q other) ∙ ey) e)
      (place_is q a)
    where
      was : (z : Cell) → cell_at b.from q ≡ Some z → z.note.permission ≡ shared
          → (x.note.permission ≡ shared) ⊎
          ((m : ℕ) → x.value ≡ reference m → in_both owns m next + in_rest owns m c ≡ 0)
      was z ez s = ⊎_elim (λ i. inl i)
          (λ none. inr (λ m is. let less = fewer_now m in let old = none m is in omega (arith, less, old)))
          (k.shares q x z ex ez s)

      here_now : q ≡ a
          → (x.note.permission ≡ shared) ⊎
          ((m : ℕ) → x.value ≡ reference m → in_both owns m next + in_rest owns m c ≡ 0)
      here_now same =
          let is : cell_at b.from q ≡ Some u.cell = ap (cell_at b.from) same ∙ u.is in
          let now : noted (kept u.cell.note.permission (permission_of_type p.of)) u.cell ≡ y =
          same_Some _ y (sym (written_that b.from after a _ written q same) ∙ ey) in
          let s : kept u.cell.note.permission (permission_of_type p.of) ≡ shared =
          ap (λ (z : Cell). z.note.permission) now ∙ e in
          let value : u.cell.value ≡ x.value =
          (let r = k.alike q x ex in ap (λ (z : Cell). z.value) (same_Some u.cell r.0 (sym is ∙ r.1)) ∙ r.2) in
          ⊎_elim (λ i. was u.cell is i)
          (λ other. ⊎_elim
          (λ wanted. ⊎_elim (λ own. inr (λ m refers. none_left wanted own m (value ∙ refers)))
          (λ more. ⊎_elim (λ i. was u.cell is i)
          (λ none. absurd (true≢false (sym (ap is_unowned none) ∙ say_given wanted))) more)
          (by_mode u.cell.note.permission))
          (λ i. absurd (other i))
          (kept_shared_is u.cell.note.permission (permission_of_type p.of) s))
          (shared_or_not u.cell.note.permission)

  alike_now : (q : Location) → IsAlike (cell_at (here c) q) (cell_at after q)
  alike_now q z e =
      let r = k.alike q z e in
      ⊎_elim
      (λ same. let v = kept_alike r.0 (ap (cell_at b.from) (sym same) ∙ r.1) in
      (v.0, written_that b.from after a _ written q same ∙ v.1, v.2 ∙ r.2, v.3 ∙ r.3))
      (λ other. (r.0, written.others q other ∙ r.1, r.2, r.3))
      (place_is q a)

  -- what holds once it's bound
  pub bind_next : Binds table c parts next (given_to g a p) (suc n)
  bind_next = record {
    stays = stays_onward (here c) b.from after k.stays written.stays;
    sits = next_sits;
    alike = alike_now;
    unset = λ q none. ⊎_elim
        (λ same. absurd (let z = k.unset q none in
        none-some u.cell (sym z ∙ ap (cell_at b.from) same ∙ u.is)))
        (λ other. written.others q other ∙ k.unset q none)
        (place_is q a);
    shares = shares_now;
    fewer = λ m. let less = fewer_now m in let old = k.fewer m in omega (arith, less, old);
    assets = λ m must. let more = assets_now m must in
        let old = k.assets m (needs_stay table b.from after written.stays m must) in omega (arith, more, old);
    newly = λ m no yes. ⊎_elim
        (λ was. let less = fewer_now m in let old = k.newly m no was in omega (arith, less, old))
        (λ not. shared_now m not yes)
        (cases_Bool (nth_object b.from.world.objects m).shared);
    disowned = λ m. hand_disowns_none p.of a u.cell b.from m ∙ k.disowned m;
    refers = λ m building. let old = k.refers m building in
        let more = bind_refers table b a u.cell n p low there u.is few (k.above n (omega arith)) m in
        let none = cell_other any m u.cell (finished m building) in omega (arith, old, more, none);
    bound = λ j x e. ⊎_elim
        (λ same. subst (Stands table after.world.objects)
        (same_Some (bound_cell p.of u.cell.value) x (sym (ap (at b.slots n (Some (bound_cell p.of u.cell.value))) same.1
        ∙ at_same b.slots n (Some (bound_cell p.of u.cell.value))) ∙ e)) bound_one)
        (λ other. all_stand_stay table b.from after written.stays b.slots k.bound j x
        (sym (at_other b.slots n (Some (bound_cell p.of u.cell.value)) j other.1) ∙ e))
        (eqb_tells j n);
    above = λ j le. at_other b.slots n (Some (bound_cell p.of u.cell.value)) j (λ e. omega (arith, e, le))
        ∙ k.above j (omega (arith, le));
  }

  -- the place that was given
  pub next_same : cell_at next.from a ≡ Some (noted (kept u.cell.note.permission (permission_of_type p.of)) u.cell)
  next_same = written.itself

  pub next_other : (q : Location) → same_location q a ≡ false → cell_at next.from q ≡ cell_at b.from q
  next_other q other = written.others q other

  pub next_bound : Stands table next.from.world.objects (bound_cell p.of u.cell.value)
  next_bound = bound_one

  pub next_stays : Stays b.from next.from
  next_stays = written.stays
