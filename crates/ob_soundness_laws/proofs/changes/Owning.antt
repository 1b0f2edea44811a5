-- No other place owns an object that changes its state, and what goes owns no object that must have an owner.
use Rattle.std.proofs.Common.{◌≡◌, ◌≢◌, ℕ, zero, suc, ◌+◌, ◌<◌, ◌≤◌, Bool, true, false, List, length, Option, Some, None, refl, sym, ap, subst, ◌∙◌, arith, ⊎_elim, ◌⊎◌, inl, inr, true≢false}
use Rattle.std.proofs.lemmas.Bool.{cases_lt, both_ways, and_from}
use Rattle.std.proofs.lemmas.Option.{slice_get_within}
use Rattle.ob_base.specs.declared.id.StateId.{StateId}
use Rattle.ob_perm.specs.Permissions.{Permission, owned, shared, unowned, owns, is_unowned}
use Rattle.ob_table.specs.Tables.{ClassTable}
use Rattle.ob_table.specs.declared.contract.Contract.{Contract}
use Rattle.ob_table_spec.specs.Conditions.{IsClassTable}
use Rattle.ob_heap_spec.specs.Values.{reference, Numbered}
use Rattle.ob_heap_spec.specs.Objects.{Object, has_field, state_number}
use Rattle.ob_heap_spec.specs.Marks.{is_locked}
use Rattle.ob_silica.specs.Terms.{SilicaTerms}
use Rattle.ob_silica_places.specs.Known.{Known}
use Rattle.ob_silica_places.specs.Places.{field, this}
use Rattle.ob_silica_steps.specs.Cells.{Cell, permission_in}
use Rattle.ob_silica_steps.specs.Configurations.{Rest, Configuration}
use Rattle.ob_silica_steps.specs.Here.{Here, here, self_of}
use Rattle.ob_silica_steps.specs.Changing.{is_locked_out, changed_here}
use Rattle.ob_flow_spec.specs.Contexts.{BodyFrame, Context, available, field_count, maybe_there, owns_asset, possible_under, permission_at, permission_on, is_asset, is_owned_asset}
use Rattle.ob_places_laws.proofs.Permissions.{same_mode_no_say}
use Rattle.ob_places_laws.proofs.Sets.{meets_from}
use Rattle.ob_coherent_spec.specs.Counting.{any, field_cell, fields_counted, in_cell, in_slots, in_fields, in_handles, owners, references}
use Rattle.ob_coherent_spec.specs.Runs.{constructions}
use Rattle.ob_coherent_spec.specs.Standing.{Stands, NeedsOwner}
use Rattle.ob_coherent_spec.specs.Saying.{Agrees, SaysOf, own_object}
use Rattle.ob_coherent_spec.specs.Remaining.{body_of}
use Rattle.ob_coherent_spec.specs.Coherent.{Beginning, IsRunning}
use Rattle.ob_soundness_laws.proofs.counting.Sums.{sum_zero, term_at_most}
use Rattle.ob_soundness_laws.proofs.counting.Numbers.{times_among}
use Rattle.ob_soundness_laws.proofs.counting.Cells.{cell_counted}
use Rattle.ob_soundness_laws.proofs.counting.Places.{in_slot, in_two_slots, in_field_of, in_object, past_fields, fields_same}
use Rattle.ob_soundness_laws.proofs.counting.Entering.{some_slots}
use Rattle.ob_soundness_laws.proofs.counting.Low.{contract_field_low, field_low}
use Rattle.ob_soundness_laws.proofs.counting.Changing.{cell_lost, in_lost, owners_after, references_after}
use Rattle.ob_soundness_laws.specs.frames.Steps.{moved, FreeToChange}
use Rattle.ob_soundness_laws.specs.places.Placed.{cell_at}
use Rattle.ob_soundness_laws.proofs.places.Changed.{changed_leaves}
use Rattle.ob_soundness_laws.proofs.places.Finding.{own_is, own_state_low, state_possible}
use Rattle.ob_soundness_laws.proofs.places.Reading.{same_field_cell, kind_in_run, available_is}
use Rattle.ob_soundness_laws.proofs.remaining.Following.{owner_is_asset}
use Rattle.ob_soundness_laws.specs.calls.Binds.{in_rest}
use Rattle.ob_soundness_laws.proofs.calls.Running.{running_owners, running_references, running_one}
use Rattle.ob_soundness_laws.specs.changes.Fills.{in_both, Fills}

some_or_none : (m : ℕ) → (0 < m) ⊎ (m ≡ 0)
some_or_none zero = inr refl
some_or_none (suc m) = inl (omega arith)

by_mode : (p : Permission) → (owns p ≡ true) ⊎ ((p ≡ shared) ⊎ (p ≡ unowned))
by_mode (owned a) = inl refl
by_mode shared = inr (inl refl)
by_mode unowned = inr (inr refl)

-- a place that is known to own no asset owns no object that must have an owner
no_asset : (table : ClassTable) → IsClassTable table → (objects : List Object) (y : Option Known) (x : Cell)
    → Stands table objects x → SaysOf (NeedsOwner table objects) y (Some x) → is_owned_asset table y ≡ false
    → (n : ℕ) → NeedsOwner table objects n → in_cell owns n (Some x) ≡ 0
no_asset table t objects y x st s e n needs = ⊎_elim
    (λ has. absurd (by_known y s.known e (s.owner n needs has) (owner_is_asset table t objects n x st needs has)))
    (λ none. none)
    (some_or_none (in_cell owns n (Some x)))
  where
    by_known : (y : Option Known) → Agrees y (Some x) → is_owned_asset table y ≡ false → owns (permission_on y) ≡ true
        → is_asset table x.note.kind ≡ true → ⊥
    by_known None a e own asset = true≢false (sym own)
    by_known (Some z) a e own asset = both_ways _ e
        (and_from (owns z.permission) (is_asset table z.kind) own (subst (λ w. is_asset table w ≡ true) a.0 asset))

module _ (table : ClassTable) (made : IsClassTable table) (entry : Option ℕ) (beginning : Beginning) (c : Configuration)
    (k : IsRunning table entry beginning c) (s : StateId) (last : Context) (h : Here) (got : Numbered Cell)
    (g said : Context)
    (a : Fills table c k.whole.parts s last h got g said) (free : is_locked_out c.frame (here c) ≡ false) where
  abbrev own : Contract
  own = k.whole.parts.own

  abbrev body : BodyFrame
  body = body_of table c.frame k.whole.parts

  abbrev after : Here
  after = changed_here own s got h

  there : self_of h.slots < length h.world.objects
  there = a.sits.frame.there

  -- Who owns `this`.

  this_say : is_unowned (permission_in (h.slots 0)) ≡ false
  this_say = sym (same_mode_no_say (permission_at g this) (permission_in (h.slots 0)) (a.sits.says.mode refl)) ∙ a.say

  this_refers : a.sits.frame.this.value ≡ reference (self_of c.frame.slots)
  this_refers = a.sits.frame.refers ∙ ap reference a.stays.this

  -- no place but slot 0 owns the object of `this`
  alone : in_both owns (self_of c.frame.slots) h got + in_rest owns (self_of c.frame.slots) c
      ≤ in_cell owns (self_of c.frame.slots) (h.slots 0)
  alone = ⊎_elim
      (λ owner. let most = running_one table made entry beginning c k (self_of c.frame.slots) in
      let less = a.fewer (self_of c.frame.slots) in
      let is : in_cell owns (self_of c.frame.slots) (h.slots 0) ≡ 1 =
      ap (in_cell owns (self_of c.frame.slots)) a.sits.frame.set
      ∙ cell_counted owns (self_of c.frame.slots) a.sits.frame.this owner this_refers in
      omega (arith, most, less, is))
      (λ other. ⊎_elim (λ sh. held_shared sh)
      (λ none. absurd (both_ways _ this_say (ap (λ z. is_unowned (permission_in z)) a.sits.frame.set
      ∙ ap is_unowned none))) other)
      (by_mode a.sits.frame.this.note.permission)
    where
      held_shared : a.sits.frame.this.note.permission ≡ shared
          → in_both owns (self_of c.frame.slots) h got + in_rest owns (self_of c.frame.slots) c
          ≤ in_cell owns (self_of c.frame.slots) (h.slots 0)
      held_shared sh = ⊎_elim
          (λ was. ⊎_elim
          (λ few. let all = running_owners table made entry beginning c k (self_of c.frame.slots) in
          let less = a.fewer (self_of c.frame.slots) in omega (arith, few, all, less))
          (λ locked. absurd (both_ways _ free
          (and_from c.frame.share_entered (is_locked c.world (self_of c.frame.slots)) locked.0
          (times_among (self_of c.frame.slots) c.world.locked locked.1))))
          (k.shares (ap permission_in k.whole.frame.set ∙ was)).1)
          (λ none. let z = none (self_of c.frame.slots) k.whole.frame.refers in omega (arith, z))
          (a.shares this k.whole.frame.this a.sits.frame.this k.whole.frame.set a.sits.frame.set sh)

  slot_in : in_cell owns (self_of c.frame.slots) (h.slots 0) ≤ in_slots owns (self_of c.frame.slots) h.slots
  slot_in = in_slot owns (self_of c.frame.slots) h.slots 0 some_slots

  pub no_slot : (j : ℕ) → j ≢ 0 → in_cell owns (self_of h.slots) (h.slots j) ≡ 0
  no_slot j ne = subst (λ n. in_cell owns n (h.slots j) ≡ 0) (sym a.stays.this) (⊎_elim
      (λ low. let all = alone in
      let two = in_two_slots owns (self_of c.frame.slots) h.slots 0 j some_slots
      (let few = a.sits.frame.few in omega (arith, low, few)) (λ e. ne (sym e)) in
      omega (arith, all, two))
      (λ past. ap (in_cell owns (self_of c.frame.slots)) (a.sits.frame.unset j past))
      (cases_lt j k.whole.parts.slots))

  no_low_field : (i j : ℕ) → j < fields_counted
      → in_cell owns (self_of c.frame.slots) (field_cell h.notes h.world.objects i j) ≡ 0
  no_low_field i j low = let all = alone in let slots = slot_in in
      let one = in_field_of owns (self_of c.frame.slots) h.notes h.world.objects i j low in
      omega (arith, all, slots, one)

  pub no_field : (j : ℕ) → in_cell owns (self_of h.slots) (field_cell h.notes h.world.objects (self_of h.slots) j) ≡ 0
  no_field j = subst (λ n. in_cell owns n (field_cell h.notes h.world.objects (self_of h.slots) j) ≡ 0)
      (sym a.stays.this)
      (by_cell (field_cell h.notes h.world.objects (self_of h.slots) j) refl)
    where
      by_cell : (x : Option Cell) → field_cell h.notes h.world.objects (self_of h.slots) j ≡ x
          → in_cell owns (self_of c.frame.slots) (field_cell h.notes h.world.objects (self_of h.slots) j) ≡ 0
      by_cell None e = ap (in_cell owns (self_of c.frame.slots)) e
      by_cell (Some x) e = no_low_field (self_of h.slots) j
          (field_low table made h.notes h.world.objects (self_of h.slots) a.sits.object j x e)

  pub no_got : (j : ℕ) (x : Cell) → got j ≡ Some x → in_cell owns (self_of h.slots) (Some x) ≡ 0
  no_got j x e =
      let i = a.cells j x e in
      let low = contract_field_low table made c.frame.contract own k.whole.frame.own j
      (slice_get_within own.fields j i.field i.is) in
      let all = alone in let slots = slot_in in
      let one = term_at_most fields_counted (λ n. in_cell owns (self_of c.frame.slots) (got n)) j low in
      let is : in_cell owns (self_of c.frame.slots) (got j) ≡ in_cell owns (self_of c.frame.slots) (Some x) =
      ap (in_cell owns (self_of c.frame.slots)) e in
      subst (λ n. in_cell owns n (Some x) ≡ 0) (sym a.stays.this) (omega (arith, all, slots, one, is))

  pub free_to_change : FreeToChange c after
  free_to_change = inr (
    let all = alone in let slots = slot_in in omega (arith, all, slots),
    λ n ne. fields_same owns (self_of c.frame.slots) c.notes h.notes c.world.objects h.world.objects n n
        (λ j. ap (in_cell owns (self_of c.frame.slots))
        (same_field_cell h.notes c.notes h.world.objects c.world.objects n j (sym (a.stays.fields n j ne))
        (sym (a.stays.notes n j ne))))
        ∙ none_in n,
  )
    where
      none_in : (n : ℕ) → in_fields owns (self_of c.frame.slots) h.notes h.world.objects n ≡ 0
      none_in n = ⊎_elim
          (λ lt. let one = in_object owns (self_of c.frame.slots) h.notes h.world.objects n lt in
          let all = alone in let slots = slot_in in omega (arith, one, all, slots))
          (λ past. past_fields owns (self_of c.frame.slots) h.notes h.world.objects n past)
          (cases_lt n (length h.world.objects))

  -- What goes.

  module _ (overwritten : (f : ℕ) (x : Cell) → got f ≡ Some x → maybe_there body g f ≡ true
      → owns_asset body g (field f) ≡ false)
      (lost : (f : ℕ) → f < field_count body
      → available body f s.0 ≡ false
      → maybe_there body g f ≡ true
      → owns_asset body g (field f) ≡ false) where
    -- a field with a value may be there
    there_now : (f : ℕ) (x : Cell) → cell_at h (field f) ≡ Some x
        → (available body f (state_number (own_object h).state) ≡ true)
        × (f < field_count body)
    there_now f x e =
        let r = kind_in_run table h.notes h.world.objects (self_of h.slots) a.sits.object f x e in
        let same = own_is table made c.frame k.whole.parts h g a.sits in (
          available_is body f (own_object h).state
              ∙ ap (λ (o : Contract). has_field o (own_object h).state f) (sym same) ∙ r.0,
          subst (λ (o : Contract). f < length o.fields) same (slice_get_within a.sits.object.own.fields f r.1 r.2),
        )

    maybe_now : (f : ℕ) (x : Cell) → cell_at h (field f) ≡ Some x → maybe_there body g f ≡ true
    maybe_now f x e = meets_from (possible_under body (permission_at g this))
        (available body f) (state_number (own_object h).state)
        (own_state_low table made c.frame k.whole.parts h g a.sits)
        (state_possible table made c.frame k.whole.parts h g a.sits) (there_now f x e).0

    old_none : (f n : ℕ) → NeedsOwner table h.world.objects n
        → ((x : Cell) → cell_at h (field f) ≡ Some x → owns_asset body g (field f) ≡ false)
        → in_cell owns n (cell_at h (field f)) ≡ 0
    old_none f n needs none = by_cell (cell_at h (field f)) refl
      where
        by_cell : (x : Option Cell) → cell_at h (field f) ≡ x → in_cell owns n (cell_at h (field f)) ≡ 0
        by_cell None e = ap (in_cell owns n) e
        by_cell (Some x) e = ap (in_cell owns n) e
            ∙ no_asset table made h.world.objects (g (field f)) x (a.sits.fields f x e)
            (subst (SaysOf (NeedsOwner table h.world.objects) (g (field f))) e
            (a.sits.says.fields f (there_now f x e).0 refl))
            (none x e) n needs

    lost_at : (n : ℕ) → NeedsOwner table h.world.objects n → (f : ℕ) → f < fields_counted
        → in_cell owns n (cell_lost (got f) (has_field own (Some s) f)
        (field_cell h.notes h.world.objects (self_of h.slots) f)) ≡ 0
    lost_at n needs f low = by_got (got f) refl (has_field own (Some s) f) refl
      where
        by_got : (y : Option Cell) → got f ≡ y → (b : Bool) → has_field own (Some s) f ≡ b
            → in_cell owns n (cell_lost y b (field_cell h.notes h.world.objects (self_of h.slots) f)) ≡ 0
        by_got (Some y) e b d = old_none f n needs (λ x i. overwritten f y e (maybe_now f x i))
        by_got None e true d = refl
        by_got None e false d = old_none f n needs (λ x i. lost f (there_now f x i).1
            (available_is body f (Some s) ∙ d) (maybe_now f x i))

    lost_none : (n : ℕ) → NeedsOwner table h.world.objects n → in_lost own s got h owns n ≡ 0
    lost_none n needs = sum_zero fields_counted _ (lost_at n needs)

    -- Owners and references after the change.

    module _ (terms : SilicaTerms) (outer : List Rest) where
      pub all_owners : (n : ℕ) → owners n (moved c after terms outer)
          + in_lost own s got h owns n ≡ in_both owns n h got + in_rest owns n c
      all_owners n =
          let e = owners_after own s got h n there some_slots in
          let same = ap (in_handles owns n)
          (changed_leaves own s got h c a.stays).handles in
          omega (arith, e, same)

      pub fewer_owners : (n : ℕ) → owners n (moved c after terms outer) ≤ owners n c
      fewer_owners n = let e = all_owners n in let less = a.fewer n in
          let all = running_owners table made entry beginning c k n in omega (arith, e, less, all)

      pub keeps_owners : (n : ℕ) → NeedsOwner table h.world.objects n
          → owners n c ≤ owners n (moved c after terms outer)
      keeps_owners n needs = let e = all_owners n in let more = a.assets n needs in
          let none = lost_none n needs in
          let all = running_owners table made entry beginning c k n in omega (arith, e, more, none, all)

      pub no_owners : (n : ℕ) → in_both owns n h got + in_rest owns n c ≡ 0
          → owners n (moved c after terms outer) ≡ 0
      no_owners n none = let e = all_owners n in omega (arith, e, none)

      pub fewer_references : (n : ℕ) → 0 < constructions n c
          → references n (moved c after terms outer) ≤ references n c
      fewer_references n building =
          let e = references_after own s got h n there some_slots in
          let same = ap (in_handles any n)
          (changed_leaves own s got h c a.stays).handles in
          let keep = a.refers n building in
          let all = running_references table made entry beginning c k n in omega (arith, e, same, keep, all)
