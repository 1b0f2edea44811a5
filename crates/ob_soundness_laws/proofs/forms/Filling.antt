-- A field of `this` is filled with a reference that is moved.
use Rattle.std.proofs.Common.{◌≡◌, ◌≢◌, ℕ, ◌+◌, true, false, List, Option, Some, None, refl, sym, ap, ◌∙◌, subst, arith, true≢false, ◌⊎◌, inl, inr, ⊎_elim}
use Rattle.std.specs.Prelude.{slice_get, option_map}
use Rattle.std.proofs.lemmas.Bool.{both_ways, and_left, and_from, cases_Bool}
use Rattle.ob_base.specs.declared.fault.Span.{Span}
use Rattle.ob_base.specs.declared.id.ContractId.{ContractId}
use Rattle.ob_base.specs.declared.id.FieldId.{FieldId}
use Rattle.ob_perm.specs.Permissions.{Permission, owned, shared, unowned, owns, is_shared, kept, fits}
use Rattle.ob_table.specs.Tables.{field_at}
use Rattle.ob_table.specs.declared.contract.Field.{Field}
use Rattle.ob_table.specs.declared.contract.ResolvedType.{ResolvedType}
use Rattle.ob_table_spec.specs.WellFormed.{serves_as, kind_of_resolved}
use Rattle.ob_heap_spec.specs.Values.{reference}
use Rattle.ob_heap_spec.specs.Objects.{is_available, state_number}
use Rattle.ob_heap_spec.specs.Worlds.{World}
use Rattle.ob_silica.specs.Slots.{slots_of_operand}
use Rattle.ob_silica.specs.Terms.{SilicaTerms, move_form, and_term}
use Rattle.ob_silica.specs.declared.place.Operand.{Operand}
use Rattle.ob_silica.specs.declared.place.Place.TheVariants.{Field as FieldPlace}
use Rattle.ob_silica_places.specs.Converting.{converted, gotten}
use Rattle.ob_silica_places.specs.Known.{Known, known, permission_of_type}
use Rattle.ob_silica_places.specs.Places.{Location, field, this, located}
use Rattle.ob_silica_steps.specs.Cells.{Cell, noted}
use Rattle.ob_silica_steps.specs.Configurations.{SilicaProgram, by_new, Rest, runs, Configuration}
use Rattle.ob_silica_steps.specs.Getting.{got_from}
use Rattle.ob_silica_steps.specs.Here.{Here, here, set_field, hand, counted as counts_as}
use Rattle.ob_silica_steps.specs.Steps.{act}
use Rattle.ob_silica_formed.specs.Points.{HasKind}
use Rattle.ob_flow_spec.specs.Contexts.{BodyFrame, Context, TestedPlaces, put, type_of_field, permission_at, counted, available, is_owned_asset, is_tested, static_of}
use Rattle.ob_flow_spec.specs.Uses.{after_give, said_for_type}
use Rattle.ob_flow_laws.specs.Uses.{CanUse}
use Rattle.ob_flow_laws.specs.Filling.{CanFillAs}
use Rattle.ob_places_laws.proofs.Tables.{there_is, if_there_so}
use Rattle.ob_places_laws.proofs.Serves.{allows_owner}
use Rattle.ob_places_laws.proofs.Permissions.{gotten_owns, fits_shared, shared_is}
use Rattle.ob_places_laws.proofs.Conversions.{converted_owns, converted_shares}
use Rattle.ob_coherent_spec.specs.Counting.{nth_object, any, in_cell, owners}
use Rattle.ob_coherent_spec.specs.Runs.{tested_places}
use Rattle.ob_coherent_spec.specs.Standing.{Stands, RefersToShared, NeedsOwner}
use Rattle.ob_coherent_spec.specs.Saying.{SaysOf, own_object}
use Rattle.ob_coherent_spec.specs.Remaining.{IsCheckedProgram, body_of, IsPlaceIn, Remains}
use Rattle.ob_coherent_spec.specs.Coherent.{Beginning, IsRunning, IsCoherent, StepsSo}
use Rattle.ob_soundness_laws.proofs.counting.Cells.{cell_other, cell_counted}
use Rattle.ob_soundness_laws.proofs.counting.Permitting.{hand_counts, hand_refers}
use Rattle.ob_soundness_laws.proofs.counting.Writing.{in_here, here_field}
use Rattle.ob_soundness_laws.specs.frames.Steps.{moved}
use Rattle.ob_soundness_laws.proofs.frames.Cells.{reference_there}
use Rattle.ob_soundness_laws.specs.places.Placed.{Found, Sits, Written, cell_at}
use Rattle.ob_soundness_laws.proofs.places.Objects.{comes_sets}
use Rattle.ob_soundness_laws.proofs.places.Reading.{available_is, has_field_from}
use Rattle.ob_soundness_laws.proofs.places.Writing.{stays_onward, field_written, field_marks, hand_written, hand_world, hand_shares, hand_disowns_none}
use Rattle.ob_soundness_laws.proofs.places.Standing.{stands_stay, needs_stay, says_of_less}
use Rattle.ob_soundness_laws.proofs.places.Keeping.{own_state}
use Rattle.ob_soundness_laws.proofs.places.Finding.{field_now}
use Rattle.ob_soundness_laws.proofs.places.Carrying.{kept_is_shared, carry_hand}
use Rattle.ob_soundness_laws.proofs.places.Getting.{AreLow, objects_low, gotten_stands, given_refers}
use Rattle.ob_soundness_laws.proofs.places.Handing.{said_fits, filled_says, gives_shared, carry_arguments}
use Rattle.ob_soundness_laws.proofs.places.Filling.{low_stays, given_fewer, given_same}
use Rattle.ob_soundness_laws.proofs.places.Holding.{held_noted}
use Rattle.ob_soundness_laws.proofs.tests.Operands.{place_inside}
use Rattle.ob_soundness_laws.proofs.tests.Finding.{stands_at}
use Rattle.ob_soundness_laws.proofs.forms.Amid.{Amid, sits, counted_all, form_done}
use Rattle.ob_soundness_laws.proofs.forms.Slots.{no_asset}
use Rattle.ob_soundness_laws.proofs.forms.Referring.{made_unreferred}
use Rattle.ob_soundness_laws.proofs.forms.Straight.{bound_second, first, formed, few, after, operand_found, operand_read, operand_kind}
use Rattle.ob_soundness_laws.proofs.forms.Moving.{kept_shares, used_other, low_place, is_counted, allowed, is_owner, amid_noted}
use Rattle.ob_soundness_laws.proofs.forms.Fields.{declared_type, field_found, low_field, amid_field}

-- What fills a field.

pub fill_used : (b : BodyFrame) (ts : TestedPlaces) (g : Context) (n : ℕ) (p : Location) (w : Permission)
    → CanFillAs b ts g n p w → CanUse b g p
fill_used b ts g n p (owned a) can = can.usable
fill_used b ts g n p shared can = can.usable
fill_used b ts g n p unowned can = can.usable

pub fill_owner : (b : BodyFrame) (ts : TestedPlaces) (g : Context) (n : ℕ) (p : Location) (w : Permission)
    → CanFillAs b ts g n p w → owns w ≡ true
    → owns (counted g p) ≡ true
fill_owner b ts g n p (owned a) can e = can.owner
fill_owner b ts g n p shared can e = absurd (true≢false (sym e))
fill_owner b ts g n p unowned can e = absurd (true≢false (sym e))

pub fill_shared : (b : BodyFrame) (ts : TestedPlaces) (g : Context) (n : ℕ) (p : Location) (w : Permission)
    → CanFillAs b ts g n p w → w ≡ shared
    → fits (said_for_type b g p (type_of_field b n)) (permission_of_type (type_of_field b n)) ≡ true
fill_shared b ts g n p (owned a) can e = absurd (cc)
fill_shared b ts g n p shared can e = can.serves
fill_shared b ts g n p unowned can e = can.serves

counts_shared : (v q : Permission) → (v ≡ q) ⊎ (v ≡ unowned) → v ≡ shared → q ≡ shared
counts_shared v q (inl e) is = sym e ∙ is
counts_shared v q (inr e) is = absurd (let z : shared ≡ unowned = sym is ∙ e in cc)

counts_owner : (v q : Permission) → (v ≡ q) ⊎ (v ≡ unowned) → owns v ≡ true → owns q ≡ true
counts_owner v q (inl e) is = ap owns (sym e) ∙ is
counts_owner v q (inr e) is = absurd (true≢false (sym is ∙ ap owns e))

module _ (program : SilicaProgram) (checked : IsCheckedProgram program) (entry : Option ℕ) (beginning : Beginning)
    (c : Configuration)
    (k : IsRunning program.table entry beginning c) (n : ℕ) (d : Field)
    (declared : slice_get k.whole.parts.own.fields n ≡ Some d)
    (there : is_available (own_object (here c)).state d ≡ true)
    (p : Location) (inside : IsPlaceIn (body_of program.table c.frame k.whole.parts) p)
    (other : c.frame.how ≡ by_new → p ≢ this)
    (u : Found (NeedsOwner program.table c.world.objects) (k.context p) (cell_at (here c) p))
    (serves : serves_as program.table (kind_of_resolved
    (type_of_field (body_of program.table c.frame k.whole.parts) n)) u.cell.note.kind ≡ true)
    (terms : SilicaTerms) (outer : List Rest) (so : c.control ≡ runs terms outer)
    (fills : CanFillAs (body_of program.table c.frame k.whole.parts) (tested_places outer) k.context n p
    (permission_of_type (type_of_field (body_of program.table c.frame k.whole.parts) n))) where
  -- the frame sits so
  abbrev seated : Sits program.table c.frame k.whole.parts (here c) k.context
  seated = sits program.table checked.table entry beginning c k

  -- the body that the frame runs
  abbrev body : BodyFrame
  body = body_of program.table c.frame k.whole.parts

  -- the type of the field
  abbrev declared_as : ResolvedType
  declared_as = type_of_field body n

  abbrev wanted : Permission
  wanted = permission_of_type declared_as

  -- what the place keeps
  abbrev remaining : Permission
  remaining = kept u.cell.note.permission wanted

  -- the value's permission, said for the field
  abbrev said : Permission
  said = converted program.table u.cell.note.kind (kind_of_resolved declared_as) (counts_as (here c) p u.cell)

  abbrev handed : Here
  handed = hand declared_as p u.cell (here c)

  abbrev known_handed : Context
  known_handed = after_give k.context p wanted

  abbrev got_cell : Cell
  got_cell = got_from program.table declared_as (here c) p u.cell

  abbrev got_known : Known
  got_known = known (kind_of_resolved declared_as)
      (gotten wanted (said_for_type body k.context p declared_as))

  abbrev filled : Here
  filled = set_field n got_cell handed

  stood : Stands program.table c.world.objects u.cell
  stood = stands_at program.table checked.table entry beginning c k p u.cell u.is

  refers : wanted ≡ shared → (m : ℕ) × (u.cell.value ≡ reference m)
  refers e = given_refers program.table checked.table c.world.objects u.cell declared_as serves stood.kind e

  handed_written : Written p (Some (noted remaining u.cell)) (here c) handed
  handed_written = hand_written declared_as p u.cell (here c) u.is

  amid_handed : Amid program.table c k.whole.parts outer handed known_handed
  amid_handed = amid_noted program checked entry beginning c k p inside other u terms outer so handed remaining
      (kept (permission_at k.context p) wanted) handed_written
      (carry_hand program.table checked.table c.frame k.whole.parts
      (here c) k.context seated declared_as p inside u refers other)

  then_written : Written (field n) (Some got_cell) handed filled
  then_written = field_written n got_cell handed amid_handed.sits.frame.there

  -- Owners.

  gives_owner : owns wanted ≡ true → owns (counted k.context p) ≡ true
  gives_owner e = fill_owner body (tested_places outer) k.context n p wanted fills e

  had_owner : owns wanted ≡ true → owns u.cell.note.permission ≡ true
  had_owner e = is_owner program checked entry beginning c k p inside other u (gives_owner e)

  got_owns : owns got_cell.note.permission ≡ owns wanted
  got_owns = ⊎_elim
      (λ e. gotten_owns wanted said ∙ and_from (owns wanted) (owns said) e
      (converted_owns program.table u.cell.note.kind (kind_of_resolved declared_as) (counts_as (here c) p u.cell)
      ∙ allows_owner (counted k.context p) (counts_as (here c) p u.cell)
      (allowed program checked entry beginning c k p inside other u) (gives_owner e)) ∙ sym e)
      (λ e. gotten_owns wanted said ∙ and_left (owns wanted) (owns said) e ∙ sym e)
      (cases_Bool (owns wanted))

  handed_none : wanted ≡ shared → (m : ℕ) → (in_cell owns m (Some (noted remaining u.cell)) ≡ 0)
      × (in_cell owns m (Some got_cell) ≡ 0)
  handed_none e m = gives_shared m u.cell got_cell wanted e got_owns

  counts_filled : (m : ℕ) → in_here owns m filled + in_cell owns m (cell_at handed (field n))
      ≡ in_here owns m handed + in_cell owns m (Some got_cell)
  counts_filled m = here_field owns m n got_cell handed
      (low_field program checked entry beginning c k n d declared there) amid_handed.sits.frame.there

  counts_handed : (m : ℕ) → in_here owns m handed + in_cell owns m (Some u.cell)
      ≡ in_here owns m (here c) + in_cell owns m (Some (noted remaining u.cell))
  counts_handed m = hand_counts declared_as p (here c)
      (low_place program checked entry beginning c k p inside other u) k.whole.frame.there u.cell u.is owns m

  -- where the place owned what is handed over as Shared, no place owns it any more
  none_left : (rest : SilicaTerms) → wanted ≡ shared → owns u.cell.note.permission ≡ true → (m : ℕ)
      → u.cell.value ≡ reference m
      → owners m (moved c filled rest outer) ≡ 0
  none_left rest e owner m is =
      let a = counts_filled m in let b = counts_handed m in let z = handed_none e m in let z0 = z.0 in let z1 = z.1 in
      let one = k.whole.one_owner m in
      let all = counted_all program.table checked.table entry beginning c k terms outer so owns m filled rest
      (stays_onward (here c) handed filled handed_written.stays then_written.stays) in
      let had = cell_counted owns m u.cell owner is in
      omega (arith, a, b, z0, z1, one, all, had)

  -- what is handed over as Shared was so, or no place owns it
  was_or_gone : (rest : SilicaTerms) → wanted ≡ shared
      → (u.cell.note.permission ≡ shared) ⊎ ((m : ℕ) → u.cell.value ≡ reference m
      → owners m (moved c filled rest outer) ≡ 0)
  was_or_gone rest e = ⊎_elim
      (λ o. inr (none_left rest e (counts_owner (counts_as (here c) p u.cell) u.cell.note.permission
      (is_counted program checked entry beginning c k p inside other u)
      (sym (converted_owns program.table u.cell.note.kind (kind_of_resolved declared_as) (counts_as (here c) p u.cell))
      ∙ ap owns o.1))))
      (λ s. inl (counts_shared (counts_as (here c) p u.cell) u.cell.note.permission
      (is_counted program checked entry beginning c k p inside other u)
      (shared_is (counts_as (here c) p u.cell) (sym
      (converted_shares program.table u.cell.note.kind (kind_of_resolved declared_as) (counts_as (here c) p u.cell))
      ∙ ap is_shared s))))
      (fits_shared said (subst (λ w. fits said w ≡ true) e
      (said_fits program.table checked.table c.frame k.whole.parts (here c) k.context seated p u declared_as wanted
      (fill_shared body (tested_places outer) k.context n p wanted fills e))))

  -- Marks.

  same_shared : (m : ℕ) → (nth_object filled.world.objects m).shared ≡ (nth_object handed.world.objects m).shared
  same_shared m = (field_marks n got_cell handed).shared m

  given_marked : wanted ≡ shared → RefersToShared handed.world.objects u.cell.value
  given_marked e =
      let r = refers e in
      subst (RefersToShared handed.world.objects) (sym r.1)
      (ap (λ (w : World). (nth_object w.objects r.0).shared) (hand_world declared_as p u.cell (here c))
      ∙ comes_sets declared_as u.cell.value c.world r.0
      (reference_there program.table c.world.objects u.cell.note.kind u.cell.value r.0 stood.kind r.1) r.1 e)

  not_given : (m : ℕ) → wanted ≡ shared → NeedsOwner program.table filled.world.objects m → u.cell.value ≢ reference m
  not_given m e needs is = both_ways _ needs.unshared
      (same_shared m ∙ subst (RefersToShared handed.world.objects) is (given_marked e))

  newly : (rest : SilicaTerms) (m : ℕ) → (nth_object c.world.objects m).shared ≡ false
      → (nth_object filled.world.objects m).shared ≡ true
      → owners m (moved c filled rest outer) ≡ 0
  newly rest m unset set =
      let r = hand_shares declared_as p u.cell (here c) m unset (sym (same_shared m) ∙ set) in
      ⊎_elim
      (λ was. absurd (both_ways _ unset (subst (RefersToShared c.world.objects) r.0 (stood.marked was))))
      (λ gone. gone m r.0)
      (was_or_gone rest r.1)

  -- The field afterwards.

  low_handed : AreLow handed.world.objects
  low_handed = low_stays (here c) handed handed_written.stays
      (objects_low program.table checked.table c.notes c.world.objects k.whole.objects)

  got_stood : Stands program.table filled.world.objects got_cell
  got_stood = stands_stay program.table handed filled then_written.stays got_cell
      (gotten_stands program.table checked.table handed.world.objects u.cell (counts_as (here c) p u.cell) wanted
      (kind_of_resolved declared_as) low_handed serves
      (is_counted program checked entry beginning c k p inside other u) given_marked
      (stands_stay program.table (here c) handed handed_written.stays u.cell stood))

  got_says : SaysOf (NeedsOwner program.table filled.world.objects) (Some got_known) (Some got_cell)
  got_says = says_of_less (NeedsOwner program.table c.world.objects) (NeedsOwner program.table filled.world.objects)
      (λ m needs. needs_stay program.table (here c) handed handed_written.stays m
      (needs_stay program.table handed filled then_written.stays m needs))
      (Some got_known) (Some got_cell)
      (filled_says program.table checked.table c.frame k.whole.parts (here c) k.context seated p u n)

  amid_filled : is_tested (tested_places outer) (field n) ≡ false
      → Amid program.table c k.whole.parts outer filled (put known_handed (field n) (Some got_known))
  amid_filled untested = amid_field program checked entry beginning c k n d declared there outer handed known_handed
      got_cell got_known amid_handed
      (ap kind_of_resolved (declared_type body n d declared)) got_stood got_says untested

  still_there : available body n (state_number (own_object handed).state) ≡ true
  still_there = available_is body n (own_object handed).state
      ∙ has_field_from k.whole.parts.own (own_object handed).state n d declared
      (ap (λ s. is_available s d) (own_state (here c) handed handed_written.stays) ∙ there)

  -- what the field had owned no object that must have an owner
  lost_none : is_owned_asset program.table (known_handed (field n)) ≡ false → (m : ℕ)
      → NeedsOwner program.table filled.world.objects m
      → in_cell owns m (cell_at handed (field n)) ≡ 0
  lost_none none m needs = no_asset program.table checked.table handed.world.objects (known_handed (field n))
      (cell_at handed (field n))
      (λ z e. amid_handed.sits.fields n z e) (amid_handed.sits.says.fields n still_there refl) none m
      (needs_stay program.table handed filled then_written.stays m needs)

  pub fill_done : (rest : SilicaTerms) → is_tested (tested_places outer) (field n) ≡ false
      → is_owned_asset program.table (known_handed (field n)) ≡ false
      → Remains body k.holdings (put known_handed (field n) (Some got_known)) rest outer
      → IsCoherent program.table entry beginning (moved c filled rest outer)
  fill_done rest untested none remains =
      form_done program.table checked.table entry beginning c k terms outer so filled
      (put known_handed (field n) (Some got_known)) rest k.holdings (amid_filled untested)
      (record {
        fewer = λ m. let a = counts_filled m in let b = counts_handed m in
            let z = given_fewer m u.cell got_cell wanted refl had_owner got_owns in omega (arith, a, b, z);
        keeps_owner = λ m needs. let a = counts_filled m in let b = counts_handed m in let l = lost_none none m needs in
            let z = given_same m u.cell got_cell wanted refl had_owner got_owns (λ e. not_given m e needs) in
            omega (arith, a, b, z, l);
        newly_shared = newly rest;
        newly_disowned = λ m e f. absurd (both_ways _ e (sym (hand_disowns_none declared_as p u.cell (here c) m)
            ∙ sym ((field_marks n got_cell handed).disowned m) ∙ f));
        shares = λ j x y le e f s. kept_shares (λ m. owners m (moved c filled rest outer)) x (handed.slots j) y
            (carry_arguments (λ m. owners m (moved c filled rest outer))
            (here c) handed p u.cell remaining handed_written u.is
            (λ z. ⊎_elim (λ was. inl was) (λ w. was_or_gone rest w) (kept_is_shared u.cell.note.permission wanted z)) j
            x e) f s;
        unreferred = λ m has.
            let a = here_field any m n got_cell handed
            (low_field program checked entry beginning c k n d declared there) amid_handed.sits.frame.there in
            let b = hand_refers declared_as p (here c)
            (low_place program checked entry beginning c k p inside other u) k.whole.frame.there u.cell u.is m in
            let z = cell_other any m got_cell (made_unreferred program.table checked.table entry beginning c k p inside
            other u.cell u.is m has) in
            omega (arith, a, b, z);
      })
      (held_noted k.holdings (here c) handed p u.cell remaining handed_written u.is k.held)
      remains

module _ (program : SilicaProgram) (checked : IsCheckedProgram program) (entry : Option ℕ) (beginning : Beginning)
    (c : Configuration)
    (k : IsRunning program.table entry beginning c) (span : Span) (rest : SilicaTerms) (outer : List Rest) where
  pub move_field_keeps : (id : FieldId) (from : Operand) (contract : Option ContractId)
      → c.control ≡ runs (and_term (move_form (FieldPlace id) from contract) span rest) outer
      → StepsSo program.table entry beginning (act program (move_form (FieldPlace id) from contract) rest outer c)
  move_field_keeps id from (Some contract) so = absurd
      (formed program checked entry beginning c k (move_form (FieldPlace id) from (Some contract)) span rest outer
      so).kinds.1
  move_field_keeps id from None so =
      let form = move_form (FieldPlace id) from None in
      let b = body_of program.table c.frame k.whole.parts in
      let w = formed program checked entry beginning c k form span rest outer so in
      let fw = few program checked entry beginning c k form span rest outer so in
      let ps = (first program checked entry beginning c k form span rest outer so).passes in
      let used = fill_used b (tested_places outer) k.context id.0 (located from)
      (permission_of_type (type_of_field b id.0)) ps.0.fills.serves in
      let u = operand_found program checked entry beginning c k from used.readable in
      let f = field_now program.table checked.table c.frame k.whole.parts (here c) k.context
      (sits program.table checked.table entry beginning c k) id.0 ps.0.reached in
      let same = declared_type b id.0 f.0 f.1 in
      let has = if_there_so (option_map (λ (x : Field). kind_of_resolved x.of) (field_at k.whole.parts.own id))
      (λ kind. HasKind (static_of b) k.holdings kind from) (kind_of_resolved f.0.of)
      (ap (option_map (λ (x : Field). kind_of_resolved x.of)) f.1) w.kinds.1 in
      let r = there_is _ _ has in
      let is = operand_kind program checked entry beginning c k from used.readable r.0 r.1 in
      let serves : serves_as program.table (kind_of_resolved (type_of_field b id.0)) u.cell.note.kind ≡ true =
      ap (λ o. serves_as program.table (kind_of_resolved o) u.cell.note.kind) same
      ∙ ap (serves_as program.table (kind_of_resolved f.0.of)) is ∙ r.2 in
      rw (
        operand_read program checked entry beginning c k from used.readable,
        field_found program checked entry
            beginning c k id.0 f.0 f.1 f.2,
      )
      (subst (λ o. IsCoherent program.table entry beginning
      (moved c (set_field id.0 (got_from program.table o (here c) (located from) u.cell)
      (hand o (located from) u.cell (here c))) rest outer)) same
      (fill_done program checked entry beginning c k id.0 f.0 f.1 f.2 (located from)
      (place_inside b from.place (bound_second 0 (slots_of_operand from) k.whole.parts.slots fw) w.numbers.1)
      (used_other program checked entry beginning c k (located from) used) u serves
      (and_term form span rest) outer so ps.0.fills.serves
      rest ps.0.to_untested ps.0.overwrites_none
      (after program checked entry beginning c k form span rest outer so _ ps.1)))
