-- A reference is moved to a slot of the frame's own; ownership is given up.
use Rattle.std.proofs.Common.{◌≡◌, ◌≢◌, ℕ, ◌+◌, ◌<◌, ◌≤◌, true, false, List, length, Option, Some, None, refl, sym, ap, ◌∙◌, subst, arith, true≢false, ◌⊎◌, inl, ⊎_elim}
use Rattle.std.proofs.lemmas.Bool.{both_ways, and_left}
use Rattle.std.proofs.lemmas.Bool.Decides.{eqb_tells}
use Rattle.std.proofs.lemmas.Option.{same_Some}
use Rattle.ob_base.specs.declared.fault.Span.{Span}
use Rattle.ob_base.specs.declared.id.ContractId.{ContractId}
use Rattle.ob_perm.specs.Permissions.{Permission, owned, shared, unowned, owns, kept}
use Rattle.ob_table.specs.Tables.{ClassTable}
use Rattle.ob_table.specs.declared.seen.Kind.{Kind}
use Rattle.ob_table.specs.declared.seen.Kind.TheVariants.{Int, Bool as BoolKind, Text, Reference}
use Rattle.ob_table_spec.specs.WellFormed.{is_reference, serves_as}
use Rattle.ob_heap_spec.specs.Values.{Value, reference, int_value, bool_value, text_value}
use Rattle.ob_heap_spec.specs.Objects.{Object}
use Rattle.ob_heap_spec.specs.Worlds.{World}
use Rattle.ob_heap_spec.specs.Marks.{mark_disowned}
use Rattle.ob_silica.specs.Slots.{slots_of_operand}
use Rattle.ob_silica.specs.Terms.{SilicaTerms, move_form, disown_form, and_term}
use Rattle.ob_silica.specs.declared.place.Operand.{Operand}
use Rattle.ob_silica.specs.declared.place.Place.TheVariants.{Slot}
use Rattle.ob_silica_places.specs.Converting.{converted}
use Rattle.ob_silica_places.specs.Known.{Known, known}
use Rattle.ob_silica_places.specs.Places.{Location, slot, field, this, located}
use Rattle.ob_silica_steps.specs.Cells.{Cell, cell, noted}
use Rattle.ob_silica_steps.specs.Configurations.{SilicaProgram, by_new, Rest, runs, Configuration}
use Rattle.ob_silica_steps.specs.Here.{Here, here, self_of, set_slot, set_permission, counted as counts_as}
use Rattle.ob_silica_steps.specs.Steps.{act}
use Rattle.ob_silica_formed.specs.Holdings.{held, with_slot}
use Rattle.ob_flow_spec.specs.Contexts.{BodyFrame, Context, put, now, with_permission, permission_at, counted, is_asset, is_owned_asset, is_tested}
use Rattle.ob_flow_spec.specs.Uses.{kind_known}
use Rattle.ob_flow_laws.specs.Uses.{CanUse}
use Rattle.ob_places_laws.specs.Serving.{Allows}
use Rattle.ob_places_laws.proofs.Tables.{there_is}
use Rattle.ob_places_laws.proofs.Serves.{allows_owner}
use Rattle.ob_coherent_spec.specs.Counting.{nth_object, Counted, any, in_cell, owners}
use Rattle.ob_coherent_spec.specs.Runs.{tested_places}
use Rattle.ob_coherent_spec.specs.Standing.{Stands, IsOfKind, NeedsOwner}
use Rattle.ob_coherent_spec.specs.Remaining.{IsCheckedProgram, body_of, IsPlaceIn, Remains}
use Rattle.ob_coherent_spec.specs.Coherent.{Beginning, IsRunning, IsCoherent, StepsSo}
use Rattle.ob_soundness_laws.proofs.counting.Cells.{cell_other, cell_counted}
use Rattle.ob_soundness_laws.proofs.counting.Low.{place_low}
use Rattle.ob_soundness_laws.proofs.counting.Permitting.{permission_counts, permission_refers}
use Rattle.ob_soundness_laws.proofs.counting.Marking.{mark_disowned_keeps}
use Rattle.ob_soundness_laws.proofs.counting.Writing.{IsLow, in_here, here_kept}
use Rattle.ob_soundness_laws.specs.frames.Steps.{moved, KeepsArgument}
use Rattle.ob_soundness_laws.proofs.frames.Cells.{reference_there}
use Rattle.ob_soundness_laws.specs.places.Placed.{Found, Sits, Written, cell_at}
use Rattle.ob_soundness_laws.proofs.places.Objects.{at_other, mark_disowned_other, mark_disowned_sets, mark_disowned_marks}
use Rattle.ob_soundness_laws.proofs.places.Reading.{place_is}
use Rattle.ob_soundness_laws.proofs.places.Writing.{permission_written, permission_marks, disown_written, disown_shares_none, permission_world, marks_same_cells}
use Rattle.ob_soundness_laws.proofs.places.Standing.{stands_stay, needs_stay, says_of_less}
use Rattle.ob_soundness_laws.proofs.places.Keeping.{put_that, put_other}
use Rattle.ob_soundness_laws.proofs.places.Finding.{counts_is, counted_allows}
use Rattle.ob_soundness_laws.proofs.places.Carrying.{whole_is_shared, carry_counted, carry_disowned, carry_opens, carry_kept, spares}
use Rattle.ob_soundness_laws.proofs.places.Getting.{objects_low, got_stands}
use Rattle.ob_soundness_laws.proofs.places.Handing.{moved_says, hands_on, carry_arguments}
use Rattle.ob_soundness_laws.proofs.places.Holding.{held_of_kind, held_noted, held_set}
use Rattle.ob_soundness_laws.proofs.tests.Operands.{place_inside}
use Rattle.ob_soundness_laws.proofs.tests.Finding.{stands_at}
use Rattle.ob_soundness_laws.proofs.forms.Amid.{Amid, sits, counted_all, form_done}
use Rattle.ob_soundness_laws.proofs.forms.Slots.{no_asset, amid_slot, counts_slot}
use Rattle.ob_soundness_laws.proofs.forms.Referring.{made_unreferred}
use Rattle.ob_soundness_laws.proofs.forms.Straight.{bound_first, bound_second, first, formed, few, after, operand_found, operand_read, operand_stands, operand_kind}

-- what is left of a place once what counts of it was given owns no asset
not_owned : (table : ClassTable) (w : Permission) (y : Option Known) → owns w ≡ false
    → is_owned_asset table (with_permission w y) ≡ false
not_owned table w None e = refl
not_owned table w (Some y) e = and_left (owns w) (is_asset table y.kind) e

kept_itself : (p : Permission) → owns (kept p p) ≡ false
kept_itself (owned a) = refl
kept_itself shared = refl
kept_itself unowned = refl

left_none : (table : ClassTable) (g : Context) (p : Location) (n : ℕ) → is_owned_asset table (g (slot n)) ≡ false
    → is_owned_asset table (now g p (kept (permission_at g p) (counted g p)) (slot n)) ≡ false
left_none table g (field f) n e = e
left_none table g (slot m) n e = ⊎_elim
    (λ i. ap (is_owned_asset table) (put_that g (slot m)
    (with_permission (kept (permission_at g (slot m)) (permission_at g (slot m))) (g (slot m))) (slot n) i)
    ∙ not_owned table (kept (permission_at g (slot m)) (permission_at g (slot m))) (g (slot m))
    (kept_itself (permission_at g (slot m))))
    (λ i. ap (is_owned_asset table) (put_other g (slot m)
    (with_permission (kept (permission_at g (slot m)) (permission_at g (slot m))) (g (slot m))) (slot n) i) ∙ e)
    (place_is (slot n) (slot m))

-- a value of a reference's kind refers to an object
pub kind_refers : (table : ClassTable) (objects : List Object) (kind : Kind) (v : Value) → is_reference kind ≡ true
    → IsOfKind table objects kind v
    → (n : ℕ) × (v ≡ reference n)
kind_refers table objects (Reference id) (reference n) e is = (n, refl)
kind_refers table objects (Reference id) (int_value z) e is = absurd is
kind_refers table objects (Reference id) (bool_value z) e is = absurd is
kind_refers table objects (Reference id) (text_value z) e is = absurd is
kind_refers table objects Int v e is = absurd (true≢false (sym e))
kind_refers table objects BoolKind v e is = absurd (true≢false (sym e))
kind_refers table objects Text v e is = absurd (true≢false (sym e))

-- what is said of an argument that is kept
pub kept_shares : (left : ℕ → ℕ) (x : Cell) (o : Option Cell) (y : Cell) → KeepsArgument left x o → o ≡ Some y
    → y.note.permission ≡ shared
    → (x.note.permission ≡ shared) ⊎ ((n : ℕ) → x.value ≡ reference n → left n ≡ 0)
kept_shares left x None y a e is = absurd a
kept_shares left x (Some z) y a e is = a.2 (ap (λ (w : Cell). w.note.permission) (same_Some z y e) ∙ is)

module _ (program : SilicaProgram) (checked : IsCheckedProgram program) (entry : Option ℕ) (beginning : Beginning)
    (c : Configuration)
    (k : IsRunning program.table entry beginning c) where
  -- the frame sits so
  abbrev seated : Sits program.table c.frame k.whole.parts (here c) k.context
  seated = sits program.table checked.table entry beginning c k

  -- the body that the frame runs
  abbrev body : BodyFrame
  body = body_of program.table c.frame k.whole.parts

  -- a place that can be used isn't `this` of a constructor
  pub used_other : (p : Location) → CanUse body k.context p → c.frame.how ≡ by_new → p ≢ this
  used_other p can = spares program.table checked.table c.frame k.whole.parts
      (here c) k.context seated p can.spares_this

  module _ (p : Location) (inside : IsPlaceIn body p) (other : c.frame.how ≡ by_new → p ≢ this)
      (u : Found (NeedsOwner program.table c.world.objects) (k.context p) (cell_at (here c) p)) where
    pub low_place : IsLow p
    low_place = place_low program.table checked.table c.world.objects c.frame k.whole.parts k.whole.frame p inside

    pub is_counted : (counts_as (here c) p u.cell ≡ u.cell.note.permission) ⊎ (counts_as (here c) p u.cell ≡ unowned)
    is_counted = counts_is (here c) p u.cell

    pub allowed : Allows (counted k.context p) (counts_as (here c) p u.cell)
    allowed = counted_allows program.table checked.table c.frame k.whole.parts (here c) k.context seated p u

    -- where the place counts as an owner by the rules, it owns
    pub is_owner : owns (counted k.context p) ≡ true → owns u.cell.note.permission ≡ true
    is_owner e =
        let d = allows_owner (counted k.context p) (counts_as (here c) p u.cell) allowed e in
        ⊎_elim (λ i. ap owns (sym i) ∙ d) (λ i. absurd (true≢false (sym d ∙ ap owns i))) is_counted

    module _ (terms : SilicaTerms) (outer : List Rest) (so : c.control ≡ runs terms outer) where
      -- the place has another permission
      pub amid_noted : (h : Here) (q w : Permission) → Written p (Some (noted q u.cell)) (here c) h
          → Sits program.table c.frame k.whole.parts h (now k.context p w)
          → Amid program.table c k.whole.parts outer h (now k.context p w)
      amid_noted h q w wr s = record {
        stays = wr.stays;
        sits = s;
        opens = carry_opens program.table checked.table c.frame k.whole.parts (here c) k.context seated h p q
            (now k.context p w) u outer wr s;
        arguments = carry_kept program.table checked.table c.frame k.whole.parts (here c) k.context seated h p q u
            (length k.whole.parts.signature.params) wr;
      }

      module _ (n : ℕ) (low : length k.whole.parts.signature.params < n) (inside_slot : n < k.whole.parts.slots)
          (id : ContractId) where
        -- what counts of the place is given to the slot
        abbrev pub left_over : Here
        left_over = set_permission p (kept u.cell.note.permission (counts_as (here c) p u.cell)) (here c)

        abbrev pub known_left : Context
        known_left = now k.context p (kept (permission_at k.context p) (counted k.context p))

        abbrev pub got_cell : Cell
        got_cell = cell u.cell.value (Reference id)
            (converted program.table u.cell.note.kind (Reference id) (counts_as (here c) p u.cell))

        abbrev pub got_known : Known
        got_known = known (Reference id) (converted program.table (kind_known (k.context p)) (Reference id)
            (counted k.context p))

        left_written : Written p (Some (noted (kept u.cell.note.permission (counts_as (here c) p u.cell)) u.cell))
            (here c) left_over
        left_written = permission_written p (kept u.cell.note.permission (counts_as (here c) p u.cell)) u.cell
            (here c) u.is

        amid_left : Amid program.table c k.whole.parts outer left_over known_left
        amid_left = amid_noted left_over (kept u.cell.note.permission (counts_as (here c) p u.cell))
            (kept (permission_at k.context p) (counted k.context p)) left_written
            (carry_counted program.table checked.table c.frame k.whole.parts (here c) k.context seated p inside u other)

        got_amid : serves_as program.table (Reference id) u.cell.note.kind ≡ true
            → is_tested (tested_places outer) (slot n) ≡ false
            → Amid program.table c k.whole.parts outer (set_slot n (Some got_cell) left_over)
            (put known_left (slot n) (Some got_known))
        got_amid serves untested = amid_slot program.table checked.table entry beginning c k n low inside_slot outer
            left_over known_left (Some got_cell) (Some got_known) amid_left untested
            (λ z e. subst (Stands program.table left_over.world.objects) (same_Some got_cell z e)
            (stands_stay program.table (here c) left_over left_written.stays got_cell
            (got_stands program.table checked.table c.world.objects u.cell (counts_as (here c) p u.cell) (Reference id)
            (objects_low program.table checked.table c.notes c.world.objects k.whole.objects) serves is_counted
            (stands_at program.table checked.table entry beginning c k p u.cell u.is))))
            (says_of_less (NeedsOwner program.table c.world.objects) (NeedsOwner program.table left_over.world.objects)
            (needs_stay program.table (here c) left_over left_written.stays) (Some got_known) (Some got_cell)
            (moved_says program.table checked.table c.frame k.whole.parts (here c) k.context seated p u (Reference id)))

        counts_on : (m : ℕ) → in_here owns m (set_slot n (Some got_cell) left_over)
            + in_cell owns m (left_over.slots n) ≡ in_here owns m (here c)
        counts_on m =
            let a = counts_slot program.table checked.table entry beginning c k n low inside_slot owns m
            (Some got_cell) left_over in
            let b = permission_counts p (kept u.cell.note.permission (counts_as (here c) p u.cell))
            (here c) low_place k.whole.frame.there u.cell u.is owns m in
            let d = hands_on program.table m u.cell (counts_as (here c) p u.cell) (Reference id) is_counted in
            omega (arith, a, b, d)

        slot_kept : (rest : SilicaTerms) (j : ℕ) (x y : Cell) → j ≤ length k.whole.parts.signature.params
            → c.frame.slots j ≡ Some x
            → (set_slot n (Some got_cell) left_over).slots j ≡ Some y → y.note.permission ≡ shared
            → (x.note.permission ≡ shared) ⊎ ((m : ℕ) → x.value ≡ reference m
            → owners m (moved c (set_slot n (Some got_cell) left_over) rest outer) ≡ 0)
        slot_kept rest j x y le e d is = kept_shares
            (λ m. owners m (moved c (set_slot n (Some got_cell) left_over) rest outer)) x (left_over.slots j) y
            (carry_arguments (λ m. owners m (moved c (set_slot n (Some got_cell) left_over) rest outer))
            (here c) left_over p u.cell
            (kept u.cell.note.permission (counts_as (here c) p u.cell)) left_written u.is
            (λ s. inl (whole_is_shared u.cell.note.permission (counts_as (here c) p u.cell) is_counted s)) j x e)
            (sym (at_other left_over.slots n (Some got_cell) j (λ z. omega (arith, le, low, z))) ∙ d) is

        pub move_done : (rest : SilicaTerms) → serves_as program.table (Reference id) u.cell.note.kind ≡ true
            → is_tested (tested_places outer) (slot n) ≡ false
            → is_owned_asset program.table (k.context (slot n)) ≡ false
            → Remains body (with_slot n (held (Some (Reference id))) k.holdings)
            (put known_left (slot n) (Some got_known)) rest outer
            → IsCoherent program.table entry beginning (moved c (set_slot n (Some got_cell) left_over) rest outer)
        move_done rest serves untested none remains =
            form_done program.table checked.table entry beginning c k terms outer so
            (set_slot n (Some got_cell) left_over) (put known_left (slot n) (Some got_known)) rest
            (with_slot n (held (Some (Reference id))) k.holdings) (got_amid serves untested)
            (record {
              fewer = λ m. let e = counts_on m in omega (arith, e);
              keeps_owner = λ m needs. let e = counts_on m in
                  let z = no_asset program.table checked.table left_over.world.objects (known_left (slot n))
                  (left_over.slots n) (λ y d. amid_left.sits.slots n y d)
                  (amid_left.sits.says.slots n refl) (left_none program.table k.context p n none) m needs in
                  omega (arith, e, z);
              newly_shared = λ m e d. absurd (both_ways _ e
                  (sym ((permission_marks p (kept u.cell.note.permission (counts_as (here c) p u.cell))
                  (here c)).shared m) ∙ d));
              newly_disowned = λ m e d. absurd (both_ways _ e
                  (sym ((permission_marks p (kept u.cell.note.permission (counts_as (here c) p u.cell))
                  (here c)).disowned m) ∙ d));
              shares = slot_kept rest;
              unreferred = λ m has.
                  let a = counts_slot program.table checked.table entry beginning c k n low inside_slot any m
                  (Some got_cell) left_over in
                  let b = permission_refers p (kept u.cell.note.permission (counts_as (here c) p u.cell))
                  (here c) low_place k.whole.frame.there u.cell u.is m in
                  let d = cell_other any m got_cell
                  (made_unreferred program.table checked.table entry beginning c k p inside other u.cell u.is m has) in
                  omega (arith, a, b, d);
            })
            (held_set k.holdings left_over.slots n got_cell (held (Some (Reference id)))
            (held_of_kind (Reference id) got_cell refl)
            (held_noted k.holdings (here c) left_over p u.cell
            (kept u.cell.note.permission (counts_as (here c) p u.cell)) left_written u.is k.held))
            remains

      -- Ownership of a place is given up.
      module _ (n : ℕ) (refers : u.cell.value ≡ reference n) where
        abbrev pub marked_here : Here
        marked_here = record (here c) { world = mark_disowned n c.world }

        abbrev pub given_up : Here
        given_up = set_permission p unowned marked_here

        up_written : Written p (Some (noted unowned u.cell)) (here c) given_up
        up_written = disown_written n p u.cell (here c) u.is

        counts_up : (counts : Counted) (m : ℕ) → in_here counts m given_up + in_cell counts m (Some u.cell)
            ≡ in_here counts m (here c) + in_cell counts m (Some (noted unowned u.cell))
        counts_up counts m =
            let a = here_kept counts m (here c) (mark_disowned n c.world) (mark_disowned_keeps n c.world) in
            let b = permission_counts p unowned marked_here low_place
            (subst (λ j. self_of c.frame.slots < j) (sym (mark_disowned_keeps n c.world).count) k.whole.frame.there)
            u.cell
            ((marks_same_cells (here c) (mark_disowned n c.world) (mark_disowned_marks n c.world)).same p ∙ u.is)
            counts m in
            omega (arith, a, b)

        none_up : (m : ℕ) → in_cell owns m (Some (noted unowned u.cell)) ≡ 0
        none_up m = refl

        object_there : n < length c.world.objects
        object_there = reference_there program.table c.world.objects u.cell.note.kind u.cell.value n
            (stands_at program.table checked.table entry beginning c k p u.cell u.is).kind refers

        is_marked : (nth_object given_up.world.objects n).disowned ≡ true
        is_marked = ap (λ (w : World). (nth_object w.objects n).disowned) (permission_world p unowned marked_here)
            ∙ mark_disowned_sets n c.world object_there

        other_kept : (m : ℕ) → m ≢ n → (nth_object given_up.world.objects m).disowned
            ≡ (nth_object c.world.objects m).disowned
        other_kept m ne = ap (λ (w : World). (nth_object w.objects m).disowned)
            (permission_world p unowned marked_here)
            ∙ ap (λ (o : Object). o.disowned) (mark_disowned_other n c.world m ne)

        reference_same : (m : ℕ) → reference n ≡ reference m → n ≡ m
        reference_same m e = cc

        pub disown_done : (rest : SilicaTerms) → owns (counted k.context p) ≡ true
            → Remains body k.holdings (now k.context p unowned) rest outer
            → IsCoherent program.table entry beginning (moved c given_up rest outer)
        disown_done rest owner remains =
            form_done program.table checked.table entry beginning c k terms outer so given_up
            (now k.context p unowned) rest k.holdings
            (amid_noted given_up unowned unowned up_written
            (carry_disowned program.table checked.table c.frame k.whole.parts
            (here c) k.context seated given_up p inside u up_written other))
            (record {
              fewer = λ m. let e = counts_up owns m in let z = none_up m in omega (arith, e, z);
              keeps_owner = λ m needs. let e = counts_up owns m in
                  let z = cell_other owns m u.cell (λ is. both_ways _ needs.kept
                  (subst (λ j. (nth_object given_up.world.objects j).disowned ≡ true)
                  (reference_same m (sym refers ∙ is)) is_marked)) in omega (arith, e, z);
              newly_shared = λ m e d. absurd (both_ways _ e (sym (disown_shares_none n p (here c) m) ∙ d));
              newly_disowned = λ m e d. ⊎_elim
                  (λ i. let a = counts_up owns m in let z = none_up m in
                  let one = k.whole.one_owner m in
                  let all = counted_all program.table checked.table entry beginning c k terms outer so owns m given_up
                  rest up_written.stays in
                  let had = cell_counted owns m u.cell (is_owner owner) (refers ∙ ap reference (sym i.1)) in
                  omega (arith, a, z, one, all, had))
                  (λ i. absurd (both_ways _ e (sym (other_kept m i.1) ∙ d)))
                  (eqb_tells m n);
              shares = λ j x y le e d is. kept_shares (λ m. owners m (moved c given_up rest outer)) x
                  (given_up.slots j) y
                  (carry_arguments (λ m. owners m (moved c given_up rest outer))
                  (here c) given_up p u.cell unowned up_written u.is
                  (λ s. absurd (let t : unowned ≡ shared = s in cc)) j x e) d is;
              unreferred = λ m has. let e = counts_up any m in omega (arith, e);
            })
            (held_noted k.holdings (here c) given_up p u.cell unowned up_written u.is k.held) remains

  -- The forms.
  module _ (span : Span) (rest : SilicaTerms) (outer : List Rest) where
    pub move_slot_keeps : (n : ℕ) (from : Operand) (contract : Option ContractId)
        → c.control ≡ runs (and_term (move_form (Slot n) from contract) span rest) outer
        → StepsSo program.table entry beginning (act program (move_form (Slot n) from contract) rest outer c)
    move_slot_keeps n from None so = absurd (formed program checked entry beginning c k
        (move_form (Slot n) from None) span rest outer so).kinds.1
    move_slot_keeps n from (Some id) so =
        let form = move_form (Slot n) from (Some id) in
        let w = formed program checked entry beginning c k form span rest outer so in
        let f = few program checked entry beginning c k form span rest outer so in
        let ps = (first program checked entry beginning c k form span rest outer so).passes in
        let u = operand_found program checked entry beginning c k from ps.0.usable.readable in
        let r = there_is _ _ w.kinds.1 in
        rw (operand_read program checked entry beginning c k from ps.0.usable.readable)
        (move_done (located from)
        (place_inside body from.place (bound_second (n + 1) (slots_of_operand from) k.whole.parts.slots f) w.numbers.1)
        (used_other (located from) ps.0.usable) u (and_term form span rest) outer so n w.params
        (bound_first (n + 1) (slots_of_operand from) n k.whole.parts.slots f (omega arith)) id rest
        (subst (λ z. serves_as program.table (Reference id) z ≡ true)
        (sym (operand_kind program checked entry beginning c k from ps.0.usable.readable r.0 r.1)) r.2)
        ps.0.to_untested ps.0.overwrites_none
        (after program checked entry beginning c k form span rest outer so _ ps.1))

    pub disown_keeps : (o : Operand) → c.control ≡ runs (and_term (disown_form o) span rest) outer
        → StepsSo program.table entry beginning (act program (disown_form o) rest outer c)
    disown_keeps o so =
        let form = disown_form o in
        let w = formed program checked entry beginning c k form span rest outer so in
        let f = few program checked entry beginning c k form span rest outer so in
        let ps = (first program checked entry beginning c k form span rest outer so).passes in
        let u = operand_found program checked entry beginning c k o ps.0.usable.readable in
        let r = there_is _ _ w.kinds in
        let is = kind_refers program.table c.world.objects u.cell.note.kind u.cell.value
        (ap is_reference (operand_kind program checked entry beginning c k o ps.0.usable.readable r.0 r.1) ∙ r.2)
        (operand_stands program checked entry beginning c k o ps.0.usable.readable).kind in
        rw (operand_read program checked entry beginning c k o ps.0.usable.readable, is.1)
        (disown_done (located o) (place_inside body o.place f w.numbers) (used_other (located o) ps.0.usable) u
        (and_term form span rest) outer so is.0 is.1 rest ps.0.owner
        (after program checked entry beginning c k form span rest outer so _ ps.1))
