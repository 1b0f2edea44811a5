-- The step of a change of state.
use Rattle.std.proofs.Common.{◌≡◌, ℕ, suc, ◌≤◌, Bool, true, false, List, [], ◌∷◌, Option, Some, None, Ok, refl, sym, ap, subst, ◌∙◌, arith, ⊎_elim, inl, Contains, true≢false}
use Rattle.std.specs.Prelude.{max, slice_get, if◌then◌else◌}
use Rattle.std.proofs.lemmas.Bool.{both_ways, or_cases}
use Rattle.std.proofs.lemmas.Option.{same_Some, none-some}
use Rattle.ob_base.specs.declared.fault.Span.{Span}
use Rattle.ob_base.specs.declared.id.StateId.{StateId}
use Rattle.ob_perm.specs.Permissions.{shared, owns}
use Rattle.ob_table.specs.Tables.{ClassTable}
use Rattle.ob_table.specs.declared.contract.Field.{Field}
use Rattle.ob_table_spec.specs.Conditions.{IsClassTable}
use Rattle.ob_table_spec.specs.WellFormed.{kind_of_resolved, serves_as}
use Rattle.ob_heap_spec.specs.Values.{nothing}
use Rattle.ob_heap_spec.specs.Objects.{has_field}
use Rattle.ob_heap_spec.specs.Worlds.{by_state}
use Rattle.ob_silica.specs.Slots.{slots_of_operand, slots_of_given}
use Rattle.ob_silica.specs.Terms.{SilicaTerms, change_form, and_term}
use Rattle.ob_silica.specs.declared.place.Given.{Given}
use Rattle.ob_silica_places.specs.Places.{Location, field, same_location}
use Rattle.ob_silica_steps.specs.Cells.{Cell}
use Rattle.ob_silica_steps.specs.Configurations.{SilicaProgram, Ends, plain_end, test_end, lock_end, loop_end, Rest, runs, Configuration, abort_step, stuck}
use Rattle.ob_silica_steps.specs.Here.{Here, here, self_of, if_there}
use Rattle.ob_silica_steps.specs.Changing.{all_there, fill_all, is_locked_out, change_with, change_step}
use Rattle.ob_silica_steps.specs.Steps.{act}
use Rattle.ob_silica_formed.specs.Points.{AreFields, AreServed, HasKind}
use Rattle.ob_flow_spec.specs.Contexts.{BodyFrame, Context, available, maybe_there, owns_asset, TestedPlaces, is_tested, static_of}
use Rattle.ob_flow_spec.specs.Changing.{filled_all, refilled, after_change}
use Rattle.ob_flow_laws.specs.Changing.{CanChange}
use Rattle.ob_places_laws.proofs.Tables.{there_is, if_there_so}
use Rattle.ob_coherent_spec.specs.Counting.{Counted, any, fields_counted}
use Rattle.ob_coherent_spec.specs.Runs.{tested_places, tested_before}
use Rattle.ob_coherent_spec.specs.Remaining.{IsCheckedProgram, IsWellFormedForm, IsPlaceIn, KnowsThis, Remains, body_of}
use Rattle.ob_coherent_spec.specs.OpenTests.{IsOpen, AreOpen}
use Rattle.ob_coherent_spec.specs.Coherent.{Beginning, IsRunning, StepsSo}
use Rattle.ob_soundness_laws.proofs.counting.Sums.{sum_zero}
use Rattle.ob_soundness_laws.proofs.places.Reading.{place_is, available_is}
use Rattle.ob_soundness_laws.proofs.places.Writing.{stays_itself}
use Rattle.ob_soundness_laws.proofs.remaining.Knowing.{KnowsIf, form_knows}
use Rattle.ob_soundness_laws.proofs.remaining.Remaining.{IsFirst, first_formed, first_slots, first_passes, rest_remains}
use Rattle.ob_soundness_laws.proofs.tests.Operands.{place_inside, kind_found}
use Rattle.ob_soundness_laws.proofs.tests.Unchanged.{remains_so, opens_so}
use Rattle.ob_soundness_laws.proofs.calls.Running.{running_sits}
use Rattle.ob_soundness_laws.specs.changes.Fills.{in_cells, Fills, CanTakeAll}
use Rattle.ob_soundness_laws.proofs.changes.Filling.{has_field_at}
use Rattle.ob_soundness_laws.proofs.changes.FillingAll.{once_from, none_at_first, AllFilled, fill_all_so}
use Rattle.ob_soundness_laws.proofs.changes.Changed.{change_so, held_after}

-- Places under test lie in the body.

inside_before : (b : BodyFrame) (h : Here) (ends : Ends) (ps : List Location) (p : Location) → IsOpen b h ends
    → (is_tested ps p ≡ true → IsPlaceIn b p) → is_tested (tested_before ends ps) p ≡ true → IsPlaceIn b p
inside_before b h plain_end ps p o more e = more e
inside_before b h (test_end q) ps p o more e = ⊎_elim
    (λ same. ⊎_elim (λ i. subst (IsPlaceIn b) (sym i) o.1.inside) (λ i. absurd (both_ways _ i same)) (place_is p q))
    more (or_cases (same_location p q) (is_tested ps p) e)
inside_before b h (lock_end q n) ps p o more e = ⊎_elim
    (λ same. ⊎_elim (λ i. subst (IsPlaceIn b) (sym i) o.1.inside) (λ i. absurd (both_ways _ i same)) (place_is p q))
    more (or_cases (same_location p q) (is_tested ps p) e)
inside_before b h (loop_end first x body end) ps p o more e = more e

tested_inside : (b : BodyFrame) (h : Here) (outer : List Rest) (p : Location) → AreOpen b h outer
    → is_tested (tested_places outer) p ≡ true → IsPlaceIn b p
tested_inside b h [] p o e = absurd (true≢false (sym e))
tested_inside b h (r ∷ outer) p o e =
    inside_before b h r.ends (tested_places outer) p o.0 (tested_inside b h outer p o.2) e

bound_first : (m n k : ℕ) → max m n ≤ k → m ≤ k
bound_first m n k h = omega (arith, h)

bound_second : (m n k : ℕ) → max m n ≤ k → n ≤ k
bound_second m n k h = omega (arith, h)

module _ (table : ClassTable) (made : IsClassTable table) (entry : Option ℕ) (beginning : Beginning) (c : Configuration)
    (k : IsRunning table entry beginning c) (s : StateId) where
  abbrev body : BodyFrame
  body = body_of table c.frame k.whole.parts

  -- each given place can be given to its field
  take_all : (xs : List Given) → slots_of_given xs ≤ k.whole.parts.slots
      → AreFields (static_of body) xs
      → AreServed (static_of body) k.holdings xs
      → ((x : Given) → Contains xs x → available body x.field.0 s.0 ≡ true)
      → CanTakeAll table c k.whole.parts s xs
  take_all [] few fields served states = tt
  take_all (x ∷ xs) few fields served states =
      let has : has_field k.whole.parts.own (Some s) x.field.0 ≡ true =
      sym (available_is body x.field.0 (Some s)) ∙ states x (0, omega arith, refl) in
      let d = has_field_at table c k.whole.parts s x.field.0 has in
      let kind = there_is _ _ (if_there_so (slice_get k.whole.parts.own.fields x.field.0)
      (λ (f : Field). HasKind (static_of body) k.holdings (kind_of_resolved f.of) x.from)
      d.0 d.1 served.0) in (
        record {
          inside = place_inside body x.from.place
              (bound_first (slots_of_operand x.from) (slots_of_given xs) k.whole.parts.slots few) fields.1;
          serves = λ y e. subst (λ z. serves_as table (kind_of_resolved z) y.note.kind ≡ true) (sym d.2)
              (subst (λ z. serves_as table (kind_of_resolved d.0.of) z ≡ true)
              (sym (kind_found table made entry beginning c k x.from.place y kind.0 e kind.1)) kind.2);
          has = has;
        },
        take_all xs (bound_second (slots_of_operand x.from)
            (slots_of_given xs) k.whole.parts.slots few) fields.2 served.1
            (λ y i. states y (suc i.0, (let lt = i.1 in omega (arith, lt)), i.2)),
      )

  -- nothing is given at first
  none_given : (counts : Counted) (m : ℕ) → in_cells counts m nothing ≡ 0
  none_given counts m = sum_zero fields_counted _ (λ j lt. refl)

  begins : (ts : TestedPlaces) (xs : List Given) → CanChange body ts k.context s xs
      → (last : Context) → Fills table c k.whole.parts s last (here c) nothing k.context last
  begins ts xs can last = record {
    stays = stays_itself (here c);
    sits = running_sits table made entry beginning c k;
    alike = λ q z e. (z, e, refl, refl);
    unset = λ q e. e;
    shares = λ q x y ex ey e. inl (subst (λ (z : Cell). z.note.permission ≡ shared)
        (sym (same_Some x y (sym ex ∙ ey))) e);
    fewer = λ m. let none = none_given owns m in omega (arith, none);
    assets = λ m needs. omega arith;
    newly = λ m no yes. absurd (both_ways _ no yes);
    disowned = λ m. refl;
    refers = λ m some. let none = none_given any m in omega (arith, none);
    say = can.changes;
    cells = λ f x e. absurd (none-some x e);
    rest = λ f e. refl;
    others = λ j. refl;
  }

  module _ (xs : List Given) (span : Span) (rest : SilicaTerms) (outer : List Rest)
      (so : c.control ≡ runs (and_term (change_form s xs) span rest) outer) where
    abbrev terms : SilicaTerms
    terms = and_term (change_form s xs) span rest

    -- the context once all places were given, and after the change
    abbrev last : Context
    last = filled_all body k.context xs

    abbrev left : Context
    left = after_change body k.context s xs

    remains : Remains body k.holdings k.context terms outer
    remains = remains_so table entry beginning c k terms outer so

    first : IsFirst body k.context
        (change_form s xs) span outer
    first = first_passes body k.holdings k.context (change_form s xs) span rest outer remains

    formed : IsWellFormedForm (static_of body) k.holdings
        (change_form s xs)
    formed = first_formed body k.holdings k.context (change_form s xs) span rest outer remains

    can : CanChange body (tested_places outer) k.context s xs
    can = first.passes.0

    known_after : KnowsThis body left
    known_after = subst (KnowsIf body) first.passes.1
        (form_knows body (tested_places outer) k.holdings (change_form s xs) span k.context
        first.mid formed tt first.passes remains.itself)

    rest_left : Remains body k.holdings
        left rest outer
    rest_left = rest_remains body k.holdings k.context
        left (change_form s xs) span rest outer remains
        (first.derives ∙ ap Ok first.passes.1) known_after

    filled : AllFilled table c k.whole.parts s last (here c) nothing
        k.context last xs
    filled = fill_all_so table made entry beginning c k s (tested_places outer)
        last xs [] (here c) nothing k.context
        last
        (begins (tested_places outer) xs can last)
        can.fills
        (take_all xs
        (first_slots body k.holdings k.context (change_form s xs) span rest outer remains)
        formed.numbers.1 formed.kinds.0 can.of_state)
        (once_from xs formed.kinds.1) (none_at_first xs) can.once

    overwritten : (f : ℕ) (x : Cell) → filled.cells f ≡ Some x
        → maybe_there body last f ≡ true
        → owns_asset body last
        (field f) ≡ false
    overwritten f x e m = ⊎_elim
        (λ i. absurd (none-some x i))
        (λ i. subst (λ n. owns_asset body
        last (field n) ≡ false) i.2
        (can.overwrites_none i.0 i.1 (subst (λ n. maybe_there body
        last n ≡ true) (sym i.2) m)))
        (filled.from f x e)

    tests : (f : ℕ) → is_tested (tested_places outer) (field f) ≡ true
        → (filled.cells f ≡ None) × (has_field k.whole.parts.own (Some s) f ≡ true)
    tests f t =
        let y = can.stays f (tested_inside body (here c) outer (field f)
        (opens_so table entry beginning c k terms outer so) t) t in (
          filled.untouched f y.not_given,
          sym (available_is body f (Some s)) ∙ y.there,
        )

    -- where no lock forbids it, the state changes
    changes : is_locked_out c.frame (here c) ≡ false
        → StepsSo table entry beginning (fill_all table k.whole.parts.own s (here c) xs nothing
        (λ h got. change_with k.whole.parts.own s rest outer c h got))
    changes free = subst (StepsSo table entry beginning)
        (sym (filled.goes (λ h got. change_with k.whole.parts.own s rest outer c h got)))
        (change_so table made entry beginning c k s filled.after filled.cells
        last
        (refilled body k.context xs) filled.fills free overwritten can.loses_none
        (λ f lt av e. can.values f lt av (filled.none f e).1) formed.numbers.0
        terms rest outer so tests k.holdings
        (held_after table made entry beginning c k s filled.after filled.cells
        last
        (refilled body k.context xs) filled.fills free overwritten can.loses_none
        (λ f lt av e. can.values f lt av (filled.none f e).1) formed.numbers.0
        terms rest outer so tests)
        rest_left)

    unless_locked : (b : Bool) → is_locked_out c.frame (here c) ≡ b → StepsSo table entry beginning
        (if b then abort_step (by_state (self_of c.frame.slots) None) c.world
        else fill_all table k.whole.parts.own s (here c) xs nothing
        (λ h got. change_with k.whole.parts.own s rest outer c h got))
    unless_locked true e = tt
    unless_locked false e = changes e

    pub change_steps : StepsSo table entry beginning (change_step table s xs rest outer c)
    change_steps = subst
        (λ x. StepsSo table entry beginning (if_there x (λ own. if all_there table (here c) xs
        then (if is_locked_out c.frame (here c) then abort_step (by_state (self_of c.frame.slots) None) c.world
        else fill_all table own s (here c) xs nothing (λ h got. change_with own s rest outer c h got))
        else stuck))) (sym k.whole.frame.own)
        (subst
        (λ x. StepsSo table entry beginning (if x
        then (if is_locked_out c.frame (here c) then abort_step (by_state (self_of c.frame.slots) None) c.world
        else fill_all table k.whole.parts.own s (here c) xs nothing
        (λ h got. change_with k.whole.parts.own s rest outer c h got))
        else stuck)) (sym filled.there)
        (unless_locked (is_locked_out c.frame (here c)) refl))

-- A change of state leads to a coherent configuration, or aborts.
pub change_keeps : (program : SilicaProgram) (entry : Option ℕ) (beginning : Beginning) (c : Configuration)
    (s : StateId)
    (given : List Given) (span : Span) (rest : SilicaTerms) (outer : List Rest) → IsCheckedProgram program
    → IsRunning program.table entry beginning c
    → c.control ≡ runs (and_term (change_form s given) span rest) outer
    → StepsSo program.table entry beginning (act program (change_form s given) rest outer c)
change_keeps program entry beginning c s given span rest outer checked k so =
    change_steps program.table checked.table entry beginning c k s given span rest outer so
