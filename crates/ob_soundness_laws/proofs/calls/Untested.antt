-- The slot of a result holds no reference, so that it isn't under test.
use Rattle.std.proofs.Common.{◌≡◌, ◌≢◌, ℕ, ◌<◌, ◌≤◌, ⊎_elim, true, false, List, [], ◌∷◌, length, Option, Some, None, refl, sym, ap, ◌∙◌, subst, arith, true≢false}
use Rattle.std.specs.Prelude.{is_some, IfSome}
use Rattle.std.proofs.lemmas.Bool.{cases_Bool, both_ways, or_cases}
use Rattle.ob_table.specs.Tables.{ClassTable}
use Rattle.ob_table.specs.declared.contract.ResolvedType.{ResolvedType}
use Rattle.ob_table.specs.declared.seen.Kind.{Kind}
use Rattle.ob_table.specs.declared.seen.Kind.TheVariants.{Int, Bool as BoolKind, Text, Reference}
use Rattle.ob_table_spec.specs.Conditions.{IsClassTable}
use Rattle.ob_table_spec.specs.WellFormed.{is_reference}
use Rattle.ob_heap_spec.specs.Values.{reference}
use Rattle.ob_heap_spec.specs.Objects.{Object}
use Rattle.ob_silica.specs.Slots.{slots_of_result}
use Rattle.ob_silica_places.specs.Places.{Location, slot, same_location}
use Rattle.ob_silica_steps.specs.Cells.{Cell}
use Rattle.ob_silica_steps.specs.Configurations.{Ends, plain_end, test_end, lock_end, loop_end, Rest, Waiting, Configuration}
use Rattle.ob_silica_steps.specs.Here.{Here, here, self_of, read}
use Rattle.ob_silica_steps.specs.Binding.{Bound}
use Rattle.ob_flow_spec.specs.Contexts.{BodyFrame, Context, known_as, is_tested}
use Rattle.ob_flow_spec.specs.Binding.{with_result}
use Rattle.ob_coherent_spec.specs.Runs.{tested_places, tested_before}
use Rattle.ob_coherent_spec.specs.Standing.{Stands, IsOfKind}
use Rattle.ob_coherent_spec.specs.Remaining.{body_of}
use Rattle.ob_coherent_spec.specs.OpenTests.{IsTestOf, IsOpen, AreOpen}
use Rattle.ob_coherent_spec.specs.Waiting.{AwaitsResult}
use Rattle.ob_coherent_spec.specs.Coherent.{Beginning, IsRunning}
use Rattle.ob_soundness_laws.proofs.places.Keeping.{put_that}
use Rattle.ob_soundness_laws.proofs.places.Reading.{same_places}
use Rattle.ob_soundness_laws.specs.calls.Binds.{Binds}
use Rattle.ob_soundness_laws.proofs.calls.BindingAll.{was_set}

-- Values that are no references.

no_reference_kind : (table : ClassTable) (objects : List Object) (kind : Kind) (m : ℕ) → is_reference kind ≡ false
    → IsOfKind table objects kind (reference m) → ⊥
no_reference_kind table objects Int m e is = is
no_reference_kind table objects BoolKind m e is = is
no_reference_kind table objects Text m e is = is
no_reference_kind table objects (Reference id) m e is = true≢false e

plain_value : (table : ClassTable) (objects : List Object) (x : Cell) → Stands table objects x
    → is_reference x.note.kind ≡ false
    → (m : ℕ) → x.value ≢ reference m
plain_value table objects x s e m is =
    no_reference_kind table objects x.note.kind m e (subst (IsOfKind table objects x.note.kind) is s.kind)

-- Places under test refer to an object.

record Refers (b : BodyFrame) (h : Here) (q : Location) : Type 0 where
  pub cell : Cell
  pub found : read b.table h q ≡ Some cell
  pub number : ℕ
  pub object : cell.value ≡ reference number

test_refers : (b : BodyFrame) (h : Here) (p q : Location) (n : ℕ) → IsTestOf b h p n → same_location q p ≡ true
    → Refers b h q
test_refers b h p q n t e = record {
  cell = t.cell;
  found = subst (λ r. read b.table h r ≡ Some t.cell) (sym (same_places q p e)) t.found;
  number = n;
  object = t.object;
}

refers_before : (b : BodyFrame) (h : Here) (ends : Ends) (ps : List Location) (q : Location) → IsOpen b h ends
    → (is_tested ps q ≡ true → Refers b h q) → is_tested (tested_before ends ps) q ≡ true → Refers b h q
refers_before b h plain_end ps q o more e = more e
refers_before b h (test_end p) ps q o more e =
    ⊎_elim (test_refers b h p q (self_of h.slots) o.1) more (or_cases (same_location q p) (is_tested ps q) e)
refers_before b h (lock_end p n) ps q o more e =
    ⊎_elim (test_refers b h p q n o.1) more (or_cases (same_location q p) (is_tested ps q) e)
refers_before b h (loop_end first x body end) ps q o more e = more e

tested_refers : (b : BodyFrame) (h : Here) (outer : List Rest) (q : Location) → AreOpen b h outer
    → is_tested (tested_places outer) q ≡ true → Refers b h q
tested_refers b h [] q a e = absurd (true≢false (sym e))
tested_refers b h (r ∷ outer) q a e = refers_before b h r.ends (tested_places outer) q a.0
    (tested_refers b h outer q a.2) e

plain_untested : (b : BodyFrame) (h : Here) (outer : List Rest) (n : ℕ) → AreOpen b h outer
    → ((x : Cell) → h.slots n ≡ Some x → (m : ℕ) → x.value ≢ reference m)
    → is_tested (tested_places outer) (slot n) ≡ false
plain_untested b h outer n a plain = ⊎_elim
    (λ e. let r = tested_refers b h outer (slot n) a e in absurd (plain r.cell r.found r.number r.object))
    (λ e. e)
    (cases_Bool (is_tested (tested_places outer) (slot n)))

-- A call awaits its result.

module _ (table : ClassTable) (made : IsClassTable table) (entry : Option ℕ) (beginning : Beginning) (c : Configuration)
    (k : IsRunning table entry beginning c) (b : Bound) (g : Context) (n : ℕ)
    (binds : Binds table c k.whole.parts b g n) where
  slot_plain : (j : ℕ) → (k.holdings j).refers ≡ false → (x : Cell) → c.frame.slots j ≡ Some x
      → is_reference x.note.kind ≡ false
  slot_plain j none x e = ⊎_elim
      (λ r. absurd (both_ways _ none ((k.held j x refl e).refers r))) (λ r. r) (cases_Bool (is_reference x.note.kind))

  -- what the slot of a result holds while places are bound is no reference
  pub result_plain : (result : Option ℕ) → IfSome result (λ j. (k.holdings j).refers ≡ false) → (j : ℕ) (x : Cell)
      → result ≡ Some j → b.from.slots j ≡ Some x → (m : ℕ) → x.value ≢ reference m
  result_plain result none j x is e m refers =
      let r = was_set table c k.whole.parts b g n binds (slot j) x e in
      let no : (k.holdings j).refers ≡ false = subst (λ o. IfSome o (λ j. (k.holdings j).refers ≡ false)) is none in
      plain_value table c.world.objects r.0 (k.whole.slots j r.0 r.1) (slot_plain j no r.0 r.1) m (sym r.2 ∙ refers)

  pub awaits_result : (h : Waiting) → h.frame.slots ≡ b.from.slots → h.outer ≡ k.outer
      → (given : Context) (result : Option ℕ)
      (of : Option ResolvedType) → is_some result ≡ is_some of
      → IfSome result (λ j. length k.whole.parts.signature.params < j) → slots_of_result result ≤ k.whole.parts.slots
      → IfSome result (λ j. (k.holdings j).refers ≡ false)
      → AwaitsResult (body_of table c.frame k.whole.parts) (with_result given result of) h result of
  awaits_result h slots outer given None None same params few refers = tt
  awaits_result h slots outer given None (Some of) same params few refers = absurd (true≢false (sym same))
  awaits_result h slots outer given (Some j) None same params few refers = absurd (true≢false same)
  awaits_result h slots outer given (Some j) (Some of) same params few refers = (
    params,
    omega (arith, few),
    subst (λ o. is_tested (tested_places o) (slot j) ≡ false) (sym outer)
        (plain_untested (body_of table c.frame k.whole.parts) (here c) k.outer j k.opens
        (λ x e. plain_value table c.world.objects x (k.whole.slots j x e) (slot_plain j refers x e))),
    λ x e. let r = was_set table c k.whole.parts b g n binds (slot j) x (ap (λ s. s j) (sym slots) ∙ e) in
        ap is_reference r.3 ∙ slot_plain j refers r.0 r.1,
    put_that given (slot j) (Some (known_as of)) (slot j) refl,
  )
