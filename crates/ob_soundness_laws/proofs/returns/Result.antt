-- The slots of a frame that waited, once the result has come.
use Rattle.std.proofs.Common.{◌≡◌, ◌≢◌, ℕ, ◌+◌, ◌<◌, ◌≤◌, ⊎_elim, true, false, not, nat_eq, List, [], length, Option, Some, None, refl, sym, ap, ◌∙◌, subst, arith}
use Rattle.std.proofs.lemmas.Bool.{both_ways, and_right}
use Rattle.std.proofs.lemmas.Bool.Decides.{eqb_tells}
use Rattle.ob_base.specs.Limits.{most_slots}
use Rattle.ob_table.specs.Tables.{ClassTable}
use Rattle.ob_table.specs.declared.contract.ResolvedType.{ResolvedType}
use Rattle.ob_table.specs.declared.seen.Kind.{Kind}
use Rattle.ob_table.specs.declared.seen.Kind.TheVariants.{Int, Bool as BoolKind, Text, Reference}
use Rattle.ob_table_spec.specs.WellFormed.{kind_of_resolved, is_reference}
use Rattle.ob_heap_spec.specs.Values.{Value, int_value, bool_value, text_value, reference, referred}
use Rattle.ob_heap_spec.specs.Objects.{Object}
use Rattle.ob_silica_places.specs.Known.{at}
use Rattle.ob_silica_places.specs.Places.{slot, field}
use Rattle.ob_silica_steps.specs.Cells.{Cell}
use Rattle.ob_silica_steps.specs.Configurations.{SlotCells, How, Waiting}
use Rattle.ob_silica_steps.specs.Returning.{with_result}
use Rattle.ob_silica_formed.specs.Holdings.{Holdings, held as held_as}
use Rattle.ob_flow_spec.specs.Contexts.{BodyFrame, Context, known_as, is_tested}
use Rattle.ob_coherent_spec.specs.Counting.{Counted, in_cell, in_slots}
use Rattle.ob_coherent_spec.specs.Runs.{tested_places}
use Rattle.ob_coherent_spec.specs.Standing.{IsOfKind, Stands, AllStand}
use Rattle.ob_coherent_spec.specs.Saying.{SaysOf, every}
use Rattle.ob_coherent_spec.specs.Remaining.{HoldsSo, AreHeld}
use Rattle.ob_coherent_spec.specs.Waiting.{is_result, is_on_this, is_settled, AwaitsResult}
use Rattle.ob_coherent_spec.specs.Coherent.{IsGivenBack}
use Rattle.ob_soundness_laws.proofs.counting.Sums.{at_same, at_other}
use Rattle.ob_soundness_laws.proofs.counting.Cells.{cell_plain}
use Rattle.ob_soundness_laws.proofs.counting.Places.{slots_at}

-- What is so of the slots once the result is in them: all but the slot for the result are as they were.
pub record SlotsNow (table : ClassTable) (objects : List Object) (N : ℕ → Type 0) (b : BodyFrame) (g : Context)
    (holdings : Holdings) (h : Waiting) (result : Option Cell) (slots : SlotCells) : Type 0 where
  pub params : (j : ℕ) → j ≤ length b.signature.params → slots j ≡ h.frame.slots j
  pub unset : (j : ℕ) → b.slots ≤ j → slots j ≡ None
  pub stand : AllStand table objects slots
  pub says : (j : ℕ) → SaysOf N (g (slot j)) (slots j)
  pub held : AreHeld holdings slots every
  pub tested : (j : ℕ) → is_tested (tested_places h.outer) (slot j) ≡ true → slots j ≡ h.frame.slots j
  pub count : (counts : Counted) (n : ℕ) → in_slots counts n slots ≡ in_slots counts n h.frame.slots + in_cell counts n
      result

no_reference : (table : ClassTable) (objects : List Object) (kind : Kind) (v : Value) → is_reference kind ≡ false
    → IsOfKind table objects kind v → referred v ≡ None
no_reference table objects (Reference id) v e k = absurd (cc)
no_reference table objects Int (int_value z) e k = refl
no_reference table objects Int (bool_value z) e k = absurd k
no_reference table objects Int (text_value z) e k = absurd k
no_reference table objects Int (reference z) e k = absurd k
no_reference table objects BoolKind (int_value z) e k = absurd k
no_reference table objects BoolKind (bool_value z) e k = refl
no_reference table objects BoolKind (text_value z) e k = absurd k
no_reference table objects BoolKind (reference z) e k = absurd k
no_reference table objects Text (int_value z) e k = absurd k
no_reference table objects Text (bool_value z) e k = absurd k
no_reference table objects Text (text_value z) e k = refl
no_reference table objects Text (reference z) e k = absurd k

some_same : {A : Type 0} (x y : A) → Some x ≡ Some y → x ≡ y
some_same x y e = cc

-- a slot that is no result's is settled, where nothing is lent
pub slot_settled : (how : How) (h : Waiting) (r : Option ℕ) → h.result ≡ r → h.loans ≡ [] → (j : ℕ) → is_result r
    (slot j) ≡ false
    → is_settled how h (slot j) ≡ true
slot_settled how h r res loans j out = rw (loans, res, out, and_right (is_on_this how) false refl) refl

-- a field is settled, where nothing is lent and the call isn't one on `this`
pub field_settled : (how : How) (h : Waiting) → h.loans ≡ [] → is_on_this how ≡ false → (j : ℕ) → is_settled how h
    (field j) ≡ true
field_settled how h loans other j = by_result h.result refl
  where
    by_result : (r : Option ℕ) → h.result ≡ r → is_settled how h (field j) ≡ true
    by_result None e = rw (loans, e, other) refl
    by_result (Some k) e = rw (loans, e, other) refl

module _ (table : ClassTable) (objects : List Object) (N : ℕ → Type 0) (b : BodyFrame) (g : Context)
    (holdings : Holdings)
    (h : Waiting) (how : How) (loans : h.loans ≡ []) (few : b.slots ≤ most_slots) (stand : AllStand table objects
    h.frame.slots)
    (unset : (j : ℕ) → b.slots ≤ j → h.frame.slots j ≡ None)
    (says : (j : ℕ) → is_settled how h (slot j) ≡ true → SaysOf N (g (slot j)) (h.frame.slots j))
    (held : AreHeld holdings h.frame.slots (λ p. not (is_result h.result p))) where
  no_result : h.result ≡ None → SlotsNow table objects N b g holdings h None h.frame.slots
  no_result e = record {
    params = λ j below. refl;
    unset = unset;
    stand = stand;
    says = λ j. says j (slot_settled how h None e loans j refl);
    held = λ j x free set. held j x (rw e refl) set;
    tested = λ j t. refl;
    count = λ counts n. omega arith;
  }

  module _ (k : ℕ) (of : ResolvedType) (x : Cell) (is : h.result ≡ Some k) (own : length b.signature.params < k)
      (low : k < b.slots)
      (untested : is_tested (tested_places h.outer) (slot k) ≡ false)
      (free : (y : Cell) → h.frame.slots k ≡ Some y → is_reference y.note.kind ≡ false)
      (told : g (slot k) ≡ Some (known_as of)) (hold : holdings k ≡ held_as (Some (kind_of_resolved of)))
      (stands : Stands table objects x) (given : SaysOf N (Some (known_as of)) (Some x)) where
    other : (j : ℕ) → j ≢ k → at h.frame.slots k (Some x) j ≡ h.frame.slots j
    other j ne = at_other h.frame.slots k (Some x) j ne

    out : (j : ℕ) → nat_eq j k ≡ false → not (is_result h.result (slot j)) ≡ true
    out j ne = rw (is, ne) refl

    holds_result : HoldsSo (holdings k) x
    holds_result = subst (λ y. HoldsSo y x) (sym hold) (record {
      kind = λ kind e. given.known.0 ∙ some_same (kind_of_resolved of) kind e;
      refers = λ e. ap is_reference (sym given.known.0) ∙ e;
    })

    was_free : (counts : Counted) (n : ℕ) (y : Option Cell) → h.frame.slots k ≡ y → in_cell counts n y ≡ 0
    was_free counts n None e = refl
    was_free counts n (Some y) e = cell_plain counts n y (no_reference table objects y.note.kind y.value (free y e)
        (stand k y e).kind)

    a_result : SlotsNow table objects N b g holdings h (Some x) (at h.frame.slots k (Some x))
    a_result = record {
      params = λ j below. other j (λ e. let z : j ≡ k = e in omega arith);
      unset = λ j past. other j (λ e. let z : j ≡ k = e in omega arith) ∙ unset j past;
      stand = λ j y set. ⊎_elim
          (λ e. subst (Stands table objects) (some_same x y (sym (at_same h.frame.slots k (Some x))
          ∙ ap (at h.frame.slots k (Some x)) (sym e.1) ∙ set)) stands)
          (λ e. stand j y (sym (other j e.1) ∙ set))
          (eqb_tells j k);
      says = λ j. ⊎_elim
          (λ e. subst (λ i. SaysOf N (g (slot i)) (at h.frame.slots k (Some x) i)) (sym e.1)
          (subst (SaysOf N (g (slot k))) (sym (at_same h.frame.slots k (Some x))) (subst (λ y. SaysOf N y (Some x))
          (sym told) given)))
          (λ e. subst (SaysOf N (g (slot j))) (sym (other j e.1)) (says j (slot_settled how h (Some k) is loans j e.0)))
          (eqb_tells j k);
      held = λ j y f set. ⊎_elim
          (λ e. subst (λ i. HoldsSo (holdings i) y) (sym e.1)
          (subst (HoldsSo (holdings k)) (some_same x y (sym (at_same h.frame.slots k (Some x))
          ∙ ap (at h.frame.slots k (Some x)) (sym e.1) ∙ set)) holds_result))
          (λ e. held j y (out j e.0) (sym (other j e.1) ∙ set))
          (eqb_tells j k);
      tested = λ j t. other j (λ e. both_ways _ untested (subst (λ i. is_tested (tested_places h.outer) (slot i) ≡ true)
          e t));
      count = λ counts n. let a = slots_at counts n h.frame.slots k (Some x) (omega arith) in
          let z = was_free counts n (h.frame.slots k) refl in omega arith;
    }

  -- The result has come as the context says.
  pub slots_now : (r : Option ℕ) (gift : Option ResolvedType) (result : Option Cell) → h.result ≡ r → AwaitsResult b g h
      r gift
      → IsGivenBack N result gift → ((x : Cell) → result ≡ Some x → Stands table objects x)
      → ((k : ℕ) (of : ResolvedType) → h.result ≡ Some k → gift ≡ Some of → holdings k ≡ held_as
      (Some (kind_of_resolved of)))
      → SlotsNow table objects N b g holdings h result (with_result r result h.frame.slots)
  slots_now None None None e awaits given stands hold = no_result e
  slots_now None None (Some x) e awaits given stands hold = absurd given
  slots_now None (Some of) result e awaits given stands hold = absurd awaits
  slots_now (Some k) None result e awaits given stands hold = absurd awaits
  slots_now (Some k) (Some of) None e awaits given stands hold = absurd given
  slots_now (Some k) (Some of) (Some x) e awaits given stands hold =
      a_result k of x e awaits.0 awaits.1 awaits.2 awaits.3 awaits.4 (hold k of e refl) (stands x refl) given
