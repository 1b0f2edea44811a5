-- Code at its places: that of the terms that a frame has still to run, and of the lists around them.
use Rattle.std.proofs.Common.{◌≡◌, ℕ, ◌+◌, ◌≤◌, true, false, Bool, List, [], ◌∷◌, length, Option, Some, None}
use Rattle.std.specs.Prelude.{◌||◌, slice_get, ⊤}
use Rattle.ob_table.specs.declared.seen.Kind.{Kind}
use Rattle.ob_silica.specs.Slots.{slots_of_terms}
use Rattle.ob_base.specs.declared.fault.Span.{Span}
use Rattle.ob_silica.specs.declared.place.Operand.{Operand}
use Rattle.ob_silica.specs.Terms.{loop_form, SilicaTerms, and_term}
use Rattle.ob_silica_formed.specs.Holdings.{Holdings, Each, terms_end, after_terms, at_head}
use Rattle.ob_silica_formed.specs.Points.{NoneFollows}
use Rattle.ob_silica_steps.specs.Configurations.{Rest, Ends, plain_end, test_end, lock_end, loop_end, SlotCells}
use Rattle.ob_silica_steps.specs.Cells.{Cell}
use Rattle.ob_coherent_spec.specs.Remaining.{IsWellFormedForm}
use Rattle.ob_code.specs.declared.instruction.Instruction.{Instruction}
use Rattle.ob_code.specs.declared.instruction.Instruction.TheVariants as instruction
use Rattle.ob_emit_spec.specs.Emission.{EmissionFrame, terms_code, scratch_of_terms}

-- these instructions stand at a place of code
abbrev pub HasAt : List Instruction → ℕ → List Instruction → Type 0
HasAt code at [] = ⊤
HasAt code at (i ∷ is) = (slice_get code at ≡ Some i) × HasAt code (at + 1) is

-- terms as emission needs them: each is well-formed where slots hold this, they name slots of the body alone, its scratch slots are
-- enough for them, and nothing follows an end
pub record AreEmitted (f : EmissionFrame) (count : ℕ) (h : Holdings) (terms : SilicaTerms) : Type 0 where
  pub forms : Each IsWellFormedForm f.static h terms
  pub slots : slots_of_terms terms ≤ f.scratch
  pub scratch : f.scratch + scratch_of_terms terms ≤ count
  pub follows : NoneFollows terms

-- control goes from one place to another, by a jump or by itself
pub data LeadsTo (code : List Instruction) : ℕ → ℕ → Type 0 where
  here : {at : ℕ} → LeadsTo code at at
  jumps : {at to : ℕ} → slice_get code at ≡ Some (instruction.Jump to) → LeadsTo code at to

-- the kinds that are known after are known before
abbrev pub KindsToo : Holdings → Holdings → Type 0
KindsToo h i = (k : ℕ) (x : Kind) → (i k).kind ≡ Some x → (h k).kind ≡ Some x

-- how code notes what ends with a list: a lock with its object, any other test without one, and the first part of a loop not at all
abbrev pub IsNotedAs : Ends → Option ℕ → Type 0
IsNotedAs plain_end t = t ≡ None
IsNotedAs (test_end p) t = t ≡ None
IsNotedAs (lock_end p n) t = t ≡ Some n
IsNotedAs (loop_end first a body end) t = ⊥

-- Where the list inside comes to its end at a place, with slots holding this, the terms around go on at another place, with their
-- holdings; where its end is never reached, nothing is asked of the two.
pub record GoesTo (code : List Instruction) (ended : Bool) (at to : ℕ) (h i : Holdings) : Type 0 where
  pub leads : ended ≡ false → LeadsTo code at to
  pub kinds : ended ≡ false → KindsToo h i

-- the same where a noted test ends first
pub record EndsTestAndGoesTo (code : List Instruction) (ended : Bool) (at to : ℕ) (h i : Holdings) : Type 0 where
  pub ends : ended ≡ false → slice_get code at ≡ Some instruction.EndTest
  pub leads : ended ≡ false → LeadsTo code (at + 1) to
  pub kinds : ended ≡ false → KindsToo h i

-- What is around a list that comes to its end at a place, or whose end is never reached: the code of each list around it, and the
-- tests that are noted. Where the end of a list is never reached, neither is that of one around it. Where the first part of a loop is
-- the list, its end is behind the code of that part, and the loop stands with what is around it.
pub data Around (f : EmissionFrame) (count : ℕ) (code : List Instruction) : ℕ → Bool → Holdings → List Rest → List (Option ℕ) → Type 0 where
  outermost : {at : ℕ} {h : Holdings} → Around f count code at true h [] []
  plain : {at : ℕ} {ended : Bool} {h : Holdings} {r : Rest} {outer : List Rest} {tests : List (Option ℕ)} (to : ℕ) (i : Holdings)
      → r.ends ≡ plain_end → GoesTo code ended at to h i → HasAt code to (terms_code f i r.terms to) → AreEmitted f count i r.terms
      → Around f count code (to + length (terms_code f i r.terms to)) (ended || terms_end r.terms) (after_terms f.static r.terms i) outer tests
      → Around f count code at ended h (r ∷ outer) tests
  tested : {at : ℕ} {ended : Bool} {h : Holdings} {r : Rest} {outer : List Rest} {tests : List (Option ℕ)} (to : ℕ) (i : Holdings) (t : Option ℕ)
      → IsNotedAs r.ends t → EndsTestAndGoesTo code ended at to h i → HasAt code to (terms_code f i r.terms to) → AreEmitted f count i r.terms
      → Around f count code (to + length (terms_code f i r.terms to)) (ended || terms_end r.terms) (after_terms f.static r.terms i) outer tests
      → Around f count code at ended h (r ∷ outer) (t ∷ tests)
  turning : {at : ℕ} {ended : Bool} {h : Holdings} {r : Rest} {outer : List Rest} {tests : List (Option ℕ)}
      (first : SilicaTerms) (o : Operand) (body : SilicaTerms) (end : Span) (start : ℕ) (i : Holdings)
      → r.ends ≡ loop_end first o body end → at ≡ start + length (terms_code f (at_head f.static first body i) first start)
      → h ≡ after_terms f.static first (at_head f.static first body i)
      → HasAt code start (terms_code f i (and_term (loop_form first o body end) end r.terms) start)
      → AreEmitted f count i (and_term (loop_form first o body end) end r.terms)
      → Around f count code (start + length (terms_code f i (and_term (loop_form first o body end) end r.terms) start)) (terms_end r.terms)
      (after_terms f.static (and_term (loop_form first o body end) end r.terms) i) outer tests
      → Around f count code at ended h (r ∷ outer) tests

-- the code of terms stands at a place, and what is around them after it
pub record Stands (f : EmissionFrame) (count : ℕ) (code : List Instruction) (at : ℕ) (h : Holdings) (terms : SilicaTerms)
    (outer : List Rest) (tests : List (Option ℕ)) : Type 0 where
  pub placed : HasAt code at (terms_code f h terms at)
  pub emitted : AreEmitted f count h terms
  pub around : Around f count code (at + length (terms_code f h terms at)) (terms_end terms) (after_terms f.static terms h) outer tests

-- of each slot whose kind is known the value has that kind
abbrev pub KindsHold : Holdings → SlotCells → Type 0
KindsHold h cells = (k : ℕ) (x : Kind) (c : Cell) → (h k).kind ≡ Some x → cells k ≡ Some c → c.note.kind ≡ x
