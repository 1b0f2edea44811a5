-- The scratch slots of well-formed terms are few.
use Rattle.std.proofs.Common.{◌≡◌, ◌≢◌, ℕ, suc, ◌+◌, ◌<◌, ◌≤◌, List, [], ◌∷◌, map, length, Some, None, true, false, get_or, refl, sym, subst, arith, inl, inr, eqb-true}
use Rattle.std.specs.Prelude.{◌==◌, IfSome, is_some, AllPairs}
use Rattle.std.specs.List.{list_any, IsDistinct, AllByRecursion}
use Rattle.std.proofs.lemmas.Bool.{true≢false, or_cases, false_from_ne_true}
use Rattle.std.proofs.lemmas.List.{length-map}
use Rattle.std.proofs.lemmas.Map.Steps.{length-le_from_distinct_below}
use Rattle.std.proofs.lemmas.Option.{slice_get_within}
use Rattle.std.proofs.Math.Nat.{max-le}
use Rattle.ob_base.specs.declared.id.ContractId.{ContractId}
use Rattle.ob_base.specs.declared.id.TxId.{TxId}
use Rattle.ob_table.specs.Tables.{contract_at, field_at, signature_of}
use Rattle.ob_table.specs.declared.contract.Param.{Param}
use Rattle.ob_table.specs.declared.contract.Signature.{Signature}
use Rattle.ob_table_spec.specs.WellFormed.{StaticFrame, constructor_at}
use Rattle.ob_silica.specs.Terms.{SilicaForm, unit_form, const_form, op_form, copy_form, move_form, new_form, call_form, call_this_form, change_form, test_form, if_form, loop_form, assert_form, disown_form, drop_form, return_form, revert_form, bad_row_form, SilicaTerms, no_terms, and_term}
use Rattle.ob_silica.specs.declared.place.Given.{Given}
use Rattle.ob_silica.specs.declared.place.Operand.{Operand}
use Rattle.ob_silica.specs.declared.place.Place.{Place}
use Rattle.ob_silica.specs.declared.place.Place.TheVariants.{This, Slot, Field as FieldPlace}
use Rattle.ob_silica_formed.specs.Holdings.{Holdings, after_form, EachWithin, Each}
use Rattle.ob_silica_formed.specs.Points.{ArePassed, AreFields, AreGivenOnce}
use Rattle.ob_places_laws.proofs.Tables.{if_there_so}
use Rattle.ob_emit_spec.specs.Emission.{scratch_of_form, scratch_of_terms}
use Rattle.ob_emit_spec.specs.Operands.{scratch_slots, all_scratch_slots, values_given}
use Rattle.ob_emit_verified.proofs.Operands.{is_there}
use Rattle.ob_coherent_spec.specs.Remaining.{IsWellFormedForm}

-- Operands.

one_scratch : (n : ℕ) (place : Place) → scratch_slots n place ≤ n + 1
one_scratch n This = omega arith
one_scratch n (Slot k) = omega arith
one_scratch n (FieldPlace id) = omega arith

-- operands need as many scratch slots as they are at most
scratch_few : (n : ℕ) (os : List Operand) → all_scratch_slots n os ≤ n + length os
scratch_few n [] = omega arith
scratch_few n (o ∷ os) =
    let first = one_scratch n o.place in
    let rest = scratch_few (n + 1) os in
    let a : scratch_slots n o.place ≤ n + length (o ∷ os) = omega arith in
    let b : all_scratch_slots (n + 1) os ≤ n + length (o ∷ os) = omega arith in
    max-le a b

-- Given fields.

apart : (x : ℕ) (xs : List ℕ) → ((j : ℕ) (d : ℕ) → j < length xs → x ≢ get_or xs j d) → AllByRecursion (λ y. (x == y) ≡ false) xs
apart x [] other = tt
apart x (y ∷ xs) other = (
  false_from_ne_true (x == y) (λ e. other 0 x (omega arith) (eqb-true x y e)),
  apart x xs (λ j d lt. other (suc j) d (omega arith)),
)

-- numbers of which no two are the same are distinct
all_apart : (xs : List ℕ) → AllPairs (λ (a b : ℕ). a ≢ b) xs → IsDistinct (λ a b. a == b) xs
unfolding IsDistinct
all_apart [] pairs = tt
all_apart (x ∷ xs) pairs = (apart x xs (λ j d lt. pairs 0 (suc j) d (omega arith) (omega arith)), all_apart xs (λ i j d lt below. pairs (suc i) (suc j) d (omega arith) (omega arith)))

given_below : (f : StaticFrame) (given : List Given) (q : ℕ) → AreFields f given
    → list_any (λ y. q == y) (map (λ (g : Given). g.field.0) given) ≡ true → q < length f.own.fields
given_below f [] q fields e = absurd (true≢false (sym e))
given_below f (g ∷ gs) q fields e = elim (or_cases (q == g.field.0) (list_any (λ y. q == y) (map (λ (z : Given). z.field.0) gs)) e) [
  | inl same ↦
      let field = is_there (field_at f.own g.field) fields.0 in
      subst (λ z. z < length f.own.fields) (sym (eqb-true q g.field.0 same)) (slice_get_within f.own.fields g.field.0 field.0 field.1)
  | inr rest ↦ given_below f gs q fields.2 rest
]

-- no more fields are given than there are
given_few : (f : StaticFrame) (given : List Given) → AreFields f given → AreGivenOnce given
    → length (values_given given) ≤ length f.own.fields
given_few f given fields once =
    let numbers = map (λ (g : Given). g.field.0) given in
    let few : length numbers ≤ length f.own.fields =
    length-le_from_distinct_below numbers (length f.own.fields) (all_apart numbers once) (λ q e. given_below f given q fields e) in
    let same : length numbers ≡ length given = length-map given (λ (g : Given). g.field.0) in
    let values : length (values_given given) ≡ length given = length-map given (λ (g : Given). g.from) in
    omega arith

-- Forms.

-- a class table has few parameters, and the contract few fields
pub record HasFew (f : StaticFrame) : Type 0 where
  pub called : (id : ContractId) (tx : TxId) (s : Signature) → signature_of f.table id tx ≡ Some s → length s.params ≤ 16
  pub made : (id : ContractId) → is_some (contract_at f.table id) ≡ true → (s : Signature) → constructor_at f.table id ≡ Some s
      → length s.params ≤ 16
  pub there : (id : ContractId) → is_some (contract_at f.table id) ≡ true
      → IfSome (contract_at f.table id) (λ c. c.interface ≡ false) → is_some (constructor_at f.table id) ≡ true
  pub fields : length f.own.fields ≤ 64

passed_few : (f : StaticFrame) (h : Holdings) (ps : List Param) (os : List Operand) → ArePassed f h ps os → length os ≡ length ps
passed_few f h [] [] passed = refl
passed_few f h [] (o ∷ os) passed = absurd passed
passed_few f h (p ∷ ps) [] passed = absurd passed
passed_few f h (p ∷ ps) (o ∷ os) passed = let e = passed_few f h ps os passed.1 in omega arith

few_operands : (os : List Operand) → length os ≤ 64 → all_scratch_slots 0 os ≤ 64
few_operands os le = let few = scratch_few 0 os in omega arith

one_operand : (o : Operand) → all_scratch_slots 0 (o ∷ []) ≤ 64
one_operand o = few_operands (o ∷ []) (omega arith)

mutual
  form_few : (f : StaticFrame) → HasFew f → (h : Holdings) (form : SilicaForm) → IsWellFormedForm f h form
      → EachWithin IsWellFormedForm f h form → scratch_of_form form ≤ 64
  form_few f few h (op_form k o a b line) formed within = few_operands (a ∷ b ∷ []) (omega arith)
  form_few f few h (copy_form to from) formed within = one_operand from
  form_few f few h (move_form to from contract) formed within = one_operand from
  form_few f few h (new_form k contract args) formed within =
      let s = is_there (constructor_at f.table contract) (few.there contract formed.numbers.0 formed.bodies) in
      let count = passed_few f h s.0.params args (if_there_so (constructor_at f.table contract) _ s.0 s.1 formed.kinds) in
      let low = few.made contract formed.numbers.0 s.0 s.1 in
      few_operands args (omega arith)
  form_few f few h (call_form k receiver contract tx args) formed within =
      let s = is_there (signature_of f.table contract tx) formed.numbers.0 in
      let count = passed_few f h s.0.params args (if_there_so (signature_of f.table contract tx) _ s.0 s.1 formed.kinds.1) in
      let low = few.called contract tx s.0 s.1 in
      few_operands (receiver ∷ args) (omega arith)
  form_few f few h (call_this_form k tx args) formed within =
      let s = is_there (signature_of f.table f.here tx) formed.numbers.0 in
      let count = passed_few f h s.0.params args (if_there_so (signature_of f.table f.here tx) _ s.0 s.1 formed.kinds) in
      let low = few.called f.here tx s.0 s.1 in
      few_operands args (omega arith)
  form_few f few h (change_form state given) formed within =
      let count = given_few f given formed.numbers.1 formed.kinds.1 in
      let low = few.fields in
      few_operands (values_given given) (omega arith)
  form_few f few h (test_form o state branch other join) formed within =
      max-le (one_operand o) (max-le (terms_few f few h branch within.0) (terms_few f few h other within.1))
  form_few f few h (if_form o branch other join) formed within =
      max-le (one_operand o) (max-le (terms_few f few h branch within.0) (terms_few f few h other within.1))
  form_few f few h (loop_form first o body end) formed within =
      max-le (one_operand o) (max-le (terms_few f few _ first within.0) (terms_few f few _ body within.1))
  form_few f few h (disown_form o) formed within = one_operand o
  form_few f few h (return_form (Some o)) formed within = one_operand o
  form_few f few h (return_form None) formed within = omega arith
  form_few f few h (revert_form o) formed within = one_operand o
  form_few f few h unit_form formed within = omega arith
  form_few f few h (const_form k value) formed within = omega arith
  form_few f few h (assert_form o perm) formed within = omega arith
  form_few f few h (drop_form k) formed within = omega arith
  form_few f few h bad_row_form formed within = omega arith

  -- well-formed terms need at most 64 scratch slots
  pub terms_few : (f : StaticFrame) → HasFew f → (h : Holdings) (terms : SilicaTerms) → Each IsWellFormedForm f h terms
      → scratch_of_terms terms ≤ 64
  terms_few f few h no_terms each = omega arith
  terms_few f few h (and_term form span rest) each =
      max-le (form_few f few h form each.0 each.1) (terms_few f few (after_form f form h) rest each.2)
