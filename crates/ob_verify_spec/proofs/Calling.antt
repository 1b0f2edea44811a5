-- What instructions name is there where no condition holds.
use Rattle.std.proofs.Common.{◌≡◌, ℕ, ◌<◌, List, [], ◌∷◌, length, Option, Some, None, is_some, Bool, true, false, ◌&&◌, ◌||◌, not, nat_lt, ◌==◌, find, Contains, slice_get, refl, sym, ap, ◌∙◌, subst, inl, inr}
use Rattle.std.specs.Option.{option_map_or, option_and_then}
use Rattle.std.specs.List.{list_all}
use Rattle.std.proofs.lemmas.Bool.{true≢false, false_from_ne_true, not-true, not-false, and_parts, or_cases, eqb-true, ltb-true}
use Rattle.ob_base.specs.declared.id.ContractId.{ContractId}
use Rattle.ob_base.specs.declared.id.FieldId.{FieldId}
use Rattle.ob_base.specs.declared.id.StateId.{StateId}
use Rattle.ob_base.specs.declared.id.TxId.{TxId}
use Rattle.ob_table.specs.declared.seen.Kind.{Kind}
use Rattle.ob_code.specs.declared.image.BodyCode.{BodyCode}
use Rattle.ob_code.specs.declared.image.ContractCode.{ContractCode}
use Rattle.ob_code.specs.declared.image.Image.{Image}
use Rattle.ob_code.specs.declared.instruction.Instruction.{Instruction}
use Rattle.ob_code.specs.declared.instruction.Instruction.TheVariants as is
use Rattle.ob_verify_spec.specs.declared.CodeFault.TheVariants.{BadField, BadCall}
use Rattle.ob_code.specs.Code.{is_interface, is_private, is_constructor, contract_code, body_code, is_transaction_named}
use Rattle.ob_verify_spec.specs.Kinds.{same_kind, implements_number}
use Rattle.ob_verify_spec.specs.Frames.{CodeFrame, kinds_of_params, kind_of_result}
use Rattle.ob_verify_spec.specs.Instructions.{fields_named, slot_of_result}
use Rattle.ob_verify_spec.specs.Conditions.{bad_field, bad_call, has_state, takes, same_kinds, same_result, answers_for, has_answer, answers_if_implemented, is_answered, constructs}
use Rattle.ob_verify_spec.specs.Ways.{IsAt, IsFaultless}
use Rattle.ob_verify_spec.specs.Verified.{IsVerifiedBody}
use Rattle.ob_verify_spec.specs.Calling.{TakesCall, Answers, AllAnswer, MakesObject, NamesWhatIsThere}
use Rattle.ob_verify_spec.proofs.Cells.{same_kind_of}
use Rattle.ob_verify_spec.proofs.Listed.{each_passes, from_get}

-- what passes a test, and is none where there is nothing, is there
there_that_passes : {X : Type 0} (test : X → Bool) (o : Option X) → option_map_or test o false ≡ true → (x : X) × (o ≡ Some x) × (test x ≡ true)
there_that_passes test None e = absurd (true≢false (sym e))
there_that_passes test (Some x) e = (x, refl, e)

is_there : {X : Type 0} (o : Option X) → is_some o ≡ true → (x : X) × (o ≡ Some x)
is_there None e = absurd (true≢false (sym e))
is_there (Some x) e = (x, refl)

is_nothing : {X : Type 0} (o : Option X) → is_some o ≡ false → o ≡ None
is_nothing None e = refl
is_nothing (Some x) e = absurd (true≢false e)

-- Kinds of parameters and results.

same_kinds_of : (xs ys : List Kind) → same_kinds xs ys ≡ true → xs ≡ ys
same_kinds_of [] [] e = refl
same_kinds_of (x ∷ xs) (y ∷ ys) e =
    let parts = and_parts (same_kind x y) (same_kinds xs ys) e in
    ap (λ z. z ∷ xs) (same_kind_of x y parts.0) ∙ ap (λ zs. y ∷ zs) (same_kinds_of xs ys parts.1)
same_kinds_of xs ys e = absurd (true≢false (sym e))

same_result_of : (o p : Option Kind) → same_result o p ≡ true → o ≡ p
same_result_of None None e = refl
same_result_of (Some x) (Some y) e = ap Some (same_kind_of x y e)
same_result_of o p e = absurd (true≢false (sym e))

-- Calls.

takes_call : (count : ℕ) (slot : Option ℕ) (b : BodyCode) → takes count slot b ≡ true → TakesCall count slot b
takes_call count slot b e =
    let outer = and_parts (not (is_constructor b) && count == length b.params) (not (is_some slot) || is_some b.result) e in
    let inner = and_parts (not (is_constructor b)) (count == length b.params) outer.0 in
    record {
      transaction = not-true (is_constructor b) inner.0;
      counted = eqb-true count (length b.params) inner.1;
      result = λ k there. is_there b.result (subst (λ o. (not (is_some o) || is_some b.result) ≡ true) there outer.1);
    }

answers_of : (asked : BodyCode) (own : ContractCode) → has_answer asked own ≡ true → Answers asked own
answers_of asked own e =
    let found = there_that_passes (answers_for asked) (find (is_transaction_named asked.name) own.bodies) e in
    let outer = and_parts (not (is_private found.0) && same_kinds (kinds_of_params asked) (kinds_of_params found.0)) (same_result (kind_of_result asked) (kind_of_result found.0)) found.2 in
    let inner = and_parts (not (is_private found.0)) (same_kinds (kinds_of_params asked) (kinds_of_params found.0)) outer.0 in
    record {
      body = found.0;
      first = found.1;
      open_to_all = not-true (is_private found.0) inner.0;
      params = same_kinds_of (kinds_of_params asked) (kinds_of_params found.0) inner.1;
      result = same_result_of (kind_of_result asked) (kind_of_result found.0) outer.1;
    }

answers_where : (c : ContractId) (asked : BodyCode) (own : ContractCode) → answers_if_implemented c asked own ≡ true
    → is_interface own ≡ false → implements_number c own ≡ true → has_answer asked own ≡ true
answers_where c asked own e code implements = elim (or_cases (not (implements_number c own) || is_interface own) (has_answer asked own) e) [
  | inr h ↦ h
  | inl h ↦ elim (or_cases (not (implements_number c own)) (is_interface own) h) [
    | inl w ↦ absurd (true≢false (sym implements ∙ not-true (implements_number c own) w))
    | inr w ↦ absurd (true≢false (sym w ∙ code))
  ]
]

all_answer : (m : Image) (c : ContractId) (asked : BodyCode) → is_answered m c asked ≡ true → AllAnswer m c asked
all_answer m c asked e interface own d there marked contract code implements =
    let asks : option_map_or is_interface (contract_code m c) false ≡ true = ap (λ (o : Option ContractCode). option_map_or is_interface o false) there ∙ marked in
    let all : list_all (answers_if_implemented c asked) m.contracts ≡ true =
    elim (or_cases (not (option_map_or is_interface (contract_code m c) false)) (list_all (answers_if_implemented c asked) m.contracts) e) [
      | inl h ↦ absurd (true≢false (sym asks ∙ not-true (option_map_or is_interface (contract_code m c) false) h))
      | inr h ↦ h
    ] in
    answers_of asked own (answers_where c asked own (each_passes (answers_if_implemented c asked) m.contracts own all (from_get m.contracts d.0 own contract)) code implements)

-- Instructions.

call_well : (f : CodeFrame) → IsFaultless f → (i : ℕ) (x : Instruction) → IsAt f i x → bad_call f x ≡ false
call_well f n i x at = false_from_ne_true (bad_call f x) (λ e. n i BadCall (record { instruction = x; at = at; so = e }))

fields_well : (f : CodeFrame) → IsFaultless f → (i : ℕ) (x : Instruction) (field : FieldId) → IsAt f i x → Contains (fields_named x) field → field.0 < length f.own.fields
fields_well f n i x field at c =
    let well : bad_field f x ≡ false = false_from_ne_true (bad_field f x) (λ e. n i BadField (record { instruction = x; at = at; so = e })) in
    let all = not-false (list_all (λ (k : FieldId). nat_lt k.0 (length f.own.fields)) (fields_named x)) well in
    ltb-true field.0 (length f.own.fields) (each_passes (λ (k : FieldId). nat_lt k.0 (length f.own.fields)) (fields_named x) field all c)

tests_well : (f : CodeFrame) → IsFaultless f → (i a : ℕ) (c : ContractId) (s : StateId) (t : ℕ) → IsAt f i (is.Test a c s t)
    → (own : ContractCode) × (contract_code f.image c ≡ Some own) × (s.0 < length own.states)
tests_well f n i a c s t at =
    let found = there_that_passes (has_state s) (contract_code f.image c) (not-false (option_map_or (has_state s) (contract_code f.image c) false) (call_well f n i (is.Test a c s t) at)) in
    (found.0, found.1, ltb-true s.0 (length found.0.states) found.2)

changes_well : (f : CodeFrame) → IsFaultless f → (i : ℕ) (s : StateId) (given : List (FieldId × ℕ)) → IsAt f i (is.Change s given) → s.0 < length f.own.states
changes_well f n i s given at = ltb-true s.0 (length f.own.states) (not-false (has_state s f.own) (call_well f n i (is.Change s given) at))

makes_well : (f : CodeFrame) → IsFaultless f → (i k : ℕ) (c : ContractId) (args : List ℕ) → IsAt f i (is.New k c args) → MakesObject f.image c (length args)
makes_well f n i k c args at =
    let found = there_that_passes (constructs (length args)) (contract_code f.image c)
    (not-false (option_map_or (constructs (length args)) (contract_code f.image c) false) (call_well f n i (is.New k c args) at)) in
    let parts = and_parts (not (is_interface found.0)) (option_map_or (λ (b : BodyCode). length args == length b.params) (find is_constructor found.0.bodies) false) found.2 in
    let made = there_that_passes (λ (b : BodyCode). length args == length b.params) (find is_constructor found.0.bodies) parts.1 in
    record {
      own = found.0;
      contract = found.1;
      code = not-true (is_interface found.0) parts.0;
      body = made.0;
      constructor = ap (option_and_then (λ (own : ContractCode). find is_constructor own.bodies)) found.1 ∙ made.1;
      counted = eqb-true (length args) (length made.0.params) made.2;
    }

calls_well : (f : CodeFrame) → IsFaultless f → (i k a : ℕ) (c : ContractId) (tx : TxId) (args : List ℕ) → IsAt f i (is.Call k a c tx args)
    → (b : BodyCode) × (body_code f.image c tx ≡ Some b) × TakesCall (length args) (slot_of_result k) b × AllAnswer f.image c b
calls_well f n i k a c tx args at =
    let found = there_that_passes (λ (b : BodyCode). takes (length args) (slot_of_result k) b && is_answered f.image c b) (body_code f.image c tx)
    (not-false (option_map_or (λ (b : BodyCode). takes (length args) (slot_of_result k) b && is_answered f.image c b) (body_code f.image c tx) false) (call_well f n i (is.Call k a c tx args) at)) in
    let parts = and_parts (takes (length args) (slot_of_result k) found.0) (is_answered f.image c found.0) found.2 in
    (found.0, found.1, takes_call (length args) (slot_of_result k) found.0 parts.0, all_answer f.image c found.0 parts.1)

calls_itself_well : (f : CodeFrame) → IsFaultless f → (i k : ℕ) (tx : TxId) (args : List ℕ) → IsAt f i (is.SelfCall k tx args)
    → (b : BodyCode) × (slice_get f.own.bodies tx.0 ≡ Some b) × TakesCall (length args) (slot_of_result k) b
calls_itself_well f n i k tx args at =
    let found = there_that_passes (takes (length args) (slot_of_result k)) (slice_get f.own.bodies tx.0)
    (not-false (option_map_or (takes (length args) (slot_of_result k)) (slice_get f.own.bodies tx.0) false) (call_well f n i (is.SelfCall k tx args) at)) in
    (found.0, found.1, takes_call (length args) (slot_of_result k) found.0 found.2)

names_well : (f : CodeFrame) → IsFaultless f → NamesWhatIsThere f
names_well f n = record {
  fields = fields_well f n;
  tests = tests_well f n;
  changes = changes_well f n;
  makes = makes_well f n;
  calls = calls_well f n;
  calls_itself = calls_itself_well f n;
  returns_none = λ i at. is_nothing f.body.result (call_well f n i is.Ret at);
  returns_one = λ i a at. is_there f.body.result (not-false (is_some f.body.result) (call_well f n i (is.RetValue a) at));
}

pub verified_names : (f : CodeFrame) → IsVerifiedBody f → NamesWhatIsThere f
verified_names f v = names_well f v.faultless
