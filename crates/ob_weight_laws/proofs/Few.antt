-- Well-formed forms have few operands.
use Rattle.std.proofs.Common.{◌≡◌, ◌≢◌, ℕ, suc, ◌+◌, ◌<◌, ◌≤◌, List, [], ◌∷◌, map, length, drop, Bool, true, false, Option, Some, None, get_or, refl, sym, ap, ◌∙◌, subst, arith, inl, inr, eqb-true}
use Rattle.std.specs.Prelude.{◌==◌, IfSome, is_some, AllPairs, option_and_then, slice_get, if◌then◌else◌}
use Rattle.std.specs.List.{list_any, IsDistinct, AllByRecursion}
use Rattle.std.proofs.lemmas.Bool.{true≢false, or_cases, false_from_ne_true}
use Rattle.std.proofs.lemmas.List.{length-map}
use Rattle.std.proofs.lemmas.Map.Steps.{length-le_from_distinct_below}
use Rattle.std.proofs.lemmas.Option.{slice_get_within}
use Rattle.std.proofs.Math.Nat.{max-le}
use Rattle.ob_base.specs.declared.id.ContractId.{ContractId}
use Rattle.ob_base.specs.declared.id.TxId.{TxId}
use Rattle.ob_table.specs.Tables.{ClassTable, contract_at, field_at, signature_of}
use Rattle.ob_table.specs.declared.contract.Contract.{Contract}
use Rattle.ob_table.specs.declared.contract.Param.{Param}
use Rattle.ob_table.specs.declared.contract.Signature.{Signature}
use Rattle.ob_table_spec.specs.Conditions.{IsClassTable, IsContract}
use Rattle.ob_table_spec.specs.WellFormed.{StaticFrame, constructor_at}
use Rattle.ob_silica.specs.Terms.{SilicaForm, unit_form, const_form, op_form, copy_form, move_form, new_form, call_form, call_this_form, change_form, test_form, if_form, loop_form, assert_form, disown_form, drop_form, return_form, revert_form, bad_row_form, SilicaTerms, no_terms, and_term}
use Rattle.ob_silica.specs.declared.place.Given.{Given}
use Rattle.ob_silica.specs.declared.place.Operand.{Operand}
use Rattle.ob_silica.specs.declared.place.Place.{Place}
use Rattle.ob_silica.specs.declared.place.Place.TheVariants.{This, Slot, Field as FieldPlace}
use Rattle.ob_silica_formed.specs.Holdings.{Holdings, after_form, EachWithin, Each}
use Rattle.ob_silica_formed.specs.Points.{ArePassed, AreFields, AreGivenOnce, NamesWhatIsThere, HasKinds, NamesBody}
use Rattle.ob_places_laws.proofs.Tables.{if_there_so, contract_is, signature_at_number, signature_is, has_constructor}
use Rattle.ob_emit_spec.specs.Emission.{scratch_of_form, scratch_of_terms}
use Rattle.ob_emit_spec.specs.Operands.{scratch_slots, all_scratch_slots, values_given}

pub is_there : {A : Type 0} (o : Option A) → is_some o ≡ true → (x : A) × (o ≡ Some x)
is_there None e = absurd (true≢false (sym e))
is_there (Some x) e = (x, refl)

-- Operands.

one_scratch : (n : ℕ) (place : Place) → scratch_slots n place ≤ n + 1
one_scratch n This = omega arith
one_scratch n (Slot k) = omega arith
one_scratch n (FieldPlace id) = omega arith

-- operands need as many scratch slots as they are at most
scratch_few : (n : ℕ) (os : List Operand) → all_scratch_slots n os ≤ n + length os
scratch_few n [] = omega arith
scratch_few n (o ∷ os) =
    let first = one_scratch n o.place in
    let rest = scratch_few (n + 1) os in
    let a : scratch_slots n o.place ≤ n + length (o ∷ os) = omega arith in
    let b : all_scratch_slots (n + 1) os ≤ n + length (o ∷ os) = omega arith in
    max-le a b

few_operands : (os : List Operand) → length os ≤ 64 → all_scratch_slots 0 os ≤ 64
few_operands os le = let few = scratch_few 0 os in omega arith

one_operand : (o : Operand) → all_scratch_slots 0 (o ∷ []) ≤ 64
one_operand o = few_operands (o ∷ []) (omega arith)

-- Given fields.

apart : (x : ℕ) (xs : List ℕ) → ((j : ℕ) (d : ℕ) → j < length xs → x ≢ get_or xs j d) → AllByRecursion (λ y. (x == y) ≡ false) xs
apart x [] other = tt
apart x (y ∷ xs) other = (
  false_from_ne_true (x == y) (λ e. other 0 x (omega arith) (eqb-true x y e)),
  apart x xs (λ j d lt. other (suc j) d (omega arith)),
)

-- numbers of which no two are the same are distinct
all_apart : (xs : List ℕ) → AllPairs (λ (a b : ℕ). a ≢ b) xs → IsDistinct (λ a b. a == b) xs
unfolding IsDistinct
all_apart [] pairs = tt
all_apart (x ∷ xs) pairs = (apart x xs (λ j d lt. pairs 0 (suc j) d (omega arith) (omega arith)), all_apart xs (λ i j d lt below. pairs (suc i) (suc j) d (omega arith) (omega arith)))

given_below : (f : StaticFrame) (given : List Given) (q : ℕ) → AreFields f given
    → list_any (λ y. q == y) (map (λ (g : Given). g.field.0) given) ≡ true → q < length f.own.fields
given_below f [] q fields e = absurd (true≢false (sym e))
given_below f (g ∷ gs) q fields e = elim (or_cases (q == g.field.0) (list_any (λ y. q == y) (map (λ (z : Given). z.field.0) gs)) e) [
  | inl same ↦
      let field = is_there (field_at f.own g.field) fields.0 in
      subst (λ z. z < length f.own.fields) (sym (eqb-true q g.field.0 same)) (slice_get_within f.own.fields g.field.0 field.0 field.1)
  | inr rest ↦ given_below f gs q fields.2 rest
]

-- no more fields are given than there are
pub given_few : (f : StaticFrame) (given : List Given) → length f.own.fields ≤ 64 → AreFields f given → AreGivenOnce given
    → length given ≤ 64
given_few f given low fields once =
    let numbers = map (λ (g : Given). g.field.0) given in
    let few : length numbers ≤ length f.own.fields =
    length-le_from_distinct_below numbers (length f.own.fields) (all_apart numbers once) (λ q e. given_below f given q fields e) in
    let same : length numbers ≡ length given = length-map given (λ (g : Given). g.field.0) in
    omega arith

-- Arguments.

passed_few : (f : StaticFrame) (h : Holdings) (ps : List Param) (os : List Operand) → ArePassed f h ps os → length os ≡ length ps
passed_few f h [] [] passed = refl
passed_few f h [] (o ∷ os) passed = absurd passed
passed_few f h (p ∷ ps) [] passed = absurd passed
passed_few f h (p ∷ ps) (o ∷ os) passed = let e = passed_few f h ps os passed.1 in omega arith

transactions_few : (interface : Bool) (ss : List Signature) → length (if interface then ss else drop 1 ss) ≤ 256 → length ss ≤ 257
transactions_few true ss le = omega arith
transactions_few false [] le = omega arith
transactions_few false (s ∷ ss) le = omega arith

-- the constructor and the transactions of a contract are few
pub bodies_few : (table : ClassTable) (c : Contract) → IsContract table c → length c.transactions ≤ 257
bodies_few table c is = transactions_few c.interface c.transactions is.few_transactions

-- what is called has small numbers, and few parameters
pub record IsCalled (table : ClassTable) (id : ContractId) (tx : TxId) (s : Signature) : Type 0 where
  pub contract : id.0 < 1024
  pub number : tx.0 < 257
  pub params : length s.params ≤ 16

pub contract_low : (table : ClassTable) → IsClassTable table → (id : ContractId) (c : Contract) → contract_at table id ≡ Some c
    → id.0 < 1024
contract_low table is id c e =
    let lt = slice_get_within table.contracts id.0 c e in
    let few = is.few in
    omega arith

pub called : (table : ClassTable) → IsClassTable table → (id : ContractId) (tx : TxId) (s : Signature)
    → signature_of table id tx ≡ Some s → IsCalled table id tx s
called table is id tx s e =
    let w = signature_at_number table id tx s e in
    let own = contract_is table is id w.0 w.1 in
    let lt = slice_get_within w.0.transactions tx.0 s w.2 in
    let few = bodies_few table w.0 own in
    record {
      contract = contract_low table is id w.0 w.1;
      number = omega arith;
      params = (signature_is table w.0 own tx s w.2).few;
    }

-- arguments that are passed to a transaction
pub call_few : (f : StaticFrame) → IsClassTable f.table → (h : Holdings) (id : ContractId) (tx : TxId) (args : List Operand)
    → is_some (signature_of f.table id tx) ≡ true → IfSome (signature_of f.table id tx) (λ s. ArePassed f h s.params args)
    → (id.0 < 1024) × (tx.0 < 257) × (length args ≤ 16)
call_few f is h id tx args there passed =
    let s = is_there (signature_of f.table id tx) there in
    let c = called f.table is id tx s.0 s.1 in
    let count = passed_few f h s.0.params args (if_there_so (signature_of f.table id tx) _ s.0 s.1 passed) in
    let low = c.params in
    (c.contract, c.number, omega arith)

-- the constructor of a contract that is no interface is found
constructor_there : (table : ClassTable) (id : ContractId) (c : Contract) (s : Signature) → contract_at table id ≡ Some c
    → c.interface ≡ false → slice_get c.transactions 0 ≡ Some s → constructor_at table id ≡ Some s
constructor_there table id c s e plain first =
    ap (λ o. option_and_then (λ (z : Contract). if z.interface then None else slice_get z.transactions 0) o) e
    ∙ ap (λ b. if b then None else slice_get c.transactions 0) plain
    ∙ first

-- arguments that are passed to a constructor
pub new_few : (f : StaticFrame) → IsClassTable f.table → (h : Holdings) (id : ContractId) (args : List Operand)
    → is_some (contract_at f.table id) ≡ true → IfSome (contract_at f.table id) (λ c. c.interface ≡ false)
    → IfSome (constructor_at f.table id) (λ s. ArePassed f h s.params args) → (id.0 < 1024) × (length args ≤ 16)
new_few f is h id args there plain passed =
    let c = is_there (contract_at f.table id) there in
    let concrete = if_there_so (contract_at f.table id) _ c.0 c.1 plain in
    let own = contract_is f.table is id c.0 c.1 in
    let made = has_constructor f.table c.0 own concrete in
    let found = constructor_there f.table id c.0 made.0 c.1 concrete made.1 in
    let count = passed_few f h made.0.params args (if_there_so (constructor_at f.table id) _ made.0 found passed) in
    let low = made.2.signature.few in
    (contract_low f.table is id c.0 c.1, omega arith)

-- Scratch slots.

mutual
  form_few : (f : StaticFrame) → IsClassTable f.table → length f.own.fields ≤ 64 → (h : Holdings) (form : SilicaForm)
      → NamesWhatIsThere f h form → HasKinds f h form → NamesBody f h form
      → EachWithin NamesWhatIsThere f h form → EachWithin HasKinds f h form → EachWithin NamesBody f h form → scratch_of_form form ≤ 64
  form_few f is low h (op_form k o a b line) n k' b' nw kw bw = few_operands (a ∷ b ∷ []) (omega arith)
  form_few f is low h (copy_form to from) n k' b' nw kw bw = one_operand from
  form_few f is low h (move_form to from contract) n k' b' nw kw bw = one_operand from
  form_few f is low h (new_form k contract args) n k' b' nw kw bw =
      let few = new_few f is h contract args n.0 b' k' in
      let count = few.1 in
      few_operands args (omega arith)
  form_few f is low h (call_form k receiver contract tx args) n k' b' nw kw bw =
      let few = call_few f is h contract tx args n.0 k'.1 in
      let count = few.2 in
      few_operands (receiver ∷ args) (omega arith)
  form_few f is low h (call_this_form k tx args) n k' b' nw kw bw =
      let few = call_few f is h f.here tx args n.0 k' in
      let count = few.2 in
      few_operands args (omega arith)
  form_few f is low h (change_form state given) n k' b' nw kw bw =
      let count = given_few f given low n.1 k'.1 in
      let values : length (values_given given) ≡ length given = length-map given (λ (g : Given). g.from) in
      few_operands (values_given given) (omega arith)
  form_few f is low h (test_form o state branch other join) n k' b' nw kw bw =
      max-le (one_operand o) (max-le (terms_few f is low h branch nw.0 kw.0 bw.0) (terms_few f is low h other nw.1 kw.1 bw.1))
  form_few f is low h (if_form o branch other join) n k' b' nw kw bw =
      max-le (one_operand o) (max-le (terms_few f is low h branch nw.0 kw.0 bw.0) (terms_few f is low h other nw.1 kw.1 bw.1))
  form_few f is low h (loop_form first o body end) n k' b' nw kw bw =
      max-le (one_operand o) (max-le (terms_few f is low _ first nw.0 kw.0 bw.0) (terms_few f is low _ body nw.1 kw.1 bw.1))
  form_few f is low h (disown_form o) n k' b' nw kw bw = one_operand o
  form_few f is low h (return_form (Some o)) n k' b' nw kw bw = one_operand o
  form_few f is low h (return_form None) n k' b' nw kw bw = omega arith
  form_few f is low h (revert_form o) n k' b' nw kw bw = one_operand o
  form_few f is low h unit_form n k' b' nw kw bw = omega arith
  form_few f is low h (const_form k value) n k' b' nw kw bw = omega arith
  form_few f is low h (assert_form o perm) n k' b' nw kw bw = omega arith
  form_few f is low h (drop_form k) n k' b' nw kw bw = omega arith
  form_few f is low h bad_row_form n k' b' nw kw bw = omega arith

  -- well-formed terms need at most 64 scratch slots
  pub terms_few : (f : StaticFrame) → IsClassTable f.table → length f.own.fields ≤ 64 → (h : Holdings) (terms : SilicaTerms)
      → Each NamesWhatIsThere f h terms → Each HasKinds f h terms → Each NamesBody f h terms → scratch_of_terms terms ≤ 64
  terms_few f is low h no_terms n k b = omega arith
  terms_few f is low h (and_term form span rest) n k b =
      max-le (form_few f is low h form n.0 k.0 b.0 n.1 k.1 b.1) (terms_few f is low (after_form f form h) rest n.2 k.2 b.2)
