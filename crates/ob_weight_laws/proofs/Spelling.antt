-- The image of a program has a spelling.
use Rattle.std.proofs.Common.{◌≡◌, ◌≤◌, ◌<◌, ◌^◌, ℕ, suc, ◌+◌, Bool, true, false, List, [], ◌∷◌, length, Option, Some, None, refl, sym, ap, ◌∙◌, subst, arith, ⊎_elim, eqb-true}
use Rattle.std.specs.Prelude.{All, IsSomeAnd, IfSome, find, cond, slice_get, nat_eq}
use Rattle.std.proofs.lemmas.Bool.{and_parts}
use Rattle.std.proofs.Math.Nat.{le-max_right}
use Rattle.ob_base.specs.Limits.{most_slots, most_weight}
use Rattle.ob_base.specs.declared.id.ContractId.{ContractId}
use Rattle.ob_base.specs.declared.id.TxId.{TxId}
use Rattle.ob_table.specs.Tables.{ClassTable, contract_at, signature_at}
use Rattle.ob_table.specs.declared.contract.Contract.{Contract}
use Rattle.ob_table.specs.declared.contract.Signature.{Signature}
use Rattle.ob_table_spec.specs.Conditions.{IsClassTable, IsContract, MeetsInterface}
use Rattle.ob_table_spec.specs.WellFormed.{frame_of, is_constructor}
use Rattle.ob_silica.specs.Slots.{slots_of_terms}
use Rattle.ob_silica.specs.Terms.{SilicaBody}
use Rattle.ob_silica_formed.specs.Holdings.{held_at_start}
use Rattle.ob_silica_formed.specs.WellFormedTerms.{AreWellFormed, IsWellFormedTerms}
use Rattle.ob_silica_steps.specs.Configurations.{is_terms_of}
use Rattle.ob_places_laws.proofs.Interfaces.{contract_number}
use Rattle.ob_places_laws.proofs.Tables.{there_is, contract_is, signature_is, constructor_or_transaction}
use Rattle.ob_format_spec.specs.Combinators.{Each}
use Rattle.ob_format_spec.specs.Texts.{text}
use Rattle.ob_code.specs.Images.{body, contract, image}
use Rattle.ob_emit_spec.specs.Emission.{scratch_of_terms}
use Rattle.ob_emit_spec.specs.EmittedImages.{tx_id, implements_code, frame_of_body, code_of_body, emitted_body, emitted_bodies, emitted_contract, emitted_contracts}
use Rattle.ob_emit_spec.specs.Weights.{weight_of_terms, weight_of_bodies}
use Rattle.ob_weight_laws.specs.Law.{HasSpelling}
use Rattle.ob_weight_laws.specs.Lines.{LinesFit, AllLinesFit}
use Rattle.ob_weight_laws.proofs.Few.{bodies_few, contract_low, terms_few}
use Rattle.ob_weight_laws.proofs.Forms.{terms_within}
use Rattle.ob_weight_laws.proofs.Parts.{no_name_fits, name_fits, signed_fits, contract_fits}
use Rattle.ob_weight_laws.proofs.Spelled.{HasRoom, code_counted, terms_fit}

some_same : {A : Type 0} {x y : A} → Some x ≡ Some y → x ≡ y
some_same e = cc

-- Terms that are found.

-- the terms of a constructor or transaction, and what the premises say of them
record IsFound (table : ClassTable) (id : ContractId) (tx : TxId) (left : ℕ) (found : SilicaBody) : Type 0 where
  formed : IsWellFormedTerms table found
  contract : found.contract ≡ id
  number : found.tx ≡ tx
  lines : LinesFit found.terms
  weighs : weight_of_terms found.terms ≤ left

found_first : (table : ClassTable) (id : ContractId) (tx : TxId) (b : SilicaBody) (bs : List SilicaBody)
    → IsWellFormedTerms table b → LinesFit b.terms → is_terms_of id tx b ≡ true
    → IsFound table id tx (weight_of_terms b.terms + weight_of_bodies bs) b
found_first table id tx b bs formed lines is =
    let parts = and_parts (nat_eq b.contract.0 id.0) (nat_eq b.tx.0 tx.0) is in
    record {
      formed = formed;
      contract = contract_number b.contract id (eqb-true b.contract.0 id.0 parts.0);
      number = same_tx b.tx tx (eqb-true b.tx.0 tx.0 parts.1);
      lines = lines;
      weighs = omega arith;
    }
  where
    same_tx : (a b : TxId) → a.0 ≡ b.0 → a ≡ b
    same_tx a b e = ap (λ n. let made : TxId = record { 0 = n } in made) e

found_later : (table : ClassTable) (id : ContractId) (tx : TxId) (w left : ℕ) (found : SilicaBody)
    → IsFound table id tx left found → IsFound table id tx (w + left) found
found_later table id tx w left found is = let low = is.weighs in record {
  formed = is.formed;
  contract = is.contract;
  number = is.number;
  lines = is.lines;
  weighs = omega arith;
}

found_by : (table : ClassTable) (id : ContractId) (tx : TxId) (x : SilicaBody) (bs : List SilicaBody) (b : SilicaBody)
    → IsWellFormedTerms table x → LinesFit x.terms
    → (find (is_terms_of id tx) bs ≡ Some b → IsFound table id tx (weight_of_bodies bs) b)
    → (is : Bool) → is_terms_of id tx x ≡ is → cond is (Some x) (find (is_terms_of id tx) bs) ≡ Some b
    → IsFound table id tx (weight_of_terms x.terms + weight_of_bodies bs) b
found_by table id tx x bs b formed lines later true is e =
    subst (IsFound table id tx (weight_of_terms x.terms + weight_of_bodies bs)) (some_same e)
    (found_first table id tx x bs formed lines is)
found_by table id tx x bs b formed lines later false is e =
    found_later table id tx (weight_of_terms x.terms) (weight_of_bodies bs) b (later e)

found : (table : ClassTable) (id : ContractId) (tx : TxId) (bodies : List SilicaBody) (b : SilicaBody)
    → All (IsWellFormedTerms table) bodies → AllLinesFit bodies → find (is_terms_of id tx) bodies ≡ Some b
    → IsFound table id tx (weight_of_bodies bodies) b
found table id tx [] b formed lines e = absurd cc
found table id tx (x ∷ bs) b formed lines e =
    found_by table id tx x bs b (formed 0 x (omega arith)) lines.0
    (λ g. found table id tx bs b (λ k d lt. formed (suc k) d (omega arith)) lines.1 g) (is_terms_of id tx x) refl e

formed_at : (table : ClassTable) (b : SilicaBody) (id : ContractId) (tx : TxId) (own : Contract) (s : Signature)
    → contract_at table id ≡ Some own → signature_at own tx ≡ Some s → b.contract ≡ id → b.tx ≡ tx → IsWellFormedTerms table b
    → AreWellFormed (frame_of table id own s) (held_at_start id s.params) b
formed_at table b id tx own s eo es ec et formed =
    let x = there_is (contract_at table b.contract) _ formed in
    let y = there_is (signature_at x.0 b.tx) _ x.2 in
    let same : x.0 ≡ own = some_same (sym x.1 ∙ ap (contract_at table) ec ∙ eo) in
    let signed : y.0 ≡ s = some_same (sym y.1 ∙ ap (λ z. signature_at z b.tx) same ∙ ap (signature_at own) et ∙ es) in
    subst (λ z. AreWellFormed (frame_of table z own s) (held_at_start z s.params) b) ec
    (subst (λ z. AreWellFormed (frame_of table b.contract own z) (held_at_start b.contract z.params) b) signed
    (subst (λ z. AreWellFormed (frame_of table b.contract z y.0) (held_at_start b.contract y.0.params) b) same y.2))

-- Bodies.

few_slots : (n : ℕ) → n ≤ most_slots → n ≤ 128
unfolding most_slots
few_slots n le = le

-- a constructor has no name, and a transaction has one
signed_name : (table : ClassTable) (own : Contract) → IsContract table own → (tx : TxId) (s : Signature)
    → signature_at own tx ≡ Some s → text.fits s.name
signed_name table own is tx s e =
    ⊎_elim (λ made. subst text.fits (sym made.2.name) no_name_fits) (λ called. name_fits s.name called.name)
    (constructor_or_transaction table own is tx s e)

-- the code of a body with its frame
body_with_terms_fits : (table : ClassTable) → IsClassTable table → (id : ContractId) (own : Contract) (tx : TxId) (s : Signature)
    (b : SilicaBody) → contract_at table id ≡ Some own → signature_at own tx ≡ Some s
    → AreWellFormed (frame_of table id own s) (held_at_start id s.params) b → LinesFit b.terms
    → weight_of_terms b.terms ≤ most_weight → body.fits (emitted_body table id own tx s (Some b))
body_with_terms_fits table is id own tx s b eo es formed lines light =
    let c = contract_is table is id own eo in
    let f = frame_of_body table id own tx s b in
    let h = held_at_start id s.params in
    let slots = few_slots b.slots formed.numbers.few in
    let enough = formed.numbers.slots in
    let named = le-max_right (length s.params + 1) (slots_of_terms b.terms) in
    let scratch = terms_few f.static is c.few_fields h b.terms formed.numbers.forms formed.kinds formed.bodies in
    let room : HasRoom f = record { table = is; slots = slots; fields = c.few_fields; states = c.few_states } in
    let counted = code_counted (code_of_body table id own tx s b) in
    let within = terms_within f h b.terms 0 in
    signed_fits table is own s (signature_is table own c tx s es) (signed_name table own c tx s es) (is_constructor table id tx.0)
    (b.slots + scratch_of_terms b.terms) (code_of_body table id own tx s b) (omega (arith, slots, scratch))
    (omega (arith, counted, within, light))
    (terms_fit f room h b.terms 0 formed.numbers.forms formed.kinds formed.bodies (omega (arith, enough, named)) lines
    (omega (arith, light)))

emitted_body_fits : (table : ClassTable) → IsClassTable table → (bodies : List SilicaBody) → All (IsWellFormedTerms table) bodies
    → AllLinesFit bodies → weight_of_bodies bodies ≤ most_weight → (id : ContractId) (own : Contract) (tx : TxId) (s : Signature)
    → contract_at table id ≡ Some own → signature_at own tx ≡ Some s
    → (o : Option SilicaBody) → find (is_terms_of id tx) bodies ≡ o → body.fits (emitted_body table id own tx s o)
emitted_body_fits table is bodies formed lines light id own tx s eo es None e =
    let c = contract_is table is id own eo in
    signed_fits table is own s (signature_is table own c tx s es) (signed_name table own c tx s es) (is_constructor table id tx.0) 0 []
    (omega arith) (omega arith) tt
emitted_body_fits table is bodies formed lines light id own tx s eo es (Some b) e =
    let x = found table id tx bodies b formed lines e in
    let low = x.weighs in
    body_with_terms_fits table is id own tx s b eo es (formed_at table b id tx own s eo es x.contract x.number x.formed) x.lines
    (omega (arith, low, light))

row_fits : (table : ClassTable) (bodies : List SilicaBody) (id : ContractId) (own : Contract) (n : ℕ) (ss : List Signature)
    → ((k : ℕ) (s : Signature) → slice_get ss k ≡ Some s
    → body.fits (emitted_body table id own (tx_id (n + k)) s (find (is_terms_of id (tx_id (n + k))) bodies)))
    → Each body.fits (emitted_bodies table bodies id own n ss)
row_fits table bodies id own n [] each = tt
row_fits table bodies id own n (s ∷ ss) each = (
  subst (λ (k : ℕ). body.fits (emitted_body table id own (tx_id k) s (find (is_terms_of id (tx_id k)) bodies))) (omega arith)
      (each 0 s refl),
  row_fits table bodies id own (n + 1) ss
      (λ k t e. subst (λ (j : ℕ). body.fits (emitted_body table id own (tx_id j) t (find (is_terms_of id (tx_id j)) bodies)))
      (omega arith) (each (suc k) t e)),
)

count_bodies_emitted : (table : ClassTable) (bodies : List SilicaBody) (id : ContractId) (own : Contract) (n : ℕ) (ss : List Signature)
    → length (emitted_bodies table bodies id own n ss) ≡ length ss
count_bodies_emitted table bodies id own n [] = refl
count_bodies_emitted table bodies id own n (s ∷ ss) = ap (λ k. suc k) (count_bodies_emitted table bodies id own (n + 1) ss)

-- Contracts.

interface_low : (table : ClassTable) → IsClassTable table → (own : Contract) (implements : Option ContractId)
    → IfSome implements (λ id. IsSomeAnd (contract_at table id) (λ interface. (interface.interface ≡ true) × MeetsInterface interface own))
    → implements_code implements < 2 ^ 32
interface_low table is own None h = omega arith
interface_low table is own (Some id) h =
    let c = there_is (contract_at table id) (λ interface. (interface.interface ≡ true) × MeetsInterface interface own) h in
    let low = contract_low table is id c.0 c.1 in
    omega (arith, low)

emitted_contract_fits : (table : ClassTable) → IsClassTable table → (bodies : List SilicaBody)
    → All (IsWellFormedTerms table) bodies → AllLinesFit bodies → weight_of_bodies bodies ≤ most_weight
    → (id : ContractId) (own : Contract) → contract_at table id ≡ Some own
    → contract.fits (emitted_contract table bodies id own)
emitted_contract_fits table is bodies formed lines light id own eo =
    let c = contract_is table is id own eo in
    let few = bodies_few table own c in
    let count = count_bodies_emitted table bodies id own 0 own.transactions in
    contract_fits table is own c (emitted_bodies table bodies id own 0 own.transactions) (omega (arith, few, count))
    (row_fits table bodies id own 0 own.transactions (λ k s e.
    emitted_body_fits table is bodies formed lines light id own (tx_id (0 + k)) s eo
    (subst (λ (j : ℕ). slice_get own.transactions j ≡ Some s) (omega arith) e)
    (find (is_terms_of id (tx_id (0 + k))) bodies) refl))
    (interface_low table is own own.implements c.implements)

contracts_fit : (table : ClassTable) (bodies : List SilicaBody) (n : ℕ) (cs : List Contract)
    → ((k : ℕ) (c : Contract) → slice_get cs k ≡ Some c → contract.fits (emitted_contract table bodies (record { 0 = n + k }) c))
    → Each contract.fits (emitted_contracts table bodies n cs)
contracts_fit table bodies n [] each = tt
contracts_fit table bodies n (c ∷ cs) each = (
  subst (λ (k : ℕ). contract.fits (emitted_contract table bodies (record { 0 = k }) c)) (omega arith) (each 0 c refl),
  contracts_fit table bodies (n + 1) cs
      (λ k d e. subst (λ (j : ℕ). contract.fits (emitted_contract table bodies (record { 0 = j }) d)) (omega arith) (each (suc k) d e)),
)

count_contracts : (table : ClassTable) (bodies : List SilicaBody) (n : ℕ) (cs : List Contract)
    → length (emitted_contracts table bodies n cs) ≡ length cs
count_contracts table bodies n [] = refl
count_contracts table bodies n (c ∷ cs) = ap (λ k. suc k) (count_contracts table bodies (n + 1) cs)

pub has_spelling : HasSpelling
unfolding image
has_spelling table bodies is formed lines light =
    let few = is.few in
    let count = count_contracts table bodies 0 table.contracts in (
      tt,
      (
        omega (arith, few, count),
        (
          refl,
          contracts_fit table bodies 0 table.contracts (λ k c e.
              emitted_contract_fits table is bodies formed lines (omega (arith, light)) (record { 0 = 0 + k }) c
              (subst (λ (j : ℕ). slice_get table.contracts j ≡ Some c) (omega arith) e)),
        ),
      ),
    )
