-- The class table of an emitted image is that of its program, but for what no image has.
use Rattle.std.proofs.Common.{◌≡◌, ℕ, zero, suc, ◌+◌, ◌<◌, Bool, true, false, cond, List, [], ◌∷◌, map, length, drop, Option, Some, None, refl, sym, ap, ◌∙◌, subst, arith}
use Rattle.std.proofs.lemmas.Bool.{le-ltb}
use Rattle.std.specs.Prelude.{not, ◌&&◌, nat_eq, nat_lt, find, position, slice_get, option_map, All, IsSomeAnd, if◌then◌else◌}
use Rattle.std.specs.List.{position_or_len}
use Rattle.ob_base.specs.declared.id.ContractId.{ContractId}
use Rattle.ob_base.specs.declared.id.TxId.{TxId}
use Rattle.ob_base.specs.declared.permission.Perm.{Perm}
use Rattle.ob_perm.specs.Masks.{permission_of}
use Rattle.ob_perm.specs.Permissions.{is_shared}
use Rattle.ob_table.specs.Tables.{ClassTable, contract_at, contract_id}
use Rattle.ob_table.specs.declared.contract.Contract.{Contract}
use Rattle.ob_table.specs.declared.contract.Field.{Field}
use Rattle.ob_table.specs.declared.contract.Param.{Param}
use Rattle.ob_table.specs.declared.contract.ResolvedType.{ResolvedType}
use Rattle.ob_table.specs.declared.contract.ResolvedType.TheVariants as typed
use Rattle.ob_table.specs.declared.contract.Signature.{Signature}
use Rattle.ob_table_spec.specs.Conditions.{IsClassTable, IsContract, IsTransaction, IsConstructor, IsParam, IsExitOf}
use Rattle.ob_table_spec.specs.WellFormed.{is_constructor as constructs}
use Rattle.ob_silica.specs.Terms.{SilicaBody}
use Rattle.ob_silica_steps.specs.Configurations.{is_terms_of}
use Rattle.ob_code.specs.declared.instruction.Instruction.{Instruction}
use Rattle.ob_code.specs.Code.{is_constructor}
use Rattle.ob_code_table.specs.Images.{constructor_number}
use Rattle.ob_code_table.specs.ImageTables.{type_of_code, type_of_param, exit_of_param, param_of_code, field_of_code, signature_of_code, interface_of, contract_of_code}
use Rattle.ob_emit_spec.specs.EmittedImages.{type_code, param_type_code, param_code, field_code, implements_code, signed_body, code_of_body, emitted_body, tx_id, emitted_bodies, emitted_contract, emitted_contracts}
use Rattle.ob_emit_spec.specs.Emission.{scratch_of_terms}
use Rattle.ob_emit_laws.specs.Names.{param_without_name, signature_without_names, contract_without_names}
use Rattle.ob_emit_laws.specs.Laws.{EmittedTablesAgree}
use Rattle.ob_emit_spec.proofs.Marks.{first_mark, second_mark, third_mark, constructor_marked}
use Rattle.ob_emit_spec.proofs.Contracts.{contract_meets, constructor_first, interface_constructs_none, constructs_so, constructor_there}

-- Lists.

all_first : {A : Type 0} (P : A → Type 0) (x : A) (xs : List A) → All P (x ∷ xs) → P x
all_first P x xs all = all 0 x (let low : 0 < suc (length xs) = omega arith in low)

all_rest : {A : Type 0} (P : A → Type 0) (x : A) (xs : List A) → All P (x ∷ xs) → All P xs
all_rest P x xs all = λ k d low. all (suc k) d (let more : suc k < suc (length xs) = omega arith in more)

-- what is made of each thing, and then of that
both_maps : {A B C : Type 0} (P : A → Type 0) (g : A → B) (h : B → C) (f : A → C) → ((x : A) → P x → h (g x) ≡ f x)
    → (xs : List A) → All P xs → map h (map g xs) ≡ map f xs
both_maps P g h f same [] all = refl
both_maps P g h f same (x ∷ xs) all =
    ap (λ y. y ∷ map h (map g xs)) (same x (all_first P x xs all))
    ∙ ap (λ ys. f x ∷ ys) (both_maps P g h f same xs (all_rest P x xs all))

maps_back : {A B : Type 0} (g : A → B) (h : B → A) → ((x : A) → h (g x) ≡ x) → (xs : List A) → map h (map g xs) ≡ xs
maps_back g h same [] = refl
maps_back g h same (x ∷ xs) = ap (λ y. y ∷ map h (map g xs)) (same x) ∙ ap (λ ys. x ∷ ys) (maps_back g h same xs)

-- Types and parameters.

type_same : (of : ResolvedType) → type_of_code (type_code of) ≡ of
type_same typed.Int = refl
type_same typed.Bool = refl
type_same typed.Text = refl
type_same (typed.Reference id p) = refl

result_same : (result : Option ResolvedType) → option_map type_of_code (option_map type_code result) ≡ result
result_same None = refl
result_same (Some of) = ap Some (type_same of)

field_same : (f : Field) → field_of_code (field_code f) ≡ f
field_same f = ap (λ of. let made : Field = record f { of = of } in made) (type_same f.of)

-- a parameter of a type, with a permission at the exit
abbrev unnamed : ResolvedType → Perm → Param
unnamed of exit = record { name = []; of = of; exit = exit }

typed_same : (table : ClassTable) (of : ResolvedType) (exit : Perm) → IsExitOf table of exit
    → unnamed (type_of_param (param_type_code of exit)) (exit_of_param (param_type_code of exit)) ≡ unnamed of exit
typed_same table typed.Int exit is = ap (unnamed typed.Int) (sym is)
typed_same table typed.Bool exit is = ap (unnamed typed.Bool) (sym is)
typed_same table typed.Text exit is = ap (unnamed typed.Text) (sym is)
typed_same table (typed.Reference id p) exit is = refl

param_same : (table : ClassTable) (p : Param) → IsParam table p → param_of_code (param_code p) ≡ param_without_name p
param_same table p is = typed_same table p.of p.exit is.exit

-- Constructors and transactions.

-- each parameter meets its conditions
abbrev HasParams : ClassTable → Signature → Type 0
HasParams table s = All (IsParam table) s.params

signed_same : (table : ClassTable) (constructs : Bool) (s : Signature) (slots : ℕ) (code : List Instruction) → HasParams table s
    → signature_of_code (signed_body constructs s slots code) ≡ signature_without_names s
signed_same table constructs s slots code all =
    ap (λ b. made b (map param_of_code (map param_code s.params)) (option_map type_of_code (option_map type_code s.result)))
    (first_mark s.private constructs (not constructs && is_shared (permission_of s.entry)))
    ∙ ap (λ ps. made s.private ps (option_map type_of_code (option_map type_code s.result)))
    (both_maps (IsParam table) param_code param_of_code param_without_name (param_same table) s.params all)
    ∙ ap (made s.private (map param_without_name s.params)) (result_same s.result)
  where
    made : Bool → List Param → Option ResolvedType → Signature
    made private params result =
        record { name = s.name; private = private; entry = s.entry; exit = s.exit; params = params; result = result; listed = [] }

signature_same : (table : ClassTable) (id : ContractId) (own : Contract) (tx : TxId) (s : Signature) (body : Option SilicaBody)
    → HasParams table s → signature_of_code (emitted_body table id own tx s body) ≡ signature_without_names s
signature_same table id own tx s None all = signed_same table (constructs table id tx.0) s 0 [] all
signature_same table id own tx s (Some body) all =
    signed_same table (constructs table id tx.0) s (body.slots + scratch_of_terms body.terms)
    (code_of_body table id own tx s body) all

signatures_same : (table : ClassTable) (bodies : List SilicaBody) (id : ContractId) (own : Contract) (n : ℕ) (ss : List Signature)
    → All (HasParams table) ss → map signature_of_code (emitted_bodies table bodies id own n ss) ≡ map signature_without_names ss
signatures_same table bodies id own n [] all = refl
signatures_same table bodies id own n (s ∷ ss) all =
    ap (λ t. t ∷ map signature_of_code (emitted_bodies table bodies id own (n + 1) ss))
    (signature_same table id own (tx_id n) s (find (is_terms_of id (tx_id n)) bodies) (all_first (HasParams table) s ss all))
    ∙ ap (λ ts. signature_without_names s ∷ ts)
    (signatures_same table bodies id own (n + 1) ss (all_rest (HasParams table) s ss all))

transactions_typed : (table : ClassTable) (own : Contract) (ss : List Signature) → All (IsTransaction table own) ss
    → All (HasParams table) ss
transactions_typed table own ss all = λ k d low. (all k d low).signature.params

all_typed : (table : ClassTable) (own : Contract) (ss : List Signature) → IsSomeAnd (slice_get ss 0) (IsConstructor table own)
    → All (IsTransaction table own) (drop 1 ss) → All (HasParams table) ss
all_typed table own [] first all = absurd first
all_typed table own (s ∷ ss) first all = each
  where
    each : All (HasParams table) (s ∷ ss)
    each zero d low = first.signature.params
    each (suc k) d low = (all k d (let less : k < length ss = omega arith in less)).signature.params

-- Contracts.

implements_same : (i : Option ContractId) → interface_of (implements_code i) ≡ i
implements_same None = refl
implements_same (Some id) = refl

-- the place of the constructor, and that each signature has its parameters
record IsEmittedAs (table : ClassTable) (bodies : List SilicaBody) (id : ContractId) (own : Contract) : Type 0 where
  constructor_at : constructor_number (emitted_contract table bodies id own) ≡ own.constructor
  typed : All (HasParams table) own.transactions

no_place : (table : ClassTable) (bodies : List SilicaBody) (id : ContractId) (own : Contract) (n : ℕ) (ss : List Signature)
    → ((m : ℕ) → constructs table id m ≡ false)
    → position_or_len is_constructor (emitted_bodies table bodies id own n ss) ≡ length (emitted_bodies table bodies id own n ss)
no_place table bodies id own n [] none = refl
no_place table bodies id own n (s ∷ ss) none =
    ap (λ t. cond (not t) (1 + position_or_len is_constructor (emitted_bodies table bodies id own (n + 1) ss)) 0)
    (constructor_marked table id own (tx_id n) s (find (is_terms_of id (tx_id n)) bodies) ∙ none n)
    ∙ one_more (no_place table bodies id own (n + 1) ss none)
  where
    one_more : {m k : ℕ} → m ≡ k → 1 + m ≡ suc k
    one_more e = omega (arith, e)

emitted_as : (table : ClassTable) (bodies : List SilicaBody) → IsClassTable table → (id : ContractId) (own : Contract)
    → contract_at table id ≡ Some own
    → IsEmittedAs table bodies id own
emitted_as table bodies conditions id own e = by_kind own.interface refl
  where
    c : IsContract table own
    c = contract_meets table conditions id own e

    by_kind : (b : Bool) → own.interface ≡ b → IsEmittedAs table bodies id own
    by_kind true interface =
        let bs = emitted_bodies table bodies id own 0 own.transactions in
        let none = no_place table bodies id own 0 own.transactions
        (λ m. constructs_so table id own e m ∙ ap (λ b. not b && nat_eq m 0) interface) in
        let place : position is_constructor bs ≡ None =
        ap (λ n. cond (nat_lt n (length bs)) (Some n) None) none
        ∙ ap (λ b. cond b (Some (length bs)) None) (le-ltb (length bs) (length bs) (omega arith)) in
        record {
          constructor_at = ap (option_map (λ n. let made : TxId = record { 0 = n } in made)) place
              ∙ sym (interface_constructs_none table own c interface);
          typed = transactions_typed table own own.transactions
              (subst (λ b. All (IsTransaction table own)
              (if b then own.transactions else drop 1 own.transactions)) interface c.transactions);
        }
    by_kind false plain =
        let first = constructor_first table own c plain in
        record {
          constructor_at = ap (option_map (λ n. let made : TxId = record { 0 = n } in made))
              (constructor_there table bodies id own own.transactions e plain first.1) ∙ sym first.0;
          typed = all_typed table own own.transactions first.1
              (subst (λ b. All (IsTransaction table own)
              (if b then own.transactions else drop 1 own.transactions)) plain c.transactions);
        }

contract_made : (table : ClassTable) (bodies : List SilicaBody) → IsClassTable table → (id : ContractId) (own : Contract)
    → contract_at table id ≡ Some own → contract_of_code (emitted_contract table bodies id own) ≡ contract_without_names own
contract_made table bodies conditions id own e =
    let emitted = emitted_contract table bodies id own in
    let is = emitted_as table bodies conditions id own e in
    let code = contract_of_code emitted in
    let asset = first_mark own.asset own.main own.interface in
    let main = second_mark own.asset own.main own.interface in
    let interface = third_mark own.asset own.main own.interface in
    ap (λ b. let made : Contract = record code { asset = b } in made) asset
    ∙ ap (λ b. let made : Contract = record code { asset = own.asset; main = b } in made) main
    ∙ ap (λ b. let made : Contract = record own {
      interface = b;
      implements = code.implements;
      fields = code.fields;
      constructor = code.constructor;
      transactions = code.transactions;
    } in made) interface
    ∙ ap (λ i. let made : Contract = record own {
      implements = i;
      fields = code.fields;
      constructor = code.constructor;
      transactions = code.transactions;
    } in made) (implements_same own.implements)
    ∙ ap (λ fs. let made : Contract = record own {
      fields = fs;
      constructor = code.constructor;
      transactions = code.transactions;
    } in made) (maps_back field_code field_of_code field_same own.fields)
    ∙ ap (λ n. let made : Contract = record own { constructor = n; transactions = code.transactions } in made) is.constructor_at
    ∙ ap (λ ts. let made : Contract = record own { transactions = ts } in made)
    (signatures_same table bodies id own 0 own.transactions is.typed)

contracts_made : (table : ClassTable) (bodies : List SilicaBody) → IsClassTable table → (n : ℕ) (cs : List Contract)
    → ((k : ℕ) → slice_get table.contracts (n + k) ≡ slice_get cs k)
    → map contract_of_code (emitted_contracts table bodies n cs) ≡ map contract_without_names cs
contracts_made table bodies conditions n [] at = refl
contracts_made table bodies conditions n (c ∷ cs) at =
    let none_more : n ≡ n + 0 = omega arith in
    ap (λ d. d ∷ map contract_of_code (emitted_contracts table bodies (n + 1) cs))
    (contract_made table bodies conditions (contract_id n) c (ap (slice_get table.contracts) none_more ∙ at 0))
    ∙ ap (λ ds. contract_without_names c ∷ ds)
    (contracts_made table bodies conditions (n + 1) cs
    (λ k. let e : n + 1 + k ≡ n + suc k = omega arith in ap (slice_get table.contracts) e ∙ at (suc k)))

pub tables_agree : EmittedTablesAgree
tables_agree table bodies conditions =
    ap (λ cs. let made : ClassTable = record { contracts = cs; bodies = [] } in made)
    (contracts_made table bodies conditions 0 table.contracts
    (λ k. let e : 0 + k ≡ k = omega arith in ap (slice_get table.contracts) e))
