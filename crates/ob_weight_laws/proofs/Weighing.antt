-- The bytes of an image, against what its program weighs.
use Rattle.std.proofs.Common.{◌≡◌, ◌≤◌, ℕ, zero, suc, ◌+◌, List, [], ◌∷◌, length, map, take, drop, Option, Some, None, refl, ap, ◌∙◌, subst, arith, add-one, length-append}
use Rattle.std.specs.Prelude.{find, slice_get}
use Rattle.ob_base.specs.declared.id.ContractId.{ContractId}
use Rattle.ob_base.specs.declared.id.TxId.{TxId}
use Rattle.ob_table.specs.Tables.{ClassTable}
use Rattle.ob_table.specs.declared.contract.Contract.{Contract}
use Rattle.ob_table.specs.declared.contract.Signature.{Signature}
use Rattle.ob_table_spec.specs.WellFormed.{is_constructor}
use Rattle.ob_silica.specs.Terms.{SilicaBody}
use Rattle.ob_silica_formed.specs.Holdings.{held_at_start}
use Rattle.ob_silica_steps.specs.Configurations.{is_terms_of}
use Rattle.ob_format_spec.specs.Combinators.{each_bytes}
use Rattle.ob_code.specs.Images.{body, contract, image}
use Rattle.ob_emit_spec.specs.Emission.{scratch_of_terms}
use Rattle.ob_emit_spec.specs.EmittedImages.{tx_id, emitted_body, emitted_bodies, emitted_contract, emitted_contracts, frame_of_body, code_of_body, image_of}
use Rattle.ob_emit_spec.specs.Weights.{bare_body, bare_contract, bare_image, weight_of_terms, weight_of_bodies}
use Rattle.ob_weight_laws.specs.Bodies.{bodies_in_order, count_bodies, contract_in_order, contracts_in_order}
use Rattle.ob_weight_laws.specs.Counting.{size_of_text, size_of_states, size_of_fields, size_of_signature, size_of_signatures, size_of_contract, size_of_contracts}
use Rattle.ob_weight_laws.specs.Law.{CountsDeclared, WithinWeight}
use Rattle.ob_weight_laws.proofs.Declared.{size_of_code, body_counted, contract_counted, image_counted}
use Rattle.ob_weight_laws.proofs.Forms.{terms_within}
use Rattle.ob_weight_laws.proofs.Order.{found_in_order}

-- Without instructions.

no_code : (n : ℕ) → n + 0 ≡ n
no_code n = omega arith

bare_counted : (table : ClassTable) (id : ContractId) (own : Contract) (tx : TxId) (s : Signature) (b : Option SilicaBody)
    → length (body.bytes (bare_body (emitted_body table id own tx s b))) ≡ size_of_signature s
bare_counted table id own tx s None = body_counted (is_constructor table id tx.0) s 0 [] ∙ no_code (size_of_signature s)
bare_counted table id own tx s (Some b) =
    body_counted (is_constructor table id tx.0) s (b.slots + scratch_of_terms b.terms) [] ∙ no_code (size_of_signature s)

bare_bodies_counted : (table : ClassTable) (bodies : List SilicaBody) (id : ContractId) (own : Contract) (n : ℕ)
    (ss : List Signature)
    → length (each_bytes body.bytes (map bare_body (emitted_bodies table bodies id own n ss))) ≡ size_of_signatures ss
bare_bodies_counted table bodies id own n [] = refl
bare_bodies_counted table bodies id own n (s ∷ ss) =
    length-append (body.bytes (bare_body (emitted_body table id own (tx_id n) s (find (is_terms_of id (tx_id n)) bodies))))
    (each_bytes body.bytes (map bare_body (emitted_bodies table bodies id own (n + 1) ss)))
    ∙ ap (λ k. k + length (each_bytes body.bytes (map bare_body (emitted_bodies table bodies id own (n + 1) ss))))
    (bare_counted table id own (tx_id n) s (find (is_terms_of id (tx_id n)) bodies))
    ∙ ap (λ k. size_of_signature s + k) (bare_bodies_counted table bodies id own (n + 1) ss)

bare_contracts_counted : (table : ClassTable) (bodies : List SilicaBody) (n : ℕ) (cs : List Contract)
    → length (each_bytes contract.bytes (map bare_contract (emitted_contracts table bodies n cs))) ≡ size_of_contracts cs
bare_contracts_counted table bodies n [] = refl
bare_contracts_counted table bodies n (c ∷ cs) =
    length-append (contract.bytes (bare_contract (emitted_contract table bodies (record { 0 = n }) c)))
    (each_bytes contract.bytes (map bare_contract (emitted_contracts table bodies (n + 1) cs)))
    ∙ ap (λ k. k + length (each_bytes contract.bytes (map bare_contract (emitted_contracts table bodies (n + 1) cs))))
    (contract_counted c (map bare_body (emitted_bodies table bodies (record { 0 = n }) c 0 c.transactions))
    (size_of_signatures c.transactions)
    (bare_bodies_counted table bodies (record { 0 = n }) c 0 c.transactions))
    ∙ ap (λ k. size_of_contract c + k) (bare_contracts_counted table bodies (n + 1) cs)

pub declared_counted : CountsDeclared
declared_counted table bodies =
    image_counted (map bare_contract (emitted_contracts table bodies 0 table.contracts)) (size_of_contracts table.contracts)
    (bare_contracts_counted table bodies 0 table.contracts)

-- With instructions.

-- what the body that is found weighs
abbrev weight_found : Option SilicaBody → ℕ
weight_found None = 0
weight_found (Some b) = weight_of_terms b.terms

body_within : (table : ClassTable) (id : ContractId) (own : Contract) (tx : TxId) (s : Signature) (b : Option SilicaBody)
    → length (body.bytes (emitted_body table id own tx s b)) ≤ size_of_signature s + weight_found b
body_within table id own tx s None =
    let e = body_counted (is_constructor table id tx.0) s 0 [] in omega (arith, e)
body_within table id own tx s (Some b) =
    let e = body_counted (is_constructor table id tx.0) s (b.slots + scratch_of_terms b.terms)
    (code_of_body table id own tx s b) in
    let w = terms_within (frame_of_body table id own tx s b) (held_at_start id s.params) b.terms 0 in
    most (length (body.bytes (emitted_body table id own tx s (Some b)))) (size_of_signature s)
    (size_of_code (code_of_body table id own tx s b))
    (weight_of_terms b.terms) e w
  where
    most : (l s c w : ℕ) → l ≡ s + c → c ≤ w → l ≤ s + w
    most l s c w e h = omega (arith, e, h)

-- a body and those after it weigh as much as those from it on
one_weighed : (bodies : List SilicaBody) (n : ℕ)
    → weight_found (slice_get bodies n) + weight_of_bodies (drop (suc n) bodies) ≤ weight_of_bodies (drop n bodies)
one_weighed [] zero = omega arith
one_weighed [] (suc n) = omega arith
one_weighed (b ∷ bodies) zero = omega arith
one_weighed (b ∷ bodies) (suc n) = one_weighed bodies n

row_within : (table : ClassTable) (bodies : List SilicaBody) (id : ContractId) (own : Contract) (n : ℕ) (ss : List Signature)
    → length (each_bytes body.bytes (bodies_in_order table bodies id own n ss))
    ≤ size_of_signatures ss + weight_of_bodies (drop n bodies)
row_within table bodies id own n [] = omega arith
row_within table bodies id own n (s ∷ ss) =
    most (length (each_bytes body.bytes (bodies_in_order table bodies id own n (s ∷ ss))))
    (length (body.bytes (emitted_body table id own (tx_id n) s (slice_get bodies n))))
    (length (each_bytes body.bytes (bodies_in_order table bodies id own (n + 1) ss)))
    (size_of_signature s) (size_of_signatures ss) (weight_found (slice_get bodies n)) (weight_of_bodies (drop (suc n) bodies))
    (weight_of_bodies (drop n bodies))
    (length-append (body.bytes (emitted_body table id own (tx_id n) s (slice_get bodies n)))
    (each_bytes body.bytes (bodies_in_order table bodies id own (n + 1) ss)))
    (body_within table id own (tx_id n) s (slice_get bodies n))
    (subst (λ (k : ℕ). length (each_bytes body.bytes (bodies_in_order table bodies id own (n + 1) ss))
    ≤ size_of_signatures ss + weight_of_bodies (drop k bodies))
    (add-one n) (row_within table bodies id own (n + 1) ss))
    (one_weighed bodies n)
  where
    most : (l a b s t w r all : ℕ) → l ≡ a + b → a ≤ s + w → b ≤ t + r → w + r ≤ all → l ≤ (s + t) + all
    most l a b s t w r all e h k m = omega (arith, e, h, k, m)

parts_weighed : (bodies : List SilicaBody) (n : ℕ) → weight_of_bodies (take n bodies) + weight_of_bodies (drop n bodies)
    ≡ weight_of_bodies bodies
parts_weighed [] zero = refl
parts_weighed [] (suc n) = refl
parts_weighed (b ∷ bodies) zero = none (weight_of_bodies (b ∷ bodies))
  where
    none : (n : ℕ) → 0 + n ≡ n
    none n = omega arith
parts_weighed (b ∷ bodies) (suc n) =
    sum (weight_of_terms b.terms) (weight_of_bodies (take n bodies)) (weight_of_bodies (drop n bodies))
    (weight_of_bodies bodies) (parts_weighed bodies n)
  where
    sum : (w a c d : ℕ) → a + c ≡ d → (w + a) + c ≡ w + d
    sum w a c d e = omega (arith, e)

contracts_within : (table : ClassTable) (bodies : List SilicaBody) (n : ℕ) (cs : List Contract)
    → length (each_bytes contract.bytes (contracts_in_order table bodies n cs)) ≤ size_of_contracts cs + weight_of_bodies bodies
contracts_within table bodies n [] = omega arith
contracts_within table bodies n (c ∷ cs) =
    most (length (each_bytes contract.bytes (contracts_in_order table bodies n (c ∷ cs))))
    (length (contract.bytes (contract_in_order table mine (record { 0 = n }) c)))
    (length (each_bytes contract.bytes (contracts_in_order table others (n + 1) cs)))
    (size_of_text c.name + size_of_states c.states + size_of_fields c.fields)
    (length (each_bytes body.bytes (bodies_in_order table mine (record { 0 = n }) c 0 c.transactions)))
    (size_of_signatures c.transactions) (size_of_contracts cs) (weight_of_bodies mine) (weight_of_bodies others)
    (weight_of_bodies bodies)
    (length-append (contract.bytes (contract_in_order table mine (record { 0 = n }) c))
    (each_bytes contract.bytes (contracts_in_order table others (n + 1) cs)))
    (contract_counted c (bodies_in_order table mine (record { 0 = n }) c 0 c.transactions)
    (length (each_bytes body.bytes (bodies_in_order table mine (record { 0 = n }) c 0 c.transactions))) refl)
    (row_within table mine (record { 0 = n }) c 0 c.transactions)
    (contracts_within table others (n + 1) cs)
    (parts_weighed bodies (count_bodies c))
  where
    mine : List SilicaBody
    mine = take (count_bodies c) bodies

    others : List SilicaBody
    others = drop (count_bodies c) bodies

    most : (l a b h r s t w v all : ℕ) → l ≡ a + b → a ≡ h + r + 17 → r ≤ s + w → b ≤ t + v → w + v ≡ all
        → l ≤ ((h + s + 17) + t) + all
    most l a b h r s t w v all e f g i j = omega (arith, e, f, g, i, j)

pub within_weight : WithinWeight
within_weight table bodies has =
    most (length (image.bytes (image_of table bodies))) (length
    (each_bytes contract.bytes (contracts_in_order table bodies 0 table.contracts)))
    (size_of_contracts table.contracts) (weight_of_bodies bodies) (length (image.bytes (bare_image (image_of table bodies))))
    (ap (λ codes. length (image.bytes (record { contracts = codes }))) (found_in_order table bodies has)
    ∙ image_counted (contracts_in_order table bodies 0 table.contracts)
    (length (each_bytes contract.bytes (contracts_in_order table bodies 0 table.contracts))) refl)
    (contracts_within table bodies 0 table.contracts)
    (declared_counted table bodies)
  where
    most : (l b s w d : ℕ) → l ≡ b + 8 → b ≤ s + w → d ≡ s + 8 → l ≤ d + w
    most l b s w d e h f = omega (arith, e, h, f)
