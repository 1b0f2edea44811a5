-- The bodies of a class table and what they are lowered to.
use Rattle.std.proofs.Common.{◌≡◌, suc, Bool, true, false, ◌&&◌, List, [], ◌∷◌, Some, None, refl, sym, ap, ◌∙◌, subst, arith, eqb-true, true≢false, cond}
use Rattle.std.specs.Prelude.{option_map, nat_eq, find, All, IsSomeAnd}
use Rattle.ob_base.specs.declared.id.ContractId.{ContractId}
use Rattle.ob_base.specs.declared.id.TxId.{TxId}
use Rattle.ob_table.specs.Statements.{ResolvedBody}
use Rattle.ob_table.specs.Tables.{ClassTable, contract_at, signature_at, is_body_of}
use Rattle.ob_table.specs.declared.contract.Contract.{Contract}
use Rattle.ob_table.specs.declared.contract.Signature.{Signature}
use Rattle.ob_table_spec.specs.WellFormed.{IsBodyOf, IsWellFormed}
use Rattle.ob_silica.specs.Terms.{SilicaBody}
use Rattle.ob_silica_steps.specs.Configurations.{SilicaProgram, is_terms_of}
use Rattle.ob_lower_spec.specs.BodyTerms.{LowersWith, Lowers, AllLower}
use Rattle.ob_lower_correct.proofs.Expressions.{called_so}
use Rattle.ob_lower_correct.proofs.Entering.{BodyPair, neither, pair}

-- what is found of a body on both sides
pub data FoundPair (table : ClassTable) (contract : ContractId) (tx : TxId) (bs : List ResolvedBody) (ls : List SilicaBody) : Type 0 where
  no_body : find (is_body_of contract tx) bs ≡ None → find (is_terms_of contract tx) ls ≡ None → FoundPair table contract tx bs ls
  body_pair : (b : ResolvedBody) (l : SilicaBody) → find (is_body_of contract tx) bs ≡ Some b → find (is_terms_of contract tx) ls ≡ Some l → is_body_of contract tx b ≡ true → Lowers table b l → IsWellFormed table b → FoundPair table contract tx bs ls

lowered_names : (table : ClassTable) (b : ResolvedBody) (l : SilicaBody) → Lowers table b l → (l.contract ≡ b.contract) × (l.tx ≡ b.tx)
lowered_names table b l low =
    let own = called_so (contract_at table b.contract) (λ own. IsSomeAnd (signature_at own b.tx) (λ s. LowersWith table own s b l)) low in
    let s = called_so (signature_at own.0 b.tx) (λ s. LowersWith table own.0 s b l) own.2 in
    (s.2.contract, s.2.tx)

all_tail : {A : Type 0} (P : A → Type 0) (x : A) (xs : List A) → All P (x ∷ xs) → All P xs
all_tail P x xs all = λ k d lt. all (suc k) d (omega (arith, lt))

pub find_pair : (table : ClassTable) (contract : ContractId) (tx : TxId) (bs : List ResolvedBody) (ls : List SilicaBody) → AllLower table bs ls → All (IsWellFormed table) bs → FoundPair table contract tx bs ls
find_pair table contract tx [] [] low well = no_body refl refl
find_pair table contract tx (b ∷ bs) (l ∷ ls) low well =
    let names = lowered_names table b l low.0 in
    by_first (is_body_of contract tx b) refl
    (ap (λ c. nat_eq c.0 contract.0 && nat_eq l.tx.0 tx.0) names.0 ∙ ap (λ t. nat_eq b.contract.0 contract.0 && nat_eq t.0 tx.0) names.1) low.0 (well 0 b (omega arith)) (find_pair table contract tx bs ls low.1 (all_tail (IsWellFormed table) b bs well))
  where
    by_first : (d : Bool) → is_body_of contract tx b ≡ d → is_terms_of contract tx l ≡ is_body_of contract tx b → Lowers table b l → IsWellFormed table b → FoundPair table contract tx bs ls → FoundPair table contract tx (b ∷ bs) (l ∷ ls)
    by_first true e same low well rest = body_pair b l (ap (λ d. cond d (Some b) (find (is_body_of contract tx) bs)) e) (ap (λ d. cond d (Some l) (find (is_terms_of contract tx) ls)) (same ∙ e)) e low well
    by_first false e same low well (no_body eb el) = no_body (ap (λ d. cond d (Some b) (find (is_body_of contract tx) bs)) e ∙ eb) (ap (λ d. cond d (Some l) (find (is_terms_of contract tx) ls)) (same ∙ e) ∙ el)
    by_first false e same low well (body_pair c m eb el ec lc wc) =
        body_pair c m (ap (λ d. cond d (Some b) (find (is_body_of contract tx) bs)) e ∙ eb) (ap (λ d. cond d (Some l) (find (is_terms_of contract tx) ls)) (same ∙ e) ∙ el) ec lc wc
find_pair table contract tx [] (l ∷ ls) low well = absurd low
find_pair table contract tx (b ∷ bs) [] low well = absurd low

pub both : (a b : Bool) → (a && b) ≡ true → (a ≡ true) × (b ≡ true)
both true b e = (refl, e)
both false b e = absurd (true≢false (sym e))

pub bodies_pair : (program : SilicaProgram) → AllLower program.table program.table.bodies program.bodies → All (IsWellFormed program.table) program.table.bodies
    → (contract : ContractId) (own : Contract) (tx : TxId) (g : Signature) → contract_at program.table contract ≡ Some own → signature_at own tx ≡ Some g → BodyPair program contract own tx g
bodies_pair program low well contract own tx g eown eg = by_found (find_pair program.table contract tx program.table.bodies program.bodies low well)
  where
    by_found : FoundPair program.table contract tx program.table.bodies program.bodies → BodyPair program contract own tx g
    by_found (no_body eb el) = neither eb (ap (option_map (λ (x : SilicaBody). x.terms)) el)
    by_found (body_pair b l eb el is lowers made) =
        let names = both (nat_eq b.contract.0 contract.0) (nat_eq b.tx.0 tx.0) is in
        let same_contract : b.contract ≡ contract = ap (λ n. record { 0 = n }) (eqb-true b.contract.0 contract.0 names.0) in
        let same_tx : b.tx ≡ tx = ap (λ n. record { 0 = n }) (eqb-true b.tx.0 tx.0 names.1) in
        let own_is : contract_at program.table b.contract ≡ Some own = ap (contract_at program.table) same_contract ∙ eown in
        let g_is : signature_at own b.tx ≡ Some g = ap (signature_at own) same_tx ∙ eg in
        pair b l eb (ap (option_map (λ (x : SilicaBody). x.terms)) el) same_contract
        (subst (λ o. IsSomeAnd o (λ s. LowersWith program.table own s b l)) g_is (subst (λ o. IsSomeAnd o (λ own. IsSomeAnd (signature_at own b.tx) (λ s. LowersWith program.table own s b l))) own_is lowers))
        (subst (λ o. IsSomeAnd o (λ s. IsBodyOf program.table b own s)) g_is (subst (λ o. IsSomeAnd o (λ own. IsSomeAnd (signature_at own b.tx) (λ s. IsBodyOf program.table b own s))) own_is made))
