-- A program whose bodies may be lowered to its terms has terms for each constructor and transaction.
use Rattle.std.proofs.Common.{◌≡◌, ℕ, zero, suc, ◌+◌, ◌<◌, Bool, true, false, List, [], ◌∷◌, length, Option, Some, None, refl, sym, ◌∙◌, subst, arith, cond}
use Rattle.std.specs.Prelude.{◌||◌, ◌&&◌, nat_eq, map, find, option_map, is_some, slice_get, IsSomeAnd, if◌then◌else◌}
use Rattle.std.specs.List.{list_any, range_with_len}
use Rattle.std.proofs.lemmas.Bool.{or_left, or_right}
use Rattle.std.proofs.lemmas.List.Folds.{list_any-append}
use Rattle.ob_base.specs.declared.id.ContractId.{ContractId}
use Rattle.ob_base.specs.declared.id.TxId.{TxId}
use Rattle.ob_table.specs.Statements.{ResolvedBody}
use Rattle.ob_table.specs.Tables.{ClassTable, contract_at, signature_at}
use Rattle.ob_table.specs.declared.contract.Contract.{Contract}
use Rattle.ob_table.specs.declared.contract.Signature.{Signature}
use Rattle.ob_table_spec.specs.WellFormed.{place_of_body, places_from, HasBodies}
use Rattle.ob_silica.specs.Terms.{SilicaBody}
use Rattle.ob_silica_steps.specs.Configurations.{SilicaProgram, is_terms_of}
use Rattle.ob_lower_spec.specs.BodyTerms.{Lowers, LowersWith, AllLower}
use Rattle.ob_coherent_spec.specs.Remaining.{HasTerms}

-- whether a place is that of this contract's transaction
abbrev is_place : ℕ → ℕ → ℕ × ℕ → Bool
is_place c t p = nat_eq p.0 c && nat_eq p.1 t

both_same : (m n : ℕ) → (nat_eq m m && nat_eq n n) ≡ true
both_same m n = grind arith

none_more : (t : ℕ) → 0 + t ≡ t
none_more t = omega arith

-- the numbers from one on
in_range : (c t a n : ℕ) (k : ℕ) → k < n → a + k ≡ t → list_any (is_place c t) (map (λ tx. (c, tx)) (range_with_len a n)) ≡ true
in_range c t a zero k lt e = absurd (omega (arith, lt))
in_range c t a (suc n) zero lt e = or_left (is_place c t (c, a)) _ (subst (λ z. is_place c t (c, z) ≡ true) (first_is a t e) (both_same c t))
  where
    first_is : (a t : ℕ) → a + 0 ≡ t → t ≡ a
    first_is a t e = omega (arith, e)
in_range c t a (suc n) (suc k) lt e = or_right (is_place c t (c, a)) _ (in_range c t (a + 1) n k (omega (arith, lt)) (omega (arith, e)))

-- a signature's number is below how many there are
number_below : (ss : List Signature) (k : ℕ) (s : Signature) → slice_get ss k ≡ Some s → k < length ss
number_below [] k s e = absurd (cc)
number_below (x ∷ ss) zero s e = omega arith
number_below (x ∷ ss) (suc k) s e = let lt = number_below ss k s e in omega (arith, lt)

-- each constructor and transaction of a contract has its place
has_place : (n : ℕ) (cs : List Contract) (k : ℕ) (own : Contract) (t : ℕ) → slice_get cs k ≡ Some own → own.interface ≡ false → t < length own.transactions
    → list_any (is_place (n + k) t) (places_from n cs) ≡ true
has_place n [] k own t e class lt = absurd (cc)
has_place n (c ∷ cs) zero own t e class lt =
    list_any-append (is_place (n + 0) t) (if c.interface then [] else map (λ tx. (n, tx)) (range_with_len 0 (length c.transactions))) (places_from (n + 1) cs)
    ∙ or_left _ _ (subst (λ (z : Contract). list_any (is_place (n + 0) t) (if z.interface then [] else map (λ tx. (n, tx)) (range_with_len 0 (length z.transactions))) ≡ true) (sym (same_contract e))
    (rw class (subst (λ m. list_any (is_place m t) (map (λ tx. (n, tx)) (range_with_len 0 (length own.transactions))) ≡ true) (zero_more n) (in_range n t 0 (length own.transactions) t lt (none_more t)))))
  where
    same_contract : Some c ≡ Some own → c ≡ own
    same_contract e = cc

    zero_more : (n : ℕ) → n ≡ n + 0
    zero_more n = omega arith
has_place n (c ∷ cs) (suc k) own t e class lt =
    list_any-append (is_place (n + suc k) t) (if c.interface then [] else map (λ tx. (n, tx)) (range_with_len 0 (length c.transactions))) (places_from (n + 1) cs)
    ∙ or_right (list_any (is_place (n + suc k) t) (if c.interface then [] else map (λ tx. (n, tx)) (range_with_len 0 (length c.transactions)))) _
    (subst (λ m. list_any (is_place m t) (places_from (n + 1) cs) ≡ true) (more n k) (has_place (n + 1) cs k own t e class lt))
  where
    more : (n k : ℕ) → n + 1 + k ≡ n + suc k
    more n k = omega arith

-- from places to bodies, and from these to terms
has_body : (c t : ℕ) (bs : List ResolvedBody) → list_any (is_place c t) (map place_of_body bs) ≡ true → list_any (λ (b : ResolvedBody). nat_eq b.contract.0 c && nat_eq b.tx.0 t) bs ≡ true
has_body c t [] e = absurd (cc)
has_body c t (b ∷ bs) e = by_first (is_place c t (place_of_body b)) refl (λ z. has_body c t bs z) e
  where
    by_first : (z : Bool) → is_place c t (place_of_body b) ≡ z
        → (list_any (is_place c t) (map place_of_body bs) ≡ true → list_any (λ (b : ResolvedBody). nat_eq b.contract.0 c && nat_eq b.tx.0 t) bs ≡ true)
        → (z || list_any (is_place c t) (map place_of_body bs)) ≡ true
        → ((nat_eq b.contract.0 c && nat_eq b.tx.0 t) || list_any (λ (b : ResolvedBody). nat_eq b.contract.0 c && nat_eq b.tx.0 t) bs) ≡ true
    by_first true q go e = or_left _ _ q
    by_first false q go e = or_right (nat_eq b.contract.0 c && nat_eq b.tx.0 t) _ (go e)

same_place_of : (table : ClassTable) (b : ResolvedBody) (l : SilicaBody) → Lowers table b l → (l.contract ≡ b.contract) × (l.tx ≡ b.tx)
same_place_of table b l x = by_contract (contract_at table b.contract) x
  where
    by_signature : (own : Contract) (o : Option Signature) → IsSomeAnd o (λ s. LowersWith table own s b l) → (l.contract ≡ b.contract) × (l.tx ≡ b.tx)
    by_signature own None x = absurd x
    by_signature own (Some s) x = (x.contract, x.tx)

    by_contract : (o : Option Contract) → IsSomeAnd o (λ own. IsSomeAnd (signature_at own b.tx) (λ s. LowersWith table own s b l)) → (l.contract ≡ b.contract) × (l.tx ≡ b.tx)
    by_contract None x = absurd x
    by_contract (Some own) x = by_signature own (signature_at own b.tx) x

has_lowered : (table : ClassTable) (contract : ContractId) (tx : TxId) (bs : List ResolvedBody) (ls : List SilicaBody) → AllLower table bs ls
    → list_any (λ (b : ResolvedBody). nat_eq b.contract.0 contract.0 && nat_eq b.tx.0 tx.0) bs ≡ true → is_some (find (is_terms_of contract tx) ls) ≡ true
has_lowered table contract tx [] [] all e = absurd (cc)
has_lowered table contract tx [] (l ∷ ls) all e = absurd all
has_lowered table contract tx (b ∷ bs) [] all e = absurd all
has_lowered table contract tx (b ∷ bs) (l ∷ ls) all e =
    by_first (is_terms_of contract tx l) (nat_eq b.contract.0 contract.0 && nat_eq b.tx.0 tx.0) (same_test (same_place_of table b l all.0)) (λ z. has_lowered table contract tx bs ls all.1 z) e
  where
    same_test : (l.contract ≡ b.contract) × (l.tx ≡ b.tx) → is_terms_of contract tx l ≡ (nat_eq b.contract.0 contract.0 && nat_eq b.tx.0 tx.0)
    same_test p = rw (p.0, p.1) refl

    by_first : (x y : Bool) → x ≡ y
        → (list_any (λ (b : ResolvedBody). nat_eq b.contract.0 contract.0 && nat_eq b.tx.0 tx.0) bs ≡ true → is_some (find (is_terms_of contract tx) ls) ≡ true)
        → (y || list_any (λ (b : ResolvedBody). nat_eq b.contract.0 contract.0 && nat_eq b.tx.0 tx.0) bs) ≡ true
        → is_some (cond x (Some l) (find (is_terms_of contract tx) ls)) ≡ true
    by_first true y q go e = refl
    by_first false true q go e = absurd (cc)
    by_first false false q go e = go e

mapped_some : {A B : Type 0} (f : A → B) (o : Option A) → is_some o ≡ true → is_some (option_map f o) ≡ true
mapped_some f None e = absurd (cc)
mapped_some f (Some a) e = refl

-- there are terms for each constructor and transaction
pub lowered_has_terms : (program : SilicaProgram) → HasBodies program.table → AllLower program.table program.table.bodies program.bodies → HasTerms program
lowered_has_terms program each all contract tx own s found class is =
    mapped_some (λ (body : SilicaBody). body.terms) (find (is_terms_of contract tx) program.bodies)
    (has_lowered program.table contract tx program.table.bodies program.bodies all
    (has_body contract.0 tx.0 program.table.bodies
    (subst (λ ps. list_any (is_place contract.0 tx.0) ps ≡ true) (sym each)
    (subst (λ n. list_any (is_place n tx.0) (places_from 0 program.table.contracts) ≡ true) (none_more contract.0)
    (has_place 0 program.table.contracts contract.0 own tx.0 found class (number_below own.transactions tx.0 s is))))))
