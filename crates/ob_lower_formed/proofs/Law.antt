-- The law: the terms to which a well-formed body may be lowered are well-formed.
use Rattle.std.proofs.Common.{zero, suc, List, [], ◌∷◌, All, IsSomeAnd, refl, sym, subst, arith}
use Rattle.ob_table.specs.Tables.{contract_at, signature_at}
use Rattle.ob_table_spec.specs.WellFormed.{frame_of, IsBodyOf, IsWellFormed}
use Rattle.ob_silica_formed.specs.Holdings.{held_at_start}
use Rattle.ob_silica_formed.specs.WellFormedTerms.{AreWellFormed, IsWellFormedTerms}
use Rattle.ob_lower_spec.specs.BodyTerms.{LowersWith}
use Rattle.ob_lower_formed.specs.Law.{HasFewSlots, LoweringIsWellFormed, LoweringIsAllWellFormed}
use Rattle.ob_lower_formed.proofs.Operands.{some_so, and_so}
use Rattle.ob_lower_formed.proofs.Bodies.{body_made}

pub lowering_makes_well : LoweringIsWellFormed
lowering_makes_well table body lowered made low few =
    let c = some_so (contract_at table body.contract) (λ own. IsSomeAnd (signature_at own body.tx) (λ s. LowersWith table own s body lowered)) low in
    let t = some_so (signature_at c.0 body.tx) (λ s. LowersWith table c.0 s body lowered) c.2 in
    let of : IsSomeAnd (signature_at c.0 body.tx) (λ s. IsBodyOf table body c.0 s) =
    subst (λ o. IsSomeAnd o (λ own. IsSomeAnd (signature_at own body.tx) (λ s. IsBodyOf table body own s))) c.1 made in
    let is : IsBodyOf table body c.0 t.0 = subst (λ o. IsSomeAnd o (λ s. IsBodyOf table body c.0 s)) t.1 of in
    let whole : AreWellFormed (frame_of table body.contract c.0 t.0) (held_at_start body.contract t.0.params) lowered =
    body_made table body.contract c.0 t.0 body lowered refl is t.2 few in
    subst (λ id. IsSomeAnd (contract_at table id) (λ own. IsSomeAnd (signature_at own lowered.tx) (λ s. AreWellFormed (frame_of table id own s) (held_at_start id s.params) lowered))) (sym t.2.contract)
    (and_so (contract_at table body.contract) (λ own. IsSomeAnd (signature_at own lowered.tx) (λ s. AreWellFormed (frame_of table body.contract own s) (held_at_start body.contract s.params) lowered)) c.0 c.1
    (subst (λ tx. IsSomeAnd (signature_at c.0 tx) (λ s. AreWellFormed (frame_of table body.contract c.0 s) (held_at_start body.contract s.params) lowered)) (sym t.2.tx)
    (and_so (signature_at c.0 body.tx) (λ s. AreWellFormed (frame_of table body.contract c.0 s) (held_at_start body.contract s.params) lowered) t.0 t.1 whole)))

all_tail : {A : Type 0} (P : A → Type 0) (x : A) (xs : List A) → All P (x ∷ xs) → All P xs
all_tail P x xs h k d lt = h (suc k) d (omega arith)

all_head : {A : Type 0} (P : A → Type 0) (x : A) (xs : List A) → All P (x ∷ xs) → P x
all_head P x xs h = h zero x (omega arith)

all_cons : {A : Type 0} (P : A → Type 0) (x : A) (xs : List A) → P x → All P xs → All P (x ∷ xs)
all_cons P x xs p h zero d lt = p
all_cons P x xs p h (suc k) d lt = h k d (omega arith)

all_none : {A : Type 0} (P : A → Type 0) → All P []
all_none P k d lt = absurd (omega arith)

pub lowering_makes_all_well : LoweringIsAllWellFormed
lowering_makes_all_well table [] [] made low few = all_none (IsWellFormedTerms table)
lowering_makes_all_well table [] (l ∷ ls) made low few = absurd low
lowering_makes_all_well table (b ∷ bs) [] made low few = absurd low
lowering_makes_all_well table (b ∷ bs) (l ∷ ls) made low few =
    all_cons (IsWellFormedTerms table) l ls
    (lowering_makes_well table b l (all_head (IsWellFormed table) b bs made) low.0 (all_head HasFewSlots l ls few))
    (lowering_makes_all_well table bs ls (all_tail (IsWellFormed table) b bs made) low.1 (all_tail HasFewSlots l ls few))
