-- Programs match, or one mismatch holds.
use Rattle.std.proofs.Common.{◌≡◌, ⊎_elim, ℕ, Option, Some, None, refl, sym, ap, subst, arith}
use Rattle.std.proofs.lemmas.Bool.{cases_lt}
use Rattle.std.proofs.lemmas.Option.{slice_get_within}
use Rattle.std.specs.Prelude.{IsTrue, IsSomeAnd}
use Rattle.ob_table.specs.Tables.{ClassTable, contract_at, contract_id, contract_named}
use Rattle.ob_table.specs.declared.contract.Contract.{Contract}
use Rattle.ob_upgrade_spec.specs.declared.Mismatch.{Mismatch}
use Rattle.ob_upgrade_spec.specs.declared.Mismatch.TheVariants.{Missing, Changed}
use Rattle.ob_upgrade_spec.specs.Matching.{is_same_contract, DeclaresSame, GoesOn, number_of, IsSo, IsMismatch}
use Rattle.ob_upgrade_laws.specs.Laws.{NamesakesAreThere, MatchesHaveNoMismatch, HaveOneMismatch}
use Rattle.ob_upgrade_laws.proofs.Kept.{kept}

pub namesakes_there : NamesakesAreThere
namesakes_there old new id c match is =
    let k = kept old new match id c is in
    subst (λ (r : Option Contract). IsSomeAnd r (λ d. IsTrue (is_same_contract old new c d))) (sym k.there) k.same

-- what is missing isn't there
never_there : {A : Type 0} (P : A → Type 0) (r : Option A) → r ≡ None → IsSomeAnd r P → ⊥
never_there P None e is = is
never_there P (Some x) e is = subst (λ o. IsSomeAnd o P) e is

-- of one thing nothing holds and doesn't
never_both : {A : Type 0} (P : A → Type 0) (r : Option A) → IsSomeAnd r (λ x. ¬ (P x)) → IsSomeAnd r P → ⊥
never_both P None isn holds = holds
never_both P (Some x) isn holds = isn holds

-- a contract that is missing or changed doesn't go on
never_goes : (old new : ClassTable) (m : Mismatch) (r : Option Contract) → IsSomeAnd r (IsSo old new m)
    → IsSomeAnd r (λ c. IsSomeAnd (contract_named new.contracts c.name) (DeclaresSame old new c)) → ⊥
never_goes old new m None is goes = goes
never_goes old new (Missing n) (Some c) is goes = never_there (DeclaresSame old new c) (contract_named new.contracts c.name) is goes
never_goes old new (Changed n) (Some c) is goes = never_both (DeclaresSame old new c) (contract_named new.contracts c.name) is goes

never_at : (old new : ClassTable) (m : Mismatch) → IsMismatch old new m → GoesOn old new (number_of m) → ⊥
never_at old new m is goes = never_goes old new m (contract_at old (contract_id (number_of m))) is.here goes

there_within : (old new : ClassTable) (m : Mismatch) (r : Option Contract) → IsSomeAnd r (IsSo old new m) → (c : Contract) × (r ≡ Some c)
there_within old new m None is = absurd is
there_within old new m (Some c) is = (c, refl)

pub no_mismatch : MatchesHaveNoMismatch
no_mismatch old new m match is =
    let there = there_within old new m (contract_at old (contract_id (number_of m))) is.here in
    never_at old new m is (match (number_of m) (slice_get_within old.contracts (number_of m) there.0 there.1))

one_place : (old new : ClassTable) (a b : Mismatch) → IsMismatch old new a → IsMismatch old new b → number_of a ≡ number_of b
one_place old new a b is_a is_b =
    ⊎_elim (λ below. absurd (never_at old new a is_a (is_b.below (number_of a) below)))
    (λ from. ⊎_elim (λ above. absurd (never_at old new b is_b (is_a.below (number_of b) above))) (λ to. omega (arith, from, to))
    (cases_lt (number_of b) (number_of a)))
    (cases_lt (number_of a) (number_of b))

-- a contract isn't missing and changed
never_missing : (old new : ClassTable) (n : ℕ) (r : Option Contract) → IsSomeAnd r (IsSo old new (Missing n)) → IsSomeAnd r (IsSo old new (Changed n)) → ⊥
never_missing old new n None is changed = is
never_missing old new n (Some c) is changed =
    never_there (λ id. ¬ (DeclaresSame old new c id)) (contract_named new.contracts c.name) is changed

never_apart : (old new : ClassTable) (n k : ℕ) → n ≡ k → IsMismatch old new (Missing n) → IsMismatch old new (Changed k) → ⊥
never_apart old new n k e is changed =
    never_missing old new n (contract_at old (contract_id n)) is.here
    (subst (λ k. IsSomeAnd (contract_at old (contract_id k)) (IsSo old new (Changed k))) (sym e) changed.here)

pub one_mismatch : HaveOneMismatch
one_mismatch old new (Missing n) (Missing k) is_a is_b = ap Missing (one_place old new (Missing n) (Missing k) is_a is_b)
one_mismatch old new (Missing n) (Changed k) is_a is_b =
    absurd (never_apart old new n k (one_place old new (Missing n) (Changed k) is_a is_b) is_a is_b)
one_mismatch old new (Changed n) (Missing k) is_a is_b =
    absurd (never_apart old new k n (sym (one_place old new (Changed n) (Missing k) is_a is_b)) is_b is_a)
one_mismatch old new (Changed n) (Changed k) is_a is_b = ap Changed (one_place old new (Changed n) (Changed k) is_a is_b)
