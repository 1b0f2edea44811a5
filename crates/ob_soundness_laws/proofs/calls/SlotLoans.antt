-- The loans of slots alone, as a call on `this` has them.
use Rattle.std.proofs.Common.{◌≡◌, ℕ, zero, suc, ◌+◌, Bool, true, false, ◌||◌, List, [], ◌∷◌, ◌++◌, Some, refl, sym, ap, subst, ◌∙◌, arith, eq-eqb, true≢false}
use Rattle.std.specs.Prelude.{slice_get, nat_eq, if◌then◌else◌}
use Rattle.std.proofs.lemmas.Bool.{or_left, or_right, or_parts}
use Rattle.std.proofs.lemmas.Option.{same_Some}
use Rattle.ob_perm.specs.Permissions.{Permission, owned, shared, unowned, owns, is_unowned}
use Rattle.ob_perm.specs.Masks.{permission_of}
use Rattle.ob_table.specs.Tables.{ClassTable}
use Rattle.ob_table_spec.specs.WellFormed.{kind_of_resolved}
use Rattle.ob_silica_places.specs.Places.{Location, slot, field, same_location}
use Rattle.ob_silica_places.specs.Parameters.{Parameter}
use Rattle.ob_silica_places.specs.Converting.{converted}
use Rattle.ob_silica_steps.specs.Configurations.{SilicaFrame, Loan, Ends, plain_end, test_end, lock_end, loop_end, Rest, Configuration}
use Rattle.ob_silica_steps.specs.Here.{Here}
use Rattle.ob_silica_steps.specs.Binding.{if_slot, slot_loans}
use Rattle.ob_flow_spec.specs.Contexts.{Context, is_field, tests_field, permission_on}
use Rattle.ob_flow_spec.specs.Uses.{Read, kind_known}
use Rattle.ob_flow_spec.specs.Binding.{wants_owner}
use Rattle.ob_flow_laws.specs.Binding.{KeepsFields}
use Rattle.ob_coherent_spec.specs.Runs.{tested_places, tested_before}
use Rattle.ob_coherent_spec.specs.Remaining.{BodyParts}
use Rattle.ob_coherent_spec.specs.OpenTests.{EndsNoField, TestNoField}
use Rattle.ob_coherent_spec.specs.Waiting.{is_lent, has_lent, IsLoan, AreLoans, LendNoField}
use Rattle.ob_soundness_laws.specs.calls.Binds.{lent_all, ArePassedTo}

-- No field is under test.

before_parts : (ends : Ends) (ps : List Location) → tests_field (tested_before ends ps) ≡ false
    → EndsNoField ends
before_parts plain_end ps e = tt
before_parts (test_end p) ps e = (or_parts (is_field p) (tests_field ps) e).0
before_parts (lock_end p n) ps e = (or_parts (is_field p) (tests_field ps) e).0
before_parts (loop_end first x body end) ps e = tt

before_rest : (ends : Ends) (ps : List Location) → tests_field (tested_before ends ps) ≡ false → tests_field ps ≡ false
before_rest plain_end ps e = e
before_rest (test_end p) ps e = (or_parts (is_field p) (tests_field ps) e).1
before_rest (lock_end p n) ps e = (or_parts (is_field p) (tests_field ps) e).1
before_rest (loop_end first x body end) ps e = e

pub test_no_field : (outer : List Rest) → tests_field (tested_places outer) ≡ false → TestNoField outer
test_no_field [] e = tt
test_no_field (r ∷ outer) e = (
  before_parts r.ends (tested_places outer) e,
  test_no_field outer (before_rest r.ends (tested_places outer) e),
)

-- Loans of slots.

-- what isn't lent isn't lent by fewer loans
fewer_lent : (l : Loan) (ls more : List Loan) (p : Location) → (is_lent ls p ≡ false → is_lent more p ≡ false)
    → is_lent (l ∷ ls) p ≡ false → (q : Location) → is_lent (if_slot q l more) p ≡ false
fewer_lent l ls more p rest e (slot k) =
    let parts = or_parts (same_location p l.place) (is_lent ls p) e in ap (λ b. b || is_lent more p) parts.0
    ∙ rest parts.1
fewer_lent l ls more p rest e (field k) = rest (or_parts (same_location p l.place) (is_lent ls p) e).1

pub slot_not_lent : (ls : List Loan) (p : Location) → is_lent ls p ≡ false → is_lent (slot_loans ls) p ≡ false
slot_not_lent [] p e = refl
slot_not_lent (l ∷ ls) p e = fewer_lent l ls (slot_loans ls) p (slot_not_lent ls p) e l.place

fewer_has : (l : Loan) (ls more : List Loan) (n : ℕ) → (has_lent ls n ≡ false → has_lent more n ≡ false)
    → has_lent (l ∷ ls) n ≡ false → (q : Location) → has_lent (if_slot q l more) n ≡ false
fewer_has l ls more n rest e (slot k) =
    let parts = or_parts (nat_eq n l.param) (has_lent ls n) e in ap (λ b. b || has_lent more n) parts.0 ∙ rest parts.1
fewer_has l ls more n rest e (field k) = rest (or_parts (nat_eq n l.param) (has_lent ls n) e).1

slot_has_not : (ls : List Loan) (n : ℕ) → has_lent ls n ≡ false → has_lent (slot_loans ls) n ≡ false
slot_has_not [] n e = refl
slot_has_not (l ∷ ls) n e = fewer_has l ls (slot_loans ls) n (slot_has_not ls n) e l.place

-- a slot that no loan of a slot lends isn't lent at all
slot_is_lent : (l : Loan) (ls more : List Loan) (j : ℕ) → (is_lent more (slot j) ≡ false → is_lent ls (slot j) ≡ false)
    → (q : Location) → l.place ≡ q → is_lent (if_slot q l more) (slot j) ≡ false → is_lent (l ∷ ls) (slot j) ≡ false
slot_is_lent l ls more j rest (slot k) is e =
    let parts = or_parts (same_location (slot j) l.place) (is_lent more (slot j)) e in
    ap (λ b. b || is_lent ls (slot j)) parts.0 ∙ rest parts.1
slot_is_lent l ls more j rest (field k) is e =
    ap (λ q. same_location (slot j) q || is_lent ls (slot j)) is ∙ rest e

pub slots_lent : (ls : List Loan) (j : ℕ) → is_lent (slot_loans ls) (slot j) ≡ false → is_lent ls (slot j) ≡ false
slots_lent [] j e = refl
slots_lent (l ∷ ls) j e = slot_is_lent l ls (slot_loans ls) j (slots_lent ls j) l.place refl e

no_field_first : (l : Loan) (more : List Loan) → LendNoField more → (q : Location) → l.place ≡ q
    → LendNoField (if_slot q l more)
no_field_first l more rest (slot k) is = (ap is_field is, rest)
no_field_first l more rest (field k) is = rest

pub lend_no_field : (ls : List Loan) → LendNoField (slot_loans ls)
lend_no_field [] = tt
lend_no_field (l ∷ ls) = no_field_first l (slot_loans ls) (lend_no_field ls) l.place refl

module _ (table : ClassTable) (c : Configuration) (callee : SilicaFrame) (called : BodyParts) (tests : ℕ → ℕ) (h : Here)
    (g j : Context) (same : (k : ℕ) → j (slot k) ≡ g (slot k)) where
  loan_of_slot : (l : Loan) (k : ℕ) → l.place ≡ slot k → IsLoan table c callee called tests h g l
      → IsLoan table c callee called tests h j l
  loan_of_slot l k is a = record {
    cell = a.cell;
    place = a.place;
    lent = a.lent;
    parameter = a.parameter;
    param = a.param;
    given = a.given;
    found = a.found;
    same = a.same;
    serves = a.serves;
    kind = ap (λ q. kind_known (j q)) is ∙ ap kind_known (same k) ∙ ap (λ q. kind_known (g q)) (sym is) ∙ a.kind;
    exit = ap (λ q. permission_on (j q)) is ∙ ap permission_on (same k) ∙ ap (λ q. permission_on (g q)) (sym is)
        ∙ a.exit;
    gone = a.gone;
  }

  -- the loans of slots are loans also where another context says the same of slots
  pub loans_of_slots : (ls : List Loan) → AreLoans table c callee called tests h g ls
      → AreLoans table c callee called tests h j (slot_loans ls)
  loans_of_slots [] a = tt
  loans_of_slots (l ∷ ls) a = by_place (loans_of_slots ls a.3) l.place refl
    where
      by_place : AreLoans table c callee called tests h j (slot_loans ls) → (q : Location) → l.place ≡ q
          → AreLoans table c callee called tests h j (if_slot q l (slot_loans ls))
      by_place more (slot k) is = (
        loan_of_slot l k is a.0,
        slot_not_lent ls l.place a.1,
        slot_has_not ls l.param a.2,
        more,
      )
      by_place more (field k) is = more

-- What comes back is lent.

owner_or_not : (p : Permission) → owns p ≡ true → is_unowned p ≡ true → ⊥
owner_or_not (owned a) o u = true≢false (sym u)
owner_or_not shared o u = true≢false (sym o)
owner_or_not unowned o u = true≢false (sym o)

-- a parameter whose exit is an owner's has lent a slot, if no field is lent that comes back
pub wanted_slot_lent : (table : ClassTable) (c : Configuration) (parts : BodyParts) (known : Context) (rs : List Read)
    (ps : List Parameter) (n j : ℕ) (p : Parameter) → ArePassedTo table c parts rs ps → KeepsFields rs ps
    → slice_get ps j ≡ Some p → wants_owner p ≡ true → owns (permission_of p.exit) ≡ true
    → has_lent (slot_loans (lent_all table known rs ps n)) (n + j) ≡ true
wanted_slot_lent table c parts known [] [] n j p passed keeps e wants out = absurd (cc)
wanted_slot_lent table c parts known [] (q ∷ ps) n j p passed keeps e wants out = absurd passed
wanted_slot_lent table c parts known (r ∷ rs) [] n j p passed keeps e wants out = absurd passed
wanted_slot_lent table c parts known (r ∷ rs) (q ∷ ps) n zero p passed keeps e wants out =
    let same : q ≡ p = same_Some q p e in
    let wants_q : wants_owner q ≡ true = subst (λ z. wants_owner z ≡ true) (sym same) wants in
    let out_q : owns (permission_of q.exit) ≡ true = subst (λ (z : Parameter). owns (permission_of z.exit) ≡ true)
    (sym same) out in
    subst (λ w. has_lent (slot_loans ((if w then (record {
      place = r.location;
      param = n;
      exit = converted table (kind_of_resolved q.of) (kind_known (known r.location)) (permission_of q.exit);
    } ∷ []) else [])
    ++ lent_all table known rs ps (suc n))) (n + 0) ≡ true) (sym wants_q) (by_place r.location refl wants_q out_q)
  where
    by_place : (l : Location) → r.location ≡ l → wants_owner q ≡ true → owns (permission_of q.exit) ≡ true
        → has_lent (if_slot l (record {
          place = r.location;
          param = n;
          exit = converted table (kind_of_resolved q.of) (kind_known (known r.location)) (permission_of q.exit);
        })
        (slot_loans (lent_all table known rs ps (suc n)))) (n + 0) ≡ true
    by_place (slot k) is w o = or_left (nat_eq (n + 0) n)
        (has_lent (slot_loans (lent_all table known rs ps (suc n))) (n + 0))
        (eq-eqb (n + 0) n (omega arith))
    by_place (field k) is w o = absurd (owner_or_not (permission_of q.exit) o (keeps.0 (ap is_field is) w))
wanted_slot_lent table c parts known (r ∷ rs) (q ∷ ps) n (suc j) p passed keeps e wants out =
    let rest = wanted_slot_lent table c parts known rs ps (suc n) j p passed.2 keeps.1 e wants out in
    by_want (wants_owner q) (subst (λ m. has_lent (slot_loans (lent_all table known rs ps (suc n))) m ≡ true)
    (let z : suc n + j ≡ n + suc j = omega arith in z) rest)
  where
    by_place : (l : Location) → has_lent (slot_loans (lent_all table known rs ps (suc n))) (n + suc j) ≡ true
        → has_lent (if_slot l (record {
          place = r.location;
          param = n;
          exit = converted table (kind_of_resolved q.of) (kind_known (known r.location)) (permission_of q.exit);
        })
        (slot_loans (lent_all table known rs ps (suc n)))) (n + suc j) ≡ true
    by_place (slot k) h = or_right (nat_eq (n + suc j) n)
        (has_lent (slot_loans (lent_all table known rs ps (suc n))) (n + suc j)) h
    by_place (field k) h = h

    by_want : (w : Bool) → has_lent (slot_loans (lent_all table known rs ps (suc n))) (n + suc j) ≡ true
        → has_lent (slot_loans ((if w then (record {
          place = r.location;
          param = n;
          exit = converted table (kind_of_resolved q.of) (kind_known (known r.location)) (permission_of q.exit);
        } ∷ []) else [])
        ++ lent_all table known rs ps (suc n))) (n + suc j) ≡ true
    by_want true h = by_place r.location h
    by_want false h = h
