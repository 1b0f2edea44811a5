-- Kinds, cells of lists, and rows that meet.
use Rattle.std.proofs.Common.{◌≡◌, ◌≢◌, ℕ, suc, zero, ◌<◌, List, [], ◌∷◌, length, Option, Some, None, Bool, true, false, slice_get, slice_set, refl, sym, ap, ◌∙◌, arith, ◌⊎◌, inl, inr}
use Rattle.std.proofs.lemmas.Bool.{eqb-true, eq-eqb, true≢false}
use Rattle.ob_base.specs.declared.id.ContractId.{ContractId}
use Rattle.ob_table.specs.declared.seen.Kind.{Kind}
use Rattle.ob_table.specs.declared.seen.Kind.TheVariants as kind
use Rattle.ob_code.specs.declared.image.Image.{Image}
use Rattle.ob_verify_spec.specs.Kinds.{same_kind, both_hold}
use Rattle.ob_verify_spec.specs.Passing.{held_at, KindRow, row_of, no_rows, meet}

-- Cells.

pub cell-set_same : {A : Type 0} (xs : List (Option A)) (k : ℕ) (v : Option A) → k < length xs → held_at (slice_set xs k v) k ≡ v
cell-set_same [] k v lt = absurd (omega arith)
cell-set_same (x ∷ xs) zero v lt = refl
cell-set_same (x ∷ xs) (suc k) v lt = cell-set_same xs k v (omega arith)

pub cell-set_other : {A : Type 0} (xs : List (Option A)) (k j : ℕ) (v : Option A) → j ≢ k → held_at (slice_set xs k v) j ≡ held_at xs j
cell-set_other [] k j v ne = refl
cell-set_other (x ∷ xs) zero zero v ne = absurd (ne refl)
cell-set_other (x ∷ xs) zero (suc j) v ne = refl
cell-set_other (x ∷ xs) (suc k) zero v ne = refl
cell-set_other (x ∷ xs) (suc k) (suc j) v ne = cell-set_other xs k j v (λ e. ne (ap suc e))

pub set-length : {A : Type 0} (xs : List A) (k : ℕ) (v : A) → length (slice_set xs k v) ≡ length xs
set-length [] k v = refl
set-length (x ∷ xs) zero v = refl
set-length (x ∷ xs) (suc k) v = ap suc (set-length xs k v)

pub cell_within : {A : Type 0} (xs : List (Option A)) (k : ℕ) (v : A) → held_at xs k ≡ Some v → k < length xs
cell_within [] k v e = absurd (cc)
cell_within (x ∷ xs) zero v e = omega arith
cell_within (x ∷ xs) (suc k) v e = let h : k < length xs = cell_within xs k v e in omega arith

-- Kinds.

same_contract : (c d : ContractId) → c.0 ≡ d.0 → c ≡ d
same_contract c d e = ap (λ (n : ℕ). let made : ContractId = record { 0 = n } in made) e

pub same_kind_of : (x y : Kind) → same_kind x y ≡ true → x ≡ y
same_kind_of kind.Int kind.Int e = refl
same_kind_of kind.Bool kind.Bool e = refl
same_kind_of kind.Text kind.Text e = refl
same_kind_of (kind.Reference c) (kind.Reference d) e = ap kind.Reference (same_contract c d (eqb-true c.0 d.0 e))
same_kind_of x y e = absurd (cc)

pub same_kind_self : (x : Kind) → same_kind x x ≡ true
same_kind_self kind.Int = refl
same_kind_self kind.Bool = refl
same_kind_self kind.Text = refl
same_kind_self (kind.Reference c) = eq-eqb c.0 c.0 refl

pub differ_kind : (x y : Kind) → same_kind x y ≡ false → x ≢ y
differ_kind x y e h = true≢false (sym (same_kind_self x) ∙ ap (same_kind x) h ∙ e)

kinds_equal_of : (x y : Kind) (c : Bool) → same_kind x y ≡ c → (x ≡ y) ⊎ (x ≢ y)
kinds_equal_of x y true e = inl (same_kind_of x y e)
kinds_equal_of x y false e = inr (differ_kind x y e)

pub kinds_equal : (x y : Kind) → (x ≡ y) ⊎ (x ≢ y)
kinds_equal x y = kinds_equal_of x y (same_kind x y) refl

pub none_some : {A : Type 0} {x : A} → ◌≡◌ {A = Option A} None (Some x) → ⊥
none_some e = cc

pub some_same : {A : Type 0} {x y : A} → ◌≡◌ {A = Option A} (Some x) (Some y) → x ≡ y
some_same e = cc

-- whether a cell holds this kind
pub holds_kind : (o : Option Kind) (x : Kind) → (o ≡ Some x) ⊎ (o ≢ Some x)
holds_kind None x = inr none_some
holds_kind (Some y) x = elim (kinds_equal y x) [ inl e ↦ inl (ap Some e) | inr n ↦ inr (λ e. n (some_same e)) ]

-- What two rows both hold.

both_none : (m : Image) (p : Option Kind) → None ≡ both_hold m p None
both_none m None = refl
both_none m (Some y) = refl

pub cell-meet : (m : Image) (ps qs : KindRow) (k : ℕ) → held_at (meet m ps qs) k ≡ both_hold m (held_at ps k) (held_at qs k)
cell-meet m [] qs k = refl
cell-meet m (p ∷ ps) [] zero = both_none m p
cell-meet m (p ∷ ps) [] (suc k) = cell-meet m ps [] k
cell-meet m (p ∷ ps) (q ∷ qs) zero = refl
cell-meet m (p ∷ ps) (q ∷ qs) (suc k) = cell-meet m ps qs k

-- Lengths.

pub meet-length : (m : Image) (ps qs : KindRow) → length (meet m ps qs) ≡ length ps
meet-length m [] qs = refl
meet-length m (p ∷ ps) [] = ap suc (meet-length m ps [])
meet-length m (p ∷ ps) (q ∷ qs) = ap suc (meet-length m ps qs)

pub row_of-length : (n : ℕ) (held : List Kind) → length (row_of n held) ≡ n
row_of-length zero held = refl
row_of-length (suc n) [] = ap suc (row_of-length n [])
row_of-length (suc n) (x ∷ held) = ap suc (row_of-length n held)

pub no_rows-length : (n : ℕ) → length (no_rows n) ≡ n
no_rows-length zero = refl
no_rows-length (suc n) = ap suc (no_rows-length n)

pub cell-row_of : (n : ℕ) (held : List Kind) (k : ℕ) → k < n → held_at (row_of n held) k ≡ slice_get held k
cell-row_of zero held k lt = absurd (omega arith)
cell-row_of (suc n) [] zero lt = refl
cell-row_of (suc n) [] (suc k) lt = cell-row_of n [] k (omega arith)
cell-row_of (suc n) (x ∷ held) zero lt = refl
cell-row_of (suc n) (x ∷ held) (suc k) lt = cell-row_of n held k (omega arith)

pub cell-no_rows : (n k : ℕ) → held_at (no_rows n) k ≡ None
cell-no_rows zero k = refl
cell-no_rows (suc n) zero = refl
cell-no_rows (suc n) (suc k) = cell-no_rows n k
