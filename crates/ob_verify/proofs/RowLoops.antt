-- Rows, one slot after another.
use Rattle.std.proofs.Common.{◌≡◌, ◌≢◌, ℕ, zero, suc, ◌+◌, ◌-◌, ◌<◌, ◌≤◌, List, [], ◌∷◌, ◌++◌, length, map, take, drop, Option, Some, None, refl, sym, ap, ap₂, ◌∙◌, arith, add-one, append_assoc, append-nil}
use Rattle.std.specs.Prelude.{slice_get, slice_set, option_map}
use Rattle.std.proofs.Math.Seq.{drop-nil}
use Rattle.std.proofs.Math.ListN.{drop_of_length-le}
use Rattle.std.proofs.lemmas.List.{take_all, length-set}
use Rattle.std.proofs.lemmas.Option.{slice_get-map}
use Rattle.ob_code.specs.declared.image.Image.{Image}
use Rattle.ob_code.specs.declared.image.ParamCode.{ParamCode}
use Rattle.ob_table.specs.declared.seen.Kind.{Kind}
use Rattle.ob_verify_spec.specs.Kinds.{kind_of_param, interface_at, interface_declared, both_hold}
use Rattle.ob_verify_spec.specs.Passing.{KindRow, row_of, meet, held_at}

-- Where ways meet.

both_none : (m : Image) (x : Option Kind) → both_hold m x None ≡ None
both_none m None = refl
both_none m (Some x) = refl

cell_nil : (k : ℕ) → held_at {A = Kind} [] k ≡ None
cell_nil zero = refl
cell_nil (suc k) = refl

-- the slots so far are met, and those that are left are to be met
abbrev so_far : Image → KindRow → KindRow → ℕ → KindRow
so_far m row other i = take i row ++ meet m (drop i row) (drop i other)

met_at : (m : Image) (row other : KindRow) (i : ℕ) → i < length row → so_far m row other i ≡ so_far m (slice_set row i (both_hold m (held_at row i) (held_at other i))) other (suc i)
met_at m [] other i h = absurd (omega arith)
met_at m (x ∷ row) [] zero h = ap (λ v. v ∷ meet m row []) (sym (both_none m x))
met_at m (x ∷ row) (y ∷ other) zero h = refl
met_at m (x ∷ row) [] (suc i) h = let k : i < length row = omega arith in
    ap (λ z. x ∷ take i row ++ meet m (drop i row) z) (sym (drop-nil i))
    ∙ ap (λ z. x ∷ z) (met_at m row [] i k)
    ∙ ap (λ v. x ∷ so_far m (slice_set row i (both_hold m (held_at row i) v)) [] (suc i)) (cell_nil i)
met_at m (x ∷ row) (y ∷ other) (suc i) h = let k : i < length row = omega arith in ap (λ z. x ∷ z) (met_at m row other i k)

pub met_turn : (m : Image) (all row other next : KindRow) (i : ℕ) → i < length row → all ≡ take i row ++ meet m (drop i row) (drop i other)
    → next ≡ slice_set row i (both_hold m (held_at row i) (held_at other i)) → all ≡ take (i + 1) next ++ meet m (drop (i + 1) next) (drop (i + 1) other)
met_turn m all row other next i h e n = rw add-one (e ∙ met_at m row other i h ∙ ap (λ z. so_far m z other (suc i)) (sym n))

pub met_all : (m : Image) (row other : KindRow) (i : ℕ) → length row ≤ i → take i row ++ meet m (drop i row) (drop i other) ≡ row
met_all m row other i h = ap (λ z. take i row ++ meet m z (drop i other)) (drop_of_length-le row h) ∙ append-nil (take i row) ∙ take_all i row h

pub met_length : (row next : KindRow) (i n : ℕ) (v : Option Kind) → length row ≡ n → next ≡ slice_set row i v → length next ≡ n
met_length row next i n v e f = ap length f ∙ length-set row i v ∙ e

pub met_step : (m : Image) (row seen other next : KindRow) (i : ℕ) (a b v : Option Kind) → seen ≡ row → a ≡ held_at seen i → b ≡ held_at other i → v ≡ both_hold m a b → next ≡ slice_set row i v
    → next ≡ slice_set row i (both_hold m (held_at row i) (held_at other i))
met_step m row seen other next i a b v e p q f n = n ∙ ap (slice_set row i) (f ∙ ap₂ (both_hold m) (p ∙ ap (λ z. held_at z i) e) q)

pub ruleset meeting = (met_turn, met_all, met_length)

-- The interface that is declared, where the number isn't 0.
pub declared_by : (m : Image) (n : ℕ) → n ≢ 0 → interface_declared m n ≡ interface_at m (n - 1)
declared_by m zero ne = absurd (ne refl)
declared_by m (suc n) ne = let e : suc n - 1 ≡ n = omega arith in rw e refl

-- At the entry.

pub after_first : (x : Kind) (ps : List ParamCode) (slot : ℕ) → slot ≢ 0 → slice_get (x ∷ map kind_of_param ps) slot ≡ option_map kind_of_param (slice_get ps (slot - 1))
after_first x ps zero ne = absurd (ne refl)
after_first x ps (suc slot) ne = let e : suc slot - 1 ≡ slot = omega arith in rw e (slice_get-map kind_of_param ps slot)

entry_rest : (n : ℕ) (held : List Kind) (i k : ℕ) → n ≡ suc k → row_of n (drop i held) ≡ slice_get held i ∷ row_of k (drop (suc i) held)
entry_rest zero held i k e = absurd (omega arith)
entry_rest (suc n) [] zero k e = let f : n ≡ k = omega arith in ap (λ z. None ∷ row_of z []) f
entry_rest (suc n) [] (suc i) k e = let f : n ≡ k = omega arith in ap (λ z. None ∷ row_of z []) f
entry_rest (suc n) (x ∷ held) zero k e = let f : n ≡ k = omega arith in ap (λ z. Some x ∷ row_of z held) f
entry_rest (suc n) (x ∷ held) (suc i) k e = entry_rest (suc n) held i k e

pub entry_more : (n : ℕ) (held : List Kind) (row new : KindRow) (i : ℕ) → i < n → row_of n held ≡ row ++ row_of (n - i) (drop i held) → new ≡ row ++ slice_get held i ∷ []
    → row_of n held ≡ new ++ row_of (n - (i + 1)) (drop (i + 1) held)
entry_more n held row new i lt e f =
    e ∙ ap (λ z. row ++ z) (entry_rest (n - i) held i (n - (i + 1)) (omega arith))
    ∙ sym (append_assoc row (slice_get held i ∷ []) (row_of (n - (i + 1)) (drop (suc i) held)))
    ∙ ap (λ z. z ++ row_of (n - (i + 1)) (drop (suc i) held)) (sym f)
    ∙ ap (λ k. new ++ row_of (n - (i + 1)) (drop k held)) (sym (add-one i))
