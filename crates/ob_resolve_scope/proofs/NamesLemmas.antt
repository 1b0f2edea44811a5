-- A map of names, seen as a list.
use Rattle.std.proofs.Common.{◌≡◌, ℕ, ◌+◌, ◌<◌, Bool, true, List, [], ◌∷◌, ◌++◌, Some, cond, refl, ap, length, take, drop, zero, suc, arith}
use Rattle.std.specs.Prelude.{◌&&◌, nat_eq, slice_get}
use Rattle.std.specs.Option.{option_map_or}
use Rattle.std.specs.List.{list_all}
use Rattle.std.specs.Cmp.Lexicographic.{pointwise}
use Rattle.std.specs.Map.{lookup}
use Rattle.std.specs.Global.{Vec}
use Rattle.ob_table_spec.specs.Names.{same}
use Rattle.ob_resolve_scope.specs.Numbered.{find, plain}

pub find-plain : (name : List ℕ) (es : List (Vec ℕ × ℕ)) → lookup (λ k. pointwise nat_eq name k.items) es
    ≡ find name (plain es)
find-plain name [] = refl
find-plain name (e ∷ es) = ap (cond (same name e.0.items) (Some e.1)) (find-plain name es)

pub plain-append : (es fs : List (Vec ℕ × ℕ)) → plain (es ++ fs) ≡ plain es ++ plain fs
plain-append [] fs = refl
plain-append (e ∷ es) fs = ap (λ r. (e.0.items, e.1) ∷ r) (plain-append es fs)

pub take-plain : (n : ℕ) (es : List (Vec ℕ × ℕ)) → plain (take n es) ≡ take n (plain es)
take-plain zero es = refl
take-plain (suc n) [] = refl
take-plain (suc n) (e ∷ es) = ap (λ r. (e.0.items, e.1) ∷ r) (take-plain n es)

pub ruleset names = (find-plain, plain-append, take-plain)

-- the test of each entry from a place on is that of the one there and of those after it
pub within_turn : (p : List ℕ × ℕ → Bool) (es : List (List ℕ × ℕ)) (i : ℕ) → i < length es
    → list_all p (drop i es) ≡ (option_map_or p (slice_get es i) true && list_all p (drop (i + 1) es))
within_turn p [] i h = absurd (omega arith)
within_turn p (e ∷ es) zero h = refl
within_turn p (e ∷ es) (suc i) h = let n : suc i + 1
    ≡ suc (i + 1) = omega arith in rw n (within_turn p es i (omega arith))

pub ruleset within = (within_turn)
