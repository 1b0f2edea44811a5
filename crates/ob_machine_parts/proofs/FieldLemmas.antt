-- Fields, as they are kept and as the definitions see them.
use Rattle.std.proofs.Common.{◌≡◌, ℕ, Bool, true, false, List, [], ◌∷◌, Some, None, refl, ap, ◌∙◌, arith}
use mathlib.Core.Path.{fun_ext}
use Rattle.std.specs.Prelude.{nat_eq, nat_le, option_map, if◌then◌else◌}
use Rattle.ob_base.specs.declared.id.FieldId.{FieldId}
use Rattle.ob_heap_spec.specs.Values.{put}
use Rattle.ob_heap.specs.declared.value.Value.{Value}
use Rattle.ob_heap.specs.Fields.{value_at, with_value}
use Rattle.ob_heap.specs.Plain.{value_of, fields_of}

pub turned : (m n : ℕ) (b : Bool) → nat_eq m n ≡ b → nat_eq n m ≡ b
turned m n true e = grind arith
turned m n false e = grind arith

apart : (m n k : ℕ) → nat_eq m n ≡ true → nat_eq k n ≡ false → nat_eq m k ≡ false
apart m n k e f = grind arith

apart_too : (m n k : ℕ) → nat_eq m n ≡ false → nat_eq k n ≡ true → nat_eq m k ≡ false
apart_too m n k e f = grind arith

-- the value of a field once one was put
pub value_put : (k : FieldId) (v : Value) (es : List (FieldId × Value)) (j : ℕ)
    → value_at (record { 0 = j }) (with_value k v es) ≡ (if nat_eq j k.0 then Some v else value_at (record { 0 = j }) es)
value_put k v [] j = by (nat_eq j k.0) refl
  where
    by : (x : Bool) → nat_eq j k.0 ≡ x → value_at (record { 0 = j }) ((k, v) ∷ []) ≡ (if x then Some v else None)
    by true h = let s : nat_eq k.0 j ≡ true = turned j k.0 true h in rw s refl
    by false h = let s : nat_eq k.0 j ≡ false = turned j k.0 false h in rw s refl
value_put k v (e ∷ es) j = by (nat_eq e.0.0 k.0) (nat_le k.0 e.0.0) (nat_eq j k.0) refl refl (value_put k v es j)
  where
    by : (a b x : Bool) → nat_eq e.0.0 k.0 ≡ a → nat_eq j k.0 ≡ x
        → value_at (record { 0 = j }) (with_value k v es) ≡ (if x then Some v else value_at (record { 0 = j }) es)
        → value_at (record { 0 = j }) (if a then (k, v) ∷ es else if b then (k, v) ∷ e ∷ es else e ∷ with_value k v es)
        ≡ (if x then Some v else if nat_eq e.0.0 j then Some e.1 else value_at (record { 0 = j }) es)
    by true b true g h ih = let s : nat_eq k.0 j ≡ true = turned j k.0 true h in rw s refl
    by true b false g h ih =
        let s : nat_eq k.0 j ≡ false = turned j k.0 false h in
        let t : nat_eq e.0.0 j ≡ false = apart e.0.0 k.0 j g h in
        rw (s, t) refl
    by false true true g h ih = let s : nat_eq k.0 j ≡ true = turned j k.0 true h in rw s refl
    by false true false g h ih = let s : nat_eq k.0 j ≡ false = turned j k.0 false h in rw s refl
    by false false true g h ih = let t : nat_eq e.0.0 j ≡ false = apart_too e.0.0 k.0 j g h in rw t ih
    by false false false g h ih = ap (λ r. if nat_eq e.0.0 j then Some e.1 else r) ih

pub fields_put : (k : FieldId) (v : Value) (es : List (FieldId × Value)) → fields_of (with_value k v es) ≡ put (fields_of es) k.0 (value_of v)
fields_put k v es = fun_ext (λ j. ap (option_map value_of) (value_put k v es j) ∙ by (nat_eq j k.0) j)
  where
    by : (x : Bool) (j : ℕ) → option_map value_of (if x then Some v else value_at (record { 0 = j }) es) ≡ (if x then Some (value_of v) else fields_of es j)
    by true j = refl
    by false j = refl
