-- Plain data.
use Rattle.std.proofs.Common.{◌≡◌, ℕ, zero, suc, Bool, true, false, List, [], ◌∷◌, Option, None, Some, refl, sym, ap, ◌∙◌, arith}
use Rattle.std.specs.Prelude.{nat_eq, nat_le, slice_get, map, if◌then◌else◌}
use Rattle.std.specs.Option.{option_map}
use Rattle.ob_base.specs.declared.id.FieldId.{FieldId}
use Rattle.ob_heap.specs.declared.value.Value.{Value}
use Rattle.ob_heap.specs.declared.object.Object.{Object}
use Rattle.ob_heap.specs.Fields.{value_at, with_value}
use Rattle.ob_heap.specs.Plain.{value_of, fields_of, object_of}
use Rattle.ob_heap_spec.specs.Values.{put}

pub slice_get-map : (xs : List Object) (n : ℕ) → slice_get (map object_of xs) n ≡ option_map object_of (slice_get xs n)
slice_get-map [] n = refl
slice_get-map (x ∷ xs) zero = refl
slice_get-map (x ∷ xs) (suc n) = slice_get-map xs n

flip : (m n : ℕ) → nat_eq m n ≡ nat_eq n m
flip m n = grind arith

alike : (m n k : ℕ) → nat_eq m n ≡ true → nat_eq m k ≡ nat_eq n k
alike m n k h = grind arith

never : (m n k : ℕ) → nat_eq m n ≡ false → nat_eq k n ≡ true → nat_eq m k ≡ false
never m n k h e = grind arith

twice : (b : Bool) (x y z : Option Value) → (if b then x else z) ≡ (if b then x else if b then y else z)
twice true x y z = refl
twice false x y z = refl

swapped : (b c : Bool) (x y z : Option Value) → (b ≡ true → c ≡ false) → (if c then y else if b then x else z) ≡ (if b then x else if c then y else z)
swapped true c x y z h = ap (λ d. if d then y else x) (h refl)
swapped false c x y z h = refl

mapped : (b : Bool) (v : Value) (r : Option Value) → option_map value_of (if b then Some v else r) ≡ (if b then Some (value_of v) else option_map value_of r)
mapped true v r = refl
mapped false v r = refl

with_value_at : (j k : FieldId) (v : Value) (es : List (FieldId × Value)) → value_at j (with_value k v es) ≡ (if nat_eq j.0 k.0 then Some v else value_at j es)
with_value_at j k v [] = ap (λ b. if b then Some v else None) (flip k.0 j.0)
with_value_at j k v (e ∷ es) = by (nat_eq e.0.0 k.0) (nat_le k.0 e.0.0) refl (with_value_at j k v es)
  where
    by : (b c : Bool) → nat_eq e.0.0 k.0 ≡ b → value_at j (with_value k v es) ≡ (if nat_eq j.0 k.0 then Some v else value_at j es)
        → value_at j (if b then (k, v) ∷ es else if c then (k, v) ∷ e ∷ es else e ∷ with_value k v es)
        ≡ (if nat_eq j.0 k.0 then Some v else if nat_eq e.0.0 j.0 then Some e.1 else value_at j es)
    by true c s rest = ap (λ b. if b then Some v else value_at j es) (flip k.0 j.0) ∙ twice (nat_eq j.0 k.0) (Some v) (Some e.1) (value_at j es)
        ∙ sym (ap (λ b. if nat_eq j.0 k.0 then Some v else if b then Some e.1 else value_at j es) (alike e.0.0 k.0 j.0 s ∙ flip k.0 j.0))
    by false true s rest = ap (λ b. if b then Some v else if nat_eq e.0.0 j.0 then Some e.1 else value_at j es) (flip k.0 j.0)
    by false false s rest = ap (λ r. if nat_eq e.0.0 j.0 then Some e.1 else r) rest
        ∙ swapped (nat_eq j.0 k.0) (nat_eq e.0.0 j.0) (Some v) (Some e.1) (value_at j es) (never e.0.0 k.0 j.0 s)

pub fields-with_value : (k : FieldId) (v : Value) (es : List (FieldId × Value)) → fields_of (with_value k v es) ≡ put (fields_of es) k.0 (value_of v)
fields-with_value k v es = λ i n. each n i
  where
    each : (n : ℕ) → option_map value_of (value_at (record { 0 = n }) (with_value k v es))
        ≡ (if nat_eq n k.0 then Some (value_of v) else option_map value_of (value_at (record { 0 = n }) es))
    each n = ap (option_map value_of) (with_value_at (record { 0 = n }) k v es) ∙ mapped (nat_eq n k.0) v (value_at (record { 0 = n }) es)
