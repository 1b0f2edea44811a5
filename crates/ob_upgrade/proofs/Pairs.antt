-- Two lists, compared pair by pair; and the parts of two contracts.
use Rattle.std.proofs.Common.{◌≡◌, ◌≢◌, ◌∙◌, ℕ, zero, suc, ◌+◌, ◌-◌, ◌<◌, ◌≤◌, Bool, true, false, List, [], ◌∷◌, length, map, drop, get_or, refl, sym, ap, arith}
use Rattle.std.specs.Prelude.{◌&&◌, nat_eq}
use Rattle.std.specs.Cmp.Lexicographic.{pointwise}
use Rattle.std.proofs.lemmas.Bool.{false_from_ne_true}
use Rattle.std.proofs.lemmas.Bool.Decides.{Decides-eqb}
use Rattle.std.proofs.lemmas.List.{drop_more, drop_all}
use Rattle.ob_table.specs.Tables.{ClassTable, contract_at}
use Rattle.ob_table_spec.specs.Names.{same}
use Rattle.ob_code.specs.declared.image.FieldCode.{FieldCode}
use Rattle.ob_code.specs.declared.image.Image.{Image}
use Rattle.ob_code_table.specs.ImageTables.{field_of_code, interface_of, table_of_image}
use Rattle.ob_upgrade_spec.specs.Matching.{have_one_name, is_same_field, is_same_interface}
use Rattle.ob_upgrade.specs.Comparing.{same_field_code, same_field_codes}

and_false : (b : Bool) → (b && false) ≡ false
and_false true = refl
and_false false = refl

module _ {A B : Type 0} (E : A → B → Bool) where
  pairs_length : (xs : List A) (ys : List B) → length xs ≢ length ys → pointwise E xs ys ≡ false
  pairs_length [] [] h = absurd (h refl)
  pairs_length [] (y ∷ ys) h = refl
  pairs_length (x ∷ xs) [] h = refl
  pairs_length (x ∷ xs) (y ∷ ys) h = ap (λ (b : Bool). E x y && b) (pairs_length xs ys (λ e. h (ap suc e))) ∙ and_false (E x y)

  pairs_turn : (xs : List A) (ys : List B) (i : ℕ) (x : A) (y : B) → i < length xs → i < length ys → x ≡ get_or xs i x → y ≡ get_or ys i y
      → pointwise E (drop i xs) (drop i ys) ≡ (E x y && pointwise E (drop (i + 1) xs) (drop (i + 1) ys))
  pairs_turn xs ys i x y h k e f =
      ap (λ (zs : List A). pointwise E zs (drop i ys)) (drop_more xs i x h ∙ ap (λ z. z ∷ drop (i + 1) xs) (sym e))
      ∙ ap (λ (zs : List B). pointwise E (x ∷ drop (i + 1) xs) zs) (drop_more ys i y k ∙ ap (λ z. z ∷ drop (i + 1) ys) (sym f))

  pairs_end : (xs : List A) (ys : List B) (i : ℕ) → length xs ≤ i → length ys ≤ i → pointwise E (drop i xs) (drop i ys) ≡ true
  pairs_end xs ys i h k = ap (λ (zs : List A). pointwise E zs (drop i ys)) (drop_all i xs h) ∙ ap (pointwise E []) (drop_all i ys k)

pairs-map : {A B C D : Type 0} (E : C → D → Bool) (f : A → C) (g : B → D) (xs : List A) (ys : List B)
    → pointwise E (map f xs) (map g ys) ≡ pointwise (λ x y. E (f x) (g y)) xs ys
pairs-map E f g [] [] = refl
pairs-map E f g [] (y ∷ ys) = refl
pairs-map E f g (x ∷ xs) [] = refl
pairs-map E f g (x ∷ xs) (y ∷ ys) = ap (λ (b : Bool). E (f x) (g y) && b) (pairs-map E f g xs ys)

-- Fields.

pub fields_length : (old new : Image) (xs ys : List FieldCode) → length xs ≢ length ys → same_field_codes old new xs ys ≡ false
fields_length old new = pairs_length (same_field_code old new)

pub fields_turn : (old new : Image) (xs ys : List FieldCode) (i : ℕ) (x y : FieldCode) → i < length xs → i < length ys
    → x ≡ get_or xs i x → y ≡ get_or ys i y
    → same_field_codes old new (drop i xs) (drop i ys)
    ≡ (same_field_code old new x y && same_field_codes old new (drop (i + 1) xs) (drop (i + 1) ys))
fields_turn old new = pairs_turn (same_field_code old new)

pub fields_end : (old new : Image) (xs ys : List FieldCode) (i : ℕ) → length xs ≤ i → length ys ≤ i
    → same_field_codes old new (drop i xs) (drop i ys) ≡ true
fields_end old new = pairs_end (same_field_code old new)

pub ruleset fields = (fields_length, fields_turn, fields_end)

pub fields_mapped : (old new : Image) (xs ys : List FieldCode)
    → pointwise (is_same_field (table_of_image old) (table_of_image new)) (map field_of_code xs) (map field_of_code ys)
    ≡ same_field_codes old new xs ys
fields_mapped old new = pairs-map (is_same_field (table_of_image old) (table_of_image new)) field_of_code field_of_code

pub ruleset contracts = (fields_mapped)

-- Names.

pub names_length : (xs ys : List (List ℕ)) → length xs ≢ length ys → pointwise same xs ys ≡ false
names_length = pairs_length same

pub names_turn : (xs ys : List (List ℕ)) (i : ℕ) (x y : List ℕ) → i < length xs → i < length ys → x ≡ get_or xs i x → y ≡ get_or ys i y
    → pointwise same (drop i xs) (drop i ys) ≡ (same x y && pointwise same (drop (i + 1) xs) (drop (i + 1) ys))
names_turn = pairs_turn same

pub names_end : (xs ys : List (List ℕ)) (i : ℕ) → length xs ≤ i → length ys ≤ i → pointwise same (drop i xs) (drop i ys) ≡ true
names_end = pairs_end same

pub ruleset names = (names_length, names_turn, names_end)

-- Interfaces.

pub no_interface : (old new : ClassTable) (b : ℕ) → is_same_interface old new (interface_of 0) (interface_of b) ≡ nat_eq 0 b
no_interface old new zero = refl
no_interface old new (suc b) = sym (false_from_ne_true (nat_eq 0 (suc b)) (λ e. absurd (omega (arith, (Decides-eqb 0 (suc b)).0 e))))

pub none_then : (old new : ClassTable) (a : ℕ) → is_same_interface old new (interface_of a) (interface_of 0) ≡ nat_eq a 0
none_then old new zero = refl
none_then old new (suc a) = sym (false_from_ne_true (nat_eq (suc a) 0) (λ e. absurd (omega (arith, (Decides-eqb (suc a) 0).0 e))))

pub two_interfaces : (old new : ClassTable) (a b : ℕ) → a ≢ 0 → b ≢ 0
    → is_same_interface old new (interface_of a) (interface_of b)
    ≡ have_one_name (contract_at old (record { 0 = a - 1 })) (contract_at new (record { 0 = b - 1 }))
two_interfaces old new zero b h k = absurd (h refl)
two_interfaces old new (suc a) zero h k = absurd (k refl)
two_interfaces old new (suc a) (suc b) h k =
    let d : suc a - 1 ≡ a = omega arith in
    let e : suc b - 1 ≡ b = omega arith in
    rw (d, e) refl

pub ruleset interfaces = (no_interface, none_then, two_interfaces)
