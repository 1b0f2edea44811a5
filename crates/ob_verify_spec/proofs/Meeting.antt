-- What kinds have in common, and what ways that meet do.
use Rattle.std.proofs.Common.{◌≡◌, ◌≢◌, ℕ, zero, suc, ◌+◌, ◌==◌, Option, Some, None, Bool, true, false, cond, slice_get, refl, sym, ap, ◌∙◌, subst, arith, ◌⊎◌, inl, inr}
use Rattle.std.specs.Option.{option_map_or, option_and_then}
use Rattle.std.proofs.lemmas.Bool.{true≢false, and_parts, or_cases, or_left, or_right, eqb-true, eq-eqb}
use Rattle.ob_base.specs.declared.id.ContractId.{ContractId}
use Rattle.ob_table.specs.declared.seen.Kind.{Kind}
use Rattle.ob_table.specs.declared.seen.Kind.TheVariants as kind
use Rattle.ob_code.specs.declared.image.ContractCode.{ContractCode}
use Rattle.ob_code.specs.declared.image.Image.{Image}
use Rattle.ob_code.specs.Code.{is_interface}
use Rattle.ob_verify_spec.specs.Kinds.{same_kind, implements_number, fits, is_reference, is_plain_interface, interface_at, interface_declared, interface_of_contract, interface_of, BelongsTo, one_kind, common, both_hold}
use Rattle.ob_verify_spec.proofs.Cells.{none_some, some_same, same_kind_of, differ_kind}

-- The interface of a kind.

-- a kind is that of references to an interface that implements none
record IsPlain (m : Image) (x : Kind) : Type 0 where
  pub contract : ContractId
  pub same : x ≡ kind.Reference contract
  pub own : ContractCode
  pub there : slice_get m.contracts contract.0 ≡ Some own
  pub plain : is_plain_interface own ≡ true

-- how a kind has an interface: its contract is that, or implements it
record HasInterface (m : Image) (x z : Kind) : Type 0 where
  pub contract : ContractId
  pub same : x ≡ kind.Reference contract
  pub own : ContractCode
  pub there : slice_get m.contracts contract.0 ≡ Some own
  pub how : (z ≡ x) ⊎ ((d : ContractId) × (z ≡ kind.Reference d) × (own.implements ≡ suc d.0))
  pub plain : IsPlain m z

at_of : (m : Image) (n : ℕ) (o : Option ContractCode) (c : Bool) (z : Kind) → slice_get m.contracts n ≡ o → option_map_or is_plain_interface o false ≡ c
    → cond c (Some (kind.Reference (record { 0 = n }))) None ≡ Some z → (z ≡ kind.Reference (record { 0 = n })) × IsPlain m z
at_of m n None c z e f g = absurd (none_some (ap (λ b. cond b (Some (kind.Reference (record { 0 = n }))) None) f ∙ g))
at_of m n (Some own) false z e f g = absurd (none_some g)
at_of m n (Some own) true z e f g = (sym (some_same g), record { contract = record { 0 = n }; same = sym (some_same g); own = own; there = e; plain = f })

interface_there : (m : Image) (n : ℕ) (z : Kind) → interface_at m n ≡ Some z → (z ≡ kind.Reference (record { 0 = n })) × IsPlain m z
interface_there m n z e = at_of m n (slice_get m.contracts n) (option_map_or is_plain_interface (slice_get m.contracts n) false) z refl refl e

declared_of : (m : Image) (c : ContractId) (own : ContractCode) (z : Kind) (n : ℕ) → slice_get m.contracts c.0 ≡ Some own → own.implements ≡ n → interface_declared m n ≡ Some z
    → HasInterface m (kind.Reference c) z
declared_of m c own z zero there at e = absurd (none_some e)
declared_of m c own z (suc n) there at e =
    let h = interface_there m n z e in
    record { contract = c; same = refl; own = own; there = there; how = inr (record { 0 = n }, h.0, at); plain = h.1 }

contract_of : (m : Image) (c : ContractId) (own : ContractCode) (z : Kind) (b : Bool) → slice_get m.contracts c.0 ≡ Some own → is_plain_interface own ≡ b
    → cond b (Some (kind.Reference c)) (interface_declared m own.implements) ≡ Some z → HasInterface m (kind.Reference c) z
contract_of m c own z true there at e = record {
  contract = c;
  same = refl;
  own = own;
  there = there;
  how = inl (sym (some_same e));
  plain = record { contract = c; same = sym (some_same e); own = own; there = there; plain = at };
}
contract_of m c own z false there at e = declared_of m c own z own.implements there refl e

code_of : (m : Image) (c : ContractId) (z : Kind) (o : Option ContractCode) → slice_get m.contracts c.0 ≡ o → option_and_then (interface_of_contract m c) o ≡ Some z → HasInterface m (kind.Reference c) z
code_of m c z None there e = absurd (none_some e)
code_of m c z (Some own) there e = contract_of m c own z (is_plain_interface own) there refl e

has_interface : (m : Image) (x z : Kind) → interface_of m x ≡ Some z → HasInterface m x z
has_interface m (kind.Reference c) z e = code_of m c z (slice_get m.contracts c.0) refl e
has_interface m x z e = absurd (none_some e)

plain_own : (m : Image) (x : Kind) → IsPlain m x → interface_of m x ≡ Some x
plain_own m x h = ap (interface_of m) h.same ∙ ap (option_and_then (interface_of_contract m h.contract)) h.there
    ∙ ap (λ b. cond b (Some (kind.Reference h.contract)) (interface_declared m h.own.implements)) h.plain ∙ ap Some (sym h.same)

-- an interface is its own
pub interface_own : (m : Image) (x z : Kind) → interface_of m x ≡ Some z → interface_of m z ≡ Some z
interface_own m x z e = plain_own m z (has_interface m x z e).plain

-- a kind may take the place of its interface
fits_how : (m : Image) (x z : Kind) → HasInterface m x z → fits m x z ≡ true
fits_how m x z h = elim (h.how) [
  | inl e ↦ ap (λ w. fits m w z) h.same ∙ ap (fits m (kind.Reference h.contract)) (e ∙ h.same) ∙ or_left (h.contract.0 == h.contract.0) (option_map_or (implements_number h.contract) (slice_get m.contracts h.contract.0) false) (eq-eqb h.contract.0 h.contract.0 refl)
  | inr w ↦
      ap (λ w. fits m w z) h.same ∙ ap (fits m (kind.Reference h.contract)) w.1
      ∙ or_right (h.contract.0 == w.0.0) (option_map_or (implements_number w.0) (slice_get m.contracts h.contract.0) false)
      (ap (λ o. option_map_or (implements_number w.0) o false) h.there ∙ eq-eqb h.own.implements (w.0.0 + 1) (let e : h.own.implements ≡ suc w.0.0 = w.2 in omega arith))
]

pub interface_fits : (m : Image) (x z : Kind) → interface_of m x ≡ Some z → fits m x z ≡ true
interface_fits m x z e = fits_how m x z (has_interface m x z e)

contracts_same : (c d : ContractId) → c.0 ≡ d.0 → kind.Reference c ≡ kind.Reference d
contracts_same c d e = ap (λ (n : ℕ). let made : ContractId = record { 0 = n } in kind.Reference made) e

-- the contract of a number, by its code, says that it implements another
says_it : (d : ContractId) (o : Option ContractCode) (own : ContractCode) → o ≡ Some own → option_map_or (implements_number d) o false ≡ true → own.implements ≡ d.0 + 1
says_it d o own at e = eqb-true own.implements (d.0 + 1) (sym (ap (λ z. option_map_or (implements_number d) z false) at) ∙ e)

-- what fits where a reference is wanted
wanted_of : (m : Image) (c : ContractId) (own : ContractCode) (wanted : Kind) → slice_get m.contracts c.0 ≡ Some own → fits m (kind.Reference c) wanted ≡ true
    → (wanted ≡ kind.Reference c) ⊎ ((d : ContractId) × (wanted ≡ kind.Reference d) × (own.implements ≡ suc d.0))
wanted_of m c own kind.Int there e = absurd (true≢false (sym e))
wanted_of m c own kind.Bool there e = absurd (true≢false (sym e))
wanted_of m c own kind.Text there e = absurd (true≢false (sym e))
wanted_of m c own (kind.Reference d) there e = elim (or_cases (c.0 == d.0) (option_map_or (implements_number d) (slice_get m.contracts c.0) false) e) [
  | inl h ↦ inl (sym (contracts_same c d (eqb-true c.0 d.0 h)))
  | inr h ↦ let n : own.implements ≡ d.0 + 1 = says_it d (slice_get m.contracts c.0) own there h in inr (d, refl, omega arith)
]

plain_none : (own : ContractCode) → is_plain_interface own ≡ true → own.implements ≡ 0
plain_none own e = eqb-true own.implements 0 (and_parts (is_interface own) (own.implements == 0) e).1

-- an interface that implements none may take the place of itself alone
plain_fits : (m : Image) (x wanted : Kind) → IsPlain m x → fits m x wanted ≡ true → wanted ≡ x
plain_fits m x wanted h e = elim (wanted_of m h.contract h.own wanted h.there (ap (λ z. fits m z wanted) (sym h.same) ∙ e)) [
  | inl g ↦ g ∙ sym h.same
  | inr g ↦ let n : h.own.implements ≡ suc g.0.0 = g.2 in let o : h.own.implements ≡ 0 = plain_none h.own h.plain in absurd (omega arith)
]

pub interface_alone : (m : Image) (x z wanted : Kind) → interface_of m x ≡ Some z → fits m z wanted ≡ true → wanted ≡ z
interface_alone m x z wanted e = plain_fits m z wanted (has_interface m x z e).plain

wanted_how : (m : Image) (x z wanted : Kind) → HasInterface m x z → fits m x wanted ≡ true → (wanted ≡ x) ⊎ (wanted ≡ z)
wanted_how m x z wanted h e = elim (wanted_of m h.contract h.own wanted h.there (ap (λ w. fits m w wanted) (sym h.same) ∙ e)) [
  | inl g ↦ inl (g ∙ sym h.same)
  | inr g ↦ elim (h.how) [
    | inl own ↦ inr (plain_fits m z wanted h.plain (ap (λ w. fits m w wanted) own ∙ e))
    | inr w ↦ let a : h.own.implements ≡ suc g.0.0 = g.2 in let b : h.own.implements ≡ suc w.0.0 = w.2 in inr (g.1 ∙ contracts_same g.0 w.0 (omega arith) ∙ sym w.1)
  ]
]

-- a kind that has an interface may take the place of itself and of that alone
pub wanted_is : (m : Image) (x z wanted : Kind) → interface_of m x ≡ Some z → fits m x wanted ≡ true → (wanted ≡ x) ⊎ (wanted ≡ z)
wanted_is m x z wanted e = wanted_how m x z wanted (has_interface m x z e)

-- both are kinds of references
pub interface_references : (m : Image) (x z : Kind) → interface_of m x ≡ Some z → (is_reference x ≡ true) × (is_reference z ≡ true)
interface_references m x z e = let h = has_interface m x z e in (ap is_reference h.same, ap is_reference h.plain.same)

-- Kinds that belong to others.

pub belongs_self : (m : Image) (x : Kind) → BelongsTo m x x
belongs_self m x = inl refl

pub belongs_all : (m : Image) (x y z : Kind) → BelongsTo m x y → BelongsTo m y z → BelongsTo m x z
belongs_all m x y z (inl e) h = subst (λ w. BelongsTo m w z) (sym e) h
belongs_all m x y z (inr e) (inl g) = inr (e ∙ ap Some g)
belongs_all m x y z (inr e) (inr g) = inr (e ∙ sym (interface_own m x y e) ∙ g)

pub belongs_back : (m : Image) (x y : Kind) → BelongsTo m x y → BelongsTo m y x → x ≡ y
belongs_back m x y (inl e) h = e
belongs_back m x y (inr e) (inl g) = sym g
belongs_back m x y (inr e) (inr g) = some_same (sym g ∙ interface_own m x y e)

pub belongs_reference : (m : Image) (x y : Kind) → BelongsTo m x y → is_reference x ≡ is_reference y
belongs_reference m x y (inl e) = ap is_reference e
belongs_reference m x y (inr e) = let h = interface_references m x y e in h.0 ∙ sym h.1

-- to a kind that is no reference's only that one belongs
pub belongs_plain : (m : Image) (x y : Kind) → is_reference y ≡ false → BelongsTo m x y → x ≡ y
belongs_plain m x y plain (inl e) = e
belongs_plain m x y plain (inr e) = absurd (true≢false (sym (interface_references m x y e).1 ∙ plain))

-- What two kinds have in common.

-- how two kinds have something in common, or nothing
pub data Common (m : Image) (x y : Kind) : Option Kind → Type 0 where
  the_same : x ≡ y → Common m x y (Some x)
  of_both : (z : Kind) → x ≢ y → interface_of m x ≡ Some z → interface_of m y ≡ Some z → Common m x y (Some z)
  apart : x ≢ y → ((z : Kind) → interface_of m x ≡ Some z → interface_of m y ≡ Some z → ⊥) → Common m x y None

one_by : (m : Image) (x y a b : Kind) (c : Bool) → x ≢ y → interface_of m x ≡ Some a → interface_of m y ≡ Some b → same_kind a b ≡ c → Common m x y (cond c (Some a) None)
one_by m x y a b true ne e g s = of_both a ne e (g ∙ ap Some (sym (same_kind_of a b s)))
one_by m x y a b false ne e g s = apart ne (λ z u v. differ_kind a b s (some_same (sym e ∙ u ∙ sym v ∙ g)))

one_of : (m : Image) (x y : Kind) (o p : Option Kind) → x ≢ y → interface_of m x ≡ o → interface_of m y ≡ p → Common m x y (one_kind o p)
one_of m x y None p ne e g = apart ne (λ z u v. none_some (sym e ∙ u))
one_of m x y (Some a) None ne e g = apart ne (λ z u v. none_some (sym g ∙ v))
one_of m x y (Some a) (Some b) ne e g = one_by m x y a b (same_kind a b) ne e g refl

common_by : (m : Image) (x y : Kind) (c : Bool) → same_kind x y ≡ c → Common m x y (cond c (Some x) (one_kind (interface_of m x) (interface_of m y)))
common_by m x y true e = the_same (same_kind_of x y e)
common_by m x y false e = one_of m x y (interface_of m x) (interface_of m y) (differ_kind x y e) refl refl

pub in_common : (m : Image) (x y : Kind) → Common m x y (common m x y)
in_common m x y = common_by m x y (same_kind x y) refl

one_common : {m : Image} {x y : Kind} {o p : Option Kind} → Common m x y o → Common m x y p → o ≡ p
one_common (the_same e) (the_same g) = refl
one_common (the_same e) (of_both z ne u v) = absurd (ne e)
one_common (the_same e) (apart ne no_one) = absurd (ne e)
one_common (of_both z ne u v) (the_same g) = absurd (ne g)
one_common (of_both z ne u v) (of_both w other a b) = sym u ∙ a
one_common (of_both z ne u v) (apart other no_one) = absurd (no_one z u v)
one_common (apart ne no_one) (the_same g) = absurd (ne g)
one_common (apart ne no_one) (of_both w other a b) = absurd (no_one w a b)
one_common (apart ne no_one) (apart other never) = refl

common_is : (m : Image) (x y : Kind) (o : Option Kind) → Common m x y o → common m x y ≡ o
common_is m x y o h = one_common (in_common m x y) h

-- both kinds belong to what they have in common
common_left : (m : Image) (x y z : Kind) (o : Option Kind) → Common m x y o → o ≡ Some z → BelongsTo m x z
common_left m x y z o (the_same e) g = inl (some_same g)
common_left m x y z o (of_both w ne u v) g = inr (u ∙ g)
common_left m x y z o (apart ne no_one) g = absurd (none_some g)

common_right : (m : Image) (x y z : Kind) (o : Option Kind) → Common m x y o → o ≡ Some z → BelongsTo m y z
common_right m x y z o (the_same e) g = inl (sym e ∙ some_same g)
common_right m x y z o (of_both w ne u v) g = inr (v ∙ g)
common_right m x y z o (apart ne no_one) g = absurd (none_some g)

-- and that is the least to which both belong
common_least : (m : Image) (x y z w : Kind) (o : Option Kind) → Common m x y o → o ≡ Some z → BelongsTo m x w → BelongsTo m y w → BelongsTo m z w
common_least m x y z w o (the_same e) g a b = subst (λ k. BelongsTo m k w) (some_same g) a
common_least m x y z w o (of_both k ne u v) g (inl a) (inl b) = absurd (ne (a ∙ sym b))
common_least m x y z w o (of_both k ne u v) g (inr a) b = inl (some_same (sym g ∙ sym u ∙ a))
common_least m x y z w o (of_both k ne u v) g (inl a) (inr b) = inl (some_same (sym g ∙ sym v ∙ b))
common_least m x y z w o (apart ne no_one) g a b = absurd (none_some g)

-- kinds that belong to one have something in common
common_some : (m : Image) (x y w : Kind) (o : Option Kind) → Common m x y o → BelongsTo m x w → BelongsTo m y w → o ≢ None
common_some m x y w o (the_same e) a b g = none_some (sym g)
common_some m x y w o (of_both k ne u v) a b g = none_some (sym g)
common_some m x y w o (apart ne no_one) (inl a) (inl b) g = ne (a ∙ sym b)
common_some m x y w o (apart ne no_one) (inl a) (inr b) g = no_one w (ap (interface_of m) a ∙ interface_own m y w b) b
common_some m x y w o (apart ne no_one) (inr a) (inl b) g = no_one w a (ap (interface_of m) b ∙ interface_own m x w a)
common_some m x y w o (apart ne no_one) (inr a) (inr b) g = no_one w a b

-- What slots hold on two ways.

-- a slot holds a kind that belongs to another
abbrev pub HoldsOne : Image → Option Kind → Kind → Type 0
HoldsOne m o x = (y : Kind) × (o ≡ Some y) × BelongsTo m y x

pub holds_all : (m : Image) (o : Option Kind) (x z : Kind) → HoldsOne m o x → BelongsTo m x z → HoldsOne m o z
holds_all m o x z h b = (h.0, h.1, belongs_all m h.0 x z h.2 b)

pub both_left : (m : Image) (o p : Option Kind) (z : Kind) → both_hold m o p ≡ Some z → HoldsOne m o z
both_left m None p z e = absurd (none_some e)
both_left m (Some x) None z e = absurd (none_some e)
both_left m (Some x) (Some y) z e = (x, refl, common_left m x y z (common m x y) (in_common m x y) e)

pub both_right : (m : Image) (o p : Option Kind) (z : Kind) → both_hold m o p ≡ Some z → HoldsOne m p z
both_right m None p z e = absurd (none_some e)
both_right m (Some x) None z e = absurd (none_some e)
both_right m (Some x) (Some y) z e = (y, refl, common_right m x y z (common m x y) (in_common m x y) e)

pub both_self : (m : Image) (o : Option Kind) → both_hold m o o ≡ o
both_self m None = refl
both_self m (Some x) = common_is m x x (Some x) (the_same refl)

-- what two slots hold that belongs to one kind has that in common, or less
pub both_least : (m : Image) (o p r : Option Kind) (w : Kind) → both_hold m o p ≡ r → HoldsOne m o w → HoldsOne m p w → HoldsOne m r w
both_least m o p None w e (x, at, a) (y, there, b) = absurd (common_some m x y w (common m x y) (in_common m x y) a b (sym (ap (λ z. both_hold m z p) at ∙ ap (both_hold m (Some x)) there) ∙ e))
both_least m o p (Some z) w e (x, at, a) (y, there, b) =
    (z, refl, common_least m x y z w (common m x y) (in_common m x y) (sym (ap (λ z. both_hold m z p) at ∙ ap (both_hold m (Some x)) there) ∙ e) a b)

-- What is known of a slot is what two ways both hold: so it stays where further ways meet.

-- what two of these have in common
abbrev pub Two : Image → (Option Kind → Type 0) → Option Kind → Type 0
Two m P r = (o p : Option Kind) × P o × P p × (both_hold m o p ≡ r)

pub two_one : (m : Image) (P : Option Kind → Type 0) (o : Option Kind) → P o → Two m P o
two_one m P o h = (o, o, h, h, both_self m o)

-- a kind is one of these, or the interface of two of them
data Found (m : Image) (P : Option Kind → Type 0) (x : Kind) : Type 0 where
  is_one : P (Some x) → Found m P x
  between : (a b : Kind) → P (Some a) → P (Some b) → a ≢ b → interface_of m a ≡ Some x → interface_of m b ≡ Some x → Found m P x

found_by : (m : Image) (P : Option Kind → Type 0) (x a b : Kind) (o : Option Kind) → P (Some a) → P (Some b) → Common m a b o → o ≡ Some x → Found m P x
found_by m P x a b o h g (the_same e) u = is_one (subst (λ z. P (Some z)) (some_same u) h)
found_by m P x a b o h g (of_both z ne v w) u = between a b h g ne (v ∙ u) (w ∙ u)
found_by m P x a b o h g (apart ne no_one) u = absurd (none_some u)

found_of : (m : Image) (P : Option Kind → Type 0) (x : Kind) → Two m P (Some x) → Found m P x
found_of m P x (None, p, h, g, e) = absurd (none_some e)
found_of m P x (Some a, None, h, g, e) = absurd (none_some e)
found_of m P x (Some a, Some b, h, g, e) = found_by m P x a b (common m a b) h g (in_common m a b) e

-- one of them that belongs to it
found_some : (m : Image) (P : Option Kind → Type 0) (x : Kind) → Found m P x → (a : Kind) × P (Some a) × BelongsTo m a x
found_some m P x (is_one h) = (x, h, inl refl)
found_some m P x (between a b h g ne u v) = (a, h, inr u)

-- kinds that belong to two which have nothing in common have nothing in common
apart_below : (m : Image) (x y a b : Kind) (o p : Option Kind) → Common m x y o → o ≡ None → BelongsTo m a x → BelongsTo m b y → Common m a b p → p ≡ None
apart_below m x y a b o p (the_same e) n h g c = absurd (none_some (sym n))
apart_below m x y a b o p (of_both z ne u v) n h g c = absurd (none_some (sym n))
apart_below m x y a b o p (apart ne no_one) n h g (apart other never) = refl
apart_below m x y a b o p (apart ne no_one) n (inl h) (inl g) (the_same e) = absurd (ne (sym h ∙ e ∙ g))
apart_below m x y a b o p (apart ne no_one) n (inl h) (inr g) (the_same e) = absurd (no_one y (ap (interface_of m) (sym h ∙ e) ∙ g) (interface_own m b y g))
apart_below m x y a b o p (apart ne no_one) n (inr h) (inl g) (the_same e) = absurd (no_one x (interface_own m a x h) (ap (interface_of m) (sym g ∙ sym e) ∙ h))
apart_below m x y a b o p (apart ne no_one) n (inr h) (inr g) (the_same e) = absurd (ne (some_same (sym h ∙ ap (interface_of m) e ∙ g)))
apart_below m x y a b o p (apart ne no_one) n (inl h) (inl g) (of_both z other u v) = absurd (no_one z (ap (interface_of m) (sym h) ∙ u) (ap (interface_of m) (sym g) ∙ v))
apart_below m x y a b o p (apart ne no_one) n (inl h) (inr g) (of_both z other u v) =
    absurd (no_one z (ap (interface_of m) (sym h) ∙ u) (interface_own m b y g ∙ sym g ∙ v))
apart_below m x y a b o p (apart ne no_one) n (inr h) (inl g) (of_both z other u v) =
    absurd (no_one z (interface_own m a x h ∙ sym h ∙ u) (ap (interface_of m) (sym g) ∙ v))
apart_below m x y a b o p (apart ne no_one) n (inr h) (inr g) (of_both z other u v) = absurd (ne (some_same (sym h ∙ u ∙ sym v ∙ g)))

-- two kinds that have something in common, each of which is one of these or the interface of two, have that in common which two of
-- these have
met_found : (m : Image) (P : Option Kind → Type 0) (x y : Kind) (o : Option Kind) → Two m P (Some x) → Two m P (Some y) → Found m P x → Found m P y → Common m x y o → Two m P o
met_found m P x y o f g h k (the_same e) = f
met_found m P x y o f g (is_one h) (is_one k) (of_both z ne u v) = (Some x, Some y, h, k, common_is m x y (Some z) (of_both z ne u v))
met_found m P x y o f g (between a b h i other s t) k (of_both z ne u v) = subst (Two m P) (sym (interface_own m a x s) ∙ u) f
met_found m P x y o f g (is_one h) (between a b i k other s t) (of_both z ne u v) = subst (Two m P) (sym (interface_own m a y s) ∙ v) g
met_found m P x y o f g h k (apart ne no_one) =
    let a = found_some m P x h in
    let b = found_some m P y k in
    (Some a.0, Some b.0, a.1, b.1, apart_below m x y a.0 b.0 None (common m a.0 b.0) (apart ne no_one) refl a.2 b.2 (in_common m a.0 b.0))

pub two_meet : (m : Image) (P : Option Kind → Type 0) (o p : Option Kind) → Two m P o → Two m P p → Two m P (both_hold m o p)
two_meet m P None p f g = f
two_meet m P (Some x) None f g = g
two_meet m P (Some x) (Some y) f g = met_found m P x y (common m x y) f g (found_of m P x f) (found_of m P y g) (in_common m x y)
