-- What is known where a body begins.
use Rattle.std.proofs.Common.{◌≡◌, ℕ, zero, suc, ◌+◌, Bool, true, false, List, [], ◌∷◌, Option, Some, None, refl, ap, ◌∙◌, arith, ◌⊎◌, inl, inr, eqb-true, eq-eqb}
use Rattle.std.specs.Prelude.{◌&&◌, nat_eq, slice_get, option_map, if◌then◌else◌}
use Rattle.std.proofs.lemmas.Bool.{cond-true, cond-false, ne_eqb}
use Rattle.ob_perm.specs.States.{stateless, only}
use Rattle.ob_perm.specs.Permissions.{owned}
use Rattle.ob_perm.specs.Masks.{permission_of}
use Rattle.ob_table.specs.declared.contract.Field.{Field}
use Rattle.ob_table.specs.declared.contract.Param.{Param}
use Rattle.ob_table.specs.declared.seen.Kind.TheVariants.{Reference}
use Rattle.ob_table_spec.specs.WellFormed.{kind_of_resolved}
use Rattle.ob_silica_places.specs.Known.{Known, known}
use Rattle.ob_silica_places.specs.Places.{slot, field, this}
use Rattle.ob_flow_spec.specs.Contexts.{BodyFrame, constructs, available, entry_of_field, known_as, params_known, this_known, beginning}

-- Parameters have the slots from a number on, in their order.
pub param_known : (n : ℕ) (ps : List Param) (j : ℕ) (p : Param) → slice_get ps j ≡ Some p
    → params_known n ps (n + j) ≡ Some (known_as p.of)
param_known n [] j p e = absurd (cc)
param_known n (q ∷ ps) zero p e =
    cond-true (nat_eq (n + 0) n) (Some (known_as q.of)) (params_known (n + 1) ps (n + 0))
    (eq-eqb (n + 0) n (omega arith))
    ∙ ap (λ o. option_map (λ (x : Param). known_as x.of) o) e
param_known n (q ∷ ps) (suc j) p e =
    cond-false (nat_eq (n + suc j) n) (Some (known_as q.of)) (params_known (n + 1) ps (n + suc j))
    (ne_eqb (n + suc j) n (λ z. omega (arith, z)))
    ∙ ap (params_known (n + 1) ps) (omega arith) ∙ param_known (n + 1) ps j p e

-- What is known of a slot is a parameter's.
pub param_of_known : (n : ℕ) (ps : List Param) (k : ℕ) (x : Known) → params_known n ps k ≡ Some x
    → (j : ℕ) × (p : Param) × (k ≡ n + j) × (slice_get ps j ≡ Some p) × (x ≡ known_as p.of)
param_of_known n [] k x e = absurd (cc)
param_of_known n (q ∷ ps) k x e = by_number (nat_eq k n) refl e (λ found. param_of_known (n + 1) ps k x found)
  where
    by_number : (b : Bool) → nat_eq k n ≡ b → (if b then Some (known_as q.of) else params_known (n + 1) ps k) ≡ Some x
        → (params_known (n + 1) ps k ≡ Some x
        → (j : ℕ) × (p : Param) × (k ≡ n + 1 + j) × (slice_get ps j ≡ Some p) × (x ≡ known_as p.of))
        → (j : ℕ) × (p : Param) × (k ≡ n + j) × (slice_get (q ∷ ps) j ≡ Some p) × (x ≡ known_as p.of)
    by_number true same e more = let is = eqb-true k n same in (0, q, omega (arith, is), refl, cc)
    by_number false other e more =
        let found = more e in
        let is : k ≡ n + 1 + found.0 = found.2 in
        (suc found.0, found.1, omega (arith, is), found.3, found.4)

-- The beginning of a body: `this`, its parameters, and no slot above them.
pub beginning_this : (b : BodyFrame) → beginning b this ≡ Some (this_known b)
beginning_this b = refl

pub beginning_param : (b : BodyFrame) (j : ℕ) (p : Param) → slice_get b.signature.params j ≡ Some p
    → beginning b (slot (1 + j)) ≡ Some (known_as p.of)
beginning_param b j p e =
    cond-false (nat_eq (1 + j) 0) (Some (this_known b)) (params_known 1 b.signature.params (1 + j))
    (ne_eqb (1 + j) 0 (λ z. omega (arith, z)))
    ∙ param_known 1 b.signature.params j p e

pub beginning_slot : (b : BodyFrame) (k : ℕ) (x : Known) → beginning b (slot k) ≡ Some x
    → ((k ≡ 0) × (x ≡ this_known b))
    ⊎ ((j : ℕ) × (p : Param) × (k ≡ 1 + j) × (slice_get b.signature.params j ≡ Some p) × (x ≡ known_as p.of))
beginning_slot b k x e = by_number (nat_eq k 0) refl e
  where
    by_number : (z : Bool) → nat_eq k 0 ≡ z
        → (if z then Some (this_known b) else params_known 1 b.signature.params k) ≡ Some x
        → ((k ≡ 0) × (x ≡ this_known b))
        ⊎ ((j : ℕ) × (p : Param) × (k ≡ 1 + j) × (slice_get b.signature.params j ≡ Some p) × (x ≡ known_as p.of))
    by_number true same e = inl (eqb-true k 0 same, cc)
    by_number false other e = inr (param_of_known 1 b.signature.params k x e)

-- In a transaction `this` is held as at its entry; in a constructor it is an owner's, in no state.
pub this_of_transaction : (b : BodyFrame) → constructs b ≡ false
    → this_known b ≡ known (Reference b.here) (permission_of b.signature.entry)
this_of_transaction b e =
    ap (λ z. known (Reference b.here) (if z then owned (only stateless) else permission_of b.signature.entry)) e

pub this_of_constructor : (b : BodyFrame) → constructs b ≡ true
    → this_known b ≡ known (Reference b.here) (owned (only stateless))
this_of_constructor b e =
    ap (λ z. known (Reference b.here) (if z then owned (only stateless) else permission_of b.signature.entry)) e

-- what is known of a field with which a body is entered
abbrev entered_with : BodyFrame → ℕ → Option Known
entered_with b f =
    option_map (λ (x : Field). known (kind_of_resolved x.of) (entry_of_field b b.signature f))
    (slice_get b.own.fields f)

-- A field begins with the permission at its entry, unless a constructor has it still to set.
pub beginning_field : (b : BodyFrame) (f : ℕ) (x : Field) → slice_get b.own.fields f ≡ Some x → constructs b ≡ false
    → beginning b (field f) ≡ Some (known (kind_of_resolved x.of) (entry_of_field b b.signature f))
beginning_field b f x e transaction =
    ap (λ z. if z && available b f stateless then None else entered_with b f) transaction
    ∙ ap (option_map (λ (x : Field). known (kind_of_resolved x.of) (entry_of_field b b.signature f))) e

pub beginning_unset : (b : BodyFrame) (f : ℕ) → constructs b ≡ true → available b f stateless ≡ true
    → beginning b (field f) ≡ None
beginning_unset b f makes top =
    ap (λ z. if z && available b f stateless then None else entered_with b f) makes
    ∙ ap (λ z. if z then None else entered_with b f) top
