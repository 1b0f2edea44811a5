-- The variables of a body without faults, by name and by number.
use Rattle.std.proofs.Common.{◌≡◌, ℕ, zero, suc, ◌+◌, ◌<◌, ◌≤◌, Bool, true, false, List, [], ◌∷◌, ◌++◌, map, Option, Some, None, refl, sym, ap, subst, arith, ◌∙◌, cond}
use Rattle.std.proofs.lemmas.List.{map-append}
use Rattle.std.proofs.lemmas.Bool.Decides.{nat_tests}
use Rattle.std.specs.Prelude.{◌||◌, nat_eq, option_map, slice_get, if◌then◌else◌}
use Rattle.std.specs.Option.{option_map_or}
use Rattle.ob_tree.specs.Members.{Contract}
use Rattle.ob_table.specs.declared.seen.Kind.{Kind}
use Rattle.ob_table.specs.declared.seen.Seen.TheVariants.{This, Local, Field as FieldSeen}
use Rattle.ob_table_spec.specs.Names.{Name, same, is_among, number_of, first_named}
use Rattle.ob_resolve_spec.specs.Declarations.{Program, number_of_contract, declared_contract, field_names, fields_of}
use Rattle.ob_resolve_spec.specs.declared.kind.InferredKind.{InferredKind}
use Rattle.ob_resolve_spec.specs.declared.kind.InferredKind.TheVariants.{Reference as a_reference, Unknown as unknown}
use Rattle.ob_resolve_spec.specs.Kinds.{kind_of_type}
use Rattle.ob_resolve_spec.specs.declared.variable.ScopeVariable.{ScopeVariable}
use Rattle.ob_resolve_spec.specs.Scopes.{AroundBody, Scope, variable_named, with_local, past, kind_of_this, kind_of_field, kind_of_variable}
use Rattle.ob_resolve_spec.specs.Bodies.{resolved_local, seen_name}
use Rattle.ob_resolve_spec.specs.TableOf.{field_in_table, contract_in_table, table_of}
use Rattle.ob_table_spec.specs.WellFormed.{StaticFrame, LocalKinds, local_kind, kind_of_seen, kind_of_resolved}
use Rattle.ob_resolve_laws.proofs.Each.{Each, each_both, each_weaker, each_at}
use Rattle.ob_resolve_laws.proofs.LookUps.{slice_get-map, named_at, among_number}
use Rattle.ob_resolve_laws.proofs.SignatureFacts.{NamedField, field_found}
use Rattle.ob_resolve_laws.proofs.KindFacts.{IsValueKind, KnownType}

-- numbers that rise from above this one on
abbrev pub Rising : ℕ → List ScopeVariable → Type 0
Rising low [] = Unit {0}
Rising low (v ∷ vs) = (low < v.number) × Rising v.number vs

-- variables with known kinds and rising numbers, where the first numbers are the parameters'
pub record GoodScope (program : Program) (params : ℕ) (s : Scope) : Type 0 where
  pub kinds : Each (λ v. IsValueKind program v.of) s.variables
  pub rising : Rising 0 s.variables
  pub within : Each (λ v. v.number ≤ s.count) s.variables
  pub locals : Each (λ v. v.is_param ≡ false → params < v.number) s.variables
  pub params_first : params ≤ s.count

-- the variables by number
abbrev pub by_number : List ScopeVariable → LocalKinds
by_number vs = map (λ v. (v.number, resolved_local v.of)) vs

rising_above : (low : ℕ) (vs : List ScopeVariable) (k : ℕ) (v : ScopeVariable) → Rising low vs → slice_get vs k ≡ Some v
    → low < v.number
rising_above low [] k v r e = absurd cc
rising_above low (u ∷ vs) zero v r e = let s : u ≡ v = cc in subst (λ w. low < w.number) s r.0
rising_above low (u ∷ vs) (suc k) v r e = let h = rising_above u.number vs k v r.1 e in omega (arith, h, r.0)

-- at the number of a variable stands its kind
kind_at_number : (low : ℕ) (vs : List ScopeVariable) (k : ℕ) (v : ScopeVariable) → Rising low vs → slice_get vs k ≡ Some v
    → local_kind (by_number vs) v.number ≡ Some (resolved_local v.of)
kind_at_number low [] k v r e = absurd cc
kind_at_number low (u ∷ vs) zero v r e =
    let s : u ≡ v = cc in
    let t : nat_eq v.number v.number ≡ true = grind (arith, nat_tests) in
    subst (λ (w : ScopeVariable). (if nat_eq v.number w.number then Some (resolved_local w.of) else local_kind (by_number vs)
    v.number) ≡ Some (resolved_local v.of)) (sym s) (rw t refl)
kind_at_number low (u ∷ vs) (suc k) v r e =
    let h = rising_above u.number vs k v r.1 e in
    let f : nat_eq v.number u.number ≡ false = grind (arith, nat_tests, h) in
    rw f (kind_at_number u.number vs k v r.1 e)

-- a number above all is no variable's
pub no_number : (count : ℕ) (vs : List ScopeVariable) (n : ℕ) → Each (λ v. v.number ≤ count) vs → count < n
    → local_kind (by_number vs) n ≡ None
no_number count [] n h l = refl
no_number count (v ∷ vs) n h l =
    let f : nat_eq n v.number ≡ false = grind (arith, nat_tests, h.0) in
    rw f (no_number count vs n h.1 l)

rising_push : (low : ℕ) (vs : List ScopeVariable) (count : ℕ) (v : ScopeVariable) → Rising low vs
    → Each (λ u. u.number ≤ count) vs → low ≤ count → v.number ≡ count + 1 → Rising low (vs ++ v ∷ [])
rising_push low [] count v r h l e = (omega arith, tt)
rising_push low (u ∷ vs) count v r h l e = (r.0, rising_push u.number vs count v r.1 h.1 h.0 e)

-- one more local
pub good_with : (program : Program) (params : ℕ) (s : Scope) (name : Name) (kind : InferredKind) → GoodScope program params s
    → IsValueKind program kind → GoodScope program params (with_local s name kind)
good_with program params s name kind g k = record {
  kinds = each_both (λ v. IsValueKind program v.of) s.variables _ g.kinds (k, tt);
  rising = rising_push 0 s.variables s.count _ g.rising g.within (omega arith) refl;
  within = each_both (λ v. v.number ≤ s.count + 1) s.variables _
      (each_weaker _ (λ (v : ScopeVariable). v.number ≤ s.count + 1) (λ v l. omega (arith, l)) s.variables g.within)
      (omega arith, tt);
  locals = let l = g.params_first in each_both (λ v. v.is_param ≡ false → params < v.number) s.variables _ g.locals
      ((λ e. omega (arith, l)), tt);
  params_first = let l = g.params_first in omega (arith, l);
}

pub good_past : (program : Program) (params : ℕ) (s : Scope) (n : ℕ) → GoodScope program params s
    → GoodScope program params (past s n)
good_past program params s n g = record {
  kinds = g.kinds;
  rising = g.rising;
  within = each_weaker _ (λ (v : ScopeVariable). v.number ≤ s.count + n) (λ v l. omega (arith, l)) s.variables g.within;
  locals = g.locals;
  params_first = let l = g.params_first in omega (arith, l);
}

pub by_number-with : (s : Scope) (name : Name) (kind : InferredKind)
    → by_number (with_local s name kind).variables ≡ by_number s.variables ++ (s.count + 1, resolved_local kind) ∷ []
by_number-with s name kind = map-append (λ (v : ScopeVariable). (v.number, resolved_local v.of)) s.variables _

-- What a body stands in.

pub record World (program : Program) (own : Contract) : Type 0 where
  pub number : ℕ
  pub numbered : number_of_contract program own.name ≡ Some number
  pub at : declared_contract program number ≡ Some own
  pub fields : Each (λ f. KnownType program f.field.of) (fields_of own)

pub this_known : (a : AroundBody) (w : World a.program a.own) → kind_of_this a ≡ a_reference w.number
this_known a w = ap (λ o. option_map_or a_reference o unknown) w.numbered

-- a body's frame: the table, and the contract by its number
abbrev pub frame_in : (a : AroundBody) → ℕ → ℕ → Option Kind → StaticFrame
frame_in a here params result = record {
  table = table_of a.program;
  here = record { 0 = here };
  own =
      contract_in_table a.program a.own;
  params = params;
  result = result;
}

-- a name of a variable or a field, by name and by number
pub record KnownName (a : AroundBody) (s : Scope) (f : StaticFrame) (name : Name) : Type 0 where
  pub kind : IsValueKind a.program (kind_of_variable a s name)
  pub seen : kind_of_seen f (by_number s.variables) (seen_name a s name)
      ≡ Some (resolved_local (kind_of_variable a s name))

none_among : (vs : List ScopeVariable) (name : Name) → first_named (λ (v : ScopeVariable). v.name) name vs ≡ None
    → is_among name (map (λ (v : ScopeVariable). v.name) vs) ≡ false
none_among [] name e = refl
none_among (v ∷ vs) name e = at (same name v.name) (none_among vs name) e
  where
    at : (b : Bool) → (first_named (λ (v : ScopeVariable). v.name) name vs ≡ None
        → is_among name (map (λ (v : ScopeVariable). v.name) vs) ≡ false)
        → cond b (Some v) (first_named (λ (v : ScopeVariable). v.name) name vs) ≡ None
        → (b || is_among name (map (λ (v : ScopeVariable). v.name) vs)) ≡ false
    at true r e = absurd cc
    at false r e = r e

field_seen : (a : AroundBody) (w : World a.program a.own) (s : Scope) (here params : ℕ) (result : Option Kind)
    (name : Name) → NamedField a.program a.own name → first_named (λ (v : ScopeVariable). v.name) name s.variables ≡ None
    → KnownName a s (frame_in a here params result) name
field_seen a w s here params result name n e =
    let t = each_at _ (fields_of a.own) n.number n.field w.fields n.at in
    let k : kind_of_variable a s name ≡ kind_of_type a.program n.field.field.of =
    ap (λ o. option_map_or (λ (v : ScopeVariable). v.of) o (kind_of_field a.program a.own name)) e ∙ n.kind in
    let x : seen_name a s name ≡ FieldSeen (record { 0 = n.number }) =
    ap (λ o. option_map_or (λ (v : ScopeVariable). Local v.number) o
    (option_map_or (λ n. FieldSeen (record { 0 = n })) (number_of name (field_names a.own)) This)) e
    ∙ ap (λ o. option_map_or (λ n. FieldSeen (record { 0 = n })) o This) n.numbered in
    let y : slice_get (map (field_in_table a.program a.own) (fields_of a.own)) n.number
    ≡ Some (field_in_table a.program a.own n.field) = slice_get-map (field_in_table a.program a.own)
    (fields_of a.own) n.number ∙ ap (option_map (field_in_table a.program a.own)) n.at in
    record {
      kind = subst (IsValueKind a.program) (sym k) t.value;
      seen = ap (kind_of_seen (frame_in a here params result) (by_number s.variables)) x
          ∙ ap (option_map (λ field. kind_of_resolved field.of)) y ∙ ap Some (t.in_table_as ∙ ap resolved_local (sym k));
    }

variable_seen : (a : AroundBody) (s : Scope) (here params : ℕ) (result : Option Kind) (name : Name) (v : ScopeVariable)
    → GoodScope a.program params s → first_named (λ (v : ScopeVariable). v.name) name s.variables ≡ Some v
    → KnownName a s (frame_in a here params result) name
variable_seen a s here params result name v g e =
    let at = named_at (λ (v : ScopeVariable). v.name) name s.variables v e in
    let k : kind_of_variable a s name ≡ v.of =
    ap (λ o. option_map_or (λ (v : ScopeVariable). v.of) o (kind_of_field a.program a.own name)) e in
    let x : seen_name a s name ≡ Local v.number =
    ap (λ o. option_map_or (λ (v : ScopeVariable). Local v.number) o
    (option_map_or (λ n. FieldSeen (record { 0 = n })) (number_of name (field_names a.own)) This)) e in
    record {
      kind = subst (IsValueKind a.program) (sym k) (each_at _ s.variables at.0 v g.kinds at.1);
      seen = ap (kind_of_seen (frame_in a here params result) (by_number s.variables)) x
          ∙ kind_at_number 0 s.variables at.0 v g.rising at.1 ∙ ap (λ k. Some (resolved_local k)) (sym k);
    }

-- a name among the variables and the fields
pub name_known : (a : AroundBody) (w : World a.program a.own) (s : Scope) (here params : ℕ) (result : Option Kind)
    (name : Name) → GoodScope a.program params s
    → (is_among name (map (λ (v : ScopeVariable). v.name) s.variables) || is_among name (field_names a.own)) ≡ true
    → KnownName a s (frame_in a here params result) name
name_known a w s here params result name g h = at (variable_named s name) refl
  where
    at : (o : Option ScopeVariable) → variable_named s name ≡ o → KnownName a s (frame_in a here params result) name
    at None e =
        let none = none_among s.variables name e in
        let f : is_among name (field_names a.own) ≡ true = rw none at h in
        field_seen a w s here params result name (field_found a.program a.own name f) e
    at (Some v) e = variable_seen a s here params result name v g e

-- what a name denotes: a variable, or a field where there is no variable of the name
pub data Denotes (a : AroundBody) (s : Scope) (name : Name) : Type 0 where
  for_variable : (v : ScopeVariable) → variable_named s name ≡ Some v → seen_name a s name ≡ Local v.number
      → Denotes a s name
  for_field : (n : ℕ) → variable_named s name ≡ None → seen_name a s name ≡ FieldSeen (record { 0 = n })
      → Denotes a s name

pub denotes : (a : AroundBody) (s : Scope) (name : Name)
    → (is_among name (map (λ (v : ScopeVariable). v.name) s.variables) || is_among name (field_names a.own)) ≡ true
    → Denotes a s name
denotes a s name h = at (variable_named s name) refl
  where
    at : (o : Option ScopeVariable) → variable_named s name ≡ o → Denotes a s name
    at (Some v) e =
        for_variable v e (ap (λ o. option_map_or (λ (v : ScopeVariable). Local v.number) o
        (option_map_or (λ n. FieldSeen (record { 0 = n })) (number_of name (field_names a.own)) This)) e)
    at None e =
        let f : is_among name (field_names a.own) ≡ true = rw (none_among s.variables name e) at h in
        let n = among_number name (field_names a.own) f in
        for_field n.0 e
        (ap (λ o. option_map_or (λ (v : ScopeVariable). Local v.number) o
        (option_map_or (λ n. FieldSeen (record { 0 = n })) (number_of name (field_names a.own)) This)) e
        ∙ ap (λ o. option_map_or (λ n. FieldSeen (record { 0 = n })) o This) n.1)
