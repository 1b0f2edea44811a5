-- When a store is at rest: its objects hold their fields as declared, each has one owner at most and none where it's marked,
-- each asset that must have one has one, and Shared handles are on marked objects.
use Rattle.std.proofs.Common.{◌≡◌, ℕ, zero, suc, ◌+◌, ◌<◌, ◌≤◌, Bool, true, false, cond, not, ◌&&◌, ◌||◌, List, [], ◌∷◌, ◌++◌, length, map, filter, Option, Some, None, refl, sym, ap, subst, ◌∙◌, arith, true≢false, ⊎_elim, ◌⊎◌, inl, inr}
use Rattle.std.specs.Prelude.{nat_eq, nat_lt, ◌==◌, slice_get, filter_map, flat_map, ⊤}
use Rattle.std.specs.Option.{option_map_or}
use Rattle.std.specs.List.{list_any, enumerate_from, cons_option}
use Rattle.std.proofs.lemmas.Bool.{cases_Bool}
use Rattle.std.proofs.lemmas.Bool.Decides.{nat_tests}
use Rattle.ob_base.specs.declared.permission.Mode.{Mode}
use Rattle.ob_base.specs.declared.permission.Mode.TheVariants.{Owned, Shared, Unowned}
use Rattle.ob_base.specs.declared.permission.Perm.{Perm}
use Rattle.ob_base.specs.declared.id.ContractId.{ContractId}
use Rattle.ob_perm.specs.Permissions.{owned, shared}
use Rattle.ob_perm.specs.Masks.{permission_of, states_of}
use Rattle.ob_table.specs.Tables.{ClassTable, contract_at}
use Rattle.ob_table.specs.declared.contract.Contract.{Contract}
use Rattle.ob_table.specs.declared.contract.Field.{Field}
use Rattle.ob_table.specs.declared.contract.ResolvedType.{ResolvedType}
use Rattle.ob_table.specs.declared.contract.ResolvedType.TheVariants.{Int, Bool as BoolKind, Text, Reference}
use Rattle.ob_table_spec.specs.WellFormed.{kind_of_resolved}
use Rattle.ob_heap_spec.specs.Values.{Value, int_value, bool_value, text_value, reference}
use Rattle.ob_heap_spec.specs.Objects.{Object, is_available, is_in_states}
use Rattle.ob_heap_spec.specs.Contents.{HandleName, Handle, Content, object_at}
use Rattle.ob_silica_places.specs.Known.{permission_of_type}
use Rattle.ob_silica_steps.specs.Cells.{cell}
use Rattle.ob_coherent_spec.specs.Counting.{nth_object}
use Rattle.ob_coherent_spec.specs.Standing.{Stands, NeedsOwner}
use Rattle.ob_soundness_laws.proofs.counting.Objects.{object_there, object_found}
use Rattle.ob_rest_spec.specs.Modes.{is_owned, is_shared}
use Rattle.ob_rest_spec.specs.References.{FieldReference, reference_of, available_value, references_of, field_references}
use Rattle.ob_rest_spec.specs.Incoming.{incoming_by_field, incoming_by_handle, fields_onto, handles_onto, incoming_references, owners}
use Rattle.ob_rest_spec.specs.Failing.{FailingWay, many_owners, owned_and_marked, lost_asset, shared_unmarked, outside_states, other_contract, fails_by, is_asset, refers_as_declared}
use Rattle.ob_rest_spec.specs.AtRest.{IsAtRest}
use Rattle.ob_rest_laws.proofs.Ways.{at_rest}

-- Lists.

-- it holds of each element
abbrev pub Each : {A : Type 0} → (A → Type 0) → List A → Type 0
Each P [] = ⊤
Each P (x ∷ xs) = P x × Each P xs

each_append : {A : Type 0} (P : A → Type 0) (xs ys : List A) → Each P xs → Each P ys → Each P (xs ++ ys)
each_append P [] ys a b = b
each_append P (x ∷ xs) ys a b = (a.0, each_append P xs ys a.1 b)

each_filter : {A : Type 0} (P : A → Type 0) (test : A → Bool) (xs : List A) → Each P xs → Each P (filter test xs)
each_filter P test [] a = tt
each_filter {A} P test (x ∷ xs) a = go (test x) (each_filter P test xs a.1)
  where
    go : (b : Bool) → Each P (filter test xs) → Each P (cond b (x ∷ filter test xs) (filter test xs))
    go true rest = (a.0, rest)
    go false rest = rest

none_any : {A : Type 0} (P : A → Type 0) (test : A → Bool) (xs : List A) → ((x : A) → P x → test x ≡ false) → Each P xs
    → list_any test xs ≡ false
none_any P test [] none a = refl
none_any P test (x ∷ xs) none a = rw (none x a.0) (none_any P test xs none a.1)

none_any_map : {A B : Type 0} (P : A → Type 0) (f : A → B) (test : B → Bool) (xs : List A)
    → ((x : A) → P x → test (f x) ≡ false) → Each P xs → list_any test (map f xs) ≡ false
none_any_map P f test [] none a = refl
none_any_map P f test (x ∷ xs) none a = rw (none x a.0) (none_any_map P f test xs none a.1)

-- References.

-- A reference in a field is as its field is declared: to an object of the contract, marked where it's declared Shared, in one of
-- the states where it's declared as the owner's.
record IsDeclaredSo (table : ClassTable) (objects : List Object) (r : FieldReference) : Type 0 where
  contract : refers_as_declared table objects r ≡ true
  marked : is_shared r.perm.mode ≡ true → (nth_object objects r.object).shared ≡ true
  states : is_owned r.perm.mode ≡ true → is_in_states table r.contract r.perm (nth_object objects r.object) ≡ true

-- each available field of an object that has a value has it as it's declared
pub record HoldsDeclared (table : ClassTable) (objects : List Object) (o : Object) : Type 0 where
  pub own : Contract
  pub contract : contract_at table o.contract ≡ Some own
  pub stands : (k : ℕ) (f : Field) (v : Value) → slice_get own.fields k ≡ Some f → is_available o.state f ≡ true
      → o.fields k ≡ Some v → Stands table objects (cell v (kind_of_resolved f.of) (permission_of_type f.of))

-- the same of a reference, if there is one
abbrev SoOf : ClassTable → List Object → Option FieldReference → Type 0
SoOf table objects None = ⊤
SoOf table objects (Some r) = IsDeclaredSo table objects r

module _ (table : ClassTable) (objects : List Object) where
  abbrev Is : FieldReference → Type 0
  Is r = IsDeclaredSo table objects r

  mode_owned : (p : Perm) → is_owned p.mode ≡ true → permission_of p ≡ owned (states_of p.states)
  mode_owned p e = go p.mode refl e
    where
      go : (m : Mode) → p.mode ≡ m → is_owned m ≡ true → permission_of p ≡ owned (states_of p.states)
      go Owned is e = rw is refl
      go Shared is e = absurd cc
      go Unowned is e = absurd cc

  mode_shared : (p : Perm) → is_shared p.mode ≡ true → permission_of p ≡ shared
  mode_shared p e = go p.mode refl e
    where
      go : (m : Mode) → p.mode ≡ m → is_shared m ≡ true → permission_of p ≡ shared
      go Owned is e = absurd cc
      go Shared is e = rw is refl
      go Unowned is e = absurd cc

  -- a reference that stands as declared
  stands_so : (i k : ℕ) (c : ContractId) (p : Perm) (n : ℕ)
      → Stands table objects (cell (reference n) (kind_of_resolved (Reference c p)) (permission_of p))
      → Is (record { holder = i; field = k; contract = c; perm = p; object = n })
  stands_so i k c p n s = record {
    contract = rw (object_there objects n s.kind.0) s.kind.1;
    marked = λ e. s.marked (mode_shared p e);
    states = λ e. s.states (states_of p.states) (mode_owned p e);
  }

  value_so : (i k : ℕ) (of : ResolvedType) (v : Value)
      → Stands table objects (cell v (kind_of_resolved of) (permission_of_type of)) → SoOf table objects (reference_of i k of (Some v))
  value_so i k (Reference c p) (reference n) s = stands_so i k c p n s
  value_so i k (Reference c p) (int_value z) s = tt
  value_so i k (Reference c p) (bool_value z) s = tt
  value_so i k (Reference c p) (text_value z) s = tt
  value_so i k Int v s = tt
  value_so i k BoolKind v s = tt
  value_so i k Text v s = tt

  each_option : (o : Option FieldReference) (rs : List FieldReference) → SoOf table objects o → Each Is rs
      → Each Is (cons_option o rs)
  each_option None rs a b = b
  each_option (Some r) rs a b = (a, b)

  none_so : (i k : ℕ) (of : ResolvedType) → SoOf table objects (reference_of i k of None)
  none_so i k (Reference c p) = tt
  none_so i k Int = tt
  none_so i k BoolKind = tt
  none_so i k Text = tt

  fields_so : (i : ℕ) (values : ℕ → Option Value) (j : ℕ) (fs : List Field)
      → ((k : ℕ) (f : Field) (v : Value) → slice_get fs k ≡ Some f → values (j + k) ≡ Some v
      → Stands table objects (cell v (kind_of_resolved f.of) (permission_of_type f.of)))
      → Each Is (filter_map (λ (f : ℕ × Field). reference_of i f.0 f.1.of (values f.0)) (enumerate_from j fs))
  fields_so i values j [] stands = tt
  fields_so i values j (f ∷ fs) stands = each_option (reference_of i j f.of (values j))
      (filter_map (λ (f : ℕ × Field). reference_of i f.0 f.1.of (values f.0)) (enumerate_from (j + 1) fs))
      (here (values j) refl)
      (fields_so i values (j + 1) fs (λ k g v e is. stands (suc k) g v e (ap values (let z : j + suc k ≡ j + 1 + k = omega arith in z) ∙ is)))
    where
      here : (x : Option Value) → values j ≡ x → SoOf table objects (reference_of i j f.of x)
      here None e = none_so i j f.of
      here (Some v) e = value_so i j f.of v (stands 0 f v refl (ap values (let z : j + 0 ≡ j = omega arith in z) ∙ e))

  object_so : (i : ℕ) (o : Object) → HoldsDeclared table objects o → Each Is (references_of table i o)
  object_so i o has = subst (λ x. Each Is (option_map_or (λ c. filter_map (λ f. reference_of i f.0 f.1.of
      (available_value c o f.0)) (enumerate_from 0 c.fields)) x [])) (sym has.contract)
      (fields_so i (available_value has.own o) 0 has.own.fields (λ k f v e is. at_field k f v e
      (ap (available_value has.own o) (let z : k ≡ 0 + k = omega arith in z) ∙ is)))
    where
      at_field : (k : ℕ) (f : Field) (v : Value) → slice_get has.own.fields k ≡ Some f → available_value has.own o k ≡ Some v
          → Stands table objects (cell v (kind_of_resolved f.of) (permission_of_type f.of))
      at_field k f v e is = ⊎_elim
          (λ there. has.stands k f v e (ap (λ x. option_map_or (is_available o.state) x false) (sym e) ∙ there)
          (let z = rw there at is in z))
          (λ gone. absurd (let z = rw gone at is in cc))
          (cases_Bool (option_map_or (is_available o.state) (slice_get has.own.fields k) false))

  objects_so : (i : ℕ) (os : List Object) → ((k : ℕ) (o : Object) → slice_get os k ≡ Some o → HoldsDeclared table objects o)
      → Each Is (flat_map (λ (o : ℕ × Object). references_of table o.0 o.1) (enumerate_from i os))
  objects_so i [] has = tt
  objects_so i (o ∷ os) has = each_append Is (references_of table i o)
      (flat_map (λ (o : ℕ × Object). references_of table o.0 o.1) (enumerate_from (i + 1) os))
      (object_so i o (has 0 o refl)) (objects_so (i + 1) os (λ k p e. has (suc k) p e))

-- The store.

-- What is asked of a store that is at rest, as a run counts it.
pub record IsSettled (table : ClassTable) (content : Content) : Type 0 where
  pub holds : (n : ℕ) → n < length content.objects → HoldsDeclared table content.objects (nth_object content.objects n)
  pub one : (n : ℕ) → owners table content n ≤ 1
  pub unmarked : (n : ℕ) → 0 < owners table content n
      → ((nth_object content.objects n).shared ≡ false) × ((nth_object content.objects n).disowned ≡ false)
  pub assets : (n : ℕ) → NeedsOwner table content.objects n → 0 < owners table content n
  pub handles : Each (λ (h : HandleName × Handle). is_shared h.1.mode ≡ true
      → (nth_object content.objects h.1.object).shared ≡ true) content.handles

list_any_append : {A : Type 0} (test : A → Bool) (xs ys : List A) → list_any test xs ≡ false → list_any test ys ≡ false
    → list_any test (xs ++ ys) ≡ false
list_any_append test [] ys a b = b
list_any_append {A} test (x ∷ xs) ys a b = go (test x) refl (list_any_append test xs ys)
  where
    go : (t : Bool) → test x ≡ t → (list_any test xs ≡ false → list_any test ys ≡ false → list_any test (xs ++ ys) ≡ false)
        → list_any test ((x ∷ xs) ++ ys) ≡ false
    go true e rest = absurd (let z = rw e at a in cc)
    go false e rest = rw e (rest (rw e at a) b)

-- those of a filter, where each of them is so
none_any_among : {A B : Type 0} (P : A → Type 0) (keep : A → Bool) (f : A → B) (test : B → Bool) (xs : List A)
    → ((x : A) → keep x ≡ true → P x → test (f x) ≡ false) → Each P xs → list_any test (map f (filter keep xs)) ≡ false
none_any_among P keep f test [] none a = refl
none_any_among {A} {B} P keep f test (x ∷ xs) none a = go (keep x) refl (none_any_among P keep f test xs none a.1)
  where
    go : (b : Bool) → keep x ≡ b → list_any test (map f (filter keep xs)) ≡ false
        → list_any test (map f (cond b (x ∷ filter keep xs) (filter keep xs))) ≡ false
    go true e rest = rw (none x e a.0) rest
    go false e rest = rest

map_itself : {A : Type 0} (xs : List A) → map (λ x. x) xs ≡ xs
map_itself [] = refl
map_itself (x ∷ xs) = ap (λ ys. x ∷ ys) (map_itself xs)

same_number : (n m : ℕ) → nat_eq n m ≡ true → n ≡ m
same_number n m e = grind (arith, nat_tests)

module _ (table : ClassTable) (content : Content) (s : IsSettled table content) where
  all_so : Each (IsDeclaredSo table content.objects) (field_references table content.objects)
  all_so = objects_so table content.objects 0 content.objects (λ k o e. let found = object_found content.objects k o e in
      subst (HoldsDeclared table content.objects) found.1 (s.holds k found.0))

  module _ (n : ℕ) (o : Object) (there : object_at content.objects n ≡ Some o) where
    inside : n < length content.objects
    inside = (object_found content.objects n o there).0

    is_it : nth_object content.objects n ≡ o
    is_it = (object_found content.objects n o there).1

    zero_or_more : (m : ℕ) → (m ≡ 0) ⊎ (0 < m)
    zero_or_more zero = inl refl
    zero_or_more (suc m) = inr (omega arith)

    -- 1
    few : nat_lt 1 (owners table content n) ≡ false
    few = let z = s.one n in grind (arith, nat_tests)

    -- 2
    owned_so : (not (owners table content n == 0) && (o.shared || o.disowned)) ≡ false
    owned_so = ⊎_elim (λ e. rw e refl)
        (λ more. let u = s.unmarked n more in
        let a : o.shared ≡ false = ap (λ (x : Object). x.shared) (sym is_it) ∙ u.0 in
        let b : o.disowned ≡ false = ap (λ (x : Object). x.disowned) (sym is_it) ∙ u.1 in
        let any : (x : Bool) → (x && false) ≡ false = λ x. both x in
        rw (a, b) (any (not (owners table content n == 0))))
        (zero_or_more (owners table content n))
      where
        both : (x : Bool) → (x && false) ≡ false
        both true = refl
        both false = refl

    -- 3
    asset_so : ((is_asset table o && not (o.shared || o.disowned)) && (owners table content n == 0)) ≡ false
    asset_so = go (is_asset table o) o.shared o.disowned refl refl refl
      where
        none : (m : ℕ) → 0 < m → (m == 0) ≡ false
        none m lt = grind (arith, nat_tests)

        go : (a b d : Bool) → is_asset table o ≡ a → o.shared ≡ b → o.disowned ≡ d
            → ((is_asset table o && not (o.shared || o.disowned)) && (owners table content n == 0)) ≡ false
        go false b d e f g = rw e refl
        go true true d e f g = rw (e, f) refl
        go true false true e f g = rw (e, f, g) refl
        go true false false e f g = let more = s.assets n (record {
          there = inside;
          asset = rw is_it e;
          unshared = ap (λ (x : Object). x.shared) is_it ∙ f;
          kept = ap (λ (x : Object). x.disowned) is_it ∙ g;
        }) in rw (e, f, g) (none (owners table content n) more)

    -- 4
    marked_so : (not o.shared && list_any (λ r. is_shared r.mode) (incoming_references table content n)) ≡ false
    marked_so = ⊎_elim (λ e. rw e refl)
        (λ e. rw e (list_any_append (λ r. is_shared r.mode) (map incoming_by_field (fields_onto table content.objects n))
        (map incoming_by_handle (handles_onto content.handles n))
        (none_any_among (IsDeclaredSo table content.objects) (λ r. nat_eq r.object n) incoming_by_field (λ r. is_shared r.mode)
        (field_references table content.objects) (λ r onto is. no_field e r onto is) all_so)
        (none_any_among (λ (h : HandleName × Handle). is_shared h.1.mode ≡ true
        → (nth_object content.objects h.1.object).shared ≡ true) (λ h. nat_eq h.1.object n) incoming_by_handle
        (λ r. is_shared r.mode) content.handles (λ h onto is. no_handle e h onto is) s.handles)))
        (cases_Bool o.shared)
      where
        not_marked : (m : ℕ) (b : Bool) → o.shared ≡ false → nat_eq m n ≡ true → (b ≡ true → (nth_object content.objects m).shared ≡ true)
            → b ≡ false
        not_marked m true e onto is = absurd (true≢false (sym (is refl)
            ∙ ap (λ k. (nth_object content.objects k).shared) (same_number m n onto) ∙ ap (λ (x : Object). x.shared) is_it ∙ e))
        not_marked m false e onto is = refl

        no_field : o.shared ≡ false → (r : FieldReference) → nat_eq r.object n ≡ true → IsDeclaredSo table content.objects r
            → is_shared r.perm.mode ≡ false
        no_field e r onto is = not_marked r.object (is_shared r.perm.mode) e onto is.marked

        no_handle : o.shared ≡ false → (h : HandleName × Handle) → nat_eq h.1.object n ≡ true
            → (is_shared h.1.mode ≡ true → (nth_object content.objects h.1.object).shared ≡ true) → is_shared h.1.mode ≡ false
        no_handle e h onto is = not_marked h.1.object (is_shared h.1.mode) e onto is

    -- 5
    states_so : list_any (λ (r : FieldReference). is_owned r.perm.mode && not (is_in_states table r.contract r.perm o))
        (fields_onto table content.objects n) ≡ false
    states_so = subst (λ rs. list_any (λ (r : FieldReference). is_owned r.perm.mode && not (is_in_states table r.contract r.perm o)) rs ≡ false)
        (map_itself (fields_onto table content.objects n))
        (none_any_among (IsDeclaredSo table content.objects) (λ r. nat_eq r.object n) (λ r. r)
        (λ (r : FieldReference). is_owned r.perm.mode && not (is_in_states table r.contract r.perm o))
        (field_references table content.objects) within all_so)
      where
        within : (r : FieldReference) → nat_eq r.object n ≡ true → IsDeclaredSo table content.objects r
            → (is_owned r.perm.mode && not (is_in_states table r.contract r.perm o)) ≡ false
        within r onto is = ⊎_elim
            (λ owned. let z : is_in_states table r.contract r.perm o ≡ true = ap (is_in_states table r.contract r.perm)
            (sym is_it ∙ ap (nth_object content.objects) (sym (same_number r.object n onto))) ∙ is.states owned in
            rw (owned, z) refl)
            (λ other. rw other refl)
            (cases_Bool (is_owned r.perm.mode))

    -- 6
    contracts_so : list_any (λ (r : FieldReference). not (refers_as_declared table content.objects r)) (references_of table n o)
        ≡ false
    contracts_so = none_any (IsDeclaredSo table content.objects) (λ r. not (refers_as_declared table content.objects r))
        (references_of table n o) (λ r is. ap not is.contract)
        (object_so table content.objects n o (subst (HoldsDeclared table content.objects) is_it (s.holds n inside)))

    each_way : (way : FailingWay) → fails_by way table content n o ≡ false
    each_way many_owners = few
    each_way owned_and_marked = owned_so
    each_way lost_asset = asset_so
    each_way shared_unmarked = marked_so
    each_way outside_states = states_so
    each_way other_contract = contracts_so

  pub settled_rests : IsAtRest table content
  settled_rests = at_rest table content (λ n o there way. each_way n o there way)
