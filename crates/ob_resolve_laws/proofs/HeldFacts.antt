-- What is held of `this` in a program without faults, as it is written and in the table.
use Rattle.std.proofs.Common.{◌≡◌, ℕ, zero, suc, ◌<◌, Bool, true, false, List, [], ◌∷◌, ◌++◌, map, length, Option, Some, None, refl, sym, ap, subst, arith, ◌∙◌, length-append, lt-ltb, ⊎_elim}
use Rattle.std.proofs.lemmas.Bool.{cases_lt}
use Rattle.std.proofs.lemmas.List.Folds.{list_all-map}
use Rattle.std.specs.Prelude.{◌||◌, ◌&&◌, not, nat_lt, option_map, option_and_then, slice_get}
use Rattle.std.specs.List.{list_any}
use Rattle.ob_base.specs.declared.fault.Span.{Span}
use Rattle.ob_base.specs.declared.permission.Mode.TheVariants.{Owned, Shared, Unowned}
use Rattle.ob_perm.specs.Masks.{perm_of}
use Rattle.ob_tree.specs.Names.{Named, ref_with, TypeExpr, int_type, bool_type, text_type, ref_type}
use Rattle.ob_tree.specs.Members.{Formal, Contract}
use Rattle.ob_tree.specs.declared.name.PermNode.{PermNode}
use Rattle.ob_tree.specs.declared.name.PermNode.TheVariants.{Mode, States}
use Rattle.ob_tree.specs.declared.name.Subject.{Subject}
use Rattle.ob_tree.specs.declared.name.Subject.TheVariants.{This, Name as NameSubject}
use Rattle.ob_table_spec.specs.Names.{Name, same, is_among, in_order_after}
use Rattle.ob_resolve_spec.specs.Declarations.{Program, part_of_named, number_of_contract, declared_contract, state_names}
use Rattle.ob_resolve_spec.specs.Permissions.{WrittenPermission, as_unowned, written_permission, is_of, known_permission, known_exit}
use Rattle.ob_resolve_spec.specs.Kinds.{contract_of_name, kind_of_ref}
use Rattle.ob_resolve_spec.specs.Interfaces.{is_this, is_this_subject, held_with, held_of_this}
use Rattle.ob_resolve_spec.specs.Visible.{Visible, visible_in}
use Rattle.ob_resolve_spec.specs.StatementSites.{span_of_subject}
use Rattle.ob_resolve_spec.specs.MemberSites.{formal_type_sites, subject_param_sites, formal_sites, formals_sites, this_sites}
use Rattle.ob_resolve_spec.specs.Numbers.{permission_on}
use Rattle.ob_resolve_spec.specs.TableOf.{perms_of_this, written_at_end}
use Rattle.ob_resolve_spec.specs.Faults.{is_known}
use Rattle.ob_table_spec.specs.Conditions.{AreDistinct}
use Rattle.ob_resolve_laws.proofs.Each.{Each, each_left, each_right}
use Rattle.ob_resolve_laws.proofs.Clean.{Clean}
use Rattle.ob_resolve_laws.proofs.NameFacts.{same-refl, same_is}
use Rattle.ob_resolve_laws.proofs.LookUps.{slice_get-map, slice_get_bound, number_at, among_number, get_or_at}
use Rattle.ob_resolve_laws.proofs.TypeFacts.{true_from_not, Known, ref_known, known_kind}
use Rattle.ob_resolve_laws.proofs.SignatureFacts.{formals_first}
use Rattle.ob_resolve_laws.proofs.SaidFacts.{NamesOf}

-- A contract is the first of its name.

abbrev pub IsFirst : Program → Contract → Type 0
IsFirst program own = contract_of_name program own.name ≡ Some own

-- in a list of distinct names each place has its own
one_place : (xs : List Name) (m n : ℕ) (x : Name) → AreDistinct xs → slice_get xs m ≡ Some x → slice_get xs n ≡ Some x
    → m ≡ n
one_place xs m n x d a b =
    ⊎_elim (λ l. absurd (apart m n l a b))
    (λ h. ⊎_elim (λ l. absurd (apart n m l b a)) (λ k. omega arith) (cases_lt n m)) (cases_lt m n)
  where
    apart : (i j : ℕ) → i < j → slice_get xs i ≡ Some x → slice_get xs j ≡ Some x → ⊥
    apart i j l a b = d i j x l (slice_get_bound xs j x b) (get_or_at xs i x x a ∙ sym (get_or_at xs j x x b))

pub first_of_name : (program : Program) → AreDistinct (map (λ c. c.name) program) → (n : ℕ) (c : Contract)
    → declared_contract program n ≡ Some c → (number_of_contract program c.name ≡ Some n) × IsFirst program c
first_of_name program d n c e =
    let names = map (λ c. c.name) program in
    let here : slice_get names n ≡ Some c.name = slice_get-map (λ c. c.name) program n
    ∙ ap (option_map (λ c. c.name)) e in
    let m = among_number c.name names (among_at names n c.name here) in
    let p = one_place names m.0 n c.name d (number_at c.name names m.0 m.1) here in
    let q : number_of_contract program c.name ≡ Some n = m.1 ∙ ap Some p in
    (q, ap (option_and_then (declared_contract program)) q ∙ e)
  where
    among_at : (xs : List Name) (n : ℕ) (x : Name) → slice_get xs n ≡ Some x → is_among x xs ≡ true
    among_at [] n x e = absurd cc
    among_at (y ∷ xs) zero x e = let s : y ≡ x = cc in ap (λ b. b || is_among x xs) (ap (same x) s ∙ same-refl x)
    among_at (y ∷ xs) (suc n) x e = or_true (same x y) (among_at xs n x e)
      where
        or_true : (b : Bool) → is_among x xs ≡ true → (b || is_among x xs) ≡ true
        or_true true h = refl
        or_true false h = h

-- `this` stands first, with its contract's type.

first_of_three : (a b c : Bool) → (a || b || c) ≡ false → a ≡ false
first_of_three true b c h = absurd cc
first_of_three false b c h = refl

third_of_three : (a b c : Bool) → (a || b || c) ≡ false → c ≡ false
third_of_three a b true h = at a b h
  where
    at : (a b : Bool) → (a || b || true) ≡ false → true ≡ false
    at true b h = h
    at false true h = h
    at false false h = h
third_of_three a b false h = refl

takes_this_at : (n : ℕ) (constructor : Bool) (b : Bool) → 0 < n → (nat_lt 0 n || constructor || b) ≡ false → ⊥
takes_this_at n constructor b l h = let e = first_of_three (nat_lt 0 n) constructor b h in let f = lt-ltb 0 n l
    in absurd (cc)

no_later_this : (v : Visible) (constructor : Bool) (before formals : List Formal) → 0 < length before
    → Each Clean (in_order_after (formal_sites v constructor) before formals) → list_any is_this formals ≡ false
no_later_this v constructor before [] l h = refl
no_later_this v constructor before (f ∷ formals) l h =
    rest f.name (each_right Clean (formal_type_sites v f.of f.exit (span_of_subject f.name))
    (subject_param_sites v (length before) constructor f.of f.name)
    (each_left Clean (formal_sites v constructor before f) _ h))
    (no_later_this v constructor (before ++ f ∷ []) formals (omega (arith, length-append before (f ∷ [])))
    (each_right Clean (formal_sites v constructor before f)
    (in_order_after (formal_sites v constructor) (before ++ f ∷ []) formals) h))
  where
    not_this : (t : TypeExpr) (span : Span) → Each Clean (this_sites v (length before) constructor t span) → ⊥
    not_this (int_type s) span h = takes_this_at (length before) constructor true l h.0.wrong_kind
    not_this (bool_type s) span h = takes_this_at (length before) constructor true l h.0.wrong_kind
    not_this (text_type s) span h = takes_this_at (length before) constructor true l h.0.wrong_kind
    not_this (ref_type (ref_with of perm)) span h = takes_this_at (length before) constructor false l h.0.wrong_kind

    rest : (s : Subject) → Each Clean (subject_param_sites v (length before) constructor f.of s)
        → list_any is_this formals ≡ false → (is_this_subject s || list_any is_this formals) ≡ false
    rest (This span) h r = absurd (not_this f.of span h)
    rest (NameSubject name) h r = r

-- what is held, each permission with states of the contract
pub record KnownHeld (own : Contract) (formals : List Formal) : Type 0 where
  pub entry : WrittenPermission
  pub exit : WrittenPermission
  pub held : held_of_this own formals ≡ record { entry = Some entry; exit = Some exit }
  pub entry_perm : (perms_of_this own formals).0 ≡ perm_of (permission_on own entry)
  pub exit_perm : (perms_of_this own formals).1 ≡ perm_of (permission_on own exit)
  pub entry_states : NamesOf (state_names own) entry
  pub exit_states : NamesOf (state_names own) exit

names_of : (own : Contract) (perm : PermNode) → is_of own perm ≡ true
    → NamesOf (state_names own) (written_permission perm)
names_of own (Mode Owned span) h = tt
names_of own (Mode Shared span) h = tt
names_of own (Mode Unowned span) h = tt
names_of own (States states) h = list_all-map (λ n. is_among n (state_names own)) (λ s. s.name) states ∙ h

known_is : (own : Contract) (perm : PermNode) → is_of own perm ≡ true
    → known_permission own perm ≡ Some (written_permission perm)
known_is own perm h = rw h refl

pub known_exit_is : (own : Contract) (perm : PermNode) (exit : Option PermNode)
    → is_of own (written_at_end perm exit) ≡ true
    → known_exit own perm exit ≡ Some (written_permission (written_at_end perm exit))
known_exit_is own perm None h = known_is own perm h
known_exit_is own perm (Some exit) h = known_is own exit h

pub some_same : {A : Type 0} (x y : A) → Some x ≡ Some y → x ≡ y
some_same x y e = cc

-- a type that is known and isn't another contract's is the contract's own
own_type : (program : Program) (own : Contract) (of : Named) (perm : PermNode) → IsFirst program own
    → Known program of perm → (is_known (kind_of_ref program (ref_with of perm))
    && not (same own.name (part_of_named of).name)) ≡ false
    → contract_of_name program (part_of_named of).name ≡ Some own
own_type program own of perm first k h =
    let e : (true && not (same own.name (part_of_named of).name)) ≡ false =
    subst (λ x. (is_known x && not (same own.name (part_of_named of).name)) ≡ false) (known_kind program of perm k)
    h in
    let s = same_is own.name (part_of_named of).name (true_from_not _ e) in
    subst (λ (n : Name). contract_of_name program n ≡ Some own) s first

held_here : (own : Contract) (of : Named) (perm : PermNode) (exit : Option PermNode)
    → same own.name (part_of_named of).name ≡ true → is_of own perm ≡ true → is_of own (written_at_end perm exit) ≡ true
    → held_with own of perm exit ≡ record {
      entry = Some (written_permission perm);
      exit =
          Some (written_permission (written_at_end perm exit));
    }
held_here own of perm exit s k e = rw (s, k, known_exit_is own perm exit e) refl

abbrev formal_with : TypeExpr → Option PermNode → Subject → Formal
formal_with t exit s = record { of = t; exit = exit; name = s }

held_first : (program : Program) (own : Contract) (t : TypeExpr) (exit : Option PermNode) (s : Subject)
    (formals : List Formal) → IsFirst program own → list_any is_this formals ≡ false
    → Each Clean (formal_sites (visible_in program own) false [] (formal_with t exit s))
    → KnownHeld own (formal_with t exit s ∷ formals)
held_first program own t exit (NameSubject name) formals first later h =
    record {
      entry = as_unowned;
      exit = as_unowned;
      held = rw later refl;
      entry_perm = refl;
      exit_perm = refl;
      entry_states = tt;
      exit_states = tt;
    }
held_first program own (int_type s) exit (This span) formals first later h = absurd (no_value h.1.0.wrong_kind)
  where
    no_value : (nat_lt 0 0 || false || true) ≡ false → ⊥
    no_value e = let f = third_of_three (nat_lt 0 0) false true e in absurd (cc)
held_first program own (bool_type s) exit (This span) formals first later h = absurd (no_value h.1.0.wrong_kind)
  where
    no_value : (nat_lt 0 0 || false || true) ≡ false → ⊥
    no_value e = let f = third_of_three (nat_lt 0 0) false true e in absurd (cc)
held_first program own (text_type s) exit (This span) formals first later h = absurd (no_value h.1.0.wrong_kind)
  where
    no_value : (nat_lt 0 0 || false || true) ≡ false → ⊥
    no_value e = let f = third_of_three (nat_lt 0 0) false true e in absurd (cc)
held_first program own (ref_type (ref_with of perm)) exit (This span) formals first later h =
    let types = each_left Clean (formal_type_sites (visible_in program own) (ref_type (ref_with of perm)) exit span) _ h
    in
    let this = each_right Clean (formal_type_sites (visible_in program own) (ref_type (ref_with of perm)) exit span)
    (this_sites (visible_in program own) 0 false (ref_type (ref_with of perm)) span) h in
    let ks = ref_known (visible_in program own) of perm exit types in
    let by_name = own_type program own of perm first ks.0 this.1.0.wrong_kind in
    let same_contract : ks.0.contract ≡ own = some_same ks.0.contract own (sym ks.0.by_name ∙ by_name) in
    let here = subst (λ c. is_of c perm ≡ true) same_contract ks.0.is_of in
    let end = subst (λ c. is_of c (written_at_end perm exit) ≡ true) same_contract ks.1.is_of in
    let named = true_from_not (same own.name (part_of_named of).name)
    (subst (λ x. (is_known x && not (same own.name (part_of_named of).name)) ≡ false)
    (known_kind program of perm ks.0) this.1.0.wrong_kind) in
    record {
      entry = written_permission perm;
      exit = written_permission (written_at_end perm exit);
      held = rw later (held_here own of perm exit named here end);
      entry_perm = refl;
      exit_perm = refl;
      entry_states = names_of own perm here;
      exit_states = names_of own (written_at_end perm exit) end;
    }

pub held_known : (program : Program) (own : Contract) (formals : List Formal) → IsFirst program own
    → Each Clean (formals_sites program own false formals) → KnownHeld own formals
held_known program own [] first h = record {
  entry = as_unowned;
  exit = as_unowned;
  held = refl;
  entry_perm = refl;
  exit_perm = refl;
  entry_states = tt;
  exit_states = tt;
}
held_known program own (f ∷ formals) first h =
    let all = formals_first program own false (f ∷ formals) h in
    held_first program own f.of f.exit f.name formals first
    (no_later_this (visible_in program own) false (f ∷ []) formals (omega arith)
    (each_right Clean (formal_sites (visible_in program own) false [] f)
    (in_order_after (formal_sites (visible_in program own) false) (f ∷ []) formals) all))
    (each_left Clean (formal_sites (visible_in program own) false [] f) _ all)
