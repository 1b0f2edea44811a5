-- A request that isn't refused, and passes the entry test: its values come to the parameters by uses of handles that
-- serve.
use Rattle.std.proofs.Common.{◌≡◌, ℕ, suc, ◌<◌, Bool, true, false, not, ◌&&◌, ◌||◌, cond, List, [], ◌∷◌, map, length, Option, Some, None, refl, sym, ap, subst, ◌∙◌, arith, ⊎_elim, ◌⊎◌, inl, inr, true≢false}
use Rattle.std.specs.Prelude.{◌==◌, slice_get, zip, filter_map, option_map, option_to_list, if◌then◌else◌}
use Rattle.std.specs.Option.{option_map_or}
use Rattle.std.specs.FinMap.Entries.{find as find_key}
use Rattle.std.specs.Ordering.{eq_by_cmp}
use Rattle.std.specs.List.{list_any, list_all, cons_option}
use Rattle.std.proofs.lemmas.Bool.{cases_Bool, both_ways, or_parts, and_parts}
use Rattle.std.proofs.lemmas.Option.{same_Some}
use Rattle.ob_base.specs.Optional.{◌>>=◌}
use Rattle.ob_base.specs.declared.permission.Mode.{Mode}
use Rattle.ob_base.specs.declared.permission.Mode.TheVariants.{Owned, Shared, Unowned}
use Rattle.ob_base.specs.declared.permission.Perm.{Perm}
use Rattle.ob_table.specs.Tables.{ClassTable}
use Rattle.ob_table.specs.declared.contract.Param.{Param}
use Rattle.ob_table.specs.declared.contract.ResolvedType.{ResolvedType}
use Rattle.ob_table.specs.declared.contract.ResolvedType.TheVariants.{Int, Bool as BoolKind, Text, Reference}
use Rattle.ob_table.specs.declared.seen.Kind.TheVariants as kind
use Rattle.ob_table_spec.specs.WellFormed.{serves_as}
use Rattle.ob_heap_spec.specs.Values.{Value, int_value, bool_value, text_value, reference, referred}
use Rattle.ob_heap_spec.specs.Objects.{Object, is_in_states}
use Rattle.ob_heap_spec.specs.Contents.{HandleName, Handle, Content, IsHandle, object_at, name_order}
use Rattle.ob_heap_spec.specs.Handles.{NamedHandle, handle_at}
use Rattle.ob_silica_places.specs.Parameters.{parameter_of}
use Rattle.ob_rest_spec.specs.Modes.{is_owned, is_shared, is_unowned}
use Rattle.ob_rest_spec.specs.AtRest.{IsStoreAtRest}
use Rattle.ob_invocation_spec.specs.Requests.{Argument, int_argument, bool_argument, text_argument, handle_argument, other_argument}
use Rattle.ob_invocation_spec.specs.Handles.{handle_name, serves}
use Rattle.ob_invocation_spec.specs.Entries.{HandleUse, Entry, value_of, used_for, use_of_argument, argument_uses, handle_uses}
use Rattle.ob_invocation_spec.specs.Checks.{Check, check, refusal_of}
use Rattle.ob_invocation_spec.specs.Replies.{arg_count, arg_kind, permission, repeated, into_missing, into_needless}
use Rattle.ob_invocation_spec.specs.Refusals.{has_other_count, has_other_kind, lacks_permission, repeats_object, is_of_type, is_argument_for, use_serves, is_shared_entry, receiver_serves, is_repeated, entry_checks, lacks_into, has_needless_into, into_checks}
use Rattle.ob_invocation_spec.specs.Entering.{is_outside_use}
use Rattle.ob_places_laws.proofs.Tables.{each_at}
use Rattle.ob_soundness_laws.proofs.counting.Objects.{object_there, object_found}
use Rattle.ob_soundness_laws.specs.beginning.Uses.{IsUse, AreUses}
use Rattle.ob_soundness_laws.specs.Requests.{entry_lock}
use Rattle.ob_soundness_laws.specs.beginning.Passed.{IsPassed, ArePassed, uses_in}

-- Checks.

pub not_refused : (c : Check) (cs : List Check) → refusal_of (c ∷ cs) ≡ None → (c.holds ≡ false)
    × (refusal_of cs ≡ None)
not_refused c cs e = ⊎_elim
    (λ holds. absurd
    (let z : Some c.refusal ≡ None = sym (ap (λ b. if b then Some c.refusal else refusal_of cs) holds) ∙ e in cc))
    (λ none. (none, sym (ap (λ b. if b then Some c.refusal else refusal_of cs) none) ∙ e))
    (cases_Bool c.holds)

not_false : (b : Bool) → not b ≡ false → b ≡ true
not_false true e = refl
not_false false e = absurd (true≢false e)

-- What is known of a request that isn't refused.
pub record IsAllowed (table : ClassTable) (content : Content) (e : Entry) : Type 0 where
  pub count : length e.args ≡ length e.signature.params
  pub kinds : has_other_kind table content e ≡ false
  pub receiver : list_all receiver_serves (option_to_list e.receiver) ≡ true
  pub args : list_all use_serves (argument_uses content e) ≡ true
  pub once : list_any (is_repeated (handle_uses content e)) (handle_uses content e) ≡ false

pub allowed : (table : ClassTable) (content : Content) (e : Entry) → refusal_of (entry_checks table content e) ≡ None
    → IsAllowed table content e
allowed table content e none =
    let c5 = check into_missing (lacks_into e) ∷ check into_needless (has_needless_into e) ∷ into_checks content e in
    let c4 = check repeated (repeats_object content e) ∷ c5 in
    let c3 = check permission (lacks_permission content e) ∷ c4 in
    let c2 = check arg_kind (has_other_kind table content e) ∷ c3 in
    let one : (has_other_count e ≡ false) × (refusal_of c2 ≡ None) =
    not_refused (check arg_count (has_other_count e)) c2 none in
    let two : (has_other_kind table content e ≡ false) × (refusal_of c3 ≡ None) =
    not_refused (check arg_kind (has_other_kind table content e)) c3 one.1 in
    let three : (lacks_permission content e ≡ false) × (refusal_of c4 ≡ None) =
    not_refused (check permission (lacks_permission content e)) c4 two.1 in
    let four : (repeats_object content e ≡ false) × (refusal_of c5 ≡ None) =
    not_refused (check repeated (repeats_object content e)) c5 three.1 in
    let modes = or_parts (not (list_all receiver_serves (option_to_list e.receiver)))
    (not (list_all use_serves (argument_uses content e))) three.0 in
    record {
      count = same_count (length e.args) (length e.signature.params)
          (not_false (length e.args == length e.signature.params) one.0);
      kinds = two.0;
      receiver = not_false (list_all receiver_serves (option_to_list e.receiver)) modes.0;
      args = not_false (list_all use_serves (argument_uses content e)) modes.1;
      once = four.0;
    }
  where
    same_count : (m n : ℕ) → (m == n) ≡ true → m ≡ n
    same_count m n e = grind (arith, e)

-- Values.

plain_passed : (table : ClassTable) (objects : List Object) (of : ResolvedType) (v : Value) → referred v ≡ None
    → is_of_type table objects of v ≡ true → IsPassed table objects of v None
plain_passed table objects Int (int_value z) plain e = (refl, e, refl)
plain_passed table objects BoolKind (bool_value z) plain e = (refl, tt, refl)
plain_passed table objects Text (text_value z) plain e = (refl, e, refl)
plain_passed table objects Int (bool_value z) plain e = absurd (true≢false (sym e))
plain_passed table objects Int (text_value z) plain e = absurd (true≢false (sym e))
plain_passed table objects BoolKind (int_value z) plain e = absurd (true≢false (sym e))
plain_passed table objects BoolKind (text_value z) plain e = absurd (true≢false (sym e))
plain_passed table objects Text (int_value z) plain e = absurd (true≢false (sym e))
plain_passed table objects Text (bool_value z) plain e = absurd (true≢false (sym e))
plain_passed table objects (Reference c p) (int_value z) plain e = absurd (true≢false (sym e))
plain_passed table objects (Reference c p) (bool_value z) plain e = absurd (true≢false (sym e))
plain_passed table objects (Reference c p) (text_value z) plain e = absurd (true≢false (sym e))
plain_passed table objects of (reference n) plain e = absurd (cc)

serves_there : (table : ClassTable) (objects : List Object) (t : ResolvedType) (exit : Perm) (name : HandleName)
    (h : Handle)
    → is_of_type table objects t (reference h.object) ≡ true → IsPassed table objects t (reference h.object)
    (used_for t exit name h)
serves_there table objects Int exit name h e = absurd (true≢false (sym e))
serves_there table objects BoolKind exit name h e = absurd (true≢false (sym e))
serves_there table objects Text exit name h e = absurd (true≢false (sym e))
serves_there table objects (Reference c p) exit name h e = by_object (object_at objects h.object) refl
  where
    by_object : (o : Option Object) → object_at objects h.object ≡ o
        → IsPassed table objects (Reference c p) (reference h.object) (used_for (Reference c p) exit name h)
    by_object None i = absurd
        (true≢false
        (sym e ∙ ap
        (λ x. option_map_or (λ (o : Object). serves_as table (kind.Reference c) (kind.Reference o.contract)) x false)
        i))
    by_object (Some o) i =
        let found = object_found objects h.object o i in (
          refl,
          refl,
          found.0,
          subst (λ (z : Object). serves_as table (kind.Reference c) (kind.Reference z.contract) ≡ true)
              (sym found.1)
              (sym (ap (λ x. option_map_or
              (λ (o : Object). serves_as table (kind.Reference c) (kind.Reference o.contract)) x false) i) ∙ e),
        )

module _ (table : ClassTable) (content : Content) (who : List ℕ) where
  one_passed : (p : Param) (a : Argument) → is_argument_for table content who p a ≡ true
      → (v : Value) × (value_of content who a ≡ Some v) × IsPassed table content.objects p.of v
      (use_of_argument content who p a)
  one_passed p (int_argument z) e = (int_value z, refl, plain_passed table content.objects p.of (int_value z) refl e)
  one_passed p (bool_argument z) e = (bool_value z, refl, plain_passed table content.objects p.of (bool_value z) refl e)
  one_passed p (text_argument z) e = (text_value z, refl, plain_passed table content.objects p.of (text_value z) refl e)
  one_passed p other_argument e = absurd (true≢false (sym e))
  one_passed p (handle_argument name) e = by_handle (handle_at content (handle_name who name)) refl
    where
      by_handle : (x : Option Handle) → handle_at content (handle_name who name) ≡ x
          → (v : Value) × (value_of content who (handle_argument name) ≡ Some v)
          × IsPassed table content.objects p.of v (use_of_argument content who p (handle_argument name))
      by_handle None i = absurd (true≢false (sym e ∙ ap (λ x. option_map_or (is_of_type table content.objects p.of)
          (option_map (λ (h : Handle). reference h.object) x) false) i))
      by_handle (Some h) i = (
        reference h.object,
        ap (option_map (λ (h : Handle). reference h.object)) i,
        subst (IsPassed table content.objects p.of (reference h.object))
            (sym (ap (λ x. x >>= used_for p.of p.exit (handle_name who name)) i))
            (serves_there table content.objects p.of p.exit (handle_name who name) h
            (sym (ap (λ x. option_map_or (is_of_type table content.objects p.of)
            (option_map (λ (h : Handle). reference h.object) x) false) i) ∙ e)),
      )

  -- the uses of handles for arguments, one for each that is a handle
  abbrev pub uses_for : List Param → List Argument → List (Option HandleUse)
  uses_for [] args = []
  uses_for (p ∷ ps) [] = []
  uses_for (p ∷ ps) (a ∷ args) = use_of_argument content who p a ∷ uses_for ps args

  pub uses_are : (ps : List Param) (args : List Argument)
      → filter_map (λ (pair : Param × Argument). use_of_argument content who pair.0 pair.1) (zip ps args)
      ≡ uses_in (uses_for ps args)
  uses_are [] args = refl
  uses_are (p ∷ ps) [] = refl
  uses_are (p ∷ ps) (a ∷ args) = ap (cons_option (use_of_argument content who p a)) (uses_are ps args)

  pub args_passed : (ps : List Param) (args : List Argument) → length args ≡ length ps
      → list_any (λ (pair : Param × Argument). not (is_argument_for table content who pair.0 pair.1))
      (zip ps args) ≡ false
      → ArePassed table content.objects (filter_map (value_of content who) args) (map parameter_of ps)
      (uses_for ps args)
  args_passed [] [] long fits = tt
  args_passed [] (a ∷ args) long fits = absurd (omega (arith, long))
  args_passed (p ∷ ps) [] long fits = absurd (omega (arith, long))
  args_passed (p ∷ ps) (a ∷ args) long fits =
      let parts = or_parts (not (is_argument_for table content who p a))
      (list_any (λ (pair : Param × Argument). not (is_argument_for table content who pair.0 pair.1)) (zip ps args))
      fits in
      let one = one_passed p a (not_false _ parts.0) in
      subst (λ vs. ArePassed table content.objects vs (map parameter_of (p ∷ ps)) (uses_for (p ∷ ps) (a ∷ args)))
      (sym (ap (λ x. cons_option x (filter_map (value_of content who) args)) one.1))
      (one.2, args_passed ps args (omega (arith, long)) parts.1)

-- Uses.

serves_shared : (m n : Mode) → serves m n ≡ true → is_shared n ≡ true → (is_owned m ≡ true) ⊎ (is_shared m ≡ true)
serves_shared Owned n e s = inl refl
serves_shared Shared n e s = inr refl
serves_shared Unowned Owned e s = absurd (true≢false (sym s))
serves_shared Unowned Shared e s = absurd (true≢false (sym e))
serves_shared Unowned Unowned e s = absurd (true≢false (sym s))

serves_owned : (m n : Mode) → serves m n ≡ true → is_owned n ≡ true → is_owned m ≡ true
serves_owned Owned n e s = refl
serves_owned Shared Owned e s = absurd (true≢false (sym e))
serves_owned Shared Shared e s = absurd (true≢false (sym s))
serves_owned Shared Unowned e s = absurd (true≢false (sym s))
serves_owned Unowned Owned e s = absurd (true≢false (sym e))
serves_owned Unowned Shared e s = absurd (true≢false (sym s))
serves_owned Unowned Unowned e s = absurd (true≢false (sym s))

not_both : (m : Mode) → is_shared m ≡ true → is_owned m ≡ true → ⊥
not_both Owned e s = true≢false (sym e)
not_both Shared e s = true≢false (sym s)
not_both Unowned e s = true≢false (sym s)

named_in : (name : HandleName) (hs : List NamedHandle) (h : Handle) → find_key name_order name hs ≡ Some h
    → (k : ℕ) × (g : NamedHandle) × (slice_get hs k ≡ Some g) × (eq_by_cmp name_order name g.0 ≡ true) × (g.1 ≡ h)
named_in name [] h e = absurd (cc)
named_in name (g ∷ hs) h e = ⊎_elim
    (λ here. (
      0,
      g,
      refl,
      here,
      same_Some g.1 h (sym (ap (λ b. cond b (Some g.1) (find_key name_order name hs)) here)
          ∙ e),
    ))
    (λ other. let r = named_in name hs h (sym (ap (λ b. cond b (Some g.1) (find_key name_order name hs)) other) ∙ e) in
    (suc r.0, r.1, r.2, r.3, r.4))
    (cases_Bool (eq_by_cmp name_order name g.0))

pub handle_found : (content : Content) (name : HandleName) (h : Handle) → handle_at content name ≡ Some h
    → (k : ℕ) × (g : NamedHandle) × (slice_get content.handles k ≡ Some g) × (eq_by_cmp name_order name g.0 ≡ true)
    × (g.1 ≡ h)
handle_found content name h e = named_in name content.handles h e

pub handle_there : (table : ClassTable) (content : Content) → IsStoreAtRest table content → (name : HandleName)
    (h : Handle)
    → handle_at content name ≡ Some h → h.object < length content.objects
handle_there table content rest name h e =
    let r = handle_found content name h e in
    subst (λ (x : Handle). x.object < length content.objects) r.4
    (each_at (IsHandle content.objects) content.handles r.0 r.1 rest.is_content.handles r.2).object

module _ (table : ClassTable) (content : Content) (rest : IsStoreAtRest table content) (entry : Option ℕ) where
  is_use : (u : HandleUse) → handle_at content u.name ≡ Some u.handle → is_outside_use table content.objects u ≡ false
      → (is_shared u.entry.mode ≡ true → (is_owned u.handle.mode ≡ true) ⊎ (is_shared u.handle.mode ≡ true))
      → (is_owned u.entry.mode ≡ true
      → (is_owned u.handle.mode ≡ true) ⊎ ((is_shared u.handle.mode ≡ true) × (entry ≡ Some u.handle.object)))
      → IsUse table content entry u
  is_use u found inside shares takes =
      let r = handle_found content u.name u.handle found in
      let low = handle_there table content rest u.name u.handle found in
      record {
        there = low;
        found = found;
        place = r.0;
        holder = r.1;
        held = r.2;
        named = r.3;
        same = r.4;
        within = λ own.
            let held = not_false _ inside in
            let z : option_map_or (is_in_states table u.contract u.entry) (object_at content.objects u.handle.object)
            false ≡ true =
            sym (ap (λ b. not b || option_map_or (is_in_states table u.contract u.entry)
            (object_at content.objects u.handle.object) false) own) ∙ held in
            sym (ap (λ x. option_map_or (is_in_states table u.contract u.entry) x false)
            (object_there content.objects u.handle.object low)) ∙ z;
        shares = shares;
        takes = takes;
      }

  -- the use for an argument is of a handle that is there
  argument_found : (who : List ℕ) (p : Param) (a : Argument) (u : HandleUse) → use_of_argument content who p a ≡ Some u
      → handle_at content u.name ≡ Some u.handle
  argument_found who p (int_argument z) u e = absurd (cc)
  argument_found who p (bool_argument z) u e = absurd (cc)
  argument_found who p (text_argument z) u e = absurd (cc)
  argument_found who p other_argument u e = absurd (cc)
  argument_found who p (handle_argument name) u e = by_handle (handle_at content (handle_name who name)) refl
    where
      by_type : (t : ResolvedType) (h : Handle) → used_for t p.exit (handle_name who name) h ≡ Some u
          → (u.name ≡ handle_name who name) × (u.handle ≡ h)
      by_type Int h i = absurd (cc)
      by_type BoolKind h i = absurd (cc)
      by_type Text h i = absurd (cc)
      by_type (Reference c q) h i =
          let same = same_Some _ u i in
          (ap (λ (x : HandleUse). x.name) (sym same), ap (λ (x : HandleUse). x.handle) (sym same))

      by_handle : (x : Option Handle) → handle_at content (handle_name who name) ≡ x
          → handle_at content u.name ≡ Some u.handle
      by_handle None i = absurd
          (let z : None ≡ Some u = sym (ap (λ x. x >>= used_for p.of p.exit (handle_name who name)) i) ∙ e in cc)
      by_handle (Some h) i =
          let r = by_type p.of h (sym (ap (λ x. x >>= used_for p.of p.exit (handle_name who name)) i) ∙ e) in
          ap (handle_at content) r.0 ∙ i ∙ ap Some (sym r.1)

  pub arguments_used : (who : List ℕ) (ps : List Param) (args : List Argument)
      → list_all use_serves (uses_in (uses_for table content who ps args)) ≡ true
      → list_any (is_outside_use table content.objects) (uses_in (uses_for table content who ps args)) ≡ false
      → AreUses table content entry (uses_in (uses_for table content who ps args))
  arguments_used who [] args fits inside = tt
  arguments_used who (p ∷ ps) [] fits inside = tt
  arguments_used who (p ∷ ps) (a ∷ args) fits inside =
      go (use_of_argument content who p a) refl fits inside (λ f i. arguments_used who ps args f i)
    where
      go : (x : Option HandleUse) → use_of_argument content who p a ≡ x
          → list_all use_serves (cons_option x (uses_in (uses_for table content who ps args))) ≡ true
          → list_any (is_outside_use table content.objects)
          (cons_option x (uses_in (uses_for table content who ps args))) ≡ false
          → (list_all use_serves (uses_in (uses_for table content who ps args)) ≡ true
          → list_any (is_outside_use table content.objects) (uses_in (uses_for table content who ps args)) ≡ false
          → AreUses table content entry (uses_in (uses_for table content who ps args)))
          → AreUses table content entry (cons_option x (uses_in (uses_for table content who ps args)))
      go None i fits inside others = others fits inside
      go (Some u) i fits inside others =
          let modes = and_parts (use_serves u) (list_all use_serves (uses_in (uses_for table content who ps args)))
          fits in
          let states = or_parts (is_outside_use table content.objects u)
          (list_any (is_outside_use table content.objects) (uses_in (uses_for table content who ps args))) inside in (
            is_use u (argument_found who p a u i) states.0
                (λ s. serves_shared u.handle.mode u.entry.mode modes.0 s)
                (λ s. inl (serves_owned u.handle.mode u.entry.mode modes.0 s)),
            others modes.1 states.1,
          )

  pub receiver_used : (u : HandleUse) → handle_at content u.name ≡ Some u.handle → receiver_serves u ≡ true
      → is_outside_use table content.objects u ≡ false → entry ≡ entry_lock (Some u) → IsUse table content entry u
  receiver_used u found fits inside locked = ⊎_elim
      (λ mode. is_use u found inside
      (λ s. serves_shared u.handle.mode u.entry.mode mode s)
      (λ s. inl (serves_owned u.handle.mode u.entry.mode mode s)))
      (λ other.
      let z : is_shared_entry u ≡ true = sym (ap (λ b. b || is_shared_entry u) other) ∙ fits in
      let both = and_parts (is_shared u.handle.mode && is_owned u.entry.mode) (not (is_unowned u.exit.mode)) z in
      let one = and_parts (is_shared u.handle.mode) (is_owned u.entry.mode) both.0 in
      is_use u found inside (λ s. inr one.0) (λ s. inr (
        one.0,
        locked
            ∙ ap (λ b. if b then Some u.handle.object else None)
            (Rattle.std.proofs.lemmas.Bool.and_from (is_shared u.handle.mode) (is_owned u.entry.mode) one.0 one.1),
      )))
      (cases_Bool (use_serves u))
