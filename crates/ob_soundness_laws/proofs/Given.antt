-- What the slots of arguments own where a run has ended is what comes back to the handles that were used for them.
use Rattle.std.proofs.Common.{◌≡◌, ◌≢◌, ℕ, zero, suc, ◌+◌, ◌<◌, ◌≤◌, Bool, true, false, ◌&&◌, List, [], ◌∷◌, length, Option, Some, None, refl, sym, ap, subst, ◌∙◌, arith, true≢false, eq-eqb}
use Rattle.std.specs.Prelude.{nat_eq, slice_get, zip, filter_map, option_map, if◌then◌else◌}
use Rattle.std.specs.List.{cons_option}
use Rattle.std.proofs.lemmas.Bool.Decides.{nat_tests}
use Rattle.ob_base.specs.Optional.{◌>>=◌}
use Rattle.ob_base.specs.declared.permission.Mode.{Mode}
use Rattle.ob_base.specs.declared.permission.Mode.TheVariants.{Owned, Shared, Unowned}
use Rattle.ob_base.specs.declared.permission.Perm.{Perm}
use Rattle.ob_base.specs.declared.id.ContractId.{ContractId}
use Rattle.ob_perm.specs.States.{States}
use Rattle.ob_perm.specs.Permissions.{Permission, owned, shared, unowned, owns}
use Rattle.ob_perm.specs.Masks.{held, permission_of, states_of}
use Rattle.ob_table.specs.Tables.{ClassTable}
use Rattle.ob_table.specs.declared.contract.Param.{Param}
use Rattle.ob_table.specs.declared.contract.ResolvedType.{ResolvedType}
use Rattle.ob_table.specs.declared.contract.ResolvedType.TheVariants.{Int, Bool as BoolKind, Text, Reference}
use Rattle.ob_table_spec.specs.Conditions.{IsParam, IsExitOf, MayLeave}
use Rattle.ob_heap_spec.specs.Values.{Value, reference}
use Rattle.ob_heap_spec.specs.Contents.{Handle, Content}
use Rattle.ob_heap_spec.specs.Handles.{handle_at}
use Rattle.ob_silica_steps.specs.Cells.{Cell}
use Rattle.ob_silica_steps.specs.Configurations.{SlotCells, Configuration}
use Rattle.ob_coherent_spec.specs.Counting.{in_cell}
use Rattle.ob_coherent_spec.specs.Standing.{NeedsOwner}
use Rattle.ob_coherent_spec.specs.Coherent.{LeavesWith}
use Rattle.ob_soundness_laws.proofs.counting.Cells.{cell_counted, counted_cell, cell_other, shared_none, cell_most}
use Rattle.ob_rest_spec.specs.Modes.{is_owned}
use Rattle.ob_invocation_spec.specs.Requests.{Argument, int_argument, bool_argument, text_argument, handle_argument, other_argument}
use Rattle.ob_invocation_spec.specs.Handles.{handle_name, serves}
use Rattle.ob_invocation_spec.specs.Entries.{HandleUse, value_of, used_for, use_of_argument}
use Rattle.ob_invocation_spec.specs.Entering.{put_after_use}
use Rattle.ob_invocation_spec.specs.Refusals.{is_of_type}
use Rattle.ob_invocation_laws.specs.Laws.{owners_in, put_owners, returned_owners}
use Rattle.ob_invocation_laws.proofs.Lent.{returned_use}
use Rattle.ob_soundness_laws.proofs.Entries.{ArgumentsFit, no_arguments, one_argument}
use Rattle.ob_soundness_laws.proofs.Left.{HasLeft}

-- One use.

module _ (table : ClassTable) (c : Configuration) (j : ℕ) (u : HandleUse)
    (left : HasLeft table c j (reference u.handle.object) u.exit) (n : ℕ) where
  abbrev here : ℕ
  here = in_cell owns n (c.frame.slots j)

  -- what comes back is in the slot
  pub returned_less : put_owners (put_after_use u) n ≤ in_cell owns n (c.frame.slots j)
  returned_less = rw returned_use (by_use (is_owned u.handle.mode && is_owned u.entry.mode))
    where
      exit_owned : (m : Mode) → u.exit.mode ≡ m → (nat_eq u.handle.object n && is_owned m) ≡ true
          → in_cell owns n (c.frame.slots j) ≡ 1
      exit_owned Owned is e = one (permission_of u.exit) (states_of u.exit.states)
          (ap (λ (m : Mode). held m (states_of u.exit.states)) is) left.leaves
        where
          same : (b : Bool) → nat_eq u.handle.object n ≡ b → (b && true) ≡ true → u.handle.object ≡ n
          same true is e = grind (arith, nat_tests, is)
          same false is e = absurd cc

          one : (p : Permission) (a : States) → p ≡ owned a → LeavesWith (NeedsOwner table c.world.objects) p left.cell
              → in_cell owns n (c.frame.slots j) ≡ 1
          one (owned b) a e' l = ap (in_cell owns n) left.set
              ∙ cell_counted owns n left.cell (ap owns l.1) (left.value ∙ ap reference (same (nat_eq u.handle.object n) refl e))
          one shared a e' l = absurd cc
          one unowned a e' l = absurd cc
      exit_owned Shared is e = absurd (none (nat_eq u.handle.object n) e)
        where
          none : (b : Bool) → (b && false) ≡ true → ⊥
          none true e = absurd cc
          none false e = absurd cc
      exit_owned Unowned is e = absurd (none (nat_eq u.handle.object n) e)
        where
          none : (b : Bool) → (b && false) ≡ true → ⊥
          none true e = absurd cc
          none false e = absurd cc

      at_most : (b : Bool) → (nat_eq u.handle.object n && is_owned u.exit.mode) ≡ b
          → (if b then 1 else 0) ≤ in_cell owns n (c.frame.slots j)
      at_most true e = let z = exit_owned u.exit.mode refl e in omega (arith, z)
      at_most false e = omega arith

      by_use : (b : Bool) → (if b then (if nat_eq u.handle.object n && is_owned u.exit.mode then 1 else 0) else 0)
          ≤ in_cell owns n (c.frame.slots j)
      by_use true = at_most (nat_eq u.handle.object n && is_owned u.exit.mode) refl
      by_use false = omega arith

  -- where the object must have an owner, what is in the slot comes back
  pub returned_more : NeedsOwner table c.world.objects n → MayLeave u.entry u.exit
      → (u.handle.object ≡ n → is_owned u.entry.mode ≡ true → is_owned u.handle.mode ≡ true)
      → in_cell owns n (c.frame.slots j) ≤ put_owners (put_after_use u) n
  returned_more needs may own = by_count (in_cell owns n (c.frame.slots j)) refl
    where
      -- the slot owns the object alone where the exit is an owner's
      exit_mode : (m : Mode) → u.exit.mode ≡ m → 0 < in_cell owns n (Some left.cell) → is_owned u.exit.mode ≡ true
      exit_mode Owned is some = ap is_owned is
      exit_mode Shared is some = absurd (let z = shared_none n left.cell
          (subst (λ p. LeavesWith (NeedsOwner table c.world.objects) p left.cell) (ap (λ (m : Mode). held m (states_of u.exit.states)) is) left.leaves) in
          omega (arith, z, some))
      exit_mode Unowned is some = absurd (let z = (subst (λ p. LeavesWith (NeedsOwner table c.world.objects) p left.cell)
          (ap (λ (m : Mode). held m (states_of u.exit.states)) is) left.leaves) n needs in omega (arith, z, some))

      entry_mode : (m : Mode) → u.entry.mode ≡ m → is_owned u.exit.mode ≡ true → is_owned u.entry.mode ≡ true
      entry_mode Owned is e = ap is_owned is
      entry_mode Shared is e = absurd (let z = may (λ o. (let y = sym is ∙ o in cc)) in true≢false (sym e ∙ ap is_owned (z ∙ is)))
      entry_mode Unowned is e = absurd (let z = may (λ o. (let y = sym is ∙ o in cc)) in true≢false (sym e ∙ ap is_owned (z ∙ is)))

      by_count : (m : ℕ) → in_cell owns n (c.frame.slots j) ≡ m → m ≤ put_owners (put_after_use u) n
      by_count zero e = omega arith
      by_count (suc m) e =
          let most = cell_most owns n (c.frame.slots j) in
          let some : 0 < in_cell owns n (Some left.cell) = let z = ap (in_cell owns n) left.set in omega (arith, e, z) in
          let refers : u.handle.object ≡ n = let z : reference u.handle.object ≡ reference n =
          sym left.value ∙ (counted_cell owns n left.cell some).1 in cc in
          let exit = exit_mode u.exit.mode refl some in
          let entry = entry_mode u.entry.mode refl exit in
          let z : put_owners (put_after_use u) n ≡ 1 = returned_use u n
          ∙ ap (λ (b : Bool). if b && is_owned u.entry.mode then owners_in n (Some (record { object = u.handle.object; mode = u.exit.mode })) else 0) (own refers entry)
          ∙ ap (λ (b : Bool). if b then owners_in n (Some (record { object = u.handle.object; mode = u.exit.mode })) else 0) entry
          ∙ ap (λ (b : Bool). if nat_eq u.handle.object n && b then 1 else 0) exit
          ∙ ap (λ (b : Bool). if b && true then 1 else 0) (eq-eqb u.handle.object n refers) in
          omega (arith, most, e, z)

-- All arguments.

-- how much a row of slots owns
abbrev pub row : SlotCells → ℕ → ℕ → ℕ → ℕ
row slots n k zero = 0
row slots n k (suc m) = in_cell owns n (slots k) + row slots n (suc k) m

-- the uses of arguments
abbrev pub uses_of : Content → List ℕ → List Param → List Argument → List HandleUse
uses_of content who ps args = filter_map (λ (pair : Param × Argument). use_of_argument content who pair.0 pair.1) (zip ps args)

returned_option : (o : Option HandleUse) (us : List HandleUse) (n : ℕ) → returned_owners (cons_option o us) n
    ≡ returned_owners (cons_option o []) n + returned_owners us n
returned_option None us n = omega arith
returned_option (Some u) us n = omega arith

-- an argument of a handle is a use, and any other is none
pub data UsesSo (content : Content) (who : List ℕ) (p : Param) (arg : Argument) (v : Value) : Type 0 where
  used_handle : (u : HandleUse) → use_of_argument content who p arg ≡ Some u → v ≡ reference u.handle.object → u.exit ≡ p.exit
      → (id : ContractId) → p.of ≡ Reference id u.entry → UsesSo content who p arg v
  used_plain : use_of_argument content who p arg ≡ None → ((m : ℕ) → v ≢ reference m) → UsesSo content who p arg v

pub uses_so : (table : ClassTable) (content : Content) (who : List ℕ) (p : Param) (arg : Argument) (v : Value)
    → value_of content who arg ≡ Some v → is_of_type table content.objects p.of v ≡ true → UsesSo content who p arg v
uses_so table content who p (int_argument z) v is fits = used_plain refl (λ m e. cc)
uses_so table content who p (bool_argument b) v is fits = used_plain refl (λ m e. cc)
uses_so table content who p (text_argument b) v is fits = used_plain refl (λ m e. cc)
uses_so table content who p other_argument v is fits = absurd cc
uses_so table content who p (handle_argument name) v is fits = go (handle_at content (handle_name who name)) refl is
  where
    go : (h : Option Handle) → handle_at content (handle_name who name) ≡ h
        → option_map (λ (h : Handle). reference h.object) h ≡ Some v → UsesSo content who p (handle_argument name) v
    go None at e = absurd cc
    go (Some h) at e = by_type p.of refl
      where
        refers : v ≡ reference h.object
        refers = cc

        by_type : (of : ResolvedType) → p.of ≡ of → UsesSo content who p (handle_argument name) v
        by_type (Reference id q) same = used_handle
            (record { name = handle_name who name; handle = h; contract = id; entry = q; exit = p.exit })
            (ap (λ x. x >>= used_for p.of p.exit (handle_name who name)) at ∙ ap (λ t. used_for t p.exit (handle_name who name) h) same) refers refl id same
        by_type Int same = absurd (let z = rw (same, refers) at fits in cc)
        by_type BoolKind same = absurd (let z = rw (same, refers) at fits in cc)
        by_type Text same = absurd (let z = rw (same, refers) at fits in cc)

owner_serves : (m w : Mode) → serves m w ≡ true → is_owned w ≡ true → is_owned m ≡ true
owner_serves Owned w s o = refl
owner_serves Shared Owned s o = absurd cc
owner_serves Shared Shared s o = absurd cc
owner_serves Shared Unowned s o = absurd cc
owner_serves Unowned Owned s o = absurd cc
owner_serves Unowned Shared s o = absurd cc
owner_serves Unowned Unowned s o = absurd cc

module _ (table : ClassTable) (content : Content) (who : List ℕ) (c : Configuration) (n : ℕ) where
  abbrev pub Left : ℕ → List Param → List Value → Type 0
  Left k ps vs = (j : ℕ) (p : Param) (v : Value) → slice_get ps j ≡ Some p → slice_get vs j ≡ Some v → HasLeft table c (k + j) v p.exit

  pub left_later : (k : ℕ) (p : Param) (ps : List Param) (v : Value) (vs : List Value) → Left k (p ∷ ps) (v ∷ vs) → Left (suc k) ps vs
  left_later k p ps v vs left j q w a b = subst (λ i. HasLeft table c i w q.exit) (let z : k + suc j ≡ suc k + j = omega arith in z)
      (left (suc j) q w a b)

  pub left_first : (k : ℕ) (p : Param) (ps : List Param) (v : Value) (vs : List Value) → Left k (p ∷ ps) (v ∷ vs) → HasLeft table c k v p.exit
  left_first k p ps v vs left = subst (λ i. HasLeft table c i v p.exit) (let z : k + 0 ≡ k = omega arith in z) (left 0 p v refl refl)

  pub at_use : (k : ℕ) (p : Param) (v : Value) (u : HandleUse) → v ≡ reference u.handle.object → u.exit ≡ p.exit
      → HasLeft table c k v p.exit → HasLeft table c k (reference u.handle.object) u.exit
  at_use k p v u value exit left = subst (HasLeft table c k (reference u.handle.object)) (sym exit)
      (subst (λ x. HasLeft table c k x p.exit) value left)

  pub args_less : (k : ℕ) (ps : List Param) (args : List Argument) (vs : List Value) → ArgumentsFit table content who ps args vs
      → Left k ps vs → returned_owners (uses_of content who ps args) n ≤ row c.frame.slots n k (length ps)
  args_less k ps args vs no_arguments left = omega arith
  args_less k ps args vs (one_argument p qs a bs v us is fits rest) left =
      let later = args_less (suc k) qs bs us rest (left_later k p qs v us left) in
      let split = returned_option (use_of_argument content who p a) (uses_of content who qs bs) n in
      let first = at_first (uses_so table content who p a v is fits) in
      omega (arith, later, split, first)
    where
      at_first : UsesSo content who p a v → returned_owners (cons_option (use_of_argument content who p a) []) n ≤ in_cell owns n (c.frame.slots k)
      at_first (used_handle u given value exit id of) = rw given
          (let z = returned_less table c k u (at_use k p v u value exit (left_first k p qs v us left)) n in omega (arith, z))
      at_first (used_plain none plain) = rw none (omega arith)

  pub args_more : NeedsOwner table c.world.objects n → (k : ℕ) (ps : List Param) (args : List Argument) (vs : List Value)
      → ArgumentsFit table content who ps args vs → Left k ps vs
      → ((j : ℕ) (p : Param) → slice_get ps j ≡ Some p → IsParam table p)
      → ((j : ℕ) (u : HandleUse) → slice_get (uses_of content who ps args) j ≡ Some u → serves u.handle.mode u.entry.mode ≡ true)
      → row c.frame.slots n k (length ps) ≤ returned_owners (uses_of content who ps args) n
  args_more needs k ps args vs no_arguments left params serve = omega arith
  args_more needs k ps args vs (one_argument p qs a bs v us is fits rest) left params serve =
      let later = args_more needs (suc k) qs bs us rest (left_later k p qs v us left) (λ j q e. params (suc j) q e)
      (λ j u e. serve_later j u e (use_of_argument content who p a) refl) in
      let split = returned_option (use_of_argument content who p a) (uses_of content who qs bs) n in
      let first = at_first (uses_so table content who p a v is fits) in
      omega (arith, later, split, first)
    where
      serve_later : (j : ℕ) (u : HandleUse) → slice_get (uses_of content who qs bs) j ≡ Some u
          → (o : Option HandleUse) → use_of_argument content who p a ≡ o → serves u.handle.mode u.entry.mode ≡ true
      serve_later j u e None o = serve j u (ap (λ x. slice_get (cons_option x (uses_of content who qs bs)) j) o ∙ e)
      serve_later j u e (Some w) o = serve (suc j) u (ap (λ x. slice_get (cons_option x (uses_of content who qs bs)) (suc j)) o ∙ e)

      zero_cell : (x : Option Cell) (y : Cell) → x ≡ Some y → ((m : ℕ) → y.value ≢ reference m) → in_cell owns n x ≡ 0
      zero_cell x y e plain = ap (in_cell owns n) e ∙ cell_other owns n y (plain n)

      may : (u : HandleUse) (exit : Perm) → u.exit ≡ exit → (of : ResolvedType) (id : ContractId) → of ≡ Reference id u.entry → IsExitOf table of exit
          → MayLeave u.entry u.exit
      may u exit e of id same law = subst (MayLeave u.entry) (sym e) (subst (λ t. IsExitOf table t exit) same law).1

      at_first : UsesSo content who p a v → in_cell owns n (c.frame.slots k) ≤ returned_owners (cons_option (use_of_argument content who p a) []) n
      at_first (used_handle u given value exit id of) = rw given
          (let z = returned_more table c k u (at_use k p v u value exit (left_first k p qs v us left)) n needs
          (may u p.exit exit p.of id of (params 0 p refl).exit)
          (λ is owns. owner_serves u.handle.mode u.entry.mode (serve 0 u (ap (λ x. slice_get (cons_option x (uses_of content who qs bs)) 0) given)) owns) in
          omega (arith, z))
      at_first (used_plain none plain) = let l = left_first k p qs v us left in
          let z = zero_cell (c.frame.slots k) l.cell l.set (λ m e. plain m (sym l.value ∙ e)) in rw none (omega (arith, z))
