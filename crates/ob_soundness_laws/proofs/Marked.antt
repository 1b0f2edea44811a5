-- Where a run has ended, each object that a Shared handle is put on is marked as shared already.
use Rattle.std.proofs.Common.{◌≡◌, ℕ, suc, Bool, true, false, ◌&&◌, ◌||◌, List, [], ◌∷◌, ◌++◌, Option, Some, None, refl, sym, ap, subst, ◌∙◌, arith, ⊎_elim, ◌⊎◌, inl, inr}
use Rattle.std.specs.Prelude.{nat_eq, slice_get, if◌then◌else◌}
use Rattle.std.specs.List.{cons_option}
use Rattle.std.proofs.lemmas.Bool.Decides.{nat_tests}
use Rattle.ob_base.specs.declared.permission.Mode.{Mode}
use Rattle.ob_base.specs.declared.permission.Mode.TheVariants.{Owned, Shared, Unowned}
use Rattle.ob_base.specs.declared.permission.Perm.{Perm}
use Rattle.ob_base.specs.declared.id.ContractId.{ContractId}
use Rattle.ob_perm.specs.Permissions.{shared}
use Rattle.ob_perm.specs.Masks.{held, states_of}
use Rattle.ob_table.specs.Tables.{ClassTable}
use Rattle.ob_table.specs.declared.contract.Param.{Param}
use Rattle.ob_table.specs.declared.contract.ResolvedType.{ResolvedType}
use Rattle.ob_table.specs.declared.contract.ResolvedType.TheVariants.{Reference}
use Rattle.ob_table_spec.specs.Conditions.{IsParam, IsExitOf, MayLeave}
use Rattle.ob_heap_spec.specs.Values.{Value, reference}
use Rattle.ob_heap_spec.specs.Contents.{Content}
use Rattle.ob_heap_spec.specs.Handles.{NamedHandle}
use Rattle.ob_silica_steps.specs.Cells.{Cell}
use Rattle.ob_silica_steps.specs.Configurations.{Configuration}
use Rattle.ob_coherent_spec.specs.Counting.{nth_object}
use Rattle.ob_coherent_spec.specs.Standing.{Stands, RefersToShared, NeedsOwner}
use Rattle.ob_coherent_spec.specs.Coherent.{LeavesWith}
use Rattle.ob_rest_spec.specs.Modes.{is_owned, is_shared}
use Rattle.ob_rest_laws.specs.Laws.{is_shared_by_handle}
use Rattle.ob_invocation_spec.specs.Requests.{Argument}
use Rattle.ob_invocation_spec.specs.Entries.{HandleUse, use_of_argument}
use Rattle.ob_invocation_spec.specs.Entering.{put_after_use}
use Rattle.ob_invocation_laws.specs.Laws.{puts_of_uses}
use Rattle.ob_soundness_laws.proofs.Entries.{ArgumentsFit, no_arguments, one_argument}
use Rattle.ob_soundness_laws.proofs.Left.{HasLeft}
use Rattle.ob_soundness_laws.proofs.Given.{uses_of, UsesSo, used_handle, used_plain, uses_so, Left, left_later, left_first, at_use}

-- a Shared handle among some of two lists is among one of them
pub shared_either : (xs ys : List NamedHandle) (n : ℕ) → is_shared_by_handle (xs ++ ys) n ≡ true
    → (is_shared_by_handle xs n ≡ true) ⊎ (is_shared_by_handle ys n ≡ true)
shared_either [] ys n e = inr e
shared_either (x ∷ xs) ys n e = go (nat_eq x.1.object n && is_shared x.1.mode) refl (shared_either xs ys n)
  where
    go : (b : Bool) → (nat_eq x.1.object n && is_shared x.1.mode) ≡ b
        → (is_shared_by_handle (xs ++ ys) n ≡ true → (is_shared_by_handle xs n ≡ true) ⊎ (is_shared_by_handle ys n ≡ true))
        → ((b || is_shared_by_handle xs n) ≡ true) ⊎ (is_shared_by_handle ys n ≡ true)
    go true is rest = inl refl
    go false is rest = rest (rw is at e)

same_number : (a b : ℕ) → nat_eq a b ≡ true → a ≡ b
same_number a b e = grind (arith, nat_tests)

module _ (table : ClassTable) (c : Configuration) (j : ℕ) (u : HandleUse)
    (left : HasLeft table c j (reference u.handle.object) u.exit) (stands : (x : Cell) → c.frame.slots j ≡ Some x
    → Stands table c.world.objects x) (may : MayLeave u.entry u.exit) (n : ℕ) where
  exit_shared : u.exit.mode ≡ Shared → u.handle.object ≡ n → (nth_object c.world.objects n).shared ≡ true
  exit_shared m o =
      let l : left.cell.note.permission ≡ shared = subst (λ p. LeavesWith (NeedsOwner table c.world.objects) p left.cell)
      (ap (λ (m : Mode). held m (states_of u.exit.states)) m) left.leaves in
      let z : RefersToShared c.world.objects (reference u.handle.object) = subst (RefersToShared c.world.objects) left.value ((stands left.cell left.set).marked l) in
      ap (λ i. (nth_object c.world.objects i).shared) (sym o) ∙ z

  -- what a use puts as Shared is on a marked object
  pub use_marked : is_shared_by_handle (put_after_use u) n ≡ true → (nth_object c.world.objects n).shared ≡ true
  use_marked = go (is_owned u.handle.mode && is_owned u.entry.mode) (is_shared u.entry.mode) refl
    where
      is_so : (m : Mode) → is_shared m ≡ true → m ≡ Shared
      is_so Shared e = refl
      is_so Owned e = absurd cc
      is_so Unowned e = absurd cc

      both : (a b : Bool) → ((a && b) || false) ≡ true → (a ≡ true) × (b ≡ true)
      both true true e = (refl, refl)
      both true false e = absurd cc
      both false b e = absurd cc

      go : (a b : Bool) → is_shared u.entry.mode ≡ b
          → is_shared_by_handle (if a then (u.name, record { object = u.handle.object; mode = u.exit.mode }) ∷ []
          else if b then (u.name, record { object = u.handle.object; mode = Shared }) ∷ [] else []) n ≡ true
          → (nth_object c.world.objects n).shared ≡ true
      go true b is e = let z = both (nat_eq u.handle.object n) (is_shared u.exit.mode) e in
          exit_shared (is_so u.exit.mode z.1) (same_number u.handle.object n z.0)
      go false true is e = let z = both (nat_eq u.handle.object n) true e in
          let m : u.entry.mode ≡ Shared = is_so u.entry.mode is in
          exit_shared (may (λ o. (let y = sym m ∙ o in cc)) ∙ m) (same_number u.handle.object n z.0)
      go false false is e = absurd cc

module _ (table : ClassTable) (content : Content) (who : List ℕ) (c : Configuration) (n : ℕ)
    (stands : (j : ℕ) (x : Cell) → c.frame.slots j ≡ Some x → Stands table c.world.objects x) where
  puts_option : (o : Option HandleUse) (us : List HandleUse) → is_shared_by_handle (puts_of_uses (cons_option o us)) n ≡ true
      → (is_shared_by_handle (puts_of_uses (cons_option o [])) n ≡ true) ⊎ (is_shared_by_handle (puts_of_uses us) n ≡ true)
  puts_option None us e = inr e
  puts_option (Some u) us e = ⊎_elim (λ a. inl (none_after (put_after_use u) a)) (λ b. inr b) (shared_either (put_after_use u) (puts_of_uses us) n e)
    where
      none_after : (xs : List NamedHandle) → is_shared_by_handle xs n ≡ true → is_shared_by_handle (xs ++ []) n ≡ true
      none_after xs e = ap (λ ys. is_shared_by_handle ys n) (append_none xs) ∙ e
        where
          append_none : (xs : List NamedHandle) → xs ++ [] ≡ xs
          append_none [] = refl
          append_none (x ∷ xs) = ap (λ ys. x ∷ ys) (append_none xs)

  pub args_marked : (k : ℕ) (ps : List Param) (args : List Argument) (vs : List Value) → ArgumentsFit table content who ps args vs
      → Left table content who c n k ps vs → ((j : ℕ) (p : Param) → slice_get ps j ≡ Some p → IsParam table p)
      → is_shared_by_handle (puts_of_uses (uses_of content who ps args)) n ≡ true → (nth_object c.world.objects n).shared ≡ true
  args_marked k ps args vs no_arguments left params e = absurd cc
  args_marked k ps args vs (one_argument p qs a bs v us is fits rest) left params e =
      let later = args_marked (suc k) qs bs us rest (left_later table content who c n k p qs v us left) (λ j q e. params (suc j) q e) in
      ⊎_elim (λ first. at_first (uses_so table content who p a v is fits) first) (λ after. later after)
      (puts_option (use_of_argument content who p a) (uses_of content who qs bs) e)
    where
      may : (u : HandleUse) (exit : Perm) → u.exit ≡ exit → (of : ResolvedType) (id : ContractId) → of ≡ Reference id u.entry → IsExitOf table of exit
          → MayLeave u.entry u.exit
      may u exit e of id same law = subst (MayLeave u.entry) (sym e) (subst (λ t. IsExitOf table t exit) same law).1

      alone : (u : HandleUse) → is_shared_by_handle (put_after_use u ++ []) n ≡ true → is_shared_by_handle (put_after_use u) n ≡ true
      alone u e = ⊎_elim (λ a. a) (λ b. absurd (let z : false ≡ true = b in cc)) (shared_either (put_after_use u) [] n e)

      at_first : UsesSo content who p a v → is_shared_by_handle (puts_of_uses (cons_option (use_of_argument content who p a) [])) n ≡ true
          → (nth_object c.world.objects n).shared ≡ true
      at_first (used_handle u given value exit id of) e = use_marked table c k u
          (at_use table content who c n k p v u value exit (left_first table content who c n k p qs v us left)) (stands k)
          (may u p.exit exit p.of id of (params 0 p refl).exit) n
          (alone u (ap (λ x. is_shared_by_handle (puts_of_uses (cons_option x [])) n) (sym given) ∙ e))
      at_first (used_plain none plain) e = absurd (let z : false ≡ true = ap (λ x. is_shared_by_handle (puts_of_uses (cons_option x [])) n) (sym none) ∙ e in cc)
