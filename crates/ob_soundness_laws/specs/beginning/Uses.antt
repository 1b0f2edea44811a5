-- What a request uses of handles, and what handles carry while its run lasts (Coblenz et al., TOPLAS 42(3), 2020,
-- "Permissions"; the statements are this project's own).
use Rattle.std.specs.Prelude.{◌≡◌, ℕ, ◌+◌, ◌<◌, ◌⊎◌, Bool, true, ◌&&◌, nat_eq, List, [], ◌∷◌, length, Option, Some, slice_get, ⊤}
use Rattle.std.specs.Ordering.{eq_by_cmp}
use Rattle.ob_perm.specs.Permissions.{owns}
use Rattle.ob_perm.specs.Masks.{permission_of}
use Rattle.ob_table.specs.Tables.{ClassTable}
use Rattle.ob_heap_spec.specs.Objects.{is_in_states}
use Rattle.ob_heap_spec.specs.Contents.{Content, name_order}
use Rattle.ob_heap_spec.specs.Handles.{NamedHandle, handle_at}
use Rattle.ob_rest_spec.specs.Modes.{is_owned, is_shared}
use Rattle.ob_invocation_spec.specs.Entries.{HandleUse}
use Rattle.ob_invocation_laws.specs.Laws.{is_put, puts_of_uses}
use Rattle.ob_coherent_spec.specs.Counting.{nth_object, one_if}

-- What handles carry.

-- whether a handle is lent while the run lasts: another one is put under its name once the run has ended
abbrev pub is_lent : List HandleUse → NamedHandle → Bool
is_lent us h = is_put (puts_of_uses us) h.0

-- How often an object is used.

-- how many uses of an object own it at the entry
abbrev pub owning_uses : ℕ → List HandleUse → ℕ
owning_uses n [] = 0
owning_uses n (u ∷ us) = one_if (is_owned u.entry.mode && nat_eq u.handle.object n) + owning_uses n us

-- how many share it
abbrev pub sharing_uses : ℕ → List HandleUse → ℕ
sharing_uses n [] = 0
sharing_uses n (u ∷ us) = one_if (is_shared u.entry.mode && nat_eq u.handle.object n) + sharing_uses n us

-- how many there are
abbrev pub uses_of : ℕ → List HandleUse → ℕ
uses_of n [] = 0
uses_of n (u ∷ us) = one_if (nat_eq u.handle.object n) + uses_of n us

-- A use of a handle of the store whose mode serves, or which is Shared and calls where its object is locked; the object of an
-- owner is in one of the declared states.
pub record IsUse (table : ClassTable) (content : Content) (entry : Option ℕ) (u : HandleUse) : Type 0 where
  pub there : u.handle.object < length content.objects
  pub found : handle_at content u.name ≡ Some u.handle
  pub place : ℕ
  pub holder : NamedHandle
  pub held : slice_get content.handles place ≡ Some holder
  pub named : eq_by_cmp name_order u.name holder.0 ≡ true
  pub same : holder.1 ≡ u.handle
  pub within : owns (permission_of u.entry) ≡ true
      → is_in_states table u.contract u.entry (nth_object content.objects u.handle.object) ≡ true
  pub shares : is_shared u.entry.mode ≡ true → (is_owned u.handle.mode ≡ true) ⊎ (is_shared u.handle.mode ≡ true)
  pub takes : is_owned u.entry.mode ≡ true
      → (is_owned u.handle.mode ≡ true) ⊎ ((is_shared u.handle.mode ≡ true) × (entry ≡ Some u.handle.object))

-- each of them is one
abbrev pub AreUses : ClassTable → Content → Option ℕ → List HandleUse → Type 0
AreUses table content entry [] = ⊤
AreUses table content entry (u ∷ us) = IsUse table content entry u × AreUses table content entry us
