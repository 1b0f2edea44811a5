-- What handles become where some are put: how many there are, which are Shared, and how many owners they carry.
use Rattle.std.proofs.Common.{◌≡◌, ◌⊎◌, inl, inr, ℕ, ◌+◌, Bool, true, false, List, [], ◌∷◌, length, Some, refl, arith}
use Rattle.std.specs.Prelude.{cond, ◌&&◌, ◌||◌, nat_eq, is_some, AllPairs}
use Rattle.std.specs.Ordering.{eq_by_cmp}
use Rattle.std.specs.declared.cmp.Ordering.{Ordering}
use Rattle.std.specs.declared.cmp.Ordering.TheVariants.{Less, Equal, Greater}
use Rattle.std.specs.FinMap.Entries.{find as find_key, length-put, by_order}
use Rattle.ob_table.specs.Tables.{ClassTable}
use Rattle.ob_heap_spec.specs.Objects.{Object}
use Rattle.ob_heap_spec.specs.Contents.{HandleName, Handle, Content, name_order}
use Rattle.ob_rest_spec.specs.Modes.{is_shared}
use Rattle.ob_rest_spec.specs.Incoming.{owners}
use Rattle.ob_rest_laws.specs.Laws.{handle_owners, is_shared_by_handle, AreMarkedFrom}
use Rattle.ob_rest_laws.proofs.Counting.{owners_add_up}
use Rattle.ob_rest_laws.proofs.Changing.{same_fields}
use Rattle.ob_heap_spec.specs.Handles.{NamedHandle, put_handle, put_handles}
use Rattle.ob_heap_spec.proofs.Names.{names_total}
use Rattle.ob_invocation_laws.proofs.Handles.{Before, pairs_back}

-- How many handles there are.

-- a handle that is put under a name that is there replaces that one
pub length_put : (handles : List NamedHandle) (h : NamedHandle) → AllPairs Before handles
    → length (put_handle handles h)
    ≡ cond (is_some (find_key name_order h.0 handles)) (length handles) (length handles + 1)
length_put handles h order = length-put name_order names_total h.0 h.1 handles (pairs_back handles order)

-- Shared handles.

-- a handle that is found and Shared is one of those on its object
pub found_shared : (name : HandleName) (handles : List NamedHandle) (h : Handle)
    → find_key name_order name handles ≡ Some h → is_shared h.mode ≡ true → is_shared_by_handle handles h.object ≡ true
found_shared name [] h there is = absurd cc
found_shared name (g ∷ handles) h there is =
    at_test (eq_by_cmp name_order name g.0) there (λ later. found_shared name handles h later is)
  where
    alike : (n : ℕ) → nat_eq n n ≡ true
    alike n = grind arith

    after : (b : Bool) → (b || true) ≡ true
    after true = refl
    after false = refl

    at_test : (b : Bool) → cond b (Some g.1) (find_key name_order name handles) ≡ Some h
        → (find_key name_order name handles ≡ Some h → is_shared_by_handle handles h.object ≡ true)
        → ((nat_eq g.1.object h.object && is_shared g.1.mode) || is_shared_by_handle handles h.object) ≡ true
    at_test true here rest =
        let same : g.1 ≡ h = cc in rw same (rw (alike h.object, is) refl)
    at_test false here rest = rw (rest here) (after (nat_eq g.1.object h.object && is_shared g.1.mode))

-- of two, the first holds or the second
first_or_rest : (a b : Bool) → (a || b) ≡ true → (a ≡ true) ⊎ (b ≡ true)
first_or_rest true b is = inl refl
first_or_rest false b is = inr is

-- Shared handles, where one is put, were there before, or it is that one
put_shared : (n : ℕ) (handles : List NamedHandle) (h : NamedHandle)
    → is_shared_by_handle (put_handle handles h) n ≡ true
    → ((nat_eq h.1.object n && is_shared h.1.mode) || is_shared_by_handle handles n) ≡ true
put_shared n [] h is = is
put_shared n (g ∷ handles) h is = at_order (name_order h.0 g.0) is (put_shared n handles h)
  where
    here : NamedHandle → Bool
    here f = nat_eq f.1.object n && is_shared f.1.mode

    skipped : (a b c : Bool) → (a || c) ≡ true → (a || (b || c)) ≡ true
    skipped true b c is = refl
    skipped false true c is = refl
    skipped false false c is = is

    under : (a b c d : Bool) → (b || d) ≡ true → (d ≡ true → (a || c) ≡ true) → (a || (b || c)) ≡ true
    under true b c d is rest = refl
    under false true c d is rest = refl
    under false false c d is rest = rest is

    at_order : (o : Ordering)
        → is_shared_by_handle (by_order o (h ∷ g ∷ handles) ((g.0, h.1) ∷ handles) (g ∷ put_handle handles h)) n ≡ true
        → (is_shared_by_handle (put_handle handles h) n ≡ true
        → ((nat_eq h.1.object n && is_shared h.1.mode) || is_shared_by_handle handles n) ≡ true)
        → ((nat_eq h.1.object n && is_shared h.1.mode) || is_shared_by_handle (g ∷ handles) n) ≡ true
    at_order Less is rest = is
    at_order Equal is rest =
        skipped (nat_eq h.1.object n && is_shared h.1.mode) (nat_eq g.1.object n && is_shared g.1.mode)
        (is_shared_by_handle handles n) is
    at_order Greater is rest =
        under (nat_eq h.1.object n && is_shared h.1.mode) (nat_eq g.1.object n && is_shared g.1.mode)
        (is_shared_by_handle handles n) (is_shared_by_handle (put_handle handles h) n) is rest

-- Shared handles, where some are put, were there before, or are among those
pub puts_shared : (n : ℕ) (handles puts : List NamedHandle) → is_shared_by_handle (put_handles handles puts) n ≡ true
    → (is_shared_by_handle handles n ≡ true) ⊎ (is_shared_by_handle puts n ≡ true)
puts_shared n handles [] is = inl is
puts_shared n handles (h ∷ puts) is =
    elim (puts_shared n (put_handle handles h) puts is) [
      | inl before ↦
          elim (first_or_rest (nat_eq h.1.object n && is_shared h.1.mode) (is_shared_by_handle handles n)
          (put_shared n handles h before)) [
            | inl this ↦ inr (rw this refl)
            | inr was ↦ inl was
          ]
      | inr later ↦ inr (rw later (after (nat_eq h.1.object n && is_shared h.1.mode)))
    ]
  where
    after : (b : Bool) → (b || true) ≡ true
    after true = refl
    after false = refl

-- Owners.

-- owners change with those that handles carry, where objects gain marks at most
pub owners_change : (table : ClassTable) (content : Content) (objects : List Object) (handles : List NamedHandle)
    → AreMarkedFrom content.objects objects → (n : ℕ)
    → owners table (record { objects = objects; handles = handles }) n + handle_owners content.handles n
    ≡ owners table content n + handle_owners handles n
owners_change table content objects handles marked n =
    let before = owners_add_up table content n in
    let later = owners_add_up table (record { objects = objects; handles = handles }) n in
    let fields = same_fields table content.objects objects marked in
    rw (before, later, fields) (omega arith)
