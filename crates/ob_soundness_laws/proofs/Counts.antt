-- How the owners where a run has ended compare with those of the store after it.
use Rattle.std.proofs.Common.{◌≡◌, ℕ, zero, suc, ◌+◌, ◌<◌, ◌≤◌, Bool, true, false, cond, not, ◌&&◌, List, [], ◌∷◌, ◌++◌, length, map, filter, Some, refl, sym, ap, subst, ◌∙◌, arith, ⊎_elim, ◌⊎◌, inl, inr}
use Rattle.std.specs.Prelude.{nat_eq, if◌then◌else◌}
use Rattle.ob_base.specs.Limits.{most_slots}
use Rattle.ob_perm.specs.Permissions.{owns, unowned}
use Rattle.ob_silica_steps.specs.Configurations.{SlotCells}
use Rattle.ob_coherent_spec.specs.Counting.{sum_below, one_if, in_cell, in_slots, in_handles}
use Rattle.ob_soundness_laws.proofs.counting.Sums.{sum_same}
use Rattle.ob_soundness_laws.proofs.stores.Lists.{sum_first, sum_further}
use Rattle.ob_soundness_laws.proofs.stores.Handles.{owning_handles, handles_more}
use Rattle.ob_rest_spec.specs.Modes.{is_owned}
use Rattle.ob_rest_laws.specs.Laws.{handle_owners}
use Rattle.ob_perm.specs.Masks.{held}
use Rattle.ob_base.specs.declared.permission.Mode.{Mode}
use Rattle.ob_base.specs.declared.permission.Mode.TheVariants.{Owned, Shared, Unowned}
use Rattle.ob_heap_spec.specs.Handles.{NamedHandle}
use Rattle.ob_invocation_spec.specs.Entries.{HandleUse}
use Rattle.ob_invocation_laws.specs.Laws.{is_put, kept_handles, returned_owners, owners_in}
use Rattle.ob_soundness_laws.specs.Requests.{note_in_run, any_state}
use Rattle.ob_soundness_laws.proofs.Staying.{below_or_not}
use Rattle.ob_soundness_laws.proofs.Given.{row}

-- Rows of slots.

module _ (slots : SlotCells) (n : ℕ) where
  row_sum : (k m : ℕ) → row slots n k m ≡ sum_below m (λ j. in_cell owns n (slots (k + j)))
  row_sum k zero = refl
  row_sum k (suc m) =
      let rest = row_sum (suc k) m in
      let first = sum_first m (λ j. in_cell owns n (slots (k + j))) in
      let here : in_cell owns n (slots (k + 0)) ≡ in_cell owns n (slots k) = ap (λ i. in_cell owns n (slots i)) (omega arith) in
      let same = sum_same m (λ j. in_cell owns n (slots (suc k + j))) (λ j. in_cell owns n (slots (k + suc j)))
      (λ j low. ap (λ i. in_cell owns n (slots i)) (let z : suc k + j ≡ k + suc j = omega arith in z)) in
      omega (arith, rest, first, here, same)

  sum_less : (m l : ℕ) (f : ℕ → ℕ) → m ≤ l → sum_below m f ≤ sum_below l f
  sum_less m zero f le = ap_less m (let z : m ≡ 0 = omega arith in z)
    where
      ap_less : (m : ℕ) → m ≡ 0 → sum_below m f ≤ 0
      ap_less zero e = omega arith
      ap_less (suc m) e = absurd (omega arith)
  sum_less m (suc l) f le = ⊎_elim
      (λ low. let z = sum_less m l f low in omega (arith, z))
      (λ top. subst (λ i. sum_below i f ≤ f l + sum_below l f) (sym top) (omega arith))
      (two m l le)
    where
      two : (m l : ℕ) → m ≤ suc l → (m ≤ l) ⊎ (m ≡ suc l)
      two m l le = ⊎_elim (λ a. inl (omega (arith, a))) (λ b. inr (omega (arith, b, le))) (below_or_not m (suc l))

  rows : (m : ℕ) → sum_below (suc m) (λ j. in_cell owns n (slots j)) ≡ in_cell owns n (slots 0) + row slots n 1 m
  rows m = let a = sum_first m (λ j. in_cell owns n (slots j)) in
      let b = row_sum 1 m in
      let same = sum_same m (λ j. in_cell owns n (slots (suc j))) (λ j. in_cell owns n (slots (1 + j)))
      (λ j low. ap (λ i. in_cell owns n (slots i)) (let z : suc j ≡ 1 + j = omega arith in z)) in
      omega (arith, a, b, same)

  pub slots_more : (m : ℕ) → m < most_slots → in_cell owns n (slots 0) + row slots n 1 m ≤ in_slots owns n slots
  slots_more m few = let a = rows m in let b = sum_less (suc m) most_slots (λ j. in_cell owns n (slots j)) (omega arith) in omega (arith, a, b)

  pub slots_less : (m : ℕ) → m < most_slots → ((j : ℕ) → m < j → in_cell owns n (slots j) ≡ 0)
      → in_slots owns n slots ≡ in_cell owns n (slots 0) + row slots n 1 m
  slots_less m few none = sum_further most_slots (suc m) (λ j. in_cell owns n (slots j)) (omega arith)
      (λ j from to. none j (omega (arith, from))) ∙ rows m

-- Handles.

module _ (n : ℕ) where
  held_owns : (m : Mode) → owns (held m any_state) ≡ is_owned m
  held_owns Owned = refl
  held_owns Shared = refl
  held_owns Unowned = refl

  counted_more : (h : NamedHandle) (hs : List NamedHandle) → handle_owners (h ∷ hs) n ≡ owners_in n (Some h.1) + handle_owners hs n
  counted_more h hs = go (nat_eq h.1.object n && is_owned h.1.mode)
    where
      go : (b : Bool) → length (cond b (h ∷ filter (λ (g : NamedHandle). nat_eq g.1.object n && is_owned g.1.mode) hs)
          (filter (λ (g : NamedHandle). nat_eq g.1.object n && is_owned g.1.mode) hs))
          ≡ (if b then 1 else 0) + handle_owners hs n
      go true = omega arith
      go false = omega arith

  -- both counts of handles are the same
  pub same_handles : (hs : List NamedHandle) → owning_handles n hs ≡ handle_owners hs n
  same_handles [] = refl
  same_handles (h ∷ hs) = let a = handles_more n h hs in let b = counted_more h hs in let r = same_handles hs in
      let s = go (nat_eq h.1.object n) (is_owned h.1.mode) in omega (arith, a, b, r, s)
    where
      go : (a b : Bool) → one_if (b && a) ≡ (if a && b then 1 else 0)
      go true true = refl
      go true false = refl
      go false true = refl
      go false false = refl

  -- what handles carry while a run lasts is what those own that are kept
  pub carried : (puts hs : List NamedHandle) → in_handles owns n (map (note_in_run puts) hs) ≡ handle_owners (kept_handles hs puts) n
  carried puts [] = refl
  carried puts (h ∷ hs) = go (is_put puts h.0) (carried puts hs)
    where
      kept_owns : (a : Bool) → one_if (owns (held h.1.mode any_state) && a) ≡ (if a && is_owned h.1.mode then 1 else 0)
      kept_owns a = ap (λ b. one_if (b && a)) (held_owns h.1.mode) ∙ both (is_owned h.1.mode) a
        where
          both : (b a : Bool) → one_if (b && a) ≡ (if a && b then 1 else 0)
          both true true = refl
          both true false = refl
          both false true = refl
          both false false = refl

      go : (b : Bool) → in_handles owns n (map (note_in_run puts) hs) ≡ handle_owners (kept_handles hs puts) n
          → one_if (owns (if b then unowned else held h.1.mode any_state) && nat_eq h.1.object n)
          + in_handles owns n (map (note_in_run puts) hs)
          ≡ handle_owners (cond (not b) (h ∷ kept_handles hs puts) (kept_handles hs puts)) n
      go true rest = omega (arith, rest)
      go false rest = let a = kept_owns (nat_eq h.1.object n) in let b = counted_more h (kept_handles hs puts) in omega (arith, a, b, rest)

pub returned_append : (us vs : List HandleUse) (n : ℕ) → returned_owners (us ++ vs) n ≡ returned_owners us n + returned_owners vs n
returned_append [] vs n = omega arith
returned_append (u ∷ us) vs n = let r = returned_append us vs n in omega (arith, r)
