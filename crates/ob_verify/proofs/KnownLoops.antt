-- Passes over a body, and what each leaves, place by place.
use Rattle.std.proofs.Common.{◌≡◌, ◌≢◌, ℕ, zero, suc, ◌+◌, ◌<◌, ◌≤◌, List, [], ◌∷◌, ◌++◌, length, take, drop, get_or, Bool, true, false, cond, Option, Some, None, refl, sym, ap, ap₂, ◌∙◌, subst, arith, add-one, append-nil, drop-cons, ◌⊎◌, inl, inr}
use Rattle.std.specs.Prelude.{slice_set, ◌||◌, if◌then◌else◌}
use Rattle.std.proofs.Math.Seq.{drop-nil}
use Rattle.std.proofs.Math.ListN.{drop_of_length-le}
use Rattle.std.proofs.lemmas.Bool.{true≢false, not-true, not-false, or_parts, or_cases}
use Rattle.std.proofs.lemmas.List.{take_all, length-set}
use Rattle.ob_table.specs.declared.seen.Kind.{Kind}
use Rattle.ob_code.specs.declared.image.Image.{Image}
use Rattle.ob_code.specs.declared.instruction.Instruction.{Instruction}
use Rattle.ob_verify_spec.specs.Kinds.{both_hold}
use Rattle.ob_verify_spec.specs.Frames.{CodeFrame}
use Rattle.ob_verify_spec.specs.Instructions.{targets, leads, effect}
use Rattle.ob_verify_spec.specs.Conditions.{same_result, may_go_on}
use Rattle.ob_verify_spec.specs.Passing.{held_at, KindRow, KindRows, row_after, put_rows, passed_with, passed, all_passed, meet, joined, merged_row, merged, rows_after_passes, most_changes, first_rows, some_behind, some_lead_behind}
use Rattle.ob_verify_spec.proofs.Cells.{same_kind_of, same_kind_self, none_some}
use Rattle.ob_verify_spec.proofs.Passes.{weight, pass_lowers, ComesToKnown, next_comes, last_comes}
use Rattle.ob_verify.specs.Changing.{slot_changes, row_changes, place_changes, some_change}
use Rattle.ob_verify.proofs.PassLoops.{set_twice}

-- Passes.

stops_with : (f : CodeFrame) (i : ℕ) (x : Instruction) (o : Option KindRow) (rows : KindRows) → may_go_on f i x ≡ false → rows ≡ passed_with f i x o rows
stops_with f i x None rows e = refl
stops_with f i x (Some row) rows e = sym (ap (λ b. cond b (put_rows f.image rows (leads i x) (row_after (effect f x) row)) rows) e)

-- no way goes on behind an instruction at which a condition holds
pub stopped : (f : CodeFrame) (i : ℕ) (x : Instruction) (rows new : KindRows) → may_go_on f i x ≡ false → new ≡ slice_set rows i None → new ≡ passed f i x rows
stopped f i x rows new e n = n ∙ stops_with f i x (held_at rows i) (slice_set rows i None) e

pub passed_turn : (f : CodeFrame) (all rows next : KindRows) (xs : List Instruction) (i : ℕ) (x : Instruction) → i < length xs → x ≡ get_or xs i x → all ≡ all_passed f i (drop i xs) rows
    → next ≡ passed f i x rows → all ≡ all_passed f (i + 1) (drop (i + 1) xs) next
passed_turn f all rows next xs i x h is e n =
    e ∙ ap (λ zs. all_passed f i zs rows) (drop-cons xs i x h)
    ∙ ap (λ k. all_passed f (i + 1) (drop k xs) (passed f i (get_or xs i x) rows)) (sym (add-one i))
    ∙ ap (λ y. all_passed f (i + 1) (drop (i + 1) xs) (passed f i y rows)) (sym is)
    ∙ ap (all_passed f (i + 1) (drop (i + 1) xs)) (sym n)

pub passed_last : (f : CodeFrame) (all rows : KindRows) (xs : List Instruction) (i : ℕ) → length xs ≤ i → all ≡ all_passed f i (drop i xs) rows → rows ≡ all
passed_last f all rows xs i h e = sym (e ∙ ap (λ zs. all_passed f i zs rows) (drop_of_length-le xs h))

pub ruleset passing = (passed_turn, passed_last)

-- Whether some instruction leads behind.

pub behind_turn : (xs : List Instruction) (i : ℕ) (d : Instruction) → i < length xs → some_lead_behind i (drop i xs) ≡ (some_behind i (targets (get_or xs i d)) || some_lead_behind (i + 1) (drop (i + 1) xs))
behind_turn xs i d h = ap (some_lead_behind i) (drop-cons xs i d h) ∙ ap (λ k. some_behind i (targets (get_or xs i d)) || some_lead_behind (i + 1) (drop k xs)) (sym (add-one i))

pub behind_end : (xs : List Instruction) (i : ℕ) → length xs ≤ i → some_lead_behind i (drop i xs) ≡ false
behind_end xs i h = ap (some_lead_behind i) (drop_of_length-le xs h)

pub ruleset behind = (behind_turn, behind_end)

-- Whether rows change.

cell_nil : (k : ℕ) → held_at {A = Kind} [] k ≡ None
cell_nil zero = refl
cell_nil (suc k) = refl

slot_at : (m : Image) (known other : KindRow) (i : ℕ) → i < length known
    → row_changes m (drop i known) (drop i other) ≡ (slot_changes m (held_at known i) (held_at other i) || row_changes m (drop (suc i) known) (drop (suc i) other))
slot_at m [] other i h = absurd (omega (arith, h))
slot_at m (x ∷ known) [] zero h = refl
slot_at m (x ∷ known) (y ∷ other) zero h = refl
slot_at m (x ∷ known) [] (suc i) h =
    let k : i < length known = omega (arith, h) in
    ap (row_changes m (drop i known)) (sym (drop-nil i)) ∙ slot_at m known [] i k
    ∙ ap (λ o. slot_changes m (held_at known i) o || row_changes m (drop (suc i) known) []) (cell_nil i)
slot_at m (x ∷ known) (y ∷ other) (suc i) h = let k : i < length known = omega (arith, h) in slot_at m known other i k

pub slot_turn : (m : Image) (known other : KindRow) (i : ℕ) → i < length known
    → row_changes m (drop i known) (drop i other) ≡ (slot_changes m (held_at known i) (held_at other i) || row_changes m (drop (i + 1) known) (drop (i + 1) other))
slot_turn m known other i h = rw add-one (slot_at m known other i h)

pub slot_end : (m : Image) (known other : KindRow) (i : ℕ) → length known ≤ i → row_changes m (drop i known) (drop i other) ≡ false
slot_end m known other i h = ap (λ z. row_changes m z (drop i other)) (drop_of_length-le known h)

pub ruleset slots = (slot_turn, slot_end)

pub place_turn : (m : Image) (rows left : KindRows) (i : ℕ) (d e : Option KindRow) → i < length rows → i < length left
    → some_change m (drop i rows) (drop i left) ≡ (place_changes m (get_or rows i d) (get_or left i e) || some_change m (drop (i + 1) rows) (drop (i + 1) left))
place_turn m rows left i d e h k = rw add-one (ap₂ (some_change m) (drop-cons rows i d h) (drop-cons left i e k))

pub place_end : (m : Image) (rows left : KindRows) (i : ℕ) → length rows ≤ i → some_change m (drop i rows) (drop i left) ≡ false
place_end m rows left i h = ap (λ z. some_change m z (drop i left)) (drop_of_length-le rows h)

pub ruleset places = (place_turn, place_end)

-- What it means.

same_held : (o p : Option Kind) → same_result o p ≡ true → o ≡ p
same_held None None e = refl
same_held (Some x) (Some y) e = ap Some (same_kind_of x y e)
same_held None (Some y) e = absurd (true≢false (sym e))
same_held (Some x) None e = absurd (true≢false (sym e))

held_same : (o : Option Kind) → same_result o o ≡ true
held_same None = refl
held_same (Some x) = same_kind_self x

slot_same : (m : Image) (x y : Option Kind) → slot_changes m x y ≡ false → both_hold m x y ≡ x
slot_same m x y e = same_held (both_hold m x y) x (not-false (same_result (both_hold m x y) x) e)

slot_differs : (m : Image) (x y : Option Kind) → slot_changes m x y ≡ true → both_hold m x y ≢ x
slot_differs m x y e same = true≢false (sym (ap (λ z. same_result z x) same ∙ held_same x) ∙ not-true (same_result (both_hold m x y) x) e)

both_none : (m : Image) (x : Option Kind) → both_hold m x None ≡ None
both_none m None = refl
both_none m (Some x) = refl

first_same : {A : Type 0} {x y : Option A} {xs ys : List (Option A)} → x ∷ xs ≡ y ∷ ys → x ≡ y
first_same e = ap (λ zs. held_at zs 0) e

rest_same : {A : Type 0} {x y : A} {xs ys : List A} → x ∷ xs ≡ y ∷ ys → xs ≡ ys
rest_same e = ap (drop 1) e

row_same : (m : Image) (known other : KindRow) → row_changes m known other ≡ false → meet m known other ≡ known
row_same m [] other e = refl
row_same m (x ∷ known) [] e =
    let p = or_parts (slot_changes m x None) (row_changes m known []) e in
    ap₂ (λ z zs. z ∷ zs) (sym (both_none m x) ∙ slot_same m x None p.0) (row_same m known [] p.1)
row_same m (x ∷ known) (y ∷ other) e =
    let p = or_parts (slot_changes m x y) (row_changes m known other) e in
    ap₂ (λ z zs. z ∷ zs) (slot_same m x y p.0) (row_same m known other p.1)

row_differs : (m : Image) (known other : KindRow) → row_changes m known other ≡ true → meet m known other ≢ known
row_differs m [] other e same = true≢false (sym e)
row_differs m (x ∷ known) [] e same = elim (or_cases (slot_changes m x None) (row_changes m known []) e) [
  | inl h ↦ slot_differs m x None h (both_none m x ∙ first_same same)
  | inr h ↦ row_differs m known [] h (rest_same same)
]
row_differs m (x ∷ known) (y ∷ other) e same = elim (or_cases (slot_changes m x y) (row_changes m known other) e) [
  | inl h ↦ slot_differs m x y h (first_same same)
  | inr h ↦ row_differs m known other h (rest_same same)
]

place_same : (m : Image) (known left : Option KindRow) → place_changes m known left ≡ false → merged_row m known left ≡ known
place_same m known None e = refl
place_same m None (Some left) e = absurd (true≢false e)
place_same m (Some known) (Some left) e = ap Some (row_same m known left e)

some_is : {A : Type 0} {x y : A} → ◌≡◌ {A = Option A} (Some x) (Some y) → x ≡ y
some_is e = cc

place_differs : (m : Image) (known left : Option KindRow) → place_changes m known left ≡ true → merged_row m known left ≢ known
place_differs m known None e same = true≢false (sym e)
place_differs m None (Some left) e same = none_some (sym same)
place_differs m (Some known) (Some left) e same = row_differs m known left e (some_is same)

pub none_changes : (m : Image) (rows left : KindRows) → some_change m rows left ≡ false → merged m rows left ≡ rows
none_changes m [] left e = refl
none_changes m (known ∷ rows) [] e = refl
none_changes m (known ∷ rows) (row ∷ left) e =
    let p = or_parts (place_changes m known row) (some_change m rows left) e in
    ap₂ (λ z zs. z ∷ zs) (place_same m known row p.0) (none_changes m rows left p.1)

pub some_changes : (m : Image) (rows left : KindRows) → some_change m rows left ≡ true → merged m rows left ≢ rows
some_changes m [] left e same = true≢false (sym e)
some_changes m (known ∷ rows) [] e same = true≢false (sym e)
some_changes m (known ∷ rows) (row ∷ left) e same = elim (or_cases (place_changes m known row) (some_change m rows left) e) [
  | inl h ↦ place_differs m known row h (first_same same)
  | inr h ↦ some_changes m rows left h (rest_same same)
]

-- Merging.

-- the places so far are merged, and those that are left are to be
abbrev so_far : Image → KindRows → KindRows → ℕ → KindRows
so_far m rows left i = take i rows ++ merged m (drop i rows) (drop i left)

merged_at : (m : Image) (rows left : KindRows) (i : ℕ) → i < length rows → i < length left
    → so_far m rows left i ≡ so_far m (slice_set rows i (merged_row m (held_at rows i) (held_at left i))) (slice_set left i None) (suc i)
merged_at m [] left i h k = absurd (omega (arith, h))
merged_at m (x ∷ rows) [] i h k = absurd (omega (arith, k))
merged_at m (x ∷ rows) (y ∷ left) zero h k = refl
merged_at m (x ∷ rows) (y ∷ left) (suc i) h k = ap (λ z. x ∷ z) (merged_at m rows left i (omega (arith, h)) (omega (arith, k)))

pub merged_turn : (m : Image) (all rows left next other : KindRows) (i : ℕ) (v : Option KindRow) → i < length rows → i < length left → all ≡ take i rows ++ merged m (drop i rows) (drop i left)
    → v ≡ merged_row m (held_at rows i) (held_at left i) → next ≡ slice_set (slice_set rows i None) i v → other ≡ slice_set left i None
    → all ≡ take (i + 1) next ++ merged m (drop (i + 1) next) (drop (i + 1) other)
merged_turn m all rows left next other i v h k e w n o =
    let same : slice_set rows i (merged_row m (held_at rows i) (held_at left i)) ≡ next = ap (slice_set rows i) (sym w) ∙ sym (set_twice rows i None v) ∙ sym n in
    rw add-one (e ∙ merged_at m rows left i h k ∙ ap₂ (λ z y. so_far m z y (suc i)) same (sym o))

pub merged_all : (m : Image) (rows left : KindRows) (i : ℕ) → length rows ≤ i → take i rows ++ merged m (drop i rows) (drop i left) ≡ rows
merged_all m rows left i h = ap (λ z. take i rows ++ merged m z (drop i left)) (drop_of_length-le rows h) ∙ append-nil (take i rows) ∙ take_all i rows h

pub merged_length : (rows next : KindRows) (i n : ℕ) (v : Option KindRow) → length rows ≡ n → next ≡ slice_set (slice_set rows i None) i v → length next ≡ n
merged_length rows next i n v e f = ap length (f ∙ set_twice rows i None v) ∙ length-set rows i v ∙ e

pub left_length : (left other : KindRows) (i n : ℕ) → length left ≡ n → other ≡ slice_set left i None → length other ≡ n
left_length left other i n e f = ap length f ∙ length-set left i None ∙ e

pub ruleset merging = (merged_turn, merged_all, merged_length, left_length)

-- Passes until nothing changes.

pub settled : (f : CodeFrame) (rows left : KindRows) → ComesToKnown f rows → left ≡ all_passed f 0 f.body.instructions rows → some_change f.image rows left ≡ false
    → rows ≡ rows_after_passes (most_changes f) f (first_rows f)
settled f rows left c l e = last_comes f rows c (ap (merged f.image rows) (sym l) ∙ none_changes f.image rows left e)

pub settles_next : (f : CodeFrame) (rows left new : KindRows) → ComesToKnown f rows → left ≡ all_passed f 0 f.body.instructions rows → new ≡ merged f.image rows left → ComesToKnown f new
settles_next f rows left new c l n = subst (ComesToKnown f) (sym (n ∙ ap (merged f.image rows) l)) (next_comes f rows c)

pub lighter_next : (f : CodeFrame) (rows left new : KindRows) → ComesToKnown f rows → left ≡ all_passed f 0 f.body.instructions rows → some_change f.image rows left ≡ true
    → new ≡ merged f.image rows left → weight f new < weight f rows
lighter_next f rows left new c l e n =
    subst (λ z. weight f z < weight f rows) (sym (n ∙ ap (merged f.image rows) l))
    (pass_lowers f rows c.rows (λ same. some_changes f.image rows left e (ap (merged f.image rows) l ∙ same)))
