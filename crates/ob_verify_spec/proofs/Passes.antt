-- Passes until nothing changes: each that changes a row makes the rows lighter, so the known rows hold what ways from behind do.
use Rattle.std.proofs.Common.{nat_le, ◌≡◌, ◌≢◌, ℕ, zero, suc, ◌+◌, ◌*◌, ◌≤◌, ◌<◌, List, [], ◌∷◌, length, Option, Some, None, Bool, true, false, cond, Contains, slice_get, refl, sym, ap, ◌∙◌, subst, arith, ◌⊎◌, inl, inr}
use Rattle.std.specs.Option.{option_map_or}
use Rattle.std.proofs.lemmas.Bool.{or_parts, leb-false}
use Rattle.std.proofs.lemmas.Bool.Decides.{eqb_tells}
use Rattle.ob_table.specs.declared.seen.Kind.{Kind}
use Rattle.ob_table.specs.declared.seen.Kind.TheVariants as kind
use Rattle.ob_code.specs.declared.image.Image.{Image}
use Rattle.ob_code.specs.declared.instruction.Instruction.{Instruction}
use Rattle.ob_verify_spec.specs.Kinds.{same_kind, interface_of, common, both_hold}
use Rattle.ob_verify_spec.specs.Frames.{CodeFrame, kinds_of_params}
use Rattle.ob_verify_spec.specs.Instructions.{KindsOfSlots, targets, leads}
use Rattle.ob_verify_spec.specs.Ways.{IsAt, at_entry, start}
use Rattle.ob_verify_spec.specs.Passing.{held_at, KindRow, KindRows, row_of, first_rows, meet, joined, merged_row, merged, rows_after_pass, rows_after_passes, most_changes, some_behind, some_lead_behind, known_rows}
use Rattle.ob_verify_spec.proofs.Cells.{none_some, some_same, same_kind_of, same_kind_self, row_of-length, cell-row_of, no_rows-length, cell-no_rows, cell_within}
use Rattle.ob_verify_spec.proofs.Listed.{cases, not_empty}
use Rattle.ob_verify_spec.proofs.Meeting.{interface_own, Common, the_same, of_both, apart, in_common, belongs_self, two_one}
use Rattle.ob_verify_spec.proofs.Naming.{next_or_target}
use Rattle.ob_verify_spec.proofs.Rows.{Below, below_all, Has, OnSomeWay, GoodRow, AllGood, joined_new, joined_known, good_joined}
use Rattle.ob_verify_spec.proofs.Pass.{rows_at, all_at, AreGood, rows_good, AreKnown}

-- Before any pass.

abbrev entry_row : CodeFrame → KindRow
entry_row f = row_of f.body.slots (kind.Reference f.here ∷ kinds_of_params f.body)

good_entry : (f : CodeFrame) → GoodRow f 0 (entry_row f)
good_entry f = record {
  reached = (at_entry f, start);
  long = row_of-length f.body.slots (kind.Reference f.here ∷ kinds_of_params f.body);
  two = λ k lt.
      two_one f.image (OnSomeWay f 0 k) (held_at (entry_row f) k) (at_entry f, start, sym (cell-row_of f.body.slots (kind.Reference f.here ∷ kinds_of_params f.body) k lt));
}

entry_below : (f : CodeFrame) → Below f.image (held_at (entry_row f)) (at_entry f)
entry_below f = record {
  keeps = λ k x e.
      let lt = cell_within (entry_row f) k x e in (
        x,
        sym (cell-row_of f.body.slots (kind.Reference f.here ∷ kinds_of_params f.body) k (subst (λ z. k < z) (row_of-length f.body.slots (kind.Reference f.here ∷ kinds_of_params f.body)) lt)) ∙ e,
        belongs_self f.image x,
      );
}

good_first_at : (f : CodeFrame) → AllGood f (first_rows f)
good_first_at f zero r e = subst (GoodRow f 0) (some_same e) (good_entry f)
good_first_at f (suc j) r e = absurd (none_some (sym (cell-no_rows (length f.body.instructions) j) ∙ e))

good_first : (f : CodeFrame) → AreGood f (first_rows f)
good_first f = record { long = ap suc (no_rows-length (length f.body.instructions)) ∙ omega arith; good = good_first_at f }

entry_first : (f : CodeFrame) → Has f.image (first_rows f) 0 (at_entry f)
entry_first f = record { row = entry_row f; there = refl; below = entry_below f }

-- What a pass leaves is merged.

merged-length : (m : Image) (rows left : KindRows) → length (merged m rows left) ≡ length rows
merged-length m [] left = refl
merged-length m (known ∷ rows) [] = refl
merged-length m (known ∷ rows) (row ∷ left) = ap suc (merged-length m rows left)

cell-merged : (m : Image) (rows left : KindRows) (j : ℕ) → length rows ≡ length left → held_at (merged m rows left) j ≡ merged_row m (held_at rows j) (held_at left j)
cell-merged m [] [] j e = refl
cell-merged m [] (row ∷ left) j e = absurd (omega (arith, e))
cell-merged m (known ∷ rows) [] j e = absurd (omega (arith, e))
cell-merged m (known ∷ rows) (row ∷ left) zero e = refl
cell-merged m (known ∷ rows) (row ∷ left) (suc j) e = let f : length rows ≡ length left = omega (arith, e) in cell-merged m rows left j f

after_is : (f : CodeFrame) (t : KindRows) → rows_after_pass f t ≡ merged f.image t (rows_at f t (length f.body.instructions))
after_is f t = ap (merged f.image t) (all_at f t)

same_long : (f : CodeFrame) (t : KindRows) → AreGood f t → length t ≡ length (rows_at f t (length f.body.instructions))
same_long f t a = a.long ∙ sym (rows_good f t (length f.body.instructions) a).long

cell_after : (f : CodeFrame) (t : KindRows) (j : ℕ) → AreGood f t → held_at (rows_after_pass f t) j ≡ merged_row f.image (held_at t j) (held_at (rows_at f t (length f.body.instructions)) j)
cell_after f t j a = ap (λ z. held_at z j) (after_is f t) ∙ cell-merged f.image t (rows_at f t (length f.body.instructions)) j (same_long f t a)

row_good : (f : CodeFrame) (j : ℕ) (known left : Option KindRow) (r : KindRow) → ((k : KindRow) → known ≡ Some k → GoodRow f j k) → ((k : KindRow) → left ≡ Some k → GoodRow f j k)
    → merged_row f.image known left ≡ Some r → GoodRow f j r
row_good f j known None r a b e = a r e
row_good f j known (Some row) r a b e = subst (GoodRow f j) (some_same e) (good_joined f j known row a (b row refl))

pub after_good : (f : CodeFrame) (t : KindRows) → AreGood f t → AreGood f (rows_after_pass f t)
after_good f t a = record {
  long = ap length (after_is f t) ∙ merged-length f.image t (rows_at f t (length f.body.instructions)) ∙ a.long;
  good = λ j r e.
      row_good f j (held_at t j) (held_at (rows_at f t (length f.body.instructions)) j) r (a.good j) ((rows_good f t (length f.body.instructions) a).good j)
      (sym (cell_after f t j a) ∙ e);
}

known_stays : (m : Image) (known left : Option KindRow) (r : KindRow) → known ≡ Some r → (p : KindRow) × (merged_row m known left ≡ Some p) × Below m (held_at p) (held_at r)
known_stays m known None r e = (r, e, record { keeps = λ k x h. (x, h, belongs_self m x) })
known_stays m known (Some row) r e = (joined m known row, refl, joined_known m known r row e)

entry_after : (f : CodeFrame) (t : KindRows) → AreGood f t → Has f.image t 0 (at_entry f) → Has f.image (rows_after_pass f t) 0 (at_entry f)
entry_after f t a h =
    let p = known_stays f.image (held_at t 0) (held_at (rows_at f t (length f.body.instructions)) 0) h.row h.there in
    record { row = p.0; there = cell_after f t 0 a ∙ p.1; below = below_all p.2 h.below }

left_merged : (m : Image) (known left : Option KindRow) (r : KindRow) → left ≡ Some r → (p : KindRow) × (merged_row m known left ≡ Some p) × Below m (held_at p) (held_at r)
left_merged m known None r e = absurd (none_some e)
left_merged m known (Some row) r e = (joined m known row, refl, subst (λ z. Below m (held_at (joined m known row)) (held_at z)) (some_same e) (joined_new m known row))

-- rows that a pass doesn't change hold what it leaves
left_known : (f : CodeFrame) (t : KindRows) → AreGood f t → rows_after_pass f t ≡ t → (j : ℕ) (s : KindsOfSlots) → Has f.image (rows_at f t (length f.body.instructions)) j s → Has f.image t j s
left_known f t a same j s h =
    let p = left_merged f.image (held_at t j) (held_at (rows_at f t (length f.body.instructions)) j) h.row h.there in
    record { row = p.0; there = ap (λ z. held_at z j) (sym same) ∙ cell_after f t j a ∙ p.1; below = below_all p.2 h.below }

-- Weights: how much rows may still change.

-- whether a kind is its own interface
abbrev own_interface : Image → Kind → Bool
own_interface m x = option_map_or (same_kind x) (interface_of m x) false

abbrev weigh_slot : Image → Option Kind → ℕ
weigh_slot m None = 0
weigh_slot m (Some x) = cond (own_interface m x) 1 2

abbrev weigh_row : Image → KindRow → ℕ
weigh_row m [] = 0
weigh_row m (o ∷ row) = weigh_slot m o + weigh_row m row

abbrev weigh_place : Image → ℕ → Option KindRow → ℕ
weigh_place m n None = n + n + 1
weigh_place m n (Some row) = weigh_row m row

abbrev weigh_rows : Image → ℕ → KindRows → ℕ
weigh_rows m n [] = 0
weigh_rows m n (o ∷ rows) = weigh_place m n o + weigh_rows m n rows

-- how much the rows of a body may still change
abbrev pub weight : CodeFrame → KindRows → ℕ
weight f t = weigh_rows f.image f.body.slots t

-- no heavier, and as heavy only where it is the same
record Lighter {A : Type 0} (weigh : A → ℕ) (new old : A) : Type 0 where
  less : weigh new ≤ weigh old
  same : weigh new ≡ weigh old → new ≡ old

lighter_self : {A : Type 0} (weigh : A → ℕ) (x : A) → Lighter weigh x x
lighter_self weigh x = record { less = omega arith; same = λ e. refl }

chosen_some : (b : Bool) → (0 < cond b 1 2) × (cond b 1 2 ≤ 2)
chosen_some true = (omega arith, omega arith)
chosen_some false = (omega arith, omega arith)

some_weighs : (m : Image) (x : Kind) → (0 < weigh_slot m (Some x)) × (weigh_slot m (Some x) ≤ 2)
some_weighs m x = chosen_some (own_interface m x)

none_lighter : (m : Image) (o : Option Kind) → Lighter (weigh_slot m) None o
none_lighter m None = lighter_self (weigh_slot m) None
none_lighter m (Some x) = let h : 0 < weigh_slot m (Some x) = (some_weighs m x).0 in record { less = omega arith; same = λ e. absurd (omega (arith, e, h)) }

own_is : (m : Image) (z : Kind) → interface_of m z ≡ Some z → own_interface m z ≡ true
own_is m z e = ap (λ o. option_map_or (same_kind z) o false) e ∙ same_kind_self z

interface_is : (m : Image) (x z : Kind) → interface_of m x ≡ Some z → own_interface m x ≡ true → x ≡ z
interface_is m x z e own = same_kind_of x z (sym (ap (λ o. option_map_or (same_kind x) o false) e) ∙ own)

interface_lighter_by : (m : Image) (x z : Kind) (b : Bool) → interface_of m x ≡ Some z → own_interface m x ≡ b → Lighter (weigh_slot m) (Some z) (Some x)
interface_lighter_by m x z true e own = subst (λ w. Lighter (weigh_slot m) (Some w) (Some x)) (interface_is m x z e own) (lighter_self (weigh_slot m) (Some x))
interface_lighter_by m x z false e own =
    let light : weigh_slot m (Some z) ≡ 1 = ap (λ b. cond b 1 2) (own_is m z (interface_own m x z e)) in
    let heavy : weigh_slot m (Some x) ≡ 2 = ap (λ b. cond b 1 2) own in
    record { less = omega (arith, light, heavy); same = λ h. absurd (omega (arith, light, heavy, h)) }

common_lighter : (m : Image) (x y : Kind) (o : Option Kind) → Common m x y o → Lighter (weigh_slot m) o (Some x)
common_lighter m x y o (the_same e) = lighter_self (weigh_slot m) (Some x)
common_lighter m x y o (of_both z ne u v) = interface_lighter_by m x z (own_interface m x) u refl
common_lighter m x y o (apart ne no_one) = none_lighter m (Some x)

both_lighter : (m : Image) (o p : Option Kind) → Lighter (weigh_slot m) (both_hold m o p) o
both_lighter m None p = lighter_self (weigh_slot m) None
both_lighter m (Some x) None = none_lighter m (Some x)
both_lighter m (Some x) (Some y) = common_lighter m x y (common m x y) (in_common m x y)

slots_lighter : (m : Image) (o p : Option Kind) (ps qs : KindRow) → Lighter (weigh_slot m) o p → Lighter (weigh_row m) ps qs → Lighter (weigh_row m) (o ∷ ps) (p ∷ qs)
slots_lighter m o p ps qs a b =
    let l : weigh_slot m o ≤ weigh_slot m p = a.less in
    let k : weigh_row m ps ≤ weigh_row m qs = b.less in
    record {
      less = omega (arith, l, k);
      same = λ e.
          let f : weigh_slot m o ≡ weigh_slot m p = omega (arith, l, k, e) in
          let g : weigh_row m ps ≡ weigh_row m qs = omega (arith, l, k, e) in
          ap (λ z. z ∷ ps) (a.same f) ∙ ap (λ z. p ∷ z) (b.same g);
    }

meet_lighter : (m : Image) (ps qs : KindRow) → Lighter (weigh_row m) (meet m ps qs) ps
meet_lighter m [] qs = lighter_self (weigh_row m) []
meet_lighter m (p ∷ ps) [] = slots_lighter m None p (meet m ps []) ps (none_lighter m p) (meet_lighter m ps [])
meet_lighter m (p ∷ ps) (q ∷ qs) = slots_lighter m (both_hold m p q) p (meet m ps qs) ps (both_lighter m p q) (meet_lighter m ps qs)

slot_bound : (m : Image) (o : Option Kind) → weigh_slot m o ≤ 2
slot_bound m None = omega arith
slot_bound m (Some x) = (some_weighs m x).1

row_bound : (m : Image) (row : KindRow) → weigh_row m row ≤ length row + length row
row_bound m [] = omega arith
row_bound m (o ∷ row) =
    let h : weigh_row m row ≤ length row + length row = row_bound m row in
    let g : weigh_slot m o ≤ 2 = slot_bound m o in
    omega (arith, h, g)

new_lighter : (m : Image) (n : ℕ) (known : Option KindRow) (row : KindRow) → length row ≡ n → Lighter (weigh_place m n) (Some (joined m known row)) known
new_lighter m n None row e =
    let h : weigh_row m row ≤ length row + length row = row_bound m row in
    record { less = omega (arith, h, e); same = λ g. absurd (omega (arith, h, e, g)) }
new_lighter m n (Some known) row e = let h = meet_lighter m known row in record { less = h.less; same = λ g. ap Some (h.same g) }

place_lighter : (m : Image) (n : ℕ) (known left : Option KindRow) → ((r : KindRow) → left ≡ Some r → length r ≡ n) → Lighter (weigh_place m n) (merged_row m known left) known
place_lighter m n known None long = lighter_self (weigh_place m n) known
place_lighter m n known (Some row) long = new_lighter m n known row (long row refl)

rows_lighter : (m : Image) (n : ℕ) (rows left : KindRows) → ((j : ℕ) (r : KindRow) → held_at left j ≡ Some r → length r ≡ n) → Lighter (weigh_rows m n) (merged m rows left) rows
rows_lighter m n [] left long = lighter_self (weigh_rows m n) []
rows_lighter m n (known ∷ rows) [] long = lighter_self (weigh_rows m n) (known ∷ rows)
rows_lighter m n (known ∷ rows) (row ∷ left) long =
    let a = place_lighter m n known row (long 0) in
    let b = rows_lighter m n rows left (λ j. long (suc j)) in
    let l : weigh_place m n (merged_row m known row) ≤ weigh_place m n known = a.less in
    let k : weigh_rows m n (merged m rows left) ≤ weigh_rows m n rows = b.less in
    record {
      less = omega (arith, l, k);
      same = λ e.
          let f : weigh_place m n (merged_row m known row) ≡ weigh_place m n known = omega (arith, l, k, e) in
          let g : weigh_rows m n (merged m rows left) ≡ weigh_rows m n rows = omega (arith, l, k, e) in
          ap (λ z. z ∷ merged m rows left) (a.same f) ∙ ap (λ z. known ∷ z) (b.same g);
    }

pass_lighter : (f : CodeFrame) (t : KindRows) → AreGood f t → Lighter (weight f) (rows_after_pass f t) t
pass_lighter f t a = subst (λ z. Lighter (weight f) z t) (sym (after_is f t))
    (rows_lighter f.image f.body.slots t (rows_at f t (length f.body.instructions)) (λ j r e. ((rows_good f t (length f.body.instructions) a).good j r e).long))

pub pass_less : (f : CodeFrame) (t : KindRows) → AreGood f t → weight f (rows_after_pass f t) ≤ weight f t
pass_less f t a = (pass_lighter f t a).less

-- a pass that changes rows makes them lighter
pub pass_lowers : (f : CodeFrame) (t : KindRows) → AreGood f t → rows_after_pass f t ≢ t → weight f (rows_after_pass f t) < weight f t
pass_lowers f t a ne =
    let h = pass_lighter f t a in
    let l : weight f (rows_after_pass f t) ≤ weight f t = h.less in
    elim (eqb_tells (weight f (rows_after_pass f t)) (weight f t)) [
      | inl u ↦ absurd (ne (h.same u.1))
      | inr u ↦ let n : weight f (rows_after_pass f t) ≢ weight f t = u.1 in omega (arith, l, n)
    ]

place_bound : (m : Image) (n : ℕ) (o : Option KindRow) → ((r : KindRow) → o ≡ Some r → length r ≡ n) → weigh_place m n o ≤ n + n + 1
place_bound m n None long = omega arith
place_bound m n (Some row) long = let h : weigh_row m row ≤ length row + length row = row_bound m row in let e : length row ≡ n = long row refl in omega (arith, h, e)

rows_bound : (m : Image) (n : ℕ) (rows : KindRows) → ((j : ℕ) (r : KindRow) → held_at rows j ≡ Some r → length r ≡ n) → weigh_rows m n rows ≤ length rows * (n + n + 1)
rows_bound m n [] long = omega arith
rows_bound m n (o ∷ rows) long =
    let h : weigh_rows m n rows ≤ length rows * (n + n + 1) = rows_bound m n rows (λ j. long (suc j)) in
    let g : weigh_place m n o ≤ n + n + 1 = place_bound m n o (long 0) in
    grind (arith, h, g)

first_weighs : (f : CodeFrame) → weight f (first_rows f) ≤ most_changes f
first_weighs f =
    let a = good_first f in
    subst (λ z. weight f (first_rows f) ≤ z * (f.body.slots + f.body.slots + 1)) a.long
    (rows_bound f.image f.body.slots (first_rows f) (λ j r e. (a.good j r e).long))

-- Passes one after another.

-- rows that a pass doesn't change are changed by none
pub unchanged : (f : CodeFrame) (k : ℕ) (t : KindRows) → rows_after_pass f t ≡ t → rows_after_passes k f t ≡ t
unchanged f zero t e = refl
unchanged f (suc k) t e = ap (rows_after_passes k f) e ∙ unchanged f k t e

pub passes_good : (f : CodeFrame) (k : ℕ) (t : KindRows) → AreGood f t → AreGood f (rows_after_passes k f t)
passes_good f zero t a = a
passes_good f (suc k) t a = passes_good f k (rows_after_pass f t) (after_good f t a)

passes_entry : (f : CodeFrame) (k : ℕ) (t : KindRows) → AreGood f t → Has f.image t 0 (at_entry f) → Has f.image (rows_after_passes k f t) 0 (at_entry f)
passes_entry f zero t a h = h
passes_entry f (suc k) t a h = passes_entry f k (rows_after_pass f t) (after_good f t a) (entry_after f t a h)

changes_or_not : (f : CodeFrame) (t : KindRows) → AreGood f t → (rows_after_pass f t ≡ t) ⊎ (weight f (rows_after_pass f t) < weight f t)
changes_or_not f t a =
    let h = pass_lighter f t a in
    let l : weight f (rows_after_pass f t) ≤ weight f t = h.less in
    elim (eqb_tells (weight f (rows_after_pass f t)) (weight f t)) [
      | inl u ↦ inl (h.same u.1)
      | inr u ↦ let n : weight f (rows_after_pass f t) ≢ weight f t = u.1 in inr (omega (arith, l, n))
    ]

-- after as many passes as the rows weigh, none changes them
settles : (f : CodeFrame) (k : ℕ) (t : KindRows) → AreGood f t → weight f t ≤ k → rows_after_pass f (rows_after_passes k f t) ≡ rows_after_passes k f t
settles f zero t a le = elim (changes_or_not f t a) [ inl e ↦ e | inr lt ↦ absurd (omega (arith, le, lt)) ]
settles f (suc k) t a le = elim (changes_or_not f t a) [
  | inl e ↦ let same : rows_after_passes (suc k) f t ≡ t = unchanged f (suc k) t e in subst (λ z. rows_after_pass f z ≡ z) (sym same) e
  | inr lt ↦ settles f k (rows_after_pass f t) (after_good f t a) (omega (arith, le, lt))
]

-- as many passes as the rows weigh, and more, come to the same
from_weight : (f : CodeFrame) (k : ℕ) (t : KindRows) → AreGood f t → weight f t ≤ k → rows_after_passes k f t ≡ rows_after_passes (weight f t) f t
from_weight f k t a le = by_weight (weight f t) k t a (omega arith) le
  where
    by_weight : (w k : ℕ) (t : KindRows) → AreGood f t → weight f t ≤ w → weight f t ≤ k → rows_after_passes k f t ≡ rows_after_passes w f t
    by_weight zero zero t a lw lk = refl
    by_weight zero (suc k) t a lw lk = elim (changes_or_not f t a) [ inl e ↦ unchanged f (suc k) t e | inr lt ↦ absurd (omega (arith, lw, lt)) ]
    by_weight (suc w) zero t a lw lk = elim (changes_or_not f t a) [ inl e ↦ sym (unchanged f (suc w) t e) | inr lt ↦ absurd (omega (arith, lk, lt)) ]
    by_weight (suc w) (suc k) t a lw lk = elim (changes_or_not f t a) [
      | inl e ↦ unchanged f (suc k) t e ∙ sym (unchanged f (suc w) t e)
      | inr lt ↦ by_weight w k (rows_after_pass f t) (after_good f t a) (omega (arith, lw, lt)) (omega (arith, lk, lt))
    ]

-- Rows on the way to those that no pass changes.

-- further passes from these rows come to the known ones
pub record ComesToKnown (f : CodeFrame) (t : KindRows) : Type 0 where
  pub rows : AreGood f t
  pub comes : rows_after_passes (weight f t) f t ≡ rows_after_passes (most_changes f) f (first_rows f)

pub first_comes : (f : CodeFrame) → ComesToKnown f (first_rows f)
first_comes f = record { rows = good_first f; comes = sym (from_weight f (most_changes f) (first_rows f) (good_first f) (first_weighs f)) }

pub next_comes : (f : CodeFrame) (t : KindRows) → ComesToKnown f t → ComesToKnown f (rows_after_pass f t)
next_comes f t c = record {
  rows = after_good f t c.rows;
  comes = sym (from_weight f (weight f t) (rows_after_pass f t) (after_good f t c.rows) (pass_less f t c.rows))
      ∙ from_weight f (suc (weight f t)) t c.rows (omega arith) ∙ c.comes;
}

pub last_comes : (f : CodeFrame) (t : KindRows) → ComesToKnown f t → rows_after_pass f t ≡ t → t ≡ rows_after_passes (most_changes f) f (first_rows f)
last_comes f t c e = sym (unchanged f (weight f t) t e) ∙ c.comes

-- Where none leads behind.

behind_none : (i : ℕ) (places : List ℕ) (j : ℕ) → some_behind i places ≡ false → Contains places j → i < j
behind_none i [] j e c = absurd (not_empty j c)
behind_none i (t ∷ places) j e c =
    let parts = or_parts (nat_le t i) (some_behind i places) e in
    elim (cases t j places c) [
      | inl same ↦ subst (λ z. i < z) same (leb-false t i parts.0)
      | inr h ↦ behind_none i places j parts.1 h
    ]

none_behind_at : (i : ℕ) (xs : List Instruction) (k : ℕ) (x : Instruction) → some_lead_behind i xs ≡ false → slice_get xs k ≡ Some x → some_behind (i + k) (targets x) ≡ false
none_behind_at i [] k x e at = absurd (none_some at)
none_behind_at i (y ∷ xs) zero x e at =
    let same : i ≡ i + 0 = omega arith in
    subst (λ z. some_behind z (targets x) ≡ false) same (subst (λ z. some_behind i (targets z) ≡ false) (some_same at) (or_parts (some_behind i (targets y)) (some_lead_behind (i + 1) xs) e).0)
none_behind_at i (y ∷ xs) (suc k) x e at =
    let same : i + 1 + k ≡ i + suc k = omega arith in
    subst (λ z. some_behind z (targets x) ≡ false) same (none_behind_at (i + 1) xs k x (or_parts (some_behind i (targets y)) (some_lead_behind (i + 1) xs) e).1 at)

leads_on : (f : CodeFrame) → some_lead_behind 0 f.body.instructions ≡ false → (h j : ℕ) (x : Instruction) → IsAt f h x → Contains (leads h x) j → h < j
leads_on f e h j x at c = elim (next_or_target h x j c) [
  | inl same ↦ let next : h + 1 ≡ j = same in omega (arith, next)
  | inr t ↦
      let place : 0 + h ≡ h = omega arith in
      behind_none h (targets x) j (subst (λ z. some_behind z (targets x) ≡ false) place (none_behind_at 0 f.body.instructions h x e at)) t
]

-- The known rows.

first_known : (f : CodeFrame) → some_lead_behind 0 f.body.instructions ≡ false → AreKnown f (first_rows f)
first_known f none = record {
  rows = good_first f;
  entry = entry_first f;
  behind = λ h j x s at c le has. let lt : h < j = leads_on f none h j x at c in absurd (omega (arith, le, lt));
}

settled_known : (f : CodeFrame) → AreKnown f (rows_after_passes (most_changes f) f (first_rows f))
settled_known f =
    let good = passes_good f (most_changes f) (first_rows f) (good_first f) in
    record {
      rows = good;
      entry = passes_entry f (most_changes f) (first_rows f) (good_first f) (entry_first f);
      behind = λ h j x s at c le has. left_known f (rows_after_passes (most_changes f) f (first_rows f)) good
          (settles f (most_changes f) (first_rows f) (good_first f) (first_weighs f)) j s has;
    }

known_by_test : (f : CodeFrame) (b : Bool) → some_lead_behind 0 f.body.instructions ≡ b → AreKnown f (cond b (rows_after_passes (most_changes f) f (first_rows f)) (first_rows f))
known_by_test f true e = settled_known f
known_by_test f false e = first_known f e

pub rows_known : (f : CodeFrame) → AreKnown f (known_rows f)
rows_known f = known_by_test f (some_lead_behind 0 f.body.instructions) refl
