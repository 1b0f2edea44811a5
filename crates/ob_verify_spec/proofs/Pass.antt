-- When the pass comes to a place, the row there holds what all ways to it hold, where the rows before the pass hold what those from
-- behind do.
use Rattle.std.proofs.Common.{◌≡◌, ◌≢◌, ℕ, zero, suc, ◌+◌, ◌≤◌, ◌<◌, List, [], ◌∷◌, length, Option, Some, None, Bool, true, false, cond, Contains, slice_get, slice_set, refl, sym, ap, ◌∙◌, subst, arith, add-zero, inl, inr}
use Rattle.std.proofs.lemmas.Bool.{cases_lt}
use Rattle.std.proofs.lemmas.Bool.Decides.{eqb_tells}
use Rattle.std.proofs.lemmas.Option.{slice_get_within}
use Rattle.ob_code.specs.declared.instruction.Instruction.{Instruction}
use Rattle.ob_code.specs.declared.image.Image.{Image}
use Rattle.ob_verify_spec.specs.Frames.{CodeFrame}
use Rattle.ob_verify_spec.specs.Instructions.{KindsOfSlots, done, effect, leads}
use Rattle.ob_verify_spec.specs.Conditions.{may_go_on}
use Rattle.ob_verify_spec.specs.Ways.{IsAt, at_entry, Way, start, step, IsReached}
use Rattle.ob_verify_spec.specs.Passing.{held_at, KindRow, KindRows, row_after, put_rows, passed_with, passed, all_passed}
use Rattle.ob_verify_spec.proofs.Cells.{cell-set_same, cell-set_other, set-length, cell_within, some_same, none_some}
use Rattle.ob_verify_spec.proofs.Naming.{goes_jump, leads_within}
use Rattle.ob_verify_spec.proofs.Rows.{Below, below_all, Has, GoodRow, AllGood, put_rows-length, has_puts, has_put, good_puts, below_after, good_after}

pub same_at : (f : CodeFrame) (i : ℕ) (x y : Instruction) → IsAt f i x → IsAt f i y → x ≡ y
same_at f i x y a b = some_same (sym a ∙ b)

-- these instructions stand from a place on, up to the end
pub record Rest (f : CodeFrame) (i : ℕ) (xs : List Instruction) : Type 0 where
  pub same : (k : ℕ) → slice_get f.body.instructions (k + i) ≡ slice_get xs k
  pub long : i + length xs ≡ length f.body.instructions

pub whole : (f : CodeFrame) → Rest f 0 f.body.instructions
whole f = record { same = λ k. ap (slice_get f.body.instructions) (add-zero k); long = omega arith }

pub rest_next : (f : CodeFrame) (i : ℕ) (x : Instruction) (xs : List Instruction) → Rest f i (x ∷ xs) → Rest f (i + 1) xs
rest_next f i x xs h = record {
  same = λ k. let e : k + (i + 1) ≡ suc k + i = omega arith in ap (slice_get f.body.instructions) e ∙ h.same (suc k);
  long = let e : i + length (x ∷ xs) ≡ length f.body.instructions = h.long in omega arith;
}

pub rest_at : (f : CodeFrame) (i : ℕ) (x : Instruction) (xs : List Instruction) → Rest f i (x ∷ xs) → IsAt f i x
rest_at f i x xs h = let e : i ≡ 0 + i = omega arith in ap (slice_get f.body.instructions) e ∙ h.same 0

-- The rows when a pass comes to a place.

abbrev at_next : CodeFrame → ℕ → Option Instruction → KindRows → KindRows
at_next f i None t = t
at_next f i (Some x) t = passed f i x t

abbrev pub rows_at : CodeFrame → KindRows → ℕ → KindRows
rows_at f t zero = t
rows_at f t (suc i) = at_next f i (slice_get f.body.instructions i) (rows_at f t i)

pub next_at : (f : CodeFrame) (t : KindRows) (i : ℕ) (x : Instruction) → IsAt f i x → rows_at f t (i + 1) ≡ passed f i x (rows_at f t i)
next_at f t i x at = let e : i + 1 ≡ suc i = omega arith in ap (rows_at f t) e ∙ ap (λ o. at_next f i o (rows_at f t i)) at

all_from : (f : CodeFrame) (t : KindRows) (i : ℕ) (xs : List Instruction) → Rest f i xs → all_passed f i xs (rows_at f t i) ≡ rows_at f t (length f.body.instructions)
all_from f t i [] h = let e : i + 0 ≡ length f.body.instructions = h.long in let same : i ≡ length f.body.instructions = omega arith in ap (rows_at f t) same
all_from f t i (x ∷ xs) h = ap (all_passed f (i + 1) xs) (sym (next_at f t i x (rest_at f i x xs h))) ∙ all_from f t (i + 1) xs (rest_next f i x xs h)

-- the rows after a whole pass
pub all_at : (f : CodeFrame) (t : KindRows) → all_passed f 0 f.body.instructions t ≡ rows_at f t (length f.body.instructions)
all_at f t = all_from f t 0 f.body.instructions (whole f)

-- Each row is a good one.

-- as many rows as places, and one for the end; and each is a good one
pub record AreGood (f : CodeFrame) (t : KindRows) : Type 0 where
  pub long : length t ≡ length f.body.instructions + 1
  pub good : AllGood f t

dropped_good : (f : CodeFrame) (i : ℕ) (t : KindRows) → AreGood f t → AreGood f (slice_set t i None)
dropped_good f i t a = record {
  long = set-length t i None ∙ a.long;
  good = λ j r e. elim (eqb_tells j i) [
    | inl w ↦
        let lt : i < length t = subst (λ z. z < length t) w.1 (subst (λ z. j < z) (set-length t i None) (cell_within (slice_set t i None) j r e)) in
        absurd (none_some (sym (cell-set_same t i None lt) ∙ ap (held_at (slice_set t i None)) (sym w.1) ∙ e))
    | inr w ↦ a.good j r (sym (cell-set_other t i j None w.1) ∙ e)
  ];
}

tested_good : (f : CodeFrame) (i : ℕ) (t : KindRows) (x : Instruction) (r : KindRow) (goes : Bool) → AreGood f t → IsAt f i x → GoodRow f i r → may_go_on f i x ≡ goes
    → AreGood f (cond goes (put_rows f.image (slice_set t i None) (leads i x) (row_after (effect f x) r)) (slice_set t i None))
tested_good f i t x r false a at g so = dropped_good f i t a
tested_good f i t x r true a at g so = record {
  long = put_rows-length f.image (slice_set t i None) (leads i x) (row_after (effect f x) r) ∙ (dropped_good f i t a).long;
  good = good_puts f (slice_set t i None) (leads i x) (row_after (effect f x) r) (dropped_good f i t a).good (λ j c. good_after f i j x r at so c g);
}

with_good : (f : CodeFrame) (i : ℕ) (t : KindRows) (x : Instruction) (o : Option KindRow) → AreGood f t → IsAt f i x → held_at t i ≡ o → AreGood f (passed_with f i x o (slice_set t i None))
with_good f i t x None a at e = dropped_good f i t a
with_good f i t x (Some r) a at e = tested_good f i t x r (may_go_on f i x) a at (a.good i r e) refl

next_good : (f : CodeFrame) (i : ℕ) (t : KindRows) (o : Option Instruction) → slice_get f.body.instructions i ≡ o → AreGood f t → AreGood f (at_next f i o t)
next_good f i t None at a = a
next_good f i t (Some x) at a = with_good f i t x (held_at t i) a at refl

pub rows_good : (f : CodeFrame) (t : KindRows) (i : ℕ) → AreGood f t → AreGood f (rows_at f t i)
rows_good f t zero a = a
rows_good f t (suc i) a = next_good f i (rows_at f t i) (slice_get f.body.instructions i) refl (rows_good f t i a)

-- A row that is put stays until the pass comes to its place, or to the end where its place is behind.

dropped_has : (m : Image) (t : KindRows) (i j : ℕ) (s : KindsOfSlots) → j ≢ i → Has m t j s → Has m (slice_set t i None) j s
dropped_has m t i j s ne h = record { row = h.row; there = cell-set_other t i j None ne ∙ h.there; below = h.below }

tested_has : (m : Image) (t : KindRows) (js : List ℕ) (r : KindRow) (goes : Bool) (j : ℕ) (s : KindsOfSlots) → Has m t j s → Has m (cond goes (put_rows m t js r) t) j s
tested_has m t js r true j s h = has_puts m t js j r s h
tested_has m t js r false j s h = h

with_has : (f : CodeFrame) (i : ℕ) (t : KindRows) (x : Instruction) (o : Option KindRow) (j : ℕ) (s : KindsOfSlots) → Has f.image t j s → Has f.image (passed_with f i x o t) j s
with_has f i t x None j s h = h
with_has f i t x (Some r) j s h = tested_has f.image t (leads i x) (row_after (effect f x) r) (may_go_on f i x) j s h

next_has : (f : CodeFrame) (i : ℕ) (t : KindRows) (o : Option Instruction) (j : ℕ) (s : KindsOfSlots) → j ≢ i → Has f.image t j s → Has f.image (at_next f i o t) j s
next_has f i t None j s ne h = h
next_has f i t (Some x) j s ne h = with_has f i (slice_set t i None) x (held_at t i) j s (dropped_has f.image t i j s ne h)

stays : (f : CodeFrame) (t : KindRows) (a b j : ℕ) (s : KindsOfSlots) → a ≤ b → ((i : ℕ) → a ≤ i → i < b → j ≢ i) → Has f.image (rows_at f t a) j s → Has f.image (rows_at f t b) j s
stays f t a zero j s le ne h = let e : a ≡ 0 = omega (arith, le) in subst (λ z. Has f.image (rows_at f t z) j s) e h
stays f t a (suc b) j s le ne h = elim (cases_lt b a) [
  | inl lt ↦ let e : a ≡ suc b = omega (arith, le, lt) in subst (λ z. Has f.image (rows_at f t z) j s) e h
  | inr more ↦ next_has f b (rows_at f t b) (slice_get f.body.instructions b) j s (ne b more (omega arith)) (stays f t a b j s more (λ i from lt. ne i from (omega (arith, lt))) h)
]

-- the place to which an instruction leads has a row that says no more than is so after it
put_by : (f : CodeFrame) (i : ℕ) (t : KindRows) (x : Instruction) (r : KindRow) (j : ℕ) → held_at t i ≡ Some r → may_go_on f i x ≡ true → Contains (leads i x) j → j < length t
    → Has f.image (passed f i x t) j (held_at (row_after (effect f x) r))
put_by f i t x r j there so c lt =
    let put = has_put f.image (slice_set t i None) (leads i x) j (row_after (effect f x) r) (subst (λ z. j < z) (sym (set-length t i None)) lt) c in
    subst (λ o. Has f.image (passed_with f i x o (slice_set t i None)) j (held_at (row_after (effect f x) r))) (sym there)
    (subst (λ b. Has f.image (cond b (put_rows f.image (slice_set t i None) (leads i x) (row_after (effect f x) r)) (slice_set t i None)) j (held_at (row_after (effect f x) r))) (sym so) put)

-- What the rows before a pass have to say: what the entry holds, and for each place behind what is left for it after the pass.
pub record AreKnown (f : CodeFrame) (t : KindRows) : Type 0 where
  pub rows : AreGood f t
  pub entry : Has f.image t 0 (at_entry f)
  pub behind : (h j : ℕ) (x : Instruction) (s : KindsOfSlots) → IsAt f h x → Contains (leads h x) j → j ≤ h
      → Has f.image (rows_at f t (length f.body.instructions)) j s → Has f.image t j s

-- then the row of a place says no more than each way there holds
pub covers : {f : CodeFrame} {i : ℕ} {s : KindsOfSlots} (t : KindRows) → AreKnown f t → Way f i s → Has f.image (rows_at f t i) i s
covers t a start = a.entry
covers {f} t a (step {i = h} {s = before} x j w at so c) =
    let known = covers t a w in
    let within : h < length f.body.instructions = slice_get_within f.body.instructions h x at in
    let most : j < length f.body.instructions + 1 = leads_within f h x j within (goes_jump f h x so) c in
    let long : length (rows_at f t h) ≡ length f.body.instructions + 1 = (rows_good f t h a.rows).long in
    let put = put_by f h (rows_at f t h) x known.row j known.there so c (omega arith) in
    let less : Has f.image (passed f h x (rows_at f t h)) j (done (effect f x) before) =
    record { row = put.row; there = put.there; below = below_all put.below (below_after f.image (effect f x) known.row before known.below) } in
    let next : Has f.image (rows_at f t (h + 1)) j (done (effect f x) before) = subst (λ z. Has f.image z j (done (effect f x) before)) (sym (next_at f t h x at)) less in
    elim (cases_lt h j) [
      | inl lt ↦ stays f t (h + 1) j j (done (effect f x) before) (omega arith) (λ i le less same. omega arith) next
      | inr le ↦
          let last = stays f t (h + 1) (length f.body.instructions) j (done (effect f x) before) (omega arith) (λ i more less same. omega arith) next in
          stays f t 0 j j (done (effect f x) before) (omega arith) (λ i le less same. omega arith) (a.behind h j x (done (effect f x) before) at c le last)
    ]

-- At a place.

-- what a row there, or none, tells
pub record Agrees (f : CodeFrame) (i : ℕ) (r : KindRow) : Type 0 where
  pub good : GoodRow f i r
  pub all : (s : KindsOfSlots) → Way f i s → Below f.image (held_at r) s

abbrev pub AgreesAt : CodeFrame → ℕ → Option KindRow → Type 0
AgreesAt f i None = ¬ (IsReached f i)
AgreesAt f i (Some r) = Agrees f i r

agrees_of : (f : CodeFrame) (i : ℕ) (t : KindRows) (o : Option KindRow) → AreKnown f t → held_at (rows_at f t i) i ≡ o → AgreesAt f i o
agrees_of f i t None a e = λ way. let h : Has f.image (rows_at f t i) i way.0 = covers t a way.1 in none_some (sym e ∙ h.there)
agrees_of f i t (Some r) a e = record {
  good = (rows_good f t i a.rows).good i r e;
  all = λ s w. let h : Has f.image (rows_at f t i) i s = covers t a w in subst (λ z. Below f.image (held_at z) s) (some_same (sym h.there ∙ e)) h.below;
}

pub agrees_at : (f : CodeFrame) (i : ℕ) (t : KindRows) → AreKnown f t → AgreesAt f i (held_at (rows_at f t i) i)
agrees_at f i t a = agrees_of f i t (held_at (rows_at f t i) i) a refl
