-- What one cell counts.
use Rattle.std.proofs.Common.{◌≡◌, ◌≢◌, ℕ, ◌<◌, ◌≤◌, ⊎_elim, Bool, true, false, Option, Some, None, option_map, refl, sym, ap, ◌∙◌, arith, eq-eqb, eqb-true, true≢false}
use Rattle.std.proofs.lemmas.Bool.{cases_Bool, and_parts, and_from, and_left, and_right}
use Rattle.ob_perm.specs.Permissions.{Permission, shared, unowned, owns}
use Rattle.ob_heap_spec.specs.Values.{Value, int_value, bool_value, text_value, reference, referred}
use Rattle.ob_silica_steps.specs.Cells.{Cell, noted, permission_in}
use Rattle.ob_coherent_spec.specs.Counting.{one_if, Counted, any, refers_to, is_counted, in_cell}

-- One where a test holds.

pub one_if_most : (b : Bool) → one_if b ≤ 1
one_if_most true = omega arith
one_if_most false = omega arith

pub one_if_true : (b : Bool) → 0 < one_if b → b ≡ true
one_if_true true some = refl
one_if_true false some = absurd (omega arith)

pub one_if_false : (b : Bool) → one_if b ≡ 0 → b ≡ false
one_if_false true none = absurd (omega arith)
one_if_false false none = refl

pub one_if_less : (a b : Bool) → (a ≡ true → b ≡ true) → one_if a ≤ one_if b
one_if_less true b then = rw (then refl) (omega arith)
one_if_less false b then = omega arith

-- What a value refers to.

pub refers_to_it : (n : ℕ) → refers_to n (reference n) ≡ true
refers_to_it n = eq-eqb n n refl

pub reference_of : (n : ℕ) (v : Value) → refers_to n v ≡ true → v ≡ reference n
reference_of n (int_value z) e = absurd (true≢false (sym e))
reference_of n (bool_value b) e = absurd (true≢false (sym e))
reference_of n (text_value bytes) e = absurd (true≢false (sym e))
reference_of n (reference m) e = ap reference (eqb-true m n e)

pub no_reference : (n : ℕ) (v : Value) → v ≢ reference n → refers_to n v ≡ false
no_reference n v other = ⊎_elim (λ e. absurd (other (reference_of n v e))) (λ e. e) (cases_Bool (refers_to n v))

pub plain_refers : (n : ℕ) (v : Value) → referred v ≡ None → refers_to n v ≡ false
plain_refers n (int_value z) e = refl
plain_refers n (bool_value b) e = refl
plain_refers n (text_value bytes) e = refl
plain_refers n (reference m) e = absurd (cc)

-- What a cell counts.

module _ (counts : Counted) (n : ℕ) where
  pub cell_most : (x : Option Cell) → in_cell counts n x ≤ 1
  cell_most None = omega arith
  cell_most (Some x) = one_if_most (is_counted counts n x)

  -- a cell of another value counts nothing
  pub cell_other : (x : Cell) → x.value ≢ reference n → in_cell counts n (Some x) ≡ 0
  cell_other x other = ap one_if (and_right (counts x.note.permission) (refers_to n x.value)
      (no_reference n x.value other))

  -- a cell that is no reference counts nothing
  pub cell_plain : (x : Cell) → referred x.value ≡ None → in_cell counts n (Some x) ≡ 0
  cell_plain x plain = ap one_if (and_right (counts x.note.permission) (refers_to n x.value)
      (plain_refers n x.value plain))

  -- a cell whose permission isn't counted counts nothing
  pub cell_uncounted : (x : Cell) → counts x.note.permission ≡ false → in_cell counts n (Some x) ≡ 0
  cell_uncounted x not = ap one_if (and_left (counts x.note.permission) (refers_to n x.value) not)

  -- a cell that is counted
  pub cell_counted : (x : Cell) → counts x.note.permission ≡ true → x.value ≡ reference n → in_cell counts n (Some x)
      ≡ 1
  cell_counted x so value = ap one_if (and_from (counts x.note.permission) (refers_to n x.value) so
      (ap (refers_to n) value ∙ refers_to_it n))

  -- what a cell has that counts
  pub counted_cell : (x : Cell) → 0 < in_cell counts n (Some x) → (counts x.note.permission ≡ true)
      × (x.value ≡ reference n)
  counted_cell x some =
      let both = and_parts (counts x.note.permission) (refers_to n x.value)
      (one_if_true (is_counted counts n x) some) in
      (both.0, reference_of n x.value both.1)

  -- a place that counts has a cell
  pub counted_place : (x : Option Cell) → 0 < in_cell counts n x
      → (y : Cell) × (x ≡ Some y) × (counts y.note.permission ≡ true) × (y.value ≡ reference n)
  counted_place None some = absurd (omega arith)
  counted_place (Some y) some = let r = counted_cell y some in (y, refl, r.0, r.1)

  -- the same value with a permission that counts alike counts alike
  pub cell_alike : (x y : Cell) → x.value ≡ y.value → counts x.note.permission ≡ counts y.note.permission
      → in_cell counts n (Some x) ≡ in_cell counts n (Some y)
  cell_alike x y values alike = rw (values, alike)

  -- the same value with a permission that counts no more counts no more
  pub cell_less : (x y : Cell) → x.value ≡ y.value → (counts x.note.permission ≡ true → counts y.note.permission ≡ true)
      → in_cell counts n (Some x) ≤ in_cell counts n (Some y)
  cell_less x y values less = one_if_less (is_counted counts n x) (is_counted counts n y)
      (λ e. let both = and_parts (counts x.note.permission) (refers_to n x.value) e in
      and_from (counts y.note.permission) (refers_to n y.value) (less both.0) (ap (refers_to n) (sym values) ∙ both.1))

  -- a cell with another permission
  pub cell_noted : (p : Permission) (x : Cell) → counts p ≡ counts x.note.permission
      → in_cell counts n (Some (noted p x)) ≡ in_cell counts n (Some x)
  cell_noted p x alike = cell_alike (noted p x) x refl alike

  pub cell_noted_less : (p : Permission) (x : Cell) → (counts p ≡ true → counts x.note.permission ≡ true)
      → in_cell counts n (Some (noted p x)) ≤ in_cell counts n (Some x)
  cell_noted_less p x less = cell_less (noted p x) x refl less

  pub cell_noted_none : (p : Permission) (x : Cell) → counts p ≡ false → in_cell counts n (Some (noted p x)) ≡ 0
  cell_noted_none p x not = cell_uncounted (noted p x) not

-- Owners and references.

module _ (n : ℕ) where
  -- where a place owns, it refers
  pub owns_refers : (x : Option Cell) → in_cell owns n x ≤ in_cell any n x
  owns_refers None = omega arith
  owns_refers (Some x) = one_if_less (is_counted owns n x) (is_counted any n x)
      (λ e. (and_parts (owns x.note.permission) (refers_to n x.value) e).1)

  -- a count is at most that of references
  pub counts_refers : (counts : Counted) (x : Option Cell) → in_cell counts n x ≤ in_cell any n x
  counts_refers counts None = omega arith
  counts_refers counts (Some x) = one_if_less (is_counted counts n x) (is_counted any n x)
      (λ e. (and_parts (counts x.note.permission) (refers_to n x.value) e).1)

  pub unowned_none : (x : Cell) → x.note.permission ≡ unowned → in_cell owns n (Some x) ≡ 0
  unowned_none x e = cell_uncounted owns n x (ap owns e)

  pub shared_none : (x : Cell) → x.note.permission ≡ shared → in_cell owns n (Some x) ≡ 0
  shared_none x e = cell_uncounted owns n x (ap owns e)

  pub unowned_permission_none : (x : Option Cell) → owns (permission_in x) ≡ false → in_cell owns n x ≡ 0
  unowned_permission_none None e = refl
  unowned_permission_none (Some x) e = cell_uncounted owns n x e

  pub noted_refers : (p : Permission) (x : Cell) → in_cell any n (Some (noted p x)) ≡ in_cell any n (Some x)
  noted_refers p x = refl

  pub all_noted_refers : (p : Permission) (x : Option Cell) → in_cell any n (option_map (noted p) x) ≡ in_cell any n x
  all_noted_refers p None = refl
  all_noted_refers p (Some x) = refl

-- a place that counts for one object counts for no other
pub counts_one : (counts more : Counted) (n m : ℕ) (x : Option Cell) → n ≢ m → 0 < in_cell counts n x
    → in_cell more m x ≡ 0
counts_one counts more n m None other some = refl
counts_one counts more n m (Some x) other some =
    let r = counted_cell counts n x some in cell_other more m x (λ e. other (go (sym r.1 ∙ e)))
  where
    go : reference n ≡ reference m → n ≡ m
    go e = cc
