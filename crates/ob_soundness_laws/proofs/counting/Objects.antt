-- Objects by number, and the cells of their fields.
use Rattle.std.proofs.Common.{◌≡◌, ◌≢◌, ℕ, zero, suc, ◌+◌, ◌<◌, ◌≤◌, ◌⊎◌, inl, inr, ⊎_elim, List, [], ◌∷◌, ◌++◌, length, Option, Some, None, option_map, unwrap_or, slice_get, slice_set, length-set, refl, sym, ap, ◌∙◌, subst, arith, eq-eqb, ne_eqb}
use Rattle.std.proofs.lemmas.Option.{slice_get_within, slice_get_past, same_Some, none-some}
use Rattle.std.proofs.lemmas.Bool.{cases_lt}
use Rattle.std.proofs.lemmas.Bool.Decides.{eqb_tells}
use Rattle.std.specs.Option.{option_map_or}
use Rattle.ob_perm.specs.Permissions.{Permission}
use Rattle.ob_heap_spec.specs.Values.{Value}
use Rattle.ob_heap_spec.specs.Objects.{Object, unfinished, with_field}
use Rattle.ob_heap_spec.specs.Contents.{object_at}
use Rattle.ob_heap_spec.specs.Worlds.{World, set_object, edit_object, make_object}
use Rattle.ob_silica_places.specs.Known.{Known, known, at}
use Rattle.ob_silica_steps.specs.Cells.{Cell, noted}
use Rattle.ob_silica_steps.specs.Configurations.{Notes}
use Rattle.ob_silica_steps.specs.Here.{with_field_note}
use Rattle.ob_coherent_spec.specs.Counting.{nth_object, field_cell}
use Rattle.ob_soundness_laws.proofs.counting.Sums.{at_same, at_other}

-- Lists.

get_there : {A : Type 0} (xs : List A) (n : ℕ) (d : A) → n < length xs → slice_get xs n
    ≡ Some (unwrap_or (slice_get xs n) d)
get_there [] n d below = absurd (omega arith)
get_there (x ∷ xs) zero d below = refl
get_there (x ∷ xs) (suc n) d below = get_there xs n d (omega arith)

get_set_same : {A : Type 0} (xs : List A) (n : ℕ) (x : A) → n < length xs → slice_get (slice_set xs n x) n ≡ Some x
get_set_same [] n x below = absurd (omega arith)
get_set_same (y ∷ xs) zero x below = refl
get_set_same (y ∷ xs) (suc n) x below = get_set_same xs n x (omega arith)

get_set_other : {A : Type 0} (xs : List A) (n : ℕ) (x : A) (m : ℕ) → m ≢ n → slice_get (slice_set xs n x) m
    ≡ slice_get xs m
get_set_other [] n x m other = refl
get_set_other (y ∷ xs) zero x zero other = absurd (other refl)
get_set_other (y ∷ xs) zero x (suc m) other = refl
get_set_other (y ∷ xs) (suc n) x zero other = refl
get_set_other (y ∷ xs) (suc n) x (suc m) other = get_set_other xs n x m (λ e. other (ap suc e))

get_set_past : {A : Type 0} (xs : List A) (n : ℕ) (x : A) → length xs ≤ n → slice_set xs n x ≡ xs
get_set_past [] n x past = refl
get_set_past (y ∷ xs) zero x past = absurd (omega arith)
get_set_past (y ∷ xs) (suc n) x past = ap (λ l. y ∷ l) (get_set_past xs n x (omega arith))

get_more : {A : Type 0} (xs : List A) (x : A) (n : ℕ) → n < length xs → slice_get (xs ++ x ∷ []) n ≡ slice_get xs n
get_more [] x n below = absurd (omega arith)
get_more (y ∷ xs) x zero below = refl
get_more (y ∷ xs) x (suc n) below = get_more xs x n (omega arith)

get_last : {A : Type 0} (xs : List A) (x : A) → slice_get (xs ++ x ∷ []) (length xs) ≡ Some x
get_last [] x = refl
get_last (y ∷ xs) x = get_last xs x

length_more : {A : Type 0} (xs : List A) (x : A) → length (xs ++ x ∷ []) ≡ length xs + 1
length_more [] x = refl
length_more (y ∷ xs) x = omega (arith, length_more xs x)

-- Objects.

pub object_there : (objects : List Object) (n : ℕ) → n < length objects → object_at objects n
    ≡ Some (nth_object objects n)
object_there objects n below = get_there objects n (unfinished (record { 0 = 0 })) below

pub object_found : (objects : List Object) (n : ℕ) (o : Object) → object_at objects n ≡ Some o
    → (n < length objects) × (nth_object objects n ≡ o)
object_found objects n o e =
    (slice_get_within objects n o e, ap (λ x. unwrap_or x (unfinished (record { 0 = 0 }))) e)

-- where there is no object
pub no_object : (objects : List Object) (n : ℕ) → length objects ≤ n → nth_object objects n
    ≡ unfinished (record { 0 = 0 })
no_object objects n past =
    ap (λ x. unwrap_or x (unfinished (record { 0 = 0 }))) (slice_get_past objects n past)

-- an object is there or not
pub object_or_none : (objects : List Object) (n : ℕ)
    → ((n < length objects) × (object_at objects n ≡ Some (nth_object objects n)))
    ⊎ ((length objects ≤ n) × (object_at objects n ≡ None))
object_or_none objects n = ⊎_elim (λ p. inl (p, object_there objects n p)) (λ p. inr (p, slice_get_past objects n p))
    (cases_lt n (length objects))

-- An object changes.

module _ (w : World) (n : ℕ) (o : Object) where
  pub set_length : length (set_object w n o).objects ≡ length w.objects
  set_length = length-set w.objects n o

  pub set_same : n < length w.objects → nth_object (set_object w n o).objects n ≡ o
  set_same below = ap (λ x. unwrap_or x (unfinished (record { 0 = 0 }))) (get_set_same w.objects n o below)

  pub set_other : (m : ℕ) → m ≢ n → nth_object (set_object w n o).objects m ≡ nth_object w.objects m
  set_other m other = ap (λ x. unwrap_or x (unfinished (record { 0 = 0 }))) (get_set_other w.objects n o m other)

module _ (f : Object → Object) (n : ℕ) (w : World) where
  -- where the object is there it becomes what f makes of it
  pub edit_there : n < length w.objects → edit_object f n w ≡ set_object w n (f (nth_object w.objects n))
  edit_there below = ap (λ x. option_map_or (λ o. set_object w n (f o)) x w) (object_there w.objects n below)

  pub edit_past : length w.objects ≤ n → edit_object f n w ≡ w
  edit_past past = ap (λ x. option_map_or (λ o. set_object w n (f o)) x w) (slice_get_past w.objects n past)

  pub edit_length : length (edit_object f n w).objects ≡ length w.objects
  edit_length = ⊎_elim
      (λ p. ap (λ v. length v.objects) (edit_there p) ∙ set_length w n (f (nth_object w.objects n)))
      (λ p. ap (λ v. length v.objects) (edit_past p)) (cases_lt n (length w.objects))

  pub edit_same : n < length w.objects → nth_object (edit_object f n w).objects n ≡ f (nth_object w.objects n)
  edit_same below = ap (λ v. nth_object v.objects n) (edit_there below)
      ∙ set_same w n (f (nth_object w.objects n)) below

  pub edit_other : (m : ℕ) → m ≢ n → nth_object (edit_object f n w).objects m ≡ nth_object w.objects m
  edit_other m other = ⊎_elim
      (λ p. ap (λ v. nth_object v.objects m) (edit_there p) ∙ set_other w n (f (nth_object w.objects n)) m other)
      (λ p. ap (λ v. nth_object v.objects m) (edit_past p)) (cases_lt n (length w.objects))

  -- what f keeps of an object stays of each
  pub edit_keeps : {A : Type 0} (part : Object → A) → ((o : Object) → part (f o) ≡ part o)
      → (m : ℕ) → part (nth_object (edit_object f n w).objects m) ≡ part (nth_object w.objects m)
  edit_keeps part same m = ⊎_elim
      (λ e. subst (λ i. part (nth_object (edit_object f n w).objects i) ≡ part (nth_object w.objects i)) (sym e.1)
      (⊎_elim (λ p. ap part (edit_same p) ∙ same (nth_object w.objects n))
      (λ p. ap (λ v. part (nth_object v.objects n)) (edit_past p)) (cases_lt n (length w.objects))))
      (λ e. ap part (edit_other m e.1)) (eqb_tells m n)

  -- each object stays, or it is the one that is there and changes
  pub edit_either : (m : ℕ) → (nth_object (edit_object f n w).objects m ≡ nth_object w.objects m)
      ⊎ ((m ≡ n) × (n < length w.objects) × (nth_object (edit_object f n w).objects m ≡ f (nth_object w.objects m)))
  edit_either m = ⊎_elim
      (λ e. ⊎_elim
      (λ p. inr (
        e.1,
        p,
        subst (λ i. nth_object (edit_object f n w).objects i ≡ f (nth_object w.objects i)) (sym e.1)
            (edit_same p),
      ))
      (λ p. inl (ap (λ v. nth_object v.objects m) (edit_past p))) (cases_lt n (length w.objects)))
      (λ e. inl (edit_other m e.1)) (eqb_tells m n)

  pub edit_locked : (edit_object f n w).locked ≡ w.locked
  edit_locked = ⊎_elim (λ p. ap (λ v. v.locked) (edit_there p)) (λ p. ap (λ v. v.locked) (edit_past p))
      (cases_lt n (length w.objects))

  pub edit_progress : (edit_object f n w).progress ≡ w.progress
  edit_progress = ⊎_elim (λ p. ap (λ v. v.progress) (edit_there p)) (λ p. ap (λ v. v.progress) (edit_past p))
      (cases_lt n (length w.objects))

-- An object is made.

module _ (w : World) (o : Object) where
  pub make_length : length (make_object w o).objects ≡ length w.objects + 1
  make_length = length_more w.objects o

  pub make_same : nth_object (make_object w o).objects (length w.objects) ≡ o
  make_same = ap (λ x. unwrap_or x (unfinished (record { 0 = 0 }))) (get_last w.objects o)

  pub make_other : (m : ℕ) → m < length w.objects → nth_object (make_object w o).objects m ≡ nth_object w.objects m
  make_other m below = ap (λ x. unwrap_or x (unfinished (record { 0 = 0 }))) (get_more w.objects o m below)

-- Cells of fields.

-- a cell, by the value and the note of its field
pub field_cell_of : (notes : Notes) (objects : List Object) (n k : ℕ) (x : Option Value)
    → (nth_object objects n).fields k ≡ x
    → field_cell notes objects n k ≡ option_map (λ v. record { value = v; note = notes.fields n k }) x
field_cell_of notes objects n k x e = ap (option_map (λ v. record { value = v; note = notes.fields n k })) e

-- a field without a value has no cell
pub no_field_cell : (notes : Notes) (objects : List Object) (n k : ℕ) → (nth_object objects n).fields k ≡ None
    → field_cell notes objects n k ≡ None
no_field_cell notes objects n k e = field_cell_of notes objects n k None e

-- the value of a field's cell
pub field_cell_value : (notes : Notes) (objects : List Object) (n k : ℕ) (x : Cell) → field_cell notes objects n k
    ≡ Some x
    → ((nth_object objects n).fields k ≡ Some x.value) × (x.note ≡ notes.fields n k)
field_cell_value notes objects n k x e = go ((nth_object objects n).fields k) refl e
  where
    go : (v : Option Value) → (nth_object objects n).fields k ≡ v
        → option_map (λ (v : Value). record { value = v; note = notes.fields n k }) v ≡ Some x
        → ((nth_object objects n).fields k ≡ Some x.value) × (x.note ≡ notes.fields n k)
    go None is e = absurd (cc)
    go (Some v) is e =
        let same = same_Some (record { value = v; note = notes.fields n k }) x e in
        (is ∙ ap (λ (c : Cell). Some c.value) same, sym (ap (λ (c : Cell). c.note) same))

-- a cell of a field is of an object that is there
pub field_cell_there : (notes : Notes) (objects : List Object) (n k : ℕ) (x : Cell) → field_cell notes objects n k
    ≡ Some x
    → n < length objects
field_cell_there notes objects n k x e = ⊎_elim (λ p. p)
    (λ p. absurd (none-some x (sym (no_field_cell notes objects n k (ap (λ o. o.fields k) (no_object objects n p)))
    ∙ e)))
    (cases_lt n (length objects))

-- values and notes that are the same give the same cell
pub field_cell_same : (notes more : Notes) (objects others : List Object) (n k : ℕ)
    → (nth_object others n).fields k ≡ (nth_object objects n).fields k → more.fields n k ≡ notes.fields n k
    → field_cell more others n k ≡ field_cell notes objects n k
field_cell_same notes more objects others n k values same =
    rw (values, same)

-- what is noted of one field
module _ (notes : Notes) (n k : ℕ) (note : Known) where
  pub note_same : (with_field_note notes n k note).fields n k ≡ note
  note_same = ap (λ r. r k) (at_same notes.fields n (at (notes.fields n) k note)) ∙ at_same (notes.fields n) k note

  pub note_other_field : (j : ℕ) → j ≢ k → (with_field_note notes n k note).fields n j ≡ notes.fields n j
  note_other_field j other = ap (λ r. r j) (at_same notes.fields n (at (notes.fields n) k note))
      ∙ at_other (notes.fields n) k note j other

  pub note_other_object : (m j : ℕ) → m ≢ n → (with_field_note notes n k note).fields m j ≡ notes.fields m j
  note_other_object m j other = ap (λ r. r j) (at_other notes.fields n (at (notes.fields n) k note) m other)

-- the value of one field
module _ (o : Object) (k : ℕ) (v : Value) where
  pub with_field_same : (with_field k v o).fields k ≡ Some v
  with_field_same = rw (eq-eqb k k refl)

  pub with_field_other : (j : ℕ) → j ≢ k → (with_field k v o).fields j ≡ o.fields j
  with_field_other j other = rw (ne_eqb j k other)

-- a field of an object is set, with its note
module _ (notes : Notes) (w : World) (n k : ℕ) (x : Cell) where
  pub set_field_same : n < length w.objects
      → field_cell (with_field_note notes n k x.note) (edit_object (with_field k x.value) n w).objects n k ≡ Some x
  set_field_same below =
      field_cell_of (with_field_note notes n k x.note) (edit_object (with_field k x.value) n w).objects n k
      (Some x.value)
      (ap (λ o. o.fields k) (edit_same (with_field k x.value) n w below)
      ∙ with_field_same (nth_object w.objects n) k x.value)
      ∙ ap (λ y. Some (record { value = x.value; note = y })) (note_same notes n k x.note)

  pub set_field_other_field : (j : ℕ) → j ≢ k
      → field_cell (with_field_note notes n k x.note) (edit_object (with_field k x.value) n w).objects n j
      ≡ field_cell notes w.objects n j
  set_field_other_field j other =
      field_cell_same notes (with_field_note notes n k x.note) w.objects
      (edit_object (with_field k x.value) n w).objects n j
      (edit_keeps (with_field k x.value) n w (λ o. o.fields j) (λ o. with_field_other o k x.value j other) n)
      (note_other_field notes n k x.note j other)

  pub set_field_other_object : (m j : ℕ) → m ≢ n
      → field_cell (with_field_note notes n k x.note) (edit_object (with_field k x.value) n w).objects m j
      ≡ field_cell notes w.objects m j
  set_field_other_object m j other =
      field_cell_same notes (with_field_note notes n k x.note) w.objects
      (edit_object (with_field k x.value) n w).objects m j
      (ap (λ o. o.fields j) (edit_other (with_field k x.value) n w m other))
      (note_other_object notes n k x.note m j other)

-- what is noted of a field is changed, and its value stays
module _ (notes : Notes) (objects : List Object) (n k : ℕ) (note : Known) where
  pub renoted_same : field_cell (with_field_note notes n k note) objects n k
      ≡ option_map {U = Cell} (λ (x : Cell). record { value = x.value; note = note }) (field_cell notes objects n k)
  renoted_same = ap (λ y. option_map {U = Cell} (λ (v : Value). record { value = v; note = y })
      ((nth_object objects n).fields k)) (note_same notes n k note)
      ∙ go ((nth_object objects n).fields k)
    where
      go : (x : Option Value) → option_map {U = Cell} (λ (v : Value). record { value = v; note = note }) x
          ≡ option_map {U = Cell} (λ (x : Cell). record { value = x.value; note = note })
          (option_map {U = Cell} (λ (v : Value). record { value = v; note = notes.fields n k }) x)
      go None = refl
      go (Some v) = refl

  pub renoted_other_field : (j : ℕ) → j ≢ k → field_cell (with_field_note notes n k note) objects n j
      ≡ field_cell notes objects n j
  renoted_other_field j other = field_cell_same notes (with_field_note notes n k note) objects objects n j refl
      (note_other_field notes n k note j other)

  pub renoted_other_object : (m j : ℕ) → m ≢ n → field_cell (with_field_note notes n k note) objects m j
      ≡ field_cell notes objects m j
  renoted_other_object m j other = field_cell_same notes (with_field_note notes n k note) objects objects m j refl
      (note_other_object notes n k note m j other)

-- the permission on a field is changed
pub set_permission_same : (notes : Notes) (objects : List Object) (n k : ℕ) (p : Permission)
    → field_cell (with_field_note notes n k (known (notes.fields n k).kind p)) objects n k
    ≡ option_map (noted p) (field_cell notes objects n k)
set_permission_same notes objects n k p = renoted_same notes objects n k (known (notes.fields n k).kind p)
    ∙ go ((nth_object objects n).fields k)
  where
    go : (x : Option Value) → option_map {U = Cell} (λ (x : Cell). record {
      value = x.value;
      note =
          known (notes.fields n k).kind p;
    })
        (option_map {U = Cell} (λ (v : Value). record { value = v; note = notes.fields n k }) x)
        ≡ option_map (noted p) (option_map {U = Cell} (λ (v : Value). record { value = v; note = notes.fields n k }) x)
    go None = refl
    go (Some v) = refl
