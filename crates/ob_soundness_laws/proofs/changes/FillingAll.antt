-- Fields are given their values one after the other.
use Rattle.std.proofs.Common.{◌≡◌, ◌≢◌, ℕ, suc, ◌<◌, true, false, ◌||◌, List, [], ◌∷◌, length, Option, Some, None, refl, sym, ap, subst, ◌∙◌, arith, ⊎_elim, ◌⊎◌, inl, inr, Contains, eq-eqb}
use Rattle.std.specs.Prelude.{is_some, slice_index_or, map, AllPairs, ⊤, if◌then◌else◌}
use Rattle.std.proofs.lemmas.Bool.{and_from, ne_eqb}
use Rattle.std.proofs.lemmas.Bool.Decides.{eqb_tells}
use Rattle.std.proofs.lemmas.Option.{same_Some, none-some}
use Rattle.ob_base.specs.declared.id.StateId.{StateId}
use Rattle.ob_table.specs.Tables.{ClassTable}
use Rattle.ob_table.specs.declared.contract.Field.{Field}
use Rattle.ob_table.specs.declared.contract.ResolvedType.{ResolvedType}
use Rattle.ob_table_spec.specs.Conditions.{IsClassTable}
use Rattle.ob_table_spec.specs.WellFormed.{kind_of_resolved, serves_as}
use Rattle.ob_heap_spec.specs.Values.{Numbered, nothing, put}
use Rattle.ob_heap_spec.specs.Objects.{has_field}
use Rattle.ob_silica.specs.declared.place.Given.{Given}
use Rattle.ob_silica_places.specs.Places.{Location, field, located}
use Rattle.ob_silica_steps.specs.Cells.{Cell}
use Rattle.ob_silica_steps.specs.Configurations.{Configuration, NextStep, stuck}
use Rattle.ob_silica_steps.specs.Here.{Here, here, read, if_there, hand}
use Rattle.ob_silica_steps.specs.Getting.{got_from}
use Rattle.ob_silica_steps.specs.Changing.{all_there, fill_one, fill_all}
use Rattle.ob_flow_spec.specs.Contexts.{BodyFrame, Context, TestedPlaces, type_of_field, put as put_known}
use Rattle.ob_flow_spec.specs.Filling.{after_fill, got as got_known}
use Rattle.ob_flow_spec.specs.Changing.{given_from, given_at, is_given, filled_all, got_all}
use Rattle.ob_flow_laws.specs.Changing.{FillOnce, CanFillAll}
use Rattle.ob_coherent_spec.specs.Standing.{NeedsOwner}
use Rattle.ob_coherent_spec.specs.Remaining.{BodyParts, body_of}
use Rattle.ob_coherent_spec.specs.Coherent.{Beginning, IsRunning}
use Rattle.ob_soundness_laws.specs.places.Placed.{cell_at, Found}
use Rattle.ob_soundness_laws.proofs.places.Finding.{found_read, sits_read}
use Rattle.ob_soundness_laws.proofs.places.Getting.{objects_low}
use Rattle.ob_soundness_laws.proofs.places.Filling.{fill_uses, fill_found}
use Rattle.ob_soundness_laws.proofs.calls.Running.{running_sits, running_one, running_finished}
use Rattle.ob_soundness_laws.specs.changes.Fills.{Fills, CanTake, CanTakeAll, IsNew, EachOnce}
use Rattle.ob_soundness_laws.proofs.changes.Filling.{has_field_at, fill_next}

-- Given fields.

-- none of these fields has a value yet
abbrev pub NoneGot : Numbered Cell → List Given → Type 0
NoneGot got [] = ⊤
NoneGot got (x ∷ xs) = (got x.field.0 ≡ None) × NoneGot got xs

put_same : (got : Numbered Cell) (f : ℕ) (y : Cell) → put got f y f ≡ Some y
put_same got f y = rw (eq-eqb f f refl)

put_elsewhere : (got : Numbered Cell) (f : ℕ) (y : Cell) (j : ℕ) → j ≢ f → put got f y j ≡ got j
put_elsewhere got f y j ne = rw (ne_eqb j f ne)

none_got_put : (got : Numbered Cell) (f : ℕ) (y : Cell) (xs : List Given) → IsNew f xs → NoneGot got xs
    → NoneGot (put got f y) xs
none_got_put got f y [] new none = tt
none_got_put got f y (x ∷ xs) new none =
    (put_elsewhere got f y x.field.0 (λ e. new.0 (sym e)) ∙ none.0, none_got_put got f y xs new.1 none.1)

pub none_at_first : (xs : List Given) → NoneGot nothing xs
none_at_first [] = tt
none_at_first (x ∷ xs) = (refl, none_at_first xs)

-- no field is given twice
new_from : (f : ℕ) (xs : List Given)
    → ((k d : ℕ) → k < length xs → f ≢ slice_index_or (map (λ (g : Given). g.field.0) xs) k d) → IsNew f xs
new_from f [] h = tt
new_from f (x ∷ xs) h = (h 0 0 (omega arith), new_from f xs (λ k d lt. h (suc k) d (omega (arith, lt))))

map_length : (xs : List Given) → length (map (λ (g : Given). g.field.0) xs) ≡ length xs
map_length [] = refl
map_length (x ∷ xs) = ap suc (map_length xs)

pub once_from : (xs : List Given) → AllPairs (λ (a b : ℕ). a ≢ b) (map (λ (g : Given). g.field.0) xs) → EachOnce xs
once_from [] h = tt
once_from (x ∷ xs) h = (
  new_from x.field.0 xs (λ k d lt. h 0 (suc k) d (omega arith) (let e = map_length xs in omega (arith, e, lt))),
  once_from xs (λ i j d lt low. h (suc i) (suc j) d (omega (arith, lt)) (omega (arith, low))),
)

-- What the filling of these fields comes to.
pub record AllFilled (table : ClassTable) (c : Configuration) (parts : BodyParts) (s : StateId) (last : Context)
    (h : Here)
    (got : Numbered Cell) (g said : Context) (xs : List Given) : Type 0 where
  pub after : Here
  pub cells : Numbered Cell
  pub fills : Fills table c parts s last after cells (filled_all (body_of table c.frame parts) g xs)
      (got_all (body_of table c.frame parts) g xs said)
  pub there : all_there table (here c) xs ≡ true
  pub goes : (go : Here → Numbered Cell → NextStep) → fill_all table parts.own s h xs got go ≡ go after cells
  pub from : (f : ℕ) (x : Cell) → cells f ≡ Some x → (got f ≡ Some x) ⊎ ((y : Given) × Contains xs y × (y.field.0 ≡ f))
  pub none : (f : ℕ) → cells f ≡ None → (got f ≡ None) × (is_given f xs ≡ false)
  pub untouched : (f : ℕ) → given_at f xs ≡ None → cells f ≡ got f

later : (x : Given) (xs : List Given) (y : Given) → Contains xs y → Contains (x ∷ xs) y
later x xs y (k, lt, e) = (suc k, omega (arith, lt), e)

module _ (table : ClassTable) (made : IsClassTable table) (entry : Option ℕ) (beginning : Beginning) (c : Configuration)
    (k : IsRunning table entry beginning c) (s : StateId) (ts : TestedPlaces) (last : Context) where
  abbrev parts : BodyParts
  parts = k.whole.parts

  abbrev body : BodyFrame
  body = body_of table c.frame k.whole.parts

  -- a place has a value that it had where the form began
  pub record ComesFrom (p : Location) (x : Cell) : Type 0 where
    pub cell : Cell
    pub is : cell_at (here c) p ≡ Some cell
    pub value : x.value ≡ cell.value
    pub kind : x.note.kind ≡ cell.note.kind

  pub comes_from : (h : Here) (got : Numbered Cell) (g said : Context) → Fills table c parts s last h got g said
      → (p : Location) (x : Cell) → cell_at h p ≡ Some x → ComesFrom p x
  comes_from h got g said a p x e = by_cell (cell_at (here c) p) refl
    where
      by_cell : (z : Option Cell) → cell_at (here c) p ≡ z → ComesFrom p x
      by_cell None i = absurd (none-some x (sym (a.unset p i) ∙ e))
      by_cell (Some z) i =
          let r = a.alike p z i in
          let same : r.0 ≡ x = same_Some r.0 x (sym r.1 ∙ e) in
          record {
            cell = z;
            is = i;
            value = ap (λ (v : Cell). v.value) (sym same) ∙ r.2;
            kind = ap (λ (v : Cell). v.note.kind) (sym same) ∙ r.3;
          }

  module _ (h : Here) (got : Numbered Cell) (g said : Context) (a : Fills table c parts s last h got g said)
      (x : Given) (xs before : List Given) (can : CanFillAll body ts g (x ∷ xs))
      (take : CanTake table c parts s x) (new : IsNew x.field.0 xs) (none : NoneGot got (x ∷ xs))
      (once : FillOnce body before (x ∷ xs)) where
    abbrev found_it : Found (NeedsOwner table h.world.objects) (g (located x.from)) (cell_at h (located x.from))
    found_it = fill_found table made c.frame parts h g a.sits ts x.field.0 (located x.from) can.0 take.inside

    origin : ComesFrom (located x.from) found_it.cell
    origin = comes_from h got g said a (located x.from) found_it.cell found_it.is

    abbrev of : ResolvedType
    of = type_of_field body x.field.0

    abbrev next : Here
    next = hand of (located x.from) found_it.cell h

    abbrev y : Cell
    y = got_from table of h (located x.from) found_it.cell

    filled_next : Fills table c parts s last next (put got x.field.0 y)
        (after_fill body g x.field.0 (given_from x))
        (put_known said (field x.field.0) (got_known body g x.field.0 (given_from x)))
    filled_next = fill_next table made c parts s ts (running_one table made entry beginning c k)
        (objects_low table made c.notes c.world.objects k.whole.objects) last h got g said a x.field.0 (located x.from)
        take.inside take.has can.0
        (subst (λ z. serves_as table (kind_of_resolved of) z ≡ true) (sym origin.kind)
        (take.serves origin.cell origin.is))
        (λ m building is. running_finished table made entry beginning c k (located x.from) origin.cell take.inside
        (fill_uses table made c.frame parts h g a.sits ts x.field.0 (located x.from) can.0 take.inside).spares_this
        origin.is m building (sym origin.value ∙ is))
        none.0
        (λ own. (once.0 own).no_this)

    none_next : NoneGot (put got x.field.0 y) xs
    none_next = none_got_put got x.field.0 y xs new none.1

    fills_one : (go : Here → Cell → NextStep) → fill_one table parts.own s h x go ≡ go next y
    fills_one go =
        let d = has_field_at table c parts s x.field.0 take.has in
        ap (λ z. if_there z (λ (f : Field). if_there (read table h (located x.from)) (λ v.
        if has_field parts.own (Some s) x.field.0
        then go (hand f.of (located x.from) v h) (got_from table f.of h (located x.from) v)
        else stuck))) d.1
        ∙ ap (λ z. if_there z (λ v.
        if has_field parts.own (Some s) x.field.0
        then go (hand d.0.of (located x.from) v h) (got_from table d.0.of h (located x.from) v)
        else stuck)) (found_read table made c.frame parts h g a.sits (located x.from) found_it)
        ∙ ap (λ z. if z
        then go (hand d.0.of (located x.from) found_it.cell h) (got_from table d.0.of h (located x.from) found_it.cell)
        else stuck) take.has
        ∙ ap (λ z. go (hand z (located x.from) found_it.cell h) (got_from table z h (located x.from) found_it.cell))
        (sym d.2)

    all_filled_after : AllFilled table c parts s last next (put got x.field.0 y)
        (after_fill body g x.field.0 (given_from x))
        (put_known said (field x.field.0) (got_known body g x.field.0 (given_from x))) xs
        → AllFilled table c parts s last h got g said (x ∷ xs)
    all_filled_after r = record {
      after = r.after;
      cells = r.cells;
      fills = r.fills;
      there = and_from (is_some (read table (here c) (located x.from))) (all_there table (here c) xs)
          (ap is_some (sits_read table made c.frame parts (here c) k.context
          (running_sits table made entry beginning c k) (located x.from) ∙ origin.is))
          r.there;
      goes = λ go. fills_one (λ n z. fill_all table parts.own s n xs (put got x.field.0 z) go) ∙ r.goes go;
      from = λ f z e. ⊎_elim
          (λ i. ⊎_elim
          (λ same. inr (x, (0, omega arith, refl), sym same.1))
          (λ other. inl (sym (put_elsewhere got x.field.0 y f other.1) ∙ i))
          (eqb_tells f x.field.0))
          (λ i. inr (i.0, later x xs i.0 i.1, i.2))
          (r.from f z e);
      none = λ f e. let n = r.none f e in ⊎_elim
          (λ same. absurd (none-some y (sym n.0 ∙ ap (put got x.field.0 y) same.1 ∙ put_same got x.field.0 y)))
          (λ other. (
            sym (put_elsewhere got x.field.0 y f other.1) ∙ n.0,
            ap (λ z. z || is_given f xs) (ne_eqb x.field.0 f (λ z. other.1 (sym z))) ∙ n.1,
          ))
          (eqb_tells f x.field.0);
      untouched = λ f e. ⊎_elim
          (λ same. absurd (none-some x (sym e ∙ ap (λ z. if z then Some x else given_at f xs) same.0)))
          (λ other. r.untouched f (sym (ap (λ z. if z then Some x else given_at f xs) other.0) ∙ e)
          ∙ put_elsewhere got x.field.0 y f (λ z. other.1 (sym z)))
          (eqb_tells x.field.0 f);
    }

  pub fill_all_so : (xs before : List Given) (h : Here) (got : Numbered Cell) (g said : Context)
      → Fills table c parts s last h got g said → CanFillAll body ts g xs
      → CanTakeAll table c parts s xs → EachOnce xs → NoneGot got xs
      → FillOnce body before xs
      → AllFilled table c parts s last h got g said xs
  fill_all_so [] before h got g said a can take once none fills = record {
    after = h;
    cells = got;
    fills = a;
    there = refl;
    goes = λ go. refl;
    from = λ f x e. inl e;
    none = λ f e. (e, refl);
    untouched = λ f e. refl;
  }
  fill_all_so (x ∷ xs) before h got g said a can take once none fills =
      all_filled_after h got g said a x xs before can take.0 once.0 none fills
      (fill_all_so xs (x ∷ before) _ _ _ _
      (filled_next h got g said a x xs before can take.0 once.0 none fills) can.1 take.1 once.1
      (none_next h got g said a x xs before can take.0 once.0 none fills) fills.1)
