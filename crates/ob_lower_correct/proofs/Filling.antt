-- Changes of the state of `this`: what is given comes into the fields.
use Rattle.std.proofs.Common.{◌≡◌, ◌≢◌, ℕ, Bool, true, false, ◌&&◌, List, [], ◌∷◌, Option, Some, None, refl, sym, ap, ◌∙◌, subst, ◌⊎◌, inl, inr, eq-eqb}
use Rattle.std.proofs.Math.Path.{fun_ext}
use Rattle.std.specs.Prelude.{option_map, option_and_then, slice_get, nat_eq, if◌then◌else◌}
use Rattle.std.specs.Option.{option_map_or}
use Rattle.std.specs.List.{list_all}
use Rattle.ob_base.specs.declared.id.StateId.{StateId}
use Rattle.ob_table.specs.Tables.{ClassTable, contract_at}
use Rattle.ob_table.specs.declared.contract.Contract.{Contract}
use Rattle.ob_table.specs.declared.contract.Field.{Field}
use Rattle.ob_table_spec.specs.WellFormed.{kind_of_resolved}
use Rattle.ob_heap_spec.specs.Values.{Value, Numbered, put}
use Rattle.ob_heap_spec.specs.Objects.{Object, is_available, has_field}
use Rattle.ob_heap_spec.specs.Contents.{object_at}
use Rattle.ob_heap_spec.specs.Marks.{comes_into}
use Rattle.ob_heap_spec.specs.GoingWrong.{is_givable}
use Rattle.ob_source_meaning.specs.Fields.{put_all, come_into_fields}
use Rattle.ob_silica.specs.declared.place.Given.{Given}
use Rattle.ob_silica_steps.specs.Cells.{Cell, value_in}
use Rattle.ob_silica_places.specs.Places.{Location, slot, field, located}
use Rattle.ob_silica_steps.specs.Configurations.{SilicaProgram, SlotCells, NextStep, stuck}
use Rattle.ob_silica_steps.specs.Here.{Here, if_there, self_of, self, read, field_value, hand}
use Rattle.ob_silica_steps.specs.Changing.{fill_one, fill_all, value_after}
use Rattle.ob_silica_steps.specs.Getting.{got_from}
use Rattle.ob_lower_correct.proofs.Standing.{shape, same_value, none_some, some_same}
use Rattle.ob_lower_correct.proofs.Changes.{Alike, alike_self, alike_on, Quiet, quiet_self, quiet_on, quiet_into, bare, same_or}
use Rattle.ob_lower_correct.proofs.Placing.{hand_alike, hand_world, put_other}
use Rattle.ob_lower_correct.proofs.Values.{there}

-- Reads are the same where only marks and permissions differ.

abbrev object_of : Option Cell → ℕ
object_of c = self_of (λ n. c)

pub self_value : (s t : SlotCells) → shape (t 0) ≡ shape (s 0) → self_of t ≡ self_of s
self_value s t e = by_value (t 0) (s 0) (same_value (t 0) (s 0) e)
  where
    by_value : (c d : Option Cell) → value_in c ≡ value_in d → object_of c ≡ object_of d
    by_value None None e = refl
    by_value None (Some y) e = absurd (none_some e)
    by_value (Some x) None e = absurd (none_some (sym e))
    by_value (Some x) (Some y) e = ap (λ v. object_of (Some (record { value = v; note = y.note }))) (some_same x.value y.value e)

field_value_bare : (table : ClassTable) (k : ℕ) (x y : Option Object) → option_map bare x ≡ option_map bare y → option_and_then (λ o. field_value table o k) x ≡ option_and_then (λ o. field_value table o k) y
field_value_bare table k None None e = refl
field_value_bare table k None (Some y) e = absurd (none_some e)
field_value_bare table k (Some x) None e = absurd (none_some (sym e))
field_value_bare table k (Some x) (Some y) e =
    ap (λ b. if option_map_or (λ c. has_field c b.1 k) (contract_at table b.0) false then b.2 k else None) (some_same (bare x) (bare y) e)

read_value : (x : Option Value) (g : Value → Cell) → ((v : Value) → (g v).value ≡ v) → value_in (option_map g x) ≡ x
read_value None g e = refl
read_value (Some v) g e = ap Some (e v)

pub read_alike : (table : ClassTable) (h t : Here) → Alike h t → Quiet h.world t.world → (place : Location) → value_in (read table t place) ≡ value_in (read table h place)
read_alike table h t a q (slot k) = same_value (t.slots k) (h.slots k) (a.slots k)
read_alike table h t a q (field k) =
    read_value (option_and_then (λ o. field_value table o k) (self t)) _ (λ v. refl)
    ∙ ap (λ n. option_and_then (λ o. field_value table o k) (object_at t.world.objects n)) (self_value h.slots t.slots (a.slots 0))
    ∙ field_value_bare table k (object_at t.world.objects (self_of h.slots)) (object_at h.world.objects (self_of h.slots)) (q.by (self_of h.slots))
    ∙ sym (read_value (option_and_then (λ o. field_value table o k) (self h)) _ (λ v. refl))

-- What is given.

-- the values that are read for fields
abbrev pub ReadBy : ClassTable → Here → List Given → List (ℕ × Value) → Type 0
ReadBy table h [] [] = Unit {0}
ReadBy table h (g ∷ gs) (x ∷ xs) = (g.field.0 ≡ x.0) × (value_in (read table h (located g.from)) ≡ Some x.1) × ReadBy table h gs xs
ReadBy table h gs xs = ⊥

pub record AllRead (table : ClassTable) (h : Here) (gs : List Given) (xs : List (ℕ × Value)) : Type 0 where
  pub by : ReadBy table h gs xs

read_on : (table : ClassTable) (h t : Here) (gs : List Given) (xs : List (ℕ × Value)) → Alike h t → Quiet h.world t.world → ReadBy table h gs xs → ReadBy table t gs xs
read_on table h t [] [] a q r = tt
read_on table h t (g ∷ gs) (x ∷ xs) a q r = (r.0, read_alike table h t a q (located g.from) ∙ r.1, read_on table h t gs xs a q r.2)
read_on table h t [] (x ∷ xs) a q r = absurd r
read_on table h t (g ∷ gs) [] a q r = absurd r

-- what fields have got so far, with the declared kinds
pub record Got (c : Contract) (got : Numbered Cell) : Type 0 where
  pub by : (k : ℕ) (x : Cell) (fd : Field) → got k ≡ Some x → slice_get c.fields k ≡ Some fd → x.note.kind ≡ kind_of_resolved fd.of

-- the fields are filled
pub record Filled (c : Contract) (h : Here) (got : Numbered Cell) (xs : List (ℕ × Value)) (t : Here) (all : Numbered Cell) : Type 0 where
  pub alike : Alike h t
  pub quiet : Quiet h.world t.world
  pub world : t.world ≡ come_into_fields c xs h.world
  pub kinds : Got c all
  pub values : (old : Numbered Value) (k : ℕ) → value_after (all k) (old k) ≡ put_all (λ j. value_after (got j) (old j)) xs k

-- filling goes on where each field is one of the new state, and else is stuck
pub data Fills (table : ClassTable) (c : Contract) (state : StateId) (h : Here) (gs : List Given) (got : Numbered Cell) (xs : List (ℕ × Value)) : Type 0 where
  fills : (t : Here) (all : Numbered Cell) → list_all (λ (g : ℕ × Value). is_givable c state g.0) xs ≡ true → Filled c h got xs t all
      → ((go : Here → Numbered Cell → NextStep) → fill_all table c state h gs got go ≡ go t all) → Fills table c state h gs got xs
  lacks : list_all (λ (g : ℕ × Value). is_givable c state g.0) xs ≡ false → ((go : Here → Numbered Cell → NextStep) → fill_all table c state h gs got go ≡ stuck) → Fills table c state h gs got xs

put_after : (got : Numbered Cell) (j : ℕ) (x : Cell) (old : Numbered Value) (k : ℕ) → value_after (put got j x k) (old k) ≡ put (λ i. value_after (got i) (old i)) j x.value k
put_after got j x old k = by_number (nat_eq k j)
  where
    by_number : (b : Bool) → value_after (if b then Some x else got k) (old k) ≡ (if b then Some x.value else value_after (got k) (old k))
    by_number true = refl
    by_number false = refl

got_put : (c : Contract) (got : Numbered Cell) (j : ℕ) (x : Cell) (fd : Field) → Got c got → slice_get c.fields j ≡ Some fd → x.note.kind ≡ kind_of_resolved fd.of → Got c (put got j x)
got_put c got j x fd g ef ek = record { by = λ k y d ey ed. by_number k y d ey ed (same_or k j) }
  where
    by_number : (k : ℕ) (y : Cell) (d : Field) → put got j x k ≡ Some y → slice_get c.fields k ≡ Some d → (k ≡ j) ⊎ (k ≢ j) → y.note.kind ≡ kind_of_resolved d.of
    by_number k y d ey ed (inl e) =
        ap (λ (z : Cell). z.note.kind) (sym (some_same x y (sym (ap (λ b. if b then Some x else got k) (eq-eqb k j e)) ∙ ey)))
        ∙ ek ∙ ap (λ (z : Field). kind_of_resolved z.of) (some_same fd d (sym ef ∙ ap (slice_get c.fields) (sym e) ∙ ed))
    by_number k y d ey ed (inr n) = g.by k y d (sym (put_other got j x k n) ∙ ey) ed

-- one field is given
one_filled : (table : ClassTable) (c : Contract) (state : StateId) (h : Here) (g : Given) (v : Value) (fd : Field) (x : Cell) (b : Bool) → slice_get c.fields g.field.0 ≡ Some fd → read table h (located g.from) ≡ Some x → has_field c (Some state) g.field.0 ≡ b
    → (go : Here → Cell → NextStep) → fill_one table c state h g go ≡ (if b then go (hand fd.of (located g.from) x h) (got_from table fd.of h (located g.from) x) else stuck)
one_filled table c state h g v fd x b ef ex eb go =
    ap (λ o. if_there o (λ (f : Field). if_there (read table h (located g.from)) (λ x. if has_field c (Some state) g.field.0 then go (hand f.of (located g.from) x h) (got_from table f.of h (located g.from) x) else stuck))) ef
    ∙ ap (λ o. if_there o (λ x. if has_field c (Some state) g.field.0 then go (hand fd.of (located g.from) x h) (got_from table fd.of h (located g.from) x) else stuck)) ex
    ∙ ap (λ b. if b then go (hand fd.of (located g.from) x h) (got_from table fd.of h (located g.from) x) else stuck) eb

module _ (program : SilicaProgram) (most : ℕ) (c : Contract) (state : StateId) where
  abbrev table : ClassTable
  table = program.table

  no_field : (n : ℕ) (o : Option Field) → slice_get c.fields n ≡ o → o ≡ None → has_field c (Some state) n ≡ false
  no_field n o e none = ap (λ z. option_map_or (is_available (Some state)) z false) (e ∙ none)

  fill_first : (y : Given) (gs : List Given) (n : ℕ) (v : Value) (xs : List (ℕ × Value)) (h : Here) (got : Numbered Cell) (fd : Field) (x : Cell) → Got c got → y.field.0 ≡ n → x.value ≡ v → slice_get c.fields y.field.0 ≡ Some fd
      → has_field c (Some state) y.field.0 ≡ true → read table h (located y.from) ≡ Some x
      → Fills table c state (hand fd.of (located y.from) x h) gs (put got y.field.0 (got_from table fd.of h (located y.from) x)) xs → Fills table c state h (y ∷ gs) got ((n, v) ∷ xs)
  fill_first y gs n v xs h got fd x g en ev ef eb ex (lacks e stucks) =
      lacks (ap (λ b. b && list_all (λ (z : ℕ × Value). is_givable c state z.0) xs) (ap (has_field c (Some state)) (sym en) ∙ eb) ∙ e)
      (λ go. one_filled table c state h y v fd x true ef ex eb (λ a b. fill_all table c state a gs (put got y.field.0 b) go) ∙ stucks go)
  fill_first y gs n v xs h got fd x g en ev ef eb ex (fills t all e filled goes_on') =
      let cell = got_from table fd.of h (located y.from) x in
      let world_is : (hand fd.of (located y.from) x h).world ≡ comes_into fd.of v h.world = hand_world program most fd.of (located y.from) x h ∙ ap (λ u. comes_into fd.of u h.world) ev in
      fills t all (ap (λ b. b && list_all (λ (z : ℕ × Value). is_givable c state z.0) xs) (ap (has_field c (Some state)) (sym en) ∙ eb) ∙ e)
      (record {
        alike = alike_on (hand_alike program most fd.of (located y.from) x h) filled.alike;
        quiet = quiet_on (subst (Quiet h.world) (sym world_is) (quiet_into fd.of v h.world)) filled.quiet;
        world = filled.world ∙ ap (come_into_fields c xs) (world_is ∙ sym (ap (λ o. option_map_or (λ (d : Field). comes_into d.of v h.world) o h.world) (ap (slice_get c.fields) (sym en) ∙ ef)));
        kinds = filled.kinds;
        values = λ old k. filled.values old k ∙ ap (λ base. put_all base xs k) (fun_ext (λ j.
            put_after got y.field.0 cell old j ∙ ap (λ i. put (λ i. value_after (got i) (old i)) i x.value j) en ∙ ap (λ u. put (λ i. value_after (got i) (old i)) n u j) ev));
      })
      (λ go. one_filled table c state h y v fd x true ef ex eb (λ a b. fill_all table c state a gs (put got y.field.0 b) go) ∙ goes_on' go)

  fill_one_by : (y : Given) (gs : List Given) (n : ℕ) (v : Value) (xs : List (ℕ × Value)) (h : Here) (got : Numbered Cell) → Got c got → y.field.0 ≡ n → value_in (read table h (located y.from)) ≡ Some v → ReadBy table h gs xs
      → ((t : Here) (more : Numbered Cell) → Got c more → ReadBy table t gs xs → Fills table c state t gs more xs)
      → (o : Option Field) (b : Bool) → slice_get c.fields y.field.0 ≡ o → has_field c (Some state) y.field.0 ≡ b → Fills table c state h (y ∷ gs) got ((n, v) ∷ xs)
  fill_one_by y gs n v xs h got g en er rs next None b ef eb =
      lacks (ap (λ b. b && list_all (λ (z : ℕ × Value). is_givable c state z.0) xs) (ap (has_field c (Some state)) (sym en) ∙ no_field y.field.0 None ef refl))
      (λ go. ap (λ o. if_there o (λ (f : Field). if_there (read table h (located y.from)) (λ x. if has_field c (Some state) y.field.0 then fill_all table c state (hand f.of (located y.from) x h) gs (put got y.field.0 (got_from table f.of h (located y.from) x)) go else stuck))) ef)
  fill_one_by y gs n v xs h got g en er rs next (Some fd) false ef eb =
      let x = there (read table h (located y.from)) v er in
      lacks (ap (λ b. b && list_all (λ (z : ℕ × Value). is_givable c state z.0) xs) (ap (has_field c (Some state)) (sym en) ∙ eb)) (λ go. one_filled table c state h y v fd x.0 false ef x.1 eb (λ a b. fill_all table c state a gs (put got y.field.0 b) go))
  fill_one_by y gs n v xs h got g en er rs next (Some fd) true ef eb =
      let x = there (read table h (located y.from)) v er in
      let t = hand fd.of (located y.from) x.0 h in
      let quiet : Quiet h.world t.world = subst (Quiet h.world) (sym (hand_world program most fd.of (located y.from) x.0 h)) (quiet_into fd.of x.0.value h.world) in
      fill_first y gs n v xs h got fd x.0 g en x.2 ef eb x.1
      (next t (put got y.field.0 (got_from table fd.of h (located y.from) x.0)) (got_put c got y.field.0 (got_from table fd.of h (located y.from) x.0) fd g ef refl)
      (read_on table h t gs xs (hand_alike program most fd.of (located y.from) x.0 h) quiet rs))

  pub fill_runs : (gs : List Given) (xs : List (ℕ × Value)) (h : Here) (got : Numbered Cell) → Got c got → ReadBy table h gs xs → Fills table c state h gs got xs
  fill_runs [] [] h got g r =
      fills h got refl (record { alike = alike_self h; quiet = quiet_self h.world; world = refl; kinds = g; values = λ old k. refl }) (λ go. refl)
  fill_runs (y ∷ gs) ((n, v) ∷ xs) h got g r =
      fill_one_by y gs n v xs h got g r.0 r.1 r.2 (λ t more gm rm. fill_runs gs xs t more gm rm) (slice_get c.fields y.field.0) (has_field c (Some state) y.field.0) refl refl
  fill_runs [] (x ∷ xs) h got g r = absurd r
  fill_runs (y ∷ gs) [] h got g r = absurd r
