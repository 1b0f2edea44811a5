-- What marks, sets of fields and handing over leave as it was.
use Rattle.std.proofs.Common.{◌≡◌, ◌≢◌, ℕ, zero, suc, Bool, true, false, List, [], ◌∷◌, Option, Some, None, refl, sym, ap, ◌∙◌, subst, eq-eqb, eqb-true, true≢false, ◌⊎◌, inl, inr, le_of_eq}
use Rattle.std.specs.Prelude.{option_map, option_and_then, slice_get, slice_set, nat_eq, if◌then◌else◌}
use Rattle.std.specs.Option.{option_map_or}
use Rattle.ob_base.specs.declared.id.ContractId.{ContractId}
use Rattle.ob_base.specs.declared.id.StateId.{StateId}
use Rattle.ob_perm.specs.Permissions.{Permission}
use Rattle.ob_table.specs.Tables.{ClassTable, contract_at}
use Rattle.ob_table.specs.declared.contract.ResolvedType.{ResolvedType}
use Rattle.ob_table.specs.declared.contract.ResolvedType.TheVariants.{Int, Bool as BoolKind, Text, Reference}
use Rattle.ob_table.specs.declared.contract.Field.{Field}
use Rattle.ob_table_spec.specs.WellFormed.{kind_of_resolved}
use Rattle.ob_heap_spec.specs.Values.{Value, int_value, bool_value, text_value, reference, Numbered}
use Rattle.ob_heap_spec.specs.Objects.{Object}
use Rattle.ob_heap_spec.specs.Contents.{object_at}
use Rattle.ob_heap_spec.specs.Worlds.{World, object_item, is_made, with_read, read_object, set_object, edit_object}
use Rattle.ob_heap_spec.specs.Marks.{has_mark, mark_shared, mark_disowned, comes_into}
use Rattle.ob_silica_steps.specs.Cells.{Cell, noted}
use Rattle.ob_silica_places.specs.Known.{Known, known}
use Rattle.ob_silica_places.specs.Places.{Location, slot, field}
use Rattle.ob_silica_steps.specs.Configurations.{Notes}
use Rattle.ob_silica_steps.specs.Here.{Here, self_of, field_of, set_permission}
use Rattle.ob_silica_places.specs.Known.{at}
use Rattle.ob_lower_correct.proofs.Standing.{shape, Later, Noted, none_some, some_same}

-- Numbers.

-- what is the same of what is put at a number is the same everywhere
pub at_alike : {A B : Type 0} (g : A → B) (xs : ℕ → A) (k : ℕ) (x : A) → g x ≡ g (xs k) → (n : ℕ) → g (at xs k x n) ≡ g (xs n)
at_alike g xs k x e n = go (nat_eq n k) refl
  where
    go : (b : Bool) → nat_eq n k ≡ b → g (if b then x else xs n) ≡ g (xs n)
    go true h = e ∙ ap (λ m. g (xs m)) (sym (eqb-true n k h))
    go false h = refl

get_set_same : {A : Type 0} (xs : List A) (n : ℕ) (x y : A) → slice_get xs n ≡ Some x → slice_get (slice_set xs n y) n ≡ Some y
get_set_same [] n x y e = absurd (none_some e)
get_set_same (z ∷ xs) zero x y e = refl
get_set_same (z ∷ xs) (suc n) x y e = get_set_same xs n x y e

get_set_other : {A : Type 0} (xs : List A) (n m : ℕ) (y : A) → m ≢ n → slice_get (slice_set xs n y) m ≡ slice_get xs m
get_set_other [] n m y h = refl
get_set_other (z ∷ xs) zero zero y h = absurd (h refl)
get_set_other (z ∷ xs) zero (suc m) y h = refl
get_set_other (z ∷ xs) (suc n) zero y h = refl
get_set_other (z ∷ xs) (suc n) (suc m) y h = get_set_other xs n m y (λ e. h (ap suc e))

-- the same number or another
pub same_or : (n m : ℕ) → (n ≡ m) ⊎ (n ≢ m)
same_or n m = go (nat_eq n m) refl
  where
    go : (b : Bool) → nat_eq n m ≡ b → (n ≡ m) ⊎ (n ≢ m)
    go true h = inl (eqb-true n m h)
    go false h = inr (λ e. true≢false (sym (eq-eqb n m e) ∙ h))

-- Objects.

pub edit_some : (g : Object → Object) (n : ℕ) (w : World) (o : Object) → object_at w.objects n ≡ Some o → edit_object g n w ≡ set_object w n (g o)
edit_some g n w o e = ap (λ x. option_map_or (λ y. set_object w n (g y)) x w) e

pub edit_none : (g : Object → Object) (n : ℕ) (w : World) → object_at w.objects n ≡ None → edit_object g n w ≡ w
edit_none g n w e = ap (λ x. option_map_or (λ y. set_object w n (g y)) x w) e

-- the objects after an edit
pub edited : (g : Object → Object) (n : ℕ) (w : World) (o : Object) → object_at w.objects n ≡ Some o → object_at (edit_object g n w).objects n ≡ Some (g o)
edited g n w o e = ap (λ v. object_at v.objects n) (edit_some g n w o e) ∙ get_set_same w.objects n o (g o) e

pub edited_other : (g : Object → Object) (n : ℕ) (w : World) (m : ℕ) → m ≢ n → object_at (edit_object g n w).objects m ≡ object_at w.objects m
edited_other g n w m h = go (object_at w.objects n) refl
  where
    go : (o : Option Object) → object_at w.objects n ≡ o → object_at (edit_object g n w).objects m ≡ object_at w.objects m
    go None e = ap (λ v. object_at v.objects m) (edit_none g n w e)
    go (Some o) e = ap (λ v. object_at v.objects m) (edit_some g n w o e) ∙ get_set_other w.objects n m (g o) h

pub edited_fuel : (g : Object → Object) (n : ℕ) (w : World) → (edit_object g n w).fuel ≡ w.fuel
edited_fuel g n w = go (object_at w.objects n) refl
  where
    go : (o : Option Object) → object_at w.objects n ≡ o → (edit_object g n w).fuel ≡ w.fuel
    go None e = ap (λ (v : World). v.fuel) (edit_none g n w e)
    go (Some o) e = ap (λ (v : World). v.fuel) (edit_some g n w o e)

-- an object without its marks
abbrev pub bare : Object → ContractId × Option StateId × Numbered Value
bare o = (o.contract, o.state, o.fields)

abbrev pub bare_at : World → ℕ → Option (ContractId × Option StateId × Numbered Value)
bare_at w n = option_map bare (object_at w.objects n)

-- nothing but marks, reads and what is no object has changed
pub record Quiet (w v : World) : Type 0 where
  pub by : (n : ℕ) → bare_at v n ≡ bare_at w n
  pub fuel : v.fuel ≡ w.fuel

pub quiet_self : (w : World) → Quiet w w
quiet_self w = record { by = λ n. refl; fuel = refl }

pub quiet_on : {w v u : World} → Quiet w v → Quiet v u → Quiet w u
quiet_on a b = record { by = λ n. b.by n ∙ a.by n; fuel = b.fuel ∙ a.fuel }

pub quiet_read : (w : World) (n : ℕ) → Quiet w (read_object w n)
quiet_read w n = go (is_made w n)
  where
    go : (b : Bool) → Quiet w (if b then w else with_read w (object_item n))
    go true = quiet_self w
    go false = record { by = λ n. refl; fuel = refl }

pub quiet_edit : (g : Object → Object) → ((o : Object) → bare (g o) ≡ bare o) → (n : ℕ) (w : World) → Quiet w (edit_object g n w)
quiet_edit g same n w = record { by = λ m. at_number m (same_or m n); fuel = edited_fuel g n w }
  where
    at_it : (o : Option Object) → object_at w.objects n ≡ o → bare_at (edit_object g n w) n ≡ bare_at w n
    at_it None e = ap (λ v. bare_at v n) (edit_none g n w e)
    at_it (Some o) e = ap (option_map bare) (edited g n w o e) ∙ ap Some (same o) ∙ sym (ap (option_map bare) e)

    at_number : (m : ℕ) → (m ≡ n) ⊎ (m ≢ n) → bare_at (edit_object g n w) m ≡ bare_at w m
    at_number m (inl e) = subst (λ i. bare_at (edit_object g n w) i ≡ bare_at w i) (sym e) (at_it (object_at w.objects n) refl)
    at_number m (inr h) = ap (option_map bare) (edited_other g n w m h)

quiet_unless : (b : Bool) (w v u : World) → Quiet w v → Quiet v u → Quiet w (if b then v else u)
quiet_unless true w v u a b = a
quiet_unless false w v u a b = quiet_on a b

pub quiet_shared : (n : ℕ) (w : World) → Quiet w (mark_shared n w)
quiet_shared n w =
    quiet_unless (has_mark (λ o. o.shared) (read_object w n) n) w (read_object w n) _ (quiet_read w n)
    (quiet_edit (λ o. record o { shared = true }) (λ o. refl) n (read_object w n))

pub quiet_disowned : (n : ℕ) (w : World) → Quiet w (mark_disowned n w)
quiet_disowned n w =
    quiet_unless (has_mark (λ o. o.disowned) (read_object w n) n) w (read_object w n) _ (quiet_read w n)
    (quiet_edit (λ o. record o { disowned = true }) (λ o. refl) n (read_object w n))

quiet_if : (b : Bool) (n : ℕ) (w : World) → Quiet w (if b then mark_shared n w else w)
quiet_if true n w = quiet_shared n w
quiet_if false n w = quiet_self w

pub quiet_into : (of : ResolvedType) (v : Value) (w : World) → Quiet w (comes_into of v w)
quiet_into (Reference id p) (reference n) w = quiet_if _ n w
quiet_into (Reference id p) (int_value z) w = quiet_self w
quiet_into (Reference id p) (bool_value b) w = quiet_self w
quiet_into (Reference id p) (text_value bytes) w = quiet_self w
quiet_into Int v w = quiet_self w
quiet_into BoolKind v w = quiet_self w
quiet_into Text v w = quiet_self w

-- an object that is there but for its marks
pub bare_there : (x : Option Object) (o : Object) → option_map bare x ≡ option_map bare (Some o) → (p : Object) × (x ≡ Some p) × (bare p ≡ bare o)
bare_there None o e = absurd (none_some e)
bare_there (Some p) o e = (p, refl, some_same (bare p) (bare o) e)

pub quiet_object : {w v : World} → Quiet w v → (n : ℕ) (o : Object) → object_at w.objects n ≡ Some o → (p : Object) × (object_at v.objects n ≡ Some p) × (bare p ≡ bare o)
quiet_object {v = v} q n o e = bare_there (object_at v.objects n) o (q.by n ∙ ap (option_map bare) e)

pub quiet_back : {w v : World} → Quiet w v → Quiet v w
quiet_back q = record { by = λ n. sym (q.by n); fuel = sym q.fuel }

pub quiet_later : {w v : World} → Quiet w v → Later w v
quiet_later q = record { by = λ n o e. let x = quiet_object q n o e in (x.0, x.1, ap (λ y. y.0) x.2); fuel = le_of_eq q.fuel }

-- What is noted.

-- only permissions differ
pub record Alike (h t : Here) : Type 0 where
  pub slots : (n : ℕ) → shape (t.slots n) ≡ shape (h.slots n)
  pub notes : (n k : ℕ) → (t.notes.fields n k).kind ≡ (h.notes.fields n k).kind

pub alike_self : (h : Here) → Alike h h
alike_self h = record { slots = λ n. refl; notes = λ n k. refl }

pub alike_on : {h t r : Here} → Alike h t → Alike t r → Alike h r
alike_on a b = record { slots = λ n. b.slots n ∙ a.slots n; notes = λ n k. b.notes n k ∙ a.notes n k }

noted_shape : (p : Permission) (c : Option Cell) → shape (option_map (noted p) c) ≡ shape c
noted_shape p None = refl
noted_shape p (Some x) = refl

pub permission_alike : (place : Location) (p : Permission) (h : Here) → Alike h (set_permission place p h)
permission_alike (slot k) p h = record { slots = λ n. at_alike shape h.slots k (option_map (noted p) (h.slots k)) (noted_shape p (h.slots k)) n; notes = λ n k. refl }
permission_alike (field k) p h =
    let self = self_of h.slots in
    let note = known (h.notes.fields self k).kind p in
    record {
      slots = λ n. refl;
      notes = λ n j. at_alike (λ (xs : ℕ → Known). (xs j).kind) h.notes.fields self (at (h.notes.fields self) k note)
          (at_alike (λ (x : Known). x.kind) (h.notes.fields self) k note refl j) n;
    }

pub noted_quiet : {table : ClassTable} {notes more : Notes} {w v : World} → Noted table notes w.objects → Quiet w v → ((n k : ℕ) → (more.fields n k).kind ≡ (notes.fields n k).kind) → Noted table more v.objects
noted_quiet {table} {w = w} a q same = record {
  by = λ n k o f u e ef ev.
      let x = quiet_object (quiet_back q) n o e in
      same n k ∙ a.by n k x.0 f u x.1 (ap (λ y. option_and_then (λ c. slice_get c.fields k) (contract_at table y.0)) x.2 ∙ ef) (ap (λ y. y.2 k) x.2 ∙ ev);
}

-- Fields.

-- contracts stay
pub later_edit : (g : Object → Object) → ((o : Object) → (g o).contract ≡ o.contract) → (n : ℕ) (w : World) → Later w (edit_object g n w)
later_edit g same n w = record { by = λ m o e. at_number m o e (same_or m n); fuel = le_of_eq (edited_fuel g n w) }
  where
    at_number : (m : ℕ) (o : Object) → object_at w.objects m ≡ Some o → (m ≡ n) ⊎ (m ≢ n) → (p : Object) × (object_at (edit_object g n w).objects m ≡ Some p) × (p.contract ≡ o.contract)
    at_number m o e (inl h) = (g o, ap (λ i. object_at (edit_object g n w).objects i) h ∙ edited g n w o (ap (λ i. object_at w.objects i) (sym h) ∙ e), same o)
    at_number m o e (inr h) = (o, edited_other g n w m h ∙ e, refl)

-- what is noted after an edit of one object, if the notes of others stay
pub noted_edit : (table : ClassTable) (notes more : Notes) (g : Object → Object) (n : ℕ) (w : World) → Noted table notes w.objects
    → ((m : ℕ) → m ≢ n → (k : ℕ) → (more.fields m k).kind ≡ (notes.fields m k).kind)
    → ((o : Object) → object_at w.objects n ≡ Some o → (k : ℕ) (f : Field) (v : Value) → field_of table (g o) k ≡ Some f → (g o).fields k ≡ Some v → (more.fields n k).kind ≡ kind_of_resolved f.of)
    → Noted table more (edit_object g n w).objects
noted_edit table notes more g n w a others here = record { by = λ m k o f v eo ef ev. at_number m k o f v eo ef ev (same_or m n) }
  where
    at_it : (x : Option Object) → object_at w.objects n ≡ x → (k : ℕ) (o : Object) (f : Field) (v : Value) → object_at (edit_object g n w).objects n ≡ Some o → field_of table o k ≡ Some f → o.fields k ≡ Some v → (more.fields n k).kind ≡ kind_of_resolved f.of
    at_it None e k o f v eo ef ev = absurd (none_some (sym e ∙ ap (λ u. object_at u.objects n) (sym (edit_none g n w e)) ∙ eo))
    at_it (Some x) e k o f v eo ef ev =
        let same : g x ≡ o = some_same (g x) o (sym (edited g n w x e) ∙ eo) in
        here x e k f v (ap (λ y. field_of table y k) same ∙ ef) (ap (λ (y : Object). y.fields k) same ∙ ev)

    at_number : (m k : ℕ) (o : Object) (f : Field) (v : Value) → object_at (edit_object g n w).objects m ≡ Some o → field_of table o k ≡ Some f → o.fields k ≡ Some v → (m ≡ n) ⊎ (m ≢ n) → (more.fields m k).kind ≡ kind_of_resolved f.of
    at_number m k o f v eo ef ev (inl h) =
        subst (λ i. (more.fields i k).kind ≡ kind_of_resolved f.of) (sym h)
        (at_it (object_at w.objects n) refl k o f v (ap (λ i. object_at (edit_object g n w).objects i) (sym h) ∙ eo) ef ev)
    at_number m k o f v eo ef ev (inr h) = others m h k ∙ a.by m k o f v (sym (edited_other g n w m h) ∙ eo) ef ev
