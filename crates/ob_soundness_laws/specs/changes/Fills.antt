-- What is so while a change of state gives fields their values (Coblenz et al., TOPLAS 42(3), 2020, "Silica"; the
-- statements are this project's own).
use Rattle.std.specs.Prelude.{◌≡◌, ◌≢◌, ℕ, ◌+◌, ◌<◌, ◌≤◌, ◌⊎◌, true, false, List, [], ◌∷◌, Option, Some, None, slice_get, ⊤}
use Rattle.ob_base.specs.declared.id.StateId.{StateId}
use Rattle.ob_perm.specs.Permissions.{shared, owns, is_unowned}
use Rattle.ob_table.specs.Tables.{ClassTable}
use Rattle.ob_table.specs.declared.contract.Contract.{Contract}
use Rattle.ob_table.specs.declared.contract.Field.{Field}
use Rattle.ob_table_spec.specs.WellFormed.{kind_of_resolved, serves_as}
use Rattle.ob_heap_spec.specs.Values.{reference, Numbered}
use Rattle.ob_heap_spec.specs.Objects.{Object, has_field}
use Rattle.ob_silica.specs.declared.place.Given.{Given}
use Rattle.ob_silica_places.specs.Known.{Known}
use Rattle.ob_silica_places.specs.Places.{Location, slot, field, this, located}
use Rattle.ob_silica_steps.specs.Cells.{Cell}
use Rattle.ob_silica_steps.specs.Configurations.{Configuration}
use Rattle.ob_silica_steps.specs.Here.{Here, here}
use Rattle.ob_flow_spec.specs.Contexts.{Context, permission_at, type_of_field}
use Rattle.ob_coherent_spec.specs.Counting.{Counted, any, nth_object, sum_below, fields_counted, in_cell}
use Rattle.ob_coherent_spec.specs.Runs.{constructions}
use Rattle.ob_coherent_spec.specs.Standing.{Stands, NeedsOwner}
use Rattle.ob_coherent_spec.specs.Saying.{SaysOf}
use Rattle.ob_coherent_spec.specs.Remaining.{BodyParts, body_of, IsPlaceIn}
use Rattle.ob_soundness_laws.specs.calls.Binds.{in_frame, in_rest}
use Rattle.ob_soundness_laws.specs.places.Placed.{cell_at, Stays, Sits, IsAlike}

-- in what fields are given
abbrev pub in_cells : Counted → ℕ → Numbered Cell → ℕ
in_cells counts n got = sum_below fields_counted (λ k. in_cell counts n (got k))

-- in what the frame is left with, and in what fields are given
abbrev pub in_both : Counted → ℕ → Here → Numbered Cell → ℕ
in_both counts n h got = in_frame counts n h + in_cells counts n got

-- what a field gets stands, is known so, is of the field's kind, and the new state has the field
pub record IsGot (table : ClassTable) (objects : List Object) (own : Contract) (s : StateId) (said : Option Known)
    (f : ℕ)
    (x : Cell) : Type 0 where
  pub stands : Stands table objects x
  pub says : SaysOf (NeedsOwner table objects) said (Some x)
  pub field : Field
  pub is : slice_get own.fields f ≡ Some field
  pub has : has_field own (Some s) f ≡ true
  pub kind : x.note.kind ≡ kind_of_resolved field.of

-- What is given from a configuration, where the frame's context is this by now, and `said` tells of fields what they
-- got and of other places the same as `last`. The frame's places keep values and kinds; objects gain no owners, and
-- those that must have one keep it; where a place or a mark has come to be Shared no owner is left; and no object under
-- construction is referred to once more.
pub record Fills (table : ClassTable) (c : Configuration) (parts : BodyParts) (s : StateId) (last : Context) (h : Here)
    (got : Numbered Cell) (g said : Context) : Type 0 where
  pub stays : Stays (here c) h
  pub sits : Sits table c.frame parts h g
  pub alike : (q : Location) → IsAlike (cell_at (here c) q) (cell_at h q)
  pub unset : (q : Location) → cell_at (here c) q ≡ None → cell_at h q ≡ None
  pub shares : (q : Location) (x y : Cell) → cell_at (here c) q ≡ Some x → cell_at h q ≡ Some y
      → y.note.permission ≡ shared
      → (x.note.permission ≡ shared) ⊎ ((m : ℕ) → x.value ≡ reference m → in_both owns m h got + in_rest owns m c ≡ 0)
  pub fewer : (m : ℕ) → in_both owns m h got ≤ in_frame owns m (here c)
  pub assets : (m : ℕ) → NeedsOwner table h.world.objects m → in_frame owns m (here c) ≤ in_both owns m h got
  pub newly : (m : ℕ) → (nth_object c.world.objects m).shared ≡ false → (nth_object h.world.objects m).shared ≡ true
      → in_both owns m h got + in_rest owns m c ≡ 0
  pub disowned : (m : ℕ) → (nth_object h.world.objects m).disowned ≡ (nth_object c.world.objects m).disowned
  pub refers : (m : ℕ) → 0 < constructions m c → in_both any m h got ≡ in_frame any m (here c)
  -- `this` isn't Unowned
  pub say : is_unowned (permission_at g this) ≡ false
  -- what was got, and what is said of it
  pub cells : (f : ℕ) (x : Cell) → got f ≡ Some x → IsGot table h.world.objects parts.own s (said (field f)) f x
  pub rest : (f : ℕ) → got f ≡ None → said (field f) ≡ last (field f)
  pub others : (k : ℕ) → said (slot k) ≡ last (slot k)

-- A place can be given to a field: it is one of the body, its value serves as one of the field, and the new state has
-- that field.
pub record CanTake (table : ClassTable) (c : Configuration) (parts : BodyParts) (s : StateId) (x : Given) : Type 0 where
  pub inside : IsPlaceIn (body_of table c.frame parts) (located x.from)
  pub serves : (y : Cell) → cell_at (here c) (located x.from) ≡ Some y
      → serves_as table (kind_of_resolved (type_of_field (body_of table c.frame parts) x.field.0)) y.note.kind ≡ true
  pub has : has_field parts.own (Some s) x.field.0 ≡ true

-- each of them can
abbrev pub CanTakeAll : ClassTable → Configuration → BodyParts → StateId → List Given → Type 0
CanTakeAll table c parts s [] = ⊤
CanTakeAll table c parts s (x ∷ xs) = CanTake table c parts s x × CanTakeAll table c parts s xs

-- a field isn't one of these
abbrev pub IsNew : ℕ → List Given → Type 0
IsNew f [] = ⊤
IsNew f (x ∷ xs) = (f ≢ x.field.0) × IsNew f xs

-- no field is given twice
abbrev pub EachOnce : List Given → Type 0
EachOnce [] = ⊤
EachOnce (x ∷ xs) = IsNew x.field.0 xs × EachOnce xs
