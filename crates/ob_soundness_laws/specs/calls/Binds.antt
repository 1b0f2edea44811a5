-- What is so while a call binds its receiver and its arguments (Coblenz et al., TOPLAS 42(3), 2020, "Silica"; the
-- statements are this project's own).
use Rattle.std.specs.Prelude.{◌≡◌, ℕ, suc, ◌+◌, ◌<◌, ◌≤◌, ◌⊎◌, true, false, List, [], ◌∷◌, ◌++◌, map, length, Some, None, ⊤}
use Rattle.ob_perm.specs.Permissions.{shared, unowned, owns}
use Rattle.ob_table.specs.Tables.{ClassTable}
use Rattle.ob_table_spec.specs.WellFormed.{kind_of_resolved, serves_as}
use Rattle.ob_heap_spec.specs.Values.{reference}
use Rattle.ob_silica_places.specs.Parameters.{Parameter}
use Rattle.ob_silica_places.specs.Places.{Location}
use Rattle.ob_silica_steps.specs.Cells.{Cell}
use Rattle.ob_silica_steps.specs.Configurations.{Loan, Configuration}
use Rattle.ob_silica_steps.specs.Here.{Here, here}
use Rattle.ob_silica_steps.specs.Binding.{Bound, bound_cell, loan_of}
use Rattle.ob_flow_spec.specs.Contexts.{Context, is_set}
use Rattle.ob_flow_spec.specs.Uses.{Read, kind_known}
use Rattle.ob_flow_spec.specs.Binding.{wants_owner, is_among, given_all}
use Rattle.ob_coherent_spec.specs.Counting.{Counted, any, nth_object, in_slots, in_objects, in_waiting, in_handles}
use Rattle.ob_coherent_spec.specs.Runs.{constructions}
use Rattle.ob_coherent_spec.specs.Standing.{AllStand, NeedsOwner}
use Rattle.ob_coherent_spec.specs.Remaining.{BodyParts, body_of, IsPlaceIn}
use Rattle.ob_soundness_laws.specs.places.Placed.{cell_at, Stays, Sits, IsAlike}
use Rattle.ob_soundness_laws.specs.calls.Bound.{AreBound}

-- in the slots of a frame and in the fields of all objects
abbrev pub in_frame : Counted → ℕ → Here → ℕ
in_frame counts n h = in_slots counts n h.slots + in_objects counts n h.notes h.world.objects

-- in what the caller is left with, and in the slots that are bound
abbrev pub in_both : Counted → ℕ → Bound → ℕ
in_both counts n b = in_frame counts n b.from + in_slots counts n b.slots

-- in frames that wait and in handles
abbrev pub in_rest : Counted → ℕ → Configuration → ℕ
in_rest counts n c = in_waiting counts n c.stack + in_handles counts n c.notes.handles

-- What is bound from a configuration, where the caller's context is this by now and slots below a number may be
-- bound. The
-- caller's places keep values and kinds; objects gain no owners, and those that must have one keep it; where a place
-- or a mark
-- has come to be Shared no owner is left; and no object under construction is referred to once more.
pub record Binds (table : ClassTable) (c : Configuration) (parts : BodyParts) (b : Bound) (g : Context)
    (n : ℕ) : Type 0 where
  pub stays : Stays (here c) b.from
  pub sits : Sits table c.frame parts b.from g
  pub alike : (q : Location) → IsAlike (cell_at (here c) q) (cell_at b.from q)
  pub unset : (q : Location) → cell_at (here c) q ≡ None → cell_at b.from q ≡ None
  pub shares : (q : Location) (x y : Cell) → cell_at (here c) q ≡ Some x → cell_at b.from q ≡ Some y
      → y.note.permission ≡ shared
      → (x.note.permission ≡ shared) ⊎ ((m : ℕ) → x.value ≡ reference m → in_both owns m b + in_rest owns m c ≡ 0)
  pub fewer : (m : ℕ) → in_both owns m b ≤ in_frame owns m (here c)
  pub assets : (m : ℕ) → NeedsOwner table b.from.world.objects m → in_frame owns m (here c) ≤ in_both owns m b
  pub newly : (m : ℕ) → (nth_object c.world.objects m).shared ≡ false
      → (nth_object b.from.world.objects m).shared ≡ true
      → in_both owns m b + in_rest owns m c ≡ 0
  pub disowned : (m : ℕ) → (nth_object b.from.world.objects m).disowned ≡ (nth_object c.world.objects m).disowned
  pub refers : (m : ℕ) → 0 < constructions m c → in_both any m b ≡ in_frame any m (here c)
  pub bound : AllStand table b.from.world.objects b.slots
  pub above : (k : ℕ) → n ≤ k → b.slots k ≡ None

-- Parameters in turn.

-- a place that was given to an owner is Unowned, and the slot of its parameter has the value
pub record IsLent (g : Context) (b : Bound) (place : Location) (p : Parameter) (n : ℕ) : Type 0 where
  pub cell : Cell
  pub is : cell_at b.from place ≡ Some cell
  pub lent : cell.note.permission ≡ unowned
  pub kind : cell.note.kind ≡ kind_known (g place)
  pub known : is_set (g place) ≡ true
  pub given : b.slots n ≡ Some (bound_cell p.of cell.value)

-- each place that was given to an owner
abbrev pub AreLent : Context → Bound → List Read → List Parameter → ℕ → Type 0
AreLent g b [] ps n = ⊤
AreLent g b (r ∷ rs) [] n = ⊤
AreLent g b (r ∷ rs) (p ∷ ps) n = (wants_owner p ≡ true → IsLent g b r.location p n) × AreLent g b rs ps (suc n)

-- the loans of what is given to owners, from this slot on
abbrev pub lent_all : ClassTable → Context → List Read → List Parameter → ℕ → List Loan
lent_all table g [] ps n = []
lent_all table g (r ∷ rs) [] n = []
lent_all table g (r ∷ rs) (p ∷ ps) n =
    loan_of table r.location n p (record { kind = kind_known (g r.location); permission = unowned })
    ++ lent_all table g rs ps (suc n)

-- no place that is given to an owner is given again
abbrev pub AreOnce : List Read → List Parameter → Type 0
AreOnce [] ps = ⊤
AreOnce (r ∷ rs) [] = ⊤
AreOnce (r ∷ rs) (p ∷ ps) = (wants_owner p ≡ true → is_among r.location rs ≡ false) × AreOnce rs ps

-- there are as many places as parameters; each is one of the body, and its value serves as one of its parameter
abbrev pub ArePassedTo : ClassTable → Configuration → BodyParts → List Read → List Parameter → Type 0
ArePassedTo table c parts [] [] = ⊤
ArePassedTo table c parts [] (p ∷ ps) = ⊥
ArePassedTo table c parts (r ∷ rs) [] = ⊥
ArePassedTo table c parts (r ∷ rs) (p ∷ ps) =
    IsPlaceIn (body_of table c.frame parts) r.location
    × ((x : Cell) → cell_at (here c) r.location ≡ Some x → serves_as table (kind_of_resolved p.of) x.note.kind ≡ true)
    × ArePassedTo table c parts rs ps

-- the slot of the first parameter has the value of the first place
abbrev pub HasFirst : Configuration → Bound → List Read → List Parameter → ℕ → Type 0
HasFirst c b [] ps n = ⊤
HasFirst c b (r ∷ rs) [] n = ⊤
HasFirst c b (r ∷ rs) (p ∷ ps) n =
    (x : Cell) → cell_at (here c) r.location ≡ Some x → b.slots n ≡ Some (bound_cell p.of x.value)

-- the places that are read
abbrev pub places_of : List Read → List Location
places_of rs = map (λ (r : Read). r.location) rs

-- What the binding of these places to these parameters comes to, from what was bound before with the first context;
-- the kinds
-- that are known are those of the other one.
pub record AllBound (table : ClassTable) (c : Configuration) (parts : BodyParts) (known g : Context) (b : Bound)
    (rs : List Read)
    (ps : List Parameter) (n : ℕ) (next : Bound) : Type 0 where
  pub binds : Binds table c parts next (given_all g rs ps) (n + length ps)
  pub stays : Stays b.from next.from
  pub bound : AreBound table next.from.world.objects next.slots n ps
  pub before : (k : ℕ) → k < n → next.slots k ≡ b.slots k
  pub untouched : (q : Location) → is_among q rs ≡ false → cell_at next.from q ≡ cell_at b.from q
  pub loans : next.loans ≡ b.loans ++ lent_all table known rs ps n
  pub lent : AreLent known next rs ps n
  pub first : HasFirst c next rs ps n
