-- What is so under one context and holdings is so under those that may take the place of them.
use Rattle.std.proofs.Common.{◌≡◌, ⊎_elim, ℕ, ◌<◌, ◌≤◌, Bool, true, false, List, Option, Some, None, refl, sym, ap, ◌∙◌, subst, arith}
use Rattle.std.specs.Prelude.{nat_eq, nat_lt}
use Rattle.std.proofs.lemmas.Bool.{cases_Bool, and_parts, and_from}
use Rattle.ob_perm.specs.Permissions.{Permission, owns}
use Rattle.ob_table.specs.Tables.{ClassTable}
use Rattle.ob_table.specs.declared.seen.Kind.{Kind}
use Rattle.ob_table.specs.declared.seen.Kind.TheVariants.{Int, Bool as BoolKind, Text, Reference}
use Rattle.ob_table_spec.specs.Conditions.{IsClassTable}
use Rattle.ob_table_spec.specs.WellFormed.{serves_as}
use Rattle.ob_heap_spec.specs.Values.{Value, int_value, bool_value, text_value, reference}
use Rattle.ob_heap_spec.specs.Objects.{Object}
use Rattle.ob_silica_places.specs.Known.{Known}
use Rattle.ob_silica_places.specs.Places.{Location, slot, field, this}
use Rattle.ob_silica_steps.specs.Cells.{Cell, permission_in}
use Rattle.ob_silica_steps.specs.Configurations.{SlotCells}
use Rattle.ob_silica_steps.specs.Here.{Here}
use Rattle.ob_silica_formed.specs.Holdings.{Holdings}
use Rattle.ob_flow_spec.specs.Contexts.{BodyFrame, Context, field_count, permission_on, permission_at, is_asset, is_owned_asset}
use Rattle.ob_flow_spec.specs.Joining.{same_mode}
use Rattle.ob_places_laws.proofs.Conversions.{serves_asset}
use Rattle.ob_coherent_spec.specs.Counting.{nth_object, one_if, refers_to, in_cell}
use Rattle.ob_coherent_spec.specs.Standing.{IsOfKind, Stands, AllStand, NeedsOwner}
use Rattle.ob_coherent_spec.specs.Saying.{Agrees, SaysOf, Says, own_cell}
use Rattle.ob_coherent_spec.specs.Remaining.{Leads, AreHeld, HoldToo}

-- Owners.

is_one : (z : Bool) → 0 < one_if z → z ≡ true
is_one true lt = refl
is_one false lt = absurd (omega (arith, lt))

refers_so : (n : ℕ) (v : Value) → refers_to n v ≡ true → v ≡ reference n
refers_so n (int_value z) e = absurd (cc)
refers_so n (bool_value z) e = absurd (cc)
refers_so n (text_value z) e = absurd (cc)
refers_so n (reference m) e = ap reference (same_number m n e)
  where
    same_number : (m n : ℕ) → nat_eq m n ≡ true → m ≡ n
    same_number m n e = grind arith

-- a cell that owns an object refers to it with an owner's permission
pub owner_refers : (n : ℕ) (x : Cell) → 0 < in_cell owns n (Some x) → (owns x.note.permission ≡ true) × (x.value ≡ reference n)
owner_refers n x lt = let r = and_parts (owns x.note.permission) (refers_to n x.value) (is_one _ lt) in (r.0, refers_so n x.value r.1)

kind_of_reference : (table : ClassTable) (objects : List Object) (kind : Kind) (n : ℕ) → IsOfKind table objects kind (reference n)
    → serves_as table kind (Reference (nth_object objects n).contract) ≡ true
kind_of_reference table objects (Reference id) n h = h.1
kind_of_reference table objects Int n h = absurd h
kind_of_reference table objects BoolKind n h = absurd h
kind_of_reference table objects Text n h = absurd h

-- the kind of a place that owns an object that must have an owner is an asset's
pub owner_is_asset : (table : ClassTable) → IsClassTable table → (objects : List Object) (n : ℕ) (x : Cell) → Stands table objects x → NeedsOwner table objects n
    → 0 < in_cell owns n (Some x) → is_asset table x.note.kind ≡ true
owner_is_asset table is objects n x s needs lt =
    serves_asset table is x.note.kind (Reference (nth_object objects n).contract)
    (kind_of_reference table objects x.note.kind n (subst (IsOfKind table objects x.note.kind) (owner_refers n x lt).1 s.kind)) needs.asset

-- what is said of a place is so of what may take the place of it
pub says_weaker : (table : ClassTable) → IsClassTable table → (objects : List Object) (y j : Option Known) (x : Option Cell)
    → ((c : Cell) → x ≡ Some c → Stands table objects c) → ((c : Option Cell) → Agrees y c → Agrees j c)
    → (is_owned_asset table y ≡ true → owns (permission_on j) ≡ true) → SaysOf (NeedsOwner table objects) y x → SaysOf (NeedsOwner table objects) j x
says_weaker table is objects y j x stands known kept s = record { known = known x s.known; owner = λ n needs lt. kept (asset_of y x s n needs stands lt) }
  where
    asset_of : (y : Option Known) (x : Option Cell) → SaysOf (NeedsOwner table objects) y x → (n : ℕ) → NeedsOwner table objects n
        → ((c : Cell) → x ≡ Some c → Stands table objects c) → 0 < in_cell owns n x → is_owned_asset table y ≡ true
    asset_of y None s n needs stands lt = absurd (omega (arith, lt))
    asset_of None (Some c) s n needs stands lt = absurd (let z : owns (permission_on None) ≡ true = s.owner n needs lt in cc)
    asset_of (Some y) (Some c) s n needs stands lt =
        and_from (owns y.permission) (is_asset table y.kind) (s.owner n needs lt)
        (ap (is_asset table) (sym s.known.0) ∙ owner_is_asset table is objects n c (stands c refl) needs lt)

-- Contexts.

no_owner : (n : ℕ) (x : Option Cell) → x ≡ None → 0 < in_cell owns n x → ⊥
no_owner n None e lt = omega (arith, lt)
no_owner n (Some x) e lt = cc

mode_then : (p q r : Permission) → same_mode p q ≡ true → same_mode q r ≡ true → same_mode p r ≡ true
mode_then (Rattle.ob_perm.specs.Permissions.owned a) (Rattle.ob_perm.specs.Permissions.owned b) r e f = f
mode_then (Rattle.ob_perm.specs.Permissions.owned a) Rattle.ob_perm.specs.Permissions.shared r e f = absurd (cc)
mode_then (Rattle.ob_perm.specs.Permissions.owned a) Rattle.ob_perm.specs.Permissions.unowned r e f = absurd (cc)
mode_then Rattle.ob_perm.specs.Permissions.shared (Rattle.ob_perm.specs.Permissions.owned b) r e f = absurd (cc)
mode_then Rattle.ob_perm.specs.Permissions.shared Rattle.ob_perm.specs.Permissions.shared r e f = f
mode_then Rattle.ob_perm.specs.Permissions.shared Rattle.ob_perm.specs.Permissions.unowned r e f = absurd (cc)
mode_then Rattle.ob_perm.specs.Permissions.unowned (Rattle.ob_perm.specs.Permissions.owned b) r e f = absurd (cc)
mode_then Rattle.ob_perm.specs.Permissions.unowned Rattle.ob_perm.specs.Permissions.shared r e f = absurd (cc)
mode_then Rattle.ob_perm.specs.Permissions.unowned Rattle.ob_perm.specs.Permissions.unowned r e f = f

-- What a context says is so of what may take the place of it. Slots past the body's are unset, and no field past the contract's has a
-- value.
pub says_leads : (b : BodyFrame) → IsClassTable b.table → (g j : Context) (h : Here) (free : Location → Bool)
    → AllStand b.table h.world.objects h.slots → AllStand b.table h.world.objects (own_cell h)
    → ((k : ℕ) → b.slots ≤ k → h.slots k ≡ None) → ((k : ℕ) → field_count b ≤ k → own_cell h k ≡ None)
    → Leads b g j → Says b (NeedsOwner b.table h.world.objects) g h free → Says b (NeedsOwner b.table h.world.objects) j h free
says_leads b is g j h free slots fields unset past l s = record {
  slots = λ k e. ⊎_elim
      (λ lt. says_weaker b.table is h.world.objects (g (slot k)) (j (slot k)) (h.slots k) (λ c. slots k c) (l.known (slot k)) (l.kept (slot k) (below k b.slots lt)) (s.slots k e))
      (λ ge. record { known = l.known (slot k) (h.slots k) (s.slots k e).known; owner = λ n needs lt. absurd (no_owner n (h.slots k) (unset k (above k b.slots ge)) lt) })
      (cases_Bool (nat_lt k b.slots));
  fields = λ k there e. ⊎_elim
      (λ lt. says_weaker b.table is h.world.objects (g (field k)) (j (field k)) (own_cell h k) (λ c. fields k c) (l.known (field k)) (l.kept (field k) (below k (field_count b) lt)) (s.fields k there e))
      (λ ge. record { known = l.known (field k) (own_cell h k) (s.fields k there e).known; owner = λ n needs lt. absurd (no_owner n (own_cell h k) (past k (above k (field_count b) ge)) lt) })
      (cases_Bool (nat_lt k (field_count b)));
  mode = λ e. mode_then (permission_at j this) (permission_at g this) (permission_in (h.slots 0)) l.mode (s.mode e);
}
  where
    below : (k n : ℕ) → nat_lt k n ≡ true → k < n
    below k n e = grind arith

    above : (k n : ℕ) → nat_lt k n ≡ false → n ≤ k
    above k n e = grind arith

-- Holdings.

-- slots that hold as the first says hold as the second says
pub held_too : (h i : Holdings) (slots : SlotCells) (free : Location → Bool) → HoldToo h i → AreHeld h slots free → AreHeld i slots free
held_too h i slots free too held k x e is = record {
  kind = λ kind q. (held k x e is).kind kind ((too k).kind kind q);
  refers = λ q. (too k).refers ((held k x e is).refers q);
}
