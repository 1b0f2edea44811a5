-- What a delta makes of a content (this project's own).
use Rattle.std.specs.Prelude.{◌≡◌, ℕ, suc, ◌+◌, ◌≤◌, ⊤, Bool, false, not, nat_lt, List, [], ◌∷◌, length, slice_get, Option, Some, None, AllPairs, if◌then◌else◌}
use Rattle.std.specs.Option.{option_map_or, option_or}
use Rattle.std.specs.Ordering.{is_eq, eq_by_cmp}
use Rattle.std.specs.FinMap.Entries.{put as put_key, where_key}
use Rattle.std.specs.declared.cmp.Ordering.{Ordering}
use Rattle.std.specs.declared.cmp.Ordering.TheVariants.{Less}
use Rattle.ob_base.specs.declared.id.ObjectId.{ObjectId}
use Rattle.ob_base.specs.declared.name.Label.{Label}
use Rattle.ob_heap.specs.declared.object.Object.{Object}
use Rattle.ob_heap.specs.declared.object.Handle.{Handle}
use Rattle.ob_heap.specs.declared.delta.Delta.{Delta}
use Rattle.ob_heap.specs.Ascending.{IsAscending}
use Rattle.ob_heap.specs.Contents.{Stored, name_of}
use Rattle.ob_heap.specs.Differences.{with_objects}
use Rattle.ob_heap_spec.specs.Contents.{HandleName, name_order}

-- the order of two names of handles
abbrev pub label_order : Label × Label → Label × Label → Ordering
label_order a b = name_order (name_of a) (name_of b)

-- whether a place is that of the handle of a name
abbrev pub is_name_at : HandleName → List ((Label × Label) × Handle) → ℕ → Bool
is_name_at n hs i = option_map_or (λ (h : (Label × Label) × Handle). is_eq (name_order (name_of h.0) n)) (slice_get hs i) false

-- the handles, in the order of their names, with this one among them; another of its name goes
abbrev pub with_handle : Label × Label → Handle → List ((Label × Label) × Handle) → List ((Label × Label) × Handle)
with_handle n h hs = put_key label_order n h hs

-- the handles without that of a name
abbrev pub without_handle : Label × Label → List ((Label × Label) × Handle) → List ((Label × Label) × Handle)
without_handle n hs = where_key label_order (λ other. not (eq_by_cmp label_order n other)) hs

-- the handles after a change of one: it is there then, or none of its name is
abbrev pub with_change : Label × Label → Option Handle → List ((Label × Label) × Handle) → List ((Label × Label) × Handle)
with_change n None hs = without_handle n hs
with_change n (Some h) hs = with_handle n h hs

-- the handles after these changes, one after another
abbrev pub with_handles : List ((Label × Label) × Handle) → List ((Label × Label) × Option Handle) → List ((Label × Label) × Handle)
with_handles hs [] = hs
with_handles hs (d ∷ ds) = with_handles (with_change d.0 d.1 hs) ds

-- what the last of these changes of a name says of it, if one does: that there is a handle, or none
abbrev pub change_at : HandleName → List ((Label × Label) × Option Handle) → Option (Option Handle)
change_at n [] = None
change_at n (d ∷ ds) = option_or (change_at n ds) (if is_eq (name_order (name_of d.0) n) then Some d.1 else None)

-- those of these objects that are past so many have the next numbers
abbrev pub AreNext : ℕ → List (ObjectId × Object) → Type 0
AreNext count [] = ⊤
AreNext count (e ∷ es) = (e.0.0 ≤ count) × AreNext (if nat_lt e.0.0 count then count else suc count) es

-- A delta is one of a content: its objects stand in the order of their numbers, each once, those past the content's
-- have the next numbers, and its handles stand in the order of their names, each once.
pub record IsDelta (c : Stored) (d : Delta) : Type 0 where
  pub objects : IsAscending (λ (e : ObjectId × Object). e.0.0) d.objects
  pub next : AreNext (length c.objects) d.objects
  pub handles : AllPairs (λ (a b : (Label × Label) × Option Handle). label_order a.0 b.0 ≡ Less) d.handles

-- a content has room for what a delta adds
pub record HasRoom (c : Stored) (d : Delta) : Type 0 where
  pub objects : length (with_objects c.objects d.objects) ≤ length c.objects + c.object_room
  pub handles : length d.handles ≤ c.handle_room
