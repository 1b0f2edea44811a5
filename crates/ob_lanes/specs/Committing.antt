-- Which lanes are opened again after a commit (this project's own).
use Rattle.std.specs.Prelude.{ℕ, ◌+◌, ◌-◌, nat_eq, nat_le, Bool, true, false, not, List, map, length, slice_get, slice_set, slice_index_or, Option, Some, None, if◌then◌else◌}
use Rattle.std.specs.Ordering.{is_eq}
use Rattle.std.specs.Option.{option_map_or}
use Rattle.std.specs.List.{list_any}
use Rattle.ob_base.specs.declared.id.ObjectId.{ObjectId}
use Rattle.ob_base.specs.declared.name.Label.{Label}
use Rattle.ob_base.specs.Limits.{most_handles}
use Rattle.ob_heap_spec.specs.Contents.{HandleName, name_order}
use Rattle.ob_heap_spec.specs.Worlds.{ReadItem, object_item, next_item, handle_item, handles_full_item}
use Rattle.ob_heap.specs.Contents.{Stored, name_of}
use Rattle.ob_heap.specs.Deltas.{with_handles}
use Rattle.ob_heap_spec.specs.Operations.{same_truth}
use Rattle.ob_heap.specs.declared.object.Object.{Object}
use Rattle.ob_heap.specs.declared.object.Handle.{Handle}
use Rattle.ob_heap.specs.declared.delta.Delta.{Delta}
use Rattle.ob_exec.specs.declared.runs.Run.{Run}
use Rattle.ob_lanes.specs.declared.batch.Busy.{Busy}
use Rattle.ob_lanes.specs.declared.batch.BatchRequest.{BatchRequest}

-- whether a delta has the object of a number
abbrev pub has_object : ℕ → List (ObjectId × Object) → Bool
has_object n es = list_any (λ (e : ObjectId × Object). nat_eq e.0.0 n) es

-- whether it has an object past so many
abbrev pub has_new : ℕ → List (ObjectId × Object) → Bool
has_new count es = list_any (λ (e : ObjectId × Object). nat_le count e.0.0) es

-- whether it has the handle of a name
abbrev pub has_handle : HandleName → List ((Label × Label) × Option Handle) → Bool
has_handle n es = list_any (λ (e : (Label × Label) × Option Handle). is_eq (name_order (name_of e.0) n)) es

-- whether there are as many handles as there may be
abbrev pub is_full : List ((Label × Label) × Handle) → Bool
is_full hs = nat_le most_handles (length hs)

-- how many handles there are after one that was there before, or not, is there, or not
abbrev pub counted_with : Option Handle → Option Handle → ℕ → ℕ
counted_with None (Some after) count = count + 1
counted_with (Some before) None count = count - 1
counted_with before after count = count

-- whether a delta that has just what differs changes an item
abbrev pub is_changed : Stored → Delta → ReadItem → Bool
is_changed base delta (object_item n) = has_object n delta.objects
is_changed base delta next_item = has_new (length base.objects) delta.objects
is_changed base delta (handle_item name) = has_handle name delta.handles
is_changed base delta handles_full_item = not (same_truth (is_full base.handles) (is_full (with_handles base.handles delta.handles)))

-- whether it changes something that a run has read
abbrev pub is_stale : Stored → Delta → Option Run → Bool
is_stale base delta None = false
is_stale base delta (Some run) = list_any (is_changed base delta) run.state.reads

-- a lane after a commit: if its run is stale, its request is opened again
abbrev pub reopened : Stored → Delta → Option Busy → Option Busy
reopened base delta None = None
reopened base delta (Some b) = Some (if is_stale base delta b.run then record b { run = None } else b)

-- the lane of a number
abbrev pub lane_at : List (Option Busy) → ℕ → Option Busy
lane_at lanes k = slice_index_or lanes k None

-- the request of a lane is answered
abbrev pub answered_in : Option Busy → List BatchRequest → List BatchRequest
answered_in None entries = entries
answered_in (Some b) entries = option_map_or (λ (e : BatchRequest). slice_set entries b.number (record e { is_done = true })) (slice_get entries b.number) entries

-- the lanes after the commit of one of them
abbrev pub lanes_after : Stored → Delta → ℕ → List (Option Busy) → List (Option Busy)
lanes_after base delta k lanes = map (reopened base delta) (slice_set lanes k None)
