-- What a request comes to, as the code tells it: an answer, and what differs in the store (this project's own).
use Rattle.std.specs.Prelude.{◌≡◌, ◌≤◌, map, length, All, Some}
use Rattle.ob_base.specs.Limits.{most_objects}
use Rattle.ob_heap_spec.specs.Contents.{Content, object_at}
use Rattle.ob_heap.specs.Plain.{object_of}
use Rattle.ob_heap.specs.Contents.{Stored, content_of, name_of, named_of, handle_at}
use Rattle.ob_heap.specs.Deltas.{with_handles, IsDelta}
use Rattle.ob_heap.specs.Differences.{with_objects}
use Rattle.ob_heap.specs.declared.delta.Delta.{Delta}
use Rattle.ob_invocation_spec.specs.Replies.{Invocation, invoked, goes_wrong}
use Rattle.ob_wire.specs.Meanings.{answer_of}
use Rattle.ob_wire.specs.declared.reply.Answer.{Answer}

-- A delta leads from what a store holds to what it holds after it, and has just what differs: no object that is as it was, as plain
-- data, and no handle.
pub record LeadsTo (base : Stored) (delta : Delta) (after : Content) : Type 0 where
  pub is : IsDelta base delta
  pub objects : map object_of (with_objects base.objects delta.objects) ≡ after.objects
  pub handles : map named_of (with_handles base.handles delta.handles) ≡ after.handles
  pub other_objects : All (λ e. ¬ (object_at (content_of base).objects e.0.0 ≡ Some (object_of e.1))) delta.objects
  pub other_handles : All (λ e. ¬ (handle_at (name_of e.0) base.handles ≡ e.1)) delta.handles

-- an answer and a delta are those of an invocation on what a store holds
abbrev pub ComesTo : Invocation → Stored → Answer → Delta → Type 0
ComesTo (invoked i) base answer delta = (answer ≡ answer_of i.reply) × LeadsTo base delta i.content
ComesTo goes_wrong base answer delta = ⊥

-- an invocation doesn't go wrong, and leaves no more objects than there may be
abbrev pub IsInLimits : Invocation → Type 0
IsInLimits (invoked i) = length i.content.objects ≤ most_objects
IsInLimits goes_wrong = ⊥
