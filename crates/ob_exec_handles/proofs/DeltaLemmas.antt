-- What a run changed and the handles that are put, as one delta.
use Rattle.std.proofs.Common.{◌≡◌, List, map, Option, sym, ap, subst, ◌∙◌}
use Rattle.ob_base.specs.declared.id.ObjectId.{ObjectId}
use Rattle.ob_base.specs.declared.name.Label.{Label}
use Rattle.ob_heap_spec.specs.Worlds.{World}
use Rattle.ob_heap_spec.specs.Handles.{put_handles}
use Rattle.ob_invocation_spec.specs.Handles.{mark_puts}
use Rattle.ob_heap.specs.declared.object.Object.{Object}
use Rattle.ob_heap.specs.declared.object.Handle.{Handle}
use Rattle.ob_heap.specs.Contents.{Stored, content_of, named_of}
use Rattle.ob_heap.specs.Overlays.{Changes, objects_over}
use Rattle.ob_exec_handles.specs.Coming.{LeadsTo}
use Rattle.ob_exec_handles.specs.Marking.{with_put_marks}
use Rattle.ob_exec_handles.specs.Parts.{ObjectsLead, HandlesLead}
use Rattle.ob_exec_handles.proofs.MarkingLemmas.{puts_objects}
use Rattle.ob_exec_handles.proofs.PartsLemmas.{leads}

pub delta_leads : (base : Stored) (old new : Changes) (puts first second : List ((Label × Label) × Handle))
    (objects : List (ObjectId × Object)) (handles : List ((Label × Label) × Option Handle)) (w : World)
    → first ≡ puts → second ≡ puts
    → objects_over base.objects new ≡ with_put_marks (objects_over base.objects old) (map named_of first)
    → ObjectsLead base.objects objects (objects_over base.objects new)
    → HandlesLead base.handles handles (put_handles (map named_of base.handles) (map named_of second))
    → w.objects ≡ objects_over base.objects old
    → LeadsTo base (record { objects = objects; handles = handles })
    (record { objects = (mark_puts w (map named_of puts)).objects; handles = put_handles (content_of base).handles (map named_of puts) })
delta_leads base old new puts first second objects handles w f s marks o h is =
    let to : objects_over base.objects new ≡ (mark_puts w (map named_of puts)).objects =
    marks ∙ ap (λ ps. with_put_marks (objects_over base.objects old) (map named_of ps)) f
    ∙ ap (λ os. with_put_marks os (map named_of puts)) (sym is) ∙ sym (puts_objects (map named_of puts) w) in
    leads base (record { objects = objects; handles = handles })
    (record { objects = (mark_puts w (map named_of puts)).objects; handles = put_handles (content_of base).handles (map named_of puts) })
    (subst (ObjectsLead base.objects objects) to o)
    (subst (λ ps. HandlesLead base.handles handles (put_handles (map named_of base.handles) (map named_of ps))) s h)
