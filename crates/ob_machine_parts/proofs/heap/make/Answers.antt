use Rattle.std.proofs.Common.{◌≡◌, ◌++◌, ◌∷◌, [], ◌<◌, ◌≤◌, ◌∙◌, length, sym, ap, subst, Err}
use Rattle.ob_base.specs.Limits.{most_objects}
use Rattle.ob_heap_spec.specs.Objects.{unfinished}
use Rattle.ob_heap.specs.Overlays.{laid_over, objects_over}
use Rattle.ob_machine_parts.proofs.WorldLemmas.{count_plain, made_same, next_noted, is_below}
use Rattle.ob_machine_parts.proofs.UnreadLemmas.{made_unread, next_unread}
use Rattle.ob_machine_parts.proofs.heap.make.Goals as goal

pub returns-in-Ok-clause-made : goal.returns-in-Ok-clause-made
returns-in-Ok-clause-made c =
    let base = c.args.base.now.objects in
    let o = c.args.overlay.now in
    let l : length (objects_over base o) ≡ length (laid_over base o) = count_plain base o in
    let below : length (objects_over base o) < most_objects =
    subst (λ n. n < most_objects) (sym l) (is_below (length (laid_over base o)) most_objects (λ h. absurd (cc (c.in-Ok.ensures.full.1 h)))) in
    (below, l ∙ sym c.in-Ok.ensures.number, λ d u. made_same d u base o c.make.new.self c.unfinished.result (unfinished c.args.contract) c.unfinished.ensures c.in-Ok.ensures.made)

pub returns-in-Err-Full-clause-made : goal.returns-in-Err-Full-clause-made
returns-in-Err-Full-clause-made c =
    let base = c.args.base.now.objects in
    let o = c.args.overlay.now in
    let l : length (objects_over base o) ≡ length (laid_over base o) = count_plain base o in (
      subst (λ n. most_objects ≤ n) (sym l) (c.in-Err-Full.ensures.full.0 (ap Err c.in-Err-Full.field-0-is)),
      λ d u. next_noted d u base o c.make.new.self c.in-Err-Full.ensures.refused,
    )

pub returns-in-Ok-clause-unread : goal.returns-in-Ok-clause-unread
returns-in-Ok-clause-unread c =
    made_unread c.args.overlay.now c.make.new.self (c.args.overlay.now.made ++ c.unfinished.result ∷ []) c.in-Ok.ensures.made

pub returns-in-Err-Full-clause-unread : goal.returns-in-Err-Full-clause-unread
returns-in-Err-Full-clause-unread c = next_unread c.args.overlay.now c.make.new.self c.in-Err-Full.ensures.refused
