-- What a delta says anew is what differs after it.
use Rattle.std.proofs.Common.{◌≡◌, ◌∙◌, map, sym, ap}
use Rattle.std.specs.Prelude.{T, filter}
use Rattle.std.specs.FinMap.Entries.{is_sorted}
use Rattle.ob_heap.specs.Contents.{content_of}
use Rattle.ob_heap.specs.Deltas.{label_order}
use Rattle.ob_heap_spec.specs.Contents.{name_order}
use Rattle.ob_store_spec.specs.Between.{changed_objects, changed_handles}
use Rattle.ob_store_laws.specs.Recorded.{handle_change, news_of, content_with}
use Rattle.ob_store_laws.specs.Laws.{NewsAreDifferences}
use Rattle.ob_store_laws.proofs.Entries.{sorted_of}
use Rattle.ob_store_laws.proofs.Handles as handles
use Rattle.ob_store_laws.proofs.Objects as objects

pub news_are_differences : NewsAreDifferences
news_are_differences table base delta content is =
    ap (λ os. record { objects = os; handles = (news_of table base delta).handles }) (objects.news_differ table base.objects delta.objects is.objects is.next)
    ∙ ap (λ hs. record { objects = changed_objects table (content_of base) (content_with base delta); handles = hs }) differ
  where
    sorted : T (is_sorted label_order delta.handles)
    sorted = sorted_of label_order delta.handles is.handles

    differ : (news_of table base delta).handles ≡ changed_handles (content_of base) (content_with base delta)
    differ =
        handles.news_differ (content_of base) (map handle_change delta.handles) (sorted_of name_order (content_of base).handles content.order)
        (handles.changes_sorted delta.handles sorted)
        ∙ sym (ap (λ hs. filter (handles.is_new (content_of base)) (handles.of_both (content_of base).handles hs))
        (handles.handles_follow base.handles delta.handles))
