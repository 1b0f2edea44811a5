-- The six numbers of a store (this project's own).
use Rattle.std.specs.Prelude.{ℕ, Bool, not, ◌&&◌, length, count_by}
use Rattle.std.specs.List.{enumerate_from}
use Rattle.ob_table.specs.Tables.{ClassTable}
use Rattle.ob_heap_spec.specs.Objects.{Object}
use Rattle.ob_heap_spec.specs.Contents.{Content}
use Rattle.ob_rest_spec.specs.Failing.{is_marked, has_no_owner}
use Rattle.ob_owners.specs.declared.counts.StoreCounts.{StoreCounts}

-- how many objects of a store are so, which is asked of each with its number
abbrev pub count_objects : Content → (ℕ → Object → Bool) → ℕ
count_objects content is = count_by (λ o. is o.0 o.1) (enumerate_from 0 content.objects)

-- how many objects and handles a store has; how many of the objects have an owning place, are marked as shared, and as disowned; and how
-- many have neither an owning place nor a mark
abbrev pub counts_of : ClassTable → Content → StoreCounts
counts_of table content = record {
  objects = length content.objects;
  handles = length content.handles;
  owned = count_objects content (λ n o. not (has_no_owner table content n));
  shared = count_objects content (λ n o. o.shared);
  disowned = count_objects content (λ n o. o.disowned);
  loose = count_objects content (λ n o. has_no_owner table content n && not (is_marked o));
}
