-- Stores of the depot that requests left, each at rest (this project's own).
use Rattle.std.specs.Prelude.{pos, true, false, List, [], ◌∷◌, Some, None}
use Rattle.ob_base.specs.declared.permission.Mode.TheVariants.{Owned, Shared, Unowned}
use Rattle.ob_heap_spec.specs.Values.{int_value, reference}
use Rattle.ob_heap_spec.specs.Contents.{Content}
use Rattle.ob_examples.specs.Depot.{coin_in, box_in, clock_in, depot_in, marked, held_by, ann, bob, store}

-- stores that are at rest
abbrev pub first_stores_at_rest : List Content
first_stores_at_rest =
    store (depot_in (Some 0) ((3, reference 1) ∷ (4, reference 2) ∷ (5, int_value (pos 0)) ∷ []) ∷
    marked true false (clock_in (Some 0) []) ∷ marked false true (coin_in None []) ∷ [])
    (held_by ann 1 0 Owned ∷ [])
    ∷ store (depot_in (Some 0) ((3, reference 1) ∷ (4, reference 2) ∷ (5, int_value (pos 0)) ∷ []) ∷
    marked true false (clock_in (Some 0) []) ∷ marked false true (coin_in None []) ∷ [])
    (held_by ann 1 0 Owned ∷ held_by ann 2 0 Unowned ∷ held_by ann 3 1 Shared ∷ [])
    ∷ store (marked false true (depot_in (Some 0) ((3, reference 1) ∷ (4, reference 2) ∷ (5, int_value (pos 0)) ∷ [])) ∷
    marked true false (clock_in (Some 0) []) ∷ marked false true (coin_in None []) ∷ [])
    (held_by ann 1 0 Unowned ∷ [])
    ∷ store (depot_in (Some 0) ((3, reference 1) ∷ (4, reference 2) ∷ (5, int_value (pos 0)) ∷ []) ∷
    marked true false (clock_in (Some 1) []) ∷ marked false true (coin_in None []) ∷ [])
    (held_by ann 1 0 Unowned ∷ held_by ann 2 1 Shared ∷ held_by ann 3 0 Unowned ∷ held_by ann 4 0 Owned ∷
    held_by bob 1 0 Unowned ∷ held_by bob 2 1 Shared ∷ [])
    ∷ store (marked true false (depot_in (Some 0) ((3, reference 1) ∷ (4, reference 2) ∷ (5, int_value (pos 0)) ∷ [])) ∷
    marked true false (clock_in (Some 0) []) ∷ marked false true (coin_in None []) ∷ [])
    (held_by ann 1 0 Shared ∷ held_by ann 2 0 Shared ∷ held_by ann 3 0 Shared ∷ [])
    ∷ store (depot_in (Some 0) ((3, reference 1) ∷ (4, reference 2) ∷ (5, int_value (pos 0)) ∷ []) ∷
    marked true false (clock_in (Some 0) []) ∷ marked false true (coin_in None []) ∷ [])
    (held_by ann 1 0 Unowned ∷ held_by bob 1 0 Unowned ∷ held_by bob 2 0 Owned ∷ [])
    ∷ store (depot_in (Some 0) ((3, reference 1) ∷ (4, reference 2) ∷ (5, int_value (pos 0)) ∷ []) ∷
    marked true false (clock_in (Some 0) []) ∷ marked false true (coin_in None []) ∷ [])
    (held_by bob 1 0 Owned ∷ [])
    ∷ store (depot_in (Some 0) ((3, reference 1) ∷ (4, reference 2) ∷ (5, int_value (pos 0)) ∷ []) ∷
    marked true false (clock_in (Some 0) []) ∷ marked false true (coin_in None []) ∷ [])
    (held_by ann 1 0 Owned ∷ held_by ann 2 1 Shared ∷ held_by ann 3 1 Shared ∷ [])
    ∷ store (depot_in (Some 0) ((3, reference 1) ∷ (4, reference 2) ∷ (5, int_value (pos 0)) ∷ []) ∷
    marked true false (clock_in (Some 0) []) ∷ marked false true (coin_in None []) ∷ [])
    (held_by ann 1 0 Owned ∷ held_by ann 2 1 Shared ∷ [])
    ∷ store (depot_in (Some 0) ((3, reference 1) ∷ (4, reference 2) ∷ (5, int_value (pos 0)) ∷ []) ∷
    marked true false (clock_in (Some 0) []) ∷ marked false true (coin_in None []) ∷ [])
    (held_by ann 1 0 Unowned ∷ held_by ann 2 1 Shared ∷ held_by ann 3 0 Owned ∷ [])
    ∷ store (depot_in (Some 0) ((3, reference 1) ∷ (4, reference 2) ∷ (5, int_value (pos 0)) ∷ []) ∷
    marked true false (clock_in (Some 0) []) ∷ marked false true (coin_in None []) ∷ [])
    (held_by ann 1 0 Owned ∷ held_by ann 2 0 Unowned ∷ [])
    ∷ store (marked true false (depot_in (Some 0) ((3, reference 1) ∷ (4, reference 2) ∷ (5, int_value (pos 0)) ∷ [])) ∷
    marked true false (clock_in (Some 0) []) ∷ marked false true (coin_in None []) ∷ [])
    (held_by ann 1 0 Shared ∷ held_by bob 1 0 Shared ∷ [])
    ∷ store (marked false true (depot_in (Some 0) ((3, reference 1) ∷ (4, reference 2) ∷ (5, int_value (pos 0)) ∷ [])) ∷
    marked true false (clock_in (Some 0) []) ∷ marked false true (coin_in None []) ∷ [])
    (held_by ann 1 0 Unowned ∷ held_by ann 2 1 Shared ∷ [])
    ∷ store (marked true false (depot_in (Some 0) ((3, reference 1) ∷ (4, reference 2) ∷ (5, int_value (pos 0)) ∷ [])) ∷
    marked true false (clock_in (Some 0) []) ∷ marked false true (coin_in None []) ∷ [])
    (held_by ann 1 0 Shared ∷ held_by ann 2 0 Shared ∷ held_by bob 1 0 Unowned ∷ [])
    ∷ store (depot_in (Some 0) ((3, reference 1) ∷ (4, reference 2) ∷ (5, int_value (pos 0)) ∷ []) ∷
    marked true false (clock_in (Some 0) []) ∷ marked false true (coin_in None []) ∷ [])
    (held_by ann 1 0 Owned ∷ held_by ann 2 1 Shared ∷ held_by ann 3 1 Unowned ∷ [])
    ∷ store (depot_in (Some 0) ((3, reference 1) ∷ (4, reference 2) ∷ (5, int_value (pos 0)) ∷ []) ∷
    marked true false (clock_in (Some 0) []) ∷ marked false true (coin_in None []) ∷ [])
    (held_by ann 1 0 Unowned ∷ held_by ann 2 0 Owned ∷ [])
    ∷ store (depot_in (Some 0) ((3, reference 1) ∷ (4, reference 2) ∷ (5, int_value (pos 0)) ∷ []) ∷
    marked true false (clock_in (Some 0) []) ∷ marked false true (coin_in None []) ∷ [])
    (held_by ann 1 0 Owned ∷ held_by ann 2 0 Unowned ∷ held_by ann 3 1 Shared ∷ [])
    ∷ store (depot_in (Some 0) ((3, reference 1) ∷ (4, reference 2) ∷ (5, int_value (pos 0)) ∷ []) ∷
    marked true false (clock_in (Some 1) []) ∷ marked false true (coin_in None []) ∷ [])
    (held_by ann 1 0 Owned ∷ held_by ann 2 1 Shared ∷ held_by ann 3 1 Shared ∷ [])
    ∷ store (depot_in (Some 0) ((3, reference 1) ∷ (4, reference 2) ∷ (5, int_value (pos 0)) ∷ []) ∷
    marked true false (clock_in (Some 0) []) ∷ marked false true (coin_in None []) ∷ [])
    (held_by ann 1 0 Owned ∷ held_by bob 1 0 Unowned ∷ [])
    ∷ store (depot_in (Some 0) ((3, reference 1) ∷ (4, reference 2) ∷ (5, int_value (pos 0)) ∷ []) ∷
    marked true false (clock_in (Some 0) []) ∷ marked false true (coin_in None []) ∷ [])
    (held_by ann 1 0 Owned ∷ held_by ann 2 0 Unowned ∷ held_by ann 3 1 Shared ∷ [])
    ∷ store (depot_in (Some 0) ((3, reference 1) ∷ (4, reference 2) ∷ (5, int_value (pos 0)) ∷ []) ∷
    marked true false (clock_in (Some 0) []) ∷ marked false true (coin_in None []) ∷ [])
    (held_by ann 1 0 Unowned ∷ held_by ann 2 0 Owned ∷ [])
    ∷ store (depot_in (Some 0) ((3, reference 1) ∷ (4, reference 2) ∷ (5, int_value (pos 0)) ∷ []) ∷
    marked true false (clock_in (Some 0) []) ∷ marked false true (coin_in None []) ∷ [])
    (held_by ann 1 0 Unowned ∷ held_by ann 2 1 Shared ∷ held_by ann 3 0 Owned ∷ held_by bob 1 1 Unowned ∷ [])
    ∷ store (marked true false (depot_in (Some 0) ((3, reference 1) ∷ (4, reference 2) ∷ (5, int_value (pos 0)) ∷ [])) ∷
    marked true false (clock_in (Some 0) []) ∷ marked false true (coin_in None []) ∷ [])
    (held_by bob 1 0 Shared ∷ [])
    ∷ store (depot_in (Some 0) ((3, reference 1) ∷ (4, reference 2) ∷ (5, int_value (pos 0)) ∷ []) ∷
    marked true false (clock_in (Some 0) []) ∷ marked false true (coin_in None []) ∷ [])
    (held_by ann 1 0 Owned ∷ held_by ann 2 1 Shared ∷ held_by ann 3 1 Shared ∷ [])
    ∷ store (marked false true (depot_in (Some 0) ((3, reference 1) ∷ (4, reference 2) ∷ (5, int_value (pos 0)) ∷ [])) ∷
    marked true false (clock_in (Some 0) []) ∷ marked false true (coin_in None []) ∷ []) []
    ∷ store (depot_in (Some 0) ((3, reference 1) ∷ (4, reference 2) ∷ (5, int_value (pos 0)) ∷ []) ∷
    marked true false (clock_in (Some 0) []) ∷ marked false true (coin_in None []) ∷ [])
    (held_by ann 1 0 Unowned ∷ held_by ann 2 1 Shared ∷ held_by ann 3 0 Unowned ∷ held_by ann 4 0 Owned ∷
    held_by bob 1 0 Unowned ∷ held_by bob 2 1 Shared ∷ [])
    ∷ store (marked true false (depot_in (Some 0) ((3, reference 1) ∷ (4, reference 2) ∷ (5, int_value (pos 0)) ∷ [])) ∷
    marked true false (clock_in (Some 0) []) ∷ marked false true (coin_in None []) ∷ [])
    (held_by ann 1 0 Shared ∷ held_by ann 2 0 Shared ∷ held_by ann 3 1 Shared ∷ held_by bob 1 0 Shared ∷
    held_by bob 2 1 Shared ∷ [])
    ∷ store (marked true false (depot_in (Some 0) ((3, reference 1) ∷ (4, reference 2) ∷ (5, int_value (pos 0)) ∷ [])) ∷
    marked true false (clock_in (Some 0) []) ∷ marked false true (coin_in None []) ∷ [])
    (held_by ann 1 0 Shared ∷ held_by ann 2 0 Shared ∷ [])
    ∷ store (depot_in (Some 0) ((3, reference 1) ∷ (4, reference 2) ∷ (5, int_value (pos 0)) ∷ []) ∷
    marked true false (clock_in (Some 0) []) ∷ marked false true (coin_in None []) ∷ [])
    (held_by ann 1 0 Owned ∷ held_by ann 2 0 Unowned ∷ held_by ann 3 1 Shared ∷ [])
    ∷ store (depot_in (Some 0) ((3, reference 1) ∷ (4, reference 2) ∷ (5, int_value (pos 0)) ∷ []) ∷
    marked true false (clock_in (Some 1) []) ∷ marked false true (coin_in None []) ∷ [])
    (held_by ann 1 0 Owned ∷ held_by ann 2 0 Unowned ∷ held_by ann 3 1 Shared ∷ held_by ann 4 1 Shared ∷ [])
    ∷ store (depot_in (Some 0) ((3, reference 1) ∷ (4, reference 2) ∷ (5, int_value (pos 0)) ∷ []) ∷
    marked true false (clock_in (Some 1) []) ∷ marked false true (coin_in None []) ∷ [])
    (held_by ann 1 0 Owned ∷ held_by ann 2 0 Unowned ∷ held_by ann 3 1 Shared ∷ [])
    ∷ store (depot_in (Some 0) ((3, reference 1) ∷ (4, reference 2) ∷ (5, int_value (pos 0)) ∷ []) ∷
    marked true false (clock_in (Some 1) []) ∷ marked false true (coin_in None []) ∷ [])
    (held_by ann 1 0 Owned ∷ held_by ann 2 0 Unowned ∷ held_by ann 3 1 Shared ∷ [])
    ∷ store (marked false true (depot_in (Some 0) ((3, reference 1) ∷ (4, reference 2) ∷ (5, int_value (pos 0)) ∷ [])) ∷
    marked true false (clock_in (Some 0) []) ∷ marked false true (coin_in None []) ∷ coin_in None [] ∷ [])
    (held_by ann 1 3 Owned ∷ [])
    ∷ store (depot_in (Some 0) ((3, reference 1) ∷ (4, reference 2) ∷ (5, int_value (pos 0)) ∷ []) ∷
    marked true false (clock_in (Some 1) []) ∷ marked false true (coin_in None []) ∷
    marked true false (box_in (Some 1) []) ∷ [])
    (held_by ann 1 0 Unowned ∷ held_by ann 2 3 Shared ∷ held_by ann 3 1 Shared ∷ held_by ann 4 1 Shared ∷
    held_by bob 1 0 Owned ∷ held_by bob 2 3 Shared ∷ [])
    ∷ store (depot_in (Some 0) ((3, reference 1) ∷ (4, reference 2) ∷ (5, int_value (pos 0)) ∷ []) ∷
    marked true false (clock_in (Some 0) []) ∷ marked false true (coin_in None []) ∷ box_in (Some 2) [] ∷ [])
    (held_by ann 1 0 Owned ∷ held_by ann 2 3 Owned ∷ held_by ann 3 1 Shared ∷ [])
    ∷ store (depot_in (Some 0) ((3, reference 1) ∷ (4, reference 2) ∷ (5, int_value (pos 0)) ∷ []) ∷
    marked true false (clock_in (Some 0) []) ∷ marked false true (coin_in None []) ∷
    marked false true (coin_in None []) ∷ []) (held_by ann 1 0 Owned ∷ held_by ann 2 1 Shared ∷ [])
    ∷ store (depot_in (Some 0) ((3, reference 1) ∷ (4, reference 2) ∷ (5, int_value (pos 0)) ∷ []) ∷
    marked true false (clock_in (Some 1) []) ∷ marked false true (coin_in None []) ∷ box_in (Some 2) [] ∷ [])
    (held_by ann 1 0 Owned ∷ held_by ann 2 3 Owned ∷ held_by ann 3 1 Shared ∷ held_by bob 1 1 Shared ∷ [])
    ∷ store (depot_in (Some 0) ((3, reference 1) ∷ (4, reference 2) ∷ (5, int_value (pos 0)) ∷ []) ∷
    marked true false (clock_in (Some 0) []) ∷ marked false true (coin_in None []) ∷ box_in (Some 1) [] ∷ [])
    (held_by ann 1 0 Unowned ∷ held_by ann 2 3 Owned ∷ held_by ann 3 1 Shared ∷ held_by bob 1 0 Owned ∷
    held_by bob 2 1 Shared ∷ [])
    ∷ store (depot_in (Some 0) ((3, reference 1) ∷ (4, reference 2) ∷ (5, int_value (pos 0)) ∷ []) ∷
    marked true false (clock_in (Some 1) []) ∷ marked false true (coin_in None []) ∷ coin_in None [] ∷ [])
    (held_by ann 1 0 Owned ∷ held_by ann 2 3 Owned ∷ held_by ann 3 1 Shared ∷ [])
    ∷ store (depot_in (Some 0) ((3, reference 1) ∷ (4, reference 2) ∷ (5, int_value (pos 0)) ∷ []) ∷
    marked true false (clock_in (Some 0) []) ∷ marked false true (coin_in None []) ∷ box_in (Some 0) [] ∷ [])
    (held_by ann 1 0 Owned ∷ held_by ann 2 3 Unowned ∷ held_by bob 1 3 Owned ∷ held_by bob 2 3 Unowned ∷
    held_by bob 3 3 Unowned ∷ [])
    ∷ store (depot_in (Some 0) ((3, reference 1) ∷ (4, reference 2) ∷ (5, int_value (pos 0)) ∷ []) ∷
    marked true false (clock_in (Some 1) []) ∷ marked false true (coin_in None []) ∷ box_in (Some 1) [] ∷ [])
    (held_by ann 1 0 Unowned ∷ held_by ann 2 3 Unowned ∷ held_by ann 3 3 Owned ∷ held_by ann 4 1 Shared ∷
    held_by bob 1 0 Owned ∷ held_by bob 2 1 Shared ∷ [])
    ∷ store (marked true false (depot_in (Some 0) ((3, reference 1) ∷ (4, reference 2) ∷ (5, int_value (pos 0)) ∷ [])) ∷
    marked true false (clock_in (Some 0) []) ∷ marked false true (coin_in None []) ∷ box_in (Some 2) [] ∷ [])
    (held_by ann 1 0 Shared ∷ held_by bob 1 0 Shared ∷ held_by bob 2 3 Owned ∷ [])
    ∷ store (depot_in (Some 0) ((3, reference 1) ∷ (4, reference 2) ∷ (5, int_value (pos 0)) ∷ []) ∷
    marked true false (clock_in (Some 0) []) ∷ marked false true (coin_in None []) ∷ coin_in None [] ∷ [])
    (held_by ann 1 0 Unowned ∷ held_by ann 2 1 Shared ∷ held_by bob 1 0 Owned ∷ held_by bob 2 3 Owned ∷ [])
    ∷ store (depot_in (Some 0) ((3, reference 1) ∷ (4, reference 2) ∷ (5, int_value (pos 0)) ∷ []) ∷
    marked true false (clock_in (Some 0) []) ∷ marked false true (coin_in None []) ∷ coin_in None [] ∷ [])
    (held_by ann 1 0 Unowned ∷ held_by ann 2 3 Owned ∷ held_by bob 1 0 Owned ∷ [])
    ∷ store (depot_in (Some 0) ((3, reference 1) ∷ (4, reference 2) ∷ (5, int_value (pos 0)) ∷ []) ∷
    marked true false (clock_in (Some 0) []) ∷ marked false true (coin_in None []) ∷ box_in (Some 1) [] ∷ [])
    (held_by ann 1 0 Owned ∷ held_by ann 2 3 Owned ∷ [])
    ∷ store (depot_in (Some 0) ((3, reference 1) ∷ (4, reference 2) ∷ (5, int_value (pos 0)) ∷ []) ∷
    marked true false (clock_in (Some 0) []) ∷ marked false true (coin_in None []) ∷ box_in (Some 1) [] ∷ [])
    (held_by ann 1 0 Owned ∷ held_by ann 2 3 Owned ∷ held_by bob 1 3 Unowned ∷ [])
    ∷ store (depot_in (Some 0) ((3, reference 1) ∷ (4, reference 2) ∷ (5, int_value (pos 0)) ∷ []) ∷
    marked true false (clock_in (Some 0) []) ∷ marked false true (coin_in None []) ∷ coin_in None [] ∷ [])
    (held_by ann 1 0 Unowned ∷ held_by ann 2 1 Shared ∷ held_by ann 3 1 Shared ∷ held_by ann 4 1 Shared ∷
    held_by bob 1 0 Owned ∷ held_by bob 2 3 Owned ∷ [])
    ∷ store (depot_in (Some 0) ((3, reference 1) ∷ (4, reference 2) ∷ (5, int_value (pos 0)) ∷ []) ∷
    marked true false (clock_in (Some 0) []) ∷ marked false true (coin_in None []) ∷ coin_in None [] ∷ [])
    (held_by ann 1 0 Owned ∷ held_by ann 2 1 Shared ∷ held_by ann 3 1 Unowned ∷ held_by ann 4 1 Shared ∷
    held_by ann 5 1 Shared ∷ held_by ann 6 3 Owned ∷ held_by ann 7 1 Shared ∷ held_by bob 1 1 Shared ∷ [])
    ∷ store (depot_in (Some 0) ((3, reference 1) ∷ (4, reference 2) ∷ (5, int_value (pos 0)) ∷ []) ∷
    marked true false (clock_in (Some 0) []) ∷ marked false true (coin_in None []) ∷
    marked true false (box_in (Some 1) []) ∷ [])
    (held_by ann 1 0 Owned ∷ held_by ann 2 3 Shared ∷ held_by ann 3 1 Shared ∷ held_by ann 4 1 Shared ∷
    held_by bob 1 3 Shared ∷ [])
    ∷ store (marked true false (depot_in (Some 0) ((3, reference 1) ∷ (4, reference 2) ∷ (5, int_value (pos 0)) ∷ [])) ∷
    marked true false (clock_in (Some 0) []) ∷ marked false true (coin_in None []) ∷ coin_in None [] ∷ [])
    (held_by ann 1 0 Shared ∷ held_by ann 2 0 Unowned ∷ held_by ann 3 3 Owned ∷ held_by ann 4 0 Shared ∷ [])
    ∷ store (depot_in (Some 0) ((3, reference 1) ∷ (4, reference 2) ∷ (5, int_value (pos 0)) ∷ []) ∷
    marked true false (clock_in (Some 1) []) ∷ marked false true (coin_in None []) ∷
    marked true false (coin_in None []) ∷ [])
    (held_by ann 1 0 Owned ∷ held_by ann 2 1 Shared ∷ held_by ann 3 3 Shared ∷ held_by ann 4 3 Shared ∷ [])
    ∷ store (depot_in (Some 0) ((3, reference 1) ∷ (4, reference 2) ∷ (5, int_value (pos 0)) ∷ []) ∷
    marked true false (clock_in (Some 0) []) ∷ marked false true (coin_in None []) ∷
    marked true false (box_in (Some 2) []) ∷ [])
    (held_by ann 1 0 Owned ∷ held_by ann 2 3 Shared ∷ held_by bob 1 3 Shared ∷ [])
    ∷ store (depot_in (Some 0) ((3, reference 1) ∷ (4, reference 2) ∷ (5, int_value (pos 0)) ∷ []) ∷
    marked true false (clock_in (Some 1) []) ∷ marked false true (coin_in None []) ∷ coin_in None [] ∷ [])
    (held_by ann 1 0 Owned ∷ held_by ann 2 1 Shared ∷ held_by ann 3 3 Owned ∷ [])
    ∷ store (depot_in (Some 0) ((3, reference 1) ∷ (4, reference 2) ∷ (5, int_value (pos 0)) ∷ []) ∷
    marked true false (clock_in (Some 0) []) ∷ marked false true (coin_in None []) ∷ box_in (Some 2) [] ∷ [])
    (held_by ann 1 0 Unowned ∷ held_by ann 2 3 Owned ∷ held_by bob 1 0 Owned ∷ [])
    ∷ []

-- and others
abbrev pub other_stores_at_rest : List Content
other_stores_at_rest =
    store (depot_in (Some 0) ((3, reference 1) ∷ (4, reference 2) ∷ (5, int_value (pos 0)) ∷ []) ∷
    marked true false (clock_in (Some 0) []) ∷ marked false true (coin_in None []) ∷ box_in (Some 1) [] ∷ [])
    (held_by ann 1 0 Owned ∷ held_by ann 2 3 Owned ∷ held_by bob 1 0 Unowned ∷ [])
    ∷ store (depot_in (Some 0) ((3, reference 1) ∷ (4, reference 2) ∷ (5, int_value (pos 0)) ∷ []) ∷
    marked true false (clock_in (Some 0) []) ∷ marked false true (coin_in None []) ∷ box_in (Some 2) [] ∷ [])
    (held_by ann 1 0 Owned ∷ held_by ann 2 3 Unowned ∷ held_by ann 3 3 Owned ∷ [])
    ∷ store (depot_in (Some 0) ((3, reference 1) ∷ (4, reference 2) ∷ (5, int_value (pos 0)) ∷ []) ∷
    marked true false (clock_in (Some 0) []) ∷ marked false true (coin_in None []) ∷ box_in (Some 1) [] ∷ [])
    (held_by ann 1 0 Owned ∷ held_by ann 2 3 Owned ∷ held_by ann 3 1 Shared ∷ [])
    ∷ store (depot_in (Some 0) ((3, reference 1) ∷ (4, reference 2) ∷ (5, int_value (pos 0)) ∷ []) ∷
    marked true false (clock_in (Some 1) []) ∷ marked false true (coin_in None []) ∷
    marked true false (box_in (Some 1) []) ∷ [])
    (held_by ann 1 0 Owned ∷ held_by ann 2 3 Shared ∷ held_by ann 3 1 Shared ∷ held_by ann 4 1 Shared ∷
    held_by bob 1 3 Shared ∷ [])
    ∷ store (depot_in (Some 0) ((3, reference 1) ∷ (4, reference 2) ∷ (5, int_value (pos 0)) ∷ []) ∷
    marked true false (clock_in (Some 0) []) ∷ marked false true (coin_in None []) ∷ box_in (Some 1) [] ∷ [])
    (held_by ann 1 0 Owned ∷ held_by ann 2 1 Shared ∷ held_by ann 3 3 Owned ∷ held_by bob 1 0 Unowned ∷ [])
    ∷ store (depot_in (Some 0) ((3, reference 1) ∷ (4, reference 2) ∷ (5, int_value (pos 0)) ∷ []) ∷
    marked true false (clock_in (Some 1) []) ∷ marked false true (coin_in None []) ∷ box_in (Some 0) [] ∷ [])
    (held_by ann 1 0 Owned ∷ held_by ann 2 1 Shared ∷ held_by ann 3 3 Owned ∷ held_by ann 4 1 Shared ∷
    held_by ann 5 1 Shared ∷ [])
    ∷ store (marked true false (depot_in (Some 0) ((3, reference 1) ∷ (4, reference 2) ∷ (5, int_value (pos 0)) ∷ [])) ∷
    marked true false (clock_in (Some 0) []) ∷ marked false true (coin_in None []) ∷ coin_in None [] ∷ [])
    (held_by ann 1 0 Shared ∷ held_by ann 2 0 Shared ∷ held_by ann 3 0 Shared ∷ held_by ann 4 3 Owned ∷
    held_by ann 5 0 Unowned ∷ [])
    ∷ store (depot_in (Some 0) ((3, reference 1) ∷ (4, reference 2) ∷ (5, int_value (pos 0)) ∷ []) ∷
    marked true false (clock_in (Some 0) []) ∷ marked false true (coin_in None []) ∷ box_in (Some 2) [] ∷ [])
    (held_by ann 1 0 Owned ∷ held_by ann 2 3 Owned ∷ held_by ann 3 1 Shared ∷ [])
    ∷ store (marked false true (depot_in (Some 0) ((3, reference 1) ∷ (4, reference 2) ∷ (5, int_value (pos 0)) ∷ [])) ∷
    marked true false (clock_in (Some 0) []) ∷ marked false true (coin_in None []) ∷ box_in (Some 1) [] ∷ [])
    (held_by ann 1 3 Owned ∷ [])
    ∷ store (marked true false (depot_in (Some 0) ((3, reference 1) ∷ (4, reference 2) ∷ (5, int_value (pos 0)) ∷ [])) ∷
    marked true false (clock_in (Some 0) []) ∷ marked false true (coin_in None []) ∷ box_in (Some 2) [] ∷ [])
    (held_by ann 1 0 Unowned ∷ held_by bob 1 0 Shared ∷ held_by bob 2 0 Shared ∷ held_by bob 3 3 Owned ∷
    held_by bob 4 0 Unowned ∷ [])
    ∷ store (depot_in (Some 0) ((3, reference 1) ∷ (4, reference 2) ∷ (5, int_value (pos 0)) ∷ []) ∷
    marked true false (clock_in (Some 0) []) ∷ marked false true (coin_in None []) ∷ coin_in None [] ∷ [])
    (held_by ann 1 0 Owned ∷ held_by ann 2 3 Owned ∷ [])
    ∷ store (depot_in (Some 0) ((3, reference 1) ∷ (4, reference 2) ∷ (5, int_value (pos 0)) ∷ []) ∷
    marked true false (clock_in (Some 0) []) ∷ marked false true (coin_in None []) ∷ box_in (Some 0) [] ∷ [])
    (held_by ann 1 0 Owned ∷ held_by ann 2 3 Owned ∷ held_by bob 1 3 Unowned ∷ [])
    ∷ store (depot_in (Some 0) ((3, reference 1) ∷ (4, reference 2) ∷ (5, int_value (pos 0)) ∷ []) ∷
    marked true false (clock_in (Some 0) []) ∷ marked false true (coin_in None []) ∷ coin_in None [] ∷ [])
    (held_by ann 1 0 Owned ∷ held_by ann 2 0 Unowned ∷ held_by ann 3 3 Owned ∷ held_by ann 4 0 Unowned ∷ [])
    ∷ store (marked false true (depot_in (Some 0) ((3, reference 1) ∷ (4, reference 2) ∷ (5, int_value (pos 0)) ∷ [])) ∷
    marked true false (clock_in (Some 0) []) ∷ marked false true (coin_in None []) ∷ coin_in None [] ∷ [])
    (held_by ann 1 3 Owned ∷ held_by ann 2 3 Unowned ∷ [])
    ∷ store (marked true false (depot_in (Some 0) ((3, reference 1) ∷ (4, reference 2) ∷ (5, int_value (pos 0)) ∷ [])) ∷
    marked true false (clock_in (Some 0) []) ∷ marked false true (coin_in None []) ∷ box_in (Some 1) [] ∷ [])
    (held_by ann 1 0 Shared ∷ held_by ann 2 0 Shared ∷ held_by ann 3 3 Unowned ∷ held_by ann 4 3 Owned ∷
    held_by bob 1 0 Shared ∷ held_by bob 2 0 Unowned ∷ held_by bob 3 1 Shared ∷ [])
    ∷ store (depot_in (Some 0) ((3, reference 1) ∷ (4, reference 2) ∷ (5, int_value (pos 0)) ∷ []) ∷
    marked true false (clock_in (Some 0) []) ∷ marked false true (coin_in None []) ∷ box_in (Some 0) [] ∷ [])
    (held_by ann 1 0 Owned ∷ held_by ann 2 3 Owned ∷ [])
    ∷ store (marked true false (depot_in (Some 0) ((3, reference 1) ∷ (4, reference 2) ∷ (5, int_value (pos 0)) ∷ [])) ∷
    marked true false (clock_in (Some 0) []) ∷ marked false true (coin_in None []) ∷ coin_in None [] ∷ [])
    (held_by ann 1 0 Shared ∷ held_by ann 2 3 Owned ∷ held_by bob 1 0 Shared ∷ [])
    ∷ store (depot_in (Some 0) ((3, reference 1) ∷ (4, reference 2) ∷ (5, int_value (pos 0)) ∷ []) ∷
    marked true false (clock_in (Some 1) []) ∷ marked false true (coin_in None []) ∷
    marked false true (coin_in None []) ∷ []) (held_by ann 1 0 Owned ∷ held_by ann 2 1 Shared ∷ [])
    ∷ store (depot_in (Some 0) ((3, reference 1) ∷ (4, reference 2) ∷ (5, int_value (pos 0)) ∷ []) ∷
    marked true false (clock_in (Some 1) []) ∷ marked false true (coin_in None []) ∷ coin_in None [] ∷ [])
    (held_by ann 1 0 Owned ∷ held_by ann 2 1 Shared ∷ held_by ann 3 3 Unowned ∷ held_by bob 1 3 Owned ∷ [])
    ∷ store (depot_in (Some 0) ((3, reference 1) ∷ (4, reference 2) ∷ (5, int_value (pos 0)) ∷ []) ∷
    marked true false (clock_in (Some 0) []) ∷ marked false true (coin_in None []) ∷
    marked false true (coin_in None []) ∷ []) (held_by ann 1 0 Owned ∷ [])
    ∷ store (depot_in (Some 0) ((3, reference 1) ∷ (4, reference 2) ∷ (5, int_value (pos 0)) ∷ []) ∷
    marked true false (clock_in (Some 0) []) ∷ marked false true (coin_in None []) ∷ box_in (Some 2) [] ∷ [])
    (held_by ann 1 0 Unowned ∷ held_by ann 2 3 Owned ∷ held_by ann 3 0 Owned ∷ [])
    ∷ store (depot_in (Some 0) ((3, reference 1) ∷ (4, reference 2) ∷ (5, int_value (pos 0)) ∷ []) ∷
    marked true false (clock_in (Some 0) []) ∷ marked false true (coin_in None []) ∷ coin_in None [] ∷ [])
    (held_by ann 1 0 Owned ∷ held_by ann 2 3 Owned ∷ held_by bob 1 3 Unowned ∷ [])
    ∷ store (depot_in (Some 0) ((3, reference 1) ∷ (4, reference 2) ∷ (5, int_value (pos 0)) ∷ []) ∷
    marked true false (clock_in (Some 0) []) ∷ marked false true (coin_in None []) ∷ box_in (Some 2) [] ∷ [])
    (held_by ann 1 0 Unowned ∷ held_by ann 2 3 Owned ∷ held_by ann 3 1 Shared ∷ held_by bob 1 0 Owned ∷ [])
    ∷ store (marked true false (depot_in (Some 0) ((3, reference 1) ∷ (4, reference 2) ∷ (5, int_value (pos 0)) ∷ [])) ∷
    marked true false (clock_in (Some 0) []) ∷ marked false true (coin_in None []) ∷ box_in (Some 2) [] ∷ [])
    (held_by ann 1 0 Shared ∷ held_by ann 2 0 Shared ∷ held_by ann 3 3 Owned ∷ [])
    ∷ store (depot_in (Some 0) ((3, reference 1) ∷ (4, reference 2) ∷ (5, int_value (pos 0)) ∷ []) ∷
    marked true false (clock_in (Some 0) []) ∷ marked false true (coin_in None []) ∷ coin_in None [] ∷ [])
    (held_by ann 1 0 Unowned ∷ held_by bob 1 0 Unowned ∷ held_by bob 2 0 Owned ∷ held_by bob 3 0 Unowned ∷
    held_by bob 4 3 Owned ∷ [])
    ∷ store (depot_in (Some 0) ((3, reference 1) ∷ (4, reference 2) ∷ (5, int_value (pos 0)) ∷ []) ∷
    marked true false (clock_in (Some 0) []) ∷ marked false true (coin_in None []) ∷ coin_in None [] ∷ [])
    (held_by ann 1 0 Owned ∷ held_by ann 2 3 Owned ∷ held_by ann 3 1 Shared ∷ [])
    ∷ store (marked true false (depot_in (Some 0) ((3, reference 1) ∷ (4, reference 2) ∷ (5, int_value (pos 0)) ∷ [])) ∷
    marked true false (clock_in (Some 0) []) ∷ marked false true (coin_in None []) ∷ coin_in None [] ∷ [])
    (held_by ann 1 0 Shared ∷ held_by ann 2 3 Owned ∷ held_by ann 3 0 Unowned ∷ held_by bob 1 0 Shared ∷
    held_by bob 2 1 Shared ∷ [])
    ∷ store (depot_in (Some 0) ((3, reference 1) ∷ (4, reference 2) ∷ (5, int_value (pos 0)) ∷ []) ∷
    marked true false (clock_in (Some 0) []) ∷ marked false true (coin_in None []) ∷ coin_in None [] ∷ [])
    (held_by ann 1 0 Owned ∷ held_by ann 2 1 Shared ∷ held_by ann 3 3 Unowned ∷ held_by bob 1 3 Owned ∷ [])
    ∷ store (marked true false (depot_in (Some 0) ((3, reference 1) ∷ (4, reference 2) ∷ (5, int_value (pos 0)) ∷ [])) ∷
    marked true false (clock_in (Some 0) []) ∷ marked false true (coin_in None []) ∷ box_in (Some 2) [] ∷ [])
    (held_by ann 1 0 Shared ∷ held_by ann 2 0 Shared ∷ held_by ann 3 3 Owned ∷ [])
    ∷ store (depot_in (Some 0) ((3, reference 1) ∷ (4, reference 2) ∷ (5, int_value (pos 0)) ∷ []) ∷
    marked true false (clock_in (Some 0) []) ∷ marked false true (coin_in None []) ∷ coin_in None [] ∷ [])
    (held_by ann 1 0 Owned ∷ held_by ann 2 3 Owned ∷ [])
    ∷ store (marked true false (depot_in (Some 0) ((3, reference 1) ∷ (4, reference 2) ∷ (5, int_value (pos 0)) ∷ [])) ∷
    marked true false (clock_in (Some 0) []) ∷ marked false true (coin_in None []) ∷ box_in (Some 2) [] ∷ [])
    (held_by ann 1 0 Unowned ∷ held_by bob 1 0 Shared ∷ held_by bob 2 0 Shared ∷ held_by bob 3 3 Owned ∷ [])
    ∷ store (marked true false (depot_in (Some 0) ((3, reference 1) ∷ (4, reference 2) ∷ (5, int_value (pos 0)) ∷ [])) ∷
    marked true false (clock_in (Some 0) []) ∷ marked false true (coin_in None []) ∷ box_in (Some 1) [] ∷ [])
    (held_by ann 1 0 Shared ∷ held_by ann 2 0 Shared ∷ held_by ann 3 3 Unowned ∷ held_by ann 4 3 Owned ∷
    held_by bob 1 0 Unowned ∷ held_by bob 2 1 Shared ∷ [])
    ∷ store (marked true false (depot_in (Some 0) ((3, reference 1) ∷ (4, reference 2) ∷ (5, int_value (pos 0)) ∷ [])) ∷
    marked true false (clock_in (Some 0) []) ∷ marked false true (coin_in None []) ∷ box_in (Some 2) [] ∷
    box_in (Some 2) [] ∷ [])
    (held_by ann 1 0 Shared ∷ held_by ann 2 0 Shared ∷ held_by ann 3 3 Owned ∷ held_by ann 4 4 Owned ∷ [])
    ∷ store (depot_in (Some 0) ((3, reference 1) ∷ (4, reference 2) ∷ (5, int_value (pos 0)) ∷ []) ∷
    marked true false (clock_in (Some 0) []) ∷ marked false true (coin_in None []) ∷ coin_in None [] ∷
    coin_in None [] ∷ [])
    (held_by ann 1 0 Unowned ∷ held_by ann 2 3 Owned ∷ held_by ann 3 4 Owned ∷ held_by bob 1 0 Owned ∷ [])
    ∷ store (
    depot_in (Some 1) ((0, reference 4) ∷ (1, reference 3) ∷ (3, reference 1) ∷ (4, reference 2) ∷ (5, int_value (pos 1)) ∷ []) ∷
    marked true false (clock_in (Some 0) []) ∷ marked false true (coin_in None []) ∷ coin_in None [] ∷
    box_in (Some 2) [] ∷ []) (held_by ann 1 0 Owned ∷ held_by ann 2 4 Unowned ∷ held_by bob 1 4 Unowned ∷ [])
    ∷ store (depot_in (Some 0) ((3, reference 1) ∷ (4, reference 2) ∷ (5, int_value (pos 0)) ∷ []) ∷
    marked true false (clock_in (Some 0) []) ∷ marked false true (coin_in None []) ∷ box_in (Some 1) [] ∷
    coin_in None [] ∷ [])
    (held_by ann 1 0 Owned ∷ held_by ann 2 1 Unowned ∷ held_by ann 3 1 Shared ∷ held_by ann 4 3 Owned ∷
    held_by ann 5 4 Owned ∷ [])
    ∷ store (depot_in (Some 0) ((3, reference 1) ∷ (4, reference 2) ∷ (5, int_value (pos 0)) ∷ []) ∷
    marked true false (clock_in (Some 0) []) ∷ marked false true (coin_in None []) ∷
    marked true false (box_in (Some 1) []) ∷ marked true false (coin_in None []) ∷ [])
    (held_by ann 1 0 Owned ∷ held_by ann 2 3 Shared ∷ held_by ann 3 4 Shared ∷ held_by bob 1 3 Shared ∷
    held_by bob 2 4 Shared ∷ [])
    ∷ store (depot_in (Some 0) ((3, reference 1) ∷ (4, reference 2) ∷ (5, int_value (pos 0)) ∷ []) ∷
    marked true false (clock_in (Some 0) []) ∷ marked false true (coin_in None []) ∷ box_in (Some 2) [] ∷
    coin_in None [] ∷ [])
    (held_by ann 1 0 Unowned ∷ held_by ann 2 3 Owned ∷ held_by ann 3 0 Owned ∷ held_by bob 1 0 Unowned ∷
    held_by bob 2 4 Owned ∷ [])
    ∷ store (depot_in (Some 0) ((3, reference 1) ∷ (4, reference 2) ∷ (5, int_value (pos 0)) ∷ []) ∷
    marked true false (clock_in (Some 0) []) ∷ marked false true (coin_in None []) ∷ box_in (Some 2) [] ∷
    box_in (Some 2) [] ∷ [])
    (held_by ann 1 0 Owned ∷ held_by ann 2 3 Owned ∷ held_by ann 3 0 Unowned ∷ held_by ann 4 4 Owned ∷
    held_by bob 1 0 Unowned ∷ [])
    ∷ store (depot_in (Some 0) ((3, reference 1) ∷ (4, reference 2) ∷ (5, int_value (pos 0)) ∷ []) ∷
    marked true false (clock_in (Some 0) []) ∷ marked false true (coin_in None []) ∷ box_in (Some 0) [] ∷
    box_in (Some 2) [] ∷ []) (held_by ann 1 0 Owned ∷ held_by ann 2 3 Owned ∷ held_by ann 3 4 Owned ∷ [])
    ∷ store (depot_in (Some 0) ((3, reference 1) ∷ (4, reference 2) ∷ (5, int_value (pos 0)) ∷ []) ∷
    marked true false (clock_in (Some 0) []) ∷ marked false true (coin_in None []) ∷ coin_in None [] ∷
    coin_in None [] ∷ [])
    (held_by ann 1 0 Unowned ∷ held_by ann 2 3 Owned ∷ held_by ann 3 4 Owned ∷ held_by bob 1 1 Shared ∷
    held_by bob 2 0 Owned ∷ [])
    ∷ store (marked true false (depot_in (Some 0) ((3, reference 1) ∷ (4, reference 2) ∷ (5, int_value (pos 0)) ∷ [])) ∷
    marked true false (clock_in (Some 0) []) ∷ marked false true (coin_in None []) ∷ coin_in None [] ∷
    box_in (Some 2) [] ∷ [])
    (held_by ann 1 3 Owned ∷ held_by ann 2 0 Shared ∷ held_by ann 3 4 Owned ∷ held_by ann 4 1 Shared ∷ [])
    ∷ store (depot_in (Some 0) ((3, reference 1) ∷ (4, reference 2) ∷ (5, int_value (pos 0)) ∷ []) ∷
    marked true false (clock_in (Some 0) []) ∷ marked false true (coin_in None []) ∷ coin_in None [] ∷
    coin_in None [] ∷ [])
    (held_by ann 1 0 Owned ∷ held_by ann 2 3 Owned ∷ held_by ann 3 4 Unowned ∷ held_by bob 1 4 Owned ∷ [])
    ∷ store (depot_in (Some 0) ((3, reference 1) ∷ (4, reference 2) ∷ (5, int_value (pos 0)) ∷ []) ∷
    marked true false (clock_in (Some 1) []) ∷ marked false true (coin_in None []) ∷
    marked false true (coin_in None []) ∷ coin_in None [] ∷ [])
    (held_by ann 1 0 Owned ∷ held_by ann 2 1 Shared ∷ held_by ann 3 4 Owned ∷ held_by ann 4 1 Shared ∷ [])
    ∷ store (depot_in (Some 0) ((3, reference 1) ∷ (4, reference 2) ∷ (5, int_value (pos 0)) ∷ []) ∷
    marked true false (clock_in (Some 0) []) ∷ marked false true (coin_in None []) ∷ coin_in None [] ∷
    box_in (Some 1) [] ∷ [])
    (held_by ann 1 0 Owned ∷ held_by bob 1 0 Unowned ∷ held_by bob 2 3 Owned ∷ held_by bob 3 4 Owned ∷ [])
    ∷ store (marked true false (depot_in (Some 0) ((3, reference 1) ∷ (4, reference 2) ∷ (5, int_value (pos 0)) ∷ [])) ∷
    marked true false (clock_in (Some 0) []) ∷ marked false true (coin_in None []) ∷ coin_in None [] ∷
    box_in (Some 2) [] ∷ []) (held_by ann 1 3 Owned ∷ held_by ann 2 4 Owned ∷ held_by bob 1 0 Shared ∷ [])
    ∷ store (depot_in (Some 0) ((3, reference 1) ∷ (4, reference 2) ∷ (5, int_value (pos 0)) ∷ []) ∷
    marked true false (clock_in (Some 0) []) ∷ marked false true (coin_in None []) ∷ box_in (Some 1) [] ∷
    box_in (Some 2) [] ∷ []) (held_by ann 1 0 Owned ∷ held_by ann 2 3 Owned ∷ held_by ann 3 4 Owned ∷ [])
    ∷ store (marked false true (depot_in (Some 0) ((3, reference 1) ∷ (4, reference 2) ∷ (5, int_value (pos 0)) ∷ [])) ∷
    marked true false (clock_in (Some 0) []) ∷ marked false true (coin_in None []) ∷ coin_in None [] ∷
    box_in (Some 2) [] ∷ [])
    (held_by ann 1 0 Unowned ∷ held_by ann 2 4 Unowned ∷ held_by ann 3 0 Unowned ∷ held_by ann 4 3 Owned ∷
    held_by bob 1 4 Owned ∷ [])
    ∷ store (
    depot_in (Some 1) ((0, reference 4) ∷ (1, reference 3) ∷ (3, reference 1) ∷ (4, reference 2) ∷ (5, int_value (pos 1)) ∷ []) ∷
    marked true false (clock_in (Some 0) []) ∷ marked false true (coin_in None []) ∷ coin_in None [] ∷
    box_in (Some 2) [] ∷ [])
    (held_by ann 1 0 Owned ∷ held_by ann 2 3 Unowned ∷ held_by ann 3 4 Unowned ∷ held_by bob 1 4 Unowned ∷ [])
    ∷ store (marked true false (depot_in (Some 0) ((3, reference 1) ∷ (4, reference 2) ∷ (5, int_value (pos 0)) ∷ [])) ∷
    marked true false (clock_in (Some 0) []) ∷ marked false true (coin_in None []) ∷ box_in (Some 0) [] ∷
    coin_in None [] ∷ [])
    (held_by ann 1 0 Shared ∷ held_by ann 2 3 Owned ∷ held_by ann 3 4 Owned ∷ held_by ann 4 0 Shared ∷ [])
    ∷ store (depot_in (Some 0) ((3, reference 1) ∷ (4, reference 2) ∷ (5, int_value (pos 0)) ∷ []) ∷
    marked true false (clock_in (Some 0) []) ∷ marked false true (coin_in None []) ∷ coin_in None [] ∷
    coin_in None [] ∷ []) (held_by ann 1 0 Owned ∷ held_by ann 2 3 Owned ∷ held_by ann 3 4 Owned ∷ [])
    ∷ store (marked true false (depot_in (Some 0) ((3, reference 1) ∷ (4, reference 2) ∷ (5, int_value (pos 0)) ∷ [])) ∷
    marked true false (clock_in (Some 0) []) ∷ marked false true (coin_in None []) ∷ coin_in None [] ∷
    coin_in None [] ∷ [])
    (held_by ann 1 0 Shared ∷ held_by ann 2 0 Shared ∷ held_by bob 1 0 Shared ∷ held_by bob 2 3 Owned ∷
    held_by bob 3 4 Owned ∷ [])
    ∷ store (depot_in (Some 0) ((3, reference 1) ∷ (4, reference 2) ∷ (5, int_value (pos 0)) ∷ []) ∷
    marked true false (clock_in (Some 1) []) ∷ marked false true (coin_in None []) ∷ box_in (Some 1) [] ∷
    marked true false (coin_in None []) ∷ [])
    (held_by ann 1 0 Owned ∷ held_by ann 2 1 Unowned ∷ held_by ann 3 4 Shared ∷ held_by ann 4 1 Shared ∷
    held_by ann 5 3 Owned ∷ held_by ann 6 4 Shared ∷ [])
    ∷ store (depot_in (Some 0) ((3, reference 1) ∷ (4, reference 2) ∷ (5, int_value (pos 0)) ∷ []) ∷
    marked true false (clock_in (Some 0) []) ∷ marked false true (coin_in None []) ∷ coin_in None [] ∷
    box_in (Some 2) [] ∷ [])
    (held_by ann 1 0 Owned ∷ held_by ann 2 3 Owned ∷ held_by ann 3 4 Owned ∷ held_by bob 1 4 Unowned ∷ [])
    ∷ []
