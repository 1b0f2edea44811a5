-- Stores of the depot that fail to be at rest, each changed at a place or two (this project's own).
use Rattle.std.specs.Prelude.{ℕ, pos, true, false, List, [], ◌∷◌, Some, None}
use Rattle.ob_base.specs.declared.permission.Mode.TheVariants.{Owned, Shared, Unowned}
use Rattle.ob_heap_spec.specs.Values.{int_value, reference}
use Rattle.ob_heap_spec.specs.Contents.{Content}
use Rattle.ob_rest_spec.specs.Failing.{FailingWay, many_owners, owned_and_marked, lost_asset, shared_unmarked, outside_states, other_contract}
use Rattle.ob_examples.specs.Depot.{coin_in, box_in, clock_in, depot_in, marked, held_by, ann, bob, store}

-- stores that fail
abbrev pub first_failing_stores : List Content
first_failing_stores =
    store (depot_in (Some 0) ((3, reference 1) ∷ (4, reference 1) ∷ (5, int_value (pos 0)) ∷ []) ∷
    marked true false (clock_in (Some 1) []) ∷ marked false true (coin_in None []) ∷ [])
    (held_by ann 1 0 Owned ∷ held_by ann 2 1 Shared ∷ held_by ann 3 1 Shared ∷ [])
    ∷ store (marked true false (depot_in (Some 0) ((3, reference 1) ∷ (4, reference 2) ∷ (5, int_value (pos 0)) ∷ [])) ∷
    marked true false (clock_in (Some 0) []) ∷ coin_in None [] ∷ coin_in None [] ∷ [])
    (held_by ann 1 0 Shared ∷ held_by ann 2 3 Owned ∷ held_by bob 1 0 Shared ∷ [])
    ∷ store (depot_in (Some 0) ((3, reference 1) ∷ (4, reference 2) ∷ (5, int_value (pos 0)) ∷ []) ∷
    marked true false (clock_in (Some 0) []) ∷ marked false true (coin_in None []) ∷ box_in (Some 2) [] ∷ [])
    (held_by ann 1 0 Owned ∷ held_by ann 2 1 Shared ∷ held_by ann 3 3 Unowned ∷ held_by bob 1 0 Unowned ∷ [])
    ∷ store (marked false true (depot_in (Some 0) ((3, reference 2) ∷ (4, reference 2) ∷ (5, int_value (pos 0)) ∷ [])) ∷
    marked true false (clock_in (Some 0) []) ∷ marked false true (coin_in None []) ∷ []) []
    ∷ store (depot_in (Some 0) ((3, reference 0) ∷ (4, reference 2) ∷ (5, int_value (pos 0)) ∷ []) ∷
    marked true false (clock_in (Some 0) []) ∷ marked false true (coin_in None []) ∷ [])
    (held_by ann 1 0 Owned ∷ held_by ann 2 1 Shared ∷ [])
    ∷ store (marked true false (depot_in (Some 0) ((3, reference 1) ∷ (4, reference 2) ∷ (5, int_value (pos 0)) ∷ [])) ∷
    marked true false (clock_in (Some 0) []) ∷ coin_in None [] ∷ box_in (Some 1) [] ∷ [])
    (held_by ann 1 0 Shared ∷ held_by ann 2 0 Shared ∷ held_by ann 3 3 Unowned ∷ held_by ann 4 3 Owned ∷
    held_by bob 1 0 Unowned ∷ held_by bob 2 1 Shared ∷ [])
    ∷ store (marked false true (depot_in (Some 0) ((3, reference 1) ∷ (4, reference 1) ∷ (5, int_value (pos 0)) ∷ [])) ∷
    clock_in (Some 0) [] ∷ marked false true (coin_in None []) ∷ []) []
    ∷ store (depot_in (Some 0) ((3, reference 1) ∷ (4, reference 2) ∷ (5, int_value (pos 0)) ∷ []) ∷
    marked true false (clock_in (Some 1) []) ∷ marked false true (coin_in None []) ∷
    marked true false (coin_in None []) ∷ [])
    (held_by ann 1 0 Owned ∷ held_by ann 2 1 Shared ∷ held_by ann 3 3 Unowned ∷ held_by bob 1 3 Owned ∷ [])
    ∷ store (depot_in (Some 0) ((3, reference 4) ∷ (4, reference 2) ∷ (5, int_value (pos 0)) ∷ []) ∷
    marked true false (clock_in (Some 0) []) ∷ marked false true (coin_in None []) ∷
    marked true false (box_in (Some 1) []) ∷ marked true false (coin_in None []) ∷ [])
    (held_by ann 1 0 Owned ∷ held_by ann 2 3 Shared ∷ held_by ann 3 4 Shared ∷ held_by bob 1 3 Shared ∷
    held_by bob 2 4 Shared ∷ [])
    ∷ store (depot_in (Some 0) ((3, reference 1) ∷ (4, reference 2) ∷ (5, int_value (pos 0)) ∷ []) ∷
    marked true false (clock_in (Some 0) []) ∷ marked false true (coin_in None []) ∷ [])
    (held_by ann 1 0 Unowned ∷ [])
    ∷ store (marked true false (depot_in (Some 0) ((3, reference 3) ∷ (4, reference 2) ∷ (5, int_value (pos 0)) ∷ [])) ∷
    marked true false (clock_in (Some 0) []) ∷ marked false true (coin_in None []) ∷ coin_in None [] ∷ [])
    (held_by ann 1 0 Shared ∷ held_by ann 2 0 Unowned ∷ held_by ann 3 3 Owned ∷ [])
    ∷ store (marked true false (depot_in (Some 0) ((3, reference 1) ∷ (4, reference 2) ∷ (5, int_value (pos 0)) ∷ [])) ∷
    marked true false (clock_in (Some 0) []) ∷ marked false true (coin_in None []) ∷ coin_in None [] ∷ [])
    (held_by ann 1 0 Unowned ∷ held_by ann 2 1 Shared ∷ held_by ann 3 1 Shared ∷ held_by ann 4 1 Shared ∷
    held_by bob 1 0 Owned ∷ held_by bob 2 3 Owned ∷ [])
    ∷ store (depot_in (Some 0) ((3, reference 2) ∷ (4, reference 2) ∷ (5, int_value (pos 0)) ∷ []) ∷
    marked true false (clock_in (Some 0) []) ∷ marked false true (coin_in None []) ∷ box_in (Some 1) [] ∷ [])
    (held_by ann 1 0 Owned ∷ held_by ann 2 3 Owned ∷ held_by bob 1 0 Unowned ∷ [])
    ∷ store (depot_in (Some 0) ((3, reference 1) ∷ (4, reference 2) ∷ (5, int_value (pos 0)) ∷ []) ∷
    marked true false (clock_in (Some 0) []) ∷ marked false true (coin_in None []) ∷ [])
    (held_by ann 1 0 Owned ∷ held_by ann 2 0 Owned ∷ [])
    ∷ store (depot_in (Some 0) ((3, reference 1) ∷ (4, reference 2) ∷ (5, int_value (pos 0)) ∷ []) ∷
    marked true false (clock_in (Some 1) []) ∷ marked false true (coin_in None []) ∷
    marked false true (coin_in None []) ∷ [])
    (held_by ann 1 0 Owned ∷ held_by ann 2 1 Shared ∷ held_by ann 3 3 Unowned ∷ held_by bob 1 3 Owned ∷ [])
    ∷ store (marked true false (depot_in (Some 0) ((3, reference 1) ∷ (4, reference 2) ∷ (5, int_value (pos 0)) ∷ [])) ∷
    marked true false (clock_in (Some 0) []) ∷ marked false true (coin_in None []) ∷ box_in (Some 0) [] ∷ [])
    (held_by ann 1 0 Owned ∷ held_by ann 2 3 Owned ∷ [])
    ∷ store (depot_in (Some 0) ((3, reference 1) ∷ (4, reference 2) ∷ (5, int_value (pos 0)) ∷ []) ∷
    marked true false (clock_in (Some 1) []) ∷ marked false true (coin_in None []) ∷
    marked true false (box_in (Some 1) []) ∷ marked true false (coin_in None []) ∷ [])
    (held_by ann 1 0 Owned ∷ held_by ann 2 1 Unowned ∷ held_by ann 3 4 Shared ∷ held_by ann 4 1 Shared ∷
    held_by ann 5 3 Owned ∷ held_by ann 6 4 Shared ∷ [])
    ∷ store (marked true false (depot_in (Some 0) ((3, reference 2) ∷ (4, reference 2) ∷ (5, int_value (pos 0)) ∷ [])) ∷
    marked true false (clock_in (Some 0) []) ∷ coin_in None [] ∷ [])
    (held_by ann 1 0 Shared ∷ held_by ann 2 0 Shared ∷ held_by bob 1 0 Unowned ∷ [])
    ∷ store (depot_in (Some 0) ((3, reference 1) ∷ (4, reference 2) ∷ (5, int_value (pos 0)) ∷ []) ∷
    marked true false (clock_in (Some 0) []) ∷ marked false true (coin_in None []) ∷ box_in (Some 2) [] ∷ [])
    (held_by ann 1 0 Shared ∷ held_by ann 2 0 Unowned ∷ held_by ann 3 3 Owned ∷ [])
    ∷ store (depot_in (Some 0) ((3, reference 1) ∷ (4, reference 2) ∷ (5, int_value (pos 0)) ∷ []) ∷
    marked true false (clock_in (Some 0) []) ∷ marked false true (coin_in None []) ∷ coin_in None [] ∷ [])
    (held_by ann 1 0 Owned ∷ held_by ann 2 0 Unowned ∷ held_by ann 3 3 Owned ∷ held_by ann 4 0 Unowned ∷
    held_by bob 1 1 Owned ∷ [])
    ∷ store (depot_in (Some 0) ((3, reference 3) ∷ (4, reference 2) ∷ (5, int_value (pos 0)) ∷ []) ∷
    marked true false (clock_in (Some 0) []) ∷ marked false true (coin_in None []) ∷ box_in (Some 2) [] ∷ [])
    (held_by ann 1 3 Unowned ∷ held_by ann 2 3 Owned ∷ [])
    ∷ store (depot_in (Some 0) ((3, reference 1) ∷ (4, reference 0) ∷ (5, int_value (pos 0)) ∷ []) ∷
    marked true false (clock_in (Some 1) []) ∷ marked false true (coin_in None []) ∷ coin_in None [] ∷ [])
    (held_by ann 1 0 Unowned ∷ held_by ann 2 1 Shared ∷ held_by ann 3 1 Shared ∷ held_by ann 4 1 Shared ∷
    held_by bob 1 0 Owned ∷ held_by bob 2 3 Owned ∷ [])
    ∷ store (marked false true (depot_in (Some 0) ((3, reference 1) ∷ (4, reference 2) ∷ (5, int_value (pos 0)) ∷ [])) ∷
    marked true false (clock_in (Some 0) []) ∷ marked false true (coin_in None []) ∷ [])
    (held_by ann 1 0 Owned ∷ held_by ann 2 0 Unowned ∷ held_by ann 3 1 Shared ∷ held_by bob 1 2 Owned ∷ [])
    ∷ store (depot_in (Some 0) ((3, reference 1) ∷ (4, reference 0) ∷ (5, int_value (pos 0)) ∷ []) ∷
    marked true false (clock_in (Some 0) []) ∷ marked false true (coin_in None []) ∷
    marked true false (box_in (Some 1) []) ∷ [])
    (held_by ann 1 0 Owned ∷ held_by ann 2 3 Shared ∷ held_by ann 3 1 Shared ∷ held_by ann 4 1 Shared ∷
    held_by bob 1 3 Shared ∷ [])
    ∷ store (depot_in (Some 0) ((3, reference 0) ∷ (4, reference 2) ∷ (5, int_value (pos 0)) ∷ []) ∷
    marked true false (clock_in (Some 0) []) ∷ marked false true (coin_in None []) ∷ coin_in None [] ∷ [])
    (held_by ann 1 0 Owned ∷ held_by ann 2 3 Owned ∷ held_by bob 1 3 Unowned ∷ [])
    ∷ store (depot_in (Some 0) ((3, reference 1) ∷ (4, reference 2) ∷ (5, int_value (pos 0)) ∷ []) ∷
    marked true false (clock_in (Some 0) []) ∷ marked false true (coin_in None []) ∷ coin_in None [] ∷
    box_in (Some 2) [] ∷ [])
    (held_by ann 1 0 Unowned ∷ held_by ann 2 4 Unowned ∷ held_by ann 3 0 Unowned ∷ held_by ann 4 3 Owned ∷
    held_by bob 1 4 Owned ∷ [])
    ∷ store (marked true false (depot_in (Some 0) ((3, reference 1) ∷ (4, reference 2) ∷ (5, int_value (pos 0)) ∷ [])) ∷
    marked true false (clock_in (Some 1) []) ∷ marked false true (coin_in None []) ∷ [])
    (held_by ann 1 0 Owned ∷ held_by ann 2 0 Unowned ∷ held_by ann 3 1 Shared ∷ [])
    ∷ store (depot_in (Some 0) ((3, reference 1) ∷ (4, reference 2) ∷ (5, int_value (pos 0)) ∷ []) ∷
    marked true false (clock_in (Some 0) []) ∷ marked false true (coin_in None []) ∷ box_in (Some 2) [] ∷
    box_in (Some 2) [] ∷ [])
    (held_by ann 1 0 Owned ∷ held_by ann 2 0 Unowned ∷ held_by ann 3 4 Owned ∷ held_by bob 1 0 Unowned ∷ [])
    ∷ store (depot_in (Some 0) ((3, reference 3) ∷ (4, reference 2) ∷ (5, int_value (pos 0)) ∷ []) ∷
    marked true false (clock_in (Some 0) []) ∷ marked false true (coin_in None []) ∷ coin_in None [] ∷ [])
    (held_by ann 1 0 Unowned ∷ held_by ann 2 1 Shared ∷ held_by ann 3 1 Shared ∷ held_by ann 4 1 Shared ∷
    held_by bob 1 0 Owned ∷ held_by bob 2 3 Owned ∷ [])
    ∷ store (depot_in (Some 0) ((3, reference 0) ∷ (4, reference 2) ∷ (5, int_value (pos 0)) ∷ []) ∷
    marked true false (clock_in (Some 0) []) ∷ marked false true (coin_in None []) ∷ [])
    (held_by ann 1 0 Unowned ∷ held_by ann 2 1 Shared ∷ [])
    ∷ store (depot_in (Some 0) ((3, reference 1) ∷ (4, reference 2) ∷ (5, int_value (pos 0)) ∷ []) ∷ clock_in (Some 0) [] ∷
    marked false true (coin_in None []) ∷ []) (held_by ann 1 0 Owned ∷ held_by ann 2 1 Shared ∷ [])
    ∷ store (depot_in (Some 0) ((3, reference 1) ∷ (4, reference 2) ∷ (5, int_value (pos 0)) ∷ []) ∷
    marked true false (clock_in (Some 0) []) ∷ marked false true (coin_in None []) ∷ coin_in None [] ∷ [])
    (held_by ann 1 0 Owned ∷ held_by ann 2 3 Shared ∷ [])
    ∷ store (depot_in (Some 0) ((3, reference 1) ∷ (4, reference 2) ∷ (5, int_value (pos 0)) ∷ []) ∷
    marked true false (clock_in (Some 0) []) ∷ coin_in None [] ∷ coin_in None [] ∷ [])
    (held_by ann 1 0 Unowned ∷ held_by ann 2 1 Shared ∷ held_by ann 3 1 Shared ∷ held_by ann 4 1 Shared ∷
    held_by bob 1 0 Owned ∷ held_by bob 2 3 Owned ∷ [])
    ∷ store (depot_in (Some 0) ((3, reference 1) ∷ (4, reference 2) ∷ (5, int_value (pos 0)) ∷ []) ∷
    marked true false (clock_in (Some 1) []) ∷ marked false true (coin_in None []) ∷
    marked true false (coin_in None []) ∷ [])
    (held_by ann 1 0 Owned ∷ held_by ann 2 1 Shared ∷ held_by ann 3 3 Owned ∷ [])
    ∷ store (marked false true (depot_in (Some 0) ((3, reference 1) ∷ (4, reference 2) ∷ (5, int_value (pos 0)) ∷ [])) ∷
    marked true false (clock_in (Some 0) []) ∷ marked false true (coin_in None []) ∷ coin_in None [] ∷ [])
    (held_by ann 1 3 Unowned ∷ [])
    ∷ store (marked true false (depot_in (Some 0) ((3, reference 1) ∷ (4, reference 2) ∷ (5, int_value (pos 0)) ∷ [])) ∷
    marked true false (clock_in (Some 0) []) ∷ marked false true (coin_in None []) ∷ box_in (Some 2) [] ∷ [])
    (held_by ann 1 0 Shared ∷ held_by ann 2 0 Shared ∷ held_by ann 3 3 Owned ∷ held_by bob 1 0 Owned ∷ [])
    ∷ store (depot_in (Some 0) ((3, reference 1) ∷ (4, reference 2) ∷ (5, int_value (pos 0)) ∷ []) ∷
    marked true false (clock_in (Some 0) []) ∷ marked false true (coin_in None []) ∷ coin_in None [] ∷ [])
    (held_by ann 1 0 Unowned ∷ held_by bob 1 0 Unowned ∷ held_by bob 2 0 Owned ∷ held_by bob 3 0 Unowned ∷
    held_by bob 4 3 Owned ∷ held_by bob 5 0 Owned ∷ [])
    ∷ store (marked true false (depot_in (Some 0) ((3, reference 1) ∷ (4, reference 2) ∷ (5, int_value (pos 0)) ∷ [])) ∷
    marked true false (clock_in (Some 0) []) ∷ marked false true (coin_in None []) ∷
    marked false true (box_in (Some 2) []) ∷ [])
    (held_by ann 1 0 Shared ∷ held_by ann 2 0 Shared ∷ held_by ann 3 3 Owned ∷ held_by bob 1 2 Shared ∷ [])
    ∷ store (depot_in (Some 0) ((3, reference 1) ∷ (4, reference 2) ∷ (5, int_value (pos 0)) ∷ []) ∷
    marked true false (clock_in (Some 0) []) ∷ marked false true (coin_in None []) ∷ box_in (Some 2) [] ∷ [])
    (held_by ann 1 0 Unowned ∷ held_by ann 2 3 Owned ∷ held_by ann 3 1 Owned ∷ held_by bob 1 0 Owned ∷ [])
    ∷ store (marked false true (depot_in (Some 0) ((3, reference 1) ∷ (4, reference 2) ∷ (5, int_value (pos 0)) ∷ [])) ∷
    clock_in (Some 0) [] ∷ marked false true (coin_in None []) ∷ [])
    (held_by ann 1 0 Owned ∷ held_by ann 2 1 Shared ∷ [])
    ∷ store (depot_in (Some 0) ((3, reference 1) ∷ (4, reference 2) ∷ (5, int_value (pos 0)) ∷ []) ∷
    marked true true (clock_in (Some 0) []) ∷ marked false true (coin_in None []) ∷ [])
    (held_by bob 1 0 Owned ∷ held_by bob 2 0 Owned ∷ [])
    ∷ store (marked true false (depot_in (Some 0) ((3, reference 4) ∷ (4, reference 2) ∷ (5, int_value (pos 0)) ∷ [])) ∷
    marked true false (clock_in (Some 0) []) ∷ marked false true (coin_in None []) ∷ coin_in None [] ∷
    coin_in None [] ∷ [])
    (held_by ann 1 0 Shared ∷ held_by ann 2 0 Shared ∷ held_by bob 1 0 Shared ∷ held_by bob 2 3 Owned ∷
    held_by bob 3 4 Owned ∷ held_by bob 4 4 Owned ∷ [])
    ∷ store (depot_in (Some 0) ((3, reference 1) ∷ (4, reference 2) ∷ (5, int_value (pos 0)) ∷ []) ∷
    marked true false (clock_in (Some 0) []) ∷ marked false true (coin_in None []) ∷ coin_in None [] ∷ [])
    (held_by ann 1 0 Owned ∷ held_by ann 2 1 Shared ∷ held_by ann 3 3 Owned ∷ held_by bob 1 3 Owned ∷ [])
    ∷ store (depot_in (Some 0) ((3, reference 0) ∷ (4, reference 2) ∷ (5, int_value (pos 0)) ∷ []) ∷
    marked true false (clock_in (Some 1) []) ∷ marked false true (coin_in None []) ∷ coin_in None [] ∷ [])
    (held_by ann 1 0 Owned ∷ held_by ann 2 1 Shared ∷ held_by ann 3 3 Owned ∷ held_by bob 1 3 Owned ∷ [])
    ∷ store (
    depot_in (Some 1) ((0, reference 3) ∷ (1, reference 3) ∷ (3, reference 1) ∷ (4, reference 2) ∷ (5, int_value (pos 1)) ∷ []) ∷
    marked true false (clock_in (Some 0) []) ∷ marked false true (coin_in None []) ∷ coin_in None [] ∷
    box_in (Some 2) [] ∷ [])
    (held_by ann 1 0 Owned ∷ held_by ann 2 4 Unowned ∷ held_by bob 1 4 Unowned ∷ held_by bob 2 1 Unowned ∷ [])
    ∷ store (marked true false (depot_in (Some 0) ((3, reference 1) ∷ (4, reference 2) ∷ (5, int_value (pos 0)) ∷ [])) ∷
    marked true false (clock_in (Some 1) []) ∷ marked false true (coin_in None []) ∷ coin_in None [] ∷ [])
    (held_by ann 1 0 Owned ∷ held_by ann 2 1 Shared ∷ held_by ann 3 3 Unowned ∷ held_by bob 1 3 Owned ∷ [])
    ∷ store (marked true false (depot_in (Some 0) ((3, reference 1) ∷ (4, reference 2) ∷ (5, int_value (pos 0)) ∷ [])) ∷
    marked true false (clock_in (Some 0) []) ∷ marked false true (coin_in None []) ∷ coin_in None [] ∷ [])
    (held_by ann 1 0 Shared ∷ held_by ann 2 0 Shared ∷ held_by ann 3 0 Shared ∷ held_by ann 4 3 Owned ∷
    held_by ann 5 0 Unowned ∷ held_by bob 1 3 Owned ∷ [])
    ∷ store (depot_in (Some 0) ((3, reference 1) ∷ (4, reference 2) ∷ (5, int_value (pos 0)) ∷ []) ∷
    marked true false (clock_in (Some 1) []) ∷ marked false true (coin_in None []) ∷ [])
    (held_by ann 1 0 Owned ∷ held_by ann 2 1 Shared ∷ held_by ann 3 1 Shared ∷ held_by bob 1 0 Owned ∷ [])
    ∷ store (marked true false (depot_in (Some 0) ((3, reference 1) ∷ (4, reference 2) ∷ (5, int_value (pos 0)) ∷ [])) ∷
    marked true false (clock_in (Some 0) []) ∷ marked false true (coin_in None []) ∷ box_in (Some 2) [] ∷ [])
    (held_by ann 1 0 Unowned ∷ held_by bob 1 0 Shared ∷ held_by bob 2 0 Shared ∷ held_by bob 3 3 Owned ∷
    held_by bob 4 0 Unowned ∷ held_by bob 5 3 Owned ∷ [])
    ∷ store (depot_in (Some 0) ((3, reference 1) ∷ (4, reference 2) ∷ (5, int_value (pos 0)) ∷ []) ∷
    marked true false (clock_in (Some 0) []) ∷ marked false true (coin_in None []) ∷ [])
    (held_by ann 1 0 Unowned ∷ held_by ann 2 0 Owned ∷ held_by bob 1 0 Owned ∷ [])
    ∷ store (depot_in (Some 0) ((3, reference 1) ∷ (4, reference 2) ∷ (5, int_value (pos 0)) ∷ []) ∷
    marked true false (clock_in (Some 0) []) ∷ marked false true (coin_in None []) ∷
    marked false true (coin_in None []) ∷ []) (held_by ann 1 0 Owned ∷ held_by bob 1 0 Owned ∷ [])
    ∷ store (depot_in (Some 0) ((3, reference 1) ∷ (4, reference 2) ∷ (5, int_value (pos 0)) ∷ []) ∷
    marked true false (clock_in (Some 0) []) ∷ marked true true (coin_in None []) ∷ box_in (Some 1) [] ∷ [])
    (held_by ann 1 0 Owned ∷ held_by ann 2 3 Owned ∷ held_by bob 1 0 Owned ∷ [])
    ∷ store (depot_in (Some 0) ((3, reference 1) ∷ (4, reference 2) ∷ (5, int_value (pos 0)) ∷ []) ∷
    marked true false (clock_in (Some 0) []) ∷ marked false true (coin_in None []) ∷ coin_in None [] ∷ [])
    (held_by ann 1 0 Owned ∷ held_by ann 2 0 Unowned ∷ held_by ann 3 3 Owned ∷ held_by ann 4 0 Owned ∷ [])
    ∷ store (
    depot_in (Some 1) ((0, reference 3) ∷ (1, reference 3) ∷ (3, reference 1) ∷ (4, reference 2) ∷ (5, int_value (pos 1)) ∷ []) ∷
    marked true false (clock_in (Some 0) []) ∷ marked false true (coin_in None []) ∷ coin_in None [] ∷
    box_in (Some 2) [] ∷ [])
    (held_by ann 1 0 Owned ∷ held_by ann 2 3 Unowned ∷ held_by ann 3 4 Unowned ∷ held_by bob 1 4 Unowned ∷ [])
    ∷ []

-- which of their objects fail, and in which ways, by a count that was made without the definition
abbrev pub first_failures : List (List (ℕ × List FailingWay))
first_failures =
    ((0, other_contract ∷ []) ∷ [])
    ∷ ((2, lost_asset ∷ []) ∷ [])
    ∷ ((3, lost_asset ∷ []) ∷ [])
    ∷ ((0, other_contract ∷ []) ∷ (2, shared_unmarked ∷ []) ∷ [])
    ∷ ((0, shared_unmarked ∷ other_contract ∷ []) ∷ [])
    ∷ ((2, lost_asset ∷ []) ∷ [])
    ∷ ((0, other_contract ∷ []) ∷ (1, shared_unmarked ∷ []) ∷ [])
    ∷ ((3, owned_and_marked ∷ []) ∷ [])
    ∷ ((0, other_contract ∷ []) ∷ [])
    ∷ ((0, lost_asset ∷ []) ∷ [])
    ∷ ((0, other_contract ∷ []) ∷ (3, shared_unmarked ∷ []) ∷ [])
    ∷ ((0, owned_and_marked ∷ []) ∷ [])
    ∷ ((0, other_contract ∷ []) ∷ (2, shared_unmarked ∷ []) ∷ [])
    ∷ ((0, many_owners ∷ []) ∷ [])
    ∷ ((3, owned_and_marked ∷ []) ∷ [])
    ∷ ((0, owned_and_marked ∷ []) ∷ [])
    ∷ ((3, owned_and_marked ∷ []) ∷ [])
    ∷ ((0, other_contract ∷ []) ∷ (2, lost_asset ∷ shared_unmarked ∷ []) ∷ [])
    ∷ ((0, lost_asset ∷ shared_unmarked ∷ []) ∷ [])
    ∷ ((1, owned_and_marked ∷ []) ∷ [])
    ∷ ((0, lost_asset ∷ other_contract ∷ []) ∷ (3, shared_unmarked ∷ []) ∷ [])
    ∷ ((0, other_contract ∷ []) ∷ [])
    ∷ ((0, owned_and_marked ∷ []) ∷ (2, owned_and_marked ∷ []) ∷ [])
    ∷ ((0, other_contract ∷ []) ∷ [])
    ∷ ((0, shared_unmarked ∷ other_contract ∷ []) ∷ [])
    ∷ ((0, lost_asset ∷ []) ∷ [])
    ∷ ((0, owned_and_marked ∷ []) ∷ [])
    ∷ ((3, lost_asset ∷ []) ∷ [])
    ∷ ((0, other_contract ∷ []) ∷ (3, shared_unmarked ∷ []) ∷ [])
    ∷ ((0, lost_asset ∷ shared_unmarked ∷ other_contract ∷ []) ∷ [])
    ∷ ((1, shared_unmarked ∷ []) ∷ [])
    ∷ ((3, lost_asset ∷ shared_unmarked ∷ []) ∷ [])
    ∷ ((2, lost_asset ∷ []) ∷ [])
    ∷ ((3, owned_and_marked ∷ []) ∷ [])
    ∷ ((3, lost_asset ∷ []) ∷ [])
    ∷ ((0, owned_and_marked ∷ []) ∷ [])
    ∷ ((0, many_owners ∷ []) ∷ [])
    ∷ ((2, shared_unmarked ∷ []) ∷ (3, owned_and_marked ∷ []) ∷ [])
    ∷ ((1, owned_and_marked ∷ []) ∷ [])
    ∷ ((0, owned_and_marked ∷ []) ∷ (1, shared_unmarked ∷ []) ∷ [])
    ∷ ((0, many_owners ∷ []) ∷ [])
    ∷ ((0, other_contract ∷ []) ∷ (4, many_owners ∷ shared_unmarked ∷ []) ∷ [])
    ∷ ((3, many_owners ∷ []) ∷ [])
    ∷ ((0, shared_unmarked ∷ other_contract ∷ []) ∷ (3, many_owners ∷ []) ∷ [])
    ∷ ((0, other_contract ∷ []) ∷ (3, many_owners ∷ outside_states ∷ []) ∷ (4, lost_asset ∷ []) ∷ [])
    ∷ ((0, owned_and_marked ∷ []) ∷ [])
    ∷ ((3, many_owners ∷ []) ∷ [])
    ∷ ((0, many_owners ∷ []) ∷ [])
    ∷ ((3, many_owners ∷ []) ∷ [])
    ∷ ((0, many_owners ∷ []) ∷ [])
    ∷ ((0, many_owners ∷ []) ∷ [])
    ∷ ((0, many_owners ∷ []) ∷ [])
    ∷ ((0, many_owners ∷ []) ∷ [])
    ∷ ((0, other_contract ∷ []) ∷ (3, many_owners ∷ outside_states ∷ []) ∷ (4, lost_asset ∷ []) ∷ [])
    ∷ []

-- and others
abbrev pub other_failing_stores : List Content
other_failing_stores =
    store (marked false true (depot_in (Some 0) ((3, reference 1) ∷ (4, reference 2) ∷ (5, int_value (pos 0)) ∷ [])) ∷
    marked true false (clock_in (Some 0) []) ∷ marked false true (coin_in None []) ∷ [])
    (held_by ann 1 0 Owned ∷ held_by ann 2 0 Unowned ∷ held_by ann 3 1 Shared ∷ [])
    ∷ store (
    depot_in (Some 1) ((0, reference 4) ∷ (1, reference 3) ∷ (3, reference 1) ∷ (4, reference 2) ∷ (5, int_value (pos 1)) ∷ []) ∷
    marked true false (clock_in (Some 1) []) ∷ marked false true (coin_in None []) ∷ coin_in None [] ∷
    box_in (Some 1) [] ∷ [])
    (held_by ann 1 0 Owned ∷ held_by ann 2 3 Unowned ∷ held_by ann 3 4 Unowned ∷ held_by bob 1 4 Unowned ∷ [])
    ∷ store (depot_in (Some 0) ((3, reference 1) ∷ (4, reference 2) ∷ (5, int_value (pos 0)) ∷ []) ∷
    marked true false (clock_in (Some 0) []) ∷ marked false true (coin_in None []) ∷ box_in (Some 2) [] ∷
    box_in (Some 2) [] ∷ [])
    (held_by ann 1 0 Shared ∷ held_by ann 2 3 Owned ∷ held_by ann 3 0 Unowned ∷ held_by ann 4 4 Owned ∷
    held_by bob 1 0 Unowned ∷ [])
    ∷ store (marked true false (depot_in (Some 0) ((3, reference 1) ∷ (4, reference 2) ∷ (5, int_value (pos 0)) ∷ [])) ∷
    marked true false (clock_in (Some 0) []) ∷ marked false true (coin_in None []) ∷ coin_in None [] ∷
    coin_in None [] ∷ [])
    (held_by ann 1 0 Owned ∷ held_by ann 2 3 Owned ∷ held_by ann 3 4 Shared ∷ held_by bob 1 4 Owned ∷ [])
    ∷ store (
    depot_in (Some 1) ((0, reference 4) ∷ (1, reference 0) ∷ (3, reference 1) ∷ (4, reference 2) ∷ (5, int_value (pos 1)) ∷ []) ∷
    marked true false (clock_in (Some 0) []) ∷ marked false true (coin_in None []) ∷ coin_in None [] ∷
    box_in (Some 2) [] ∷ []) (held_by ann 1 0 Owned ∷ held_by ann 2 4 Unowned ∷ held_by bob 1 4 Unowned ∷ [])
    ∷ store (marked false true (depot_in (Some 0) ((3, reference 1) ∷ (4, reference 2) ∷ (5, int_value (pos 0)) ∷ [])) ∷
    marked true false (clock_in (Some 1) []) ∷ marked false true (coin_in None []) ∷ box_in (Some 1) [] ∷
    marked true false (coin_in None []) ∷ [])
    (held_by ann 1 0 Owned ∷ held_by ann 2 1 Unowned ∷ held_by ann 3 4 Shared ∷ held_by ann 4 1 Shared ∷
    held_by ann 5 3 Owned ∷ held_by ann 6 4 Shared ∷ [])
    ∷ store (depot_in (Some 0) ((3, reference 1) ∷ (4, reference 2) ∷ (5, int_value (pos 0)) ∷ []) ∷
    marked true false (clock_in (Some 1) []) ∷ marked false true (coin_in None []) ∷ [])
    (held_by ann 1 0 Owned ∷ held_by ann 2 0 Owned ∷ held_by ann 3 1 Shared ∷ [])
    ∷ store (
    depot_in (Some 1) ((0, reference 4) ∷ (1, reference 4) ∷ (3, reference 1) ∷ (4, reference 2) ∷ (5, int_value (pos 1)) ∷ []) ∷
    marked true false (clock_in (Some 0) []) ∷ marked false true (coin_in None []) ∷ coin_in None [] ∷
    box_in (Some 2) [] ∷ []) (held_by ann 1 0 Owned ∷ held_by ann 2 4 Unowned ∷ held_by bob 1 4 Unowned ∷ [])
    ∷ store (marked false true (depot_in (Some 0) ((3, reference 1) ∷ (4, reference 2) ∷ (5, int_value (pos 0)) ∷ [])) ∷
    marked true false (clock_in (Some 1) []) ∷ marked false true (coin_in None []) ∷
    marked true false (coin_in None []) ∷ [])
    (held_by ann 1 0 Owned ∷ held_by ann 2 1 Shared ∷ held_by ann 3 3 Shared ∷ held_by ann 4 3 Shared ∷ [])
    ∷ store (
    depot_in (Some 1) ((0, reference 4) ∷ (1, reference 3) ∷ (3, reference 1) ∷ (4, reference 1) ∷ (5, int_value (pos 1)) ∷ []) ∷
    marked true false (clock_in (Some 0) []) ∷ marked false true (coin_in None []) ∷ coin_in None [] ∷
    box_in (Some 1) [] ∷ [])
    (held_by ann 1 0 Owned ∷ held_by ann 2 3 Unowned ∷ held_by ann 3 4 Unowned ∷ held_by bob 1 4 Unowned ∷ [])
    ∷ store (depot_in (Some 0) ((3, reference 1) ∷ (4, reference 3) ∷ (5, int_value (pos 0)) ∷ []) ∷
    marked true false (clock_in (Some 1) []) ∷ marked false true (coin_in None []) ∷ box_in (Some 1) [] ∷
    coin_in None [] ∷ [])
    (held_by ann 1 0 Owned ∷ held_by ann 2 1 Unowned ∷ held_by ann 3 4 Shared ∷ held_by ann 4 1 Shared ∷
    held_by ann 5 3 Owned ∷ held_by ann 6 4 Shared ∷ [])
    ∷ store (marked true false (depot_in (Some 0) ((3, reference 1) ∷ (4, reference 2) ∷ (5, int_value (pos 0)) ∷ [])) ∷
    marked true false (clock_in (Some 0) []) ∷ coin_in None [] ∷ [])
    (held_by ann 1 0 Shared ∷ held_by ann 2 0 Shared ∷ held_by ann 3 1 Owned ∷ held_by bob 1 0 Shared ∷
    held_by bob 2 1 Shared ∷ [])
    ∷ store (depot_in (Some 0) ((3, reference 1) ∷ (4, reference 2) ∷ (5, int_value (pos 0)) ∷ []) ∷
    marked true false (clock_in (Some 0) []) ∷ marked false true (coin_in None []) ∷ box_in (Some 2) [] ∷
    coin_in None [] ∷ [])
    (held_by ann 1 0 Unowned ∷ held_by ann 2 3 Shared ∷ held_by ann 3 0 Owned ∷ held_by bob 1 0 Unowned ∷
    held_by bob 2 4 Owned ∷ held_by bob 3 4 Owned ∷ [])
    ∷ store (
    depot_in (Some 1) ((0, reference 2) ∷ (1, reference 3) ∷ (3, reference 1) ∷ (4, reference 2) ∷ (5, int_value (pos 1)) ∷ []) ∷
    marked true false (clock_in (Some 0) []) ∷ marked false true (coin_in None []) ∷ coin_in None [] ∷
    box_in (Some 2) [] ∷ [])
    (held_by ann 1 0 Owned ∷ held_by ann 2 3 Unowned ∷ held_by ann 3 4 Unowned ∷ held_by bob 1 4 Unowned ∷ [])
    ∷ store (depot_in (Some 0) ((3, reference 1) ∷ (4, reference 2) ∷ (5, int_value (pos 0)) ∷ []) ∷
    marked true false (clock_in (Some 0) []) ∷ marked false true (coin_in None []) ∷ [])
    (held_by ann 1 0 Owned ∷ held_by ann 2 0 Owned ∷ [])
    ∷ store (
    depot_in (Some 1) ((0, reference 0) ∷ (1, reference 3) ∷ (3, reference 1) ∷ (4, reference 2) ∷ (5, int_value (pos 1)) ∷ []) ∷
    marked true false (clock_in (Some 0) []) ∷ marked false true (coin_in None []) ∷ coin_in None [] ∷
    box_in (Some 2) [] ∷ [])
    (held_by ann 1 0 Owned ∷ held_by ann 2 3 Unowned ∷ held_by ann 3 4 Unowned ∷ held_by bob 1 4 Unowned ∷ [])
    ∷ store (
    depot_in (Some 1) ((0, reference 4) ∷ (1, reference 4) ∷ (3, reference 1) ∷ (4, reference 2) ∷ (5, int_value (pos 1)) ∷ []) ∷
    marked true false (clock_in (Some 0) []) ∷ marked false true (coin_in None []) ∷ coin_in None [] ∷
    box_in (Some 2) [] ∷ []) (held_by ann 1 0 Owned ∷ held_by ann 2 4 Unowned ∷ [])
    ∷ store (depot_in (Some 0) ((3, reference 3) ∷ (4, reference 2) ∷ (5, int_value (pos 0)) ∷ []) ∷
    marked true false (clock_in (Some 0) []) ∷ marked false true (coin_in None []) ∷ coin_in None [] ∷
    box_in (Some 1) [] ∷ [])
    (held_by ann 1 0 Owned ∷ held_by bob 1 0 Unowned ∷ held_by bob 2 3 Owned ∷ held_by bob 3 4 Owned ∷ [])
    ∷ store (marked false true (depot_in (Some 0) ((3, reference 1) ∷ (4, reference 2) ∷ (5, int_value (pos 0)) ∷ [])) ∷
    marked true false (clock_in (Some 0) []) ∷ marked false true (coin_in None []) ∷ coin_in None [] ∷ [])
    (held_by ann 1 0 Owned ∷ held_by ann 2 3 Owned ∷ [])
    ∷ store (depot_in (Some 0) ((3, reference 1) ∷ (4, reference 2) ∷ (5, int_value (pos 0)) ∷ []) ∷
    marked true false (clock_in (Some 0) []) ∷ marked false true (coin_in None []) ∷ coin_in None [] ∷
    box_in (Some 2) [] ∷ [])
    (held_by ann 1 0 Owned ∷ held_by ann 2 3 Owned ∷ held_by ann 3 4 Owned ∷ held_by bob 1 4 Unowned ∷
    held_by bob 2 2 Owned ∷ [])
    ∷ store (
    depot_in (Some 1) ((0, reference 0) ∷ (1, reference 3) ∷ (3, reference 0) ∷ (4, reference 2) ∷ (5, int_value (pos 1)) ∷ []) ∷
    marked true false (clock_in (Some 0) []) ∷ marked false true (coin_in None []) ∷ coin_in None [] ∷
    box_in (Some 2) [] ∷ [])
    (held_by ann 1 0 Owned ∷ held_by ann 2 3 Unowned ∷ held_by ann 3 4 Unowned ∷ held_by bob 1 4 Unowned ∷ [])
    ∷ store (depot_in (Some 0) ((3, reference 1) ∷ (4, reference 2) ∷ (5, int_value (pos 0)) ∷ []) ∷
    marked true false (clock_in (Some 1) []) ∷ marked false true (coin_in None []) ∷ coin_in None [] ∷ [])
    (held_by ann 1 0 Owned ∷ held_by ann 2 1 Owned ∷ held_by ann 3 3 Owned ∷ [])
    ∷ store (
    depot_in (Some 1) ((0, reference 0) ∷ (1, reference 3) ∷ (3, reference 1) ∷ (4, reference 2) ∷ (5, int_value (pos 1)) ∷ []) ∷
    marked true false (clock_in (Some 0) []) ∷ marked false true (coin_in None []) ∷ coin_in None [] ∷
    box_in (Some 2) [] ∷ []) (held_by ann 1 0 Owned ∷ held_by ann 2 4 Unowned ∷ held_by bob 1 4 Unowned ∷ [])
    ∷ store (depot_in (Some 0) ((3, reference 1) ∷ (4, reference 2) ∷ (5, int_value (pos 0)) ∷ []) ∷
    marked true false (clock_in (Some 0) []) ∷ marked false true (coin_in None []) ∷ coin_in None [] ∷ [])
    (held_by ann 1 0 Shared ∷ held_by ann 2 3 Owned ∷ [])
    ∷ store (depot_in (Some 0) ((3, reference 1) ∷ (4, reference 2) ∷ (5, int_value (pos 0)) ∷ []) ∷
    marked true false (clock_in (Some 0) []) ∷ marked false true (coin_in None []) ∷ [])
    (held_by ann 1 0 Owned ∷ held_by ann 2 0 Unowned ∷ held_by ann 3 1 Shared ∷ held_by bob 1 2 Owned ∷ [])
    ∷ store (
    depot_in (Some 1) ((0, reference 4) ∷ (1, reference 4) ∷ (3, reference 1) ∷ (4, reference 2) ∷ (5, int_value (pos 1)) ∷ []) ∷
    marked true false (clock_in (Some 0) []) ∷ marked false true (coin_in None []) ∷ coin_in None [] ∷
    box_in (Some 2) [] ∷ [])
    (held_by ann 1 0 Owned ∷ held_by ann 2 3 Unowned ∷ held_by ann 3 4 Unowned ∷ held_by bob 1 4 Unowned ∷ [])
    ∷ store (depot_in (Some 0) ((3, reference 2) ∷ (4, reference 2) ∷ (5, int_value (pos 0)) ∷ []) ∷
    marked true false (clock_in (Some 0) []) ∷ marked false true (coin_in None []) ∷ [])
    (held_by ann 1 0 Owned ∷ held_by ann 2 0 Unowned ∷ held_by ann 3 1 Shared ∷ [])
    ∷ store (marked false true (depot_in (Some 0) ((3, reference 1) ∷ (4, reference 2) ∷ (5, int_value (pos 0)) ∷ [])) ∷
    marked true false (clock_in (Some 1) []) ∷ marked false true (coin_in None []) ∷
    marked true false (box_in (Some 1) []) ∷ [])
    (held_by ann 1 0 Unowned ∷ held_by ann 2 3 Shared ∷ held_by ann 3 1 Shared ∷ held_by ann 4 1 Shared ∷
    held_by bob 1 0 Owned ∷ held_by bob 2 3 Shared ∷ [])
    ∷ store (
    depot_in (Some 1) ((0, reference 4) ∷ (1, reference 3) ∷ (3, reference 1) ∷ (4, reference 2) ∷ (5, int_value (pos 1)) ∷ []) ∷
    marked true false (clock_in (Some 0) []) ∷ marked false true (coin_in None []) ∷ coin_in None [] ∷
    box_in (Some 1) [] ∷ []) (held_by ann 1 0 Owned ∷ held_by ann 2 4 Unowned ∷ held_by bob 1 4 Unowned ∷ [])
    ∷ store (marked false true (depot_in (Some 0) ((3, reference 1) ∷ (4, reference 2) ∷ (5, int_value (pos 0)) ∷ [])) ∷
    marked true false (clock_in (Some 0) []) ∷ marked false true (coin_in None []) ∷ box_in (Some 2) [] ∷ [])
    (held_by ann 1 0 Owned ∷ held_by ann 2 3 Unowned ∷ held_by ann 3 3 Owned ∷ [])
    ∷ store (marked false true (depot_in (Some 0) ((3, reference 1) ∷ (4, reference 2) ∷ (5, int_value (pos 0)) ∷ [])) ∷
    marked true false (clock_in (Some 0) []) ∷ marked false true (coin_in None []) ∷ [])
    (held_by ann 1 0 Shared ∷ [])
    ∷ store (depot_in (Some 0) ((3, reference 1) ∷ (4, reference 2) ∷ (5, int_value (pos 0)) ∷ []) ∷
    marked true false (clock_in (Some 0) []) ∷ marked false true (coin_in None []) ∷ coin_in None [] ∷ [])
    (held_by ann 1 0 Owned ∷ held_by ann 2 3 Owned ∷ held_by bob 1 3 Owned ∷ [])
    ∷ store (
    depot_in (Some 1) ((0, reference 4) ∷ (1, reference 3) ∷ (3, reference 1) ∷ (4, reference 2) ∷ (5, int_value (pos 1)) ∷ []) ∷
    marked true false (clock_in (Some 0) []) ∷ marked false true (coin_in None []) ∷ coin_in None [] ∷
    box_in (Some 0) [] ∷ []) (held_by ann 1 0 Owned ∷ held_by ann 2 4 Unowned ∷ held_by bob 1 4 Unowned ∷ [])
    ∷ store (depot_in (Some 0) ((3, reference 2) ∷ (4, reference 2) ∷ (5, int_value (pos 0)) ∷ []) ∷
    marked true false (clock_in (Some 0) []) ∷ marked false true (coin_in None []) ∷ box_in (Some 2) [] ∷
    box_in (Some 2) [] ∷ [])
    (held_by ann 1 0 Owned ∷ held_by ann 2 3 Owned ∷ held_by ann 3 0 Unowned ∷ held_by ann 4 4 Owned ∷
    held_by bob 1 0 Unowned ∷ [])
    ∷ store (marked true false (depot_in (Some 0) ((3, reference 1) ∷ (4, reference 2) ∷ (5, int_value (pos 0)) ∷ [])) ∷
    marked true false (clock_in (Some 0) []) ∷ marked false true (coin_in None []) ∷ [])
    (held_by ann 1 0 Shared ∷ held_by ann 2 0 Shared ∷ held_by bob 1 0 Unowned ∷ held_by bob 2 0 Owned ∷ [])
    ∷ store (depot_in (Some 0) ((3, reference 1) ∷ (4, reference 2) ∷ (5, int_value (pos 0)) ∷ []) ∷
    marked true false (clock_in (Some 0) []) ∷ marked false true (coin_in None []) ∷ box_in (Some 0) [] ∷ [])
    (held_by ann 1 0 Owned ∷ held_by ann 2 3 Unowned ∷ held_by bob 1 3 Owned ∷ held_by bob 2 3 Unowned ∷
    held_by bob 3 3 Owned ∷ [])
    ∷ store (
    depot_in (Some 1) ((0, reference 4) ∷ (1, reference 0) ∷ (3, reference 1) ∷ (4, reference 2) ∷ (5, int_value (pos 1)) ∷ []) ∷
    clock_in (Some 0) [] ∷ marked false true (coin_in None []) ∷ coin_in None [] ∷ box_in (Some 2) [] ∷ [])
    (held_by ann 1 0 Owned ∷ held_by ann 2 4 Unowned ∷ held_by bob 1 4 Unowned ∷ [])
    ∷ store (depot_in (Some 0) ((3, reference 1) ∷ (4, reference 2) ∷ (5, int_value (pos 0)) ∷ []) ∷
    marked true false (clock_in (Some 0) []) ∷ marked false true (coin_in None []) ∷
    marked true false (box_in (Some 1) []) ∷ [])
    (held_by ann 1 0 Owned ∷ held_by ann 2 3 Owned ∷ held_by bob 1 3 Unowned ∷ [])
    ∷ store (
    depot_in (Some 1) ((0, reference 2) ∷ (1, reference 3) ∷ (3, reference 1) ∷ (4, reference 2) ∷ (5, int_value (pos 1)) ∷ []) ∷
    marked true false (clock_in (Some 0) []) ∷ marked false true (coin_in None []) ∷ coin_in None [] ∷
    box_in (Some 2) [] ∷ []) (held_by ann 1 0 Owned ∷ held_by ann 2 4 Unowned ∷ held_by bob 1 4 Unowned ∷ [])
    ∷ store (depot_in (Some 0) ((3, reference 0) ∷ (4, reference 2) ∷ (5, int_value (pos 0)) ∷ []) ∷
    marked true false (clock_in (Some 0) []) ∷ marked false true (coin_in None []) ∷ [])
    (held_by ann 1 0 Unowned ∷ held_by bob 1 0 Unowned ∷ held_by bob 2 0 Owned ∷ [])
    ∷ store (depot_in (Some 0) ((3, reference 1) ∷ (4, reference 2) ∷ (5, int_value (pos 0)) ∷ []) ∷
    marked true false (clock_in (Some 1) []) ∷ marked false true (coin_in None []) ∷ coin_in None [] ∷ [])
    (held_by ann 1 0 Owned ∷ held_by ann 2 1 Shared ∷ held_by ann 3 3 Owned ∷ held_by bob 1 3 Owned ∷ [])
    ∷ store (
    depot_in (Some 1) ((0, reference 3) ∷ (1, reference 3) ∷ (3, reference 1) ∷ (4, reference 2) ∷ (5, int_value (pos 1)) ∷ []) ∷
    marked true false (clock_in (Some 0) []) ∷ marked false true (coin_in None []) ∷ coin_in None [] ∷
    box_in (Some 2) [] ∷ []) (held_by ann 1 0 Owned ∷ held_by ann 2 4 Unowned ∷ held_by bob 1 4 Unowned ∷ [])
    ∷ store (marked false true (depot_in (Some 0) ((3, reference 1) ∷ (4, reference 2) ∷ (5, int_value (pos 0)) ∷ [])) ∷
    marked true false (clock_in (Some 1) []) ∷ marked true true (coin_in None []) ∷
    marked true false (box_in (Some 1) []) ∷ [])
    (held_by ann 1 0 Owned ∷ held_by ann 2 3 Shared ∷ held_by ann 3 1 Shared ∷ held_by ann 4 1 Shared ∷
    held_by bob 1 3 Shared ∷ [])
    ∷ store (depot_in (Some 0) ((3, reference 1) ∷ (4, reference 2) ∷ (5, int_value (pos 0)) ∷ []) ∷
    marked true false (clock_in (Some 0) []) ∷ marked false true (coin_in None []) ∷ box_in (Some 0) [] ∷ [])
    (held_by ann 1 0 Owned ∷ held_by ann 2 3 Unowned ∷ held_by bob 1 3 Owned ∷ held_by bob 2 3 Unowned ∷
    held_by bob 3 3 Unowned ∷ held_by bob 4 3 Shared ∷ [])
    ∷ store (
    depot_in (Some 1) ((0, reference 4) ∷ (1, reference 0) ∷ (3, reference 1) ∷ (4, reference 2) ∷ (5, int_value (pos 1)) ∷ []) ∷
    marked true false (clock_in (Some 0) []) ∷ marked false true (coin_in None []) ∷ coin_in None [] ∷
    box_in (Some 2) [] ∷ [])
    (held_by ann 1 0 Owned ∷ held_by ann 2 3 Unowned ∷ held_by ann 3 4 Unowned ∷ held_by bob 1 4 Unowned ∷
    held_by bob 2 1 Unowned ∷ [])
    ∷ store (depot_in (Some 0) ((3, reference 1) ∷ (4, reference 2) ∷ (5, int_value (pos 0)) ∷ []) ∷
    marked true false (clock_in (Some 0) []) ∷ marked false true (coin_in None []) ∷ box_in (Some 1) [] ∷
    box_in (Some 2) [] ∷ [])
    (held_by ann 1 0 Owned ∷ held_by ann 2 3 Owned ∷ held_by ann 3 4 Owned ∷ held_by bob 1 4 Shared ∷ [])
    ∷ store (depot_in (Some 0) ((3, reference 1) ∷ (4, reference 2) ∷ (5, int_value (pos 0)) ∷ []) ∷
    marked true false (clock_in (Some 0) []) ∷ marked false true (coin_in None []) ∷ [])
    (held_by ann 1 0 Owned ∷ held_by bob 1 0 Unowned ∷ held_by bob 2 1 Owned ∷ [])
    ∷ store (
    depot_in (Some 1) ((0, reference 4) ∷ (1, reference 3) ∷ (3, reference 1) ∷ (4, reference 2) ∷ (5, int_value (pos 1)) ∷ []) ∷
    marked true false (clock_in (Some 0) []) ∷ marked false true (coin_in None []) ∷ coin_in None [] ∷
    box_in (Some 0) [] ∷ []) (held_by ann 1 0 Owned ∷ held_by ann 2 4 Unowned ∷ [])
    ∷ store (depot_in (Some 0) ((3, reference 1) ∷ (4, reference 2) ∷ (5, int_value (pos 0)) ∷ []) ∷
    marked true false (clock_in (Some 0) []) ∷ marked false true (coin_in None []) ∷ [])
    (held_by ann 1 0 Owned ∷ held_by ann 2 0 Unowned ∷ held_by bob 1 1 Owned ∷ [])
    ∷ store (depot_in (Some 0) ((3, reference 0) ∷ (4, reference 2) ∷ (5, int_value (pos 0)) ∷ []) ∷
    marked true false (clock_in (Some 0) []) ∷ marked false true (coin_in None []) ∷ box_in (Some 0) [] ∷ [])
    (held_by ann 1 0 Owned ∷ held_by ann 2 3 Unowned ∷ held_by bob 1 3 Owned ∷ held_by bob 2 3 Unowned ∷
    held_by bob 3 3 Unowned ∷ [])
    ∷ store (depot_in (Some 0) ((3, reference 2) ∷ (4, reference 2) ∷ (5, int_value (pos 0)) ∷ []) ∷
    marked true false (clock_in (Some 0) []) ∷ marked false true (coin_in None []) ∷ [])
    (held_by ann 1 0 Owned ∷ held_by bob 1 0 Unowned ∷ held_by bob 2 0 Owned ∷ [])
    ∷ store (
    depot_in (Some 1) ((0, reference 4) ∷ (1, reference 1) ∷ (3, reference 1) ∷ (4, reference 2) ∷ (5, int_value (pos 1)) ∷ []) ∷
    marked true false (clock_in (Some 0) []) ∷ marked true true (coin_in None []) ∷ coin_in None [] ∷
    box_in (Some 2) [] ∷ [])
    (held_by ann 1 0 Owned ∷ held_by ann 2 3 Unowned ∷ held_by ann 3 4 Unowned ∷ held_by bob 1 4 Unowned ∷ [])
    ∷ store (depot_in (Some 0) ((3, reference 1) ∷ (4, reference 2) ∷ (5, int_value (pos 0)) ∷ []) ∷
    marked true false (clock_in (Some 1) []) ∷ marked false true (coin_in None []) ∷
    marked false true (coin_in None []) ∷ [])
    (held_by ann 1 0 Owned ∷ held_by ann 2 1 Shared ∷ held_by bob 1 0 Owned ∷ [])
    ∷ store (
    depot_in (Some 1) ((0, reference 2) ∷ (1, reference 3) ∷ (3, reference 1) ∷ (4, reference 2) ∷ (5, int_value (pos 1)) ∷ []) ∷
    marked true false (clock_in (Some 0) []) ∷ marked false true (coin_in None []) ∷ coin_in None [] ∷
    box_in (Some 2) [] ∷ [])
    (held_by ann 1 0 Owned ∷ held_by ann 2 3 Unowned ∷ held_by ann 3 4 Unowned ∷ held_by bob 1 4 Unowned ∷
    held_by bob 2 2 Shared ∷ [])
    ∷ []

-- which of their objects fail
abbrev pub other_failures : List (List (ℕ × List FailingWay))
other_failures =
    ((0, owned_and_marked ∷ []) ∷ [])
    ∷ ((4, outside_states ∷ []) ∷ [])
    ∷ ((0, lost_asset ∷ shared_unmarked ∷ []) ∷ [])
    ∷ ((0, owned_and_marked ∷ []) ∷ (4, shared_unmarked ∷ []) ∷ [])
    ∷ ((0, many_owners ∷ outside_states ∷ other_contract ∷ []) ∷ (3, lost_asset ∷ []) ∷ [])
    ∷ ((0, owned_and_marked ∷ []) ∷ [])
    ∷ ((0, many_owners ∷ []) ∷ [])
    ∷ ((0, other_contract ∷ []) ∷ (3, lost_asset ∷ []) ∷ (4, many_owners ∷ outside_states ∷ []) ∷ [])
    ∷ ((0, owned_and_marked ∷ []) ∷ [])
    ∷ ((0, other_contract ∷ []) ∷ (4, outside_states ∷ []) ∷ [])
    ∷ ((0, other_contract ∷ []) ∷ (4, lost_asset ∷ shared_unmarked ∷ []) ∷ [])
    ∷ ((1, owned_and_marked ∷ []) ∷ (2, lost_asset ∷ []) ∷ [])
    ∷ ((3, lost_asset ∷ shared_unmarked ∷ []) ∷ (4, many_owners ∷ []) ∷ [])
    ∷ ((0, other_contract ∷ []) ∷ (2, owned_and_marked ∷ outside_states ∷ []) ∷ (4, lost_asset ∷ []) ∷ [])
    ∷ ((0, many_owners ∷ []) ∷ [])
    ∷ ((0, many_owners ∷ outside_states ∷ other_contract ∷ []) ∷ (4, lost_asset ∷ []) ∷ [])
    ∷ ((0, other_contract ∷ []) ∷ (3, lost_asset ∷ []) ∷ (4, many_owners ∷ outside_states ∷ []) ∷ [])
    ∷ ((0, other_contract ∷ []) ∷ (3, shared_unmarked ∷ []) ∷ [])
    ∷ ((0, owned_and_marked ∷ []) ∷ [])
    ∷ ((2, owned_and_marked ∷ []) ∷ [])
    ∷ ((0, many_owners ∷ shared_unmarked ∷ outside_states ∷ other_contract ∷ []) ∷ (4, lost_asset ∷ []) ∷ [])
    ∷ ((1, owned_and_marked ∷ []) ∷ [])
    ∷ ((0, many_owners ∷ outside_states ∷ other_contract ∷ []) ∷ (4, lost_asset ∷ []) ∷ [])
    ∷ ((0, lost_asset ∷ shared_unmarked ∷ []) ∷ [])
    ∷ ((2, owned_and_marked ∷ []) ∷ [])
    ∷ ((0, other_contract ∷ []) ∷ (3, lost_asset ∷ []) ∷ (4, many_owners ∷ outside_states ∷ []) ∷ [])
    ∷ ((0, other_contract ∷ []) ∷ (2, shared_unmarked ∷ []) ∷ [])
    ∷ ((0, owned_and_marked ∷ []) ∷ [])
    ∷ ((4, outside_states ∷ []) ∷ [])
    ∷ ((0, owned_and_marked ∷ []) ∷ [])
    ∷ ((0, shared_unmarked ∷ []) ∷ [])
    ∷ ((3, many_owners ∷ []) ∷ [])
    ∷ ((4, outside_states ∷ []) ∷ [])
    ∷ ((0, other_contract ∷ []) ∷ (2, shared_unmarked ∷ []) ∷ [])
    ∷ ((0, owned_and_marked ∷ []) ∷ [])
    ∷ ((3, many_owners ∷ []) ∷ [])
    ∷ ((0, many_owners ∷ outside_states ∷ other_contract ∷ []) ∷ (1, shared_unmarked ∷ []) ∷ (3, lost_asset ∷ []) ∷ [])
    ∷ ((3, owned_and_marked ∷ []) ∷ [])
    ∷ ((0, other_contract ∷ []) ∷ (2, owned_and_marked ∷ outside_states ∷ []) ∷ (4, lost_asset ∷ []) ∷ [])
    ∷ ((0, shared_unmarked ∷ other_contract ∷ []) ∷ [])
    ∷ ((3, many_owners ∷ []) ∷ [])
    ∷ ((0, other_contract ∷ []) ∷ (3, many_owners ∷ outside_states ∷ []) ∷ (4, lost_asset ∷ []) ∷ [])
    ∷ ((0, owned_and_marked ∷ []) ∷ [])
    ∷ ((3, shared_unmarked ∷ []) ∷ [])
    ∷ ((0, many_owners ∷ outside_states ∷ other_contract ∷ []) ∷ (3, lost_asset ∷ []) ∷ [])
    ∷ ((4, shared_unmarked ∷ []) ∷ [])
    ∷ ((1, owned_and_marked ∷ []) ∷ [])
    ∷ ((4, outside_states ∷ []) ∷ [])
    ∷ ((1, owned_and_marked ∷ []) ∷ [])
    ∷ ((0, shared_unmarked ∷ other_contract ∷ []) ∷ [])
    ∷ ((0, many_owners ∷ other_contract ∷ []) ∷ (2, shared_unmarked ∷ []) ∷ [])
    ∷ ((0, other_contract ∷ []) ∷ (1, owned_and_marked ∷ outside_states ∷ []) ∷ (3, lost_asset ∷ []) ∷ [])
    ∷ ((0, many_owners ∷ []) ∷ [])
    ∷ ((0, other_contract ∷ []) ∷ (2, owned_and_marked ∷ shared_unmarked ∷ outside_states ∷ []) ∷ (4, lost_asset ∷ []) ∷ [])
    ∷ []
