-- A store at rest, and what is asked of a store between two requests (Coblenz et al., TOPLAS 42(3), 2020, "Permissions"
-- and "Assets"; what is asked in all is this project's own).
use Rattle.std.specs.Prelude.{◌≡◌, ◌<◌, ◌≤◌, ℕ, Bool, true, false, nat_lt, [], length, find, Option, Some}
use Rattle.std.specs.List.{range_with_len}
use Rattle.ob_base.specs.Limits.{most_objects, most_handles}
use Rattle.ob_table.specs.Tables.{ClassTable}
use Rattle.ob_heap_spec.specs.Objects.{Object}
use Rattle.ob_heap_spec.specs.Contents.{Content, IsContent, object_at}
use Rattle.ob_rest_spec.specs.Incoming.{owners}
use Rattle.ob_rest_spec.specs.Failing.{is_asset, is_marked, failing_ways}

-- a store is at rest where no object fails
abbrev pub IsAtRest : ClassTable → Content → Type 0
IsAtRest table content = (n : ℕ) → n < length content.objects → failing_ways table content n ≡ []

-- whether the object of a number fails in some way
abbrev pub fails : ClassTable → Content → ℕ → Bool
fails table content n = nat_lt 0 (length (failing_ways table content n))

-- the first object that fails, if there is one
abbrev pub first_failing_object : ClassTable → Content → Option ℕ
first_failing_object table content = find (fails table content) (range_with_len 0 (length content.objects))

-- A store between two requests: what it holds is of the class table and at rest, with no more objects and handles than
-- there may be.
pub record IsStoreAtRest (table : ClassTable) (content : Content) : Type 0 where
  pub is_content : IsContent table content
  pub at_rest : IsAtRest table content
  pub few_objects : length content.objects ≤ most_objects
  pub few_handles : length content.handles ≤ most_handles

-- each stored asset that is marked neither as shared nor as disowned has exactly one owner
abbrev pub EachAssetHasOneOwner : ClassTable → Content → Type 0
EachAssetHasOneOwner table content =
    (n : ℕ) (o : Object) → object_at content.objects n ≡ Some o → is_asset table o ≡ true → is_marked o ≡ false
    → owners table content n ≡ 1
