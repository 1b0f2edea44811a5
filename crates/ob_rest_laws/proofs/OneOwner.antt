-- In a store at rest each asset without a mark has exactly one owner.
use Rattle.std.proofs.Common.{◌≡◌, ℕ, false, arith}
use Rattle.std.specs.Prelude.{◌==◌, nat_lt}
use Rattle.ob_table.specs.Tables.{ClassTable}
use Rattle.ob_heap_spec.specs.Contents.{Content}
use Rattle.ob_rest_spec.specs.Incoming.{owners}
use Rattle.ob_rest_spec.specs.Failing.{many_owners, lost_asset}
use Rattle.ob_rest_spec.specs.AtRest.{IsAtRest, EachAssetHasOneOwner}
use Rattle.ob_rest_laws.proofs.Ways.{fails_by_none}

-- a number that is neither above 1 nor 0 is 1
is_one : (k : ℕ) → nat_lt 1 k ≡ false → (k == 0) ≡ false → k ≡ 1
is_one k few some = grind arith

pub one_owner : (table : ClassTable) (content : Content) → IsAtRest table content → EachAssetHasOneOwner table content
one_owner table content rest n o there asset unmarked =
    let fails = fails_by_none table content rest n o there in
    is_one (owners table content n) (fails many_owners) (rw (asset, unmarked) at (fails lost_asset))
