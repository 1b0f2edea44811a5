-- Which calls of a disk in memory are to fail.
use Rattle.std.specs.Prelude.{◌≡◌, ℕ, ◌+◌, ◌-◌, ◌^◌, ◌==◌, min, Bool, List}
use Rattle.std.specs.List.{list_any}
use Rattle.ob_disk.specs.declared.plan.Plan.{Plan}

-- whether the next call is to fail
abbrev pub is_to_fail : Plan → Bool
is_to_fail plan = list_any (λ n. n == plan.calls) plan.fails.items

-- no call was made yet, and these are to fail
pub record IsNewPlan (plan : Plan) (fails : List ℕ) : Type 0 where
  pub calls : plan.calls ≡ 0
  pub fails_same : plan.fails.items ≡ fails
  pub faults : plan.faults ≡ 0

-- one call more was made, up to the end of 64 bits
pub record CountsCall (old new : Plan) : Type 0 where
  pub calls : new.calls ≡ min (old.calls + 1) (2 ^ 64 - 1)
  pub fails_same : new.fails.items ≡ old.fails.items
