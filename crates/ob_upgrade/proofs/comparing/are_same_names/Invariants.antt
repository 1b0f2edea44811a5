use Rattle.std.proofs.Common.{◌≡◌, drop}
use Rattle.std.specs.Cmp.Lexicographic.{pointwise}
use Rattle.ob_table_spec.specs.Names.{same}
use Rattle.ob_upgrade.proofs.comparing.are_same_names.Given as goal

abbrev pub invariant-loop-place : goal.invariant-loop-place
invariant-loop-place l = pointwise same l.a l.b ≡ pointwise same (drop l.place l.a) (drop l.place l.b)
