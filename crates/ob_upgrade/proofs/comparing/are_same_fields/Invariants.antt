use Rattle.std.proofs.Common.{◌≡◌, drop}
use Rattle.ob_upgrade.specs.Comparing.{same_field_codes}
use Rattle.ob_upgrade.proofs.comparing.are_same_fields.Given as goal

abbrev pub invariant-loop-place : goal.invariant-loop-place
invariant-loop-place l = same_field_codes l.old l.new l.a l.b ≡ same_field_codes l.old l.new (drop l.place l.a) (drop l.place l.b)
