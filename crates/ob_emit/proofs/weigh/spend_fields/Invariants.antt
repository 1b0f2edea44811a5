use Rattle.std.proofs.Common.{◌≡◌, ◌+◌, drop}
use Rattle.ob_weight_laws.specs.Counting.{size_of_fields}
use Rattle.ob_emit.proofs.weigh.spend_fields.Given as goal

abbrev pub invariant-loop-field : goal.invariant-loop-field
invariant-loop-field l = l.left + size_of_fields l.fields ≡ l.fn.left + size_of_fields (drop l.field-index l.fields)
