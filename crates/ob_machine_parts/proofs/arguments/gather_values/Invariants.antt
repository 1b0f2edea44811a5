use Rattle.std.proofs.Common.{◌≡◌, ◌++◌, drop, map, Some}
use Rattle.ob_heap.specs.Plain.{value_of}
use Rattle.ob_machine_parts.specs.Shown.{slots_of}
use Rattle.ob_machine_parts.proofs.arguments.gather_values.Given as goal

abbrev pub invariant-loop-value : goal.invariant-loop-value
invariant-loop-value l =
    slots_of l.gathered.items ++ map (λ v. Some v) (map value_of (drop l.value-index l.args)) ≡ slots_of l.fn.out.items ++ map (λ v. Some v) (map value_of l.args)
