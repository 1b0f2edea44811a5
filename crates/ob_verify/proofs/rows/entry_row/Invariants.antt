use Rattle.std.proofs.Common.{◌≡◌, ◌-◌, ◌++◌, ◌∷◌, drop}
use Rattle.ob_table.specs.declared.seen.Kind.TheVariants.{Reference}
use Rattle.ob_verify_spec.specs.Frames.{kinds_of_params}
use Rattle.ob_verify_spec.specs.Passing.{row_of}
use Rattle.ob_verify.proofs.rows.entry_row.Given as goal

abbrev pub invariant-loop-slot : goal.invariant-loop-slot
invariant-loop-slot l =
    row_of l.slot-end (Reference l.frame.here ∷ kinds_of_params l.frame.body) ≡ l.row ++ row_of (l.slot-end - l.slot) (drop l.slot (Reference l.frame.here ∷ kinds_of_params l.frame.body))
