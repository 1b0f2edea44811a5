use Rattle.std.proofs.Common.{◌≡◌, map, take, drop}
use Rattle.ob_table.specs.StatementsView.{resolved_body_of}
use Rattle.ob_silica.specs.TermsView.{silica_body_of}
use Rattle.ob_front.specs.Lowered.{AreLoweredTo, first_slot_past}
use Rattle.ob_front.proofs.lowering.lower_bodies.Given as goal

abbrev pub invariant-loop-body : goal.invariant-loop-body
invariant-loop-body l = record {
  made : AreLoweredTo l.table (map resolved_body_of (take l.body-index l.body-items)) (map silica_body_of l.lowered);
  left : first_slot_past l.table (map resolved_body_of (drop l.body-index l.body-items))
      ≡ first_slot_past l.table (map resolved_body_of l.body-items);
}
