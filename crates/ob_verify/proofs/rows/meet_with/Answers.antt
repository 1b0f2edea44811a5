use Rattle.std.proofs.Common.{◌<◌, length, arith}
use Rattle.ob_verify.proofs.RowLoops.{met_turn, met_length, met_step}
use Rattle.ob_verify.proofs.rows.meet_with.Goals as goal

pub loop-slot-preserved : goal.loop-slot-preserved
loop-slot-preserved c =
    let h : c.loop-slot.slot < length c.loop-slot.row = omega (arith, c.loop-slot.invariant.many) in
    record {
      many = met_length c.loop-slot.row c.set.new.row c.loop-slot.slot c.len-slot-end.result c.both_hold-both.result c.loop-slot.invariant.many c.set.ensures;
      met = met_turn c.args.image.now _ c.loop-slot.row c.args.other.now c.set.new.row c.loop-slot.slot h c.loop-slot.invariant.met
          (met_step c.args.image.now c.loop-slot.row c.as_slice.result.now c.args.other.now c.set.new.row c.loop-slot.slot _ _ c.both_hold-both.result
          c.as_slice.ensures c.held.ensures c.held-in-loop-slot.ensures c.both_hold-both.ensures c.set.ensures);
    }
