use Rattle.std.proofs.Common.{arith}
use Rattle.ob_silica.specs.TermsView.{terms_of}
use Rattle.ob_silica_kinds.specs.Kinds.{kinds_of, kinds_turned}
use Rattle.ob_silica_kinds.proofs.KindsLemmas.{slot_kept}
use Rattle.ob_silica_kinds.proofs.heads.ask_slots.Goals as goal

pub loop-slot-preserved : goal.loop-slot-preserved
loop-slot-preserved c =
    let kinds = kinds_of c.args.slots.now in
    slot_kept c.args.slots.now (kinds_turned c.args.frame.now (terms_of c.args.first.now) (terms_of c.args.body.now) kinds)
    c.loop-slot.slot c.loop-slot.kinds c.push.new.self _ c.in-Some.kind (omega (arith, c.loop-slot-test.true, c.len-slot-end.ensures))
    c.in_ok-push-in-Some.ensures.ok c.in-Some.ensures c.loop-slot.invariant
