use Rattle.std.specs.Prelude.{option_map}
use Rattle.std.proofs.lemmas.Result.{on_ok_weaker}
use Rattle.ob_heap.specs.Overlays.{no_object}
use Rattle.ob_heap.proofs.UnreadLemmas.{unread_onward}
use Rattle.ob_machine_steps.specs.Entries.{receiver_comes_in}
use Rattle.ob_machine_parts.specs.Shown.{number_of}
use Rattle.ob_machine.specs.Shown.{world_of}
use Rattle.ob_machine.proofs.MarkingLemmas.{then_args}
use Rattle.ob_machine.proofs.marking.comes_into_body.Goals as goal

pub returns-clause-world : goal.returns-clause-world
returns-clause-world c = on_ok_weaker c.args_come_in.result
    (λ h m. then_args c.args.body.now.params c.as_slice.result.now c.args.entry.now.args c.as_slice-2.result.now
    (receiver_comes_in c.args.entry.now.contract c.args.body.now (option_map number_of c.args.entry.now.receiver) (world_of m c.args.base.now.objects c.args.overlay.now))
    (world_of m c.args.base.now.objects c.receiver_comes_in.new.overlay) (world_of m c.args.base.now.objects c.args_come_in.new.overlay)
    c.as_slice.ensures c.as_slice-2.ensures (c.in_ok-receiver_comes_in.ensures.world c.args.entry.now.contract m) (h m)) c.args_come_in.ensures.world

pub returns-clause-unread : goal.returns-clause-unread
returns-clause-unread c = on_ok_weaker c.args_come_in.result
    (λ k. unread_onward no_object c.args.overlay.now c.receiver_comes_in.new.overlay c.args_come_in.new.overlay c.in_ok-receiver_comes_in.ensures.unread k)
    c.args_come_in.ensures.unread
