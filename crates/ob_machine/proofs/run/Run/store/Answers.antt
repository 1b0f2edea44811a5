use Rattle.ob_machine.specs.Shown.{shown, told, world_of}
use Rattle.ob_machine.proofs.StepLemmas.{stored_on, stored_off}
use Rattle.ob_machine.proofs.run.Run.store.Goals as goal

pub returns-in-Ok-clause-told : goal.returns-in-Ok-clause-told
returns-in-Ok-clause-told c =
    let m = c.args.self.now in
    stored_on c.args.code.now c.args.field c.args.a m c.goes_on.new.self c.args.base.now.objects c.args.overlay.now c.store.new.overlay c.args.next
    c.goes_on.result (c.in-Ok.ensures.told m.guard m.units) c.goes_on.ensures.goes c.goes_on.ensures.at c.requires

pub returns-in-Err-clause-told : goal.returns-in-Err-clause-told
returns-in-Err-clause-told c =
    let m = c.args.self.now in
    let base = c.args.base.now.objects in
    stored_off c.in-Err.off c.args.code.now c.args.field c.args.a (shown m base c.args.overlay.now) (world_of m base c.store.new.overlay)
    (told (shown m base c.store.new.overlay)) (c.in-Err.ensures.told m.guard m.units)
