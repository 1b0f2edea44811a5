use Rattle.std.proofs.Common.{refl}
use Rattle.ob_machine.specs.Shown.{shown, world_of}
use Rattle.ob_machine.specs.declared.progress.Progress.TheVariants.{Going}
use Rattle.ob_machine.proofs.StepLemmas.{stored_on, stretched_off}
use Rattle.ob_machine.proofs.run.Run.stores.Goals as goal

pub returns-in-Ok-clause-told : goal.returns-in-Ok-clause-told
returns-in-Ok-clause-told c =
    let m = c.args.self.now in (
      stored_on c.args.code.now c.args.field c.args.a m (record m { top = record m.top { at = c.args.next } }) c.args.base.now.objects c.args.overlay.now
          c.store.new.overlay c.args.next Going (c.in-Ok.ensures.told m.guard m.units) refl refl c.requires,
      (refl, refl),
    )

pub returns-in-Err-clause-told : goal.returns-in-Err-clause-told
returns-in-Err-clause-told c =
    let m = c.args.self.now in
    let base = c.args.base.now.objects in
    stretched_off c.in-Err.off c.args.code.now c.args.field c.args.a (shown m base c.args.overlay.now) (shown m base c.store.new.overlay)
    (world_of m base c.store.new.overlay) (c.in-Err.ensures.told m.guard m.units)
