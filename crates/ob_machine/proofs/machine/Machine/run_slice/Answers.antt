use Rattle.std.proofs.Common.{subst}
use Rattle.std.specs.Prelude.{option_map}
use Rattle.ob_machine.specs.Phases.{phase_of}
use Rattle.ob_machine.specs.Slicing.{ComesTo, stop_told}
use Rattle.ob_machine.proofs.SliceLemmas.{never_stuck}
use Rattle.ob_machine.proofs.machine.Machine.run_slice.Goals as goal

pub unreachable-requires : goal.unreachable-requires
unreachable-requires c =
    let base = c.args.base.now.objects in
    let start = phase_of c.args.self.now base c.args.overlay.now in
    never_stuck c.args.code.now c.args.units start c.requires
    (subst (λ found. ComesTo c.args.code.now c.args.units start (option_map (stop_told c.try_slice.new.self base c.try_slice.new.overlay) found)) c.in-None.is
    c.in_ok-progress.ensures.comes)
