use Rattle.ob_heap.specs.Overlays.{no_object}
use Rattle.ob_heap.proofs.UnreadLemmas.{unread_itself}
use Rattle.ob_machine.specs.Shown.{shown}
use Rattle.ob_machine.proofs.StretchLemmas.{stretch_begins, strode, strode_less, stretch_ends, stretch_stops}
use Rattle.ob_machine.proofs.UnreadLemmas.{stride_spares, stride_still}
use Rattle.ob_machine.proofs.run.Run.stretch.Goals as goal

pub strides-init : goal.strides-init
strides-init c = record {
  told = stretch_begins c.args.code.now c.args.units (shown c.args.self.now c.args.base.now.objects c.args.overlay.now) c.in-Ok.instructions.now c.in-Ok.ensures;
  unread = λ known. (unread_itself no_object c.args.overlay.now, known);
}

pub strides-smaller : goal.strides-smaller
strides-smaller c =
    let base = c.args.base.now.objects in
    strode_less c.args.code.now c.strides.left c.in-Ok-Some.rest (shown c.strides.self base c.strides.overlay) (shown c.stride.new.self base c.stride.new.overlay)
    c.stride.result c.in-Ok-Some.field-0 c.requires c.stride.ensures.told c.in-Ok-Some.is c.in-Ok-Some.field-0-is

pub strides-preserved : goal.strides-preserved
strides-preserved c =
    let base = c.args.base.now.objects in
    record {
      told = strode c.args.code.now c.args.units c.strides.left c.in-Ok-Some.rest (shown c.args.self.now base c.args.overlay.now)
          (shown c.strides.self base c.strides.overlay) (shown c.stride.new.self base c.stride.new.overlay) c.in-Ok.instructions.now
          c.stride.result c.in-Ok-Some.field-0 c.requires c.strides.invariant.told c.stride.ensures.told c.in-Ok-Some.is c.in-Ok-Some.field-0-is;
      unread = λ known. stride_spares c.args.code.now c.strides.left c.in-Ok-Some.rest c.args.overlay.now c.strides.self c.stride.new.self base c.strides.overlay
          c.stride.new.overlay c.stride.result c.in-Ok-Some.field-0 (c.strides.invariant.unread known) c.stride.ensures.told c.stride.ensures.unread
          c.in-Ok-Some.is c.in-Ok-Some.field-0-is;
    }

pub returns-in-Ok-None-clause-told : goal.returns-in-Ok-None-clause-told
returns-in-Ok-None-clause-told c =
    let base = c.args.base.now.objects in
    stretch_ends c.args.code.now c.args.units c.strides.left (shown c.args.self.now base c.args.overlay.now)
    (shown c.strides.self base c.strides.overlay) (shown c.stride.new.self base c.stride.new.overlay) c.in-Ok.instructions.now
    c.stride.result c.in-Ok-None.field-0 c.strides.invariant.told c.stride.ensures.told c.in-Ok-None.is c.in-Ok-None.field-0-is

pub returns-in-Ok-None-clause-unread : goal.returns-in-Ok-None-clause-unread
returns-in-Ok-None-clause-unread c = λ known.
    let base = c.args.base.now.objects in
    stride_still c.args.code.now c.strides.left c.args.overlay.now c.strides.self c.stride.new.self base c.strides.overlay
    c.stride.new.overlay c.stride.result c.in-Ok-None.field-0 (c.strides.invariant.unread known) c.stride.ensures.told c.stride.ensures.unread
    c.in-Ok-None.is c.in-Ok-None.field-0-is

pub returns-in-Err-clause-unread : goal.returns-in-Err-clause-unread
returns-in-Err-clause-unread c = λ known. (unread_itself no_object c.args.overlay.now, known)

pub returns-in-Err-stride-clause-told : goal.returns-in-Err-stride-clause-told
returns-in-Err-stride-clause-told c =
    let base = c.args.base.now.objects in
    stretch_stops c.args.code.now c.args.units c.strides.left (shown c.args.self.now base c.args.overlay.now)
    (shown c.strides.self base c.strides.overlay) (shown c.stride.new.self base c.stride.new.overlay) c.in-Ok.instructions.now
    c.stride.result c.in-Err-stride.off c.strides.invariant.told c.stride.ensures.told c.in-Err-stride.is
