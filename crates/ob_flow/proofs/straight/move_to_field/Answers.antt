use Rattle.std.proofs.Common.{Some}
use Rattle.std.proofs.lemmas.Result.{err_from_is_err_and}
use Rattle.ob_flow_context.specs.View.{known_of, context_of, tested_of}
use Rattle.ob_flow.proofs.FormsLemmas.{fill_fails, asset_fails, field_moves, field_moved}
use Rattle.ob_flow.proofs.straight.move_to_field.Goals as goal

pub returns-in_err-fill : goal.returns-in_err-fill
returns-in_err-fill c =
    let failed = err_from_is_err_and c.from_residual-in_err-fill.result c.from_residual-in_err-fill.ensures.1 in
    rw (failed.1, failed.2) (fill_fails c.args.frame.now (tested_of c.args.tested.now) (context_of c.args.context.now)
    c.args.at c.args.field.0 c.args.from c.accessible.result c.is_tested.result c.in_err-fill.field-0.0
    c.accessible.ensures c.is_tested.ensures c.in_ok-must.ensures c.in_ok-must-2.ensures c.in_err-fill.ensures)

pub returns-in_err-must-3 : goal.returns-in_err-must-3
returns-in_err-must-3 c =
    let failed = err_from_is_err_and c.from_residual-in_err-must-3.result c.from_residual-in_err-must-3.ensures.1 in
    rw (failed.1, failed.2) (asset_fails c.args.frame.now (tested_of c.args.tested.now) (context_of c.args.context.now)
    (context_of c.fill.new.context) c.args.at c.args.field.0 c.args.from c.accessible.result c.is_tested.result
    c.owns_asset-overwrites.result c.in_err-must-3.field-0.0 c.accessible.ensures c.is_tested.ensures
    c.owns_asset-overwrites.ensures c.in_ok-must.ensures c.in_ok-must-2.ensures c.in_ok-fill.ensures.0
    c.in_ok-fill.ensures.1 c.in_err-must-3.ensures)

pub returns : goal.returns
returns c = (
  field_moves c.args.frame.now (tested_of c.args.tested.now) (context_of c.args.context.now)
      (context_of c.fill.new.context) c.args.at c.args.field.0 c.args.from c.accessible.result c.is_tested.result
      c.owns_asset-overwrites.result c.accessible.ensures c.is_tested.ensures c.owns_asset-overwrites.ensures
      c.in_ok-must.ensures c.in_ok-must-2.ensures c.in_ok-fill.ensures.0 c.in_ok-fill.ensures.1 c.in_ok-must-3.ensures,
  field_moved c.args.frame.now (context_of c.args.context.now) (context_of c.fill.new.context) (context_of c.put.new.self)
      c.args.field.0 c.args.from (Some (known_of c.in_ok-known.known)) c.in_ok-fill.ensures.1 c.in_ok-known.ensures
      c.in_ok-put.ensures,
)
