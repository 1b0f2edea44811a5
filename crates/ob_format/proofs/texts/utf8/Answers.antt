use Rattle.std.proofs.Common.{rules, arith, ◌-◌}
use Rattle.ob_format_spec.specs.Texts.{text_byte, next_due, no_due, read_utf8}
use Rattle.ob_format.proofs.Loops.{each_step, each_halt}
use Rattle.ob_format.proofs.texts.utf8.Goals as goal

pub returns-in_err-byte : goal.returns-in_err-byte
returns-in_err-byte c =
    let halt = each_halt text_byte next_due c.args.count c.bytes.read (c.args.count - 1 - c.bytes.read) c.bytes.state c.bytes.items c.bytes.rest.now (read_utf8 c.args.count no_due c.args.bytes.now) (search rules) (omega arith) c.bytes.invariant in
    search (rules, halt)

pub bytes-preserved : goal.bytes-preserved
bytes-preserved c =
    each_step text_byte next_due c.args.count c.bytes.read (c.args.count - 1 - c.bytes.read) c.bytes.state c.next_due-state.result c.bytes.items c.push.new.self c.in_ok-byte.byte c.bytes.rest.now c.in_ok-byte.after.now
    (read_utf8 c.args.count no_due c.args.bytes.now) (search rules) (omega arith) c.bytes.invariant c.in_ok-byte.ensures c.in_ok-push.ensures.ok c.next_due-state.ensures
