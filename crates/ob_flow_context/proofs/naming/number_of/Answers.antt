use Rattle.std.proofs.Common.{ap, sym, ◌∙◌}
use Rattle.ob_table_spec.specs.Names.{same}
use Rattle.ob_flow_context.proofs.NamingLemmas.{numbering_passed}
use Rattle.ob_flow_context.proofs.naming.number_of.Goals as goal

pub loop-i-preserved : goal.loop-i-preserved
loop-i-preserved c = c.loop-i.invariant ∙ numbering_passed c.args.name.now c.args.names.now c.loop-i.i
    c.index-names-i.result c.loop-i-test.true c.index-names-i.is
    (ap (same c.args.name.now) (sym c.as_bytes.ensures.bytes) ∙ sym c.eq.ensures ∙ c.if-eq.false)
