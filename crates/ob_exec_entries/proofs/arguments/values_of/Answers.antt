use Rattle.std.proofs.Common.{List, map, ap, ◌∙◌, arith}
use Rattle.std.specs.Prelude.{filter_map}
use Rattle.std.proofs.lemmas.List.{take_all}
use Rattle.ob_heap.specs.Contents.{content_of}
use Rattle.ob_invocation_spec.specs.Entries.{value_of}
use Rattle.ob_wire.specs.Meanings.{argument_meant}
use Rattle.ob_wire.specs.declared.request.Arg.{Arg}
use Rattle.ob_exec_entries.proofs.ValueLemmas.{values_turn}
use Rattle.ob_exec_entries.proofs.arguments.values_of.Goals as goal

pub loop-arg-preserved : goal.loop-arg-preserved
loop-arg-preserved c =
    values_turn (content_of c.args.content.now) c.args.who.now c.args.args.now c.loop-arg.arg-index c.arg-item.result c.loop-arg.values c.add_value.new.values
    c.in_ok-value_of.field-0 (omega arith) c.arg-item.is c.in_ok-add_value.ensures c.in_ok-value_of.ensures c.loop-arg.invariant

pub returns : goal.returns
returns c =
    c.loop-arg.invariant
    ∙ ap (λ (xs : List Arg). filter_map (value_of (content_of c.args.content.now) c.args.who.now) (map argument_meant xs))
    (take_all c.loop-arg.arg-index c.args.args.now (omega arith))
