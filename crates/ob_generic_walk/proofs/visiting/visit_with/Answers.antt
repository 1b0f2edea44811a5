use Rattle.std.proofs.Common.{sym}
use Rattle.std.proofs.lemmas.Result.{on_ok_weaker}
use Rattle.ob_tree.specs.NamesView.{ref_of}
use Rattle.ob_tree.specs.declared.name.NamedNode.{out-NamedNode}
use Rattle.ob_tree.specs.declared.name.RefNode.{out-RefNode}
use Rattle.ob_generic_walk.proofs.VisitTurns.{ref_of-span, found_of, name_visited, found_parts}
use Rattle.ob_generic_walk.proofs.visiting.visit_with.Goals as goal

pub returns : goal.returns
returns c =
    let a = c.args.around.now in
    let f = c.args.found.now in
    let bytes = c.as_bytes-bytes.result.now in
    let inner = c.in_ok-argument.inner in
    let argument = c.in_ok-argument.argument in
    let place = (out-NamedNode (out-RefNode c.args.argument.now).of).span in
    on_ok_weaker c.arrive.result (λ known.
    name_visited a f c.args.role c.args.name.now (ref_of c.args.argument.now) c.args.span bytes inner argument place
    (found_of c.arrive.new.known c.note_argument.new.least) c.as_bytes-bytes.ensures.bytes c.in_ok-argument.ensures.faulty
    c.in_ok-argument.ensures.argument (sym (ref_of-span c.args.argument.now))
    (found_parts a f bytes inner argument c.args.span place c.in_ok-instance.instance c.is_refused-is_refused.result
    c.note_with.new.least c.note_if.new.least c.note_argument.new.least c.arrive.new.known c.in_ok-instance.ensures
    c.is_refused-is_refused.ensures c.note_with.ensures c.note_if.ensures c.note_argument.ensures known)) c.arrive.ensures
