use Rattle.std.proofs.Common.{◌∙◌, sym, length, arith}
use Rattle.std.proofs.lemmas.Slice.Zip.{zip_end}
use Rattle.ob_resolve_scope.specs.Around.{around_of}
use Rattle.ob_resolve_statements.proofs.WalkLemmas.{needed_end}
use Rattle.ob_resolve_statements.proofs.expressions.walk_needed.Goals as goal

pub returns : goal.returns
returns c =
    let l = c.loop-kind in
    let ended = zip_end c.args.kinds.now c.args.args.now l.yielded c.into_iter-kind-iterator.result l.kind-iterator
    c.next.new.self c.next.result (grind arith) (grind arith) l.yielded_by c.in-None.is c.next.ensures.steps in
    sym (needed_end (around_of c.args.around.now) c.args.scope.now l.least c.args.kinds.now c.args.args.now
    (length l.yielded) ended) ∙ l.invariant
