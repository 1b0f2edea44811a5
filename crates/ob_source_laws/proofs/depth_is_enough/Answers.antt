-- By the calls in each part.
use Rattle.ob_source_laws.proofs.EachPart.{calls_same, values_same, bodies_same}
use Rattle.ob_source_laws.proofs.depth_is_enough.Goals as goal

pub returns : goal.returns
returns c = record {
  calls = λ table callee args depth deeper w le more. calls_same table depth deeper callee args w le more;
  expressions = λ table f e ls depth deeper w le more. values_same table depth deeper f e ls w le more;
  statements = λ table f ss ls depth deeper w le more. bodies_same table depth deeper f ss ls w le more;
}
