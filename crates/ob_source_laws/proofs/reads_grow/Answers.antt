-- By the worlds of each part.
use Rattle.ob_heap_spec.specs.Worlds.{World}
use Rattle.ob_source_meaning.specs.Expressions.{value_of}
use Rattle.ob_source_meaning.specs.Statements.{run_all}
use Rattle.ob_source_meaning.specs.Calls.{call_at}
use Rattle.ob_source_laws.proofs.EachPart.{ends_so, calls_follow, values_follow, bodies_follow}
use Rattle.ob_source_laws.proofs.reads_grow.Goals as goal

pub returns : goal.returns
returns c = record {
  calls = λ table depth callee args (w : World).
      ends_so w (call_at table depth callee args w) (λ v f. f.reads) (λ s t. t.reads)
      (calls_follow table depth callee args w);
  expressions = λ table depth f e ls (w : World).
      ends_so w (value_of (call_at table depth) f e ls w) (λ v f. f.reads) (λ s t. t.reads)
      (values_follow table depth f e ls w);
  statements = λ table depth f ss ls (w : World).
      ends_so w (run_all (call_at table depth) f ss ls w) (λ v f. f.reads) (λ s t. t.reads)
      (bodies_follow table depth f ss ls w);
}
