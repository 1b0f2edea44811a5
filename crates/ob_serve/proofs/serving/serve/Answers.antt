use Rattle.ob_store.specs.Stores.{area_of_store, kept_of, state_of}
use Rattle.ob_heap.specs.Contents.{content_of}
use Rattle.ob_serve.proofs.BySource.{ends_by_source}
use Rattle.ob_serve.proofs.Tables.{rests_by_source}
use Rattle.ob_serve.proofs.serving.serve.Goals as goal

pub returns-clause-ends : goal.returns-clause-ends
returns-clause-ends g c = λ program sound.
    ends_by_source program c.args.code.now c.args.limits (area_of_store c.args.store.now) sound (state_of c.args.store.now) _ _ c.serve_lines.result
    (rests_by_source program c.args.code.now sound (content_of (kept_of c.args.store.now)) c.requires.at_rest) c.serve_lines.ensures.ends
