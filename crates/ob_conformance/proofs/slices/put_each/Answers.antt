use Rattle.std.proofs.Common.{◌≡◌, sym, subst}
use Rattle.ob_code_table.specs.ImageTables.{table_of_image}
use Rattle.ob_heap.specs.Contents.{Stored, content_of}
use Rattle.ob_machine_meaning.specs.Meanings.{machine_invocation}
use Rattle.ob_wire.specs.Meanings.{request_of}
use Rattle.ob_owners.specs.Indexes.{told_owner}
use Rattle.ob_owners.specs.Spots.{owner_place}
use Rattle.ob_owners.proofs.OwnersLemmas.{told_is_owner}
use Rattle.ob_exec_handles.specs.Coming.{IsInLimits}
use Rattle.ob_store.specs.Stores.{kept_of}
use Rattle.ob_serve.proofs.Asking.{request_labels}
use Rattle.ob_serve.proofs.Keeping.{within_limits}
use Rattle.ob_conformance.proofs.slices.put_each.Goals as goal

-- the store tells the owners of its own content
pub put_ways-requires-clause-index : goal.put_ways-requires-clause-index
put_ways-requires-clause-index c = λ n.
    let table = table_of_image c.args.code.now in
    let store = c.in-Ok.store in
    subst (λ (x : Stored). told_owner store.owners n ≡ owner_place table (content_of x) n) (sym c.content.ensures)
    (told_is_owner table (content_of (kept_of store)) store.owners n c.in-Ok.ensures.stands.owners)

-- no request goes wrong on a store at rest
pub put_ways-requires-clause-right : goal.put_ways-requires-clause-right
put_ways-requires-clause-right c = λ request asks.
    let code = c.args.code.now in
    let content = kept_of c.in-Ok.store in
    subst (λ (x : Stored). IsInLimits (machine_invocation code (content_of x) (request_of request) c.args.fuel)) (sym c.content.ensures)
    (within_limits (table_of_image code) (machine_invocation code (content_of content) (request_of request) c.args.fuel)
    (c.requires.servable.sound.rests (content_of content) (request_of request) c.args.fuel c.in-Ok.ensures.at_rest (request_labels asks.0 request asks.2)))
