use Rattle.std.proofs.Common.{◌≡◌, sym, subst}
use Rattle.ob_code_table.specs.ImageTables.{table_of_image}
use Rattle.ob_heap.specs.Contents.{Stored, content_of}
use Rattle.ob_owners.specs.Indexes.{told_owner}
use Rattle.ob_owners.specs.Spots.{owner_place}
use Rattle.ob_owners.proofs.OwnersLemmas.{told_is_owner}
use Rattle.ob_store.specs.Stores.{kept_of}
use Rattle.ob_serve.proofs.answering.find_answer.Goals as goal

-- the store tells the owners of its own content
pub answer-requires-clause-index : goal.answer-requires-clause-index
answer-requires-clause-index c = λ n.
    let table = table_of_image c.args.code.now in
    let owners = c.args.store.now.owners in
    subst (λ (x : Stored). told_owner owners n ≡ owner_place table (content_of x) n) (sym c.content-content.ensures)
    (told_is_owner table (content_of (kept_of c.args.store.now)) owners n c.requires.owners)
