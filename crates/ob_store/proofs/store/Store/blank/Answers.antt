use Rattle.std.proofs.Common.{◌∙◌, ap, subst, option_map}
use Rattle.std.proofs.lemmas.Result.{IfOk-weaker}
use Rattle.ob_code.specs.declared.image.Image.{Image}
use Rattle.ob_code_table.specs.ImageTables.{table_of_image}
use Rattle.ob_heap.specs.Contents.{content_of}
use Rattle.ob_journal.specs.Journals.{area_size}
use Rattle.ob_store.specs.Stores.{program_of, TellsOwners}
use Rattle.ob_store.proofs.Opened.{empty_of, kept_empty}
use Rattle.ob_store.proofs.store.Store.blank.Goals as goal

pub returns : goal.returns
returns c =
    let none = empty_of c.new.result c.new.ensures.objects c.new.ensures.handles in
    record {
      content = IfOk-weaker c.index_owners.result _ _ (λ store is. ap content_of is.content_is ∙ none) c.index_owners.ensures;
      memory = IfOk-weaker c.index_owners.result _ _ (λ store is. ap (option_map area_size) is.journal_is) c.index_owners.ensures;
      owners = IfOk-weaker c.index_owners.result _ _ (λ store is.
          subst (λ (x : Image). TellsOwners (program_of x) store) c.image.ensures.image
          (is.owners (kept_empty (table_of_image c.image.result.now) (content_of c.new.result) none).is_content)) c.index_owners.ensures;
    }
