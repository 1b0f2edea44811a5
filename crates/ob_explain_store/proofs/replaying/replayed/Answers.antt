use Rattle.ob_code_table.specs.ImageTables.{table_of_image}
use Rattle.ob_store.proofs.Opened.{empty_of, kept_empty}
use Rattle.ob_explain_store.proofs.replaying.replayed.Goals as goal

pub records-init : goal.records-init
records-init c =
    let none = empty_of c.new-content.result c.new-content.ensures.objects c.new-content.ensures.handles in
    kept_empty (table_of_image c.args.code.now) _ none
