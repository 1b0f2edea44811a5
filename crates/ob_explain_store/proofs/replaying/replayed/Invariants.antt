use Rattle.ob_heap.specs.Contents.{content_of}
use Rattle.ob_code_table.specs.ImageTables.{table_of_image}
use Rattle.ob_store.specs.Opening.{IsKeptContent}
use Rattle.ob_explain_store.proofs.replaying.replayed.Given as goal

-- the content is one of the program
abbrev pub invariant-records : goal.invariant-records
invariant-records l = IsKeptContent (table_of_image l.code) (content_of l.content)
