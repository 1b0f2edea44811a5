use Rattle.std.proofs.Common.{◌≤◌, ℕ, List, length}
use Rattle.ob_heap.specs.Contents.{content_of}
use Rattle.ob_journal_spec.specs.Areas.{Records}
use Rattle.ob_code_table.specs.ImageTables.{table_of_image}
use Rattle.ob_store.specs.Opening.{IsKeptContent}
use Rattle.ob_store.proofs.Opened.{IsReplayed}
use Rattle.ob_store.proofs.opening.replay.Given as goal

-- the payloads so far lead to the content, and the others are those of what is left
abbrev pub invariant-records : goal.invariant-records
invariant-records l = record {
  replayed : (payloads : List (List ℕ)) → Records payloads l.records → IsReplayed (table_of_image l.code) payloads (content_of l.content) l.rest;
  kept : IsKeptContent (table_of_image l.code) (content_of l.content);
  within : length l.rest ≤ length l.records;
}

abbrev pub decreases-records : goal.decreases-records
decreases-records l = length l.rest
