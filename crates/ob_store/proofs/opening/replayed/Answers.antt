use Rattle.std.proofs.Common.{sym, subst, ℕ, List}
use Rattle.ob_code_table.specs.ImageTables.{table_of_image}
use Rattle.ob_journal_spec.specs.Areas.{Records}
use Rattle.ob_store.specs.Opening.{Replays}
use Rattle.ob_store.proofs.opening.replayed.Goals as goal

pub returns-clause-replayed : goal.returns-clause-replayed
returns-clause-replayed c = λ payloads has.
    let there = subst (λ (l : List ℕ). Records payloads l) (sym c.records.ensures.value) has in
    subst (λ (n : ℕ). Replays (table_of_image c.args.code.now) n payloads c.replay-content.result) c.records_offset.ensures.value (c.replay-content.ensures.replayed payloads there)
