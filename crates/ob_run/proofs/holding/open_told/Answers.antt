use Rattle.ob_store.specs.Stores.{program_of}
use Rattle.ob_run.proofs.HoldingLemmas.{opens_unless_memory}
use Rattle.ob_run.proofs.holding.open_told.Goals as goal

-- the disk's bytes are observable
pub out_of_memory-requires : goal.out_of_memory-requires
out_of_memory-requires c =
    let bytes = c.in-Some._told.now in
    opens_unless_memory (program_of c.args.code.now) c.args.area bytes c.in-Err.error c.requires.room
    (λ r. c.requires.unrefused bytes c.in-Some.ensures r) (c.in-Err.ensures.opened bytes c.in-Some.ensures) c.in-Err.ensures.room c.in-Err.ensures.cause

pub returns-in-Ok-clause-told : goal.returns-in-Ok-clause-told
returns-in-Ok-clause-told c = (c.in-Some._told.now, c.in-Some.ensures, c.in-Ok.ensures.opened c.in-Some._told.now c.in-Some.ensures)
