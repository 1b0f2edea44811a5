use Rattle.ob_store.specs.Stores.{program_of}
use Rattle.ob_store.proofs.Committing.{prepared_by_record}
use Rattle.ob_store.proofs.store.Store.prepare.Goals as goal

pub returns-in-Ok : goal.returns-in-Ok
returns-in-Ok c =
    prepared_by_record (program_of c.args.code.now) c.args.self.now c.args.delta c.requires.image c.requires.delta c.in-Some.journal c.in-Some.is c.build_change.result c.in-Ok.built c.in-Ok.is c.build_change.ensures
