use Rattle.std.proofs.Common.{refl}
use Rattle.ob_code_laws.proofs.Leading.{leads_ahead}
use Rattle.ob_store.specs.Stores.{area_of_store, kept_of, state_of}
use Rattle.ob_serve.specs.Turning.{batch_on}
use Rattle.ob_serve.proofs.Turning.{begins, can_be_answered}
use Rattle.ob_conformance.proofs.lanes.put_batch.Goals as goal

pub put_turns-requires-clause-far : goal.put_turns-requires-clause-far
put_turns-requires-clause-far g c =
    let code = c.args.code.now in
    let store = c.args.store.now in
    let lanes = c.in-Ok-lanes_of in (
      area_of_store store,
      state_of store,
      c.args.batch,
      0,
      can_be_answered code c.args.limits (area_of_store store) (state_of store) c.args.batch (leads_ahead code c.image.ensures.verified) c.requires.servable.sound c.requires.labels c.requires.at_rest c.requires.limits,
      begins (batch_on code c.args.limits (area_of_store store) (state_of store) c.args.batch) store lanes.lanes refl refl (lanes.ensures.stand code (kept_of store)) lanes.ensures.requests lanes.ensures.next lanes.ensures.slice,
    )
