use Rattle.std.proofs.Common.{Some, refl, sym, ap, subst, ◌∙◌}
use Rattle.ob_heap.specs.Contents.{content_of}
use Rattle.ob_machine_meaning.specs.Meanings.{machine_invocation}
use Rattle.ob_wire.specs.Meanings.{request_of}
use Rattle.ob_exec_handles.specs.Coming.{IsInLimits}
use Rattle.ob_lanes.specs.Standing.{GoesOn}
use Rattle.ob_lanes.specs.declared.batch.BatchRequest.{BatchRequest}
use Rattle.ob_lanes.proofs.TurnLemmas.{held_by, limits_at, busy_ran_if, found_there}
use Rattle.ob_lanes.proofs.turning.run_busy.Goals as goal

pub slice-requires-clause-right : goal.slice-requires-clause-right
slice-requires-clause-right g c =
    let image = c.args.code.now in
    let base = c.args.content.now in
    let entries = c.args.entries.now in
    let busy = c.args.busy.now in
    let h = held_by image c.args.fuel base entries busy c.requires.may.0 c.requires.may.1 in
    subst (λ (e : BatchRequest). IsInLimits (machine_invocation image (content_of base) (request_of e.request) c.args.fuel))
    (sym (found_there entries busy.number h.entry c.index-entries-busy.result h.entry_is))
    (limits_at image c.args.fuel base entries busy.number h.entry c.requires.right h.entry_is)

pub slice-requires-clause-goes : goal.slice-requires-clause-goes
slice-requires-clause-goes g c =
    let image = c.args.code.now in
    let base = c.args.content.now in
    let entries = c.args.entries.now in
    let busy = c.args.busy.now in
    let h = held_by image c.args.fuel base entries busy c.requires.may.0 c.requires.may.1 in (
      h.lane.given,
      subst (λ (e : BatchRequest). GoesOn image c.args.fuel base e.request h.lane.given busy.run)
          (sym (found_there entries busy.number h.entry c.index-entries-busy.result h.entry_is)) h.goes,
    )

pub returns : goal.returns
returns g c = λ s m.
    let image = c.args.code.now in
    let base = c.args.content.now in
    let entries = c.args.entries.now in
    let busy = c.args.busy.now in
    let may = m in
    let h = held_by image c.args.fuel base entries busy s may in
    let found = found_there entries busy.number h.entry c.index-entries-busy.result h.entry_is in
    busy_ran_if image c.args.fuel base entries c.args.units busy _ s _ c.slice.result may (h.entry_is ∙ ap (λ (e : BatchRequest). Some e) (sym found)) refl c.slice.ensures
