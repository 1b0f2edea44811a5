use Rattle.std.proofs.Common.{rules, ◌∙◌, [], ◌∷◌, map, ap, ◌<◌, All, Err}
use Rattle.std.proofs.lemmas.List.{map-append}
use Rattle.ob_format_spec.specs.Combinators.{read_times}
use Rattle.ob_format.proofs.Loops.{times_step}
use Rattle.ob_store_laws.specs.Recorded.{handle_change}
use Rattle.ob_store_spec.specs.Payloads.{handle}
use Rattle.ob_store_payload.specs.Answering.{AnswersOnly, IsLabelled}
use Rattle.ob_store_payload.specs.declared.error.PayloadError.{PayloadError}
use Rattle.ob_store_payload.proofs.OnlyLemmas.{times_only}
use Rattle.ob_store_payload.proofs.reading.so_many_handles.Goals as goal

pub returns-in_err-next : goal.returns-in_err-next
returns-in_err-next c =
    let whole = read_times handle.read c.args.count c.args.bytes.now in
    let less : c.handles.counter < c.args.count = search rules in
    let only : (e : PayloadError) → AnswersOnly handle_change IsLabelled (Err e) (handle.read c.handles.rest.now) → AnswersOnly (map handle_change) (All IsLabelled) (Err e) whole =
    λ e h. times_only IsLabelled handle.read handle_change (map handle_change) c.args.count c.handles.counter (map handle_change c.handles.handles) c.handles.rest.now whole e less c.handles.invariant h in
    search (rules, only)

pub handles-preserved : goal.handles-preserved
handles-preserved c =
    let less : c.handles.counter < c.args.count = search rules in
    times_step handle.read c.args.count c.handles.counter (map handle_change c.handles.handles) (map handle_change c.push.new.self) (handle_change c.in_ok-next.next) c.handles.rest.now c.in_ok-next.after.now
    (read_times handle.read c.args.count c.args.bytes.now) less c.handles.invariant c.in_ok-next.ensures
    (ap (map handle_change) c.in_ok-push.ensures.ok ∙ map-append handle_change c.handles.handles (c.in_ok-next.next ∷ []))
