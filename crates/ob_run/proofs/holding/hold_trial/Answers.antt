use Rattle.std.proofs.Common.{refl}
use Rattle.ob_disk.specs.Sure.{sure_disk_view}
use Rattle.ob_io.specs.Sure.{sure_source_view, sure_sink_view}
use Rattle.ob_client.specs.Trials.{trial_lines}
use Rattle.ob_outside.specs.Devices.{Devices}
use Rattle.ob_store.specs.Stores.{program_of, state_of}
use Rattle.ob_run.proofs.HoldingLemmas.{some_bytes, blank_unrefused, told_blank, ends_unless_memory, session_unrefused, done_session, is_trial}
use Rattle.ob_run.proofs.holding.hold_trial.Goals as goal

pub open_told-requires-clause-unrefused : goal.open_told-requires-clause-unrefused
open_told-requires-clause-unrefused c = blank_unrefused (program_of c.args.code.now) c.args.area (sure_disk_view c.new-disk.result) c.new-disk.ensures.content

-- the streams and the disk never fail, and the lines are short
pub end_of-requires : goal.end_of-requires
end_of-requires c =
    let old : Devices = record { input = sure_source_view c.new-input.result; output = sure_sink_view c.new-output.result; disk = sure_disk_view c.open_told.new.disk } in
    let new : Devices = record { input = sure_source_view c.serve-served.new.input; output = sure_sink_view c.serve-served.new.output; disk = sure_disk_view c.serve-served.new.disk } in
    let left = some_bytes (sure_source_view c.new-input.result).left c.in_ok-trial_lines.field-0.items (trial_lines c.args.trial_length) c.new-input.ensures.left c.in_ok-trial_lines.ensures in
    let ends = c.serve-served.ensures.by_code in
    ends_unless_memory c.args.trial_length old new left ends.lines c.serve-served.result c.ranges.trial_length.fits ends.of_input ends.cause refl refl refl refl refl refl

-- the disk represents the store after the session
pub open_told-requires-2-clause-unrefused : goal.open_told-requires-2-clause-unrefused
open_told-requires-2-clause-unrefused c =
    let old : Devices = record { input = sure_source_view c.new-input.result; output = sure_sink_view c.new-output.result; disk = sure_disk_view c.open_told.new.disk } in
    let new : Devices = record { input = sure_source_view c.serve-served.new.input; output = sure_sink_view c.serve-served.new.output; disk = sure_disk_view c.serve-served.new.disk } in
    session_unrefused c.args.code.now c.args.limits c.args.area c.in_ok-store.store old new c.serve-served.result c.in_ok-store.ensures.area c.serve-served.ensures.by_code

pub returns : goal.returns
returns c = λ program sound.
    let code = c.args.code.now in
    let old : Devices = record { input = sure_source_view c.new-input.result; output = sure_sink_view c.new-output.result; disk = sure_disk_view c.open_told.new.disk } in
    let new : Devices = record { input = sure_source_view c.serve-served.new.input; output = sure_sink_view c.serve-served.new.output; disk = sure_disk_view c.serve-served.new.disk } in
    let left = some_bytes (sure_source_view c.new-input.result).left c.in_ok-trial_lines.field-0.items (trial_lines c.args.trial_length) c.new-input.ensures.left c.in_ok-trial_lines.ensures in
    let ends = done_session program code sound c.args.limits c.args.area c.args.trial_length c.in_ok-store.store old new c.serve-served.result c.in_ok-store.ensures.area c.in_ok-end_of.ensures
    (c.serve-served.ensures.ends program sound) in
    let told = c.in_ok-after.ensures.told in
    is_trial program code sound c.args.limits c.args.area c.args.trial_length c.in_ok-store.store c.in_ok-after.after old new c.in-Some.replies.now told.0 c.counts_with_store.result
    (told_blank (program_of code) c.args.area (sure_disk_view c.new-disk.result) (state_of c.in_ok-store.store) c.new-disk.ensures.content c.in_ok-store.ensures.told)
    c.in_ok-store.ensures.at_rest left c.new-output.ensures.written c.in-Some.ensures ends told.1 told.2 c.counts_with_store.ensures
