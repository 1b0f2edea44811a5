use Rattle.std.proofs.Common.{◌++◌, [], map, sym, subst}
use Rattle.std.specs.Prelude.{flat_map, option_map}
use Rattle.std.specs.Option.{option_map_or}
use Rattle.ob_heap.specs.Contents.{named_of}
use Rattle.ob_heap.specs.Plain.{value_of}
use Rattle.ob_invocation_spec.specs.Entering.{put_after_use, put_given}
use Rattle.ob_invocation_spec.specs.Handles.{handle_name}
use Rattle.ob_exec_entries.specs.Entering.{use_of}
use Rattle.ob_exec.specs.Putting.{LeaveTheSame}
use Rattle.ob_exec.proofs.PutLemmas.{same_more}
use Rattle.ob_exec.proofs.puts.puts_after.Goals as goal

pub returns : goal.returns
returns c =
    let uses = flat_map put_after_use (map (use_of c.args.who.now) c.args.uses.now) in
    let more = option_map_or (λ name. put_given (handle_name c.args.who.now name) c.args.given (option_map value_of c.args.value.now)) c.args.into.now [] in
    subst (LeaveTheSame c.args.content.now c.args.overlay.now (uses ++ more)) (sym c.in_ok-put_into.ensures)
    (same_more c.args.content.now c.args.overlay.now uses (map named_of c.in_ok-puts.puts) more c.in_ok-puts.ensures)
