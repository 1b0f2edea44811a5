use Rattle.std.proofs.Common.{◌∙◌, map, ap, rules}
use Rattle.ob_heap.specs.Contents.{named_of, IsInOrder}
use Rattle.ob_invocation_spec.specs.Entering.{handle_in, put_after_use}
use Rattle.ob_invocation_spec.specs.Handles.{handle_name}
use Rattle.ob_exec_entries.specs.Entering.{use_of}
use Rattle.ob_exec.specs.Putting.{put_in}
use Rattle.ob_exec.proofs.PutLemmas.{none_more, one_more, none_needed}
use Rattle.ob_exec.proofs.puts.put_use.Goals as goal

pub returns-in_default : goal.returns-in_default
returns-in_default c = λ all same.
    let who = c.args.who.now in
    let used = c.args.used.now in
    none_more c.args.content.now c.args.overlay.now all (map named_of c.args.puts.now) (put_after_use (use_of who used))
    (c.mode_after.ensures who ∙ ap (put_in (handle_name who used.name) used.handle.object.0) c.in_default.is) same

pub returns-then-is_needless : goal.returns-then-is_needless
returns-then-is_needless c = λ all same.
    let who = c.args.who.now in
    let used = c.args.used.now in
    let name = handle_name who used.name in
    let order : IsInOrder c.args.content.now.handles = search rules in
    none_needed c.args.content.now c.args.overlay.now all (put_after_use (use_of who used)) c.args.puts.now name used.handle c.in-Some.mode
    order c.requires (c.mode_after.ensures who ∙ ap (put_in name used.handle.object.0) c.in-Some.is)
    (c.is_needless.ensures.0 c.if-is_needless.true) same

pub returns : goal.returns
returns c = λ all same.
    let who = c.args.who.now in
    let used = c.args.used.now in
    let name = handle_name who used.name in
    one_more c.args.content.now c.args.overlay.now all (put_after_use (use_of who used)) c.args.puts.now c.push.new.self c.in_ok-put.put
    (handle_in name used.handle.object.0 c.in-Some.mode) (c.mode_after.ensures who ∙ ap (put_in name used.handle.object.0) c.in-Some.is)
    c.in_ok-put.ensures c.in_ok-push.ensures.ok same
