use Rattle.std.proofs.Common.{subst, map, rules}
use Rattle.ob_heap.specs.Contents.{content_of, named_of}
use Rattle.ob_invocation_spec.specs.Entering.{put_after_use}
use Rattle.ob_exec_entries.specs.Entering.{use_of}
use Rattle.ob_exec.specs.Putting.{LeaveTheSame}
use Rattle.ob_exec.proofs.PutLemmas.{next_use}
use Rattle.ob_exec.proofs.StandingLemmas.{stands_at}
use Rattle.ob_exec.proofs.puts.put_uses.Goals as goal

pub put_use-requires : goal.put_use-requires
put_use-requires c =
    stands_at (content_of c.args.content.now) (use_of c.args.who.now) c.args.uses.now c.loop-used.used-index c.used-item.result c.requires
    (search rules) (search rules)

pub loop-used-preserved : goal.loop-used-preserved
loop-used-preserved c =
    let who = use_of c.args.who.now in
    subst (λ ps. LeaveTheSame c.args.content.now c.args.overlay.now ps (map named_of c.put_use.new.puts))
    (next_use put_after_use who c.args.uses.now c.loop-used.used-index c.used-item.result (search rules) (search rules))
    (c.in_ok-put_use.ensures _ c.loop-used.invariant)
