use Rattle.ob_invocation_laws.proofs.Owners.{put_counts, gone_counts}
use Rattle.ob_invocation_laws.proofs.laws.handles_carry_owners.Goals as goal

pub returns : goal.returns
returns c = record {
  put = λ content n h are. put_counts n content.handles h are.order;
  gone = λ content n name are. gone_counts n content.handles name are.order;
}
