use Rattle.std.proofs.Common.{sym}
use Rattle.ob_emit.proofs.TermsLemmas.{jumps_over_some}
use Rattle.ob_emit.proofs.terms.jumps_over.Goals as goal

pub returns-in-len1-up : goal.returns-in-len1-up
returns-in-len1-up c = sym (jumps_over_some c.args.ends c.args.other.now c.in-len1-up.len_at_least)
