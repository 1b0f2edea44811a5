use Rattle.std.proofs.Common.{◌≡◌, false, not, ap}
use Rattle.ob_exec_entries.proofs.TargetLemmas.{lacking}
use Rattle.ob_exec_entries.proofs.target.Target.lacks_permission.Goals as goal

pub returns-else-not-receiver_serves : goal.returns-else-not-receiver_serves
returns-else-not-receiver_serves c =
    let serves : not c.receiver_serves.result ≡ false = ap not c.if-not-receiver_serves.false in
    λ content h. lacking content c.args.self.now c.args.uses.now c.receiver_serves.result c.are_served.result c.receiver_serves.ensures serves c.are_served.ensures h
