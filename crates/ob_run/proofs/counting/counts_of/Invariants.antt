use Rattle.std.proofs.Common.{◌≡◌, ◌+◌, ◌≤◌, List, length}
use Rattle.ob_run.specs.Kinds.{lines_of_replies, AreWithin, IsCountedSoFar}
use Rattle.ob_wire.specs.declared.reply.Reply.{Reply}
use Rattle.ob_run.proofs.counting.counts_of.Given as goal

-- the lines before the rest are counted
abbrev pub invariant-lines : goal.invariant-lines
invariant-lines l = record {
  within : AreWithin l.counts;
  few : l.counts.lines + length l.rest ≤ length l.fn.replies;
  so_far : (rs : List Reply) → l.fn.replies ≡ lines_of_replies rs → IsCountedSoFar rs l.rest l.counts;
  objects : l.counts.objects ≡ l.initial.counts.objects;
  handles : l.counts.handles ≡ l.initial.counts.handles;
}

abbrev pub decreases-lines : goal.decreases-lines
decreases-lines l = length l.rest
