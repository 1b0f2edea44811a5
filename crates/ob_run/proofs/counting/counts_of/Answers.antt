use Rattle.std.proofs.Common.{◌+◌, ◌≤◌, length, sym, subst, List, ℕ}
use Rattle.ob_run.specs.Kinds.{IsCountedSoFar}
use Rattle.ob_run.proofs.CountLemmas.{all_counted, keeps_within, keeps_objects, keeps_handles, keeps_few, keeps_counted}
use Rattle.ob_run.proofs.counting.counts_of.Goals as goal

pub lines-preserved : goal.lines-preserved
lines-preserved c =
    let kind = c.kind_of_line.result in
    let old = c.lines.counts in
    let new = c.count_line.new.counts in
    let rest = c.lines.rest.now in
    let end = c.in-Some.end in
    let from = sym c.bytes_from-rest.ensures in record {
      within = keeps_within kind old new c.count_line.ensures c.lines.invariant.within;
      few = subst (λ (bytes : List ℕ). new.lines + length bytes ≤ length c.args.replies.now) from
          (keeps_few kind old new c.count_line.ensures rest end (length c.args.replies.now) c.lines.invariant.few c.in-Some.ensures.within);
      so_far = λ rs is. subst (λ (bytes : List ℕ). IsCountedSoFar rs bytes new) from
          (keeps_counted kind old new c.count_line.ensures rs rest end (c.lines.invariant.so_far rs is) (sym c.in-Some.ensures.place) c.kind_of_line.ensures);
      objects = keeps_objects kind old new c.count_line.ensures c.args.objects c.lines.invariant.objects;
      handles = keeps_handles kind old new c.count_line.ensures c.args.handles c.lines.invariant.handles;
    }

pub returns : goal.returns
returns c = λ rs is.
    all_counted rs c.lines.rest.now c.lines.counts c.args.objects c.args.handles (c.lines.invariant.so_far rs is) (sym c.in_default.ensures.place)
    c.lines.invariant.objects c.lines.invariant.handles
