use Rattle.std.proofs.Common.{◌∙◌, map, sym, ap, subst}
use Rattle.ob_lanes.specs.Readers.{objects_read, freed_by, IsReader}
use Rattle.ob_lanes.proofs.StaleLemmas.{freed_one, none_freed, fewer}
use Rattle.ob_lanes.proofs.stale.reopen_by.Goals as goal

pub loop-reader-smaller : goal.loop-reader-smaller
loop-reader-smaller c =
    let l = c.loop-reader in
    let reader = subst (IsReader c.args.object l.readers) c.in-Some.is l.invariant.reader in
    fewer l.readers c.free_at.new.readers l.lanes c.args.object c.in-Some.lane l.invariant.entered reader.within reader.reads (c.free_at.ensures.entered ∙ ap (map objects_read) c.free_at.ensures.is)

pub loop-reader-preserved : goal.loop-reader-preserved
loop-reader-preserved c =
    let l = c.loop-reader in
    let reader = subst (IsReader c.args.object l.readers) c.in-Some.is l.invariant.reader in
    record {
      same = ap (map (freed_by c.args.object)) c.free_at.ensures.is ∙ freed_one l.readers l.lanes c.args.object c.in-Some.lane l.invariant.entered reader.reads ∙ l.invariant.same;
      entered = c.free_at.ensures.entered;
      reader = c.first-reader-in-Some.ensures;
    }

pub returns-clause-is : goal.returns-clause-is
returns-clause-is c =
    let l = c.loop-reader in
    let none = subst (IsReader c.args.object l.readers) c.in_default.is l.invariant.reader in
    sym (none_freed l.readers l.lanes c.args.object l.invariant.entered none.none) ∙ l.invariant.same
