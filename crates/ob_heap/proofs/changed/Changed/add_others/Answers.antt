use Rattle.std.proofs.Common.{subst, sym}
use Rattle.ob_heap.specs.Differences.{AreOthers}
use Rattle.ob_heap.proofs.OthersLemmas.{others_onward}
use Rattle.ob_heap.proofs.changed.Changed.add_others.Goals as goal
use Rattle.ob_heap.proofs.changed.Changed.add_others.Goals.{in-Some+in_ok-add_other, in_default}

pub returns-clause-others : goal.returns-clause-others
returns-clause-others c =
    others_onward c.add_others.result c.args.base.now c.args.found.now c.match-self.found c.add_others.new.found
    (elim c.match-self.branch [
      | in-Some+in_ok-add_other w ↦ λ h. subst (AreOthers c.args.base.now) (sym w.found-is) (w.in_ok-add_other.ensures.others h)
      | in_default w ↦ λ h. subst (AreOthers c.args.base.now) (sym w.found-is) h
    ]) c.add_others.ensures.others
