use Rattle.std.proofs.Common.{◌∙◌}
use Rattle.ob_lanes.proofs.ListLemmas.{but_object}
use Rattle.ob_lanes.proofs.lists.Lists.put.Goals as goal

pub returns-clause-others : goal.returns-clause-others
returns-clause-others c = λ k m but.
    but_object c.list_for.new.self c.put_at.new.self c.args.lane c.args.object c.in_ok-list.list c.in_ok-list.ensures.found c.put_at.ensures.objects c.put_at.ensures.others k m but
    ∙ c.list_for.ensures.same k m
