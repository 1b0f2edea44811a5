use Rattle.std.proofs.Common.{None, [], slice_index_or, ◌∙◌, ap, length}
use Rattle.std.specs.Prelude.{slice_set}
use Rattle.ob_links.specs.Lists.{Pair, joined, with_pair}
use Rattle.ob_links.proofs.Counting.{one_more}
use Rattle.std.proofs.Common.{List}
use Rattle.ob_lanes.proofs.ListLemmas.{entered_there, entered_others}
use Rattle.ob_lanes.proofs.lists.enter.Goals as goal

pub returns-clause-listed : goal.returns-clause-listed
returns-clause-listed c =
    entered_there c.args.links.now c.insert.new.self c.args.list (c.insert.result, c.args.lane) c.requires.list
    (c.insert.ensures.lists ∙ ap (λ (ls : List (List Pair)). slice_set ls c.args.list (with_pair None (c.insert.result, c.args.lane) (slice_index_or ls c.args.list []))) c.reserve.ensures.lists)

pub returns-clause-others : goal.returns-clause-others
returns-clause-others c =
    entered_others c.args.links.now c.insert.new.self c.args.list (c.insert.result, c.args.lane) c.requires.list
    (c.insert.ensures.lists ∙ ap (λ (ls : List (List Pair)). slice_set ls c.args.list (with_pair None (c.insert.result, c.args.lane) (slice_index_or ls c.args.list []))) c.reserve.ensures.lists)

pub returns-clause-count : goal.returns-clause-count
returns-clause-count c =
    ap (λ ls. length (joined ls)) (c.insert.ensures.lists ∙ ap (λ (ls : List (List Pair)). slice_set ls c.args.list (with_pair None (c.insert.result, c.args.lane) (slice_index_or ls c.args.list []))) c.reserve.ensures.lists)
    ∙ one_more c.args.list None (c.insert.result, c.args.lane) c.args.links.now.lists c.requires.list
