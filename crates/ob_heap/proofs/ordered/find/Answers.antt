use Rattle.std.proofs.Common.{◌∙◌, sym}
use Rattle.ob_heap.proofs.HandlesLemmas.{find_found, find_other, find_none}
use Rattle.ob_heap.proofs.ordered.find.Goals as goal

pub returns-then-place-handles : goal.returns-then-place-handles
returns-then-place-handles c = find_none (record { who = c.args.who.now; name = c.args.name.now }) c.args.handles.now c.place_of-place.result
    c.requires c.place_of-place.ensures c.if-place-handles.true

pub returns-then-has_name : goal.returns-then-has_name
returns-then-has_name c = find_found (record { who = c.args.who.now; name = c.args.name.now }) c.args.handles.now c.place_of-place.result
    c.index-handles-place.result c.place_of-place.ensures c.if-place-handles.false c.index-handles-place.is (sym c.has_name.ensures ∙ c.if-has_name.true)

pub returns : goal.returns
returns c = find_other (record { who = c.args.who.now; name = c.args.name.now }) c.args.handles.now c.place_of-place.result
    c.index-handles-place.result c.requires c.place_of-place.ensures c.if-place-handles.false c.index-handles-place.is (sym c.has_name.ensures ∙ c.if-has_name.false)
