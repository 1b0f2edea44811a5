use Rattle.std.proofs.Common.{◌≡◌, ◌∙◌, [], Some, false, length, get_or, map, sym, ap, subst, arith}
use Rattle.std.specs.Prelude.{is_some, IsSome}
use Rattle.std.proofs.lemmas.List.{length-set}
use Rattle.slab.specs.Slab.{get}
use Rattle.ob_links.specs.Lists.{joined, with_pair}
use Rattle.ob_links.proofs.Counting.{one_more}
use Rattle.ob_owners.specs.Places.{AreKeyed, has_key, spots_of}
use Rattle.ob_owners.proofs.PlacesLemmas.{unused, keyed_kept, keyed_more, listed_more}
use Rattle.ob_owners.proofs.places.insert.Goals as goal

pub returns-clause-keyed : goal.returns-clause-keyed
returns-clause-keyed c =
    let lists = c.args.links.now.lists in
    let key = c.insert_reserved-key.result in
    let old = c.args.spots.now in
    let new = c.insert_reserved-key.new.self in
    let u = c.insert_reserved-key.ensures.updates in
    let out : has_key key (joined lists) ≡ false = unused old key (joined lists) c.insert_reserved-key.ensures.was_vacant c.requires.keyed in
    let kept : AreKeyed new (joined lists) = keyed_kept old new key (Some c.args.spot) (joined lists) u out c.requires.keyed in
    let there : IsSome (get new key) = ap is_some u.changed in
    subst (λ ls. AreKeyed new (joined ls)) (sym c.insert.ensures.lists) (keyed_more new lists c.args.list c.args.before (c.insert.result, key) c.requires.list c.requires.before kept out there)

pub returns-clause-places : goal.returns-clause-places
returns-clause-places c =
    let lists = c.args.links.now.lists in
    let key = c.insert_reserved-key.result in
    let old = c.args.spots.now in
    let new = c.insert_reserved-key.new.self in
    let out : has_key key (joined lists) ≡ false = unused old key (joined lists) c.insert_reserved-key.ensures.was_vacant c.requires.keyed in
    ap (map (spots_of new)) c.insert.ensures.lists
    ∙ listed_more old new lists c.args.list c.args.before (c.insert.result, key) c.args.spot c.insert_reserved-key.ensures.updates out

pub returns-clause-lists : goal.returns-clause-lists
returns-clause-lists c =
    let lists = c.args.links.now.lists in
    ap length c.insert.ensures.lists ∙ length-set lists c.args.list (with_pair c.args.before (c.insert.result, c.insert_reserved-key.result) (get_or lists c.args.list []))

pub returns-clause-count : goal.returns-clause-count
returns-clause-count c =
    let lists = c.args.links.now.lists in
    ap (λ ls. length (joined ls)) c.insert.ensures.lists ∙ one_more c.args.list c.args.before (c.insert.result, c.insert_reserved-key.result) lists c.requires.list

pub returns-clause-room : goal.returns-clause-room
returns-clause-room c = λ more h. omega (arith, h, c.insert_reserved-key.ensures.len, c.insert_reserved-key.ensures.capacity)
