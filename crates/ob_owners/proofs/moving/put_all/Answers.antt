use Rattle.std.proofs.Common.{[], ◌∷◌, ◌∙◌, length, length-append, ap, arith}
use Rattle.ob_owners.specs.Order.{with_place}
use Rattle.ob_owners.proofs.OwnersLemmas.{changed_turn}
use Rattle.ob_owners.proofs.moving.put_all.Goals as goal

pub loop-owning-preserved : goal.loop-owning-preserved
loop-owning-preserved g c =
    let olds = c.loop-owning.coming.items in
    let news = c.pop.new.self.items in
    let o = c.in-Some.owning in
    let shorter = ap length c.in-Some.ensures.items in
    record {
      lists = changed_turn with_place olds news o c.loop-owning.places.lists c.put.new.places.lists c.in-Some.ensures.items c.put.ensures.lists ∙ c.loop-owning.invariant.lists;
      room = omega (arith, shorter, length-append news (o ∷ []), c.loop-owning.invariant.room, c.put.ensures.room);
    }
