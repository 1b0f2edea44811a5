use Rattle.std.proofs.Common.{◌∙◌, length, ap}
use Rattle.ob_owners.specs.Order.{without_place}
use Rattle.ob_owners.proofs.OwnersLemmas.{changed_turn}
use Rattle.ob_owners.proofs.moving.take_all.Goals as goal

pub loop-owning-preserved : goal.loop-owning-preserved
loop-owning-preserved g c =
    let olds = c.loop-owning.going.items in
    let news = c.pop.new.self.items in
    let o = c.in-Some.owning in
    let shorter = ap length c.in-Some.ensures.items in
    record {
      lists = changed_turn without_place olds news o c.loop-owning.places.lists c.take.new.places.lists c.in-Some.ensures.items c.take.ensures.lists ∙ c.loop-owning.invariant.lists;
      room = c.take.ensures.room ∙ c.loop-owning.invariant.room;
    }

pub loop-owning-preserved-in-Some : goal.loop-owning-preserved-in-Some
loop-owning-preserved-in-Some g c =
    let olds = c.loop-owning.going.items in
    let news = c.pop.new.self.items in
    let o = c.in-Some.owning in
    let shorter = ap length c.in-Some.ensures.items in
    record {
      lists = changed_turn without_place olds news o c.loop-owning.places.lists c.take.new.places.lists c.in-Some.ensures.items c.take.ensures.lists ∙ c.loop-owning.invariant.lists;
      room = c.take.ensures.room ∙ c.loop-owning.invariant.room;
    }
