use Rattle.std.proofs.Common.{◌≡◌, ◌∙◌, Option, map, sym, ap, subst, rules}
use Rattle.std.specs.Prelude.{slice_set, None, IfOk, OnErr}
use Rattle.std.specs.Global.{Vec}
use Rattle.std.specs.Vec.{with_items}
use Rattle.std.proofs.lemmas.List.{with_items_is, places}
use Rattle.ob_lanes.specs.Committing.{lane_at}
use Rattle.ob_lanes.specs.Readers.{objects_read}
use Rattle.ob_lanes.specs.Standing.{LanesRepresent, HadTurn}
use Rattle.ob_lanes.specs.declared.batch.Busy.{Busy}
use Rattle.ob_lanes.proofs.listed.Listed.turn.Goals as goal

pub invariant_of-self : goal.invariant_of-self
invariant_of-self g c =
    let same : (with_items c.self.inside.lanes c.turn_listed.new.lanes).items ≡ c.turn_listed.new.lanes = with_items_is c.self.inside.lanes c.turn_listed.new.lanes (search (rules, places)) in
    c.turn_listed.ensures.entered ∙ ap (map objects_read) (sym same)

pub returns-clause-had : goal.returns-clause-had
returns-clause-had g c = λ l those going.
    let image = c.args.code.now in
    let base = c.args.content.now in
    let entries = c.args.entries.now in
    let same : (with_items c.self.inside.lanes c.turn_listed.new.lanes).items ≡ c.turn_listed.new.lanes = with_items_is c.self.inside.lanes c.turn_listed.new.lanes (search (rules, places)) in
    let seen : c.deref_mut.result.now ≡ c.args.self.now.items = c.deref_mut.ensures.value ∙ ap (λ (v : Vec (Option Busy)). v.items) c.self.view_is in
    subst (λ x. IfOk c.turn_listed.result (HadTurn image c.args.fuel base entries c.args.units c.args.lane l x)) (sym same)
    (c.turn_listed.ensures.had l (subst (λ x. LanesRepresent image c.args.fuel base entries x l) (sym seen) those) going)

pub returns-clause-idle : goal.returns-clause-idle
returns-clause-idle g c =
    let same : (with_items c.self.inside.lanes c.turn_listed.new.lanes).items ≡ c.turn_listed.new.lanes = with_items_is c.self.inside.lanes c.turn_listed.new.lanes (search (rules, places)) in
    subst (λ ls. OnErr c.turn_listed.result (lane_at ls c.args.lane ≡ None)) (sym same) c.turn_listed.ensures.idle

pub returns-clause-stay : goal.returns-clause-stay
returns-clause-stay g c =
    let k = c.args.lane in
    let turned = c.turn_listed.new.lanes in
    let same : (with_items c.self.inside.lanes turned).items ≡ turned = with_items_is c.self.inside.lanes turned (search (rules, places)) in
    let seen : c.deref_mut.result.now ≡ c.args.self.now.items = c.deref_mut.ensures.value ∙ ap (λ (v : Vec (Option Busy)). v.items) c.self.view_is in
    same
    ∙ c.turn_listed.ensures.stay
    ∙ ap (λ ls. slice_set ls k (lane_at turned k)) seen
    ∙ ap (λ ls. slice_set c.args.self.now.items k (lane_at ls k)) (sym same)
