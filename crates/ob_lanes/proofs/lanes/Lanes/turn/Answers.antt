use Rattle.std.proofs.Common.{◌≡◌, refl, sym, ap, subst, rules}
use Rattle.ob_lanes.specs.Standing.{LanesRepresent, HadTurn}
use Rattle.ob_lanes.proofs.Answering.{turned_so}
use Rattle.ob_lanes.proofs.lanes.Lanes.turn.Goals as goal

pub returns-clause-turned : goal.returns-clause-turned
returns-clause-turned g c = λ batch l can.
    let image = c.args.code.now in
    let base = c.args.content.now in
    let old = c.args.self.now in
    let es : c.deref.result.now ≡ old.entries.items = search rules in
    let those = subst (λ x. LanesRepresent image c.args.fuel base x old.lanes.items l) (sym es) can.stands.state in
    let had = subst (λ x. HadTurn image c.args.fuel base x old.slice old.next l c.turn.new.self.items c.in_ok-outcome.outcome) es (c.in_ok-outcome.ensures.had l those can.going) in
    turned_so image c.args.fuel batch base old (record old { lanes = c.turn.new.self }) c.turn_of.new.self l c.in_ok-outcome.outcome c.turn_of.result can refl refl refl had
    c.turn_of.ensures.turn c.turn_of.ensures.slice (ap (λ v. v.items) c.turn_of.ensures.entries) (ap (λ v. v.items) c.turn_of.ensures.lanes)
