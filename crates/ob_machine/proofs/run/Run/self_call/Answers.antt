use Rattle.std.proofs.Common.{◌∙◌, sym, subst, Some}
use Rattle.ob_heap_spec.specs.Worlds.{by_fuel}
use Rattle.ob_machine_steps.specs.Configurations.{abort}
use Rattle.ob_machine_steps.specs.Calling.{calls_this}
use Rattle.ob_machine_parts.specs.Giving.{Gives}
use Rattle.ob_machine_parts.specs.Shown.{slots_of}
use Rattle.ob_machine.specs.Shown.{shown, told, world_of}
use Rattle.ob_machine.proofs.BeginningLemmas.{Held, all_held, none_held}
use Rattle.ob_machine.proofs.CallLemmas.{self_unset, self_unpaid, self_called, no_unit, unit_taken, with_units_of}
use Rattle.ob_machine.proofs.run.Run.self_call.Goals as goal

pub returns-then-not-are_set : goal.returns-then-not-are_set
returns-then-not-are_set c = λ base o.
    self_unset c.args.code.now c.args.slot c.args.tx c.args.args.now (shown c.args.self.now base o)
    (none_held (slots_of c.args.self.now.top.slots) c.args.args.now (sym c.are_set.ensures ∙ c.if-not-are_set.true))

pub returns-then-not-take : goal.returns-then-not-take
returns-then-not-take c = λ base o.
    let m = c.args.self.now in
    let s = shown m base o in
    let u = c.take.new.self in
    let held : Held (slots_of m.top.slots) c.args.args.now = all_held (slots_of m.top.slots) c.args.args.now (sym c.are_set.ensures ∙ c.if-not-are_set.false) in
    self_unpaid c.args.code.now c.args.slot c.args.tx c.args.args.now s held.values (Some (abort by_fuel (world_of (with_units_of m u) base o))) held.is
    (no_unit m base o u (calls_this c.args.code.now c.args.slot c.args.tx held.values s) c.if-not-take.ensures)

pub returns : goal.returns
returns c = λ base o.
    let m = c.args.self.now in
    let s = shown m base o in
    let u = c.take.new.self in
    let held : Held (slots_of m.top.slots) c.args.args.now = all_held (slots_of m.top.slots) c.args.args.now (sym c.are_set.ensures ∙ c.if-not-are_set.false) in
    subst (λ x. Gives c.runs.result x (told (shown c.runs.new.self base o)))
    (sym (self_called c.args.code.now c.args.slot c.args.tx c.args.args.now s held.values (world_of (with_units_of m u) base o) held.is
    (unit_taken m base o u (calls_this c.args.code.now c.args.slot c.args.tx held.values s) c.if-not-take.ensures)))
    (c.runs.ensures base o)
