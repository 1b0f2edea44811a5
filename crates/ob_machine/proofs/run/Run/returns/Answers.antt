use Rattle.std.proofs.Common.{subst}
use Rattle.std.specs.Prelude.{Option, option_map}
use Rattle.ob_heap_spec.specs.Values.{Value as PlainValue}
use Rattle.ob_heap_spec.specs.Worlds.{World}
use Rattle.ob_heap.specs.Plain.{value_of}
use Rattle.ob_machine_steps.specs.Returning.{resumes, given_by}
use Rattle.ob_machine_parts.specs.Giving.{Gives}
use Rattle.ob_machine_parts.specs.Shown.{entered_of, tests_of}
use Rattle.ob_machine.specs.Shown.{shown, told, frames_of, world_of}
use Rattle.ob_machine.proofs.StepLemmas.{left_as}
use Rattle.ob_machine.proofs.run.Run.returns.Goals as goal

pub returns : goal.returns
returns c = λ base o.
    let m = c.args.self.now in
    let P : Option PlainValue → World → Type 0 = λ v w. Gives c.resumes.result (resumes (frames_of m.below) m.top.into v w) (told (shown c.resumes.new.self base o)) in
    subst (P (given_by (entered_of m.top.entered) m.top.this.0 (option_map value_of c.args.value)))
    (left_as (entered_of m.top.entered) m.top.this.0 (tests_of m.top.tests) m.guard c.release_all.new.guard c.leave.new.guard (world_of m base o) c.release_all.ensures c.leave.ensures)
    (subst (λ v. P v (world_of (record m { guard = c.leave.new.guard }) base o)) c.given_by-given.ensures (c.resumes.ensures base o))
