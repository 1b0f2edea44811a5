use Rattle.std.proofs.Common.{◌≡◌, true, false, sym, ap, ◌∙◌}
use Rattle.std.specs.Prelude.{option_map}
use Rattle.ob_heap.specs.Contents.{content_of}
use Rattle.ob_invocation_spec.specs.Checks.{check}
use Rattle.ob_invocation_spec.specs.Refusals.{repeats_object}
use Rattle.ob_invocation_spec.specs.Replies.{repeated}
use Rattle.ob_wire.specs.Refusals.{refusal_told}
use Rattle.ob_exec_entries.specs.Later.{name_checks}
use Rattle.ob_exec_entries.proofs.CheckLemmas.{held, passed}
use Rattle.ob_exec_entries.proofs.TargetLemmas.{twice_seen}
use Rattle.ob_exec_entries.proofs.target.Target.later_refusal.Goals as goal

pub returns-then-is_any_used_twice : goal.returns-then-is_any_used_twice
returns-then-is_any_used_twice c =
    let content = content_of c.args.content.now in
    let e = c.args.self.now in
    let twice : repeats_object content e ≡ true =
    twice_seen content e c.args.uses.now c.requires ∙ sym c.is_any_used_twice.ensures ∙ c.if-is_any_used_twice.true in
    sym (ap (option_map refusal_told) (held (check repeated (repeats_object content e)) (name_checks content e) twice))

pub returns : goal.returns
returns c =
    let content = content_of c.args.content.now in
    let e = c.args.self.now in
    let once : repeats_object content e ≡ false =
    twice_seen content e c.args.uses.now c.requires ∙ sym c.is_any_used_twice.ensures ∙ c.if-is_any_used_twice.false in
    c.name_refusal.ensures ∙ sym (ap (option_map refusal_told) (passed (check repeated (repeats_object content e)) (name_checks content e) once))
