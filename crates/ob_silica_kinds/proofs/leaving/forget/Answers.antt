use Rattle.std.proofs.Common.{◌≤◌, None, length, sym, ap, ◌∙◌, arith}
use Rattle.ob_silica_kinds.specs.Kinds.{kinds_of, with_kind}
use Rattle.ob_silica_kinds.proofs.KindsLemmas.{kinds_of-past}
use Rattle.ob_silica_kinds.proofs.leaving.forget.Goals as goal

pub returns-else-slot-len : goal.returns-else-slot-len
returns-else-slot-len c =
    let slots = c.args.slots.now in
    let past : length slots ≤ c.in-Some.slot = omega (arith, c.if-slot-len.false, c.len.ensures, c.from-slot.ensures) in
    kinds_of-past slots c.in-Some.slot past ∙ ap (λ k. with_kind k None (kinds_of slots)) (sym c.in-Some.is)
