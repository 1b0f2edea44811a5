use Rattle.std.proofs.Common.{◌≡◌, ◌∙◌, sym, ap, arith}
use Rattle.ob_perm.specs.States.{union, only, states_max}
use Rattle.ob_perm.specs.Naming.{seen}
use Rattle.ob_perm.specs.Masks.{states_of}
use Rattle.ob_perm.proofs.MaskLemmas.{states_of-zero}
use Rattle.ob_perm.proofs.NamingLemmas.{below_called, called_more, called_same}
use Rattle.ob_perm.proofs.naming.states_for_interface.Goals as goal
use Rattle.ob_perm.proofs.naming.states_for_interface.Goals.{then-has, else-has}

pub loop-number-init : goal.loop-number-init
loop-number-init c = states_of-zero

pub loop-number-preserved : goal.loop-number-preserved
loop-number-preserved c = elim c.if-has.branch [
  | then-has w ↦ ap states_of w.said-is ∙ w.union-said.ensures
      ∙ ap (union (states_of c.loop-number.said)) (w.bit.ensures ∙ ap only w.seen.ensures.is)
      ∙ called_more c.loop-number.number (seen c.args.names.now) (states_of c.args.states) (states_of c.loop-number.said)
      (sym c.has.ensures ∙ w.if-has.true) c.loop-number.invariant
  | else-has w ↦ ap states_of w.said-is
      ∙ called_same c.loop-number.number (seen c.args.names.now) (states_of c.args.states) (states_of c.loop-number.said)
      (sym c.has.ensures ∙ w.if-has.false) c.loop-number.invariant
]

pub returns : goal.returns
unfolding states_max
returns c = let last : c.loop-number.number ≡ 34 = omega arith in
    c.loop-number.invariant ∙ ap (λ k. below_called k (seen c.args.names.now) (states_of c.args.states)) last
