use Rattle.std.proofs.Common.{◌≡◌, ◌∙◌, sym, ap, ap₂, arith, length}
use Rattle.ob_perm.specs.States.{union, intersection, preimage}
use Rattle.ob_perm.specs.Naming.{seen}
use Rattle.ob_perm.specs.Masks.{states_of}
use Rattle.ob_perm.proofs.MaskLemmas.{states_of-zero}
use Rattle.ob_perm.proofs.NamingLemmas.{below_passing, passing-none, passing_more, passing_same, all_states-passing}
use Rattle.ob_perm.proofs.naming.states_for_contract.Goals as goal
use Rattle.ob_perm.proofs.naming.states_for_contract.Goals.{then-has, else-has}

pub loop-number-init : goal.loop-number-init
loop-number-init c = states_of-zero ∙ passing-none (preimage (seen c.args.names.now) (states_of c.args.states))

pub loop-number-preserved : goal.loop-number-preserved
loop-number-preserved c = elim c.if-has.branch [
  | then-has w ↦ ap states_of w.said-is ∙ w.union-said.ensures
      ∙ ap (union (states_of c.loop-number.said)) w.bit.ensures
      ∙ passing_more c.loop-number.number (preimage (seen c.args.names.now) (states_of c.args.states)) (states_of c.loop-number.said)
      (ap (states_of c.args.states) (sym c.seen.ensures.is) ∙ sym c.has.ensures ∙ w.if-has.true) c.loop-number.invariant
  | else-has w ↦ ap states_of w.said-is
      ∙ passing_same c.loop-number.number (preimage (seen c.args.names.now) (states_of c.args.states)) (states_of c.loop-number.said)
      (ap (states_of c.args.states) (sym c.seen.ensures.is) ∙ sym c.has.ensures ∙ w.if-has.false) c.loop-number.invariant
]

pub returns : goal.returns
returns c = let last : c.loop-number.number ≡ 34 = omega arith in
    let called = preimage (seen c.args.names.now) (states_of c.args.states) in
    c.intersection.ensures
    ∙ ap₂ intersection c.all_states.ensures (c.loop-number.invariant ∙ ap (λ k. below_passing k called) last)
    ∙ all_states-passing (length c.args.names.now) called c.requires.of_contract
