use Rattle.std.proofs.Common.{◌≡◌, Bool, true, false, refl, sym, ◌∙◌}
use Rattle.std.specs.List.{list_all}
use Rattle.std.proofs.lemmas.Option.{same_Some}
use Rattle.ob_tree.specs.MembersView.{contract_of}
use Rattle.ob_resolve_members.specs.Written.{is_kept}
use Rattle.ob_resolve_members.proofs.AgreeLemmas.{agree_kept}
use Rattle.ob_resolve_members.proofs.permissions.same_states.Goals as goal
use Rattle.ob_resolve_members.proofs.permissions.same_states.Goals.{then-are_kept, else-are_kept}

pub returns : goal.returns
returns c =
    let own = c.in-Some.own.now in
    let states = c.args.states.now in
    let others = c.args.others.now in
    let first = c.in_ok-first.first in
    let second = c.in_ok-second.second in
    let agreed = λ (a b : Bool). λ (p : a ≡ list_all (is_kept own second) states). λ
    (q : b ≡ list_all (is_kept own first) others). agree_kept
    (contract_of c.args.around.now.own) states others own first second a b
    (same_Some _ _ c.in-Some.ensures) c.in_ok-first.ensures c.in_ok-second.ensures p q in
    elim c.if-are_kept.branch [
      | then-are_kept w ↦ w.result-is ∙ agreed true w.are_kept-then-are_kept.result
          (sym w.if-are_kept.true ∙ c.are_kept.ensures) w.are_kept-then-are_kept.ensures
      | else-are_kept w ↦ w.result-is ∙ w.if-are_kept.false
          ∙ agreed false (list_all (is_kept own first) others) (sym w.if-are_kept.false ∙ c.are_kept.ensures) refl
    ]
