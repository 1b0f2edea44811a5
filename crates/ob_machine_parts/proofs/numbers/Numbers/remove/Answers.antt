use Rattle.std.proofs.Common.{◌∙◌, ◌++◌, sym, ap, reverse}
use Rattle.std.specs.Option.{option_to_list}
use Rattle.ob_heap_spec.specs.Marks.{without_first}
use Rattle.ob_machine_parts.proofs.NewestLemmas.{without_there, without_absent, without_oldest, without_other}
use Rattle.ob_machine_parts.proofs.numbers.Numbers.remove.Goals as goal

pub returns-then-is_in : goal.returns-then-is_in
returns-then-is_in c =
    let n = c.args.number in
    let newer = reverse c.self.inside.set.keys in
    let oldest = option_to_list c.self.inside.oldest in
    ap (λ ks. ks ++ oldest) c.take_out.ensures
    ∙ sym (without_there n newer oldest (sym c.is_in.ensures ∙ c.if-is_in.true)) ∙ ap (without_first n) c.self.view_is

pub returns-then-is_oldest : goal.returns-then-is_oldest
returns-then-is_oldest c =
    let n = c.args.number in
    let newer = reverse c.self.inside.set.keys in
    let oldest = option_to_list c.self.inside.oldest in
    ap (λ ks. newer ++ ks) (sym (without_oldest n c.self.inside.oldest (sym c.is_oldest.ensures ∙ c.if-is_oldest.true)))
    ∙ sym (without_absent n newer oldest (sym c.is_in.ensures ∙ c.if-is_in.false)) ∙ ap (without_first n) c.self.view_is

pub returns-else-is_oldest : goal.returns-else-is_oldest
returns-else-is_oldest c =
    let n = c.args.number in
    let newer = reverse c.self.inside.set.keys in
    let oldest = option_to_list c.self.inside.oldest in
    sym c.self.view_is
    ∙ ap (λ ks. newer ++ ks) (sym (without_other n c.self.inside.oldest (sym c.is_oldest.ensures ∙ c.if-is_oldest.false)))
    ∙ sym (without_absent n newer oldest (sym c.is_in.ensures ∙ c.if-is_in.false)) ∙ ap (without_first n) c.self.view_is
