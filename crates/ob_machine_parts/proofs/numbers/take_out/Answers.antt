use Rattle.std.proofs.Common.{◌∙◌, ap, sym}
use Rattle.std.specs.Prelude.{reverse}
use Rattle.ob_machine_parts.proofs.NewestLemmas.{reverse_pop, reverse_remove, some_from_option_eq}
use Rattle.ob_machine_parts.proofs.numbers.take_out.Goals as goal

pub returns-then-eq : goal.returns-then-eq
returns-then-eq c = reverse_pop c.args.number c.args.set.now.keys c.pop-last.new.self.keys c.pop-last.result
    c.pop-last.ensures.keys c.pop-last.ensures.found
    (sym c.last.ensures.key ∙ sym c.copied.ensures ∙ some_from_option_eq c.copied.result c.args.number (sym c.eq.ensures ∙ c.if-eq.true))

pub returns-else-eq : goal.returns-else-eq
returns-else-eq c = ap reverse c.shift_remove-found.ensures.keys ∙ reverse_remove c.args.number c.args.set.now.keys c.len-unique.ensures.unique
