use Rattle.std.proofs.Common.{◌∙◌, ap, ℕ, ◌==◌}
use Rattle.ob_wire.proofs.ReadingLemmas.{has_one-members}
use Rattle.ob_wire.proofs.reading.has_one.Goals as goal

pub returns-in-Some : goal.returns-in-Some
returns-in-Some c = ap (λ (n : ℕ). n == 1) c.len.ensures.len ∙ has_one-members _ _ c.in-Some.ensures
