use Rattle.ob_store_spec.proofs.Refusing.{one_refusal, never_both}
use Rattle.ob_store_spec.proofs.laws.one_refusal.Goals as goal

pub returns-clause-refusal : goal.returns-clause-refusal
returns-clause-refusal c = one_refusal

pub returns-clause-apart : goal.returns-clause-apart
returns-clause-apart c = never_both
