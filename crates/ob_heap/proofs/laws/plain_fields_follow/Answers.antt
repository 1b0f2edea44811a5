use Rattle.ob_heap.proofs.PlainLemmas.{fields-with_value}
use Rattle.ob_heap.proofs.laws.plain_fields_follow.Goals as goal

pub returns : goal.returns
returns c = fields-with_value
