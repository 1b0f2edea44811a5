use Rattle.ob_store_spec.specs.Payloads.{value}
use Rattle.ob_store_payload.proofs.values.put_value.Goals as goal

pub returns-in-Text : goal.returns-in-Text
unfolding value
returns-in-Text c = rw c.in-Text.is c.put_text.ensures
