use Rattle.ob_client.proofs.RequestLaws.{lines_ask}
use Rattle.ob_client.proofs.requests.request_lines_ask.Goals as goal

pub returns : goal.returns
returns c = lines_ask
