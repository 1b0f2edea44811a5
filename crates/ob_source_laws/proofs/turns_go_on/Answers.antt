-- By the units that are left at each turn.
use Rattle.ob_source_meaning.specs.Calls.{call_at}
use Rattle.ob_source_laws.proofs.CallParts.{calls_alike}
use Rattle.ob_source_laws.proofs.Turns.{done_again}
use Rattle.ob_source_laws.proofs.turns_go_on.Goals as goal

pub returns : goal.returns
returns c = λ table depth f condition block span ls w.
    done_again (call_at table depth) (calls_alike table depth) f condition block span ls w
