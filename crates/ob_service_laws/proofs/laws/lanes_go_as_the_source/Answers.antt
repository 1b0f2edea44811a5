-- From the schedule by code, each of whose invocations goes as the source.
use Rattle.ob_service_laws.proofs.BySource.{goes_as_the_source, ends_as_the_source}
use Rattle.ob_service_laws.proofs.laws.lanes_go_as_the_source.Goals as goal

pub returns : goal.returns
returns g c = record {
  events = λ program image stores fuel batch s count events sound. goes_as_the_source stores program image fuel sound batch s count events;
  turns = λ program image stores fuel batch units count s sound. ends_as_the_source stores program image fuel sound batch units count s;
}
