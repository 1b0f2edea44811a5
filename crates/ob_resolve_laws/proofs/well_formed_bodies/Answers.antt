use Rattle.ob_resolve_laws.proofs.TableLaws.{bodies_well_formed_lem, bodies_there_lem}
use Rattle.ob_resolve_laws.proofs.well_formed_bodies.Goals as goal

pub returns : goal.returns
returns c = record { well_formed = bodies_well_formed_lem; each = bodies_there_lem }
