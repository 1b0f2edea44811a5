-- What a walk has found, type after type (this project's own).
use Rattle.std.specs.Prelude.{List, [], ◌∷◌, None}
use Rattle.ob_table_spec.specs.Names.{in_order}
use Rattle.ob_resolve_spec.specs.Declarations.{Program}
use Rattle.ob_generic_spec.specs.Arguments.{Around}
use Rattle.ob_generic_spec.specs.Uses.{Use, uses_of}
use Rattle.ob_generic_spec.specs.Instances.{Visit, visits_at, after_visit}
use Rattle.ob_generic_spec.specs.TypeSites.{head_sites, use_sites}
use Rattle.ob_generic_walk.specs.Noted.{noted}
use Rattle.ob_generic_walk.specs.declared.found.Found.{Found}

-- after one more type
abbrev pub seen_one : Found → Visit → Found
seen_one f v = record { known = after_visit f.known v; least = noted f.least (use_sites v.around f.known v.of) }

-- after these types
abbrev pub seen : Found → List Visit → Found
seen f [] = f
seen f (v ∷ vs) = seen (seen_one f v) vs

-- after these types of one contract, each with those in its argument
abbrev pub met : Around → Found → List Use → Found
met a f [] = f
met a f (u ∷ us) = met a (seen f (visits_at a (uses_of u))) us

-- before any type: the faults of heads
abbrev pub start_of : Program → Found
start_of program = record { known = []; least = noted None (in_order head_sites program) }
