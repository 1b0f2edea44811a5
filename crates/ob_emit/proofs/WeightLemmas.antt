-- What a program weighs is counted on its class table.
use Rattle.std.proofs.Common.{◌≡◌, ◌+◌, List, ap}
use Rattle.ob_table.specs.Tables.{ClassTable}
use Rattle.ob_silica.specs.Terms.{SilicaBody}
use Rattle.ob_emit_spec.specs.Weights.{weight, weight_of_bodies}
use Rattle.ob_weight_laws.specs.Counting.{size_of_table}
use Rattle.ob_weight_laws.proofs.Weighing.{declared_counted}

pub weight_counted : (table : ClassTable) (bodies : List SilicaBody)
    → weight table bodies ≡ size_of_table table + weight_of_bodies bodies
weight_counted table bodies = ap (λ n. n + weight_of_bodies bodies) (declared_counted table bodies)
