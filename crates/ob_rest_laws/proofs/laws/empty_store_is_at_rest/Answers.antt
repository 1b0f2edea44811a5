-- Nothing is stored, so nothing is asked.
use Rattle.std.proofs.Common.{arith}
use Rattle.ob_rest_laws.proofs.laws.empty_store_is_at_rest.Goals as goal

pub returns : goal.returns
returns c = λ table. record {
  is_content = record {
    objects = λ k d lt. absurd (omega (arith, lt));
    handles = λ k d lt. absurd (omega (arith, lt));
    order = λ i j d e f. absurd (omega (arith, f));
  };
  at_rest = λ n lt. absurd (omega (arith, lt));
  few_objects = omega arith;
  few_handles = omega arith;
}
