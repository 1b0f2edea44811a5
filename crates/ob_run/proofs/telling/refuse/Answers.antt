use Rattle.std.proofs.Common.{inl, refl}
use Rattle.ob_outside.specs.FaultLine.{fault_line}
use Rattle.ob_run.proofs.telling.refuse.Goals as goal

-- what was written is the refusal
pub returns-in-Ok-write_all-clause-tells : goal.returns-in-Ok-write_all-clause-tells
returns-in-Ok-write_all-clause-tells g c = λ command text told. record {
  bytes = fault_line c.in-Fault.fault;
  said = record { fault = c.in-Fault.fault; told = rw c.in-Fault.is at told; line = refl };
  written = rw (c.as_bytes.ensures.value, c.in-Ok.ensures) at c.in-Ok-write_all.ensures.ok;
}

-- the prefix that was written is one of the refusal
pub returns-clause-tells : goal.returns-clause-tells
returns-clause-tells g c = λ command text told. record {
  bytes = fault_line c.in-Fault.fault;
  said = inl (record { fault = c.in-Fault.fault; told = rw c.in-Fault.is at told; line = refl });
  cause = c.in-Err.ensures.cause.failed;
  front = rw (c.as_bytes.ensures.value, c.in-Ok.ensures) at c.in-Err.ensures.err;
}
