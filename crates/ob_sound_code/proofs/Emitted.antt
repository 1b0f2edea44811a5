-- The invocation by emitted code is that by its program's class table.
use Rattle.std.proofs.Common.{ap, ◌∙◌}
use Rattle.ob_machine_meaning.specs.Meanings.{machine_meaning}
use Rattle.ob_invocation_spec.specs.Invocation.{invoke}
use Rattle.ob_emit_spec.specs.EmittedImages.{image_of}
use Rattle.ob_sound_code.specs.Emitted.{InvocationsByEmittedCode}
use Rattle.ob_emit_laws.proofs.Tables.{tables_agree}
use Rattle.ob_emit_laws.proofs.Invoking.{invocations_ignore_names}

pub by_emitted_code : InvocationsByEmittedCode
by_emitted_code table bodies conditions content request fuel =
    ap (λ t. invoke (machine_meaning (image_of table bodies)) t content request fuel) (tables_agree table bodies conditions)
    ∙ invocations_ignore_names (machine_meaning (image_of table bodies)) table content request fuel
