use Rattle.std.proofs.Common.{◌≡◌, ◌++◌, drop, map}
use Rattle.ob_emit_spec.specs.EmittedImages.{field_code}
use Rattle.ob_emit.proofs.declarations.fields_code.Given as goal

abbrev pub invariant-loop-field : goal.invariant-loop-field
invariant-loop-field l = l.code ++ map field_code (drop l.field-index l.fields) ≡ map field_code l.fields
