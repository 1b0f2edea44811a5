use Rattle.std.proofs.Common.{map, take}
use Rattle.ob_code.specs.declared.image.BodyCode.{BodyCode}
use Rattle.ob_exec_entries.specs.Numbered.{IsNumbering}
use Rattle.ob_exec_entries.proofs.names.number_bodies.Given as goal

abbrev pub invariant-loop-place : goal.invariant-loop-place
invariant-loop-place l = IsNumbering (map (λ (x : BodyCode). x.name) (take l.place l.bodies)) l.numbering
