use Rattle.std.proofs.Common.{map}
use Rattle.std.specs.List.{AllWithin}
use Rattle.ob_silica.specs.TermsView.{silica_body_of}
use Rattle.ob_flow_spec.specs.Deriving.{Derives}
use Rattle.ob_front.proofs.checking.next_fault.Given as goal

-- the bodies so far derive
abbrev pub invariant-loop-number : goal.invariant-loop-number
invariant-loop-number l = AllWithin (Derives l.table) (map silica_body_of l.bodies) l.from l.number
