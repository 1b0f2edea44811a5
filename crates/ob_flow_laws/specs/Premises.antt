-- Premises of the permission rules that all hold (this project's own).
use Rattle.std.specs.Prelude.{List, [], ◌∷◌, IsTrue, ⊤}
use Rattle.ob_flow_spec.specs.Premises.{Premise}

-- each of these premises holds
abbrev pub Hold : List Premise → Type 0
Hold [] = ⊤
Hold (p ∷ ps) = IsTrue p.condition × Hold ps
