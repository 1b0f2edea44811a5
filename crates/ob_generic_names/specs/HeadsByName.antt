-- The heads of a program by name, and the states of each by name (this project's own).
use Rattle.std.specs.Prelude.{◌≡◌, ℕ, List, map}
use Rattle.ob_table_spec.specs.Names.{Name}
use Rattle.ob_resolve_scope.specs.Numbered.{numbered}
use Rattle.ob_generic_spec.specs.declared.head.Head.{Head}

-- names of heads, and of the states of each: those of these heads
pub record AreByName (heads : List Head) (names : List (Name × ℕ)) (states : List (List (Name × ℕ))) : Type 0 where
  pub names_are : names ≡ numbered (map (λ h. h.name) heads)
  pub states_are : states ≡ map (λ h. numbered h.states) heads
