-- The heads of a program that are looked at one after another, with the names before them (this project's own).
use Rattle.std.specs.Prelude.{ℕ, Bool, ◌&&◌, List, [], ◌∷◌, Option, is_some, if◌then◌else◌}
use Rattle.std.specs.Option.{option_map_or}
use Rattle.ob_base.specs.Faults as faults
use Rattle.ob_base.specs.declared.fault.ProgramFault.{ProgramFault}
use Rattle.ob_tree.specs.Members.{Contract}
use Rattle.ob_table_spec.specs.Names.{Name}
use Rattle.ob_resolve_scope.specs.Numbered.{find, added}
use Rattle.ob_resolve_sites.specs.Noted.{noted_if}
use Rattle.ob_generic_spec.specs.TypeSites.{bound_sites}
use Rattle.ob_generic_walk.specs.Noted.{noted}

-- whether a contract of this name stands before, generic if this one isn't: by the names of all before, and of the generic ones
abbrev pub is_second : List (Name × ℕ) → List (Name × ℕ) → Contract → Bool
is_second all generics c = is_some (find c.name (if is_some c.param then all else generics))

-- the names of generic contracts, with one more if it is generic
abbrev pub with_generic : List (Name × ℕ) → Contract → List (Name × ℕ)
with_generic generics c = if is_some c.param then added generics c.name 0 else generics

-- the least fault after one more head
abbrev pub head_noted : Option ProgramFault → Bool → Contract → Option ProgramFault
head_noted l second c =
    noted (noted_if (noted_if l second faults.duplicate c.span) (c.main && is_some c.param) faults.param_count c.span)
    (option_map_or bound_sites c.param [])

-- the least fault after these heads
abbrev pub heads_noted : Option ProgramFault → List (Name × ℕ) → List (Name × ℕ) → List Contract → Option ProgramFault
heads_noted l all generics [] = l
heads_noted l all generics (c ∷ cs) =
    heads_noted (head_noted l (is_second all generics c) c) (added all c.name 0) (with_generic generics c) cs
