-- What types ask of the contracts and interfaces of a program (Coblenz et al., TOPLAS 42(3), 2020, on generics).
use Rattle.std.specs.Prelude.{List, map, Option}
use Rattle.ob_tree.specs.Members.{Contract}
use Rattle.ob_table_spec.specs.Names.{Name, first_named}
use Rattle.ob_resolve_spec.specs.Declarations.{Program, state_names}
use Rattle.ob_generic_spec.specs.declared.head.Head.{Head}

-- what types ask of a contract or an interface
abbrev pub head_of : Contract → Head
head_of c = record { name = c.name; asset = c.asset; param = c.param; states = state_names c }

-- the same of each contract and interface of a program
abbrev pub heads_of : Program → List Head
heads_of = map head_of

-- the head of the first contract or interface of this name
abbrev pub head_named : List Head → Name → Option Head
head_named heads name = first_named (λ h. h.name) name heads
