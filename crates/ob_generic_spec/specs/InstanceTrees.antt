-- The tree of the instances of a program: no contract in it has a parameter, and no type an argument (Coblenz et al., TOPLAS
-- 42(3), 2020, on generics; that an instance is a contract of its own is this project's own).
use Rattle.std.specs.Prelude.{List, [], ◌∷◌, ◌++◌, map, flat_map, Option, None, option_map, is_some, if◌then◌else◌}
use Rattle.std.specs.Option.{option_map_or}
use Rattle.ob_tree.specs.Members.{Field, Formal, Listed, Member, state_member, field_member, constructor_member, transaction_member, Contract}
use Rattle.ob_resolve_spec.specs.Declarations.{Program, declared_contract}
use Rattle.ob_generic_spec.specs.Substitution.{Own, perm_in}
use Rattle.ob_generic_spec.specs.Uses.{role_of_param}
use Rattle.ob_generic_spec.specs.Instances.{own_of, instances_of}
use Rattle.ob_generic_spec.specs.InstanceTypes.{own_name, named_in, ref_in, type_in}
use Rattle.ob_generic_spec.specs.InstanceBodies.{block_in}
use Rattle.ob_generic_spec.specs.declared.instance.Instance.{Instance}
use Rattle.ob_generic_spec.specs.declared.role.Role.TheVariants.{Anywhere, OfOwn}

-- a field
abbrev pub field_in : Option Own → Field → Field
field_in own f = record { of = type_in own Anywhere f.of; name = f.name; available = f.available }

-- a parameter
abbrev pub formal_in : Option Own → Formal → Formal
formal_in own f =
    record { of = type_in own (role_of_param f.name) f.of; exit = option_map (perm_in own) f.exit; name = f.name }

-- a listed field
abbrev pub listed_in : Option Own → Listed → Listed
listed_in own l = record { of = ref_in own Anywhere l.of; exit = option_map (perm_in own) l.exit; name = l.name }

-- a member
abbrev pub member_in : Option Own → Member → Member
member_in own (state_member name fields span) = state_member name (map (field_in own) fields) span
member_in own (field_member field) = field_member (field_in own field)
member_in own (constructor_member of perm params body span) =
    constructor_member (named_in own OfOwn of) (perm_in own perm) (map (formal_in own) params) (block_in own body) span
member_in own (transaction_member private listed name params result body span) =
    transaction_member private (map (listed_in own) listed) name (map (formal_in own) params)
    (option_map (type_in own Anywhere) result) (option_map (block_in own) body) span

-- a contract or an interface, or an instance of it
abbrev pub contract_in : Option Own → Contract → Contract
contract_in own c = record {
  main = c.main;
  asset = c.asset;
  interface = c.interface;
  name = own_name own c.name;
  param = None;
  implements = option_map (named_in own Anywhere) c.implements;
  members = map (member_in own) c.members;
  span = c.span;
  end = c.end;
}

-- the contract in the tree, unless it is generic
abbrev pub plain_contracts : Contract → List Contract
plain_contracts c = if is_some c.param then [] else contract_in None c ∷ []

-- the contract in the tree that an instance is
abbrev pub instance_contracts : Program → Instance → List Contract
instance_contracts program x =
    option_map_or (λ c. contract_in (own_of c x) c ∷ []) (declared_contract program x.contract) []

-- The tree of the instances: the contracts and interfaces that aren't generic, in the order of the text, and then the
-- instances, in the order in which they are needed. So they are numbered.
abbrev pub instance_tree : Program → Program
instance_tree program = flat_map plain_contracts program ++ flat_map (instance_contracts program) (instances_of program)
