-- The instances of a program: what the contracts that aren't generic need, and what the instances themselves need (Coblenz
-- et al., TOPLAS 42(3), 2020, on generics; their order and their number are this project's own).
use Rattle.std.specs.Prelude.{◌≡◌, ℕ, zero, suc, Bool, not, ◌||◌, nat_lt, List, [], ◌∷◌, ◌++◌, map, flat_map, length, take, Option, Some, None, option_map, is_some, if◌then◌else◌}
use Rattle.std.specs.Option.{option_map_or}
use Rattle.ob_base.specs.Limits.{longest_string, most_instances, most_noted}
use Rattle.ob_tree.specs.Names.{Named, bare_name, name_with}
use Rattle.ob_tree.specs.Members.{Contract}
use Rattle.ob_table_spec.specs.Names.{Name, is_among, number_of}
use Rattle.ob_resolve_spec.specs.Declarations.{Program, declared_contract}
use Rattle.ob_generic_spec.specs.Heads.{heads_of}
use Rattle.ob_generic_spec.specs.Substitution.{Own, argument_in, printed_name}
use Rattle.ob_generic_spec.specs.Arguments.{Around, is_faulty_with, is_faulty_argument}
use Rattle.ob_generic_spec.specs.Uses.{Use, used, uses_in_contract}
use Rattle.ob_generic_spec.specs.declared.head.Head.{Head}
use Rattle.ob_generic_spec.specs.declared.instance.Argument.{Argument}
use Rattle.ob_generic_spec.specs.declared.instance.Instance.{Instance}

-- Which instance a type needs.

-- the generic contract or interface of this number and name, with an argument
abbrev pub instance_with : Name → Argument → ℕ → Instance
instance_with name argument number =
    record { name = printed_name name argument; contract = number; argument = argument }

-- the number of the first contract or interface of this name
abbrev pub number_named : List Head → Name → Option ℕ
number_named heads name = number_of name (map (λ h. h.name) heads)

-- the instance that a type with an argument denotes: none, if it has a fault. The `Bool` is whether the argument has one.
abbrev pub instance_of_with : Around → Name → Bool → Argument → Option Instance
instance_of_with a name inner argument =
    if is_faulty_with a name inner argument then None
    else option_map (instance_with name argument) (number_named a.heads name)

-- the instance that a type denotes: none without an argument, or with a fault of its own or in its argument
abbrev pub instance_of : Around → Named → Option Instance
instance_of a (bare_name name span) = None
instance_of a (name_with name argument span) =
    instance_of_with a name (is_faulty_argument a argument) (argument_in a.own argument)

-- whether the printed name of an instance is too long for a name in a tree
abbrev pub is_long : Instance → Bool
is_long x = nat_lt longest_string (length x.name)

-- the instance, unless its printed name is too long
abbrev pub short_one : Option Instance → Option Instance
short_one None = None
short_one (Some x) = if is_long x then None else Some x

-- The instances that types need, one type after another.

-- a type that is met, and what stands around it
pub record Visit : Type 0 where
  pub around : Around
  pub of : Use

-- whether one of this name is among instances
abbrev pub is_known : List Instance → Name → Bool
is_known known name = is_among name (map (λ x. x.name) known)

-- with one more, unless one of its name is there, or as many as are noted
abbrev pub with_instance : List Instance → Instance → List Instance
with_instance known x =
    if is_known known x.name || not (nat_lt (length known) most_noted) then known else known ++ x ∷ []

-- with one more, if there is one
abbrev pub with_needed : List Instance → Option Instance → List Instance
with_needed known None = known
with_needed known (Some x) = with_instance known x

-- the type of a use
abbrev pub type_of_use : Use → Named
type_of_use (used role type) = type

-- with the instance that a type needs
abbrev pub after_visit : List Instance → Visit → List Instance
after_visit known v = with_needed known (short_one (instance_of v.around (type_of_use v.of)))

-- with the instances that types need, one after another
abbrev pub after_visits : List Instance → List Visit → List Instance
after_visits known [] = known
after_visits known (v ∷ vs) = after_visits (after_visit known v) vs

-- Which types are met: those of the contracts and interfaces that aren't generic, in the order of the text, and then those of
-- the instances, one instance after another.

-- a type among those of one contract
abbrev pub visit_at : Around → Use → Visit
visit_at a u = record { around = a; of = u }

-- the types of one contract
abbrev pub visits_at : Around → List Use → List Visit
visits_at a = map (visit_at a)

-- around the types of a contract that isn't generic
abbrev pub around_plain : List Head → Around
around_plain heads = record { heads = heads; own = None }

-- an instance of this contract, from within
abbrev pub own_of : Contract → Instance → Option Own
own_of c x = option_map (λ p. record { instance = x; name = c.name; param = p }) c.param

-- around the types of an instance of this contract
abbrev pub around_instance : List Head → Contract → Instance → Around
around_instance heads c x = record { heads = heads; own = own_of c x }

-- the types of a contract that isn't generic
abbrev pub plain_visits : List Head → Contract → List Visit
plain_visits heads c = if is_some c.param then [] else visits_at (around_plain heads) (uses_in_contract c)

-- the types of an instance
abbrev pub instance_visits : Program → Instance → List Visit
instance_visits program x =
    option_map_or (λ c. visits_at (around_instance (heads_of program) c x) (uses_in_contract c))
    (declared_contract program x.contract) []

-- the types of a program with these instances
abbrev pub visits : Program → List Instance → List Visit
visits program xs = flat_map (plain_visits (heads_of program)) program ++ flat_map (instance_visits program) xs

-- The instances.

-- what a program with these instances needs, in the order in which it is met
abbrev pub needed_by : Program → List Instance → List Instance
needed_by program xs = after_visits [] (visits program xs)

-- as many of them as there may be
abbrev pub round : Program → List Instance → List Instance
round program xs = take most_instances (needed_by program xs)

-- what is needed without instances, what is needed with those, and so on
abbrev pub rounds : Program → ℕ → List Instance
rounds program zero = []
rounds program (suc n) = round program (rounds program n)

-- The instances of a program, in the order of their numbers. Each round but the last finds one more, so after as many rounds
-- as there may be instances nothing is new.
unfoldable pub instances_of : Program → List Instance
instances_of program = rounds program most_instances

-- the second list begins with the first
abbrev pub Begins : List Instance → List Instance → Type 0
Begins xs ys = (more : List Instance) × (ys ≡ xs ++ more)

-- These are the instances of a program: with them it needs them, in this order, and each other list of which this is so begins
-- with them. So nothing is an instance because it needs itself.
pub record AreInstances (program : Program) (xs : List Instance) : Type 0 where
  pub needed : xs ≡ round program xs
  pub least : (ys : List Instance) → ys ≡ round program ys → Begins xs ys
