-- Places of names, and a type before its argument.
use Rattle.std.proofs.Common.{◌≡◌, Bool, List, Option, Some, None, refl, ap, sym, ◌∙◌}
use Rattle.std.specs.Prelude.{ℕ, option_map}
use Rattle.ob_base.specs.Faults as faults
use Rattle.ob_base.specs.declared.fault.ProgramFault.{ProgramFault}
use Rattle.ob_base.specs.declared.fault.Span.{Span}
use Rattle.ob_tree.specs.Names.{Ref, name_with}
use Rattle.ob_tree.specs.NamesView.{named_of, named_with, ref_of, named_of-out, ref_of-out, name_views}
use Rattle.ob_tree.specs.declared.name.NamedNode.{NamedNode, out-NamedNode}
use Rattle.ob_tree.specs.declared.name.RefNode.{RefNode, out-RefNode}
use Rattle.ob_table_spec.specs.Names.{Name}
use Rattle.ob_resolve_sites.specs.Noted.{noted_if}
use Rattle.ob_generic_spec.specs.Substitution.{argument_in}
use Rattle.ob_generic_spec.specs.Arguments.{Around, is_faulty_argument}
use Rattle.ob_generic_spec.specs.Uses.{used, uses_in_named, uses_in_argument}
use Rattle.ob_generic_spec.specs.Instances.{instance_of_with, short_one, with_needed, visit_at, visits_at}
use Rattle.ob_generic_spec.specs.TypeSites.{span_of_named, span_of_argument, argument_perm_sites}
use Rattle.ob_generic_spec.specs.TypeFaults.{is_nothing, takes_nothing, is_refused, is_one_too_many}
use Rattle.ob_generic_spec.specs.declared.instance.Argument.{Argument}
use Rattle.ob_generic_spec.specs.declared.instance.Instance.{Instance}
use Rattle.ob_generic_spec.specs.declared.role.Role.{Role}
use Rattle.ob_generic_walk.specs.Noted.{noted}
use Rattle.ob_generic_walk.specs.Seen.{seen_one, seen}
use Rattle.ob_generic_walk.specs.declared.found.Found.{Found}

named_with-span : (name : List ℕ) (argument : Option Ref) (span : Span) → span_of_named (named_with name argument span) ≡ span
named_with-span name None span = refl
named_with-span name (Some argument) span = refl

pub named_of-span : (node : NamedNode) → span_of_named (named_of node) ≡ (out-NamedNode node).span
named_of-span node =
    ap span_of_named (named_of-out node)
    ∙ named_with-span (out-NamedNode node).name (option_map ref_of (out-NamedNode node).argument) (out-NamedNode node).span

pub ref_of-span : (node : RefNode) → span_of_argument (ref_of node) ≡ (out-NamedNode (out-RefNode node).of).span
ref_of-span node = ap span_of_argument (ref_of-out node) ∙ named_of-span (out-RefNode node).of

-- a type with an argument, and then those in the argument
pub with_argument : (a : Around) (f : Found) (role : Role) (node : NamedNode) (argument : RefNode)
    → (out-NamedNode node).argument ≡ Some argument
    → seen (seen_one f (visit_at a (used role (name_with (out-NamedNode node).name (ref_of argument) (out-NamedNode node).span))))
    (visits_at a (uses_in_argument (ref_of argument)))
    ≡ seen f (visits_at a (uses_in_named role (named_of node)))
with_argument a f role node argument is =
    sym (ap (λ n. seen f (visits_at a (uses_in_named role n))) (named_of-out node
    ∙ ap (λ o. named_with (out-NamedNode node).name (option_map ref_of o) (out-NamedNode node).span) is))

-- these instances, and this least fault
abbrev pub found_of : List Instance → Option ProgramFault → Found
found_of known least = record { known = known; least = least }

-- the least fault after that of a name with this argument, which needs this instance
abbrev pub least_with : Around → Found → Name → Span → Option Instance → Option ProgramFault
least_with a f name span instance =
    let unknown = noted_if f.least (is_nothing a name) faults.unknown_name span in
    let many = noted_if unknown (is_one_too_many f.known instance) faults.too_many_instances span in
    noted_if many (takes_nothing a name) faults.param_count span

-- what is found after a name with this argument
abbrev found_with : Around → Found → Name → Bool → Argument → Span → Span → Found
found_with a f name inner argument span place = record {
  known = with_needed f.known (short_one (instance_of_with a name inner argument));
  least = noted (noted_if (least_with a f name span (instance_of_with a name inner argument))
      (is_refused a name inner argument) faults.bound place) (argument_perm_sites a argument);
}

-- a name with an argument, from what was found of its parts
pub name_visited : (a : Around) (f : Found) (role : Role) (name : Name) (ref : Ref) (span : Span)
    → (bytes : Name) (inner : Bool) (argument : Argument) (place : Span) (found : Found)
    → bytes ≡ name → inner ≡ is_faulty_argument a ref → argument ≡ argument_in a.own ref → place ≡ span_of_argument ref
    → found ≡ found_with a f bytes inner argument span place
    → found ≡ seen_one f (visit_at a (used role (name_with name ref span)))
name_visited a f role name ref span bytes inner argument place found b i r p e =
    e ∙ ap (λ x. found_with a f x inner argument span place) b
    ∙ ap (λ x. found_with a f name x argument span place) i
    ∙ ap (λ x. found_with a f name (is_faulty_argument a ref) x span place) r
    ∙ ap (λ x. found_with a f name (is_faulty_argument a ref) (argument_in a.own ref) span x) p

-- and from the least faults one after another
pub found_parts : (a : Around) (f : Found) (name : Name) (inner : Bool) (argument : Argument) (span place : Span)
    → (instance : Option Instance) (refused : Bool) (first second third : Option ProgramFault) (known : List Instance)
    → instance ≡ instance_of_with a name inner argument → refused ≡ is_refused a name inner argument
    → first ≡ least_with a f name span instance → second ≡ noted_if first refused faults.bound place
    → third ≡ noted second (argument_perm_sites a argument) → known ≡ with_needed f.known (short_one instance)
    → found_of known third ≡ found_with a f name inner argument span place
found_parts a f name inner argument span place instance refused first second third known i r e1 e2 e3 k =
    let least = e3 ∙ ap (λ l. noted l (argument_perm_sites a argument))
    (e2 ∙ ap (λ l. noted_if l refused faults.bound place) (e1 ∙ ap (least_with a f name span) i)
    ∙ ap (λ b. noted_if (least_with a f name span (instance_of_with a name inner argument)) b faults.bound place) r) in
    ap (λ l. found_of known l) least
    ∙ ap (λ x. found_of x (noted (noted_if (least_with a f name span (instance_of_with a name inner argument))
    (is_refused a name inner argument) faults.bound place) (argument_perm_sites a argument)))
    (k ∙ ap (λ o. with_needed f.known (short_one o)) i)

pub ruleset turns = (name_views, named_of-span, ref_of-span, with_argument)
