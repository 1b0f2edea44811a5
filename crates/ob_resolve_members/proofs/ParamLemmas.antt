-- What is noted of parameters, one after another.
use Rattle.std.proofs.Common.{◌≡◌, ℕ, Bool, List, [], ◌∷◌, ◌++◌, Option, map, length, take, drop, get_or, sym, ap, ◌∙◌, ◌<◌, ◌+◌, arith}
use Rattle.std.proofs.lemmas.List.{length-map, length-take-le}
use Rattle.ob_base.specs.Limits.{most_params}
use Rattle.ob_base.specs.declared.fault.ProgramFault.{ProgramFault}
use Rattle.ob_tree.specs.NamesView.{named_of, ref_of, ref_of-out}
use Rattle.ob_tree.specs.Members.{Formal, Contract}
use Rattle.ob_tree.specs.MembersView.{formal_of}
use Rattle.ob_tree.specs.declared.name.NamePart.{NamePart}
use Rattle.ob_tree.specs.declared.name.RefNode.{RefNode, out-RefNode}
use Rattle.ob_tree.specs.declared.member.FormalNode.{FormalNode}
use Rattle.ob_table_spec.specs.Names.{in_order_after, in_order}
use Rattle.ob_resolve_spec.specs.Declarations.{Program, part_of_named, field_names, Param, params_of}
use Rattle.ob_resolve_spec.specs.Kinds.{kind_of_ref}
use Rattle.ob_resolve_spec.specs.Visible.{Visible, visible_in}
use Rattle.ob_resolve_spec.specs.Sites.{Site, types_this}
use Rattle.ob_resolve_spec.specs.TypeSites.{declared_sites, limit_sites}
use Rattle.ob_resolve_spec.specs.MemberSites.{formal_sites, formals_sites}
use Rattle.ob_resolve_sites.specs.Noted.{noted, noted-append}
use Rattle.ob_resolve_members.specs.Parts.{type_of_this_sites, formal_sites_after}
use Rattle.ob_resolve_sites.proofs.NamingLemmas.{naming, part_of_node}
use Rattle.ob_resolve_scope.proofs.BuildLemmas.{taken}
use Rattle.ob_resolve_members.proofs.WrittenLemmas.{name_in}
use Rattle.ob_resolve_members.proofs.ListTurns.{turn}
use Rattle.ob_resolve_members.proofs.DistinctLists.{declared-map, limit-map}

-- the type of `this` that is taken apart
pub this_apart : (v : Visible) (node : RefNode)
    → type_of_this_sites v (ref_of node)
    ≡ types_this v.own.name (kind_of_ref v.program (ref_of node)) (name_in node) ∷ []
this_apart v node =
    let of = (out-RefNode node).of in
    ap (type_of_this_sites v) (ref_of-out node)
    ∙ ap (λ r. types_this v.own.name (kind_of_ref v.program r) (part_of_named (named_of of)) ∷ []) (sym (ref_of-out node))
    ∙ ap (λ name. types_this v.own.name (kind_of_ref v.program (ref_of node)) name ∷ []) (part_of_node of)

-- what is left of the parameters from a place on
abbrev pub rest_of_formals : Visible → Bool → List FormalNode → ℕ → List Site
rest_of_formals v constructor xs i =
    in_order_after (formal_sites v constructor) (map formal_of (take i xs)) (map formal_of (drop i xs))

pub formals_turn : (v : Visible) (constructor : Bool) (l : Option ProgramFault) (xs : List FormalNode) (i : ℕ)
    (x : FormalNode)
    → i < length xs → x ≡ get_or xs i x
    → noted (noted l (formal_sites_after v constructor i (formal_of x))) (rest_of_formals v constructor xs (i + 1))
    ≡ noted l (rest_of_formals v constructor xs i)
formals_turn v constructor l xs i x h is =
    let n : length (map formal_of (take i xs)) ≡ i =
    length-map (take i xs) formal_of ∙ length-take-le i xs (omega arith) in
    let sites = formal_sites v constructor in
    let one = formal_sites_after v constructor in
    let before = map formal_of (take i xs) in
    let rest = rest_of_formals v constructor xs (i + 1) in
    sym (noted-append l (one i (formal_of x)) rest)
    ∙ ap (λ m. noted l (one m (formal_of x) ++ rest)) (sym n)
    ∙ ap (λ b. noted l (sites before (formal_of x) ++ in_order_after sites b (map formal_of (drop (i + 1) xs))))
    (taken formal_of xs i x h is)
    ∙ ap (λ r. noted l (in_order_after sites before (map formal_of r))) (sym (turn xs i x h is))

-- the parameters, with their names gathered first
pub formals_noted : (l : Option ProgramFault) (program : Program) (own : Contract) (constructor : Bool)
    (formals : List Formal) (names : List NamePart)
    → names ≡ map (λ p. p.name) (params_of formals)
    → noted (noted (noted l (in_order (formal_sites (visible_in program own) constructor) formals))
    (declared_sites (λ p. p) (field_names own) names))
    (limit_sites (λ p. p) most_params names)
    ≡ noted l (formals_sites program own constructor formals)
formals_noted l program own constructor formals names e =
    let walked = in_order (formal_sites (visible_in program own) constructor) formals in
    let params = params_of formals in
    let declared = declared_sites (λ p. p.name) (field_names own) params in
    let limited = limit_sites (λ p. p.name) most_params params in
    let limited_names = limit_sites (λ p. p) most_params in
    ap (λ ns. noted (noted (noted l walked) (declared_sites (λ p. p) (field_names own) ns)) (limited_names ns)) e
    ∙ ap (λ ss. noted (noted (noted l walked) ss) (limited_names (map (λ p. p.name) params)))
    (declared-map (λ (p : Param). p.name) (field_names own) params)
    ∙ ap (noted (noted (noted l walked) declared)) (limit-map (λ (p : Param). p.name) most_params params)
    ∙ ap (λ m. noted m limited) (sym (noted-append l walked declared))
    ∙ sym (noted-append l (walked ++ declared) limited)

pub ruleset params = (naming, this_apart, formals_turn, formals_noted)
