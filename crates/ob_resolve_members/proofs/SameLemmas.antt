-- Types and parameters that are the same, in the parts of the tree.
use Rattle.std.proofs.Common.{◌≡◌, ℕ, ◌+◌, ◌<◌, ◌≤◌, Bool, true, List, [], ◌∷◌, ◌++◌, map, length, drop, get_or, Option, Some, None, refl, sym, ap, ◌∙◌}
use Rattle.std.specs.Prelude.{◌&&◌, option_map, slice_get}
use Rattle.std.specs.Option.{option_map_or}
use Rattle.std.proofs.lemmas.List.{drop_more, drop_all}
use Rattle.std.proofs.lemmas.Option.{slice_get-map}
use Rattle.ob_tree.specs.Names.{Ref, ref_with, TypeExpr, int_type, bool_type, text_type, ref_type}
use Rattle.ob_tree.specs.Members.{Contract}
use Rattle.ob_tree.specs.NamesView.{type_of, ref_of, ref_of-out}
use Rattle.ob_tree.specs.MembersView.{formal_of, contract_of}
use Rattle.ob_tree.specs.declared.name.PermNode.{PermNode}
use Rattle.ob_tree.specs.declared.name.NamePart.{NamePart}
use Rattle.ob_tree.specs.declared.name.RefNode.{RefNode, out-RefNode}
use Rattle.ob_tree.specs.declared.member.FormalNode.{FormalNode}
use Rattle.ob_tree.specs.declared.contract.ContractNode.{ContractNode}
use Rattle.ob_resolve_spec.specs.Declarations.{params_of, param_named}
use Rattle.ob_resolve_spec.specs.Permissions.{written_permission, known_exit, agree, agree_if_known}
use Rattle.ob_resolve_spec.specs.declared.kind.InferredKind.{InferredKind}
use Rattle.ob_resolve_spec.specs.declared.kind.InferredKind.TheVariants.{Int as an_int, Bool as a_bool, Text as a_text, Reference as a_reference, Nothing as nothing, Unknown as unknown}
use Rattle.ob_resolve_spec.specs.Kinds.{kind_of_ref, kind_of_type, permission_in, same_kind}
use Rattle.ob_resolve_spec.specs.Interfaces.{where_both_refer, same_type, exit_in, same_param}
use Rattle.ob_resolve_scope.specs.Types.{program_of}
use Rattle.ob_resolve_members.specs.Written.{written_in}
use Rattle.ob_resolve_members.specs.Same.{both_refer, param_of, params_from}

pub written-parts : (node : RefNode) → written_in (ref_type (ref_of node))
    ≡ Some (written_permission (out-RefNode node).perm)
written-parts node = ap (λ (r : Ref). written_in (ref_type r)) (ref_of-out node)

pub exit-parts : (c : Contract) (node : RefNode) (exit : Option PermNode)
    → exit_in c (ref_type (ref_of node)) exit ≡ known_exit c (out-RefNode node).perm exit
exit-parts c node exit = ap (λ (r : Ref). exit_in c (ref_type r) exit) (ref_of-out node)

-- a test of the contract to which both refer
where-is : (nodes : List ContractNode) (a b : InferredKind) (test : Contract → Bool)
    → where_both_refer (program_of nodes) a b test ≡ option_map_or (λ n. test (contract_of n))
    (both_refer nodes a b) true
where-is nodes (a_reference m) (a_reference n) test =
    ap (λ o. option_map_or test o true) (slice_get-map contract_of nodes m) ∙ by (slice_get nodes m)
  where
    by : (o : Option ContractNode) → option_map_or test (option_map contract_of o) true
        ≡ option_map_or (λ n. test (contract_of n)) o true
    by None = refl
    by (Some x) = refl
where-is nodes (a_reference m) an_int test = refl
where-is nodes (a_reference m) a_bool test = refl
where-is nodes (a_reference m) a_text test = refl
where-is nodes (a_reference m) nothing test = refl
where-is nodes (a_reference m) unknown test = refl
where-is nodes an_int b test = refl
where-is nodes a_bool b test = refl
where-is nodes a_text b test = refl
where-is nodes nothing b test = refl
where-is nodes unknown b test = refl

none_second : (nodes : List ContractNode) (a : InferredKind) → both_refer nodes a an_int ≡ None
none_second nodes an_int = refl
none_second nodes a_bool = refl
none_second nodes a_text = refl
none_second nodes (a_reference m) = refl
none_second nodes nothing = refl
none_second nodes unknown = refl

none_bool : (nodes : List ContractNode) (a : InferredKind) → both_refer nodes a a_bool ≡ None
none_bool nodes an_int = refl
none_bool nodes a_bool = refl
none_bool nodes a_text = refl
none_bool nodes (a_reference m) = refl
none_bool nodes nothing = refl
none_bool nodes unknown = refl

none_text : (nodes : List ContractNode) (a : InferredKind) → both_refer nodes a a_text ≡ None
none_text nodes an_int = refl
none_text nodes a_bool = refl
none_text nodes a_text = refl
none_text nodes (a_reference m) = refl
none_text nodes nothing = refl
none_text nodes unknown = refl

-- whether the permissions of two types agree on a contract
abbrev agree_on : TypeExpr → TypeExpr → ContractNode → Bool
agree_on s t n = agree (contract_of n) (permission_in s) (permission_in t)

abbrev agree_written : TypeExpr → TypeExpr → ContractNode → Bool
agree_written s t n = agree_if_known (contract_of n) (written_in s) (written_in t)

-- types whose kinds are of references have permissions
perms-written : (nodes : List ContractNode) (s t : TypeExpr)
    → option_map_or (agree_on s t) (both_refer nodes (kind_of_type (program_of nodes) s)
    (kind_of_type (program_of nodes) t)) true
    ≡ option_map_or (agree_written s t) (both_refer nodes (kind_of_type (program_of nodes) s)
    (kind_of_type (program_of nodes) t)) true
perms-written nodes (int_type span) t = refl
perms-written nodes (bool_type span) t = refl
perms-written nodes (text_type span) t = refl
perms-written nodes (ref_type of) (int_type span) = rw (none_second nodes (kind_of_ref (program_of nodes) of)) refl
perms-written nodes (ref_type of) (bool_type span) = rw (none_bool nodes (kind_of_ref (program_of nodes) of)) refl
perms-written nodes (ref_type of) (text_type span) = rw (none_text nodes (kind_of_ref (program_of nodes) of)) refl
perms-written nodes (ref_type (ref_with of perm)) (ref_type (ref_with other second)) = refl

pub same_type-parts : (nodes : List ContractNode) (s t : TypeExpr)
    → same_type (program_of nodes) s t
    ≡ (same_kind (kind_of_type (program_of nodes) s) (kind_of_type (program_of nodes) t)
    && option_map_or (λ n. agree_if_known (contract_of n) (written_in s) (written_in t))
    (both_refer nodes (kind_of_type (program_of nodes) s) (kind_of_type (program_of nodes) t)) true)
same_type-parts nodes s t =
    let a = kind_of_type (program_of nodes) s in
    let b = kind_of_type (program_of nodes) t in
    ap (λ r. same_kind a b && r) (where-is nodes a b (λ c. agree c (permission_in s) (permission_in t))
    ∙ perms-written nodes s t)

pub same_param-parts : (nodes : List ContractNode) (p q : FormalNode) (n m : NamePart)
    → same_param (program_of nodes) (param_of p n) (param_of q m)
    ≡ (same_type (program_of nodes) (type_of p.of) (type_of q.of)
    && option_map_or (λ k. agree_if_known (contract_of k) (exit_in (contract_of k) (type_of p.of) p.exit)
    (exit_in (contract_of k) (type_of q.of) q.exit))
    (both_refer nodes (kind_of_type (program_of nodes) (type_of p.of))
    (kind_of_type (program_of nodes) (type_of q.of))) true)
same_param-parts nodes p q n m =
    ap (λ r. same_type (program_of nodes) (type_of p.of) (type_of q.of) && r)
    (where-is nodes (kind_of_type (program_of nodes) (type_of p.of)) (kind_of_type (program_of nodes) (type_of q.of))
    (λ c. agree_if_known c (exit_in c (type_of p.of) p.exit) (exit_in c (type_of q.of) q.exit)))

pub ruleset same = (written-parts, exit-parts, same_type-parts, same_param-parts)

-- Parameters one after another.

pub params_turn : (xs : List FormalNode) (i : ℕ) (x : FormalNode) → i < length xs → x ≡ get_or xs i x
    → params_from i xs ≡ param_named (type_of x.of) x.exit x.name ++ params_from (i + 1) xs
params_turn xs i x h is =
    ap (λ ys. params_of (map formal_of ys)) (drop_more xs i x h ∙ ap (λ y. y ∷ drop (i + 1) xs) (sym is))

pub params_end : (xs : List FormalNode) (i : ℕ) → length xs ≤ i → params_from i xs ≡ []
params_end xs i h = ap (λ ys. params_of (map formal_of ys)) (drop_all i xs h)

pub ruleset turns = (params_turn, params_end)
