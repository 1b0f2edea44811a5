-- The sites of a transaction.
use Rattle.std.specs.Prelude.{false, List, [], ◌++◌, Option}
use Rattle.std.specs.Option.{option_map_or}
use Rattle.ob_tree.specs.Names.{TypeExpr}
use Rattle.ob_tree.specs.Stmts.{Block}
use Rattle.ob_tree.specs.Members.{Formal, Listed, Contract}
use Rattle.ob_resolve_spec.specs.Declarations.{Program}
use Rattle.ob_resolve_spec.specs.Kinds.{kind_of_result}
use Rattle.ob_resolve_spec.specs.Visible.{visible_in}
use Rattle.ob_resolve_spec.specs.Sites.{Site}
use Rattle.ob_resolve_spec.specs.TypeSites.{result_sites}
use Rattle.ob_resolve_spec.specs.MemberSites.{listed_sites, formals_sites, body_of_params_sites}

-- a transaction: its list, its parameters, its result, and its body
abbrev pub transaction_sites : Program → Contract → List Listed → List Formal → Option TypeExpr → Option Block → List Site
transaction_sites program own listed params result body =
    listed_sites program own listed ++ formals_sites program own false params
    ++ result_sites (visible_in program own) result
    ++ option_map_or (body_of_params_sites program own (kind_of_result program result) params) body []
