use Rattle.std.proofs.Common.{◌≡◌, OnOk, map, flat_map, ap, subst, ◌∙◌}
use Rattle.ob_base.specs.Limits.{most_fields}
use Rattle.ob_tree.specs.MembersView.{member_of, contract_of}
use Rattle.ob_resolve_spec.specs.Declarations.{fields_of, fields_of_member}
use Rattle.ob_resolve_sites.specs.Noted.{noted}
use Rattle.ob_resolve.proofs.ContractLemmas.{gathered}
use Rattle.ob_resolve.proofs.contract.note_fields.Goals as goal

pub returns : goal.returns
returns c =
    let end = c.note_names_within in
    let of_own = ap (λ members. map (λ f. f.field.name) (flat_map fields_of_member (map member_of members))) c.as_slice.ensures in
    let names = c.as_slice-2.ensures ∙ c.in_ok-names.ensures ∙ of_own in
    subst (λ sites. OnOk end.result (end.new.least ≡ noted c.args.least.now sites))
    (gathered (λ f. f.field.name) most_fields (fields_of (contract_of c.args.own.now)) c.as_slice-2.result.now names) end.ensures
