use Rattle.std.proofs.Common.{map, ap, sym, ◌∙◌}
use Rattle.ob_tree.specs.MembersView.{field_of, contract_of}
use Rattle.ob_resolve_spec.specs.Sites.{names_state}
use Rattle.ob_resolve_spec.specs.MemberSites.{field_sites}
use Rattle.ob_resolve_scope.specs.Types.{program_of}
use Rattle.ob_resolve_sites.specs.Noted.{noted, noted-append}
use Rattle.ob_resolve_members.proofs.fields.walk_field_at_top.Goals as goal

pub returns : goal.returns
returns c =
    let own = contract_of c.args.around.now.own in
    let l = c.args.least.now in
    let states = map (names_state own) in
    let rest = field_sites (program_of c.args.around.now.program) own (field_of c.args.field.now) in
    c.walk_field.ensures
    ∙ ap (λ m. noted m rest) (c.note_own_states.ensures ∙ ap (λ names. noted l (states names)) c.as_slice.ensures)
    ∙ sym (noted-append l (states c.args.field.now.available) rest)
