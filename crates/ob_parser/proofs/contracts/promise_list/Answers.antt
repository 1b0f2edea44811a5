use Rattle.std.proofs.Common.{◌∙◌, sym, map, rules}
use Rattle.ob_tree.specs.MembersView.{member_of}
use Rattle.ob_parser_spec.specs.Readers.{read_many}
use Rattle.ob_parser_spec.specs.ContractReaders.{promise_first, read_interface_member}
use Rattle.ob_parser_spec.specs.AllReaders.{all_refs}
use Rattle.ob_parser_expressions.proofs.Loops.{kept_as}
use Rattle.ob_parser_expressions.proofs.Tails.{halts_in, begun_as}
use Rattle.ob_parser.proofs.CodeMembers.{interface_item}
use Rattle.ob_parser.proofs.contracts.promise_list.Goals as goal

pub members-init : goal.members-init
members-init c = begun_as member_of c.new-members.result (read_many promise_first (read_interface_member (all_refs c.args.room)) c.args.tokens.now) c.new-members.ensures

pub returns-in_err-member : goal.returns-in_err-member
returns-in_err-member c =
    let why = halts_in promise_first (read_interface_member (all_refs c.args.room)) (map member_of c.members.members) c.members.rest.now c.in_err-member.field-0.0 (read_many promise_first (read_interface_member (all_refs c.args.room)) c.args.tokens.now) c.members.invariant (sym c.starts_with_one_of.ensures ∙ c.members-test.true) c.in_err-member.ensures in
    search rules

pub members-smaller : goal.members-smaller
members-smaller c = (interface_item c.args.room c.ranges.room.fits).fewer _ _ _ c.in_ok-member.ensures

pub members-preserved : goal.members-preserved
members-preserved c = kept_as promise_first (read_interface_member (all_refs c.args.room)) member_of c.members.members c.push.new.self c.members.rest.now c.in_ok-member.after.now c.in_ok-member.member _ (interface_item c.args.room c.ranges.room.fits) c.members.invariant c.in_ok-push.ensures.ok (sym c.starts_with_one_of.ensures ∙ c.members-test.true) c.in_ok-member.ensures
