use Rattle.std.proofs.Common.{◌∙◌, sym, map, rules}
use Rattle.ob_tree.specs.MembersView.{field_of}
use Rattle.ob_parser_spec.specs.Readers.{read_many}
use Rattle.ob_parser_spec.specs.MemberReaders.{types, read_field}
use Rattle.ob_parser_spec.specs.AllReaders.{all_refs}
use Rattle.ob_parser_expressions.proofs.Loops.{kept_as}
use Rattle.ob_parser_expressions.proofs.Tails.{halts_in, begun_as}
use Rattle.ob_parser.proofs.CodeMembers.{field_item}
use Rattle.ob_parser.proofs.members.field_list.Goals as goal

pub fields-init : goal.fields-init
fields-init c = begun_as field_of c.new-fields.result (read_many types (read_field (all_refs c.args.room)) c.args.tokens.now) c.new-fields.ensures

pub returns-in_err-field : goal.returns-in_err-field
returns-in_err-field c =
    let why = halts_in types (read_field (all_refs c.args.room)) (map field_of c.fields.fields) c.fields.rest.now c.in_err-field.field-0.0 (read_many types (read_field (all_refs c.args.room)) c.args.tokens.now) c.fields.invariant (sym c.starts_with_one_of.ensures ∙ c.fields-test.true) c.in_err-field.ensures in
    search rules

pub fields-smaller : goal.fields-smaller
fields-smaller c = (field_item c.args.room c.ranges.room.fits).fewer _ _ _ c.in_ok-field.ensures

pub fields-preserved : goal.fields-preserved
fields-preserved c = kept_as types (read_field (all_refs c.args.room)) field_of c.fields.fields c.push.new.self c.fields.rest.now c.in_ok-field.after.now c.in_ok-field.field _ (field_item c.args.room c.ranges.room.fits) c.fields.invariant c.in_ok-push.ensures.ok (sym c.starts_with_one_of.ensures ∙ c.fields-test.true) c.in_ok-field.ensures
