-- That the rows of the loops over fields, members and contracts have tokens.
use Rattle.std.proofs.Common.{ℕ, ◌<◌, []}
use Rattle.ob_parser_spec.specs.MemberRows.{field, member, interface_member, contract}
use Rattle.ob_parser_spec.specs.NameReaders.{read_named}
use Rattle.ob_parser_spec.specs.MemberReaders.{types, read_field}
use Rattle.ob_parser_spec.specs.ContractReaders.{member_first, read_member, promise_first, read_interface_member, contract_first, read_contract}
use Rattle.ob_parser_spec.specs.AllReaders.{all_refs, all_blocks}
use Rattle.ob_parser_spec.proofs.FieldLaws.{field_laws}
use Rattle.ob_parser_spec.proofs.MemberLaws.{member_laws, interface_member_laws}
use Rattle.ob_parser_spec.proofs.ContractLaws.{contract_laws}
use Rattle.ob_parser_spec.proofs.BlockLaws.{all_refs_laws, all_named_laws, all_blocks_laws}
use Rattle.ob_parser_expressions.proofs.Loops.{Consumes, consumes}

module _ (room : ℕ) (less : room < 256) where
  pub field_item : Consumes (read_field (all_refs room))
  field_item = consumes room field (read_field (all_refs room)) types [] (field_laws room (all_refs room) (all_refs_laws room less))

  pub member_item : Consumes (read_member (all_refs room) (all_blocks room))
  member_item = consumes room member (read_member (all_refs room) (all_blocks room)) member_first [] (member_laws room (all_refs room) (all_blocks room) (all_refs_laws room less) (all_blocks_laws room less))

  pub interface_item : Consumes (read_interface_member (all_refs room))
  interface_item = consumes room interface_member (read_interface_member (all_refs room)) promise_first [] (interface_member_laws room (all_refs room) (all_refs_laws room less))

  pub contract_item : Consumes (read_contract (read_named all_refs room) (all_refs room) (all_blocks room))
  contract_item = consumes room contract (read_contract (read_named all_refs room) (all_refs room) (all_blocks room)) contract_first [] (contract_laws room (read_named all_refs room) (all_refs room) (all_blocks room) (all_named_laws room less) (all_refs_laws room less) (all_blocks_laws room less))
