-- The parts of members and contracts that no node of a tree represents, as plain data.
use Rattle.std.specs.Prelude.{Bool, List, map, option_map}
use Rattle.ob_base.specs.declared.fault.Span.{Span}
use Rattle.ob_tree.specs.Members.{Listed, Member}
use Rattle.ob_tree.specs.NamesView.{named_of, type_of}
use Rattle.ob_tree.specs.StmtsView.{block_of}
use Rattle.ob_tree.specs.MembersView.{formal_of, listed_of, member_of}
use Rattle.ob_tree.specs.declared.member.Member.{Member as MemberNode}
use Rattle.ob_parser_spec.specs.MemberReaders.{Head}
use Rattle.ob_parser_spec.specs.ContractReaders.{MemberTail, constructed, held, Title, ContractForm}
use Rattle.ob_parser.specs.declared.contracts.KindPart.{KindPart}
use Rattle.ob_parser.specs.declared.contracts.TitlePart.{TitlePart}
use Rattle.ob_parser.specs.declared.members.AccessPart.{AccessPart}
use Rattle.ob_parser.specs.declared.members.HeadPart.{HeadPart}
use Rattle.ob_parser.specs.declared.members.TailPart.{TailPart}
use Rattle.ob_parser.specs.declared.members.TailPart.TheVariants.{Constructed, Held}

-- what stands before the head of a transaction
abbrev pub access_part : AccessPart → Bool × List Listed
access_part part = (part.private, map listed_of part.listed)

-- a transaction up to its block
abbrev pub head_part : HeadPart → Head
head_part part = (part.name, (map formal_of part.params, option_map type_of part.result))

-- what stands after `named "@" perm`
abbrev pub tail_part : TailPart → MemberTail
tail_part (Constructed params body) = constructed (map formal_of params) (block_of body)
tail_part (Held name available) = held name available

-- the name of a contract or an interface, and its type parameter
abbrev pub title_part : TitlePart → Title
title_part part = (part.name, part.param)

-- members, and the place of the brace that closes them
abbrev pub body_parts : List MemberNode × Span → List Member × Span
body_parts parts = (map member_of parts.0, parts.1)

-- a contract or an interface from that word on
abbrev pub kind_part : KindPart → ContractForm
kind_part part = (part.interface, (title_part part.title, (option_map named_of part.implements, body_parts (part.members, part.end))))
