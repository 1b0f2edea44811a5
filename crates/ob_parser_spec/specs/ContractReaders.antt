-- What the parser computes of members, contracts and programs, a reader for each row.
use Rattle.std.specs.Prelude.{ℕ, Bool, true, false, Option, Some, None, List, [], ◌∷◌, ◌++◌}
use Rattle.ob_base.specs.declared.fault.Span.{Span}
use Rattle.ob_base.specs.declared.permission.Mode.{Mode}
use Rattle.ob_lexer.specs.declared.token.Word.{Word}
use Rattle.ob_lexer.specs.declared.token.Word.TheVariants as word'
use Rattle.ob_lexer.specs.declared.token.Sign.TheVariants as sign'
use Rattle.ob_tree.specs.Names.{Named, Ref, ref_with, ref_type}
use Rattle.ob_tree.specs.Stmts.{Block}
use Rattle.ob_tree.specs.Members.{Field, Formal, Listed, Member, state_member, field_member, constructor_member, transaction_member, Contract}
use Rattle.ob_tree.specs.declared.name.NamePart.{NamePart}
use Rattle.ob_tree.specs.declared.contract.ParamNode.{ParamNode}
use Rattle.ob_parser_spec.specs.Symbols.{a_name, a_word, number}
use Rattle.ob_parser_spec.specs.Readers.{Reader, name_if, read_token, read_both, read_either, read_as, read_maybe, read_spanned, read_many}
use Rattle.ob_parser_spec.specs.NameReaders.{on, second, read_parted, mode_if}
use Rattle.ob_parser_spec.specs.MemberReaders.{value_type_if, value_types, types, list_of, read_listed, read_maybe_parted, read_param, read_available, field_of, read_field, Head, read_head}
use Rattle.ob_parser_spec.specs.StmtReaders.{read_word, read_sign, between}

-- ---- states

-- no fields, after `;`
abbrev pub no_fields : Span → List Field
no_fields place = []

-- the reader of a state's fields in braces
abbrev pub read_braced : Reader Ref → Reader (List Field)
read_braced refs = read_as between (read_both (read_sign sign'.OpenBrace) (read_both (read_many types (read_field refs)) (read_sign sign'.CloseBrace)))

-- the reader of what stands after a state's name: `;`, or its fields in braces
abbrev pub read_fields : Reader Ref → Reader (List Field)
read_fields refs = read_either (on sign'.Semicolon) (read_as no_fields (read_sign sign'.Semicolon)) (read_braced refs)

-- what is made of the parts of: "state" NAME (";" | "{" {field} "}")
abbrev pub state_of : (Span × (NamePart × List Field)) × Span → Member
state_of parts = state_member parts.0.1.0 parts.0.1.1 parts.1

-- the reader of a state, with its fields
abbrev pub read_state : Reader Ref → Reader Member
read_state refs = read_as state_of (read_spanned (read_both (read_word word'.State) (read_both (read_token name_if) (read_fields refs))))

-- ---- transactions

-- a row in parentheses
abbrev pub read_parens : {A : Type 0} → Reader A → Reader A
read_parens p = read_as between (read_both (read_sign sign'.OpenParen) (read_both p (read_sign sign'.CloseParen)))

-- reads: ["(" listed {"," listed} ")"]
abbrev pub listed_after : Reader Ref → Reader (List Listed)
listed_after refs = read_as list_of (read_maybe (on sign'.OpenParen) (read_parens (read_parted sign'.Comma (read_listed refs))))

-- whether a transaction is private, and the fields that are listed after that word
abbrev pub privacy_of : Option (Span × List Listed) → Bool × List Listed
privacy_of None = (false, [])
privacy_of (Some parts) = (true, parts.1)

-- the reader of what stands before a transaction's head: `private` and the fields listed after it, or nothing
abbrev pub read_privacy : Reader Ref → Reader (Bool × List Listed)
read_privacy refs = read_as privacy_of (read_maybe (number (a_word word'.Private) ∷ []) (read_both (read_word word'.Private) (listed_after refs)))

-- what is made of the parts of: ["private" ["(" listed {"," listed} ")"]] head block
abbrev pub transaction_of : ((Bool × List Listed) × (Head × Block)) × Span → Member
transaction_of parts = transaction_member parts.0.0.0 parts.0.0.1 parts.0.1.0.0 parts.0.1.0.1.0 parts.0.1.0.1.1 (Some parts.0.1.1) parts.1

-- the reader of a transaction: its privacy, its head and its block
abbrev pub read_transaction : Reader Ref → Reader Block → Reader Member
read_transaction refs block = read_as transaction_of (read_spanned (read_both (read_privacy refs) (read_both (read_head refs) block)))

-- ---- fields and constructors

-- reads a field whose type is `int`, `bool` or `string`
abbrev pub read_value_field : Reader Field
read_value_field = read_as field_of (read_both (read_token value_type_if) (read_both (read_token name_if) (read_both read_available (read_sign sign'.Semicolon))))

-- what stands after `named "@" perm`: the rest of a constructor or of a field
pub data MemberTail : Type 0 where
  constructed : List Formal → Block → MemberTail
  held : NamePart → List NamePart → MemberTail

-- what is made of the parts of: "(" [params] ")" block
abbrev pub constructed_of : Span × (List Formal × (Span × Block)) → MemberTail
constructed_of parts = constructed parts.1.0 parts.1.1.1

-- the reader of the rest of a constructor: its parameters and its block
abbrev pub read_constructed : Reader Ref → Reader Block → Reader MemberTail
read_constructed refs block = read_as constructed_of (read_both (read_sign sign'.OpenParen) (read_both (read_maybe_parted types sign'.Comma (read_param refs)) (read_both (read_sign sign'.CloseParen) block)))

-- what is made of the parts of: NAME ["available" "in" NAME {"," NAME}] ";"
abbrev pub held_of : NamePart × (List NamePart × Span) → MemberTail
held_of parts = held parts.0 parts.1.0

-- the reader of the rest of a field: its name and the states where it is available
abbrev pub read_held : Reader MemberTail
read_held = read_as held_of (read_both (read_token name_if) (read_both read_available (read_sign sign'.Semicolon)))

-- the reader of the rest of a constructor or of a field, as the first token says
abbrev pub read_member_tail : Reader Ref → Reader Block → Reader MemberTail
read_member_tail refs block = read_either (on sign'.OpenParen) (read_constructed refs block) read_held

-- a constructor or a field, made of the reference that it begins with and of what follows
abbrev pub member_after : (Ref × MemberTail) × Span → Member
member_after ((ref_with of perm, constructed params body), span) = constructor_member of perm params body span
member_after ((r, held part available), span) = field_member (record { of = ref_type r; name = part; available = available })

-- the reader of a member that begins with a reference: a constructor or a field
abbrev pub read_after_ref : Reader Ref → Reader Block → Reader Member
read_after_ref refs block = read_as member_after (read_spanned (read_both refs (read_member_tail refs block)))

-- ---- members

-- what a transaction begins with
abbrev pub transaction_first : List ℕ
transaction_first = number (a_word word'.Private) ∷ number (a_word word'.Transaction) ∷ []

-- what a member begins with
abbrev pub member_first : List ℕ
member_first = number (a_word word'.State) ∷ transaction_first ++ (value_types ++ number a_name ∷ [])

-- the reader of a contract's member: a state, a transaction, a field or a constructor
abbrev pub read_member : Reader Ref → Reader Block → Reader Member
read_member refs block =
    read_either (number (a_word word'.State) ∷ []) (read_state refs)
    (read_either transaction_first (read_transaction refs block)
    (read_either value_types (read_as field_member read_value_field) (read_after_ref refs block)))

-- what is made of the parts of: "state" NAME ";"
abbrev pub bare_state_of : (Span × (NamePart × Span)) × Span → Member
bare_state_of parts = state_member parts.0.1.0 [] parts.1

-- the reader of an interface's state, which has no fields
abbrev pub read_bare_state : Reader Member
read_bare_state = read_as bare_state_of (read_spanned (read_both (read_word word'.State) (read_both (read_token name_if) (read_sign sign'.Semicolon))))

-- what is made of the parts of: head ";"
abbrev pub promise_of : (Head × Span) × Span → Member
promise_of parts = transaction_member false [] parts.0.0.0 parts.0.0.1.0 parts.0.0.1.1 None parts.1

-- the reader of an interface's transaction, which has no block
abbrev pub read_promise : Reader Ref → Reader Member
read_promise refs = read_as promise_of (read_spanned (read_both (read_head refs) (read_sign sign'.Semicolon)))

-- what a member of an interface begins with
abbrev pub promise_first : List ℕ
promise_first = number (a_word word'.State) ∷ number (a_word word'.Transaction) ∷ []

-- the reader of an interface's member: a state or a transaction
abbrev pub read_interface_member : Reader Ref → Reader Member
read_interface_member refs = read_either (number (a_word word'.State) ∷ []) read_bare_state (read_promise refs)

-- ---- type parameters

-- whether a word is there that may be left out
abbrev pub is_there : Option Span → Bool
is_there None = false
is_there (Some place) = true

-- the reader of a word that may be left out: it tells whether the word is there
abbrev pub read_flag : Word → Reader Bool
read_flag w = read_as is_there (read_maybe (number (a_word w) ∷ []) (read_word w))

-- what is made of the parts of: ["where" NAME "is" mode]
abbrev pub bound_of : Span × (NamePart × (Span × (Mode × Span))) → NamePart × Mode
bound_of parts = (parts.1.0, parts.1.1.1.0)

-- the reader of the bound of a type parameter, which may be left out
abbrev pub read_bound : Reader (Option (NamePart × Mode))
read_bound = read_maybe (number (a_word word'.Where) ∷ []) (read_as bound_of (read_both (read_word word'.Where) (read_both (read_token name_if) (read_both (read_word word'.Is) (read_token mode_if)))))

-- what is made of the parts of: "[" ["asset"] NAME "@" NAME ["where" NAME "is" mode] "]"
abbrev pub generic_of : (Span × (Bool × (NamePart × (Span × (NamePart × (Option (NamePart × Mode) × Span)))))) × Span → ParamNode
generic_of parts = record { asset = parts.0.1.0; name = parts.0.1.1.0; perm = parts.0.1.1.1.1.0; bound = parts.0.1.1.1.1.1.0; span = parts.1 }

-- the reader of a type parameter in brackets
abbrev pub read_generic : Reader ParamNode
read_generic =
    read_as generic_of (read_spanned (read_both (read_sign sign'.OpenBracket) (read_both (read_flag word'.Asset) (read_both (read_token name_if) (read_both (read_sign sign'.At)
    (read_both (read_token name_if) (read_both read_bound (read_sign sign'.CloseBracket))))))))

-- ---- contracts

-- NAME [generic]
abbrev pub Title : Type 0
Title = NamePart × Option ParamNode

-- the reader of a type parameter that may be left out
abbrev pub read_maybe_generic : Reader (Option ParamNode)
read_maybe_generic = read_maybe (on sign'.OpenBracket) read_generic

-- the reader of the name of a contract or an interface, with its type parameter
abbrev pub read_title : Reader Title
read_title = read_both (read_token name_if) read_maybe_generic

-- what stands in the braces, and the closing one
abbrev pub members_of : Span × (List Member × Span) → List Member × Span
members_of parts = parts.1

-- the reader of members in braces, given what they begin with and the reader of one
abbrev pub read_body : List ℕ → Reader Member → Reader (List Member × Span)
read_body kinds member = read_as members_of (read_both (read_sign sign'.OpenBrace) (read_both (read_many kinds member) (read_sign sign'.CloseBrace)))

-- ["implements" named]
abbrev pub read_implements : Reader Named → Reader (Option Named)
read_implements named = read_maybe (number (a_word word'.Implements) ∷ []) (read_as second (read_both (read_word word'.Implements) named))

-- a contract or an interface, from that word on
abbrev pub ContractForm : Type 0
ContractForm = Bool × (Title × (Option Named × (List Member × Span)))

-- what is made of the parts of: "contract" NAME [generic] ["implements" named] "{" {member} "}"
abbrev pub contract_kind : Span × (Title × (Option Named × (List Member × Span))) → ContractForm
contract_kind parts = (false, parts.1)

-- the reader of a contract, from the word `contract` on
abbrev pub read_contract_kind : Reader Named → Reader Ref → Reader Block → Reader ContractForm
read_contract_kind named refs block =
    read_as contract_kind (read_both (read_word word'.Contract) (read_both read_title (read_both (read_implements named) (read_body member_first (read_member refs block)))))

-- what is made of the parts of: "interface" NAME [generic] "{" { "state" NAME ";" | head ";" } "}"
abbrev pub interface_kind : Span × (Title × (List Member × Span)) → ContractForm
interface_kind parts = (true, (parts.1.0, (None, parts.1.1)))

-- the reader of an interface, from the word `interface` on
abbrev pub read_interface_kind : Reader Ref → Reader ContractForm
read_interface_kind refs = read_as interface_kind (read_both (read_word word'.Interface) (read_both read_title (read_body promise_first (read_interface_member refs))))

-- the reader of a contract or an interface, from that word on
abbrev pub read_kind : Reader Named → Reader Ref → Reader Block → Reader ContractForm
read_kind named refs block = read_either (number (a_word word'.Contract) ∷ []) (read_contract_kind named refs block) (read_interface_kind refs)

-- a contract or an interface, made of whether it is main, whether it is an asset, and the rest
abbrev pub contract_of : Bool → Bool × ContractForm → Contract
contract_of main parts =
    record {
      main = main;
      asset = parts.0;
      interface = parts.1.0;
      name = parts.1.1.0.0.name;
      param = parts.1.1.0.1;
      implements = parts.1.1.1.0;
      members = parts.1.1.1.1.0;
      span = parts.1.1.0.0.span;
      end = parts.1.1.1.1.1;
    }

-- what is made of the parts of: "main" ["asset"] "contract" ..
abbrev pub main_of : Span × (Bool × ContractForm) → Contract
main_of parts = contract_of true parts.1

-- the reader of a main contract
abbrev pub read_main : Reader Named → Reader Ref → Reader Block → Reader Contract
read_main named refs block = read_as main_of (read_both (read_word word'.Main) (read_both (read_flag word'.Asset) (read_contract_kind named refs block)))

-- ["asset"] ("contract" .. | "interface" ..)
abbrev pub read_other : Reader Named → Reader Ref → Reader Block → Reader Contract
read_other named refs block = read_as (contract_of false) (read_both (read_flag word'.Asset) (read_kind named refs block))

-- what a contract or an interface begins with
abbrev pub contract_first : List ℕ
contract_first = number (a_word word'.Main) ∷ number (a_word word'.Asset) ∷ number (a_word word'.Contract) ∷ number (a_word word'.Interface) ∷ []

-- the reader of a contract, main or not, or of an interface
abbrev pub read_contract : Reader Named → Reader Ref → Reader Block → Reader Contract
read_contract named refs block = read_either (number (a_word word'.Main) ∷ []) (read_main named refs block) (read_other named refs block)

-- {contract | interface}
abbrev pub read_program : Reader Named → Reader Ref → Reader Block → Reader (List Contract)
read_program named refs block = read_many contract_first (read_contract named refs block)
