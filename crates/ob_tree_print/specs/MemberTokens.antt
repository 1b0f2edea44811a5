-- The tokens of members, contracts and programs, in order.
use Rattle.std.specs.Prelude.{ℕ, Bool, true, false, List, [], ◌∷◌, ◌++◌, Option, Some, None}
use Rattle.std.specs.List.{flat_map}
use Rattle.ob_base.specs.declared.permission.Mode.{Mode}
use Rattle.ob_lexer.specs.declared.token.TokenKind.{TokenKind}
use Rattle.ob_lexer.specs.declared.token.TokenKind.TheVariants as kind
use Rattle.ob_lexer.specs.declared.token.Word.TheVariants as word
use Rattle.ob_lexer.specs.declared.token.Sign.TheVariants as sign
use Rattle.ob_tree.specs.Words.{word_of_mode}
use Rattle.ob_tree.specs.Names.{Named, TypeExpr}
use Rattle.ob_tree.specs.Stmts.{Block}
use Rattle.ob_tree.specs.Members.{Field, Formal, Listed, Member, state_member, field_member, constructor_member, transaction_member, Contract}
use Rattle.ob_tree_print.specs.NameTokens.{word_if, sign_unless, if_empty, token_of_name, token_of_subject, tokens_of_names, tokens_of_perm, tokens_of_exit, tokens_of_named, tokens_of_ref, tokens_of_type}
use Rattle.ob_tree_print.specs.StmtTokens.{tokens_of_block}
use Rattle.ob_tree.specs.declared.name.NamePart.{NamePart}
use Rattle.ob_tree.specs.declared.name.PermNode.{PermNode}
use Rattle.ob_tree.specs.declared.contract.ParamNode.{ParamNode}

-- ["available" "in" NAME {"," NAME}]
abbrev pub tokens_of_available : List NamePart → List TokenKind
tokens_of_available states = if_empty states [] (kind.Word word.Available ∷ kind.Word word.In ∷ tokens_of_names sign.Comma true states)

-- field = type NAME ["available" "in" NAME {"," NAME}] ";"
abbrev pub tokens_of_field : Field → List TokenKind
tokens_of_field field = tokens_of_type field.of ++ (token_of_name field.name ∷ (tokens_of_available field.available ++ (kind.Sign sign.Semicolon ∷ [])))

-- `;` in place of the braces where a state has no fields
abbrev pub tokens_of_fields : List Field → List TokenKind
tokens_of_fields fields = if_empty fields (kind.Sign sign.Semicolon ∷ []) (kind.Sign sign.OpenBrace ∷ (flat_map tokens_of_field fields ++ (kind.Sign sign.CloseBrace ∷ [])))

-- param = type [">>" perm] (NAME | "this")
abbrev pub tokens_of_formal : Formal → List TokenKind
tokens_of_formal formal = tokens_of_type formal.of ++ (tokens_of_exit formal.exit ++ (token_of_subject formal.name ∷ []))

-- parameters with a comma between each two; `first` says that none stands in front
abbrev pub tokens_of_formals : Bool → List Formal → List TokenKind
tokens_of_formals first [] = []
tokens_of_formals first (formal ∷ formals) = sign_unless first sign.Comma ++ (tokens_of_formal formal ++ tokens_of_formals false formals)

-- "(" [params] ")"
abbrev pub tokens_of_params : List Formal → List TokenKind
tokens_of_params params = kind.Sign sign.OpenParen ∷ (tokens_of_formals true params ++ (kind.Sign sign.CloseParen ∷ []))

-- listed = ref [">>" perm] NAME
abbrev pub tokens_of_listed : Listed → List TokenKind
tokens_of_listed listed = tokens_of_ref listed.of ++ (tokens_of_exit listed.exit ++ (token_of_name listed.name ∷ []))

-- such fields with a comma between each two; `first` says that none stands in front
abbrev pub tokens_of_list : Bool → List Listed → List TokenKind
tokens_of_list first [] = []
tokens_of_list first (listed ∷ more) = sign_unless first sign.Comma ++ (tokens_of_listed listed ++ tokens_of_list false more)

-- ["(" listed {"," listed} ")"]
abbrev pub tokens_of_private : List Listed → List TokenKind
tokens_of_private listed = if_empty listed [] (kind.Sign sign.OpenParen ∷ (tokens_of_list true listed ++ (kind.Sign sign.CloseParen ∷ [])))

-- ["returns" type]
abbrev pub tokens_of_result : Option TypeExpr → List TokenKind
tokens_of_result None = []
tokens_of_result (Some of) = kind.Word word.Returns ∷ tokens_of_type of

-- a block, or `;` in its place
abbrev pub tokens_of_body : Option Block → List TokenKind
tokens_of_body None = kind.Sign sign.Semicolon ∷ []
tokens_of_body (Some block) = tokens_of_block block

-- what stands in front of the block of a constructor
unfoldable pub tokens_of_constructor : Named → PermNode → List Formal → List TokenKind
tokens_of_constructor of perm params = tokens_of_named of ++ (kind.Sign sign.At ∷ (tokens_of_perm perm ++ tokens_of_params params))

-- ["private" ["(" listed {"," listed} ")"]]
unfoldable pub tokens_of_access : Bool → List Listed → List TokenKind
tokens_of_access private listed = word_if private word.Private ++ tokens_of_private listed

-- head = "transaction" NAME "(" [params] ")" ["returns" type]
unfoldable pub tokens_of_head : NamePart → List Formal → Option TypeExpr → List TokenKind
tokens_of_head name params result = kind.Word word.Transaction ∷ token_of_name name ∷ (tokens_of_params params ++ tokens_of_result result)

abbrev pub tokens_of_member : Member → List TokenKind
tokens_of_member (state_member name fields span) = kind.Word word.State ∷ token_of_name name ∷ tokens_of_fields fields
tokens_of_member (field_member field) = tokens_of_field field
tokens_of_member (constructor_member of perm params body span) = tokens_of_constructor of perm params ++ tokens_of_block body
tokens_of_member (transaction_member private listed name params result body span) = tokens_of_access private listed ++ (tokens_of_head name params result ++ tokens_of_body body)

-- ["where" NAME "is" mode]
abbrev pub tokens_of_bound : Option (NamePart × Mode) → List TokenKind
tokens_of_bound None = []
tokens_of_bound (Some bound) = kind.Word word.Where ∷ token_of_name bound.0 ∷ kind.Word word.Is ∷ kind.Word (word_of_mode bound.1) ∷ []

-- ["asset"] NAME "@" NAME
unfoldable pub tokens_of_parameter : ParamNode → List TokenKind
tokens_of_parameter param = word_if param.asset word.Asset ++ (token_of_name param.name ∷ kind.Sign sign.At ∷ token_of_name param.perm ∷ [])

-- generic = "[" ["asset"] NAME "@" NAME ["where" NAME "is" mode] "]"
abbrev pub tokens_of_generic : Option ParamNode → List TokenKind
tokens_of_generic None = []
tokens_of_generic (Some param) = kind.Sign sign.OpenBracket ∷ (tokens_of_parameter param ++ (tokens_of_bound param.bound ++ (kind.Sign sign.CloseBracket ∷ [])))

-- ["implements" named]
abbrev pub tokens_of_implements : Option Named → List TokenKind
tokens_of_implements None = []
tokens_of_implements (Some of) = kind.Word word.Implements ∷ tokens_of_named of

-- the word in front of the name
abbrev pub tokens_of_kind : Bool → List TokenKind
tokens_of_kind true = kind.Word word.Interface ∷ []
tokens_of_kind false = kind.Word word.Contract ∷ []

-- ["main"] ["asset"] ("contract" | "interface")
unfoldable pub tokens_of_kinds : Contract → List TokenKind
tokens_of_kinds contract = word_if contract.main word.Main ++ (word_if contract.asset word.Asset ++ tokens_of_kind contract.interface)

-- "{" {member} "}"
unfoldable pub tokens_of_members : List Member → List TokenKind
tokens_of_members members = kind.Sign sign.OpenBrace ∷ (flat_map tokens_of_member members ++ (kind.Sign sign.CloseBrace ∷ []))

-- contract = ["main"] ["asset"] "contract" NAME [generic] ["implements" named] "{" {member} "}", and likewise an interface
abbrev pub tokens_of_contract : Contract → List TokenKind
tokens_of_contract contract = tokens_of_kinds contract ++ (kind.Name contract.name ∷ (tokens_of_generic contract.param ++ (tokens_of_implements contract.implements ++ tokens_of_members contract.members)))

-- program = {contract | interface}
abbrev pub tokens_of : List Contract → List TokenKind
tokens_of contracts = flat_map tokens_of_contract contracts
