-- The laws of the members of contracts and of interfaces.
use Rattle.std.proofs.Common.{ℕ, false, List, [], ◌++◌, None, inl, inr, refl}
use Rattle.ob_base.specs.declared.fault.Span.{Span}
use Rattle.ob_lexer.specs.declared.token.Word.TheVariants as word'
use Rattle.ob_lexer.specs.declared.token.Sign.TheVariants as sign'
use Rattle.ob_tree.specs.Names.{Ref, ref_with, TypeExpr, ref_type}
use Rattle.ob_tree.specs.Stmts.{Block}
use Rattle.ob_tree.specs.Members.{Field, Formal, Member, state_member, field_member, constructor_member, transaction_member}
use Rattle.ob_tree.specs.declared.name.NamePart.{NamePart}
use Rattle.ob_parser_spec.specs.Rows.{Row, Loaded, never, ◌⨟◌, sign, name, maybe_parted}
use Rattle.ob_parser_spec.specs.NameRows.{ref}
use Rattle.ob_parser_spec.specs.StmtRows.{block}
use Rattle.ob_parser_spec.specs.MemberRows.{available, field, param, member, interface_member}
use Rattle.ob_parser_spec.specs.Readers.{Reader, name_if, span_of_tokens, read_token, read_both}
use Rattle.ob_parser_spec.specs.Grammar.{tokens_of}
use Rattle.ob_parser_spec.specs.NameReaders.{on}
use Rattle.ob_parser_spec.specs.MemberReaders.{value_types, types, read_param, read_available, field_of, Head}
use Rattle.ob_parser_spec.specs.StmtReaders.{read_sign}
use Rattle.ob_parser_spec.specs.ContractReaders.{read_value_field, MemberTail, constructed, held, constructed_of, held_of, read_member_tail, member_after, read_after_ref, member_first, read_member, bare_state_of, read_bare_state, promise_of, read_promise, promise_first, read_interface_member}
use Rattle.ob_parser_spec.proofs.Laws.{SpellsAsWell, Laws}
use Rattle.ob_parser_spec.proofs.Both.{both}
use Rattle.ob_parser_spec.proofs.Mapped.{Makes}
use Rattle.ob_parser_spec.proofs.Either.{one_of}
use Rattle.ob_parser_spec.proofs.Spanned.{covers_some, with_span}
use Rattle.ob_parser_spec.proofs.TokenRows.{grouped, ungrouped}
use Rattle.ob_parser_spec.proofs.RowLaws.{sign_at, word_at, at_word, at_name, sign_laws, word_laws, after_laws, choice_laws, span_laws, made, makes_laws, alike_laws}
use Rattle.ob_parser_spec.proofs.NameLaws.{name_laws}
use Rattle.ob_parser_spec.proofs.ParamLaws.{only_value, value_type_laws, only_ref, param_laws}
use Rattle.ob_parser_spec.proofs.FieldLaws.{maybe_parted_laws, available_laws}
use Rattle.ob_parser_spec.proofs.HeadLaws.{head_row, head_laws}
use Rattle.ob_parser_spec.proofs.StateLaws.{only_state, state_laws}
use Rattle.ob_parser_spec.proofs.TransactionLaws.{only_transaction, transaction_laws}

-- what stands after the type of a field
abbrev after_type : Field → Row
after_type f = name f.name ⨟ available f.available ⨟ sign sign'.Semicolon

abbrev after_parts : NamePart × (List NamePart × Span) → Row
after_parts = both name (both available (sign_at sign'.Semicolon))

after_type_laws : (room : ℕ) → Laws room after_parts (read_both (read_token name_if) (read_both read_available (read_sign sign'.Semicolon))) at_name [] false
after_type_laws room = after_laws (name_laws room) (after_laws (available_laws room) (sign_laws room sign'.Semicolon) refl) refl

-- ---- fields whose type is `int`, `bool` or `string`

abbrev pub only_value_field : Field → Row
only_value_field f = only_value f.of ⨟ after_type f

value_field_makes : Makes field_of (both only_value after_parts) only_value_field
value_field_makes = record {
  to = λ parts read is. let end = is.4.4 in (is.0, is.1, is.2, is.3, (is.4.0, is.4.1, is.4.2, is.4.3, (end.0, end.1, end.2, end.3, (parts.1.1.1, end.4))));
  from = λ f read is.
      let end = is.4.4 in
      ((f.of, (f.name, (f.available, end.4.0))), refl, (is.0, is.1, is.2, is.3, (is.4.0, is.4.1, is.4.2, is.4.3, (end.0, end.1, end.2, end.3, end.4.1))));
}

pub value_field_laws : (room : ℕ) → Laws room only_value_field read_value_field value_types [] false
value_field_laws room = makes_laws value_field_makes (after_laws (value_type_laws room) (after_type_laws room) refl)

-- as a member
abbrev only_value_member : Member → Row
only_value_member (field_member f) = only_value_field f
only_value_member m = never

value_member_from : SpellsAsWell only_value_member (made field_member only_value_field)
value_member_from (field_member f) read is = (f, refl, is)
value_member_from m read is = elim is [ ]

value_member_makes : Makes field_member only_value_field only_value_member
value_member_makes = record { to = λ f read is. is; from = value_member_from }

-- ---- what stands after the type of a reference

abbrev pub tail_row : MemberTail → Row
tail_row (constructed params body) = sign sign'.OpenParen ⨟ maybe_parted sign'.Comma param params ⨟ sign sign'.CloseParen ⨟ block body
tail_row (held part states) = name part ⨟ available states ⨟ sign sign'.Semicolon

abbrev only_constructed : MemberTail → Row
only_constructed (constructed params body) = tail_row (constructed params body)
only_constructed (held part states) = never

abbrev only_held : MemberTail → Row
only_held (constructed params body) = never
only_held (held part states) = tail_row (held part states)

abbrev constructed_parts : Span × (List Formal × (Span × Block)) → Row
constructed_parts = both (sign_at sign'.OpenParen) (both (maybe_parted sign'.Comma param) (both (sign_at sign'.CloseParen) block))

constructed_from : SpellsAsWell only_constructed (made constructed_of constructed_parts)
constructed_from (constructed params body) read is =
    let end = is.4.4 in
    ((is.3.0, (params, (end.3.0, body))), refl, (is.0, is.1, is.2, is.3.1, (is.4.0, is.4.1, is.4.2, is.4.3, (end.0, end.1, end.2, end.3.1, end.4))))
constructed_from (held part states) read is = elim is [ ]

constructed_makes : Makes constructed_of constructed_parts only_constructed
constructed_makes = record {
  to = λ parts read is. let end = is.4.4 in (is.0, is.1, is.2, (parts.0, is.3), (is.4.0, is.4.1, is.4.2, is.4.3, (end.0, end.1, end.2, (parts.1.1.0, end.3), end.4)));
  from = constructed_from;
}

held_from : SpellsAsWell only_held (made held_of after_parts)
held_from (constructed params body) read is = elim is [ ]
held_from (held part states) read is = ((part, (states, is.4.4.0)), refl, (is.0, is.1, is.2, is.3, (is.4.0, is.4.1, is.4.2, is.4.3, is.4.4.1)))

held_makes : Makes held_of after_parts only_held
held_makes = record { to = λ parts read is. (is.0, is.1, is.2, is.3, (is.4.0, is.4.1, is.4.2, is.4.3, (parts.1.1, is.4.4))); from = held_from }

tail_to : SpellsAsWell (one_of only_constructed only_held) tail_row
tail_to (constructed params body) read (inl is) = is
tail_to (constructed params body) read (inr is) = elim is [ ]
tail_to (held part states) read (inl is) = elim is [ ]
tail_to (held part states) read (inr is) = is

tail_from : SpellsAsWell tail_row (one_of only_constructed only_held)
tail_from (constructed params body) read is = inl is
tail_from (held part states) read is = inr is

-- what it begins with
abbrev pub tail_first : List ℕ
tail_first = on sign'.OpenParen ++ at_name

-- ---- constructors, and fields whose type is a reference

abbrev pub only_after_ref : Member → Row
only_after_ref (constructor_member of with params body span) = member (constructor_member of with params body span)
only_after_ref (field_member f) = only_ref f.of ⨟ after_type f
only_after_ref m = never

abbrev after_ref_parts : Ref × MemberTail → Row
after_ref_parts = both ref tail_row

after_ref_to : (r : Ref) (t : MemberTail) (span : Span) (read : List Loaded) → with_span after_ref_parts ((r, t), span) read → only_after_ref (member_after ((r, t), span)) read
after_ref_to (ref_with of with) (constructed params body) span read is = let g = grouped is.1 in (is.0, (g.0, g.1, g.2, g.3, grouped g.4))
after_ref_to (ref_with of with) (held part states) span read is = is.1

-- ---- members

-- all but states, transactions, and fields whose type is no reference
abbrev only_others : Member → Row
only_others = one_of only_value_member only_after_ref

abbrev only_all : Member → Row
only_all = one_of only_state (one_of only_transaction only_others)

abbrev field_with : TypeExpr → NamePart → List NamePart → Field
field_with of part states = record { of = of; name = part; available = states }

field_to : (of : TypeExpr) (part : NamePart) (states : List NamePart) (read : List Loaded) → only_others (field_member (field_with of part states)) read → field (field_with of part states) read
field_to (ref_type r) part states read (inl is) = elim is.3 [ ]
field_to (ref_type r) part states read (inr is) = is
field_to t part states read (inl is) = is
field_to t part states read (inr is) = elim is.3 [ ]

field_from : (of : TypeExpr) (part : NamePart) (states : List NamePart) (read : List Loaded) → field (field_with of part states) read → only_others (field_member (field_with of part states)) read
field_from (ref_type r) part states read is = inr is
field_from t part states read is = inl is

member_to : SpellsAsWell only_all member
member_to (state_member part fields span) read (inl is) = is
member_to (transaction_member private lists part params result body span) read (inr (inl is)) = is
member_to (field_member f) read (inr (inr is)) = field_to f.of f.name f.available read is
member_to (constructor_member of with params body span) read (inr (inr (inr is))) = is
member_to m read (inl is) = elim is [ ]
member_to m read (inr (inl is)) = elim is [ ]
member_to m read (inr (inr (inl is))) = elim is [ ]
member_to m read (inr (inr (inr is))) = elim is [ ]

member_from : SpellsAsWell member only_all
member_from (state_member part fields span) read is = inl is
member_from (transaction_member private lists part params result body span) read is = inr (inl is)
member_from (field_member f) read is = inr (inr (field_from f.of f.name f.available read is))
member_from (constructor_member of with params body span) read is = inr (inr (inr is))

module _ (room : ℕ) (refs : Reader Ref) (blocks : Reader Block) (r : Laws room ref refs at_name (on sign'.Bar) false)
    (b : Laws room block blocks (on sign'.OpenBrace) [] false) where
  pub member_tail_laws : Laws room tail_row (read_member_tail refs blocks) tail_first [] false
  member_tail_laws =
      let params = maybe_parted_laws sign'.Comma room param (read_param refs) types [] (param_laws room refs r) refl in
      let close = after_laws (sign_laws room sign'.CloseParen) b refl in
      let constructed' = makes_laws constructed_makes (after_laws (sign_laws room sign'.OpenParen) (after_laws params close refl) refl) in
      alike_laws tail_row tail_to tail_from (choice_laws constructed' (makes_laws held_makes (after_type_laws room)) refl)

  after_ref_pair : Laws room after_ref_parts (read_both refs (read_member_tail refs blocks)) at_name [] false
  after_ref_pair = after_laws r member_tail_laws refl

  -- the place of a field isn't kept
  some_span : (parts : Ref × MemberTail) (read : List Loaded) → after_ref_parts parts read → with_span after_ref_parts (parts, span_of_tokens (tokens_of read)) read
  some_span parts read is = (covers_some at_name read (after_ref_pair.begins parts read is), is)

  after_field_from : (of : TypeExpr) (part : NamePart) (states : List NamePart) (read : List Loaded) →
      (only_ref of ⨟ after_type (field_with of part states)) read →
      made member_after (with_span after_ref_parts) (field_member (field_with of part states)) read
  after_field_from (ref_type (ref_with of with)) part states read is =
      let parts : Ref × MemberTail = (ref_with of with, held part states) in
      ((parts, span_of_tokens (tokens_of read)), refl, some_span parts read is)
  after_field_from t part states read is = elim is.3 [ ]

  after_ref_from : SpellsAsWell only_after_ref (made member_after (with_span after_ref_parts))
  after_ref_from (constructor_member of with params body span) read is =
      let all = is.1 in
      (((ref_with of with, constructed params body), span), refl, (is.0, ungrouped (all.0, all.1, all.2, all.3, ungrouped all.4)))
  after_ref_from (field_member f) read is = after_field_from f.of f.name f.available read is
  after_ref_from m read is = elim is [ ]

  after_ref_makes : Makes member_after (with_span after_ref_parts) only_after_ref
  after_ref_makes = record { to = λ parts. after_ref_to parts.0.0 parts.0.1 parts.1; from = after_ref_from }

  pub after_ref_laws : Laws room only_after_ref (read_after_ref refs blocks) at_name [] false
  after_ref_laws = makes_laws after_ref_makes (span_laws after_ref_pair)

  pub member_laws : Laws room member (read_member refs blocks) member_first [] false
  member_laws =
      let others = choice_laws (makes_laws value_member_makes (value_field_laws room)) after_ref_laws refl in
      let after_state = choice_laws (transaction_laws room refs r blocks b) others refl in
      alike_laws member member_to member_from (choice_laws (state_laws room refs r) after_state refl)

-- ---- members of interfaces

abbrev pub only_bare_state : Member → Row
only_bare_state (state_member part fields span) = interface_member (state_member part fields span)
only_bare_state m = never

abbrev bare_state_parts : Span × (NamePart × Span) → Row
bare_state_parts = both (word_at word'.State) (both name (sign_at sign'.Semicolon))

bare_state_from : SpellsAsWell only_bare_state (made bare_state_of (with_span bare_state_parts))
bare_state_from (state_member part [] span) read is =
    let of = is.1 in
    (((of.3.0, (part, of.4.4.0)), span), refl, (is.0, (of.0, of.1, of.2, of.3.1, (of.4.0, of.4.1, of.4.2, of.4.3, of.4.4.1))))
bare_state_from m read is = elim is [ ]

bare_state_makes : Makes bare_state_of (with_span bare_state_parts) only_bare_state
bare_state_makes = record {
  to = λ parts read is. let of = is.1 in (is.0, (of.0, of.1, of.2, (parts.0.0, of.3), (of.4.0, of.4.1, of.4.2, of.4.3, (parts.0.1.1, of.4.4))));
  from = bare_state_from;
}

abbrev pub only_promise : Member → Row
only_promise (transaction_member private lists part params result body span) = interface_member (transaction_member private lists part params result body span)
only_promise m = never

abbrev promise_parts : Head × Span → Row
promise_parts = both head_row (sign_at sign'.Semicolon)

promise_from : SpellsAsWell only_promise (made promise_of (with_span promise_parts))
promise_from (transaction_member false [] part params result None span) read is =
    let of = is.1 in
    ((((part, (params, result)), of.4.0), span), refl, (is.0, (of.0, of.1, of.2, of.3, of.4.1)))
promise_from m read is = elim is [ ]

promise_makes : Makes promise_of (with_span promise_parts) only_promise
promise_makes = record { to = λ parts read is. (is.0, (is.1.0, is.1.1, is.1.2, is.1.3, (parts.0.1, is.1.4))); from = promise_from }

interface_to : SpellsAsWell (one_of only_bare_state only_promise) interface_member
interface_to (state_member part fields span) read (inl is) = is
interface_to (transaction_member private lists part params result body span) read (inr is) = is
interface_to m read (inl is) = elim is [ ]
interface_to m read (inr is) = elim is [ ]

interface_from : SpellsAsWell interface_member (one_of only_bare_state only_promise)
interface_from (state_member part fields span) read is = inl is
interface_from (transaction_member private lists part params result body span) read is = inr is
interface_from m read is = elim is [ ]

module _ (room : ℕ) (refs : Reader Ref) (r : Laws room ref refs at_name (on sign'.Bar) false) where
  pub bare_state_laws : Laws room only_bare_state read_bare_state (at_word word'.State) [] false
  bare_state_laws =
      let named = after_laws (name_laws room) (sign_laws room sign'.Semicolon) refl in
      makes_laws bare_state_makes (span_laws (after_laws (word_laws room word'.State) named refl))

  pub promise_laws : Laws room only_promise (read_promise refs) (at_word word'.Transaction) [] false
  promise_laws = makes_laws promise_makes (span_laws (after_laws (head_laws room refs r) (sign_laws room sign'.Semicolon) refl))

  pub interface_member_laws : Laws room interface_member (read_interface_member refs) promise_first [] false
  interface_member_laws = alike_laws interface_member interface_to interface_from (choice_laws bare_state_laws promise_laws refl)
