-- The laws of `new`, of `this`, of names, and of calls.
use Rattle.std.proofs.Common.{ℕ, ◌≡◌, ◌-◌, ◌≤◌, true, false, List, [], ◌++◌, Option, Some, None, inl, inr, refl, ap}
use Rattle.ob_base.specs.declared.fault.Span.{Span}
use Rattle.ob_lexer.specs.declared.token.Word.TheVariants as word'
use Rattle.ob_lexer.specs.declared.token.Sign.TheVariants as sign'
use Rattle.ob_tree.specs.Names.{Named, Ref}
use Rattle.ob_tree.specs.Exprs.{Expr, name_expr, this_expr, call_expr, new_expr, call_with, Exprs, span_of_expr}
use Rattle.ob_tree.specs.declared.name.NamePart.{NamePart}
use Rattle.ob_tree.specs.declared.name.Subject.{Subject}
use Rattle.ob_tree.specs.declared.name.Subject.TheVariants as subject'
use Rattle.ob_parser_spec.specs.Rows.{Row, Loaded, Covers, never, ◌⨟◌, sign, name, maybe}
use Rattle.ob_parser_spec.specs.NameRows.{subject, named}
use Rattle.ob_parser_spec.specs.ExprRows.{spelled, call, arguments}
use Rattle.ob_parser_spec.specs.Readers.{Reader}
use Rattle.ob_parser_spec.specs.NameReaders.{on}
use Rattle.ob_parser_spec.specs.Chains.{Counted}
use Rattle.ob_parser_spec.specs.Primaries.{expr_first, new_of, read_new, read_applied, read_method, this_of, read_this, Tail, method, applied, method_of, name_with_tail, read_tail, read_name}
use Rattle.ob_parser_spec.specs.StmtReaders.{call_signs}
use Rattle.ob_parser_spec.proofs.Laws.{SpellsAsWell, Laws, disjoint}
use Rattle.ob_parser_spec.proofs.Both.{both}
use Rattle.ob_parser_spec.proofs.Mapped.{Makes}
use Rattle.ob_parser_spec.proofs.Either.{one_of}
use Rattle.ob_parser_spec.proofs.Spanned.{with_span}
use Rattle.ob_parser_spec.proofs.TokenRows.{grouped, ungrouped}
use Rattle.ob_parser_spec.proofs.RowLaws.{sign_at, word_at, at_word, at_name, sign_laws, word_laws, after_laws, choice_laws, span_laws, option_laws, made, makes_laws, alike_laws, nothing_before, nothing_after, with_nothing_before, with_nothing_after}
use Rattle.ob_parser_spec.proofs.Lists.{in_signs}
use Rattle.ob_parser_spec.proofs.NameLaws.{name_laws, InnerRefs, named_laws}
use Rattle.ob_parser_spec.proofs.Chains.{at_level}
use Rattle.ob_parser_spec.proofs.Arguments.{applied_laws}

-- what stands in an expression's place and is spelled so, with no operator read
abbrev pub plain : Counted → Row
plain c read = Covers (span_of_expr c.0) read × (c.1 ≡ 0) × spelled c.0 0 read

none_counted : {e : Expr} {n : ℕ} → n ≡ 0 → ◌≡◌ {A = Counted} (e, n) (e, 0)
none_counted {e} none = ap (λ k. (e, k)) none

-- the arguments of a call
abbrev pub applied_row : Exprs → Row
applied_row = in_signs sign'.OpenParen arguments sign'.CloseParen

-- ---- new

abbrev pub only_new : Counted → Row
only_new (new_expr of args span, n) = plain (new_expr of args span, n)
only_new c = never

abbrev new_parts : Span × (Named × Exprs) → Row
new_parts = both (word_at word'.New) (both named applied_row)

new_to : (parts : (Span × (Named × Exprs)) × Span) (read : List Loaded) → with_span new_parts parts read → only_new (new_of parts) read
new_to ((place, (of, args)), span) read (cov, is) = (cov, refl, (refl, (is.0, is.1, is.2, (place, is.3), is.4)))

new_from : SpellsAsWell only_new (made new_of (with_span new_parts))
new_from (new_expr of args span, n) read is =
    let parts = is.2.1 in
    (((parts.3.0, (of, args)), span), none_counted is.1, (is.0, (parts.0, parts.1, parts.2, parts.3.1, parts.4)))
new_from c read is = elim is [ ]

new_makes : Makes new_of (with_span new_parts) only_new
new_makes = record { to = new_to; from = new_from }

-- ---- calls of what stands before a dot

-- a method of what stands before it, with its arguments
abbrev pub method_row : Span × (NamePart × Exprs) → Row
method_row = both (sign_at sign'.Dot) (both name applied_row)

-- a receiver, its dot and what is called
pub to_call : (x : Subject) (part : NamePart) (args : Exprs) (dot : Span) (read front back : List Loaded) →
    read ≡ front ++ back → subject x front → method_row (dot, (part, args)) back → call (call_with (Some x) part args) read
to_call x part args dot read front back parts is more = ungrouped (front, back, parts, is, (more.0, more.1, more.2, (dot, more.3), more.4))

pub record Called (x : Subject) (part : NamePart) (args : Exprs) (read : List Loaded) : Type 0 where
  pub dot : Span
  pub front : List Loaded
  pub back : List Loaded
  pub parts : read ≡ front ++ back
  pub receiver : subject x front
  pub method : method_row (dot, (part, args)) back

pub from_call : (x : Subject) (part : NamePart) (args : Exprs) (read : List Loaded) → call (call_with (Some x) part args) read → Called x part args read
from_call x part args read is =
    let g = grouped is in
    record { dot = g.4.3.0; front = g.0; back = g.1; parts = g.2; receiver = g.3; method = (g.4.0, g.4.1, g.4.2, g.4.3.1, g.4.4) }

-- ---- `this`, and calls of it

abbrev pub only_this : Counted → Row
only_this (this_expr token span, n) = plain (this_expr token span, n)
only_this (call_expr (call_with (Some (subject'.This token)) part args) span, n) = plain (call_expr (call_with (Some (subject'.This token)) part args) span, n)
only_this c = never

abbrev this_parts : Span × Option (Span × (NamePart × Exprs)) → Row
this_parts = both (word_at word'.This) (maybe method_row)

this_to : (parts : (Span × Option (Span × (NamePart × Exprs))) × Span) (read : List Loaded) → with_span this_parts parts read → only_this (this_of parts) read
this_to ((token, None), span) read (cov, is) = (cov, refl, (refl, nothing_after is))
this_to ((token, Some (dot, (part, args))), span) read (cov, is) =
    (cov, refl, (refl, to_call (subject'.This token) part args dot read is.0 is.1 is.2 is.3 is.4))

this_from : SpellsAsWell only_this (made this_of (with_span this_parts))
this_from (this_expr token span, n) read is = (((token, None), span), none_counted is.1, (is.0, with_nothing_after is.2.1))
this_from (call_expr (call_with (Some (subject'.This token)) part args) span, n) read is =
    let f = from_call (subject'.This token) part args read is.2.1 in
    (((token, Some (f.dot, (part, args))), span), none_counted is.1, (is.0, (f.front, f.back, f.parts, f.receiver, f.method)))
this_from c read is = elim is [ ]

this_makes : Makes this_of (with_span this_parts) only_this
this_makes = record { to = this_to; from = this_from }

-- ---- what stands after a name

abbrev pub tail_row : Tail → Row
tail_row (method part args) = sign sign'.Dot ⨟ name part ⨟ applied_row args
tail_row (applied args) = applied_row args

abbrev only_method : Tail → Row
only_method (method part args) = tail_row (method part args)
only_method (applied args) = never

abbrev only_applied : Tail → Row
only_applied (method part args) = never
only_applied (applied args) = applied_row args

method_from : SpellsAsWell only_method (made method_of method_row)
method_from (method part args) read is = ((is.3.0, (part, args)), refl, (is.0, is.1, is.2, is.3.1, is.4))
method_from (applied args) read is = elim is [ ]

method_makes : Makes method_of method_row only_method
method_makes = record { to = λ parts read is. (is.0, is.1, is.2, (parts.0, is.3), is.4); from = method_from }

applied_from : SpellsAsWell only_applied (made applied applied_row)
applied_from (method part args) read is = elim is [ ]
applied_from (applied args) read is = (args, refl, is)

applied_makes : Makes applied applied_row only_applied
applied_makes = record { to = λ args read is. is; from = applied_from }

tail_to : SpellsAsWell (one_of only_method only_applied) tail_row
tail_to (method part args) read (inl is) = is
tail_to (method part args) read (inr is) = elim is [ ]
tail_to (applied args) read (inl is) = elim is [ ]
tail_to (applied args) read (inr is) = is

tail_from : SpellsAsWell tail_row (one_of only_method only_applied)
tail_from (method part args) read is = inl is
tail_from (applied args) read is = inr is

-- ---- names, and calls that begin with one

abbrev pub only_name : Counted → Row
only_name (name_expr part span, n) = plain (name_expr part span, n)
only_name (call_expr (call_with None part args) span, n) = plain (call_expr (call_with None part args) span, n)
only_name (call_expr (call_with (Some (subject'.Name x)) part args) span, n) = plain (call_expr (call_with (Some (subject'.Name x)) part args) span, n)
only_name c = never

abbrev pub name_parts : NamePart × Option Tail → Row
name_parts = both name (maybe tail_row)

pub name_tail_to : (parts : (NamePart × Option Tail) × Span) (read : List Loaded) → with_span name_parts parts read → only_name (name_with_tail parts) read
name_tail_to ((part, None), span) read (cov, is) = (cov, refl, (refl, nothing_after is))
name_tail_to ((part, Some (applied args)), span) read (cov, is) = (cov, refl, (refl, with_nothing_before is))
name_tail_to ((part, Some (method called args)), span) read (cov, is) = (cov, refl, (refl, ungrouped is))

name_tail_from : SpellsAsWell only_name (made name_with_tail (with_span name_parts))
name_tail_from (name_expr part span, n) read is = (((part, None), span), none_counted is.1, (is.0, with_nothing_after is.2.1))
name_tail_from (call_expr (call_with None part args) span, n) read is =
    (((part, Some (applied args)), span), none_counted is.1, (is.0, nothing_before is.2.1))
name_tail_from (call_expr (call_with (Some (subject'.Name x)) part args) span, n) read is =
    (((x, Some (method part args)), span), none_counted is.1, (is.0, grouped is.2.1))
name_tail_from c read is = elim is [ ]

name_tail_makes : Makes name_with_tail (with_span name_parts) only_name
name_tail_makes = record { to = name_tail_to; from = name_tail_from }

-- ---- the laws

-- expressions are read in the room that is left under one token that counts, and go on so
abbrev pub Inner : ℕ → (ℕ → Reader Counted) → List ℕ → Type 0
Inner room inner more = 1 ≤ room → Laws (room - 1) (at_level 1) (inner (room - 1)) expr_first more false

module _ (room : ℕ) (refs : ℕ → Reader Ref) (inner : ℕ → Reader Counted) (more : List ℕ) (r : InnerRefs room refs) (a : Inner room inner more)
    (apart : disjoint (on sign'.Comma) more ≡ true) (closes : disjoint (on sign'.CloseParen) ((more ++ on sign'.Comma) ++ expr_first) ≡ true) where
  args_laws : Laws room applied_row (read_applied inner room) (on sign'.OpenParen) [] false
  args_laws = applied_laws room inner more a apart closes

  pub new_laws : Laws room only_new (read_new refs inner room) (at_word word'.New) [] false
  new_laws = makes_laws new_makes (span_laws (after_laws (word_laws room word'.New) (after_laws (named_laws room refs r) args_laws refl) refl))

  pub method_laws : Laws room method_row (read_method inner room) (on sign'.Dot) [] false
  method_laws = after_laws (sign_laws room sign'.Dot) (after_laws (name_laws room) args_laws refl) refl

  pub this_laws : Laws room only_this (read_this inner room) (at_word word'.This) (on sign'.Dot) false
  this_laws = makes_laws this_makes (span_laws (after_laws (word_laws room word'.This) (option_laws method_laws) refl))

  pub tail_laws : Laws room tail_row (read_tail inner room) call_signs [] false
  tail_laws = alike_laws tail_row tail_to tail_from (choice_laws (makes_laws method_makes method_laws) (makes_laws applied_makes args_laws) refl)

  pub name_tail_laws : Laws room only_name (read_name inner room) at_name call_signs false
  name_tail_laws = makes_laws name_tail_makes (span_laws (after_laws (name_laws room) (option_laws tail_laws) refl))
