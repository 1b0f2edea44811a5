-- Readers that are deeper than there is room answer alike, and so the deepest ones are made of themselves.
use Rattle.std.proofs.Common.{ℕ, zero, suc, ◌≡◌, ◌+◌, ◌-◌, ◌<◌, ◌≤◌, List, [], ◌∷◌, Option, refl, arith}
use Rattle.ob_base.specs.declared.fault.Span.{Span}
use Rattle.ob_base.specs.declared.operator.Operator.{Operator}
use Rattle.ob_lexer.specs.declared.token.Token.{Token}
use Rattle.ob_lexer.specs.declared.token.Word.TheVariants as word'
use Rattle.ob_lexer.specs.declared.token.Sign.TheVariants as sign'
use Rattle.ob_tree.specs.Names.{Ref}
use Rattle.ob_tree.specs.Exprs.{Expr}
use Rattle.ob_tree.specs.Stmts.{Stmts, stmts}
use Rattle.ob_parser_spec.specs.Symbols.{a_name, a_word, a_sign, number}
use Rattle.ob_parser_spec.specs.Readers.{Reader, span_if, name_if, read_token, read_as, read_either, read_opened, read_spanned}
use Rattle.ob_parser_spec.specs.NameReaders.{on, second, named_parts, read_named, ref_parts, read_ref_with, read_ref}
use Rattle.ob_parser_spec.specs.Chains.{Counted, count_after, steps_of, maybe_of, read_step, read_chain, read_single}
use Rattle.ob_parser_spec.specs.Operators.{operator_if, signs_of_level}
use Rattle.ob_parser_spec.specs.ExprReaders.{unary_if, unary_signs, negated, read_row_6, read_row_5, read_row_4, read_row_3, read_row_2, read_row_1}
use Rattle.ob_parser_spec.specs.Primaries.{expr_first, uncounted, grouped, read_group, arguments_of, read_arguments, read_applied, new_of, read_new, read_method, this_of, read_this, method_of, applied, read_tail, name_with_tail, read_name, read_primary}
use Rattle.ob_parser_spec.specs.Expressions.{read_unary}
use Rattle.ob_parser_spec.specs.StmtReaders.{read_word, read_sign, read_question, stmt_first, block_of, read_block, if_of, chained_of, else_of, read_alternative, branches_of, Branches, read_branches, Loop, while_of, loop_of, read_loop, read_stmts, read_after_if, read_after_while}
use Rattle.ob_parser_spec.specs.AllReaders.{all_refs, all_unary, all_counted, all_exprs, all_branches, all_loops, all_stmts}
use Rattle.ob_parser_spec.proofs.Same.{Same, itself, as_same, then_same, both_same, either_same, maybe_same, spanned_same, opened_same, counted_same, many_from_same, many_same, parted_same}

-- ---- types

pub named_same : (p q : ℕ → Reader Ref) (room : ℕ) → (1 ≤ room → Same (p (room - 1)) (q (room - 1))) → Same (read_named p room) (read_named q room)
named_same p q room same =
    let argument = maybe_same (on sign'.OpenBracket) (counted_same sign'.OpenBracket room p q sign'.CloseBracket same) in
    as_same named_parts (spanned_same (both_same (itself (read_token name_if)) argument))

pub ref_with_same : (p q : ℕ → Reader Ref) (room : ℕ) → (1 ≤ room → Same (p (room - 1)) (q (room - 1))) → Same (read_ref_with p room) (read_ref_with q room)
ref_with_same p q room same = as_same ref_parts (both_same (named_same p q room same) (λ ts. refl))

pub refs_same : (d e room : ℕ) → room < d → room < e → Same (read_ref d room) (read_ref e room)
refs_same zero e room less below = absurd (omega (arith, less))
refs_same (suc d) zero room less below = absurd (omega (arith, below))
refs_same (suc d) (suc e) room less below = ref_with_same (read_ref d) (read_ref e) room (λ some. refs_same d e (room - 1) (omega (arith, some, less)) (omega (arith, some, below)))

ref_step : (d room : ℕ) → room < d → Same (read_ref d room) (read_ref_with (read_ref d) room)
ref_step zero room less = absurd (omega (arith, less))
ref_step (suc d) room less = ref_with_same (read_ref d) (read_ref (suc d)) room (λ some. refs_same d (suc d) (room - 1) (omega (arith, some, less)) (omega (arith, less)))

-- ---- operands with operators between them

step_same : (operator : Token → Option (Operator × Span)) (u v : ℕ → Reader Counted) (room n : ℕ) → ((r : ℕ) → r ≤ room → Same (u r) (v r)) →
    Same (read_step operator u room n) (read_step operator v room n)
step_same operator u v room n same = opened_same operator (n + 1) room u v (λ some. same (room - (n + 1)) (omega arith))

pub chain_same : (kinds : List ℕ) (operator : Token → Option (Operator × Span)) (u v : ℕ → Reader Counted) (room : ℕ) → ((r : ℕ) → r ≤ room → Same (u r) (v r)) →
    Same (read_chain kinds operator u room) (read_chain kinds operator v room)
chain_same kinds operator u v room same =
    as_same steps_of (then_same (same room (omega arith)) (λ c. many_from_same kinds (read_step operator u room) (read_step operator v room) count_after c.1 (λ n. step_same operator u v room n same)))

pub single_same : (kinds : List ℕ) (operator : Token → Option (Operator × Span)) (u v : ℕ → Reader Counted) (room : ℕ) → ((r : ℕ) → r ≤ room → Same (u r) (v r)) →
    Same (read_single kinds operator u room) (read_single kinds operator v room)
single_same kinds operator u v room same = as_same maybe_of (then_same (same room (omega arith)) (λ c. maybe_same kinds (step_same operator u v room c.1 same)))

module _ (u v : ℕ → Reader Counted) where
  pub row_6_same : (room : ℕ) → ((r : ℕ) → r ≤ room → Same (u r) (v r)) → Same (read_row_6 u room) (read_row_6 v room)
  row_6_same room same = chain_same (signs_of_level 6) (operator_if 6) u v room same

  pub row_5_same : (room : ℕ) → ((r : ℕ) → r ≤ room → Same (u r) (v r)) → Same (read_row_5 u room) (read_row_5 v room)
  row_5_same room same = chain_same (signs_of_level 5) (operator_if 5) (read_row_6 u) (read_row_6 v) room (λ r few. row_6_same r (λ n less. same n (omega (arith, less, few))))

  pub row_4_same : (room : ℕ) → ((r : ℕ) → r ≤ room → Same (u r) (v r)) → Same (read_row_4 u room) (read_row_4 v room)
  row_4_same room same = single_same (signs_of_level 4) (operator_if 4) (read_row_5 u) (read_row_5 v) room (λ r few. row_5_same r (λ n less. same n (omega (arith, less, few))))

  pub row_3_same : (room : ℕ) → ((r : ℕ) → r ≤ room → Same (u r) (v r)) → Same (read_row_3 u room) (read_row_3 v room)
  row_3_same room same = single_same (signs_of_level 3) (operator_if 3) (read_row_4 u) (read_row_4 v) room (λ r few. row_4_same r (λ n less. same n (omega (arith, less, few))))

  pub row_2_same : (room : ℕ) → ((r : ℕ) → r ≤ room → Same (u r) (v r)) → Same (read_row_2 u room) (read_row_2 v room)
  row_2_same room same = chain_same (signs_of_level 2) (operator_if 2) (read_row_3 u) (read_row_3 v) room (λ r few. row_3_same r (λ n less. same n (omega (arith, less, few))))

  pub row_1_same : (room : ℕ) → ((r : ℕ) → r ≤ room → Same (u r) (v r)) → Same (read_row_1 u room) (read_row_1 v room)
  row_1_same room same = chain_same (signs_of_level 1) (operator_if 1) (read_row_2 u) (read_row_2 v) room (λ r few. row_2_same r (λ n less. same n (omega (arith, less, few))))

-- ---- operands

module _ (u v : ℕ → Reader Counted) (room : ℕ) (same : 1 ≤ room → Same (u (room - 1)) (v (room - 1))) where
  group_same : Same (read_group u room) (read_group v room)
  group_same = as_same grouped (spanned_same (counted_same sign'.OpenParen room u v sign'.CloseParen same))

  applied_same : Same (read_applied u room) (read_applied v room)
  applied_same =
      counted_same sign'.OpenParen room (λ r. read_arguments (u r)) (λ r. read_arguments (v r)) sign'.CloseParen
      (λ some. as_same arguments_of (maybe_same expr_first (parted_same sign'.Comma (as_same uncounted (same some)))))

  method_same : Same (read_method u room) (read_method v room)
  method_same = both_same (itself (read_token (span_if (a_sign sign'.Dot)))) (both_same (itself (read_token name_if)) applied_same)

  this_same : Same (read_this u room) (read_this v room)
  this_same = as_same this_of (spanned_same (both_same (itself (read_token (span_if (a_word word'.This)))) (maybe_same (on sign'.Dot) method_same)))

  tail_same : Same (read_tail u room) (read_tail v room)
  tail_same = either_same (on sign'.Dot) (as_same method_of method_same) (as_same applied applied_same)

  name_same : Same (read_name u room) (read_name v room)
  name_same = as_same name_with_tail (spanned_same (both_same (itself (read_token name_if)) (maybe_same (number (a_sign sign'.Dot) ∷ number (a_sign sign'.OpenParen) ∷ []) tail_same)))

  module _ (p q : ℕ → Reader Ref) (refs : 1 ≤ room → Same (p (room - 1)) (q (room - 1))) where
    new_same : Same (read_new p u room) (read_new q v room)
    new_same = as_same new_of (spanned_same (both_same (itself (read_token (span_if (a_word word'.New)))) (both_same (named_same p q room refs) applied_same)))

    pub primary_same : Same (read_primary p u room) (read_primary q v room)
    primary_same =
        either_same (on sign'.OpenParen) group_same (either_same (number (a_word word'.New) ∷ []) new_same
        (either_same (number a_name ∷ []) name_same (either_same (number (a_word word'.This) ∷ []) this_same (λ ts. refl))))

-- an operand, by readers of what is inside it
abbrev read_unary_with : (ℕ → Reader Ref) → (ℕ → Reader Counted) → ℕ → Reader Counted
read_unary_with refs unary room = read_either unary_signs (read_as negated (read_spanned (read_opened unary_if 1 room unary))) (read_primary refs (read_row_1 unary) room)

unary_with_same : (p q : ℕ → Reader Ref) (u v : ℕ → Reader Counted) (room : ℕ) → (1 ≤ room → Same (p (room - 1)) (q (room - 1))) → ((r : ℕ) → r < room → Same (u r) (v r)) →
    Same (read_unary_with p u room) (read_unary_with q v room)
unary_with_same p q u v room refs same =
    either_same unary_signs (as_same negated (spanned_same (opened_same unary_if 1 room u v (λ some. same (room - 1) (omega (arith, some))))))
    (primary_same (read_row_1 u) (read_row_1 v) room (λ some. row_1_same u v (room - 1) (λ r few. same r (omega (arith, few, some)))) p q refs)

pub unary_same : (d e room : ℕ) → room < d → room < e → Same (read_unary d room) (read_unary e room)
unary_same zero e room less below = absurd (omega (arith, less))
unary_same (suc d) zero room less below = absurd (omega (arith, below))
unary_same (suc d) (suc e) room less below =
    unary_with_same (read_ref d) (read_ref e) (read_unary d) (read_unary e) room
    (λ some. refs_same d e (room - 1) (omega (arith, some, less)) (omega (arith, some, below)))
    (λ r few. unary_same d e r (omega (arith, few, less)) (omega (arith, few, below)))

one_unary : (d room : ℕ) → room < d → Same (read_unary d room) (read_unary_with (read_ref d) (read_unary d) room)
one_unary zero room less = absurd (omega (arith, less))
one_unary (suc d) room less =
    unary_with_same (read_ref d) (read_ref (suc d)) (read_unary d) (read_unary (suc d)) room
    (λ some. refs_same d (suc d) (room - 1) (omega (arith, some, less)) (omega (arith, less)))
    (λ r few. unary_same d (suc d) r (omega (arith, few, less)) (omega (arith, few, less)))

-- ---- what stands after `if` and after `while`

-- in this room these answer alike
abbrev SameAfter : ℕ → (p q : ℕ → Reader Branches) → (m n : ℕ → Reader Loop) → Type 0
SameAfter room p q m n = Same (p room) (q room) × Same (m room) (n room)

pub stmts_same : (refs : ℕ → Reader Ref) (exprs : ℕ → Reader Counted) (p q : ℕ → Reader Branches) (m n : ℕ → Reader Loop) (room : ℕ) → SameAfter room p q m n →
    Same (read_stmts refs exprs p m room) (read_stmts refs exprs q n room)
stmts_same refs exprs p q m n room same =
    let ifs = as_same if_of (spanned_same (both_same (itself (read_word word'.If)) same.0)) in
    let whiles = as_same while_of (spanned_same (both_same (itself (read_word word'.While)) same.1)) in
    as_same stmts (many_same stmt_first (either_same (number (a_word word'.If) ∷ []) ifs (either_same (number (a_word word'.While) ∷ []) whiles (λ ts. refl))))

module _ (body other : ℕ → Reader Stmts) (room : ℕ) (bodies : 1 ≤ room → Same (body (room - 1)) (other (room - 1))) where
  block_same : Same (read_block body room) (read_block other room)
  block_same = as_same block_of (both_same (opened_same (span_if (a_sign sign'.OpenBrace)) 1 room body other bodies) (λ ts. refl))

  pub loop_with_same : (expr : Reader Expr) → Same (read_loop expr body room) (read_loop expr other room)
  loop_with_same expr =
      as_same loop_of (both_same (itself (read_sign sign'.OpenParen)) (both_same (itself expr) (both_same (itself (read_sign sign'.CloseParen)) block_same)))

module _ (expr : Reader Expr) (body other : ℕ → Reader Stmts) (p q : ℕ → Reader Branches) (room : ℕ) (bodies : 1 ≤ room → Same (body (room - 1)) (other (room - 1)))
    (same : 1 ≤ room → Same (p (room - 1)) (q (room - 1))) where
  blocks : Same (read_block body room) (read_block other room)
  blocks = block_same body other room bodies

  alternative_same : Same (read_alternative body p room) (read_alternative other q room)
  alternative_same =
      let chained = as_same chained_of (spanned_same (opened_same (span_if (a_word word'.If)) 1 room p q same)) in
      as_same else_of (maybe_same (number (a_word word'.Else) ∷ [])
      (as_same second (both_same (itself (read_word word'.Else)) (either_same (on sign'.OpenBrace) blocks chained))))

  pub branches_with_same : Same (read_branches expr body p room) (read_branches expr other q room)
  branches_with_same =
      as_same branches_of (both_same (itself (read_sign sign'.OpenParen)) (both_same (itself (read_question expr))
      (both_same (itself (read_sign sign'.CloseParen)) (both_same blocks alternative_same))))

module _ (refs : ℕ → Reader Ref) (exprs : ℕ → Reader Counted) where
  abbrev SameDeep : ℕ → ℕ → ℕ → Type 0
  SameDeep room d e = SameAfter room (read_after_if refs exprs d) (read_after_if refs exprs e) (read_after_while refs exprs d) (read_after_while refs exprs e)

  -- statements with at most so many blocks inside one another
  abbrev within : ℕ → ℕ → Reader Stmts
  within depth = read_stmts refs exprs (read_after_if refs exprs depth) (read_after_while refs exprs depth)

  within_same : (d e room : ℕ) → (1 ≤ room → SameDeep (room - 1) d e) → SameDeep room (suc d) (suc e)
  within_same d e room same =
      let value = read_as uncounted (exprs room) in
      let bodies : 1 ≤ room → Same (within d (room - 1)) (within e (room - 1)) =
      λ some. stmts_same refs exprs (read_after_if refs exprs d) (read_after_if refs exprs e) (read_after_while refs exprs d) (read_after_while refs exprs e) (room - 1) (same some) in (
        branches_with_same value (within d) (within e) (read_after_if refs exprs d) (read_after_if refs exprs e) room bodies (λ some. (same some).0),
        loop_with_same (within d) (within e) room bodies value,
      )

  pub after_same : (d e room : ℕ) → room < d → room < e → SameDeep room d e
  after_same zero e room less below = absurd (omega (arith, less))
  after_same (suc d) zero room less below = absurd (omega (arith, below))
  after_same (suc d) (suc e) room less below = within_same d e room (λ some. after_same d e (room - 1) (omega (arith, some, less)) (omega (arith, some, below)))

  one_after : (d room : ℕ) → room < d → SameDeep room d (suc d)
  one_after d room less = after_same d (suc d) room less (omega (arith, less))

-- ---- the deepest ones

pub refs_step : (room : ℕ) → room < 256 → (ts : List Token) → all_refs room ts ≡ read_ref_with all_refs room ts
unfolding all_refs
refs_step room less ts = ref_step 256 room less ts

pub unary_step : (room : ℕ) → room < 256 → (ts : List Token) →
    all_unary room ts ≡ read_either unary_signs (read_as negated (read_spanned (read_opened unary_if 1 room all_unary))) (read_primary all_refs all_counted room) ts
unfolding all_refs all_unary
unary_step room less ts = one_unary 256 room less ts

pub branches_step : (room : ℕ) → room < 256 → (ts : List Token) → all_branches room ts ≡ read_branches (all_exprs room) all_stmts all_branches room ts
unfolding all_branches all_loops
branches_step room less ts = (one_after all_refs all_counted 256 room less).0 ts

pub loops_step : (room : ℕ) → room < 256 → (ts : List Token) → all_loops room ts ≡ read_loop (all_exprs room) all_stmts room ts
unfolding all_branches all_loops
loops_step room less ts = (one_after all_refs all_counted 256 room less).1 ts
