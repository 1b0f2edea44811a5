-- Which expressions are no names of references: those whose value an operator, a test or a text needs.
use Rattle.std.proofs.Common.{◌≡◌, ℕ, suc, false, List, [], ◌∷◌, length, Option, Some, None, refl, sym, ap, ◌∙◌, subst, true≢false}
use Rattle.std.specs.Prelude.{IsSomeAnd, IsTrue, ⊤}
use Rattle.ob_table.specs.declared.operator.UnaryOperator.{UnaryOperator}
use Rattle.ob_table.specs.declared.operator.UnaryOperator.TheVariants.{Not, Negate}
use Rattle.ob_table.specs.declared.operator.BinaryOperator.{BinaryOperator}
use Rattle.ob_table.specs.declared.operator.BinaryOperator.TheVariants.{Equal, NotEqual}
use Rattle.ob_table.specs.Expressions.{Expression, resolved_number, resolved_text, resolved_bool, resolved_seen, resolved_unary, resolved_binary, resolved_logical, resolved_call, resolved_new, Arguments, no_arguments, and_argument}
use Rattle.ob_table.specs.Tables.{ClassTable}
use Rattle.ob_table.specs.declared.contract.Param.{Param}
use Rattle.ob_table.specs.declared.seen.Kind.{Kind}
use Rattle.ob_table.specs.declared.seen.Kind.TheVariants.{Int, Bool as BoolKind, Text, Reference}
use Rattle.ob_table.specs.declared.seen.Seen.{Seen}
use Rattle.ob_table.specs.declared.seen.Seen.TheVariants.{This, Local, Field}
use Rattle.ob_table_spec.specs.WellFormed.{StaticFrame, LocalKinds, local_kind, kind_of_seen, kind_of_expression, kind_of_unary, ServesAs, serves_as, is_reference, HasOperands, PassTo}
use Rattle.ob_lower_spec.specs.Forms.{AroundExpression}
use Rattle.ob_lower_spec.specs.Points.{in_use}
use Rattle.ob_lower_spec.specs.ExpressionTerms.{LoweredArguments, LowersArguments}
use Rattle.ob_lower_correct.proofs.Standing.{some_same}

-- the name of no reference
abbrev pub Plain : StaticFrame → LocalKinds → Expression → Type 0
Plain f ls (resolved_seen seen span) = (kind : Kind) → kind_of_seen f ls seen.of ≡ Some kind → is_reference kind ≡ false
Plain f ls e = ⊤

pub serves_plain : (table : ClassTable) (wanted has : Kind) → is_reference wanted ≡ false → IsTrue (serves_as table wanted has) → is_reference has ≡ false
serves_plain table (Reference i) has r t = absurd (true≢false r)
serves_plain table Int Int r t = refl
serves_plain table BoolKind BoolKind r t = refl
serves_plain table Text Text r t = refl
serves_plain table Int BoolKind r t = refl
serves_plain table Int Text r t = refl
serves_plain table BoolKind Int r t = refl
serves_plain table BoolKind Text r t = refl
serves_plain table Text Int r t = refl
serves_plain table Text BoolKind r t = refl
serves_plain table Int (Reference c) r t = absurd (true≢false (sym t))
serves_plain table BoolKind (Reference c) r t = absurd (true≢false (sym t))
serves_plain table Text (Reference c) r t = absurd (true≢false (sym t))

module _ (f : StaticFrame) (vs ws : LocalKinds) (agree : (n : ℕ) → local_kind vs n ≡ local_kind ws n) where
  pub seen_agree : (seen : Seen) → kind_of_seen f vs seen ≡ kind_of_seen f ws seen
  seen_agree This = refl
  seen_agree (Local n) = agree n
  seen_agree (Field id) = refl

  pub plain_by : (e : Expression) → ((kind : Kind) → kind_of_expression f ws e ≡ Some kind → is_reference kind ≡ false) → Plain f vs e
  plain_by (resolved_seen seen span) each = λ kind e. each kind (sym (seen_agree seen.of) ∙ e)
  plain_by (resolved_number value span) each = tt
  plain_by (resolved_text value span) each = tt
  plain_by (resolved_bool value span) each = tt
  plain_by (resolved_unary operator sign operand span) each = tt
  plain_by (resolved_binary operator sign left right span) each = tt
  plain_by (resolved_logical operator sign left right span) each = tt
  plain_by (resolved_call receiver contract tx name args span) each = tt
  plain_by (resolved_new contract args span) each = tt

  pub plain_of : (e : Expression) (wanted : Kind) → is_reference wanted ≡ false → ServesAs f ws wanted e → Plain f vs e
  plain_of e wanted r s = plain_by e (λ kind k. serves_plain f.table wanted kind r (subst (λ o. IsSomeAnd o (λ has. IsTrue (serves_as f.table wanted has))) k s))

  -- both sides of `==`
  same_plain : (left right : Expression) → IsSomeAnd (kind_of_expression f ws left) (λ kind. (is_reference kind ≡ false) × ServesAs f ws kind right) → Plain f vs left × Plain f vs right
  same_plain left right s = go (kind_of_expression f ws left) refl s
    where
      go : (o : Option Kind) → kind_of_expression f ws left ≡ o → IsSomeAnd o (λ kind. (is_reference kind ≡ false) × ServesAs f ws kind right) → Plain f vs left × Plain f vs right
      go None e s = absurd s
      go (Some kind) e s = (plain_by left (λ k h. ap is_reference (some_same k kind (sym h ∙ e)) ∙ s.0), plain_of right kind s.0 s.1)

  both_plain : (left right : Expression) (wanted : Kind) → is_reference wanted ≡ false → ServesAs f ws wanted left × ServesAs f ws wanted right → Plain f vs left × Plain f vs right
  both_plain left right wanted r s = (plain_of left wanted r s.0, plain_of right wanted r s.1)

  -- both sides of `&&` or `||`
  pub logical_plain : (left right : Expression) → ServesAs f ws BoolKind left → ServesAs f ws BoolKind right → Plain f vs left × Plain f vs right
  logical_plain left right l r = both_plain left right BoolKind refl (l, r)

  pub operands_plain : (o : BinaryOperator) (left right : Expression) → HasOperands f ws o left right → Plain f vs left × Plain f vs right
  operands_plain Equal left right s = same_plain left right s
  operands_plain NotEqual left right s = same_plain left right s
  operands_plain o left right s = both_plain left right Int refl s

  unary_kind : (o : UnaryOperator) → is_reference (kind_of_unary o) ≡ false
  unary_kind Not = refl
  unary_kind Negate = refl

  pub unary_plain : (o : UnaryOperator) (e : Expression) → ServesAs f ws (kind_of_unary o) e → Plain f vs e
  unary_plain o e s = plain_of e (kind_of_unary o) (unary_kind o) s

-- there are as many operands as parameters
pub as_many : (f : StaticFrame) (ws : LocalKinds) (a : AroundExpression) (used : List ℕ) (ps : List Param) (es : Arguments) (l : LoweredArguments) → LowersArguments a used es l → PassTo f ws ps es → length ps ≡ length l.operands
as_many f ws a used [] no_arguments l low p = sym (ap (λ (x : LoweredArguments). length x.operands) low)
as_many f ws a used (q ∷ ps) (and_argument e es) l low p =
    ap suc (as_many f ws a (in_use low.0.made used) ps es low.2 low.3 p.1) ∙ sym (ap (λ (x : LoweredArguments). length x.operands) low.4)
as_many f ws a used [] (and_argument e es) l low p = absurd p
as_many f ws a used (q ∷ ps) no_arguments l low p = absurd p
