-- The loop of a `while`: what a turn leaves, and what stands at the head.
use Rattle.std.proofs.Common.{◌≡◌, ℕ, List, [], Some, refl, sym, ap, ◌∙◌, subst}
use Rattle.std.specs.Prelude.{IsTrue}
use Rattle.ob_base.specs.declared.fault.Span.{Span}
use Rattle.ob_table.specs.Expressions.{Expression}
use Rattle.ob_table.specs.Statements.{resolved_while, Block, Statements}
use Rattle.ob_table.specs.declared.seen.Kind.TheVariants.{Bool as BoolKind}
use Rattle.ob_table_spec.specs.WellFormed.{StaticFrame, LocalKinds, local_kind, kind_of_expression, serves_as, IsValue, block_ends_there}
use Rattle.ob_silica.specs.Terms.{SilicaForm, loop_form, SilicaTerms, one_term}
use Rattle.ob_silica_formed.specs.Holdings.{Holdings, kind_of_place, at_head, after_terms}
use Rattle.ob_lower_spec.specs.Forms.{locals_of, block_end}
use Rattle.ob_lower_spec.specs.Points.{Point, passed, around}
use Rattle.ob_lower_spec.specs.ExpressionTerms.{Lowered, LowersExpression}
use Rattle.ob_lower_spec.specs.StatementTerms.{turn_of}
use Rattle.ob_lower_formed.proofs.Sets.{within_self}
use Rattle.ob_lower_formed.proofs.Ways.{IsWellFormedForm}
use Rattle.ob_lower_formed.proofs.Effects.{After, Runs, Leaves, runs_of, leaves_of, head_after, loop_leaves}
use Rattle.ob_lower_formed.proofs.Operands.{some_so, and_so, Stands, stands_on, place_there, Gave}
use Rattle.ob_lower_formed.proofs.Expressions.{serves_bool, nothing_within, expression_made}
use Rattle.ob_lower_formed.proofs.Points.{after_same, unit_runs, Low, Blocked, Did, did_passed}
use Rattle.ob_lower_formed.proofs.Ending.{IsWellFormedBlock, Condition, condition_gave}

module _ (f : StaticFrame) (outer : List ℕ) (p : Point) (ws : LocalKinds) (row : List ℕ) (h : Holdings) (s : Stands f p.variables p.used h) (low : Low f p.variables p.used)
    (agree : (n : ℕ) → local_kind ws n ≡ local_kind (locals_of p.variables) n) (b : Blocked outer p) (span : Span) (rest : Statements) (ts : SilicaTerms) (q : Point) where
  -- what a turn begins with, where these slots stand so
  record Begun (c : Lowered) (g : Holdings) : Type 0 where
    leaves : Leaves f g (turn_of span c) p.used []
    holds : kind_of_place f (after_terms f (turn_of span c) g) c.operand.place ≡ Some BoolKind
    stands : Stands f p.variables p.used (after_terms f (turn_of span c) g)

  begun : (condition : Expression) (c : Lowered) → LowersExpression (around f p span) p.used condition c → IsValue f ws BoolKind condition
      → (g : Holdings) → Stands f p.variables p.used g → Begun c g
  begun condition c lc made g st =
      let sx = some_so (kind_of_expression f ws condition) (λ has. IsTrue (serves_as f.table BoolKind has)) made.1 in
      let gx : Gave f g p.used c BoolKind = expression_made f p.variables ws agree span condition c p.used g BoolKind lc made.0 st (sx.1 ∙ ap Some (sym (serves_bool f.table sx.0 sx.2))) in
      let first : Condition f outer p ws row g st low agree b span rest ts q c = condition_gave f outer p ws row g st low agree b span rest ts q c gx in
      record {
        leaves = leaves_of f (unit_runs f span (runs_of f first.leaves)) first.leaves.goes_on;
        holds = first.holds;
        stands = stands_on st first.leaves.after (within_self p.used) (nothing_within p.used);
      }

  pub while_did : (condition : Expression) (body : Block) (c : Lowered) (x : SilicaTerms) → LowersExpression (around f p span) p.used condition c
      → ts ≡ one_term (loop_form (turn_of span c) c.operand x (block_end body)) (block_end body) → q ≡ passed p → IsValue f ws BoolKind condition
      → ((g : Holdings) → Stands f p.variables p.used g → IsWellFormedBlock f g p.used x (block_ends_there body)) → Did f outer p q ws row (resolved_while condition body span) rest ts h
  while_did condition body c x lc et eq made blocks =
      let first : SilicaTerms = turn_of span c in
      let once : Begun c h = begun condition c lc made h s in
      let turn : Runs f (after_terms f first h) x p.used [] = (blocks (after_terms f first h) once.stands).runs in
      let head : After p.used [] h (at_head f first x h) = head_after f first x p.used s.quiet (λ e. after_same once.leaves.after (turn.after e)) in
      let g : Holdings = at_head f first x h in
      let st : Stands f p.variables p.used g = stands_on s head (within_self p.used) (nothing_within p.used) in
      let again : Begun c g = begun condition c lc made g st in
      let form : SilicaForm = loop_form first c.operand x (block_end body) in
      let form_well_formed : IsWellFormedForm f h form = record {
        numbers = place_there f (after_terms f first g) c.operand.place BoolKind again.holds;
        kinds = and_so (kind_of_place f (after_terms f first g) c.operand.place) (λ k. IsTrue (serves_as f.table BoolKind k)) BoolKind again.holds refl;
        results = tt;
        params = tt;
        references = tt;
        bodies = tt;
        returns = tt;
        turns = (tt, again.leaves.goes_on);
      } in
      let whole : Leaves f h (one_term form (block_end body)) p.used [] =
      loop_leaves f first c.operand x (block_end body) (block_end body) p.used form_well_formed head again.leaves (blocks (after_terms f first g) again.stands).runs in
      subst (λ ts. Did f outer p q ws row (resolved_while condition body span) rest ts h) (sym et)
      (did_passed s low agree b refl refl eq (runs_of f whole) refl)
