-- Staged statements and changes of state.
use Rattle.std.proofs.lemmas.List.Kept.{AllPairs-cons}
use Rattle.std.proofs.Common.{◌≡◌, ◌≢◌, ℕ, zero, suc, ◌<◌, Bool, true, false, nat_eq, List, [], ◌∷◌, ◌++◌, map, length, slice_index_or, All, AllPairs, append_assoc, append-nil, Option, Some, None, IsSomeAnd, refl, sym, ap, ◌∙◌, subst, true≢false, arith, if◌then◌else◌, ne_eqb}
use Rattle.std.proofs.lemmas.Bool.{or_parts, or_from}
use Rattle.std.specs.Prelude.{IsTrue}
use Rattle.ob_base.specs.declared.fault.Span.{Span}
use Rattle.ob_base.specs.declared.id.StateId.{StateId}
use Rattle.ob_table.specs.Statements.{GivenField, resolved_stage, resolved_change, Statements, and_statement}
use Rattle.ob_table.specs.Tables.{field_at}
use Rattle.ob_table.specs.declared.seen.Kind.{Kind}
use Rattle.ob_table_spec.specs.WellFormed.{StaticFrame, LocalKinds, local_kind, kind_of_expression, kind_of_resolved, serves_as, IsValue, IsGiven, AreGiven}
use Rattle.ob_silica.specs.Terms.{SilicaForm, bad_row_form, change_form, SilicaTerms, no_terms, one_term}
use Rattle.ob_silica.specs.declared.place.Given.{Given}
use Rattle.ob_silica_formed.specs.Holdings.{Holdings, after_terms}
use Rattle.ob_lower_spec.specs.Forms.{SlotVariable, locals_of, refused_at, given_from}
use Rattle.ob_lower_spec.specs.Points.{Temporary, in_use, references, StagedRow, no_row, staged_row, refused_row, span_of_terms, given_before, made_before, Point, with_row, passed, used_at, around}
use Rattle.ob_lower_spec.specs.ExpressionTerms.{Lowered, LowersExpression}
use Rattle.ob_lower_spec.specs.GivenTerms.{with_unit, LoweredGiven, LowersGiven, LowersFirstStage, LowersStage}
use Rattle.ob_lower_spec.specs.StatementTerms.{ended_by}
use Rattle.ob_lower_formed.proofs.Sets.{among, nat_same, apart_parts, apart_both, references_append, Within, within_on, within_right, within_first, within_second, slots_made}
use Rattle.ob_lower_formed.proofs.Ways.{after_then}
use Rattle.ob_lower_formed.proofs.Effects.{Kept, Quiet, After, kept_self, after_on, Leaves, runs_of, none_leaves, Plain, quiet_leaves}
use Rattle.ob_lower_formed.proofs.Operands.{above, some_so, none_some, Stands, stands_on, stands_made, serving_on, GivenOne, Fields, fields_on, fields_append, fields_served, fields_there, Fresh, fresh_none, fresh_append, fresh_apart, Gave, references_in_use}
use Rattle.ob_lower_formed.proofs.Expressions.{here, serving_of, narrowed, parts_leave, expression_made}
use Rattle.ob_lower_formed.proofs.Points.{unit_runs, finished, fields_of, Once, RowIs, RowOpen, At, closed_stands, passed_at, Blocked, Did}

-- Fields once.

-- as a statement says it of a row, and as it is computed
not_among : (xs : List ℕ) (y : ℕ) → ((k : ℕ) (d : ℕ) → k < length xs → slice_index_or xs k d ≢ y) → among y xs ≡ false
not_among [] y h = refl
not_among (x ∷ xs) y h = or_from (nat_eq y x) (among y xs)
    (ne_eqb y x (λ e. h 0 0 (omega arith) (sym e))) (not_among xs y (λ k d lt. h (suc k) d (omega arith)))

differ_from : (xs : List ℕ) (x : ℕ) → among x xs ≡ false → All (λ y. x ≢ y) xs
differ_from [] x e k d lt = absurd (omega arith)
differ_from (y ∷ xs) x e zero d lt = λ s. absurd (true≢false (sym (subst (λ i. nat_eq x i ≡ true) s (nat_same x)) ∙ (or_parts (nat_eq x y) (among x xs) e).0))
differ_from (y ∷ xs) x e (suc k) d lt = differ_from xs x ((or_parts (nat_eq x y) (among x xs) e).1) k d (omega arith)

once_pairs : (xs : List ℕ) → Once xs → AllPairs (λ (a b : ℕ). a ≢ b) xs
once_pairs [] o = λ i j d lt within. absurd (omega arith)
once_pairs (x ∷ xs) o = AllPairs-cons (λ (a b : ℕ). a ≢ b) x xs (differ_from xs x o.0) (once_pairs xs o.1)

eq_sym : (x y : ℕ) → nat_eq y x ≡ false → nat_eq x y ≡ false
eq_sym x y e = ne_eqb x y (λ s. true≢false (sym (subst (λ i. nat_eq i x ≡ true) s (nat_same x)) ∙ e))

once_push : (xs : List ℕ) (y : ℕ) → Once xs → among y xs ≡ false → Once (xs ++ y ∷ [])
once_push [] y o e = (refl, tt)
once_push (x ∷ xs) y o e =
    let parts = or_parts (nat_eq y x) (among y xs) e in
    (apart_both x xs (y ∷ []) o.0 (or_from (nat_eq x y) false (eq_sym x y parts.0) refl), once_push xs y o.1 parts.1)

fields_append_names : (a b : List Given) → fields_of (a ++ b) ≡ fields_of a ++ fields_of b
fields_append_names [] b = refl
fields_append_names (g ∷ a) b = ap (λ l. g.field.0 ∷ l) (fields_append_names a b)

-- the fields of a row are among those that a statement may not give
row_apart : (r : StagedRow) (row : List ℕ) (y : ℕ) → RowIs r row → among y row ≡ false → among y (fields_of (given_before r)) ≡ false
row_apart no_row row y is e = refl
row_apart (staged_row first given made) row y is e = ap (among y) is ∙ e
row_apart refused_row row y is e = refl

once_given : (f : StaticFrame) (ws : LocalKinds) (before row : List ℕ) (gs : List GivenField) → Once before → ((y : ℕ) → among y row ≡ false → among y before ≡ false)
    → AreGiven f ws row gs → Once (before ++ map (λ (g : GivenField). g.field.0) gs)
once_given f ws before row [] o sub given = subst Once (sym (append-nil before)) o
once_given f ws before row (g ∷ gs) o sub given =
    let y : ℕ = g.field.0 in
    subst Once (append_assoc before (y ∷ []) (map (λ (g : GivenField). g.field.0) gs))
    (once_given f ws (before ++ y ∷ []) (row ++ y ∷ []) gs (once_push before y o (sub y (not_among row y given.0.0)))
    (λ z e. let parts = apart_parts z row (y ∷ []) e in apart_both z before (y ∷ []) (sub z parts.0) parts.1) given.1)

-- Given fields.

-- what given fields leave
pub record GaveGiven (f : StaticFrame) (h : Holdings) (used : List ℕ) (gs : List GivenField) (l : LoweredGiven) : Type 0 where
  pub leaves : Leaves f h l.terms used (references l.made)
  pub fresh : Fresh l.made used
  pub fields : Fields f (in_use l.made used) (after_terms f l.terms h) l.given
  pub names : fields_of l.given ≡ map (λ (g : GivenField). g.field.0) gs

module _ (f : StaticFrame) (vs : List SlotVariable) (ws : LocalKinds) (agree : (n : ℕ) → local_kind ws n ≡ local_kind (locals_of vs) n) (at : Span) where
  -- the value that a field is given
  pub record ValueGave (h : Holdings) (used : List ℕ) (g : GivenField) (x : Lowered) : Type 0 where
    pub kind : Kind
    pub gave : Gave f h used x kind
    pub one : GivenOne f (in_use x.made used) (after_terms f x.terms h) (given_from g x.operand)

  pub field_gave : (g : GivenField) (x : Lowered) (used : List ℕ) (h : Holdings) → LowersExpression (here f vs at) used g.value x
      → IsSomeAnd (field_at f.own g.field) (λ field. IsValue f ws (kind_of_resolved field.of) g.value) → Stands f vs used h → ValueGave h used g x
  field_gave g x used h lx made s =
      let field = some_so (field_at f.own g.field) (λ field. IsValue f ws (kind_of_resolved field.of) g.value) made in
      let sx = some_so (kind_of_expression f ws g.value) (λ has. IsTrue (serves_as f.table (kind_of_resolved field.0.of) has)) field.2.1 in
      let gx : Gave f h used x sx.0 = expression_made f vs ws agree at g.value x used h sx.0 lx field.2.0 s sx.1 in
      record { kind = sx.0; gave = gx; one = record { field = field.0; there = field.1; served = serving_of x.operand.place sx.0 gx.holds sx.2 } }

  one_on : {used all : List ℕ} {h g : Holdings} (x : Given) → GivenOne f used h x → Kept used h g → Within used all → GivenOne f all g x
  one_on x o k w = record { field = o.field; there = o.there; served = serving_on x.from.place o.served k w }

  pub given_made : (gs : List GivenField) (l : LoweredGiven) (used : List ℕ) (h : Holdings) (row : List ℕ) → LowersGiven (here f vs at) used gs l → AreGiven f ws row gs
      → Stands f vs used h → GaveGiven f h used gs l
  given_made [] l used h row is made s =
      subst (GaveGiven f h used []) (sym is) (record { leaves = none_leaves f h used s.quiet; fresh = fresh_none used; fields = record { by = tt }; names = refl })
  given_made (g ∷ gs) l used h row (x, lx, y, ly, is) made s =
      let gx = field_gave g x used h lx made.0.1 s in
      let gy = given_made gs y (in_use x.made used) (after_terms f x.terms h) (row ++ g.field.0 ∷ []) ly made.1 (stands_made x.made s gx.gave.leaves) in
      let g2 = after_terms f y.terms (after_terms f x.terms h) in
      subst (GaveGiven f h used (g ∷ gs)) (sym is) (record {
        leaves = parts_leave used x.made y.made gx.gave.leaves gy.leaves;
        fresh = fresh_append x.made y.made used gx.gave.fresh gy.fresh;
        fields = subst (λ i. Fields f (in_use (x.made ++ y.made) used) i (given_from g x.operand ∷ y.given)) (sym (after_then f x.terms y.terms h)) (record {
          by = (
            one_on (given_from g x.operand) gx.one gy.leaves.after.kept (within_first x.made y.made used),
            (fields_on gy.fields (kept_self (in_use y.made (in_use x.made used)) g2) (within_second x.made y.made used)).by,
          );
        });
        names = ap (λ l. g.field.0 ∷ l) gy.names;
      })

module _ (f : StaticFrame) (outer : List ℕ) (p : Point) (ws : LocalKinds) (row : List ℕ) (h : Holdings) (b : Blocked outer p) (rest : Statements) (ts : SilicaTerms) (q : Point) (state : StateId) (span : Span) where
  blocked_row : (r : StagedRow) → Blocked outer (with_row p r)
  blocked_row r = record { wider = b.wider; split = b.split; apart = b.apart }

  module _ (given : GivenField) (a : At f p ws row (and_statement (resolved_stage state given span) rest) h) (made : IsGiven f ws row given) where
    abbrev Done : Type 0
    Done = Did f outer p q ws row (resolved_stage state given span) rest ts h

    done_by : (t : SilicaTerms) (r : Point) → ts ≡ t → q ≡ r → Did f outer p r ws row (resolved_stage state given span) rest t h → Done
    done_by t r et eq d =
        subst (λ q. Did f outer p q ws row (resolved_stage state given span) rest ts h) (sym eq)
        (subst (λ ts. Did f outer p r ws row (resolved_stage state given span) rest ts h) (sym et) d)

    first_did : (o : Option Span) → refused_at state span rest ≡ o → p.row ≡ no_row → LowersFirstStage f p o given span ts q → Done
    first_did (Some at) eo er (et, eq) =
        let s : Stands f p.variables p.used h = closed_stands a (ap made_before er) in
        let plain : Plain f h bad_row_form = record {
          well_formed = record { numbers = tt; kinds = tt; results = tt; params = tt; references = tt; bodies = tt; returns = tt; turns = tt };
          within = tt;
          follows = tt;
          after = refl;
          goes_on = refl;
        } in
        let l = quiet_leaves f at p.used [] plain refl s.quiet in
        done_by (one_term bad_row_form at) (with_row p refused_row) et eq (record {
          each = l.each;
          follows = l.follows;
          ends = refl;
          kept = λ e. kept_self p.used h;
          next = λ e. record { stands = s; low = a.low; quiet = s.quiet; fresh = fresh_none p.used; agree = a.agree; given = record { by = tt }; row_is = tt; once = tt; goes_on = tt };
          blocked = blocked_row refused_row;
        })
    first_did None eo er (x, lx, et, eq) =
        let s : Stands f p.variables p.used h = closed_stands a (ap made_before er) in
        let gx = field_gave f p.variables ws a.agree span given x p.used h lx made.1 s in
        let none : row ≡ [] = subst (λ r. RowIs r row) er a.row_is in
        let unit = unit_runs f span (runs_of f gx.gave.leaves) in
        done_by (with_unit span x.terms) (with_row p (staged_row span (given_from given x.operand ∷ []) x.made)) et eq (record {
          each = unit.each;
          follows = unit.follows;
          ends = gx.gave.leaves.goes_on;
          kept = λ e. gx.gave.leaves.after.kept;
          next = λ e. record {
            stands = stands_made x.made s gx.gave.leaves;
            low = a.low;
            quiet = gx.gave.leaves.after.quiet;
            fresh = gx.gave.fresh;
            agree = a.agree;
            given = record { by = (gx.one, tt) };
            row_is = sym (ap (λ r. r ++ given.field.0 ∷ []) none);
            once = (refl, tt);
            goes_on = (state, span, eo);
          };
          blocked = blocked_row (staged_row span (given_from given x.operand ∷ []) x.made);
        })

    still_open : (state' : StateId) (at : Span) → (c : Bool) → (if c then refused_at state span rest else Some at) ≡ None → refused_at state span rest ≡ None
    still_open state' at true e = e
    still_open state' at false e = absurd (none_some (sym e))

    more_did : (first : Span) (givens : List Given) (before : List Temporary) → p.row ≡ staged_row first givens before
        → (x : Lowered) → LowersExpression (around f p first) (in_use before p.used) given.value x → ts ≡ with_unit first x.terms
        → q ≡ with_row p (staged_row first (givens ++ given_from given x.operand ∷ []) (before ++ x.made)) → Done
    more_did first givens before er x lx et eq =
        let used : List ℕ = in_use before p.used in
        let s : Stands f p.variables used h = subst (λ r. Stands f p.variables (in_use (made_before r) p.used) h) er a.stands in
        let quiet : Quiet p.used (references before) h = subst (λ r. Quiet p.used (references (made_before r)) h) er a.quiet in
        let fresh : Fresh before p.used = subst (λ r. Fresh (made_before r) p.used) er a.fresh in
        let fields : Fields f used h givens = subst (λ r. Fields f (in_use (made_before r) p.used) h (given_before r)) er a.given in
        let names : fields_of givens ≡ row = subst (λ r. RowIs r row) er a.row_is in
        let once : Once (fields_of givens) = subst (λ r. Once (fields_of (given_before r))) er a.once in
        let open' : RowOpen (staged_row first givens before) (and_statement (resolved_stage state given span) rest) = subst (λ r. RowOpen r (and_statement (resolved_stage state given span) rest)) er a.goes_on in
        let gx = field_gave f p.variables ws a.agree first given x used h lx made.1 s in
        let g = after_terms f x.terms h in
        let unit = unit_runs f first (runs_of f gx.gave.leaves) in
        let r : StagedRow = staged_row first (givens ++ given_from given x.operand ∷ []) (before ++ x.made) in
        let after : After p.used (references before ++ references x.made) h g = after_on (record { kept = kept_self p.used h; quiet = quiet }) (within_right (slots_made before) p.used) gx.gave.leaves.after in
        let apart : among given.field.0 (fields_of givens) ≡ false = ap (among given.field.0) names ∙ not_among row given.field.0 made.0 in
        done_by (with_unit first x.terms) (with_row p r) et eq (record {
          each = unit.each;
          follows = unit.follows;
          ends = gx.gave.leaves.goes_on;
          kept = λ e. after.kept;
          next = λ e. record {
            stands = stands_on s gx.gave.leaves.after (within_first before x.made p.used) (within_on (references_in_use x.made used) (within_second before x.made p.used));
            low = a.low;
            quiet = subst (λ l. Quiet p.used l g) (sym (references_append before x.made)) after.quiet;
            fresh = fresh_append before x.made p.used fresh gx.gave.fresh;
            agree = a.agree;
            given = fields_append (fields_on fields gx.gave.leaves.after.kept (within_first before x.made p.used))
                (record { by = (one_on f p.variables ws a.agree first (given_from given x.operand) gx.one (kept_self (in_use x.made used) g) (within_second before x.made p.used), tt) });
            row_is = fields_append_names givens (given_from given x.operand ∷ []) ∙ ap (λ l. l ++ given.field.0 ∷ []) names;
            once = subst Once (sym (fields_append_names givens (given_from given x.operand ∷ []))) (once_push (fields_of givens) given.field.0 once apart);
            goes_on = (state, span, still_open open'.0 open'.1 (nat_eq open'.0.0 state.0) open'.2);
          };
          blocked = blocked_row r;
        })

    refused_did : p.row ≡ refused_row → ts ≡ no_terms → q ≡ p → Done
    refused_did er et eq = done_by no_terms p et eq (record {
      each = tt;
      follows = tt;
      ends = refl;
      kept = λ e. kept_self p.used h;
      next = λ e. record {
        stands = a.stands;
        low = a.low;
        quiet = a.quiet;
        fresh = a.fresh;
        agree = a.agree;
        given = a.given;
        row_is = subst (λ r. RowIs r (row ++ given.field.0 ∷ [])) (sym er) tt;
        once = a.once;
        goes_on = subst (λ r. RowOpen r rest) (sym er) tt;
      };
      blocked = b;
    })

    by_row : (r : StagedRow) → p.row ≡ r → LowersStage f p r (refused_at state span rest) given span ts q → Done
    by_row no_row er low = first_did (refused_at state span rest) refl er low
    by_row (staged_row first givens before) er (x, lx, et, eq) = more_did first givens before er x lx et eq
    by_row refused_row er (et, eq) = refused_did er et eq

    -- a staged statement
    pub stage_did : LowersStage f p p.row (refused_at state span rest) given span ts q → Done
    stage_did low = by_row p.row refl low

  -- a change of state
  pub change_did : (given : List GivenField) (x : LoweredGiven) → At f p ws row (and_statement (resolved_change state given span) rest) h
      → LowersGiven (around f p (span_of_terms p.row span)) (used_at p) given x
      → ts ≡ with_unit (span_of_terms p.row span) (ended_by (span_of_terms p.row span) x.terms (change_form state (given_before p.row ++ x.given)) (made_before p.row ++ x.made))
      → q ≡ passed p → state.0 < length f.own.states → AreGiven f ws row given → Did f outer p q ws row (resolved_change state given span) rest ts h
  change_did given x a lx et eq there made =
      let at : Span = span_of_terms p.row span in
      let before : List Temporary = made_before p.row in
      let used : List ℕ = in_use before p.used in
      let gg = given_made f p.variables ws a.agree at given x used h row lx made a.stands in
      let g = after_terms f x.terms h in
      let form : SilicaForm = change_form state (given_before p.row ++ x.given) in
      let all : Fields f (in_use x.made used) g (given_before p.row ++ x.given) = fields_append (fields_on a.given gg.leaves.after.kept (within_right (slots_made x.made) used)) gg.fields in
      let once : Once (fields_of (given_before p.row ++ x.given)) = subst Once (sym (fields_append_names (given_before p.row) x.given ∙ ap (λ l. fields_of (given_before p.row) ++ l) gg.names))
      (once_given f ws (fields_of (given_before p.row)) row given a.once (λ y e. row_apart p.row row y a.row_is e) made) in
      let plain : Plain f g form = record {
        well_formed = record { numbers = (there, fields_there all); kinds = (fields_served all, once_pairs (fields_of (given_before p.row ++ x.given)) once); results = tt; params = tt; references = tt; bodies = tt; returns = tt; turns = tt };
        within = tt;
        follows = tt;
        after = refl;
        goes_on = refl;
      } in
      let first : Leaves f h x.terms p.used (references (before ++ x.made)) = subst (λ l. Leaves f h x.terms p.used l) (sym (references_append before x.made))
      (narrowed a.quiet (within_right (slots_made before) p.used) gg.leaves) in
      let own : (k : ℕ) → among k p.used ≡ false → f.params < k = λ k e. above f.params p.used a.low.fixed k e in
      let whole : Leaves f h (ended_by at x.terms form (before ++ x.made)) p.used [] =
      finished f p.used (before ++ x.made) at own (fresh_apart (fresh_append before x.made p.used a.fresh gg.fresh)) first (quiet_leaves f at p.used (references (before ++ x.made)) plain refl first.after.quiet) in
      let unit = unit_runs f at (runs_of f whole) in
      let i = after_terms f (ended_by at x.terms form (before ++ x.made)) h in
      let stands : Stands f p.variables p.used i = record {
        sees = λ n k e. let v = a.stands.sees n k e in record { kind = v.kind; is = v.is; inside = a.low.inside n k e; holds = whole.after.kept.by k (a.low.inside n k e) ∙ v.holds; own = v.own; real = v.real };
        fixed = a.low.fixed;
        quiet = whole.after.quiet;
      } in
      subst (λ q. Did f outer p q ws row (resolved_change state given span) rest ts h) (sym eq)
      (subst (λ ts. Did f outer p (passed p) ws row (resolved_change state given span) rest ts h) (sym et) (record {
        each = unit.each;
        follows = unit.follows;
        ends = whole.goes_on;
        kept = λ e. whole.after.kept;
        next = λ e. passed_at p rest stands a.low a.agree;
        blocked = record { wider = b.wider; split = b.split; apart = b.apart };
      }))
