-- What staged statements and changes of state come to.
use Rattle.std.proofs.Common.{◌≡◌, ℕ, ◌+◌, ◌≤◌, List, [], ◌∷◌, ◌++◌, Option, Some, None, refl, sym, ap, ◌∙◌, subst, arith, append_assoc, append-nil}
use Rattle.ob_base.specs.Limits.{most_slots}
use Rattle.ob_base.specs.declared.fault.Span.{Span}
use Rattle.ob_base.specs.declared.id.StateId.{StateId}
use Rattle.ob_table.specs.Statements.{GivenField, Statements, resolved_stage, resolved_change}
use Rattle.ob_table_spec.specs.WellFormed.{StaticFrame}
use Rattle.ob_silica.specs.Terms.{change_form, bad_row_form, SilicaTerms, no_terms, one_term, then_terms}
use Rattle.ob_silica.specs.Slots.{slots_of_given, slots_of_operand}
use Rattle.ob_silica.specs.declared.place.Given.{Given}
use Rattle.ob_silica.specs.declared.place.Operand.{Operand}
use Rattle.ob_lower_spec.specs.Forms.{locals_of, refused_at, AroundExpression, given_from}
use Rattle.ob_lower_spec.specs.Points.{Temporary, in_use, references, StagedRow, no_row, staged_row, refused_row, passed, with_row}
use Rattle.ob_lower_spec.specs.ExpressionTerms.{Lowered, LowersExpression}
use Rattle.ob_lower_spec.specs.GivenTerms.{with_unit, LoweredGiven, LowersGiven, LowersStage}
use Rattle.ob_lower_spec.specs.StatementTerms.{ended_by, LowersStatement}
use Rattle.ob_lower_spec.specs.SlotNeeds.{temporaries, needs, needs_of_given, Staged, none_staged, row_staged, row_refused, kept_staged, staged_with, needs_of_staged}
use Rattle.ob_lower_functions.specs.Progress.{◌>>=◌, Slots, slots_from, Progress, with_term, ended}
use Rattle.ob_lower_functions.specs.ExpressionCode.{value_code}
use Rattle.ob_lower_functions.specs.StatementCode.{Waiting, row_waits, refused_waits, BlockPosition, waits, around_at, begun, row_code, stage_code, given_code, change_after, change_code, past_statement}
use Rattle.ob_lower_functions.proofs.Places.{above_append, AllBelow}
use Rattle.ob_lower_functions.proofs.Terms.{max_most, then_none, slots_one, slots_given, EachBelow, each_append, references_append}
use Rattle.ob_lower_functions.proofs.Outcomes.{Comes, comes_bind, comes_then, comes_same, comes_also}
use Rattle.ob_lower_functions.proofs.Growing.{Grown, Ready, grown_none, grown_ready, grown_on}
use Rattle.ob_lower_functions.proofs.Valuing.{Valued}
use Rattle.ob_lower_functions.proofs.Expressions.{value_comes}
use Rattle.ob_lower_functions.proofs.Settling.{Held, Waits, waits_none, waits_row, waits_refused, Stands, point, Goes, Done, Straight, comes_straight, held_none, begun_is, ended_is, unit_few, ended_few}

sum : (a b c : ℕ) → (a + b) + c ≡ a + (b + c)
sum a b c = omega arith

-- Given fields.

-- what given fields come to, after these
pub record Filled (a : AroundExpression) (used : List ℕ) (gs : List GivenField) (before : List Given) (p : Progress) (x : Progress × List Given) : Type 0 where
  pub l : LoweredGiven
  pub n : ℕ
  pub lowers : LowersGiven a used gs l
  pub is : x.1 ≡ before ++ l.given
  pub small : slots_of_given l.given ≤ most_slots
  pub grown : Grown p l.terms l.made n used x.0

both_filled : (a : AroundExpression) (used : List ℕ) (g : GivenField) (gs : List GivenField) (before : List Given) (p : Progress) (x : Progress × Operand) (y : Progress × List Given)
    (v : Valued a used g.value p x) → Filled a (in_use v.l.made used) gs (before ++ given_from g x.1 ∷ []) x.0 y → Filled a used (g ∷ gs) before p y
both_filled a used g gs before p x y v w = record {
  l = record { terms = then_terms v.l.terms w.l.terms; given = given_from g v.l.operand ∷ w.l.given; made = v.l.made ++ w.l.made };
  n = temporaries a.frame (locals_of a.variables) g.value + w.n;
  lowers = (v.l, v.lowers, w.l, w.lowers, refl);
  is = w.is ∙ append_assoc before (given_from g x.1 ∷ []) w.l.given ∙ ap (λ o. before ++ given_from g o ∷ w.l.given) v.is;
  small = max_most (slots_of_operand v.l.operand) (slots_of_given w.l.given) most_slots (subst (λ o. slots_of_operand o ≤ most_slots) v.is v.small) w.small;
  grown = grown_on p x.0 y.0 v.l.terms w.l.terms v.l.made w.l.made (temporaries a.frame (locals_of a.variables) g.value) w.n used v.grown w.grown;
}

given_comes : (a : AroundExpression) → AllBelow most_slots a.variables → (gs : List GivenField) (used : List ℕ) (before : List Given) (p : Progress) → Ready used p
    → Comes (needs_of_given a.frame (locals_of a.variables) p.slots.top gs) (Filled a used gs before p) (given_code a gs before p)
given_comes a all [] used before p r = (
  refl,
  record {
    l = record { terms = no_terms; given = []; made = [] };
    n = 0;
    lowers = refl;
    is = sym (append-nil before);
    small = omega arith;
    grown = grown_none used p r;
  },
)
given_comes a all (g ∷ gs) used before p r =
    let tg = temporaries a.frame (locals_of a.variables) g.value in
    let later = needs_of_given a.frame (locals_of a.variables) (p.slots.top + tg) gs in
    comes_bind (needs a.frame (locals_of a.variables) p.slots.top g.value) later (Valued a used g.value p) (Filled a used (g ∷ gs) before p) (value_code a g.value p) _
    (value_comes a all g.value used p r)
    (λ x v. comes_also later (Filled a (in_use v.l.made used) gs (before ++ given_from g x.1 ∷ []) x.0) (Filled a used (g ∷ gs) before p) (given_code a gs (before ++ given_from g x.1 ∷ []) x.0)
    (comes_same (needs_of_given a.frame (locals_of a.variables) x.0.slots.top gs) later (Filled a (in_use v.l.made used) gs (before ++ given_from g x.1 ∷ []) x.0)
    (given_code a gs (before ++ given_from g x.1 ∷ []) x.0) (ap (λ t. needs_of_given a.frame (locals_of a.variables) t gs) v.grown.count)
    (given_comes a all gs (in_use v.l.made used) (before ++ given_from g x.1 ∷ []) x.0 (grown_ready p v.l.terms v.l.made tg used x.0 v.grown)))
    (λ y w. both_filled a used g gs before p x y v w))

module _ (f : StaticFrame) (start : ℕ) (q : BlockPosition) (used own : List ℕ) (row : StagedRow) (staged : Staged) (rest : Statements) (out : SilicaTerms)
    (st : Stands start q used own row staged) where
  -- Changes of state.

  -- what a change of state comes to
  abbrev Changes : StateId → List GivenField → Span → SilicaTerms → Type 0
  Changes state gs span = Straight f (point q used own row) (resolved_change state gs span) rest out

  after_comes : (state : StateId) (gs : List GivenField) (span first : Span) (before : List Given) (made : List Temporary) (s : Slots) (kept : ℕ)
      → Held q.slots used before made s kept
      → ((x : LoweredGiven) → LowersGiven (around_at f q first) (in_use made used) gs x
      → LowersStatement f (point q used own row) (resolved_change state gs span) rest
      (with_unit first (ended_by first x.terms (change_form state (before ++ x.given)) (made ++ x.made))) (passed (point q used own row)))
      → Comes (needs_of_given f (locals_of q.variables) (q.slots + kept) gs) (Changes state gs span) (change_after f first before s state gs q out)
  after_comes state gs span first before made s kept h low =
      comes_then (needs_of_given f (locals_of q.variables) (q.slots + kept) gs) (Filled (around_at f q first) (in_use made used) gs before (begun s first out)) (Changes state gs span)
      (given_code (around_at f q first) gs before (begun s first out)) _
      (comes_same (needs_of_given f (locals_of q.variables) s.top gs) (needs_of_given f (locals_of q.variables) (q.slots + kept) gs)
      (Filled (around_at f q first) (in_use made used) gs before (begun s first out)) (given_code (around_at f q first) gs before (begun s first out))
      (ap (λ t. needs_of_given f (locals_of q.variables) t gs) h.count)
      (given_comes (around_at f q first) st.below gs (in_use made used) before (begun s first out) (record { above = h.above; top = h.top })))
      (λ x w. let form = change_form state (before ++ w.l.given) in (
        refl,
        record {
          ts = with_unit first (ended_by first w.l.terms form (made ++ w.l.made));
          lowers = low w.l w.lowers;
          is = ap (λ g. ended first (change_form state g) x.0) w.is
              ∙ ended_is out (with_unit first w.l.terms) (made ++ w.l.made) form first x.0 (begun_is s first out w.l.terms w.l.made w.n (in_use made used) x.0 w.grown)
              (w.grown.listed ∙ ap (λ l. l ++ references w.l.made) h.listed ∙ sym (references_append made w.l.made));
          few = ended_few first w.l.terms form (made ++ w.l.made) w.grown.few (slots_given before w.l.given most_slots h.few w.small)
              (subst (EachBelow most_slots) (sym (references_append made w.l.made)) (each_append most_slots (references made) (references w.l.made) h.dropped w.grown.dropped));
        },
      ))

module _ (f : StaticFrame) (start : ℕ) (q : BlockPosition) (used own : List ℕ) (rest : Statements) (out : SilicaTerms) where
  changed : (waiting : Waiting) (row : StagedRow) (staged : Staged) (state : StateId) (gs : List GivenField) (span : Span) → Stands start q used own row staged
      → Waits q.slots used waiting row staged
      → Comes (needs_of_given f (locals_of q.variables) (q.slots + kept_staged staged) gs) (Straight f (point q used own row) (resolved_change state gs span) rest out)
      (change_code f waiting state gs span q out)
  changed waiting row staged state gs span st waits_none =
      after_comes f start q used own no_row none_staged rest out st state gs span span [] [] (slots_from q.slots) 0 (held_none start q used own no_row none_staged st)
      (λ x lx. (x, lx, refl, refl))
  changed waiting row staged state gs span st (waits_row {first = first} {given = given} {made = made} {s = s} {kept = kept} h) =
      after_comes f start q used own (staged_row first given made) (row_staged kept) rest out st state gs span first given made s kept h (λ x lx. (x, lx, refl, refl))
  changed waiting row staged state gs span st waits_refused =
      after_comes f start q used own refused_row row_refused rest out st state gs span span [] [] (slots_from q.slots) 0 (held_none start q used own refused_row row_refused st)
      (λ x lx. (x, lx, refl, refl))

  pub change_comes : (row : StagedRow) (staged : Staged) (state : StateId) (gs : List GivenField) (span : Span) → Stands start q used own row staged
      → Comes (needs_of_given f (locals_of q.variables) (q.slots + kept_staged staged) gs) (Done f start q used own row staged (resolved_change state gs span) rest out)
      (change_code f q.waiting state gs span q out >>= past_statement q)
  change_comes row staged state gs span st =
      comes_straight f start q used own row staged (resolved_change state gs span) rest out (needs_of_given f (locals_of q.variables) (q.slots + kept_staged staged) gs)
      (change_code f q.waiting state gs span q out) st refl refl refl (changed q.waiting row staged state gs span st st.waits)

  -- Staged statements.

  -- what a staged statement comes to
  abbrev Stages : StagedRow → Staged → Option Span → GivenField → Span → BlockPosition × SilicaTerms → Type 0
  Stages row staged refused g span =
      Goes start (LowersStage f (point q used own row) row refused g span) (locals_of q.variables) q.slots
      (staged_with staged refused (temporaries f (locals_of q.variables) g.value)) out

  row_comes : (row : StagedRow) (staged : Staged) (refused : Option Span) (g : GivenField) (span first : Span) (before : List Given) (made : List Temporary) (s : Slots) (kept : ℕ)
      → Stands start q used own row staged → Held q.slots used before made s kept
      → ((x : Lowered) → LowersExpression (around_at f q first) (in_use made used) g.value x
      → LowersStage f (point q used own row) row refused g span (with_unit first x.terms)
      (with_row (point q used own row) (staged_row first (before ++ given_from g x.operand ∷ []) (made ++ x.made))))
      → row_staged (kept + temporaries f (locals_of q.variables) g.value) ≡ staged_with staged refused (temporaries f (locals_of q.variables) g.value)
      → Comes (needs f (locals_of q.variables) (q.slots + kept) g.value) (Stages row staged refused g span) (row_code f first before s g q out)
  row_comes row staged refused g span first before made s kept st h low same =
      let ls = locals_of q.variables in
      let tg = temporaries f ls g.value in
      comes_then (needs f ls (q.slots + kept) g.value) (Valued (around_at f q first) (in_use made used) g.value (begun s first out)) (Stages row staged refused g span)
      (value_code (around_at f q first) g.value (begun s first out)) _
      (comes_same (needs f ls s.top g.value) (needs f ls (q.slots + kept) g.value) (Valued (around_at f q first) (in_use made used) g.value (begun s first out))
      (value_code (around_at f q first) g.value (begun s first out)) (ap (λ t. needs f ls t g.value) h.count)
      (value_comes (around_at f q first) st.below g.value (in_use made used) (begun s first out) (record { above = h.above; top = h.top })))
      (λ x v. (
        refl,
        record {
          ts = with_unit first v.l.terms;
          used = used;
          own = own;
          row = staged_row first (before ++ given_from g v.l.operand ∷ []) (made ++ v.l.made);
          lowers = low v.l v.lowers;
          is = begun_is s first out v.l.terms v.l.made tg (in_use made used) x.0 v.grown;
          few = unit_few first v.l.terms v.grown.few;
          names = refl;
          count = refl;
          stands = record {
            below = st.below;
            above = st.above;
            top = st.top;
            low = st.low;
            declares = st.declares;
            waits = subst (Waits q.slots used (row_waits first (before ++ given_from g x.1 ∷ []) x.0.slots) (staged_row first (before ++ given_from g v.l.operand ∷ []) (made ++ v.l.made))) same
                (subst (λ o. Waits q.slots used (row_waits first (before ++ given_from g x.1 ∷ []) x.0.slots) (staged_row first (before ++ given_from g o ∷ []) (made ++ v.l.made)) (row_staged (kept + tg))) v.is
                (waits_row (record {
                  listed = v.grown.listed ∙ ap (λ l. l ++ references v.l.made) h.listed ∙ sym (references_append made v.l.made);
                  count = v.grown.count ∙ ap (λ t. t + tg) h.count ∙ sum q.slots kept tg;
                  above = above_append x.0.slots.top made v.l.made used v.grown.above;
                  top = v.grown.top;
                  few = slots_given before (given_from g x.1 ∷ []) most_slots h.few (max_most (slots_of_operand x.1) 0 most_slots v.small (omega arith));
                  dropped = subst (EachBelow most_slots) (sym (references_append made v.l.made)) (each_append most_slots (references made) (references v.l.made) h.dropped v.grown.dropped);
                })));
          };
        },
      ))

  refused_first : (at : Span) (g : GivenField) (span : Span) → Stands start q used own no_row none_staged
      → Stages no_row none_staged (Some at) g span (waits q refused_waits, with_term out bad_row_form at)
  refused_first at g span st = record {
    ts = one_term bad_row_form at;
    used = used;
    own = own;
    row = refused_row;
    lowers = (refl, refl);
    is = refl;
    few = slots_one bad_row_form at most_slots (omega arith);
    names = refl;
    count = refl;
    stands = record { below = st.below; above = st.above; top = st.top; low = st.low; declares = st.declares; waits = waits_refused };
  }

  refused_next : (refused : Option Span) (g : GivenField) (span : Span) → Stands start q used own refused_row row_refused
      → Stages refused_row row_refused refused g span (q, out)
  refused_next refused g span st = record {
    ts = no_terms;
    used = used;
    own = own;
    row = refused_row;
    lowers = (refl, refl);
    is = sym (then_none out);
    few = omega arith;
    names = refl;
    count = refl;
    stands = st;
  }

  stage_comes : (waiting : Waiting) (row : StagedRow) (staged : Staged) (refused : Option Span) (g : GivenField) (span : Span) → Stands start q used own row staged
      → Waits q.slots used waiting row staged
      → Comes (needs_of_staged f (locals_of q.variables) (q.slots + kept_staged staged) (staged_with staged refused 0) g.value) (Stages row staged refused g span)
      (stage_code f waiting refused g span q out)
  stage_comes waiting row staged None g span st waits_none =
      row_comes no_row none_staged None g span span [] [] (slots_from q.slots) 0 st (held_none start q used own no_row none_staged st) (λ x lx. (x, lx, refl, refl))
      (ap row_staged (zero_first (temporaries f (locals_of q.variables) g.value)))
    where
      zero_first : (n : ℕ) → 0 + n ≡ n
      zero_first n = omega arith
  stage_comes waiting row staged (Some at) g span st waits_none = (refl, refused_first at g span st)
  stage_comes waiting row staged refused g span st (waits_row {first = first} {given = given} {made = made} {s = s} {kept = kept} h) =
      row_comes (staged_row first given made) (row_staged kept) refused g span first given made s kept st h (λ x lx. (x, lx, refl, refl)) refl
  stage_comes waiting row staged refused g span st waits_refused = (refl, refused_next refused g span st)

  pub stage_done : (row : StagedRow) (staged : Staged) (state : StateId) (g : GivenField) (span : Span) → Stands start q used own row staged
      → Comes (needs_of_staged f (locals_of q.variables) (q.slots + kept_staged staged) (staged_with staged (refused_at state span rest) 0) g.value)
      (Done f start q used own row staged (resolved_stage state g span) rest out) (stage_code f q.waiting (refused_at state span rest) g span q out)
  stage_done row staged state g span st = stage_comes q.waiting row staged (refused_at state span rest) g span st st.waits
