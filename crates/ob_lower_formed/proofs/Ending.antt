-- Statements that neither declare nor stage: calls, ends, names, and the branches of tests.
use Rattle.std.proofs.Common.{◌≡◌, ℕ, ◌<◌, Bool, true, false, ◌&&◌, ◌||◌, nat_eq, List, [], ◌∷◌, ◌++◌, length, Option, Some, None, option_map, option_and_then, IfSome, IsSomeAnd, refl, sym, ap, ◌∙◌, subst, ◌⊎◌, inl, inr, true≢false, is_some, eqb-true}
use Rattle.std.proofs.lemmas.Bool.{or_parts, or_left, or_right}
use Rattle.std.proofs.lemmas.Str.{IsUtf8-nil, is_utf8-from_IsUtf8}
use Rattle.std.specs.Prelude.{⊤, IsTrue}
use Rattle.ob_base.specs.Names.{is_text}
use Rattle.ob_base.specs.declared.fault.Span.{Span}
use Rattle.ob_base.specs.declared.id.StateId.{StateId}
use Rattle.ob_base.specs.declared.permission.Perm.{Perm}
use Rattle.ob_table.specs.Expressions.{Expression, resolved_number, resolved_text, resolved_bool, resolved_seen, resolved_unary, resolved_binary, resolved_logical, resolved_call, resolved_new}
use Rattle.ob_table.specs.Statements.{Statement, resolved_discard, resolved_test, resolved_if, resolved_return, resolved_revert, resolved_disown, resolved_assert, Block, Otherwise, Statements}
use Rattle.ob_table.specs.Tables.{ClassTable, signature_of}
use Rattle.ob_table.specs.declared.contract.Contract.{Contract}
use Rattle.ob_table.specs.declared.contract.Signature.{Signature}
use Rattle.ob_table.specs.declared.seen.Kind.{Kind}
use Rattle.ob_table.specs.declared.seen.Kind.TheVariants.{Int, Bool as BoolKind, Text, Reference}
use Rattle.ob_table.specs.declared.seen.SeenAt.{SeenAt}
use Rattle.ob_table_spec.specs.Conditions.{IsPermOn}
use Rattle.ob_table_spec.specs.WellFormed.{StaticFrame, LocalKinds, local_kind, kind_of_seen, kind_of_expression, kind_of_resolved, is_reference, serves_as, IsWellFormedExpression, IsCalled, PassTo, IsValue, IsReturned, RefersTo, Refers, block_ends_there, other_ends_there}
use Rattle.ob_silica.specs.Terms.{SilicaForm, const_form, test_form, if_form, assert_form, disown_form, return_form, revert_form, SilicaTerms, no_terms, and_term, one_term, then_terms}
use Rattle.ob_silica.specs.declared.place.Constant.TheVariants.{Text as TextConstant}
use Rattle.ob_silica.specs.declared.place.Operand.{Operand}
use Rattle.ob_silica.specs.declared.place.Place.TheVariants.{Slot}
use Rattle.ob_silica_formed.specs.Holdings.{SlotContent, held, Holdings, kind_of_place, kind_of_operand, after_terms, terms_end}
use Rattle.ob_silica_formed.specs.Points.{IsPlace, HasKind, IsReturnedAs}
use Rattle.ob_lower_spec.specs.Forms.{drops, locals_of, slot_operand, join_of}
use Rattle.ob_lower_spec.specs.Points.{in_use, references, drops_of, Point, passed, around}
use Rattle.ob_lower_spec.specs.ExpressionTerms.{Lowered, LoweredCall, kind_around, LowersExpression, LowersPlainCall, LowersDiscarded}
use Rattle.ob_lower_spec.specs.GivenTerms.{with_unit}
use Rattle.ob_lower_spec.specs.StatementTerms.{IsNamed, LowersReturn, LowersRevert}
use Rattle.ob_lower_formed.proofs.Sets.{among, or_split, free_among, nat_same, within_self, within_right, slots_made}
use Rattle.ob_lower_formed.proofs.Ways.{IsWellFormedForm, after_then, end_then}
use Rattle.ob_lower_formed.proofs.Effects.{set_at, Runs, Leaves, runs_of, then_dropped, Plain, set_leaves, set_after, quiet_leaves, drops_leave, if_runs, test_runs}
use Rattle.ob_lower_formed.proofs.Operands.{some_so, and_so, none_some, Stands, own_slot, stands_on, Holds, place_there, has_kind, Fresh, fresh_apart, Gave, references_in_use}
use Rattle.ob_lower_formed.proofs.Expressions.{name_holds, serves_bool, serving_of, nothing_within, seen_agree, GaveAll, Called, call_made, const_plain, expression_made, arguments_made}
use Rattle.ob_lower_formed.proofs.Points.{same_runs, same_leaves, unit_runs, Low, Blocked, Did, did_passed}

or_false : (b : Bool) → (b || false) ≡ b
or_false true = refl
or_false false = refl

refers_reference : (table : ClassTable) (P : Contract → Type 0) (kind : Kind) → RefersTo table P kind → is_reference kind ≡ true
refers_reference table P Int r = absurd r
refers_reference table P BoolKind r = absurd r
refers_reference table P Text r = absurd r
refers_reference table P (Reference c) r = refl

result_none : (o : Option Signature) (s : Signature) → o ≡ Some s → option_and_then (λ s. option_map kind_of_resolved s.result) o ≡ None → false ≡ is_some s.result
result_none o s e k = by_result s.result (ap (option_and_then (λ s. option_map kind_of_resolved s.result)) (sym e) ∙ k)
  where
    by_result : (r : _) → option_map kind_of_resolved r ≡ None → false ≡ is_some r
    by_result None e = refl
    by_result (Some x) e = absurd (none_some (sym e))

returned_value : (f : StaticFrame) (ws : LocalKinds) (r : Option Kind) (e : Expression) → IsReturned f ws r (Some e) → (kind : Kind) × (r ≡ Some kind) × IsValue f ws kind e
returned_value f ws None e h = absurd h
returned_value f ws (Some kind) e h = (kind, refl, h)

returned_none : (f : StaticFrame) (ws : LocalKinds) (h : Holdings) (r : Option Kind) → IsReturned f ws r None → IsReturnedAs f h r None
returned_none f ws h None e = tt
returned_none f ws h (Some kind) e = absurd e

pub return_runs : {f : StaticFrame} {g : Holdings} (o : Option Operand) (span : Span) (used : List ℕ) → IfSome o (λ x. IsPlace f x.place) → IsReturnedAs f g f.result o
    → Runs f g (one_term (return_form o) span) used []
return_runs o span used there r = record {
  each = (record { numbers = there; kinds = tt; results = tt; params = tt; references = tt; bodies = tt; returns = r; turns = tt }, tt, tt);
  follows = ((λ t. refl), tt, tt);
  after = λ d. absurd (true≢false (or_parts true false d).0);
}

revert_runs : {f : StaticFrame} {g : Holdings} (o : Operand) (span : Span) (used : List ℕ) → IsPlace f o.place → HasKind f g Text o → Runs f g (one_term (revert_form o) span) used []
revert_runs o span used there k = record {
  each = (record { numbers = there; kinds = k; results = tt; params = tt; references = tt; bodies = tt; returns = tt; turns = tt }, tt, tt);
  follows = ((λ t. refl), tt, tt);
  after = λ d. absurd (true≢false (or_parts true false d).0);
}

-- the text of a `revert` that has none
empty_is_text : IsTrue (is_text [])
empty_is_text = is_utf8-from_IsUtf8 [] IsUtf8-nil

-- a block of its own
pub record IsWellFormedBlock (f : StaticFrame) (g : Holdings) (used : List ℕ) (ts : SilicaTerms) (ends : Bool) : Type 0 where
  pub runs : Runs f g ts used []
  pub ends_so : terms_end ts ≡ ends

module _ (f : StaticFrame) (outer : List ℕ) (p : Point) (ws : LocalKinds) (row : List ℕ) (h : Holdings) (s : Stands f p.variables p.used h) (low : Low f p.variables p.used)
    (agree : (n : ℕ) → local_kind ws n ≡ local_kind (locals_of p.variables) n) (b : Blocked outer p) (span : Span) (rest : Statements) (ts : SilicaTerms) (q : Point) where
  abbrev Done : Statement → Type 0
  Done st = Did f outer p q ws row st rest ts h

  kind_agree : (e : Expression) → kind_of_expression f ws e ≡ kind_of_expression f (locals_of p.variables) e
  kind_agree (resolved_number value sp) = refl
  kind_agree (resolved_text value sp) = refl
  kind_agree (resolved_bool value sp) = refl
  kind_agree (resolved_seen seen sp) = seen_agree f p.variables ws agree span seen.of
  kind_agree (resolved_unary o sign e sp) = refl
  kind_agree (resolved_binary o sign l r sp) = refl
  kind_agree (resolved_logical o sign l r sp) = refl
  kind_agree (resolved_call r c tx name args sp) = refl
  kind_agree (resolved_new c args sp) = refl

  -- an expression where one of a kind is needed
  value_gave : (wanted : Kind) (e : Expression) (x : Lowered) → LowersExpression (around f p span) p.used e x → IsValue f ws wanted e
      → (kind : Kind) × Gave f h p.used x kind × (serves_as f.table wanted kind ≡ true)
  value_gave wanted e x lx made =
      let sx = some_so (kind_of_expression f ws e) (λ has. IsTrue (serves_as f.table wanted has)) made.1 in
      (sx.0, expression_made f p.variables ws agree span e x p.used h sx.0 lx made.0 s sx.1, sx.2)

  -- calls whose value is let go
  record LetGo (l : LoweredCall) : Type 0 where
    leaves : Leaves f h l.terms p.used (references l.made)
    fresh : Fresh l.made p.used

  plain_let_go : (e : Expression) (l : LoweredCall) → kind_of_expression f ws e ≡ None → LowersPlainCall (around f p span) p.used e l → IsWellFormedExpression f ws e → LetGo l
  plain_let_go (resolved_call receiver contract tx name args sp) l none (x, lx, form, is_call, is) made =
      let sig = some_so (signature_of f.table contract tx) (λ t. IsCalled f ws receiver contract t × PassTo f ws t.params args) made.2 in
      let gx : GaveAll f h p.used x sig.0.params = arguments_made f p.variables ws agree span sig.0.params args x p.used h lx made.0 sig.2.1 s in
      let g = after_terms f x.terms h in
      let st : Stands f p.variables (in_use x.made p.used) g = stands_on s gx.leaves.after (within_right (slots_made x.made) p.used) (references_in_use x.made p.used) in
      let c : Called f g None contract tx form = call_made ws span (seen_agree f p.variables ws agree span) None receiver contract tx x.operands form sig.0 is_call st sig.1 sig.2.0 made.1 gx.arguments
      (result_none (signature_of f.table contract tx) sig.0 sig.1 none) tt tt in
      subst LetGo (sym is) (record { leaves = same_leaves f gx.leaves (quiet_leaves f span p.used (references x.made) c.plain c.slot gx.leaves.after.quiet); fresh = gx.fresh })
  plain_let_go (resolved_number z sp) l none low made = absurd low
  plain_let_go (resolved_text z sp) l none low made = absurd low
  plain_let_go (resolved_bool z sp) l none low made = absurd low
  plain_let_go (resolved_seen seen sp) l none low made = absurd low
  plain_let_go (resolved_unary o sign e sp) l none low made = absurd low
  plain_let_go (resolved_binary o sign e d sp) l none low made = absurd low
  plain_let_go (resolved_logical o sign e d sp) l none low made = absurd low
  plain_let_go (resolved_new c args sp) l none low made = absurd low

  let_go : (o : Option Kind) (e : Expression) (l : LoweredCall) → kind_of_expression f ws e ≡ o → LowersDiscarded (around f p span) p.used o e l → IsWellFormedExpression f ws e → LetGo l
  let_go None e l k low made = plain_let_go e l k low made
  let_go (Some kind) e l k (x, lx, is) made =
      let gx : Gave f h p.used x kind = expression_made f p.variables ws agree span e x p.used h kind lx made s k in
      subst LetGo (sym is) (record { leaves = gx.leaves; fresh = gx.fresh })

  pub discard_did : (value : Expression) (x : LoweredCall) → LowersDiscarded (around f p span) p.used (kind_around (around f p span) value) value x
      → ts ≡ with_unit span (then_terms x.terms (drops_of x.made span)) → q ≡ passed p → IsWellFormedExpression f ws value → Done (resolved_discard value span)
  discard_did value x lx et eq made =
      let g = let_go (kind_around (around f p span) value) value x (kind_agree value) lx made in
      let whole = then_dropped f span p.used (references x.made) (own_slot s) (fresh_apart g.fresh) g.leaves in
      subst (λ ts. Did f outer p q ws row (resolved_discard value span) rest ts h) (sym et)
      (did_passed s low agree b refl refl eq (unit_runs f span (runs_of f whole)) whole.goes_on)

  -- ends
  ends_after : (x y : SilicaTerms) → terms_end y ≡ true → terms_end (then_terms x y) ≡ true
  ends_after x y e = end_then x y ∙ or_right (terms_end x) (terms_end y) e

  record IsWellFormedEnd (x : SilicaTerms) : Type 0 where
    runs : Runs f h x p.used []
    ends : terms_end x ≡ true

  return_made : (value : Option Expression) (x : SilicaTerms) → LowersReturn (around f p span) p.used value x → IsReturned f ws f.result value → IsWellFormedEnd x
  return_made None x is made = subst IsWellFormedEnd (sym is) (record { runs = return_runs None span p.used tt (returned_none f ws h f.result made); ends = refl })
  return_made (Some e) x (y, ly, is) made =
      let r = returned_value f ws f.result e made in
      let v = value_gave r.0 e y ly r.2 in
      let g = after_terms f y.terms h in
      subst IsWellFormedEnd (sym is) (record {
        runs = same_runs f v.1.leaves (return_runs (Some y.operand) span p.used (place_there f g y.operand.place v.0 v.1.holds.is)
            (subst (λ o. IsReturnedAs f g o (Some y.operand)) (sym r.1) (has_kind {wanted = r.0} y.operand (serving_of y.operand.place v.0 v.1.holds v.2))));
        ends = ends_after y.terms (one_term (return_form (Some y.operand)) span) refl;
      })

  pub return_did : (value : Option Expression) (x : SilicaTerms) → LowersReturn (around f p span) p.used value x → ts ≡ with_unit span x → q ≡ passed p
      → IsReturned f ws f.result value → Done (resolved_return value span)
  return_did value x lx et eq made =
      let e = return_made value x lx made in
      subst (λ ts. Did f outer p q ws row (resolved_return value span) rest ts h) (sym et)
      (did_passed s low agree b refl refl eq (unit_runs f span e.runs) e.ends)

  revert_made : (text : Option Expression) (x : SilicaTerms) → LowersRevert (around f p span) p.used text x → IfSome text (IsValue f ws Text) → IsWellFormedEnd x
  revert_made None x (k, free, is) made =
      let apart : among k p.used ≡ false = free_among k p.used free in
      let plain : Plain f h (const_form k (TextConstant [])) = const_plain k (TextConstant []) empty_is_text (own_slot s k apart) (s.quiet.by k apart refl) in
      let first : Leaves f h (one_term (const_form k (TextConstant [])) span) p.used ([] ++ []) = set_leaves f span p.used [] k (Some Text) false plain refl refl refl apart s.quiet in
      let g = after_terms f (one_term (const_form k (TextConstant [])) span) h in
      let there : kind_of_place f g (Slot k) ≡ Some Text = ap (λ (i : Holdings). (i k).kind) (set_after f span k (Some Text) plain refl refl) ∙ ap (λ (o : SlotContent). o.kind) (set_at k (held (Some Text)) h) in
      subst IsWellFormedEnd (sym is) (record {
        runs = same_runs f first (revert_runs (slot_operand k span) span p.used tt (and_so (kind_of_place f g (Slot k)) (λ c. IsTrue (serves_as f.table Text c)) Text there refl));
        ends = refl;
      })
  revert_made (Some e) x (y, ly, is) made =
      let v = value_gave Text e y ly made in
      let g = after_terms f y.terms h in
      subst IsWellFormedEnd (sym is) (record {
        runs = same_runs f v.1.leaves (revert_runs y.operand span p.used (place_there f g y.operand.place v.0 v.1.holds.is) (has_kind {wanted = Text} y.operand (serving_of y.operand.place v.0 v.1.holds v.2)));
        ends = ends_after y.terms (one_term (revert_form y.operand) span) refl;
      })

  pub revert_did : (text : Option Expression) (x : SilicaTerms) → LowersRevert (around f p span) p.used text x → ts ≡ with_unit span x → q ≡ passed p
      → IfSome text (IsValue f ws Text) → Done (resolved_revert text span)
  revert_did text x lx et eq made =
      let e = revert_made text x lx made in
      subst (λ ts. Did f outer p q ws row (resolved_revert text span) rest ts h) (sym et)
      (did_passed s low agree b refl refl eq (unit_runs f span e.runs) e.ends)

  -- names
  record Named (P : Contract → Type 0) (o : Operand) : Type 0 where
    there : IsPlace f o.place
    reference : IsSomeAnd (kind_of_operand f h o) (λ kind. is_reference kind ≡ true)
    refers : IsSomeAnd (kind_of_operand f h o) (RefersTo f.table P)

  named : (P : Contract → Type 0) (seen : SeenAt) (o : Operand) → IsNamed (around f p span) seen o → Refers f ws seen.of P → Named P o
  named P seen o (place, ep, is) r =
      let k = some_so (kind_of_seen f ws seen.of) (RefersTo f.table P) r in
      let holds : Holds f p.used h place k.0 = name_holds seen.of place k.0 s ep (sym (seen_agree f p.variables ws agree span seen.of) ∙ k.1) in
      subst (Named P) (sym is) (record {
        there = place_there f h place k.0 holds.is;
        reference = and_so (kind_of_place f h place) (λ kind. is_reference kind ≡ true) k.0 holds.is (refers_reference f.table P k.0 k.2);
        refers = and_so (kind_of_place f h place) (RefersTo f.table P) k.0 holds.is k.2;
      })

  pub disown_did : (subject : SeenAt) (o : Operand) → IsNamed (around f p span) subject o → ts ≡ with_unit span (one_term (disown_form o) span) → q ≡ passed p
      → Refers f ws subject.of (λ c. ⊤) → Done (resolved_disown subject span)
  disown_did subject o is et eq refers =
      let n = named (λ c. ⊤) subject o is refers in
      let plain : Plain f h (disown_form o) = record {
        well_formed = record { numbers = n.there; kinds = n.reference; results = tt; params = tt; references = tt; bodies = tt; returns = tt; turns = tt };
        within = tt;
        follows = tt;
        after = refl;
        goes_on = refl;
      } in
      let whole = quiet_leaves f span p.used [] plain refl s.quiet in
      subst (λ ts. Did f outer p q ws row (resolved_disown subject span) rest ts h) (sym et)
      (did_passed s low agree b refl refl eq (unit_runs f span (runs_of f whole)) whole.goes_on)

  pub assert_did : (subject : SeenAt) (perm : Perm) (o : Operand) → IsNamed (around f p span) subject o → ts ≡ with_unit span (one_term (assert_form o perm) span) → q ≡ passed p
      → Refers f ws subject.of (λ c. IsPermOn c perm) → Done (resolved_assert subject perm span)
  assert_did subject perm o is et eq refers =
      let n = named (λ c. IsPermOn c perm) subject o is refers in
      let plain : Plain f h (assert_form o perm) = record {
        well_formed = record { numbers = (n.there, n.refers); kinds = n.reference; results = tt; params = tt; references = tt; bodies = tt; returns = tt; turns = tt };
        within = tt;
        follows = tt;
        after = refl;
        goes_on = refl;
      } in
      let whole = quiet_leaves f span p.used [] plain refl s.quiet in
      subst (λ ts. Did f outer p q ws row (resolved_assert subject perm span) rest ts h) (sym et)
      (did_passed s low agree b refl refl eq (unit_runs f span (runs_of f whole)) whole.goes_on)

  -- tests
  pub test_did : (subject : SeenAt) (state : StateId) (branch : Block) (other : Otherwise) (o : Operand) (x y : SilicaTerms) → IsNamed (around f p span) subject o
      → ts ≡ with_unit span (one_term (test_form o state x y (join_of branch other)) span) → q ≡ passed p → Refers f ws subject.of (λ c. state.0 < length c.states)
      → IsWellFormedBlock f h p.used x (block_ends_there branch) → IsWellFormedBlock f h p.used y (other_ends_there other) → Done (resolved_test subject state branch other span)
  test_did subject state branch other o x y is et eq refers bx by' =
      let n = named (λ c. state.0 < length c.states) subject o is refers in
      let made : IsWellFormedForm f h (test_form o state x y (join_of branch other)) = record { numbers = (n.there, n.refers); kinds = n.reference; results = tt; params = tt; references = tt; bodies = tt; returns = tt; turns = tt } in
      subst (λ ts. Did f outer p q ws row (resolved_test subject state branch other span) rest ts h) (sym et)
      (did_passed s low agree b refl refl eq (unit_runs f span (test_runs f o state x y (join_of branch other) span p.used [] made bx.runs by'.runs))
      (or_false (terms_end x && terms_end y) ∙ ap (λ t. t && terms_end y) bx.ends_so ∙ ap (λ t. block_ends_there branch && t) by'.ends_so))

  -- the temporaries of a condition end, and its truth stands
  pub record Condition (c : Lowered) : Type 0 where
    pub leaves : Leaves f h (then_terms c.terms (drops_of c.made span)) p.used []
    pub holds : kind_of_place f (after_terms f (then_terms c.terms (drops_of c.made span)) h) c.operand.place ≡ Some BoolKind

  pub condition_gave : (c : Lowered) → Gave f h p.used c BoolKind → Condition c
  condition_gave c gx =
      let v = gx.value refl in
      let k = v.slot in
      let used : List ℕ = k ∷ p.used in
      let refs : List ℕ = references c.made in
      let g = after_terms f c.terms h in
      let d : Leaves f g (drops refs span) used [] = drops_leave f span used refs g (λ j e. own_slot s j (or_parts (nat_eq j k) (among j p.used) e).1)
      (λ j e. apart_from v.slot v.free j (or_split (nat_eq j k) (among j p.used) e))
      (record { by = λ j u l. gx.leaves.after.quiet.by j (or_parts (nat_eq j k) (among j p.used) u).1 l }) in
      let whole = then_dropped f span p.used refs (own_slot s) (fresh_apart gx.fresh) gx.leaves in
      let at_k : after_terms f (drops refs span) g k ≡ g k = d.after.kept.by k (or_left (nat_eq k k) (among k p.used) (nat_same k)) in
      record {
        leaves = whole;
        holds = ap (λ (i : Holdings). kind_of_place f i c.operand.place) (after_then f c.terms (drops refs span) h)
            ∙ ap (kind_of_place f (after_terms f (drops refs span) g)) v.place ∙ ap (λ (o : SlotContent). o.kind) at_k ∙ sym (ap (kind_of_place f g) v.place) ∙ gx.holds.is;
      }
    where
      apart_from : (k : ℕ) → among k (references c.made) ≡ false → (j : ℕ) → (nat_eq j k ≡ true) ⊎ (among j p.used ≡ true) → among j (references c.made) ≡ false
      apart_from k free j (inl e) = ap (λ i. among i (references c.made)) (eqb-true j k e) ∙ free
      apart_from k free j (inr u) = fresh_apart gx.fresh j u

  then_assoc : (x y z : SilicaTerms) → then_terms (then_terms x y) z ≡ then_terms x (then_terms y z)
  then_assoc no_terms y z = refl
  then_assoc (and_term form sp rest) y z = ap (and_term form sp) (then_assoc rest y z)

  pub if_did : (condition : Expression) (branch : Block) (other : Otherwise) (c : Lowered) (x y : SilicaTerms) → LowersExpression (around f p span) p.used condition c
      → ts ≡ with_unit span (then_terms c.terms (then_terms (drops_of c.made span) (one_term (if_form c.operand x y (join_of branch other)) span))) → q ≡ passed p
      → IsValue f ws BoolKind condition
      → ((g : Holdings) → Stands f p.variables p.used g → IsWellFormedBlock f g p.used x (block_ends_there branch))
      → ((g : Holdings) → Stands f p.variables p.used g → IsWellFormedBlock f g p.used y (other_ends_there other)) → Done (resolved_if condition branch other span)
  if_did condition branch other c x y lc et eq made blocks others =
      let sx = some_so (kind_of_expression f ws condition) (λ has. IsTrue (serves_as f.table BoolKind has)) made.1 in
      let gx : Gave f h p.used c BoolKind = expression_made f p.variables ws agree span condition c p.used h BoolKind lc made.0 s (sx.1 ∙ ap Some (sym (serves_bool f.table sx.0 sx.2))) in
      let first = condition_gave c gx in
      let g = after_terms f (then_terms c.terms (drops_of c.made span)) h in
      let st : Stands f p.variables p.used g = stands_on s first.leaves.after (within_self p.used) (nothing_within p.used) in
      let bx = blocks g st in
      let by' = others g st in
      let form : SilicaForm = if_form c.operand x y (join_of branch other) in
      let form_well_formed : IsWellFormedForm f g form = record {
        numbers = place_there f g c.operand.place BoolKind first.holds;
        kinds = and_so (kind_of_place f g c.operand.place) (λ k. IsTrue (serves_as f.table BoolKind k)) BoolKind first.holds refl;
        results = tt;
        params = tt;
        references = tt;
        bodies = tt;
        returns = tt;
        turns = tt;
      } in
      let whole : Runs f h (then_terms (then_terms c.terms (drops_of c.made span)) (one_term form span)) p.used [] =
      same_runs f first.leaves (if_runs f c.operand x y (join_of branch other) span p.used [] form_well_formed bx.runs by'.runs) in
      let ends : terms_end (then_terms (then_terms c.terms (drops_of c.made span)) (one_term form span)) ≡ (block_ends_there branch && other_ends_there other) =
      end_then (then_terms c.terms (drops_of c.made span)) (one_term form span) ∙ ap (λ t. t || terms_end (one_term form span)) first.leaves.goes_on
      ∙ or_false (terms_end x && terms_end y) ∙ ap (λ t. t && terms_end y) bx.ends_so ∙ ap (λ t. block_ends_there branch && t) by'.ends_so in
      let same = then_assoc c.terms (drops_of c.made span) (one_term form span) in
      subst (λ ts. Did f outer p q ws row (resolved_if condition branch other span) rest ts h) (sym et)
      (did_passed s low agree b refl refl eq (unit_runs f span (subst (λ t. Runs f h t p.used []) same whole)) (ap terms_end (sym same) ∙ ends))
