-- What is left to run in the branches of a form, with the terms after it around them.
use Rattle.std.proofs.Common.{◌≡◌, ◌⊎◌, inl, inr, ℕ, ◌≤◌, Bool, true, false, List, ◌∷◌, Option, Some, None, Ok, refl, sym, ap, ◌∙◌, subst, arith}
use Rattle.std.specs.Prelude.{max, nat_eq, ◌||◌, if◌then◌else◌}
use Rattle.std.proofs.lemmas.Bool.{or_left, or_right, and_parts}
use Rattle.ob_base.specs.declared.fault.Span.{Span}
use Rattle.ob_base.specs.declared.id.StateId.{StateId}
use Rattle.ob_perm.specs.Permissions.{Permission, owned, shared, unowned}
use Rattle.ob_table.specs.declared.seen.Kind.{Kind}
use Rattle.ob_table.specs.declared.seen.Kind.TheVariants.{Int, Bool as BoolKind, Text, Reference}
use Rattle.ob_silica.specs.Terms.{SilicaForm, unit_form, const_form, op_form, copy_form, move_form, new_form, call_form, call_this_form, change_form, test_form, if_form, loop_form, assert_form, disown_form, drop_form, return_form, revert_form, bad_row_form, SilicaTerms, no_terms, and_term}
use Rattle.ob_silica.specs.declared.place.Operand.{Operand}
use Rattle.ob_silica.specs.Slots.{slots_of_operand, slots_of_form, slots_of_terms}
use Rattle.ob_silica_places.specs.Places.{Location, located}
use Rattle.ob_silica_steps.specs.Configurations.{Ends, plain_end, test_end, lock_end, Rest}
use Rattle.ob_silica_formed.specs.Holdings.{SlotContent, Holdings, kinds_equal, common_kind, either_way, joined, after_form, after_terms, form_ends, terms_end}
use Rattle.ob_flow_spec.specs.Contexts.{BodyFrame, Context, TestedPlaces, counted, static_of}
use Rattle.ob_flow_spec.specs.Deriving.{derive, derive_all}
use Rattle.ob_flow_spec.specs.Testing.{in_tested_state, in_other_state, tested_with, this_left}
use Rattle.ob_flow_laws.specs.Deriving.{Passes, PassesTest, PassesIf, RestDerives}
use Rattle.ob_flow_laws.specs.Joining.{LeavesBoth}
use Rattle.ob_flow_laws.specs.Testing.{EndsFirstBranch}
use Rattle.ob_flow_laws.proofs.Deriving.{passes, passes_all}
use Rattle.ob_coherent_spec.specs.Runs.{tested_places}
use Rattle.ob_coherent_spec.specs.Remaining.{HoldsToo, HoldToo, KnowsThis, Leads, at_end, StillOwns, MayTurn, GoOn, Remains}
use Rattle.ob_soundness_laws.proofs.remaining.Joins.{leads_first, leads_second, leads_self}
use Rattle.ob_soundness_laws.proofs.remaining.Knowing.{KnowsIf, terms_know, knows_tested, knows_other, knows_ended}
use Rattle.ob_soundness_laws.proofs.remaining.Remaining.{rest_remains}

-- Terms each way of which ends leave nothing.

abbrev IsNothing : Option Context → Type 0
IsNothing left = left ≡ None

both_nothing : (b : BodyFrame) (under : Permission) (first second left : Option Context) → LeavesBoth b under first second left → first ≡ None → second ≡ None → left ≡ None
both_nothing b under None second left e x y = e ∙ y
both_nothing b under (Some g) second left e x y = absurd (cc)

ended_nothing : (w : Permission) (o : Operand) (first left : Option Context) → EndsFirstBranch w o first left → first ≡ None → left ≡ None
ended_nothing (owned a) o first left e x = e ∙ x
ended_nothing shared o None left e x = e
ended_nothing shared o (Some g) left e x = absurd (cc)
ended_nothing unowned o first left e x = e ∙ x

rest_nothing : (b : BodyFrame) (ts : TestedPlaces) (rest : SilicaTerms) (mid left : Option Context)
    → ((j : Context) → derive_all b ts rest j ≡ Ok left → left ≡ None) → RestDerives b ts rest mid left → left ≡ None
rest_nothing b ts rest None left go e = e
rest_nothing b ts rest (Some j) left go e = go j e

mid_nothing : (b : BodyFrame) (ts : TestedPlaces) (rest : SilicaTerms) (mid left : Option Context) → mid ≡ None → RestDerives b ts rest mid left → left ≡ None
mid_nothing b ts rest None left e d = d
mid_nothing b ts rest (Some j) left e d = absurd (cc)

rest_ends : (x y : Bool) → x ≡ false → (x || y) ≡ true → y ≡ true
rest_ends true y z e = absurd (cc)
rest_ends false y z e = e

first_or_rest : (b : BodyFrame) (ts : TestedPlaces) (rest : SilicaTerms) (mid left : Option Context) (x : Bool) → x ≡ x
    → (x ≡ true → mid ≡ None) → (x ≡ false → (j : Context) → derive_all b ts rest j ≡ Ok left → left ≡ None) → RestDerives b ts rest mid left → left ≡ None
first_or_rest b ts rest mid left true e first go d = mid_nothing b ts rest mid left (first refl) d
first_or_rest b ts rest mid left false e first go d = rest_nothing b ts rest mid left (go refl) d

mutual
  form_leaves_nothing : (b : BodyFrame) (ts : TestedPlaces) (form : SilicaForm) (at : Span) (g : Context) (left : Option Context)
      → form_ends form ≡ true → Passes b ts form at g left → left ≡ None
  form_leaves_nothing b ts (return_form value) at g left e p = p.1
  form_leaves_nothing b ts (revert_form text) at g left e p = p.1
  form_leaves_nothing b ts (test_form o s branch other join) at g left e p =
      let ends = and_parts (terms_end branch) (terms_end other) e in
      both_nothing b (this_left p.first) p.ended p.second left p.joins
      (ended_nothing (counted g (located o)) o p.first p.ended p.branch_ends (leave_nothing b (tested_with (counted g (located o)) (located o) ts) branch _ p.first ends.0 p.branch_derives))
      (leave_nothing b ts other _ p.second ends.1 p.other_derives)
  form_leaves_nothing b ts (if_form a branch other join) at g left e p =
      let ends = and_parts (terms_end branch) (terms_end other) e in
      both_nothing b (this_left p.first) p.first p.second left p.joins
      (leave_nothing b ts branch g p.first ends.0 p.branch_derives) (leave_nothing b ts other g p.second ends.1 p.other_derives)
  form_leaves_nothing b ts unit_form at g left e p = absurd (cc)
  form_leaves_nothing b ts (const_form k value) at g left e p = absurd (cc)
  form_leaves_nothing b ts (op_form k operator x y line) at g left e p = absurd (cc)
  form_leaves_nothing b ts (copy_form to from) at g left e p = absurd (cc)
  form_leaves_nothing b ts (move_form to from c) at g left e p = absurd (cc)
  form_leaves_nothing b ts (new_form k c args) at g left e p = absurd (cc)
  form_leaves_nothing b ts (call_form k r c tx args) at g left e p = absurd (cc)
  form_leaves_nothing b ts (call_this_form k tx args) at g left e p = absurd (cc)
  form_leaves_nothing b ts (change_form s given) at g left e p = absurd (cc)
  form_leaves_nothing b ts (assert_form o perm) at g left e p = absurd (cc)
  form_leaves_nothing b ts (disown_form o) at g left e p = absurd (cc)
  form_leaves_nothing b ts (drop_form k) at g left e p = absurd (cc)
  form_leaves_nothing b ts bad_row_form at g left e p = absurd p
  form_leaves_nothing b ts (loop_form first a body end) at g left e p = absurd (cc)

  pub leave_nothing : (b : BodyFrame) (ts : TestedPlaces) (terms : SilicaTerms) (g : Context) (left : Option Context)
      → terms_end terms ≡ true → derive_all b ts terms g ≡ Ok left → left ≡ None
  leave_nothing b ts no_terms g left e d = absurd (cc)
  leave_nothing b ts (and_term form at rest) g left e d =
      let p = passes_all b ts (and_term form at rest) g left d in
      first_or_rest b ts rest p.mid left (form_ends form) refl
      (λ z. form_leaves_nothing b ts form at g p.mid z (passes b ts form at g p.mid p.derives))
      (λ z j. leave_nothing b ts rest j left (rest_ends (form_ends form) (terms_end rest) z e)) p.rest_derives

-- Holdings after two branches.

pub holds_self : (x : SlotContent) → HoldsToo x x
holds_self x = record { kind = λ kind e. e; refers = λ e. e }

common_first : (x y : Option Kind) (kind : Kind) → common_kind x y ≡ Some kind → x ≡ Some kind
common_first None y kind e = absurd (cc)
common_first (Some k) None kind e = absurd (cc)
common_first (Some k) (Some l) kind e = by_equal (kinds_equal k l) e
  where
    by_equal : (z : Bool) → (if z then Some k else None) ≡ Some kind → Some k ≡ Some kind
    by_equal true e = e
    by_equal false e = absurd (cc)

same_number : (m n : ℕ) → nat_eq m n ≡ true → m ≡ n
same_number m n e = grind arith

same_kinds : (k l : Kind) → kinds_equal k l ≡ true → k ≡ l
same_kinds Int Int e = refl
same_kinds Int BoolKind e = absurd (cc)
same_kinds Int Text e = absurd (cc)
same_kinds Int (Reference d) e = absurd (cc)
same_kinds BoolKind Int e = absurd (cc)
same_kinds BoolKind BoolKind e = refl
same_kinds BoolKind Text e = absurd (cc)
same_kinds BoolKind (Reference d) e = absurd (cc)
same_kinds Text Int e = absurd (cc)
same_kinds Text BoolKind e = absurd (cc)
same_kinds Text Text e = refl
same_kinds Text (Reference d) e = absurd (cc)
same_kinds (Reference c) Int e = absurd (cc)
same_kinds (Reference c) BoolKind e = absurd (cc)
same_kinds (Reference c) Text e = absurd (cc)
same_kinds (Reference c) (Reference d) e = ap Reference (ap (λ n. record { 0 = n }) (same_number c.0 d.0 e))

common_second : (x y : Option Kind) (kind : Kind) → common_kind x y ≡ Some kind → y ≡ Some kind
common_second None y kind e = absurd (cc)
common_second (Some k) None kind e = absurd (cc)
common_second (Some k) (Some l) kind e = by_equal (kinds_equal k l) refl e
  where
    by_equal : (z : Bool) → kinds_equal k l ≡ z → (if z then Some k else None) ≡ Some kind → Some l ≡ Some kind
    by_equal true q e = ap Some (sym (same_kinds k l q)) ∙ e
    by_equal false q e = absurd (cc)

holds_first : (x y : SlotContent) → HoldsToo x (either_way x y)
holds_first x y = record { kind = λ kind e. common_first x.kind y.kind kind e; refers = λ e. or_left x.refers y.refers e }

holds_second : (x y : SlotContent) → HoldsToo y (either_way x y)
holds_second x y = record { kind = λ kind e. common_second x.kind y.kind kind e; refers = λ e. or_right x.refers y.refers e }

pub holds_joined_first : (d e : Bool) (h i : Holdings) → d ≡ false → HoldToo h (joined d e h i)
holds_joined_first true e h i z = absurd (cc)
holds_joined_first false true h i z = λ k. holds_self (h k)
holds_joined_first false false h i z = λ k. holds_first (h k) (i k)

pub holds_joined_second : (d e : Bool) (h i : Holdings) → e ≡ false → HoldToo i (joined d e h i)
holds_joined_second true e h i z = λ k. holds_self (i k)
holds_joined_second false true h i z = absurd (cc)
holds_joined_second false false h i z = λ k. holds_second (h k) (i k)

-- where the end of terms is reached, not each way through them ends
pub reached_goes_on : (b : BodyFrame) (ts : TestedPlaces) (terms : SilicaTerms) (g j : Context) → derive_all b ts terms g ≡ Ok (Some j) → terms_end terms ≡ false
reached_goes_on b ts terms g j d = by_end (terms_end terms) refl
  where
    by_end : (z : Bool) → terms_end terms ≡ z → terms_end terms ≡ false
    by_end true e = absurd (let n : Some j ≡ None = leave_nothing b ts terms g (Some j) e d in cc)
    by_end false e = e

-- The terms after a form, around a branch of it.

-- where a branch reaches its end, the terms after the form go on, if the form leaves a context that may take the place of this one
abbrev pub EndsIn : BodyFrame → Context → Ends → Option Context → Type 0
EndsIn b g ends mid = StillOwns g ends × (j : Context) × (mid ≡ Some j) × Leads b (at_end g ends) j × KnowsThis b j

pub goes_after : (b : BodyFrame) (h h1 : Holdings) (g g1 : Context) (form : SilicaForm) (span : Span) (rest : SilicaTerms) (ends : Ends) (outer : List Rest) (mid : Option Context)
    → Remains b h g (and_term form span rest) outer → derive b (tested_places outer) form span g ≡ Ok mid
    → HoldToo h1 (after_form (static_of b) form h) → EndsIn b g1 ends mid
    → MayTurn b (tested_places outer) (λ left i. GoOn b left i outer) rest ends g1 h1
    → GoOn b (Some g1) h1 (record { terms = rest; ends = ends } ∷ outer)
goes_after b h h1 g g1 form span rest ends outer mid r d too e turn =
    let s = rest_remains b h g e.1 form span rest outer r (subst (λ z. derive b (tested_places outer) form span g ≡ Ok z) e.2 d) e.4 in
    (e.0, turn, (e.1, after_form (static_of b) form h, s.left, e.3, s.itself, too, s.formed, s.derived, s.after))

goes_if : (b : BodyFrame) (h h1 : Holdings) (g : Context) (left : Option Context) (form : SilicaForm) (span : Span) (rest : SilicaTerms) (ends : Ends) (outer : List Rest) (mid : Option Context)
    → Remains b h g (and_term form span rest) outer → derive b (tested_places outer) form span g ≡ Ok mid
    → ((g1 : Context) → left ≡ Some g1 → HoldToo h1 (after_form (static_of b) form h)) → ((g1 : Context) → left ≡ Some g1 → EndsIn b g1 ends mid)
    → ((g1 : Context) → MayTurn b (tested_places outer) (λ left i. GoOn b left i outer) rest ends g1 h1)
    → GoOn b left h1 (record { terms = rest; ends = ends } ∷ outer)
goes_if b h h1 g None form span rest ends outer mid r d too e turn = tt
goes_if b h h1 g (Some g1) form span rest ends outer mid r d too e turn = goes_after b h h1 g g1 form span rest ends outer mid r d (too g1 refl) (e g1 refl) (turn g1)

known_of : (b : BodyFrame) (x : Option Context) (g : Context) → x ≡ Some g → KnowsIf b x → KnowsThis b g
known_of b x g e y = subst (KnowsIf b) e y

-- what a join leaves after its first branch, and after its second
joins_first : (b : BodyFrame) (under : Permission) (g1 : Context) (second mid : Option Context) → KnowsThis b g1 → KnowsIf b second
    → LeavesBoth b under (Some g1) second mid → (j : Context) × (mid ≡ Some j) × Leads b g1 j × KnowsThis b j
joins_first b under g1 None mid x y e = (g1, e, leads_self b g1, x)
joins_first b under g1 (Some g2) mid x y e = (Rattle.ob_flow_spec.specs.Joining.joined_context g1 g2, e.1, leads_first b under g1 g2 x y e.0, Rattle.ob_soundness_laws.proofs.remaining.Joins.known_this_joined b g1 g2 x y)

joins_second : (b : BodyFrame) (under : Permission) (first : Option Context) (g2 : Context) (mid : Option Context) → KnowsIf b first → KnowsThis b g2
    → LeavesBoth b under first (Some g2) mid → (j : Context) × (mid ≡ Some j) × Leads b g2 j × KnowsThis b j
joins_second b under None g2 mid x y e = (g2, e, leads_self b g2, y)
joins_second b under (Some g1) g2 mid x y e = (Rattle.ob_flow_spec.specs.Joining.joined_context g1 g2, e.1, leads_second b under g1 g2 x y e.0, Rattle.ob_soundness_laws.proofs.remaining.Joins.known_this_joined b g1 g2 x y)

-- Conditions.

slots_branch : (a x y n : ℕ) → max a (max x y) ≤ n → x ≤ n
slots_branch a x y n h = omega (arith, h)

slots_other : (a x y n : ℕ) → max a (max x y) ≤ n → y ≤ n
slots_other a x y n h = omega (arith, h)

slots_form : (x y n : ℕ) → max x y ≤ n → x ≤ n
slots_form x y n h = omega (arith, h)

module _ (b : BodyFrame) (h : Holdings) (g : Context) (a : Operand) (branch other : SilicaTerms) (join span : Span) (rest : SilicaTerms) (outer : List Rest) where
  -- what is left in the first branch of a condition
  pub if_first : (mid : Option Context) → Remains b h g (and_term (if_form a branch other join) span rest) outer
      → derive b (tested_places outer) (if_form a branch other join) span g ≡ Ok mid
      → PassesIf b (tested_places outer) a branch other g mid
      → Remains b h g branch (record { terms = rest; ends = plain_end } ∷ outer)
  if_first mid r d p = record {
    formed = record { forms = r.formed.forms.1.0; slots = slots_branch (slots_of_operand a) (slots_of_terms branch) (slots_of_terms other) b.slots (slots_form (slots_of_form (if_form a branch other join)) (slots_of_terms rest) b.slots r.formed.slots) };
    itself = r.itself;
    left = p.first;
    derived = p.branch_derives;
    after = goes_if b h (after_terms (static_of b) branch h) g p.first (if_form a branch other join) span rest plain_end outer mid r d
        (λ g1 e. holds_joined_first (terms_end branch) (terms_end other) _ _ (reached_goes_on b (tested_places outer) branch g g1 (subst (λ z. derive_all b (tested_places outer) branch g ≡ Ok z) e p.branch_derives)))
        (λ g1 e. let known = terms_know b (tested_places outer) h branch g p.first r.formed.forms.1.0 p.branch_derives r.itself in
        let second = terms_know b (tested_places outer) h other g p.second r.formed.forms.1.1 p.other_derives r.itself in
        let j = joins_first b (this_left p.first) g1 p.second mid (known_of b p.first g1 e known) second (subst (λ z. LeavesBoth b (this_left p.first) z p.second mid) e p.joins) in
        (tt, j.0, j.1, j.2, j.3))
        (λ g1. tt);
  }

  -- what is left in the second one
  pub if_second : (mid : Option Context) → Remains b h g (and_term (if_form a branch other join) span rest) outer
      → derive b (tested_places outer) (if_form a branch other join) span g ≡ Ok mid
      → PassesIf b (tested_places outer) a branch other g mid
      → Remains b h g other (record { terms = rest; ends = plain_end } ∷ outer)
  if_second mid r d p = record {
    formed = record { forms = r.formed.forms.1.1; slots = slots_other (slots_of_operand a) (slots_of_terms branch) (slots_of_terms other) b.slots (slots_form (slots_of_form (if_form a branch other join)) (slots_of_terms rest) b.slots r.formed.slots) };
    itself = r.itself;
    left = p.second;
    derived = p.other_derives;
    after = goes_if b h (after_terms (static_of b) other h) g p.second (if_form a branch other join) span rest plain_end outer mid r d
        (λ g2 e. holds_joined_second (terms_end branch) (terms_end other) _ _ (reached_goes_on b (tested_places outer) other g g2 (subst (λ z. derive_all b (tested_places outer) other g ≡ Ok z) e p.other_derives)))
        (λ g2 e. let known = terms_know b (tested_places outer) h branch g p.first r.formed.forms.1.0 p.branch_derives r.itself in
        let second = terms_know b (tested_places outer) h other g p.second r.formed.forms.1.1 p.other_derives r.itself in
        let j = joins_second b (this_left p.first) p.first g2 mid known (known_of b p.second g2 e second) (subst (λ z. LeavesBoth b (this_left p.first) p.first z mid) e p.joins) in
        (tt, j.0, j.1, j.2, j.3))
        (λ g1. tt);
  }

-- Tests.

-- what ends with the first branch of a test, by the permission with which the place counts: nothing where an owner is tested,
-- and else the test of the place
abbrev pub EndsWith : Permission → Location → Ends → Type 0
EndsWith (owned a) p ends = ends ≡ plain_end
EndsWith shared p ends = (ends ≡ test_end p) ⊎ ((n : ℕ) × (ends ≡ lock_end p n))
EndsWith unowned p ends = ⊥

tested_around : (w : Permission) (p : Location) (rest : SilicaTerms) (ends : Ends) (outer : List Rest) → EndsWith w p ends
    → tested_places (record { terms = rest; ends = ends } ∷ outer) ≡ tested_with w p (tested_places outer)
tested_around (owned a) p rest ends outer e = rw e refl
tested_around shared p rest ends outer (inl e) = rw e refl
tested_around shared p rest ends outer (inr e) = rw e.1 refl
tested_around unowned p rest ends outer e = absurd e

-- the first branch of a test is no first part of a Loop
test_turns : (b : BodyFrame) (rest : SilicaTerms) (ends : Ends) (outer : List Rest) (w : Permission) (p : Location) → EndsWith w p ends → (g1 : Context) (h1 : Holdings)
    → MayTurn b (tested_places outer) (λ left i. GoOn b left i outer) rest ends g1 h1
test_turns b rest ends outer (owned a) p e g1 h1 = subst (λ x. MayTurn b (tested_places outer) (λ left i. GoOn b left i outer) rest x g1 h1) (sym e) tt
test_turns b rest ends outer shared p (inl e) g1 h1 = subst (λ x. MayTurn b (tested_places outer) (λ left i. GoOn b left i outer) rest x g1 h1) (sym e) tt
test_turns b rest ends outer shared p (inr e) g1 h1 = subst (λ x. MayTurn b (tested_places outer) (λ left i. GoOn b left i outer) rest x g1 h1) (sym e.1) tt
test_turns b rest ends outer unowned p e g1 h1 = absurd e

-- the context at the end of the first branch is the one that the rule leaves
ended_so : (b : BodyFrame) (w : Permission) (o : Operand) (ends : Ends) (g1 : Context) (ended : Option Context) → EndsWith w (located o) ends
    → EndsFirstBranch w o (Some g1) ended → StillOwns g1 ends × (ended ≡ Some (at_end g1 ends))
ended_so b (owned a) o ends g1 ended e f = rw e (tt, f)
ended_so b shared o ends g1 ended (inl e) f = rw e (f.0, f.1)
ended_so b shared o ends g1 ended (inr e) f = rw e.1 (f.0, f.1)
ended_so b unowned o ends g1 ended e f = absurd e

module _ (b : BodyFrame) (h : Holdings) (g : Context) (o : Operand) (s : StateId) (branch other : SilicaTerms) (join span : Span) (rest : SilicaTerms) (outer : List Rest) where
  -- what is left in the branch where a test holds
  pub test_first : (mid : Option Context) (ends : Ends) → Remains b h g (and_term (test_form o s branch other join) span rest) outer
      → derive b (tested_places outer) (test_form o s branch other join) span g ≡ Ok mid
      → PassesTest b (tested_places outer) o s branch other g mid → EndsWith (counted g (located o)) (located o) ends
      → Remains b h (in_tested_state (counted g (located o)) s (located o) g) branch (record { terms = rest; ends = ends } ∷ outer)
  test_first mid ends r d p w = record {
    formed = record { forms = r.formed.forms.1.0; slots = slots_branch (slots_of_operand o) (slots_of_terms branch) (slots_of_terms other) b.slots (slots_form (slots_of_form (test_form o s branch other join)) (slots_of_terms rest) b.slots r.formed.slots) };
    itself = knows_tested b (counted g (located o)) s (located o) g r.itself;
    left = p.first;
    derived = subst (λ ts. derive_all b ts branch (in_tested_state (counted g (located o)) s (located o) g) ≡ Ok p.first) (sym (tested_around (counted g (located o)) (located o) rest ends outer w)) p.branch_derives;
    after = goes_if b h (after_terms (static_of b) branch h) g p.first (test_form o s branch other join) span rest ends outer mid r d
        (λ g1 e. holds_joined_first (terms_end branch) (terms_end other) _ _ (reached_goes_on b _ branch _ g1 (subst (λ z. derive_all b (tested_with (counted g (located o)) (located o) (tested_places outer)) branch (in_tested_state (counted g (located o)) s (located o) g) ≡ Ok z) e p.branch_derives)))
        (λ g1 e. let known = terms_know b (tested_with (counted g (located o)) (located o) (tested_places outer)) h branch (in_tested_state (counted g (located o)) s (located o) g) p.first r.formed.forms.1.0 p.branch_derives (knows_tested b (counted g (located o)) s (located o) g r.itself) in
        let ended = knows_ended b (counted g (located o)) o p.first p.ended p.branch_ends known in
        let second = terms_know b (tested_places outer) h other (in_other_state (counted g (located o)) s (located o) g) p.second r.formed.forms.1.1 p.other_derives (knows_other b (counted g (located o)) s (located o) g r.itself) in
        let so = ended_so b (counted g (located o)) o ends g1 p.ended w (subst (λ z. EndsFirstBranch (counted g (located o)) o z p.ended) e p.branch_ends) in
        let j = joins_first b (this_left p.first) (at_end g1 ends) p.second mid (known_of b p.ended (at_end g1 ends) so.1 ended) second (subst (λ z. LeavesBoth b (this_left p.first) z p.second mid) so.1 p.joins) in
        (so.0, j.0, j.1, j.2, j.3))
        (λ g1. test_turns b rest ends outer (counted g (located o)) (located o) w g1 _);
  }

  -- what is left in the branch where it fails
  pub test_second : (mid : Option Context) → Remains b h g (and_term (test_form o s branch other join) span rest) outer
      → derive b (tested_places outer) (test_form o s branch other join) span g ≡ Ok mid
      → PassesTest b (tested_places outer) o s branch other g mid
      → Remains b h (in_other_state (counted g (located o)) s (located o) g) other (record { terms = rest; ends = plain_end } ∷ outer)
  test_second mid r d p = record {
    formed = record { forms = r.formed.forms.1.1; slots = slots_other (slots_of_operand o) (slots_of_terms branch) (slots_of_terms other) b.slots (slots_form (slots_of_form (test_form o s branch other join)) (slots_of_terms rest) b.slots r.formed.slots) };
    itself = knows_other b (counted g (located o)) s (located o) g r.itself;
    left = p.second;
    derived = p.other_derives;
    after = goes_if b h (after_terms (static_of b) other h) g p.second (test_form o s branch other join) span rest plain_end outer mid r d
        (λ g2 e. holds_joined_second (terms_end branch) (terms_end other) _ _ (reached_goes_on b _ other _ g2 (subst (λ z. derive_all b (tested_places outer) other (in_other_state (counted g (located o)) s (located o) g) ≡ Ok z) e p.other_derives)))
        (λ g2 e. let known = terms_know b (tested_with (counted g (located o)) (located o) (tested_places outer)) h branch (in_tested_state (counted g (located o)) s (located o) g) p.first r.formed.forms.1.0 p.branch_derives (knows_tested b (counted g (located o)) s (located o) g r.itself) in
        let ended = knows_ended b (counted g (located o)) o p.first p.ended p.branch_ends known in
        let second = terms_know b (tested_places outer) h other (in_other_state (counted g (located o)) s (located o) g) p.second r.formed.forms.1.1 p.other_derives (knows_other b (counted g (located o)) s (located o) g r.itself) in
        let j = joins_second b (this_left p.first) p.ended g2 mid ended (known_of b p.second g2 e second) (subst (λ z. LeavesBoth b (this_left p.first) p.ended z mid) e p.joins) in
        (tt, j.0, j.1, j.2, j.3))
        (λ g1. tt);
  }
