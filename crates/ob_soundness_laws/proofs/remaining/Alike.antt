-- What slots that are set hold after terms follows from what slots that were set held before them.
use Rattle.std.proofs.Common.{◌≡◌, ⊎_elim, ℕ, zero, suc, ◌<◌, Bool, true, false, List, [], ◌∷◌, Option, Some, None, Ok, refl, sym, ap, ◌∙◌, subst, eqb-true, arith}
use Rattle.std.specs.Prelude.{nat_eq, nat_lt, ◌&&◌, ◌||◌, option_map, if◌then◌else◌}
use Rattle.std.proofs.lemmas.Bool.{cases_Bool}
use Rattle.ob_base.specs.declared.fault.Span.{Span}
use Rattle.ob_base.specs.declared.id.StateId.{StateId}
use Rattle.ob_perm.specs.Masks.{permission_of}
use Rattle.ob_perm.specs.Permissions.{Permission, owned, shared, unowned, owns, kept}
use Rattle.ob_perm.specs.States.{only}
use Rattle.ob_table.specs.Tables.{ClassTable}
use Rattle.ob_table.specs.declared.contract.ResolvedType.{ResolvedType}
use Rattle.ob_table.specs.declared.contract.Signature.{Signature}
use Rattle.ob_table_spec.specs.WellFormed.{StaticFrame, kind_of_resolved}
use Rattle.ob_silica.specs.Terms.{SilicaForm, unit_form, const_form, op_form, copy_form, move_form, new_form, call_form, call_this_form, change_form, test_form, if_form, loop_form, assert_form, disown_form, drop_form, return_form, revert_form, bad_row_form, SilicaTerms, no_terms, and_term}
use Rattle.ob_silica.specs.declared.place.Given.{Given}
use Rattle.ob_silica.specs.declared.place.Operand.{Operand}
use Rattle.ob_silica.specs.declared.place.Place.{Place}
use Rattle.ob_silica.specs.declared.place.Place.TheVariants.{This, Slot, Field}
use Rattle.ob_silica_places.specs.Converting.{converted}
use Rattle.ob_silica_places.specs.Known.{Known}
use Rattle.ob_silica_places.specs.Parameters.{Parameter, parameters, all_parameters}
use Rattle.ob_silica_places.specs.Places.{Location, slot, field, this, located, location_of}
use Rattle.ob_silica_formed.specs.Holdings.{SlotContent, held, Holdings, with_slot, with_slot_if, kind_of_place, kind_of_operand, form_ends, terms_end, either_way, joined, after_form, after_terms, at_head, EachWithin, Each}
use Rattle.ob_flow_spec.specs.Binding.{reads_of, given_all, got_back, got_back_all, passed, with_result, wants_owner}
use Rattle.ob_flow_spec.specs.Calling.{all_reads, reads_with_this, fields_left}
use Rattle.ob_flow_spec.specs.Changing.{given_from, filled_all, got_all, in_state, refilled}
use Rattle.ob_flow_spec.specs.Contexts.{BodyFrame, static_of, Context, put, with_permission, now, permission_at, counted, is_set, TestedPlaces}
use Rattle.ob_flow_spec.specs.Deriving.{derive_all}
use Rattle.ob_flow_spec.specs.Filling.{after_fill, got}
use Rattle.ob_flow_spec.specs.Joining.{joined_known, joined_context}
use Rattle.ob_flow_spec.specs.Looping.{holding, is_kept, slot_at_head, head_context, is_as_at_head}
use Rattle.ob_flow_spec.specs.Testing.{in_tested_state, in_other_state, tested_with, this_left}
use Rattle.ob_flow_spec.specs.Uses.{Read, kind_known, given_to}
use Rattle.ob_flow_laws.specs.Deriving.{Passes, PassesSigned, PassesTurnIf, RestDerives}
use Rattle.ob_flow_laws.specs.Joining.{LeavesBoth}
use Rattle.ob_flow_laws.specs.Looping.{TurnsBack, TurnsBackIf}
use Rattle.ob_flow_laws.specs.Testing.{EndsFirstBranch}
use Rattle.ob_flow_laws.proofs.Deriving.{passes, passes_all}
use Rattle.ob_coherent_spec.specs.Remaining.{IsWellFormedForm}

-- Ends.

-- nothing is reached after terms exactly where each way through them ends
abbrev pub EndsSo : Option Context → Bool → Type 0
EndsSo None ends = ends ≡ true
EndsSo (Some g) ends = ends ≡ false

reaches : (left : Option Context) (j : Context) → left ≡ Some j → EndsSo left false
reaches left j e = subst (λ z. EndsSo z false) (sym e) refl

stops : (left : Option Context) → left ≡ None → EndsSo left true
stops left e = subst (λ z. EndsSo z true) (sym e) refl

both_end : (b : BodyFrame) (under : Permission) (first second left : Option Context) (d e : Bool) → LeavesBoth b under first second left
    → EndsSo first d → EndsSo second e → EndsSo left (d && e)
both_end b under None second left true e l x y = subst (λ z. EndsSo z e) (sym l) y
both_end b under None second left false e l x y = absurd (cc)
both_end b under (Some g) second left true e l x y = absurd (cc)
both_end b under (Some g) None left false e l x y = reaches left g l
both_end b under (Some g) (Some h) left false e l x y = reaches left (joined_context g h) l.1

branch_ends : (w : Permission) (o : Operand) (first left : Option Context) (d : Bool) → EndsFirstBranch w o first left → EndsSo first d → EndsSo left d
branch_ends (owned a) o first left d e x = subst (λ z. EndsSo z d) (sym e) x
branch_ends shared o None left d e x = subst (λ z. EndsSo z d) (sym e) x
branch_ends shared o (Some g) left d e x = subst (λ z. EndsSo z d) (sym e.1) x
branch_ends unowned o first left d e x = subst (λ z. EndsSo z d) (sym e) x

signed_ends : (signature : Option Signature) (Can : Signature → Type 0) (after : Signature → Context) (g : Context) (left : Option Context)
    → PassesSigned signature Can after g left → EndsSo left false
signed_ends None Can after g left p = reaches left g (p.unsigned refl)
signed_ends (Some s) Can after g left p = reaches left (after s) (p.signed s refl).1

turn_ends : (b : BodyFrame) (ts : TestedPlaces) (a : Operand) (body : SilicaTerms) (head : Context) (after left : Option Context) (d : Bool)
    → PassesTurnIf b ts a body head after left → EndsSo after d → d ≡ false → EndsSo left false
turn_ends b ts a body head None left d p x e = absurd (cc)
turn_ends b ts a body head (Some h) left d p x e = reaches left h p.leaves

then_ends : (b : BodyFrame) (ts : TestedPlaces) (rest : SilicaTerms) (mid left : Option Context) (d e : Bool)
    → ((j : Context) → derive_all b ts rest j ≡ Ok left → EndsSo left e) → EndsSo mid d → RestDerives b ts rest mid left → EndsSo left (d || e)
then_ends b ts rest None left true e go x r = stops left r
then_ends b ts rest None left false e go x r = absurd (cc)
then_ends b ts rest (Some j) left true e go x r = absurd (cc)
then_ends b ts rest (Some j) left false e go x r = go j r

mutual
  form_ends_so : (b : BodyFrame) (ts : TestedPlaces) (w : Holdings) (form : SilicaForm) (at : Span) (g : Context) (left : Option Context)
      → IsWellFormedForm (static_of b) w form → EachWithin IsWellFormedForm (static_of b) w form → Passes b ts form at g left → EndsSo left (form_ends form)
  form_ends_so b ts w unit_form at g left formed each p = reaches left _ p
  form_ends_so b ts w (const_form k value) at g left formed each p = reaches left _ p
  form_ends_so b ts w (op_form k operator x y line) at g left formed each p = reaches left _ p.1
  form_ends_so b ts w (copy_form to from) at g left formed each p = reaches left _ p.1
  form_ends_so b ts w (move_form to from c) at g left formed each p = reaches left _ p.1
  form_ends_so b ts w (new_form k c args) at g left formed each p = signed_ends _ _ _ g left p
  form_ends_so b ts w (call_form k r c tx args) at g left formed each p = signed_ends _ _ _ g left p
  form_ends_so b ts w (call_this_form k tx args) at g left formed each p = signed_ends _ _ _ g left p
  form_ends_so b ts w (change_form s given) at g left formed each p = reaches left _ p.1
  form_ends_so b ts w (test_form o s branch other join) at g left formed each p =
      both_end b (this_left p.first) p.ended p.second left (terms_end branch) (terms_end other) p.joins
      (branch_ends (counted g (located o)) o p.first p.ended (terms_end branch) p.branch_ends
      (terms_end_so b (tested_with (counted g (located o)) (located o) ts) w branch _ p.first each.0 p.branch_derives))
      (terms_end_so b ts w other _ p.second each.1 p.other_derives)
  form_ends_so b ts w (if_form a branch other join) at g left formed each p =
      both_end b (this_left p.first) p.first p.second left (terms_end branch) (terms_end other) p.joins
      (terms_end_so b ts w branch g p.first each.0 p.branch_derives) (terms_end_so b ts w other g p.second each.1 p.other_derives)
  form_ends_so b ts w (loop_form first a body end) at g left formed each p =
      turn_ends b ts a body (head_context b first body g) p.after left (terms_end first) p.turn
      (terms_end_so b ts (at_head (static_of b) first body w) first (head_context b first body g) p.after each.0 p.first_derives) formed.turns.1
  form_ends_so b ts w (assert_form o perm) at g left formed each p = reaches left _ p.1
  form_ends_so b ts w (disown_form o) at g left formed each p = reaches left _ p.1
  form_ends_so b ts w (drop_form k) at g left formed each p = reaches left _ p.1
  form_ends_so b ts w (return_form value) at g left formed each p = stops left p.1
  form_ends_so b ts w (revert_form text) at g left formed each p = stops left p.1
  form_ends_so b ts w bad_row_form at g left formed each p = absurd p

  terms_end_so : (b : BodyFrame) (ts : TestedPlaces) (w : Holdings) (terms : SilicaTerms) (g : Context) (left : Option Context)
      → Each IsWellFormedForm (static_of b) w terms → derive_all b ts terms g ≡ Ok left → EndsSo left (terms_end terms)
  terms_end_so b ts w no_terms g left each d = reaches left g (passes_all b ts no_terms g left d)
  terms_end_so b ts w (and_term form at rest) g left each d =
      let p = passes_all b ts (and_term form at rest) g left d in
      then_ends b ts rest p.mid left (form_ends form) (terms_end rest)
      (λ j e. terms_end_so b ts (after_form (static_of b) form w) rest j left each.2 e)
      (form_ends_so b ts w form at g p.mid each.0 each.1 (passes b ts form at g p.mid p.derives)) p.rest_derives

-- Slots that are set.

-- each slot that is set in the first context is set in the second
abbrev SetIn : Context → Context → Type 0
SetIn j g = (k : ℕ) → is_set (j (slot k)) ≡ true → is_set (g (slot k)) ≡ true

set_permission : (w : Permission) (x : Option Known) → is_set (with_permission w x) ≡ true → is_set x ≡ true
set_permission w None e = e
set_permission w (Some x) e = refl

set_now : (g : Context) (p : Location) (w : Permission) → SetIn (now g p w) g
set_now g (field f) w k e = e
set_now g (slot m) w k e = by_same (nat_eq k m) refl e
  where
    by_same : (z : Bool) → nat_eq k m ≡ z → is_set (if z then with_permission w (g (slot m)) else g (slot k)) ≡ true → is_set (g (slot k)) ≡ true
    by_same true q e = subst (λ n. is_set (g (slot n)) ≡ true) (sym (eqb-true k m q)) (set_permission w (g (slot m)) e)
    by_same false q e = e

set_given : (g : Context) (rs : List Read) (ps : List Parameter) → SetIn (given_all g rs ps) g
set_given g [] ps k e = e
set_given g (r ∷ rs) [] k e = e
set_given g (r ∷ rs) (p ∷ ps) k e = set_now g r.location _ k (set_given (given_to g r.location p) rs ps k e)

set_back : (b : BodyFrame) (g : Context) (p : Location) (to : Parameter) → SetIn (got_back b g p to) g
set_back b g p to k e = by_want (wants_owner to) e
  where
    by_want : (z : Bool) → is_set ((if z then now g p (converted b.table (kind_of_resolved to.of) (kind_known (g p)) (permission_of to.exit)) else g) (slot k)) ≡ true
        → is_set (g (slot k)) ≡ true
    by_want true e = set_now g p _ k e
    by_want false e = e

set_all_back : (b : BodyFrame) (g : Context) (rs : List Read) (ps : List Parameter) → SetIn (got_back_all b g rs ps) g
set_all_back b g [] ps k e = e
set_all_back b g (r ∷ rs) [] k e = e
set_all_back b g (r ∷ rs) (p ∷ ps) k e = set_back b g r.location p k (set_all_back b (got_back b g r.location p) rs ps k e)

set_passed : (b : BodyFrame) (g : Context) (rs : List Read) (ps : List Parameter) → SetIn (passed b g rs ps) g
set_passed b g rs ps k e = set_given g rs ps k (set_all_back b (given_all g rs ps) rs ps k e)

set_filled : (b : BodyFrame) (g : Context) (xs : List Given) → SetIn (filled_all b g xs) g
set_filled b g [] k e = e
set_filled b g (x ∷ xs) k e = set_now g (given_from x) _ k (set_filled b (after_fill b g x.field.0 (given_from x)) xs k e)

set_got : (b : BodyFrame) (g : Context) (xs : List Given) (h : Context) → SetIn (got_all b g xs h) h
set_got b g [] h k e = e
set_got b g (x ∷ xs) h k e =
    set_got b (after_fill b g x.field.0 (given_from x)) xs (put h (field x.field.0) (got b g x.field.0 (given_from x))) k e

set_in_state : (b : BodyFrame) (s : StateId) (g : Context) → SetIn (in_state b s g) g
set_in_state b s g k e = by_own (nat_eq k 0 && owns (permission_at g this)) e
  where
    by_own : (z : Bool) → is_set (if z then with_permission (owned (only s.0)) (g (slot k)) else g (slot k)) ≡ true → is_set (g (slot k)) ≡ true
    by_own true e = set_permission (owned (only s.0)) (g (slot k)) e
    by_own false e = e

set_changed : (b : BodyFrame) (s : StateId) (g : Context) (xs : List Given) → SetIn (in_state b s (refilled b g xs)) g
set_changed b s g xs k e = set_filled b g xs k (set_got b g xs (filled_all b g xs) k (set_in_state b s (refilled b g xs) k e))

set_tested : (w : Permission) (s : StateId) (p : Location) (g : Context) → SetIn (in_tested_state w s p g) g
set_tested (owned a) s p g = set_now g p _
set_tested shared s p g = set_now g p _
set_tested unowned s p g = λ k e. e

set_other : (w : Permission) (s : StateId) (p : Location) (g : Context) → SetIn (in_other_state w s p g) g
set_other (owned a) s p g = set_now g p _
set_other shared s p g = λ k e. e
set_other unowned s p g = λ k e. e

set_both : (x y : Option Known) → is_set (joined_known x y) ≡ true → (is_set x ≡ true) × (is_set y ≡ true)
set_both None y e = absurd (cc)
set_both (Some x) None e = absurd (cc)
set_both (Some x) (Some y) e = (refl, refl)

-- Holdings that say the same.

-- of each slot that is set in the context, both holdings say the same
abbrev pub HoldAlike : Context → Holdings → Holdings → Type 0
HoldAlike g h i = (k : ℕ) → is_set (g (slot k)) ≡ true → h k ≡ i k

-- the same wherever a point is reached
abbrev AlikeIf : Option Context → Holdings → Holdings → Type 0
AlikeIf None h i = Unit {0}
AlikeIf (Some g) h i = HoldAlike g h i

as_alike : (x y : Option Context) (h i : Holdings) → x ≡ y → AlikeIf y h i → AlikeIf x h i
as_alike x y h i e a = subst (λ z. AlikeIf z h i) (sym e) a

alike_in : (j g : Context) (h i : Holdings) → SetIn j g → HoldAlike g h i → HoldAlike j h i
alike_in j g h i s a k e = a k (s k e)

alike_slot : (g : Context) (k : ℕ) (x : Option Known) (y : SlotContent) (h i : Holdings) → HoldAlike g h i
    → HoldAlike (put g (slot k) x) (with_slot k y h) (with_slot k y i)
alike_slot g k x y h i a m e = by_same (nat_eq m k) e
  where
    by_same : (z : Bool) → is_set (if z then x else g (slot m)) ≡ true → (if z then y else h m) ≡ (if z then y else i m)
    by_same true e = refl
    by_same false e = a m e

alike_now : (g : Context) (p : Location) (w : Permission) (h i : Holdings) → HoldAlike g h i → HoldAlike (now g p w) h i
alike_now g p w h i a = alike_in (now g p w) g h i (set_now g p w) a

alike_with : (g : Context) (k : Option ℕ) (y : SlotContent) (h i : Holdings) → HoldAlike g h i → HoldAlike g (with_slot_if k y h) (with_slot_if k y i)
alike_with g None y h i a m e = a m e
alike_with g (Some k) y h i a m e = by_same (nat_eq m k)
  where
    by_same : (z : Bool) → (if z then y else h m) ≡ (if z then y else i m)
    by_same true = refl
    by_same false = a m e

alike_result : (g : Context) (k : Option ℕ) (of : Option ResolvedType) (y : SlotContent) (h i : Holdings) → HoldAlike g h i
    → HoldAlike (with_result g k of) (with_slot_if k y h) (with_slot_if k y i)
alike_result g None of y h i a = a
alike_result g (Some k) None y h i a = alike_with g (Some k) y h i a
alike_result g (Some k) (Some of) y h i a = alike_slot g k _ y h i a

place_alike : (f : StaticFrame) (g : Context) (h i : Holdings) (place : Place) → HoldAlike g h i → is_set (g (location_of place)) ≡ true
    → kind_of_place f h place ≡ kind_of_place f i place
place_alike f g h i This a e = refl
place_alike f g h i (Slot k) a e = ap (λ (x : SlotContent). x.kind) (a k e)
place_alike f g h i (Field id) a e = refl

-- a copy gives the slot what the place from which it is set is said to hold
alike_copy : (f : StaticFrame) (g : Context) (k : ℕ) (x : Option Known) (from : Operand) (h i : Holdings) → HoldAlike g h i
    → is_set (g (located from)) ≡ true
    → HoldAlike (put g (slot k) x) (with_slot k (held (kind_of_operand f h from)) h) (with_slot k (held (kind_of_operand f i from)) i)
alike_copy f g k x from h i a e =
    subst (λ z. HoldAlike (put g (slot k) x) (with_slot k (held (kind_of_operand f h from)) h) (with_slot k (held z) i))
    (place_alike f g h i from.place a e) (alike_slot g k x (held (kind_of_operand f h from)) h i a)

alike_signed : (signature : Option Signature) (Can : Signature → Type 0) (after : Signature → Context) (g : Context) (left : Option Context) (h i : Holdings)
    → PassesSigned signature Can after g left → ((s : Signature) → HoldAlike (after s) h i) → HoldAlike g h i → AlikeIf left h i
alike_signed None Can after g left h i p each a = as_alike left (Some g) h i (p.unsigned refl) a
alike_signed (Some s) Can after g left h i p each a = as_alike left (Some (after s)) h i (p.signed s refl).1 (each s)

alike_ended : (w : Permission) (o : Operand) (first left : Option Context) (h i : Holdings) → EndsFirstBranch w o first left → AlikeIf first h i
    → AlikeIf left h i
alike_ended (owned a) o first left h i e x = as_alike left first h i e x
alike_ended shared o None left h i e x = as_alike left None h i e tt
alike_ended shared o (Some g) left h i e x = as_alike left (Some (now g (located o) shared)) h i e.1 (alike_now g (located o) shared h i x)
alike_ended unowned o first left h i e x = as_alike left first h i e x

either_alike : (x y p q : SlotContent) → x ≡ p → y ≡ q → either_way x y ≡ either_way p q
either_alike x y p q e f = ap (λ z. either_way z y) e ∙ ap (either_way p) f

alike_both : (b : BodyFrame) (under : Permission) (first second left : Option Context) (d e : Bool) (h h2 i i2 : Holdings)
    → LeavesBoth b under first second left → EndsSo first d → EndsSo second e → AlikeIf first h i → AlikeIf second h2 i2
    → AlikeIf left (joined d e h h2) (joined d e i i2)
alike_both b under None second left true e h h2 i i2 l x y a c = as_alike left second h2 i2 l c
alike_both b under None second left false e h h2 i i2 l x y a c = absurd (cc)
alike_both b under (Some g) second left true e h h2 i i2 l x y a c = absurd (cc)
alike_both b under (Some g) None left false true h h2 i i2 l x y a c = as_alike left (Some g) h i l a
alike_both b under (Some g) None left false false h h2 i i2 l x y a c = absurd (cc)
alike_both b under (Some g) (Some j) left false true h h2 i i2 l x y a c = absurd (cc)
alike_both b under (Some g) (Some j) left false false h h2 i i2 l x y a c =
    as_alike left (Some (joined_context g j)) (joined false false h h2) (joined false false i i2) l.1
    (λ k e. let s = set_both (g (slot k)) (j (slot k)) e in either_alike (h k) (h2 k) (i k) (i2 k) (a k s.0) (c k s.1))

-- The head of a Loop.

cut_same : (z : Bool) (x : Option Known) → is_set (if z then x else None) ≡ true → (if z then x else None) ≡ x
cut_same true x e = refl
cut_same false x e = absurd (cc)

slot_same : (b : BodyFrame) (first body : SilicaTerms) (g : Context) (k : ℕ) (x : Option Known) → is_set (slot_at_head b first body g k x) ≡ true
    → slot_at_head b first body g k x ≡ x
slot_same b first body g k None e = refl
slot_same b first body g k (Some x) e = cut_same (is_kept b first body g k x) (Some x) e

-- a slot that is set at the head is known there as before the Loop
head_same : (b : BodyFrame) (first body : SilicaTerms) (g : Context) (k : ℕ) → is_set (head_context b first body g (slot k)) ≡ true
    → head_context b first body g (slot k) ≡ g (slot k)
head_same b first body g zero e = refl
head_same b first body g (suc k) e = by_below (nat_lt (suc k) b.slots) e
  where
    by_below : (z : Bool) → is_set (if z then slot_at_head b first body g (suc k) (g (slot (suc k))) else None) ≡ true
        → (if z then slot_at_head b first body g (suc k) (g (slot (suc k))) else None) ≡ g (slot (suc k))
    by_below true e = slot_same b first body g (suc k) (g (slot (suc k))) e
    by_below false e = absurd (cc)

set_head : (b : BodyFrame) (first body : SilicaTerms) (g : Context) → SetIn (head_context b first body g) g
set_head b first body g k e = subst (λ x. is_set x ≡ true) (head_same b first body g k e) e

pub is_below : (m n : ℕ) → nat_lt m n ≡ true → m < n
is_below m n e = grind arith

set_place : (table : ClassTable) (x y : Option Known) → is_as_at_head table x y ≡ true → is_set x ≡ true → is_set y ≡ true
set_place table None y e s = absurd (cc)
set_place table (Some x) None e s = absurd (cc)
set_place table (Some x) (Some y) e s = refl

-- each slot that is set at the head is set where a turn ends
set_turn : (b : BodyFrame) (first body : SilicaTerms) (g j : Context) → TurnsBack b (head_context b first body g) j → SetIn (head_context b first body g) j
set_turn b first body g j t zero s = set_place b.table (g (slot zero)) (j (slot zero)) t.itself s
set_turn b first body g j t (suc k) s = ⊎_elim
    (λ e. set_place b.table (head_context b first body g (slot (suc k))) (j (slot (suc k))) (t.slots (suc k) (is_below (suc k) b.slots e)) s)
    (λ e. absurd (unset (nat_lt (suc k) b.slots) e s))
    (cases_Bool (nat_lt (suc k) b.slots))
  where
    unset : (z : Bool) → z ≡ false → is_set (if z then slot_at_head b first body g (suc k) (g (slot (suc k))) else None) ≡ true → ⊥
    unset true e s = cc
    unset false e s = cc

alike_turn : (b : BodyFrame) (first body : SilicaTerms) (g : Context) (turned : Option Context) (z : Bool) (h h2 i i2 : Holdings) → EndsSo turned z
    → TurnsBackIf b (head_context b first body g) turned → HoldAlike (head_context b first body g) h i → AlikeIf turned h2 i2
    → HoldAlike (head_context b first body g) (joined false z h h2) (joined false z i i2)
alike_turn b first body g None true h h2 i i2 x t a c = a
alike_turn b first body g None false h h2 i i2 x t a c = absurd (cc)
alike_turn b first body g (Some j) true h h2 i i2 x t a c = absurd (cc)
alike_turn b first body g (Some j) false h h2 i i2 x t a c =
    λ k e. either_alike (h k) (h2 k) (i k) (i2 k) (a k e) (c k (set_turn b first body g j t k e))

-- where holdings are alike at the head of a Loop and after its turn, they are so after it
alike_loop : (b : BodyFrame) (ts : TestedPlaces) (a : Operand) (first body : SilicaTerms) (g : Context) (after left : Option Context) (h i : Holdings)
    → PassesTurnIf b ts a body (head_context b first body g) after left
    → AlikeIf after (after_terms (static_of b) first h) (after_terms (static_of b) first i)
    → ((j : Context) (turned : Option Context) → derive_all b ts body j ≡ Ok turned → EndsSo turned (terms_end body))
    → ((j : Context) (turned : Option Context) → derive_all b ts body j ≡ Ok turned
    → HoldAlike j (after_terms (static_of b) first h) (after_terms (static_of b) first i)
    → AlikeIf turned (after_terms (static_of b) body (after_terms (static_of b) first h)) (after_terms (static_of b) body (after_terms (static_of b) first i)))
    → HoldAlike (head_context b first body g) h i
    → (HoldAlike (head_context b first body g) (at_head (static_of b) first body h) (at_head (static_of b) first body i)
    → AlikeIf after (after_terms (static_of b) first (at_head (static_of b) first body h)) (after_terms (static_of b) first (at_head (static_of b) first body i)))
    → AlikeIf left (after_terms (static_of b) first (at_head (static_of b) first body h)) (after_terms (static_of b) first (at_head (static_of b) first body i))
alike_loop b ts a first body g None left h i p x ends go y again = as_alike left None _ _ p tt
alike_loop b ts a first body g (Some j) left h i p x ends go y again =
    as_alike left (Some j) _ _ p.leaves
    (again (alike_turn b first body g p.turned (terms_end body) h _ i _ (ends j p.turned p.body_derives) p.turns y (go j p.turned p.body_derives x)))

then_alike : (b : BodyFrame) (ts : TestedPlaces) (rest : SilicaTerms) (mid left : Option Context) (h i h2 i2 : Holdings)
    → ((j : Context) → derive_all b ts rest j ≡ Ok left → HoldAlike j h i → AlikeIf left h2 i2) → AlikeIf mid h i → RestDerives b ts rest mid left
    → AlikeIf left h2 i2
then_alike b ts rest None left h i h2 i2 go a e = as_alike left None h2 i2 e tt
then_alike b ts rest (Some j) left h i h2 i2 go a e = go j e a

-- Forms and terms: holdings that are alike before them are so after them.

mutual
  form_alike : (b : BodyFrame) (ts : TestedPlaces) (w h i : Holdings) (form : SilicaForm) (at : Span) (g : Context) (left : Option Context)
      → IsWellFormedForm (static_of b) w form → EachWithin IsWellFormedForm (static_of b) w form → Passes b ts form at g left → HoldAlike g h i
      → AlikeIf left (after_form (static_of b) form h) (after_form (static_of b) form i)
  form_alike b ts w h i unit_form at g left formed each p a = as_alike left (Some g) h i p a
  form_alike b ts w h i (const_form k value) at g left formed each p a = as_alike left _ _ _ p (alike_slot g k _ _ h i a)
  form_alike b ts w h i (op_form k operator x y line) at g left formed each p a = as_alike left _ _ _ p.1 (alike_slot g k _ _ h i a)
  form_alike b ts w h i (copy_form This from) at g left formed each p a = as_alike left _ _ _ p.1 (alike_copy (static_of b) g 0 _ from h i a p.0.usable.readable.set)
  form_alike b ts w h i (copy_form (Slot k) from) at g left formed each p a = as_alike left _ _ _ p.1 (alike_copy (static_of b) g k _ from h i a p.0.usable.readable.set)
  form_alike b ts w h i (copy_form (Field id) from) at g left formed each p a = as_alike left _ _ _ p.1 a
  form_alike b ts w h i (move_form This from c) at g left formed each p a =
      let before = now g (located from) (kept (permission_at g (located from)) (counted g (located from))) in
      as_alike left _ _ _ p.1 (alike_slot before 0 _ _ h i (alike_now g (located from) (kept (permission_at g (located from)) (counted g (located from))) h i a))
  form_alike b ts w h i (move_form (Slot k) from c) at g left formed each p a =
      let before = now g (located from) (kept (permission_at g (located from)) (counted g (located from))) in
      as_alike left _ _ _ p.1 (alike_slot before k _ _ h i (alike_now g (located from) (kept (permission_at g (located from)) (counted g (located from))) h i a))
  form_alike b ts w h i (move_form (Field id) from c) at g left formed each p a =
      as_alike left _ _ _ p.1 (alike_in (after_fill b g id.0 (located from)) g h i (set_now g (located from) _) a)
  form_alike b ts w h i (new_form k c args) at g left formed each p a =
      alike_signed _ _ _ g left _ _ p
      (λ s. alike_slot (passed b g (reads_of args) (parameters s)) k _ _ h i (alike_in (passed b g (reads_of args) (parameters s)) g h i (set_passed b g (reads_of args) (parameters s)) a))
      (alike_with g (Some k) _ h i a)
  form_alike b ts w h i (call_form k r c tx args) at g left formed each p a =
      alike_signed _ _ _ g left _ _ p
      (λ s. alike_result (passed b g (all_reads r args) (all_parameters c s)) k s.result _ h i
      (alike_in (passed b g (all_reads r args) (all_parameters c s)) g h i (set_passed b g (all_reads r args) (all_parameters c s)) a))
      (alike_with g k _ h i a)
  form_alike b ts w h i (call_this_form k tx args) at g left formed each p a =
      alike_signed _ _ _ g left _ _ p
      (λ s. alike_result (fields_left b s (passed b g (reads_with_this at args) (all_parameters b.here s))) k s.result _ h i
      (alike_in (fields_left b s (passed b g (reads_with_this at args) (all_parameters b.here s))) g h i
      (set_passed b g (reads_with_this at args) (all_parameters b.here s)) a))
      (alike_with g k _ h i a)
  form_alike b ts w h i (change_form s given) at g left formed each p a = as_alike left _ _ _ p.1 (alike_in (in_state b s (refilled b g given)) g h i (set_changed b s g given) a)
  form_alike b ts w h i (test_form o s branch other join) at g left formed each p a =
      let count = counted g (located o) in
      let more = tested_with count (located o) ts in
      let one = in_tested_state count s (located o) g in
      let two = in_other_state count s (located o) g in
      alike_both b (this_left p.first) p.ended p.second left (terms_end branch) (terms_end other) _ _ _ _ p.joins
      (branch_ends count o p.first p.ended (terms_end branch) p.branch_ends (terms_end_so b more w branch one p.first each.0 p.branch_derives))
      (terms_end_so b ts w other two p.second each.1 p.other_derives)
      (alike_ended count o p.first p.ended _ _ p.branch_ends
      (terms_alike b more w h i branch one p.first each.0 p.branch_derives (alike_in one g h i (set_tested count s (located o) g) a)))
      (terms_alike b ts w h i other two p.second each.1 p.other_derives (alike_in two g h i (set_other count s (located o) g) a))
  form_alike b ts w h i (if_form c branch other join) at g left formed each p a =
      alike_both b (this_left p.first) p.first p.second left (terms_end branch) (terms_end other) _ _ _ _ p.joins
      (terms_end_so b ts w branch g p.first each.0 p.branch_derives) (terms_end_so b ts w other g p.second each.1 p.other_derives)
      (terms_alike b ts w h i branch g p.first each.0 p.branch_derives a) (terms_alike b ts w h i other g p.second each.1 p.other_derives a)
  form_alike b ts w h i (loop_form first c body end) at g left formed each p a =
      let f = static_of b in
      let head = head_context b first body g in
      let before = alike_in head g h i (set_head b first body g) a in
      alike_loop b ts c first body g p.after left h i p.turn
      (terms_alike b ts (at_head f first body w) h i first head p.after each.0 p.first_derives before)
      (λ j turned d. terms_end_so b ts (after_terms f first (at_head f first body w)) body j turned each.1 d)
      (λ j turned d x. terms_alike b ts (after_terms f first (at_head f first body w)) (after_terms f first h) (after_terms f first i) body j turned each.1 d x)
      before
      (λ x. terms_alike b ts (at_head f first body w) (at_head f first body h) (at_head f first body i) first head p.after each.0 p.first_derives x)
  form_alike b ts w h i (assert_form o perm) at g left formed each p a = as_alike left (Some g) h i p.1 a
  form_alike b ts w h i (disown_form o) at g left formed each p a = as_alike left _ _ _ p.1 (alike_now g (located o) unowned h i a)
  form_alike b ts w h i (drop_form k) at g left formed each p a = as_alike left _ _ _ p.1 (alike_slot g k None _ h i a)
  form_alike b ts w h i (return_form value) at g left formed each p a = as_alike left None _ _ p.1 tt
  form_alike b ts w h i (revert_form text) at g left formed each p a = as_alike left None _ _ p.1 tt
  form_alike b ts w h i bad_row_form at g left formed each p a = absurd p

  terms_alike : (b : BodyFrame) (ts : TestedPlaces) (w h i : Holdings) (terms : SilicaTerms) (g : Context) (left : Option Context)
      → Each IsWellFormedForm (static_of b) w terms → derive_all b ts terms g ≡ Ok left → HoldAlike g h i
      → AlikeIf left (after_terms (static_of b) terms h) (after_terms (static_of b) terms i)
  terms_alike b ts w h i no_terms g left each d a = as_alike left (Some g) h i (passes_all b ts no_terms g left d) a
  terms_alike b ts w h i (and_term form at rest) g left each d a =
      let f = static_of b in
      let p = passes_all b ts (and_term form at rest) g left d in
      then_alike b ts rest p.mid left (after_form f form h) (after_form f form i) _ _
      (λ j e x. terms_alike b ts (after_form f form w) (after_form f form h) (after_form f form i) rest j left each.2 e x)
      (form_alike b ts w h i form at g p.mid each.0 each.1 (passes b ts form at g p.mid p.derives) a) p.rest_derives

-- Where a turn from the head of a Loop ends as it began, what is known at the head and what is known before the Loop say the same of
-- what slots that are set at the head hold there.
pub head_alike : (b : BodyFrame) (ts : TestedPlaces) (w : Holdings) (first body : SilicaTerms) (g j : Context) (turned : Option Context)
    → Each IsWellFormedForm (static_of b) (at_head (static_of b) first body w) first
    → Each IsWellFormedForm (static_of b) (after_terms (static_of b) first (at_head (static_of b) first body w)) body
    → derive_all b ts first (head_context b first body g) ≡ Ok (Some j) → derive_all b ts body j ≡ Ok turned
    → TurnsBackIf b (head_context b first body g) turned
    → HoldAlike (head_context b first body g) (at_head (static_of b) first body (holding (head_context b first body g)))
    (at_head (static_of b) first body (holding g))
head_alike b ts w first body g j turned one two d e t =
    let f = static_of b in
    let head = head_context b first body g in
    let before : HoldAlike head (holding head) (holding g) = λ k s. ap (λ (x : Option Known). held (option_map (λ (y : Known). y.kind) x)) (head_same b first body g k s) in
    alike_turn b first body g turned (terms_end body) (holding head) _ (holding g) _
    (terms_end_so b ts (after_terms f first (at_head f first body w)) body j turned two e) t before
    (terms_alike b ts (after_terms f first (at_head f first body w)) (after_terms f first (holding head)) (after_terms f first (holding g)) body j turned two e
    (terms_alike b ts (at_head f first body w) (holding head) (holding g) first head (Some j) one d before))
