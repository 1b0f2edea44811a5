-- A context that knows `this` knows it after each form.
use Rattle.std.proofs.Common.{◌≡◌, ℕ, zero, suc, ◌<◌, Bool, true, false, List, [], ◌∷◌, Option, Some, None, Ok, refl, sym, subst, arith}
use Rattle.std.specs.Prelude.{nat_eq, IfSome, if◌then◌else◌}
use Rattle.ob_base.specs.declared.fault.Span.{Span}
use Rattle.ob_base.specs.declared.id.StateId.{StateId}
use Rattle.ob_perm.specs.Permissions.{Permission, owned, shared, unowned, kept}
use Rattle.ob_table.specs.declared.contract.ResolvedType.{ResolvedType}
use Rattle.ob_table.specs.declared.contract.ResolvedType.TheVariants.{Reference as TypedReference}
use Rattle.ob_table.specs.declared.contract.Signature.{Signature}
use Rattle.ob_table_spec.specs.WellFormed.{StaticFrame}
use Rattle.ob_silica.specs.Terms.{SilicaForm, unit_form, const_form, op_form, copy_form, move_form, new_form, call_form, call_this_form, change_form, test_form, if_form, loop_form, assert_form, disown_form, drop_form, return_form, revert_form, bad_row_form, SilicaTerms, no_terms, and_term}
use Rattle.ob_silica.specs.declared.place.Given.{Given}
use Rattle.ob_silica.specs.declared.place.Operand.{Operand}
use Rattle.ob_silica.specs.declared.place.Place.TheVariants.{This, Slot, Field}
use Rattle.ob_silica_places.specs.Known.{Known, permission_of_type}
use Rattle.ob_silica_places.specs.Parameters.{Parameter, parameters, all_parameters}
use Rattle.ob_silica_places.specs.Places.{Location, slot, field, this, located}
use Rattle.ob_silica_formed.specs.Holdings.{Holdings, slot_written, after_form, at_head, EachWithin, Each}
use Rattle.ob_silica_formed.specs.Points.{LeavesParams}
use Rattle.ob_flow_spec.specs.Binding.{reads_of, given_all, got_back, got_back_all, passed, with_result, wants_owner}
use Rattle.ob_flow_spec.specs.Calling.{all_reads, reads_with_this, fields_left}
use Rattle.ob_flow_spec.specs.Changing.{given_from, filled_all, got_all, in_state, refilled}
use Rattle.ob_flow_spec.specs.Contexts.{BodyFrame, Context, TestedPlaces, put, now, counted, permission_at, declared_permission, known_as, static_of}
use Rattle.ob_flow_spec.specs.Looping.{head_context}
use Rattle.ob_flow_spec.specs.Deriving.{derive_all}
use Rattle.ob_flow_spec.specs.Filling.{after_fill, got}
use Rattle.ob_flow_spec.specs.Joining.{joined_context}
use Rattle.ob_flow_spec.specs.Testing.{in_tested_state, in_other_state, tested_with, this_left}
use Rattle.ob_flow_spec.specs.Uses.{Read, given_to}
use Rattle.ob_flow_laws.specs.Deriving.{Passes, PassesSigned, PassesTurnIf, RestDerives}
use Rattle.ob_flow_laws.specs.Joining.{LeavesBoth}
use Rattle.ob_flow_laws.specs.Testing.{EndsFirstBranch}
use Rattle.ob_flow_laws.proofs.Deriving.{passes, passes_all}
use Rattle.ob_coherent_spec.specs.Remaining.{IsWellFormedForm, KnowsThis}
use Rattle.ob_soundness_laws.proofs.remaining.Joins.{known_this_joined}

-- Places that are written.

other_slot : (k : ℕ) → nat_eq 0 (suc k) ≡ false
other_slot k = grind arith

pub knows_slot : (b : BodyFrame) (g : Context) (k : ℕ) (x : Option Known) → 0 < k → KnowsThis b g → KnowsThis b (put g (slot k) x)
knows_slot b g zero x lt y = absurd (omega (arith, lt))
knows_slot b g (suc k) x lt y = (y.0, rw (other_slot k) y.1)

pub knows_field : (b : BodyFrame) (g : Context) (k : ℕ) (x : Option Known) → KnowsThis b g → KnowsThis b (put g (field k) x)
knows_field b g k x y = y

pub knows_now : (b : BodyFrame) (g : Context) (p : Location) (w : Permission) → KnowsThis b g → KnowsThis b (now g p w)
knows_now b g (slot zero) w y = (w, rw y.1 refl)
knows_now b g (slot (suc k)) w y = (y.0, rw (other_slot k) y.1)
knows_now b g (field k) w y = y

-- Calls.

knows_given : (b : BodyFrame) (g : Context) (rs : List Read) (ps : List Parameter) → KnowsThis b g → KnowsThis b (given_all g rs ps)
knows_given b g [] ps y = y
knows_given b g (r ∷ rs) [] y = y
knows_given b g (r ∷ rs) (p ∷ ps) y = knows_given b (given_to g r.location p) rs ps (knows_now b g r.location (kept (permission_at g r.location) (permission_of_type p.of)) y)

knows_back : (b : BodyFrame) (g : Context) (p : Location) (to : Parameter) → KnowsThis b g → KnowsThis b (got_back b g p to)
knows_back b g p to y = by_want (wants_owner to)
  where
    by_want : (w : Bool) → KnowsThis b (if w then now g p (Rattle.ob_silica_places.specs.Converting.converted b.table (Rattle.ob_table_spec.specs.WellFormed.kind_of_resolved to.of) (Rattle.ob_flow_spec.specs.Uses.kind_known (g p)) (Rattle.ob_perm.specs.Masks.permission_of to.exit)) else g)
    by_want true = knows_now b g p _ y
    by_want false = y

knows_all_back : (b : BodyFrame) (g : Context) (rs : List Read) (ps : List Parameter) → KnowsThis b g → KnowsThis b (got_back_all b g rs ps)
knows_all_back b g [] ps y = y
knows_all_back b g (r ∷ rs) [] y = y
knows_all_back b g (r ∷ rs) (p ∷ ps) y = knows_all_back b (got_back b g r.location p) rs ps (knows_back b g r.location p y)

knows_passed : (b : BodyFrame) (g : Context) (rs : List Read) (ps : List Parameter) → KnowsThis b g → KnowsThis b (passed b g rs ps)
knows_passed b g rs ps y = knows_all_back b (given_all g rs ps) rs ps (knows_given b g rs ps y)

knows_result : (b : BodyFrame) (g : Context) (k : Option ℕ) (of : Option ResolvedType) → IfSome k (λ n. 0 < n) → KnowsThis b g → KnowsThis b (with_result g k of)
knows_result b g None of lt y = y
knows_result b g (Some k) None lt y = y
knows_result b g (Some k) (Some of) lt y = knows_slot b g k _ lt y

-- Changes.

knows_filled : (b : BodyFrame) (g : Context) (xs : List Given) → KnowsThis b g → KnowsThis b (filled_all b g xs)
knows_filled b g [] y = y
knows_filled b g (x ∷ xs) y = knows_filled b (after_fill b g x.field.0 (given_from x)) xs (knows_now b g (given_from x) (kept (permission_at g (given_from x)) (declared_permission b x.field.0)) y)

knows_got : (b : BodyFrame) (g : Context) (xs : List Given) (h : Context) → KnowsThis b h → KnowsThis b (got_all b g xs h)
knows_got b g [] h y = y
knows_got b g (x ∷ xs) h y = knows_got b (after_fill b g x.field.0 (given_from x)) xs (put h (field x.field.0) (got b g x.field.0 (given_from x))) (knows_field b h x.field.0 (got b g x.field.0 (given_from x)) y)

knows_in_state : (b : BodyFrame) (s : StateId) (g : Context) → KnowsThis b g → KnowsThis b (in_state b s g)
knows_in_state b s g y = by_owns (Rattle.ob_perm.specs.Permissions.owns (permission_at g this)) refl
  where
    by_owns : (w : Bool) → Rattle.ob_perm.specs.Permissions.owns (permission_at g this) ≡ w → KnowsThis b (in_state b s g)
    by_owns true e = (owned (Rattle.ob_perm.specs.States.only s.0), rw e (rw y.1 refl))
    by_owns false e = (y.0, rw e y.1)

-- Tests.

pub knows_tested : (b : BodyFrame) (w : Permission) (s : StateId) (p : Location) (g : Context) → KnowsThis b g → KnowsThis b (in_tested_state w s p g)
knows_tested b (owned a) s p g y = knows_now b g p _ y
knows_tested b shared s p g y = knows_now b g p _ y
knows_tested b unowned s p g y = y

pub knows_other : (b : BodyFrame) (w : Permission) (s : StateId) (p : Location) (g : Context) → KnowsThis b g → KnowsThis b (in_other_state w s p g)
knows_other b (owned a) s p g y = knows_now b g p _ y
knows_other b shared s p g y = y
knows_other b unowned s p g y = y

-- what is known wherever a point is reached
abbrev pub KnowsIf : BodyFrame → Option Context → Type 0
KnowsIf b None = Unit {0}
KnowsIf b (Some g) = KnowsThis b g

some_known : (b : BodyFrame) (x : Option Context) (j : Context) → x ≡ Some j → KnowsIf b x → KnowsThis b j
some_known b x j e y = subst (KnowsIf b) e y

as_known : (b : BodyFrame) (x y : Option Context) → x ≡ y → KnowsIf b y → KnowsIf b x
as_known b x y e k = subst (KnowsIf b) (sym e) k

pub knows_ended : (b : BodyFrame) (w : Permission) (o : Operand) (first left : Option Context) → EndsFirstBranch w o first left → KnowsIf b first → KnowsIf b left
knows_ended b (owned a) o first left e y = as_known b left first e y
knows_ended b shared o None left e y = as_known b left None e tt
knows_ended b shared o (Some g) left e y = as_known b left (Some (now g (located o) shared)) e.1 (knows_now b g (located o) shared y)
knows_ended b unowned o first left e y = as_known b left first e y

pub knows_both : (b : BodyFrame) (under : Permission) (first second left : Option Context) → LeavesBoth b under first second left → KnowsIf b first → KnowsIf b second → KnowsIf b left
knows_both b under None second left e x y = as_known b left second e y
knows_both b under (Some g) None left e x y = as_known b left (Some g) e x
knows_both b under (Some g) (Some h) left e x y = as_known b left (Some (joined_context g h)) e.1 (known_this_joined b g h x y)

-- `this` is known at the head of a Loop
pub knows_head : (b : BodyFrame) (first body : SilicaTerms) (g : Context) → KnowsThis b g → KnowsThis b (head_context b first body g)
knows_head b first body g y = y

knows_turn : (b : BodyFrame) (ts : TestedPlaces) (a : Operand) (body : SilicaTerms) (head : Context) (after left : Option Context)
    → PassesTurnIf b ts a body head after left → KnowsIf b after → KnowsIf b left
knows_turn b ts a body head None left p y = as_known b left None p tt
knows_turn b ts a body head (Some h) left p y = as_known b left (Some h) p.leaves y

-- Forms and terms.

own_slot : (f : StaticFrame) (h : Holdings) (form : SilicaForm) (k : ℕ) → slot_written form ≡ Some k → LeavesParams f h form → 0 < k
own_slot f h form k e p = let q : f.params < k = subst (λ z. IfSome z (λ n. f.params < n)) e p in omega (arith, q)

own_result : (f : StaticFrame) (h : Holdings) (form : SilicaForm) (k : Option ℕ) → slot_written form ≡ k → LeavesParams f h form → IfSome k (λ n. 0 < n)
own_result f h form None e p = tt
own_result f h form (Some k) e p = own_slot f h form k e p

signed_known : (b : BodyFrame) (signature : Option Signature) (Can : Signature → Type 0) (after : Signature → Context) (g : Context) (left : Option Context)
    → PassesSigned signature Can after g left → ((s : Signature) → KnowsThis b (after s)) → KnowsThis b g → KnowsIf b left
signed_known b None Can after g left p each y = as_known b left (Some g) (p.unsigned refl) y
signed_known b (Some s) Can after g left p each y = as_known b left (Some (after s)) (p.signed s refl).1 (each s)

then_know : (b : BodyFrame) (ts : TestedPlaces) (rest : SilicaTerms) (mid left : Option Context)
    → ((j : Context) → derive_all b ts rest j ≡ Ok left → KnowsThis b j → KnowsIf b left) → KnowsIf b mid → RestDerives b ts rest mid left → KnowsIf b left
then_know b ts rest None left go y e = as_known b left None e tt
then_know b ts rest (Some j) left go y e = go j e y

mutual
  pub form_knows : (b : BodyFrame) (ts : TestedPlaces) (h : Holdings) (form : SilicaForm) (at : Span) (g : Context) (left : Option Context)
      → IsWellFormedForm (static_of b) h form → EachWithin IsWellFormedForm (static_of b) h form → Passes b ts form at g left → KnowsThis b g → KnowsIf b left
  form_knows b ts h unit_form at g left w each p y = as_known b left _ p y
  form_knows b ts h (const_form k value) at g left w each p y = as_known b left _ p (knows_slot b g k _ (own_slot (static_of b) h (const_form k value) k refl w.params) y)
  form_knows b ts h (op_form k operator a c line) at g left w each p y = as_known b left _ p.1 (knows_slot b g k _ (own_slot (static_of b) h (op_form k operator a c line) k refl w.params) y)
  form_knows b ts h (copy_form This from) at g left w each p y = absurd (let q : (static_of b).params < 0 = w.params in omega (arith, q))
  form_knows b ts h (copy_form (Slot k) from) at g left w each p y = as_known b left _ p.1 (knows_slot b g k _ (own_slot (static_of b) h (copy_form (Slot k) from) k refl w.params) y)
  form_knows b ts h (copy_form (Field k) from) at g left w each p y = as_known b left _ p.1 y
  form_knows b ts h (move_form This from c) at g left w each p y = absurd (let q : (static_of b).params < 0 = w.params in omega (arith, q))
  form_knows b ts h (move_form (Slot k) from c) at g left w each p y = as_known b left _ p.1 (knows_slot b (now g (located from) (kept (permission_at g (located from)) (counted g (located from)))) k _ (own_slot (static_of b) h (move_form (Slot k) from c) k refl w.params) (knows_now b g (located from) (kept (permission_at g (located from)) (counted g (located from))) y))
  form_knows b ts h (move_form (Field k) from c) at g left w each p y = as_known b left _ p.1 (knows_field b (now g (located from) (kept (permission_at g (located from)) (declared_permission b k.0))) k.0 (got b g k.0 (located from)) (knows_now b g (located from) (kept (permission_at g (located from)) (declared_permission b k.0)) y))
  form_knows b ts h (new_form k c args) at g left w each p y = signed_known b _ _ _ g left p (λ s. knows_slot b (passed b g (reads_of args) (parameters s)) k (Some (known_as (TypedReference c s.exit))) (own_slot (static_of b) h (new_form k c args) k refl w.params) (knows_passed b g (reads_of args) (parameters s) y)) y
  form_knows b ts h (call_form k r c tx args) at g left w each p y = signed_known b _ _ _ g left p (λ s. knows_result b (passed b g (all_reads r args) (all_parameters c s)) k s.result (own_result (static_of b) h (call_form k r c tx args) k refl w.params) (knows_passed b g (all_reads r args) (all_parameters c s) y)) y
  form_knows b ts h (call_this_form k tx args) at g left w each p y = signed_known b _ _ _ g left p (λ s. knows_result b (fields_left b s (passed b g (reads_with_this at args) (all_parameters b.here s))) k s.result (own_result (static_of b) h (call_this_form k tx args) k refl w.params) (knows_passed b g (reads_with_this at args) (all_parameters b.here s) y)) y
  form_knows b ts h (change_form s given) at g left w each p y = as_known b left _ p.1 (knows_in_state b s (refilled b g given) (knows_got b g given (filled_all b g given) (knows_filled b g given y)))
  form_knows b ts h (test_form o s branch other join) at g left w each p y =
      let first = terms_know b (tested_with (counted g (located o)) (located o) ts) h branch _ p.first each.0 p.branch_derives (knows_tested b (counted g (located o)) s (located o) g y) in
      let second = terms_know b ts h other _ p.second each.1 p.other_derives (knows_other b (counted g (located o)) s (located o) g y) in
      knows_both b (this_left p.first) p.ended p.second left p.joins (knows_ended b (counted g (located o)) o p.first p.ended p.branch_ends first) second
  form_knows b ts h (if_form a branch other join) at g left w each p y =
      knows_both b (this_left p.first) p.first p.second left p.joins (terms_know b ts h branch g p.first each.0 p.branch_derives y) (terms_know b ts h other g p.second each.1 p.other_derives y)
  form_knows b ts h (assert_form o perm) at g left w each p y = as_known b left _ p.1 y
  form_knows b ts h (disown_form o) at g left w each p y = as_known b left _ p.1 (knows_now b g (located o) unowned y)
  form_knows b ts h (drop_form k) at g left w each p y = as_known b left _ p.1 (knows_slot b g k _ (own_slot (static_of b) h (drop_form k) k refl w.params) y)
  form_knows b ts h (return_form value) at g left w each p y = as_known b left None p.1 tt
  form_knows b ts h (revert_form text) at g left w each p y = as_known b left None p.1 tt
  form_knows b ts h bad_row_form at g left w each p y = absurd p
  form_knows b ts h (loop_form first a body end) at g left w each p y =
      knows_turn b ts a body (head_context b first body g) p.after left p.turn
      (terms_know b ts (at_head (static_of b) first body h) first (head_context b first body g) p.after each.0 p.first_derives (knows_head b first body g y))

  pub terms_know : (b : BodyFrame) (ts : TestedPlaces) (h : Holdings) (terms : SilicaTerms) (g : Context) (left : Option Context)
      → Each IsWellFormedForm (static_of b) h terms → derive_all b ts terms g ≡ Ok left → KnowsThis b g → KnowsIf b left
  terms_know b ts h no_terms g left each d y = as_known b left (Some g) (passes_all b ts no_terms g left d) y
  terms_know b ts h (and_term form at rest) g left each d y =
      let p = passes_all b ts (and_term form at rest) g left d in
      then_know b ts rest p.mid left (λ j e k. terms_know b ts (after_form (static_of b) form h) rest j left each.2 e k) (form_knows b ts h form at g p.mid each.0 each.1 (passes b ts form at g p.mid p.derives) y) p.rest_derives
