-- Parts of the rules, worked out on their own.
use Rattle.std.proofs.Common.{◌≡◌, ℕ, Bool, ◌++◌, Some, None, refl, ap, ◌∙◌, subst}
use Rattle.std.specs.Prelude.{not, Option}
use Rattle.ob_base.specs.Faults.{asset_overwritten, not_accessible, under_test}
use Rattle.ob_base.specs.declared.fault.Span.{Span}
use Rattle.ob_base.specs.declared.id.ContractId.{ContractId}
use Rattle.ob_base.specs.declared.permission.Perm.{Perm}
use Rattle.ob_perm.specs.Permissions.{unowned, kept}
use Rattle.ob_perm.specs.Masks.{permission_of}
use Rattle.ob_table.specs.declared.seen.Kind.{Kind}
use Rattle.ob_silica.specs.declared.place.Operand.{Operand}
use Rattle.ob_silica_places.specs.Known.{Known, known}
use Rattle.ob_silica_places.specs.Places.{Location, slot, field, located}
use Rattle.ob_silica_places.specs.Converting.{converted}
use Rattle.ob_flow_spec.specs.Premises.{one, for_all, first_failing}
use Rattle.ob_flow_spec.specs.Contexts.{BodyFrame, accessible, Context, put, now, permission_at, counted, owns_asset, TestedPlaces, is_tested}
use Rattle.ob_flow_spec.specs.Uses.{kind_known}
use Rattle.ob_flow_spec.specs.Binding.{read_of}
use Rattle.ob_flow_spec.specs.Filling.{fills_field, after_fill, got}
use Rattle.ob_flow_spec.specs.Straight.{after_copy, moved_kind, moved_to_slot, moves_to_field, moved_to_field}
use Rattle.ob_flow_spec.specs.Returning.{returns_value, value_returned, still_owns, tests_ended, leaves_all, returns_result}
use Rattle.ob_base.specs.declared.text_error.TextError.{TextError}
use Rattle.ob_flow_context.specs.Checking.{FailsPremises}
use Rattle.ob_flow_context.proofs.PremiseLemmas.{fails_first, fails_more, holds_last}
use Rattle.ob_flow.specs.Forms.{copied_kind}

pub copied_is : (b : BodyFrame) (g : Context) (p : Location) (from : Operand) → after_copy b g p from ≡ put g p (Some (known (copied_kind b g p from) unowned))
copied_is b g (slot k) from = refl
copied_is b g (field f) from = refl

-- A move into a slot, step by step.

pub moved_is : (b : BodyFrame) (g mid : Context) (k : ℕ) (from : Operand) (contract : Option ContractId)
    (from_kind kind : Kind) (count before left said : Perm)
    → from_kind ≡ kind_known (g (located from)) → kind ≡ moved_kind g from contract
    → permission_of count ≡ counted g (located from) → permission_of before ≡ permission_at g (located from)
    → permission_of left ≡ kept (permission_of before) (permission_of count)
    → permission_of said ≡ converted b.table from_kind kind (permission_of count)
    → mid ≡ now g (located from) (permission_of left)
    → put mid (slot k) (Some (known kind (permission_of said))) ≡ moved_to_slot b g k from contract
moved_is b g mid k from contract from_kind kind count before left said from_is kind_is count_is before_is left_is said_is mid_is =
    let after = now g (located from) (kept (permission_at g (located from)) (counted g (located from))) in
    ap (λ m. put m (slot k) (Some (known kind (permission_of said)))) (mid_is
    ∙ ap (λ p. now g (located from) p) (left_is ∙ ap (λ p. kept p (permission_of count)) before_is
    ∙ ap (λ p. kept (permission_at g (located from)) p) count_is))
    ∙ ap (λ p. put after (slot k) (Some (known kind p))) (said_is
    ∙ ap (λ x. converted b.table x kind (permission_of count)) from_is
    ∙ ap (λ p. converted b.table (kind_known (g (located from))) kind p) count_is)
    ∙ ap (λ x. put after (slot k) (Some (known x
    (converted b.table (kind_known (g (located from))) x (counted g (located from)))))) kind_is

-- A move into a field, whose premises are asked one after another.

may_set : (b : BodyFrame) (ts : TestedPlaces) (g : Context) (at : Span) (f : ℕ) (there under : Bool) → there ≡ accessible b g f
    → under ≡ is_tested ts (field f) → first_failing (one not_accessible at there) ≡ None
    → first_failing (one under_test at (not under)) ≡ None
    → first_failing (one not_accessible at (accessible b g f) ++ one under_test at (not (is_tested ts (field f)))) ≡ None
may_set b ts g at f there under is it holds free =
    holds_last (one not_accessible at (accessible b g f)) (one under_test at (not (is_tested ts (field f))))
    (subst (λ x. first_failing (one not_accessible at x) ≡ None) is holds)
    (subst (λ x. first_failing (one under_test at (not x)) ≡ None) it free)

pub fill_fails : (b : BodyFrame) (ts : TestedPlaces) (g : Context) (at : Span) (f : ℕ) (from : Operand) (there under : Bool) (e : TextError)
    → there ≡ accessible b g f → under ≡ is_tested ts (field f) → first_failing (one not_accessible at there) ≡ None
    → first_failing (one under_test at (not under)) ≡ None
    → FailsPremises e (fills_field b ts g at f (read_of from)) → FailsPremises e (moves_to_field b ts g at f from)
fill_fails b ts g at f from there under e is it holds free fails =
    let owned = one asset_overwritten at (not (owns_asset b (after_fill b g f (located from)) (field f))) in
    fails_more (one not_accessible at (accessible b g f) ++ one under_test at (not (is_tested ts (field f))))
    (fills_field b ts g at f (read_of from) ++ owned) e (may_set b ts g at f there under is it holds free)
    (fails_first (fills_field b ts g at f (read_of from)) owned e fails)

pub asset_fails : (b : BodyFrame) (ts : TestedPlaces) (g h : Context) (at : Span) (f : ℕ) (from : Operand) (there under owns : Bool)
    (e : TextError) → there ≡ accessible b g f → under ≡ is_tested ts (field f) → owns ≡ owns_asset b h (field f)
    → first_failing (one not_accessible at there) ≡ None → first_failing (one under_test at (not under)) ≡ None
    → first_failing (fills_field b ts g at f (read_of from)) ≡ None → h ≡ after_fill b g f (located from)
    → FailsPremises e (one asset_overwritten at (not owns)) → FailsPremises e (moves_to_field b ts g at f from)
asset_fails b ts g h at f from there under owns e is it so holds free fill leaves fails =
    let owned = λ (x : Bool). one asset_overwritten at (not x) in
    let after = owns_asset b (after_fill b g f (located from)) (field f) in
    fails_more (one not_accessible at (accessible b g f) ++ one under_test at (not (is_tested ts (field f))))
    (fills_field b ts g at f (read_of from) ++ owned after) e (may_set b ts g at f there under is it holds free)
    (fails_more (fills_field b ts g at f (read_of from)) (owned after) e fill
    (subst (λ x. FailsPremises e (owned x)) (so ∙ ap (λ x. owns_asset b x (field f)) leaves) fails))

pub field_moves : (b : BodyFrame) (ts : TestedPlaces) (g h : Context) (at : Span) (f : ℕ) (from : Operand) (there under owns : Bool)
    → there ≡ accessible b g f → under ≡ is_tested ts (field f) → owns ≡ owns_asset b h (field f)
    → first_failing (one not_accessible at there) ≡ None → first_failing (one under_test at (not under)) ≡ None
    → first_failing (fills_field b ts g at f (read_of from)) ≡ None → h ≡ after_fill b g f (located from)
    → first_failing (one asset_overwritten at (not owns)) ≡ None → first_failing (moves_to_field b ts g at f from) ≡ None
field_moves b ts g h at f from there under owns is it so holds free fill leaves rest =
    let owned = λ (x : Bool). one asset_overwritten at (not x) in
    let after = owns_asset b (after_fill b g f (located from)) (field f) in
    holds_last (one not_accessible at (accessible b g f) ++ one under_test at (not (is_tested ts (field f))))
    (fills_field b ts g at f (read_of from) ++ owned after) (may_set b ts g at f there under is it holds free)
    (holds_last (fills_field b ts g at f (read_of from)) (owned after) fill
    (subst (λ x. first_failing (owned x) ≡ None) (so ∙ ap (λ x. owns_asset b x (field f)) leaves) rest))

pub field_moved : (b : BodyFrame) (g h new : Context) (f : ℕ) (from : Operand) (k : Option Known)
    → h ≡ after_fill b g f (located from) → k ≡ got b g f (located from) → new ≡ put h (field f) k
    → new ≡ moved_to_field b g f from
field_moved b g h new f from k leaves gets is =
    is ∙ ap (λ x. put x (field f) k) leaves ∙ ap (λ x. put (after_fill b g f (located from)) (field f) x) gets

-- A return, whose premises are asked one after another.

pub value_fails : (b : BodyFrame) (ts : TestedPlaces) (g : Context) (at : Span) (value : Option Operand) (e : TextError)
    → FailsPremises e (returns_value b ts g value b.signature.result) → FailsPremises e (returns_result b ts g at value)
value_fails b ts g at value e fails =
    let given = value_returned g value b.signature.result in
    fails_first (returns_value b ts g value b.signature.result ++ for_all ts (still_owns given at))
    (leaves_all b (tests_ended ts given) at) e
    (fails_first (returns_value b ts g value b.signature.result) (for_all ts (still_owns given at)) e fails)

pub owning_fails : (b : BodyFrame) (ts : TestedPlaces) (g h : Context) (at : Span) (value : Option Operand) (e : TextError)
    → first_failing (returns_value b ts g value b.signature.result) ≡ None → h ≡ value_returned g value b.signature.result
    → FailsPremises e (for_all ts (still_owns h at)) → FailsPremises e (returns_result b ts g at value)
owning_fails b ts g h at value e holds is fails =
    let given = value_returned g value b.signature.result in
    fails_first (returns_value b ts g value b.signature.result ++ for_all ts (still_owns given at))
    (leaves_all b (tests_ended ts given) at) e
    (fails_more (returns_value b ts g value b.signature.result) (for_all ts (still_owns given at)) e holds
    (subst (λ x. FailsPremises e (for_all ts (still_owns x at))) is fails))
