-- What meets the exits of a body.
use Rattle.std.proofs.Common.{◌≡◌, ◌⊎◌, inl, inr, ℕ, zero, suc, ◌+◌, ◌<◌, Bool, true, false, List, [], ◌∷◌, ◌++◌, length, Some, refl, arith, subst}
use Rattle.std.specs.Prelude.{not, ◌||◌, nat_eq, nat_le, slice_get, IsFalse, if◌then◌else◌}
use Rattle.ob_base.specs.declared.fault.Span.{Span}
use Rattle.ob_perm.specs.Permissions.{Permission, owned, shared, unowned}
use Rattle.ob_perm.specs.Masks.{permission_of}
use Rattle.ob_table.specs.declared.contract.Param.{Param}
use Rattle.ob_silica_places.specs.Places.{Location, slot, field, this}
use Rattle.ob_flow_spec.specs.Premises.{Premise, each}
use Rattle.ob_flow_spec.specs.Contexts.{BodyFrame, constructs, field_count, exit_of_field, Context, is_held_as, owns_asset, maybe_there, accessible}
use Rattle.ob_flow_spec.specs.Returning.{is_let_go, leaves_as, leaves_params, gives_object, leaves_this, sets_field, leaves_field, leaves_all}
use Rattle.ob_flow_laws.specs.Laws.{MeetsExit, IsConstructed, MeetsExits}
use Rattle.ob_flow_laws.specs.Premises.{Hold}
use Rattle.ob_flow_laws.proofs.Tests.{isnt, where_first, second_of}
use Rattle.ob_flow_laws.proofs.Premises.{both_hold, each_holds}

is_zero : (n : ℕ) → nat_eq n 0 ≡ true → n ≡ 0
is_zero n e = grind arith

either_of : (n : ℕ) (b c : Bool) → nat_eq n 0 ≡ c → (c || not b) ≡ true → (n ≡ 0) ⊎ IsFalse b
either_of n b true e h = inl (is_zero n e)
either_of n b false e h = inr (isnt b h)

either : (n : ℕ) (b : Bool) → (nat_eq n 0 || not b) ≡ true → (n ≡ 0) ⊎ IsFalse b
either n b h = either_of n b (nat_eq n 0) refl h

-- exits
pub left_so : (b : BodyFrame) (g : Context) (at : Span) (p : Location) (w : Permission) → Hold (leaves_as b g at p w)
    → MeetsExit b g p w
left_so b g at p (owned a) h = h.0
left_so b g at p shared h = h.0
left_so b g at p unowned h = isnt (owns_asset b g p) h.0

pub params_left : (b : BodyFrame) (g : Context) (at : Span) (n : ℕ) (ps : List Param) (k : ℕ) (p : Param)
    → slice_get ps k ≡ Some p → Hold (leaves_params b g at n ps) → MeetsExit b g (slot (n + k)) (permission_of p.exit)
params_left b g at n [] k p e h = absurd (cc)
params_left b g at n (q ∷ ps) zero p e h =
    let r = both_hold (leaves_as b g at (slot n) (permission_of q.exit)) (leaves_params b g at (n + 1) ps) h in
    let is : q ≡ p = cc in
    let place : n + 0 ≡ n = omega arith in
    rw (place, ← is) (left_so b g at (slot n) (permission_of q.exit) r.0)
params_left b g at n (q ∷ ps) (suc k) p e h =
    let r = both_hold (leaves_as b g at (slot n) (permission_of q.exit)) (leaves_params b g at (n + 1) ps) h in
    let place : n + suc k ≡ (n + 1) + k = omega arith in
    rw place (params_left b g at (n + 1) ps k p e r.1)

pub this_left : (b : BodyFrame) (g : Context) (at : Span) → Hold (leaves_this b g at) → constructs b ≡ false
    → MeetsExit b g this (permission_of b.signature.exit)
this_left b g at h e =
    left_so b g at this (permission_of b.signature.exit)
    (subst (λ (c : Bool). Hold (if c then gives_object b g at else leaves_as b g at this
    (permission_of b.signature.exit))) e h)

pub object_left : (b : BodyFrame) (g : Context) (at : Span) → Hold (leaves_this b g at)
    → Hold (each (field_count b) (sets_field b g at)) → constructs b ≡ true → IsConstructed b g
object_left b g at h s e =
    let o : Hold (gives_object b g at) = subst
    (λ (c : Bool). Hold (if c then gives_object b g at else leaves_as b g at this
    (permission_of b.signature.exit))) e h in
    record {
      serves = o.0;
      in_state = either (length b.own.states) _ o.1.0;
      set = λ f lt open'. where_first (accessible b g f) _
          (where_first (constructs b) _ (each_holds (field_count b) (sets_field b g at) s f lt).0 e) open';
    }

pub field_left : (b : BodyFrame) (g : Context) (at : Span) (f : ℕ) → f < field_count b
    → Hold (each (field_count b) (leaves_field b g at)) → maybe_there b g f ≡ true
    → is_held_as (g (field f)) (exit_of_field b b.signature f) ≡ true
field_left b g at f lt h t = where_first (maybe_there b g f) _
    (each_holds (field_count b) (leaves_field b g at) h f lt).0 t

above : (n k : ℕ) → n < k → nat_le k n ≡ false
above n k lt = grind arith

pub slot_left : (b : BodyFrame) (g : Context) (at : Span) (k : ℕ) → length b.signature.params < k → k < b.slots
    → Hold (each b.slots (is_let_go b g at)) → owns_asset b g (slot k) ≡ false
slot_left b g at k up lt h = isnt _ (second_of (nat_le k (length b.signature.params)) _
    (each_holds b.slots (is_let_go b g at) h k lt).0 (above (length b.signature.params) k up))

-- what is asked first: of slots and parameters
abbrev to_params : BodyFrame → Context → Span → List Premise
to_params b g at = each b.slots (is_let_go b g at) ++ leaves_params b g at 1 b.signature.params

-- what is asked up to `this`
abbrev to_this : BodyFrame → Context → Span → List Premise
to_this b g at = to_params b g at ++ leaves_this b g at

-- what is asked up to the fields that are set
abbrev to_set : BodyFrame → Context → Span → List Premise
to_set b g at = to_this b g at ++ each (field_count b) (sets_field b g at)

pub all_left : (b : BodyFrame) (g : Context) (at : Span) → Hold (leaves_all b g at) → MeetsExits b g
all_left b g at h =
    let fields = both_hold (to_set b g at) (each (field_count b) (leaves_field b g at)) h in
    let set = both_hold (to_this b g at) (each (field_count b) (sets_field b g at)) fields.0 in
    let itself = both_hold (to_params b g at) (leaves_this b g at) set.0 in
    let params = both_hold (each b.slots (is_let_go b g at)) (leaves_params b g at 1 b.signature.params) itself.0 in
    record {
      params = λ k p e. let place : k + 1 ≡ 1 + k = omega arith in rw place
          (params_left b g at 1 b.signature.params k p e params.1);
      itself = this_left b g at itself.1;
      made = object_left b g at itself.1 set.1;
      fields = λ f lt t. field_left b g at f lt fields.1 t;
      others = λ k up lt. slot_left b g at k up lt params.0;
    }
