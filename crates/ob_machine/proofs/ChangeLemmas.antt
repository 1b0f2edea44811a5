-- Changes of state.
use Rattle.std.proofs.Common.{◌≡◌, ℕ, Bool, true, false, [], ◌∷◌, Option, Some, None, refl, sym, ap, ◌∙◌}
use mathlib.Core.Path.{fun_ext}
use Rattle.std.specs.Prelude.{nat_eq, is_some, ◌&&◌, if◌then◌else◌}
use Rattle.std.specs.Option.{option_map_or}
use Rattle.ob_base.specs.Optional.{◌>>=◌, where_true}
use Rattle.ob_base.specs.declared.id.StateId.{StateId}
use Rattle.ob_heap_spec.specs.Contents.{object_at}
use Rattle.ob_heap_spec.specs.Objects.{Object as PlainObject}
use Rattle.ob_heap_spec.specs.Values.{Value as PlainValue, Numbered, nothing, put}
use Rattle.ob_heap_spec.specs.Worlds.{World, edit_object, set_object, by_state}
use Rattle.ob_code.specs.declared.image.ContractCode.{ContractCode}
use Rattle.ob_code.specs.declared.image.Image.{Image}
use Rattle.ob_code.specs.Code.{contract_code}
use Rattle.ob_machine_steps.specs.Slots.{Slots, value_at}
use Rattle.ob_machine_steps.specs.Configurations.{Configuration, abort}
use Rattle.ob_machine_steps.specs.Parts.{this_object, with_world, goes_on}
use Rattle.ob_machine_steps.specs.Changing.{GivenSlots, given_values, are_available, value_given, object_changed, edits_this, changes_to, change_step, is_locked_out}
use Rattle.ob_machine_parts.specs.Changes.{are_given, kept_in}
use Rattle.ob_machine.specs.Changes.{changed_to}
use Rattle.ob_machine_parts.specs.Editing.{with_state}

-- What is given.

pub given_none : (slots : Slots) (gs : GivenSlots) (got : Numbered PlainValue) → are_given slots gs ≡ false → given_values slots gs got ≡ None
given_none slots [] got e = absurd cc
given_none slots (g ∷ gs) got e = by (value_at slots g.1) e (λ x h. given_none slots gs x h)
  where
    by : (r : Option PlainValue) → (is_some r && are_given slots gs) ≡ false
        → ((x : Numbered PlainValue) → are_given slots gs ≡ false → given_values slots gs x ≡ None)
        → (r >>= λ v. given_values slots gs (put got g.0.0 v)) ≡ None
    by None e h = refl
    by (Some v) e h = h (put got g.0.0 v) e

-- values that were given
pub record Got (slots : Slots) (gs : GivenSlots) (before : Numbered PlainValue) : Type 0 where
  pub got : Numbered PlainValue
  pub is : given_values slots gs before ≡ Some got

pub given_some : (slots : Slots) (gs : GivenSlots) (before : Numbered PlainValue) → are_given slots gs ≡ true → Got slots gs before
given_some slots [] before e = record { got = before; is = refl }
given_some slots (g ∷ gs) before e = by (value_at slots g.1) refl e (λ x h. given_some slots gs x h)
  where
    by : (r : Option PlainValue) → value_at slots g.1 ≡ r → (is_some r && are_given slots gs) ≡ true
        → ((x : Numbered PlainValue) → are_given slots gs ≡ true → Got slots gs x) → Got slots (g ∷ gs) before
    by None f e h = absurd cc
    by (Some v) f e h =
        let rest : Got slots gs (put before g.0.0 v) = h (put before g.0.0 v) e in
        record { got = rest.got; is = rw f rest.is }

put_over : (got old : Numbered PlainValue) (j : ℕ) (v : PlainValue)
    → put (λ k. value_given (got k) (old k)) j v ≡ (λ k. value_given (put got j v k) (old k))
put_over got old j v = fun_ext (λ k. by k (nat_eq k j))
  where
    by : (k : ℕ) (x : Bool) → (if x then Some v else value_given (got k) (old k)) ≡ value_given (if x then Some v else got k) (old k)
    by k true = refl
    by k false = refl

-- what is given goes before what was there
pub given_over : (slots : Slots) (gs : GivenSlots) (got old r : Numbered PlainValue) → given_values slots gs got ≡ Some r
    → given_values slots gs (λ k. value_given (got k) (old k)) ≡ Some (λ k. value_given (r k) (old k))
given_over slots [] got old r e = let s : got ≡ r = cc in ap (λ (x : Numbered PlainValue). Some (λ (k : ℕ). value_given (x k) (old k))) s
given_over slots (g ∷ gs) got old r e = by (value_at slots g.1) e (λ x h. given_over slots gs x old r h)
  where
    by : (o : Option PlainValue) → (o >>= λ v. given_values slots gs (put got g.0.0 v)) ≡ Some r
        → ((x : Numbered PlainValue) → given_values slots gs x ≡ Some r
        → given_values slots gs (λ k. value_given (x k) (old k)) ≡ Some (λ k. value_given (r k) (old k)))
        → (o >>= λ v. given_values slots gs (put (λ k. value_given (got k) (old k)) g.0.0 v)) ≡ Some (λ k. value_given (r k) (old k))
    by None e h = absurd cc
    by (Some v) e h = ap (given_values slots gs) (put_over got old g.0.0 v) ∙ h (put got g.0.0 v) e

-- The change.

edit_at : (f g : PlainObject → PlainObject) (n : ℕ) (w : World) (o : PlainObject) → object_at w.objects n ≡ Some o → f o ≡ g o
    → edit_object f n w ≡ edit_object g n w
edit_at f g n w o e h =
    ap (λ r. option_map_or (λ o. set_object w n (f o)) r w) e
    ∙ ap (λ x. set_object w n x) h
    ∙ sym (ap (λ r. option_map_or (λ o. set_object w n (g o)) r w) e)

pub changed : (own : ContractCode) (state : StateId) (given : GivenSlots) (c : Configuration) (o : PlainObject) (fields : Numbered PlainValue)
    → this_object c ≡ Some o → are_available own state given ≡ true → given_values c.top.slots given (kept_in own state o.fields) ≡ Some fields
    → changed_to own state given c ≡ edits_this (with_state state fields) c
changed own state given c o fields e f g = rw (e, f, g) refl

pub not_available : (own : ContractCode) (state : StateId) (given : GivenSlots) (c : Configuration) → are_available own state given ≡ false
    → changed_to own state given c ≡ None
not_available own state given c e = by (this_object c)
  where
    by : (r : Option PlainObject)
        → (r >>= λ o. where_true (are_available own state given) o >>= λ o. given_values c.top.slots given (kept_in own state o.fields) >>= λ fields. edits_this (with_state state fields) c) ≡ None
    by None = refl
    by (Some o) = rw e refl

-- to put what is given into what is kept is to change the state
pub changes_so : (own : ContractCode) (state : StateId) (given : GivenSlots) (got : Numbered PlainValue) (c : Configuration)
    → given_values c.top.slots given nothing ≡ Some got → changes_to own state given got c ≡ changed_to own state given c
changes_so own state given got c e = by (this_object c) (are_available own state given) refl refl
  where
    by : (r : Option PlainObject) (b : Bool) → this_object c ≡ r → are_available own state given ≡ b
        → (r >>= λ o. if b then edits_this (object_changed own state got) c else None)
        ≡ (r >>= λ o. where_true b o >>= λ o. given_values c.top.slots given (kept_in own state o.fields) >>= λ fields. edits_this (with_state state fields) c)
    by None b f g = refl
    by (Some o) false f g = refl
    by (Some o) true f g =
        let h : given_values c.top.slots given (kept_in own state o.fields) ≡ Some (λ k. value_given (got k) (kept_in own state o.fields k)) =
        given_over c.top.slots given nothing (kept_in own state o.fields) got e in
        ap (λ w. goes_on (with_world w c))
        (edit_at (object_changed own state got) (with_state state (λ k. value_given (got k) (kept_in own state o.fields k))) c.top.this c.world o f refl)
        ∙ sym (ap (λ r. r >>= λ fields. edits_this (with_state state fields) c) h)

pub changing : (image : Image) (state : StateId) (given : GivenSlots) (c : Configuration) (own : ContractCode) (got : Numbered PlainValue)
    → contract_code image c.top.contract ≡ Some own → given_values c.top.slots given nothing ≡ Some got → is_locked_out c c.top.this ≡ false
    → change_step image state given c ≡ changed_to own state given c
changing image state given c own got e f g =
    ap (λ (r : Option ContractCode). r >>= λ own. given_values c.top.slots given nothing >>= λ got. if is_locked_out c c.top.this then Some (abort (by_state c.top.this None) c.world) else changes_to own state given got c) e
    ∙ ap (λ (r : Option (Numbered PlainValue)). r >>= λ got. if is_locked_out c c.top.this then Some (abort (by_state c.top.this None) c.world) else changes_to own state given got c) f
    ∙ ap (λ b. if b then Some (abort (by_state c.top.this None) c.world) else changes_to own state given got c) g
    ∙ changes_so own state given got c f
