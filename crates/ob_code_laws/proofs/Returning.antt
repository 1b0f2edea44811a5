-- Instructions with which a body returns, and ends of runs.
use Rattle.std.proofs.Common.{◌≡◌, ◌≢◌, ℕ, ◌<◌, ◌≤◌, List, [], ◌∷◌, length, Option, Some, None, Bool, true, false, Contains, refl, sym, ap, ◌∙◌, subst, arith, ◌⊎◌, inl, inr}
use Rattle.std.specs.Prelude.{if◌then◌else◌, is_some, option_map, ◌==◌}
use Rattle.std.proofs.lemmas.Bool.{cases_eq, true≢false, eqb-true, not-false}
use Rattle.ob_base.specs.declared.id.ContractId.{ContractId}
use Rattle.ob_table.specs.declared.seen.Kind.{Kind}
use Rattle.ob_heap_spec.specs.Values.{Value}
use Rattle.ob_heap_spec.specs.Objects.{Object}
use Rattle.ob_heap_spec.specs.Worlds.{World}
use Rattle.ob_code.specs.declared.image.BodyCode.{BodyCode}
use Rattle.ob_code.specs.declared.image.Image.{Image}
use Rattle.ob_code.specs.declared.image.TypeCode.{TypeCode}
use Rattle.ob_code.specs.declared.instruction.Instruction.TheVariants as is
use Rattle.ob_machine_steps.specs.Slots.{Slots, value_at, with_value_at}
use Rattle.ob_code.specs.Code.{no_result}
use Rattle.ob_machine_steps.specs.Configurations.{Entered, on_receiver, on_this, on_new, MachineFrame, Configuration}
use Rattle.ob_machine_steps.specs.Returning.{given_by, world_left, with_result, resumes, returns, return_step, return_value_step}
use Rattle.ob_verify_spec.specs.Kinds.{kind_of_type}
use Rattle.ob_verify_spec.specs.Frames.{kind_of_result}
use Rattle.ob_verify_spec.specs.Instructions.{Need, of_kind, need_of}
use Rattle.ob_verify_spec.specs.Ways.{IsAt}
use Rattle.ob_verify_spec.proofs.Cells.{some_same, none_some}
use Rattle.ob_verify_spec.proofs.Listed.{head}
use Rattle.ob_code_laws.specs.Kinds.{IsOfKind, IsResultOf, HaveFieldsOfKinds, IsObjectOf, Holds, AreMet}
use Rattle.ob_code_laws.specs.Keeping.{kind_given}
use Rattle.ob_code_laws.proofs.Basics.{where_true_some}
use Rattle.ob_code_laws.proofs.Fitting.{widens}
use Rattle.ob_code_laws.proofs.Worlds.{left_objects}
use Rattle.ob_code_laws.proofs.Frames.{IsSound, IsFrame, code, IsWaiting, Wait, IsRunning, Good, then_good, need_met}
use Rattle.ob_code_laws.proofs.Setting.{SetTo, with_value}
use Rattle.ob_code_laws.proofs.Changing.{named_well}
use Rattle.ob_code_laws.proofs.Beginning.{names_own}

-- The frame that gets a result.

-- slots once a result has come into one of them, or into none
record Gets (slots : Slots) (into : ℕ) (result : Option Value) (new : Slots) : Type 0 where
  count : length new ≡ length slots
  others : (k : ℕ) → k ≢ into → value_at new k ≡ value_at slots k
  at : (into ≡ 255) ⊎ ((v : Value) × (result ≡ Some v) × (value_at new into ≡ Some v))

gets_same : (slots : Slots) (into : ℕ) (result : Option Value) (new : Slots) → into ≡ 255 → slots ≡ new → Gets slots into result new
gets_same slots into result new e same = record { count = ap length (sym same); others = λ k ne. ap (λ z. value_at z k) (sym same); at = inl e }

gets_if : (slots : Slots) (into : ℕ) (v : Value) (new : Slots) (b : Bool) → (into == no_result) ≡ b → (if b then Some slots else with_value_at slots into v) ≡ Some new → Gets slots into (Some v) new
gets_if slots into v new true none e = gets_same slots into (Some v) new (eqb-true into no_result none) (some_same e)
gets_if slots into v new false none e =
    let set : SetTo slots into v new = with_value slots into v new e in
    record { count = set.count; others = set.others; at = inr (v, refl, set.at) }

gets : (slots : Slots) (into : ℕ) (result : Option Value) (new : Slots) → with_result slots into result ≡ Some new → Gets slots into result new
gets slots into None new e = let p = where_true_some (into == no_result) slots new e in gets_same slots into None new (eqb-true into no_result p.0) p.1
gets slots into (Some v) new e = gets_if slots into v new (into == no_result) refl e

-- a result of a known kind is of that kind
result_kind : (image : Image) (objects : List Object) (given : Option Kind) (result : Option Value) (x : Kind) (v : Value) → IsResultOf image objects given result → given ≡ Some x
    → result ≡ Some v → IsOfKind image objects x v
result_kind image objects None result x v h e f = absurd (none_some e)
result_kind image objects (Some y) None x v h e f = absurd (none_some f)
result_kind image objects (Some y) (Some w) x v h e f = subst (λ z. IsOfKind image objects z v) (some_same e) (subst (IsOfKind image objects y) (some_same f) h)

awaited_held : (image : Image) (objects : List Object) (f : MachineFrame) (given : Option Kind) (into : ℕ) (result : Option Value) (new : Slots) (w : IsWaiting image objects f given into)
    → IsSound image → IsResultOf image objects given result
    → Gets f.slots into result new → (k : ℕ) (x : Kind) → k < w.frame.body.slots → w.known k ≡ Some x → Holds image objects new k x
awaited_held image objects f given into result new w s r h k x lt e = elim (cases_eq k into) [
  | inr ne ↦
      let was : Holds image objects f.slots k x = w.holds k x lt ne e in
      record { value = was.value; there = h.others k ne ∙ was.there; kind = was.kind }
  | inl same ↦ elim h.at [
    | inl none ↦ let le : w.frame.body.slots ≤ 255 = s.slots.each f.contract w.frame.own f.tx w.frame.body w.frame.there in absurd (omega (arith, lt, le, same, none))
    | inr (v, is, at) ↦
        let below : into < w.frame.body.slots = subst (λ z. z < w.frame.body.slots) same lt in
        let y = w.awaited x below (ap w.known (sym same) ∙ e) in
        record { value = v; there = ap (value_at new) same ∙ at; kind = widens image s.implements objects y.0 x v y.2 (result_kind image objects given result y.0 v r y.1 is) }
  ]
]

resume_good : (image : Image) → IsSound image → (out : Option Kind) (fs : List MachineFrame) (given : Option Kind) (into : ℕ) (result : Option Value) (w : World) → HaveFieldsOfKinds image w.objects
    → IsResultOf image w.objects given result → Wait image w.objects out fs given into → Good image out (resumes fs into result w)
resume_good image s out [] given into result w objects r wait = record { gives = subst (λ z. IsResultOf image w.objects z result) wait r; objects = objects }
resume_good image s out (f ∷ fs) given into result w objects r wait = then_good image out (with_result f.slots into result) _ (λ new e.
    let h : Gets f.slots into result new = gets f.slots into result new e in
    let q : IsFrame image w.objects f = wait.0.frame in
    record {
      implements = s.implements;
      objects = objects;
      top = record {
        frame = record {
          own = q.own;
          body = q.body;
          there = q.there;
          contract = q.contract;
          kinds = q.kinds;
          keeps = q.keeps;
          count = h.count ∙ q.count;
          this = q.this;
          first = h.others 0 (λ z. wait.0.other (sym z)) ∙ q.first;
        };
        known = wait.0.known;
        there = wait.0.there;
        holds = awaited_held image w.objects f given into result new wait.0 s r h;
      };
      below = wait.1;
    })

returns_good : (image : Image) → IsSound image → (out : Option Kind) (c : Configuration) (g : IsRunning image out c) (result : Option Value)
    → IsResultOf image c.world.objects (kind_given c.top.entered c.top.contract g.top.frame.body) (given_by c.top.entered c.top.this result) → Good image out (returns result c)
returns_good image s out c g result r =
    let w = world_left c.top c.world in
    let same : c.world.objects ≡ w.objects = sym (left_objects c.top c.world) in
    let given = kind_given c.top.entered c.top.contract g.top.frame.body in
    let gives = given_by c.top.entered c.top.this result in
    resume_good image s out c.below given c.top.into gives w (subst (HaveFieldsOfKinds image) same g.objects) (subst (λ z. IsResultOf image z given gives) same r)
    (subst (λ z. Wait image z out c.below given c.top.into) same g.below)

-- Returns.

-- what a frame gives is as its body declares, if what it returns is; a constructor gives its object
pub gives_of : (image : Image) (objects : List Object) (entered : Entered) (contract : ContractId) (this : ℕ) (b : BodyCode) (result : Option Value) → IsObjectOf objects contract this
    → IsResultOf image objects (kind_of_result b) result
    → IsResultOf image objects (kind_given entered contract b) (given_by entered this result)
gives_of image objects on_receiver contract this b result h r = r
gives_of image objects on_this contract this b result h r = r
gives_of image objects on_new contract this b result h r = names_own image objects contract this h

pub no_kind : (image : Image) (objects : List Object) (o : Option TypeCode) → is_some o ≡ false → IsResultOf image objects (option_map kind_of_type o) None
no_kind image objects None e = tt
no_kind image objects (Some t) e = absurd (true≢false e)

pub some_kind : (image : Image) (c : Configuration) (a : ℕ) (o : Option TypeCode) (v : Value) → is_some o ≡ true
    → ((n : Need) → Contains (need_of a (option_map kind_of_type o)) n → AreMet image c.world.objects c.top.slots n) → value_at c.top.slots a ≡ Some v
    → IsResultOf image c.world.objects (option_map kind_of_type o) (Some v)
some_kind image c a None v e met at = absurd (true≢false (sym e))
some_kind image c a (Some t) v e met at =
    let h : Holds image c.world.objects c.top.slots a (kind_of_type t) = met (of_kind a (kind_of_type t)) (head (of_kind a (kind_of_type t)) []) in
    subst (IsOfKind image c.world.objects (kind_of_type t)) (some_same (sym h.there ∙ at)) h.kind

pub ret_good : (image : Image) → IsSound image → (out : Option Kind) (c : Configuration) (g : IsRunning image out c) → IsAt (code image c.world.objects c.top g.top.frame) c.top.at is.Ret
    → Good image out (return_step c)
ret_good image s out c g at =
    let none = (named_well (code image c.world.objects c.top g.top.frame) c.top.at is.Ret (g.top.frame.keeps.goes c.top.at is.Ret at)).1 in
    returns_good image s out c g None
    (gives_of image c.world.objects c.top.entered c.top.contract c.top.this g.top.frame.body None g.top.frame.this (no_kind image c.world.objects g.top.frame.body.result none))

pub retv_good : (image : Image) → IsSound image → (out : Option Kind) (c : Configuration) (g : IsRunning image out c) (a : ℕ)
    → IsAt (code image c.world.objects c.top g.top.frame) c.top.at (is.RetValue a)
    → Good image out (return_value_step a c)
retv_good image s out c g a at = then_good image out (value_at c.top.slots a) _ (λ v held.
    let some = not-false (is_some g.top.frame.body.result)
    (named_well (code image c.world.objects c.top g.top.frame) c.top.at (is.RetValue a) (g.top.frame.keeps.goes c.top.at (is.RetValue a) at)).1 in
    returns_good image s out c g (Some v) (gives_of image c.world.objects c.top.entered c.top.contract c.top.this g.top.frame.body (Some v) g.top.frame.this
    (some_kind image c a g.top.frame.body.result v some (need_met image s out c g (is.RetValue a) at) held)))
