-- Verified code that is run never leaves its slots, its code or its kinds.
use Rattle.std.proofs.Common.{ℕ, zero, suc, ◌<◌, length, Option, Some, None, Contains, sym, ◌∙◌, subst, List, [], ◌∷◌, ◌≡◌, slice_get, ap}
use Rattle.std.proofs.lemmas.Option.{slice_get_within}
use Rattle.ob_table.specs.declared.seen.Kind.{Kind}
use Rattle.ob_table.specs.declared.seen.Kind.TheVariants as kind
use Rattle.ob_base.specs.declared.id.ContractId.{ContractId}
use Rattle.ob_heap_spec.specs.Values.{reference}
use Rattle.ob_code.specs.declared.image.ContractCode.{ContractCode}
use Rattle.ob_code.specs.declared.image.FieldCode.{FieldCode}
use Rattle.ob_verify_spec.specs.Kinds.{kind_of_type}
use Rattle.ob_verify_spec.proofs.Cells.{some_same}
use Rattle.ob_code_laws.specs.Kinds.{NamesObject, IsOfKind, IsFieldValue, HasFieldsOfKinds, HaveFieldsOfKinds}
use Rattle.ob_code_laws.specs.Premises.{RefersAsDeclared}
use Rattle.ob_heap_spec.specs.Objects.{Object}
use Rattle.ob_code.specs.declared.image.Image.{Image}
use Rattle.ob_code.specs.declared.instruction.Instruction.{Instruction}
use Rattle.ob_machine_steps.specs.Configurations.{MachineFrame, Configuration, ended, aborted, Next, goes, stops}
use Rattle.ob_machine_steps.specs.Entries.{Phase, starting, running, started, next_step}
use Rattle.ob_machine_steps.specs.Runs.{Stop, paused, over, after_step, after_steps}
use Rattle.ob_verify_spec.specs.Instructions.{leads}
use Rattle.ob_verify_spec.specs.Ways.{IsAt}
use Rattle.ob_code_laws.specs.Keeping.{HasPlaceForResult, KeepsToCode, kind_given, entered_by, VerifiedCodeKeeps, VerifiedCodeEnds}
use Rattle.ob_code_laws.proofs.Frames.{IsSound, Wait, IsFrame, code, IsRunning, HasEnded, Good, need_met}
use Rattle.ob_code_laws.specs.Stepping.{VerifiedCodeSteps}
use Rattle.ob_code_laws.proofs.Stepping.{lacks_step}
use Rattle.ob_code_laws.proofs.Covering.{Speaks, reads_needed, met_set}
use Rattle.ob_code_laws.proofs.Starting.{MayEnter, sound, may_enter, enter_good}
use Rattle.ob_code_laws.proofs.Steps.{next_of_body, step_good}

-- Steps one after another.

abbrev GoodPhase : Image → Option Kind → Phase → Type 0
GoodPhase image out (starting e w) = MayEnter image out e w
GoodPhase image out (running c) = IsRunning image out c

abbrev GoodStop : Image → Option Kind → Option Stop → Type 0
GoodStop image out None = Unit {0}
GoodStop image out (Some (paused p)) = GoodPhase image out p
GoodStop image out (Some (over (ended result w))) = HasEnded image out result w
GoodStop image out (Some (over (aborted cause s))) = Unit {0}

next_good : (image : Image) → IsSound image → (out : Option Kind) (p : Phase) → GoodPhase image out p → Good image out (next_step image p)
next_good image s out (starting e w) g = enter_good image s out e w g
next_good image s out (running c) g = step_good image s out c g

after_good : (image : Image) (out : Option Kind) (r : Option Next) (go : Phase → Option Stop) → Good image out r → ((p : Phase) → GoodPhase image out p → GoodStop image out (go p))
    → GoodStop image out (after_step r go)
after_good image out None go g h = tt
after_good image out (Some (goes c)) go g h = h (running c) g
after_good image out (Some (stops (ended result w))) go g h = g
after_good image out (Some (stops (aborted cause s))) go g h = tt

steps_good : (image : Image) → IsSound image → (out : Option Kind) (n : ℕ) (p : Phase) → GoodPhase image out p → GoodStop image out (after_steps image n p)
steps_good image s out zero p g = g
steps_good image s out (suc n) p g = after_good image out (next_step image p) (after_steps image n) (next_good image s out p g) (λ q h. steps_good image s out n q h)

-- What the innermost frame keeps.

-- a place to which its instruction leads is in the body
leads_in : (image : Image) (out : Option Kind) (c : Configuration) (g : IsRunning image out c) (x : Instruction) → IsAt (code image c.world.objects c.top g.top.frame) c.top.at x
    → (j : ℕ) → Contains (leads c.top.at x) j → j < length g.top.frame.body.instructions
leads_in image out c g x at j lead =
    let a = g.top.frame.keeps.leads_on c.top.at j x g.top.known at g.top.there lead in
    let y = g.top.frame.keeps.stays j a.known a.there in
    slice_get_within g.top.frame.body.instructions j y.0 y.1

has_place : (image : Image) (objects : List Object) (out : Option Kind) (fs : List MachineFrame) (given : Option Kind) (into : ℕ) → Wait image objects out fs given into → HasPlaceForResult fs into
has_place image objects out [] given into w = tt
has_place image objects out (f ∷ fs) given into w = record { other = w.0.other; within = λ ne. subst (λ z. into < z) (sym w.0.frame.count) (w.0.within ne) }

pub keeps_to_code : (image : Image) → IsSound image → (out : Option Kind) (c : Configuration) → IsRunning image out c → KeepsToCode image c
keeps_to_code image s out c g =
    let h : IsFrame image c.world.objects c.top = g.top.frame in
    let here = code image c.world.objects c.top h in
    let x = h.keeps.stays c.top.at g.top.known g.top.there in
    record {
      own = h.own;
      body = h.body;
      there = h.there;
      contract = h.contract;
      instruction = x.0;
      next = next_of_body image out c g ∙ x.1;
      goes = h.keeps.goes c.top.at x.0 x.1;
      leads_within = leads_in image out c g x.0 x.1;
      slots = h.count;
      reads_within = λ k read. subst (λ z. k < z) (sym h.count) (h.keeps.reads_within c.top.at k x.0 x.1 read);
      sets_within = λ k set. let named = h.keeps.sets_within c.top.at k x.0 x.1 set in (named.0, subst (λ z. k < z) (sym h.count) named.1);
      result = has_place image c.world.objects out c.below _ c.top.into g.below;
      reads_set = λ k read.
          let n : Speaks _ k = reads_needed here c.top.at x.0 (h.keeps.goes c.top.at x.0 x.1) k read in
          met_set image c.world.objects c.top.slots n.need k (need_met image s out c g x.0 x.1 n.need n.among) n.of;
      met = need_met image s out c g x.0 x.1;
      this = h.this;
      first = h.first;
      objects = g.objects;
    }

-- What a run ends with.

refers_by : (image : Image) (objects : List Object) (x : Kind) (c : ContractId) (m : ℕ) → x ≡ kind.Reference c → IsOfKind image objects x (reference m) → NamesObject image objects c m
refers_by image objects x c m same h = subst (λ z. IsOfKind image objects z (reference m)) same h

-- where fields are of their kinds, their references are as declared
refers_as_declared : (image : Image) (objects : List Object) → HaveFieldsOfKinds image objects → RefersAsDeclared image objects
refers_as_declared image objects h = record {
  each = λ n k m o own field c at of declared kind e.
      let kept : HasFieldsOfKinds image objects o = h.each n o at in
      let value : IsFieldValue image objects kept.own k (reference m) = kept.fields k (reference m) e in
      let same : value.field ≡ field = some_same (sym value.declared ∙ ap (λ (z : ContractCode). slice_get z.fields k) (some_same (sym kept.of ∙ of)) ∙ declared) in
      refers_by image objects (kind_of_type value.field.of) c m (ap (λ (z : FieldCode). kind_of_type z.of) same ∙ kind) value.kind;
}

-- The laws.

pub verified_code_keeps : VerifiedCodeKeeps
verified_code_keeps image content e m fuel steps c is =
    let out = kind_given (entered_by e.receiver) e.contract m.starts.body in
    let s : IsSound image = sound image content e m in
    keeps_to_code image s out c (subst (GoodStop image out) is (steps_good image s out steps (started image e content.objects fuel) (may_enter image content e m fuel)))

pub verified_code_ends : VerifiedCodeEnds
verified_code_ends image content e m fuel steps result w is =
    let out = kind_given (entered_by e.receiver) e.contract m.starts.body in
    let s : IsSound image = sound image content e m in
    let end : HasEnded image out result w = subst (GoodStop image out) is (steps_good image s out steps (started image e content.objects fuel) (may_enter image content e m fuel)) in
    record { own = m.starts.own; body = m.starts.body; there = m.starts.there; gives = end.gives; objects = end.objects; refers = refers_as_declared image w.objects end.objects }

pub verified_code_steps : VerifiedCodeSteps
verified_code_steps image content e m fuel steps c is x next none =
    let out = kind_given (entered_by e.receiver) e.contract m.starts.body in
    let s : IsSound image = sound image content e m in
    let g : IsRunning image out c = subst (GoodStop image out) is (steps_good image s out steps (started image e content.objects fuel) (may_enter image content e m fuel)) in
    lacks_step image s out c g x (sym (next_of_body image out c g) ∙ next) next none
