-- What holds of the frames of a run of verified code, from step to step.
use Rattle.std.proofs.Common.{◌≡◌, ◌≢◌, ℕ, zero, suc, ◌<◌, List, [], ◌∷◌, length, Option, Some, None, Bool, true, false, Contains, refl, sym, ◌∙◌}
use Rattle.std.specs.Prelude.{if◌then◌else◌, is_some}
use Rattle.ob_base.specs.Optional.{◌>>=◌}
use Rattle.ob_table.specs.declared.seen.Kind.{Kind}
use Rattle.ob_heap_spec.specs.Values.{Value, reference}
use Rattle.ob_heap_spec.specs.Objects.{Object}
use Rattle.ob_heap_spec.specs.Worlds.{World, with_unit_taken}
use Rattle.ob_code.specs.declared.image.BodyCode.{BodyCode}
use Rattle.ob_code.specs.declared.image.ContractCode.{ContractCode}
use Rattle.ob_code.specs.declared.image.Image.{Image}
use Rattle.ob_code.specs.declared.instruction.Instruction.{Instruction}
use Rattle.ob_machine_steps.specs.Slots.{Slots, value_at}
use Rattle.ob_machine_steps.specs.Configurations.{MachineFrame, Configuration, Next, goes, stops, ended, aborted}
use Rattle.ob_machine_steps.specs.Parts.{with_units, with_unit}
use Rattle.ob_code.specs.Code.{is_interface}
use Rattle.ob_verify_spec.specs.Kinds.{fits}
use Rattle.ob_verify_spec.specs.Frames.{CodeFrame}
use Rattle.ob_verify_spec.specs.Instructions.{leads, Need, slots_needed, needs, done, effect}
use Rattle.ob_verify_spec.specs.Instructions as kinds
use Rattle.ob_verify_spec.specs.Ways.{IsAt}
use Rattle.ob_verify_spec.specs.Verified.{IsVerified}
use Rattle.ob_verify_spec.specs.Calling.{ImplementsInterfacesAlone}
use Rattle.ob_verify_spec.specs.Running.{AreKnownAt, KeepsKinds}
use Rattle.ob_verify_spec.specs.Laws.{frame_of, HasBody, SlotsFitByte}
use Rattle.ob_code_laws.specs.Kinds.{IsObjectOf, HaveFieldsOfKinds, Holds, AreMet, IsResultOf}
use Rattle.ob_code_laws.specs.Keeping.{kind_given}
use Rattle.ob_code_laws.proofs.Growing.{Grows, object_grows, holds_grows}
use Rattle.ob_code_laws.proofs.Worlds.{Follows}
use Rattle.ob_code_laws.proofs.Fitting.{HoldKnown, hold_less, are_met}

-- an image whose code is verified and may be run
pub record IsSound (image : Image) : Type 0 where
  pub verified : IsVerified image
  pub implements : ImplementsInterfacesAlone image
  pub slots : SlotsFitByte image

-- a frame runs a verified body on an object of its contract
pub record IsFrame (image : Image) (objects : List Object) (f : MachineFrame) : Type 0 where
  pub own : ContractCode
  pub body : BodyCode
  pub there : HasBody image f.contract own f.tx body
  pub contract : is_interface own ≡ false
  pub kinds : ℕ → Option kinds.KindsOfSlots
  pub keeps : KeepsKinds (frame_of image f.contract own body) kinds
  pub count : length f.slots ≡ body.slots
  pub this : IsObjectOf objects f.contract f.this
  pub first : value_at f.slots 0 ≡ Some (reference f.this)

-- the body of a frame with what stands around it
abbrev pub code : (image : Image) (objects : List Object) (f : MachineFrame) → IsFrame image objects f → CodeFrame
code image objects f h = frame_of image f.contract h.own h.body

-- the innermost frame: its slots hold what is known of them
pub record IsInnermost (image : Image) (objects : List Object) (f : MachineFrame) : Type 0 where
  pub frame : IsFrame image objects f
  pub known : kinds.KindsOfSlots
  pub there : frame.kinds f.at ≡ Some known
  pub holds : HoldKnown image objects frame.body.slots known f.slots

-- a frame that waits for a result of a kind in a slot: its other slots hold what is known of them
pub record IsWaiting (image : Image) (objects : List Object) (f : MachineFrame) (given : Option Kind) (into : ℕ) : Type 0 where
  pub frame : IsFrame image objects f
  pub known : kinds.KindsOfSlots
  pub there : frame.kinds f.at ≡ Some known
  pub holds : (k : ℕ) (x : Kind) → k < frame.body.slots → k ≢ into → known k ≡ Some x → Holds image objects f.slots k x
  pub awaited : (x : Kind) → into < frame.body.slots → known into ≡ Some x → (y : Kind) × (given ≡ Some y) × (fits image y x ≡ true)
  pub other : into ≢ 0
  pub within : into ≢ 255 → into < frame.body.slots
  pub wanted : into ≢ 255 → is_some given ≡ true

-- frames that wait, each for the one before it; the last gives what the run gives
abbrev pub Wait : Image → List Object → Option Kind → List MachineFrame → Option Kind → ℕ → Type 0
Wait image objects out [] given into = given ≡ out
Wait image objects out (f ∷ fs) given into = (w : IsWaiting image objects f given into) × Wait image objects out fs (kind_given f.entered f.contract w.frame.body) f.into

-- a configuration of a run, of an image whose code may be run, that is to give a result of a kind
pub record IsRunning (image : Image) (out : Option Kind) (c : Configuration) : Type 0 where
  pub implements : ImplementsInterfacesAlone image
  pub objects : HaveFieldsOfKinds image c.world.objects
  pub top : IsInnermost image c.world.objects c.top
  pub below : Wait image c.world.objects out c.below (kind_given c.top.entered c.top.contract top.frame.body) c.top.into

-- the end of such a run
pub record HasEnded (image : Image) (out : Option Kind) (result : Option Value) (w : World) : Type 0 where
  pub gives : IsResultOf image w.objects out result
  pub objects : HaveFieldsOfKinds image w.objects

-- what a step leads to
abbrev pub Good : Image → Option Kind → Option Next → Type 0
Good image out None = Unit {0}
Good image out (Some (goes d)) = IsRunning image out d
Good image out (Some (stops (ended result w))) = HasEnded image out result w
Good image out (Some (stops (aborted cause s))) = Unit {0}

-- Parts of steps.

pub then_good : (image : Image) (out : Option Kind) {A : Type 0} (o : Option A) (f : A → Option Next) → ((a : A) → o ≡ Some a → Good image out (f a)) → Good image out (o >>= f)
then_good image out None f h = tt
then_good image out (Some a) f h = h a refl

pub if_good : (image : Image) (out : Option Kind) (b : Bool) (x y : Option Next) → Good image out x → Good image out y → Good image out (if b then x else y)
if_good image out true x y h k = h
if_good image out false x y h k = k

units_good : (image : Image) (out : Option Kind) (k : ℕ) (w : World) (go : World → Option Next) → ((v : World) → v.objects ≡ w.objects → Good image out (go v)) → Good image out (with_units k w go)
units_good image out zero w go h = tt
units_good image out (suc k) w go h = h (with_unit_taken w k) refl

pub unit_good : (image : Image) (out : Option Kind) (w : World) (go : World → Option Next) → ((v : World) → v.objects ≡ w.objects → Good image out (go v)) → Good image out (with_unit w go)
unit_good image out w go h = units_good image out w.fuel w go h

-- Frames beside objects that grow.

abbrev pub frame_grows : (image : Image) (old new : List Object) → Grows old new → (f : MachineFrame) → IsFrame image old f → IsFrame image new f
frame_grows image old new g f h = record {
  own = h.own;
  body = h.body;
  there = h.there;
  contract = h.contract;
  kinds = h.kinds;
  keeps = h.keeps;
  count = h.count;
  this = object_grows old new g f.contract f.this h.this;
  first = h.first;
}

abbrev pub waiting_grows : (image : Image) (old new : List Object) → Grows old new → (f : MachineFrame) (given : Option Kind) (into : ℕ) → IsWaiting image old f given into
    → IsWaiting image new f given into
waiting_grows image old new g f given into w = record {
  frame = frame_grows image old new g f w.frame;
  known = w.known;
  there = w.there;
  holds = λ k x lt ne e. holds_grows image old new g f.slots k x (w.holds k x lt ne e);
  awaited = w.awaited;
  other = w.other;
  within = w.within;
  wanted = w.wanted;
}

pub wait_grows : (image : Image) (out : Option Kind) (old new : List Object) → Grows old new → (fs : List MachineFrame) (given : Option Kind) (into : ℕ) → Wait image old out fs given into
    → Wait image new out fs given into
wait_grows image out old new g [] given into w = w
wait_grows image out old new g (f ∷ fs) given into w = (waiting_grows image old new g f given into w.0, wait_grows image out old new g fs (kind_given f.entered f.contract w.0.frame.body) f.into w.1)

-- The innermost frame goes on.

-- what holds of an instruction of the innermost frame
pub need_met : (image : Image) → IsSound image → (out : Option Kind) (c : Configuration) (g : IsRunning image out c) (x : Instruction) → IsAt (code image c.world.objects c.top g.top.frame) c.top.at x
    → (n : Need) → Contains (needs (code image c.world.objects c.top g.top.frame) x) n → AreMet image c.world.objects c.top.slots n
need_met image s out c g x at n has =
    let h = g.top.frame in
    are_met image s.implements c.world.objects h.body.slots g.top.known c.top.slots g.top.holds n (λ k d. h.keeps.needs_within c.top.at k x n at has d)
    (h.keeps.met c.top.at x g.top.known n at g.top.there has)

-- it goes on at a place, with other slots and in another world
pub moved : (image : Image) (out : Option Kind) (c : Configuration) (g : IsRunning image out c) (x : Instruction) → IsAt (code image c.world.objects c.top g.top.frame) c.top.at x
    → (j : ℕ) → Contains (leads c.top.at x) j → (slots : Slots) (tests : List (Option ℕ)) (w : World) → Follows image c.world.objects w.objects
    → length slots ≡ length c.top.slots → value_at slots 0 ≡ value_at c.top.slots 0
    → HoldKnown image w.objects g.top.frame.body.slots (done (effect (code image c.world.objects c.top g.top.frame) x) g.top.known) slots
    → IsRunning image out (record { top = record c.top { at = j; slots = slots; tests = tests }; below = c.below; world = w })
moved image out c g x at j lead slots tests w f count first holds =
    let h : IsFrame image c.world.objects c.top = g.top.frame in
    let a : AreKnownAt (code image c.world.objects c.top h) h.kinds j
    (done (effect (code image c.world.objects c.top h) x) g.top.known) = h.keeps.leads_on c.top.at j x g.top.known at g.top.there lead in
    record {
      implements = g.implements;
      objects = f.kinds;
      top = record {
        frame = record {
          own = h.own;
          body = h.body;
          there = h.there;
          contract = h.contract;
          kinds = h.kinds;
          keeps = h.keeps;
          count = count ∙ h.count;
          this = object_grows c.world.objects w.objects f.grows c.top.contract c.top.this h.this;
          first = first ∙ h.first;
        };
        known = a.known;
        there = a.there;
        holds = hold_less image g.implements w.objects h.body.slots _ a.known slots a.held holds;
      };
      below = wait_grows image out c.world.objects w.objects f.grows c.below _ c.top.into g.below;
    }

-- it goes on at a place with the same slots
pub stays : (image : Image) (out : Option Kind) (c : Configuration) (g : IsRunning image out c) (x : Instruction) → IsAt (code image c.world.objects c.top g.top.frame) c.top.at x
    → (j : ℕ) → Contains (leads c.top.at x) j → (tests : List (Option ℕ)) (w : World) → Follows image c.world.objects w.objects
    → ((k : ℕ) → done (effect (code image c.world.objects c.top g.top.frame) x) g.top.known k ≡ g.top.known k)
    → IsRunning image out (record { top = record c.top { at = j; tests = tests }; below = c.below; world = w })
stays image out c g x at j lead tests w f same =
    moved image out c g x at j lead c.top.slots tests w f refl refl (λ k y lt e. holds_grows image c.world.objects w.objects f.grows c.top.slots k y (g.top.holds k y lt (sym (same k) ∙ e)))
