-- Steps and slices, on two contents.
use Rattle.std.proofs.Common.{◌≡◌, ℕ, zero, suc, Bool, true, false, ◌&&◌, List, Option, Some, None, refl, sym, ap, ◌∙◌, subst, true≢false}
use Rattle.std.specs.Prelude.{⊤, nat_eq, is_some, if◌then◌else◌}
use Rattle.ob_heap_spec.specs.Objects.{Object}
use Rattle.ob_heap_spec.specs.Worlds.{ReadItem, AllRead}
use Rattle.ob_code.specs.declared.image.Image.{Image}
use Rattle.ob_machine_steps.specs.Configurations.{Next, goes, stops}
use Rattle.ob_machine_steps.specs.Entries.{Phase, starting, running, next_step}
use Rattle.ob_machine_steps.specs.Runs.{Stop, paused, after_step, after_steps, pays, waits, left_after, run_in, world_of}
use Rattle.ob_request_run_laws.specs.Locality.{Setting, configuration_onto, phase_onto, stop_onto, reads_of_stop, IsGoodPhase, IsGoodStop, AlikeStop}
use Rattle.ob_request_run_laws.proofs.Lists.{all_read_self, all_read_on}
use Rattle.ob_request_run_laws.proofs.Moves.{HasAlike}
use Rattle.ob_request_run_laws.proofs.Follows.{Follows}
use Rattle.ob_request_run_laws.proofs.Instructions.{step_follows}

-- how far a run has come on the first content and on the second
pub record FollowsStop (s : Setting) (r : List ReadItem) (x : Stop) (y : Option Stop) : Type 0 where
  pub grows : AllRead r (reads_of_stop x)
  pub good : IsGoodStop s.count x
  pub ys : List Object
  pub is : AllRead (reads_of_stop x) s.items → y ≡ Some (stop_onto ys x)
  pub alike : AllRead (reads_of_stop x) s.items → AlikeStop s x ys

abbrev pub Stops : Setting → List ReadItem → Option Stop → Option Stop → Type 0
Stops s r None y = ⊤
Stops s r (Some x) y = FollowsStop s r x y

pub stops_on : (s : Setting) (q r : List ReadItem) (x y z : Option Stop) → AllRead q r → (AllRead r s.items → z ≡ y) → Stops s r x y → Stops s q x z
stops_on s q r None y z h e f = tt
stops_on s q r (Some x) y z h e f = record {
  grows = all_read_on q r (reads_of_stop x) h f.grows;
  good = f.good;
  ys = f.ys;
  is = λ all. e (all_read_on r (reads_of_stop x) s.items f.grows all) ∙ f.is all;
  alike = f.alike;
}

after_follows : (s : Setting) (r : List ReadItem) (x y : Option Next) (f g : Phase → Option Stop) → Follows s r x y
    → ((q : Phase) (ys : List Object) → IsGoodPhase s.count q → HasAlike s (world_of q) ys → Stops s (world_of q).reads (f q) (g (phase_onto ys q))) → Stops s r (after_step x f) (after_step y g)
after_follows s r None y f g h ih = tt
after_follows s r (Some (goes c)) y f g h ih =
    stops_on s r c.world.reads (f (running c)) (g (running (configuration_onto h.ys c))) (after_step y g) h.grows (λ all. ap (λ z. after_step z g) (h.is all)) (ih (running c) h.ys h.good h.alike)
after_follows s r (Some (stops e)) y f g h ih = record { grows = h.grows; good = h.good; ys = h.ys; is = λ all. ap (λ z. after_step z g) (h.is all); alike = h.alike }

paused_follows : (s : Setting) (p : Phase) (ys : List Object) → IsGoodPhase s.count p → HasAlike s (world_of p) ys → Stops s (world_of p).reads (Some (paused p)) (Some (paused (phase_onto ys p)))
paused_follows s p ys good alike = record { grows = all_read_self (world_of p).reads; good = good; ys = ys; is = λ all. refl; alike = alike }

-- any number of steps
pub steps_follow : (s : Setting) (image : Image) (n : ℕ) (p : Phase) (ys : List Object) → IsGoodPhase s.count p → HasAlike s (world_of p) ys
    → Stops s (world_of p).reads (after_steps image n p) (after_steps image n (phase_onto ys p))
steps_follow s image zero p ys good alike = paused_follows s p ys good alike
steps_follow s image (suc n) p ys good alike =
    after_follows s (world_of p).reads (next_step image p) (next_step image (phase_onto ys p)) _ _ (step_follows s image p ys good alike) (λ q zs g a. steps_follow s image n q zs g a)

pub pays_same : (image : Image) (ys : List Object) (p : Phase) → pays image (phase_onto ys p) ≡ pays image p
pays_same image ys (starting e w) = refl
pays_same image ys (running c) = refl

waits_follow : (s : Setting) (p : Phase) (ys : List Object) (x y : Option Stop) (b c : Bool) → c ≡ b → IsGoodPhase s.count p → HasAlike s (world_of p) ys → Stops s (world_of p).reads x y
    → Stops s (world_of p).reads (if b then Some (paused p) else x) (if c then Some (paused (phase_onto ys p)) else y)
waits_follow s p ys x y true c e good alike h = rw e (paused_follows s p ys good alike)
waits_follow s p ys x y false c e good alike h = rw e h

-- a slice
pub slice_follows : (s : Setting) (image : Image) (n units : ℕ) (p : Phase) (ys : List Object) → IsGoodPhase s.count p → HasAlike s (world_of p) ys
    → Stops s (world_of p).reads (run_in image n units p) (run_in image n units (phase_onto ys p))
slice_follows s image zero units p ys good alike = tt
slice_follows s image (suc n) units p ys good alike =
    waits_follow s p ys _ _ (waits image units p) (waits image units (phase_onto ys p)) (ap (λ b. b && nat_eq units 0) (pays_same image ys p)) good alike
    (stops_on s (world_of p).reads (world_of p).reads _ (after_step (next_step image (phase_onto ys p)) (run_in image n (left_after (pays image p) units))) _ (all_read_self (world_of p).reads)
    (λ all. ap (λ b. after_step (next_step image (phase_onto ys p)) (run_in image n (left_after b units))) (pays_same image ys p))
    (after_follows s (world_of p).reads (next_step image p) (next_step image (phase_onto ys p)) _ _ (step_follows s image p ys good alike)
    (λ q zs g a. slice_follows s image n (left_after (pays image p) units) q zs g a)))

-- what is told where a run has come so far
pub told : (s : Setting) (r : List ReadItem) (x y : Option Stop) → Stops s r x y → (z : Stop) → x ≡ Some z → FollowsStop s r z y
told s r None y h z e = absurd (true≢false (sym (ap is_some e)))
told s r (Some x) y h z e = subst (λ o. Stops s r o y) e h
