-- Slices one after another.
use Rattle.std.proofs.Common.{◌≡◌, ℕ, zero, suc, ◌+◌, Option, Some, None, Bool, true, false, ◌&&◌, nat_eq, refl, sym, ap, subst, arith}
use Rattle.std.specs.Prelude.{if◌then◌else◌}
use Rattle.ob_code.specs.declared.image.Image.{Image}
use Rattle.ob_machine_steps.specs.Configurations.{End, Next, goes, stops}
use Rattle.ob_machine_steps.specs.Entries.{Phase, running, next_step}
use Rattle.ob_machine_steps.specs.Runs.{Stop, paused, over, after_step, pays, waits, left_after, run_in, Slices}

-- where a slice is paused, if it is
abbrev pub place_of : Phase → Option Stop → Phase
place_of p None = p
place_of p (Some (paused q)) = q
place_of p (Some (over end)) = p

abbrev IsPaused : Option Stop → Type 0
IsPaused None = ⊥
IsPaused (Some (paused q)) = Unit {0}
IsPaused (Some (over end)) = ⊥

pub none_paused : {q : Phase} → None ≡ Some (paused q) → ⊥
none_paused e = subst IsPaused (sym e) tt

pub over_paused : {end : End} {q : Phase} → Some (over end) ≡ Some (paused q) → ⊥
over_paused e = subst IsPaused (sym e) tt

pub paused_same : {p q : Phase} → Some (paused p) ≡ Some (paused q) → p ≡ q
paused_same {p = p} e = ap (λ s. place_of p s) e

-- a slice goes on with a step
pub steps_on : (image : Image) (units : ℕ) (p : Phase) (s : Stop) (next : Next) → waits image units p ≡ false → next_step image p ≡ Some next
    → (n : ℕ) → after_step (Some next) (run_in image n (left_after (pays image p) units)) ≡ Some s → Slices image units p s
steps_on image units p s next e f n h = record { steps = suc n; by = rw (e, f) h }

-- what a longer slice waits for, and has left
waits_less : (paid : Bool) (m n : ℕ) → paid && nat_eq m 0 ≡ false → paid && nat_eq (m + n) 0 ≡ false
waits_less true m n e = grind arith
waits_less false m n e = refl

left_more : (paid : Bool) (m n : ℕ) → paid && nat_eq m 0 ≡ false → left_after paid m + n ≡ left_after paid (m + n)
left_more true m n e = grind arith
left_more false m n e = refl

wait_none : (paid : Bool) (m n : ℕ) → paid && nat_eq m 0 ≡ true → n ≡ m + n
wait_none true m n e = grind arith
wait_none false m n e = grind arith

add_step : (image : Image) (k m n : ℕ) (p q : Phase) (s : Stop) (r : Option Next) → next_step image p ≡ r → waits image m p ≡ false
    → after_step r (run_in image k (left_after (pays image p) m)) ≡ Some (paused q)
    → ((l : ℕ) (x : Phase) → run_in image k l x ≡ Some (paused q) → Slices image (l + n) x s) → Slices image (m + n) p s
add_step image k m n p q s None g e f h = absurd (none_paused f)
add_step image k m n p q s (Some (goes c)) g e f h =
    let later : Slices image (left_after (pays image p) (m + n)) (running c) s = subst (λ l. Slices image l (running c) s) (left_more (pays image p) m n e)
    (h (left_after (pays image p) m) (running c) f) in
    steps_on image (m + n) p s (goes c) (waits_less (pays image p) m n e) g later.steps later.by
add_step image k m n p q s (Some (stops end)) g e f h = absurd (over_paused f)

add_by : (image : Image) (k m n : ℕ) (p q : Phase) (s : Stop) (b : Bool) → waits image m p ≡ b
    → (if b then Some (paused p) else after_step (next_step image p) (run_in image k (left_after (pays image p) m))) ≡ Some (paused q) → Slices image n q s
    → ((l : ℕ) (x : Phase) → run_in image k l x ≡ Some (paused q) → Slices image (l + n) x s) → Slices image (m + n) p s
add_by image k m n p q s true e f h ih = subst (λ l. Slices image l p s) (wait_none (pays image p) m n e) (subst (λ x. Slices image n x s) (sym (paused_same f)) h)
add_by image k m n p q s false e f h ih = add_step image k m n p q s (next_step image p) refl e f ih

add_in : (image : Image) (k m n : ℕ) (p q : Phase) (s : Stop) → run_in image k m p ≡ Some (paused q) → Slices image n q s → Slices image (m + n) p s
add_in image zero m n p q s f h = absurd (none_paused f)
add_in image (suc k) m n p q s f h = add_by image k m n p q s (waits image m p) refl f h (λ l x g. add_in image k l n x q s g h)

-- two slices one after another are one slice of the sum
pub slices_add : (image : Image) (m n : ℕ) (p q : Phase) (s : Stop) → Slices image m p (paused q) → Slices image n q s → Slices image (m + n) p s
slices_add image m n p q s a b = add_in image a.steps m n p q s a.by b
