-- Each busy lane has a request of its own, which isn't answered.
use Rattle.std.proofs.Common.{◌≡◌, ℕ, zero, suc, ◌⊎◌, inl, inr, Bool, true, false, not, ◌&&◌, ◌||◌, List, [], ◌∷◌, Option, Some, None, refl, sym, ap, ◌∙◌, subst, arith, true≢false, eq-eqb}
use Rattle.std.specs.Prelude.{nat_eq, slice_get, slice_set, if◌then◌else◌}
use Rattle.ob_invocation_spec.specs.Requests.{Request}
use Rattle.ob_code.specs.declared.image.Image.{Image}
use Rattle.ob_lanes_laws.specs.Schedule.{is_done, is_busy_with, is_held, are_earlier_done, may_start, opened, with_lane, after_commit, committed}
use Rattle.ob_lanes_laws.proofs.Keeping.{none_is_some, some_same, set_cases, map_cases, both_true, not_true, differ}
use Rattle.ob_lanes.specs.Standing.{Fits, rules_on, BusyLane, State, HaveOwnRequests}

-- a lane that has the request of a number holds it
held_not : (n k : ℕ) (lanes : List (Option BusyLane)) (b : BusyLane) → is_held n lanes ≡ false → slice_get lanes k ≡ Some (Some b) → n ≡ b.number → ⊥
held_not n k [] b h e f = none_is_some e
held_not n zero (x ∷ lanes) b h e f =
    true≢false (sym (eq-eqb n b.number f) ∙ ap (is_busy_with n) (sym (some_same x (Some b) e)) ∙ (neither (is_busy_with n x) (is_held n lanes) h).0)
  where
    neither : (a c : Bool) → a || c ≡ false → (a ≡ false) × (c ≡ false)
    neither true c g = absurd (true≢false g)
    neither false c g = (refl, g)
held_not n (suc k) (x ∷ lanes) b h e f = held_not n k lanes b (right (is_busy_with n x) (is_held n lanes) h) e f
  where
    right : (a c : Bool) → a || c ≡ false → c ≡ false
    right true c g = absurd (true≢false g)
    right false c g = g

-- another run of the same request
pub own_sliced : (l : State) (k : ℕ) (b next : BusyLane) → slice_get l.lanes k ≡ Some (Some b) → next.number ≡ b.number → HaveOwnRequests l → HaveOwnRequests (with_lane k (Some next) l)
own_sliced l k b next e same h = record {
  unanswered = λ j d f. waits j d (set_cases l.lanes k j (Some next) (Some d) f);
  apart = λ i j c d f g n. parts i j c d n (set_cases l.lanes k i (Some next) (Some c) f) (set_cases l.lanes k j (Some next) (Some d) g);
}
  where
    number : (d : BusyLane) → Some next ≡ Some d → b.number ≡ d.number
    number d f = sym same ∙ ap (λ (x : BusyLane). x.number) (some_same next d f)

    waits : (j : ℕ) (d : BusyLane) → ((j ≡ k) × (Some next ≡ Some d)) ⊎ (slice_get l.lanes j ≡ Some (Some d)) → is_done d.number l.done ≡ false
    waits j d (inl f) = subst (λ n. is_done n l.done ≡ false) (number d f.1) (h.unanswered k b e)
    waits j d (inr f) = h.unanswered j d f

    parts : (i j : ℕ) (c d : BusyLane) → c.number ≡ d.number → ((i ≡ k) × (Some next ≡ Some c)) ⊎ (slice_get l.lanes i ≡ Some (Some c)) → ((j ≡ k) × (Some next ≡ Some d)) ⊎ (slice_get l.lanes j ≡ Some (Some d)) → i ≡ j
    parts i j c d n (inl f) (inl g) = f.0 ∙ sym g.0
    parts i j c d n (inl f) (inr g) = f.0 ∙ h.apart k j b d e g (number c f.1 ∙ n)
    parts i j c d n (inr f) (inl g) = h.apart i k c b f e (n ∙ sym (number d g.1)) ∙ sym g.0
    parts i j c d n (inr f) (inr g) = h.apart i j c d f g n

-- a request that may start
pub own_opened : (fits : Fits) (image : Image) (fuel : ℕ) (batch : List Request) (l : State) (k n : ℕ) (q : Request) → may_start (rules_on fits image fuel) batch n q l ≡ true → HaveOwnRequests l
    → HaveOwnRequests (with_lane k (Some (opened (rules_on fits image fuel) n q)) l)
own_opened fits image fuel batch l k n q m h = record {
  unanswered = λ j d f. waits j d (set_cases l.lanes k j (Some new) (Some d) f);
  apart = λ i j c d f g same. parts i j c d same (set_cases l.lanes k i (Some new) (Some c) f) (set_cases l.lanes k j (Some new) (Some d) g);
}
  where
    new : BusyLane
    new = opened (rules_on fits image fuel) n q

    two : (not (is_done n l.done) ≡ true) × (not (is_held n l.lanes) && are_earlier_done (rules_on fits image fuel) q n 0 batch l.done ≡ true)
    two = both_true (not (is_done n l.done)) (not (is_held n l.lanes) && are_earlier_done (rules_on fits image fuel) q n 0 batch l.done) m

    free : is_held n l.lanes ≡ false
    free = not_true (is_held n l.lanes) (both_true (not (is_held n l.lanes)) (are_earlier_done (rules_on fits image fuel) q n 0 batch l.done) two.1).0

    number : (d : BusyLane) → Some new ≡ Some d → n ≡ d.number
    number d f = ap (λ (x : BusyLane). x.number) (some_same new d f)

    waits : (j : ℕ) (d : BusyLane) → ((j ≡ k) × (Some new ≡ Some d)) ⊎ (slice_get l.lanes j ≡ Some (Some d)) → is_done d.number l.done ≡ false
    waits j d (inl f) = subst (λ m. is_done m l.done ≡ false) (number d f.1) (not_true (is_done n l.done) two.0)
    waits j d (inr f) = h.unanswered j d f

    parts : (i j : ℕ) (c d : BusyLane) → c.number ≡ d.number → ((i ≡ k) × (Some new ≡ Some c)) ⊎ (slice_get l.lanes i ≡ Some (Some c)) → ((j ≡ k) × (Some new ≡ Some d)) ⊎ (slice_get l.lanes j ≡ Some (Some d)) → i ≡ j
    parts i j c d same (inl f) (inl g) = f.0 ∙ sym g.0
    parts i j c d same (inl f) (inr g) = absurd (held_not n j l.lanes d free g (number c f.1 ∙ same))
    parts i j c d same (inr f) (inl g) = absurd (held_not n i l.lanes c free f (number d g.1 ∙ sym same))
    parts i j c d same (inr f) (inr g) = h.apart i j c d f g same

-- the lane that another came from at a commit
record CameFrom (fits : Fits) (image : Image) (fuel : ℕ) (l : State) (k : ℕ) (j : ℕ) (d : BusyLane) : Type 0 where
  old : BusyLane
  at : slice_get l.lanes j ≡ Some (Some old)
  other : ¬ (j ≡ k)
  number : old.number ≡ d.number

came_from : (fits : Fits) (image : Image) (fuel : ℕ) (l : State) (k : ℕ) (b : BusyLane) (j : ℕ) (d : BusyLane) → slice_get (committed (rules_on fits image fuel) k b l).lanes j ≡ Some (Some d) → CameFrom fits image fuel l k j d
came_from fits image fuel l k b j d e =
    let x = map_cases (after_commit (rules_on fits image fuel) l.store ((rules_on fits image fuel).commit l.store b.run)) (slice_set l.lanes k None) j (Some d) e in by x.0 x.1 x.2
  where
    again : (stale : Bool) (c : BusyLane) → (if stale then opened (rules_on fits image fuel) c.number c.request else c) ≡ d → c.number ≡ d.number
    again true c f = ap (λ (x : BusyLane). x.number) f
    again false c f = ap (λ (x : BusyLane). x.number) f

    here : (xs : List (Option BusyLane)) (k j : ℕ) (c : BusyLane) → j ≡ k → slice_get (slice_set xs k None) j ≡ Some (Some c) → ⊥
    here [] k j c f g = none_is_some g
    here (y ∷ ys) zero zero c f g = none_is_some (some_same None (Some c) g)
    here (y ∷ ys) zero (suc j) c f g = absurd (omega (arith, f))
    here (y ∷ ys) (suc k) zero c f g = absurd (omega (arith, f))
    here (y ∷ ys) (suc k) (suc j) c f g = here ys k j c (omega (arith, f)) g

    there : (c : BusyLane) → ((j ≡ k) × (None ≡ Some c)) ⊎ (slice_get l.lanes j ≡ Some (Some c)) → slice_get l.lanes j ≡ Some (Some c)
    there c (inl f) = absurd (none_is_some f.1)
    there c (inr f) = f

    by : (x : Option BusyLane) → slice_get (slice_set l.lanes k None) j ≡ Some x → after_commit (rules_on fits image fuel) l.store ((rules_on fits image fuel).commit l.store b.run) x ≡ Some d → CameFrom fits image fuel l k j d
    by None f g = absurd (none_is_some g)
    by (Some c) f g = record {
      old = c;
      at = there c (set_cases l.lanes k j None (Some c) f);
      other = λ same. here l.lanes k j c same f;
      number = again ((rules_on fits image fuel).is_stale l.store ((rules_on fits image fuel).commit l.store b.run) c.run) c (some_same _ d g);
    }

-- a commit
pub own_committed : (fits : Fits) (image : Image) (fuel : ℕ) (l : State) (k : ℕ) (b : BusyLane) → slice_get l.lanes k ≡ Some (Some b) → HaveOwnRequests l → HaveOwnRequests (committed (rules_on fits image fuel) k b l)
own_committed fits image fuel l k b e h = record {
  unanswered = λ j d f.
      let c = came_from fits image fuel l k b j d f in
      subst (λ n. nat_eq n b.number || is_done n l.done ≡ false) c.number
      (neither (nat_eq c.old.number b.number) (is_done c.old.number l.done) (differ c.old.number b.number (λ same. c.other (h.apart j k c.old b c.at e same))) (h.unanswered j c.old c.at));
  apart = λ i j c d f g same.
      let x = came_from fits image fuel l k b i c f in
      let y = came_from fits image fuel l k b j d g in
      h.apart i j x.old y.old x.at y.at (x.number ∙ same ∙ sym y.number);
}
  where
    neither : (x y : Bool) → x ≡ false → y ≡ false → x || y ≡ false
    neither true y f g = absurd (true≢false f)
    neither false y f g = g
