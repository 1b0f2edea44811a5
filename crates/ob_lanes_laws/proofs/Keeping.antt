-- What a schedule keeps, whatever events come.
use Rattle.std.proofs.Common.{◌≡◌, ℕ, zero, suc, ◌+◌, ◌<◌, ◌⊎◌, inl, inr, Bool, true, false, not, ◌&&◌, ◌||◌, List, [], ◌∷◌, map, replicate, Option, Some, None, refl, sym, ap, ◌∙◌, subst, arith, true≢false, eq-eqb}
use Rattle.std.proofs.lemmas.Bool.{eqb-true}
use Rattle.std.specs.Prelude.{nat_eq, slice_get, slice_set, is_some, if◌then◌else◌}
use Rattle.std.specs.Option.{unwrap_or}
use Rattle.ob_lanes_laws.specs.Schedule.{Rules, run_of, Busy, Done, Lanes, Event, start, slice, commit, is_done, is_busy_with, is_held, are_earlier_done, may_start, opened, sliced, with_lane, starts, runs, after_commit, committed, commits, step, after_events, idle}
use Rattle.ob_lanes_laws.specs.Serial.{Meaning, IsDoneAlone, IsSerializable, IsEnded, RunsAlone, IsReached, IsOf, AreLocal}
use Rattle.ob_lanes_laws.specs.Laws.{OfEach}

-- What is asked of rules, of stores that are fit and requests that may be asked: a run that isn't stale after a commit is the one to which
-- the same units lead on the store after it; a run that has ended is what its request comes to; and the store after its commit is fit.
pub record Fits {S Q R A : Type 0} (rules : Rules S Q R A) (IsFit : S → Type 0) (IsAsked : Q → Type 0) (means : Meaning S Q A) : Type 0 where
  pub local : (s : S) (p q : Q) (r : R) (given : List ℕ) → IsFit s → IsAsked p → IsAsked q → IsEnded rules s p r
      → rules.is_stale s (rules.commit s r) (run_of rules s given q) ≡ false → run_of rules (rules.commit s r) given q ≡ run_of rules s given q
  pub alone : (s : S) (q : Q) (r : R) → IsFit s → IsAsked q → IsEnded rules s q r → means s q (rules.answer s r) (rules.commit s r)
  pub fit : (s : S) (q : Q) (r : R) → IsFit s → IsAsked q → IsEnded rules s q r → IsFit (rules.commit s r)

-- A busy lane represents a run that was opened on the store of the moment and was given the units of its slices.
pub record StandsOn {S Q R A : Type 0} (rules : Rules S Q R A) (batch : List Q) (l : Lanes S Q R A) (b : Busy Q R) : Type 0 where
  pub request : slice_get batch b.number ≡ Some b.request
  pub run : b.run ≡ run_of rules l.store b.given b.request
  pub unanswered : is_done b.number l.done ≡ false
  pub earlier : are_earlier_done rules b.request b.number 0 batch l.done ≡ true

-- What the schedule keeps: it is serializable, each busy lane stands so, and no two lanes have one request.
pub record Keeps {S Q R A : Type 0} (rules : Rules S Q R A) (IsFit : S → Type 0) (means : Meaning S Q A) (batch : List Q) (s : S) (l : Lanes S Q R A) : Type 0 where
  pub fit : IsFit l.store
  pub serial : IsSerializable rules means batch s l
  pub stand : (k : ℕ) (b : Busy Q R) → slice_get l.lanes k ≡ Some (Some b) → StandsOn rules batch l b
  pub apart : (j k : ℕ) (b d : Busy Q R) → slice_get l.lanes j ≡ Some (Some b) → slice_get l.lanes k ≡ Some (Some d) → b.number ≡ d.number → j ≡ k

-- Lists.

pub none_is_some : {A : Type 0} {a : A} → None ≡ Some a → ⊥
none_is_some e = true≢false (sym (ap is_some e))

pub some_same : {A : Type 0} (a b : A) → Some a ≡ Some b → a ≡ b
some_same a b e = ap (λ o. unwrap_or o a) e

false_true : (b : Bool) → b ≡ false → b ≡ true → ⊥
false_true b e f = true≢false (sym f ∙ e)

-- what stands at a place after one was put somewhere: that one, or what stood there
pub set_cases : {A : Type 0} (xs : List A) (k j : ℕ) (x z : A) → slice_get (slice_set xs k x) j ≡ Some z → ((j ≡ k) × (x ≡ z)) ⊎ (slice_get xs j ≡ Some z)
set_cases [] k j x z e = absurd (none_is_some e)
set_cases (y ∷ ys) zero zero x z e = inl (refl, some_same x z e)
set_cases (y ∷ ys) zero (suc j) x z e = inr e
set_cases (y ∷ ys) (suc k) zero x z e = inr e
set_cases (y ∷ ys) (suc k) (suc j) x z e = next (set_cases ys k j x z e)
  where
    next : ((j ≡ k) × (x ≡ z)) ⊎ (slice_get ys j ≡ Some z) → ((suc j ≡ suc k) × (x ≡ z)) ⊎ (slice_get ys j ≡ Some z)
    next (inl h) = inl (ap suc h.0, h.1)
    next (inr h) = inr h

set_here : {A : Type 0} (xs : List A) (k j : ℕ) (x z : A) → j ≡ k → slice_get (slice_set xs k x) j ≡ Some z → x ≡ z
set_here [] k j x z h e = absurd (none_is_some e)
set_here (y ∷ ys) zero zero x z h e = some_same x z e
set_here (y ∷ ys) zero (suc j) x z h e = absurd (omega (arith, h))
set_here (y ∷ ys) (suc k) zero x z h e = absurd (omega (arith, h))
set_here (y ∷ ys) (suc k) (suc j) x z h e = set_here ys k j x z (omega (arith, h)) e

pub map_cases : {A B : Type 0} (f : A → B) (xs : List A) (j : ℕ) (z : B) → slice_get (map f xs) j ≡ Some z → (x : A) × (slice_get xs j ≡ Some x) × (f x ≡ z)
map_cases f [] j z e = absurd (none_is_some e)
map_cases f (x ∷ xs) zero z e = (x, refl, some_same (f x) z e)
map_cases f (x ∷ xs) (suc j) z e = map_cases f xs j z e

either_false : (b c : Bool) → b || c ≡ false → (b ≡ false) × (c ≡ false)
either_false true c e = absurd (true≢false e)
either_false false c e = (refl, e)

pub both_true : (b c : Bool) → b && c ≡ true → (b ≡ true) × (c ≡ true)
both_true true c e = (refl, e)
both_true false c e = absurd (true≢false (sym e))

pub not_true : (b : Bool) → not b ≡ true → b ≡ false
not_true true e = absurd (true≢false (sym e))
not_true false e = refl

or_right : (b c : Bool) → c ≡ true → b || c ≡ true
or_right true c e = refl
or_right false c e = e

or_both_false : (b c : Bool) → b ≡ false → c ≡ false → b || c ≡ false
or_both_false true c e f = absurd (true≢false e)
or_both_false false c e f = f

pub differ : (m n : ℕ) → (m ≡ n → ⊥) → nat_eq m n ≡ false
differ m n h = by (nat_eq m n) refl
  where
    by : (b : Bool) → nat_eq m n ≡ b → nat_eq m n ≡ false
    by true e = absurd (h (eqb-true m n e))
    by false e = e

-- Which requests are answered.

held_not : {Q R : Type 0} (n k : ℕ) (lanes : List (Option (Busy Q R))) (b : Busy Q R) → is_held n lanes ≡ false → slice_get lanes k ≡ Some (Some b) → n ≡ b.number → ⊥
held_not n k [] b h e f = none_is_some e
held_not n zero (x ∷ lanes) b h e f = false_true (nat_eq n b.number) (ap (is_busy_with n) (sym (some_same x (Some b) e)) ∙ (either_false (is_busy_with n x) (is_held n lanes) h).0) (eq-eqb n b.number f)
held_not n (suc k) (x ∷ lanes) b h e f = held_not n k lanes b (either_false (is_busy_with n x) (is_held n lanes) h).1 e f

done_more : {S Q R A : Type 0} (rules : Rules S Q R A) (of : Q) (n k : ℕ) (qs : List Q) (d : Done S A) (ds : List (Done S A)) → are_earlier_done rules of n k qs ds ≡ true → are_earlier_done rules of n k qs (d ∷ ds) ≡ true
done_more rules of n k [] d ds h = refl
done_more rules of n k (q ∷ qs) d ds h = at (nat_eq n k) (not (rules.same_client q of)) (is_done k ds) (is_done k (d ∷ ds)) (or_right (nat_eq k d.number) (is_done k ds)) (done_more rules of n (suc k) qs d ds) h
  where
    at : (a b c e : Bool) {f g : Bool} → (c ≡ true → e ≡ true) → (f ≡ true → g ≡ true) → a || ((b || c) && f) ≡ true → a || ((b || e) && g) ≡ true
    at true b c e u v h = refl
    at false true c e u v h = v h
    at false false true e u v h = rw (u refl) (v h)
    at false false false e u v h = absurd (true≢false (sym h))

pick_done : (a b c f : Bool) → a ≡ false → b ≡ true → a || ((not b || c) && f) ≡ true → c ≡ true
pick_done true b c f e u h = absurd (true≢false e)
pick_done false false c f e u h = absurd (true≢false (sym u))
pick_done false true c f e u h = (both_true c f h).0

pick_rest : (a b f : Bool) → a ≡ false → a || (b && f) ≡ true → f ≡ true
pick_rest true b f e h = absurd (true≢false e)
pick_rest false b f e h = (both_true b f h).1

earlier_done : {S Q R A : Type 0} (rules : Rules S Q R A) (of : Q) (n k i : ℕ) (qs : List Q) (p : Q) (ds : List (Done S A)) → are_earlier_done rules of n k qs ds ≡ true → slice_get qs i ≡ Some p → k + i < n → rules.same_client p of ≡ true → is_done (k + i) ds ≡ true
earlier_done rules of n k i [] p ds h e l w = absurd (none_is_some e)
earlier_done rules of n k zero (q ∷ qs) p ds h e l w =
    ap (λ m. is_done m ds) (plus_none k)
    ∙ pick_done (nat_eq n k) (rules.same_client q of) (is_done k ds) (are_earlier_done rules of n (suc k) qs ds) (differ n k (λ f. omega (arith, f, l))) (ap (λ x. rules.same_client x of) (some_same q p e) ∙ w) h
  where
    plus_none : (k : ℕ) → k + 0 ≡ k
    plus_none k = omega arith
earlier_done rules of n k (suc i) (q ∷ qs) p ds h e l w =
    ap (λ m. is_done m ds) (plus_suc k i)
    ∙ earlier_done rules of n (suc k) i qs p ds (pick_rest (nat_eq n k) (not (rules.same_client q of) || is_done k ds) (are_earlier_done rules of n (suc k) qs ds) (differ n k (λ f. omega (arith, f, l))) h) e (omega (arith, l)) w
  where
    plus_suc : (k i : ℕ) → k + suc i ≡ suc k + i
    plus_suc k i = omega arith

earlier_first : {S Q R A : Type 0} (rules : Rules S Q R A) (of : Q) (n i : ℕ) (qs : List Q) (p : Q) (ds : List (Done S A)) → are_earlier_done rules of n 0 qs ds ≡ true → slice_get qs i ≡ Some p → i < n → rules.same_client p of ≡ true → is_done i ds ≡ true
earlier_first rules of n i qs p ds h e l w = ap (λ m. is_done m ds) (none_plus i) ∙ earlier_done rules of n 0 i qs p ds h e (omega (arith, l)) w
  where
    none_plus : (i : ℕ) → i ≡ 0 + i
    none_plus i = omega arith

-- Events.

-- what was done is the same
same_serial : {S Q R A : Type 0} (rules : Rules S Q R A) (means : Meaning S Q A) (batch : List Q) (s : S) (l : Lanes S Q R A) (k : ℕ) (x : Option (Busy Q R)) → IsSerializable rules means batch s l → IsSerializable rules means batch s (with_lane k x l)
same_serial rules means batch s l k x h = record { serial = h.serial; order = h.order; store = h.store }

start_by : {S Q R A : Type 0} (rules : Rules S Q R A) (IsFit : S → Type 0) (means : Meaning S Q A) (batch : List Q) (s : S) (l : Lanes S Q R A) (k n : ℕ) (q : Q) (b : Bool) → Keeps rules IsFit means batch s l
    → slice_get batch n ≡ Some q → may_start rules batch n q l ≡ b → Keeps rules IsFit means batch s (if b then with_lane k (Some (opened rules n q)) l else l)
start_by rules IsFit means batch s l k n q false h e m = h
start_by {Q = Q} {R = R} rules IsFit means batch s l k n q true h e m = record {
  fit = h.fit;
  serial = same_serial rules means batch s l k _ h.serial;
  stand = λ j b f. stands j b (set_cases l.lanes k j (Some (opened rules n q)) (Some b) f);
  apart = λ i j b d f g same. parted i j b d same (set_cases l.lanes k i (Some (opened rules n q)) (Some b) f) (set_cases l.lanes k j (Some (opened rules n q)) (Some d) g);
}
  where
    two : (not (is_done n l.done) ≡ true) × (not (is_held n l.lanes) && are_earlier_done rules q n 0 batch l.done ≡ true)
    two = both_true (not (is_done n l.done)) (not (is_held n l.lanes) && are_earlier_done rules q n 0 batch l.done) m

    free : (not (is_held n l.lanes) ≡ true) × (are_earlier_done rules q n 0 batch l.done ≡ true)
    free = both_true (not (is_held n l.lanes)) (are_earlier_done rules q n 0 batch l.done) two.1

    stands : (j : ℕ) (b : Busy Q R) → ((j ≡ k) × (Some (opened rules n q) ≡ Some b)) ⊎ (slice_get l.lanes j ≡ Some (Some b)) → StandsOn rules batch (with_lane k (Some (opened rules n q)) l) b
    stands j b (inl f) = subst (λ x. StandsOn rules batch (with_lane k (Some (opened rules n q)) l) x) (some_same (opened rules n q) b f.1)
        (record { request = e; run = refl; unanswered = not_true (is_done n l.done) two.0; earlier = free.1 })
    stands j b (inr f) = let t = h.stand j b f in record { request = t.request; run = t.run; unanswered = t.unanswered; earlier = t.earlier }

    parted : (i j : ℕ) (b d : Busy Q R) → b.number ≡ d.number → ((i ≡ k) × (Some (opened rules n q) ≡ Some b)) ⊎ (slice_get l.lanes i ≡ Some (Some b)) → ((j ≡ k) × (Some (opened rules n q) ≡ Some d)) ⊎ (slice_get l.lanes j ≡ Some (Some d)) → i ≡ j
    parted i j b d same (inl f) (inl g) = f.0 ∙ sym g.0
    parted i j b d same (inl f) (inr g) = absurd (held_not n j l.lanes d (not_true (is_held n l.lanes) free.0) g (ap (λ (x : Busy Q R). x.number) (some_same (opened rules n q) b f.1) ∙ same))
    parted i j b d same (inr f) (inl g) = absurd (held_not n i l.lanes b (not_true (is_held n l.lanes) free.0) f (ap (λ (x : Busy Q R). x.number) (some_same (opened rules n q) d g.1) ∙ sym same))
    parted i j b d same (inr f) (inr g) = h.apart i j b d f g same

start_keeps : {S Q R A : Type 0} (rules : Rules S Q R A) (IsFit : S → Type 0) (means : Meaning S Q A) (batch : List Q) (s : S) (l : Lanes S Q R A) (k n : ℕ) (q : Option Q) (lane : Option (Option (Busy Q R))) → Keeps rules IsFit means batch s l
    → slice_get batch n ≡ q → Keeps rules IsFit means batch s (starts rules batch k n q lane l)
start_keeps rules IsFit means batch s l k n None lane h e = h
start_keeps rules IsFit means batch s l k n (Some q) None h e = h
start_keeps rules IsFit means batch s l k n (Some q) (Some None) h e = start_by rules IsFit means batch s l k n q (may_start rules batch n q l) h e refl
start_keeps rules IsFit means batch s l k n (Some q) (Some (Some b)) h e = h

run_by : {S Q R A : Type 0} (rules : Rules S Q R A) (IsFit : S → Type 0) (means : Meaning S Q A) (batch : List Q) (s : S) (l : Lanes S Q R A) (k units : ℕ) (b : Busy Q R) (over : Bool) → Keeps rules IsFit means batch s l
    → slice_get l.lanes k ≡ Some (Some b) → Keeps rules IsFit means batch s (if over then l else with_lane k (Some (sliced rules l.store units b)) l)
run_by rules IsFit means batch s l k units b true h e = h
run_by {Q = Q} {R = R} rules IsFit means batch s l k units b false h e = record {
  fit = h.fit;
  serial = same_serial rules means batch s l k _ h.serial;
  stand = λ j d f. stands j d (set_cases l.lanes k j (Some next) (Some d) f);
  apart = λ i j c d f g same. parted i j c d same (set_cases l.lanes k i (Some next) (Some c) f) (set_cases l.lanes k j (Some next) (Some d) g);
}
  where
    next : Busy Q R
    next = record { number = b.number; request = b.request; given = units ∷ b.given; run = rules.slice l.store units b.run }

    stands : (j : ℕ) (d : Busy Q R) → ((j ≡ k) × (Some next ≡ Some d)) ⊎ (slice_get l.lanes j ≡ Some (Some d)) → StandsOn rules batch (with_lane k (Some next) l) d
    stands j d (inl f) = let t = h.stand k b e in subst (λ x. StandsOn rules batch (with_lane k (Some next) l) x) (some_same next d f.1)
        (record { request = t.request; run = ap (rules.slice l.store units) t.run; unanswered = t.unanswered; earlier = t.earlier })
    stands j d (inr f) = let t = h.stand j d f in record { request = t.request; run = t.run; unanswered = t.unanswered; earlier = t.earlier }

    number : (d : Busy Q R) → Some next ≡ Some d → b.number ≡ d.number
    number d f = ap (λ (x : Busy Q R). x.number) (some_same next d f)

    parted : (i j : ℕ) (c d : Busy Q R) → c.number ≡ d.number → ((i ≡ k) × (Some next ≡ Some c)) ⊎ (slice_get l.lanes i ≡ Some (Some c)) → ((j ≡ k) × (Some next ≡ Some d)) ⊎ (slice_get l.lanes j ≡ Some (Some d)) → i ≡ j
    parted i j c d same (inl f) (inl g) = f.0 ∙ sym g.0
    parted i j c d same (inl f) (inr g) = f.0 ∙ h.apart k j b d e g (number c f.1 ∙ same)
    parted i j c d same (inr f) (inl g) = h.apart i k c b f e (same ∙ sym (number d g.1)) ∙ sym g.0
    parted i j c d same (inr f) (inr g) = h.apart i j c d f g same

run_keeps : {S Q R A : Type 0} (rules : Rules S Q R A) (IsFit : S → Type 0) (means : Meaning S Q A) (batch : List Q) (s : S) (l : Lanes S Q R A) (k units : ℕ) (lane : Option (Option (Busy Q R))) → Keeps rules IsFit means batch s l
    → slice_get l.lanes k ≡ lane → Keeps rules IsFit means batch s (runs rules k units lane l)
run_keeps rules IsFit means batch s l k units None h e = h
run_keeps rules IsFit means batch s l k units (Some None) h e = h
run_keeps rules IsFit means batch s l k units (Some (Some b)) h e = run_by rules IsFit means batch s l k units b (rules.has_ended b.run) h e

-- a lane that was opened again, or that is still the same
again_stands : {S Q R A : Type 0} (rules : Rules S Q R A) (IsFit : S → Type 0) (IsAsked : Q → Type 0) (means : Meaning S Q A) (batch : List Q) (l : Lanes S Q R A) (b d : Busy Q R) (k : ℕ) (stale : Bool) → Fits rules IsFit IsAsked means → OfEach IsAsked batch → IsFit l.store → IsAsked b.request → IsEnded rules l.store b.request b.run
    → StandsOn rules batch l d → (d.number ≡ b.number → ⊥) → rules.is_stale l.store (rules.commit l.store b.run) d.run ≡ stale → StandsOn rules batch (committed rules k b l) (if stale then opened rules d.number d.request else d)
again_stands rules IsFit IsAsked means batch l b d k true local asked fit mine answer t other e = record {
  request = t.request;
  run = refl;
  unanswered = or_both_false (nat_eq d.number b.number) (is_done d.number l.done) (differ d.number b.number other) t.unanswered;
  earlier = done_more rules d.request d.number 0 batch _ l.done t.earlier;
}
again_stands rules IsFit IsAsked means batch l b d k false local asked fit mine answer t other e = record {
  request = t.request;
  run = t.run ∙ sym (local.local l.store b.request d.request b.run d.given fit mine (asked d.number d.request t.request) answer (ap (rules.is_stale l.store (rules.commit l.store b.run)) (sym t.run) ∙ e));
  unanswered = or_both_false (nat_eq d.number b.number) (is_done d.number l.done) (differ d.number b.number other) t.unanswered;
  earlier = done_more rules d.request d.number 0 batch _ l.done t.earlier;
}

-- the lane that another came from at a commit
record CameFrom {S Q R A : Type 0} (rules : Rules S Q R A) (l : Lanes S Q R A) (k : ℕ) (b : Busy Q R) (j : ℕ) (d : Busy Q R) : Type 0 where
  old : Busy Q R
  at : slice_get l.lanes j ≡ Some (Some old)
  other : j ≡ k → ⊥
  is : (if rules.is_stale l.store (rules.commit l.store b.run) old.run then opened rules old.number old.request else old) ≡ d

came_by : {S Q R A : Type 0} (rules : Rules S Q R A) (l : Lanes S Q R A) (k : ℕ) (b : Busy Q R) (j : ℕ) (d : Busy Q R) (x : Option (Busy Q R)) → slice_get (slice_set l.lanes k None) j ≡ Some x → after_commit rules l.store (rules.commit l.store b.run) x ≡ Some d → CameFrom rules l k b j d
came_by rules l k b j d None e f = absurd (none_is_some f)
came_by {Q = Q} {R = R} rules l k b j d (Some c) e f = record {
  old = c;
  at = there (set_cases l.lanes k j None (Some c) e);
  other = λ h. none_is_some (set_here l.lanes k j None (Some c) h e);
  is = some_same _ d f;
}
  where
    there : ((j ≡ k) × (None ≡ Some c)) ⊎ (slice_get l.lanes j ≡ Some (Some c)) → slice_get l.lanes j ≡ Some (Some c)
    there (inl h) = absurd (none_is_some h.1)
    there (inr h) = h

came_from : {S Q R A : Type 0} (rules : Rules S Q R A) (l : Lanes S Q R A) (k : ℕ) (b : Busy Q R) (j : ℕ) (d : Busy Q R) → slice_get (committed rules k b l).lanes j ≡ Some (Some d) → CameFrom rules l k b j d
came_from rules l k b j d e =
    let x = map_cases (after_commit rules l.store (rules.commit l.store b.run)) (slice_set l.lanes k None) j (Some d) e in
    came_by rules l k b j d x.0 x.1 x.2

again_number : {S Q R A : Type 0} (rules : Rules S Q R A) (b : Bool) (d : Busy Q R) → (if b then opened rules d.number d.request else d).number ≡ d.number
again_number rules true d = refl
again_number rules false d = refl

-- a lane whose run has ended commits
ended_commits : {S Q R A : Type 0} (rules : Rules S Q R A) (IsFit : S → Type 0) (IsAsked : Q → Type 0) (means : Meaning S Q A) (batch : List Q) (s : S) (l : Lanes S Q R A) (k : ℕ) (b : Busy Q R) → Fits rules IsFit IsAsked means → OfEach IsAsked batch
    → Keeps rules IsFit means batch s l → slice_get l.lanes k ≡ Some (Some b) → rules.has_ended b.run ≡ true → Keeps rules IsFit means batch s (committed rules k b l)
ended_commits {S = S} {Q = Q} {R = R} {A = A} rules IsFit IsAsked means batch s l k b local asked h e over = record {
  fit = local.fit l.store b.request b.run h.fit mine ended;
  serial = record {
    serial = (subst (λ x. IsDoneAlone means batch x new) h.serial.store (record { request = b.request; is_its = t.request; comes = local.alone l.store b.request b.run h.fit mine ended }), h.serial.serial);
    order = (t.unanswered, λ i p q lt f g same. earlier_first rules b.request b.number i batch p l.done t.earlier f lt (ap (rules.same_client p) (some_same b.request q (sym t.request ∙ g)) ∙ same), h.serial.order);
    store = refl;
  };
  stand = λ j d f. let c = came_from rules l k b j d f in subst (λ x. StandsOn rules batch (committed rules k b l) x) c.is
      (again_stands rules IsFit IsAsked means batch l b c.old k (rules.is_stale l.store (rules.commit l.store b.run) c.old.run) local asked h.fit mine ended (h.stand j c.old c.at) (λ m. c.other (h.apart j k c.old b c.at e m)) refl);
  apart = λ i j c d f g same.
      let x = came_from rules l k b i c f in
      let y = came_from rules l k b j d g in
      h.apart i j x.old y.old x.at y.at (sym (again_number rules _ x.old) ∙ ap (λ (z : Busy Q R). z.number) x.is ∙ same ∙ sym (ap (λ (z : Busy Q R). z.number) y.is) ∙ again_number rules _ y.old);
}
  where
    t : StandsOn rules batch l b
    t = h.stand k b e

    mine : IsAsked b.request
    mine = asked b.number b.request t.request

    ended : IsEnded rules l.store b.request b.run
    ended = record { given = b.given; is = t.run; over = over }

    new : Done S A
    new = record { number = b.number; answer = rules.answer l.store b.run; after = rules.commit l.store b.run }

commit_by : {S Q R A : Type 0} (rules : Rules S Q R A) (IsFit : S → Type 0) (IsAsked : Q → Type 0) (means : Meaning S Q A) (batch : List Q) (s : S) (l : Lanes S Q R A) (k : ℕ) (b : Busy Q R) (over : Bool) → Fits rules IsFit IsAsked means → OfEach IsAsked batch
    → Keeps rules IsFit means batch s l → slice_get l.lanes k ≡ Some (Some b) → rules.has_ended b.run ≡ over → Keeps rules IsFit means batch s (if over then committed rules k b l else l)
commit_by rules IsFit IsAsked means batch s l k b true local asked h e f = ended_commits rules IsFit IsAsked means batch s l k b local asked h e f
commit_by rules IsFit IsAsked means batch s l k b false local asked h e f = h

commit_keeps : {S Q R A : Type 0} (rules : Rules S Q R A) (IsFit : S → Type 0) (IsAsked : Q → Type 0) (means : Meaning S Q A) (batch : List Q) (s : S) (l : Lanes S Q R A) (k : ℕ) (lane : Option (Option (Busy Q R))) → Fits rules IsFit IsAsked means → OfEach IsAsked batch
    → Keeps rules IsFit means batch s l → slice_get l.lanes k ≡ lane → Keeps rules IsFit means batch s (commits rules k lane l)
commit_keeps rules IsFit IsAsked means batch s l k None local asked h e = h
commit_keeps rules IsFit IsAsked means batch s l k (Some None) local asked h e = h
commit_keeps rules IsFit IsAsked means batch s l k (Some (Some b)) local asked h e = commit_by rules IsFit IsAsked means batch s l k b (rules.has_ended b.run) local asked h e refl

pub step_keeps : {S Q R A : Type 0} (rules : Rules S Q R A) (IsFit : S → Type 0) (IsAsked : Q → Type 0) (means : Meaning S Q A) (batch : List Q) (s : S) (l : Lanes S Q R A) (e : Event) → Fits rules IsFit IsAsked means → OfEach IsAsked batch
    → Keeps rules IsFit means batch s l → Keeps rules IsFit means batch s (step rules batch l e)
step_keeps rules IsFit IsAsked means batch s l (start k n) local asked h = start_keeps rules IsFit means batch s l k n (slice_get batch n) (slice_get l.lanes k) h refl
step_keeps rules IsFit IsAsked means batch s l (slice k units) local asked h = run_keeps rules IsFit means batch s l k units (slice_get l.lanes k) h refl
step_keeps rules IsFit IsAsked means batch s l (commit k) local asked h = commit_keeps rules IsFit IsAsked means batch s l k (slice_get l.lanes k) local asked h refl

-- whatever events come
events_keep : {S Q R A : Type 0} (rules : Rules S Q R A) (IsFit : S → Type 0) (IsAsked : Q → Type 0) (means : Meaning S Q A) (batch : List Q) (s : S) (l : Lanes S Q R A) (es : List Event) → Fits rules IsFit IsAsked means → OfEach IsAsked batch
    → Keeps rules IsFit means batch s l → Keeps rules IsFit means batch s (after_events rules batch l es)
events_keep rules IsFit IsAsked means batch s l [] local asked h = h
events_keep rules IsFit IsAsked means batch s l (e ∷ es) local asked h = events_keep rules IsFit IsAsked means batch s (step rules batch l e) es local asked (step_keeps rules IsFit IsAsked means batch s l e local asked h)

-- At first all lanes are idle.

pub idle_lane : {Q R : Type 0} (m k : ℕ) (b : Busy Q R) → slice_get (replicate m None) k ≡ Some (Some b) → ⊥
idle_lane zero k b e = none_is_some e
idle_lane (suc m) zero b e = none_is_some (some_same None (Some b) e)
idle_lane (suc m) (suc k) b e = idle_lane m k b e

pub idle_keeps : {S Q R A : Type 0} (rules : Rules S Q R A) (IsFit : S → Type 0) (means : Meaning S Q A) (batch : List Q) (s : S) (m : ℕ) → IsFit s → Keeps rules IsFit means batch s (idle s m)
idle_keeps rules IsFit means batch s m fit = record {
  fit = fit;
  serial = record { serial = tt; order = tt; store = refl };
  stand = λ k b e. absurd (idle_lane m k b e);
  apart = λ j k b d e f same. absurd (idle_lane m j b e);
}

-- from a fit store, whatever events come
pub events_serializable : {S Q R A : Type 0} (rules : Rules S Q R A) (IsFit : S → Type 0) (IsAsked : Q → Type 0) (means : Meaning S Q A) (batch : List Q) (s : S) (count : ℕ) (events : List Event) → Fits rules IsFit IsAsked means → OfEach IsAsked batch → IsFit s
    → IsSerializable rules means batch s (after_events rules batch (idle s count) events) × IsFit (after_events rules batch (idle s count) events).store
events_serializable rules IsFit IsAsked means batch s count events local asked fit =
    let k = events_keep rules IsFit IsAsked means batch s (idle s count) events local asked (idle_keeps rules IsFit means batch s count fit) in (k.serial, k.fit)

-- Stores to which a batch leads.

-- local rules fit these stores
pub local_fits : {S Q R A : Type 0} (rules : Rules S Q R A) (batch : List Q) (s : S) → AreLocal rules batch s → Fits rules (IsReached rules batch s) (IsOf batch) (RunsAlone rules)
local_fits rules batch s local = record {
  local = local;
  alone = λ t q r fit asked ended. record { run = r; ended = ended; answer_is = refl; after_is = refl };
  fit = λ t q r fit asked ended. record {
    done = record { number = asked.0; answer = rules.answer t r; after = rules.commit t r } ∷ fit.done;
    serial = (record { request = q; is_its = asked.1; comes = subst (λ x. RunsAlone rules x q (rules.answer t r) (rules.commit t r)) fit.is (record { run = r; ended = ended; answer_is = refl; after_is = refl }) }, fit.serial);
    is = refl;
  };
}

pub each_of : {Q : Type 0} (batch : List Q) → OfEach (IsOf batch) batch
each_of batch = λ n q e. (n, e)

pub first_reached : {S Q R A : Type 0} (rules : Rules S Q R A) (batch : List Q) (s : S) → IsReached rules batch s s
first_reached rules batch s = record { done = []; serial = tt; is = refl }

pub schedules_are_serializable : {S Q R A : Type 0} (rules : Rules S Q R A) (batch : List Q) (s : S) (count : ℕ) (events : List Event) → AreLocal rules batch s → IsSerializable rules (RunsAlone rules) batch s (after_events rules batch (idle s count) events)
schedules_are_serializable rules batch s count events local =
    (events_serializable rules (IsReached rules batch s) (IsOf batch) (RunsAlone rules) batch s count events (local_fits rules batch s local) (each_of batch) (first_reached rules batch s)).0
