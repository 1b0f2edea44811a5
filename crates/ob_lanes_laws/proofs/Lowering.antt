-- Each turn lowers the measure.
use Rattle.std.proofs.Common.{◌≡◌, ℕ, zero, suc, ◌+◌, ◌*◌, ◌<◌, ◌≤◌, ◌⊎◌, inl, inr, Bool, true, false, not, ◌&&◌, ◌||◌, List, [], ◌∷◌, map, length, Option, Some, None, refl, sym, ap, ◌∙◌, subst, arith, true≢false, length-set, eq-eqb}
use Rattle.std.specs.Prelude.{nat_eq, slice_get, slice_set, is_some, if◌then◌else◌}
use Rattle.std.specs.List.{list_any}
use Rattle.ob_lanes_laws.specs.Schedule.{Rules, Busy, Done, Lanes, start, slice, commit, is_done, is_held, are_earlier_done, may_start, opened, sliced, with_lane, starts, runs, after_commit, committed, commits, step}
use Rattle.ob_lanes_laws.specs.Turns.{first_start, started, turn, next_lane, are_done_from, is_answered}
use Rattle.ob_lanes_laws.specs.Measures.{count_open, Distances, weight, weights, does, round_from, idle_turns, until_commit, most_until, may_one, turns_left}
use Rattle.ob_lanes_laws.specs.Laws.{AreUnderWay}
use Rattle.ob_lanes_laws.proofs.Keeping.{none_is_some, some_same, set_cases, map_cases, both_true, not_true}
use Rattle.ob_lanes_laws.proofs.Rounds.{true_most, there, length_map, round_length, nearer}

-- Unless all is answered some lane does something.

none_held : {Q R : Type 0} (n : ℕ) (lanes : List (Option (Busy Q R))) → list_any is_some lanes ≡ false → is_held n lanes ≡ false
none_held n [] h = refl
none_held n (None ∷ lanes) h = none_held n lanes h
none_held n (Some b ∷ lanes) h = absurd (true≢false h)

below_or : (k n : ℕ) → k ≤ n → (k < n) ⊎ (n ≡ k)
below_or zero zero h = inr refl
below_or zero (suc n) h = inl (omega arith)
below_or (suc k) zero h = absurd (omega (arith, h))
below_or (suc k) (suc n) h = up (below_or k n (omega (arith, h)))
  where
    up : (k < n) ⊎ (n ≡ k) → (suc k < suc n) ⊎ (suc n ≡ suc k)
    up (inl l) = inl (omega (arith, l))
    up (inr e) = inr (ap suc e)

-- where all numbers below one are answered, so are all earlier requests of any client
earlier_all : {S Q R A : Type 0} (rules : Rules S Q R A) (q : Q) (n k : ℕ) (ps : List Q) (done : List (Done S A)) → k ≤ n → ((i : ℕ) → i < n → is_done i done ≡ true) → are_earlier_done rules q n k ps done ≡ true
earlier_all rules q n k [] done le h = refl
earlier_all {S = S} {A = A} rules q n k (p ∷ ps) done le h = by (below_or k n le) (λ l. earlier_all rules q n (suc k) ps done (omega (arith, l)) h)
  where
    passes : (a b c d : Bool) → c ≡ true → d ≡ true → a || ((b || c) && d) ≡ true
    passes true b c d e f = refl
    passes false true c d e f = f
    passes false false true d e f = f
    passes false false false d e f = absurd (true≢false (sym e))

    by : (k < n) ⊎ (n ≡ k) → (k < n → are_earlier_done rules q n (suc k) ps done ≡ true) → are_earlier_done rules q n k (p ∷ ps) done ≡ true
    by (inl l) ih = passes (nat_eq n k) (not (rules.same_client p q)) (is_done k done) (are_earlier_done rules q n (suc k) ps done) (h k l) (ih l)
    by (inr e) ih = ap (λ b. b || ((not (rules.same_client p q) || is_done k done) && are_earlier_done rules q n (suc k) ps done)) (eq-eqb n k e)

-- with all lanes idle, the first request that isn't answered may start
starts_one : {S Q R A : Type 0} (rules : Rules S Q R A) (batch : List Q) (l : Lanes S Q R A) (n : ℕ) (qs : List Q) → list_any is_some l.lanes ≡ false → ((i : ℕ) → i < n → is_done i l.done ≡ true) → are_done_from n qs l.done ≡ false
    → is_some (first_start rules batch l n qs) ≡ true
starts_one rules batch l n [] idle below h = absurd (true≢false h)
starts_one {Q = Q} rules batch l n (q ∷ qs) idle below h = by (is_done n l.done) refl (λ d. starts_one rules batch l (suc n) qs idle (more d) (sym (ap (λ b. b && are_done_from (suc n) qs l.done) d) ∙ h))
  where
    more : is_done n l.done ≡ true → (i : ℕ) → i < suc n → is_done i l.done ≡ true
    more d i lt = at (below_or i n (omega (arith, lt)))
      where
        at : (i < n) ⊎ (n ≡ i) → is_done i l.done ≡ true
        at (inl b) = below i b
        at (inr e) = ap (λ m. is_done m l.done) (sym e) ∙ d

    by : (b : Bool) → is_done n l.done ≡ b → (is_done n l.done ≡ true → is_some (first_start rules batch l (suc n) qs) ≡ true) → is_some (first_start rules batch l n (q ∷ qs)) ≡ true
    by true d ih = ap (λ b. is_some (if not b && (not (is_held n l.lanes) && are_earlier_done rules q n 0 batch l.done) then Some n else first_start rules batch l (suc n) qs)) d ∙ ih d
    by false d ih = ap (λ b. is_some (if b then Some n else first_start rules batch l (suc n) qs)) may
      where
        may : may_start rules batch n q l ≡ true
        may = ap (λ b. not b && (not (is_held n l.lanes) && are_earlier_done rules q n 0 batch l.done)) d
            ∙ ap (λ b. not b && are_earlier_done rules q n 0 batch l.done) (none_held n l.lanes idle)
            ∙ earlier_all rules q n 0 batch l.done (omega arith) below

some_does : {Q R : Type 0} (may : Bool) (lanes : List (Option (Busy Q R))) (b : Bool) → list_any is_some lanes ≡ b → (b ≡ false → may ≡ true) → 0 < length lanes → list_any (λ c. c) (map (does may) lanes) ≡ true
some_does may [] b e h l = absurd (omega (arith, l))
some_does may (Some x ∷ lanes) b e h l = refl
some_does {Q = Q} {R = R} may (None ∷ lanes) true e h l = busy may lanes e
  where
    busy : (may : Bool) (lanes : List (Option (Busy Q R))) → list_any is_some lanes ≡ true → may || list_any (λ c. c) (map (does may) lanes) ≡ true
    busy true lanes e = refl
    busy false [] e = e
    busy false (Some x ∷ lanes) e = refl
    busy false (None ∷ lanes) e = busy false lanes e
some_does may (None ∷ lanes) false e h l = ap (λ b. b || list_any (λ c. c) (map (does may) lanes)) (h refl)

-- what may start is a request of those
record MayStart {S Q R A : Type 0} (rules : Rules S Q R A) (batch : List Q) (l : Lanes S Q R A) (n k : ℕ) (qs : List Q) : Type 0 where
  at : ℕ
  place : n ≡ k + at
  request : Q
  is_its : slice_get qs at ≡ Some request
  may : may_start rules batch n request l ≡ true

first_is : {S Q R A : Type 0} (rules : Rules S Q R A) (batch : List Q) (l : Lanes S Q R A) (n k : ℕ) (qs : List Q) → first_start rules batch l k qs ≡ Some n → MayStart rules batch l n k qs
first_is rules batch l n k [] e = absurd (none_is_some e)
first_is {S = S} {Q = Q} {R = R} {A = A} rules batch l n k (q ∷ qs) e = by (may_start rules batch k q l) refl e (λ f. first_is rules batch l n (suc k) qs f)
  where
    by : (b : Bool) → may_start rules batch k q l ≡ b → (if b then Some k else first_start rules batch l (suc k) qs) ≡ Some n → (first_start rules batch l (suc k) qs ≡ Some n → MayStart rules batch l n (suc k) qs) → MayStart rules batch l n k (q ∷ qs)
    by true m f ih = let s = some_same k n f in record { at = 0; place = omega (arith, s); request = q; is_its = refl; may = subst (λ i. may_start rules batch i q l ≡ true) s m }
    by false m f ih = let x = ih f in record { at = suc x.at; place = let p = x.place in omega (arith, p); request = x.request; is_its = x.is_its; may = x.may }

-- Requests that aren't answered.

fewer_head : (b c : Bool) → (if b || c then 0 else 1) ≤ (if c then 0 else 1)
fewer_head true true = omega arith
fewer_head true false = omega arith
fewer_head false c = omega arith

fewer_new : (b c : Bool) → b ≡ true → c ≡ false → (if b || c then 0 else 1) < (if c then 0 else 1)
fewer_new true true e f = absurd (true≢false f)
fewer_new true false e f = omega arith
fewer_new false c e f = absurd (true≢false (sym e))

open_most : {S Q A : Type 0} (n : ℕ) (qs : List Q) (d : Done S A) (ds : List (Done S A)) → count_open n qs (d ∷ ds) ≤ count_open n qs ds
open_most n [] d ds = omega arith
open_most n (q ∷ qs) d ds = let a = fewer_head (nat_eq n d.number) (is_done n ds) in let b = open_most (suc n) qs d ds in omega (arith, a, b)

open_fewer : {S Q A : Type 0} (n i : ℕ) (qs : List Q) (q : Q) (d : Done S A) (ds : List (Done S A)) → slice_get qs i ≡ Some q → n + i ≡ d.number → is_done (n + i) ds ≡ false → count_open n qs (d ∷ ds) < count_open n qs ds
open_fewer n i [] q d ds e at not_yet = absurd (none_is_some e)
open_fewer n zero (p ∷ qs) q d ds e at not_yet =
    let plus : n ≡ n + 0 = omega arith in
    let new = fewer_new (nat_eq n d.number) (is_done n ds) (eq-eqb n d.number (plus ∙ at)) (ap (λ m. is_done m ds) plus ∙ not_yet) in
    let rest = open_most (suc n) qs d ds in
    omega (arith, new, rest)
open_fewer n (suc i) (p ∷ qs) q d ds e at not_yet =
    let plus : suc n + i ≡ n + suc i = omega arith in
    let a = fewer_head (nat_eq n d.number) (is_done n ds) in
    let b = open_fewer (suc n) i qs q d ds e (plus ∙ at) (ap (λ m. is_done m ds) plus ∙ not_yet) in
    omega (arith, a, b)

-- Weights.

set_weights : {Q R : Type 0} (left : R → ℕ) (most : ℕ) (lanes : List (Option (Busy Q R))) (k : ℕ) (x y : Option (Busy Q R)) → slice_get lanes k ≡ Some x
    → weights left most (slice_set lanes k y) + weight left most x ≡ weights left most lanes + weight left most y
set_weights left most [] k x y e = absurd (none_is_some e)
set_weights left most (z ∷ lanes) zero x y e = ap (λ w. (weight left most y + weights left most lanes) + weight left most w) (sym (some_same z x e)) ∙ swap (weight left most y) (weights left most lanes) (weight left most z)
  where
    swap : (a b c : ℕ) → (a + b) + c ≡ (c + b) + a
    swap a b c = omega arith
set_weights left most (z ∷ lanes) (suc k) x y e = let h = set_weights left most lanes k x y e in omega (arith, h)

-- each run is no farther from its end than one that is opened
abbrev pub AreNear : {Q R : Type 0} → (R → ℕ) → ℕ → List (Option (Busy Q R)) → Type 0
AreNear {Q = Q} {R = R} left most lanes = (k : ℕ) (b : Busy Q R) → slice_get lanes k ≡ Some (Some b) → left b.run < most + 1

weights_most : {Q R : Type 0} (left : R → ℕ) (most : ℕ) (lanes : List (Option (Busy Q R))) → AreNear left most lanes → weights left most lanes ≤ length lanes * (most + 2)
weights_most left most [] near = omega arith
weights_most {Q = Q} {R = R} left most (x ∷ lanes) near =
    let a = one x (near 0) in
    let b = weights_most left most lanes (λ k c e. near (suc k) c e) in
    let m : suc (length lanes) * (most + 2) ≡ (most + 2) + length lanes * (most + 2) = grind arith in
    omega (arith, a, b, m)
  where
    one : (x : Option (Busy Q R)) → ((b : Busy Q R) → Some x ≡ Some (Some b) → left b.run < most + 1) → weight left most x ≤ most + 2
    one None h = omega arith
    one (Some b) h = let l = h b refl in omega (arith, l)

-- Numbers.

-- the sum with a smaller first part is smaller, whatever the second is within its bound
product_less : (a b s d e : ℕ) → a < b → d < s → a * s + d < b * s + e
product_less zero zero s d e h l = absurd (omega (arith, h))
product_less zero (suc b) s d e h l = let m : suc b * s ≡ s + b * s = grind arith in omega (arith, m, l)
product_less (suc a) zero s d e h l = absurd (omega (arith, h))
product_less (suc a) (suc b) s d e h l =
    let i = product_less a b s d e (omega (arith, h)) l in
    let m : suc a * s ≡ s + a * s = grind arith in
    let n : suc b * s ≡ s + b * s = grind arith in
    omega (arith, i, m, n)

times_most : (a b s : ℕ) → a ≤ b → a * s ≤ b * s
times_most zero b s h = let z : 0 * s ≡ 0 = grind arith in omega (arith, z)
times_most (suc a) zero s h = absurd (omega (arith, h))
times_most (suc a) (suc b) s h =
    let i = times_most a b s (omega (arith, h)) in
    let m : suc a * s ≡ s + a * s = grind arith in
    let n : suc b * s ≡ s + b * s = grind arith in
    omega (arith, i, m, n)

idle_most : {Q R : Type 0} (may : Bool) (k : ℕ) (lanes : List (Option (Busy Q R))) → idle_turns may k lanes ≤ length lanes
idle_most may k lanes =
    let m = true_most (map (does may) (round_from k lanes)) in
    let n = length_map (does may) (round_from k lanes) in
    let l = round_length k lanes in
    omega (arith, m, n, l)

until_most : {Q R : Type 0} (left : R → ℕ) (most : ℕ) (may : Bool) (k : ℕ) (lanes : List (Option (Busy Q R))) → AreNear left most lanes → until_commit left most may k lanes < most_until most (length lanes)
until_most left most may k lanes near =
    let w = times_most (weights left most lanes) (length lanes * (most + 2)) (suc (length lanes)) (weights_most left most lanes near) in
    let d = idle_most may k lanes in
    omega (arith, w, d)

-- Three ways in which a turn lowers the measure.

-- a request more is answered, whatever the lanes do then
less_by_count : {S Q R A : Type 0} (rules : Rules S Q R A) (d : Distances rules) (batch : List Q) (k next : ℕ) (l m : Lanes S Q R A) → count_open 0 batch m.done < count_open 0 batch l.done → length m.lanes ≡ length l.lanes → AreNear d.left d.most m.lanes
    → turns_left rules d batch next m < turns_left rules d batch k l
less_by_count rules d batch k next l m fewer same near =
    let u = until_most d.left d.most (may_one rules batch m) next m.lanes near in
    let b : most_until d.most (length m.lanes) ≡ most_until d.most (length l.lanes) = ap (most_until d.most) same in
    subst (λ n. count_open 0 batch m.done * n + until_commit d.left d.most (may_one rules batch m) next m.lanes < turns_left rules d batch k l) (sym b)
    (product_less (count_open 0 batch m.done) (count_open 0 batch l.done) (most_until d.most (length l.lanes)) (until_commit d.left d.most (may_one rules batch m) next m.lanes) (until_commit d.left d.most (may_one rules batch l) k l.lanes) fewer
    (subst (λ n. until_commit d.left d.most (may_one rules batch m) next m.lanes < n) b u))

-- a lane gets lighter, whosoever's turn is next
less_by_weight : {S Q R A : Type 0} (rules : Rules S Q R A) (d : Distances rules) (batch : List Q) (k next : ℕ) (l : Lanes S Q R A) (x y : Option (Busy Q R)) → slice_get l.lanes k ≡ Some x → weight d.left d.most y < weight d.left d.most x
    → turns_left rules d batch next (with_lane k y l) < turns_left rules d batch k l
less_by_weight rules d batch k next l x y e h =
    let new = slice_set l.lanes k y in
    let may = may_one rules batch (with_lane k y l) in
    let w = set_weights d.left d.most l.lanes k x y e in
    let n = length-set l.lanes k y in
    let i = idle_most may next new in
    let p = product_less (weights d.left d.most new) (weights d.left d.most l.lanes) (suc (length l.lanes)) (idle_turns may next new) (idle_turns (may_one rules batch l) k l.lanes) (omega (arith, w, h)) (omega (arith, n, i)) in
    let a : count_open 0 batch l.done * most_until d.most (length new) ≡ count_open 0 batch l.done * most_until d.most (length l.lanes) = ap (λ j. count_open 0 batch l.done * most_until d.most j) n in
    let b : weights d.left d.most new * suc (length new) ≡ weights d.left d.most new * suc (length l.lanes) = ap (λ j. weights d.left d.most new * suc j) n in
    less (count_open 0 batch l.done * most_until d.most (length new)) (count_open 0 batch l.done * most_until d.most (length l.lanes)) _ _ _ _ a b p
  where
    less : (c c2 w1 w2 i1 r : ℕ) → c ≡ c2 → w1 ≡ w2 → w2 + i1 < r → c + (w1 + i1) < c2 + r
    less c c2 w1 w2 i1 r e f h = omega (arith, e, f, h)

-- an idle lane has its turn, and the next one that does something is nearer
less_by_idle : {S Q R A : Type 0} (rules : Rules S Q R A) (d : Distances rules) (batch : List Q) (k : ℕ) (l : Lanes S Q R A) → slice_get l.lanes k ≡ Some None → k < length l.lanes → first_start rules batch l 0 batch ≡ None → is_answered batch l ≡ false
    → turns_left rules d batch (next_lane (length l.lanes) k) l < turns_left rules d batch k l
less_by_idle rules d batch k l e h none rest =
    let may : may_one rules batch l ≡ false = ap is_some none in
    let some = some_does (may_one rules batch l) l.lanes (list_any is_some l.lanes) refl (λ idle. starts_one rules batch l 0 batch idle (λ i lt. absurd (omega (arith, lt))) rest) (omega (arith, h)) in
    let near = nearer (does (may_one rules batch l)) l.lanes k None h e may some in
    omega (arith, near)

-- What a turn of a busy lane leads to.

-- a request more is answered
record Commits {S Q R A : Type 0} (rules : Rules S Q R A) (d : Distances rules) (batch : List Q) (l m : Lanes S Q R A) : Type 0 where
  fewer : count_open 0 batch m.done < count_open 0 batch l.done
  same : length m.lanes ≡ length l.lanes
  near : AreNear d.left d.most m.lanes

-- the lane's run is nearer to its end
record Nears {S Q R A : Type 0} (rules : Rules S Q R A) (d : Distances rules) (k : ℕ) (l : Lanes S Q R A) (b : Busy Q R) (m : Lanes S Q R A) : Type 0 where
  lane : Busy Q R
  number : lane.number ≡ b.number
  request : lane.request ≡ b.request
  nearer : d.left lane.run < d.left b.run
  is : m ≡ with_lane k (Some lane) l

set_twice : {A : Type 0} (xs : List A) (k : ℕ) (x y : A) → slice_set (slice_set xs k x) k y ≡ slice_set xs k y
set_twice [] k x y = refl
set_twice (z ∷ xs) zero x y = refl
set_twice (z ∷ xs) (suc k) x y = ap (λ l. z ∷ l) (set_twice xs k x y)

get_set : {A : Type 0} (xs : List A) (k : ℕ) (x y : A) → slice_get xs k ≡ Some y → slice_get (slice_set xs k x) k ≡ Some x
get_set [] k x y e = absurd (none_is_some e)
get_set (z ∷ xs) zero x y e = refl
get_set (z ∷ xs) (suc k) x y e = get_set xs k x y e

-- another lane at a place leaves what is under way so
lane_under_way : {S Q R A : Type 0} (rules : Rules S Q R A) (d : Distances rules) (batch : List Q) (k : ℕ) (l : Lanes S Q R A) (b : Busy Q R) → AreUnderWay rules d batch l
    → (slice_get batch b.number ≡ Some b.request) × (is_done b.number l.done ≡ false) × (d.left b.run < d.most + 1) → AreUnderWay rules d batch (with_lane k (Some b) l)
lane_under_way {Q = Q} {R = R} rules d batch k l b known own = λ j c e. by j c (set_cases l.lanes k j (Some b) (Some c) e)
  where
    by : (j : ℕ) (c : Busy Q R) → ((j ≡ k) × (Some b ≡ Some c)) ⊎ (slice_get l.lanes j ≡ Some (Some c)) → (slice_get batch c.number ≡ Some c.request) × (is_done c.number l.done ≡ false) × (d.left c.run < d.most + 1)
    by j c (inl f) = subst (λ (x : Busy Q R). (slice_get batch x.number ≡ Some x.request) × (is_done x.number l.done ≡ false) × (d.left x.run < d.most + 1)) (some_same b c f.1) own
    by j c (inr f) = known j c f

-- a lane that is opened again is no farther than one that is opened
reopened_near : {S Q R A : Type 0} (rules : Rules S Q R A) (d : Distances rules) (s t : S) (x : Option (Busy Q R)) (b : Busy Q R) → ((c : Busy Q R) → x ≡ Some c → d.left c.run < d.most + 1) → after_commit rules s t x ≡ Some b → d.left b.run < d.most + 1
reopened_near rules d s t None b h e = absurd (none_is_some e)
reopened_near {Q = Q} {R = R} rules d s t (Some c) b h e = by (rules.is_stale s t c.run) (some_same (if rules.is_stale s t c.run then opened rules c.number c.request else c) b e)
  where
    by : (stale : Bool) → (if stale then opened rules c.number c.request else c) ≡ b → d.left b.run < d.most + 1
    by true f = subst (λ (x : Busy Q R). d.left x.run < d.most + 1) f (let o = d.opening c.request in omega (arith, o))
    by false f = subst (λ (x : Busy Q R). d.left x.run < d.most + 1) f (h c refl)

committed_near : {S Q R A : Type 0} (rules : Rules S Q R A) (d : Distances rules) (batch : List Q) (k : ℕ) (l : Lanes S Q R A) (b : Busy Q R) → AreUnderWay rules d batch l → AreNear d.left d.most (committed rules k b l).lanes
committed_near {Q = Q} {R = R} rules d batch k l b known = λ j c e.
    let x = map_cases (after_commit rules l.store (rules.commit l.store b.run)) (slice_set l.lanes k None) j (Some c) e in
    reopened_near rules d l.store (rules.commit l.store b.run) x.0 c (λ a f. old j a (set_cases l.lanes k j None (Some a) (x.1 ∙ ap Some f))) x.2
  where
    old : (j : ℕ) (a : Busy Q R) → ((j ≡ k) × (None ≡ Some a)) ⊎ (slice_get l.lanes j ≡ Some (Some a)) → d.left a.run < d.most + 1
    old j a (inl f) = absurd (none_is_some f.1)
    old j a (inr f) = (known j a f).2

pub committed_length : {S Q R A : Type 0} (rules : Rules S Q R A) (k : ℕ) (l : Lanes S Q R A) (b : Busy Q R) → length (committed rules k b l).lanes ≡ length l.lanes
committed_length rules k l b = length_map (after_commit rules l.store (rules.commit l.store b.run)) (slice_set l.lanes k None) ∙ length-set l.lanes k None

committed_so : {S Q R A : Type 0} (rules : Rules S Q R A) (d : Distances rules) (batch : List Q) (k : ℕ) (l : Lanes S Q R A) (b : Busy Q R) → AreUnderWay rules d batch l → slice_get l.lanes k ≡ Some (Some b) → Commits rules d batch l (committed rules k b l)
committed_so rules d batch k l b known e =
    let own = known k b e in
    let plus : 0 + b.number ≡ b.number = omega arith in
    record {
      fewer = open_fewer 0 b.number batch b.request (record { number = b.number; answer = rules.answer l.store b.run; after = rules.commit l.store b.run }) l.done own.0 plus (ap (λ n. is_done n l.done) plus ∙ own.1);
      same = committed_length rules k l b;
      near = committed_near rules d batch k l b known;
    }

-- what a run that is there commits, or not
commit_is : {S Q R A : Type 0} (rules : Rules S Q R A) (batch : List Q) (k : ℕ) (l : Lanes S Q R A) (b : Busy Q R) (over : Bool) → slice_get l.lanes k ≡ Some (Some b) → rules.has_ended b.run ≡ over → step rules batch l (commit k) ≡ (if over then committed rules k b l else l)
commit_is rules batch k l b over e f = ap (λ x. commits rules k x l) e ∙ ap (λ o. if o then committed rules k b l else l) f

slice_is : {S Q R A : Type 0} (rules : Rules S Q R A) (batch : List Q) (units k : ℕ) (l : Lanes S Q R A) (b : Busy Q R) (over : Bool) → slice_get l.lanes k ≡ Some (Some b) → rules.has_ended b.run ≡ over
    → step rules batch l (slice k units) ≡ (if over then l else with_lane k (Some (sliced rules l.store units b)) l)
slice_is rules batch units k l b over e f = ap (λ x. runs rules k units x l) e ∙ ap (λ o. if o then l else with_lane k (Some (sliced rules l.store units b)) l) f

-- a slice of a busy lane, and its commit
abbrev after_slice : {S Q R A : Type 0} → Rules S Q R A → List Q → ℕ → ℕ → Lanes S Q R A → Lanes S Q R A
after_slice rules batch units k l = step rules batch (step rules batch l (slice k units)) (commit k)

abbrev ComesSo : {S Q R A : Type 0} → (rules : Rules S Q R A) → Distances rules → List Q → ℕ → Lanes S Q R A → Busy Q R → Lanes S Q R A → Type 0
ComesSo rules d batch k l b m = Commits rules d batch l m ⊎ Nears rules d k l b m

busy_sliced : {S Q R A : Type 0} (rules : Rules S Q R A) (d : Distances rules) (batch : List Q) (units k : ℕ) (l : Lanes S Q R A) (b : Busy Q R) (over : Bool) → AreUnderWay rules d batch l → slice_get l.lanes k ≡ Some (Some b) → 0 < units → rules.has_ended b.run ≡ false
    → rules.has_ended (sliced rules l.store units b).run ≡ over → ComesSo rules d batch k l b (step rules batch (with_lane k (Some (sliced rules l.store units b)) l) (commit k))
busy_sliced rules d batch units k l b true known e u f g =
    let next = sliced rules l.store units b in
    let own = known k b e in
    let there = get_set l.lanes k (Some next) (Some b) e in
    inl (subst (Commits rules d batch l) (sym (commit_is rules batch k (with_lane k (Some next) l) next true there g)) (record {
      fewer = let own = known k b e in let plus : 0 + b.number ≡ b.number = omega arith in
          open_fewer 0 b.number batch b.request (record { number = b.number; answer = rules.answer l.store next.run; after = rules.commit l.store next.run }) l.done own.0 plus (ap (λ n. is_done n l.done) plus ∙ own.1);
      same = committed_length rules k (with_lane k (Some next) l) next ∙ length-set l.lanes k (Some next);
      near = committed_twice_near rules d batch k l b next known;
    }))
  where
    committed_twice_near : {S Q R A : Type 0} (rules : Rules S Q R A) (d : Distances rules) (batch : List Q) (k : ℕ) (l : Lanes S Q R A) (b c : Busy Q R) → AreUnderWay rules d batch l → AreNear d.left d.most (committed rules k c (with_lane k (Some c) l)).lanes
    committed_twice_near {Q = Q} {R = R} rules d batch k l b c known = subst (λ xs. AreNear d.left d.most (map (after_commit rules l.store (rules.commit l.store c.run)) xs)) (sym (set_twice l.lanes k (Some c) None)) (committed_near rules d batch k l c known)
busy_sliced rules d batch units k l b false known e u f g =
    let next = sliced rules l.store units b in
    inr (record {
      lane = next;
      number = refl;
      request = refl;
      nearer = d.slice l.store units b.run u f g;
      is = commit_is rules batch k (with_lane k (Some next) l) next false (get_set l.lanes k (Some next) (Some b) e) g;
    })

busy_by : {S Q R A : Type 0} (rules : Rules S Q R A) (d : Distances rules) (batch : List Q) (units k : ℕ) (l : Lanes S Q R A) (b : Busy Q R) (over : Bool) → AreUnderWay rules d batch l → slice_get l.lanes k ≡ Some (Some b) → 0 < units → rules.has_ended b.run ≡ over
    → ComesSo rules d batch k l b (after_slice rules batch units k l)
busy_by rules d batch units k l b true known e u f =
    inl (subst (Commits rules d batch l) (sym (ap (λ x. step rules batch x (commit k)) (slice_is rules batch units k l b true e f) ∙ commit_is rules batch k l b true e f)) (committed_so rules d batch k l b known e))
busy_by rules d batch units k l b false known e u f =
    subst (ComesSo rules d batch k l b) (sym (ap (λ x. step rules batch x (commit k)) (slice_is rules batch units k l b false e f)))
    (busy_sliced rules d batch units k l b (rules.has_ended (sliced rules l.store units b).run) known e u f refl)

-- A turn.

starts_no_busy : {S Q R A : Type 0} (rules : Rules S Q R A) (batch : List Q) (k n : ℕ) (q : Option Q) (b : Busy Q R) (l : Lanes S Q R A) → starts rules batch k n q (Some (Some b)) l ≡ l
starts_no_busy rules batch k n None b l = refl
starts_no_busy rules batch k n (Some q) b l = refl

started_busy : {S Q R A : Type 0} (rules : Rules S Q R A) (batch : List Q) (k : ℕ) (o : Option ℕ) (b : Busy Q R) (l : Lanes S Q R A) → slice_get l.lanes k ≡ Some (Some b) → started rules batch k o l ≡ l
started_busy rules batch k None b l e = refl
started_busy rules batch k (Some n) b l e = ap (λ x. starts rules batch k n (slice_get batch n) x l) e ∙ starts_no_busy rules batch k n (slice_get batch n) b l

idle_still : {S Q R A : Type 0} (rules : Rules S Q R A) (batch : List Q) (units k : ℕ) (l : Lanes S Q R A) → slice_get l.lanes k ≡ Some None → after_slice rules batch units k l ≡ l
idle_still rules batch units k l e = ap (λ x. step rules batch (runs rules k units x l) (commit k)) e ∙ ap (λ x. commits rules k x l) e

-- an idle lane starts the request that may start
record Starts {S Q R A : Type 0} (rules : Rules S Q R A) (d : Distances rules) (batch : List Q) (k n : ℕ) (l : Lanes S Q R A) : Type 0 where
  request : Q
  is : step rules batch l (start k n) ≡ with_lane k (Some (opened rules n request)) l
  own : (slice_get batch n ≡ Some request) × (is_done n l.done ≡ false) × (d.left (rules.opening request) < d.most + 1)

start_is : {S Q R A : Type 0} (rules : Rules S Q R A) (d : Distances rules) (batch : List Q) (k n : ℕ) (l : Lanes S Q R A) → slice_get l.lanes k ≡ Some None → first_start rules batch l 0 batch ≡ Some n → Starts rules d batch k n l
start_is rules d batch k n l e f =
    let m = first_is rules batch l n 0 batch f in
    let place : m.at ≡ n = let p = m.place in omega (arith, p) in
    let its : slice_get batch n ≡ Some m.request = ap (slice_get batch) (sym place) ∙ m.is_its in
    let two = both_true (not (is_done n l.done)) (not (is_held n l.lanes) && are_earlier_done rules m.request n 0 batch l.done) m.may in
    record {
      request = m.request;
      is = ap (λ x. starts rules batch k n x (slice_get l.lanes k) l) its ∙ ap (λ x. starts rules batch k n (Some m.request) x l) e ∙ ap (λ b. if b then with_lane k (Some (opened rules n m.request)) l else l) m.may;
      own = (its, not_true (is_done n l.done) two.0, let o = d.opening m.request in omega (arith, o));
    }

-- the lane is busy, and lighter than it was
record Lighter {S Q R A : Type 0} (rules : Rules S Q R A) (d : Distances rules) (k : ℕ) (l m : Lanes S Q R A) : Type 0 where
  lane : Busy Q R
  old : Option (Busy Q R)
  there : slice_get l.lanes k ≡ Some old
  lighter : weight d.left d.most (Some lane) < weight d.left d.most old
  near : d.left lane.run < d.most + 1
  is : m ≡ with_lane k (Some lane) l

-- the lane stays idle, since no request may start
record StaysIdle {S Q R A : Type 0} (rules : Rules S Q R A) (batch : List Q) (k : ℕ) (l m : Lanes S Q R A) : Type 0 where
  there : slice_get l.lanes k ≡ Some None
  none : first_start rules batch l 0 batch ≡ None
  is : m ≡ l

-- What a turn leads to.
abbrev Turned : {S Q R A : Type 0} → (rules : Rules S Q R A) → Distances rules → List Q → ℕ → Lanes S Q R A → Lanes S Q R A → Type 0
Turned rules d batch k l m = Commits rules d batch l m ⊎ (Lighter rules d k l m ⊎ StaysIdle rules batch k l m)

busy_turned : {S Q R A : Type 0} (rules : Rules S Q R A) (d : Distances rules) (batch : List Q) (k : ℕ) (l m : Lanes S Q R A) (b : Busy Q R) → slice_get l.lanes k ≡ Some (Some b) → d.left b.run < d.most + 1 → ComesSo rules d batch k l b m → Turned rules d batch k l m
busy_turned rules d batch k l m b e near (inl c) = inl c
busy_turned rules d batch k l m b e near (inr c) = let n = c.nearer in inr (inl (record { lane = c.lane; old = Some b; there = e; lighter = omega (arith, n); near = omega (arith, n, near); is = c.is }))

starting_turned : {S Q R A : Type 0} (rules : Rules S Q R A) (d : Distances rules) (batch : List Q) (k n : ℕ) (l m : Lanes S Q R A) (q : Q) → slice_get l.lanes k ≡ Some None → ComesSo rules d batch k (with_lane k (Some (opened rules n q)) l) (opened rules n q) m
    → Turned rules d batch k l m
starting_turned rules d batch k n l m q e (inl c) = inl (record { fewer = c.fewer; same = c.same ∙ length-set l.lanes k (Some (opened rules n q)); near = c.near })
starting_turned rules d batch k n l m q e (inr c) =
    let x = c.nearer in
    let o = d.opening q in
    inr (inl (record {
      lane = c.lane;
      old = None;
      there = e;
      lighter = omega (arith, x, o);
      near = omega (arith, x, o);
      is = c.is ∙ ap (λ xs. record l { lanes = xs }) (set_twice l.lanes k (Some (opened rules n q)) (Some c.lane));
    }))

turn_by : {S Q R A : Type 0} (rules : Rules S Q R A) (d : Distances rules) (batch : List Q) (units k : ℕ) (l : Lanes S Q R A) (x : Option (Busy Q R)) (o : Option ℕ) → AreUnderWay rules d batch l → 0 < units
    → slice_get l.lanes k ≡ Some x → first_start rules batch l 0 batch ≡ o → Turned rules d batch k l (after_slice rules batch units k (started rules batch k o l))
turn_by rules d batch units k l (Some b) o known u e f =
    subst (λ x. Turned rules d batch k l (after_slice rules batch units k x)) (sym (started_busy rules batch k o b l e))
    (busy_turned rules d batch k l (after_slice rules batch units k l) b e (known k b e).2 (busy_by rules d batch units k l b (rules.has_ended b.run) known e u refl))
turn_by rules d batch units k l None None known u e f = inr (inr (record { there = e; none = f; is = idle_still rules batch units k l e }))
turn_by rules d batch units k l None (Some n) known u e f =
    let s = start_is rules d batch k n l e f in
    let b = opened rules n s.request in
    let new = with_lane k (Some b) l in
    subst (λ x. Turned rules d batch k l (after_slice rules batch units k x)) (sym s.is)
    (starting_turned rules d batch k n l (after_slice rules batch units k new) s.request e
    (busy_by rules d batch units k new b (rules.has_ended b.run) (lane_under_way rules d batch k l b known s.own) (get_set l.lanes k (Some b) None e) u refl))

turn_leads : {S Q R A : Type 0} (rules : Rules S Q R A) (d : Distances rules) (batch : List Q) (units k : ℕ) (l : Lanes S Q R A) → AreUnderWay rules d batch l → 0 < units → k < length l.lanes → Turned rules d batch k l (turn rules batch units k l)
turn_leads rules d batch units k l known u h = let x = there l.lanes k h in turn_by rules d batch units k l x.0 (first_start rules batch l 0 batch) known u x.1 refl

-- The measure, and what is kept of lanes.

lowers_by : {S Q R A : Type 0} (rules : Rules S Q R A) (d : Distances rules) (batch : List Q) (k : ℕ) (l m : Lanes S Q R A) → k < length l.lanes → is_answered batch l ≡ false → Turned rules d batch k l m
    → turns_left rules d batch (next_lane (length l.lanes) k) m < turns_left rules d batch k l
lowers_by rules d batch k l m h rest (inl c) = less_by_count rules d batch k (next_lane (length l.lanes) k) l m c.fewer c.same c.near
lowers_by rules d batch k l m h rest (inr (inl c)) =
    subst (λ x. turns_left rules d batch (next_lane (length l.lanes) k) x < turns_left rules d batch k l) (sym c.is)
    (less_by_weight rules d batch k (next_lane (length l.lanes) k) l c.old (Some c.lane) c.there c.lighter)
lowers_by rules d batch k l m h rest (inr (inr c)) =
    subst (λ x. turns_left rules d batch (next_lane (length l.lanes) k) x < turns_left rules d batch k l) (sym c.is) (less_by_idle rules d batch k l c.there h c.none rest)

pub turns_lower : {S Q R A : Type 0} (rules : Rules S Q R A) (d : Distances rules) (batch : List Q) (units k : ℕ) (l : Lanes S Q R A) → AreUnderWay rules d batch l → 0 < units → k < length l.lanes → is_answered batch l ≡ false
    → turns_left rules d batch (next_lane (length l.lanes) k) (turn rules batch units k l) < turns_left rules d batch k l
turns_lower rules d batch units k l known u h rest = lowers_by rules d batch k l (turn rules batch units k l) h rest (turn_leads rules d batch units k l known u h)

length_by : {S Q R A : Type 0} (rules : Rules S Q R A) (d : Distances rules) (batch : List Q) (k : ℕ) (l m : Lanes S Q R A) → Turned rules d batch k l m → length m.lanes ≡ length l.lanes
length_by rules d batch k l m (inl c) = c.same
length_by {S = S} {Q = Q} {R = R} {A = A} rules d batch k l m (inr (inl c)) = ap (λ (x : Lanes S Q R A). length x.lanes) c.is ∙ length-set l.lanes k (Some c.lane)
length_by {S = S} {Q = Q} {R = R} {A = A} rules d batch k l m (inr (inr c)) = ap (λ (x : Lanes S Q R A). length x.lanes) c.is

pub turn_length : {S Q R A : Type 0} (rules : Rules S Q R A) (d : Distances rules) (batch : List Q) (units k : ℕ) (l : Lanes S Q R A) → AreUnderWay rules d batch l → 0 < units → k < length l.lanes → length (turn rules batch units k l).lanes ≡ length l.lanes
turn_length rules d batch units k l known u h = length_by rules d batch k l (turn rules batch units k l) (turn_leads rules d batch units k l known u h)

near_by : {S Q R A : Type 0} (rules : Rules S Q R A) (d : Distances rules) (batch : List Q) (k : ℕ) (l m : Lanes S Q R A) → AreNear d.left d.most l.lanes → Turned rules d batch k l m → AreNear d.left d.most m.lanes
near_by rules d batch k l m near (inl c) = c.near
near_by {S = S} {Q = Q} {R = R} {A = A} rules d batch k l m near (inr (inl c)) = subst (λ (x : Lanes S Q R A). AreNear d.left d.most x.lanes) (sym c.is) (λ j b e. by j b (set_cases l.lanes k j (Some c.lane) (Some b) e))
  where
    by : (j : ℕ) (b : Busy Q R) → ((j ≡ k) × (Some c.lane ≡ Some b)) ⊎ (slice_get l.lanes j ≡ Some (Some b)) → d.left b.run < d.most + 1
    by j b (inl f) = subst (λ (x : Busy Q R). d.left x.run < d.most + 1) (some_same c.lane b f.1) c.near
    by j b (inr f) = near j b f
near_by {S = S} {Q = Q} {R = R} {A = A} rules d batch k l m near (inr (inr c)) = subst (λ (x : Lanes S Q R A). AreNear d.left d.most x.lanes) (sym c.is) near

pub turn_near : {S Q R A : Type 0} (rules : Rules S Q R A) (d : Distances rules) (batch : List Q) (units k : ℕ) (l : Lanes S Q R A) → AreUnderWay rules d batch l → 0 < units → k < length l.lanes → AreNear d.left d.most (turn rules batch units k l).lanes
turn_near rules d batch units k l known u h = near_by rules d batch k l (turn rules batch units k l) (λ j b e. (known j b e).2) (turn_leads rules d batch units k l known u h)
