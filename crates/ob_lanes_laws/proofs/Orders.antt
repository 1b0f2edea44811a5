-- Requests are answered in the order of their batch in one lane, and where all are of one client.
use Rattle.std.proofs.Common.{◌≡◌, ℕ, zero, suc, ◌+◌, ◌<◌, ◌≤◌, Bool, true, false, not, ◌&&◌, ◌||◌, List, [], ◌∷◌, ◌++◌, map, length, Option, Some, None, refl, sym, ap, ◌∙◌, subst, arith, true≢false}
use Rattle.std.proofs.lemmas.Bool.{eqb-true, ltb-true, ltb-false}
use Rattle.std.proofs.lemmas.Bool.Decides.{Decides-eqb}
use Rattle.std.proofs.lemmas.List.{reverse-append}
use Rattle.std.specs.Prelude.{⊤, nat_eq, nat_lt, slice_get, slice_set, if◌then◌else◌}
use Rattle.std.specs.List.{range_with_len}
use Rattle.ob_lanes_laws.specs.Schedule.{Rules, Busy, Done, Lanes, Event, start, slice, commit, is_done, is_held, are_earlier_done, may_start, opened, sliced, with_lane, starts, runs, after_commit, committed, commits, step, idle, after_events}
use Rattle.ob_lanes_laws.specs.Serial.{Meaning, RunsAlone, AreSerial, AreInOrder, IsOf, AreLocal}
use Rattle.ob_lanes_laws.specs.Turns.{first_start, started, turned, turn, Round, after_turns}
use Rattle.ob_lanes_laws.specs.Orders.{AreFirstInOrder}
use Rattle.ob_lanes_laws.proofs.Rounds.{there}
use Rattle.ob_lanes_laws.proofs.Keeping.{none_is_some, some_same, not_true, schedules_are_serializable}

-- Numbers.

-- each request was answered once all that come before it were, and no other
abbrev pub AreFirst : {S A : Type 0} → List (Done S A) → Type 0
AreFirst [] = ⊤
AreFirst (d ∷ ds) = (d.number ≡ length ds) × AreFirst ds

range_more : (a n : ℕ) → range_with_len a (suc n) ≡ range_with_len a n ++ (a + n) ∷ []
range_more a zero = ap (λ m. m ∷ []) (let e : a ≡ a + 0 = omega arith in e)
range_more a (suc n) = ap (λ l. a ∷ l) (range_more (a + 1) n ∙ ap (λ m. range_with_len (a + 1) n ++ m ∷ []) (let e : (a + 1) + n ≡ a + suc n = omega arith in e))

pub first_in_order : {S A : Type 0} (done : List (Done S A)) → AreFirst done → AreFirstInOrder done
first_in_order [] h = refl
first_in_order {S = S} {A = A} (d ∷ ds) h =
    reverse-append (d.number ∷ []) (map (λ (x : Done S A). x.number) ds)
    ∙ ap (λ l. l ++ d.number ∷ []) (first_in_order ds h.1)
    ∙ ap (λ n. range_with_len 0 (length ds) ++ n ∷ []) (h.0 ∙ (let e : length ds ≡ 0 + length ds = omega arith in e))
    ∙ sym (range_more 0 (length ds))

less_or : (n m : ℕ) → n ≤ m → (n ≡ m → ⊥) → n < m
less_or zero zero l other = absurd (other refl)
less_or zero (suc m) l other = omega arith
less_or (suc n) zero l other = absurd (omega (arith, l))
less_or (suc n) (suc m) l other = let less = less_or n m (omega (arith, l)) (λ e. other (ap suc e)) in omega (arith, less)

-- those that are answered have the numbers below their count
first_done : {S A : Type 0} (n : ℕ) (done : List (Done S A)) → AreFirst done → n < length done → is_done n done ≡ true
first_done n [] h l = absurd (omega (arith, l))
first_done n (d ∷ ds) h l = by (nat_eq n d.number) refl (λ below. first_done n ds h.1 below)
  where
    by : (b : Bool) → nat_eq n d.number ≡ b → (n < length ds → is_done n ds ≡ true) → b || is_done n ds ≡ true
    by true e ih = refl
    by false e ih = ih (less_or n (length ds) (omega (arith, l)) (λ f. true≢false (sym ((Decides-eqb n d.number).1 (f ∙ sym h.0)) ∙ e)))

done_first : {S A : Type 0} (n : ℕ) (done : List (Done S A)) → AreFirst done → is_done n done ≡ true → n < length done
done_first n [] h e = absurd (true≢false (sym e))
done_first n (d ∷ ds) h e = by (nat_eq n d.number) refl e (λ g. done_first n ds h.1 g)
  where
    by : (b : Bool) → nat_eq n d.number ≡ b → b || is_done n ds ≡ true → (is_done n ds ≡ true → n < length ds) → n < suc (length ds)
    by true f g ih = let same : n ≡ d.number = eqb-true n d.number f in let number = h.0 in omega (arith, same, number)
    by false f g ih = let less = ih g in omega (arith, less)

not_done : {S A : Type 0} (n : ℕ) (done : List (Done S A)) → AreFirst done → is_done n done ≡ false → length done ≤ n
not_done n done h e = by (nat_lt n (length done)) refl
  where
    by : (b : Bool) → nat_lt n (length done) ≡ b → length done ≤ n
    by true f = absurd (true≢false (sym (first_done n done h (ltb-true n (length done) f)) ∙ e))
    by false f = ltb-false n (length done) f

-- a number that isn't answered, and before which all are
is_next : {S A : Type 0} (n : ℕ) (done : List (Done S A)) → AreFirst done → is_done n done ≡ false → (length done < n → is_done (length done) done ≡ true) → n ≡ length done
is_next n done h e earlier = by (nat_lt (length done) n) refl
  where
    by : (b : Bool) → nat_lt (length done) n ≡ b → n ≡ length done
    by true f = let less = done_first (length done) done h (earlier (ltb-true (length done) n f)) in absurd (omega (arith, less))
    by false f = let most = ltb-false (length done) n f in let least = not_done n done h e in omega (arith, most, least)

within : {A : Type 0} (xs : List A) (n : ℕ) (x : A) → slice_get xs n ≡ Some x → n < length xs
within [] n x e = absurd (none_is_some e)
within (y ∷ ys) zero x e = omega arith
within (y ∷ ys) (suc n) x e = let l = within ys n x e in omega (arith, l)

-- One client.

module _ {S Q R A : Type 0} (rules : Rules S Q R A) (means : Meaning S Q A) (batch : List Q) (s : S) (one : (p q : Q) → IsOf batch p → IsOf batch q → rules.same_client p q ≡ true) where
  pub client_first : (done : List (Done S A)) → AreSerial means batch s done → AreInOrder rules batch done → AreFirst done
  client_first [] serial order = tt
  client_first (d ∷ ds) serial order = let first = client_first ds serial.1 order.2 in (is_next d.number ds first order.0 earlier, first)
    where
      earlier : length ds < d.number → is_done (length ds) ds ≡ true
      earlier less =
          let q = serial.0.request in
          let its = serial.0.is_its in
          let end = within batch d.number q its in
          let p = there batch (length ds) (omega (arith, less, end)) in
          order.1 (length ds) p.0 q less p.1 its (one p.0 q (length ds, p.1) (d.number, its))

pub one_client : {S Q R A : Type 0} (rules : Rules S Q R A) (batch : List Q) (s : S) (count : ℕ) (events : List Event) → AreLocal rules batch s
    → ((p q : Q) → IsOf batch p → IsOf batch q → rules.same_client p q ≡ true) → AreFirstInOrder (after_events rules batch (idle s count) events).done
one_client rules batch s count events local one =
    let h = schedules_are_serializable rules batch s count events local in
    first_in_order (after_events rules batch (idle s count) events).done (client_first rules (RunsAlone rules) batch s one (after_events rules batch (idle s count) events).done h.serial h.order)

-- One lane.

-- of these requests, which have the numbers from this one on, one that comes before the first that may start may not
first_least : {S Q R A : Type 0} (rules : Rules S Q R A) (batch : List Q) (l : Lanes S Q R A) (n k i : ℕ) (qs : List Q) (p : Q) → first_start rules batch l k qs ≡ Some n → slice_get qs i ≡ Some p → k + i < n → may_start rules batch (k + i) p l ≡ false
first_least rules batch l n k i [] p e f less = absurd (none_is_some f)
first_least rules batch l n k zero (q ∷ qs) p e f less = by (may_start rules batch k q l) refl e
  where
    here : may_start rules batch (k + 0) p l ≡ may_start rules batch k q l
    here = ap (λ m. may_start rules batch m p l) (let same : k + 0 ≡ k = omega arith in same) ∙ ap (λ x. may_start rules batch k x l) (sym (some_same q p f))

    by : (b : Bool) → may_start rules batch k q l ≡ b → (if b then Some k else first_start rules batch l (suc k) qs) ≡ Some n → may_start rules batch (k + 0) p l ≡ false
    by true m g = let same = some_same k n g in absurd (omega (arith, same, less))
    by false m g = here ∙ m
first_least rules batch l n k (suc i) (q ∷ qs) p e f less = by (may_start rules batch k q l) e (λ g. first_least rules batch l n (suc k) i qs p g f (omega (arith, less)))
  where
    place : k + suc i ≡ suc k + i
    place = omega arith

    by : (b : Bool) → (if b then Some k else first_start rules batch l (suc k) qs) ≡ Some n → (first_start rules batch l (suc k) qs ≡ Some n → may_start rules batch (suc k + i) p l ≡ false) → may_start rules batch (k + suc i) p l ≡ false
    by true g ih = let same = some_same k n g in absurd (omega (arith, same, less))
    by false g ih = ap (λ m. may_start rules batch m p l) place ∙ ih g

-- where all earlier requests are answered, so are those of a client
earlier_all : {S Q R A : Type 0} (rules : Rules S Q R A) (of : Q) (n k : ℕ) (qs : List Q) (done : List (Done S A)) → ((i : ℕ) → i < n → is_done i done ≡ true) → k ≤ n → are_earlier_done rules of n k qs done ≡ true
earlier_all rules of n k [] done h l = refl
earlier_all rules of n k (q ∷ qs) done h l = by (nat_eq n k) refl (λ less. earlier_all rules of n (suc k) qs done h (omega (arith, less)))
  where
    both : (a b c : Bool) → b ≡ true → c ≡ true → (a || b) && c ≡ true
    both true b c e f = f
    both false true c e f = f
    both false false c e f = absurd (true≢false (sym e))

    by : (b : Bool) → nat_eq n k ≡ b → (k < n → are_earlier_done rules of n (suc k) qs done ≡ true) → b || ((not (rules.same_client q of) || is_done k done) && are_earlier_done rules of n (suc k) qs done) ≡ true
    by true e ih = refl
    by false e ih =
        let less = less_or k n l (λ f. true≢false (sym ((Decides-eqb n k).1 (sym f)) ∙ e)) in
        both (not (rules.same_client q of)) (is_done k done) (are_earlier_done rules of n (suc k) qs done) (h k less) (ih less)

-- The one lane is idle, or has the first request that isn't answered.
abbrev HasNext : {Q R : Type 0} → ℕ → Option (Busy Q R) → Type 0
HasNext n None = ⊤
HasNext n (Some b) = b.number ≡ n

record IsOne {S Q R A : Type 0} (l : Lanes S Q R A) : Type 0 where
  first : AreFirst l.done
  lane : Option (Busy Q R)
  is : l.lanes ≡ lane ∷ []
  next : HasNext (length l.done) lane

with_one : {S Q R A : Type 0} (l : Lanes S Q R A) (o : IsOne l) (b : Busy Q R) → b.number ≡ length l.done → IsOne (with_lane 0 (Some b) l)
with_one l o b e = record { first = o.first; lane = Some b; is = is_set l.lanes o.lane (Some b) o.is; next = e }
  where
    is_set : {A : Type 0} (xs : List A) (y x : A) → xs ≡ y ∷ [] → (slice_set xs 0 x) ≡ x ∷ []
    is_set xs y x e = ap (λ ys. slice_set ys 0 x) e

module _ {S Q R A : Type 0} (rules : Rules S Q R A) (batch : List Q) where
  -- the first request that may start is the first that isn't answered
  starts_next : (l : Lanes S Q R A) (n : ℕ) (q : Q) → AreFirst l.done → l.lanes ≡ None ∷ [] → first_start rules batch l 0 batch ≡ Some n → slice_get batch n ≡ Some q → may_start rules batch n q l ≡ true → n ≡ length l.done
  starts_next l n q first is e its may = is_next n l.done first (not_true (is_done n l.done) (left_true (not (is_done n l.done)) _ may)) (λ less. absurd (never less))
    where
      left_true : (a b : Bool) → a && b ≡ true → a ≡ true
      left_true true b h = refl
      left_true false b h = h

      unanswered : is_done (length l.done) l.done ≡ false
      unanswered = by (is_done (length l.done) l.done) refl
        where
          by : (b : Bool) → is_done (length l.done) l.done ≡ b → is_done (length l.done) l.done ≡ false
          by true f = let less = done_first (length l.done) l.done first f in absurd (omega (arith, less))
          by false f = f

      free : is_held (length l.done) l.lanes ≡ false
      free = ap (is_held (length l.done)) is

      all_three : (a b c : Bool) → a ≡ false → b ≡ false → c ≡ true → not a && (not b && c) ≡ true
      all_three true b c d e f = absurd (true≢false d)
      all_three false true c d e f = absurd (true≢false e)
      all_three false false c d e f = f

      never : length l.done < n → ⊥
      never less =
          let end = within batch n q its in
          let p = there batch (length l.done) (omega (arith, less, end)) in
          let place : 0 + length l.done ≡ length l.done = omega arith in
          let starts : may_start rules batch (length l.done) p.0 l ≡ true =
          all_three (is_done (length l.done) l.done) (is_held (length l.done) l.lanes) (are_earlier_done rules p.0 (length l.done) 0 batch l.done) unanswered free
          (earlier_all rules p.0 (length l.done) 0 batch l.done (λ i below. first_done i l.done first below) (omega arith)) in
          true≢false (sym starts ∙ ap (λ m. may_start rules batch m p.0 l) (sym place) ∙ first_least rules batch l n 0 (length l.done) batch p.0 e p.1 (omega (arith, less)))

  start_one : (l : Lanes S Q R A) (o : IsOne l) (n : ℕ) → first_start rules batch l 0 batch ≡ Some n → IsOne (step rules batch l (start 0 n))
  start_one l o n e = subst (λ y. IsOne (starts rules batch 0 n (slice_get batch n) y l)) (sym (ap (λ xs. slice_get xs 0) o.is)) (by (slice_get batch n) refl o.lane o.is)
    where
      may : (q : Q) (b : Bool) → slice_get batch n ≡ Some q → l.lanes ≡ None ∷ [] → may_start rules batch n q l ≡ b → IsOne (if b then with_lane 0 (Some (opened rules n q)) l else l)
      may q true its is m = with_one l o (opened rules n q) (starts_next l n q o.first is e its m)
      may q false its is m = o

      by : (x : Option Q) → slice_get batch n ≡ x → (y : Option (Busy Q R)) → l.lanes ≡ y ∷ [] → IsOne (starts rules batch 0 n x (Some y) l)
      by None f y is = o
      by (Some q) f (Some b) is = o
      by (Some q) f None is = may q (may_start rules batch n q l) f is refl

  started_one : (l : Lanes S Q R A) (x : Option ℕ) → first_start rules batch l 0 batch ≡ x → IsOne l → IsOne (started rules batch 0 x l)
  started_one l None e o = o
  started_one l (Some n) e o = start_one l o n e

  slice_one : (l : Lanes S Q R A) (units : ℕ) → IsOne l → IsOne (step rules batch l (slice 0 units))
  slice_one l units o = subst (λ y. IsOne (runs rules 0 units y l)) (sym (ap (λ xs. slice_get xs 0) o.is)) (by o.lane o.next)
    where
      ran : (b : Busy Q R) (over : Bool) → b.number ≡ length l.done → IsOne (if over then l else with_lane 0 (Some (sliced rules l.store units b)) l)
      ran b true e = o
      ran b false e = with_one l o (sliced rules l.store units b) e

      by : (y : Option (Busy Q R)) → HasNext (length l.done) y → IsOne (runs rules 0 units (Some y) l)
      by None h = o
      by (Some b) h = ran b (rules.has_ended b.run) h

  commit_one : (l : Lanes S Q R A) → IsOne l → IsOne (step rules batch l (commit 0))
  commit_one l o = subst (λ y. IsOne (commits rules 0 y l)) (sym (ap (λ xs. slice_get xs 0) o.is)) (by o.lane o.next)
    where
      done : (b : Busy Q R) (over : Bool) → b.number ≡ length l.done → IsOne (if over then committed rules 0 b l else l)
      done b true e = record {
        first = (e, o.first);
        lane = None;
        is = ap (λ xs. map (after_commit rules l.store (rules.commit l.store b.run)) (slice_set xs 0 None)) o.is;
        next = tt;
      }
      done b false e = o

      by : (y : Option (Busy Q R)) → HasNext (length l.done) y → IsOne (commits rules 0 (Some y) l)
      by None h = o
      by (Some b) h = done b (rules.has_ended b.run) h

  turn_one : (l : Lanes S Q R A) (units : ℕ) → IsOne l → IsOne (turn rules batch units 0 l)
  turn_one l units o =
      let began = started_one l (first_start rules batch l 0 batch) refl o in
      commit_one (turned rules batch units 0 l) (slice_one (started rules batch 0 (first_start rules batch l 0 batch) l) units began)

  -- in one lane it is always the first lane's turn
  record HasOne (r : Round S Q R A) : Type 0 where
    one : IsOne r.lanes
    next : r.next ≡ 0

  turns_one : (units : ℕ) (s : S) (turns : ℕ) → HasOne (after_turns rules batch units 1 s turns)
  turns_one units s zero = record { one = record { first = tt; lane = None; is = refl; next = tt }; next = refl }
  turns_one units s (suc n) =
      let h = turns_one units s n in
      let r = after_turns rules batch units 1 s n in
      record {
        one = subst (λ k. IsOne (turn rules batch units k r.lanes)) (sym h.next) (turn_one r.lanes units h.one);
        next = ap (λ k. if nat_lt (k + 1) 1 then k + 1 else 0) h.next;
      }

pub one_lane : {S Q R A : Type 0} (rules : Rules S Q R A) (batch : List Q) (units : ℕ) (s : S) (turns : ℕ) → AreFirstInOrder (after_turns rules batch units 1 s turns).lanes.done
one_lane rules batch units s turns = first_in_order (after_turns rules batch units 1 s turns).lanes.done (turns_one rules batch units s turns).one.first
