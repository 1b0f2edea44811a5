-- When a schedule is serializable: what it has done is what its requests do one after another (Papadimitriou, "The serializability of
-- concurrent database updates", JACM 26(4), 1979; in the order of commits).
use Rattle.std.specs.Prelude.{◌≡◌, ℕ, ◌<◌, true, false, List, [], ◌∷◌, slice_get, Some, ⊤}
use Rattle.ob_lanes_laws.specs.Schedule.{Rules, run_of, Done, Lanes, is_done}

-- what a request comes to on a store where it is taken alone: its answer, and the store after it
abbrev pub Meaning : Type 0 → Type 0 → Type 0 → Type 1
Meaning S Q A = S → Q → A → S → Type 0

-- the store after what was done
abbrev pub store_after : {S A : Type 0} → S → List (Done S A) → S
store_after s [] = s
store_after s (d ∷ ds) = d.after

-- what was done on a store is what a request of the batch comes to there, taken alone
pub record IsDoneAlone {S Q A : Type 0} (means : Meaning S Q A) (batch : List Q) (s : S) (d : Done S A) : Type 0 where
  pub request : Q
  pub is_its : slice_get batch d.number ≡ Some request
  pub comes : means s request d.answer d.after

-- The requests were answered one after another: each on the store that the one before left, as if it were taken alone.
abbrev pub AreSerial : {S Q A : Type 0} → Meaning S Q A → List Q → S → List (Done S A) → Type 0
AreSerial means batch s [] = ⊤
AreSerial means batch s (d ∷ ds) = IsDoneAlone means batch (store_after s ds) d × AreSerial means batch s ds

-- each earlier request of the client of this one is answered
abbrev pub AreEarlierDone : {S Q R A : Type 0} → Rules S Q R A → List Q → ℕ → List (Done S A) → Type 0
AreEarlierDone {Q = Q} rules batch n done =
    (i : ℕ) (p q : Q) → i < n → slice_get batch i ≡ Some p → slice_get batch n ≡ Some q → rules.same_client p q ≡ true
    → is_done i done ≡ true

-- No request was answered twice, and each was answered after all earlier ones of its client.
abbrev pub AreInOrder : {S Q R A : Type 0} → Rules S Q R A → List Q → List (Done S A) → Type 0
AreInOrder rules batch [] = ⊤
AreInOrder rules batch (d ∷ ds) = (is_done d.number ds ≡ false) × AreEarlierDone rules batch d.number ds × AreInOrder rules batch ds

-- A schedule that began on a store is serializable.
pub record IsSerializable {S Q R A : Type 0} (rules : Rules S Q R A) (means : Meaning S Q A) (batch : List Q) (s : S) (l : Lanes S Q R A) : Type 0 where
  pub serial : AreSerial means batch s l.done
  pub order : AreInOrder rules batch l.done
  pub store : l.store ≡ store_after s l.done

-- Runs.

-- a run of a request on a store has ended: it was opened there, was given some units, and has ended
pub record IsEnded {S Q R A : Type 0} (rules : Rules S Q R A) (s : S) (q : Q) (r : R) : Type 0 where
  pub given : List ℕ
  pub is : r ≡ run_of rules s given q
  pub over : rules.has_ended r ≡ true

-- A request is taken alone on a store: a run of it ends there, and this is its answer, and the store after its commit.
pub record RunsAlone {S Q R A : Type 0} (rules : Rules S Q R A) (s : S) (q : Q) (answer : A) (after : S) : Type 0 where
  pub run : R
  pub ended : IsEnded rules s q run
  pub answer_is : answer ≡ rules.answer s run
  pub after_is : after ≡ rules.commit s run

-- requests of a batch, taken alone one after another, lead from the first store to the second
pub record IsReached {S Q R A : Type 0} (rules : Rules S Q R A) (batch : List Q) (s t : S) : Type 0 where
  pub done : List (Done S A)
  pub serial : AreSerial (RunsAlone rules) batch s done
  pub is : t ≡ store_after s done

-- a request is one of a batch
abbrev pub IsOf : {Q : Type 0} → List Q → Q → Type 0
IsOf batch q = (n : ℕ) × (slice_get batch n ≡ Some q)

-- Runs depend on what they have read alone: on each store that a batch leads to, a run that isn't stale after the commit of another one is
-- the run to which the same units lead on the store after it.
abbrev pub AreLocal : {S Q R A : Type 0} → Rules S Q R A → List Q → S → Type 0
AreLocal {S = S} {Q = Q} {R = R} rules batch s =
    (t : S) (p q : Q) (r : R) (given : List ℕ) → IsReached rules batch s t → IsOf batch p → IsOf batch q → IsEnded rules t p r
    → rules.is_stale t (rules.commit t r) (run_of rules t given q) ≡ false
    → run_of rules (rules.commit t r) given q ≡ run_of rules t given q
