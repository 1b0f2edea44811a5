-- Certificates of loops: a first part, an operand, an instruction that leaves the loop, the body, and a jump back where its end is
-- reached.
use Rattle.std.proofs.Common.{◌≡◌, ℕ, ◌+◌, ◌<◌, List, [], ◌∷◌, ◌++◌, length, Some, Bool, true, false, not, slice_get, refl, ap, subst, arith, length-append, if◌then◌else◌}
use Rattle.ob_code.specs.declared.instruction.Instruction.{Instruction}
use Rattle.ob_code.specs.declared.instruction.Instruction.TheVariants as is
use Rattle.ob_verify_spec.specs.Frames.{CodeFrame}
use Rattle.ob_verify_spec.specs.Instructions.{KindsOfSlots}
use Rattle.ob_verify_spec.specs.Calling.{ImplementsInterfacesAlone}
use Rattle.ob_emit_spec.specs.Emission.{jump_if, after_branch, turn_code}
use Rattle.ob_emit_verified.proofs.Flows.{Fit, fit_self, StandsAt, stands_front, stands_back, fuelled_unit, Table, KnownAt, MayCome, IsSound, AreChecked, IsCertified, come_to, come_less, known_split, checked_both}
use Rattle.ob_emit_verified.proofs.Choices.{IsChoice, checked_choice, jump_checked, sound_jump}

-- what a body is left with, where its end is reached
abbrev left_if : Bool → KindsOfSlots → List KindsOfSlots
left_if true s = s ∷ []
left_if false s = []

module _ (f : CodeFrame) (alone : ImplementsInterfacesAlone f.image) (start : ℕ) (first load body : List Instruction) (a : ℕ)
    (head between known inside turned : KindsOfSlots) (ended : Bool) where
  -- where the choice stands, and where the loop is left
  abbrev place : ℕ
  place = start + length first + length load

  abbrev exit : ℕ
  exit = after_branch (place + 1) body (not ended)

  abbrev behind : List Instruction
  behind = turn_code a start (not ended) place body

  abbrev whole : List Instruction
  whole = first ++ (load ++ behind)

  jump_size : (jumps : Bool) → length (jump_if jumps start) ≡ (if jumps then 1 else 0)
  jump_size true = refl
  jump_size false = refl

  whole_size : start + length whole ≡ exit
  whole_size =
      let x = length-append first (load ++ behind) in
      let y = length-append load behind in
      let z = length-append body (jump_if (not ended) start) in
      let j = jump_size (not ended) in
      omega (arith, x, y, z, j)

  left_size : (jumps : Bool) → length (left_if jumps turned) ≡ length (jump_if jumps start)
  left_size true = refl
  left_size false = refl

  -- a choice whose target is behind the loop, and a `unit` at its beginning
  pub certified_turns : IsChoice f (is.Unless a exit) exit → IsSound f known (is.Unless a exit)
      → Fit f.image inside known → Fit f.image between known → (ended ≡ false → Fit f.image head turned)
      → (StandsAt f.body.instructions start first → slice_get f.body.instructions start ≡ Some is.Unit)
      → IsCertified f start first head false between → IsCertified f (start + length first) load between false known
      → IsCertified f (place + 1) body inside ended turned → IsCertified f start whole head false between
  certified_turns choice sound fit_inside fit_between fit_turned unit one two three = record {
    known = kinds;
    long =
        let x = length-append one.known (two.known ++ known ∷ (three.known ++ left)) in
        let y = length-append two.known (known ∷ (three.known ++ left)) in
        let z = length-append three.known left in
        let u = length-append first (load ++ behind) in
        let v = length-append load behind in
        let w = length-append body (jump_if (not ended) start) in
        let j = left_size (not ended) in
        let p = one.long in
        let q = two.long in
        let r = three.long in
        omega (arith, x, y, z, u, v, w, j, p, q, r);
    enters = λ t k end. begins t k;
    checks = λ t s k end.
        let behind_first = stands_back f.body.instructions start first (load ++ behind) s in
        let behind_load = stands_back f.body.instructions (start + length first) load behind behind_first in
        checked_both f t start first (load ++ behind)
        (one.checks t (stands_front f.body.instructions start first (load ++ behind) s) (one_known t k) (λ e. loads t k))
        (checked_both f t (start + length first) load behind
        (two.checks t (stands_front f.body.instructions (start + length first) load behind behind_first) (two_known t k) (λ e. chosen t k)) (
          checked_choice f t place exit (is.Unless a exit) known choice sound (after_low (not ended)) (known_here t k).0
              (come_less f.image alone t (place + 1) inside known fit_inside (three.enters t (three_known t k) (λ e. turns t k e)))
              (come_less f.image alone t exit between known fit_between (come_to f.image t (start + length whole) exit between whole_size (end refl))),
          checked_both f t (place + 1) body (jump_if (not ended) start)
              (three.checks t (stands_front f.body.instructions (place + 1) body (jump_if (not ended) start) behind_load.1) (three_known t k)
              (λ e. turns t k e))
              (jumps t k (unit (stands_front f.body.instructions start first (load ++ behind) s)) ended refl),
        ));
  }
    where
      left : List KindsOfSlots
      left = left_if (not ended) turned

      kinds : List KindsOfSlots
      kinds = one.known ++ (two.known ++ known ∷ (three.known ++ left))

      one_known : (t : Table) → KnownAt t start kinds → KnownAt t start one.known
      one_known t k = (known_split t start one.known (two.known ++ known ∷ (three.known ++ left)) k).0

      behind_known : (t : Table) → KnownAt t start kinds → KnownAt t (start + length first) (two.known ++ known ∷ (three.known ++ left))
      behind_known t k =
          subst (λ n. KnownAt t (start + n) (two.known ++ known ∷ (three.known ++ left))) one.long
          (known_split t start one.known (two.known ++ known ∷ (three.known ++ left)) k).1

      two_known : (t : Table) → KnownAt t start kinds → KnownAt t (start + length first) two.known
      two_known t k = (known_split t (start + length first) two.known (known ∷ (three.known ++ left)) (behind_known t k)).0

      known_here : (t : Table) → KnownAt t start kinds → KnownAt t place (known ∷ (three.known ++ left))
      known_here t k =
          subst (λ n. KnownAt t (start + length first + n) (known ∷ (three.known ++ left))) two.long
          (known_split t (start + length first) two.known (known ∷ (three.known ++ left)) (behind_known t k)).1

      three_known : (t : Table) → KnownAt t start kinds → KnownAt t (place + 1) three.known
      three_known t k = (known_split t (place + 1) three.known left (known_here t k).1).0

      left_known : (t : Table) → KnownAt t start kinds → KnownAt t (place + 1 + length body) left
      left_known t k =
          subst (λ n. KnownAt t (place + 1 + n) left) three.long (known_split t (place + 1) three.known left (known_here t k).1).1

      chosen : (t : Table) → KnownAt t start kinds → MayCome f.image t (start + length first + length load) known
      chosen t k = record { known = known; there = (known_here t k).0; fit = fit_self f.image known }

      loads : (t : Table) → KnownAt t start kinds → MayCome f.image t (start + length first) between
      loads t k = two.enters t (two_known t k) (λ e. chosen t k)

      begins : (t : Table) → KnownAt t start kinds → MayCome f.image t start head
      begins t k = one.enters t (one_known t k) (λ e. loads t k)

      turned_there : (t : Table) → KnownAt t start kinds → ended ≡ false → t (place + 1 + length body) ≡ Some turned
      turned_there t k e = (subst (λ b. KnownAt t (place + 1 + length body) (left_if (not b) turned)) e (left_known t k)).0

      turns : (t : Table) → KnownAt t start kinds → ended ≡ false → MayCome f.image t (place + 1 + length body) turned
      turns t k e = record { known = turned; there = turned_there t k e; fit = fit_self f.image turned }

      after_low : (jumps : Bool) → place < after_branch (place + 1) body jumps
      after_low true = omega arith
      after_low false = omega arith

      jumps : (t : Table) → KnownAt t start kinds → slice_get f.body.instructions start ≡ Some is.Unit → (e : Bool) → ended ≡ e
          → AreChecked f t (place + 1 + length body) (jump_if (not e) start)
      jumps t k unit true e = tt
      jumps t k unit false e = (
        jump_checked f t (place + 1 + length body) start turned (sound_jump f turned start) (turned_there t k e)
            (fuelled_unit f (place + 1 + length body) start unit)
            (come_less f.image alone t start head turned (fit_turned e) (begins t k)),
        tt,
      )
