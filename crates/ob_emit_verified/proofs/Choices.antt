-- Certificates of choices: an instruction that names a place further on, a branch, and the other branch at that place.
use Rattle.std.proofs.Common.{◌≡◌, ℕ, ◌+◌, ◌<◌, List, [], ◌∷◌, ◌++◌, length, Some, Bool, true, false, Contains, refl, sym, ap, subst, arith, inl, inr, length-append}
use Rattle.ob_code.specs.declared.instruction.Instruction.{Instruction}
use Rattle.ob_code.specs.declared.instruction.Instruction.TheVariants as is
use Rattle.ob_verify_spec.specs.Conditions.{is_ahead_or_unit}
use Rattle.ob_verify_spec.specs.Frames.{CodeFrame}
use Rattle.ob_verify_spec.specs.Instructions.{KindsOfSlots, targets, leads, keeps, done, effect}
use Rattle.ob_verify_spec.specs.Calling.{ImplementsInterfacesAlone}
use Rattle.ob_verify_spec.proofs.Listed.{not_empty, cases, only}
use Rattle.ob_emit_verified.proofs.Flows.{Fit, fit_self, stands_front, stands_back, fuelled_ahead, Table, KnownAt, MayCome, IsSound, IsChecked, IsCertified, come_to, come_less, known_split, checked_both}

-- an instruction leads to a place that it names, or to the next one, and leaves the slots as they are
pub record IsChoice (f : CodeFrame) (x : Instruction) (to : ℕ) : Type 0 where
  pub target : targets x ≡ to ∷ []
  pub leads_to : (i : ℕ) → leads i x ≡ to ∷ (i + 1) ∷ []
  pub keeps_all : effect f x ≡ keeps

pub checked_choice : (f : CodeFrame) (t : Table) (at to : ℕ) (x : Instruction) (before : KindsOfSlots) → IsChoice f x to
    → IsSound f before x → at < to
    → t at ≡ Some before → MayCome f.image t (at + 1) before → MayCome f.image t to before → IsChecked f t at x
checked_choice f t at to x before choice sound ahead there next other =
    let same : done (effect f x) before ≡ before = ap (λ z. done z before) choice.keeps_all in
    record {
      known = before;
      there = there;
      sound = sound;
      fuelled = λ j c. let d : Contains (to ∷ []) j = subst (λ z. Contains z j) choice.target c in fuelled_ahead f at j (subst (λ z. at < z) (only to j d) ahead);
      leads_on = λ j c.
          let d : Contains (to ∷ (at + 1) ∷ []) j = subst (λ z. Contains z j) (choice.leads_to at) c in
          subst (λ z. MayCome f.image t j z) (sym same)
          (elim (cases to j ((at + 1) ∷ []) d) [ inl e ↦ come_to f.image t to j before e other | inr r ↦ come_to f.image t (at + 1) j before (only (at + 1) j r) next ]);
    }

-- A branch without a jump behind it: its end is never reached, or the other branch begins there and has no code.
pub certified_choice : (f : CodeFrame) → ImplementsInterfacesAlone f.image
    → (at : ℕ) (x : Instruction) (branch other : List Instruction)
    (before first between second after : KindsOfSlots) (branch_ended ended : Bool) → IsChoice f x (at + 1 + length branch) → IsSound f before x
    → Fit f.image first before → Fit f.image second before
    → (branch_ended ≡ false → Fit f.image second between)
    → IsCertified f (at + 1) branch first branch_ended between → IsCertified f (at + 1 + length branch) other second ended after
    → IsCertified f at (x ∷ branch ++ other) before ended after
certified_choice f alone at x branch other before first between second after branch_ended ended choice sound fit_first fit_second meets_there h g =
    let place : at + 1 + length h.known ≡ at + 1 + length branch = ap (λ z. at + 1 + z) h.long in
    let whole : at + length (x ∷ branch ++ other) ≡ at + 1 + length branch + length other =
    let e : length (branch ++ other) ≡ length branch + length other = length-append branch other in omega arith in
    let last : (t : Table) → (ended ≡ false → MayCome f.image t (at + length (x ∷ branch ++ other)) after) → ended ≡ false
    → MayCome f.image t (at + 1 + length branch + length other) after
    = λ t end e. come_to f.image t (at + length (x ∷ branch ++ other)) (at + 1 + length branch + length other) after whole (end e) in
    let one : (t : Table) → KnownAt t at (before ∷ h.known ++ g.known) → KnownAt t (at + 1) h.known = λ t k. (known_split t (at + 1) h.known g.known k.1).0 in
    let two : (t : Table) → KnownAt t at (before ∷ h.known ++ g.known) → KnownAt t (at + 1 + length branch) g.known
    = λ t k. subst (λ z. KnownAt t z g.known) place (known_split t (at + 1) h.known g.known k.1).1 in
    let to_other : (t : Table) → KnownAt t at (before ∷ h.known ++ g.known) → (ended ≡ false → MayCome f.image t (at + length (x ∷ branch ++ other)) after)
    → MayCome f.image t (at + 1 + length branch) second = λ t k end. g.enters t (two t k) (last t end) in
    let after_branch : (t : Table) → KnownAt t at (before ∷ h.known ++ g.known) → (ended ≡ false → MayCome f.image t (at + length (x ∷ branch ++ other)) after)
    → branch_ended ≡ false → MayCome f.image t (at + 1 + length branch) between
    = λ t k end e. come_less f.image alone t (at + 1 + length branch) second between (meets_there e) (to_other t k end) in
    record {
      known = before ∷ h.known ++ g.known;
      long = let e = length-append h.known g.known in let d = length-append branch other in let p = h.long in let q = g.long in omega arith;
      enters = λ t k end. record { known = before; there = k.0; fit = fit_self f.image before };
      checks = λ t s k end. (
        checked_choice f t at (at + 1 + length branch) x before choice sound (omega arith) k.0
            (come_less f.image alone t (at + 1) first before fit_first (h.enters t (one t k) (after_branch t k end)))
            (come_less f.image alone t (at + 1 + length branch) second before fit_second (to_other t k end)),
        checked_both f t (at + 1) branch other
            (h.checks t (stands_front f.body.instructions (at + 1) branch other s.1) (one t k) (after_branch t k end))
            (g.checks t (stands_back f.body.instructions (at + 1) branch other s.1) (two t k) (last t end)),
      );
    }

pub jump_checked : (f : CodeFrame) (t : Table) (at to : ℕ) (held : KindsOfSlots) → IsSound f held (is.Jump to) → t at ≡ Some held
    → is_ahead_or_unit f at to ≡ true
    → MayCome f.image t to held → IsChecked f t at (is.Jump to)
jump_checked f t at to held sound there fuelled come = record {
  known = held;
  there = there;
  sound = sound;
  fuelled = λ j c. subst (λ z. is_ahead_or_unit f at z ≡ true) (only to j c) fuelled;
  leads_on = λ j c. come_to f.image t to j held (only to j c) come;
}

-- no condition holds of a jump by itself
pub sound_jump : (f : CodeFrame) (held : KindsOfSlots) (to : ℕ) → IsSound f held (is.Jump to)
sound_jump f held to = record { slots = refl; fields = refl; calls = refl; met = λ n c. absurd (not_empty n c) }

-- a branch whose end is reached, with a jump over the other branch behind it
pub certified_jump : (f : CodeFrame) → ImplementsInterfacesAlone f.image
    → (at : ℕ) (x : Instruction) (branch other : List Instruction)
    (before first between second left after : KindsOfSlots) (ended : Bool) → IsChoice f x (at + 1 + length branch + 1) → IsSound f before x
    → Fit f.image first before → Fit f.image second before → Fit f.image after between → (ended ≡ false → Fit f.image after left)
    → IsCertified f (at + 1) branch first false between → IsCertified f (at + 1 + length branch + 1) other second ended left
    → IsCertified f at (x ∷ branch ++ is.Jump (at + 1 + length branch + 1 + length other) ∷ other) before false after
certified_jump f alone at x branch other before first between second left after ended choice sound fit_first fit_second fit_between fit_left h g =
    let jump : Instruction = is.Jump (at + 1 + length branch + 1 + length other) in
    let place : at + 1 + length h.known ≡ at + 1 + length branch = ap (λ z. at + 1 + z) h.long in
    let whole : at + length (x ∷ branch ++ jump ∷ other) ≡ at + 1 + length branch + 1 + length other =
    let e : length (branch ++ jump ∷ other) ≡ length branch + length (jump ∷ other) = length-append branch (jump ∷ other) in omega arith in
    let kinds : List KindsOfSlots = before ∷ h.known ++ between ∷ g.known in
    let at_end : (t : Table) → (false ≡ false → MayCome f.image t (at + length (x ∷ branch ++ jump ∷ other)) after) → MayCome f.image t (at + 1 + length branch + 1 + length other) after
    = λ t end. come_to f.image t (at + length (x ∷ branch ++ jump ∷ other)) (at + 1 + length branch + 1 + length other) after whole (end refl) in
    let one : (t : Table) → KnownAt t at kinds → KnownAt t (at + 1) h.known = λ t k. (known_split t (at + 1) h.known (between ∷ g.known) k.1).0 in
    let two : (t : Table) → KnownAt t at kinds → KnownAt t (at + 1 + length branch) (between ∷ g.known)
    = λ t k. subst (λ z. KnownAt t z (between ∷ g.known)) place (known_split t (at + 1) h.known (between ∷ g.known) k.1).1 in
    let to_jump : (t : Table) → KnownAt t at kinds → false ≡ false → MayCome f.image t (at + 1 + length branch) between
    = λ t k e. record { known = between; there = (two t k).0; fit = fit_self f.image between } in
    let left_there : (t : Table) → (false ≡ false → MayCome f.image t (at + length (x ∷ branch ++ jump ∷ other)) after) → ended ≡ false
    → MayCome f.image t (at + 1 + length branch + 1 + length other) left
    = λ t end e. come_less f.image alone t (at + 1 + length branch + 1 + length other) after left (fit_left e) (at_end t end) in
    record {
      known = kinds;
      long = let e = length-append h.known (between ∷ g.known) in let d = length-append branch (jump ∷ other) in let p = h.long in let q = g.long in omega arith;
      enters = λ t k end. record { known = before; there = k.0; fit = fit_self f.image before };
      checks = λ t s k end. (
        checked_choice f t at (at + 1 + length branch + 1) x before choice sound (omega arith) k.0
            (come_less f.image alone t (at + 1) first before fit_first (h.enters t (one t k) (to_jump t k)))
            (come_less f.image alone t (at + 1 + length branch + 1) second before fit_second (g.enters t (two t k).1 (left_there t end))),
        checked_both f t (at + 1) branch (jump ∷ other)
            (h.checks t (stands_front f.body.instructions (at + 1) branch (jump ∷ other) s.1) (one t k) (to_jump t k)) (
              jump_checked f t (at + 1 + length branch) (at + 1 + length branch + 1 + length other) between (sound_jump f between (at + 1 + length branch + 1 + length other)) (two t k).0
                  (fuelled_ahead f (at + 1 + length branch) (at + 1 + length branch + 1 + length other) (omega arith))
                  (come_less f.image alone t (at + 1 + length branch + 1 + length other) after between fit_between (at_end t end)),
              g.checks t (stands_back f.body.instructions (at + 1) branch (jump ∷ other) s.1).1 (two t k).1 (left_there t end),
            ),
      );
    }
