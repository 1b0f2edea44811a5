-- Certificates of code: what is known of the slots before each instruction, segment by segment.
use Rattle.std.proofs.Common.{◌≡◌, ℕ, ◌+◌, ◌<◌, List, [], ◌∷◌, ◌++◌, length, Option, Some, Bool, true, false, Contains, refl, ap, subst, arith, inl, inr, length-append}
use Rattle.std.specs.Prelude.{⊤, ◌||◌, nat_lt, slice_get}
use Rattle.std.specs.Option.{option_map_or}
use Rattle.std.proofs.lemmas.Bool.{lt-ltb}
use Rattle.std.proofs.lemmas.Bool.Decides.{eqb_tells}
use Rattle.ob_table.specs.declared.seen.Kind.{Kind}
use Rattle.ob_code.specs.declared.image.Image.{Image}
use Rattle.ob_code.specs.declared.instruction.Instruction.{Instruction}
use Rattle.ob_code.specs.declared.instruction.Instruction.TheVariants as is
use Rattle.ob_verify_spec.specs.Kinds.{fits}
use Rattle.ob_verify_spec.specs.Frames.{CodeFrame}
use Rattle.ob_verify_spec.specs.Instructions.{KindsOfSlots, targets, leads, Need, meets, needs, Effect, keeps, sets, copies, set_slot, done, effect}
use Rattle.ob_verify_spec.specs.Conditions.{names_bad_slot, bad_field, bad_call, is_unit, is_ahead_or_unit}
use Rattle.ob_verify_spec.specs.Calling.{ImplementsInterfacesAlone}
use Rattle.ob_verify_spec.proofs.Listed.{not_empty, only}
use Rattle.ob_verify_spec.proofs.Fitting.{fits_self, fits_all}

-- Kinds that may take the place of others.

-- a value of the first kind may take the place of one of the second
abbrev pub Serves : Image → Kind → Kind → Type 0
Serves m y x = fits m y x ≡ true

-- each slot of which a kind is known holds a value of a kind that may take its place
abbrev pub Fit : Image → KindsOfSlots → KindsOfSlots → Type 0
Fit m known s = (k : ℕ) (x : Kind) → known k ≡ Some x → (y : Kind) × (s k ≡ Some y) × Serves m y x

pub fit_self : (m : Image) (s : KindsOfSlots) → Fit m s s
fit_self m s k x e = (x, e, fits_self m x)

pub fit_each : (m : Image) → ImplementsInterfacesAlone m → (r s t : KindsOfSlots) → Fit m r s → Fit m s t → Fit m r t
fit_each m alone r s t h g k x e =
    let a = h k x e in
    let b = g k a.0 a.1 in
    (b.0, b.1, fits_all m alone b.0 a.0 x b.2 a.2)

pub fit_set : (m : Image) (k : ℕ) (held given : Option Kind) (known s : KindsOfSlots)
    → ((x : Kind) → held ≡ Some x → (y : Kind) × (given ≡ Some y) × Serves m y x) → Fit m known s
    → Fit m (set_slot k held known) (set_slot k given s)
fit_set m k held given known s one fit j x e = elim (eqb_tells j k) [
  | inl u ↦ let h = one x (rw u.0 at e) in (h.0, rw u.0 h.1, h.2)
  | inr u ↦ let h = fit j x (rw u.0 at e) in (h.0, rw u.0 h.1, h.2)
]

-- effects keep it
pub fit_done : (m : Image) (given : Effect) (known s : KindsOfSlots) → Fit m known s → Fit m (done given known) (done given s)
fit_done m keeps known s fit = fit
fit_done m (sets k held) known s fit = fit_set m k held held known s (λ x e. (x, e, fits_self m x)) fit
fit_done m (copies k a) known s fit = fit_set m k (known a) (s a) known s (λ x e. fit a x e) fit

-- Places of code.

-- these instructions stand at a place of code
abbrev pub StandsAt : List Instruction → ℕ → List Instruction → Type 0
StandsAt code at [] = ⊤
StandsAt code at (x ∷ xs) = (slice_get code at ≡ Some x) × StandsAt code (at + 1) xs

pub stands_front : (code : List Instruction) (at : ℕ) (a b : List Instruction) → StandsAt code at (a ++ b) → StandsAt code at a
stands_front code at [] b h = tt
stands_front code at (i ∷ a) b h = (h.0, stands_front code (at + 1) a b h.1)

pub stands_back : (code : List Instruction) (at : ℕ) (a b : List Instruction) → StandsAt code at (a ++ b)
    → StandsAt code (at + length a) b
stands_back code at [] b h = let e : at ≡ at + 0 = omega arith in subst (λ n. StandsAt code n b) e h
stands_back code at (i ∷ a) b h =
    let e : at + 1 + length a ≡ at + length (i ∷ a) = omega arith in
    subst (λ n. StandsAt code n b) e (stands_back code (at + 1) a b h.1)

-- a place ahead needs no unit
pub fuelled_ahead : (f : CodeFrame) (i j : ℕ) → i < j → is_ahead_or_unit f i j ≡ true
fuelled_ahead f i j lt = ap (λ b. b || option_map_or is_unit (slice_get f.body.instructions j) false) (lt-ltb i j lt)

or_second : (a b : Bool) → b ≡ true → (a || b) ≡ true
or_second true b e = refl
or_second false b e = e

-- nor does one where a unit stands
pub fuelled_unit : (f : CodeFrame) (i j : ℕ) → slice_get f.body.instructions j ≡ Some is.Unit → is_ahead_or_unit f i j ≡ true
fuelled_unit f i j e =
    or_second (nat_lt i j) (option_map_or is_unit (slice_get f.body.instructions j) false) (ap (λ x. option_map_or is_unit x false) e)

-- Certificates.

-- what is known of the slots at places
abbrev pub Table : Type 0
Table = ℕ → Option KindsOfSlots

-- these kinds are known at places, one after another
abbrev pub KnownAt : Table → ℕ → List KindsOfSlots → Type 0
KnownAt t at [] = ⊤
KnownAt t at (s ∷ rest) = (t at ≡ Some s) × KnownAt t (at + 1) rest

-- slots that hold this may come to a place: what is known there holds of them
pub record MayCome (m : Image) (t : Table) (at : ℕ) (s : KindsOfSlots) : Type 0 where
  pub known : KindsOfSlots
  pub there : t at ≡ Some known
  pub fit : Fit m known s

-- no condition holds of an instruction by itself, and what is known of the slots meets its needs
pub record IsSound (f : CodeFrame) (known : KindsOfSlots) (x : Instruction) : Type 0 where
  pub slots : names_bad_slot f x ≡ false
  pub fields : bad_field f x ≡ false
  pub calls : bad_call f x ≡ false
  pub met : (n : Need) → Contains (needs f x) n → meets f.image known n ≡ true

-- an instruction at a place is sound, and leads to places where what is known holds, ahead or to a unit
pub record IsChecked (f : CodeFrame) (t : Table) (at : ℕ) (x : Instruction) : Type 0 where
  pub known : KindsOfSlots
  pub there : t at ≡ Some known
  pub sound : IsSound f known x
  pub fuelled : (j : ℕ) → Contains (targets x) j → is_ahead_or_unit f at j ≡ true
  pub leads_on : (j : ℕ) → Contains (leads at x) j → MayCome f.image t j (done (effect f x) known)

-- the same of instructions from a place on
abbrev pub AreChecked : CodeFrame → Table → ℕ → List Instruction → Type 0
AreChecked f t at [] = ⊤
AreChecked f t at (x ∷ xs) = IsChecked f t at x × AreChecked f t (at + 1) xs

-- A segment of code at a place is certified. There are kinds for each of its places; wherever they are known, and what holds after the
-- segment holds at its end unless that is never reached, slots that hold what holds before it may come to its beginning, and, where the
-- segment stands in the body, each of its instructions is checked.
pub record IsCertified (f : CodeFrame) (at : ℕ) (code : List Instruction) (before : KindsOfSlots) (ended : Bool) (after : KindsOfSlots) : Type 0 where
  pub known : List KindsOfSlots
  pub long : length known ≡ length code
  pub enters : (t : Table) → KnownAt t at known → (ended ≡ false → MayCome f.image t (at + length code) after)
      → MayCome f.image t at before
  pub checks : (t : Table) → StandsAt f.body.instructions at code → KnownAt t at known
      → (ended ≡ false → MayCome f.image t (at + length code) after) → AreChecked f t at code

-- Segments.

pub come_to : (m : Image) (t : Table) (at to : ℕ) (s : KindsOfSlots) → at ≡ to → MayCome m t at s → MayCome m t to s
come_to m t at to s e h = subst (λ z. MayCome m t z s) e h

pub come_less : (m : Image) → ImplementsInterfacesAlone m → (t : Table) (at : ℕ) (less s : KindsOfSlots) → Fit m less s
    → MayCome m t at less → MayCome m t at s
come_less m alone t at less s fit h = record { known = h.known; there = h.there; fit = fit_each m alone h.known less s h.fit fit }

pub known_split : (t : Table) (at : ℕ) (ks ls : List KindsOfSlots) → KnownAt t at (ks ++ ls)
    → KnownAt t at ks × KnownAt t (at + length ks) ls
known_split t at [] ls h = let e : at ≡ at + 0 = omega arith in (tt, subst (λ z. KnownAt t z ls) e h)
known_split t at (k ∷ ks) ls (first, h) =
    let w = known_split t (at + 1) ks ls h in
    let e : at + 1 + length ks ≡ at + length (k ∷ ks) = omega arith in
    ((first, w.0), subst (λ z. KnownAt t z ls) e w.1)

pub checked_both : (f : CodeFrame) (t : Table) (at : ℕ) (xs ys : List Instruction) → AreChecked f t at xs
    → AreChecked f t (at + length xs) ys
    → AreChecked f t at (xs ++ ys)
checked_both f t at [] ys h g = let e : at + 0 ≡ at = omega arith in subst (λ z. AreChecked f t z ys) e g
checked_both f t at (x ∷ xs) ys (first, h) g =
    let e : at + length (x ∷ xs) ≡ at + 1 + length xs = omega arith in
    (first, checked_both f t (at + 1) xs ys h (subst (λ z. AreChecked f t z ys) e g))

-- no code
pub certified_none : (f : CodeFrame) → ImplementsInterfacesAlone f.image → (at : ℕ) (before after : KindsOfSlots)
    → Fit f.image after before
    → IsCertified f at [] before false after
certified_none f alone at before after fit = record {
  known = [];
  long = refl;
  enters = λ t k end. let e : at + 0 ≡ at = omega arith in come_less f.image alone t at after before fit (come_to f.image t (at + 0) at after e (end refl));
  checks = λ t s k end. tt;
}

-- an instruction leads to the next one and nowhere else
abbrev pub IsPlain : Instruction → Type 0
IsPlain x = (targets x ≡ []) × ((i : ℕ) → leads i x ≡ (i + 1) ∷ [])

pub certified_one : (f : CodeFrame) (at : ℕ) (x : Instruction) (before : KindsOfSlots) → IsPlain x → IsSound f before x
    → IsCertified f at (x ∷ []) before false (done (effect f x) before)
certified_one f at x before plain sound = record {
  known = before ∷ [];
  long = refl;
  enters = λ t k end. record { known = before; there = k.0; fit = fit_self f.image before };
  checks = λ t s k end. (
    record {
      known = before;
      there = k.0;
      sound = sound;
      fuelled = λ j c. let d : Contains [] j = subst (λ z. Contains z j) plain.0 c in absurd (not_empty j d);
      leads_on = λ j c.
          let d : Contains ((at + 1) ∷ []) j = subst (λ z. Contains z j) (plain.1 at) c in
          come_to f.image t (at + 1) j (done (effect f x) before) (only (at + 1) j d) (end refl);
    },
    tt,
  );
}

-- an instruction leads nowhere
abbrev pub IsLast : Instruction → Type 0
IsLast x = (targets x ≡ []) × ((i : ℕ) → leads i x ≡ [])

pub certified_last : (f : CodeFrame) (at : ℕ) (x : Instruction) (before after : KindsOfSlots) → IsLast x → IsSound f before x
    → IsCertified f at (x ∷ []) before true after
certified_last f at x before after plain sound = record {
  known = before ∷ [];
  long = refl;
  enters = λ t k end. record { known = before; there = k.0; fit = fit_self f.image before };
  checks = λ t s k end. (
    record {
      known = before;
      there = k.0;
      sound = sound;
      fuelled = λ j c. let d : Contains [] j = subst (λ z. Contains z j) plain.0 c in absurd (not_empty j d);
      leads_on = λ j c. let d : Contains [] j = subst (λ z. Contains z j) (plain.1 at) c in absurd (not_empty j d);
    },
    tt,
  );
}

-- one segment after another
pub certified_both : (f : CodeFrame) (at : ℕ) (xs ys : List Instruction) (before between after : KindsOfSlots) (ended : Bool)
    → IsCertified f at xs before false between → IsCertified f (at + length xs) ys between ended after
    → IsCertified f at (xs ++ ys) before ended after
certified_both f at xs ys before between after ended h g =
    let place : (ks : List KindsOfSlots) → length ks ≡ length xs → at + length ks ≡ at + length xs = λ ks e. ap (λ z. at + z) e in
    let end_of : at + length (xs ++ ys) ≡ at + length xs + length ys = let e : length (xs ++ ys) ≡ length xs + length ys = length-append xs ys in omega arith in
    let second : (t : Table) → KnownAt t at (h.known ++ g.known) → KnownAt t (at + length xs) g.known
    = λ t k. subst (λ z. KnownAt t z g.known) (place h.known h.long) (known_split t at h.known g.known k).1 in
    let last : (t : Table) → (ended ≡ false → MayCome f.image t (at + length (xs ++ ys)) after) → ended ≡ false → MayCome f.image t (at + length xs + length ys) after
    = λ t end e. come_to f.image t (at + length (xs ++ ys)) (at + length xs + length ys) after end_of (end e) in
    record {
      known = h.known ++ g.known;
      long = let e = length-append h.known g.known in let d = length-append xs ys in let p = h.long in let q = g.long in omega arith;
      enters = λ t k end. h.enters t (known_split t at h.known g.known k).0 (λ e. g.enters t (second t k) (last t end));
      checks = λ t s k end. checked_both f t at xs ys
          (h.checks t (stands_front f.body.instructions at xs ys s) (known_split t at h.known g.known k).0 (λ e. g.enters t (second t k) (last t end)))
          (g.checks t (stands_back f.body.instructions at xs ys s) (second t k) (last t end));
    }

-- what is known after may be less
pub certified_after : (f : CodeFrame) → ImplementsInterfacesAlone f.image
    → (at : ℕ) (code : List Instruction) (before after less : KindsOfSlots) (ended : Bool)
    → Fit f.image less after → IsCertified f at code before ended after → IsCertified f at code before ended less
certified_after f alone at code before after less ended fit h = record {
  known = h.known;
  long = h.long;
  enters = λ t k end. h.enters t k (λ e. come_less f.image alone t (at + length code) less after fit (end e));
  checks = λ t s k end. h.checks t s k (λ e. come_less f.image alone t (at + length code) less after fit (end e));
}

-- what is known before may be more
pub certified_before : (f : CodeFrame) → ImplementsInterfacesAlone f.image
    → (at : ℕ) (code : List Instruction) (less before after : KindsOfSlots) (ended : Bool)
    → Fit f.image less before → IsCertified f at code less ended after → IsCertified f at code before ended after
certified_before f alone at code less before after ended fit h = record {
  known = h.known;
  long = h.long;
  enters = λ t k end. come_less f.image alone t at less before fit (h.enters t k end);
  checks = h.checks;
}
