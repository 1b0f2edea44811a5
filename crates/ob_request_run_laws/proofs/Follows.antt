-- What a step leads to on two contents, and how steps are put together.
use Rattle.std.proofs.Common.{◌≡◌, ℕ, zero, suc, inl, inr, Bool, true, false, List, [], ◌∷◌, Option, Some, None, refl, ap, ◌∙◌}
use Rattle.std.specs.Prelude.{⊤, if◌then◌else◌}
use Rattle.ob_base.specs.Optional.{◌>>=◌}
use Rattle.ob_heap_spec.specs.Objects.{Object}
use Rattle.ob_heap_spec.specs.Worlds.{ReadItem, object_item, World, AbortCause, AllRead, with_unit_taken}
use Rattle.ob_machine_steps.specs.Configurations.{MachineFrame, Next, goes, abort}
use Rattle.ob_machine_steps.specs.Parts.{with_units}
use Rattle.ob_request_run_laws.specs.Locality.{Setting, onto, next_onto, reads_of_next, IsGood, IsTold, AreTold, IsGoodNext, AlikeNext}
use Rattle.ob_request_run_laws.proofs.Lists.{all_read_self, all_read_on}
use Rattle.ob_request_run_laws.proofs.Moves.{HasAlike, Moves, moves_self}

-- what a step leads to on the first content, and what there is on the second; `r` was read before
pub record FollowsNext (s : Setting) (r : List ReadItem) (n : Next) (y : Option Next) : Type 0 where
  pub grows : AllRead r (reads_of_next n)
  pub good : IsGoodNext s.count n
  pub ys : List Object
  pub is : AllRead (reads_of_next n) s.items → y ≡ Some (next_onto ys n)
  pub alike : AllRead (reads_of_next n) s.items → AlikeNext s n ys

-- where there is no step on the first content, nothing is said
abbrev pub Follows : Setting → List ReadItem → Option Next → Option Next → Type 0
Follows s r None y = ⊤
Follows s r (Some n) y = FollowsNext s r n y

-- Combinators.

follows_by : (s : Setting) (q r : List ReadItem) (n : Next) (y z : Option Next) → AllRead q r → (AllRead r s.items → z ≡ y) → FollowsNext s r n y → FollowsNext s q n z
follows_by s q r n y z h e f = record {
  grows = all_read_on q r (reads_of_next n) h f.grows;
  good = f.good;
  ys = f.ys;
  is = λ all. e (all_read_on r (reads_of_next n) s.items f.grows all) ∙ f.is all;
  alike = f.alike;
}

-- more was read before, and the second step is told in another way
pub follows_on : (s : Setting) (q r : List ReadItem) (x y z : Option Next) → AllRead q r → (AllRead r s.items → z ≡ y) → Follows s r x y → Follows s q x z
follows_on s q r None y z h e f = tt
follows_on s q r (Some n) y z h e f = follows_by s q r n y z h e f

-- what looks at no object is the same in both
pub then_follows : (s : Setting) (r : List ReadItem) {A : Type 0} (o : Option A) (f g : A → Option Next) → ((a : A) → Follows s r (f a) (g a)) → Follows s r (o >>= f) (o >>= g)
then_follows s r None f g h = tt
then_follows s r (Some a) f g h = h a

-- what is found in the first content, and so in the second, since it is read
pub found_follows : (s : Setting) (q r : List ReadItem) {A : Type 0} (x y : Option A) (f g : A → Option Next) → AllRead q r → ((a : A) → x ≡ Some a → AllRead r s.items → y ≡ x)
    → ((a : A) → x ≡ Some a → Follows s r (f a) (g a)) → Follows s q (x >>= f) (y >>= g)
found_follows s q r None y f g h e k = tt
found_follows s q r (Some a) y f g h e k = follows_on s q r (f a) (g a) (y >>= g) h (λ all. ap (λ o. o >>= g) (e a refl all)) (k a refl)

pub if_follows : (s : Setting) (r : List ReadItem) (b : Bool) (x y u v : Option Next) → Follows s r x u → Follows s r y v → Follows s r (if b then x else y) (if b then u else v)
if_follows s r true x y u v e f = e
if_follows s r false x y u v e f = f

-- Frames.

told_on : (count : ℕ) (q r : List ReadItem) (n : ℕ) → AllRead q r → IsTold count q n → IsTold count r n
told_on count q r n h (inl l) = inl l
told_on count q r n h (inr c) = inr (h (object_item n) c)

pub are_told_on : (count : ℕ) (q r : List ReadItem) (fs : List MachineFrame) → AllRead q r → AreTold count q fs → AreTold count r fs
are_told_on count q r [] h t = tt
are_told_on count q r (f ∷ fs) h t = (told_on count q r f.this h t.0, are_told_on count q r fs h t.1)

-- a world that a step leads to, with frames
pub moves_follow : (s : Setting) (r : List ReadItem) (f : MachineFrame) (fs : List MachineFrame) (w v : World) → AreTold s.count r (f ∷ fs) → Moves s r w v
    → Follows s r (Some (goes (record { top = f; below = fs; world = w }))) (Some (goes (record { top = f; below = fs; world = v })))
moves_follow s r f fs w v told m = record {
  grows = m.grows;
  good = (m.good, are_told_on s.count r w.reads (f ∷ fs) m.grows told);
  ys = m.ys;
  is = λ all. ap (λ u. Some (goes (record { top = f; below = fs; world = u }))) (m.is all);
  alike = m.alike;
}

pub abort_follows : (s : Setting) (cause : AbortCause) (w : World) (ys : List Object) → Follows s w.reads (Some (abort cause w)) (Some (abort cause (onto ys w)))
abort_follows s cause w ys = record { grows = all_read_self w.reads; good = tt; ys = ys; is = λ all. refl; alike = λ all. tt }

pub units_follow : (s : Setting) (k : ℕ) (w : World) (ys : List Object) (f g : World → Option Next) → IsGood s.count w
    → ((v : World) → IsGood s.count v → v.objects ≡ w.objects → v.reads ≡ w.reads → Follows s v.reads (f v) (g (onto ys v)))
    → Follows s w.reads (with_units k w f) (with_units k (onto ys w) g)
units_follow s zero w ys f g good h = abort_follows s _ w ys
units_follow s (suc k) w ys f g good h = h (with_unit_taken w k) (record { objects = good.objects; next = good.next; progress = good.progress }) refl refl

-- the same world, with frames
pub same_follows : (s : Setting) (f : MachineFrame) (fs : List MachineFrame) (w : World) (ys : List Object) → IsGood s.count w → HasAlike s w ys → AreTold s.count w.reads (f ∷ fs)
    → Follows s w.reads (Some (goes (record { top = f; below = fs; world = w }))) (Some (goes (record { top = f; below = fs; world = onto ys w })))
same_follows s f fs w ys good alike told = moves_follow s w.reads f fs w (onto ys w) told (moves_self s w ys good alike)

-- a step in a world that something led to
pub world_follows : (s : Setting) (q : List ReadItem) (w v : World) → (m : Moves s q w v) → (f g : World → Option Next) → Follows s w.reads (f w) (g (onto m.ys w)) → Follows s q (f w) (g v)
world_follows s q w v m f g h = follows_on s q w.reads (f w) (g (onto m.ys w)) (g v) m.grows (λ all. ap g (m.is all)) h
