-- The rows of a pass: each says of each slot what two ways to its place both hold there, and what is so on all.
use Rattle.std.proofs.Common.{◌≡◌, ℕ, ◌<◌, List, [], ◌∷◌, length, Option, Some, None, true, slice_set, Contains, refl, sym, ap, ◌∙◌, subst, inl, inr}
use Rattle.std.proofs.lemmas.Bool.Decides.{eqb_tells}
use Rattle.ob_table.specs.declared.seen.Kind.{Kind}
use Rattle.ob_code.specs.declared.image.Image.{Image}
use Rattle.ob_code.specs.declared.instruction.Instruction.{Instruction}
use Rattle.ob_verify_spec.specs.Frames.{CodeFrame}
use Rattle.ob_verify_spec.specs.Instructions.{KindsOfSlots, Effect, keeps, sets, copies, set_slot, done, effect, leads}
use Rattle.ob_verify_spec.specs.Conditions.{may_go_on}
use Rattle.ob_verify_spec.specs.Ways.{IsAt, Way, step, IsReached}
use Rattle.ob_verify_spec.specs.Passing.{held_at, KindRow, KindRows, row_after, joined, put_row, put_rows, meet}
use Rattle.ob_verify_spec.proofs.Listed.{not_empty, head, behind, cases}
use Rattle.ob_verify_spec.proofs.Cells.{cell-set_same, cell-set_other, set-length, cell_within, some_same, none_some, cell-meet, meet-length}
use Rattle.ob_verify_spec.proofs.Meeting.{HoldsOne, holds_all, both_left, both_right, belongs_self, Two, two_one, two_meet}
use Rattle.ob_verify_spec.proofs.Naming.{EffectFits, effect_fits, goes_names}

-- where the first says what a slot holds, the second holds that kind or one that belongs to it
pub record Below (m : Image) (f g : KindsOfSlots) : Type 0 where
  pub keeps : (k : ℕ) (x : Kind) → f k ≡ Some x → HoldsOne m (g k) x

pub below_self : (m : Image) (f : KindsOfSlots) → Below m f f
below_self m f = record { keeps = λ k x e. (x, e, belongs_self m x) }

pub below_all : {m : Image} {f g h : KindsOfSlots} → Below m f g → Below m g h → Below m f h
below_all {m} {f} {g} {h} a b = record { keeps = λ k x e. let w = a.keeps k x e in holds_all m (h k) w.0 x (b.keeps k w.0 w.1) w.2 }

-- there is a row for a place, and what it says of slots is so of these
pub record Has (m : Image) (t : KindRows) (j : ℕ) (s : KindsOfSlots) : Type 0 where
  pub row : KindRow
  pub there : held_at t j ≡ Some row
  pub below : Below m (held_at row) s

-- a slot holds this on some way to a place
abbrev pub OnSomeWay : CodeFrame → ℕ → ℕ → Option Kind → Type 0
OnSomeWay f j k o = (s : KindsOfSlots) × Way f j s × (s k ≡ o)

-- some way leads to a place, and of each slot a row says what two ways both hold
pub record GoodRow (f : CodeFrame) (j : ℕ) (r : KindRow) : Type 0 where
  pub reached : IsReached f j
  pub long : length r ≡ f.body.slots
  pub two : (k : ℕ) → k < f.body.slots → Two f.image (OnSomeWay f j k) (held_at r k)

-- each row is such a one
abbrev pub AllGood : CodeFrame → KindRows → Type 0
AllGood f t = (j : ℕ) (r : KindRow) → held_at t j ≡ Some r → GoodRow f j r

-- One more way leads to a place.

pub joined_new : (m : Image) (o : Option KindRow) (r : KindRow) → Below m (held_at (joined m o r)) (held_at r)
joined_new m None r = below_self m (held_at r)
joined_new m (Some known) r = record { keeps = λ k x e. both_right m (held_at known k) (held_at r k) x (sym (cell-meet m known r k) ∙ e) }

pub joined_known : (m : Image) (o : Option KindRow) (known r : KindRow) → o ≡ Some known → Below m (held_at (joined m o r)) (held_at known)
joined_known m None known r e = absurd (none_some e)
joined_known m (Some p) known r e =
    subst (λ z. Below m (held_at (meet m p r)) (held_at z)) (some_same e) (record { keeps = λ k x w. both_left m (held_at p k) (held_at r k) x (sym (cell-meet m p r k) ∙ w) })

pub put_row-length : (m : Image) (t : KindRows) (j : ℕ) (r : KindRow) → length (put_row m t j r) ≡ length t
put_row-length m t j r = set-length t j (Some (joined m (held_at t j) r))

pub put_rows-length : (m : Image) (t : KindRows) (js : List ℕ) (r : KindRow) → length (put_rows m t js r) ≡ length t
put_rows-length m t [] r = refl
put_rows-length m t (j ∷ js) r = put_rows-length m (put_row m t j r) js r ∙ put_row-length m t j r

has_new : (m : Image) (t : KindRows) (j : ℕ) (r : KindRow) → j < length t → Has m (put_row m t j r) j (held_at r)
has_new m t j r lt = record { row = joined m (held_at t j) r; there = cell-set_same t j (Some (joined m (held_at t j) r)) lt; below = joined_new m (held_at t j) r }

has_kept : (m : Image) (t : KindRows) (j h : ℕ) (r : KindRow) (s : KindsOfSlots) → Has m t h s → Has m (put_row m t j r) h s
has_kept m t j h r s a = elim (eqb_tells h j) [
  | inl w ↦ let e : held_at t j ≡ Some a.row = ap (held_at t) (sym w.1) ∙ a.there in
      let there = ap (held_at (put_row m t j r)) w.1 ∙ cell-set_same t j (Some (joined m (held_at t j) r)) (cell_within t j a.row e) in
      record { row = joined m (held_at t j) r; there = there; below = below_all (joined_known m (held_at t j) a.row r e) a.below }
  | inr w ↦ record { row = a.row; there = cell-set_other t j h (Some (joined m (held_at t j) r)) w.1 ∙ a.there; below = a.below }
]

pub has_puts : (m : Image) (t : KindRows) (js : List ℕ) (h : ℕ) (r : KindRow) (s : KindsOfSlots) → Has m t h s → Has m (put_rows m t js r) h s
has_puts m t [] h r s a = a
has_puts m t (j ∷ js) h r s a = has_puts m (put_row m t j r) js h r s (has_kept m t j h r s a)

-- each place to which the row was put has one that says no more
pub has_put : (m : Image) (t : KindRows) (js : List ℕ) (j : ℕ) (r : KindRow) → j < length t → Contains js j → Has m (put_rows m t js r) j (held_at r)
has_put m t [] j r lt c = absurd (not_empty j c)
has_put m t (x ∷ js) j r lt c = elim (cases x j js c) [
  | inl e ↦ has_puts m (put_row m t x r) js j r (held_at r) (subst (λ z. Has m (put_row m t z r) j (held_at r)) (sym e) (has_new m t j r lt))
  | inr h ↦ has_put m (put_row m t x r) js j r (subst (λ z. j < z) (sym (put_row-length m t x r)) lt) h
]

pub good_joined : (f : CodeFrame) (j : ℕ) (o : Option KindRow) (r : KindRow) → ((known : KindRow) → o ≡ Some known → GoodRow f j known) → GoodRow f j r → GoodRow f j (joined f.image o r)
good_joined f j None r all g = g
good_joined f j (Some known) r all g = let a = all known refl in record {
  reached = g.reached;
  long = meet-length f.image known r ∙ a.long;
  two = λ k lt. subst (Two f.image (OnSomeWay f j k)) (sym (cell-meet f.image known r k)) (two_meet f.image (OnSomeWay f j k) (held_at known k) (held_at r k) (a.two k lt) (g.two k lt));
}

good_put : (f : CodeFrame) (t : KindRows) (j : ℕ) (r : KindRow) → AllGood f t → GoodRow f j r → AllGood f (put_row f.image t j r)
good_put f t j r all g h l e = elim (eqb_tells h j) [
  | inl w ↦ let lt : j < length t = subst (λ z. z < length t) w.1 (subst (λ z. h < z) (put_row-length f.image t j r) (cell_within (put_row f.image t j r) h l e)) in
      let same : joined f.image (held_at t j) r ≡ l = some_same (sym (cell-set_same t j (Some (joined f.image (held_at t j) r)) lt) ∙ ap (held_at (put_row f.image t j r)) (sym w.1) ∙ e) in
      subst (GoodRow f h) same (subst (λ z. GoodRow f z (joined f.image (held_at t j) r)) (sym w.1) (good_joined f j (held_at t j) r (λ known a. all j known a) g))
  | inr w ↦ all h l (sym (cell-set_other t j h (Some (joined f.image (held_at t j) r)) w.1) ∙ e)
]

pub good_puts : (f : CodeFrame) (t : KindRows) (js : List ℕ) (r : KindRow) → AllGood f t → ((j : ℕ) → Contains js j → GoodRow f j r) → AllGood f (put_rows f.image t js r)
good_puts f t [] r all g = all
good_puts f t (j ∷ js) r all g = good_puts f (put_row f.image t j r) js r (good_put f t j r all (g j (head j js))) (λ h c. g h (behind j h js c))

-- After an effect.

set_both : (m : Image) (r : KindRow) (s : KindsOfSlots) (k j : ℕ) (v w : Option Kind) (x : Kind) → Below m (held_at r) s → (v ≡ Some x → HoldsOne m w x) → held_at (slice_set r k v) j ≡ Some x
    → HoldsOne m (set_slot k w s j) x
set_both m r s k j v w x a f e = elim (eqb_tells j k) [
  | inl u ↦ let lt : k < length r = subst (λ z. z < length r) u.1 (subst (λ z. j < z) (set-length r k v) (cell_within (slice_set r k v) j x e)) in
      rw u.0 (f (sym (cell-set_same r k v lt) ∙ ap (held_at (slice_set r k v)) (sym u.1) ∙ e))
  | inr u ↦ rw u.0 (a.keeps j x (sym (cell-set_other r k j v u.1) ∙ e))
]

-- an effect keeps the order
pub below_after : (m : Image) (e : Effect) (r : KindRow) (s : KindsOfSlots) → Below m (held_at r) s → Below m (held_at (row_after e r)) (done e s)
below_after m keeps r s a = a
below_after m (sets k v) r s a = record { keeps = λ j x e. set_both m r s k j v v x a (λ w. (x, w, belongs_self m x)) e }
below_after m (copies k a) r s w = record { keeps = λ j x e. set_both m r s k j (held_at r a) (s a) x w (w.keeps a x) e }

pub after-length : (e : Effect) (r : KindRow) → length (row_after e r) ≡ length r
after-length keeps r = refl
after-length (sets k v) r = set-length r k v
after-length (copies k a) r = set-length r k (held_at r a)

-- what a slot holds on some way after an effect
abbrev AfterSomeWay : CodeFrame → ℕ → Effect → ℕ → Option Kind → Type 0
AfterSomeWay f i e k o = (s : KindsOfSlots) × Way f i s × (done e s k ≡ o)

two_to : (m : Image) (P Q : Option Kind → Type 0) (r : Option Kind) → ((o : Option Kind) → P o → Q o) → Two m P r → Two m Q r
two_to m P Q r to h = (h.0, h.1, to h.0 h.2, to h.1 h.3, h.4)

-- what the row after an instruction says of a slot, two ways through it both hold
two_set : {f : CodeFrame} (i : ℕ) (r : KindRow) (j k : ℕ) (v : Option Kind) (w : KindsOfSlots → Option Kind) → GoodRow f i r → j < f.body.slots
    → Two f.image (λ o. (s : KindsOfSlots) × Way f i s × (w s ≡ o)) v → Two f.image (λ o. (s : KindsOfSlots) × Way f i s × (set_slot k (w s) s j ≡ o)) (held_at (slice_set r k v) j)
two_set {f} i r j k v w g lt h = elim (eqb_tells j k) [
  | inl u ↦ let lk : k < length r = subst (λ z. z < length r) u.1 (subst (λ z. j < z) (sym g.long) lt) in
      let same : v ≡ held_at (slice_set r k v) j = sym (ap (held_at (slice_set r k v)) u.1 ∙ cell-set_same r k v lk) in
      subst (Two f.image (λ o. (s : KindsOfSlots) × Way f i s × (set_slot k (w s) s j ≡ o))) same
      (two_to f.image (λ o. (s : KindsOfSlots) × Way f i s × (w s ≡ o)) (λ o. (s : KindsOfSlots) × Way f i s × (set_slot k (w s) s j ≡ o)) v (λ o a. (a.0, a.1, rw u.0 a.2)) h)
  | inr u ↦
      subst (Two f.image (λ o. (s : KindsOfSlots) × Way f i s × (set_slot k (w s) s j ≡ o))) (sym (cell-set_other r k j v u.1))
      (two_to f.image (OnSomeWay f i j) (λ o. (s : KindsOfSlots) × Way f i s × (set_slot k (w s) s j ≡ o)) (held_at r j) (λ o a. (a.0, a.1, rw u.0 a.2)) (g.two j lt))
]

two_after : {f : CodeFrame} (i : ℕ) (e : Effect) (r : KindRow) → EffectFits f.body.slots e → GoodRow f i r → (j : ℕ) → j < f.body.slots
    → Two f.image (AfterSomeWay f i e j) (held_at (row_after e r) j)
two_after i keeps r w g j lt = g.two j lt
two_after {f} i (sets k v) r w g j lt = two_set i r j k v (λ s. v) g lt (two_one f.image (λ o. (s : KindsOfSlots) × Way f i s × (v ≡ o)) v (g.reached.0, g.reached.1, refl))
two_after i (copies k a) r w g j lt = two_set i r j k (held_at r a) (λ s. s a) g lt (g.two a w)

pub good_after : (f : CodeFrame) (i j : ℕ) (x : Instruction) (r : KindRow) → IsAt f i x → may_go_on f i x ≡ true → Contains (leads i x) j → GoodRow f i r → GoodRow f j (row_after (effect f x) r)
good_after f i j x r at so c g = record {
  reached = (done (effect f x) g.reached.0, step x j g.reached.1 at so c);
  long = after-length (effect f x) r ∙ g.long;
  two = λ k lt.
      two_to f.image (AfterSomeWay f i (effect f x) k) (OnSomeWay f j k) (held_at (row_after (effect f x) r) k) (λ o a. (done (effect f x) a.0, step x j a.1 at so c, a.2))
      (two_after i (effect f x) r (effect_fits f x (goes_names f i x so)) g k lt);
}
