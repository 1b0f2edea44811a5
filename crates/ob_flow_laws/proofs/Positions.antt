-- What holds of receivers, arguments and given fields at their positions.
use Rattle.std.proofs.Common.{◌≡◌, ℕ, zero, suc, ◌<◌, Bool, true, false, List, [], ◌∷◌, Some, None, Contains, refl, sym, subst, arith}
use Rattle.std.specs.Prelude.{◌&&◌, ◌||◌, nat_eq, slice_get, if◌then◌else◌}
use Rattle.std.proofs.lemmas.Bool.{or_parts, or_left, or_right}
use Rattle.ob_perm.specs.Permissions.{is_unowned}
use Rattle.ob_perm.specs.Masks.{permission_of}
use Rattle.ob_silica.specs.declared.place.Given.{Given}
use Rattle.ob_silica_places.specs.Parameters.{Parameter}
use Rattle.ob_silica_places.specs.Places.{Location, this, same_location}
use Rattle.ob_flow_spec.specs.Contexts.{BodyFrame, is_field}
use Rattle.ob_flow_spec.specs.Uses.{Read}
use Rattle.ob_flow_spec.specs.Binding.{wants_owner, is_among, is_given_owning}
use Rattle.ob_flow_spec.specs.Changing.{given_from, given_at, is_given, takes_owner, fills_owner}
use Rattle.ob_flow_laws.specs.Binding.{EachOnceAfter, EachOnce, KeepsFields}
use Rattle.ob_flow_laws.specs.Changing.{FillOnce}
use Rattle.ob_flow_laws.proofs.Tests.{same_number, number_itself}
use Rattle.ob_flow_laws.proofs.Premises.{found_first, contains_first, contains_later}

and_first : (a b : Bool) → (a && b) ≡ false → a ≡ true → b ≡ false
and_first true b h t = h
and_first false b h t = absurd (cc)

-- Receivers and arguments.

-- a place that isn't given to an owner: where it stands, none is wanted
pub none_wanted : (p : Location) (rs : List Read) (ps : List Parameter) → is_given_owning p rs ps ≡ false → (k : ℕ)
    (r : Read) (q : Parameter) → slice_get rs k ≡ Some r → slice_get ps k ≡ Some q → same_location p r.location ≡ true
    → wants_owner q ≡ false
none_wanted p [] ps h k r q e d s = absurd (cc)
none_wanted p (x ∷ rs) [] h k r q e d s = absurd (cc)
none_wanted p (x ∷ rs) (y ∷ ps) h zero r q e d s =
    let t = or_parts (same_location p x.location && wants_owner y) (is_given_owning p rs ps) h in
    let same = subst (λ (z : Read). same_location p z.location ≡ true) (sym (found_first x r e)) s in
    subst (λ z. wants_owner z ≡ false) (found_first y q d)
    (and_first (same_location p x.location) (wants_owner y) t.0 same)
none_wanted p (x ∷ rs) (y ∷ ps) h (suc k) r q e d s =
    let t = or_parts (same_location p x.location && wants_owner y) (is_given_owning p rs ps) h in
    none_wanted p rs ps t.1 k r q e d s

after_before : (owning : Location → Bool) (before rs : List Read) → EachOnceAfter owning before rs → (k : ℕ)
    (r : Read) → slice_get rs k ≡ Some r → is_among r.location before ≡ true → owning r.location ≡ false
after_before owning before [] h k r e a = absurd (cc)
after_before owning before (x ∷ rs) h zero r e a =
    subst (λ (z : Read). owning z.location ≡ false) (found_first x r e)
    (h.0 (subst (λ (z : Read). is_among z.location before ≡ true) (sym (found_first x r e)) a))
after_before owning before (x ∷ rs) h (suc k) r e a =
    let among = or_right (same_location r.location x.location) (is_among r.location before) a in
    after_before owning (x ∷ before) rs h.1 k r e among

once_of_two : (owning : Location → Bool) (before rs : List Read) → EachOnceAfter owning before rs → (j k : ℕ)
    (q r : Read) → j < k → slice_get rs j ≡ Some q → slice_get rs k ≡ Some r
    → same_location r.location q.location ≡ true → owning r.location ≡ false
once_of_two owning before [] h j k q r lt d e s = absurd (cc)
once_of_two owning before (x ∷ rs) h j zero q r lt d e s = absurd (omega arith)
once_of_two owning before (x ∷ rs) h zero (suc k) q r lt d e s =
    let same = subst (λ (z : Read). same_location r.location z.location ≡ true) (sym (found_first x q d)) s in
    let among = or_left (same_location r.location x.location) (is_among r.location before) same in
    after_before owning (x ∷ before) rs h.1 k r e among
once_of_two owning before (x ∷ rs) h (suc j) (suc k) q r lt d e s =
    once_of_two owning (x ∷ before) rs h.1 j k q r (omega arith) d e s

-- of a place that stands twice no owner is wanted
pub twice_not_owning : (rs : List Read) (ps : List Parameter) → EachOnce rs ps → (j k : ℕ) (q r : Read) → j < k
    → slice_get rs j ≡ Some q → slice_get rs k ≡ Some r → same_location r.location q.location ≡ true
    → is_given_owning r.location rs ps ≡ false
twice_not_owning rs ps h j k q r lt d e s = once_of_two (λ p. is_given_owning p rs ps) [] rs h j k q r lt d e s

-- a field that is given to an owner isn't given back
pub not_given_back : (rs : List Read) (ps : List Parameter) → KeepsFields rs ps → (k : ℕ) (r : Read) (p : Parameter)
    → slice_get rs k ≡ Some r → slice_get ps k ≡ Some p → is_field r.location ≡ true → wants_owner p ≡ true
    → is_unowned (permission_of p.exit) ≡ true
not_given_back [] ps h k r p e d f w = absurd (cc)
not_given_back (x ∷ rs) [] h k r p e d f w = absurd (cc)
not_given_back (x ∷ rs) (y ∷ ps) h zero r p e d f w =
    let u = found_first x r e in
    let v = found_first y p d in
    subst (λ (z : Parameter). is_unowned (permission_of z.exit) ≡ true) v
    (h.0 (subst (λ (z : Read). is_field z.location ≡ true) (sym u) f) (subst (λ z. wants_owner z ≡ true) (sym v) w))
not_given_back (x ∷ rs) (y ∷ ps) h (suc k) r p e d f w = not_given_back rs ps h.1 k r p e d f w

-- Given fields.

-- a place that fills a field which wants an owner isn't `this`
pub filled_from_other : (b : BodyFrame) (before xs : List Given) → FillOnce b before xs → (k : ℕ) (x : Given)
    → slice_get xs k ≡ Some x → takes_owner b x ≡ true → same_location (given_from x) this ≡ false
filled_from_other b before [] h k x e t = absurd (cc)
filled_from_other b before (y ∷ ys) h zero x e t =
    let u = found_first y x e in
    subst (λ (z : Given). same_location (given_from z) this ≡ false) u
    (h.0 (subst (λ z. takes_owner b z ≡ true) (sym u) t)).no_this
filled_from_other b before (y ∷ ys) h (suc k) x e t = filled_from_other b (y ∷ before) ys h.1 k x e t

filled_after : (b : BodyFrame) (before xs : List Given) → FillOnce b before xs → (k : ℕ) (x : Given)
    → slice_get xs k ≡ Some x → takes_owner b x ≡ true → fills_owner b (given_from x) before ≡ false
filled_after b before [] h k x e t = absurd (cc)
filled_after b before (y ∷ ys) h zero x e t =
    let u = found_first y x e in
    subst (λ (z : Given). fills_owner b (given_from z) before ≡ false) u
    (h.0 (subst (λ z. takes_owner b z ≡ true) (sym u) t)).fills_none
filled_after b before (y ∷ ys) h (suc k) x e t =
    let later = filled_after b (y ∷ before) ys h.1 k x e t in
    let this_one = same_location (given_from x) (given_from y) && takes_owner b y in
    (or_parts this_one (fills_owner b (given_from x) before) later).1

and_second : (a b : Bool) → (a && b) ≡ false → b ≡ true → a ≡ false
and_second true b h t = absurd (cc)
and_second false b h t = refl

filled_next : (b : BodyFrame) (before xs : List Given) (y : Given) → FillOnce b (y ∷ before) xs → (k : ℕ) (x : Given)
    → slice_get xs k ≡ Some x → takes_owner b x ≡ true → takes_owner b y ≡ true → same_location (given_from x)
    (given_from y) ≡ false
filled_next b before xs y h k x e t w =
    let r = or_parts (same_location (given_from x) (given_from y) && takes_owner b y)
    (fills_owner b (given_from x) before) (filled_after b (y ∷ before) xs h k x e t) in
    and_second (same_location (given_from x) (given_from y)) (takes_owner b y) r.0 w

-- two fields that want an owner are filled from two places
pub filled_from_two : (b : BodyFrame) (before xs : List Given) → FillOnce b before xs → (j k : ℕ) (y x : Given)
    → j < k → slice_get xs j ≡ Some y → slice_get xs k ≡ Some x → takes_owner b y ≡ true → takes_owner b x ≡ true
    → same_location (given_from x) (given_from y) ≡ false
filled_from_two b before [] h j k y x lt d e v w = absurd (cc)
filled_from_two b before (z ∷ zs) h j zero y x lt d e v w = absurd (omega arith)
filled_from_two b before (z ∷ zs) h zero (suc k) y x lt d e v w =
    let u = found_first z y d in
    subst (λ (i : Given). same_location (given_from x) (given_from i) ≡ false) u
    (filled_next b before zs z h.1 k x e w (subst (λ i. takes_owner b i ≡ true) (sym u) v))
filled_from_two b before (z ∷ zs) h (suc j) (suc k) y x lt d e v w =
    filled_from_two b (z ∷ before) zs h.1 j k y x (omega arith) d e v w

none_first : (f : ℕ) (x : Given) (xs : List Given) → (given_at f xs ≡ None → is_given f xs ≡ false) → (c : Bool)
    → nat_eq x.field.0 f ≡ c → (if c then Some x else given_at f xs) ≡ None → (c || is_given f xs) ≡ false
none_first f x xs go true d e = absurd (cc)
none_first f x xs go false d e = go e

-- a field of which no given one is found isn't given
pub none_given : (f : ℕ) (xs : List Given) → given_at f xs ≡ None → is_given f xs ≡ false
none_given f [] e = refl
none_given f (x ∷ xs) e = none_first f x xs (none_given f xs) (nat_eq x.field.0 f) refl e

found_given : (f : ℕ) (x : Given) (xs : List Given)
    → (is_given f xs ≡ true → (y : Given) × Contains xs y × (y.field.0 ≡ f)) → (c : Bool) → nat_eq x.field.0 f ≡ c
    → (c || is_given f xs) ≡ true → (y : Given) × Contains (x ∷ xs) y × (y.field.0 ≡ f)
found_given f x xs go true d h = (x, contains_first x xs, same_number x.field.0 f d)
found_given f x xs go false d h = let r = go h in (r.0, contains_later x xs r.0 r.1, r.2)

-- a field that is given stands among the given ones
pub given_is_there : (f : ℕ) (xs : List Given) → is_given f xs ≡ true → (x : Given) × Contains xs x × (x.field.0 ≡ f)
given_is_there f [] h = absurd (cc)
given_is_there f (x ∷ xs) h = found_given f x xs (given_is_there f xs) (nat_eq x.field.0 f) refl h

-- and the other way round
pub there_is_given : (xs : List Given) (x : Given) → Contains xs x → is_given x.field.0 xs ≡ true
there_is_given [] x c = absurd (let l = c.1 in omega arith)
there_is_given (y ∷ ys) x (zero, l, e) =
    or_left (nat_eq y.field.0 x.field.0) (is_given x.field.0 ys)
    (subst (λ (z : Given). nat_eq z.field.0 x.field.0 ≡ true) (sym e) (number_itself x.field.0))
there_is_given (y ∷ ys) x (suc k, l, e) =
    or_right (nat_eq y.field.0 x.field.0) (is_given x.field.0 ys) (there_is_given ys x (k, omega arith, e))
