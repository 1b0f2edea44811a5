-- Objects that aren't the same differ as plain data, too.
use Rattle.std.proofs.Common.{◌≡◌, ℕ, zero, suc, ◌<◌, ◌≤◌, Bool, true, false, List, [], ◌∷◌, ◌++◌, length, Option, None, Some, Result, Ok, Err, refl, sym, ap, subst, ◌∙◌, true≢false, arith, append_assoc}
use Rattle.std.specs.Prelude.{nat_eq, nat_lt, not, slice_get, OnOk, if◌then◌else◌}
use Rattle.std.specs.Option.{option_map}
use Rattle.std.proofs.lemmas.List.Elements.{All-nil, All-push, All-append, All-from_recursion}
use Rattle.std.specs.List.{AllByRecursion}
use Rattle.ob_base.specs.declared.id.FieldId.{FieldId}
use Rattle.ob_base.specs.declared.id.ObjectId.{ObjectId}
use Rattle.ob_heap_spec.specs.Values.{Value as PlainValue, int_value, bool_value, text_value, reference}
use Rattle.ob_heap_spec.specs.Objects.{Object as PlainObject}
use Rattle.ob_heap.specs.declared.value.Value.{Value}
use Rattle.ob_heap.specs.declared.value.Value.TheVariants.{Int, Bool as Truth, Text, Object as Reference}
use Rattle.ob_heap.specs.declared.object.Object.{Object}
use Rattle.ob_heap.specs.Ascending.{IsBelowAll, IsAscending}
use Rattle.ob_heap.specs.Fields.{value_at}
use Rattle.ob_heap.specs.Plain.{value_of, fields_of, object_of}
use Rattle.ob_heap.specs.Differences.{same_object, is_other, other_objects, numbered_from, AreOthers}
use Rattle.ob_heap.proofs.DifferencesLemmas.{object_Decides}

abbrev number : FieldId × Value → ℕ
number e = e.0.0

-- Values.

back : PlainValue → Value
back (int_value z) = Int z
back (bool_value b) = Truth b
back (text_value bytes) = Text bytes
back (reference n) = Reference (record { 0 = n })

value_back : (v : Value) → back (value_of v) ≡ v
unfolding back
value_back (Int z) = refl
value_back (Truth b) = refl
value_back (Text bytes) = refl
value_back (Reference id) = refl

option_back : (r : Option Value) → option_map back (option_map value_of r) ≡ r
option_back None = refl
option_back (Some v) = ap Some (value_back v)

same_values : (a b : Option Value) → option_map value_of a ≡ option_map value_of b → a ≡ b
same_values a b e = sym (option_back a) ∙ ap (option_map back) e ∙ option_back b

-- Fields whose numbers ascend are told by their values.

abbrev SameAtEach : List (FieldId × Value) → List (FieldId × Value) → Type 0
SameAtEach xs ys = (k : FieldId) → value_at k xs ≡ value_at k ys

apart : (m k : ℕ) → k < m → nat_eq m k ≡ false
apart m k l = grind arith

itself : (n : ℕ) → nat_eq n n ≡ true
itself n = grind arith

below_none : (n : ℕ) (k : FieldId) (es : List (FieldId × Value)) → k.0 ≤ n → IsBelowAll number n es → value_at k es ≡ None
below_none n k [] l b = refl
below_none n k (e ∷ es) l b =
    let h = b.0 in
    ap (λ t. if t then Some e.1 else value_at k es) (apart e.0.0 k.0 (omega arith)) ∙ below_none n k es l b.1

here : (e : FieldId × Value) (es : List (FieldId × Value)) → value_at e.0 (e ∷ es) ≡ Some e.1
here e es = ap (λ t. if t then Some e.1 else value_at e.0 es) (itself e.0.0)

below_lower : (m n : ℕ) (es : List (FieldId × Value)) → m < n → IsBelowAll number n es → IsBelowAll number m es
below_lower m n [] h below = tt
below_lower m n (y ∷ es) h below = let a = below.0 in (omega arith, below_lower m n es h below.1)

-- a field below all of these has no value among them
lost : (k : FieldId) (v : Value) (y : FieldId × Value) (ys : List (FieldId × Value)) → k.0 < y.0.0 → IsBelowAll number y.0.0 ys → Some v ≡ value_at k (y ∷ ys) → ⊥
lost k v y ys l below e =
    let none : value_at k (y ∷ ys) ≡ None = below_none k.0 k (y ∷ ys) (omega arith) (l, below_lower k.0 y.0.0 ys l below) in
    let all : ◌≡◌ {A = Option Value} (Some v) None = e ∙ none in cc

is_below : (m n : ℕ) → nat_lt m n ≡ true → m < n
is_below m n e = grind arith

is_equal : (m n : ℕ) → nat_lt m n ≡ false → nat_lt n m ≡ false → m ≡ n
is_equal m n e f = grind arith

some_is : (v w : Value) → ◌≡◌ {A = Option Value} (Some v) (Some w) → v ≡ w
some_is v w e = cc

-- behind a field that is the same the others have the same values
rest_same : (x y : FieldId × Value) (xs ys : List (FieldId × Value)) → IsBelowAll number x.0.0 xs → IsBelowAll number y.0.0 ys → SameAtEach (x ∷ xs) (y ∷ ys) → x ≡ y
    → SameAtEach xs ys
rest_same x y xs ys a b h e k = at (nat_eq x.0.0 k.0) refl
  where
    equal : (m n : ℕ) → nat_eq m n ≡ true → n ≤ m
    equal m n g = grind arith

    at : (t : Bool) → nat_eq x.0.0 k.0 ≡ t → value_at k xs ≡ value_at k ys
    at true f =
        let s : k.0 ≤ x.0.0 = equal x.0.0 k.0 f in
        below_none x.0.0 k xs s a ∙ sym (below_none x.0.0 k ys s (subst (λ (z : FieldId × Value). IsBelowAll number z.0.0 ys) (sym e) b))
    at false f =
        sym (ap (λ (t : Bool). if t then Some x.1 else value_at k xs) f) ∙ h k
        ∙ ap (λ (t : Bool). if t then Some y.1 else value_at k ys) (sym (ap (λ (z : FieldId × Value). nat_eq z.0.0 k.0) e) ∙ f)

field_same : (x y : FieldId × Value) (xs ys : List (FieldId × Value)) → IsBelowAll number x.0.0 xs → IsBelowAll number y.0.0 ys → SameAtEach (x ∷ xs) (y ∷ ys) → x ≡ y
field_same x y xs ys a b h = by (nat_lt x.0.0 y.0.0) (nat_lt y.0.0 x.0.0) refl refl
  where
    by : (p q : Bool) → nat_lt x.0.0 y.0.0 ≡ p → nat_lt y.0.0 x.0.0 ≡ q → x ≡ y
    by true q e f = absurd (lost x.0 x.1 y ys (is_below x.0.0 y.0.0 e) b (sym (here x xs) ∙ h x.0))
    by false true e f = absurd (lost y.0 y.1 x xs (is_below y.0.0 x.0.0 f) a (sym (here y ys) ∙ sym (h y.0)))
    by false false e f =
        let n : x.0.0 ≡ y.0.0 = is_equal x.0.0 y.0.0 e f in
        let v : x.1 ≡ y.1 = some_is x.1 y.1 (sym (here x xs) ∙ h x.0 ∙ ap (λ (k : ℕ). value_at (record { 0 = k }) (y ∷ ys)) n ∙ here y ys) in
        ap (λ (k : ℕ). (record { 0 = k }, x.1)) n ∙ ap (λ (w : Value). (y.0, w)) v

told : (xs ys : List (FieldId × Value)) → IsAscending number xs → IsAscending number ys → SameAtEach xs ys → xs ≡ ys
told [] [] a b h = refl
told [] (y ∷ ys) a b h = let all : ◌≡◌ {A = Option Value} None (Some y.1) = h y.0 ∙ here y ys in absurd cc
told (x ∷ xs) [] a b h = let all : ◌≡◌ {A = Option Value} (Some x.1) None = sym (here x xs) ∙ h x.0 in absurd cc
told (x ∷ xs) (y ∷ ys) a b h =
    let s = field_same x y xs ys a.0 b.0 h in
    ap (λ (z : FieldId × Value). z ∷ xs) s ∙ ap (λ zs. y ∷ zs) (told xs ys a.1 b.1 (rest_same x y xs ys a.0 b.0 h s))

fields_told : (xs ys : List (FieldId × Value)) → IsAscending number xs → IsAscending number ys → fields_of xs ≡ fields_of ys → xs ≡ ys
fields_told xs ys a b e = told xs ys a b (λ k. same_values (value_at k xs) (value_at k ys) (ap (λ f. f k.0) e))

-- objects that differ do so as plain data
pub differ_told : (a b : Object) → IsAscending number a.fields → IsAscending number b.fields → not (same_object a b) ≡ true → ¬ (object_of a ≡ object_of b)
differ_told a b h k d e =
    let same : a ≡ b = object_told a b (fields_told a.fields b.fields h k (ap (λ (o : PlainObject). o.fields) e)) e in
    true≢false (sym d ∙ ap not ((object_Decides a b).1 same))
  where
    object_told : (x y : Object) → x.fields ≡ y.fields → object_of x ≡ object_of y → x ≡ y
    object_told x y f g =
        ap (λ c. record x { contract = c }) (ap (λ (o : PlainObject). o.contract) g)
        ∙ ap (λ s. record x { contract = y.contract; state = s }) (ap (λ (o : PlainObject). o.state) g)
        ∙ ap (λ t. record x { contract = y.contract; state = y.state; shared = t }) (ap (λ (o : PlainObject). o.shared) g)
        ∙ ap (λ t. record x { contract = y.contract; state = y.state; shared = y.shared; disowned = t }) (ap (λ (o : PlainObject). o.disowned) g)
        ∙ ap (λ fs. record y { fields = fs }) f

-- What is found to differ.

pub other_turn : (base : List Object) (e : ℕ × Object) (es : List (ℕ × Object)) (found new all : List (ObjectId × Object)) → new ≡ found ++ other_objects base (e ∷ [])
    → found ++ other_objects base (e ∷ es) ≡ all → new ++ other_objects base es ≡ all
other_turn base e es found new all is h =
    ap (λ xs. xs ++ other_objects base es) is ∙ append_assoc found (other_objects base (e ∷ [])) (other_objects base es)
    ∙ ap (λ xs. found ++ xs) (by (is_other base e.0 e.1)) ∙ h
  where
    by : (b : Bool) → (if b then (record { 0 = e.0 }, e.1) ∷ [] else []) ++ other_objects base es
        ≡ (if b then (record { 0 = e.0 }, e.1) ∷ other_objects base es else other_objects base es)
    by true = refl
    by false = refl

pub others_onward : {E : Type 0} (r : Result (Unit {0}) E) (base : List Object) (a b c : List (ObjectId × Object)) → (AreOthers base a → AreOthers base b)
    → OnOk r (AreOthers base b → AreOthers base c) → OnOk r (AreOthers base a → AreOthers base c)
others_onward (Err u) base a b c f g = tt
others_onward (Ok u) base a b c f g = λ h. g (f h)

pub other_none : (base : List Object) → AreOthers base []
other_none base = All-nil (λ (e : ObjectId × Object). ¬ (option_map object_of (slice_get base e.0.0) ≡ Some (object_of e.1)))

past : (xs : List Object) (m : ℕ) → length xs ≤ m → slice_get xs m ≡ None
past [] m l = refl
past (x ∷ xs) zero l = absurd (omega arith)
past (x ∷ xs) (suc m) l = past xs m (omega arith)

made_each : (base : List Object) (n : ℕ) (os : List Object) → length base ≤ n
    → AllByRecursion (λ (e : ObjectId × Object). ¬ (option_map object_of (slice_get base e.0.0) ≡ Some (object_of e.1))) (numbered_from n os)
made_each base n [] l = tt
made_each base n (o ∷ os) l = (
  (λ e. let none : ◌≡◌ {A = Option PlainObject} None (Some (object_of o)) = sym (ap (option_map object_of) (past base n l)) ∙ e in cc),
  made_each base (suc n) os (omega arith),
)

made_are_others : (base : List Object) (n : ℕ) (os : List Object) → length base ≤ n → AreOthers base (numbered_from n os)
made_are_others base n os h =
    All-from_recursion (λ (e : ObjectId × Object). ¬ (option_map object_of (slice_get base e.0.0) ≡ Some (object_of e.1))) (numbered_from n os) (made_each base n os h)

pub others_made : (base : List Object) (found all : List (ObjectId × Object)) (n : ℕ) (os : List Object) → length base ≤ n → all ≡ found ++ numbered_from n os
    → AreOthers base found → AreOthers base all
others_made base found all n os l is h =
    subst (AreOthers base) (sym is)
    (All-append (λ (e : ObjectId × Object). ¬ (option_map object_of (slice_get base e.0.0) ≡ Some (object_of e.1))) found (numbered_from n os) h (made_are_others base n os l))
