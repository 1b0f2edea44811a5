-- What is known where a body begins.
use Rattle.std.proofs.Common.{◌≡◌, ℕ, zero, suc, ◌+◌, ◌<◌, ◌≤◌, ⊎_elim, List, [], ◌∷◌, ◌++◌, length, map, take, get_or, Option, Some, None, Bool, true, false, ◌&&◌, nat_eq, nat_lt, cond, refl, sym, ap, ◌∙◌, subst, arith, add-one, append_assoc, lt-ltb, le-ltb, length-append}
use Rattle.std.specs.Prelude.{slice_get, option_map, if◌then◌else◌}
use Rattle.std.specs.Option.{option_flatten}
use Rattle.std.proofs.Math.Path.{fun_ext}
use Rattle.std.proofs.Math.Seq.{take-suc}
use Rattle.std.proofs.Math.Dec.{eqb-suc-zero, eqb-suc-suc}
use Rattle.std.proofs.lemmas.Bool.{cases_lt, eq-eqb, ne_eqb}
use Rattle.std.proofs.lemmas.List.{take_all}
use Rattle.std.proofs.lemmas.Option.{slice_get_past}
use Rattle.ob_table.specs.declared.contract.Param.{Param}
use Rattle.ob_silica_places.specs.Known.{Known}
use Rattle.ob_silica_places.specs.Places.{Location, slot, field}
use Rattle.ob_flow_spec.specs.Contexts.{BodyFrame, field_count, known_as, params_known, this_known, field_known, beginning}
use Rattle.ob_flow_context.specs.declared.context.Known.{Known as KnownOfPlace}
use Rattle.ob_flow_context.specs.View.{known_of, all_known, known_at, context_of}

-- Parameters.

-- what is known of parameters, one after another
abbrev pub params_in_order : List Param → List (Option Known)
params_in_order ps = map (λ (p : Param). Some (known_as p.of)) ps

map_append : {A B : Type 0} (f : A → B) (xs ys : List A) → map f (xs ++ ys) ≡ map f xs ++ map f ys
map_append f [] ys = refl
map_append f (x ∷ xs) ys = ap (λ zs. f x ∷ zs) (map_append f xs ys)

pub all_known-push : (ks : List (Option KnownOfPlace)) (k : Option KnownOfPlace)
    → all_known (ks ++ k ∷ []) ≡ all_known ks ++ option_map known_of k ∷ []
all_known-push ks k = map_append (λ x. option_map known_of x) ks (k ∷ [])

pub params_turn : (before now next : List (Option Known)) (ps : List Param) (i : ℕ) (p : Param) → i < length ps → p ≡ get_or ps i p
    → now ≡ before ++ params_in_order (take i ps)
    → next ≡ now ++ Some (known_as p.of) ∷ []
    → next ≡ before ++ params_in_order (take (i + 1) ps)
params_turn before now next ps i p h is e n = rw add-one
    (n ∙ ap (λ xs. xs ++ Some (known_as p.of) ∷ []) e
    ∙ append_assoc before (params_in_order (take i ps)) (Some (known_as p.of) ∷ [])
    ∙ ap (λ xs. before ++ xs) (sym (map_append (λ (q : Param). Some (known_as q.of)) (take i ps) (p ∷ []))
    ∙ ap params_in_order (sym (take-suc ps i p h ∙ ap (λ x. take i ps ++ x ∷ []) (sym is)))))

params_at : (n : ℕ) (ps : List Param) (k : ℕ) → option_flatten (slice_get (params_in_order ps) k) ≡ params_known n ps (n + k)
params_at n [] k = refl
params_at n (p ∷ ps) zero = ap (λ b. if b then Some (known_as p.of) else params_known (n + 1) ps (n + 0)) (sym (eq-eqb (n + 0) n (omega arith)))
params_at n (p ∷ ps) (suc k) = params_at (n + 1) ps k
    ∙ ap (params_known (n + 1) ps) (omega arith)
    ∙ ap (λ b. if b then Some (known_as p.of) else params_known (n + 1) ps (n + suc k)) (sym (ne_eqb (n + suc k) n (λ e. omega (arith, e))))

-- the slots that represent `this` and the parameters
pub slots_begin : (b : BodyFrame) (slots : List (Option KnownOfPlace))
    → all_known slots ≡ Some (this_known b) ∷ params_in_order b.signature.params
    → known_at slots ≡ (λ k. beginning b (slot k))
unfolding known_at
slots_begin b slots e = fun_ext (λ k. ap (λ ks. option_flatten (slice_get ks k)) e ∙ by k)
  where
    by : (k : ℕ) → option_flatten (slice_get (Some (this_known b) ∷ params_in_order b.signature.params) k) ≡ beginning b (slot k)
    by zero = refl
    by (suc k) = params_at 1 b.signature.params k ∙ ap (params_known 1 b.signature.params) (omega arith)
        ∙ ap (λ c. if c then Some (this_known b) else params_known 1 b.signature.params (suc k)) (sym (eqb-suc-zero k))

pub slots_made : (b : BodyFrame) (slots before start : List (Option KnownOfPlace)) (k : KnownOfPlace) (ps : List Param)
    → start ≡ [] → before ≡ start ++ Some k ∷ [] → known_of k ≡ this_known b → ps ≡ b.signature.params
    → all_known slots ≡ all_known before ++ params_in_order ps
    → known_at slots ≡ (λ n. beginning b (slot n))
slots_made b slots before start k ps s p t is e = slots_begin b slots (e
    ∙ ap (λ xs. all_known xs ++ params_in_order ps) (p ∙ ap (λ xs. xs ++ Some k ∷ []) s)
    ∙ ap (λ x. Some x ∷ params_in_order ps) t
    ∙ ap (λ qs. Some (this_known b) ∷ params_in_order qs) is)

-- Fields.

-- the first things of all, and then nothing
abbrev pub first : ℕ → (ℕ → Option Known) → ℕ → Option Known
first n g = λ k. if nat_lt k n then g k else None

pub first_none : (g : ℕ → Option Known) → known_at [] ≡ first 0 g
unfolding known_at
first_none g = fun_ext (λ k. ap (λ b. if b then g k else None) (sym (le-ltb k 0 (omega arith))))

abbrev in_list : List (Option Known) → ℕ → Option Known
in_list ks k = option_flatten (slice_get ks k)

pushed : (ks : List (Option Known)) (x : Option Known) (k : ℕ)
    → in_list (ks ++ x ∷ []) k ≡ (if nat_eq k (length ks) then x else in_list ks k)
pushed [] x zero = refl
pushed [] x (suc k) = sym (ap (λ b. if b then x else None) (eqb-suc-zero k))
pushed (y ∷ ks) x zero = sym (ap (λ b. if b then x else y) (ne_eqb 0 (suc (length ks)) (λ e. omega (arith, e))))
pushed (y ∷ ks) x (suc k) = pushed ks x k
    ∙ sym (ap (λ b. if b then x else in_list ks k) (eqb-suc-suc k (length ks)))

one_more : (g : ℕ → Option Known) (n k : ℕ) (h : ℕ → Option Known) → h k ≡ first n g k
    → (if nat_eq k n then g n else h k) ≡ first (n + 1) g k
one_more g n k h e = ⊎_elim
    (λ below. ap (λ b. if b then g n else h k) (ne_eqb k n (λ s. omega (arith, s, below))) ∙ e
    ∙ ap (λ b. if b then g k else None) (lt-ltb k n below ∙ sym (lt-ltb k (n + 1) (omega (arith, below)))))
    (λ above. ⊎_elim
    (λ more. ap (λ b. if b then g n else h k) (ne_eqb k n (λ s. omega (arith, s, more))) ∙ e
    ∙ ap (λ b. if b then g k else None) (le-ltb k n (omega (arith, more)) ∙ sym (le-ltb k (n + 1) (omega (arith, more)))))
    (λ last. let same : k ≡ n = omega (arith, above, last) in
    ap (λ b. if b then g n else h k) (eq-eqb k n same) ∙ ap g (sym same)
    ∙ ap (λ b. if b then g k else None) (sym (lt-ltb k (n + 1) (omega (arith, last)))))
    (cases_lt n k))
    (cases_lt k n)

pub first_more : (g : ℕ → Option Known) (ks : List (Option KnownOfPlace)) (n : ℕ) (x : Option KnownOfPlace)
    → length ks ≡ n → known_at ks ≡ first n g → option_map known_of x ≡ g n → known_at (ks ++ x ∷ []) ≡ first (n + 1) g
unfolding known_at
first_more g ks n x long e is = fun_ext (λ k.
    ap (λ xs. in_list xs k) (all_known-push ks x) ∙ pushed (all_known ks) (option_map known_of x) k
    ∙ ap (λ m. if nat_eq k m then option_map known_of x else in_list (all_known ks) k) (length_all ks ∙ long)
    ∙ ap (λ y. if nat_eq k n then y else in_list (all_known ks) k) is
    ∙ one_more g n k (in_list (all_known ks)) (ap (λ f. f k) e))
  where
    length_all : (xs : List (Option KnownOfPlace)) → length (all_known xs) ≡ length xs
    length_all [] = refl
    length_all (y ∷ ys) = ap suc (length_all ys)

none_known : (b : BodyFrame) (f : ℕ) → field_count b ≤ f → None ≡ field_known b f
none_known b f h = rw (slice_get_past b.own.fields f h) (if_same _)
  where
    if_same : (c : Bool) → (◌≡◌ {A = Option Known} None (if c then None else None))
    if_same true = refl
    if_same false = refl

-- each field is known, and nothing else
pub first_all : (b : BodyFrame) (n : ℕ) → field_count b ≤ n → first n (field_known b) ≡ field_known b
first_all b n h = fun_ext (λ f. ⊎_elim
    (λ below. ap (λ c. if c then field_known b f else None) (lt-ltb f n below))
    (λ above. ap (λ c. if c then field_known b f else None) (le-ltb f n above) ∙ none_known b f (omega (arith, h, above)))
    (cases_lt f n))

-- A body begins with what is known of its slots and of its fields.
pub begins : (b : BodyFrame) (slots fields : List (Option KnownOfPlace)) → known_at slots ≡ (λ k. beginning b (slot k))
    → known_at fields ≡ field_known b → context_of (record { slots = slots; fields = fields }) ≡ beginning b
unfolding context_of
begins b slots fields s f = fun_ext by
  where
    by : (q : Location) → context_of (record { slots = slots; fields = fields }) q ≡ beginning b q
    by (slot k) = ap (λ g. g k) s
    by (field n) = ap (λ g. g n) f

pub ruleset beginnings = (all_known-push, params_turn, slots_begin, first_none, first_more, first_all, begins, take_all)
