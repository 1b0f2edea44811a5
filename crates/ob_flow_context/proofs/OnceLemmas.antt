-- Places that are given more than once, turn by turn.
use Rattle.std.proofs.Common.{◌≡◌, ℕ, zero, suc, ◌+◌, ◌<◌, ◌≤◌, min, ⊎_elim, List, [], ◌∷◌, ◌++◌, length, map, take, drop, reverse, get_or, None, Bool, true, false, not, ◌&&◌, ◌||◌, refl, sym, ap, ap₂, ◌∙◌, subst, arith, add-one, drop-cons}
use Rattle.std.proofs.Math.Seq.{take-suc}
use Rattle.std.proofs.Math.ListN.{drop_of_length-le}
use Rattle.std.proofs.lemmas.Bool.{cases_lt}
use Rattle.std.proofs.lemmas.List.{reverse-append}
use Rattle.ob_base.specs.Faults.{used_twice}
use Rattle.ob_silica.specs.declared.place.Operand.{Operand}
use Rattle.ob_table.specs.declared.contract.Param.{Param}
use Rattle.ob_perm.specs.Permissions.{is_unowned}
use Rattle.ob_perm.specs.Masks.{permission_of}
use Rattle.ob_silica_places.specs.Parameters.{parameter_of}
use Rattle.ob_silica_places.specs.Places.{Location, located, same_location}
use Rattle.ob_flow_spec.specs.Premises.{Premise, one, first_failing}
use Rattle.ob_flow_spec.specs.Contexts.{is_field}
use Rattle.ob_flow_spec.specs.Uses.{Read}
use Rattle.ob_flow_spec.specs.Binding.{read_of, reads_of, wants_owner, is_among, is_given_owning, each_place_once, each_once, keeps_fields}
use Rattle.ob_base.specs.declared.text_error.TextError.{TextError}
use Rattle.ob_flow_context.specs.Checking.{FailsPremises}
use Rattle.ob_flow_context.proofs.PremiseLemmas.{holds_more, one_holds_more, one_fails_first, fails_same}
use Rattle.ob_flow_context.specs.declared.passing.Parameter.{Parameter as ParameterOfCall}
use Rattle.ob_flow_context.specs.Parameters.{plain_parameter, plain_parameters}

pub dropped : {A : Type 0} (xs : List A) (i : ℕ) (x : A) → i < length xs → x ≡ get_or xs i x → drop i xs ≡ x ∷ drop (i + 1) xs
dropped xs i x h is = rw add-one (drop-cons xs i x h ∙ ap (λ y. y ∷ drop (suc i) xs) (sym is))

-- What stands at a number of a list doesn't depend on what stands past its end.
pub get_or_same : {A : Type 0} (xs : List A) (i : ℕ) (d e : A) → i < length xs → get_or xs i d ≡ get_or xs i e
get_or_same [] i d e h = absurd (omega arith)
get_or_same (x ∷ xs) zero d e h = refl
get_or_same (x ∷ xs) (suc i) d e h = get_or_same xs i d e (omega arith)

-- Among those read.

pub among_found : (rs : List Operand) (i : ℕ) (r : Operand) (p : Location) → i < length rs → r ≡ get_or rs i r
    → same_location p (located r) ≡ true → is_among p (reads_of (drop i rs)) ≡ true
among_found rs i r p h is e = ap (λ xs. is_among p (reads_of xs)) (dropped rs i r h is)
    ∙ ap (λ b. b || is_among p (reads_of (drop (i + 1) rs))) e

pub among_passed : (rs : List Operand) (i : ℕ) (r : Operand) (p : Location) → i < length rs → r ≡ get_or rs i r
    → same_location p (located r) ≡ false → is_among p (reads_of (drop i rs)) ≡ is_among p (reads_of (drop (i + 1) rs))
among_passed rs i r p h is e = ap (λ xs. is_among p (reads_of xs)) (dropped rs i r h is)
    ∙ ap (λ b. b || is_among p (reads_of (drop (i + 1) rs))) e

pub among_end : (rs : List Operand) (i : ℕ) (p : Location) → length rs ≤ i → is_among p (reads_of (drop i rs)) ≡ false
among_end rs i p h = ap (λ xs. is_among p (reads_of xs)) (drop_of_length-le rs h)

-- Given to an owner.

-- whether a place is given to an owner from this number on
abbrev pub owning_from : Location → List Operand → List ParameterOfCall → ℕ → Bool
owning_from p rs ps i = is_given_owning p (reads_of (drop i rs)) (plain_parameters (drop i ps))

owning_here : (rs : List Operand) (ps : List ParameterOfCall) (i : ℕ) (r : Operand) (q : ParameterOfCall) (p : Location)
    → i < length rs → i < length ps → r ≡ get_or rs i r → q ≡ get_or ps i q
    → owning_from p rs ps i
    ≡ ((same_location p (located r) && wants_owner (plain_parameter q)) || owning_from p rs ps (i + 1))
owning_here rs ps i r q p h k is at = ap₂ (λ xs ys. is_given_owning p (reads_of xs) (plain_parameters ys))
    (dropped rs i r h is) (dropped ps i q k at)

pub owning_found : (rs : List Operand) (ps : List ParameterOfCall) (i : ℕ) (r : Operand) (q : ParameterOfCall) (p : Location)
    → i < length rs → i < length ps → r ≡ get_or rs i r → q ≡ get_or ps i q
    → (same_location p (located r) && wants_owner (plain_parameter q)) ≡ true → owning_from p rs ps i ≡ true
owning_found rs ps i r q p h k is at e = owning_here rs ps i r q p h k is at
    ∙ ap (λ a. a || owning_from p rs ps (i + 1)) e

pub owning_passed : (rs : List Operand) (ps : List ParameterOfCall) (i : ℕ) (r : Operand) (q : ParameterOfCall) (p : Location)
    → i < length rs → i < length ps → r ≡ get_or rs i r → q ≡ get_or ps i q
    → (same_location p (located r) && wants_owner (plain_parameter q)) ≡ false → owning_from p rs ps i ≡ owning_from p rs ps (i + 1)
owning_passed rs ps i r q p h k is at e = owning_here rs ps i r q p h k is at
    ∙ ap (λ a. a || owning_from p rs ps (i + 1)) e

none_given : (p : Location) (rs : List Read) → is_given_owning p rs [] ≡ false
none_given p [] = refl
none_given p (r ∷ rs) = refl

pub owning_end : (rs : List Operand) (ps : List ParameterOfCall) (i : ℕ) (p : Location) → min (length rs) (length ps) ≤ i
    → owning_from p rs ps i ≡ false
owning_end rs ps i p h = ⊎_elim
    (λ more. ap (λ ys. is_given_owning p (reads_of (drop i rs)) (plain_parameters ys)) (drop_of_length-le ps (omega (arith, h, more)))
    ∙ none_given p (reads_of (drop i rs)))
    (λ past. ap (λ xs. is_given_owning p (reads_of xs) (plain_parameters (drop i ps))) (drop_of_length-le rs past))
    (cases_lt i (length rs))

-- Given once.

among-append : (p : Location) (xs ys : List Read) → is_among p (xs ++ ys) ≡ (is_among p xs || is_among p ys)
among-append p [] ys = refl
among-append p (x ∷ xs) ys = ap (λ b. same_location p x.location || b) (among-append p xs ys)
    ∙ or_assoc (same_location p x.location) (is_among p xs) (is_among p ys)
  where
    or_assoc : (a b c : Bool) → (a || (b || c)) ≡ ((a || b) || c)
    or_assoc true b c = refl
    or_assoc false b c = refl

or_swap : (a b : Bool) → (a || (b || false)) ≡ (b || a)
or_swap true true = refl
or_swap true false = refl
or_swap false true = refl
or_swap false false = refl

reads-append : (xs ys : List Operand) → reads_of (xs ++ ys) ≡ reads_of xs ++ reads_of ys
reads-append [] ys = refl
reads-append (x ∷ xs) ys = ap (λ zs. read_of x ∷ zs) (reads-append xs ys)

among-reverse : (p : Location) (xs : List Operand) → is_among p (reads_of (reverse xs)) ≡ is_among p (reads_of xs)
among-reverse p [] = refl
among-reverse p (x ∷ xs) = ap (λ ys. is_among p (reads_of ys)) (reverse-append (x ∷ []) xs)
    ∙ ap (is_among p) (reads-append (reverse xs) (x ∷ []))
    ∙ among-append p (reads_of (reverse xs)) (reads_of (x ∷ []))
    ∙ or_swap (is_among p (reads_of (reverse xs))) (same_location p (located x))
    ∙ ap (λ b. same_location p (located x) || b) (among-reverse p xs)

reversed : (xs : List Operand) (i : ℕ) (x : Operand) → i < length xs → x ≡ get_or xs i x
    → reverse (take (i + 1) xs) ≡ x ∷ reverse (take i xs)
reversed xs i x h is = rw add-one
    (ap reverse (take-suc xs i x h ∙ ap (λ y. take i xs ++ y ∷ []) (sym is)) ∙ reverse-append (take i xs) (x ∷ []))

-- what is left to ask from this number on
abbrev pub once_from : List Operand → List ParameterOfCall → ℕ → List Premise
once_from rs ps i = each_place_once (λ p. is_given_owning p (reads_of rs) (plain_parameters ps))
    (reads_of (reverse (take i rs))) (reads_of (drop i rs))

-- what is asked of one place
abbrev pub once_here : List Operand → List ParameterOfCall → ℕ → Operand → List Premise
once_here rs ps i r = one used_twice r.span
    (not (is_among (located r) (reads_of (take i rs)) && is_given_owning (located r) (reads_of rs) (plain_parameters ps)))

once_next : (rs : List Operand) (ps : List ParameterOfCall) (i : ℕ) (r : Operand) → i < length rs → r ≡ get_or rs i r
    → once_from rs ps i ≡ once_here rs ps i r ++ once_from rs ps (i + 1)
once_next rs ps i r h is =
    let owning : Location → Bool = λ p. is_given_owning p (reads_of rs) (plain_parameters ps) in
    ap (λ xs. each_place_once owning (reads_of (reverse (take i rs))) (reads_of xs)) (dropped rs i r h is)
    ∙ ap₂ (λ b xs. one used_twice r.span (not (b && owning (located r))) ++ each_place_once owning (reads_of xs) (reads_of (drop (i + 1) rs)))
    (among-reverse (located r) (take i rs)) (sym (reversed rs i r h is))

pub once_turn : (rs : List Operand) (ps : List ParameterOfCall) (i : ℕ) (r : Operand) → i < length rs → r ≡ get_or rs i r
    → first_failing (once_here rs ps i r) ≡ None → first_failing (once_from rs ps i) ≡ first_failing (once_from rs ps (i + 1))
once_turn rs ps i r h is e = ap first_failing (once_next rs ps i r h is)
    ∙ holds_more (once_here rs ps i r) (once_from rs ps (i + 1)) e

pub once_fails : (rs : List Operand) (ps : List ParameterOfCall) (i : ℕ) (r : Operand) (e : TextError) → i < length rs
    → r ≡ get_or rs i r → FailsPremises e (once_here rs ps i r) → FailsPremises e (once_from rs ps i)
once_fails rs ps i r e h is f = subst (FailsPremises e) (sym (once_next rs ps i r h is))
    (one_fails_first _ (once_from rs ps (i + 1)) e f)

-- the same, for what stands at this number
pub once_turn_at : (rs : List Operand) (ps : List ParameterOfCall) (i : ℕ) (d : Operand) (again : Bool) → i < length rs
    → again ≡ (is_among (located (get_or rs i d)) (reads_of (take i rs))
    && is_given_owning (located (get_or rs i d)) (reads_of rs) (plain_parameters ps))
    → first_failing (one used_twice (get_or rs i d).span (not again)) ≡ None
    → first_failing (once_from rs ps i) ≡ first_failing (once_from rs ps (i + 1))
once_turn_at rs ps i d again h is e = once_turn rs ps i (get_or rs i d) h (get_or_same rs i d (get_or rs i d) h)
    (subst (λ b. first_failing (one used_twice (get_or rs i d).span (not b)) ≡ None) is e)

pub once_fails_at : (rs : List Operand) (ps : List ParameterOfCall) (i : ℕ) (d : Operand) (again : Bool) (e : TextError)
    → i < length rs
    → again ≡ (is_among (located (get_or rs i d)) (reads_of (take i rs))
    && is_given_owning (located (get_or rs i d)) (reads_of rs) (plain_parameters ps))
    → first_failing (each_once (reads_of rs) (plain_parameters ps)) ≡ first_failing (once_from rs ps i)
    → FailsPremises e (one used_twice (get_or rs i d).span (not again)) → FailsPremises e (each_once (reads_of rs) (plain_parameters ps))
once_fails_at rs ps i d again e h is so f = fails_same _ _ e so (once_fails rs ps i (get_or rs i d) e h
    (get_or_same rs i d (get_or rs i d) h)
    (subst (λ b. FailsPremises e (one used_twice (get_or rs i d).span (not b))) is f))

pub once_end : (rs : List Operand) (ps : List ParameterOfCall) (i : ℕ) → length rs ≤ i → first_failing (once_from rs ps i) ≡ None
once_end rs ps i h = ap (λ xs. first_failing (each_place_once (λ p. is_given_owning p (reads_of rs) (plain_parameters ps))
    (reads_of (reverse (take i rs))) (reads_of xs))) (drop_of_length-le rs h)

-- Fields that are kept.

-- what is left to ask from this number on
abbrev pub kept_from : List Operand → List Param → ℕ → List Premise
kept_from rs ps i = keeps_fields (reads_of (drop i rs)) (map parameter_of (drop i ps))

-- what is asked of one place
abbrev pub kept_here : Operand → Param → List Premise
kept_here r p = one used_twice r.span
    (not (is_field (located r) && wants_owner (parameter_of p) && not (is_unowned (permission_of p.exit))))

kept_next : (rs : List Operand) (ps : List Param) (i : ℕ) (r : Operand) (p : Param) → i < length rs → i < length ps
    → r ≡ get_or rs i r → p ≡ get_or ps i p → kept_from rs ps i ≡ kept_here r p ++ kept_from rs ps (i + 1)
kept_next rs ps i r p h k is at = ap₂ (λ xs ys. keeps_fields (reads_of xs) (map parameter_of ys))
    (dropped rs i r h is) (dropped ps i p k at)

pub kept_turn : (rs : List Operand) (ps : List Param) (i : ℕ) (r : Operand) (p : Param) → i < length rs → i < length ps
    → r ≡ get_or rs i r → p ≡ get_or ps i p → first_failing (kept_here r p) ≡ None
    → first_failing (kept_from rs ps i) ≡ first_failing (kept_from rs ps (i + 1))
kept_turn rs ps i r p h k is at e = ap first_failing (kept_next rs ps i r p h k is at)
    ∙ holds_more (kept_here r p) (kept_from rs ps (i + 1)) e

pub kept_fails : (rs : List Operand) (ps : List Param) (i : ℕ) (r : Operand) (p : Param) (e : TextError) → i < length rs
    → i < length ps → r ≡ get_or rs i r → p ≡ get_or ps i p → FailsPremises e (kept_here r p) → FailsPremises e (kept_from rs ps i)
kept_fails rs ps i r p e h k is at f = subst (FailsPremises e) (sym (kept_next rs ps i r p h k is at))
    (one_fails_first _ (kept_from rs ps (i + 1)) e f)

none_kept : (rs : List Read) → keeps_fields rs [] ≡ []
none_kept [] = refl
none_kept (r ∷ rs) = refl

pub kept_end : (rs : List Operand) (ps : List Param) (i : ℕ) → min (length rs) (length ps) ≤ i
    → first_failing (kept_from rs ps i) ≡ None
kept_end rs ps i h = ⊎_elim
    (λ more. ap (λ ys. first_failing (keeps_fields (reads_of (drop i rs)) (map parameter_of ys)))
    (drop_of_length-le ps (omega (arith, h, more))) ∙ ap first_failing (none_kept (reads_of (drop i rs))))
    (λ past. ap (λ xs. first_failing (keeps_fields (reads_of xs) (map parameter_of (drop i ps)))) (drop_of_length-le rs past))
    (cases_lt i (length rs))

pub ruleset among = (among_found, among_passed, among_end, owning_found, owning_passed, owning_end)

pub ruleset once_each = (once_turn, once_fails, once_end, fails_same)

pub ruleset keeping = (kept_turn, kept_fails, kept_end, fails_same)
