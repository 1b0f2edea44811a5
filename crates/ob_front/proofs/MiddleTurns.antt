-- A loop's turn over bodies.
use native.Mathlib.Omega.{arith}
use Rattle.std.proofs.Common.{◌≡◌, ℕ, List, [], ◌∷◌, ◌++◌, Option, None, Result, Ok, Err, map, refl, sym, ap, ◌∙◌, subst, length, take, drop, get_or, suc, ◌<◌, ◌≤◌, ◌+◌, ◌-◌, add-one, drop-cons}
use Rattle.std.specs.Prelude.{All, IsOk}
use Rattle.std.specs.List.{AllWithin}
use Rattle.std.specs.Option.{option_or, option_map}
use Rattle.std.specs.Result.{result_err}
use Rattle.std.proofs.lemmas.List.{take_more, map-append, get_or-map, get_or-drop, length-map, length-drop, drop_all, take_all}
use Rattle.std.proofs.lemmas.List.Elements.{All-cons, AllWithin-more}
use Rattle.std.proofs.lemmas.Option.{slice_get-map, slice_get_read, slice_get_within, get_or_from_slice_get}
use Rattle.ob_base.specs.declared.fault.Span.{Span}
use Rattle.ob_base.specs.declared.fault.ProgramFault.{ProgramFault}
use Rattle.ob_table.specs.Statements.{ResolvedBody}
use Rattle.ob_table.specs.StatementsView.{resolved_body_of}
use Rattle.ob_table.specs.Tables.{ClassTable}
use Rattle.ob_table.specs.declared.body.Body.{Body}
use Rattle.ob_silica.specs.Terms.{SilicaBody}
use Rattle.ob_silica.specs.TermsView.{terms_of, silica_body_of}
use Rattle.ob_silica.specs.declared.body.TermBody.{TermBody}
use Rattle.ob_lower_spec.specs.SlotNeeds.{slots_run_out, IsSlotFault}
use Rattle.ob_base.specs.TextErrors.{OnFault}
use Rattle.ob_base.specs.declared.text_error.TextError.{TextError}
use Rattle.ob_base.specs.declared.text_error.TextError.TheVariants.{Fault, Memory}
use Rattle.ob_flow_spec.specs.Deriving.{derive_body, Derives, IsFlowFault}
use Rattle.ob_flow_spec.specs.Numbered.{AllNameStates}
use Rattle.ob_front.specs.Checked.{AllNumbered, first_flow_fault, FailsPremise, IsNextFault}
use Rattle.ob_front.proofs.MiddleLaws.{no_error}
use Rattle.ob_front.specs.Lowered.{IsLoweredTo, AreLoweredTo, first_slot_past, LacksSlots}

-- what is left from a place on is the thing there, and what is left after it
pub turn : {X : Type 0} (xs : List X) (i : ℕ) (x : X) → i < length xs → x ≡ get_or xs i x → drop i xs ≡ x ∷ drop (i + 1) xs
turn xs i x h is = rw (add-one, drop-cons xs i x) (ap (λ y. y ∷ drop (suc i) xs) (sym is))

-- one body more
one_more : (table : ClassTable) (bs : List ResolvedBody) (ls : List SilicaBody) (b : ResolvedBody) (l : SilicaBody) → AreLoweredTo table bs ls → IsLoweredTo table b l
    → AreLoweredTo table (bs ++ b ∷ []) (ls ++ l ∷ [])
one_more table [] [] b l before is = (is, tt)
one_more table [] (m ∷ ms) b l before is = absurd before
one_more table (c ∷ cs) [] b l before is = absurd before
one_more table (c ∷ cs) (m ∷ ms) b l before is = (before.0, one_more table cs ms b l before.1 is)

pub made_turn : (table : ClassTable) (xs : List Body) (ls : List TermBody) (i : ℕ) (x : Body) (l : TermBody) → i < length xs → x ≡ get_or xs i x
    → AreLoweredTo table (map resolved_body_of (take i xs)) (map silica_body_of ls) → IsLoweredTo table (resolved_body_of x) (silica_body_of l)
    → AreLoweredTo table (map resolved_body_of (take (i + 1) xs)) (map silica_body_of (ls ++ l ∷ []))
made_turn table xs ls i x l h is before lowered =
    let bodies : map resolved_body_of (take (i + 1) xs) ≡ map resolved_body_of (take i xs) ++ resolved_body_of x ∷ [] =
    ap (map resolved_body_of) (take_more xs i x h ∙ ap (λ y. take i xs ++ y ∷ []) (sym is)) ∙ map-append resolved_body_of (take i xs) (x ∷ []) in
    let terms : map silica_body_of (ls ++ l ∷ []) ≡ map silica_body_of ls ++ silica_body_of l ∷ [] = map-append silica_body_of ls (l ∷ []) in
    subst (λ bs. AreLoweredTo table bs (map silica_body_of (ls ++ l ∷ []))) (sym bodies)
    (subst (λ ts. AreLoweredTo table (map resolved_body_of (take i xs) ++ resolved_body_of x ∷ []) ts) (sym terms)
    (one_more table (map resolved_body_of (take i xs)) (map silica_body_of ls) (resolved_body_of x) (silica_body_of l) before lowered))

-- where slots run out in what is left from a place on
past_turn : (table : ClassTable) (xs : List Body) (i : ℕ) (x : Body) → i < length xs → x ≡ get_or xs i x
    → first_slot_past table (map resolved_body_of (drop i xs)) ≡ option_or (slots_run_out table (resolved_body_of x)) (first_slot_past table (map resolved_body_of (drop (i + 1) xs)))
past_turn table xs i x h is = ap (λ bs. first_slot_past table (map resolved_body_of bs)) (turn xs i x h is)

pub left_turn : (table : ClassTable) (xs : List Body) (i : ℕ) (x : Body) (o : Option Span) → i < length xs → x ≡ get_or xs i x
    → slots_run_out table (resolved_body_of x) ≡ None → first_slot_past table (map resolved_body_of (drop i xs)) ≡ o
    → first_slot_past table (map resolved_body_of (drop (i + 1) xs)) ≡ o
left_turn table xs i x o h is fits e =
    sym (ap (λ r. option_or r (first_slot_past table (map resolved_body_of (drop (i + 1) xs)))) fits) ∙ sym (past_turn table xs i x h is) ∙ e

-- the fault of the first body that needs too many slots
pub lacks_here : (table : ClassTable) (xs : List Body) (i : ℕ) (x : Body) (cause : TextError) → i < length xs → x ≡ get_or xs i x
    → map resolved_body_of xs ≡ table.bodies
    → first_slot_past table (map resolved_body_of (drop i xs)) ≡ first_slot_past table (map resolved_body_of xs)
    → OnFault cause (IsSlotFault table (resolved_body_of x)) → OnFault cause (LacksSlots table)
lacks_here table xs i x (Fault fault) h is all left has = record {
  number = has.number;
  place = ap (first_slot_past table) (sym all) ∙ sym left ∙ past_turn table xs i x h is
      ∙ ap (λ r. option_or r (first_slot_past table (map resolved_body_of (drop (i + 1) xs)))) has.place;
}
lacks_here table xs i x Memory h is all left has = tt

-- Checking.

-- the fault of what is left from a place on
flow_turn : (table : ClassTable) (xs : List TermBody) (i : ℕ) (x : TermBody) → i < length xs → x ≡ get_or xs i x
    → first_flow_fault table (map silica_body_of (drop i xs))
    ≡ option_or (result_err (derive_body table (silica_body_of x))) (first_flow_fault table (map silica_body_of (drop (i + 1) xs)))
flow_turn table xs i x h is = ap (λ bs. first_flow_fault table (map silica_body_of bs)) (turn xs i x h is)

pub derives_turn : (table : ClassTable) (xs : List TermBody) (i : ℕ) (x : TermBody) (o : Option ProgramFault) → i < length xs → x ≡ get_or xs i x
    → Derives table (silica_body_of x) → first_flow_fault table (map silica_body_of (drop i xs)) ≡ o
    → first_flow_fault table (map silica_body_of (drop (i + 1) xs)) ≡ o
derives_turn table xs i x o h is derives e =
    sym (ap (λ r. option_or r (first_flow_fault table (map silica_body_of (drop (i + 1) xs)))) (no_error (derive_body table (silica_body_of x)) derives))
    ∙ sym (flow_turn table xs i x h is) ∙ e

-- the fault of the first body that doesn't derive
pub fails_here : (table : ClassTable) (xs : List TermBody) (i : ℕ) (x : TermBody) (cause : TextError) → i < length xs → x ≡ get_or xs i x
    → first_flow_fault table (map silica_body_of (drop i xs)) ≡ first_flow_fault table (map silica_body_of xs)
    → OnFault cause (IsFlowFault table (silica_body_of x)) → OnFault cause (FailsPremise table (map silica_body_of xs))
fails_here table xs i x (Fault fault) h is left has =
    sym left ∙ flow_turn table xs i x h is
    ∙ ap (λ r. option_or (result_err r) (first_flow_fault table (map silica_body_of (drop (i + 1) xs)))) has
fails_here table xs i x Memory h is left has = tt

-- the body that is read at a place is the one there
body_at : (xs : List TermBody) (i : ℕ) (x : TermBody) (d : SilicaBody) → i < length xs → x ≡ get_or xs i x
    → get_or (map silica_body_of xs) i d ≡ silica_body_of x
body_at xs i x d h is = get_or-map silica_body_of xs i x d h ∙ ap silica_body_of (sym is)

-- what holds of all bodies holds of the one at a place
pub numbered_at : (xs : List TermBody) (i : ℕ) (x : TermBody) → i < length xs → x ≡ get_or xs i x
    → AllNumbered (map silica_body_of xs) → AllNameStates (terms_of x.terms)
numbered_at xs i x h is all =
    subst (λ (b : SilicaBody). AllNameStates b.terms) (body_at xs i x (silica_body_of x) h is)
    (all i (silica_body_of x) (subst (λ n. i < n) (sym (length-map xs silica_body_of)) h))

-- bodies without a fault derive
ok_of : {A E : Type 0} (r : Result A E) (o : Option E) → option_or (result_err r) o ≡ None → IsOk r
ok_of (Ok x) o e = refl
ok_of (Err x) o e = cc

rest_of : {A E : Type 0} (r : Result A E) (o : Option E) → option_or (result_err r) o ≡ None → o ≡ None
rest_of (Ok x) o e = e
rest_of (Err x) o e = cc

all_derive : (table : ClassTable) (bodies : List SilicaBody) → first_flow_fault table bodies ≡ None → All (Derives table) bodies
all_derive table [] e = λ k d h. absurd (omega (arith, h))
all_derive table (b ∷ bs) e = All-cons (Derives table) b bs (ok_of (derive_body table b) (first_flow_fault table bs) e)
    (all_derive table bs (rest_of (derive_body table b) (first_flow_fault table bs) e))

pub end_derives : (table : ClassTable) (xs : List TermBody) (i : ℕ) → length xs ≤ i
    → first_flow_fault table (map silica_body_of (drop i xs)) ≡ first_flow_fault table (map silica_body_of xs) → All (Derives table) (map silica_body_of xs)
end_derives table xs i h left =
    all_derive table (map silica_body_of xs) (sym left ∙ ap (λ bs. first_flow_fault table (map silica_body_of bs)) (drop_all i xs h))

-- Checking from a number on.

-- one body more derives
pub more_derive : (table : ClassTable) (xs : List TermBody) (from i : ℕ) (x : TermBody) → i < length xs → x ≡ get_or xs i x
    → Derives table (silica_body_of x) → AllWithin (Derives table) (map silica_body_of xs) from i
    → AllWithin (Derives table) (map silica_body_of xs) from (i + 1)
more_derive table xs from i x h is derives before =
    AllWithin-more (Derives table) (map silica_body_of xs) from i before
    (λ d. subst (Derives table) (sym (body_at xs i x d h is)) derives)

-- the first body that doesn't
pub next_here : (table : ClassTable) (xs : List TermBody) (from i : ℕ) (x : TermBody) (fault : ProgramFault) → i < length xs → x ≡ get_or xs i x
    → from ≤ i → AllWithin (Derives table) (map silica_body_of xs) from i → IsFlowFault table (silica_body_of x) fault
    → IsNextFault table (map silica_body_of xs) from i fault
next_here table xs from i x fault h is reached before fails = record {
  reached = reached;
  body = silica_body_of x;
  at = slice_get-map silica_body_of xs i ∙ ap (option_map silica_body_of) (slice_get_read xs (length xs) i x refl h is);
  fails = fails;
  before = before;
}

-- where all derive, no body has a fault
no_fault : {A E : Type 0} (r : Result A E) (e : E) → IsOk r → ¬ (r ≡ Err e)
no_fault (Ok x) e ok is = cc
no_fault (Err x) e ok is = cc

pub next_or_all : (table : ClassTable) (bodies : List SilicaBody) (from number : ℕ) (fault : ProgramFault)
    → IsNextFault table bodies from number fault → ¬ (All (Derives table) (drop from bodies))
next_or_all table bodies from number fault next all =
    let within = slice_get_within bodies number next.body next.at in
    let later : number - from < length (drop from bodies) = omega (arith, next.reached, within, length-drop from bodies) in
    let place : from + (number - from) ≡ number = omega (arith, next.reached) in
    let same : get_or (drop from bodies) (number - from) next.body ≡ next.body =
    get_or-drop from bodies (number - from) next.body ∙ ap (λ n. get_or bodies n next.body) place
    ∙ get_or_from_slice_get bodies number next.body next.body next.at in
    no_fault (derive_body table next.body) fault (subst (Derives table) same (all (number - from) next.body later)) next.fails

-- all of them derive
pub rest_derives : (table : ClassTable) (xs : List TermBody) (from i : ℕ) → length xs ≤ i
    → AllWithin (Derives table) (map silica_body_of xs) from i → All (Derives table) (drop from (map silica_body_of xs))
rest_derives table xs from i h before = λ k d less.
    let many : length (map silica_body_of xs) ≡ length xs = length-map xs silica_body_of in
    let within : from + k < i = omega (arith, h, less, many, length-drop from (map silica_body_of xs)) in
    subst (Derives table) (sym (get_or-drop from (map silica_body_of xs) k d)) (before (from + k) d (omega arith) within)

-- Ends.

pub all_made : (table : ClassTable) (xs : List Body) (ls : List TermBody) (i : ℕ) → length xs ≤ i → map resolved_body_of xs ≡ table.bodies
    → AreLoweredTo table (map resolved_body_of (take i xs)) (map silica_body_of ls) → AreLoweredTo table table.bodies (map silica_body_of ls)
all_made table xs ls i h all made =
    subst (λ bs. AreLoweredTo table bs (map silica_body_of ls)) (ap (map resolved_body_of) (take_all i xs h) ∙ all) made
