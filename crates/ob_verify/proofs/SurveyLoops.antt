-- The survey of an image's contracts, one contract after another.
use Rattle.std.proofs.Common.{◌≡◌, ◌≢◌, ℕ, zero, suc, ◌+◌, ◌<◌, ◌≤◌, Bool, true, false, cond, ◌&&◌, ◌||◌, not, List, [], ◌∷◌, ◌++◌, length, map, take, drop, get_or, Option, Some, None, refl, sym, ap, ap₂, subst, ◌∙◌, arith, add-one, append-nil, take-append-drop, min, ⊎_elim}
use Rattle.std.specs.Prelude.{slice_get, slice_set, option_map, position, find, ◌==◌, if◌then◌else◌}
use Rattle.std.specs.Option.{option_and_then, option_flatten}
use Rattle.std.specs.List.{list_all}
use Rattle.std.proofs.Math.ListN.{drop_of_length-le}
use Rattle.std.proofs.lemmas.List.{take_more, take_all, map-append, length-set}
use Rattle.std.proofs.lemmas.List.Folds.{list_all-append}
use Rattle.std.proofs.lemmas.Bool.{eqb-true, eq-eqb}
use Rattle.std.proofs.lemmas.Option.{slice_get-map}
use Rattle.ob_base.specs.Optional.{◌>>=◌}
use Rattle.ob_base.specs.declared.id.ContractId.{ContractId}
use Rattle.ob_base.specs.declared.id.TxId.{TxId}
use Rattle.ob_code.specs.declared.image.BodyCode.{BodyCode}
use Rattle.ob_code.specs.declared.image.ContractCode.{ContractCode}
use Rattle.ob_code.specs.declared.image.Image.{Image}
use Rattle.ob_code.specs.Code.{is_interface, is_constructor, contract_code, body_code}
use Rattle.ob_verify_spec.specs.Kinds.{implements_number}
use Rattle.ob_verify_spec.specs.Frames.{constructor_code}
use Rattle.ob_verify_spec.specs.Conditions.{has_answer, answers_if_implemented}
use Rattle.ob_table.specs.Tables.{contract_id}
use Rattle.ob_verify.specs.Surveys.{answers_by, all_answers_by, with_answers, is_asked, with_answers_from, constructor_places}
use Rattle.ob_verify.proofs.ListLoops.{past_one}
use Rattle.ob_verify.proofs.PlaceLemmas.{found_at_place}

-- Lists that are made one element after another.

pub mapped_turn : {X Y : Type 0} (f : X → Y) (xs : List X) (i : ℕ) (x : X) → i < length xs → x ≡ get_or xs i x
    → map f (take (i + 1) xs) ≡ map f (take i xs) ++ f x ∷ []
mapped_turn f xs i x l is = ap (map f) (take_more xs i x l ∙ ap (λ y. take i xs ++ y ∷ []) (sym is)) ∙ map-append f (take i xs) (x ∷ [])

pub mapped_end : {X Y : Type 0} (f : X → Y) (xs : List X) (i : ℕ) → length xs ≤ i → map f (take i xs) ≡ map f xs
mapped_end f xs i l = ap (map f) (take_all i xs l)

-- One contract is asked for each transaction of one.

also_turn : (own : ContractCode) (asked : List BodyCode) (row : List Bool) (i : ℕ) (b : BodyCode) (r : Bool) → i < length asked → i < length row
    → take i row ++ with_answers own (drop i asked) (drop i row)
    ≡ take (suc i) (slice_set row i (get_or row i r && has_answer (get_or asked i b) own))
    ++ with_answers own (drop (suc i) asked) (drop (suc i) (slice_set row i (get_or row i r && has_answer (get_or asked i b) own)))
also_turn own [] row i b r l k = absurd (omega arith)
also_turn own (a ∷ asked) [] i b r l k = absurd (omega arith)
also_turn own (a ∷ asked) (x ∷ row) zero b r l k = refl
also_turn own (a ∷ asked) (x ∷ row) (suc i) b r l k =
    let p : i < length asked = omega arith in
    let q : i < length row = omega arith in
    ap (λ z. x ∷ z) (also_turn own asked row i b r p q)

pub asked_turn : (own : ContractCode) (asked : List BodyCode) (row next all : List Bool) (i : ℕ) (a : BodyCode) (r v : Bool) → i < length asked → i < length row
    → a ≡ get_or asked i a → r ≡ get_or row i r → v ≡ (r && has_answer a own) → next ≡ slice_set row i v
    → all ≡ take i row ++ with_answers own (drop i asked) (drop i row) → all ≡ take (i + 1) next ++ with_answers own (drop (i + 1) asked) (drop (i + 1) next)
asked_turn own asked row next all i a r v l k p q f n e =
    let same : (get_or row i r && has_answer (get_or asked i a) own) ≡ v = sym (f ∙ ap₂ (λ x y. x && has_answer y own) q p) in
    rw add-one (e ∙ also_turn own asked row i a r l k
    ∙ ap (λ w. take (suc i) (slice_set row i w) ++ with_answers own (drop (suc i) asked) (drop (suc i) (slice_set row i w))) same
    ∙ ap (λ z. take (suc i) z ++ with_answers own (drop (suc i) asked) (drop (suc i) z)) (sym n))

pub asked_length : (row next : List Bool) (i n : ℕ) (v : Bool) → length row ≡ n → next ≡ slice_set row i v → length next ≡ n
asked_length row next i n v e f = ap length f ∙ length-set row i v ∙ e

also_none : (own : ContractCode) (asked : List BodyCode) → with_answers own asked [] ≡ []
also_none own [] = refl
also_none own (b ∷ asked) = refl

pub also_end : (own : ContractCode) (asked : List BodyCode) (row all : List Bool) (i : ℕ) → min (length asked) (length row) ≤ i
    → all ≡ take i row ++ with_answers own (drop i asked) (drop i row) → row ≡ all
also_end own asked row all i l e = sym (e ∙ ⊎_elim
    (λ f. ap (λ z. take i row ++ with_answers own z (drop i row)) f ∙ take-append-drop i row)
    (λ f. ap (λ z. take i row ++ with_answers own (drop i asked) z) f ∙ ap (λ z. take i row ++ z) (also_none own (drop i asked)) ∙ append-nil (take i row) ∙ take_all i row (past i row f))
    (past_one asked row i l))
  where
    past : (i : ℕ) (xs : List Bool) → drop i xs ≡ [] → length xs ≤ i
    past zero [] f = omega arith
    past zero (x ∷ xs) f = absurd cc
    past (suc i) [] f = omega arith
    past (suc i) (x ∷ xs) f = let k = past i xs f in omega (arith, k)

-- Which contracts are asked.

pub not_asked : (own : ContractCode) (n : ℕ) → own.implements ≢ n + 1 → is_asked own n ≡ false
not_asked own n ne = by (own.implements == n + 1) refl
  where
    by : (b : Bool) → (own.implements == n + 1) ≡ b → (b && not (is_interface own)) ≡ false
    by true e = absurd (ne (eqb-true own.implements (n + 1) e))
    by false e = refl

pub interface_not_asked : (own : ContractCode) (n : ℕ) → is_interface own ≡ true → is_asked own n ≡ false
interface_not_asked own n e = by (implements_number (contract_id n) own) (is_interface own) e
  where
    by : (a b : Bool) → b ≡ true → (a && not b) ≡ false
    by true true e = refl
    by false true e = refl
    by true false e = absurd cc
    by false false e = absurd cc

is_asked_once : (own : ContractCode) (n : ℕ) → own.implements ≡ n + 1 → is_interface own ≡ false → is_asked own n ≡ true
is_asked_once own n e i = by (own.implements == n + 1) (is_interface own) (eq-eqb own.implements (n + 1) e) i
  where
    by : (a b : Bool) → a ≡ true → b ≡ false → (a && not b) ≡ true
    by true false e f = refl
    by true true e f = absurd cc
    by false b e f = absurd cc

pub none_asked : (own : ContractCode) (n : ℕ) (cs : List ContractCode) (rows : List (List Bool))
    → ((j : ℕ) → j < length cs → j < length rows → is_asked own (n + j) ≡ false) → with_answers_from own n cs rows ≡ rows
none_asked own n [] rows h = refl
none_asked own n (c ∷ cs) [] h = refl
none_asked own n (c ∷ cs) (row ∷ rows) h =
    let here : is_asked own n ≡ false = (let k : n + 0 ≡ n = omega arith in subst (λ z. is_asked own z ≡ false) k (h 0 (omega arith) (omega arith))) in
    ap₂ (λ b z. (if b then with_answers own c.bodies row else row) ∷ z) here
    (none_asked own (n + 1) cs rows (λ j l k. let e : n + suc j ≡ n + 1 + j = omega arith in subst (λ z. is_asked own z ≡ false) e (h (suc j) (omega arith) (omega arith))))

pub one_asked : (own : ContractCode) (n : ℕ) (cs : List ContractCode) (rows : List (List Bool)) (k : ℕ) (c : ContractCode) (row : List Bool)
    → k < length cs → k < length rows → own.implements ≡ n + k + 1 → is_interface own ≡ false
    → with_answers_from own n cs rows ≡ slice_set rows k (with_answers own (get_or cs k c).bodies (get_or rows k row))
one_asked own n [] rows k c row l m e i = absurd (omega arith)
one_asked own n (d ∷ cs) [] k c row l m e i = absurd (omega arith)
one_asked own n (d ∷ cs) (x ∷ rows) zero c row l m e i =
    ap₂ (λ b z. (if b then with_answers own d.bodies x else x) ∷ z) (is_asked_once own n (omega (arith, e)) i)
    (none_asked own (n + 1) cs rows (λ j p q. not_asked own (n + 1 + j) (λ f. omega (arith, e, f))))
one_asked own n (d ∷ cs) (x ∷ rows) (suc k) c row l m e i =
    ap₂ (λ b z. (if b then with_answers own d.bodies x else x) ∷ z) (not_asked own n (λ f. omega (arith, e, f)))
    (one_asked own (n + 1) cs rows k c row (omega arith) (omega arith) (omega (arith, e)) i)

-- Answers of more and more contracts.

unasked_from : (n : ℕ) (cs : List ContractCode) → all_answers_by [] n cs ≡ map (λ (c : ContractCode). map (λ (b : BodyCode). true) c.bodies) cs
unasked_from n [] = refl
unasked_from n (c ∷ cs) = ap (λ z. map (λ (b : BodyCode). true) c.bodies ∷ z) (unasked_from (n + 1) cs)

pub unasked_yet : (cs : List ContractCode) → all_answers_by [] 0 cs ≡ map (λ (c : ContractCode). map (λ (b : BodyCode). true) c.bodies) cs
unasked_yet cs = unasked_from 0 cs

and_true : (a : Bool) → (a && true) ≡ a
and_true true = refl
and_true false = refl

answer_of : (own : ContractCode) (n : ℕ) (b : BodyCode) → answers_if_implemented (contract_id n) b own ≡ (not (is_asked own n) || has_answer b own)
answer_of own n b = by (implements_number (contract_id n) own) (is_interface own)
  where
    by : (p q : Bool) → (not p || q || has_answer b own) ≡ (not (p && not q) || has_answer b own)
    by true true = refl
    by true false = refl
    by false true = refl
    by false false = refl

one_more : (seen : List ContractCode) (own : ContractCode) (n : ℕ) (b : BodyCode)
    → list_all (answers_if_implemented (contract_id n) b) (seen ++ own ∷ []) ≡ (list_all (answers_if_implemented (contract_id n) b) seen && (not (is_asked own n) || has_answer b own))
one_more seen own n b =
    list_all-append (answers_if_implemented (contract_id n) b) seen (own ∷ [])
    ∙ ap (λ z. list_all (answers_if_implemented (contract_id n) b) seen && z) (and_true (answers_if_implemented (contract_id n) b own) ∙ answer_of own n b)

-- whether the contracts that were asked answer, and one more
abbrev answers_and : Bool → List ContractCode → ContractCode → ℕ → List BodyCode → List Bool
answers_and a seen own n bodies = map (λ b. list_all (answers_if_implemented (contract_id n) b) seen && (not a || has_answer b own)) bodies

row_of_more : (seen : List ContractCode) (own : ContractCode) (n : ℕ) (bodies : List BodyCode) → answers_by (seen ++ own ∷ []) n bodies ≡ answers_and (is_asked own n) seen own n bodies
row_of_more seen own n [] = refl
row_of_more seen own n (b ∷ bodies) = ap₂ (λ x xs. x ∷ xs) (one_more seen own n b) (row_of_more seen own n bodies)

also_row : (seen : List ContractCode) (own : ContractCode) (n : ℕ) (bodies : List BodyCode) → with_answers own bodies (answers_by seen n bodies) ≡ answers_and true seen own n bodies
also_row seen own n [] = refl
also_row seen own n (b ∷ bodies) = ap (λ z. (list_all (answers_if_implemented (contract_id n) b) seen && has_answer b own) ∷ z) (also_row seen own n bodies)

same_row : (seen : List ContractCode) (own : ContractCode) (n : ℕ) (bodies : List BodyCode) → answers_by seen n bodies ≡ answers_and false seen own n bodies
same_row seen own n [] = refl
same_row seen own n (b ∷ bodies) = ap₂ (λ x xs. x ∷ xs) (sym (and_true (list_all (answers_if_implemented (contract_id n) b) seen))) (same_row seen own n bodies)

row_turn : (seen : List ContractCode) (own : ContractCode) (n : ℕ) (bodies : List BodyCode)
    → (if is_asked own n then with_answers own bodies (answers_by seen n bodies) else answers_by seen n bodies) ≡ answers_by (seen ++ own ∷ []) n bodies
row_turn seen own n bodies = by (is_asked own n) ∙ sym (row_of_more seen own n bodies)
  where
    by : (a : Bool) → (if a then with_answers own bodies (answers_by seen n bodies) else answers_by seen n bodies) ≡ answers_and a seen own n bodies
    by true = also_row seen own n bodies
    by false = same_row seen own n bodies

answers_more : (seen : List ContractCode) (own : ContractCode) (n : ℕ) (cs : List ContractCode) → with_answers_from own n cs (all_answers_by seen n cs) ≡ all_answers_by (seen ++ own ∷ []) n cs
answers_more seen own n [] = refl
answers_more seen own n (c ∷ cs) = ap₂ (λ x xs. x ∷ xs) (row_turn seen own n c.bodies) (answers_more seen own (n + 1) cs)

pub answers_turn : (cs : List ContractCode) (rows next : List (List Bool)) (i : ℕ) (own : ContractCode) → i < length cs → own ≡ get_or cs i own
    → rows ≡ all_answers_by (take i cs) 0 cs → next ≡ with_answers_from own 0 cs rows → next ≡ all_answers_by (take (i + 1) cs) 0 cs
answers_turn cs rows next i own l is h e =
    e ∙ ap (with_answers_from own 0 cs) h ∙ answers_more (take i cs) own 0 cs
    ∙ ap (λ z. all_answers_by z 0 cs) (sym (take_more cs i own l ∙ ap (λ y. take i cs ++ y ∷ []) (sym is)))

pub answers_end : (cs : List ContractCode) (rows : List (List Bool)) (i : ℕ) → length cs ≤ i → rows ≡ all_answers_by (take i cs) 0 cs → rows ≡ all_answers_by cs 0 cs
answers_end cs rows i l h = h ∙ ap (λ z. all_answers_by z 0 cs) (take_all i cs l)

-- what a borrowed part of a list was made, put back
pub put_back : {A : Type 0} (new old : List A) (n : ℕ) → length new ≡ n → length old ≡ n → take n (new ++ drop (length new) old) ≡ new
put_back new old n e f =
    ap (λ z. take n (new ++ z)) (drop_of_length-le old (omega (arith, e, f))) ∙ ap (take n) (append-nil new) ∙ take_all n new (omega (arith, e))

-- Looking up.

row_at : (seen : List ContractCode) (n : ℕ) (cs : List ContractCode) (k : ℕ)
    → slice_get (all_answers_by seen n cs) k ≡ option_map (λ (c : ContractCode). answers_by seen (n + k) c.bodies) (slice_get cs k)
row_at seen n [] zero = refl
row_at seen n [] (suc k) = refl
row_at seen n (c ∷ cs) zero = let e : n ≡ n + 0 = omega arith in ap (λ z. Some (answers_by seen z c.bodies)) e
row_at seen n (c ∷ cs) (suc k) =
    let e : n + 1 + k ≡ n + suc k = omega arith in
    row_at seen (n + 1) cs k ∙ ap (λ z. option_map (λ (c : ContractCode). answers_by seen z c.bodies) (slice_get cs k)) e

-- what stands at a number of a contract and one of its transactions
pub answer_at : (seen cs : List ContractCode) (k tx : ℕ)
    → option_and_then (λ row. slice_get row tx) (slice_get (all_answers_by seen 0 cs) k)
    ≡ option_map (λ (b : BodyCode). list_all (answers_if_implemented (contract_id k) b) seen) (option_and_then (λ (c : ContractCode). slice_get c.bodies tx) (slice_get cs k))
answer_at seen cs k tx = ap (option_and_then (λ row. slice_get row tx)) (row_at seen 0 cs k ∙ ap (λ z. option_map (λ (c : ContractCode). answers_by seen z c.bodies) (slice_get cs k)) from_zero) ∙ by (slice_get cs k)
  where
    from_zero : 0 + k ≡ k
    from_zero = omega arith

    by : (o : Option ContractCode) → option_and_then (λ row. slice_get row tx) (option_map (λ (c : ContractCode). answers_by seen k c.bodies) o)
        ≡ option_map (λ (b : BodyCode). list_all (answers_if_implemented (contract_id k) b) seen) (option_and_then (λ (c : ContractCode). slice_get c.bodies tx) o)
    by None = refl
    by (Some c) = slice_get-map (λ (b : BodyCode). list_all (answers_if_implemented (contract_id k) b) seen) c.bodies tx

-- what a survey says of a transaction
pub answered : (m seen : Image) (rows : List (List Bool)) (c : ContractId) (tx : TxId) (asked : BodyCode) (o : Option Bool) → rows ≡ all_answers_by seen.contracts 0 seen.contracts → seen ≡ m
    → o ≡ option_and_then (λ row. slice_get row tx.0) (slice_get rows c.0) → body_code m c tx ≡ Some asked
    → o ≡ Some (list_all (answers_if_implemented c asked) m.contracts)
answered m seen rows c tx asked o r s a b =
    a ∙ ap (λ z. option_and_then (λ row. slice_get row tx.0) (slice_get z c.0)) (r ∙ ap (λ (z : Image). all_answers_by z.contracts 0 z.contracts) s)
    ∙ answer_at m.contracts m.contracts c.0 tx.0
    ∙ ap (option_map (λ (x : BodyCode). list_all (answers_if_implemented c x) m.contracts)) (by (slice_get m.contracts c.0) ∙ b)
  where
    by : (o : Option ContractCode) → option_and_then (λ (c : ContractCode). slice_get c.bodies tx.0) o ≡ (o >>= λ (c : ContractCode). slice_get c.bodies tx.0)
    by None = refl
    by (Some c) = refl

-- what a survey says of a constructor
pub constructed : (m seen : Image) (places : List (Option ℕ)) (c : ContractId) (own : ContractCode) → places ≡ constructor_places seen.contracts → seen ≡ m → contract_code m c ≡ Some own
    → constructor_code m c ≡ option_and_then (slice_get own.bodies) (option_flatten (slice_get places c.0))
constructed m seen places c own p s e =
    let here : slice_get places c.0 ≡ Some (position is_constructor own.bodies) =
    ap (λ z. slice_get z c.0) (p ∙ ap (λ (z : Image). constructor_places z.contracts) s)
    ∙ slice_get-map (λ (z : ContractCode). position is_constructor z.bodies) m.contracts c.0
    ∙ ap (option_map (λ (z : ContractCode). position is_constructor z.bodies)) e in
    ap (option_and_then (λ (z : ContractCode). find is_constructor z.bodies)) e
    ∙ found_at_place is_constructor own.bodies
    ∙ sym (ap (λ z. option_and_then (slice_get own.bodies) (option_flatten z)) here)

pub ruleset mapped = (mapped_turn, mapped_end)

pub ruleset asking = (asked_turn, asked_length, also_end)

pub ruleset asking_one = (none_asked, one_asked)

pub ruleset asking_all = (answers_turn, answers_end, unasked_yet)
