-- Bodies that stand in the order of the class table are found at their numbers.
use Rattle.std.proofs.Common.{◌≡◌, ◌≤◌, ◌<◌, ℕ, zero, suc, ◌+◌, Bool, true, false, nat_eq, List, [], ◌∷◌, ◌++◌, length, map, take, drop, Some, None, refl, sym, ap, ◌∙◌, subst, arith, append_assoc}
use Rattle.std.specs.Prelude.{cond, find, slice_get, ◌&&◌, if◌then◌else◌}
use Rattle.std.specs.List.{range_with_len, AllByRecursion}
use Rattle.std.proofs.lemmas.Bool.{eqb-true}
use Rattle.std.proofs.Math.Dec.{eqb-suc-suc}
use Rattle.ob_table.specs.Tables.{ClassTable}
use Rattle.ob_table.specs.declared.contract.Contract.{Contract}
use Rattle.ob_table.specs.declared.contract.Signature.{Signature}
use Rattle.ob_table_spec.specs.WellFormed.{places_from}
use Rattle.ob_silica.specs.Terms.{SilicaBody}
use Rattle.ob_silica_steps.specs.Configurations.{is_terms_of}
use Rattle.ob_emit_spec.specs.EmittedImages.{tx_id, contract_marks, implements_code, field_code, emitted_body, emitted_bodies, emitted_contract, emitted_contracts}
use Rattle.ob_weight_laws.specs.Bodies.{place_of_terms, StandInOrder, bodies_in_order, contract_in_order, contracts_in_order}

-- Numbers.

same : (n : ℕ) → nat_eq n n ≡ true
same zero = refl
same (suc n) = eqb-suc-suc n n ∙ same n

apart_by : (a b : ℕ) (is : Bool) → nat_eq a b ≡ is → (a ≡ b → ⊥) → nat_eq a b ≡ false
apart_by a b true e other = absurd (other (eqb-true a b e))
apart_by a b false e other = e

apart : (a b : ℕ) → (a ≡ b → ⊥) → nat_eq a b ≡ false
apart a b other = apart_by a b (nat_eq a b) refl other

and_false : (b : Bool) → (b && false) ≡ false
and_false true = refl
and_false false = refl

-- Bodies of other contracts.

-- the bodies are of contracts below a number, or of it and above
abbrev pub Below : ℕ → List SilicaBody → Type 0
Below n = AllByRecursion (λ (b : SilicaBody). b.contract.0 < n)

abbrev pub From : ℕ → List SilicaBody → Type 0
From n = AllByRecursion (λ (b : SilicaBody). n ≤ b.contract.0)

passed : (id tx : ℕ) (front rest : List SilicaBody) → Below id front
    → find (is_terms_of (record { 0 = id }) (tx_id tx)) (front ++ rest) ≡ find (is_terms_of (record { 0 = id }) (tx_id tx)) rest
passed id tx [] rest h = refl
passed id tx (b ∷ front) rest h =
    ap (λ is. cond (is && nat_eq b.tx.0 tx) (Some b) (find (is_terms_of (record { 0 = id }) (tx_id tx)) (front ++ rest)))
    (apart b.contract.0 id (λ e. let k = h.0 in omega (arith, e, k)))
    ∙ passed id tx front rest h.1

none_from : (id tx n : ℕ) (rest : List SilicaBody) → id < n → From n rest
    → find (is_terms_of (record { 0 = id }) (tx_id tx)) rest ≡ None
none_from id tx n [] less h = refl
none_from id tx n (b ∷ rest) less h =
    ap (λ is. cond (is && nat_eq b.tx.0 tx) (Some b) (find (is_terms_of (record { 0 = id }) (tx_id tx)) rest))
    (apart b.contract.0 id (λ e. let k = h.0 in omega (arith, e, k, less)))
    ∙ none_from id tx n rest less h.1

-- Bodies of one contract.

first_part : (a b c d : ℕ) → ◌≡◌ {A = ℕ × ℕ} (a, b) (c, d) → a ≡ c
first_part a b c d e = ap (λ p. p.0) e

second_part : (a b c d : ℕ) → ◌≡◌ {A = ℕ × ℕ} (a, b) (c, d) → b ≡ d
second_part a b c d e = ap (λ p. p.1) e

head_same : {A : Type 0} (x y : A) (xs ys : List A) → x ∷ xs ≡ y ∷ ys → x ≡ y
head_same x y xs ys e = cc

tail_same : {A : Type 0} (x y : A) (xs ys : List A) → x ∷ xs ≡ y ∷ ys → xs ≡ ys
tail_same x y xs ys e = cc

-- a body of this contract is found at its number, where numbers begin with this one
found : (id s j k : ℕ) (mine others : List SilicaBody)
    → map place_of_terms mine ≡ map (λ tx. (id, tx)) (range_with_len s (length mine))
    → ((tx : ℕ) → find (is_terms_of (record { 0 = id }) (tx_id tx)) others ≡ None)
    → k ≡ s + j
    → find (is_terms_of (record { 0 = id }) (tx_id k)) (mine ++ others) ≡ slice_get mine j
found id s j k [] others h none e = none k
found id s zero k (b ∷ mine) others h none e =
    let p = head_same (b.contract.0, b.tx.0) (id, s) (map place_of_terms mine)
    (map (λ tx. (id, tx)) (range_with_len (s + 1) (length mine))) h in
    let c = first_part b.contract.0 b.tx.0 id s p in
    let t = second_part b.contract.0 b.tx.0 id s p in
    ap (λ n. cond (nat_eq n id && nat_eq b.tx.0 k) (Some b) (find (is_terms_of (record { 0 = id }) (tx_id k)) (mine ++ others))) c
    ∙ ap (λ is. cond (is && nat_eq b.tx.0 k) (Some b) (find (is_terms_of (record { 0 = id }) (tx_id k)) (mine ++ others)))
    (same id)
    ∙ ap (λ is. cond is (Some b) (find (is_terms_of (record { 0 = id }) (tx_id k)) (mine ++ others)))
    (ap (λ n. nat_eq n k) (number b.tx.0 s k t e) ∙ same k)
  where
    number : (x s k : ℕ) → x ≡ s → k ≡ s + 0 → x ≡ k
    number x s k a b = omega (arith, a, b)
found id s (suc j) k (b ∷ mine) others h none e =
    let p = head_same (b.contract.0, b.tx.0) (id, s) (map place_of_terms mine)
    (map (λ tx. (id, tx)) (range_with_len (s + 1) (length mine))) h in
    let t = second_part b.contract.0 b.tx.0 id s p in
    ap (λ is. cond (nat_eq b.contract.0 id && is) (Some b) (find (is_terms_of (record { 0 = id }) (tx_id k)) (mine ++ others)))
    (apart b.tx.0 k (other b.tx.0 s k j t e))
    ∙ ap (λ is. cond is (Some b) (find (is_terms_of (record { 0 = id }) (tx_id k)) (mine ++ others)))
    (and_false (nat_eq b.contract.0 id))
    ∙ found id (s + 1) j k mine others
    (tail_same (b.contract.0, b.tx.0) (id, s) (map place_of_terms mine)
    (map (λ tx. (id, tx)) (range_with_len (s + 1) (length mine))) h) none
    (next s k j e)
  where
    other : (x s k j : ℕ) → x ≡ s → k ≡ s + suc j → x ≡ k → ⊥
    other x s k j a b c = omega (arith, a, b, c)

    next : (s k j : ℕ) → k ≡ s + suc j → k ≡ (s + 1) + j
    next s k j a = omega (arith, a)

-- the bodies of a contract from a number on
row : (table : ClassTable) (bodies mine : List SilicaBody) (id : ℕ) (own : Contract) (n : ℕ) (ss : List Signature)
    → ((tx : ℕ) → find (is_terms_of (record { 0 = id }) (tx_id tx)) bodies ≡ slice_get mine tx)
    → emitted_bodies table bodies (record { 0 = id }) own n ss ≡ bodies_in_order table mine (record { 0 = id }) own n ss
row table bodies mine id own n [] h = refl
row table bodies mine id own n (s ∷ ss) h =
    ap (λ b. emitted_body table (record { 0 = id }) own (tx_id n) s b ∷ emitted_bodies table bodies (record { 0 = id }) own
    (n + 1) ss) (h n)
    ∙ ap (λ bs. emitted_body table (record { 0 = id }) own (tx_id n) s (slice_get mine n) ∷ bs)
    (row table bodies mine id own (n + 1) ss h)

-- Contracts.

more_from : (n : ℕ) (bodies : List SilicaBody) → From (n + 1) bodies → From n bodies
more_from n [] h = tt
more_from n (b ∷ bs) h = (let k = h.0 in omega (arith, k), more_from n bs h.1)

both_from : (n : ℕ) (a b : List SilicaBody) → From n a → From n b → From n (a ++ b)
both_from n [] b h k = k
both_from n (x ∷ a) b h k = (h.0, both_from n a b h.1 k)

both_below : (n : ℕ) (a b : List SilicaBody) → Below n a → Below n b → Below n (a ++ b)
both_below n [] b h k = k
both_below n (x ∷ a) b h k = (h.0, both_below n a b h.1 k)

more_below : (n : ℕ) (bodies : List SilicaBody) → Below n bodies → Below (n + 1) bodies
more_below n [] h = tt
more_below n (b ∷ bs) h = (let k = h.0 in omega (arith, k), more_below n bs h.1)

row_from : (id s : ℕ) (mine : List SilicaBody) (m : ℕ) → map place_of_terms mine ≡ map (λ tx. (id, tx)) (range_with_len s m)
    → From id mine
row_from id s [] m h = tt
row_from id s (b ∷ mine) zero h = absurd cc
row_from id s (b ∷ mine) (suc m) h =
    let p = head_same (b.contract.0, b.tx.0) (id, s) (map place_of_terms mine)
    (map (λ tx. (id, tx)) (range_with_len (s + 1) m)) h in
    let c = first_part b.contract.0 b.tx.0 id s p in (
      omega (arith, c),
      row_from id (s + 1) mine m (tail_same (b.contract.0, b.tx.0) (id, s) (map place_of_terms mine)
          (map (λ tx. (id, tx)) (range_with_len (s + 1) m)) h),
    )

row_below : (id s : ℕ) (mine : List SilicaBody) (m : ℕ) → map place_of_terms mine ≡ map (λ tx. (id, tx)) (range_with_len s m)
    → Below (id + 1) mine
row_below id s [] m h = tt
row_below id s (b ∷ mine) zero h = absurd cc
row_below id s (b ∷ mine) (suc m) h =
    let p = head_same (b.contract.0, b.tx.0) (id, s) (map place_of_terms mine)
    (map (λ tx. (id, tx)) (range_with_len (s + 1) m)) h in
    let c = first_part b.contract.0 b.tx.0 id s p in (
      omega (arith, c),
      row_below id (s + 1) mine m (tail_same (b.contract.0, b.tx.0) (id, s) (map place_of_terms mine)
          (map (λ tx. (id, tx)) (range_with_len (s + 1) m)) h),
    )

-- places of two lists, one after the other
record Split (rest : List SilicaBody) (xs ys : List (ℕ × ℕ)) : Type 0 where
  mine : map place_of_terms (take (length xs) rest) ≡ xs
  others : map place_of_terms (drop (length xs) rest) ≡ ys
  whole : take (length xs) rest ++ drop (length xs) rest ≡ rest
  long : length (take (length xs) rest) ≡ length xs

split : (rest : List SilicaBody) (xs ys : List (ℕ × ℕ)) → map place_of_terms rest ≡ xs ++ ys → Split rest xs ys
split rest [] ys h = record { mine = refl; others = h; whole = refl; long = refl }
split [] (x ∷ xs) ys h = absurd cc
split (b ∷ rest) (x ∷ xs) ys h =
    let e = head_same (place_of_terms b) x (map place_of_terms rest) (xs ++ ys) h in
    let r = split rest xs ys (tail_same (place_of_terms b) x (map place_of_terms rest) (xs ++ ys) h) in
    record {
      mine = ap (λ p. p ∷ map place_of_terms (take (length xs) rest)) e ∙ ap (λ l. x ∷ l) r.mine;
      others = r.others;
      whole = ap (λ l. b ∷ l) r.whole;
      long = ap (λ n. suc n) r.long;
    }

length_range : (s m : ℕ) → length (range_with_len s m) ≡ m
length_range s zero = refl
length_range s (suc m) = ap (λ n. suc n) (length_range (s + 1) m)

length_map : {A B : Type 0} (f : A → B) (xs : List A) → length (map f xs) ≡ length xs
length_map f [] = refl
length_map f (x ∷ xs) = ap (λ n. suc n) (length_map f xs)

-- the places of a contract's bodies
abbrev places_if : ℕ → Bool → ℕ → List (ℕ × ℕ)
places_if n interface m = if interface then [] else map (λ tx. (n, tx)) (range_with_len 0 m)

abbrev places_of : ℕ → Contract → List (ℕ × ℕ)
places_of n c = places_if n c.interface (length c.transactions)

count_places : (n : ℕ) (interface : Bool) (m : ℕ) → length (places_if n interface m) ≡ (if interface then 0 else m)
count_places n true m = refl
count_places n false m = length_map (λ tx. (n, tx)) (range_with_len 0 m) ∙ length_range 0 m

places_row : (n : ℕ) (interface : Bool) (m : ℕ) (mine : List SilicaBody)
    → map place_of_terms mine ≡ places_if n interface m
    → map place_of_terms mine ≡ map (λ tx. (n, tx)) (range_with_len 0 (length mine))
places_row n true m [] h = refl
places_row n true m (b ∷ mine) h = absurd cc
places_row n false m mine h = h ∙ ap (λ k. map (λ tx. (n, tx)) (range_with_len 0 k)) (sym long)
  where
    long : length mine ≡ m
    long = sym (length_map place_of_terms mine) ∙ ap length h ∙ length_map (λ tx. (n, tx)) (range_with_len 0 m) ∙ length_range 0 m

-- the bodies of contracts from a number on are of these contracts
all_from : (n : ℕ) (cs : List Contract) (bodies : List SilicaBody) → map place_of_terms bodies ≡ places_from n cs → From n bodies
all_from n [] [] h = tt
all_from n [] (b ∷ bodies) h = absurd cc
all_from n (c ∷ cs) bodies h =
    let s = split bodies (places_of n c) (places_from (n + 1) cs) h in
    let row_is = places_row n c.interface (length c.transactions) (take (length (places_of n c)) bodies) s.mine in
    subst (From n) s.whole
    (both_from n (take (length (places_of n c)) bodies) (drop (length (places_of n c)) bodies)
    (row_from n 0 (take (length (places_of n c)) bodies) (length (take (length (places_of n c)) bodies)) row_is)
    (more_from n (drop (length (places_of n c)) bodies) (all_from (n + 1) cs (drop (length (places_of n c)) bodies) s.others)))

-- one contract more
contract_more : (table : ClassTable) (front rest : List SilicaBody) (n : ℕ) (c : Contract) (cs : List Contract) → Below n front
    → map place_of_terms rest ≡ places_from n (c ∷ cs)
    → ((f r : List SilicaBody) → Below (n + 1) f → map place_of_terms r ≡ places_from (n + 1) cs
    → emitted_contracts table (f ++ r) (n + 1) cs ≡ contracts_in_order table r (n + 1) cs)
    → emitted_contracts table (front ++ rest) n (c ∷ cs) ≡ contracts_in_order table rest n (c ∷ cs)
contract_more table front rest n c cs below h rest_in_order =
    ap (λ code. code ∷ emitted_contracts table (front ++ rest) (n + 1) cs) this
    ∙ ap (λ codes. contract_in_order table mine (record { 0 = n }) c ∷ codes) after
    ∙ ap (λ k. contract_in_order table (take k rest) (record { 0 = n }) c ∷ contracts_in_order table (drop k rest) (n + 1) cs)
    (count_places n c.interface (length c.transactions))
  where
    mine : List SilicaBody
    mine = take (length (places_of n c)) rest

    others : List SilicaBody
    others = drop (length (places_of n c)) rest

    s : Split rest (places_of n c) (places_from (n + 1) cs)
    s = split rest (places_of n c) (places_from (n + 1) cs) h

    row_is : map place_of_terms mine ≡ map (λ tx. (n, tx)) (range_with_len 0 (length mine))
    row_is = places_row n c.interface (length c.transactions) mine s.mine

    none : (tx : ℕ) → find (is_terms_of (record { 0 = n }) (tx_id tx)) others ≡ None
    none tx = none_from n tx (n + 1) others (omega arith) (all_from (n + 1) cs others s.others)

    each : (tx : ℕ) → find (is_terms_of (record { 0 = n }) (tx_id tx)) (front ++ rest) ≡ slice_get mine tx
    each tx =
        passed n tx front rest below
        ∙ ap (λ l. find (is_terms_of (record { 0 = n }) (tx_id tx)) l) (sym s.whole)
        ∙ found n 0 tx tx mine others row_is none (omega arith)

    this : emitted_contract table (front ++ rest) (record { 0 = n }) c ≡ contract_in_order table mine (record { 0 = n }) c
    this = ap (λ bs. record {
      name = c.name;
      flags = contract_marks c;
      implements = implements_code c.implements;
      states = c.states;
      fields = map field_code c.fields;
      bodies = bs;
    }) (row table (front ++ rest) mine n c 0 c.transactions each)

    after : emitted_contracts table (front ++ rest) (n + 1) cs ≡ contracts_in_order table others (n + 1) cs
    after =
        ap (λ l. emitted_contracts table l (n + 1) cs) (ap (λ l. front ++ l) (sym s.whole) ∙ sym (append_assoc front mine others))
        ∙ rest_in_order (front ++ mine) others
        (both_below (n + 1) front mine (more_below n front below) (row_below n 0 mine (length mine) row_is)) s.others

-- the contracts from a number on, after the bodies of those below it
in_order : (table : ClassTable) (front rest : List SilicaBody) (n : ℕ) (cs : List Contract) → Below n front
    → map place_of_terms rest ≡ places_from n cs
    → emitted_contracts table (front ++ rest) n cs ≡ contracts_in_order table rest n cs
in_order table front rest n [] below h = refl
in_order table front rest n (c ∷ cs) below h =
    contract_more table front rest n c cs below h (λ f r b k. in_order table f r (n + 1) cs b k)

-- bodies in the order of the table are found at their numbers
pub found_in_order : (table : ClassTable) (bodies : List SilicaBody) → StandInOrder table bodies
    → emitted_contracts table bodies 0 table.contracts ≡ contracts_in_order table bodies 0 table.contracts
found_in_order table bodies h = in_order table [] bodies 0 table.contracts tt h
