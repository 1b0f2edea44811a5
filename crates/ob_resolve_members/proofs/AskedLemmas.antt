-- The states and transactions that an interface asks of a contract, by name.
use Rattle.std.proofs.Common.{◌≡◌, ℕ, Bool, true, false, List, [], ◌∷◌, ◌++◌, map, length, refl, sym, ap, ◌∙◌, append_assoc}
use Rattle.std.specs.Prelude.{◌&&◌, option_and_then, slice_get, is_some, if◌then◌else◌}
use Rattle.std.specs.Option.{option_map_or}
use Rattle.std.specs.List.{list_all}
use Rattle.std.proofs.lemmas.List.{append-nil, map-append, length-map}
use Rattle.std.proofs.lemmas.List.Folds.{list_all-append}
use Rattle.ob_tree.specs.Members.{Contract}
use Rattle.ob_table_spec.specs.Names.{Name, is_among, number_of, in_order_after, firsts}
use Rattle.ob_resolve_spec.specs.Declarations.{Program, Transaction, transactions_of, transaction_named}
use Rattle.ob_resolve_spec.specs.Interfaces.{has_answer}
use Rattle.ob_resolve_scope.specs.Numbered.{find, is_found, numbered}
use Rattle.ob_resolve_scope.proofs.MembersLemmas.{slice_get-at}
use Rattle.ob_resolve_scope.proofs.NamesLemmas.{within_turn}
use Rattle.ob_resolve_scope.proofs.NumberedLemmas.{numbered-push, within_numbered, first_named-number}
use Rattle.ob_resolve_scope.proofs.TypesLemmas.{contract_at-nodes}
use Rattle.ob_resolve_members.specs.Asked.{asked_at}
use Rattle.ob_resolve_members.proofs.AgreeLemmas.{and_true, all_same, found_is}

-- States.

pub states_within : (own interface : List Name)
    → list_all (is_found (numbered own)) (numbered interface) ≡ list_all (λ state. is_among state own) interface
states_within own interface =
    within_numbered (λ x. is_some (find x (numbered own))) interface
    ∙ all_same (λ x. is_some (find x (numbered own))) (λ x. is_among x own) interface (λ x. found_is x own)

-- Transactions.

-- the transaction of a name stands at its number
pub transaction-numbered : (c : Contract) (name : Name)
    → transaction_named c name
    ≡ option_and_then (slice_get (transactions_of c)) (number_of name (map (λ t. t.name.name) (transactions_of c)))
transaction-numbered c name = first_named-number (λ (t : Transaction). t.name.name) name (transactions_of c)

-- a test of the thing at an entry's number
abbrev holds_at : {A : Type 0} → (A → Bool) → List A → Name × ℕ → Bool
holds_at p xs e = option_map_or p (slice_get xs e.1) true

-- a thing, unless one before it has its name
abbrev unless_before : {A : Type 0} → (A → Name) → List A → A → List A
unless_before name_of before x = if is_among (name_of x) (map name_of before) then [] else x ∷ []

-- the entries of one more thing after these
one_more : {A : Type 0} (name_of : A → Name) (p : A → Bool) (before rest : List A) (x : A)
    → list_all (holds_at p (before ++ x ∷ rest)) (numbered (map name_of (before ++ x ∷ [])))
    ≡ (list_all (holds_at p (before ++ x ∷ rest)) (numbered (map name_of before))
    && list_all p (unless_before name_of before x))
one_more {A} name_of p before rest x =
    ap (λ ns. list_all q (numbered ns)) (map-append name_of before (x ∷ []))
    ∙ ap (list_all q) (numbered-push (map name_of before) (name_of x))
    ∙ by (is_some (find (name_of x) (numbered (map name_of before)))) (found_is (name_of x) (map name_of before))
  where
    q : Name × ℕ → Bool
    q = holds_at p (before ++ x ∷ rest)

    by : (b : Bool) → b ≡ is_among (name_of x) (map name_of before)
        → list_all q (if b then numbered (map name_of before)
        else numbered (map name_of before) ++ (name_of x, length (map name_of before)) ∷ [])
        ≡ (list_all q (numbered (map name_of before)) && list_all p (unless_before name_of before x))
    by true e =
        sym (and_true (list_all q (numbered (map name_of before))))
        ∙ ap (λ b. list_all q (numbered (map name_of before)) && list_all p (if b then [] else x ∷ [])) e
    by false e =
        list_all-append q (numbered (map name_of before)) ((name_of x, length (map name_of before)) ∷ [])
        ∙ ap (λ n. list_all q (numbered (map name_of before)) &&
        (option_map_or p (slice_get (before ++ x ∷ rest) n) true && true)) (length-map before name_of)
        ∙ ap (λ o. list_all q (numbered (map name_of before)) && (option_map_or p o true && true))
        (slice_get-at before rest x)
        ∙ ap (λ b. list_all q (numbered (map name_of before)) && list_all p (if b then [] else x ∷ [])) e

and_assoc : (a b c : Bool) → ((a && b) && c) ≡ (a && (b && c))
and_assoc true b c = refl
and_assoc false b c = refl

entries-from : {A : Type 0} (name_of : A → Name) (p : A → Bool) (before xs : List A)
    → list_all (holds_at p (before ++ xs)) (numbered (map name_of (before ++ xs)))
    ≡ (list_all (holds_at p (before ++ xs)) (numbered (map name_of before))
    && list_all p (in_order_after (unless_before name_of) before xs))
entries-from name_of p before [] =
    ap (λ ys. list_all (holds_at p (before ++ [])) (numbered (map name_of ys))) (append-nil before)
    ∙ sym (and_true (list_all (holds_at p (before ++ [])) (numbered (map name_of before))))
entries-from name_of p before (x ∷ xs) =
    let more = in_order_after (unless_before name_of) (before ++ x ∷ []) xs in
    let q = holds_at p (before ++ x ∷ xs) in
    ap (λ ys. list_all (holds_at p ys) (numbered (map name_of ys))) (sym (append_assoc before (x ∷ []) xs))
    ∙ entries-from name_of p (before ++ x ∷ []) xs
    ∙ ap (λ ys. list_all (holds_at p ys) (numbered (map name_of (before ++ x ∷ []))) && list_all p more)
    (append_assoc before (x ∷ []) xs)
    ∙ ap (λ b. b && list_all p more) (one_more name_of p before xs x)
    ∙ and_assoc (list_all q (numbered (map name_of before))) (list_all p (unless_before name_of before x))
    (list_all p more)
    ∙ ap (λ b. list_all q (numbered (map name_of before)) && b)
    (sym (list_all-append p (unless_before name_of before x) more))

-- what holds of the thing at each name's number holds of the first of each name
pub entries-firsts : {A : Type 0} (name_of : A → Name) (p : A → Bool) (xs : List A)
    → list_all (holds_at p xs) (numbered (map name_of xs)) ≡ list_all p (firsts name_of xs)
entries-firsts name_of p xs = entries-from name_of p [] xs

pub transactions-asked : (program : Program) (interface own : Contract)
    → list_all (asked_at program interface own) (numbered (map (λ t. t.name.name) (transactions_of interface)))
    ≡ list_all (has_answer program interface own) (firsts (λ t. t.name.name) (transactions_of interface))
transactions-asked program interface own =
    entries-firsts (λ (t : Transaction). t.name.name) (has_answer program interface own) (transactions_of interface)

pub ruleset asking = (states_within, transaction-numbered, transactions-asked, within_turn, contract_at-nodes)
