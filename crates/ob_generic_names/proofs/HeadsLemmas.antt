-- Heads and their states by name.
use Rattle.std.proofs.Common.{◌≡◌, ℕ, ◌+◌, ◌<◌, List, [], ◌∷◌, ◌++◌, Option, Some, None, map, length, take, get_or, refl, sym, ap, ◌∙◌, arith, length-take-le}
use Rattle.std.specs.Prelude.{slice_get, option_map, option_and_then}
use Rattle.std.proofs.lemmas.List.{take_more, map-append, length-map}
use Rattle.std.proofs.lemmas.Option.{slice_get-map}
use Rattle.ob_table_spec.specs.Names.{Name}
use Rattle.ob_resolve_scope.specs.Numbered.{find, added, numbered}
use Rattle.ob_resolve_scope.proofs.NumberedLemmas.{find-numbered, numbered-push, first_named-number}
use Rattle.ob_generic_spec.specs.Heads.{head_named}
use Rattle.ob_generic_spec.specs.Instances.{number_named}
use Rattle.ob_generic_spec.specs.declared.head.Head.{Head}
use Rattle.ob_generic_names.specs.HeadsByName.{AreByName}

-- Loops: one more, numbered by its place.

taken : {X Y : Type 0} (f : X → Y) (xs : List X) (i : ℕ) (x : X) → i < length xs → x ≡ get_or xs i x
    → map f (take (i + 1) xs) ≡ map f (take i xs) ++ f x ∷ []
taken f xs i x h is =
    ap (map f) (take_more xs i x h ∙ ap (λ y. take i xs ++ y ∷ []) (sym is)) ∙ map-append f (take i xs) (x ∷ [])

abbrev pub names_of : List Head → List Name
names_of heads = map (λ h. h.name) heads

pub heads_turn : (heads : List Head) (i : ℕ) (h : Head) → i < length heads → h ≡ get_or heads i h
    → numbered (names_of (take (i + 1) heads)) ≡ added (numbered (names_of (take i heads))) h.name i
heads_turn heads i h lt is =
    ap numbered (taken (λ (x : Head). x.name) heads i h lt is) ∙ numbered-push (names_of (take i heads)) h.name
    ∙ ap (added (numbered (names_of (take i heads))) h.name)
    (length-map (take i heads) (λ (x : Head). x.name) ∙ length-take-le i heads (omega arith))

pub states_turn : (xs : List Name) (i : ℕ) (x : Name) → i < length xs → x ≡ get_or xs i x
    → numbered (take (i + 1) xs) ≡ added (numbered (take i xs)) x i
states_turn xs i x lt is =
    ap numbered (take_more xs i x lt ∙ ap (λ y. take i xs ++ y ∷ []) (sym is)) ∙ numbered-push (take i xs) x
    ∙ ap (added (numbered (take i xs)) x) (length-take-le i xs (omega arith))

pub all_states_turn : (heads : List Head) (i : ℕ) (h : Head) → i < length heads → h ≡ get_or heads i h
    → map (λ x. numbered x.states) (take (i + 1) heads)
    ≡ map (λ x. numbered x.states) (take i heads) ++ numbered h.states ∷ []
all_states_turn heads i h lt is = taken (λ (x : Head). numbered x.states) heads i h lt is

pub ruleset turns = (heads_turn, states_turn, all_states_turn)

-- Look-ups.

pub number_found : (heads : List Head) (names : List (Name × ℕ)) (states : List (List (Name × ℕ))) (name : Name)
    → AreByName heads names states → find name names ≡ number_named heads name
number_found heads names states name t = ap (find name) t.names_are ∙ find-numbered name (names_of heads)

-- the head at a number
pub head_at : (heads : List Head) (name : Name) (o : Option ℕ) → o ≡ number_named heads name
    → option_and_then (slice_get heads) o ≡ head_named heads name
head_at heads name o e =
    ap (option_and_then (slice_get heads)) e ∙ sym (first_named-number (λ (h : Head). h.name) name heads)

-- the states of the first head of a name, with their numbers
abbrev pub states_of : Name → List Head → Option (List (Name × ℕ))
states_of name heads = option_map (λ h. numbered h.states) (head_named heads name)

-- the states at a number
pub states_at : (heads : List Head) (names : List (Name × ℕ)) (states : List (List (Name × ℕ))) (name : Name) (o : Option ℕ)
    → AreByName heads names states → o ≡ number_named heads name
    → option_and_then (slice_get states) o ≡ states_of name heads
states_at heads names states name o t e =
    ap (λ xs. option_and_then (slice_get xs) o) t.states_are ∙ by o
    ∙ ap (option_map (λ h. numbered h.states)) (head_at heads name o e)
  where
    by : (o : Option ℕ)
        → option_and_then (slice_get (map (λ (h : Head). numbered h.states) heads)) o
        ≡ option_map (λ h. numbered h.states) (option_and_then (slice_get heads) o)
    by None = refl
    by (Some n) = slice_get-map (λ (h : Head). numbered h.states) heads n

pub states_none : (heads : List Head) (name : Name) → None ≡ number_named heads name → None ≡ states_of name heads
states_none heads name e = ap (option_map (λ h. numbered h.states)) (head_at heads name None e)

pub ruleset found = (number_found)
