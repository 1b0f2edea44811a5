-- Permissions that agree, by the names of the states in them.
use Rattle.std.proofs.Common.{◌≡◌, ℕ, ◌+◌, ◌<◌, Bool, true, false, List, [], ◌∷◌, ◌++◌, map, length, take, get_or, refl, sym, ap, arith, ◌∙◌}
use Rattle.std.specs.Prelude.{◌&&◌, ◌||◌, not, is_some, if◌then◌else◌}
use Rattle.std.specs.List.{list_all}
use Rattle.std.proofs.lemmas.List.{map-append, take_more, length-map, length-take-le}
use Rattle.std.proofs.lemmas.List.Folds.{list_all-append}
use Rattle.std.specs.Cmp.Lexicographic.{same_text}
use Rattle.ob_base.specs.declared.fault.Span.{Span}
use Rattle.ob_base.specs.declared.permission.Mode.{Mode}
use Rattle.ob_base.specs.declared.permission.Mode.TheVariants.{Owned, Shared, Unowned}
use Rattle.ob_tree.specs.Members.{Contract}
use Rattle.ob_tree.specs.declared.name.NamePart.{NamePart}
use Rattle.ob_tree.specs.declared.name.PermNode.TheVariants.{Mode as mode_node, States as states_node}
use Rattle.ob_table_spec.specs.Names.{Name, same, is_among}
use Rattle.ob_resolve_spec.specs.Declarations.{state_names}
use Rattle.ob_resolve_spec.specs.Permissions.{as_shared, as_unowned, as_owner, as_owner_in, written_permission, Situation, in_state, in_other_state, in_no_state, other_situations, situations, allows, same_mode, same_answer, agree}
use Rattle.ob_resolve_scope.specs.Numbered.{find, is_found, added, numbered}
use Rattle.ob_resolve_scope.proofs.NumberedLemmas.{same-refl, find-numbered, numbered-push, number_of-is_some, within_numbered, numbered-none}
use Rattle.ob_resolve_members.specs.Written.{written_mode, agree_with_mode, is_kept}

-- Lists.

all_true : {A : Type 0} (p : A → Bool) (xs : List A) → ((x : A) → p x ≡ true) → list_all p xs ≡ true
all_true p [] h = refl
all_true p (x ∷ xs) h = ap (λ b. b && list_all p xs) (h x) ∙ all_true p xs h

pub all_same : {A : Type 0} (p q : A → Bool) (xs : List A) → ((x : A) → p x ≡ q x) → list_all p xs ≡ list_all q xs
all_same p q [] h = refl
all_same p q (x ∷ xs) h = ap (λ b. b && list_all p xs) (h x) ∙ ap (λ b. q x && b) (all_same p q xs h)

all_map : {A B : Type 0} (p : B → Bool) (f : A → B) (xs : List A) → list_all p (map f xs) ≡ list_all (λ x. p (f x)) xs
all_map p f [] = refl
all_map p f (x ∷ xs) = ap (λ b. p (f x) && b) (all_map p f xs)

and_first : (a b : Bool) → (a && b) ≡ true → a ≡ true
and_first true b h = refl
and_first false b h = h

and_second : (a b : Bool) → (a && b) ≡ true → b ≡ true
and_second true b h = h
and_second false b h = absurd cc

both_ways : (a b : Bool) → (a ≡ true → b ≡ true) → (b ≡ true → a ≡ true) → a ≡ b
both_ways true true f g = refl
both_ways true false f g = sym (f refl)
both_ways false true f g = g refl
both_ways false false f g = refl

-- what holds of each name holds of one among them
pub all_at : (p : Name → Bool) (xs : List Name) (x : Name) → list_all p xs ≡ true → is_among x xs ≡ true → p x ≡ true
all_at p [] x h a = absurd cc
all_at p (y ∷ xs) x h a = by (same x y) refl (all_at p xs x (and_second (p y) (list_all p xs) h)) a
  where
    by : (b : Bool) → same x y ≡ b → (is_among x xs ≡ true → p x ≡ true) → (b || is_among x xs) ≡ true → p x ≡ true
    by true s rest a = ap p (same_text x y (sym s)) ∙ and_first (p y) (list_all p xs) h
    by false s rest a = rest a

or_second : (a b : Bool) → b ≡ true → (a || b) ≡ true
or_second true b h = refl
or_second false b h = h

-- what holds of each one among the names holds of all
all_from : (p : Name → Bool) (xs : List Name) → ((x : Name) → is_among x xs ≡ true → p x ≡ true) → list_all p xs ≡ true
all_from p [] h = refl
all_from p (x ∷ xs) h =
    ap (λ b. b && list_all p xs) (h x (ap (λ b. b || is_among x xs) (same-refl x)))
    ∙ all_from p xs (λ y a. h y (or_second (same y x) (is_among y xs) a))

-- Two rows of states.

-- in each of a contract's states both rows have it or neither has
abbrev same_in : List Name → List Name → Name → Bool
same_in xs ys s = same_answer (is_among s xs) (is_among s ys)

-- a name is among the others, if the contract has it
abbrev kept_in : List Name → List Name → Name → Bool
kept_in own ys x = not (is_among x own) || is_among x ys

answers_true : (b : Bool) → same_answer true b ≡ true → b ≡ true
answers_true b h = h

kept : (own xs ys : List Name) → list_all (same_in xs ys) own ≡ true → (x : Name) → is_among x xs ≡ true
    → kept_in own ys x ≡ true
kept own xs ys h x a = by (is_among x own) refl
  where
    by : (b : Bool) → is_among x own ≡ b → (not b || is_among x ys) ≡ true
    by false e = refl
    by true e = sym (ap (λ c. same_answer c (is_among x ys)) a) ∙ all_at (same_in xs ys) own x h e

same_back : (a b : Bool) → same_answer a b ≡ true → same_answer b a ≡ true
same_back true true h = refl
same_back true false h = h
same_back false true h = h
same_back false false h = refl

swapped : (own xs ys : List Name) → list_all (same_in xs ys) own ≡ true → list_all (same_in ys xs) own ≡ true
swapped own xs ys h = all_from (same_in ys xs) own (λ s a. same_back (is_among s xs) (is_among s ys)
    (all_at (same_in xs ys) own s h a))

both_kept : (own xs ys : List Name)
    → list_all (same_in xs ys) own ≡ (list_all (kept_in own ys) xs && list_all (kept_in own xs) ys)
both_kept own xs ys = both_ways (list_all (same_in xs ys) own)
    (list_all (kept_in own ys) xs && list_all (kept_in own xs) ys) there back
  where
    there : list_all (same_in xs ys) own ≡ true → (list_all (kept_in own ys) xs && list_all (kept_in own xs) ys) ≡ true
    there h =
        ap (λ b. b && list_all (kept_in own xs) ys) (all_from (kept_in own ys) xs (kept own xs ys h))
        ∙ all_from (kept_in own xs) ys (kept own ys xs (swapped own xs ys h))

    at : (s : Name) (a b : Bool) → is_among s xs ≡ a → is_among s ys ≡ b → is_among s own ≡ true
        → list_all (kept_in own ys) xs ≡ true → list_all (kept_in own xs) ys ≡ true → same_answer a b ≡ true
    at s true true e f o h k = refl
    at s true false e f o h k = sym f ∙ sym (ap (λ c. not c || is_among s ys) o) ∙ all_at (kept_in own ys) xs s h e
    at s false true e f o h k = sym e ∙ sym (ap (λ c. not c || is_among s xs) o) ∙ all_at (kept_in own xs) ys s k f
    at s false false e f o h k = refl

    back : (list_all (kept_in own ys) xs && list_all (kept_in own xs) ys) ≡ true → list_all (same_in xs ys) own ≡ true
    back h =
        all_from (same_in xs ys) own
        (λ s o. at s (is_among s xs) (is_among s ys) refl refl o
        (and_first (list_all (kept_in own ys) xs) (list_all (kept_in own xs) ys) h)
        (and_second (list_all (kept_in own ys) xs) (list_all (kept_in own xs) ys) h))

pub and_true : (b : Bool) → (b && true) ≡ b
and_true true = refl
and_true false = refl

others_same : (c : Contract) (xs ys states : List Name)
    → list_all (λ s. same_answer (allows (as_owner_in xs) s) (allows (as_owner_in ys) s)) (other_situations c states)
    ≡ true
others_same c xs ys [] = by c.interface
  where
    by : (b : Bool) → list_all (λ s. same_answer (allows (as_owner_in xs) s) (allows (as_owner_in ys) s))
        ((if b then in_other_state ∷ [] else []) ++ in_no_state ∷ []) ≡ true
    by true = refl
    by false = refl
others_same c xs ys (state ∷ states) = by c.interface
  where
    by : (b : Bool) → list_all (λ s. same_answer (allows (as_owner_in xs) s) (allows (as_owner_in ys) s))
        (if b then in_other_state ∷ [] else []) ≡ true
    by true = refl
    by false = refl

agree-states : (c : Contract) (xs ys : List Name) → agree c (as_owner_in xs) (as_owner_in ys)
    ≡ (list_all (kept_in (state_names c) ys) xs && list_all (kept_in (state_names c) xs) ys)
agree-states c xs ys =
    let test : Situation → Bool = λ s. same_answer (allows (as_owner_in xs) s) (allows (as_owner_in ys) s) in
    list_all-append test (map in_state (state_names c)) (other_situations c (state_names c))
    ∙ ap (λ b. list_all test (map in_state (state_names c)) && b) (others_same c xs ys (state_names c))
    ∙ and_true (list_all test (map in_state (state_names c)))
    ∙ all_map test in_state (state_names c)
    ∙ both_kept (state_names c) xs ys

pub found_is : (x : Name) (xs : List Name) → is_some (find x (numbered xs)) ≡ is_among x xs
found_is x xs = ap is_some (find-numbered x xs) ∙ number_of-is_some x xs

abbrev names_in : List NamePart → List Name
names_in states = map (λ s. s.name) states

kept_lists : (own ys : List Name) (states : List NamePart)
    → list_all (is_kept (numbered own) (numbered ys)) states ≡ list_all (kept_in own ys) (names_in states)
kept_lists own ys states =
    all_same (is_kept (numbered own) (numbered ys)) (λ s. kept_in own ys s.name) states
    (λ s. ap (λ b. not b || is_some (find s.name (numbered ys))) (found_is s.name own)
    ∙ ap (λ b. not (is_among s.name own) || b) (found_is s.name ys))
    ∙ sym (all_map (kept_in own ys) (λ (s : NamePart). s.name) states)

-- two rows of states agree where each keeps within the other
pub agree_lists : (c : Contract) (states others : List NamePart)
    → agree c (as_owner_in (names_in states)) (as_owner_in (names_in others))
    ≡ (list_all (is_kept (numbered (state_names c)) (numbered (names_in others))) states
    && list_all (is_kept (numbered (state_names c)) (numbered (names_in states))) others)
agree_lists c states others =
    agree-states c (names_in states) (names_in others)
    ∙ ap (λ b. b && list_all (kept_in (state_names c) (names_in states)) (names_in others))
    (sym (kept_lists (state_names c) (names_in others) states))
    ∙ ap (λ b. list_all (is_kept (numbered (state_names c)) (numbered (names_in others))) states && b)
    (sym (kept_lists (state_names c) (names_in states) others))

pub agree_kept : (c : Contract) (states others : List NamePart) (own first second : List (Name × ℕ)) (a b : Bool)
    → own ≡ numbered (state_names c) → first ≡ numbered (names_in states) → second ≡ numbered (names_in others)
    → a ≡ list_all (is_kept own second) states → b ≡ list_all (is_kept own first) others
    → (a && b) ≡ agree c (as_owner_in (names_in states)) (as_owner_in (names_in others))
agree_kept c states others own first second a b o f s p q =
    rw (p, q, o, f, s) (sym (agree_lists c states others))

-- An owner that knows no more.

or_nothing : (b : Bool) → (b && false) ≡ false
or_nothing true = refl
or_nothing false = refl

others_none : (c : Contract) (xs : List Name) → list_all (allows (as_owner_in xs)) (other_situations c []) ≡ false
others_none c xs = by c.interface
  where
    by : (b : Bool) → list_all (allows (as_owner_in xs)) ((if b then in_other_state ∷ [] else []) ++ in_no_state ∷ [])
        ≡ false
    by true = refl
    by false = refl

others_of_interface : (c : Contract) (xs states : List Name) → c.interface ≡ true
    → list_all (allows (as_owner_in xs)) (other_situations c states) ≡ false
others_of_interface c xs [] i = others_none c xs
others_of_interface c xs (s ∷ states) i = ap (λ b. list_all (allows (as_owner_in xs))
    (if b then in_other_state ∷ [] else [])) i

others_of_contract : (c : Contract) (xs states : List Name) → c.interface ≡ false → (states ≡ [] → ⊥)
    → list_all (allows (as_owner_in xs)) (other_situations c states) ≡ true
others_of_contract c xs [] i h = absurd (h refl)
others_of_contract c xs (s ∷ states) i h = ap (λ b. list_all (allows (as_owner_in xs))
    (if b then in_other_state ∷ [] else [])) i

in_all : (c : Contract) (xs : List Name) (b : Bool)
    → list_all (allows (as_owner_in xs)) (other_situations c (state_names c)) ≡ b
    → list_all (allows (as_owner_in xs)) (situations c) ≡ (list_all (λ x. is_among x xs) (state_names c) && b)
in_all c xs b e =
    list_all-append (allows (as_owner_in xs)) (map in_state (state_names c)) (other_situations c (state_names c))
    ∙ ap (λ t. list_all (allows (as_owner_in xs)) (map in_state (state_names c)) && t) e
    ∙ ap (λ t. t && b) (all_map (allows (as_owner_in xs)) in_state (state_names c))

pub anywhere-interface : (c : Contract) (xs : List Name) → c.interface ≡ true
    → list_all (allows (as_owner_in xs)) (situations c) ≡ false
anywhere-interface c xs i =
    in_all c xs false (others_of_interface c xs (state_names c) i)
    ∙ or_nothing (list_all (λ x. is_among x xs) (state_names c))

pub anywhere-stateless : (c : Contract) (xs : List Name) → length (numbered (state_names c)) ≡ 0
    → list_all (allows (as_owner_in xs)) (situations c) ≡ false
anywhere-stateless c xs n =
    in_all c xs false (ap (λ states. list_all (allows (as_owner_in xs)) (other_situations c states))
    (numbered-none (state_names c) n) ∙ others_none c xs)
    ∙ or_nothing (list_all (λ x. is_among x xs) (state_names c))

pub anywhere-within : (c : Contract) (xs : List Name) → c.interface ≡ false
    → (length (numbered (state_names c)) ≡ 0 → ⊥)
    → list_all (allows (as_owner_in xs)) (situations c) ≡ list_all (is_found (numbered xs)) (numbered (state_names c))
anywhere-within c xs i n =
    in_all c xs true (others_of_contract c xs (state_names c) i (λ e. n (ap (λ states. length (numbered states)) e)))
    ∙ and_true (list_all (λ x. is_among x xs) (state_names c))
    ∙ all_same (λ x. is_among x xs) (λ x. is_some (find x (numbered xs))) (state_names c) (λ x. sym (found_is x xs))
    ∙ sym (within_numbered (λ x. is_some (find x (numbered xs))) (state_names c))

-- Modes.

pub agree-modes : (c : Contract) (mode other : Mode) (span second : Span)
    → agree c (written_permission (mode_node mode span)) (written_permission (mode_node other second))
    ≡ same_mode (written_mode mode) (written_mode other)
agree-modes c Owned Owned span second = all_true (λ s. same_answer (allows as_owner s) (allows as_owner s))
    (situations c) (λ s. refl)
agree-modes c Owned Shared span second = refl
agree-modes c Owned Unowned span second = refl
agree-modes c Shared Owned span second = refl
agree-modes c Shared Shared span second = all_true (λ s. same_answer (allows as_shared s) (allows as_shared s))
    (situations c) (λ s. refl)
agree-modes c Shared Unowned span second = refl
agree-modes c Unowned Owned span second = refl
agree-modes c Unowned Shared span second = refl
agree-modes c Unowned Unowned span second = all_true (λ s. same_answer (allows as_unowned s) (allows as_unowned s))
    (situations c) (λ s. refl)

pub agree-mode-states : (c : Contract) (mode : Mode) (span : Span) (states : List NamePart)
    → agree c (written_permission (mode_node mode span)) (written_permission (states_node states))
    ≡ agree_with_mode c mode (names_in states)
agree-mode-states c Owned span states = refl
agree-mode-states c Shared span states = refl
agree-mode-states c Unowned span states = refl

answer_true : (b : Bool) → same_answer b true ≡ b
answer_true true = refl
answer_true false = refl

pub agree-states-mode : (c : Contract) (mode : Mode) (span : Span) (states : List NamePart)
    → agree c (written_permission (states_node states)) (written_permission (mode_node mode span))
    ≡ agree_with_mode c mode (names_in states)
agree-states-mode c Owned span states =
    all_same (λ s. same_answer (allows (as_owner_in (names_in states)) s) (allows as_owner s))
    (allows (as_owner_in (names_in states))) (situations c)
    (λ s. answer_true (allows (as_owner_in (names_in states)) s))
agree-states-mode c Shared span states = refl
agree-states-mode c Unowned span states = refl

-- A loop's turn.

pub names_turn : (xs : List NamePart) (i : ℕ) (x : NamePart) → i < length xs → x ≡ get_or xs i x
    → numbered (names_in (take (i + 1) xs)) ≡ added (numbered (names_in (take i xs))) x.name i
names_turn xs i x h is =
    ap (λ ys. numbered (names_in ys)) (take_more xs i x h ∙ ap (λ y. take i xs ++ y ∷ []) (sym is))
    ∙ ap numbered (map-append (λ (s : NamePart). s.name) (take i xs) (x ∷ []))
    ∙ numbered-push (names_in (take i xs)) x.name
    ∙ ap (added (numbered (names_in (take i xs))) x.name)
    (length-map (take i xs) (λ (s : NamePart). s.name) ∙ length-take-le i xs (omega arith))

pub ruleset agreeing = (names_turn, agree_lists, anywhere-interface, anywhere-stateless, anywhere-within, agree-modes, agree-mode-states, agree-states-mode)
