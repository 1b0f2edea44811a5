-- Bytes with the layout of more tokens after them.
use Rattle.std.specs.Prelude.{ℕ, ◌≡◌, List, [], ◌∷◌, ◌++◌, refl}
use Rattle.std.proofs.Common.{◌+◌, ◌<◌, ◌≤◌, map, arith, length, get_or, drop, ap, sym, ◌∙◌, append_assoc, append-nil}
use Rattle.std.proofs.lemmas.List.{at_drop_more, drop_all}
use Rattle.std.proofs.lemmas.List.Concat.{flat_map-append}
use Rattle.ob_lexer.specs.declared.token.TokenKind.{TokenKind}
use Rattle.ob_tree.specs.ExprsView.{expr_views}
use Rattle.ob_tree.specs.StmtsView.{stmt_of-Declare, stmt_of-Assign, stmt_of-Stage, stmt_of-Change, stmt_of-Call, stmt_of-Test, stmt_of-If, stmt_of-While, stmt_of-Return, stmt_of-Revert, stmt_of-Disown, stmt_of-Assert, block_of-fields}
use Rattle.ob_tree.specs.MembersView.{views}
use Rattle.ob_tree_print.specs.NameTokens.{if_empty}
use Rattle.ob_tree_print.specs.Layout.{laid_out, layout}

-- the layout of one token after bytes
unfoldable pub with_token : List ℕ → TokenKind → List ℕ
with_token bytes token = bytes ++ laid_out token

-- the layout of tokens after bytes
unfoldable pub written : List ℕ → List TokenKind → List ℕ
written bytes tokens = bytes ++ layout tokens

pub written-none : (bytes : List ℕ) → written bytes [] ≡ bytes
unfolding written
written-none bytes = append-nil bytes

pub written-cons : (bytes : List ℕ) (x : TokenKind) (xs : List TokenKind) → written bytes (x ∷ xs) ≡ written (with_token bytes x) xs
unfolding written with_token
written-cons bytes x xs = sym (append_assoc bytes (laid_out x) (layout xs))

pub written-append : (bytes : List ℕ) (xs ys : List TokenKind) → written bytes (xs ++ ys) ≡ written (written bytes xs) ys
unfolding written
written-append bytes xs ys = ap (λ more. bytes ++ more) (flat_map-append laid_out xs ys) ∙ sym (append_assoc bytes (layout xs) (layout ys))

pub written-into_nothing : (tokens : List TokenKind) → written [] tokens ≡ layout tokens
unfolding written
written-into_nothing tokens = refl

pub ruleset writes = (written-none, written-cons, written-append)

pub ruleset prints = (views, writes)

-- the same for the parts of a tree one by one
pub ruleset expr_prints = (expr_views, writes)

pub ruleset block_prints = (block_of-fields, writes)

pub ruleset stmt_prints = (stmt_of-Declare, stmt_of-Assign, stmt_of-Stage, stmt_of-Change, stmt_of-Call, stmt_of-Test, stmt_of-If, stmt_of-While, stmt_of-Return, stmt_of-Revert, stmt_of-Disown, stmt_of-Assert, writes)

pub if_empty-none : {A : Type 0} (xs : List A) (none some : List TokenKind) → length xs < 1 → if_empty xs none some ≡ none
unfolding if_empty
if_empty-none [] none some few = refl
if_empty-none (x ∷ xs) none some few = absurd (omega arith)

pub if_empty-some : {A : Type 0} (xs : List A) (none some : List TokenKind) → 1 ≤ length xs → if_empty xs none some ≡ some
unfolding if_empty
if_empty-some [] none some many = absurd (omega arith)
if_empty-some (x ∷ xs) none some many = refl

pub if_empty-map : {A B : Type 0} (f : A → B) (xs : List A) (none some : List TokenKind) → if_empty (map f xs) none some ≡ if_empty xs none some
unfolding if_empty
if_empty-map f [] none some = refl
if_empty-map f (x ∷ xs) none some = refl

pub ruleset choices = (writes, if_empty-none, if_empty-some, if_empty-map)

-- what is left of a list at one of its elements
pub drop_one : {X : Type 0} (xs : List X) (i : ℕ) (x : X) → i < length xs → x ≡ get_or xs i x → drop i xs ≡ x ∷ drop (i + 1) xs
drop_one xs i x within is = at_drop_more (λ ys. ys) xs i x within ∙ ap (λ y. y ∷ drop (i + 1) xs) (sym is)

pub ruleset turns = (writes, drop_one, drop_all)

pub ruleset starts = (written-into_nothing)
