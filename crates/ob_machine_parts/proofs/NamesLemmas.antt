-- The numbers of names, turn by turn.
use Rattle.std.proofs.Common.{◌≡◌, ℕ, suc, ◌+◌, ◌<◌, ◌≤◌, List, length, drop, get_or, Option, Some, None, true, false, cond, sym, ap, ◌∙◌, refl, arith, add-one, drop-cons, ◌∷◌}
use Rattle.std.specs.Prelude.{option_map}
use Rattle.std.proofs.Math.ListN.{drop_of_length-le}
use Rattle.ob_table_spec.specs.Names.{Name, same, number_of}

-- a number after so many others
abbrev pub after : ℕ → Option ℕ → Option ℕ
after i o = option_map (λ n. i + n) o

after-none : (o : Option ℕ) → after 0 o ≡ o
after-none None = refl
after-none (Some n) = ap Some (omega arith)

after-suc : (i : ℕ) (o : Option ℕ) → after i (option_map suc o) ≡ after (i + 1) o
after-suc i None = refl
after-suc i (Some n) = ap Some (omega arith)

pub numbering_none : (name : Name) (xs : List Name) → number_of name xs ≡ after 0 (number_of name (drop 0 xs))
numbering_none name xs = sym (after-none (number_of name xs))

here : (name : Name) (xs : List Name) (i : ℕ) (x : Name) → i < length xs → x ≡ get_or xs i x
    → number_of name (drop i xs) ≡ cond (same name x) (Some 0) (option_map suc (number_of name (drop (i + 1) xs)))
here name xs i x h is = rw add-one (ap (number_of name) (drop-cons xs i x h ∙ ap (λ y. y ∷ drop (suc i) xs) (sym is)))

-- the name is that of this place
pub numbering_found : (name : Name) (xs : List Name) (i : ℕ) (x : Name) → i < length xs → x ≡ get_or xs i x
    → same name x ≡ true → after i (number_of name (drop i xs)) ≡ Some i
numbering_found name xs i x h is e =
    ap (after i) (here name xs i x h is
    ∙ ap (λ b. cond b (Some 0) (option_map suc (number_of name (drop (i + 1) xs)))) e) ∙ ap Some (omega arith)

-- the name isn't
pub numbering_passed : (name : Name) (xs : List Name) (i : ℕ) (x : Name) → i < length xs → x ≡ get_or xs i x
    → same name x ≡ false → after i (number_of name (drop i xs)) ≡ after (i + 1) (number_of name (drop (i + 1) xs))
numbering_passed name xs i x h is e =
    ap (after i) (here name xs i x h is
    ∙ ap (λ b. cond b (Some 0) (option_map suc (number_of name (drop (i + 1) xs)))) e)
    ∙ after-suc i (number_of name (drop (i + 1) xs))

pub numbering_end : (name : Name) (xs : List Name) (i : ℕ) → length xs ≤ i → after i (number_of name (drop i xs)) ≡ None
numbering_end name xs i h = ap (λ ys. after i (number_of name ys)) (drop_of_length-le xs h)

pub ruleset numbering = (numbering_none, numbering_found, numbering_end)
