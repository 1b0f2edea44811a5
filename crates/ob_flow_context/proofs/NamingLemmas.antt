-- The numbers of names, turn by turn.
use Rattle.std.proofs.Common.{◌≡◌, ℕ, suc, ◌+◌, ◌<◌, ◌≤◌, List, [], ◌∷◌, length, drop, get_or, Option, Some, None, Bool, true, false, cond, refl, sym, ap, ◌∙◌, arith, add-one, drop-cons}
use Rattle.std.specs.Prelude.{option_map, IfSome}
use Rattle.std.proofs.lemmas.List.{length-map}
use Rattle.std.proofs.lemmas.List.Elements.{All-map}
use Rattle.std.proofs.Math.ListN.{drop_of_length-le}
use Rattle.ob_base.specs.declared.id.StateId.{StateId}
use Rattle.ob_table.specs.declared.contract.Contract.{Contract}
use Rattle.ob_perm.specs.Naming.{IsNaming}
use Rattle.ob_table_spec.specs.Names.{Name, same, number_of}
use Rattle.ob_table_spec.specs.Conditions.{naming}

-- a number after so many others
abbrev pub after : ℕ → Option ℕ → Option ℕ
after i o = option_map (λ n. i + n) o

after-none : (o : Option ℕ) → after 0 o ≡ o
after-none None = refl
after-none (Some n) = ap Some (omega arith)

after-suc : (i : ℕ) (o : Option ℕ) → after i (option_map suc o) ≡ after (i + 1) o
after-suc i None = refl
after-suc i (Some n) = ap Some (omega arith)

pub numbering_none : (name : Name) (xs : List Name) → number_of name xs ≡ after 0 (number_of name (drop 0 xs))
numbering_none name xs = sym (after-none (number_of name xs))

here : (name : Name) (xs : List Name) (i : ℕ) (x : Name) → i < length xs → x ≡ get_or xs i x
    → number_of name (drop i xs) ≡ cond (same name x) (Some 0) (option_map suc (number_of name (drop (i + 1) xs)))
here name xs i x h is = rw add-one (ap (number_of name) (drop-cons xs i x h ∙ ap (λ y. y ∷ drop (suc i) xs) (sym is)))

-- the name is that of this place
pub numbering_found : (name : Name) (xs : List Name) (i : ℕ) (x : Name) → i < length xs → x ≡ get_or xs i x
    → same name x ≡ true → after i (number_of name (drop i xs)) ≡ Some i
numbering_found name xs i x h is e =
    ap (after i) (here name xs i x h is
    ∙ ap (λ b. cond b (Some 0) (option_map suc (number_of name (drop (i + 1) xs)))) e) ∙ ap Some (omega arith)

-- the name isn't
pub numbering_passed : (name : Name) (xs : List Name) (i : ℕ) (x : Name) → i < length xs → x ≡ get_or xs i x
    → same name x ≡ false → after i (number_of name (drop i xs)) ≡ after (i + 1) (number_of name (drop (i + 1) xs))
numbering_passed name xs i x h is e =
    ap (after i) (here name xs i x h is
    ∙ ap (λ b. cond b (Some 0) (option_map suc (number_of name (drop (i + 1) xs)))) e)
    ∙ after-suc i (number_of name (drop (i + 1) xs))

pub numbering_end : (name : Name) (xs : List Name) (i : ℕ) → length xs ≤ i → after i (number_of name (drop i xs)) ≡ None
numbering_end name xs i h = ap (λ ys. after i (number_of name ys)) (drop_of_length-le xs h)

-- A number of a name is below how many there are.

abbrev below : ℕ → Option ℕ → Type 0
below n o = IfSome o (λ k. k < n)

below_suc : (n : ℕ) (o : Option ℕ) → below n o → below (suc n) (option_map suc o)
below_suc n None h = h
below_suc n (Some k) h = omega (arith, h)

first_or : (n : ℕ) (o : Option ℕ) (b : Bool) → below n o → below (suc n) (cond b (Some 0) (option_map suc o))
first_or n o true h = omega arith
first_or n o false h = below_suc n o h

number_below : (name : Name) (xs : List Name) → below (length xs) (number_of name xs)
number_below name [] = tt
number_below name (x ∷ xs) = first_or (length xs) (number_of name xs) (same name x) (number_below name xs)

numbered_below : (n : ℕ) (o : Option ℕ) → n ≤ 32 → below n o
    → IfSome (option_map (λ k. record { 0 = k }) o) (λ (s : StateId). s.0 < 32)
numbered_below n None few h = tt
numbered_below n (Some k) few h = omega (arith, h)

pub is_naming : (interface c : Contract) → length interface.states ≤ 32 → length c.states ≤ 32
    → IsNaming (naming interface c)
is_naming interface c few own = record {
  of_contract = rw length-map own;
  of_interface = All-map (λ (name : Option StateId). IfSome name (λ k. k.0 < 32)) _ c.states
      (λ k d h. numbered_below (length interface.states) (number_of (get_or c.states k d) interface.states) few
      (number_below (get_or c.states k d) interface.states));
}

pub ruleset numbering = (numbering_none, numbering_found, numbering_passed, numbering_end, is_naming)
