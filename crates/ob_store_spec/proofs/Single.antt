-- Formats by which bytes begin with one value at most.
use Rattle.std.proofs.Common.{◌≡◌, ℕ, List, [], ◌∷◌, ◌++◌, length, refl, sym, ◌∙◌, ap, subst, arith, append_assoc}
use Rattle.ob_format_spec.specs.Formats.{Format}
use Rattle.ob_format_spec.specs.Combinators.{number, and_then, ◌⨟◌, of_parts, times, counted, Each, each_bytes}
use Rattle.ob_format_spec.specs.Lawful.{Lawful}
use Rattle.ob_format_spec.proofs.CombinatorLaws.{done_parts}
use Rattle.ob_format_spec.proofs.NumberLaws.{number_lawful}

-- bytes begin with one value at most, and leave one rest
abbrev pub Single : {A : Type 0} → Format A → Type 0
Single {A} f = (x y : A) (r s : List ℕ) → f.fits x → f.fits y → f.bytes x ++ r ≡ f.bytes y ++ s → (x ≡ y) × (r ≡ s)

pub lawful_single : {A : Type 0} (f : Format A) → Lawful f → Single f
lawful_single f a x y r s p q is = done_parts x y r s (sym (a.full x p r) ∙ ap f.read is ∙ a.full y q s)

module _ {A B : Type 0} (f : Format A) (g : A → Format B) (one : Single f) (two : (x : A) → Single (g x)) where
  second : (a b : A) (x y : B) (r s : List ℕ) → a ≡ b → (g a).fits x → (g b).fits y → (g a).bytes x ++ r ≡ (g b).bytes y ++ s → (x ≡ y) × (r ≡ s)
  second a b x y r s same p q is = two a x y r s p (subst (λ (k : A). (g k).fits y) (sym same) q) (is ∙ ap (λ (k : A). (g k).bytes y ++ s) (sym same))

  pub then_single : Single (and_then f g)
  then_single x y r s p q is =
      let first = one x.0 y.0 ((g x.0).bytes x.1 ++ r) ((g y.0).bytes y.1 ++ s) p.0 q.0 (sym (append_assoc (f.bytes x.0) ((g x.0).bytes x.1) r) ∙ is ∙ append_assoc (f.bytes y.0) ((g y.0).bytes y.1) s) in
      let rest = second x.0 y.0 x.1 y.1 r s first.0 p.1 q.1 first.1 in (ap (λ (a : A). (a, x.1)) first.0 ∙ ap (λ (b : B). (y.0, b)) rest.0, rest.1)

pub both_single : {A B : Type 0} (f : Format A) (g : Format B) → Single f → Single g → Single (f ⨟ g)
both_single f g one two = then_single f (λ x. g) one (λ x. two)

pub parts_single : {A P : Type 0} (whole : P → A) (parts : A → P) (f : Format P) → ((x : A) → whole (parts x) ≡ x) → Single f → Single (of_parts whole parts f)
parts_single whole parts f back one x y r s p q is =
    let same = one (parts x) (parts y) r s p q is in (sym (back x) ∙ ap whole same.0 ∙ back y, same.1)

module _ {A : Type 0} (f : Format A) (one : Single f) where
  each_single : (xs ys : List A) (r s : List ℕ) → length xs ≡ length ys → Each f.fits xs → Each f.fits ys → each_bytes f.bytes xs ++ r ≡ each_bytes f.bytes ys ++ s → (xs ≡ ys) × (r ≡ s)
  each_single [] [] r s len p q is = (refl, is)
  each_single [] (y ∷ ys) r s len p q is = absurd (omega (arith, len))
  each_single (x ∷ xs) [] r s len p q is = absurd (omega (arith, len))
  each_single (x ∷ xs) (y ∷ ys) r s len p q is =
      let first = one x y (each_bytes f.bytes xs ++ r) (each_bytes f.bytes ys ++ s) p.0 q.0 (sym (append_assoc (f.bytes x) (each_bytes f.bytes xs) r) ∙ is ∙ append_assoc (f.bytes y) (each_bytes f.bytes ys) s) in
      let rest = each_single xs ys r s (omega (arith, len)) p.1 q.1 first.1 in (ap (λ (a : A). a ∷ xs) first.0 ∙ ap (λ (l : List A). y ∷ l) rest.0, rest.1)

  pub times_single : (n : ℕ) → Single (times f n)
  times_single n xs ys r s p q is = each_single xs ys r s (p.0 ∙ sym q.0) p.1 q.1 is

  pub counted_single : Single (counted f)
  counted_single = parts_single (λ p. p.1) (λ xs. (length xs, xs)) (and_then number (times f)) (λ xs. refl) (then_single number (times f) (lawful_single number number_lawful) times_single)
