-- Terms one after another, and the slots that they name.
use Rattle.std.proofs.Common.{◌≡◌, ℕ, zero, suc, ◌+◌, ◌≤◌, max, Bool, true, false, List, [], ◌∷◌, ◌++◌, refl, ap, arith}
use Rattle.std.specs.Prelude.{if◌then◌else◌, ⊤, nat_le}
use Rattle.std.proofs.lemmas.Bool.{le-leb, leb-true}
use Rattle.ob_base.specs.declared.fault.Span.{Span}
use Rattle.ob_silica.specs.Terms.{SilicaForm, SilicaTerms, no_terms, and_term, one_term, then_terms}
use Rattle.ob_silica.specs.Slots.{slots_of_terms, slots_of_form, slots_of_operands, slots_of_given}
use Rattle.ob_silica.specs.declared.place.Operand.{Operand}
use Rattle.ob_silica.specs.declared.place.Given.{Given}
use Rattle.ob_lower_spec.specs.Forms.{drops}
use Rattle.ob_lower_spec.specs.Points.{Temporary, references}
use Rattle.ob_lower_functions.specs.StatementCode.{slots_between}

pub then_none : (ts : SilicaTerms) → then_terms ts no_terms ≡ ts
then_none no_terms = refl
then_none (and_term form span rest) = ap (and_term form span) (then_none rest)

pub then_on : (a b c : SilicaTerms) → then_terms (then_terms a b) c ≡ then_terms a (then_terms b c)
then_on no_terms b c = refl
then_on (and_term form span rest) b c = ap (and_term form span) (then_on rest b c)

-- Slots.

pub max_most : (a b n : ℕ) → a ≤ n → b ≤ n → max a b ≤ n
max_most a b n la lb = omega arith

pub three_most : (a b c n : ℕ) → a ≤ n → b ≤ n → c ≤ n → max a (max b c) ≤ n
three_most a b c n la lb lc = omega arith

pub slots_then : (a b : SilicaTerms) (n : ℕ) → slots_of_terms a ≤ n → slots_of_terms b ≤ n → slots_of_terms (then_terms a b) ≤ n
slots_then no_terms b n la lb = lb
slots_then (and_term form span rest) b n la lb =
    max_most (slots_of_form form) (slots_of_terms (then_terms rest b)) n (left (slots_of_form form) (slots_of_terms rest) la)
    (slots_then rest b n (right (slots_of_form form) (slots_of_terms rest) la) lb)
  where
    left : (x y : ℕ) → max x y ≤ n → x ≤ n
    left x y le = omega (arith, le)

    right : (x y : ℕ) → max x y ≤ n → y ≤ n
    right x y le = omega (arith, le)

pub slots_one : (form : SilicaForm) (span : Span) (n : ℕ) → slots_of_form form ≤ n → slots_of_terms (one_term form span) ≤ n
slots_one form span n le = max_most (slots_of_form form) 0 n le (omega arith)

pub slots_operands : (xs ys : List Operand) (n : ℕ) → slots_of_operands xs ≤ n → slots_of_operands ys ≤ n → slots_of_operands (xs ++ ys) ≤ n
slots_operands [] ys n lx ly = ly
slots_operands (x ∷ xs) ys n lx ly = let next = slots_operands xs ys n (omega (arith, lx)) ly in omega (arith, lx, next)

pub slots_given : (xs ys : List Given) (n : ℕ) → slots_of_given xs ≤ n → slots_of_given ys ≤ n → slots_of_given (xs ++ ys) ≤ n
slots_given [] ys n lx ly = ly
slots_given (x ∷ xs) ys n lx ly = let next = slots_given xs ys n (omega (arith, lx)) ly in omega (arith, lx, next)

-- Drops.

-- the slots of a list are below this number
abbrev pub EachBelow : ℕ → List ℕ → Type 0
EachBelow n [] = ⊤
EachBelow n (k ∷ ks) = (k + 1 ≤ n) × EachBelow n ks

pub each_append : (n : ℕ) (a b : List ℕ) → EachBelow n a → EachBelow n b → EachBelow n (a ++ b)
each_append n [] b x y = y
each_append n (k ∷ a) b x y = (x.0, each_append n a b x.1 y)

pub slots_drops : (ks : List ℕ) (span : Span) (n : ℕ) → EachBelow n ks → slots_of_terms (drops ks span) ≤ n
slots_drops [] span n each = omega arith
slots_drops (k ∷ ks) span n each = max_most (k + 1) (slots_of_terms (drops ks span)) n each.0 (slots_drops ks span n each.1)

one_append : (t : Temporary) (x y : List Temporary) (b : Bool) → references (x ++ y) ≡ references x ++ references y
    → (if b then t.slot ∷ references (x ++ y) else references (x ++ y)) ≡ (if b then t.slot ∷ references x else references x) ++ references y
one_append t x y true e = ap (λ l. t.slot ∷ l) e
one_append t x y false e = e

pub references_append : (x y : List Temporary) → references (x ++ y) ≡ references x ++ references y
references_append [] y = refl
references_append (t ∷ x) y = one_append t x y t.is_reference (references_append x y)

-- Slots between two numbers.

pub between_none : (n : ℕ) → slots_between n n ≡ []
between_none zero = refl
between_none (suc n) = go (nat_le (suc n) n) refl
  where
    go : (b : Bool) → nat_le (suc n) n ≡ b → (if b then n ∷ slots_between (suc n) n else []) ≡ []
    go false e = refl
    go true e = let le = leb-true (suc n) n e in absurd (no le)
      where
        no : suc n ≤ n → ⊥
        no le = omega (arith, le)

pub between_more : (low n : ℕ) → low ≤ n → slots_between low (suc n) ≡ n ∷ slots_between low n
between_more low n le = ap (λ b. if b then n ∷ slots_between low n else []) (le-leb low n le)

pub between_below : (low n most : ℕ) → n ≤ most → EachBelow most (slots_between low n)
between_below low zero most le = tt
between_below low (suc n) most le = go (nat_le low n) (between_below low n most (omega (arith, le)))
  where
    go : (b : Bool) → EachBelow most (slots_between low n) → EachBelow most (if b then n ∷ slots_between low n else [])
    go true next = (omega (arith, le), next)
    go false next = tt
