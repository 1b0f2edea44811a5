-- What two calls after one another do to what is told.
use Rattle.std.proofs.Common.{ℕ, List, [], ◌++◌, Option, None, Some, refl, sym, ◌∙◌, ap, arith, append_assoc, length-append}
use Rattle.std.proofs.lemmas.List.{append-nil}
use Rattle.ob_io.specs.Told.{Gives, Takes, TakesFrom}
use Rattle.ob_io.specs.Views.{SourceView}

pub gives_none : (a : Option (List ℕ)) → Gives a a []
gives_none None = tt
gives_none (Some xs) = sym (append-nil xs)

pub gives_then : (a b c : Option (List ℕ)) (x y : List ℕ) → Gives a b x → Gives b c y → Gives a c (x ++ y)
gives_then a b None x y p q = tt
gives_then None None (Some zs) x y p q = absurd q
gives_then (Some xs) None (Some zs) x y p q = absurd q
gives_then None (Some ys) (Some zs) x y p q = absurd p
gives_then (Some xs) (Some ys) (Some zs) x y p q = q ∙ ap (λ (l : List ℕ). l ++ y) p ∙ append_assoc xs x y

pub takes_none : (a : Option (List ℕ)) → Takes a a []
takes_none None = tt
takes_none (Some xs) = refl

pub takes_then : (a b c : Option (List ℕ)) (x y : List ℕ) → Takes a b x → Takes b c y → Takes a c (x ++ y)
takes_then None None None x y p q = tt
takes_then None None (Some zs) x y p q = absurd q
takes_then (Some xs) None c x y p q = absurd p
takes_then None (Some ys) c x y p q = absurd p
takes_then (Some xs) (Some ys) None x y p q = absurd q
takes_then (Some xs) (Some ys) (Some zs) x y p q = p ∙ ap (λ (l : List ℕ). x ++ l) q ∙ sym (append_assoc x y zs)

pub takes_from_none : (a : SourceView) → TakesFrom a a []
takes_from_none a = record { told = takes_none a.left; counted = omega arith }

pub takes_from_then : (a b c : SourceView) (x y : List ℕ) → TakesFrom a b x → TakesFrom b c y → TakesFrom a c (x ++ y)
takes_from_then a b c x y p q = record {
  told = takes_then a.left b.left c.left x y p.told q.told;
  counted = omega (arith, p.counted, q.counted, length-append x y);
}
