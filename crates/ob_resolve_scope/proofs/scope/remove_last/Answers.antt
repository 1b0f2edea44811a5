use Rattle.std.proofs.Common.{◌≡◌, ℕ, eqb, true, false, Option, Some, None, map, length, ap, sym, ◌∙◌}
use Rattle.std.specs.Option.{option_eq}
use Rattle.std.proofs.lemmas.Bool.{eqb-true, eq-eqb}
use Rattle.ob_resolve_scope.specs.Numbered.{find, numbered}
use Rattle.ob_resolve_scope.proofs.ScopeLemmas.{last_taken, last_kept}
use Rattle.ob_resolve_scope.proofs.scope.remove_last.Goals as goal

same_some : (o : Option ℕ) (n : ℕ) → true ≡ option_eq eqb o (Some n) → o ≡ Some n
same_some None n h = absurd cc
same_some (Some m) n h = ap Some (eqb-true m n (sym h))

other_some : (o : Option ℕ) (n : ℕ) → false ≡ option_eq eqb o (Some n) → o ≡ Some n → ⊥
other_some None n h e = absurd cc
other_some (Some m) n h e = let z : m ≡ n = cc in let t = eq-eqb m n z in absurd cc

pub returns-then-eq-clause-names : goal.returns-then-eq-clause-names
returns-then-eq-clause-names c =
    let es = c.args.names.now in
    let found : find c.in-Some.variable.name es ≡ Some (length c.pop.new.self) = ap (λ x. find x es)
    (sym c.as_bytes.ensures.bytes) ∙ sym c.find.ensures
    ∙ same_some c.find.result c.len.result (sym c.if-eq.true ∙ c.eq.ensures) ∙ ap Some c.len.ensures in
    rw (c.truncate.ensures, c.saturating_sub.ensures, c.len-then-eq.ensures)
    (last_taken es c.pop.new.self c.in-Some.variable
    (c.requires ∙ ap (λ vs. numbered (map (λ v. v.name) vs)) c.in-Some.ensures) found)

pub returns-in-Some-clause-names : goal.returns-in-Some-clause-names
returns-in-Some-clause-names c =
    let es = c.args.names.now in
    last_kept es c.pop.new.self c.in-Some.variable (c.requires
    ∙ ap (λ vs. numbered (map (λ v. v.name) vs)) c.in-Some.ensures)
    (λ at. other_some c.find.result c.len.result (sym c.if-eq.false ∙ c.eq.ensures)
    (c.find.ensures ∙ ap (λ x. find x es) c.as_bytes.ensures.bytes ∙ at ∙ ap Some (sym c.len.ensures)))
