-- The rounds come to an end, and what they find is the least list of all that give nothing new.
use Rattle.std.proofs.Common.{◌≡◌, ℕ, ◌≤◌, ◌⊎◌, inl, inr, Bool, true, false, not, ◌||◌, nat_lt, if◌then◌else◌, List, [], ◌∷◌, ◌++◌, Option, Some, None, refl, ap, sym, ◌∙◌, subst, length, take, zero, suc, append_assoc, append-nil, length-append, arith}
use Rattle.std.specs.List.{flat_map}
use Rattle.ob_base.specs.Limits.{most_instances, most_noted}
use Rattle.ob_resolve_spec.specs.Declarations.{Program}
use Rattle.ob_generic_spec.specs.Heads.{heads_of}
use Rattle.ob_generic_spec.specs.Instances.{is_known, with_instance, with_needed, short_one, instance_of, type_of_use, Visit, after_visit, after_visits, plain_visits, instance_visits, visits, needed_by, round, rounds, instances_of, AreInstances}
use Rattle.ob_generic_spec.specs.declared.instance.Instance.{Instance}
use Rattle.ob_generic_laws.proofs.Lists.{flat_map-append}
use Rattle.ob_generic_laws.proofs.Prefixes.{Starts, starts_self, starts_trans, starts_full, starts_both, starts_take}

-- what is known stays, whatever is met

with_instance_starts : (known : List Instance) (x : Instance) → Starts known (with_instance known x)
with_instance_starts known x = by (is_known known x.name || not (nat_lt (length known) most_noted))
  where
    by : (b : Bool) → Starts known (if b then known else known ++ x ∷ [])
    by true = starts_self known
    by false = (x ∷ [], refl)

with_needed_starts : (known : List Instance) (o : Option Instance) → Starts known (with_needed known o)
with_needed_starts known None = starts_self known
with_needed_starts known (Some x) = with_instance_starts known x

pub after_visits_starts : (known : List Instance) (vs : List Visit) → Starts known (after_visits known vs)
after_visits_starts known [] = starts_self known
after_visits_starts known (v ∷ vs) =
    starts_trans known (after_visit known v) (after_visits (after_visit known v) vs)
    (with_needed_starts known (short_one (instance_of v.around (type_of_use v.of))))
    (after_visits_starts (after_visit known v) vs)

-- more instances need what fewer need, and then more

pub after_visits-append : (known : List Instance) (us vs : List Visit)
    → after_visits known (us ++ vs) ≡ after_visits (after_visits known us) vs
after_visits-append known [] vs = refl
after_visits-append known (u ∷ us) vs = after_visits-append (after_visit known u) us vs

pub visits-append : (program : Program) (xs ys : List Instance)
    → visits program (xs ++ ys) ≡ visits program xs ++ flat_map (instance_visits program) ys
visits-append program xs ys =
    let plain = flat_map (plain_visits (heads_of program)) program in
    let of = instance_visits program in
    ap (λ l. plain ++ l) (flat_map-append of xs ys) ∙ sym (append_assoc plain (flat_map of xs) (flat_map of ys))

pub needed_by-append : (program : Program) (xs ys : List Instance)
    → needed_by program (xs ++ ys) ≡ after_visits (needed_by program xs) (flat_map (instance_visits program) ys)
needed_by-append program xs ys =
    ap (after_visits []) (visits-append program xs ys)
    ∙ after_visits-append [] (visits program xs) (flat_map (instance_visits program) ys)

pub needed_by_starts : (program : Program) (xs ys : List Instance) → Starts xs ys
    → Starts (needed_by program xs) (needed_by program ys)
needed_by_starts program xs ys p =
    subst (λ l. Starts (needed_by program xs) l) (sym (ap (needed_by program) p.1 ∙ needed_by-append program xs p.0))
    (after_visits_starts (needed_by program xs) (flat_map (instance_visits program) p.0))

pub round_starts : (program : Program) (xs ys : List Instance) → Starts xs ys → Starts (round program xs) (round program ys)
round_starts program xs ys p =
    starts_take most_instances (needed_by program xs) (needed_by program ys) (needed_by_starts program xs ys p)

rounds_start : (program : Program) (n : ℕ) → Starts (rounds program n) (rounds program (suc n))
rounds_start program zero = (round program [], refl)
rounds_start program (suc n) =
    round_starts program (rounds program n) (rounds program (suc n)) (rounds_start program n)

-- the rounds end

take_short : {A : Type 0} (n : ℕ) (xs : List A) → length (take n xs) ≤ n
take_short zero xs = omega arith
take_short (suc n) [] = omega arith
take_short (suc n) (x ∷ xs) = grind (arith, take_short n xs)

rounds_short : (program : Program) (n : ℕ) → length (rounds program n) ≤ most_instances
rounds_short program zero = omega arith
rounds_short program (suc n) = take_short most_instances (needed_by program (rounds program n))

-- a round finds nothing new, or there are as many as there were rounds
rounds_grow : (program : Program) (n : ℕ)
    → (rounds program n ≡ rounds program (suc n)) ⊎ (n ≤ length (rounds program n))
rounds_grow program zero = inr (omega arith)
rounds_grow program (suc n) =
    elim (rounds_grow program n) [
      | inl e ↦ inl (ap (round program) e)
      | inr h ↦ by (rounds_start program n).0 (rounds_start program n).1 h
    ]
  where
    by : (more : List Instance) → rounds program (suc n) ≡ rounds program n ++ more → n ≤ length (rounds program n)
        → (rounds program (suc n) ≡ rounds program (suc (suc n))) ⊎ (suc n ≤ length (rounds program (suc n)))
    by [] e h = inl (ap (round program) (sym (e ∙ append-nil (rounds program n))))
    by (m ∷ ms) e h = inr (grind (arith, ap length e, length-append (rounds program n) (m ∷ ms), h))

rounds_end : (program : Program) (n : ℕ) → most_instances ≤ n → rounds program n ≡ rounds program (suc n)
rounds_end program n m =
    elim (rounds_grow program n) [
      | inl e ↦ e
      | inr h ↦ starts_full (rounds program n) (rounds program (suc n)) (rounds_start program n)
          (let s = rounds_short program (suc n) in omega (arith, h, m, s))
    ]

pub instances_needed : (program : Program) → instances_of program ≡ round program (instances_of program)
unfolding instances_of
instances_needed program = rounds_end program most_instances (omega arith)

-- each other list begins with what the rounds find
pub rounds_within : (program : Program) (n : ℕ) (ys : List Instance) → ys ≡ round program ys → Starts (rounds program n) ys
rounds_within program zero ys e = (ys, refl)
rounds_within program (suc n) ys e =
    subst (Starts (rounds program (suc n))) (sym e)
    (round_starts program (rounds program n) ys (rounds_within program n ys e))

pub instances_found : (program : Program) → AreInstances program (instances_of program)
unfolding instances_of
instances_found program =
    record { needed = instances_needed program; least = λ ys e. rounds_within program most_instances ys e }

pub one_list : (program : Program) (xs ys : List Instance) → AreInstances program xs → AreInstances program ys → xs ≡ ys
one_list program xs ys p q = starts_both xs ys (p.least ys q.needed) (q.least xs p.needed)
