-- What the instances up to one are made of, and what all of them are.
use Rattle.std.proofs.Common.{◌≡◌, ℕ, ◌≤◌, ◌<◌, ◌+◌, true, false, not, ◌&&◌, ◌||◌, nat_lt, List, [], ◌∷◌, ◌++◌, Option, Some, None, refl, ap, sym, ◌∙◌, ap₂, add-one, is_some, zero, suc, arith, ◌-◌}
use Rattle.std.specs.Prelude.{slice_get}
use Rattle.std.specs.List.{sum_by}
use Rattle.std.proofs.lemmas.List.Sums.{sum_by-append}
use Rattle.std.proofs.lemmas.Bool.Decides.{nat_tests}
use Rattle.ob_base.specs.Limits.{most_copied, most_instances, most_walked}
use Rattle.ob_base.specs.declared.fault.ProgramFault.{ProgramFault}
use Rattle.ob_resolve_spec.specs.Declarations.{Program}
use Rattle.ob_generic_spec.specs.Instances.{needed_by, instances_of}
use Rattle.ob_generic_spec.specs.TypeFaults.{least_type_fault}
use Rattle.ob_generic_spec.specs.Copied.{copied_by, copied_by_all, is_too_much_text}
use Rattle.ob_generic_spec.specs.declared.instance.Instance.{Instance}
use Rattle.ob_generic_walk.specs.Stages.{stage}
use Rattle.ob_generic_walk.specs.declared.found.Found.{Found}
use Rattle.ob_generic_walk.proofs.StageLemmas.{stage_some, stage_none, stage_last}
use Rattle.ob_generic_walk.proofs.Steps.{At, needed_at}

-- what the instances of a stage are made of
abbrev of_stage : Program → ℕ → ℕ
of_stage program n = copied_by_all program (stage program n)

more_of : (program : Program) (xs : List Instance) (x : Instance)
    → copied_by_all program (xs ++ x ∷ []) ≡ copied_by_all program xs + copied_by program x
more_of program xs x =
    let e = sum_by-append (copied_by program) xs (x ∷ []) in
    let one : sum_by (copied_by program) (x ∷ []) ≡ 0 + copied_by program x = refl in
    omega (arith, e, one)

pub some_copied : (program : Program) (n : ℕ) (f : Found) (x : Instance) → f ≡ At program n → Some x ≡ slice_get f.known n
    → of_stage program (n + 1) ≡ of_stage program n + copied_by program x
some_copied program n f x e is =
    ap (of_stage program) (add-one n)
    ∙ ap (copied_by_all program) (stage_some program n x (needed_at program n f (Some x) e is))
    ∙ more_of program (stage program n) x

pub none_copied : (program : Program) (n : ℕ) (f : Found) → f ≡ At program n → None ≡ slice_get f.known n
    → of_stage program (n + 1) ≡ of_stage program n
none_copied program n f e is =
    ap (of_stage program) (add-one n)
    ∙ ap (copied_by_all program) (stage_none program n (needed_at program n f None e is))

next_copied : (program : Program) (n : ℕ) → of_stage program n ≤ of_stage program (suc n)
next_copied program n = by (slice_get (needed_by program (stage program n)) n) refl
  where
    by : (o : Option Instance) → slice_get (needed_by program (stage program n)) n ≡ o
        → of_stage program n ≤ of_stage program (suc n)
    by None e = omega (arith, ap (copied_by_all program) (stage_none program n e))
    by (Some x) e =
        omega (arith, ap (copied_by_all program) (stage_some program n x e) ∙ more_of program (stage program n) x)

later_copied : (program : Program) (n more : ℕ) → of_stage program n ≤ of_stage program (n + more)
later_copied program n zero =
    let same : n + zero ≡ n = omega arith in
    omega (arith, ap (of_stage program) same)
later_copied program n (suc more) =
    let same : n + suc more ≡ suc (n + more) = omega arith in
    omega (arith, later_copied program n more, next_copied program (n + more), ap (of_stage program) same)

-- no stage is made of more than all instances
stage_copied : (program : Program) (n : ℕ) → n ≤ most_instances
    → of_stage program n ≤ copied_by_all program (instances_of program)
stage_copied program n h =
    let same : n + (most_instances - n) ≡ most_instances = omega (arith, h) in
    omega (
      arith,
      later_copied program n (most_instances - n),
      ap (of_stage program) same,
      ap (copied_by_all program) (stage_last program),
    )

-- Whether that is too much.

pub too_much_walked : (program : Program) (n : ℕ) → n ≤ most_instances → most_walked < of_stage program n
    → is_too_much_text program ≡ true
too_much_walked program n h more =
    let all = stage_copied program n h in
    let walked : nat_lt most_walked (copied_by_all program (instances_of program)) ≡ true = grind (arith, nat_tests, all, more) in
    ap (λ b. b || not (is_some (least_type_fault program)) && nat_lt most_copied (copied_by_all program (instances_of program))) walked

pub all_copied : (program : Program) (n : ℕ) → n ≡ most_instances
    → of_stage program n ≡ copied_by_all program (instances_of program)
all_copied program n e = ap (of_stage program) e ∙ ap (copied_by_all program) (stage_last program)

-- where all of it may be looked through, it is too much where the tree would be too large
pub too_much_tree : (program : Program) (least : Option ProgramFault) (copied : ℕ) → least ≡ least_type_fault program
    → copied ≡ copied_by_all program (instances_of program) → copied ≤ most_walked
    → (not (is_some least) && nat_lt most_copied copied) ≡ is_too_much_text program
too_much_tree program least copied l c h =
    let walked : nat_lt most_walked (copied_by_all program (instances_of program)) ≡ false = grind (arith, nat_tests, c, h) in
    ap₂ (λ (o : Option ProgramFault) (n : ℕ). not (is_some o) && nat_lt most_copied n) l c
    ∙ sym (ap (λ b. b || not (is_some (least_type_fault program))
    && nat_lt most_copied (copied_by_all program (instances_of program))) walked)
