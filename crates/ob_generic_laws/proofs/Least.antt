-- The least fault of types that is computed is the least of all.
use Rattle.std.proofs.Common.{◌≡◌, ◌⊎◌, inl, inr, Bool, true, false, if◌then◌else◌, List, [], ◌∷◌, Some, None, refl, sym, subst, arith}
use Rattle.std.specs.Prelude.{Contains}
use Rattle.std.proofs.lemmas.List.Elements.{Contains-append_cases, Contains-append_left, Contains-append_right, Contains-push_cases, Contains-push}
use Rattle.std.proofs.lemmas.Bool.Decides.{nat_tests}
use Rattle.ob_base.specs.declared.fault.ProgramFault.{ProgramFault}
use Rattle.ob_resolve_spec.specs.Declarations.{Program}
use Rattle.ob_resolve_spec.specs.Faults.{Comes}
use Rattle.ob_resolve_spec.specs.Least.{is_before, least_from}
use Rattle.ob_generic_spec.specs.TypeFaults.{type_faults_of, least_type_fault, IsLeastTypeFaultOrNone}

none_in : {X : Type 0} (x : X) → Contains [] x → ⊥
none_in x q = omega (arith, q.1)

head_in : {X : Type 0} (y : X) (ys : List X) → Contains (y ∷ ys) y
head_in y ys = Contains-append_left (y ∷ []) ys y (Contains-push [] y)

tail_in : {X : Type 0} (y : X) (ys : List X) (x : X) → Contains ys x → Contains (y ∷ ys) x
tail_in y ys x h = Contains-append_right (y ∷ []) ys x h

head_or_tail : {X : Type 0} (y : X) (ys : List X) (x : X) → Contains (y ∷ ys) x → (y ≡ x) ⊎ Contains ys x
head_or_tail y ys x h = elim (Contains-append_cases (y ∷ []) ys x h) [ inl p ↦ inl (only p) | inr q ↦ inr q ]
  where
    only : Contains (y ∷ []) x → y ≡ x
    only p = elim (Contains-push_cases [] y x p) [ inl q ↦ absurd (none_in x q) | inr e ↦ e ]

comes_itself : (f : ProgramFault) → Comes f f
comes_itself f = inr (refl, omega arith)

comes_trans : (f g h : ProgramFault) → Comes f g → Comes g h → Comes f h
comes_trans f g h p q = grind (arith, p, q)

before_comes : (f g : ProgramFault) → is_before f g ≡ true → Comes f g
before_comes f g e = grind (arith, nat_tests)

not_before_comes : (f g : ProgramFault) → is_before f g ≡ false → Comes g f
not_before_comes f g e = grind (arith, nat_tests)

-- what is least among these and one more
record IsLeastOf (f g : ProgramFault) (fs : List ProgramFault) : Type 0 where
  one : (f ≡ g) ⊎ Contains fs f
  first : Comes f g
  all : (h : ProgramFault) → Contains fs h → Comes f h

least_with : (g : ProgramFault) (fs : List ProgramFault)
    → (f : ProgramFault) × (least_from (Some g) fs ≡ Some f) × IsLeastOf f g fs
least_with g [] = (g, refl, record { one = inl refl; first = comes_itself g; all = λ h q. absurd (none_in h q) })
least_with g (x ∷ xs) = by (λ k. least_with k xs) (is_before x g) refl
  where
    by : ((k : ProgramFault) → (f : ProgramFault) × (least_from (Some k) xs ≡ Some f) × IsLeastOf f k xs) → (b : Bool)
        → is_before x g ≡ b → (f : ProgramFault) × (least_from (if b then Some x else Some g) xs ≡ Some f)
        × IsLeastOf f g (x ∷ xs)
    by rest true e =
        let r = rest x in (
          r.0,
          r.1,
          record {
            one = elim r.2.one [
              | inl is ↦ inr (subst (λ y. Contains (x ∷ xs) y) (sym is) (head_in x xs))
              | inr q ↦ inr (tail_in x xs r.0 q)
            ];
            first = comes_trans r.0 x g r.2.first (before_comes x g e);
            all = λ h q. elim (head_or_tail x xs h q) [ inl is ↦ subst (Comes r.0) is r.2.first | inr q ↦ r.2.all h q ];
          },
        )
    by rest false e =
        let r = rest g in (
          r.0,
          r.1,
          record {
            one = elim r.2.one [ inl is ↦ inl is | inr q ↦ inr (tail_in x xs r.0 q) ];
            first = r.2.first;
            all = λ h q. elim (head_or_tail x xs h q) [
              | inl is ↦ subst (Comes r.0) is (comes_trans r.0 g x r.2.first (not_before_comes x g e))
              | inr q ↦ r.2.all h q
            ];
          },
        )

least_of : (program : Program) (fs : List ProgramFault) → type_faults_of program ≡ fs
    → IsLeastTypeFaultOrNone program (least_from None fs)
least_of program [] e = e
least_of program (g ∷ fs) e =
    let r = least_with g fs in
    subst (IsLeastTypeFaultOrNone program) (sym r.1) (record {
      has = subst (λ gs. Contains gs r.0) (sym e)
          (elim r.2.one [
            | inl is ↦ subst (λ y. Contains (g ∷ fs) y) (sym is) (head_in g fs)
            | inr q ↦ tail_in g fs r.0 q
          ]);
      least = λ h q. elim (head_or_tail g fs h (subst (λ gs. Contains gs h) e q))
          [ inl is ↦ subst (Comes r.0) is r.2.first | inr p ↦ r.2.all h p ];
    })

pub least_is : (program : Program) → IsLeastTypeFaultOrNone program (least_type_fault program)
least_is program = least_of program (type_faults_of program) refl
