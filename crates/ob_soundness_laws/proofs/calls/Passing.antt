-- The receiver and the arguments of a well-formed call serve as its parameters.
use Rattle.std.proofs.Common.{◌≡◌, ℕ, zero, suc, ◌+◌, ◌≤◌, Bool, true, false, List, [], ◌∷◌, ◌++◌, map, Option, Some, refl, sym, ap, subst, arith, eq-eqb}
use Rattle.std.specs.Prelude.{max, slice_get, nat_eq, if◌then◌else◌}
use Rattle.std.proofs.lemmas.Bool.{or_left, or_right}
use Rattle.std.proofs.lemmas.Option.{same_Some}
use Rattle.ob_perm.specs.Masks.{permission_of}
use Rattle.ob_table.specs.Tables.{ClassTable}
use Rattle.ob_table.specs.declared.contract.Param.{Param}
use Rattle.ob_table.specs.declared.seen.Kind.{Kind}
use Rattle.ob_table_spec.specs.Conditions.{IsClassTable}
use Rattle.ob_table_spec.specs.WellFormed.{kind_of_resolved, serves_as}
use Rattle.ob_silica.specs.Slots.{slots_of_operand, slots_of_operands}
use Rattle.ob_silica.specs.declared.place.Operand.{Operand}
use Rattle.ob_silica_places.specs.Places.{located, all_located}
use Rattle.ob_silica_places.specs.Parameters.{Parameter, parameter_of}
use Rattle.ob_silica_places.specs.Converting.{converted}
use Rattle.ob_silica_steps.specs.Cells.{Cell}
use Rattle.ob_silica_steps.specs.Configurations.{Configuration}
use Rattle.ob_silica_steps.specs.Here.{here}
use Rattle.ob_silica_formed.specs.Holdings.{kind_of_operand}
use Rattle.ob_silica_formed.specs.Points.{ArePlaces, HasKind, ArePassed}
use Rattle.ob_flow_spec.specs.Contexts.{Context, static_of}
use Rattle.ob_flow_spec.specs.Uses.{Read, kind_known}
use Rattle.ob_flow_spec.specs.Binding.{wants_owner, reads_of}
use Rattle.ob_places_laws.proofs.Tables.{there_is}
use Rattle.ob_coherent_spec.specs.Remaining.{BodyParts, body_of}
use Rattle.ob_coherent_spec.specs.Waiting.{has_lent}
use Rattle.ob_coherent_spec.specs.Coherent.{Beginning, IsRunning}
use Rattle.ob_soundness_laws.proofs.tests.Operands.{place_inside, kind_found}
use Rattle.ob_soundness_laws.specs.places.Placed.{cell_at}
use Rattle.ob_soundness_laws.specs.calls.Binds.{ArePassedTo, places_of, lent_all}
use Rattle.ob_soundness_laws.specs.calls.Lending.{GiveBack}
use Rattle.ob_soundness_laws.proofs.calls.Lending.{converted_serves}

-- the places of operands, as they are read
pub places_of_reads : (args : List Operand) → all_located args ≡ places_of (reads_of args)
places_of_reads [] = refl
places_of_reads (o ∷ os) = ap (λ ls. located o ∷ ls) (places_of_reads os)

pub first_of : (m n k : ℕ) → max m n ≤ k → m ≤ k
first_of m n k h = omega (arith, h)

pub second_of : (m n k : ℕ) → max m n ≤ k → n ≤ k
second_of m n k h = omega (arith, h)

module _ (table : ClassTable) (made : IsClassTable table) (entry : Option ℕ) (beginning : Beginning) (c : Configuration)
    (k : IsRunning table entry beginning c) where
  -- an operand of a known kind has a value of that kind
  pub operand_kind : (o : Operand) (kind : Kind) (x : Cell)
      → kind_of_operand (static_of (body_of table c.frame k.whole.parts)) k.holdings o ≡ Some kind
      → cell_at (here c) (located o) ≡ Some x → x.note.kind ≡ kind
  operand_kind o kind x is e = kind_found table made entry beginning c k o.place x kind e is

  pub args_passed : (ps : List Param) (args : List Operand)
      → slots_of_operands args ≤ k.whole.parts.slots → ArePlaces (static_of (body_of table c.frame k.whole.parts)) args
      → ArePassed (static_of (body_of table c.frame k.whole.parts)) k.holdings ps args
      → ArePassedTo table c k.whole.parts (reads_of args) (map parameter_of ps)
  args_passed [] [] few places passed = tt
  args_passed [] (o ∷ os) few places passed = absurd passed
  args_passed (p ∷ ps) [] few places passed = absurd passed
  args_passed (p ∷ ps) (o ∷ os) few places passed = (
    place_inside (body_of table c.frame k.whole.parts) o.place
        (first_of (slots_of_operand o) (slots_of_operands os) k.whole.parts.slots few) places.0,
    serves passed.0,
    args_passed ps os (second_of (slots_of_operand o) (slots_of_operands os) k.whole.parts.slots few) places.1 passed.1,
  )
    where
      serves : HasKind (static_of (body_of table c.frame k.whole.parts)) k.holdings (kind_of_resolved p.of) o
          → (x : Cell) → cell_at (here c) (located o) ≡ Some x
          → serves_as table (kind_of_resolved p.of) x.note.kind ≡ true
      serves has x e =
          let r = there_is (kind_of_operand (static_of (body_of table c.frame k.whole.parts)) k.holdings o)
          (λ kind. serves_as table (kind_of_resolved p.of) kind ≡ true) has in
          subst (λ z. serves_as table (kind_of_resolved p.of) z ≡ true) (sym (operand_kind o r.0 x r.1 e)) r.2

-- What is lent.

-- a parameter that wants an owner has lent it
pub wanted_lent : (table : ClassTable) (c : Configuration) (parts : BodyParts) (known : Context) (rs : List Read)
    (ps : List Parameter) (n j : ℕ) (p : Parameter) → ArePassedTo table c parts rs ps → slice_get ps j ≡ Some p
    → wants_owner p ≡ true → has_lent (lent_all table known rs ps n) (n + j) ≡ true
wanted_lent table c parts known [] [] n j p passed e wants = absurd (cc)
wanted_lent table c parts known [] (q ∷ ps) n j p passed e wants = absurd passed
wanted_lent table c parts known (r ∷ rs) [] n j p passed e wants = absurd passed
wanted_lent table c parts known (r ∷ rs) (q ∷ ps) n zero p passed e wants =
    let same : wants_owner q ≡ true = subst (λ z. wants_owner z ≡ true) (sym (same_Some q p e)) wants in
    subst (λ w. has_lent ((if w then (record {
      place = r.location;
      param = n;
      exit = converted table (kind_of_resolved q.of) (kind_known (known r.location)) (permission_of q.exit);
    } ∷ []) else [])
    ++ lent_all table known rs ps (suc n)) (n + 0) ≡ true) (sym same)
    (or_left (nat_eq (n + 0) n) (has_lent (lent_all table known rs ps (suc n)) (n + 0))
    (eq-eqb (n + 0) n (omega arith)))
wanted_lent table c parts known (r ∷ rs) (q ∷ ps) n (suc j) p passed e wants =
    let rest = wanted_lent table c parts known rs ps (suc n) j p passed.2 e wants in
    by_want (wants_owner q) (subst (λ m. has_lent (lent_all table known rs ps (suc n)) m ≡ true)
    (let z : suc n + j ≡ n + suc j = omega arith in z) rest)
  where
    by_want : (w : Bool) → has_lent (lent_all table known rs ps (suc n)) (n + suc j) ≡ true
        → has_lent ((if w then (record {
          place = r.location;
          param = n;
          exit = converted table (kind_of_resolved q.of) (kind_known (known r.location)) (permission_of q.exit);
        } ∷ []) else [])
        ++ lent_all table known rs ps (suc n)) (n + suc j) ≡ true
    by_want true h = or_right (nat_eq (n + suc j) n) (has_lent (lent_all table known rs ps (suc n)) (n + suc j)) h
    by_want false h = h

-- what parameters of the same types leave serves as what places get back
pub same_give_back : (table : ClassTable) → IsClassTable table
    → (called : List Parameter) (known : Context) (rs : List Read)
    (ps : List Parameter) (n : ℕ) → ((j : ℕ) (p : Parameter) → slice_get ps j ≡ Some p
    → slice_get called (n + j) ≡ Some p)
    → GiveBack table called known rs ps n
same_give_back table is called known [] ps n same = tt
same_give_back table is called known (r ∷ rs) [] n same = tt
same_give_back table is called known (r ∷ rs) (p ∷ ps) n same = (
  λ wants. record {
    parameter = p;
    is = subst (λ m. slice_get called m ≡ Some p) (let z : n + 0 ≡ n = omega arith in z) (same 0 p refl);
    serves = converted_serves table is (kind_of_resolved p.of) (kind_known (known r.location)) (permission_of p.exit);
  },
  same_give_back table is called known rs ps (suc n)
      (λ j q e. subst (λ m. slice_get called m ≡ Some q) (let z : n + suc j ≡ suc n + j = omega arith in z)
      (same (suc j) q e)),
)
