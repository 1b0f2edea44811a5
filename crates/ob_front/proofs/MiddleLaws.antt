-- Bodies have one list of terms at most, and one first fault.
use native.Mathlib.Omega.{arith}
use Rattle.std.proofs.Common.{◌≡◌, ℕ, suc, List, [], ◌∷◌, Some, None, Result, Ok, Err, refl, sym, ap, ◌∙◌}
use Rattle.std.specs.Prelude.{All, IsOk}
use Rattle.std.specs.Option.{option_or}
use Rattle.std.specs.Result.{result_err}
use Rattle.ob_base.specs.declared.fault.Span.{Span}
use Rattle.ob_base.specs.declared.fault.ProgramFault.{ProgramFault}
use Rattle.ob_table.specs.Statements.{ResolvedBody}
use Rattle.ob_table.specs.Tables.{ClassTable}
use Rattle.ob_silica.specs.Terms.{SilicaBody}
use Rattle.ob_flow_spec.specs.Deriving.{derive_body, Derives}
use Rattle.ob_lower_functions.specs.BodyCode.{body_code}
use Rattle.ob_lower_functions.proofs.Bodies.{gives_terms}
use Rattle.ob_front.specs.Lowered.{AreLoweredTo, first_slot_past, LacksSlots}
use Rattle.ob_front.specs.Checked.{first_flow_fault}

-- ---- lowering

ok_is : {E : Type 0} (a b : SilicaBody) (r : Result SilicaBody E) → r ≡ Ok a → r ≡ Ok b → a ≡ b
ok_is a b r e f = cc

pub some_is : {A : Type 0} (a b : A) → Some a ≡ Some b → a ≡ b
some_is a b e = cc

-- bodies have one list of terms at most
pub one_lowering : (table : ClassTable) (bs : List ResolvedBody) (ls ms : List SilicaBody) → AreLoweredTo table bs ls → AreLoweredTo table bs ms → ls ≡ ms
one_lowering table [] [] [] one other = refl
one_lowering table [] [] (m ∷ ms) one other = absurd other
one_lowering table [] (l ∷ ls) ms one other = absurd one
one_lowering table (b ∷ bs) [] ms one other = absurd one
one_lowering table (b ∷ bs) (l ∷ ls) [] one other = absurd other
one_lowering table (b ∷ bs) (l ∷ ls) (m ∷ ms) one other =
    ap (λ x. x ∷ ls) (ok_is l m (body_code table b) one.0 other.0) ∙ ap (λ xs. m ∷ xs) (one_lowering table bs ls ms one.1 other.1)

-- bodies that have terms need no slot past the most
pub none_past : (table : ClassTable) (bs : List ResolvedBody) (ls : List SilicaBody) → AreLoweredTo table bs ls → first_slot_past table bs ≡ None
none_past table [] ls lowered = refl
none_past table (b ∷ bs) [] lowered = absurd lowered
none_past table (b ∷ bs) (l ∷ ls) lowered = ap (λ o. option_or o (first_slot_past table bs)) (gives_terms table b l lowered.0).fits ∙ none_past table bs ls lowered.1

abbrev fault_with : ℕ → Span → ProgramFault
fault_with number span = record { number = number; span = span }

same_fault : (a b : ProgramFault) → a.number ≡ b.number → a.span ≡ b.span → a ≡ b
same_fault a b e f = ap (λ k. fault_with k a.span) e ∙ ap (fault_with b.number) f

pub one_slot_fault : (table : ClassTable) (a b : ProgramFault) → LacksSlots table a → LacksSlots table b → a ≡ b
one_slot_fault table a b one other = same_fault a b (one.number ∙ sym other.number) (some_is a.span b.span (sym one.place ∙ other.place))

pub no_error : {A E : Type 0} (r : Result A E) → IsOk r → result_err r ≡ None
no_error (Ok x) ok = refl
no_error (Err e) ok = cc

-- bodies that derive have no fault
pub none_fails : (table : ClassTable) (bodies : List SilicaBody) → All (Derives table) bodies → first_flow_fault table bodies ≡ None
none_fails table [] all = refl
none_fails table (b ∷ bs) all =
    ap (λ o. option_or o (first_flow_fault table bs)) (no_error (derive_body table b) (head_of b bs all)) ∙ none_fails table bs (rest_of b bs all)
  where
    head_of : (b : SilicaBody) (bs : List SilicaBody) → All (Derives table) (b ∷ bs) → Derives table b
    head_of b bs all = all 0 b (omega arith)

    rest_of : (b : SilicaBody) (bs : List SilicaBody) → All (Derives table) (b ∷ bs) → All (Derives table) bs
    rest_of b bs all = λ k d lt. all (suc k) d (omega (arith, lt))
