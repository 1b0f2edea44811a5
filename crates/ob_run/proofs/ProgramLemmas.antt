-- A text is one program at most.
use Rattle.std.proofs.Common.{◌≡◌, ℕ, List, ◌∙◌, ap, subst}
use Rattle.ob_table.specs.Tables.{ClassTable}
use Rattle.ob_silica.specs.Terms.{SilicaBody}
use Rattle.ob_front.specs.Lowered.{AreLoweredTo}
use Rattle.ob_front.specs.Programs.{IsProgram}
use Rattle.ob_front.proofs.MiddleLaws.{one_lowering}
use Rattle.ob_front.proofs.StagesLaws.{one_table}
use Rattle.ob_run.specs.Sessions.{program_with}

pub one_table_of : (text : List ℕ) (a b : ClassTable) (xs ys : List SilicaBody) → IsProgram text a xs → IsProgram text b ys → a ≡ b
one_table_of text a b xs ys p q = one_table text a b p.checked.terms.has q.checked.terms.has

pub one_bodies_of : (text : List ℕ) (a b : ClassTable) (xs ys : List SilicaBody) → IsProgram text a xs → IsProgram text b ys → xs ≡ ys
one_bodies_of text a b xs ys p q =
    one_lowering b b.bodies xs ys (subst (λ (t : ClassTable). AreLoweredTo t t.bodies xs) (one_table_of text a b xs ys p q) p.checked.terms.lowered) q.checked.terms.lowered

pub one_program : (text : List ℕ) (a b : ClassTable) (xs ys : List SilicaBody) → IsProgram text a xs → IsProgram text b ys → program_with a xs ≡ program_with b ys
one_program text a b xs ys p q =
    ap (λ (t : ClassTable). program_with t xs) (one_table_of text a b xs ys p q) ∙ ap (λ (bodies : List SilicaBody). program_with b bodies) (one_bodies_of text a b xs ys p q)
