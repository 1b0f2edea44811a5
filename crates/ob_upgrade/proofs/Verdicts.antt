-- What a verdict that is sound says the other way round, too.
use Rattle.std.proofs.Common.{◌≡◌, ◌↔◌, true≢false, Result, Ok, Err, is_ok, IsOk, OnOk, IfErr, refl, sym, ap, subst, subst₂}
use Rattle.ob_table.specs.Tables.{ClassTable}
use Rattle.ob_code.specs.declared.image.Image.{Image}
use Rattle.ob_code_table.specs.ImageTables.{table_of_image}
use Rattle.ob_upgrade_spec.specs.declared.Mismatch.{Mismatch}
use Rattle.ob_upgrade_spec.specs.Matching.{Match, IsMismatch}
use Rattle.ob_upgrade_laws.proofs.Mismatching.{no_mismatch, one_mismatch}

abbrev Verdict : Type 0
Verdict = Result (Unit {0}) Mismatch

-- the mismatch that a verdict tells of, or another one
abbrev told : Verdict → Mismatch → Mismatch
told (Ok u) other = other
told (Err m) other = m

matched_by : (old new : ClassTable) (r : Verdict) → OnOk r (Match old new) → IfErr r (IsMismatch old new) → IsOk r ↔ Match old new
matched_by old new (Ok u) matched refused = (λ ok. matched, λ match. refl)
matched_by old new (Err m) matched refused = (λ ok. absurd (true≢false (sym ok)), λ match. absurd (no_mismatch old new m match refused))

refused_by : (old new : ClassTable) (r : Verdict) → OnOk r (Match old new) → IfErr r (IsMismatch old new) → (m : Mismatch)
    → (r ≡ Err m) ↔ IsMismatch old new m
refused_by old new (Ok u) matched refused m = (λ e. absurd (true≢false (ap is_ok e)), λ is. absurd (no_mismatch old new m matched is))
refused_by old new (Err k) matched refused m =
    (λ e. subst (IsMismatch old new) (ap (λ (r : Verdict). told r m) e) refused, λ is. ap Err (one_mismatch old new k m refused is))

pub matched_is : (a b old new : Image) (r : Verdict) → a ≡ old → b ≡ new → OnOk r (Match (table_of_image a) (table_of_image b))
    → IfErr r (IsMismatch (table_of_image a) (table_of_image b)) → IsOk r ↔ Match (table_of_image old) (table_of_image new)
matched_is a b old new r d e matched refused =
    subst₂ (λ (o n : Image). IsOk r ↔ Match (table_of_image o) (table_of_image n)) d e
    (matched_by (table_of_image a) (table_of_image b) r matched refused)

pub refused_is : (a b old new : Image) (r : Verdict) → a ≡ old → b ≡ new → OnOk r (Match (table_of_image a) (table_of_image b))
    → IfErr r (IsMismatch (table_of_image a) (table_of_image b)) → (m : Mismatch)
    → (r ≡ Err m) ↔ IsMismatch (table_of_image old) (table_of_image new) m
refused_is a b old new r d e matched refused m =
    subst₂ (λ (o n : Image). (r ≡ Err m) ↔ IsMismatch (table_of_image o) (table_of_image n) m) d e
    (refused_by (table_of_image a) (table_of_image b) r matched refused m)
