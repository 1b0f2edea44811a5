-- Names of handles are in a total order, and those that are alike are one.
use Rattle.std.proofs.Common.{◌≡◌, ◌∙◌, ℕ, List, refl, sym, ap}
use Rattle.std.specs.Ordering.{is_eq, nat_cmp, ordering_then}
use Rattle.std.specs.Cmp.{IsTotalOrder, then_total}
use Rattle.std.specs.Cmp.Lexicographic.{slice_cmp, bytes_decides, on_texts}
use Rattle.std.specs.declared.cmp.Ordering.{Ordering}
use Rattle.std.specs.declared.cmp.Ordering.TheVariants.{Less, Equal, Greater}
use Rattle.std.proofs.lemmas.Map.Text.{is_eq-slice_cmp}
use Rattle.ob_heap_spec.specs.Contents.{HandleName, name_order}

-- names are in a total order
pub names_total : IsTotalOrder name_order
names_total = then_total (on_texts (λ (a : HandleName). a.who)) (on_texts (λ (a : HandleName). a.name))

both_equal : (a b : Ordering) → ordering_then a b ≡ Equal → (a ≡ Equal) × (b ≡ Equal)
both_equal Less b is = absurd cc
both_equal Equal b is = (refl, is)
both_equal Greater b is = absurd cc

same_bytes : (a b : List ℕ) → slice_cmp nat_cmp a b ≡ Equal → a ≡ b
same_bytes a b is = (bytes_decides a b).0 (sym (is_eq-slice_cmp a b) ∙ ap is_eq is)

-- names that are alike are one
pub one_name : (a b : HandleName) → name_order a b ≡ Equal → a ≡ b
one_name a b is =
    let parts = both_equal (slice_cmp nat_cmp a.who b.who) (slice_cmp nat_cmp a.name b.name) is in
    let who = same_bytes a.who b.who parts.0 in
    let name = same_bytes a.name b.name parts.1 in
    (λ i. record { who = who i; name = name i })
