-- Handles, as plain data have them.
use Rattle.std.proofs.Common.{◌≡◌, List, [], ◌∷◌, map, Some, Bool, true, false, refl, ap, ◌∙◌}
use Rattle.std.specs.Prelude.{option_map, if◌then◌else◌}
use Rattle.std.specs.Ordering.{is_eq, ordering_reverse}
use Rattle.std.specs.declared.cmp.Ordering.{Ordering}
use Rattle.std.specs.declared.cmp.Ordering.TheVariants.{Less, Equal, Greater}
use Rattle.std.specs.FinMap.Entries.{find as find_key}
use Rattle.ob_base.specs.declared.name.Label.{Label}
use Rattle.ob_heap.specs.declared.object.Handle.{Handle}
use Rattle.ob_heap.specs.Contents.{name_of, named_of, handle_at}
use Rattle.ob_heap.specs.Plain.{handle_of}
use Rattle.ob_heap.proofs.HandlesLemmas.{names_total}
use Rattle.ob_heap_spec.specs.Contents.{HandleName, name_order}

reversed : (o : Ordering) → is_eq (ordering_reverse o) ≡ is_eq o
reversed Less = refl
reversed Equal = refl
reversed Greater = refl

same_either_way : (a b : HandleName) → is_eq (name_order a b) ≡ is_eq (name_order b a)
same_either_way a b = ap is_eq (names_total.antisymm a b) ∙ reversed (name_order b a)

pub handle_same : (n : HandleName) (hs : List ((Label × Label) × Handle)) → find_key name_order n (map named_of hs) ≡ option_map handle_of (handle_at n hs)
handle_same n [] = refl
handle_same n (h ∷ hs) =
    ap (λ (b : Bool). if b then Some (handle_of h.1) else find_key name_order n (map named_of hs)) (same_either_way n (name_of h.0))
    ∙ by (is_eq (name_order (name_of h.0) n)) (handle_same n hs)
  where
    by : (b : Bool) → find_key name_order n (map named_of hs) ≡ option_map handle_of (handle_at n hs)
        → (if b then Some (handle_of h.1) else find_key name_order n (map named_of hs))
        ≡ option_map handle_of (if b then Some h.1 else handle_at n hs)
    by true rest = refl
    by false rest = rest

pub ruleset handles = (handle_same)
