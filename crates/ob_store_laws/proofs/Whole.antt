-- All that a content holds, as changes of the empty one.
use Rattle.std.proofs.Common.{◌≡◌, ◌∙◌, ℕ, suc, Bool, true, false, cond, List, [], ◌∷◌, map, Option, Some, None, refl, sym, ap, subst, arith}
use Rattle.std.specs.Prelude.{T, filter, option_map}
use Rattle.std.specs.Option.{option_or}
use Rattle.std.specs.Ordering.{eq_by_cmp}
use Rattle.std.specs.FinMap.Entries.{find as find_key, same_entries}
use Rattle.std.specs.declared.cmp.Ordering.{Ordering}
use Rattle.ob_table.specs.Tables.{ClassTable}
use Rattle.ob_heap_spec.specs.Objects.{Object}
use Rattle.ob_heap_spec.specs.Contents.{HandleName, Handle, empty_content, name_order}
use Rattle.ob_heap_spec.specs.Handles.{NamedHandle}
use Rattle.ob_heap_spec.proofs.Names.{names_total, one_name}
use Rattle.ob_rest_spec.specs.AtRest.{IsStoreAtRest}
use Rattle.ob_store_spec.specs.Payloads.{held}
use Rattle.ob_store_spec.specs.Between.{stored_object, stored_from, all_of}
use Rattle.ob_store_laws.specs.Laws.{IsSaid, AllIsWhatDiffers, AllIsSaid, AllLeads}
use Rattle.ob_store_laws.proofs.Entries.{passing, find-filter, sorted_filter, sorted_map, sorted_of}
use Rattle.ob_store_laws.proofs.Handles.{Change, at, InOrder, is_new, of_both, found_both, sorted_both}
use Rattle.ob_store_laws.proofs.Differing.{changed_from, new_differs}
use Rattle.ob_store_laws.proofs.Said.{differences_are_said}

-- each object is new
all_changed : (table : ClassTable) (after : List Object) (n : ℕ) (xs : List Object) → changed_from table [] after n xs ≡ stored_from table n xs
all_changed table after n [] = refl
all_changed table after n (x ∷ xs) =
    let others = changed_from table [] after (suc n) xs in
    ap (λ t. cond t (stored_object table n x ∷ others) others) (new_differs table [] after n x refl)
    ∙ ap (λ os. stored_object table n x ∷ os) (all_changed table after (suc n) xs)

-- each entry with something of its value
find-values : {K X Y : Type 0} (R : K → K → Ordering) (f : X → Y) (q : K) (es : List (K × X))
    → find_key R q (map (λ e. (e.0, f e.1)) es) ≡ option_map f (find_key R q es)
find-values R f q [] = refl
find-values {K} {X} {Y} R f q (e ∷ es) = by (eq_by_cmp R q e.0) (find-values R f q es)
  where
    by : (b : Bool) → find_key R q (map (λ e. (e.0, f e.1)) es) ≡ option_map f (find_key R q es)
        → cond b (Some (f e.1)) (find_key R q (map (λ e. (e.0, f e.1)) es)) ≡ option_map f (cond b (Some e.1) (find_key R q es))
    by true rest = refl
    by false rest = rest

-- a handle is new
handle_is_new : (k : HandleName) (h : Handle) → is_new empty_content (k, Some h) ≡ true
unfolding held
handle_is_new k h = refl

-- a handle that is there, as a change
abbrev there : NamedHandle → Change
there h = (h.0, Some h.1)

all_held : (hs : List NamedHandle) → InOrder hs → map there hs ≡ filter (is_new empty_content) (of_both [] hs)
all_held hs s =
    same_entries name_order names_total one_name (map there hs) (filter (is_new empty_content) (of_both [] hs))
    (subst T (sorted_map name_order name_order there (λ n. n) (λ h. refl) (λ a b. refl) hs) s)
    (sorted_filter name_order (is_new empty_content) (of_both [] hs) both) (λ k.
    find-values name_order (λ (h : Handle). Some h) k hs
    ∙ by k (at k hs)
    ∙ sym (ap (passing name_order one_name (is_new empty_content) k) (found_both [] hs k s))
    ∙ sym (find-filter name_order one_name (is_new empty_content) k (of_both [] hs) both))
  where
    both : InOrder (of_both [] hs)
    both = sorted_both [] hs tt

    by : (k : HandleName) (r : Option Handle)
        → option_map (λ (h : Handle). Some h) r ≡ passing name_order one_name (is_new empty_content) k (option_map (λ (h : Handle). r) (option_or r None))
    by k None = refl
    by k (Some h) = sym (ap (λ t. cond t (Some (Some h)) None) (handle_is_new k h))

pub all_is_what_differs : AllIsWhatDiffers
all_is_what_differs table content is =
    sym (ap (λ os. record { objects = os; handles = (all_of table content).handles }) (all_changed table content.objects 0 content.objects))
    ∙ ap (λ hs. record { objects = changed_from table [] content.objects 0 content.objects; handles = hs })
    (all_held content.handles (sorted_of name_order content.handles is.order))

-- the empty content is at rest
empty_rests : (table : ClassTable) → IsStoreAtRest table empty_content
empty_rests table = record {
  is_content = record {
    objects = λ k d inside. absurd (omega arith);
    handles = λ k d inside. absurd (omega arith);
    order = λ i j d later inside. absurd (omega arith);
  };
  at_rest = λ n inside. absurd (omega arith);
  few_objects = omega arith;
  few_handles = omega arith;
}

pub all_is_said : AllIsSaid
all_is_said table content storable rests =
    subst (IsSaid table empty_content content) (sym (all_is_what_differs table content rests.is_content))
    (differences_are_said table empty_content content storable (empty_rests table) rests (omega arith))

pub all_leads : AllLeads
all_leads table content storable rests =
    let said = all_is_said table content storable rests in
    (all_of table content, record { are_changes = said.are_changes; spelled = record { fits = said.fits; is = refl } }, said.leads)
