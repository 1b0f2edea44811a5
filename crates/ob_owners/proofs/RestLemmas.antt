-- The first object that fails.
use Rattle.std.proofs.Common.{◌≡◌, ℕ, zero, suc, ◌+◌, ◌-◌, ◌<◌, ◌≤◌, Bool, true, false, cond, ◌||◌, List, length, get_or, map, drop, Option, Some, None, refl, sym, ap, ◌∙◌, arith}
use Rattle.std.specs.Prelude.{find, option_map}
use Rattle.std.specs.Option.{option_map_or}
use Rattle.std.specs.List.{list_any, range_with_len, cons_option}
use Rattle.std.proofs.lemmas.Option.{slice_get-map, slice_get_read, get_or_from_slice_get}
use Rattle.std.proofs.lemmas.List.{length-map}
use Rattle.ob_code.specs.declared.image.FieldCode.{FieldCode}
use Rattle.ob_code.specs.declared.image.Image.{Image}
use Rattle.ob_table.specs.Tables.{ClassTable}
use Rattle.ob_table.specs.declared.contract.Contract.{Contract}
use Rattle.ob_heap.specs.declared.object.Object.{Object}
use Rattle.ob_heap.specs.Contents.{Stored, content_of}
use Rattle.ob_heap.specs.Plain.{object_of}
use Rattle.ob_heap_spec.specs.Contents.{object_at}
use Rattle.ob_heap_spec.specs.Objects.{Object as PlainObject}
use Rattle.ob_code_table.specs.ImageTables.{field_of_code, table_of_image}
use Rattle.ob_rest_spec.specs.AtRest.{fails, first_failing_object}
use Rattle.ob_rest_spec.specs.References.{FieldReference, reference_of, available_value}
use Rattle.ob_owners.specs.declared.tally.Tally.{Tally}
use Rattle.ob_owners.specs.Tallies.{tally_of, AreTallies, fails_tallied}
use Rattle.ob_owners.proofs.NotingLemmas.{references_from, references_turn}
use Rattle.ob_owners.proofs.TallyLaws.{fails_by_tally}

-- One field after another.

any_option : {A : Type 0} (p : A → Bool) (r : Option A) (rest : List A) → list_any p (cons_option r rest) ≡ (option_map_or p r false || list_any p rest)
any_option p None rest = refl
any_option p (Some x) rest = refl

pub fields_asked : (p : FieldReference → Bool) (c : Contract) (holder : ℕ) (o : PlainObject) (items own : List FieldCode) (k : ℕ) (f : FieldCode) (r : Option FieldReference) (b : Bool)
    → items ≡ own → k < length items → f ≡ get_or items k f → r ≡ reference_of holder k (field_of_code f).of (available_value c o k)
    → b ≡ option_map_or p r false
    → list_any p (references_from c holder o k (drop k own)) ≡ (b || list_any p (references_from c holder o (k + 1) (drop (k + 1) own)))
fields_asked p c holder o items own k f r b e l at is asked =
    ap (list_any p) (references_turn c holder o items own k f e l at)
    ∙ any_option p (reference_of holder k (field_of_code f).of (available_value c o k)) (references_from c holder o (k + 1) (drop (k + 1) own))
    ∙ ap (λ x. option_map_or p x false || list_any p (references_from c holder o (k + 1) (drop (k + 1) own))) (sym is)
    ∙ ap (λ x. x || list_any p (references_from c holder o (k + 1) (drop (k + 1) own))) (sym asked)

-- The first number of some that passes a test.

pub range_turn : (p : ℕ → Bool) (i n : ℕ) → i < n → find p (range_with_len i (n - i)) ≡ cond (p i) (Some i) (find p (range_with_len (i + 1) (n - (i + 1))))
range_turn p i n l = let e : n - i ≡ suc (n - (i + 1)) = omega arith in ap (λ k. find p (range_with_len i k)) e

pub range_end : (p : ℕ → Bool) (i n : ℕ) → n ≤ i → find p (range_with_len i (n - i)) ≡ None
range_end p i n l = let e : n - i ≡ 0 = omega arith in ap (λ k. find p (range_with_len i k)) e

found_turn : (a k n : ℕ) (b : Bool) (later : Option ℕ) → (later ≡ Some n → n < a + 1 + k) → cond b (Some a) later ≡ Some n → n < a + suc k
found_turn a k n true later h e = let same : a ≡ n = cc in omega arith
found_turn a k n false later h e = omega (arith, h e)

pub found_below : (p : ℕ → Bool) (a k n : ℕ) → find p (range_with_len a k) ≡ Some n → n < a + k
found_below p a zero n e = absurd cc
found_below p a (suc k) n e = found_turn a k n (p a) (find p (range_with_len (a + 1) k)) (found_below p (a + 1) k n) e

-- an object fails exactly where it does by its tally
pub fails_here : (code : Image) (content : Stored) (objects : List Object) (tallies : List Tally) (n : ℕ) (o : Object) (d : Tally) (b : Bool)
    → AreTallies (table_of_image code) (content_of content) tallies → objects ≡ content.objects → n < length objects → o ≡ get_or objects n o
    → b ≡ fails_tallied (table_of_image code) (map object_of objects) n (object_of o) (get_or tallies n d)
    → fails (table_of_image code) (content_of content) n ≡ b
fails_here code content objects tallies n o d b are same l at is =
    fails_by_tally (table_of_image code) (content_of content) n (object_of o) there
    ∙ ap (λ t. fails_tallied (table_of_image code) (map object_of content.objects) n (object_of o) t) (sym tally)
    ∙ ap (λ os. fails_tallied (table_of_image code) (map object_of os) n (object_of o) (get_or tallies n d)) (sym same) ∙ sym is
  where
    there : object_at (map object_of content.objects) n ≡ Some (object_of o)
    there =
        ap (λ os. object_at (map object_of os) n) (sym same) ∙ slice_get-map object_of objects n
        ∙ ap (option_map object_of) (slice_get_read objects (length objects) n o refl l at)

    tally : get_or tallies n d ≡ tally_of (table_of_image code) (content_of content) n (object_of o)
    tally = get_or_from_slice_get tallies n (tally_of (table_of_image code) (content_of content) n (object_of o)) d
        (are n ∙ ap (option_map (tally_of (table_of_image code) (content_of content) n)) there)

-- the number of the first object that fails is that of an object
pub failing_below : (table : ClassTable) (content : Stored) (n : ℕ) → first_failing_object table (content_of content) ≡ Some n → n < length content.objects
failing_below table content n e =
    omega (arith, found_below (fails table (content_of content)) 0 (length (map object_of content.objects)) n e, length-map content.objects object_of)
