-- Noting the places one after another.
use Rattle.std.proofs.Common.{◌≡◌, ℕ, ◌+◌, ◌<◌, List, [], map, drop, length, get_or, Option, Some, None, refl, sym, ap, ◌∙◌}
use Rattle.std.specs.Prelude.{option_map, filter_map, flat_map, slice_get}
use Rattle.std.specs.Option.{option_map_or, option_to_list}
use Rattle.std.specs.List.{enumerate_from, cons_option}
use Rattle.std.proofs.lemmas.List.{map-append}
use Rattle.ob_base.specs.declared.name.Label.{Label}
use Rattle.ob_code.specs.declared.image.ContractCode.{ContractCode}
use Rattle.ob_code.specs.declared.image.FieldCode.{FieldCode}
use Rattle.ob_code.specs.declared.image.Image.{Image}
use Rattle.ob_table.specs.Tables.{ClassTable}
use Rattle.ob_table.specs.declared.contract.Contract.{Contract}
use Rattle.ob_heap.specs.declared.object.Handle.{Handle}
use Rattle.ob_heap.specs.declared.object.Object.{Object}
use Rattle.ob_heap.specs.Blocks.{joined}
use Rattle.ob_heap.specs.Contents.{Stored, content_of, named_of}
use Rattle.ob_heap.specs.Plain.{object_of}
use Rattle.ob_heap_spec.specs.Objects.{Object as PlainObject}
use Rattle.ob_code_table.specs.ImageTables.{contract_of_code, field_of_code, table_of_image}
use Rattle.ob_rest_spec.specs.References.{FieldReference, reference_of, references_of, field_references, available_value}
use Rattle.ob_owners.specs.declared.tally.Holding.{Holding}
use Rattle.ob_owners.specs.declared.tally.Tally.{Tally}
use Rattle.ob_owners.specs.Noting.{holding_of_field, holding_of_handle, holdings, tallies_with, after_holdings}
use Rattle.ob_owners.specs.Referring.{references_by}
use Rattle.ob_owners.proofs.TurnLemmas.{rest_turn}
use Rattle.ob_owners.proofs.SeenLemmas.{contract_by}
use Rattle.ob_owners.proofs.TallyLaws.{after_append}

-- Handles.

pub handle_turn : (handles : List ((Label × Label) × Handle)) (i : ℕ) (h : (Label × Label) × Handle) (ts : List Tally) → i < length handles → h ≡ get_or handles i h
    → after_holdings (map holding_of_handle (map named_of (drop i handles))) ts
    ≡ after_holdings (map holding_of_handle (map named_of (drop (i + 1) handles))) (tallies_with (holding_of_handle (named_of h)) ts)
handle_turn handles i h ts l at =
    ap (λ hs. after_holdings (map holding_of_handle (map named_of hs)) ts) (rest_turn handles handles i h refl l at)

-- the handles of a block, and those of the blocks after it
pub block_turn : (blocks : List (List ((Label × Label) × Handle))) (i : ℕ) (b : List ((Label × Label) × Handle)) (ts us : List Tally) → i < length blocks → b ≡ get_or blocks i b
    → us ≡ after_holdings (map holding_of_handle (map named_of b)) ts
    → after_holdings (map holding_of_handle (map named_of (joined (drop (i + 1) blocks)))) us
    ≡ after_holdings (map holding_of_handle (map named_of (joined (drop i blocks)))) ts
block_turn blocks i b ts us l at note =
    let rest = joined (drop (i + 1) blocks) in
    ap (after_holdings (map holding_of_handle (map named_of rest))) note
    ∙ sym (after_append (map holding_of_handle (map named_of b)) (map holding_of_handle (map named_of rest)) ts)
    ∙ sym (ap (λ hs. after_holdings hs ts) (map-append holding_of_handle (map named_of b) (map named_of rest)))
    ∙ sym (ap (λ hs. after_holdings (map holding_of_handle hs) ts) (map-append named_of b rest))
    ∙ sym (ap (λ bs. after_holdings (map holding_of_handle (map named_of (joined bs))) ts) (rest_turn blocks blocks i b refl l at))

-- The fields of an object.

-- the references in the fields of an object from a place on
abbrev pub references_from : Contract → ℕ → PlainObject → ℕ → List FieldCode → List FieldReference
references_from c holder o k fs =
    filter_map (λ f. reference_of holder f.0 f.1.of (available_value c o f.0)) (enumerate_from k (map field_of_code fs))

-- the reference in a field, and those in the fields after it
pub references_turn : (c : Contract) (holder : ℕ) (o : PlainObject) (items own : List FieldCode) (k : ℕ) (f : FieldCode) → items ≡ own → k < length items → f ≡ get_or items k f
    → references_from c holder o k (drop k own)
    ≡ cons_option (reference_of holder k (field_of_code f).of (available_value c o k)) (references_from c holder o (k + 1) (drop (k + 1) own))
references_turn c holder o items own k f e l at = ap (references_from c holder o k) (rest_turn items own k f e l at)

after_option : {A : Type 0} (hold : A → Holding) (r : Option A) (rest : List A) (ts : List Tally)
    → after_holdings (map hold (cons_option r rest)) ts ≡ after_holdings (map hold rest) (after_holdings (map hold (option_to_list r)) ts)
after_option hold None rest ts = refl
after_option hold (Some x) rest ts = refl

pub fields_noted : (hold : FieldReference → Holding) (c : Contract) (holder : ℕ) (o : PlainObject) (items own : List FieldCode) (k : ℕ) (f : FieldCode) (r : Option FieldReference) (ts us : List Tally)
    → items ≡ own → k < length items → f ≡ get_or items k f → r ≡ reference_of holder k (field_of_code f).of (available_value c o k)
    → us ≡ after_holdings (map hold (option_to_list r)) ts
    → after_holdings (map hold (references_from c holder o (k + 1) (drop (k + 1) own))) us ≡ after_holdings (map hold (references_from c holder o k (drop k own))) ts
fields_noted hold c holder o items own k f r ts us e l at is note =
    ap (after_holdings (map hold (references_from c holder o (k + 1) (drop (k + 1) own)))) note
    ∙ sym (after_option hold r (references_from c holder o (k + 1) (drop (k + 1) own)) ts)
    ∙ ap (λ x. after_holdings (map hold (cons_option x (references_from c holder o (k + 1) (drop (k + 1) own)))) ts) is
    ∙ sym (ap (λ rs. after_holdings (map hold rs) ts) (references_turn c holder o items own k f e l at))

-- the references in the fields of an object, by what the image says of its contract
pub references_there : (code : Image) (holder : ℕ) (o : Object) (r : Option ContractCode) → slice_get code.contracts o.contract.0 ≡ r
    → references_of (table_of_image code) holder (object_of o)
    ≡ option_map_or (λ c. references_by c holder (object_of o)) (option_map contract_of_code r) []
references_there code holder o r at =
    ap (λ x. option_map_or (λ (c : Contract). references_by c holder (object_of o)) x []) (contract_by code o.contract r at)

-- The fields of all objects.

-- the references in the fields of the objects from a number on
abbrev pub references_after : ClassTable → ℕ → List Object → List FieldReference
references_after table i os = flat_map (λ o. references_of table o.0 o.1) (enumerate_from i (map object_of os))

pub objects_noted : (hold : FieldReference → Holding) (table : ClassTable) (objects : List Object) (i : ℕ) (o : Object) (ts us : List Tally)
    → i < length objects → o ≡ get_or objects i o → us ≡ after_holdings (map hold (references_of table i (object_of o))) ts
    → after_holdings (map hold (references_after table (i + 1) (drop (i + 1) objects))) us
    ≡ after_holdings (map hold (references_after table i (drop i objects))) ts
objects_noted hold table objects i o ts us l at note =
    ap (after_holdings (map hold (references_after table (i + 1) (drop (i + 1) objects)))) note
    ∙ sym (after_append (map hold (references_of table i (object_of o))) (map hold (references_after table (i + 1) (drop (i + 1) objects))) ts)
    ∙ sym (ap (λ hs. after_holdings hs ts) (map-append hold (references_of table i (object_of o)) (references_after table (i + 1) (drop (i + 1) objects))))
    ∙ sym (ap (λ os. after_holdings (map hold (references_after table i os)) ts) (rest_turn objects objects i o refl l at))

-- All places.

pub places_noted : (code : Image) (content : Stored) (objects : List Object) (handles : List ((Label × Label) × Handle)) (ts us vs : List Tally)
    → objects ≡ content.objects → handles ≡ content.handles
    → us ≡ after_holdings (map (holding_of_field (table_of_image code) (map object_of objects)) (field_references (table_of_image code) (map object_of objects))) ts
    → vs ≡ after_holdings (map holding_of_handle (map named_of handles)) us
    → vs ≡ after_holdings (holdings (table_of_image code) (content_of content)) ts
places_noted code content objects handles ts us vs same_objects same_handles by_fields by_handles =
    by_handles ∙ ap (λ hs. after_holdings (map holding_of_handle (map named_of hs)) us) same_handles
    ∙ ap (after_holdings (map holding_of_handle (map named_of content.handles)))
    (by_fields ∙ ap (λ os. after_holdings (map (holding_of_field (table_of_image code) (map object_of os)) (field_references (table_of_image code) (map object_of os))) ts) same_objects)
    ∙ sym (after_append (map (holding_of_field (table_of_image code) (map object_of content.objects)) (field_references (table_of_image code) (map object_of content.objects)))
    (map holding_of_handle (map named_of content.handles)) ts)
