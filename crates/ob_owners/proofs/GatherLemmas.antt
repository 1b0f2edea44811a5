-- Owning places, gathered one after another.
use Rattle.std.proofs.Common.{◌≡◌, ℕ, ◌+◌, ◌<◌, ◌≤◌, List, [], ◌++◌, map, length, get_or, drop, Option, Some, None, refl, sym, ap, ◌∙◌}
use Rattle.std.specs.Prelude.{flat_map, option_map, slice_get}
use Rattle.std.specs.Option.{option_map_or, option_to_list}
use Rattle.std.specs.List.{enumerate_from, cons_option}
use Rattle.std.proofs.lemmas.List.{append_assoc, append-nil, map-append}
use Rattle.std.proofs.lemmas.List.Concat.{flat_map-append}
use Rattle.ob_base.specs.declared.id.ObjectId.{ObjectId}
use Rattle.ob_base.specs.declared.name.Label.{Label}
use Rattle.ob_code.specs.declared.image.ContractCode.{ContractCode}
use Rattle.ob_code.specs.declared.image.FieldCode.{FieldCode}
use Rattle.ob_code.specs.declared.image.Image.{Image}
use Rattle.ob_table.specs.Tables.{ClassTable}
use Rattle.ob_table.specs.declared.contract.Contract.{Contract}
use Rattle.ob_heap.specs.declared.object.Handle.{Handle}
use Rattle.ob_heap.specs.declared.object.Object.{Object}
use Rattle.ob_heap.specs.Blocks.{joined}
use Rattle.ob_heap.specs.Contents.{Stored, handle_at, name_of, named_of}
use Rattle.ob_heap.specs.Plain.{object_of, handle_of}
use Rattle.ob_heap_spec.specs.Objects.{Object as PlainObject}
use Rattle.ob_code_table.specs.ImageTables.{contract_of_code, field_of_code, table_of_image}
use Rattle.ob_rest_spec.specs.References.{FieldReference, reference_of, available_value}
use Rattle.ob_owners.specs.Owning.{OwningPlace, owning_by_field, owning_by_handle, owning_by_object, objects_coming, handles_coming, objects_going, handles_going}
use Rattle.ob_owners.specs.Referring.{references_by}
use Rattle.ob_owners.proofs.NotingLemmas.{references_from, references_turn, references_there}
use Rattle.ob_owners.proofs.TurnLemmas.{rest_turn, rest_end}

-- what was gathered first, and then the rest
in_turn : (ts us own rest all : List OwningPlace) → us ≡ ts ++ own → own ++ rest ≡ all → us ++ rest ≡ ts ++ all
in_turn ts us own rest all e is = ap (λ xs. xs ++ rest) e ∙ append_assoc ts own rest ∙ ap (λ xs. ts ++ xs) is

-- nothing is left
pub at_end : {A : Type 0} (left : List A → List OwningPlace) (items : List A) (i : ℕ) (ts all : List OwningPlace) → left [] ≡ [] → length items ≤ i
    → ts ++ left (drop i items) ≡ all → ts ≡ all
at_end left items i ts all none past e =
    sym (append-nil ts) ∙ sym (ap (λ xs. ts ++ xs) (ap left (rest_end items items i refl past) ∙ none)) ∙ e

in_option : {A : Type 0} (own : A → List OwningPlace) (o : Option A) (rest : List A) → flat_map own (option_to_list o) ++ flat_map own rest ≡ flat_map own (cons_option o rest)
in_option own None rest = refl
in_option own (Some x) rest = ap (λ xs. xs ++ flat_map own rest) (append-nil (own x))

pub field_added : (c : Contract) (holder : ℕ) (o : PlainObject) (items own : List FieldCode) (k : ℕ) (f : FieldCode) (r : Option FieldReference) (ts us : List OwningPlace)
    → items ≡ own → k < length items → f ≡ get_or items k f → r ≡ reference_of holder k (field_of_code f).of (available_value c o k)
    → us ≡ ts ++ flat_map owning_by_field (option_to_list r)
    → us ++ flat_map owning_by_field (references_from c holder o (k + 1) (drop (k + 1) own)) ≡ ts ++ flat_map owning_by_field (references_from c holder o k (drop k own))
field_added c holder o items own k f r ts us e l at is put =
    let rest = references_from c holder o (k + 1) (drop (k + 1) own) in
    in_turn ts us (flat_map owning_by_field (option_to_list r)) (flat_map owning_by_field rest) (flat_map owning_by_field (references_from c holder o k (drop k own))) put
    (in_option owning_by_field r rest ∙ ap (λ x. flat_map owning_by_field (cons_option x rest)) is
    ∙ sym (ap (flat_map owning_by_field) (references_turn c holder o items own k f e l at)))

pub object_added : (table : ClassTable) (objects : List Object) (i : ℕ) (o : Object) (ts us : List OwningPlace) → i < length objects → o ≡ get_or objects i o
    → us ≡ ts ++ owning_by_object table (i, object_of o)
    → us ++ flat_map (owning_by_object table) (enumerate_from (i + 1) (map object_of (drop (i + 1) objects)))
    ≡ ts ++ flat_map (owning_by_object table) (enumerate_from i (map object_of (drop i objects)))
object_added table objects i o ts us l at put =
    in_turn ts us (owning_by_object table (i, object_of o)) (flat_map (owning_by_object table) (enumerate_from (i + 1) (map object_of (drop (i + 1) objects))))
    (flat_map (owning_by_object table) (enumerate_from i (map object_of (drop i objects)))) put
    (sym (ap (λ os. flat_map (owning_by_object table) (enumerate_from i (map object_of os))) (rest_turn objects objects i o refl l at)))

pub object_coming : (table : ClassTable) (es : List (ObjectId × Object)) (i : ℕ) (e : ObjectId × Object) (ts us : List OwningPlace) → i < length es → e ≡ get_or es i e
    → us ≡ ts ++ owning_by_object table (e.0.0, object_of e.1)
    → us ++ flat_map (owning_by_object table) (objects_coming (drop (i + 1) es)) ≡ ts ++ flat_map (owning_by_object table) (objects_coming (drop i es))
object_coming table es i e ts us l at put =
    in_turn ts us (owning_by_object table (e.0.0, object_of e.1)) (flat_map (owning_by_object table) (objects_coming (drop (i + 1) es)))
    (flat_map (owning_by_object table) (objects_coming (drop i es))) put
    (sym (ap (λ xs. flat_map (owning_by_object table) (objects_coming xs)) (rest_turn es es i e refl l at)))

pub object_going : (table : ClassTable) (c : Stored) (es : List (ObjectId × Object)) (i : ℕ) (e : ObjectId × Object) (o : Option Object) (ts us : List OwningPlace)
    → i < length es → e ≡ get_or es i e → o ≡ slice_get c.objects e.0.0
    → us ≡ ts ++ flat_map (owning_by_object table) (option_to_list (option_map (λ x. (e.0.0, object_of x)) o))
    → us ++ flat_map (owning_by_object table) (objects_going c (drop (i + 1) es)) ≡ ts ++ flat_map (owning_by_object table) (objects_going c (drop i es))
object_going table c es i e o ts us l at is put =
    let found = option_map (λ x. (e.0.0, object_of x)) o in
    let rest = objects_going c (drop (i + 1) es) in
    in_turn ts us (flat_map (owning_by_object table) (option_to_list found)) (flat_map (owning_by_object table) rest)
    (flat_map (owning_by_object table) (objects_going c (drop i es))) put
    (in_option (owning_by_object table) found rest
    ∙ ap (λ r. flat_map (owning_by_object table) (cons_option (option_map (λ x. (e.0.0, object_of x)) r) rest)) is
    ∙ sym (ap (λ xs. flat_map (owning_by_object table) (objects_going c xs)) (rest_turn es es i e refl l at)))

pub handle_added : (handles : List ((Label × Label) × Handle)) (i : ℕ) (h : (Label × Label) × Handle) (ts us : List OwningPlace) → i < length handles → h ≡ get_or handles i h
    → us ≡ ts ++ owning_by_handle (named_of h)
    → us ++ flat_map owning_by_handle (map named_of (drop (i + 1) handles)) ≡ ts ++ flat_map owning_by_handle (map named_of (drop i handles))
handle_added handles i h ts us l at put =
    in_turn ts us (owning_by_handle (named_of h)) (flat_map owning_by_handle (map named_of (drop (i + 1) handles))) (flat_map owning_by_handle (map named_of (drop i handles))) put
    (sym (ap (λ hs. flat_map owning_by_handle (map named_of hs)) (rest_turn handles handles i h refl l at)))

pub block_added : (blocks : List (List ((Label × Label) × Handle))) (i : ℕ) (b : List ((Label × Label) × Handle)) (ts us : List OwningPlace) → i < length blocks → b ≡ get_or blocks i b
    → us ≡ ts ++ flat_map owning_by_handle (map named_of b)
    → us ++ flat_map owning_by_handle (map named_of (joined (drop (i + 1) blocks))) ≡ ts ++ flat_map owning_by_handle (map named_of (joined (drop i blocks)))
block_added blocks i b ts us l at put =
    let rest = joined (drop (i + 1) blocks) in
    in_turn ts us (flat_map owning_by_handle (map named_of b)) (flat_map owning_by_handle (map named_of rest)) (flat_map owning_by_handle (map named_of (joined (drop i blocks)))) put
    (sym (flat_map-append owning_by_handle (map named_of b) (map named_of rest))
    ∙ sym (ap (flat_map owning_by_handle) (map-append named_of b rest))
    ∙ sym (ap (λ bs. flat_map owning_by_handle (map named_of (joined bs))) (rest_turn blocks blocks i b refl l at)))

pub handle_coming : (ds : List ((Label × Label) × Option Handle)) (i : ℕ) (d : (Label × Label) × Option Handle) (ts us : List OwningPlace) → i < length ds → d ≡ get_or ds i d
    → us ≡ ts ++ flat_map owning_by_handle (option_to_list (option_map (λ h. (name_of d.0, handle_of h)) d.1))
    → us ++ flat_map owning_by_handle (handles_coming (drop (i + 1) ds)) ≡ ts ++ flat_map owning_by_handle (handles_coming (drop i ds))
handle_coming ds i d ts us l at put =
    let found = option_map (λ h. (name_of d.0, handle_of h)) d.1 in
    let rest = handles_coming (drop (i + 1) ds) in
    in_turn ts us (flat_map owning_by_handle (option_to_list found)) (flat_map owning_by_handle rest) (flat_map owning_by_handle (handles_coming (drop i ds))) put
    (in_option owning_by_handle found rest ∙ sym (ap (λ xs. flat_map owning_by_handle (handles_coming xs)) (rest_turn ds ds i d refl l at)))

pub handle_going : (c : Stored) (ds : List ((Label × Label) × Option Handle)) (i : ℕ) (d : (Label × Label) × Option Handle) (o : Option Handle) (ts us : List OwningPlace)
    → i < length ds → d ≡ get_or ds i d → o ≡ handle_at (name_of d.0) c.handles
    → us ≡ ts ++ flat_map owning_by_handle (option_to_list (option_map (λ h. (name_of d.0, handle_of h)) o))
    → us ++ flat_map owning_by_handle (handles_going c (drop (i + 1) ds)) ≡ ts ++ flat_map owning_by_handle (handles_going c (drop i ds))
handle_going c ds i d o ts us l at is put =
    let found = option_map (λ h. (name_of d.0, handle_of h)) o in
    let rest = handles_going c (drop (i + 1) ds) in
    in_turn ts us (flat_map owning_by_handle (option_to_list found)) (flat_map owning_by_handle rest) (flat_map owning_by_handle (handles_going c (drop i ds))) put
    (in_option owning_by_handle found rest
    ∙ ap (λ r. flat_map owning_by_handle (cons_option (option_map (λ h. (name_of d.0, handle_of h)) r) rest)) is
    ∙ sym (ap (λ xs. flat_map owning_by_handle (handles_going c xs)) (rest_turn ds ds i d refl l at)))

pub fields_end : (c : Contract) (holder : ℕ) (o : PlainObject) (items own : List FieldCode) (k : ℕ) (ts : List OwningPlace) → items ≡ own → length items ≤ k
    → ts ≡ ts ++ flat_map owning_by_field (references_from c holder o k (drop k own))
fields_end c holder o items own k ts e past =
    sym (append-nil ts) ∙ sym (ap (λ fs. ts ++ flat_map owning_by_field (references_from c holder o k fs)) (rest_end items own k e past))

-- what an image says of a contract is what there is of its object
pub object_there : (code : Image) (holder : ℕ) (o : Object) (r : Option ContractCode) → slice_get code.contracts o.contract.0 ≡ r
    → owning_by_object (table_of_image code) (holder, object_of o)
    ≡ flat_map owning_by_field (option_map_or (λ c. references_by c holder (object_of o)) (option_map contract_of_code r) [])
object_there code holder o r at = ap (flat_map owning_by_field) (references_there code holder o r at)

-- places that were gathered in two parts
pub both_parts : (none first last objects handles : List OwningPlace) → none ≡ [] → first ≡ none ++ objects → last ≡ first ++ handles → last ≡ objects ++ handles
both_parts none first last objects handles e f l = l ∙ ap (λ xs. xs ++ handles) (f ∙ ap (λ xs. xs ++ objects) e)
