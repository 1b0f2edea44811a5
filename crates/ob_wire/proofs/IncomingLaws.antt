-- What is worked out of a value, or of the items of an array, is what the value asks.
use Rattle.std.proofs.Common.{subst, ◌≡◌, ℕ, ◌+◌, ◌<◌, Bool, true, false, List, [], ◌∷◌, ◌++◌, length, drop, get_or, Option, Some, None, refl, sym, ◌∙◌, ap, append_assoc}
use Rattle.std.specs.Prelude.{Result, Ok, Err, IfOk, IsErrOf, if◌then◌else◌}
use Rattle.std.specs.Str.{IsUtf8}
use Rattle.std.proofs.lemmas.List.{drop_more}
use Rattle.serde_json.specs.Data.{Data, array, object, Items, no_items, item, Members}
use Rattle.serde_json.specs.Find.{as_array}
use Rattle.serde_json.specs.Read.{read}
use Rattle.serde_json.specs.View.{view, items_view}
use Rattle.serde_json.specs.declared.value.Value.{Value}
use Rattle.ob_base.specs.Optional.{◌>>=◌}
use Rattle.ob_base.proofs.OptionalLemmas.{bind_some}
use Rattle.ob_wire.specs.Requests.{is_batch_size, AreRequests, IsRequestArray, IsIncoming, IsWrongCount, IsNoRequest, IsJson, IsNoJson, AsksIncoming, AsksNothing, AsksWrongCount}
use Rattle.ob_wire.specs.Reading.{request_in, requests_in, one_of, batch_of, batch_if, incoming_by, incoming_in, Gives, Reads}
use Rattle.ob_wire.specs.declared.reading.WireError.{WireError}
use Rattle.ob_wire.specs.declared.reading.WireError.TheVariants.{Json, Shape, BatchSize, Memory}
use Rattle.ob_wire.specs.declared.request.Incoming.{Incoming}
use Rattle.ob_wire.specs.declared.request.Incoming.TheVariants.{One, Batch}
use Rattle.ob_wire.specs.declared.request.Request.{Request}
use Rattle.ob_wire.proofs.RequestLaws.{as_array-is, request_there, request_again}

-- ---- the items of an array

-- these requests, and those that the rest asks, if each item of it asks one
abbrev pub with_rest : List Request → Option (List Request) → Option (List Request)
with_rest requests None = None
with_rest requests (Some more) = Some (requests ++ more)

-- what follows from one more request
one_more : (front : List Request) (request : Request) (rest : Option (List Request))
    → with_rest (front ++ request ∷ []) rest ≡ with_rest front (rest >>= λ more. Some (request ∷ more))
one_more front request None = refl
one_more front request (Some more) = ap Some (append_assoc front (request ∷ []) more)

items_at : (values : List Value) (i : ℕ) (v : Value) → i < length values → v ≡ get_or values i v → drop i values ≡ v ∷ drop (i + 1) values
items_at values i v lt at = drop_more values i v lt ∙ ap (λ (x : Value). x ∷ drop (i + 1) values) (sym at)

-- an item that asks this request
pub asks_on : (front : List Request) (values : List Value) (i : ℕ) (v : Value) (request : Request) (all : Option (List Request)) → i < length values → v ≡ get_or values i v
    → request_in (view v) ≡ Some request → with_rest front (requests_in (items_view (drop i values))) ≡ all
    → with_rest (front ++ request ∷ []) (requests_in (items_view (drop (i + 1) values))) ≡ all
asks_on front values i v request all lt at is so_far =
    one_more front request (requests_in (items_view (drop (i + 1) values)))
    ∙ sym (ap (λ (o : Option Request). with_rest front (o >>= λ first. requests_in (items_view (drop (i + 1) values)) >>= λ more. Some (first ∷ more))) is)
    ∙ sym (ap (λ (vs : List Value). with_rest front (requests_in (items_view vs))) (items_at values i v lt at))
    ∙ so_far

requests_there : (items : Items) (requests : List Request) → requests_in items ≡ Some requests → AreRequests items requests
requests_there no_items [] e = tt
requests_there no_items (request ∷ requests) e = absurd cc
requests_there (item value items) requests e =
    let a = bind_some (request_in value) (λ request. requests_in items >>= λ more. Some (request ∷ more)) requests e in
    let b = bind_some (requests_in items) (λ more. Some (a.0 ∷ more)) requests a.2 in
    let same : a.0 ∷ b.0 ≡ requests = cc in
    subst (AreRequests (item value items)) same (request_there value a.0 a.1, requests_there items b.0 b.1)

requests_again : (items : Items) (requests : List Request) → AreRequests items requests → requests_in items ≡ Some requests
requests_again no_items [] h = refl
requests_again no_items (request ∷ requests) h = absurd h
requests_again (item value items) [] h = absurd h
requests_again (item value items) (request ∷ requests) h = rw (request_again value request h.0, requests_again items requests h.1) refl

-- an array has these requests alone
one_array : (value : Data) (a b : List Request) → IsRequestArray value a → IsRequestArray value b → a ≡ b
one_array value a b h k =
    let same : h.0 ≡ k.0 = let x = h.1 in let y = k.1 in cc in
    let x = requests_again h.0 a h.2 in
    let y = requests_again k.0 b k.2 in
    cc

-- ---- a value

-- a value is what this answer says of it
abbrev IsSo : Data → Result Incoming WireError → Type 0
IsSo value (Ok incoming) = IsIncoming value incoming
IsSo value (Err Shape) = IsNoRequest value
IsSo value (Err BatchSize) = IsWrongCount value
IsSo value (Err Json) = ⊥
IsSo value (Err Memory) = ⊥

-- an array is no request
no_object : (value : Data) (items : Items) (ms : Members) → value ≡ array items → value ≡ object ms → ⊥
no_object value items ms a o = absurd cc

one_so : (value : Data) (o : Option Request) → as_array value ≡ None → request_in value ≡ o → IsSo value (one_of o)
one_so value None no_array is =
    (λ request asks. let again = request_again value request asks in absurd cc, λ requests asks. let t = rw asks.1 at no_array in absurd cc)
one_so value (Some request) no_array is = request_there value request is

sized : (value : Data) (requests : List Request) (b : Bool) → IsRequestArray value requests → is_batch_size (length requests) ≡ b
    → IsSo value (if b then Ok (Batch requests) else Err BatchSize)
sized value requests true are is = (are, is)
sized value requests false are is = (requests, are, λ fits. absurd cc)

batch_so : (value : Data) (items : Items) (o : Option (List Request)) → value ≡ array items → requests_in items ≡ o → IsSo value (batch_if o)
batch_so value items None are is = (
  λ request asks. no_object value items asks.keys.members are asks.keys.is,
  λ requests asks.
      let same : asks.0 ≡ items = let x = asks.1 in cc in
      let again = requests_again asks.0 requests asks.2 in
      absurd cc,
)
batch_so value items (Some requests) are is =
    sized value requests (is_batch_size (length requests)) (items, are, requests_there items requests is) refl

so_by : (value : Data) (o : Option Items) → as_array value ≡ o → IsSo value (incoming_by o value)
so_by value None is = one_so value (request_in value) is refl
so_by value (Some items) is = batch_so value items (requests_in items) (as_array-is value items is) refl

-- a value is what is worked out of it
is_so : (value : Data) → IsSo value (incoming_in value)
is_so value = so_by value (as_array value) refl

pub incoming_there : (value : Data) (incoming : Incoming) → incoming_in value ≡ Ok incoming → IsIncoming value incoming
incoming_there value incoming is = subst (IsSo value) is (is_so value)

pub no_request_there : (value : Data) → incoming_in value ≡ Err Shape → IsNoRequest value
no_request_there value is = subst (IsSo value) is (is_so value)

pub wrong_count_there : (value : Data) → incoming_in value ≡ Err BatchSize → IsWrongCount value
wrong_count_there value is = subst (IsSo value) is (is_so value)

array_again : (value : Data) (requests : List Request) → IsRequestArray value requests → incoming_in value ≡ batch_of requests
array_again value requests h = rw (h.1, requests_again h.0 requests h.2) refl

size_again : (requests : List Request) (b : Bool) → is_batch_size (length requests) ≡ b → batch_of requests ≡ (if b then Ok (Batch requests) else Err BatchSize)
size_again requests b is = ap (λ (b : Bool). if b then Ok (Batch requests) else Err BatchSize) is

pub incoming_again : (value : Data) (incoming : Incoming) → IsIncoming value incoming → incoming_in value ≡ Ok incoming
incoming_again value (One request) h = ap (λ (o : Option Items). incoming_by o value) (ap as_array h.keys.is) ∙ ap one_of (request_again value request h)
incoming_again value (Batch requests) h = array_again value requests h.0 ∙ size_again requests true h.1

no_request_by : (value : Data) (r : Result Incoming WireError) → IsSo value r → IsNoRequest value → r ≡ Err Shape
no_request_by value (Ok (One request)) so none = absurd (none.0 request so)
no_request_by value (Ok (Batch requests)) so none = absurd (none.1 requests so.0)
no_request_by value (Err Shape) so none = refl
no_request_by value (Err BatchSize) so none = absurd (none.1 so.0 so.1)
no_request_by value (Err Json) so none = absurd so
no_request_by value (Err Memory) so none = absurd so

pub no_request_again : (value : Data) → IsNoRequest value → incoming_in value ≡ Err Shape
no_request_again value none = no_request_by value (incoming_in value) (is_so value) none

is_false : (b : Bool) → (b ≡ true → ⊥) → b ≡ false
is_false true h = absurd (h refl)
is_false false h = refl

pub wrong_count_again : (value : Data) → IsWrongCount value → incoming_in value ≡ Err BatchSize
wrong_count_again value h = array_again value h.0 h.1 ∙ size_again h.0 false (is_false (is_batch_size (length h.0)) h.2)

-- ---- lines

-- a line has one value at most
one_value : (line : List ℕ) (a b : Data) → IsJson line a → IsJson line b → a ≡ b
one_value line a b p q = let x = p.json in let y = q.json in cc

-- a line asks one thing at most
pub incoming_one : (line : List ℕ) (a b : Incoming) → AsksIncoming line a → AsksIncoming line b → a ≡ b
incoming_one line a b p q =
    let same : p.0 ≡ q.0 = one_value line p.0 q.0 p.1 q.1 in
    let x = incoming_again p.0 a p.2 in
    let y = incoming_again q.0 b q.2 in
    cc

-- what a value asks is what its line asks
pub reads_value : (line : List ℕ) (value : Data) (r : Result Incoming WireError) → IsUtf8 line → read line ≡ Some value → Gives r (incoming_in value) → Reads r line
reads_value line value (Ok incoming) utf8 is h = (value, record { utf8 = utf8; json = is }, incoming_there value incoming h)
reads_value line value (Err Shape) utf8 is h = (value, record { utf8 = utf8; json = is }, no_request_there value h)
reads_value line value (Err BatchSize) utf8 is h = (value, record { utf8 = utf8; json = is }, wrong_count_there value h)
reads_value line value (Err Json) utf8 is h = absurd h
reads_value line value (Err Memory) utf8 is h = tt

-- a line that isn't read has no value
pub reads_none : (line : List ℕ) → (IsUtf8 line → read line ≡ None) → IsNoJson line
reads_none line none value is = let x = none is.utf8 in let y = is.json in cc

pub asked_by : (line : List ℕ) (r : Result Incoming WireError) → Reads r line → IfOk r (λ incoming. AsksIncoming line incoming)
asked_by line (Ok incoming) h = h
asked_by line (Err e) h = tt

pub no_json_by : (line : List ℕ) (r : Result Incoming WireError) → Reads r line → IsErrOf r Json → IsNoJson line
no_json_by line (Ok incoming) h is = absurd cc
no_json_by line (Err Json) h is = h
no_json_by line (Err Shape) h is = absurd cc
no_json_by line (Err BatchSize) h is = absurd cc
no_json_by line (Err Memory) h is = absurd cc

pub asks_nothing_by : (line : List ℕ) (r : Result Incoming WireError) → Reads r line → IsErrOf r Shape → AsksNothing line
asks_nothing_by line (Ok incoming) h is = absurd cc
asks_nothing_by line (Err Json) h is = absurd cc
asks_nothing_by line (Err Shape) h is = h
asks_nothing_by line (Err BatchSize) h is = absurd cc
asks_nothing_by line (Err Memory) h is = absurd cc

pub batch_size_by : (line : List ℕ) (r : Result Incoming WireError) → Reads r line → IsErrOf r BatchSize → AsksWrongCount line
batch_size_by line (Ok incoming) h is = absurd cc
batch_size_by line (Err Json) h is = absurd cc
batch_size_by line (Err Shape) h is = absurd cc
batch_size_by line (Err BatchSize) h is = h
batch_size_by line (Err Memory) h is = absurd cc
