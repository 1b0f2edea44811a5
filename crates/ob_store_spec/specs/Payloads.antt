-- The bytes of payloads (this project's own). Bytes, numbers and texts are spelled as ob_base writes them, and a word after a
-- colon only names the part. `x..` is several: as many as the count just before it; of values, as many as the object has fields
-- that are available in its state.
--
--     payload = u32 object..  u32 handle..
--     object  = u32:number u32:contract u8:state(255 none) u8:marks(1 shared, 2 disowned) value..
--     value   = u8 0 i64 | 1 u8 | 2 text | 3 u32
--     handle  = text:who text:name (u8 0 | u8 1 u32:object u8:mode)
use Rattle.std.specs.Prelude.{ℕ, ℤ, ◌≡◌, ◌<◌, ◌==◌, Bool, true, false, List, [], ◌∷◌, length, filter, Option, Some, None, if◌then◌else◌}
use Rattle.std.specs.Option.{option_map_or}
use Rattle.ob_base.specs.Bytes.{u8_bytes}
use Rattle.ob_base.specs.declared.id.ContractId.{ContractId}
use Rattle.ob_base.specs.declared.id.StateId.{StateId}
use Rattle.ob_table.specs.Tables.{ClassTable, contract_at}
use Rattle.ob_format_spec.specs.Formats.{Format}
use Rattle.ob_format_spec.specs.Combinators.{any_byte, number, integer, constant, and_then, ◌⨟◌, read_as, of_parts, times, counted, variant, by_kinds}
use Rattle.ob_format_spec.specs.Texts.{text}
use Rattle.ob_format_spec.specs.Ids.{contract_id}
use Rattle.ob_code.specs.Images.{mode}
use Rattle.ob_heap_spec.specs.Values.{Value, int_value, bool_value, text_value, reference, referred}
use Rattle.ob_heap_spec.specs.Objects.{is_available}
use Rattle.ob_heap_spec.specs.Contents.{HandleName, Handle}

-- an object with its number, as a payload has it: its marks, as shared and as disowned, and the values of its available
-- fields, in the order of their numbers
pub record StoredObject : Type 0 where
  pub number : ℕ
  pub contract : ContractId
  pub state : Option StateId
  pub marks : Bool × Bool
  pub values : List Value

-- what a payload says: objects as they are then, and handles as they are then, or that they are none any more
pub record Changes : Type 0 where
  pub objects : List StoredObject
  pub handles : List (HandleName × Option Handle)

-- the byte of a state, or of none
abbrev pub byte_of_state : Option StateId → ℕ
byte_of_state None = 255
byte_of_state (Some s) = s.0

-- the state of a byte
abbrev pub state_of_byte : ℕ → Option StateId
state_of_byte n = if n == 255 then None else Some (record { 0 = n })

-- a state, or none
unfoldable pub state : Format (Option StateId)
state = record {
  fits = λ s. (byte_of_state s < 256) × (state_of_byte (byte_of_state s) ≡ s);
  bytes = λ s. u8_bytes (byte_of_state s);
  read = read_as state_of_byte any_byte.read;
}

-- the byte of the marks
abbrev pub number_of_marks : Bool × Bool → ℕ
number_of_marks (false, false) = 0
number_of_marks (true, false) = 1
number_of_marks (false, true) = 2
number_of_marks (true, true) = 3

-- the marks
unfoldable pub marks : Format (Bool × Bool)
marks = by_kinds number_of_marks (constant (false, false) ∷ constant (true, false) ∷ constant (false, true) ∷ constant (true, true) ∷ [])

-- the byte of a truth value
abbrev pub number_of_truth : Bool → ℕ
number_of_truth false = 0
number_of_truth true = 1

-- a truth value
unfoldable pub truth : Format Bool
truth = by_kinds number_of_truth (constant false ∷ constant true ∷ [])

-- the byte of a value's kind
abbrev pub number_of_value : Value → ℕ
number_of_value (int_value z) = 0
number_of_value (bool_value b) = 1
number_of_value (text_value bytes) = 2
number_of_value (reference n) = 3

-- the number of an `int`
abbrev pub int_of : Value → Option ℤ
int_of (int_value z) = Some z
int_of other = None

-- the truth value of a `bool`
abbrev pub truth_of : Value → Option Bool
truth_of (bool_value b) = Some b
truth_of other = None

-- the bytes of a `string`
abbrev pub text_of : Value → Option (List ℕ)
text_of (text_value bytes) = Some bytes
text_of other = None

-- a value
unfoldable pub value : Format Value
value =
    by_kinds number_of_value
    (variant int_value int_of integer ∷ variant bool_value truth_of truth ∷ variant text_value text_of text ∷ variant reference referred number ∷ [])

-- how many fields of a contract are available in a state
abbrev pub available_count : ClassTable → ContractId → Option StateId → ℕ
available_count table contract state =
    option_map_or (λ c. length (filter (is_available state) c.fields)) (contract_at table contract) 0

-- an object, up to its values: its number, its contract, its state and its marks
unfoldable pub object_head : Format (ℕ × (ContractId × (Option StateId × (Bool × Bool))))
object_head = number ⨟ (contract_id ⨟ (state ⨟ marks))

-- an object
unfoldable pub object : ClassTable → Format StoredObject
object table = of_parts
    (λ p. record { number = p.0.0; contract = p.0.1.0; state = p.0.1.1.0; marks = p.0.1.1.1; values = p.1 })
    (λ o. ((o.number, (o.contract, (o.state, o.marks))), o.values))
    (and_then object_head (λ h. times value (available_count table h.1.0 h.1.1.0)))

-- the byte of whether a handle is there
abbrev pub number_of_held : Option Handle → ℕ
number_of_held None = 0
number_of_held (Some h) = 1

-- a hold on an object
unfoldable pub hold : Format Handle
hold = of_parts (λ p. record { object = p.0; mode = p.1 }) (λ h. (h.object, h.mode)) (number ⨟ mode)

-- a handle as it is then, or that it is none
unfoldable pub held : Format (Option Handle)
held = by_kinds number_of_held (constant None ∷ variant (λ h. Some h) (λ h. h) hold ∷ [])

-- a handle with its name
unfoldable pub handle : Format (HandleName × Option Handle)
handle = of_parts (λ p. (record { who = p.0; name = p.1.0 }, p.1.1)) (λ h. (h.0.who, (h.0.name, h.1))) (text ⨟ (text ⨟ held))

-- a payload, relative to a class table
unfoldable pub payload : ClassTable → Format Changes
payload table =
    of_parts (λ p. record { objects = p.0; handles = p.1 }) (λ c. (c.objects, c.handles)) (counted (object table) ⨟ counted handle)
