-- What a request is answered, and what it comes to (this project's own).
use Rattle.std.specs.Prelude.{ℕ, Bool, true, false, List, Option}
use Rattle.ob_heap_spec.specs.Values.{Value}
use Rattle.ob_heap_spec.specs.Contents.{HandleName, Content}
use Rattle.ob_heap_spec.specs.Worlds.{ReadItem, AbortCause}

-- why a request is refused, in the order in which this is asked
pub data Refusal : Type 0 where
  no_handle : Refusal
  no_contract : Refusal
  not_main : Refusal
  no_transaction : Refusal
  arg_count : Refusal
  arg_kind : Refusal
  permission : Refusal
  repeated : Refusal
  into_missing : Refusal
  into_needless : Refusal
  into_taken : Refusal
  handles_full : Refusal

-- an object as a `see` shows it: its number, the names of its contract and of its state, the values of its available
-- fields with their names, and its marks
pub record ShownObject : Type 0 where
  pub object : ℕ
  pub contract : List ℕ
  pub state : Option (List ℕ)
  pub fields : List (List ℕ × Value)
  pub shared : Bool
  pub disowned : Bool

-- a place as an `owner` shows it: a field of the object of a number, by its name, or a handle
pub data ShownPlace : Type 0 where
  shown_field : ℕ → List ℕ → ShownPlace
  shown_handle : HandleName → ShownPlace

-- What a request is answered. It was done, and there is nothing to tell, or it gave a value, or the object of a number,
-- or an object is shown, or a place. Or it was refused. Or it was aborted, by a cause; where that tells a state, the
-- name of the state stands beside it.
pub data Reply : Type 0 where
  ok_nothing : Reply
  ok_value : Value → Reply
  ok_object : ℕ → Reply
  ok_shown : ShownObject → Reply
  ok_place : ShownPlace → Reply
  refused : Refusal → Reply
  aborted : AbortCause → Option (List ℕ) → Reply

-- whether a request was done
abbrev pub is_ok : Reply → Bool
is_ok (refused refusal) = false
is_ok (aborted cause state) = false
is_ok reply = true

-- what a request has come to: its reply, what the store holds after it, the units that it has taken, and what it has
-- read
pub record Invoked : Type 0 where
  pub reply : Reply
  pub content : Content
  pub taken : ℕ
  pub reads : List ReadItem

-- a request comes to something, or it goes wrong
pub data Invocation : Type 0 where
  invoked : Invoked → Invocation
  goes_wrong : Invocation
