-- What the laws of the invocation say (this project's own).
use Rattle.std.specs.Prelude.{ℕ, ◌+◌, ◌≤◌, length, nat_eq, not, ◌&&◌, ◌≡◌, Bool, true, false, List, [], ◌∷◌, Option, Some, None, All, AllPairs, flat_map, if◌then◌else◌, ⊤}
use Rattle.std.specs.Ordering.{eq_by_cmp}
use Rattle.std.specs.List.{list_any}
use Rattle.std.specs.FinMap.Entries.{where_key}
use Rattle.std.specs.declared.cmp.Ordering.TheVariants.{Less}
use Rattle.ob_base.specs.Limits.{most_handles}
use Rattle.ob_table.specs.Tables.{ClassTable}
use Rattle.ob_heap_spec.specs.Objects.{Object}
use Rattle.ob_heap_spec.specs.Contents.{HandleName, Handle, Content, IsHandle, name_order}
use Rattle.ob_heap_spec.specs.Handles.{NamedHandle, handle_at}
use Rattle.ob_rest_spec.specs.Modes.{is_owned}
use Rattle.ob_rest_spec.specs.AtRest.{IsStoreAtRest}
use Rattle.ob_invocation_spec.specs.Requests.{Operation, new_request, call_request}
use Rattle.ob_invocation_spec.specs.Entries.{HandleUse}
use Rattle.ob_invocation_spec.specs.Entering.{put_after_use}
use Rattle.ob_invocation_spec.specs.Replies.{Reply, refused, is_ok, Invocation, invoked, goes_wrong}

-- whether a reply is a refusal
abbrev pub is_refused : Reply → Bool
is_refused (refused refusal) = true
is_refused reply = false

-- whether what is asked is a run: a `new` or a `call`
abbrev pub runs : Operation → Bool
runs (new_request r) = true
runs (call_request r) = true
runs operation = false

-- a request that isn't done leaves what the store holds
abbrev pub LeavesUnlessDone : Content → Invocation → Type 0
LeavesUnlessDone content (invoked i) = is_ok i.reply ≡ false → i.content ≡ content
LeavesUnlessDone content goes_wrong = ⊤

-- a request takes no unit
abbrev pub TakesNothing : Invocation → Type 0
TakesNothing (invoked i) = i.taken ≡ 0
TakesNothing goes_wrong = ⊤

-- a request takes no unit if it is refused
abbrev pub TakesNothingIfRefused : Invocation → Type 0
TakesNothingIfRefused (invoked i) = is_refused i.reply ≡ true → i.taken ≡ 0
TakesNothingIfRefused goes_wrong = ⊤

-- handles on these objects: each is one, and they stand in the order of their names, each once
pub record AreHandles (objects : List Object) (handles : List NamedHandle) : Type 0 where
  pub each : All (IsHandle objects) handles
  pub order : AllPairs (λ a b. name_order a.0 b.0 ≡ Less) handles

-- what a name denotes once a handle is put
abbrev pub found_after_put : Content → NamedHandle → HandleName → Option Handle
found_after_put content h name = if eq_by_cmp name_order name h.0 then Some h.1 else handle_at content name

-- what a name denotes once the handle of a name has gone
abbrev pub found_without : Content → HandleName → HandleName → Option Handle
found_without content gone name = if eq_by_cmp name_order gone name then None else handle_at content name

-- how many owners of the object of a number there are in a handle, if there is one: one or none
abbrev pub owners_in : ℕ → Option Handle → ℕ
owners_in n None = 0
owners_in n (Some h) = if nat_eq h.object n && is_owned h.mode then 1 else 0

-- whether a handle is put under a name
abbrev pub is_put : List NamedHandle → HandleName → Bool
is_put puts name = list_any (λ p. eq_by_cmp name_order p.0 name) puts

-- the handles under whose names no other one is put
abbrev pub kept_handles : List NamedHandle → List NamedHandle → List NamedHandle
kept_handles handles puts = where_key name_order (λ name. not (is_put puts name)) handles

-- how many owners of the object of a number there are in handles that are put, of each name in the last one
abbrev pub put_owners : List NamedHandle → ℕ → ℕ
put_owners [] n = 0
put_owners (p ∷ puts) n = (if is_put puts p.0 then 0 else owners_in n (Some p.1)) + put_owners puts n

-- how many of the owners that go in at the entry come back to their handles, of the object of a number: one of a use of
-- an Owned handle as the owner, whose exit owns
abbrev pub returned_owners : List HandleUse → ℕ → ℕ
returned_owners [] n = 0
returned_owners (u ∷ uses) n = put_owners (put_after_use u) n + returned_owners uses n

-- what the handles become that a `new` or a `call` uses
abbrev pub puts_of_uses : List HandleUse → List NamedHandle
puts_of_uses uses = flat_map put_after_use uses

-- a request doesn't go wrong, and what the store holds after it is at rest
abbrev pub KeepsStoreAtRest : ClassTable → Invocation → Type 0
KeepsStoreAtRest table (invoked i) = IsStoreAtRest table i.content
KeepsStoreAtRest table goes_wrong = ⊥

-- handles are few, and stand in the order of their names, each once
pub record AreKeptInOrder (handles : List NamedHandle) : Type 0 where
  pub order : AllPairs (λ a b. name_order a.0 b.0 ≡ Less) handles
  pub few : length handles ≤ most_handles

-- so do those after a request
abbrev pub KeepsHandles : Invocation → Type 0
KeepsHandles (invoked i) = AreKeptInOrder i.content.handles
KeepsHandles goes_wrong = ⊤
