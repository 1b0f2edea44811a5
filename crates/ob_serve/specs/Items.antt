-- The session of a program over a store, for any meaning of requests (this project's own).
use Rattle.std.specs.Prelude.{ℕ, ℤ, List, [], ◌∷◌, map, slice_get, option_to_list, Option, Some, None, Result, Ok, Err}
use Rattle.std.specs.List.{flat_map}
use Rattle.ob_code.specs.declared.image.Image.{Image}
use Rattle.ob_heap_spec.specs.Contents.{Content}
use Rattle.ob_invocation_spec.specs.Replies.{Invocation, invoked, goes_wrong}
use Rattle.ob_invocation_spec.specs.Requests as asked
use Rattle.ob_invocation_spec.specs.SourceInvocation.{source_invocation}
use Rattle.ob_machine_meaning.specs.Meanings.{machine_invocation}
use Rattle.ob_store_spec.specs.Settling.{settled}
use Rattle.ob_store_spec.specs.Stores.{StoreProgram, StoreState}
use Rattle.ob_store.specs.Stores.{program_of}
use Rattle.ob_wire.specs.Meanings.{request_of, answer_of}
use Rattle.ob_wire.specs.declared.refusal.Refusal.{Refusal}
use Rattle.ob_wire.specs.declared.request.Request.{Request}
use Rattle.ob_wire.specs.declared.reply.Answer.{Answer}
use Rattle.ob_wire.specs.declared.reply.Answer.TheVariants.{Abort, Refused}
use Rattle.ob_wire.specs.declared.reply.Cause.TheVariants.{Room}
use Rattle.ob_wire.specs.declared.request.Incoming.{Incoming}
use Rattle.ob_wire.specs.declared.request.Incoming.TheVariants.{One, Batch}
use Rattle.ob_serve.specs.Asked.{asked_by}
use Rattle.ob_serve.specs.Batches.{commit_order}
use Rattle.ob_serve.specs.declared.limits.Limits.{Limits}
use Rattle.ob_serve.specs.Session.{SessionItem, items_from}

-- what a request does to what a store holds
abbrev pub RequestMeaning : Type 0
RequestMeaning = Content → asked.Request → Invocation

-- How lines are served: what requests mean, in which order the requests of a batch are answered on a store, as their numbers in it, the
-- program by whose class table and image the store is kept, and the size of the areas in which it is, if it isn't kept in memory.
pub record Service : Type 0 where
  pub meaning : RequestMeaning
  pub order : StoreState → List asked.Request → List ℕ
  pub program : StoreProgram
  pub area : Option ℕ

-- by the source meaning of a program's class table, in the order in which the lanes of this code commit, with these limits
abbrev pub by_source : StoreProgram → Image → Limits → Option ℕ → Service
by_source program code limits area = record {
  meaning = λ content request. source_invocation program.table content request limits.fuel;
  order = commit_order (program_of code) code limits area;
  program = program;
  area = area;
}

-- by code
abbrev pub by_machine : Image → Limits → Option ℕ → Service
by_machine code limits area = record {
  meaning = λ content request. machine_invocation code content request limits.fuel;
  order = commit_order (program_of code) code limits area;
  program = program_of code;
  area = area;
}

-- a line is refused, and leaves the store
abbrev pub refused_item : StoreState → Refusal → SessionItem StoreState
refused_item s refusal = record { reply = Some (record { id = None; answer = Refused refusal }); after = s }

-- A request of this id is answered so, where the store has room for what it changed. Else it is aborted.
abbrev pub settled_item : ℤ → Answer → StoreState → Result StoreState (ℕ × ℕ) → SessionItem StoreState
settled_item id answer s (Ok after) = record { reply = Some (record { id = Some id; answer = answer }); after = after }
settled_item id answer s (Err lack) = record { reply = Some (record { id = Some id; answer = Abort (Room lack.0 lack.1) }); after = s }

-- what a request of this id comes to: its reply, and the store after it; or it goes wrong
abbrev pub invoked_item : StoreProgram → Option ℕ → StoreState → ℤ → Invocation → SessionItem StoreState
invoked_item program area s id (invoked i) = settled_item id (answer_of i.reply) s (settled program area s i.content)
invoked_item program area s id goes_wrong = record { reply = None; after = s }

-- the item of a request
abbrev pub request_item : Service → StoreState → Request → SessionItem StoreState
request_item service s request = invoked_item service.program service.area s request.id (service.meaning s.content (request_of request))

-- the items of requests, one after another, each on the store that the one before left
abbrev pub request_items : Service → StoreState → List Request → List (SessionItem StoreState)
request_items service s [] = []
request_items service s (request ∷ requests) =
    let item = request_item service s request in item ∷ request_items service item.after requests

-- the request of a number of a batch, if there is one
abbrev pub request_at : List Request → ℕ → List Request
request_at batch number = option_to_list (slice_get batch number)

-- the requests of a batch in an order
abbrev pub in_order : List Request → List ℕ → List Request
in_order batch order = flat_map (request_at batch) order

-- the items of what a line asks: of a request alone, or of those of a batch, in the order in which they are answered
abbrev pub items_of_asked : Service → StoreState → Result Incoming Refusal → List (SessionItem StoreState)
items_of_asked service s (Err refusal) = refused_item s refusal ∷ []
items_of_asked service s (Ok (One request)) = request_items service s (request ∷ [])
items_of_asked service s (Ok (Batch batch)) = request_items service s (in_order batch (service.order s (map request_of batch)))

-- the items of a line
abbrev pub items_of_line : Service → StoreState → List ℕ → List (SessionItem StoreState)
items_of_line service s line = items_of_asked service s (asked_by line)

-- the items of the lines of an input, on a store that is this one at first
abbrev pub items_of : Service → StoreState → List (List ℕ) → List (SessionItem StoreState)
items_of service start lines = items_from (items_of_line service) start lines
