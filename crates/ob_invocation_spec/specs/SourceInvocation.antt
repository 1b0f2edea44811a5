-- The invocation by the source meaning (this project's own).
use Rattle.std.specs.Prelude.{ℕ}
use Rattle.ob_table.specs.Tables.{ClassTable}
use Rattle.ob_heap_spec.specs.Contents.{Content}
use Rattle.ob_source_meaning.specs.Frames.{of_object, of_new}
use Rattle.ob_source_meaning.specs.Calls.{call_at}
use Rattle.ob_invocation_spec.specs.Requests.{Request}
use Rattle.ob_invocation_spec.specs.Replies.{Invocation}
use Rattle.ob_invocation_spec.specs.Entering.{Meaning}
use Rattle.ob_invocation_spec.specs.Invocation.{invoke}

-- what a `new` and a `call` do by the source meaning, with calls within calls down to a depth
abbrev pub source_meaning : ClassTable → ℕ → Meaning
source_meaning table depth = record {
  new = λ contract args w. call_at table depth (of_new contract) args w;
  call = λ contract tx n args w. call_at table depth (of_object n contract tx) args w;
}

-- the invocation by the source meaning: as deep as there are units, since each call takes one
abbrev pub source_invocation : ClassTable → Content → Request → ℕ → Invocation
source_invocation table content request fuel = invoke (source_meaning table fuel) table content request fuel
