-- The views of the forms in memory, and which of their calls fail.
use Rattle.std.specs.Prelude.{◌≡◌, ℕ, ◌+◌, ◌-◌, ◌^◌, ◌==◌, min, Bool, List, length, Some}
use Rattle.std.specs.List.{list_any}
use Rattle.ob_io.specs.declared.memory.Plan.{Plan}
use Rattle.ob_io.specs.declared.memory.MemorySource.{MemorySource}
use Rattle.ob_io.specs.declared.memory.MemorySink.{MemorySink}
use Rattle.ob_io.specs.declared.memory.MemoryFiles.{MemoryFiles}
use Rattle.ob_io.specs.FilesInMemory.{content_of}
use Rattle.ob_io.specs.Sure.{sure_source_left}
use Rattle.ob_io.specs.Views.{SourceView, SinkView, FilesView}

-- of a source all that no read took is observable
abbrev pub memory_source_view : MemorySource → SourceView
memory_source_view s = record { left = Some (sure_source_left s.inner); taken = s.inner.at; faults = s.plan.faults }

-- of a sink all that was written is observable
abbrev pub memory_sink_view : MemorySink → SinkView
memory_sink_view s = record { written = Some s.bytes.items; faults = s.plan.faults }

-- the bytes of the file of this name. For a name that is lacking nothing is observable
abbrev pub memory_files_view : MemoryFiles → FilesView
memory_files_view f = record { content = content_of f.files.items; asks = f.asks; faults = f.plan.faults }

-- which calls of a source are to fail, and how many there were
abbrev pub source_plan : MemorySource → Plan
source_plan s = s.plan

-- the same of a sink
abbrev pub sink_plan : MemorySink → Plan
sink_plan s = s.plan

-- the same of files
abbrev pub files_plan : MemoryFiles → Plan
files_plan f = f.plan

-- how many bytes more the sink takes
abbrev pub memory_sink_room : MemorySink → ℕ
memory_sink_room s = s.room - length s.bytes.items

-- whether the next call is to fail
abbrev pub is_to_fail : Plan → Bool
is_to_fail plan = list_any (λ n. n == plan.calls) plan.fails.items

-- no call was made yet, and these are to fail
pub record IsNewPlan (plan : Plan) (fails : List ℕ) : Type 0 where
  pub calls : plan.calls ≡ 0
  pub fails_same : plan.fails.items ≡ fails

-- one call more was made, up to the end of 64 bits
pub record CountsCall (old new : Plan) : Type 0 where
  pub calls : new.calls ≡ min (old.calls + 1) (2 ^ 64 - 1)
  pub fails_same : new.fails.items ≡ old.fails.items
