-- The views of the sure forms. They never fail, so each count of faults is 0.
use Rattle.std.specs.Prelude.{ℕ, ◌-◌, List, [], length, drop, Option, Some, None, if◌then◌else◌, unwrap_or}
use Rattle.ob_io.specs.declared.sure.SureSource.{SureSource}
use Rattle.ob_io.specs.declared.sure.SureSink.{SureSink}
use Rattle.ob_io.specs.declared.sure.SureFiles.{SureFiles}
use Rattle.ob_io.specs.FilesInMemory.{content_of}
use Rattle.ob_io.specs.Views.{SourceView, SinkView, FilesView}

-- the bytes that no read took
abbrev pub sure_source_left : SureSource → List ℕ
sure_source_left s = drop s.at s.bytes.items

-- of a source all that is left is observable
abbrev pub sure_source_view : SureSource → SourceView
sure_source_view s = record { left = Some (sure_source_left s); taken = s.at; faults = 0 }

-- all that was written, until there was no room or no memory for it
abbrev pub sure_sink_written : SureSink → Option (List ℕ)
sure_sink_written s = if s.tells then Some s.bytes.items else None

-- how many bytes more the sink keeps
abbrev pub sure_sink_room : SureSink → ℕ
sure_sink_room s = s.room - length s.bytes.items

-- of a sink what was written is observable as long as it keeps it
abbrev pub sure_sink_view : SureSink → SinkView
sure_sink_view s = record { written = sure_sink_written s; faults = 0 }

-- the bytes of the file of this name, or none
abbrev pub sure_content : SureFiles → List ℕ → List ℕ
sure_content f name = unwrap_or (content_of f.files.items name) []

-- of files the content of every name is observable
abbrev pub sure_files_view : SureFiles → FilesView
sure_files_view f = record { content = λ name. Some (sure_content f name); asks = f.asks; faults = 0 }
