-- The views of std's readers, writers and files: how often they failed, how many bytes were taken and what was asked, and
-- nothing of what the bytes are.
use Rattle.std.specs.Prelude.{None}
use Rattle.ob_io_std.specs.declared.adapters.StdSource.{StdSource}
use Rattle.ob_io_std.specs.declared.adapters.StdSink.{StdSink}
use Rattle.ob_io_std.specs.declared.adapters.StdFiles.{StdFiles}
use Rattle.ob_io.specs.Views.{SourceView, SinkView, FilesView}

-- what a reader of std has left isn't observable
abbrev pub std_source_view : {R : Type 0} → StdSource R → SourceView
std_source_view s = record { left = None; taken = s.taken; faults = s.faults }

-- the reader itself
abbrev pub std_source_inner : {R : Type 0} → StdSource R → R
std_source_inner s = s.inner

-- what was written to a writer of std isn't observable
abbrev pub std_sink_view : {W : Type 0} → StdSink W → SinkView
std_sink_view s = record { written = None; faults = s.faults }

-- the writer itself
abbrev pub std_sink_inner : {W : Type 0} → StdSink W → W
std_sink_inner s = s.inner

-- what a file of std contains isn't observable
abbrev pub std_files_view : {R : Type 0} → StdFiles R → FilesView
std_files_view f = record { content = λ _. None; asks = f.asks; faults = f.faults }
