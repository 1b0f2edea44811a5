use Rattle.std.proofs.Common.{◌≡◌, drop}
use Rattle.ob_io.specs.FilesInMemory.{content_of}
use Rattle.ob_io.proofs.sure.contents_of.Given as goal

-- what is left of the files gives the contents
abbrev pub invariant-loop-known : goal.invariant-loop-known
invariant-loop-known l = content_of (drop l.known-index l.files) l.name ≡ content_of l.files l.name
