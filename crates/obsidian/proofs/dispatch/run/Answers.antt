use Rattle.std.specs.Prelude.{map, string_bytes}
use Rattle.ob_outside.specs.Outside.{told}
use Rattle.ob_outside.specs.declared.exit.Exit.TheVariants.{Memory}
use Rattle.ob_outside.proofs.ProfileLemmas.{keeps_untouched}
use Rattle.ob_words.specs.Asked.{asked_of}
use Rattle.ob_run.proofs.TopLemmas.{lacks_memory}
use Rattle.ob_run.proofs.CorollaryLemmas.{serves_observable}
use Rattle.obsidian.specs.Dispatch.{profile_of}
use Rattle.obsidian.proofs.dispatch.run.Goals as goal

-- ---- memory ran out before the words were read

pub returns-in-Err-clause-known : goal.returns-in-Err-clause-known
returns-in-Err-clause-known g c = λ none. lacks_memory (asked_of (map string_bytes c.args.words.now))
    (told g.F.Files.view g.S.Source.view g.K.Sink.view g.D.Disk.view c.args.outside.now)

pub returns-in-Err-clause-corollary : goal.returns-in-Err-clause-corollary
returns-in-Err-clause-corollary g c = λ none. serves_observable (asked_of (map string_bytes c.args.words.now)) _ _ _
    (lacks_memory (asked_of (map string_bytes c.args.words.now)) (told g.F.Files.view g.S.Source.view g.K.Sink.view g.D.Disk.view c.args.outside.now)).status

pub returns-in-Err-clause-keeps : goal.returns-in-Err-clause-keeps
returns-in-Err-clause-keeps g c = λ asked is. keeps_untouched (profile_of asked.further)
    (told g.F.Files.view g.S.Source.view g.K.Sink.view g.D.Disk.view c.args.outside.now) Memory tt
