use Rattle.std.proofs.Common.{◌≡◌, ℕ, ◌≤◌, List, length, refl, sym, subst, arith, Result, Err}
use Rattle.ob_base.specs.Limits.{area_bytes, most_weight}
use Rattle.ob_code.specs.Images.{image}
use Rattle.ob_code.specs.declared.image.Image.{Image}
use Rattle.ob_disk_spec.specs.Disk.{DiskView, Reads}
use Rattle.ob_store.specs.Opening.{Opens, LacksArea, StaysUnlessBlank, FaultsAs}
use Rattle.ob_store.specs.Reading.{NeedsNoArea}
use Rattle.ob_store.specs.Stores.{program_of}
use Rattle.ob_store.specs.declared.error.OpenError.{OpenError}
use Rattle.ob_store.specs.declared.error.OpenError.TheVariants as of_store
use Rattle.ob_store.specs.declared.store.Store.{Store}
use Rattle.ob_run.specs.Auditing.{unopened_by}
use Rattle.ob_outside.specs.Faults.{CountsFault}
use Rattle.ob_run.specs.Openings.{StaysUnopened, OpensAs}
use Rattle.ob_run.specs.declared.serving.Unopened.{Unopened}
use Rattle.ob_run.specs.declared.serving.Unopened.TheVariants as unopened
use Rattle.ob_run.proofs.OpeningLemmas.{opened_at, room_for}
use Rattle.ob_run.proofs.serving.open_taken.Goals as goal

-- there is always room for an area
needs_none : (code : Image) (e : OpenError) → length (image.bytes code) ≤ most_weight → LacksArea (program_of code) area_bytes (Err e) → NeedsNoArea (Err e)
needs_none code of_store.NotStore light lacks = tt
needs_none code (of_store.Damaged offset) light lacks = tt
needs_none code (of_store.OtherProgram offset) light lacks = tt
needs_none code (of_store.NotAtRest object) light lacks = tt
needs_none code (of_store.Room need limit) light lacks = room_for code need light lacks.0 lacks.2
needs_none code of_store.DiskFault light lacks = tt
needs_none code of_store.Memory light lacks = tt

-- a store that wasn't opened
not_opened : (code : Image) (old new : DiskView) (e : OpenError) → NeedsNoArea (Err e) → ((c : List ℕ) → Reads old c → Opens (program_of code) area_bytes (Err e) c)
    → StaysUnlessBlank (program_of code) old new (Err e) → StaysUnopened (program_of code) old new → FaultsAs {T = Store} (Err e) old.faults new.faults
    → OpensAs (program_of code) old new (Err (unopened_by e))
not_opened code old new of_store.NotStore none opened still stays faults = (opened, still)
not_opened code old new (of_store.Damaged offset) none opened still stays faults = (opened, still)
not_opened code old new (of_store.OtherProgram offset) none opened still stays faults = (opened, still)
not_opened code old new (of_store.NotAtRest object) none opened still stays faults = (opened, still)
not_opened code old new (of_store.Room need limit) none opened still stays faults = absurd none
not_opened code old new of_store.DiskFault none opened still stays faults = (stays, faults.0)
not_opened code old new of_store.Memory none opened still stays faults = stays

-- how often a call of the disk failed then
abbrev Failed : Unopened → Type 0
Failed why = ◌≡◌ {A = Result Store Unopened} (Err why) (Err unopened.DiskFault)

calm : (why : Unopened) (before now : ℕ) → now ≡ before → CountsFault (Failed why) before now
calm why before now is = record { later = omega (arith, is); calm = λ none. is; once = omega (arith, is) }

counts : (e : OpenError) (before now : ℕ) → FaultsAs {T = Store} (Err e) before now → CountsFault (Failed (unopened_by e)) before now
counts of_store.NotStore before now is = calm _ before now is
counts (of_store.Damaged offset) before now is = calm _ before now is
counts (of_store.OtherProgram offset) before now is = calm _ before now is
counts (of_store.NotAtRest object) before now is = calm _ before now is
counts (of_store.Room need limit) before now is = calm _ before now is
counts of_store.DiskFault before now is = record { later = is.1; calm = λ none. absurd (none refl); once = is.2 }
counts of_store.Memory before now is = calm _ before now is

pub returns-in-Ok-clause-opens : goal.returns-in-Ok-clause-opens
returns-in-Ok-clause-opens g c =
    opened_at (g.D.Disk.view c.args.disk.now) (g.D.Disk.view c.open_store.new.disk) c.args.code.now c.in-Ok.store c.in-Ok.ensures.area c.in-Ok.ensures.at_rest c.in-Ok.ensures.opened
    c.in-Ok.ensures.stands c.in-Ok.ensures.still c.open_store.ensures.crash

pub unopened_by-requires : goal.unopened_by-requires
unopened_by-requires g c = needs_none c.args.code.now c.in-Err.error c.requires.light c.in-Err.ensures.room

pub returns-in-Err-clause-opens : goal.returns-in-Err-clause-opens
returns-in-Err-clause-opens g c =
    let old = g.D.Disk.view c.args.disk.now in
    let new = g.D.Disk.view c.open_store.new.disk in
    let P : Unopened → Type 0 = λ why. OpensAs (program_of c.args.code.now) old new (Err why) in
    subst P (sym c.unopened_by.ensures)
    (not_opened c.args.code.now old new c.in-Err.error (needs_none c.args.code.now c.in-Err.error c.requires.light c.in-Err.ensures.room) c.in-Err.ensures.opened c.in-Err.ensures.still
    (record { quiet = c.open_store.ensures.quiet; content = c.open_store.ensures.reads; disk = c.open_store.ensures.crash }) c.in-Err.ensures.cause)

pub returns-in-Err-clause-faults : goal.returns-in-Err-clause-faults
returns-in-Err-clause-faults g c =
    let P : Unopened → Type 0 = λ why. CountsFault (Failed why) (g.D.Disk.view c.args.disk.now).faults (g.D.Disk.view c.open_store.new.disk).faults in
    subst P (sym c.unopened_by.ensures)
    (counts c.in-Err.error (g.D.Disk.view c.args.disk.now).faults (g.D.Disk.view c.open_store.new.disk).faults c.in-Err.ensures.cause)
