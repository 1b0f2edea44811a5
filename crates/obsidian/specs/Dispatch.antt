-- What is said of a run of a further command: a line in each of two tables (this project's own).
use Rattle.std.specs.Prelude.{◌≡◌, ◌⊎◌, [], None, false}
use Rattle.ob_outside.specs.Outside.{OutsideView, devices, KeepsDevices}
use Rattle.ob_outside.specs.Profiles.{Profile}
use Rattle.ob_outside.specs.declared.exit.Exit.{Exit}
use Rattle.ob_outside.specs.declared.exit.Exit.TheVariants.{Usage, Memory}
use Rattle.ob_words.specs.Further.{Further, upgrade, ship, follow, build, exec, exec_stored, plan, AskedFurther}

-- nothing was asked of the files, and neither stream was touched, nor the disk
pub record TouchesNothing (before after : OutsideView) : Type 0 where
  pub files : after.files ≡ before.files
  pub kept : KeepsDevices (devices before) (devices after)

-- a word whose command isn't built: the run ends with Usage, as for words that are no command
abbrev pub IsUnbuilt : OutsideView → OutsideView → Exit → Type 0
IsUnbuilt before after exit = (exit ≡ Usage) × TouchesNothing before after

-- what such a word uses of the outside
abbrev pub unbuilt_profile : Profile
unbuilt_profile = record { asks = []; store = None; writes = false; reads = false }

-- what a further command does
abbrev pub Does : Further → OutsideView → OutsideView → Exit → Type 0
Does (upgrade old new store) before after exit = IsUnbuilt before after exit
Does (ship p store from) before after exit = IsUnbuilt before after exit
Does (follow p store) before after exit = IsUnbuilt before after exit
Does (build p) before after exit = IsUnbuilt before after exit
Does (exec file) before after exit = IsUnbuilt before after exit
Does (exec_stored file store) before after exit = IsUnbuilt before after exit
Does (plan p script) before after exit = IsUnbuilt before after exit

-- what a further command uses of the outside
abbrev pub profile_of : Further → Profile
profile_of (upgrade old new store) = unbuilt_profile
profile_of (ship p store from) = unbuilt_profile
profile_of (follow p store) = unbuilt_profile
profile_of (build p) = unbuilt_profile
profile_of (exec file) = unbuilt_profile
profile_of (exec_stored file store) = unbuilt_profile
profile_of (plan p script) = unbuilt_profile

-- It does so, or memory ran out before its words were read, and nothing was touched.
abbrev pub IsFurther : AskedFurther → OutsideView → OutsideView → Exit → Type 0
IsFurther asked before after exit = ((exit ≡ Memory) × TouchesNothing before after) ⊎ Does asked.further before after exit
