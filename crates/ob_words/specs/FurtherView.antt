-- What the code's values of further commands represent.
use Rattle.std.specs.Prelude.{option_map}
use Rattle.ob_words.specs.Further.{Position, Further, upgrade, ship, follow, build, exec, exec_stored, plan, AskedFurther}
use Rattle.ob_words.specs.AskedView.{limits_view}
use Rattle.ob_words.specs.declared.further.Position.{Position as CodePosition}
use Rattle.ob_words.specs.declared.further.Further.{Further as CodeFurther}
use Rattle.ob_words.specs.declared.further.Further.TheVariants.{Upgrade, Ship, Follow, Build, Exec, ExecStored, Plan}
use Rattle.ob_words.specs.declared.further.AskedFurther.{AskedFurther as CodeAskedFurther}

-- the position
abbrev pub position_view : CodePosition → Position
position_view p = record { serial = p.serial; index = p.index }

-- the further command, with the names of its files
abbrev pub further_view : CodeFurther → Further
further_view (Upgrade old new store) = upgrade old.now new.now store.now
further_view (Ship p store from) = ship p.now store.now (option_map position_view from)
further_view (Follow p store) = follow p.now store.now
further_view (Build p) = build p.now
further_view (Exec file) = exec file.now
further_view (ExecStored file store) = exec_stored file.now store.now
further_view (Plan p script) = plan p.now script.now

-- what is asked of it
abbrev pub asked_further_view : CodeAskedFurther → AskedFurther
asked_further_view a = record { further = further_view a.further; limits = limits_view a.limits }
