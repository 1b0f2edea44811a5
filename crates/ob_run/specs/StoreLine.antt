-- The line that is written for a store that is refused (this project's own).
use Rattle.std.specs.Prelude.{ℕ, List, ◌++◌, codes, decimal}
use Rattle.ob_store_spec.specs.Stores.{StoreRefusal, not_store, damaged, other_program, not_at_rest}
use Rattle.ob_run.specs.declared.refusal.StoreRefusal.{StoreRefusal as Told}
use Rattle.ob_run.specs.declared.refusal.StoreRefusal.TheVariants.{NotStore, Damaged, OtherProgram, NotAtRest}

-- `store: NUMBER Name`, with the offset or the object where there is one, and a newline
abbrev pub store_line : StoreRefusal → List ℕ
store_line not_store = codes "store: 611 NotStore\n"
store_line (damaged offset) = codes "store: 612 Damaged " ++ decimal offset ++ codes "\n"
store_line (other_program offset) = codes "store: 615 OtherProgram " ++ decimal offset ++ codes "\n"
store_line (not_at_rest object) = codes "store: 601 NotAtRest " ++ decimal object ++ codes "\n"

-- the cause that the code answers
abbrev pub refusal_view : Told → StoreRefusal
refusal_view NotStore = not_store
refusal_view (Damaged offset) = damaged offset
refusal_view (OtherProgram offset) = other_program offset
refusal_view (NotAtRest object) = not_at_rest object.0
