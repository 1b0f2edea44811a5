-- What becomes of a store holds what was to be stored.
use Rattle.std.specs.Prelude.{◌≡◌, ℕ, Bool, true, false, nat_le, Option, Some, None, Result, Ok, Err, if◌then◌else◌, ⊤}
use Rattle.std.proofs.Common.{refl, subst}
use Rattle.ob_heap_spec.specs.Contents.{Content}
use Rattle.ob_store_spec.specs.Between.{changes_between}
use Rattle.ob_store_spec.specs.Settling.{say_nothing, payload_between, payload_of_all, needed, with_record, may_move, with_move, recorded, settled}
use Rattle.ob_store_spec.specs.Stores.{StoreProgram, StoreState}

-- what became of a store, if there was room, holds this
abbrev pub HoldsIfOk : Content → Result StoreState (ℕ × ℕ) → Type 0
HoldsIfOk after (Ok t) = t.content ≡ after
HoldsIfOk after (Err lack) = ⊤

holds_by_move : (program : StoreProgram) (size : ℕ) (s : StoreState) (after : Content) (moves : Bool)
    → HoldsIfOk after (if moves then Ok (with_move program s (payload_of_all program after) after) else Err (needed s (payload_between program s.content after), size))
holds_by_move program size s after true = refl
holds_by_move program size s after false = tt

holds_by_room : (program : StoreProgram) (size : ℕ) (s : StoreState) (after : Content) (fits : Bool)
    → HoldsIfOk after (if fits then Ok (with_record s (payload_between program s.content after) after)
    else (if may_move program size s (payload_of_all program after) then Ok (with_move program s (payload_of_all program after) after)
    else Err (needed s (payload_between program s.content after), size)))
holds_by_room program size s after true = refl
holds_by_room program size s after false = holds_by_move program size s after (may_move program size s (payload_of_all program after))

holds_by_news : (program : StoreProgram) (size : ℕ) (s : StoreState) (after : Content) (none : Bool)
    → HoldsIfOk after (if none then Ok (record s { content = after }) else recorded program size s after (payload_between program s.content after) (payload_of_all program after))
holds_by_news program size s after true = refl
holds_by_news program size s after false = holds_by_room program size s after (nat_le (needed s (payload_between program s.content after)) size)

-- the store after changes has the content that they lead to
pub settled_content : (program : StoreProgram) (area : Option ℕ) (s : StoreState) (after : Content) → HoldsIfOk after (settled program area s after)
settled_content program None s after = refl
settled_content program (Some size) s after = holds_by_news program size s after (say_nothing (changes_between program.table s.content after))

pub settled_holds : (program : StoreProgram) (area : Option ℕ) (s : StoreState) (after : Content) (t : StoreState) → settled program area s after ≡ Ok t → t.content ≡ after
settled_holds program area s after t is = subst (HoldsIfOk after) is (settled_content program area s after)
