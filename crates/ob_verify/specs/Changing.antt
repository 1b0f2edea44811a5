-- Whether what a pass has left changes what was known before it.
use Rattle.std.specs.Prelude.{List, [], ◌∷◌, Option, Some, None, Bool, true, false, ◌||◌, not}
use Rattle.ob_table.specs.declared.seen.Kind.{Kind}
use Rattle.ob_code.specs.declared.image.Image.{Image}
use Rattle.ob_verify_spec.specs.Kinds.{both_hold}
use Rattle.ob_verify_spec.specs.Conditions.{same_result}
use Rattle.ob_verify_spec.specs.Passing.{KindRow, KindRows}

-- whether what a slot is known to hold changes where another way meets it
abbrev pub slot_changes : Image → Option Kind → Option Kind → Bool
slot_changes m known other = not (same_result (both_hold m known other) known)

-- the same of one of the slots of a row
abbrev pub row_changes : Image → KindRow → KindRow → Bool
row_changes m [] other = false
row_changes m (x ∷ known) [] = slot_changes m x None || row_changes m known []
row_changes m (x ∷ known) (y ∷ other) = slot_changes m x y || row_changes m known other

-- whether what is known at a place changes
abbrev pub place_changes : Image → Option KindRow → Option KindRow → Bool
place_changes m known None = false
place_changes m None (Some left) = true
place_changes m (Some known) (Some left) = row_changes m known left

-- the same of one of these places
abbrev pub some_change : Image → KindRows → KindRows → Bool
some_change m [] left = false
some_change m (known ∷ rows) [] = false
some_change m (known ∷ rows) (row ∷ left) = place_changes m known row || some_change m rows left
