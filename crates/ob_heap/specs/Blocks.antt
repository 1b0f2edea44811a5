-- The handles of a store, in blocks (this project's own).
use Rattle.std.specs.Prelude.{◌≡◌, ℕ, zero, suc, ◌<◌, Bool, true, false, ⊤, List, [], ◌∷◌, ◌++◌, length, if◌then◌else◌}
use Rattle.std.specs.Ordering.{is_gt}
use Rattle.ob_base.specs.declared.name.Label.{Label}
use Rattle.ob_heap.specs.declared.object.Handle.{Handle}
use Rattle.ob_heap.specs.Contents.{name_of, IsInOrder}
use Rattle.ob_heap_spec.specs.Contents.{HandleName, name_order}

-- how many handles a block takes
abbrev pub block_size : ℕ
block_size = 64

-- the handles of blocks, one block after another
abbrev pub joined : List (List ((Label × Label) × Handle)) → List ((Label × Label) × Handle)
joined [] = []
joined (b ∷ bs) = b ++ joined bs

-- each block has a handle
abbrev pub AreFilled : List (List ((Label × Label) × Handle)) → Type 0
AreFilled [] = ⊤
AreFilled (b ∷ bs) = (0 < length b) × AreFilled bs

-- whether the first name of a block comes after this one
abbrev pub starts_after : HandleName → List ((Label × Label) × Handle) → Bool
starts_after n [] = false
starts_after n (h ∷ hs) = is_gt (name_order (name_of h.0) n)

-- whether the first name of the first of these blocks comes after this one, or there is no block
abbrev pub start_after : HandleName → List (List ((Label × Label) × Handle)) → Bool
start_after n [] = true
start_after n (b ∷ bs) = starts_after n b

-- the place of the block that a name belongs into: the last whose first name doesn't come after it, or the first
abbrev pub block_place : HandleName → List (List ((Label × Label) × Handle)) → ℕ
block_place n [] = zero
block_place n (b ∷ bs) = if start_after n bs then zero else suc (block_place n bs)

-- Blocks with so many handles, in the order of their names.
pub record AreBlocks (bs : List (List ((Label × Label) × Handle))) (n : ℕ) : Type 0 where
  pub order : IsInOrder (joined bs)
  pub filled : AreFilled bs
  pub count : n ≡ length (joined bs)

-- Handles in the order of their names, and how many may be put among them without memory.
pub record Kept : Type 0 where
  pub handles : List ((Label × Label) × Handle)
  pub room : ℕ
