-- What a disk that notes its calls may leave in a crash, from its bytes and its notes, the newest first: each older moment is
-- found by undoing them.
use Rattle.std.specs.Prelude.{ℕ, ◌≡◌, ◌<◌, ◌+◌, ◌-◌, ◌⊎◌, ◌==◌, min, List, [], ◌∷◌, ◌++◌, length, take, drop, Some, if◌then◌else◌}
use Rattle.std.proofs.Common.{inl, inr, subst, refl}
use Rattle.std.proofs.Math.ListN.{replicate}
use Rattle.std.proofs.Math.Nat.{lt_irrefl}
use Rattle.ob_disk_spec.specs.Disk.{Torn, After}
use Rattle.ob_disk_spec.proofs.TornLemmas.{torn_same, unsome}
use Rattle.ob_disk.specs.declared.memory.Over.{Over}
use Rattle.ob_disk.specs.declared.memory.Note.{Note}
use Rattle.ob_disk.specs.declared.memory.Note.TheVariants.{Written, Lost, Synced}

-- these bytes with others written over them from an offset on, as far as they reach
abbrev pub inside : ℕ → List ℕ → List ℕ → List ℕ
inside at bytes old = take at old ++ (take (length old - at) bytes ++ drop (at + length bytes) old)

-- these bytes with 255 in a range, as far as they reach
abbrev pub spoiled : ℕ → ℕ → List ℕ → List ℕ
spoiled at n old = take at old ++ (replicate (min n (length old - at)) 255 ++ drop (at + n) old)

-- the bytes before a write: what it wrote over is written back, and they end where they did
abbrev pub before : Over → List ℕ → List ℕ
before over bytes = inside over.at over.bytes.items (take over.len bytes)

-- the bytes before a call
abbrev pub undone : Note → List ℕ → List ℕ
undone (Written over) bytes = before over bytes
undone (Lost at count) bytes = bytes
undone Synced bytes = bytes

-- The crash images: after a sync what a read gives; after a write, whether or not it failed, a torn form of what a read gives,
-- or of an image before it.
abbrev pub Left : List Note → List ℕ → List ℕ → Type 0
Left [] bytes c = c ≡ bytes
Left (Written over ∷ notes) bytes c =
    Torn over.at over.count bytes c ⊎ After (Left notes (before over bytes)) (Torn over.at over.count) c
Left (Lost at count ∷ notes) bytes c = Torn at count bytes c ⊎ After (Left notes bytes) (Torn at count) c
Left (Synced ∷ notes) bytes c = c ≡ bytes

-- the images at some moment since a time: of now, or before the last call, where it isn't older than that
abbrev pub LeftSince : List Note → ℕ → List ℕ → List ℕ → Type 0
LeftSince [] t bytes c = c ≡ bytes
LeftSince (note ∷ notes) t bytes c = Left (note ∷ notes) bytes c ⊎ ((t < length (note ∷ notes)) × LeftSince notes t (undone note bytes) c)

-- The image that a number selects, of the calls since the last sync: half of it, rounded down, says how many of the newest are
-- undone, as far as there are any; and where it is odd, the range of the next is spoiled.
abbrev pub stopped : ℕ → List Note → List ℕ → List ℕ
stopped n [] bytes = bytes
stopped n (Written over ∷ notes) bytes =
    if n == 0 then bytes else (if n == 1 then spoiled over.at over.count bytes else stopped (n - 2) notes (before over bytes))
stopped n (Lost at count ∷ notes) bytes =
    if n == 0 then bytes else (if n == 1 then spoiled at count bytes else stopped (n - 2) notes bytes)
stopped n (Synced ∷ notes) bytes = bytes

-- at this moment a crash leaves an image of now
pub since_now : (notes : List Note) (bytes c : List ℕ) → LeftSince notes (length notes) bytes c → Left notes bytes c
since_now [] bytes c left = left
since_now (note ∷ notes) bytes c (inl left) = left
since_now (note ∷ notes) bytes c (inr left) = absurd (lt_irrefl (length (note ∷ notes)) left.0)

-- an image of now is one since any moment
pub now_since : (notes : List Note) (t : ℕ) (bytes c : List ℕ) → Left notes bytes c → LeftSince notes t bytes c
now_since [] t bytes c left = left
now_since (note ∷ notes) t bytes c left = inl left

-- what a read gives is an image
pub own_left : (notes : List Note) (bytes : List ℕ) → Left notes bytes bytes
own_left [] bytes = refl
own_left (Written over ∷ notes) bytes = inl (torn_same over.at over.count bytes)
own_left (Lost at count ∷ notes) bytes = inl (torn_same at count bytes)
own_left (Synced ∷ notes) bytes = refl

-- the same, of what is told
pub own_image : (notes : List Note) (bytes c : List ℕ) → Some bytes ≡ Some c → Left notes bytes c
own_image notes bytes c is = subst (λ (l : List ℕ). Left notes bytes l) (unsome bytes c is) (own_left notes bytes)
