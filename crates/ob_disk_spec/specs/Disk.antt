-- A disk at a moment, and what its calls do to it, a crash at any moment counted in (this project's own; the model of a crash
-- is that of writes that are torn until a sync). All is said backwards: what is observable or may be left after a call
-- comes from what was so before it.
use Rattle.std.specs.Prelude.{ℕ, ◌≡◌, ◌≤◌, ◌+◌, ◌-◌, ◌⊎◌, max, List, ◌++◌, length, take, drop, Option, Some}
use Rattle.std.proofs.Math.ListN.{replicate}

-- a disk that was attached: its name, and how many other calls there had been
pub record Attach : Type 0 where
  pub name : List ℕ
  pub calls : ℕ

-- A disk at a moment: what a read gives, where it is observable; the crash images, which a crash at this moment may leave, where
-- they are observable; those that a crash at some moment since a time might have left; the time, which doesn't fall; how often
-- a call failed; which disks were attached, in their order, where that is observable; and how many other calls there were.
pub record DiskView : Type 1 where
  pub content : Option (List ℕ)
  pub now : List ℕ → Type 0
  pub since : ℕ → List ℕ → Type 0
  pub clock : ℕ
  pub faults : ℕ
  pub attaches : Option (List Attach)
  pub calls : ℕ

-- these bytes with others written over them from an offset on: zero bytes fill up to it
abbrev pub overwritten : ℕ → List ℕ → List ℕ → List ℕ
overwritten at bytes old = take at old ++ (replicate (at - length old) 0 ++ (bytes ++ drop (at + length bytes) old))

-- What a write of n bytes at an offset may leave of the old bytes: any bytes in the range, and past the old end, with any
-- length between. The rest stays.
pub record Torn (at n : ℕ) (old new : List ℕ) : Type 0 where
  pub middle : List ℕ
  pub is : new ≡ take at old ++ (middle ++ drop (at + n) old)
  pub no_shorter : length old ≤ length new
  pub no_longer : length new ≤ max (length old) (at + n)

-- one of these was there, and a step made this of it
abbrev pub After : (List ℕ → Type 0) → (List ℕ → List ℕ → Type 0) → List ℕ → Type 0
After olds step new = (old : List ℕ) × olds old × step old new

-- what a read gives is observable, and is this
abbrev pub Reads : DiskView → List ℕ → Type 0
Reads v bytes = v.content ≡ Some bytes

-- Time goes on, and a crash in it leaves only what has P: each image since an earlier moment was one, or has P.
pub record LeavesOnly (old new : DiskView) (P : List ℕ → Type 0) : Type 0 where
  pub later : old.clock ≤ new.clock
  pub each : (t : ℕ) (c : List ℕ) → t ≤ old.clock → new.since t c → old.since t c ⊎ P c

-- One call: a crash in it leaves a crash image of those before or after it, and what a crash might have left stays so.
pub record Elapses (old new : DiskView) : Type 0 where
  pub only : LeavesOnly old new new.now
  pub keeps : (t : ℕ) (c : List ℕ) → t ≤ old.clock → old.since t c → new.since t c

-- a call that changes no byte
pub record IsQuiet (old new : DiskView) : Type 0 where
  pub content : (c : List ℕ) → Reads new c → Reads old c
  pub images : (c : List ℕ) → new.now c → old.now c
  pub time : Elapses old new

-- a write: whether or not it fails, what is there is a torn form of what was
pub record IsWrite (at n : ℕ) (old new : DiskView) : Type 0 where
  pub content : (c : List ℕ) → Reads new c → After (Reads old) (Torn at n) c
  pub images : (c : List ℕ) → new.now c → After old.now (Torn at n) c
  pub time : Elapses old new

-- bytes were written over one of these
abbrev pub WrittenOver : (List ℕ → Type 0) → ℕ → List ℕ → List ℕ → Type 0
WrittenOver olds at bytes c = After olds (λ old new. new ≡ overwritten at bytes old) c
