-- A disk that tells nothing.
use Rattle.std.proofs.Common.{◌≡◌, ℕ, List, None, Some, inl, arith}
use Rattle.ob_disk_spec.specs.Disk.{Attach, IsQuiet, IsWrite, Elapses}
use Rattle.ob_io_std.specs.Disks.{untold}

elapses : (f g : ℕ) (xs ys : List Attach) (i j : ℕ) → Elapses (untold f xs i) (untold g ys j)
elapses f g xs ys i j = record { only = record { later = omega arith; each = λ t c le left. inl left }; keeps = λ t c le left. left }

pub quiet : (f g : ℕ) (xs ys : List Attach) (i j : ℕ) → IsQuiet (untold f xs i) (untold g ys j)
quiet f g xs ys i j = record { content = λ c reads. reads; images = λ c left. left; time = elapses f g xs ys i j }

none_some : (c : List ℕ) → None ≡ Some c → ⊥
none_some c is = cc

pub write : (f g at n : ℕ) (xs ys : List Attach) (i j : ℕ) → IsWrite at n (untold f xs i) (untold g ys j)
write f g at n xs ys i j = record { content = λ c reads. absurd (none_some c reads); images = λ c left. absurd left; time = elapses f g xs ys i j }
