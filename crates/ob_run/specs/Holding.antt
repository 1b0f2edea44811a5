-- How a trial is held; for private clauses.
use Rattle.std.specs.Prelude.{ℕ, ⊤, List}
use Rattle.ob_disk_spec.specs.Disk.{DiskView, Reads}
use Rattle.ob_store_spec.specs.Stores.{StoreProgram, StoreRefusal, IsRefused}
use Rattle.ob_serve.specs.declared.serving.Served.{Served}
use Rattle.ob_serve.specs.declared.serving.Served.TheVariants.{Done, ReadFault, WriteFault, DiskFault, Memory, Long}

-- what a disk reads is refused for no cause
abbrev pub IsUnrefused : StoreProgram → ℕ → DiskView → Type 0
IsUnrefused program area v = (c : List ℕ) → Reads v c → (r : StoreRefusal) → ¬ (IsRefused program area c r)

-- nothing but want of memory ended a session before its end
abbrev pub EndsUnlessMemory : Served → Type 0
EndsUnlessMemory Done = ⊤
EndsUnlessMemory Memory = ⊤
EndsUnlessMemory ReadFault = ⊥
EndsUnlessMemory WriteFault = ⊥
EndsUnlessMemory DiskFault = ⊥
EndsUnlessMemory Long = ⊥
