-- When the bytes of a disk represent the store of a session (this project's own).
use Rattle.std.specs.Prelude.{ℕ, ⊤, List, Option, Some, None}
use Rattle.ob_code.specs.Images.{image}
use Rattle.ob_code.specs.declared.image.Image.{Image}
use Rattle.ob_table.specs.Tables.{ClassTable}
use Rattle.ob_store_spec.specs.Stores.{StoreProgram, StoreState, IsStoreOf}

-- the bytes of a disk with areas of a size represent a store; one in memory has no disk
abbrev pub RepresentsStore : StoreProgram → Option ℕ → StoreState → List ℕ → Type 0
RepresentsStore program None s bytes = ⊤
RepresentsStore program (Some size) s bytes = IsStoreOf program size bytes s

-- a program by its class table and its image, as a store knows it
abbrev pub source_program : ClassTable → Image → StoreProgram
source_program table code = record { table = table; image = image.bytes code }
