-- How much of each thing there may be (this project's own).
use Rattle.std.specs.Prelude.{ℕ, ◌^◌}

-- the most bytes of a name or a label
abbrev pub longest_name : ℕ
longest_name = 64

-- the most bytes of a value of the type `string`
abbrev pub longest_string : ℕ
longest_string = 1024

-- the most bytes of a program's text
abbrev pub longest_program : ℕ
longest_program = 1048576

-- the most parts of a program that may be open inside one another
abbrev pub most_open : ℕ
most_open = 64

-- the most contracts and interfaces of a program
abbrev pub most_contracts : ℕ
most_contracts = 1024

-- the most states of a contract
abbrev pub most_states : ℕ
most_states = 32

-- the most fields of a contract, those inside its states too
abbrev pub most_fields : ℕ
most_fields = 64

-- the most transactions of a contract, without the constructor
abbrev pub most_transactions : ℕ
most_transactions = 256

-- the most parameters of a transaction or constructor, beside `this`
abbrev pub most_params : ℕ
most_params = 16

-- the most slots of a body, that of `this` among them
unfoldable pub most_slots : ℕ
most_slots = 128

-- the most that a program may weigh, in bytes, and so the most bytes of its image
abbrev pub most_weight : ℕ
most_weight = 16777216

-- the most instances of a program
abbrev pub most_instances : ℕ
most_instances = 256

-- so many instances are noted: one more shows that there are too many
abbrev pub most_noted : ℕ
most_noted = 257

-- the most bytes of text that the tree of the instances may be made of: four times the longest program
abbrev pub most_copied : ℕ
most_copied = 4194304

-- the most bytes of text in which types are looked for, instance by instance
abbrev pub most_walked : ℕ
most_walked = 62914560

-- the most objects of a store
abbrev pub most_objects : ℕ
most_objects = 1048576

-- the most handles of a store, of all clients together
abbrev pub most_handles : ℕ
most_handles = 65536

-- the most bytes of a line that is taken up, without its newline
abbrev pub longest_line : ℕ
longest_line = 65536

-- the most requests of a batch
abbrev pub most_requests : ℕ
most_requests = 64

-- the most bytes that are taken of an input
abbrev pub most_taken : ℕ
most_taken = 2 ^ 40

-- how many bytes each of the two areas of a store has on a disk: 64 MiB
abbrev pub area_bytes : ℕ
area_bytes = 67108864

-- The settings of a session. The least of each is 1.

-- the most units of fuel that a request may be given
abbrev pub most_fuel : ℕ
most_fuel = 200000

-- the units of fuel that a request has where none are given
abbrev pub default_fuel : ℕ
default_fuel = 100000

-- the most lanes
abbrev pub most_lanes : ℕ
most_lanes = 8

-- the lanes where none are given
abbrev pub default_lanes : ℕ
default_lanes = 1

-- the most units of a slice
abbrev pub most_slice : ℕ
most_slice = 1000000

-- the units of a slice where none are given
abbrev pub default_slice : ℕ
default_slice = 1000

-- the greatest length of a trial
abbrev pub longest_trial : ℕ
longest_trial = 20000
