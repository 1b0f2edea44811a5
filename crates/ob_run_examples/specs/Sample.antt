-- The sample: a run of `serve vending_machine.obs`, with its input and its output.
use Rattle.std.specs.Prelude.{ℕ, List, codes}
use Rattle.ob_words.specs.Asked.{serve, serve_stored, Limits, Asked}
use Rattle.ob_words.specs.Settings.{fuel, lanes, slice, default}

-- the settings that no option changes
abbrev pub limits : Limits
limits = record { fuel = default fuel; lanes = default lanes; slice = default slice }

-- what its words ask for
abbrev pub asked : Asked
asked = record { command = serve (codes "vending_machine.obs"); limits = limits }

-- the same over a store on a disk
abbrev pub asked_stored : Asked
asked_stored = record { command = serve_stored (codes "vending_machine.obs") (codes "machine.store"); limits = limits }

-- the bytes of crates/obsidian/stdin
abbrev pub input : List ℕ
input = codes "{\"op\":\"new\",\"id\":1,\"who\":\"alice\",\"contract\":\"Machine\",\"into\":\"m\"}\n{\"op\":\"call\",\"id\":2,\"who\":\"alice\",\"on\":\"m\",\"tx\":\"bake\",\"into\":\"d\"}\n{\"op\":\"call\",\"id\":3,\"who\":\"alice\",\"on\":\"m\",\"tx\":\"restock\",\"args\":[{\"ref\":\"d\"}]}\n{\"op\":\"call\",\"id\":4,\"who\":\"alice\",\"on\":\"m\",\"tx\":\"mint\",\"into\":\"c\"}\n{\"op\":\"call\",\"id\":5,\"who\":\"alice\",\"on\":\"m\",\"tx\":\"buy\",\"args\":[{\"ref\":\"c\"}],\"into\":\"e\"}\n{\"op\":\"call\",\"id\":6,\"who\":\"alice\",\"on\":\"m\",\"tx\":\"buy\",\"args\":[{\"ref\":\"c\"}],\"into\":\"f\"}\n{\"op\":\"call\",\"id\":7,\"who\":\"alice\",\"on\":\"m\",\"tx\":\"mint\",\"into\":\"k\"}\n{\"op\":\"call\",\"id\":8,\"who\":\"alice\",\"on\":\"m\",\"tx\":\"buy\",\"args\":[{\"ref\":\"k\"}],\"into\":\"f\"}\n{\"op\":\"owner\",\"id\":9,\"who\":\"alice\",\"on\":\"k\"}\n{\"op\":\"see\",\"id\":10,\"who\":\"alice\",\"on\":\"m\"}\n"

-- the bytes of crates/obsidian/stdout
abbrev pub output : List ℕ
output = codes "{\"id\":1,\"ok\":{\"object\":0}}\n{\"id\":2,\"ok\":{\"object\":1}}\n{\"id\":3,\"ok\":null}\n{\"id\":4,\"ok\":{\"object\":2}}\n{\"id\":5,\"ok\":{\"object\":1}}\n{\"id\":6,\"refused\":11}\n{\"id\":7,\"ok\":{\"object\":3}}\n{\"abort\":\"state\",\"id\":8,\"object\":0,\"state\":\"Empty\"}\n{\"id\":9,\"ok\":{\"handle\":[\"alice\",\"k\"]}}\n{\"id\":10,\"ok\":{\"contract\":\"Machine\",\"disowned\":false,\"fields\":{\"sold\":1},\"object\":0,\"shared\":false,\"state\":\"Empty\"}}\n"
