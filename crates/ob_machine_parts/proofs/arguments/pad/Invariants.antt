use Rattle.std.proofs.Common.{◌≡◌, ◌++◌, ◌+◌, ◌≤◌, replicate, None}
use Rattle.std.specs.Vec.{vec_len, vec_capacity}
use Rattle.ob_machine_parts.specs.Shown.{slots_of}
use Rattle.ob_machine_parts.proofs.arguments.pad.Given as goal

abbrev pub invariant-loop-place : goal.invariant-loop-place
invariant-loop-place l =
    record {
      filled : slots_of l.padded.items ≡ slots_of l.fn.slots.items ++ replicate l.place None;
      room : vec_len l.padded + l.missing ≤ vec_capacity l.padded + l.place;
    }
