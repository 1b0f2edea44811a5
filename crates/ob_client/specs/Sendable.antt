-- Which requests can be sent: their names, texts and numbers are such, and their number is from 0.
use Rattle.std.specs.Prelude.{ℕ, ℤ, pos, negsuc, Bool, true, false, ◌&&◌, ◌^◌, nat_lt, List, Option, Some, None}
use Rattle.std.specs.List.{list_all}
use Rattle.ob_base.specs.Names.{is_label, is_text}
use Rattle.ob_base.specs.Numbers.{is_int}
use Rattle.ob_wire.specs.declared.request.Arg.{Arg}
use Rattle.ob_wire.specs.declared.request.Arg.TheVariants as arg
use Rattle.ob_wire.specs.declared.request.Request.{Request}
use Rattle.ob_wire.specs.declared.request.Op.{Op}
use Rattle.ob_wire.specs.declared.request.Op.TheVariants.{New, Call, Disown, Give, See, Owner}

-- a number of a request: from 0, of 64 bits with a sign
abbrev pub is_id : ℤ → Bool
is_id (pos n) = nat_lt n (2 ^ 63)
is_id (negsuc n) = false

-- an argument
abbrev pub is_argument : Arg → Bool
is_argument (arg.Int z) = is_int z
is_argument (arg.Bool b) = true
is_argument (arg.Text text) = is_text text
is_argument (arg.Handle name) = is_label name
is_argument arg.Other = true

-- a name, if there is one
abbrev pub is_label_if : Option (List ℕ) → Bool
is_label_if None = true
is_label_if (Some name) = is_label name

-- an operation
abbrev pub is_operation : Op → Bool
is_operation (New contract args into) = is_label contract && (list_all is_argument args && is_label_if into)
is_operation (Call on tx args into) = is_label on && (is_label tx && (list_all is_argument args && is_label_if into))
is_operation (Disown on) = is_label on
is_operation (Give on to into mode) = is_label on && (is_label to && is_label into)
is_operation (See on) = is_label on
is_operation (Owner on) = is_label on

-- a request
abbrev pub is_sendable : Request → Bool
is_sendable request = is_id request.id && (is_label request.who && is_operation request.op)
