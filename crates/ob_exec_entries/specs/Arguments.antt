-- What the arguments of a request come to (this project's own).
use Rattle.std.specs.Prelude.{ℕ, Bool, false, List, filter_map, zip}
use Rattle.std.specs.Option.{option_map_or}
use Rattle.ob_code.specs.declared.image.ParamCode.{ParamCode}
use Rattle.ob_heap_spec.specs.Contents.{Content}
use Rattle.ob_invocation_spec.specs.Entries.{HandleUse, use_of_argument}
use Rattle.ob_invocation_spec.specs.Handles.{handle_name}
use Rattle.ob_invocation_spec.specs.Refusals.{is_no_handle}
use Rattle.ob_invocation_spec.specs.Requests.{argument_name}
use Rattle.ob_code_table.specs.ImageTables.{param_of_code}
use Rattle.ob_wire.specs.Meanings.{argument_meant}
use Rattle.ob_wire.specs.declared.request.Arg.{Arg}

-- whether an argument names a handle that isn't there
abbrev pub names_no_handle : Content → List ℕ → Arg → Bool
names_no_handle content who arg =
    option_map_or (λ name. is_no_handle content (handle_name who name)) (argument_name (argument_meant arg)) false

-- the uses of handles for arguments, each beside its parameter
abbrev pub uses_of : Content → List ℕ → List ParamCode → List Arg → List HandleUse
uses_of content who params args =
    filter_map (λ pair. use_of_argument content who (param_of_code pair.0) (argument_meant pair.1)) (zip params args)
