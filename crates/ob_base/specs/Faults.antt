-- The numbers and names of the faults of a program's text (this project's own).
use Rattle.std.specs.Prelude.{ℕ, ◌==◌, if◌then◌else◌, List, [], ◌∷◌, ◌++◌, codes}

abbrev pub not_utf8 : ℕ
not_utf8 = 101

abbrev pub bad_character : ℕ
bad_character = 102

abbrev pub open_comment : ℕ
open_comment = 103

abbrev pub open_string : ℕ
open_string = 104

abbrev pub big_number : ℕ
big_number = 105

abbrev pub long_name : ℕ
long_name = 106

abbrev pub long_string : ℕ
long_string = 107

abbrev pub bad_escape : ℕ
bad_escape = 108

abbrev pub long_program : ℕ
long_program = 109

abbrev pub expected : ℕ
expected = 201

abbrev pub too_deep : ℕ
too_deep = 202

abbrev pub unknown_name : ℕ
unknown_name = 301

abbrev pub duplicate : ℕ
duplicate = 302

abbrev pub wrong_kind : ℕ
wrong_kind = 303

abbrev pub no_state : ℕ
no_state = 304

abbrev pub not_field : ℕ
not_field = 305

abbrev pub type_mismatch : ℕ
type_mismatch = 306

abbrev pub arg_count : ℕ
arg_count = 307

abbrev pub bad_exit : ℕ
bad_exit = 308

abbrev pub non_asset_owner : ℕ
non_asset_owner = 309

abbrev pub interface_mismatch : ℕ
interface_mismatch = 310

abbrev pub limit : ℕ
limit = 311

abbrev pub missing_return : ℕ
missing_return = 312

abbrev pub unreachable : ℕ
unreachable = 313

abbrev pub two_mains : ℕ
two_mains = 314

abbrev pub assign_parameter : ℕ
assign_parameter = 315

abbrev pub bound : ℕ
bound = 321

abbrev pub too_many_instances : ℕ
too_many_instances = 322

abbrev pub param_count : ℕ
param_count = 323

abbrev pub not_owning : ℕ
not_owning = 401

abbrev pub wrong_state : ℕ
wrong_state = 402

abbrev pub not_shared : ℕ
not_shared = 403

abbrev pub asset_lost : ℕ
asset_lost = 404

abbrev pub asset_overwritten : ℕ
asset_overwritten = 405

abbrev pub branch_loses : ℕ
branch_loses = 406

abbrev pub this_differs : ℕ
this_differs = 407

abbrev pub not_accessible : ℕ
not_accessible = 408

abbrev pub field_mismatch : ℕ
field_mismatch = 409

abbrev pub unset : ℕ
unset = 410

abbrev pub exit_mismatch : ℕ
exit_mismatch = 411

abbrev pub test_unowned : ℕ
test_unowned = 412

abbrev pub test_twice : ℕ
test_twice = 413

abbrev pub under_test : ℕ
under_test = 414

abbrev pub view_changes : ℕ
view_changes = 415

abbrev pub used_twice : ℕ
used_twice = 416

abbrev pub this_in_constructor : ℕ
this_in_constructor = 417

abbrev pub assert_fails : ℕ
assert_fails = 418

abbrev pub bad_transition : ℕ
bad_transition = 419

abbrev pub loop_changes : ℕ
loop_changes = 420

-- faults of words and signs
abbrev pub lexical_faults : List (ℕ × List ℕ)
lexical_faults =
    (not_utf8, codes "NotUtf8") ∷ (bad_character, codes "BadCharacter") ∷ (open_comment, codes "OpenComment")
    ∷ (open_string, codes "OpenString") ∷ (big_number, codes "BigNumber") ∷ (long_name, codes "LongName")
    ∷ (long_string, codes "LongString") ∷ (bad_escape, codes "BadEscape") ∷ (long_program, codes "LongProgram") ∷ []

-- faults of the grammar
abbrev pub syntax_faults : List (ℕ × List ℕ)
syntax_faults =
    (expected, codes "Expected") ∷ (too_deep, codes "TooDeep") ∷ []

-- faults of names and types
abbrev pub class_faults : List (ℕ × List ℕ)
class_faults =
    (unknown_name, codes "UnknownName") ∷ (duplicate, codes "Duplicate") ∷ (wrong_kind, codes "WrongKind")
    ∷ (no_state, codes "NoState") ∷ (not_field, codes "NotField") ∷ (type_mismatch, codes "TypeMismatch")
    ∷ (arg_count, codes "ArgCount") ∷ (bad_exit, codes "BadExit") ∷ (non_asset_owner, codes "NonAssetOwner")
    ∷ (interface_mismatch, codes "InterfaceMismatch") ∷ (limit, codes "Limit")
    ∷ (missing_return, codes "MissingReturn") ∷ (unreachable, codes "Unreachable")
    ∷ (two_mains, codes "TwoMains") ∷ (assign_parameter, codes "AssignParameter") ∷ []

-- faults of type arguments
abbrev pub generic_faults : List (ℕ × List ℕ)
generic_faults =
    (bound, codes "Bound") ∷ (too_many_instances, codes "TooManyInstances") ∷ (param_count, codes "ParamCount") ∷ []

-- faults of permissions and states
abbrev pub flow_faults : List (ℕ × List ℕ)
flow_faults =
    (not_owning, codes "NotOwning") ∷ (wrong_state, codes "WrongState") ∷ (not_shared, codes "NotShared")
    ∷ (asset_lost, codes "AssetLost") ∷ (asset_overwritten, codes "AssetOverwritten")
    ∷ (branch_loses, codes "BranchLoses") ∷ (this_differs, codes "ThisDiffers")
    ∷ (not_accessible, codes "NotAccessible") ∷ (field_mismatch, codes "FieldMismatch")
    ∷ (unset, codes "Unset") ∷ (exit_mismatch, codes "ExitMismatch") ∷ (test_unowned, codes "TestUnowned")
    ∷ (test_twice, codes "TestTwice") ∷ (under_test, codes "UnderTest") ∷ (view_changes, codes "ViewChanges")
    ∷ (used_twice, codes "UsedTwice") ∷ (this_in_constructor, codes "ThisInConstructor")
    ∷ (assert_fails, codes "AssertFails") ∷ (bad_transition, codes "BadTransition")
    ∷ (loop_changes, codes "LoopChanges") ∷ []

-- each fault's number and name
abbrev pub fault_names : List (ℕ × List ℕ)
fault_names = lexical_faults ++ syntax_faults ++ class_faults ++ generic_faults ++ flow_faults

-- the name beside a number, or nothing
abbrev pub name_beside : ℕ → List (ℕ × List ℕ) → List ℕ
name_beside number [] = []
name_beside number (row ∷ rows) = if number == row.0 then row.1 else name_beside number rows

-- the name of the fault of a number, or nothing
abbrev pub fault_name : ℕ → List ℕ
fault_name number = name_beside number fault_names
