-- The numbers of refusals, and for which of an invocation each stands (this project's own).
use Rattle.std.specs.Prelude.{ℕ}
use Rattle.ob_invocation_spec.specs.Replies as told
use Rattle.ob_wire.specs.declared.refusal.Refusal.{Refusal}
use Rattle.ob_wire.specs.declared.refusal.Refusal.TheVariants as refusal

-- the number of a refusal
abbrev pub number_of : Refusal → ℕ
number_of refusal.LongLine = 1
number_of refusal.Json = 2
number_of refusal.Shape = 3
number_of refusal.BatchSize = 4
number_of refusal.NoHandle = 5
number_of refusal.NoContract = 6
number_of refusal.NotMain = 7
number_of refusal.NoTransaction = 8
number_of refusal.ArgCount = 9
number_of refusal.ArgKind = 10
number_of refusal.Permission = 11
number_of refusal.Repeated = 12
number_of refusal.IntoMissing = 13
number_of refusal.IntoNeedless = 14
number_of refusal.IntoTaken = 15
number_of refusal.HandlesFull = 16

-- the refusal that says why an invocation refuses a request
abbrev pub refusal_told : told.Refusal → Refusal
refusal_told told.no_handle = refusal.NoHandle
refusal_told told.no_contract = refusal.NoContract
refusal_told told.not_main = refusal.NotMain
refusal_told told.no_transaction = refusal.NoTransaction
refusal_told told.arg_count = refusal.ArgCount
refusal_told told.arg_kind = refusal.ArgKind
refusal_told told.permission = refusal.Permission
refusal_told told.repeated = refusal.Repeated
refusal_told told.into_missing = refusal.IntoMissing
refusal_told told.into_needless = refusal.IntoNeedless
refusal_told told.into_taken = refusal.IntoTaken
refusal_told told.handles_full = refusal.HandlesFull
