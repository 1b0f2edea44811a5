use Rattle.std.proofs.Common.{refl, false}
use Rattle.ob_base.specs.declared.permission.Mode.TheVariants.{Owned, Shared, Unowned}
use Rattle.ob_exec.proofs.UseLemmas.{outside_by}
use Rattle.ob_exec.proofs.outside.is_outside.Goals as goal

pub returns-in-Owned : goal.returns-in-Owned
returns-in-Owned c = λ who. outside_by c.args.code.now c.args.content.now.objects who c.args.used.now Owned c.in-Owned.is c.is_in_none.result c.is_in_none.ensures

pub returns-in-Shared : goal.returns-in-Shared
returns-in-Shared c = λ who. outside_by c.args.code.now c.args.content.now.objects who c.args.used.now Shared c.in-Shared.is false refl

pub returns-in-Unowned : goal.returns-in-Unowned
returns-in-Unowned c = λ who. outside_by c.args.code.now c.args.content.now.objects who c.args.used.now Unowned c.in-Unowned.is false refl
