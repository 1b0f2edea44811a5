use Rattle.std.proofs.Common.{rules}
use Rattle.ob_code.specs.Instructions.{int_code, bool_code, text_code, copy_code, load_code, store_code, op_code, jump_code, unless_code, test_code, change_code, new_code, call_code, self_call_code, share_code, disown_code, ret_value_code, revert_code, instruction}
use Rattle.ob_code.proofs.put_instruction.InstructionPart.put.Goals as goal

pub returns-in-Unit : goal.returns-in-Unit
unfolding instruction
returns-in-Unit c = rw c.in-Unit.is (search rules)

pub returns-in-Int : goal.returns-in-Int
unfolding instruction int_code
returns-in-Int c = rw c.in-Int.is (search rules)

pub returns-in-Bool : goal.returns-in-Bool
unfolding instruction bool_code
returns-in-Bool c = rw c.in-Bool.is (search rules)

pub put_text-requires : goal.put_text-requires
unfolding instruction text_code
put_text-requires c = (rw c.in-Text.is at c.requires).1.1

pub returns-in-Text : goal.returns-in-Text
unfolding instruction text_code
returns-in-Text c = rw c.in-Text.is (search rules)

pub returns-in-Copy : goal.returns-in-Copy
unfolding instruction copy_code
returns-in-Copy c = rw c.in-Copy.is (search rules)

pub returns-in-Load : goal.returns-in-Load
unfolding instruction load_code
returns-in-Load c = rw c.in-Load.is (search rules)

pub returns-in-Store : goal.returns-in-Store
unfolding instruction store_code
returns-in-Store c = rw c.in-Store.is (search rules)

pub returns-in-Op : goal.returns-in-Op
unfolding instruction op_code
returns-in-Op c = rw c.in-Op.is (search rules)

pub returns-in-Jump : goal.returns-in-Jump
unfolding instruction jump_code
returns-in-Jump c = rw c.in-Jump.is (search rules)

pub returns-in-Unless : goal.returns-in-Unless
unfolding instruction unless_code
returns-in-Unless c = rw c.in-Unless.is (search rules)

pub returns-in-Test : goal.returns-in-Test
unfolding instruction test_code
returns-in-Test c = rw c.in-Test.is (search rules)

pub returns-in-EndTest : goal.returns-in-EndTest
unfolding instruction
returns-in-EndTest c = rw c.in-EndTest.is (search rules)

pub put_change-requires : goal.put_change-requires
unfolding instruction change_code
put_change-requires c = (rw c.in-Change.is at c.requires).1.1

pub returns-in-Change : goal.returns-in-Change
unfolding instruction change_code
returns-in-Change c = rw c.in-Change.is (search rules)

pub put_new-requires : goal.put_new-requires
unfolding instruction new_code
put_new-requires c = (rw c.in-New.is at c.requires).1.1.1

pub returns-in-New : goal.returns-in-New
unfolding instruction new_code
returns-in-New c = rw c.in-New.is (search rules)

pub put_call-requires : goal.put_call-requires
unfolding instruction call_code
put_call-requires c = (rw c.in-Call.is at c.requires).1.1.1.1.1

pub returns-in-Call : goal.returns-in-Call
unfolding instruction call_code
returns-in-Call c = rw c.in-Call.is (search rules)

pub put_self_call-requires : goal.put_self_call-requires
unfolding instruction self_call_code
put_self_call-requires c = (rw c.in-SelfCall.is at c.requires).1.1.1

pub returns-in-SelfCall : goal.returns-in-SelfCall
unfolding instruction self_call_code
returns-in-SelfCall c = rw c.in-SelfCall.is (search rules)

pub returns-in-Share : goal.returns-in-Share
unfolding instruction share_code
returns-in-Share c = rw c.in-Share.is (search rules)

pub returns-in-Disown : goal.returns-in-Disown
unfolding instruction disown_code
returns-in-Disown c = rw c.in-Disown.is (search rules)

pub returns-in-Ret : goal.returns-in-Ret
unfolding instruction
returns-in-Ret c = rw c.in-Ret.is (search rules)

pub returns-in-RetValue : goal.returns-in-RetValue
unfolding instruction ret_value_code
returns-in-RetValue c = rw c.in-RetValue.is (search rules)

pub returns-in-Revert : goal.returns-in-Revert
unfolding instruction revert_code
returns-in-Revert c = rw c.in-Revert.is (search rules)
