use Rattle.ob_base.proofs.FieldsLemmas.{one_u8, one_u32, one_i64, one_text}
use Rattle.ob_base.proofs.laws.one_field.Goals as goal

pub returns-clause-of_u8 : goal.returns-clause-of_u8
returns-clause-of_u8 c = one_u8

pub returns-clause-of_u32 : goal.returns-clause-of_u32
returns-clause-of_u32 c = one_u32

pub returns-clause-of_i64 : goal.returns-clause-of_i64
returns-clause-of_i64 c = one_i64

pub returns-clause-of_text : goal.returns-clause-of_text
returns-clause-of_text c = one_text
