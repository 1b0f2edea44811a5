use Rattle.ob_perm.proofs.MaskLemmas.{same_mask}
use Rattle.ob_perm.proofs.StandsLemmas.{states_of-mask_of, same_perm, permission_of-perm_of, perm_of_canonical}
use Rattle.ob_perm.proofs.laws.mask_laws.Goals as goal

pub returns-clause-one_mask : goal.returns-clause-one_mask
returns-clause-one_mask c = same_mask

pub returns-clause-mask : goal.returns-clause-mask
returns-clause-mask c = states_of-mask_of

pub returns-clause-one_perm : goal.returns-clause-one_perm
returns-clause-one_perm c = same_perm

pub returns-clause-perm : goal.returns-clause-perm
returns-clause-perm c = permission_of-perm_of

pub returns-clause-canonical : goal.returns-clause-canonical
returns-clause-canonical c = perm_of_canonical
