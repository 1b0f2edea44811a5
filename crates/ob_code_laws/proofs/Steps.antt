-- Each step of a run of verified code leads to a configuration of one, or to its end.
use Rattle.std.proofs.Common.{◌≡◌, Option, slice_get, refl, sym, ◌∙◌}
use Rattle.ob_table.specs.declared.seen.Kind.{Kind}
use Rattle.ob_table.specs.declared.seen.Kind.TheVariants as kind
use Rattle.ob_code.specs.declared.image.Image.{Image}
use Rattle.ob_code.specs.declared.instruction.Instruction.{Instruction}
use Rattle.ob_code.specs.declared.instruction.Instruction.TheVariants as is
use Rattle.ob_machine_steps.specs.Configurations.{Configuration}
use Rattle.ob_machine_steps.specs.Steps.{act, next_instruction, step_of}
use Rattle.ob_verify_spec.specs.Ways.{IsAt}
use Rattle.ob_code_laws.proofs.Frames.{IsSound, code, IsRunning, Good, then_good}
use Rattle.ob_code_laws.proofs.Setting.{set_const_good, copy_good, load_good, op_good}
use Rattle.ob_code_laws.proofs.Changing.{store_good, change_good}
use Rattle.ob_code_laws.proofs.Testing.{unit_step_good, jump_good, unless_good, test_good, ends_good, share_good, disown_good, revert_good}
use Rattle.ob_code_laws.proofs.Leading.{next_found}
use Rattle.ob_code_laws.proofs.Calling.{call_good, self_good, new_good}
use Rattle.ob_code_laws.proofs.Returning.{ret_good, retv_good}

act_good : (image : Image) → IsSound image → (out : Option Kind) (c : Configuration) (g : IsRunning image out c) (x : Instruction) → IsAt (code image c.world.objects c.top g.top.frame) c.top.at x
    → Good image out (act image x c)
act_good image s out c g is.Unit at = unit_step_good image out c g at
act_good image s out c g (is.Int k z) at = set_const_good image out c g (is.Int k z) at k _ kind.Int refl refl (λ j. refl) tt
act_good image s out c g (is.Bool k b) at = set_const_good image out c g (is.Bool k b) at k _ kind.Bool refl refl (λ j. refl) tt
act_good image s out c g (is.Text k bytes) at = set_const_good image out c g (is.Text k bytes) at k _ kind.Text refl refl (λ j. refl) tt
act_good image s out c g (is.Copy k a) at = copy_good image out c g k a at
act_good image s out c g (is.Load k field) at = load_good image out c g k field at
act_good image s out c g (is.Store field a) at = store_good image s out c g field a at
act_good image s out c g (is.Op k o a b line) at = op_good image out c g k o a b line at
act_good image s out c g (is.Jump t) at = jump_good image out c g t at
act_good image s out c g (is.Unless a t) at = unless_good image out c g a t at
act_good image s out c g (is.Test a of state t) at = test_good image out c g a of state t at
act_good image s out c g is.EndTest at = ends_good image out c g c.top.tests at
act_good image s out c g (is.Change state given) at = change_good image s out c g state given at
act_good image s out c g (is.New k contract args) at = new_good image s out c g k contract args at
act_good image s out c g (is.Call k a contract tx args) at = call_good image s out c g k a contract tx args at
act_good image s out c g (is.SelfCall k tx args) at = self_good image s out c g k tx args at
act_good image s out c g (is.Share a) at = share_good image out c g a at
act_good image s out c g (is.Disown a) at = disown_good image out c g a at
act_good image s out c g is.Ret at = ret_good image s out c g at
act_good image s out c g (is.RetValue a) at = retv_good image s out c g a at
act_good image s out c g (is.Revert a) at = revert_good image out c a

-- the next instruction of a frame is that of its body
pub next_of_body : (image : Image) (out : Option Kind) (c : Configuration) (g : IsRunning image out c) → next_instruction image c ≡ slice_get g.top.frame.body.instructions c.top.at
next_of_body image out c g =
    next_found image c.top.contract g.top.frame.own c.top.tx g.top.frame.body c.top.at g.top.frame.there g.top.frame.contract

pub step_good : (image : Image) → IsSound image → (out : Option Kind) (c : Configuration) → IsRunning image out c → Good image out (step_of image c)
step_good image s out c g = then_good image out (next_instruction image c) _ (λ x e. act_good image s out c g x (sym (next_of_body image out c g) ∙ e))
