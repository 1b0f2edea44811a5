use Rattle.std.proofs.Common.{◌≡◌, ◌++◌, string_bytes, sym, ap, ◌∙◌, arith}
use Rattle.ob_tree_print.proofs.Escapes.{escaped_plain}
use Rattle.ob_tree_print.proofs.token.put_char.Goals as goal

pub returns-in_ok-push-in_default : goal.returns-in_ok-push-in_default
returns-in_ok-push-in_default c =
    c.in_ok-push-in_default.ensures.bytes ∙ ap (λ more. string_bytes c.args.out.now ++ more) (sym (escaped_plain c.args.ch (omega arith) (omega arith) (omega arith) (omega arith)))
