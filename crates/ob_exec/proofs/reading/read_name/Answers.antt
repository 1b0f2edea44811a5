use Rattle.std.proofs.Common.{◌≡◌, ◌++◌, map, sym, ap, subst, ◌∙◌, append-nil}
use Rattle.std.specs.Prelude.{OnOk}
use Rattle.ob_exec_handles.specs.Spending.{item_of}
use Rattle.ob_exec.specs.Reading.{into_reads}
use Rattle.ob_exec.proofs.reading.read_name.Goals as goal

pub returns-in-Some : goal.returns-in-Some
returns-in-Some c =
    subst (λ i. OnOk c.read_new_name.result
    (map item_of c.read_new_name.new.reads ≡ map item_of c.args.reads.now ++ into_reads c.args.who.now i c.args.why)) (sym c.in-Some.is) c.read_new_name.ensures

pub returns-in-None : goal.returns-in-None
returns-in-None c =
    sym (append-nil (map item_of c.args.reads.now))
    ∙ ap (λ i. map item_of c.args.reads.now ++ into_reads c.args.who.now i c.args.why) (sym c.in-None.is)
