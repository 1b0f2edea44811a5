use Rattle.std.proofs.Common.{◌<◌, ◌∙◌, [], length, get_or, sym, ap, subst}
use Rattle.std.specs.Prelude.{IfSome, IsTrue}
use Rattle.ob_links.specs.Lists.{joined, has_node}
use Rattle.ob_links.specs.Chains.{chains_of}
use Rattle.ob_links.proofs.Walking.{within}
use Rattle.ob_links.proofs.Counting.{taken_out, put_in, put_count, alone_after}
use Rattle.ob_links.proofs.chains.move_within.Goals as goal

pub link-requires-clause-chains : goal.link-requires-clause-chains
link-requires-clause-chains c =
    (taken_out c.args.nodes.now c.unlink.new.nodes c.args.ends.now c.unlink.new.ends c.args.node c.requires.chains c.requires.all c.requires.node c.unlink.auto.nodes c.unlink.ensures).stands

pub link-requires-clause-before : goal.link-requires-clause-before
link-requires-clause-before c =
    let m = taken_out c.args.nodes.now c.unlink.new.nodes c.args.ends.now c.unlink.new.ends c.args.node c.requires.chains c.requires.all c.requires.node c.unlink.auto.nodes c.unlink.ensures in
    subst (λ cs. IfSome c.args.before (λ n. IsTrue (has_node n (get_or cs c.args.list [])))) (sym m.is) c.requires.before

pub link-requires-clause-node : goal.link-requires-clause-node
link-requires-clause-node c =
    let w = within c.args.nodes.now c.args.ends.now (chains_of c.args.nodes.now c.args.ends.now) c.args.node c.requires.chains c.requires.node in
    subst (λ k. c.args.node.0 < k) (sym c.unlink.auto.nodes) w

pub link-requires-clause-alone : goal.link-requires-clause-alone
link-requires-clause-alone c =
    let m = taken_out c.args.nodes.now c.unlink.new.nodes c.args.ends.now c.unlink.new.ends c.args.node c.requires.chains c.requires.all c.requires.node c.unlink.auto.nodes c.unlink.ensures in
    ap (λ cs. has_node c.args.node (joined cs)) m.is ∙ alone_after c.args.node (chains_of c.args.nodes.now c.args.ends.now)

pub returns-clause-chains : goal.returns-clause-chains
returns-clause-chains c =
    let m = taken_out c.args.nodes.now c.unlink.new.nodes c.args.ends.now c.unlink.new.ends c.args.node c.requires.chains c.requires.all c.requires.node c.unlink.auto.nodes c.unlink.ensures in
    (put_in c.args.nodes.now c.unlink.new.nodes c.link.new.nodes c.args.ends.now c.unlink.new.ends c.link.new.ends c.args.node c.args.list c.args.before (c.args.node, c.args.item)
    c.requires.chains c.requires.all c.requires.node c.requires.list (c.link.auto.nodes ∙ c.unlink.auto.nodes) m c.link.ensures).stands

pub returns-clause-all : goal.returns-clause-all
returns-clause-all c =
    let m = taken_out c.args.nodes.now c.unlink.new.nodes c.args.ends.now c.unlink.new.ends c.args.node c.requires.chains c.requires.all c.requires.node c.unlink.auto.nodes c.unlink.ensures in
    let p = put_in c.args.nodes.now c.unlink.new.nodes c.link.new.nodes c.args.ends.now c.unlink.new.ends c.link.new.ends c.args.node c.args.list c.args.before (c.args.node, c.args.item)
    c.requires.chains c.requires.all c.requires.node c.requires.list (c.link.auto.nodes ∙ c.unlink.auto.nodes) m c.link.ensures in
    ap (λ cs. length (joined cs)) p.is
    ∙ put_count c.args.nodes.now c.args.ends.now c.args.node c.args.list c.args.before (c.args.node, c.args.item) c.requires.chains c.requires.node c.requires.list
    ∙ c.requires.all ∙ sym (c.link.auto.nodes ∙ c.unlink.auto.nodes)

pub returns-clause-lists : goal.returns-clause-lists
returns-clause-lists c =
    let m = taken_out c.args.nodes.now c.unlink.new.nodes c.args.ends.now c.unlink.new.ends c.args.node c.requires.chains c.requires.all c.requires.node c.unlink.auto.nodes c.unlink.ensures in
    (put_in c.args.nodes.now c.unlink.new.nodes c.link.new.nodes c.args.ends.now c.unlink.new.ends c.link.new.ends c.args.node c.args.list c.args.before (c.args.node, c.args.item)
    c.requires.chains c.requires.all c.requires.node c.requires.list (c.link.auto.nodes ∙ c.unlink.auto.nodes) m c.link.ensures).is
