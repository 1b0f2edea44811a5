use Rattle.ob_upgrade.proofs.Verdicts.{matched_is, refused_is}
use Rattle.ob_upgrade.proofs.matching.match_programs.Goals as goal

pub returns-clause-matched : goal.returns-clause-matched
returns-clause-matched c =
    matched_is c.image.result.now c.image-2.result.now c.args.old.now c.args.new.now c.match_images.result
    c.image.ensures.image c.image-2.ensures.image c.match_images.ensures.matched c.match_images.ensures.refused

pub returns-clause-refused : goal.returns-clause-refused
returns-clause-refused c =
    refused_is c.image.result.now c.image-2.result.now c.args.old.now c.args.new.now c.match_images.result
    c.image.ensures.image c.image-2.ensures.image c.match_images.ensures.matched c.match_images.ensures.refused
