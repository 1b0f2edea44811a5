use Rattle.ob_format_spec.proofs.Failing.{one_value, one_offset, not_spelled}
use Rattle.ob_code.specs.Images.{image}
use Rattle.ob_code.proofs.ImageLaws.{image_lawful, decoded_again}
use Rattle.ob_code.proofs.decoding.one_image.Goals as goal

pub returns-clause-value : goal.returns-clause-value
returns-clause-value c = one_value image image_lawful

pub returns-clause-offset : goal.returns-clause-offset
returns-clause-offset c = one_offset image

pub returns-clause-apart : goal.returns-clause-apart
returns-clause-apart c = λ bytes a k fails spells. not_spelled image bytes k a fails spells

pub returns-clause-again : goal.returns-clause-again
returns-clause-again c = decoded_again image image_lawful
