use Rattle.drm_text.proofs.Digits.{digits_are_small}
use Rattle.drm_text.proofs.number.read_number.Goals as goal

pub returns-in_default-clause-small : goal.returns-in_default-clause-small
returns-in_default-clause-small c = rw c.read_digits.ensures (digits_are_small c.args.most c.args.word.now)
