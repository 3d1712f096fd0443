use Rattle.sal_effects.proofs.Signing.{own_signed}
use Rattle.sal_effects.proofs.law.handlers_sign_their_own.Goals as goal

pub returns : goal.returns
returns c = own_signed
