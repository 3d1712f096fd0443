use Rattle.std.proofs.Common.{arith}
use Rattle.std.proofs.lemmas.Grind.{common_steps}
use Rattle.sal_types.proofs.SignatureSteps.{signature_none, signature_some}
use Rattle.sal_types.proofs.typed.Typed.signature.Goals as goal

pub returns-in-None : goal.returns-in-None
returns-in-None c = grind (arith, common_steps, signature_none c.self.inside.program c.self.inside.signatures c.args.behavior c.args.handler c.self.invariant.1)

pub returns-in-Some : goal.returns-in-Some
returns-in-Some c = grind (arith, common_steps, signature_some c.self.inside.program c.self.inside.signatures c.args.behavior c.args.handler c.in-Some.signatures.now c.self.invariant.1)
