use Rattle.std.proofs.Common.{◌≡◌, drop, map}
use Rattle.sal_handler.specs.Fits as spec
use Rattle.sal_walk.proofs.fits.fit_params.Given as goal

abbrev pub invariant-loop-param : goal.invariant-loop-param
invariant-loop-param l = spec.fit_sorts (spec.sorts_of l.behaviors (map (λ p. p.sort) (drop l.param-index l.params))) l.rest ≡ spec.fit_sorts (spec.sorts_of l.behaviors (map (λ p. p.sort) l.params)) l.args
