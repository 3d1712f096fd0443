use Rattle.std.proofs.Common.{◌≡◌, drop, map, filter_map}
use Rattle.sal_ast.specs.Members.{as_field}
use Rattle.sal_handler.specs.Fits as spec
use Rattle.sal_walk.proofs.fits.fit_fields.Given as goal

abbrev pub invariant-loop-member : goal.invariant-loop-member
invariant-loop-member l = spec.fit_sorts (spec.sorts_of l.behaviors (map (λ f. f.sort) (filter_map as_field (drop l.member-index l.members)))) l.rest ≡ spec.fit_sorts (spec.sorts_of l.behaviors (map (λ f. f.sort) (filter_map as_field l.members))) l.fields
