use Rattle.std.proofs.Common.{refl, subst, false, not, List}
use Rattle.std.specs.Prelude.{IsTrue, ◌↔◌}
use Rattle.sal_value.specs.declared.name.Authority.{Authority}
use Rattle.sal_source.specs.Keys.{creation_key}
use Rattle.sal_source.specs.code.Lists.{AnyOf}
use Rattle.sal_source.specs.Configuration.{End}
use Rattle.sal_source.specs.code.Possible.{is_decided}
use Rattle.sal_source.specs.Step.{IsAtEnd}
use Rattle.sal_source.specs.contracts.config.Config.{the_view}
use Rattle.sal_source.proofs.Ends.{not_final, final_is}
use Rattle.sal_source.proofs.config.Config.is_final.Goals as goal

pub returns-then-any_possible : goal.returns-then-any_possible
returns-then-any_possible c =
    let old : End = the_view c.self.inside in
    let P : End → Type 0 = λ d. IsTrue false ↔ IsAtEnd d.authorities d.configuration in
    subst P c.self.view_is (not_final old.configuration old.authorities c.if-any_possible.ensures)

pub returns : goal.returns
returns c =
    let old : End = the_view c.self.inside in
    let P : End → Type 0 = λ d. IsTrue (not c.any_decided.result) ↔ IsAtEnd d.authorities d.configuration in
    let A : List Authority → Type 0 = λ l. AnyOf creation_key (is_decided l c.self.inside.actors) c.self.inside.creations c.any_decided.result in
    subst P c.self.view_is (final_is old.configuration old.authorities c.any_decided.result refl c.if-any_possible.ensures (subst A c.as_slice-authorities.ensures c.any_decided.ensures))
