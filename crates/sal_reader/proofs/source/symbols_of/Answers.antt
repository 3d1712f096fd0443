use Rattle.std.proofs.Common.{◌≡◌, List, length, get_or, ap, subst, sym, arith}
use Rattle.std.proofs.lemmas.Option.{slice_get-get_or}
use Rattle.sal_text.specs.declared.token.Token.{Token}
use Rattle.sal_text.specs.Standing.{StandsIn}
use Rattle.sal_text.proofs.Stood.{tokens_stand}
use Rattle.sal_reader.proofs.source.symbols_of.Goals as goal

pub of-requires-clause-stands : goal.of-requires-clause-stands
of-requires-clause-stands c =
    let e = c.as_slice.ensures in
    subst (λ (tokens : List Token). StandsIn c.args.tokens.now.source.now (get_or tokens c.tokens.i _)) (sym e)
    (tokens_stand c.args.tokens.now.source.now c.args.tokens.now.items c.tokens.i _ c.requires (slice_get-get_or c.args.tokens.now.items c.tokens.i _ (omega arith)))
