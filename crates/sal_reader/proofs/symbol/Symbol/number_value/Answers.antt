use Rattle.std.proofs.Common.{◌≡◌, ◌∙◌, ap, sym}
use Rattle.std.specs.Str.Parse.{digits_value}
use Rattle.sal_grammar.specs.Tokens.{Token}
use Rattle.sal_reader.proofs.Symbols.{number_of}
use Rattle.sal_reader.proofs.symbol.Symbol.number_value.Goals as goal

pub number_value-requires-clause-digits : goal.number_value-requires-clause-digits
number_value-requires-clause-digits c =
    (number_of c.args.self.now c.self.inside.kind c.self.inside.bytes.now c.self.inside.at c.self.view_is c.requires c.self.invariant.lexeme).digits

pub number_value-requires-clause-most : goal.number_value-requires-clause-most
number_value-requires-clause-most c =
    (number_of c.args.self.now c.self.inside.kind c.self.inside.bytes.now c.self.inside.at c.self.view_is c.requires c.self.invariant.lexeme).most

pub returns : goal.returns
returns c =
    let n = number_of c.args.self.now c.self.inside.kind c.self.inside.bytes.now c.self.inside.at c.self.view_is c.requires c.self.invariant.lexeme in
    c.number_value.ensures ∙ ap (digits_value 10) (sym n.text ∙ ap (λ (t : Token). t.text) c.self.view_is)
