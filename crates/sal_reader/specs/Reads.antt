-- What the reader's functions ensure.
use Rattle.std.specs.Prelude.{◌≡◌, List, Result, Ok, Err}
use denote.Ref.{Bor}
use Rattle.sal_grammar.specs.Tokens.{Token, Set}
use Rattle.sal_grammar.specs.Parsers.{Outcome}
use Rattle.sal_grammar.specs.Sets as is
use Rattle.sal_reader.specs.declared.set.Set.{Set as SetName}
use Rattle.sal_reader.specs.declared.set.Set.TheVariants as s
use Rattle.sal_reader.specs.declared.stop.Stop.{Stop}
use Rattle.sal_reader.specs.declared.stop.Stop.TheVariants.{Memory, Refused}

-- the set of the grammar that has this name
abbrev pub set_of : SetName → Set
set_of s.OpenBrace = is.open_brace
set_of s.CloseBrace = is.close_brace
set_of s.OpenParen = is.open_paren
set_of s.CloseParen = is.close_paren
set_of s.OpenBracket = is.open_bracket
set_of s.CloseBracket = is.close_bracket
set_of s.Semicolon = is.semicolon
set_of s.Comma = is.comma
set_of s.Dot = is.dot
set_of s.Assign = is.assign
set_of s.ThenSign = is.then_sign
set_of s.Colon = is.colon
set_of s.Arrow = is.arrow
set_of s.Getter = is.getter
set_of s.At = is.at
set_of s.Delay = is.delay
set_of s.WaitFor = is.wait_for
set_of s.Length = is.length
set_of s.Behavior = is.behavior
set_of s.New = is.new
set_of s.Void = is.void
set_of s.Token = is.token
set_of s.Join = is.join
set_of s.IfWord = is.if_word
set_of s.ElseWord = is.else_word
set_of s.WhileWord = is.while_word
set_of s.ForWord = is.for_word
set_of s.ReturnWord = is.return_word
set_of s.This = is.this
set_of s.Current = is.current
set_of s.Output = is.output
set_of s.End = is.end
set_of s.Id = is.id
set_of s.SortWord = is.sort_word
set_of s.Or = is.or
set_of s.And = is.and
set_of s.Equal = is.equal
set_of s.Relation = is.relation
set_of s.Sum = is.sum
set_of s.Product = is.product
set_of s.Prefix = is.prefix
set_of s.Suffix = is.suffix
set_of s.AfterUnary = is.after_unary
set_of s.Plain = is.plain
set_of s.FirstExpr = is.first_expr
set_of s.AfterExpr = is.after_expr
set_of s.Sort = is.sort
set_of s.Nest = is.nest
set_of s.FirstStmt = is.first_stmt
set_of s.FirstMember = is.first_member

-- the parser's outcome, unless memory ran out; where it refuses, the refused token is the next one
abbrev pub Reads : {A : Type 0} → Outcome A → Result A Stop → List Token → Type 0
Reads outcome (Ok a) new = outcome ≡ Ok (a, new)
Reads outcome (Err Memory) new = Unit {0}
Reads outcome (Err (Refused why)) new = outcome ≡ Err (why, new)

-- the same of a parser that gives a token
abbrev pub Takes : Outcome Token → Result (Bor Token) Stop → List Token → Type 0
Takes outcome (Ok t) new = outcome ≡ Ok (t.now, new)
Takes outcome (Err Memory) new = Unit {0}
Takes outcome (Err (Refused why)) new = outcome ≡ Err (why, new)
