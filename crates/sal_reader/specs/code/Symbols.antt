-- What a symbol holds of its token.
use Rattle.std.specs.Prelude.{◌≡◌, ◌≤◌, true, length}
use Rattle.std.specs.Str.{is_utf8}
use Rattle.sal_ast.specs.declared.constants.TheConstants.{LONGEST_PROGRAM}
use Rattle.sal_ast.specs.Lexemes.{is_lexeme}
use Rattle.sal_grammar.specs.Tokens.{Token, class_of}
use Rattle.sal_text.specs.Tokens.{has_form}
use Rattle.sal_text.specs.Values.{lexeme_text}
use Rattle.sal_reader.specs.declared.symbol.Symbol.TheInside.{Inside}

-- the token that a symbol stands for
abbrev pub token_of : Inside → Token
token_of s = record { kind = s.kind; text = lexeme_text s.kind s.bytes.now; at = s.at }

-- its class is that of the token, and its bytes are a text that spells one of its kind
pub record IsSymbol (s : Inside) : Type 0 where
  pub class : s.class ≡ class_of (token_of s)
  pub utf8 : is_utf8 s.bytes.now ≡ true
  pub form : has_form s.kind s.bytes.now ≡ true
  pub lexeme : is_lexeme s.kind (lexeme_text s.kind s.bytes.now) ≡ true
