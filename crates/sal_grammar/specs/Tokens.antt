-- Tokens, and what each is for the grammar.
use Rattle.std.specs.Prelude.{ℕ, Bool, false, ◌&&◌, ◌||◌, ◌≡◌, true, not, cond, List, [], ◌∷◌, codes}
use Prim.Native.String.{String}
use Rattle.std.specs.List.{list_all}
use Rattle.std.specs.Str.{bytes_eq}
use Rattle.sal_ast.specs.declared.lexeme.Kind.{Kind}
use Rattle.sal_ast.specs.declared.lexeme.Kind.TheVariants as kind
use Rattle.sal_ast.specs.Lexemes.{is_lexeme}
use Rattle.sal_grammar.specs.declared.class.Class.{Class}
use Rattle.sal_grammar.specs.declared.class.Class.TheVariants as k

-- a token of a text, with its first byte; the text of a string is its value
pub record Token : Type 0 where
  pub kind : Kind
  pub text : List ℕ
  pub at : ℕ

-- the texts are those that tokens of the language may have
abbrev pub Lexemes : List Token → Type 0
Lexemes tokens = list_all (λ (t : Token). is_lexeme t.kind t.text) tokens ≡ true

-- a text that the grammar spells out
pub record Entry : Type 0 where
  pub text : List ℕ
  pub class : Class

abbrev pub entry : String → Class → Entry
entry text class = record { text = codes text; class = class }

abbrev pub words : List Entry
words =
    entry "behavior" k.Behavior
    ∷ entry "new" k.New
    ∷ entry "int" k.Int
    ∷ entry "boolean" k.Boolean
    ∷ entry "String" k.Text
    ∷ entry "void" k.Void
    ∷ entry "token" k.Token
    ∷ entry "join" k.Join
    ∷ entry "if" k.If
    ∷ entry "else" k.Else
    ∷ entry "while" k.While
    ∷ entry "for" k.For
    ∷ entry "return" k.Return
    ∷ entry "true" k.True
    ∷ entry "false" k.False
    ∷ entry "null" k.Null
    ∷ entry "self" k.Me
    ∷ entry "this" k.This
    ∷ entry "currentContinuation" k.Current
    ∷ entry "standardOutput" k.Output
    ∷ []

abbrev pub signs : List Entry
signs =
    entry "{" k.OpenBrace
    ∷ entry "}" k.CloseBrace
    ∷ entry "(" k.OpenParen
    ∷ entry ")" k.CloseParen
    ∷ entry "[" k.OpenBracket
    ∷ entry "]" k.CloseBracket
    ∷ entry ";" k.Semicolon
    ∷ entry "," k.Comma
    ∷ entry "." k.Dot
    ∷ entry "=" k.Assign
    ∷ entry "==" k.Same
    ∷ entry "!=" k.Other
    ∷ entry "<" k.Less
    ∷ entry "<=" k.LessEq
    ∷ entry ">" k.Greater
    ∷ entry ">=" k.GreaterEq
    ∷ entry "+" k.Plus
    ∷ entry "-" k.Minus
    ∷ entry "*" k.Star
    ∷ entry "/" k.Slash
    ∷ entry "%" k.Percent
    ∷ entry "!" k.Not
    ∷ entry "&&" k.And
    ∷ entry "||" k.Or
    ∷ entry "@" k.Then
    ∷ entry ":" k.Colon
    ∷ entry "<-" k.Arrow
    ∷ []

abbrev pub identifiers : List Entry
identifiers =
    entry "at" k.At
    ∷ entry "delay" k.Delay
    ∷ entry "waitfor" k.WaitFor
    ∷ entry "length" k.Length
    ∷ entry "getReferenceByName" k.Getter
    ∷ []

-- the class of a text, where it isn't in the list the second
abbrev pub class_in : List Entry → Class → List ℕ → Class
class_in [] other text = other
class_in (e ∷ es) other text = cond (bytes_eq text e.text) e.class (class_in es other text)

unfoldable pub word_class : List ℕ → Class
word_class text = class_in words k.Unused text

unfoldable pub sign_class : List ℕ → Class
sign_class text = class_in signs k.Unused text

unfoldable pub identifier_class : List ℕ → Class
identifier_class text = class_in identifiers k.Id text

abbrev pub class_by : Kind → List ℕ → Class
class_by kind.Word text = word_class text
class_by kind.Id text = identifier_class text
class_by kind.Number text = k.Number
class_by kind.Str text = k.Str
class_by kind.Sign text = sign_class text

unfoldable pub class_of : Token → Class
class_of t = class_by t.kind t.text

-- the class of the next token
abbrev pub next : List Token → Class
next [] = k.End
next (t ∷ ts) = class_of t

-- every class
abbrev pub classes : List Class
classes =
    k.Behavior ∷ k.New ∷ k.Int ∷ k.Boolean ∷ k.Text ∷ k.Void ∷ k.Token ∷ k.Join
    ∷ k.If ∷ k.Else ∷ k.While ∷ k.For ∷ k.Return ∷ k.True ∷ k.False ∷ k.Null
    ∷ k.Me ∷ k.This ∷ k.Current ∷ k.Output ∷ k.OpenBrace ∷ k.CloseBrace ∷ k.OpenParen ∷ k.CloseParen
    ∷ k.OpenBracket ∷ k.CloseBracket ∷ k.Semicolon ∷ k.Comma ∷ k.Dot ∷ k.Assign ∷ k.Same ∷ k.Other
    ∷ k.Less ∷ k.LessEq ∷ k.Greater ∷ k.GreaterEq ∷ k.Plus ∷ k.Minus ∷ k.Star ∷ k.Slash
    ∷ k.Percent ∷ k.Not ∷ k.And ∷ k.Or ∷ k.Then ∷ k.Colon ∷ k.Arrow ∷ k.At
    ∷ k.Delay ∷ k.WaitFor ∷ k.Length ∷ k.Getter ∷ k.Id ∷ k.Number ∷ k.Str ∷ k.Unused
    ∷ k.End
    ∷ []

-- ---- sets of classes

abbrev pub Set : Type 0
Set = Class → Bool

abbrev pub none : Set
none _ = false

abbrev pub both : Set → Set → Set
both f g k = f k || g k

abbrev pub outside : Set → Set
outside f k = not (f k)

-- no class is in both
abbrev pub apart : Set → Set → Bool
apart f g = list_all (λ k. not (f k && g k)) classes

-- each class of the first is in the second
abbrev pub within : Set → Set → Bool
within f g = list_all (λ k. not (f k) || g k) classes
