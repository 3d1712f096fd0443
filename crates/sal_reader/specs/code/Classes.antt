-- The classes of words and signs, a few at a time.
use Rattle.std.specs.Prelude.{ℕ, List, [], ◌∷◌}
use Rattle.sal_grammar.specs.declared.class.Class.{Class}
use Rattle.sal_grammar.specs.declared.class.Class.TheVariants as k
use Rattle.sal_grammar.specs.Tokens.{entry, class_in}

abbrev pub value_word : List ℕ → Class
value_word text =
    class_in
    (entry "true" k.True
    ∷ entry "false" k.False
    ∷ entry "null" k.Null
    ∷ entry "self" k.Me
    ∷ entry "this" k.This
    ∷ entry "currentContinuation" k.Current
    ∷ entry "standardOutput" k.Output
    ∷ [])
    k.Unused text

abbrev pub control_word : List ℕ → Class
control_word text =
    class_in
    (entry "token" k.Token
    ∷ entry "join" k.Join
    ∷ entry "if" k.If
    ∷ entry "else" k.Else
    ∷ entry "while" k.While
    ∷ entry "for" k.For
    ∷ entry "return" k.Return
    ∷ [])
    (value_word text) text

abbrev pub first_word : List ℕ → Class
first_word text =
    class_in
    (entry "behavior" k.Behavior
    ∷ entry "new" k.New
    ∷ entry "int" k.Int
    ∷ entry "boolean" k.Boolean
    ∷ entry "String" k.Text
    ∷ entry "void" k.Void
    ∷ [])
    (control_word text) text

abbrev pub other_sign : List ℕ → Class
other_sign text =
    class_in
    (entry "!" k.Not
    ∷ entry "&&" k.And
    ∷ entry "||" k.Or
    ∷ entry "@" k.Then
    ∷ entry ":" k.Colon
    ∷ entry "<-" k.Arrow
    ∷ [])
    k.Unused text

abbrev pub sum_sign : List ℕ → Class
sum_sign text =
    class_in
    (entry ">" k.Greater
    ∷ entry ">=" k.GreaterEq
    ∷ entry "+" k.Plus
    ∷ entry "-" k.Minus
    ∷ entry "*" k.Star
    ∷ entry "/" k.Slash
    ∷ entry "%" k.Percent
    ∷ [])
    (other_sign text) text

abbrev pub equal_sign : List ℕ → Class
equal_sign text =
    class_in
    (entry ";" k.Semicolon
    ∷ entry "," k.Comma
    ∷ entry "." k.Dot
    ∷ entry "=" k.Assign
    ∷ entry "==" k.Same
    ∷ entry "!=" k.Other
    ∷ entry "<" k.Less
    ∷ entry "<=" k.LessEq
    ∷ [])
    (sum_sign text) text

abbrev pub first_sign : List ℕ → Class
first_sign text =
    class_in
    (entry "{" k.OpenBrace
    ∷ entry "}" k.CloseBrace
    ∷ entry "(" k.OpenParen
    ∷ entry ")" k.CloseParen
    ∷ entry "[" k.OpenBracket
    ∷ entry "]" k.CloseBracket
    ∷ [])
    (equal_sign text) text
