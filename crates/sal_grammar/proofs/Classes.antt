-- Every class, one by one.
use Rattle.std.proofs.Common.{◌≡◌, Bool, true, false, ◌&&◌, ◌||◌, not, List, [], ◌∷◌, refl, sym, ◌∙◌}
use Rattle.std.specs.Prelude.{codes}
use Rattle.std.specs.List.{list_all}
use Rattle.sal_ast.specs.declared.lexeme.Kind.TheVariants as kind
use Rattle.sal_ast.specs.Lexemes.{is_word, is_identifier, is_number, is_sign}
use Rattle.sal_grammar.specs.declared.class.Class.{Class}
use Rattle.sal_grammar.specs.declared.class.Class.TheVariants as k
use Rattle.sal_grammar.specs.Tokens.{Lexemes, Token, Set, class_of, word_class, sign_class, identifier_class, classes, apart, within}
use Rattle.sal_grammar.proofs.Exactness.{Apart, Within, differ}

-- a token of each class that a token has
abbrev pub sample : Class → Token
sample k.Behavior = record { kind = kind.Word; text = codes "behavior"; at = 0 }
sample k.New = record { kind = kind.Word; text = codes "new"; at = 0 }
sample k.Int = record { kind = kind.Word; text = codes "int"; at = 0 }
sample k.Boolean = record { kind = kind.Word; text = codes "boolean"; at = 0 }
sample k.Text = record { kind = kind.Word; text = codes "String"; at = 0 }
sample k.Void = record { kind = kind.Word; text = codes "void"; at = 0 }
sample k.Token = record { kind = kind.Word; text = codes "token"; at = 0 }
sample k.Join = record { kind = kind.Word; text = codes "join"; at = 0 }
sample k.If = record { kind = kind.Word; text = codes "if"; at = 0 }
sample k.Else = record { kind = kind.Word; text = codes "else"; at = 0 }
sample k.While = record { kind = kind.Word; text = codes "while"; at = 0 }
sample k.For = record { kind = kind.Word; text = codes "for"; at = 0 }
sample k.Return = record { kind = kind.Word; text = codes "return"; at = 0 }
sample k.True = record { kind = kind.Word; text = codes "true"; at = 0 }
sample k.False = record { kind = kind.Word; text = codes "false"; at = 0 }
sample k.Null = record { kind = kind.Word; text = codes "null"; at = 0 }
sample k.Me = record { kind = kind.Word; text = codes "self"; at = 0 }
sample k.This = record { kind = kind.Word; text = codes "this"; at = 0 }
sample k.Current = record { kind = kind.Word; text = codes "currentContinuation"; at = 0 }
sample k.Output = record { kind = kind.Word; text = codes "standardOutput"; at = 0 }
sample k.OpenBrace = record { kind = kind.Sign; text = codes "{"; at = 0 }
sample k.CloseBrace = record { kind = kind.Sign; text = codes "}"; at = 0 }
sample k.OpenParen = record { kind = kind.Sign; text = codes "("; at = 0 }
sample k.CloseParen = record { kind = kind.Sign; text = codes ")"; at = 0 }
sample k.OpenBracket = record { kind = kind.Sign; text = codes "["; at = 0 }
sample k.CloseBracket = record { kind = kind.Sign; text = codes "]"; at = 0 }
sample k.Semicolon = record { kind = kind.Sign; text = codes ";"; at = 0 }
sample k.Comma = record { kind = kind.Sign; text = codes ","; at = 0 }
sample k.Dot = record { kind = kind.Sign; text = codes "."; at = 0 }
sample k.Assign = record { kind = kind.Sign; text = codes "="; at = 0 }
sample k.Same = record { kind = kind.Sign; text = codes "=="; at = 0 }
sample k.Other = record { kind = kind.Sign; text = codes "!="; at = 0 }
sample k.Less = record { kind = kind.Sign; text = codes "<"; at = 0 }
sample k.LessEq = record { kind = kind.Sign; text = codes "<="; at = 0 }
sample k.Greater = record { kind = kind.Sign; text = codes ">"; at = 0 }
sample k.GreaterEq = record { kind = kind.Sign; text = codes ">="; at = 0 }
sample k.Plus = record { kind = kind.Sign; text = codes "+"; at = 0 }
sample k.Minus = record { kind = kind.Sign; text = codes "-"; at = 0 }
sample k.Star = record { kind = kind.Sign; text = codes "*"; at = 0 }
sample k.Slash = record { kind = kind.Sign; text = codes "/"; at = 0 }
sample k.Percent = record { kind = kind.Sign; text = codes "%"; at = 0 }
sample k.Not = record { kind = kind.Sign; text = codes "!"; at = 0 }
sample k.And = record { kind = kind.Sign; text = codes "&&"; at = 0 }
sample k.Or = record { kind = kind.Sign; text = codes "||"; at = 0 }
sample k.Then = record { kind = kind.Sign; text = codes "@"; at = 0 }
sample k.Colon = record { kind = kind.Sign; text = codes ":"; at = 0 }
sample k.Arrow = record { kind = kind.Sign; text = codes "<-"; at = 0 }
sample k.At = record { kind = kind.Id; text = codes "at"; at = 0 }
sample k.Delay = record { kind = kind.Id; text = codes "delay"; at = 0 }
sample k.WaitFor = record { kind = kind.Id; text = codes "waitfor"; at = 0 }
sample k.Length = record { kind = kind.Id; text = codes "length"; at = 0 }
sample k.Getter = record { kind = kind.Id; text = codes "getReferenceByName"; at = 0 }
sample k.Id = record { kind = kind.Id; text = codes "x"; at = 0 }
sample k.Number = record { kind = kind.Number; text = codes "0"; at = 0 }
sample k.Str = record { kind = kind.Str; text = []; at = 0 }
sample _ = record { kind = kind.Word; text = codes "long"; at = 0 }

pub sample_class : (c : Class) (f : Set) → f k.End ≡ false → f c ≡ true → f (class_of (sample c)) ≡ true
unfolding class_of word_class sign_class identifier_class
sample_class k.End f h e = absurd (differ (sym e ∙ h))
sample_class _ f h e = e

pub sample_legal : (c : Class) → Lexemes (sample c ∷ [])
unfolding is_word is_identifier is_number is_sign
sample_legal k.End = refl
sample_legal _ = refl

and_left : (a b : Bool) → a && b ≡ true → a ≡ true
and_left true b e = refl
and_left false b e = e

and_right : (a b : Bool) → a && b ≡ true → b ≡ true
and_right true b e = e
and_right false b e = absurd (let f : false ≡ true = e in cc)

abbrev Each : Set → List Class → Type 0
Each f [] = Unit {0}
Each f (c ∷ cs) = (f c ≡ true) × Each f cs

each : (f : Set) (cs : List Class) → list_all f cs ≡ true → Each f cs
each f [] h = tt
each f (c ∷ cs) h = (and_left (f c) (list_all f cs) h, each f cs (and_right (f c) (list_all f cs) h))

-- what holds of each class holds of all
pub of_each : (f : Set) → Each f classes → (c : Class) → f c ≡ true
of_each f h k.Behavior = h.0
of_each f h k.New = h.1.0
of_each f h k.Int = h.1.1.0
of_each f h k.Boolean = h.1.1.1.0
of_each f h k.Text = h.1.1.1.1.0
of_each f h k.Void = h.1.1.1.1.1.0
of_each f h k.Token = h.1.1.1.1.1.1.0
of_each f h k.Join = h.1.1.1.1.1.1.1.0
of_each f h k.If = h.1.1.1.1.1.1.1.1.0
of_each f h k.Else = h.1.1.1.1.1.1.1.1.1.0
of_each f h k.While = h.1.1.1.1.1.1.1.1.1.1.0
of_each f h k.For = h.1.1.1.1.1.1.1.1.1.1.1.0
of_each f h k.Return = h.1.1.1.1.1.1.1.1.1.1.1.1.0
of_each f h k.True = h.1.1.1.1.1.1.1.1.1.1.1.1.1.0
of_each f h k.False = h.1.1.1.1.1.1.1.1.1.1.1.1.1.1.0
of_each f h k.Null = h.1.1.1.1.1.1.1.1.1.1.1.1.1.1.1.0
of_each f h k.Me = h.1.1.1.1.1.1.1.1.1.1.1.1.1.1.1.1.0
of_each f h k.This = h.1.1.1.1.1.1.1.1.1.1.1.1.1.1.1.1.1.0
of_each f h k.Current = h.1.1.1.1.1.1.1.1.1.1.1.1.1.1.1.1.1.1.0
of_each f h k.Output = h.1.1.1.1.1.1.1.1.1.1.1.1.1.1.1.1.1.1.1.0
of_each f h k.OpenBrace = h.1.1.1.1.1.1.1.1.1.1.1.1.1.1.1.1.1.1.1.1.0
of_each f h k.CloseBrace = h.1.1.1.1.1.1.1.1.1.1.1.1.1.1.1.1.1.1.1.1.1.0
of_each f h k.OpenParen = h.1.1.1.1.1.1.1.1.1.1.1.1.1.1.1.1.1.1.1.1.1.1.0
of_each f h k.CloseParen = h.1.1.1.1.1.1.1.1.1.1.1.1.1.1.1.1.1.1.1.1.1.1.1.0
of_each f h k.OpenBracket = h.1.1.1.1.1.1.1.1.1.1.1.1.1.1.1.1.1.1.1.1.1.1.1.1.0
of_each f h k.CloseBracket = h.1.1.1.1.1.1.1.1.1.1.1.1.1.1.1.1.1.1.1.1.1.1.1.1.1.0
of_each f h k.Semicolon = h.1.1.1.1.1.1.1.1.1.1.1.1.1.1.1.1.1.1.1.1.1.1.1.1.1.1.0
of_each f h k.Comma = h.1.1.1.1.1.1.1.1.1.1.1.1.1.1.1.1.1.1.1.1.1.1.1.1.1.1.1.0
of_each f h k.Dot = h.1.1.1.1.1.1.1.1.1.1.1.1.1.1.1.1.1.1.1.1.1.1.1.1.1.1.1.1.0
of_each f h k.Assign = h.1.1.1.1.1.1.1.1.1.1.1.1.1.1.1.1.1.1.1.1.1.1.1.1.1.1.1.1.1.0
of_each f h k.Same = h.1.1.1.1.1.1.1.1.1.1.1.1.1.1.1.1.1.1.1.1.1.1.1.1.1.1.1.1.1.1.0
of_each f h k.Other = h.1.1.1.1.1.1.1.1.1.1.1.1.1.1.1.1.1.1.1.1.1.1.1.1.1.1.1.1.1.1.1.0
of_each f h k.Less = h.1.1.1.1.1.1.1.1.1.1.1.1.1.1.1.1.1.1.1.1.1.1.1.1.1.1.1.1.1.1.1.1.0
of_each f h k.LessEq = h.1.1.1.1.1.1.1.1.1.1.1.1.1.1.1.1.1.1.1.1.1.1.1.1.1.1.1.1.1.1.1.1.1.0
of_each f h k.Greater = h.1.1.1.1.1.1.1.1.1.1.1.1.1.1.1.1.1.1.1.1.1.1.1.1.1.1.1.1.1.1.1.1.1.1.0
of_each f h k.GreaterEq = h.1.1.1.1.1.1.1.1.1.1.1.1.1.1.1.1.1.1.1.1.1.1.1.1.1.1.1.1.1.1.1.1.1.1.1.0
of_each f h k.Plus = h.1.1.1.1.1.1.1.1.1.1.1.1.1.1.1.1.1.1.1.1.1.1.1.1.1.1.1.1.1.1.1.1.1.1.1.1.0
of_each f h k.Minus = h.1.1.1.1.1.1.1.1.1.1.1.1.1.1.1.1.1.1.1.1.1.1.1.1.1.1.1.1.1.1.1.1.1.1.1.1.1.0
of_each f h k.Star = h.1.1.1.1.1.1.1.1.1.1.1.1.1.1.1.1.1.1.1.1.1.1.1.1.1.1.1.1.1.1.1.1.1.1.1.1.1.1.0
of_each f h k.Slash = h.1.1.1.1.1.1.1.1.1.1.1.1.1.1.1.1.1.1.1.1.1.1.1.1.1.1.1.1.1.1.1.1.1.1.1.1.1.1.1.0
of_each f h k.Percent = h.1.1.1.1.1.1.1.1.1.1.1.1.1.1.1.1.1.1.1.1.1.1.1.1.1.1.1.1.1.1.1.1.1.1.1.1.1.1.1.1.0
of_each f h k.Not = h.1.1.1.1.1.1.1.1.1.1.1.1.1.1.1.1.1.1.1.1.1.1.1.1.1.1.1.1.1.1.1.1.1.1.1.1.1.1.1.1.1.0
of_each f h k.And = h.1.1.1.1.1.1.1.1.1.1.1.1.1.1.1.1.1.1.1.1.1.1.1.1.1.1.1.1.1.1.1.1.1.1.1.1.1.1.1.1.1.1.0
of_each f h k.Or = h.1.1.1.1.1.1.1.1.1.1.1.1.1.1.1.1.1.1.1.1.1.1.1.1.1.1.1.1.1.1.1.1.1.1.1.1.1.1.1.1.1.1.1.0
of_each f h k.Then = h.1.1.1.1.1.1.1.1.1.1.1.1.1.1.1.1.1.1.1.1.1.1.1.1.1.1.1.1.1.1.1.1.1.1.1.1.1.1.1.1.1.1.1.1.0
of_each f h k.Colon = h.1.1.1.1.1.1.1.1.1.1.1.1.1.1.1.1.1.1.1.1.1.1.1.1.1.1.1.1.1.1.1.1.1.1.1.1.1.1.1.1.1.1.1.1.1.0
of_each f h k.Arrow = h.1.1.1.1.1.1.1.1.1.1.1.1.1.1.1.1.1.1.1.1.1.1.1.1.1.1.1.1.1.1.1.1.1.1.1.1.1.1.1.1.1.1.1.1.1.1.0
of_each f h k.At = h.1.1.1.1.1.1.1.1.1.1.1.1.1.1.1.1.1.1.1.1.1.1.1.1.1.1.1.1.1.1.1.1.1.1.1.1.1.1.1.1.1.1.1.1.1.1.1.0
of_each f h k.Delay = h.1.1.1.1.1.1.1.1.1.1.1.1.1.1.1.1.1.1.1.1.1.1.1.1.1.1.1.1.1.1.1.1.1.1.1.1.1.1.1.1.1.1.1.1.1.1.1.1.0
of_each f h k.WaitFor = h.1.1.1.1.1.1.1.1.1.1.1.1.1.1.1.1.1.1.1.1.1.1.1.1.1.1.1.1.1.1.1.1.1.1.1.1.1.1.1.1.1.1.1.1.1.1.1.1.1.0
of_each f h k.Length = h.1.1.1.1.1.1.1.1.1.1.1.1.1.1.1.1.1.1.1.1.1.1.1.1.1.1.1.1.1.1.1.1.1.1.1.1.1.1.1.1.1.1.1.1.1.1.1.1.1.1.0
of_each f h k.Getter = h.1.1.1.1.1.1.1.1.1.1.1.1.1.1.1.1.1.1.1.1.1.1.1.1.1.1.1.1.1.1.1.1.1.1.1.1.1.1.1.1.1.1.1.1.1.1.1.1.1.1.1.0
of_each f h k.Id = h.1.1.1.1.1.1.1.1.1.1.1.1.1.1.1.1.1.1.1.1.1.1.1.1.1.1.1.1.1.1.1.1.1.1.1.1.1.1.1.1.1.1.1.1.1.1.1.1.1.1.1.1.0
of_each f h k.Number = h.1.1.1.1.1.1.1.1.1.1.1.1.1.1.1.1.1.1.1.1.1.1.1.1.1.1.1.1.1.1.1.1.1.1.1.1.1.1.1.1.1.1.1.1.1.1.1.1.1.1.1.1.1.0
of_each f h k.Str = h.1.1.1.1.1.1.1.1.1.1.1.1.1.1.1.1.1.1.1.1.1.1.1.1.1.1.1.1.1.1.1.1.1.1.1.1.1.1.1.1.1.1.1.1.1.1.1.1.1.1.1.1.1.1.0
of_each f h k.Unused = h.1.1.1.1.1.1.1.1.1.1.1.1.1.1.1.1.1.1.1.1.1.1.1.1.1.1.1.1.1.1.1.1.1.1.1.1.1.1.1.1.1.1.1.1.1.1.1.1.1.1.1.1.1.1.1.0
of_each f h k.End = h.1.1.1.1.1.1.1.1.1.1.1.1.1.1.1.1.1.1.1.1.1.1.1.1.1.1.1.1.1.1.1.1.1.1.1.1.1.1.1.1.1.1.1.1.1.1.1.1.1.1.1.1.1.1.1.1.0

pub of_all : (f : Set) → list_all f classes ≡ true → (c : Class) → f c ≡ true
of_all f h c = of_each f (each f classes h) c

not_both : (a b : Bool) → not (a && b) ≡ true → a ≡ true → b ≡ false
not_both true false h e = refl
not_both true true h e = absurd (let f : false ≡ true = h in cc)
not_both false b h e = absurd (let f : false ≡ true = e in cc)

then_second : (a b : Bool) → not a || b ≡ true → a ≡ true → b ≡ true
then_second true b h e = h
then_second false b h e = absurd (let f : false ≡ true = e in cc)

-- what a test of all classes shows
pub dis : {f g : Set} → apart f g ≡ true → Apart f g
dis {f = f} {g = g} h = record { at = λ c. not_both (f c) (g c) (of_all (λ c. not (f c && g c)) h c) }

pub sub : {f g : Set} → within f g ≡ true → Within f g
sub {f = f} {g = g} h = record { at = λ c. then_second (f c) (g c) (of_all (λ c. not (f c) || g c) h c) }
